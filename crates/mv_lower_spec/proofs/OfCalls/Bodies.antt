-- A lowered body does what the function does by the source's meaning.
use Rattle.std.proofs.Common.{◌≡◌, inl, inr, ℕ, Bool, true, false, refl, sym, ◌∙◌, subst, ap, arith}
use Rattle.mv_ast.specs.declared.program.Program.{Program}
use Rattle.mv_ast.specs.Worlds.{World, Outcome, Came, Stopped}
use Rattle.mv_meaning.specs.declared.state.Frame.{Frame}
use Rattle.mv_meaning.specs.declared.state.Flow.{Flow}
use Rattle.mv_meaning.specs.Meaning.{flow_of_all, frame_of, deeper, back_in}
use Rattle.mv_ir.specs.KnownFunctions.{seen_from}
use Rattle.mv_ir.specs.Outcome.{Call}
use Rattle.mv_ir.specs.Meaning.{body_from}
use Rattle.mv_ir.specs.Programs.{setting_of}
use Rattle.mv_source_forms.specs.Names.{is_void}
use Rattle.mv_lower_spec.specs.Correct.{is_astray, CallHalted}
use Rattle.mv_lower_spec.specs.Law.{strict_context}
use Rattle.mv_lower_spec.specs.Statements.{levels}
use Rattle.mv_lower_spec.specs.Functions.{lower_function}
use Rattle.mv_lower_spec.specs.Programs.Laws.{callee_frame}
use Rattle.mv_lower_spec.proofs.OfPrograms.Knot.{BodyDoes, called_does}
use Rattle.mv_lower_spec.specs.Calls.SourceCalls.{as_call, any_frame, call_by_source, Promises}
use Rattle.mv_lower_spec.specs.Calls.Laws.{BodiesAreRight}
use Rattle.mv_lower_spec.proofs.OfCalls.Calls.{stopped_end, call_is, alike_agreed}

module _ (p : Program) (void : Bool) (live : ℕ) (w : World) (x : Call) where
  promised : (o : Outcome Frame Flow) → BodyDoes p void live w x o → Promises x (as_call void (back_in any_frame w o))
  promised (Came flow f left work) h =
      let cost : x.cost ≡ h.cost = ap (λ (y : Call). y.cost) h.ends in
      inr (ap (λ (y : Call). y.end) h.ends, omega (arith, cost, h.paid))
  promised (Stopped why left work) h = by (is_astray why) refl
    where
      by : (z : Bool) → is_astray why ≡ z → Promises x (as_call void (back_in any_frame w (Stopped why left work)))
      by true e = inl (stopped_end why left true e)
      by false e =
          let halted : CallHalted x why left work = h in
          let cost : x.cost ≡ halted.cost = ap (λ (y : Call). y.cost) (halted.ends e) in
          inr (ap (λ (y : Call). y.end) (halted.ends e) ∙ sym (stopped_end why left false e), omega (arith, cost, halted.paid))

pub bodies_right : BodiesAreRight
bodies_right p numbers calls alike bound f g formed here contents args depth live w count globals =
    let source : World = seen_from depth live w in
    let c = body_from (setting_of numbers p) (callee_frame p f g source) contents (lower_function p g) args (levels calls bound) w in
    subst (λ (y : Call). Promises c y) (sym (ap (λ o. call_by_source p numbers bound f o args source) here ∙ call_is p numbers bound f g args source count))
    (promised p (is_void g.result) (callee_frame p f g source).live source c (flow_of_all p (strict_context p numbers bound) g.body (frame_of f g args) (deeper g source))
    (called_does p numbers formed.functions calls bound (λ i up. alike_agreed p numbers formed.functions calls alike i) f g here contents args count source globals))
