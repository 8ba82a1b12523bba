use Rattle.std.proofs.Common.{◌≡◌, ℕ, inl, inr, Bool, false, ap, arith, sym, ◌∙◌}
use Rattle.mv_ast.specs.declared.program.Program.{Program}
use Rattle.mv_bindings.specs.declared.stop.Stop.{Stop}
use Rattle.mv_ast.specs.Worlds.{World, Outcome, Came, Stopped}
use Rattle.mv_meaning.specs.declared.state.Frame.{Frame}
use Rattle.mv_meaning.specs.declared.state.Flow.{Flow}
use Rattle.mv_meaning.specs.Meaning.{back_in, flow_of_all, frame_of, deeper, context_at, returned_value}
use Rattle.mv_ir.specs.Outcome.{Call, Returned}
use Rattle.mv_ir.specs.KnownFunctions.{seen}
use Rattle.mv_source_forms.specs.Names.{is_void}
use Rattle.mv_lower_spec.specs.Correct.{end_of}
use Rattle.mv_lower_spec.specs.Law.{strict_context}
use Rattle.mv_lower_spec.specs.Lowered.{unless_void}
use Rattle.mv_lower_spec.specs.Programs.Laws.{IsCall, goes_astray}
use Rattle.mv_source_forms.specs.WellFormed.{parameters}
use Rattle.mv_lower_spec.proofs.OfPrograms.Agreement.{agree_refl, AlikeOutcome}
use Rattle.mv_lower_spec.proofs.OfPrograms.AgreedStatements.{Leads}
use Rattle.mv_lower_spec.proofs.OfPrograms.Contexts.{function_flows}
use Rattle.mv_lower_spec.proofs.OfPrograms.Pairs.{Astray, strict_and_plain, steady_both}
use Rattle.mv_lower_spec.proofs.OfPrograms.Knot.{BodyDoes, Any, any_trap, function_is_right}
use Rattle.mv_lower_spec.proofs.programs.functions_are_right.Goals as goal
use Rattle.mv_num.proofs.Booleans.{from_falsity}

-- the strict call, and the plain one beside it
back : (p : Program) (void : Bool) (live : ℕ) (x : Call) (f : Frame) (w : World) (o q : Outcome Frame Flow) (scope inner : ℕ → Bool) (b c : Bool) → AlikeOutcome Astray Any Flow (Leads scope inner b c) o q →
    goes_astray (back_in f w o) ≡ false → BodyDoes p void live w x o → IsCall void x (back_in f w q)
back p void live x f w (Came flow a left work) (Came flow' a' left' work') scope inner b c k e h =
    let cost : x.cost ≡ h.cost = ap (λ (y : Call). y.cost) h.ends in
    let same : work ≡ work' = k.work in (
      ap (λ (y : Call). y.end) h.ends ∙ ap (λ (y : Flow). Returned (unless_void void (returned_value y)) (seen left)) k.value ∙ ap (λ (y : World). Returned (unless_void void (returned_value flow')) (seen y)) k.world,
      omega (arith, cost, same, h.paid),
    )
back p void live x f w (Came flow a left work) (Stopped why left' work') scope inner b c k e h = absurd k
back p void live x f w (Stopped why left work) (Came flow' a' left' work') scope inner b c k e h = absurd (from_falsity (sym e ∙ k))
back p void live x f w (Stopped why left work) (Stopped why' left' work') scope inner b c (inl k) e h = absurd (from_falsity (sym e ∙ k))
back p void live x f w (Stopped why left work) (Stopped why' left' work') scope inner b c (inr k) e h =
    let cost : x.cost ≡ h.cost = ap (λ (y : Call). y.cost) (h.ends e) in
    let same : work ≡ work' = k.work in (
      ap (λ (y : Call). y.end) (h.ends e) ∙ ap (λ (y : Stop). end_of y (seen left)) k.why ∙ ap (λ (y : World). end_of why' (seen y)) k.world,
      omega (arith, cost, same, h.paid),
    )

pub returns : goal.returns
returns c = λ p numbers bound f g formed here contents vs frame w count globals straight.
    back p (is_void g.result) _ _ frame w (flow_of_all p (strict_context p numbers bound) g.body (frame_of f g vs) (deeper g w)) (flow_of_all p (context_at p numbers bound) g.body (frame_of f g vs) (deeper g w))
    (parameters g) (parameters g) false false
    (function_flows p formed.functions Astray Any any_trap tt (strict_and_plain p formed.functions Any any_trap tt numbers bound) (steady_both p formed.functions Any any_trap tt numbers bound) f g (formed.functions f g here)
    (frame_of f g vs) (frame_of f g vs) (deeper g w) (agree_refl (parameters g) (frame_of f g vs)))
    straight (function_is_right p numbers formed.functions bound f g here contents vs count w globals)
