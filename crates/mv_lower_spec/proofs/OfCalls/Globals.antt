-- A call that returns leaves the globals with their sizes.
use Rattle.std.proofs.Common.{◌≡◌, ℕ, Bool, true, false, cond, length, Option, Some, None, refl, sym, subst, if◌then◌else◌, nat_eq}
use Rattle.std.specs.Prelude.{slice_get}
use Rattle.std.proofs.lemmas.Bool.{eqb-true}
use Rattle.mv_ast.specs.declared.program.Program.{Program}
use Rattle.mv_ast.specs.declared.program.Function.{Function}
use Rattle.mv_bindings.specs.declared.stop.Stop.{Stop}
use Rattle.mv_bindings.specs.declared.stop.Stop.TheVariants as stops
use Rattle.mv_ast.specs.Worlds.{World, Outcome, Came, Stopped}
use Rattle.mv_meaning.specs.declared.state.Frame.{Frame}
use Rattle.mv_meaning.specs.declared.state.Flow.{Flow}
use Rattle.mv_meaning.specs.Meaning.{flow_of_all, frame_of, deeper, back_in, call_of, popped}
use Rattle.mv_ir.specs.World as code_world
use Rattle.mv_ir.specs.KnownFunctions.{seen_from, seen}
use Rattle.mv_ir.specs.Outcome.{Returned, Stuck, Call}
use Rattle.mv_ir.specs.Meaning.{cleared}
use Rattle.mv_source_forms.specs.Names.{is_void}
use Rattle.mv_lower_spec.specs.Correct.{end_of, is_astray}
use Rattle.mv_lower_spec.specs.Law.{strict_context}
use Rattle.mv_lower_spec.specs.Programs.Laws.{HasGlobals}
use Rattle.mv_lower_spec.proofs.OfPrograms.Knot.{BodyDoes, function_is_right}
use Rattle.mv_lower_spec.specs.Calls.SourceCalls.{meaningless, as_call, any_frame, call_by_source}
use Rattle.mv_lower_spec.specs.Calls.Laws.{GlobalsKeepTheirSizes}

-- a call that stops doesn't return
stops_not_returns : (why : Stop) (w : World) (z : Bool) (v : Option ℕ) (left : code_world.World) → cond z Stuck (end_of why (seen w)) ≡ Returned v left → ⊥
stops_not_returns why w true v left e = cc
stops_not_returns (stops.Trapped n) w false v left e = cc
stops_not_returns stops.Unfinished w false v left e = cc

module _ (p : Program) (void : Bool) (live : ℕ) (w : World) (x : Call) (v : Option ℕ) (left : code_world.World) (depth live_after : ℕ) where
  sizes_left : (o : Outcome Frame Flow) → BodyDoes p void live w x o → (as_call void (back_in any_frame w o)).end ≡ Returned v left → HasGlobals p (seen_from depth live_after left)
  sizes_left (Came flow f there work) h e =
      let same : seen (popped w there) ≡ left = cc in
      subst (λ (y : code_world.World). HasGlobals p (seen_from depth live_after y)) same h.globals
  sizes_left (Stopped why there work) h e = absurd (stops_not_returns why there (is_astray why) v left e)

pub globals_kept : GlobalsKeepTheirSizes
globals_kept p numbers bound f formed args depth live w globals v left = by (slice_get p.functions f) refl
  where
    source : World
    source = seen_from depth live w

    called : Function → Call
    called g = as_call (is_void g.result) (call_of p (strict_context p numbers bound) f (Some g) args any_frame source)

    by_count : (g : Function) → slice_get p.functions f ≡ Some g → (z : Bool) → nat_eq g.params (length args) ≡ z → (if z then called g else meaningless).end ≡ Returned v left → HasGlobals p (seen_from depth live left)
    by_count g here true fits e =
        sizes_left p (is_void g.result) _ source _ v left depth live (flow_of_all p (strict_context p numbers bound) g.body (frame_of f g args) (deeper g source))
        (function_is_right p numbers formed.functions bound f g here cleared args (sym (eqb-true g.params (length args) fits)) source globals) e
    by_count g here false fits e = absurd (cc)

    by : (o : Option Function) → slice_get p.functions f ≡ o → (call_by_source p numbers bound f o args source).end ≡ Returned v left → HasGlobals p (seen_from depth live left)
    by None here e = absurd (cc)
    by (Some g) here e = by_count g here (nat_eq g.params (length args)) refl e
