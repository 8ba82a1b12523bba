-- Calls of attributed functions leave the bindings as they are.
use Rattle.std.proofs.Common.{◌≡◌, ℕ, zero, suc, ◌+◌, ◌<◌, Bool, true, false, cond, List, length, Option, Some, None, refl, sym, subst, arith, if◌then◌else◌, nat_eq}
use Rattle.std.specs.Prelude.{slice_get}
use Rattle.mv_ast.specs.declared.program.Program.{Program}
use Rattle.mv_ast.specs.declared.program.Function.{Function}
use Rattle.mv_bindings.specs.declared.stop.Stop.{Stop}
use Rattle.mv_bindings.specs.declared.stop.Stop.TheVariants as stops
use Rattle.mv_ast.specs.Worlds.{World, Outcome, Came, Stopped}
use Rattle.mv_meaning.specs.declared.state.Frame.{Frame}
use Rattle.mv_meaning.specs.declared.state.Flow.{Flow}
use Rattle.mv_meaning.specs.Meaning.{flow_of_all, frame_of, deeper, back_in, call_of}
use Rattle.mv_meaning.specs.Growth.{world_left}
use Rattle.mv_ir.specs.World as code_world
use Rattle.mv_ir.specs.KnownFunctions.{seen_from, seen}
use Rattle.mv_ir.specs.Outcome.{Stuck, Call}
use Rattle.mv_source_forms.specs.Names.{is_void}
use Rattle.mv_lower_spec.specs.Correct.{astray, end_of, is_astray}
use Rattle.mv_lower_spec.specs.Law.{strict_context}
use Rattle.mv_lower_spec.specs.Calls.SourceCalls.{meaningless, as_call, any_frame, call_by_source}
use Rattle.mv_lower_spec.specs.Calls.Bindings.{EndsIn}
use Rattle.mv_lower_spec.specs.Calls.Laws.{CallsKeepBindings}
use Rattle.mv_lower_spec.proofs.OfCalls.Keeping.{IsKept, Keeps, keeps_give, keeps_stop}
use Rattle.mv_lower_spec.proofs.OfCalls.KeepingExpressions.{ContextKeeps}
use Rattle.mv_lower_spec.proofs.OfCalls.KeepingStatements.{keeps_flow, keeps_body}

-- back in the caller there are as many live frames as before
back_kept : (frame : Frame) (w : World) (o : Outcome Frame Flow) → (world_left o).bindings ≡ w.bindings → IsKept w (world_left (back_in frame w o))
back_kept frame w (Came flow f left work) h = record { live = refl; bindings = h }
back_kept frame w (Stopped why left work) h = record { live = refl; bindings = h }

module _ (p : Program) (numbers : List ℕ) where
  -- a call whose own frame is live or is called under a live one
  called_kept : (k : ℕ) → ContextKeeps (strict_context p numbers k) → (f : ℕ) (g : Function) (vs : List ℕ) (frame : Frame) (w : World) → 0 < (deeper g w).live →
      IsKept w (world_left (call_of p (strict_context p numbers k) f (Some g) vs frame w))
  called_kept k below f g vs frame w lives =
      let body : IsKept (deeper g w) (world_left (flow_of_all p (strict_context p numbers k) g.body (frame_of f g vs) (deeper g w))) =
      (keeps_body p (strict_context p numbers k) below g.body).kept (frame_of f g vs) (deeper g w) lives in
      back_kept frame w (flow_of_all p (strict_context p numbers k) g.body (frame_of f g vs) (deeper g w)) body.bindings

  called_keeps : (k : ℕ) → ContextKeeps (strict_context p numbers k) → (f : ℕ) (o : Option Function) (vs : List ℕ) → Keeps (call_of p (strict_context p numbers k) f o vs)
  called_keeps k below f None vs = keeps_give 0
  called_keeps k below f (Some g) vs = record { kept = λ frame w lives. called_kept k below f g vs frame w (omega arith) }

  pub context_keeps : (k : ℕ) → ContextKeeps (strict_context p numbers k)
  context_keeps zero = record { strays = keeps_stop astray; calls = λ f vs. keeps_stop stops.Unfinished; loops = λ s. keeps_stop stops.Unfinished }
  context_keeps (suc k) = record {
    strays = keeps_stop astray;
    calls = λ f vs. called_keeps k (context_keeps k) f (slice_get p.functions f) vs;
    loops = λ s. keeps_flow p (strict_context p numbers k) (context_keeps k) s;
  }

  -- the frame of an attributed function is live itself
  own_live : (g : Function) (w : World) (b : Bool) → g.attributed ≡ b → b ≡ true → 0 < (deeper g w).live
  own_live g w true e is = subst (λ a. 0 < w.live + (if a then 1 else 0)) (sym e) (omega arith)
  own_live g w false e is = absurd (cc)

  attributed_kept : (k f : ℕ) (g : Function) → g.attributed ≡ true → (vs : List ℕ) (frame : Frame) (w : World) →
      IsKept w (world_left (call_of p (strict_context p numbers k) f (Some g) vs frame w))
  attributed_kept k f g is vs frame w = called_kept k (context_keeps k) f g vs frame w (own_live g w true is refl)

-- ---- as code sees it

module _ (fact : code_world.World → Type 0) where
  stopped_in : (why : Stop) (w : World) (z : Bool) → fact (seen w) → EndsIn fact (cond z Stuck (end_of why (seen w)))
  stopped_in why w true h = tt
  stopped_in (stops.Trapped code) w false h = h
  stopped_in stops.Unfinished w false h = h

  ends_in : (void : Bool) (o : Outcome Frame ℕ) → fact (seen (world_left o)) → EndsIn fact (as_call void o).end
  ends_in void (Came v f w work) h = h
  ends_in void (Stopped why w work) h = stopped_in why w (is_astray why) h

pub bindings_kept : CallsKeepBindings
bindings_kept p numbers bound f g here is args depth live w =
    subst (λ o. EndsIn fact (call_by_source p numbers bound f o args source).end) (sym here) (fitting (nat_eq g.params (length args)))
  where
    source : World
    source = seen_from depth live w

    fact : code_world.World → Type 0
    fact left = left.bindings ≡ w.bindings

    called : Call
    called = as_call (is_void g.result) (call_of p (strict_context p numbers bound) f (Some g) args any_frame source)

    fitting : (z : Bool) → EndsIn fact (if z then called else meaningless).end
    fitting true =
        ends_in fact (is_void g.result) (call_of p (strict_context p numbers bound) f (Some g) args any_frame source)
        (attributed_kept p numbers bound f g is args any_frame source).bindings
    fitting false = tt
