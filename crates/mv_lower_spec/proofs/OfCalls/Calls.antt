-- Calls that are the source's own do what they do in the source.
use Rattle.std.proofs.Common.{◌≡◌, ◌⊎◌, inl, inr, ℕ, zero, suc, ◌+◌, ◌*◌, Bool, true, false, cond, List, length, Option, Some, None, refl, sym, ◌∙◌, subst, ap, arith, if◌then◌else◌, nat_eq}
use Rattle.std.specs.Prelude.{slice_get}
use Rattle.std.proofs.lemmas.Bool.{eq-eqb}
use Rattle.mv_ast.specs.declared.program.Program.{Program}
use Rattle.mv_ast.specs.declared.program.Function.{Function}
use Rattle.mv_bindings.specs.declared.stop.Stop.{Stop}
use Rattle.mv_bindings.specs.declared.stop.Stop.TheVariants as stops
use Rattle.mv_bindings.specs.Bindings.{same_truth}
use Rattle.mv_ast.specs.Worlds.{World, Outcome, Came, Stopped}
use Rattle.mv_meaning.specs.declared.state.Frame.{Frame}
use Rattle.mv_meaning.specs.declared.state.Flow.{Flow}
use Rattle.mv_meaning.specs.Meaning.{flow_of_all, frame_of, deeper, back_in, call_of}
use Rattle.mv_ir.specs.World as code_world
use Rattle.mv_ir.specs.Outcome.{End, Returned, Stuck, Call, Calls}
use Rattle.mv_ir.specs.KnownFunctions.{seen}
use Rattle.mv_source_forms.specs.Names.{is_void, takes}
use Rattle.mv_lower_spec.specs.Correct.{CallShown, end_of, is_astray}
use Rattle.mv_lower_spec.specs.Law.{strict_context}
use Rattle.mv_source_forms.specs.WellFormed.{IsWellFormedFunction}
use Rattle.mv_lower_spec.proofs.OfPrograms.Knot.{Agreed, lowered_calls, all_agreed}
use Rattle.mv_lower_spec.specs.Lowered.{unless_void}
use Rattle.mv_lower_spec.specs.Calls.Laws.{AreAsSource}
use Rattle.mv_lower_spec.specs.Calls.SourceCalls.{meaningless, as_call, any_frame, call_by_source, source_call}
use Rattle.mv_num.proofs.Booleans.{and_cases, from_falsity}
use Rattle.mv_bindings.proofs.Common.{truth_told}

-- how a call ends that stops
pub stopped_end : (why : Stop) (w : World) (z : Bool) → is_astray why ≡ z → cond (is_astray why) Stuck (end_of why (seen w)) ≡ cond z Stuck (end_of why (seen w))
stopped_end why w z e = ap (λ a. cond a Stuck (end_of why (seen w))) e

not_stuck : {A : Type 0} (why : Stop) (w : World) → end_of why (seen w) ≡ Stuck → A
not_stuck (stops.Trapped code) w e = absurd cc
not_stuck stops.Unfinished w e = absurd cc

-- the frame of the caller doesn't matter
any_caller : (void : Bool) (f : Frame) (w : World) (o : Outcome Frame Flow) → as_call void (back_in any_frame w o) ≡ as_call void (back_in f w o)
any_caller void f w (Came flow a left work) = refl
any_caller void f w (Stopped why left work) = refl

module _ (p : Program) (numbers : List ℕ) where
  -- what a function does that is there and is given as many arguments as it has parameters
  pub call_is : (k f : ℕ) (g : Function) (vs : List ℕ) (w : World) → length vs ≡ g.params →
      call_by_source p numbers k f (Some g) vs w ≡ as_call (is_void g.result) (call_of p (strict_context p numbers k) f (Some g) vs any_frame w)
  call_is k f g vs w count =
      ap (λ z. if z then as_call (is_void g.result) (call_of p (strict_context p numbers k) f (Some g) vs any_frame w) else meaningless) (eq-eqb g.params (length vs) (sym count))

  -- so it is with a function that a call fits
  fitting_call_is : (k f : ℕ) (void : Bool) (vs : List ℕ) (a : Frame) (w : World) (o : Option Function) → takes o (length vs) void ≡ true →
      call_by_source p numbers k f o vs w ≡ as_call void (call_of p (strict_context p numbers k) f o vs a w)
  fitting_call_is k f void vs a w None e = from_falsity e
  fitting_call_is k f void vs a w (Some g) e =
      let both = and_cases (nat_eq g.params (length vs)) (same_truth (is_void g.result) void) e in
      ap (λ z. if z then as_call (is_void g.result) (call_of p (strict_context p numbers k) f (Some g) vs any_frame w) else meaningless) both.0 ∙
      ap (λ v. as_call v (call_of p (strict_context p numbers k) f (Some g) vs any_frame w)) (truth_told (is_void g.result) void both.1) ∙
      any_caller void a w (flow_of_all p (strict_context p numbers k) g.body (frame_of f g vs) (deeper g w))

  -- Where a call in the code does what one in the source does, so does the source's own.
  source_shown : (frame : code_world.Frame) (own : ℕ) (void : Bool) (x : Call) (f : Frame) (w : World) (o : Outcome Frame ℕ) → CallShown p frame own void x f w o → CallShown p frame own void (as_call void o) f w o
  source_shown frame own void x f w (Came v f2 w2 work) h = record { ends = refl; nothing = h.nothing; unmoved = h.unmoved; paid = omega arith }
  source_shown frame own void x f w (Stopped why w2 work) h = record {
    cost = 20 + 100 * work;
    ends = λ ne. ap (λ (e : End). record { cost = 20 + 100 * work; end = e }) (stopped_end why w2 false ne);
    paid = omega arith;
  }

  -- At each bound the source's own calls do what they do in the source.
  pub source_agreed : (formed : (f : ℕ) (g : Function) → slice_get p.functions f ≡ Some g → IsWellFormedFunction p f g) → (k : ℕ) → Agreed p numbers formed (source_call p numbers) k
  source_agreed formed zero = all_agreed p numbers formed zero
  source_agreed formed (suc k) = λ frame own lively g void vs f w can hf hd hl globals.
      let o : Outcome Frame ℕ = call_of p (strict_context p numbers k) g (slice_get p.functions g) vs f w in
      subst (λ (x : Call). CallShown p frame own void x f w o)
      (sym (ap (λ d. source_call p numbers k g vs d frame.live (seen w)) (sym hd) ∙ ap (λ l. source_call p numbers k g vs w.depth l (seen w)) (sym hl) ∙ fitting_call_is k g void vs f w (slice_get p.functions g) can))
      (source_shown frame own void (lowered_calls p numbers formed k g vs frame.depth frame.live (seen w)) f w o (all_agreed p numbers formed (suc k) frame own lively g void vs f w can hf hd hl globals))

  -- nothing is said of a call without a meaning
  alike_shown : (frame : code_world.Frame) (own : ℕ) (void : Bool) (x source : Call) (f : Frame) (w : World) (o : Outcome Frame ℕ) → (source.end ≡ Stuck) ⊎ (x ≡ source) →
      CallShown p frame own void source f w o → CallShown p frame own void x f w o
  alike_shown frame own void x source f w o (inr e) h = subst (λ (c : Call). CallShown p frame own void c f w o) (sym e) h
  alike_shown frame own void x source f w (Came v f2 w2 work) (inl stuck) h = let e : Returned (unless_void void v) (seen w2) ≡ Stuck = sym h.ends ∙ stuck in absurd cc
  alike_shown frame own void x source f w (Stopped why w2 work) (inl stuck) h =
      record { cost = h.cost; ends = λ ne. not_stuck why w2 (sym (ap (λ (c : Call). c.end) (h.ends ne)) ∙ stuck); paid = h.paid }

  -- So do calls that are as the source's.
  pub alike_agreed : (formed : (f : ℕ) (g : Function) → slice_get p.functions f ≡ Some g → IsWellFormedFunction p f g) (calls : ℕ → Calls) → AreAsSource p numbers calls → (k : ℕ) → Agreed p numbers formed calls k
  alike_agreed formed calls alike zero = all_agreed p numbers formed zero
  alike_agreed formed calls alike (suc k) = λ frame own lively g void vs f w can hf hd hl globals.
      alike_shown frame own void (calls k g vs frame.depth frame.live (seen w)) (source_call p numbers k g vs frame.depth frame.live (seen w)) f w (call_of p (strict_context p numbers k) g (slice_get p.functions g) vs f w)
      (alike k g vs frame.depth frame.live (seen w) globals) (source_agreed formed (suc k) frame own lively g void vs f w can hf hd hl globals)
