-- What a call comes to.
use Rattle.std.proofs.Common.{◌≡◌, ℕ, zero, suc, ◌+◌, ◌-◌, ◌^◌, ◌≤◌, ◌<◌, Bool, true, false, if◌then◌else◌, nat_lt, List, arith, refl, sym, ap, subst, ◌∙◌, length, Some, None, Result, Ok, Err, slice_get}
use Rattle.mv_ast.specs.declared.program.CType.{CType}
use Rattle.mv_ast.specs.declared.program.Program.{Program}
use Rattle.mv_ast.specs.declared.program.Function.{Function}
use Rattle.mv_bindings.specs.declared.stop.Stop.{Stop}
use Rattle.mv_bindings.specs.declared.stop.Stop.TheVariants.{Trapped, Unfinished}
use Rattle.mv_ast.specs.Worlds.{Outcome, Came, Stopped, Computation, stop}
use Rattle.mv_ast.specs.Numbering.{own_numbers, function_of_number}
use Rattle.mv_meaning.specs.declared.state.Frame.{Frame}
use Rattle.mv_interpret.specs.declared.state.Here.{Here}
use Rattle.mv_interpret.specs.declared.state.State.{State}
use Rattle.mv_interpret.specs.declared.state.Halt.{Halt}
use Rattle.mv_interpret.specs.declared.state.Halt.TheVariants as halt
use Rattle.mv_meaning.specs.declared.state.Flow.{Flow}
use Rattle.mv_meaning.specs.Meaning.{call_at, call_numbered, call_through, call_of, back_in, popped, frame_of, flow_of_all, returned_value}
use Rattle.mv_meaning.specs.Growth.{capped}
use Rattle.mv_interpret.specs.Runs.{totalled, world_of, Shows, IsOutcome}
use Rattle.mv_meaning.specs.Loops.{own_context}
use Rattle.mv_meaning.proofs.Contexts.{numbers_at, lets_at, stray_at}
use Rattle.mv_interpret.proofs.Steps.{gave, halted, not_zero}

-- the frame of a callee stands above that of its caller
abbrev pub inner : Here → Function → Here
inner here g = record {
  bound = here.bound - 1;
  depth = here.depth + 1;
  live = here.live + (if g.attributed then 1 else 0);
  plan_work = here.plan_work;
}

returned : (here : Here) (g : Function) (f f' : Frame) (s s' : State) (before : ℕ) (o : Outcome Frame Flow) (flow : Flow) →
    totalled before o ≡ Came flow f' (world_of (inner here g) s') s'.work →
    totalled before (back_in f (world_of here s) o) ≡ Came (returned_value flow) f (world_of here s') s'.work
returned here g f f' s s' before (Came flow' f'' w n) flow e =
    let el : flow' ≡ flow = cc in
    let ew : w ≡ world_of (inner here g) s' = cc in
    let en : capped (before + n) ≡ s'.work = cc in
    ap (λ x. Came (returned_value x) f (popped (world_of here s) w) (capped (before + n))) el ∙
    (ap (λ x. Came (returned_value flow) f (popped (world_of here s) x) (capped (before + n))) ew ∙
    ap (Came (returned_value flow) f (world_of here s')) en)
returned here g f f' s s' before (Stopped why w n) flow e = cc

stopped_inside : (here : Here) (g : Function) (f : Frame) (s s' : State) (before : ℕ) (o : Outcome Frame Flow) (why : Stop) →
    totalled before o ≡ Stopped why (world_of (inner here g) s') s'.work →
    totalled before (back_in f (world_of here s) o) ≡ Stopped why (world_of here s') s'.work
stopped_inside here g f s s' before (Came flow f'' w n) why e = cc
stopped_inside here g f s s' before (Stopped why' w n) why e =
    let ey : why' ≡ why = cc in
    let ew : w ≡ world_of (inner here g) s' = cc in
    let en : capped (before + n) ≡ s'.work = cc in
    ap (λ x. Stopped x (popped (world_of here s) w) (capped (before + n))) ey ∙
    (ap (λ x. Stopped why (popped (world_of here s) x) (capped (before + n))) ew ∙
    ap (Stopped why (world_of here s')) en)

module _ (p : Program) (here : Here) (f : ℕ) (vs : List ℕ) (caller : Frame) (s : State) where
  abbrev called : Outcome Frame ℕ
  called = call_at (own_context p here.bound) f vs caller (world_of here s)

  within_depth : here.depth < 512 → called ≡ (own_context p here.bound).call f vs caller (world_of here s)
  within_depth lt =
      let e : nat_lt here.depth 512 ≡ true = grind arith in
      ap (λ b. (if b then (own_context p here.bound).call f vs else stop (Trapped 4)) caller (world_of here s)) e

  -- too deep
  pub too_deep : s.work ≤ 2 ^ 64 - 1 → 512 ≤ here.depth → IsOutcome s.work called here (Err (halt.Stopped (Trapped 4))) caller s
  too_deep le ge =
      let e : nat_lt here.depth 512 ≡ false = grind arith in
      let P : Bool → Type 0 = λ b.
      IsOutcome s.work ((if b then (own_context p here.bound).call f vs else stop (Trapped 4)) caller (world_of here s)) here (Err (halt.Stopped (Trapped 4))) caller s in
      subst P (sym e) (halted le)

  -- the bound is used up
  pub out_of_bound : s.work ≤ 2 ^ 64 - 1 → here.depth < 512 → here.bound ≡ 0 →
      IsOutcome s.work called here (Err (halt.Stopped Unfinished)) caller s
  out_of_bound le lt en =
      let P : Outcome Frame ℕ → Type 0 = λ o. IsOutcome s.work o here (Err (halt.Stopped Unfinished)) caller s in
      let Q : ℕ → Type 0 = λ k. IsOutcome s.work ((own_context p k).call f vs caller (world_of here s)) here (Err (halt.Stopped Unfinished)) caller s in
      subst P (sym (within_depth lt)) (subst Q (sym en) (halted le))

  body_below : (bound : ℕ) → (bound ≡ 0 → ⊥) →
      (own_context p bound).call f vs caller (world_of here s) ≡
      call_of p (own_context p (bound - 1)) f (slice_get p.functions f) vs caller (world_of here s)
  body_below zero ne = absurd (ne refl)
  body_below (suc k) ne =
      let e : k ≡ suc k - 1 = omega arith in
      ap (λ b. call_of p (own_context p b) f (slice_get p.functions f) vs caller (world_of here s)) e

  -- there is no such function
  pub missing : s.work ≤ 2 ^ 64 - 1 → here.depth < 512 → (here.bound ≡ 0 → ⊥) → slice_get p.functions f ≡ None →
      IsOutcome s.work called here (Ok 0) caller s
  missing le lt ne eg =
      let P : Outcome Frame ℕ → Type 0 = λ o. IsOutcome s.work o here (Ok 0) caller s in
      subst P
      (sym (within_depth lt ∙ (body_below here.bound ne ∙ ap (λ g. call_of p (own_context p (here.bound - 1)) f g vs caller (world_of here s)) eg)))
      (gave le)

  -- the body came to its end, or to none
  pub went_through : here.depth < 512 → (here.bound ≡ 0 → ⊥) → (g : Function) → slice_get p.functions f ≡ Some g →
      (flow : Flow) (f' : Frame) (s' : State) →
      IsOutcome s.work (flow_of_all p (own_context p (here.bound - 1)) g.body (frame_of f g vs) (world_of (inner here g) s)) (inner here g) (Ok flow) f' s' →
      IsOutcome s.work called here (Ok (returned_value flow)) caller s'
  went_through lt ne g eg flow f' s' o =
      let P : Outcome Frame ℕ → Type 0 = λ x. Shows (totalled s.work x) here (Ok (returned_value flow)) caller s' in
      record {
        shown = subst P
            (sym (within_depth lt ∙ (body_below here.bound ne ∙ ap (λ h. call_of p (own_context p (here.bound - 1)) f h vs caller (world_of here s)) eg)))
            (returned here g caller f' s s' s.work _ flow o.shown);
      }

  pub failed_inside : here.depth < 512 → (here.bound ≡ 0 → ⊥) → (g : Function) → slice_get p.functions f ≡ Some g →
      (h : Halt) (f' : Frame) (s' : State) →
      IsOutcome s.work (flow_of_all p (own_context p (here.bound - 1)) g.body (frame_of f g vs) (world_of (inner here g) s)) (inner here g) (Err h) f' s' →
      IsOutcome s.work called here (Err h) caller s'
  failed_inside lt ne g eg (halt.Stopped why) f' s' o =
      let P : Outcome Frame ℕ → Type 0 = λ x. Shows (totalled s.work x) here (Err (halt.Stopped why)) caller s' in
      record {
        shown = subst P
            (sym (within_depth lt ∙ (body_below here.bound ne ∙ ap (λ h. call_of p (own_context p (here.bound - 1)) f h vs caller (world_of here s)) eg)))
            (stopped_inside here g caller s s' s.work _ why o.shown);
      }
  failed_inside lt ne g eg (halt.Memory m) f' s' o = record { shown = tt }

-- ---- calls through a pointer

module _ (p : Program) (here : Here) (t : CType) (vs : List ℕ) (f : Frame) (s : State) where
  pub through_null : (v : ℕ) → v ≡ 0 → s.work ≤ 2 ^ 64 - 1 →
      IsOutcome s.work (call_through (own_context p here.bound) t v vs f (world_of here s)) here (Err (halt.Stopped (Trapped 3))) f s
  through_null v e le =
      let P : ℕ → Type 0 = λ x. IsOutcome s.work (call_through (own_context p here.bound) t x vs f (world_of here s)) here (Err (halt.Stopped (Trapped 3))) f s in
      subst P (sym e) (halted le)

  through_number : (v : ℕ) → (v ≡ 0 → ⊥) →
      call_through (own_context p here.bound) t v vs f (world_of here s) ≡
      call_numbered (own_context p here.bound) t (function_of_number (own_numbers p) v) vs f (world_of here s)
  through_number v ne =
      ap (λ b. (if b then stop (Trapped 3) else call_numbered (own_context p here.bound) t (function_of_number (own_context p here.bound).numbers v) vs) f (world_of here s)) (not_zero v ne) ∙
      ap (λ ns. call_numbered (own_context p here.bound) t (function_of_number ns v) vs f (world_of here s)) (numbers_at p (own_numbers p) here.bound)

  pub through_some : (v g : ℕ) {r : Result ℕ Halt} {f' : Frame} {s' : State} → (v ≡ 0 → ⊥) → function_of_number (own_numbers p) v ≡ Some g →
      IsOutcome s.work (call_at (own_context p here.bound) g vs f (world_of here s)) here r f' s' →
      IsOutcome s.work (call_through (own_context p here.bound) t v vs f (world_of here s)) here r f' s'
  through_some v g {r = r} {f' = f'} {s' = s'} ne e k =
      let P : Outcome Frame ℕ → Type 0 = λ o. IsOutcome s.work o here r f' s' in
      let context = own_context p here.bound in
      subst P
      (sym (through_number v ne ∙ ap (λ o. call_numbered context t o vs f (world_of here s)) e ∙
      ap (λ (lets : CType → ℕ → ℕ → Bool). (if lets t g (length vs) then call_at context g vs else context.stray) f (world_of here s)) (lets_at p (own_numbers p) here.bound))) k

  pub through_none : (v : ℕ) → (v ≡ 0 → ⊥) → function_of_number (own_numbers p) v ≡ None → s.work ≤ 2 ^ 64 - 1 →
      IsOutcome s.work (call_through (own_context p here.bound) t v vs f (world_of here s)) here (Ok 0) f s
  through_none v ne e le =
      let P : Outcome Frame ℕ → Type 0 = λ o. IsOutcome s.work o here (Ok 0) f s in
      subst P
      (sym (through_number v ne ∙ ap (λ o. call_numbered (own_context p here.bound) t o vs f (world_of here s)) e ∙
      ap (λ (stray : Computation Frame ℕ). stray f (world_of here s)) (stray_at p (own_numbers p) here.bound))) (gave le)
