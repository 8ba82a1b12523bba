-- What the interpreter does with the arms of a `switch`.
use Rattle.std.proofs.Common.{◌≡◌, ℕ, ◌+◌, ◌-◌, ◌^◌, ◌≤◌, ◌<◌, List, [], ◌∷◌, ◌++◌, map, length, get_or, drop, arith, refl, sym, ◌∙◌, ap, subst, Result, Ok, Err}
use Rattle.std.proofs.lemmas.List.{drop_more}
use Rattle.mv_ast.specs.declared.program.Program.{Program}
use Rattle.mv_ast.specs.declared.program.Arm.{Arm}
use Rattle.mv_ast.specs.Worlds.{World, Outcome, Came, Stopped, after, and_then, bind}
use Rattle.mv_meaning.specs.declared.state.Frame.{Frame}
use Rattle.mv_meaning.specs.declared.state.Flow.{Flow}
use Rattle.mv_meaning.specs.declared.state.Flow.TheVariants.{Goes, Breaks, Continues, Returns}
use Rattle.mv_meaning.specs.Meaning.{Evaluation, Context, ArmDenotation, tried_labels, bodies_of, in_order, then_on, after_switch, switch_flow, flow_of, flow_of_all, arm_of}
use Rattle.mv_meaning.specs.Arms.{all_labels, first_arm}
use Rattle.mv_meaning.specs.Growth.{capped}
use Rattle.mv_meaning.specs.Loops.{arms_from}
use Rattle.mv_meaning.proofs.Equations.{arm_of_lem}
use Rattle.mv_meaning.proofs.SwitchArms.{leads_to}
use Rattle.mv_meaning.proofs.Sequences.{in_order_both, after_then}
use Rattle.mv_interpret.specs.declared.state.Here.{Here}
use Rattle.mv_interpret.specs.declared.state.State.{State}
use Rattle.mv_interpret.specs.declared.state.Halt.{Halt}
use Rattle.mv_interpret.specs.declared.state.Halt.TheVariants as halt
use Rattle.mv_interpret.specs.Runs.{totalled, world_of, IsOutcome, behind_switch}
use Rattle.mv_interpret.proofs.Steps.{went_on, stopped_there, within, counted_on}

-- ---- what goes on from statements one after the other

-- two ways to go on from an outcome, of which one goes through the other
joined : {A B C : Type 0} (o : Outcome Frame A) (whole : A → Evaluation C) (first : A → Evaluation B) (next : B → Evaluation C) →
    ((v : A) (f : Frame) (w : World) → whole v f w ≡ and_then (first v f w) next) → and_then o whole ≡ and_then (and_then o first) next
joined (Came v f w n) whole first next h = ap (after n) (h v f w) ∙ sym (after_then n (first v f w) next)
joined (Stopped s w n) whole first next h = refl

behind : (flow : Flow) (next : Evaluation Flow) (f : Frame) (w : World) → (flow ≡ Goes → ⊥) →
    bind (then_on flow next) after_switch f w ≡ Came (behind_switch flow) f w 0
behind Goes next f w ne = absurd (ne refl)
behind Breaks next f w ne = refl
behind Continues next f w ne = refl
behind (Returns v) next f w ne = refl

-- ---- the arms from one on

module _ (p : Program) (context : Context) where
  arms_from-cons : (a : Arm) (arms : List Arm) (f : Frame) (w : World) →
      arms_from p context (a ∷ arms) f w ≡
      and_then (flow_of_all p context a.body f w) (λ flow. bind (then_on flow (in_order (bodies_of (map (arm_of p context) arms)))) after_switch)
  arms_from-cons a arms f w =
      let rest : List (Evaluation Flow) = bodies_of (map (arm_of p context) arms) in
      ap (λ (d : ArmDenotation). and_then (in_order (d.body ++ rest) f w) after_switch) (arm_of_lem p context a) ∙
      (ap (λ o. and_then o after_switch) (in_order_both (map (flow_of p context) a.body) rest f w) ∙
      sym (joined (flow_of_all p context a.body f w) (λ flow. bind (then_on flow (in_order rest)) after_switch) (λ flow. then_on flow (in_order rest)) after_switch
      (λ flow f' w'. refl)))

  module _ (here : Here) (total : Outcome Frame Flow) (items : List Arm) (i : ℕ) (f : Frame) (s : State)
      (so_far : total ≡ totalled s.work (arms_from p context (drop i items) f (world_of here s))) where
    abbrev on_to : Flow → Evaluation Flow
    on_to flow = bind (then_on flow (in_order (bodies_of (map (arm_of p context) (drop (i + 1) items))))) after_switch

    arms_here : (a : Arm) → i < length items → a ≡ get_or items i a →
        total ≡ totalled s.work (and_then (flow_of_all p context a.body f (world_of here s)) on_to)
    arms_here a lt ea =
        so_far ∙
        (ap (λ x. totalled s.work (arms_from p context x f (world_of here s))) (drop_more items i a lt ∙ ap (λ x. x ∷ drop (i + 1) items) (sym ea)) ∙
        ap (totalled s.work) (arms_from-cons a (drop (i + 1) items) f (world_of here s)))

    arms_on : (a : Arm) (flow : Flow) (f1 : Frame) (s1 : State) → i < length items → a ≡ get_or items i a →
        IsOutcome s.work (flow_of_all p context a.body f (world_of here s)) here (Ok flow) f1 s1 →
        total ≡ totalled s1.work (on_to flow f1 (world_of here s1))
    arms_on a flow f1 s1 lt ea o =
        arms_here a lt ea ∙ went_on s.work (flow_of_all p context a.body f (world_of here s)) on_to flow f1 (world_of here s1) s1.work o.shown

    pub arms_step : (a : Arm) (flow : Flow) (f1 : Frame) (s1 : State) → i < length items → a ≡ get_or items i a →
        IsOutcome s.work (flow_of_all p context a.body f (world_of here s)) here (Ok flow) f1 s1 → flow ≡ Goes →
        total ≡ totalled s1.work (arms_from p context (drop (i + 1) items) f1 (world_of here s1))
    arms_step a flow f1 s1 lt ea o eg =
        arms_on a flow f1 s1 lt ea o ∙ ap (λ x. totalled s1.work (on_to x f1 (world_of here s1))) eg

    pub arms_left : (a : Arm) (flow : Flow) (f1 : Frame) (s1 : State) (before : ℕ) (o : Outcome Frame Flow) → total ≡ totalled before o →
        i < length items → a ≡ get_or items i a →
        IsOutcome s.work (flow_of_all p context a.body f (world_of here s)) here (Ok flow) f1 s1 → (flow ≡ Goes → ⊥) →
        IsOutcome before o here (Ok (behind_switch flow)) f1 s1
    arms_left a flow f1 s1 before o eo lt ea r ne =
        let le : s1.work ≤ 2 ^ 64 - 1 = within s.work (flow_of_all p context a.body f (world_of here s)) flow f1 (world_of here s1) s1.work r.shown in
        let e : capped (s1.work + 0) ≡ s1.work = omega arith in
        record {
          shown =
              sym eo ∙ (arms_on a flow f1 s1 lt ea r ∙
              (ap (totalled s1.work) (behind flow _ f1 (world_of here s1) ne) ∙
              ap (Came (behind_switch flow) f1 (world_of here s1)) e));
        }

    pub arms_fail : (a : Arm) (h : Halt) (before : ℕ) (o : Outcome Frame Flow) (f1 f2 : Frame) (s1 : State) → total ≡ totalled before o →
        i < length items → a ≡ get_or items i a →
        IsOutcome s.work (flow_of_all p context a.body f (world_of here s)) here (Err h) f1 s1 → IsOutcome before o here (Err h) f2 s1
    arms_fail a (halt.Stopped why) before o f1 f2 s1 eo lt ea r =
        record { shown = sym eo ∙ (arms_here a lt ea ∙ stopped_there s.work (flow_of_all p context a.body f (world_of here s)) on_to why _ _ r.shown) }
    arms_fail a (halt.Memory m) before o f1 f2 s1 eo lt ea r = record { shown = tt }

-- a `switch`, from the arms that a value leads to
pub switched : (p : Program) (context : Context) (here : Here) (v : ℕ) (arms rest : List Arm) (f : Frame) (s s1 : State) {r : Result Flow Halt} {f' : Frame} {s' : State} →
    s1 ≡ record s { work = capped (s.work + (tried_labels v (all_labels arms)).labels) } → rest ≡ drop (first_arm v arms) arms →
    IsOutcome s1.work (arms_from p context rest f (world_of here s1)) here r f' s' →
    IsOutcome s.work (switch_flow v (map (arm_of p context) arms) f (world_of here s)) here r f' s'
switched p context here v arms rest f s s1 {r = r} {f' = f'} {s' = s'} counts er k =
    let P : Outcome Frame Flow → Type 0 = λ o. IsOutcome s.work o here r f' s' in
    let Q : List Arm → Type 0 = λ l. IsOutcome s1.work (arms_from p context l f (world_of here s1)) here r f' s' in
    subst P (sym (leads_to p context v arms f (world_of here s)))
    (counted_on here f s (tried_labels v (all_labels arms)).labels (arms_from p context (drop (first_arm v arms) arms)) counts (subst Q er k))
