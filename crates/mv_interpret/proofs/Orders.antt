-- Statements one after the other.
use Rattle.std.proofs.Common.{◌≡◌, ℕ, ◌+◌, ◌-◌, ◌^◌, ◌≤◌, ◌<◌, List, ◌∷◌, length, get_or, drop, arith, refl, sym, ◌∙◌, ap, Ok, Err}
use Rattle.std.proofs.lemmas.List.{drop_more}
use Rattle.mv_ast.specs.declared.program.Program.{Program}
use Rattle.mv_ast.specs.declared.program.Stmt.{Stmt}
use Rattle.mv_ast.specs.Worlds.{Outcome, Came, bind, give}
use Rattle.mv_meaning.specs.declared.state.Frame.{Frame}
use Rattle.mv_interpret.specs.declared.state.Here.{Here}
use Rattle.mv_interpret.specs.declared.state.State.{State}
use Rattle.mv_interpret.specs.declared.state.Halt.{Halt}
use Rattle.mv_interpret.specs.declared.state.Halt.TheVariants as halt
use Rattle.mv_meaning.specs.declared.state.Flow.{Flow}
use Rattle.mv_meaning.specs.declared.state.Flow.TheVariants.{Goes, Breaks, Continues, Returns}
use Rattle.mv_meaning.specs.Meaning.{Evaluation, Context, then_on, flow_of, flow_of_all}
use Rattle.mv_meaning.specs.Growth.{capped}
use Rattle.mv_interpret.specs.Runs.{totalled, world_of, IsOutcome}
use Rattle.mv_interpret.proofs.Steps.{went_on, stopped_there, within}

-- control that does not go on is what is left
pub then_on-other : (flow : Flow) (next : Evaluation Flow) → (flow ≡ Goes → ⊥) → then_on flow next ≡ give flow
then_on-other Goes next ne = absurd (ne refl)
then_on-other Breaks next ne = refl
then_on-other Continues next ne = refl
then_on-other (Returns v) next ne = refl

module _ (p : Program) (context : Context) (here : Here)
    (total : Outcome Frame Flow) (items : List Stmt) (i : ℕ) (f : Frame) (s : State)
    (so_far : total ≡ totalled s.work (flow_of_all p context (drop i items) f (world_of here s))) where
  flows_here : (t : Stmt) → i < length items → t ≡ get_or items i t →
      total ≡ totalled s.work (bind (flow_of p context t) (λ flow. then_on flow (flow_of_all p context (drop (i + 1) items))) f (world_of here s))
  flows_here t lt et =
      so_far ∙ ap (λ x. totalled s.work (flow_of_all p context x f (world_of here s))) (drop_more items i t lt ∙ ap (λ x. x ∷ drop (i + 1) items) (sym et))

  -- a statement was done, and control is this
  flows_on : (t : Stmt) (flow : Flow) (f1 : Frame) (s1 : State) → i < length items → t ≡ get_or items i t →
      IsOutcome s.work (flow_of p context t f (world_of here s)) here (Ok flow) f1 s1 →
      total ≡ totalled s1.work (then_on flow (flow_of_all p context (drop (i + 1) items)) f1 (world_of here s1))
  flows_on t flow f1 s1 lt et o =
      flows_here t lt et ∙
      went_on s.work (flow_of p context t f (world_of here s)) (λ x. then_on x (flow_of_all p context (drop (i + 1) items))) flow f1 (world_of here s1) s1.work o.shown

  pub flows_step : (t : Stmt) (flow : Flow) (f1 : Frame) (s1 : State) → i < length items → t ≡ get_or items i t →
      IsOutcome s.work (flow_of p context t f (world_of here s)) here (Ok flow) f1 s1 → flow ≡ Goes →
      total ≡ totalled s1.work (flow_of_all p context (drop (i + 1) items) f1 (world_of here s1))
  flows_step t flow f1 s1 lt et o eg =
      flows_on t flow f1 s1 lt et o ∙
      ap (λ x. totalled s1.work (then_on x (flow_of_all p context (drop (i + 1) items)) f1 (world_of here s1))) eg

  pub flows_left : (t : Stmt) (flow : Flow) (f1 : Frame) (s1 : State) (before : ℕ) (o : Outcome Frame Flow) → total ≡ totalled before o →
      i < length items → t ≡ get_or items i t →
      IsOutcome s.work (flow_of p context t f (world_of here s)) here (Ok flow) f1 s1 → (flow ≡ Goes → ⊥) → IsOutcome before o here (Ok flow) f1 s1
  flows_left t flow f1 s1 before o eo lt et r ne =
      let le : s1.work ≤ 2 ^ 64 - 1 = within s.work (flow_of p context t f (world_of here s)) flow f1 (world_of here s1) s1.work r.shown in
      let e : capped (s1.work + 0) ≡ s1.work = omega arith in
      record {
        shown =
            sym eo ∙ (flows_on t flow f1 s1 lt et r ∙
            (ap (λ d. totalled s1.work (d f1 (world_of here s1))) (then_on-other flow (flow_of_all p context (drop (i + 1) items)) ne) ∙
            ap (Came flow f1 (world_of here s1)) e));
      }

  pub flows_fail : (t : Stmt) (h : Halt) (before : ℕ) (o : Outcome Frame Flow) (f1 f2 : Frame) (s1 : State) → total ≡ totalled before o →
      i < length items → t ≡ get_or items i t →
      IsOutcome s.work (flow_of p context t f (world_of here s)) here (Err h) f1 s1 → IsOutcome before o here (Err h) f2 s1
  flows_fail t (halt.Stopped why) before o f1 f2 s1 eo lt et r =
      record {
        shown =
            sym eo ∙ (flows_here t lt et ∙
            stopped_there s.work (flow_of p context t f (world_of here s)) (λ x. then_on x (flow_of_all p context (drop (i + 1) items))) why _ _ r.shown);
      }
  flows_fail t (halt.Memory m) before o f1 f2 s1 eo lt et r = record { shown = tt }
