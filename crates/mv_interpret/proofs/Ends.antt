-- From the run of `main` to the meaning of the program.
use Rattle.std.proofs.Common.{◌≡◌, ℕ, ◌+◌, ◌-◌, ◌^◌, ◌≤◌, ◌%◌, List, [], map, arith, sym, ◌∙◌, ap, subst, Option, Some, None, Result, Ok, Err, slice_get}
use Rattle.mv_ast.specs.declared.program.Program.{Program}
use Rattle.mv_ast.specs.declared.program.Function.{Function}
use Rattle.mv_bindings.specs.declared.action.Action.{Action}
use Rattle.mv_bindings.specs.declared.stop.Stop.{Stop}
use Rattle.mv_ast.specs.Worlds.{World, Outcome, Came, Stopped}
use Rattle.mv_bindings.specs.Acts.{act_of}
use Rattle.mv_meaning.specs.declared.state.Frame.{Frame}
use Rattle.mv_interpret.specs.declared.state.Here.{Here}
use Rattle.mv_interpret.specs.declared.state.State.{State}
use Rattle.mv_interpret.specs.declared.state.Halt.{Halt}
use Rattle.mv_interpret.specs.declared.state.Halt.TheVariants as halt
use Rattle.mv_meaning.specs.declared.state.Flow.{Flow}
use Rattle.mv_meaning.specs.declared.state.Flow.TheVariants.{Goes}
use Rattle.mv_meaning.specs.declared.meant.End.{End}
use Rattle.mv_meaning.specs.declared.meant.End.TheVariants.{Exit}
use Rattle.mv_meaning.specs.declared.meant.Meant.{Meant}
use Rattle.mv_meaning.specs.Meaning.{returned_value, end_of_stop, meant_by, meaning_of, frame_of, flow_of_all, run_of_main, mean}
use Rattle.mv_meaning.specs.Growth.{capped, Extends, with_capped_work}
use Rattle.mv_interpret.specs.Runs.{totalled, world_of, Shows, IsOutcome}
use Rattle.mv_meaning.specs.Loops.{own_context}
use Rattle.mv_interpret.specs.Programs.{IsStart, HasRun, HasEnd}
use Rattle.mv_meaning.proofs.Bounds.{bound_extends}
use Rattle.mv_interpret.proofs.Steps.{gave}

module _ (p : Program) (here : Here) (before s : State) where
  -- without a `main`
  pub ran_none : before.work ≤ 2 ^ 64 - 1 → slice_get p.functions p.main ≡ None → HasRun p here before (Ok Goes) before
  ran_none le e =
      let first : Frame = record { function = p.main; locals = [] } in
      let P : Option Function → Type 0 = λ g.
      IsOutcome before.work (run_of_main p (own_context p here.bound) g first (world_of here before)) here (Ok Goes) first before in
      record { frame = first; outcome = subst P (sym e) (gave le) }

  -- through its body
  pub ran_body : (r : Result Flow Halt) (g : Function) (f0 f : Frame) → slice_get p.functions p.main ≡ Some g → f0 ≡ frame_of p.main g [] →
      IsOutcome before.work (flow_of_all p (own_context p here.bound) g.body f0 (world_of here before)) here r f s → HasRun p here before r s
  ran_body r g f0 f eg ef o =
      let first : Frame = record { function = p.main; locals = [] } in
      let P : Option Function → Type 0 = λ g. IsOutcome before.work (run_of_main p (own_context p here.bound) g first (world_of here before)) here r f s in
      let Q : Frame → Type 0 = λ x. IsOutcome before.work (flow_of_all p (own_context p here.bound) g.body x (world_of here before)) here r f s in
      record { frame = f; outcome = subst P (sym eg) (subst Q ef o) }

  -- want of memory before its body
  pub ran_short : (e : _) → HasRun p here before (Err (halt.Memory e)) s
  ran_short e = record { frame = record { function = p.main; locals = [] }; outcome = record { shown = tt } }

came_to : (n : ℕ) (o : Outcome Frame Flow) (flow : Flow) (f : Frame) (w : World) (work : ℕ) → n ≡ 0 →
    totalled n o ≡ Came flow f w work → with_capped_work (meaning_of o) ≡ meant_by (Exit (returned_value flow % 256)) w work
came_to n (Came flow' f' w' m) flow f w work en e =
    let el : flow' ≡ flow = cc in
    let ew : w' ≡ w = cc in
    let em : capped (n + m) ≡ work = cc in
    let ec : capped m ≡ work = omega arith in
    ap (λ x. meant_by (Exit (returned_value x % 256)) w' (capped m)) el ∙
    (ap (λ x. meant_by (Exit (returned_value flow % 256)) x (capped m)) ew ∙ ap (meant_by (Exit (returned_value flow % 256)) w) ec)
came_to n (Stopped why w' m) flow f w work en e = cc

stopped_at : (n : ℕ) (o : Outcome Frame Flow) (why : Stop) (w : World) (work : ℕ) → n ≡ 0 →
    totalled n o ≡ Stopped why w work → with_capped_work (meaning_of o) ≡ meant_by (end_of_stop why) w work
stopped_at n (Came flow' f' w' m) why w work en e = cc
stopped_at n (Stopped why' w' m) why w work en e =
    let ey : why' ≡ why = cc in
    let ew : w' ≡ w = cc in
    let em : capped (n + m) ≡ work = cc in
    let ec : capped m ≡ work = omega arith in
    ap (λ x. meant_by (end_of_stop x) w' (capped m)) ey ∙
    (ap (λ x. meant_by (end_of_stop why) x (capped m)) ew ∙ ap (meant_by (end_of_stop why) w) ec)

ends_as : (n : ℕ) (o : Outcome Frame Flow) (here : Here) (r : Result Flow Halt) (f : Frame) (s : State) (ending : End) → n ≡ 0 →
    Shows (totalled n o) here r f s → HasEnd r ending → with_capped_work (meaning_of o) ≡ meant_by ending (world_of here s) s.work
ends_as n o here (Ok flow) f s ending en e h =
    came_to n o flow f (world_of here s) s.work en e ∙ ap (λ x. meant_by x (world_of here s) s.work) (sym h)
ends_as n o here (Err (halt.Stopped why)) f s ending en e h =
    stopped_at n o why (world_of here s) s.work en e ∙ ap (λ x. meant_by x (world_of here s) s.work) (sym h)
ends_as n o here (Err (halt.Memory m)) f s ending en e h = absurd h

module _ (p : Program) (input : List ℕ) (actions : List Action) (bound plan_work : ℕ) where
  abbrev at_start : Here
  at_start = record { bound = bound; depth = 0; live = 0; plan_work = plan_work }

  -- what the interpreter has at the end is the meaning
  pub is_meaning : (s0 s : State) (r : Result Flow Halt) (ending : End) → IsStart p input actions s0 → HasRun p at_start s0 r s → HasEnd r ending →
      meant_by ending (world_of at_start s) s.work ≡ with_capped_work (mean p input actions bound)
  is_meaning s0 s r ending begins runs ends =
      let run : World → Outcome Frame Flow = λ w.
      run_of_main p (own_context p bound) (slice_get p.functions p.main) (record { function = p.main; locals = [] }) w in
      sym (ap (λ w. with_capped_work (meaning_of (run w))) (sym (begins.world bound plan_work)) ∙
      ends_as s0.work (run (world_of at_start s0)) at_start r runs.frame s ending begins.work runs.outcome.shown ends)

  pub goes_on : (m : Meant) → m ≡ with_capped_work (mean p input actions bound) → (greater : ℕ) → bound ≤ greater →
      Extends m (with_capped_work (mean p input actions greater))
  goes_on m e greater le =
      subst (λ x. Extends x (with_capped_work (mean p input actions greater))) (sym e) (bound_extends p 0 input (map act_of actions) bound greater le)
