-- How the interpreter's own values show a whole program.
use Rattle.std.specs.Prelude.{◌≡◌, ℕ, ◌%◌, List, [], map, Result, Ok, Err, slice_get}
use Rattle.mv_ast.specs.declared.program.Program.{Program}
use Rattle.mv_bindings.specs.declared.action.Action.{Action}
use Rattle.mv_ast.specs.Starts.{first_world}
use Rattle.mv_bindings.specs.Acts.{act_of}
use Rattle.mv_meaning.specs.declared.state.Frame.{Frame}
use Rattle.mv_interpret.specs.declared.state.Here.{Here}
use Rattle.mv_interpret.specs.declared.state.State.{State}
use Rattle.mv_interpret.specs.declared.state.Halt.{Halt}
use Rattle.mv_interpret.specs.declared.state.Halt.TheVariants as halt
use Rattle.mv_meaning.specs.declared.state.Flow.{Flow}
use Rattle.mv_meaning.specs.declared.meant.End.{End}
use Rattle.mv_meaning.specs.declared.meant.End.TheVariants.{Exit}
use Rattle.mv_meaning.specs.Meaning.{returned_value, run_of_main, end_of_stop}
use Rattle.mv_interpret.specs.Runs.{world_of, IsOutcome}
use Rattle.mv_meaning.specs.Loops.{own_context}

-- a state shows the world in which a program starts, without work
pub record IsStart (p : Program) (input : List ℕ) (actions : List Action) (s : State) : Type 0 where
  pub world : (bound plan_work : ℕ) → world_of (record { bound = bound; depth = 0; live = 0; plan_work = plan_work }) s ≡ first_world p 0 input (map act_of actions)
  pub work : s.work ≡ 0

-- the body of `main` came to a result, in some frame
pub record HasRun (p : Program) (here : Here) (before : State) (r : Result Flow Halt) (s : State) : Type 0 where
  pub frame : Frame
  pub outcome :
      IsOutcome before.work
      (run_of_main p (own_context p here.bound) (slice_get p.functions p.main) (record { function = p.main; locals = [] }) (world_of here before))
      here r frame s

-- the end of a program whose `main` came to a result; there is none for want of memory
abbrev pub HasEnd : Result Flow Halt → End → Type 0
HasEnd (Ok flow) ending = ending ≡ Exit (returned_value flow % 256)
HasEnd (Err (halt.Stopped why)) ending = ending ≡ end_of_stop why
HasEnd (Err (halt.Memory e)) ending = ⊥
