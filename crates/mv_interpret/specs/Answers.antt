-- How a state answers a commit, a revert or a poll.
use Rattle.std.specs.Prelude.{◌≡◌, ℕ, ◌++◌, if◌then◌else◌}
use Rattle.mv_ast.specs.declared.program.Program.{Program}
use Rattle.mv_ast.specs.Numbering.{own_numbers}
use Rattle.mv_ast.specs.Orders.{Answered, bound_after, bindings_after}
use Rattle.mv_bindings.specs.OrderNumbers.{is_commit}
use Rattle.mv_bindings.specs.Bindings.{events_from}
use Rattle.mv_interpret.specs.declared.state.Here.{Here}
use Rattle.mv_interpret.specs.declared.state.State.{State}
use Rattle.mv_interpret.specs.Runs.{world_of}

-- the answer, the world that the new state shows, and no work
pub record HasAnswered (a : Answered) (here : Here) (old new : State) (answer : ℕ) : Type 0 where
  pub answered : a.answer ≡ answer
  pub world : a.world ≡ world_of here new
  pub work : new.work ≡ old.work

-- an order was carried out, and nothing but the bindings and the log is changed
pub record CarriedOut (p : Program) (code index : ℕ) (old new : State) (answer : ℕ) : Type 0 where
  pub answered : (if is_commit code then bound_after p code index new.bindings else 0) ≡ answer
  pub changed :
      new ≡
      record old {
        bindings = bindings_after p (own_numbers p) code index old.globals old.bindings;
        log = old.log ++ events_from 0 old.bindings (bindings_after p (own_numbers p) code index old.globals old.bindings);
      }
