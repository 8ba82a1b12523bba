-- The run that is watched, by the names that the laws on it use.
use Rattle.std.proofs.Common.{ℕ, Bool, List, Option}
use Rattle.mv_bindings.specs.declared.binding.Binding.{Binding}
use Rattle.mv_image.specs.Spelling.{Fields}
use Rattle.mv_machine.specs.Acts.{PollActs}
use Rattle.mv_machine.specs.Runs.{State, runs_from, first}
use Rattle.mv_machine.specs.Commits.{commit_from}
use Rattle.mv_select_code.specs.Control.Runs.{Spot, Machine}
use Rattle.mv_refine_machine.specs.Commits.Watched.{Watched, spot_at, watched_machine}

pub record WatchedRun : Type 0 where
  pub machine : Machine Watched
  pub start : State
  pub state : ℕ → State
  pub run : ℕ → Spot Watched
  -- what is bound where a commit is under way
  pub under : ℕ → Option (List Binding)

abbrev pub watched_run : (attributed : List ℕ) → (closed : (pc address : ℕ) → Bool) → Fields → (input : List (Option ℕ)) → PollActs → (picks : List ℕ) → WatchedRun
watched_run attributed closed image input polls picks = record {
  machine = watched_machine attributed closed image input polls picks;
  start = first image input polls;
  state = λ i. runs_from (first image input polls) picks i;
  run = spot_at (first image input polls) picks;
  under = λ i. commit_from (first image input polls) picks i;
}
