-- What it is for code of a frame to run, by the names that the laws on it use.
use Rattle.std.proofs.Common.{ℕ, List}
use Rattle.mv_isa.specs.declared.labelled.Line.{Line}
use Rattle.mv_isa.specs.Execution.{Access}
use Rattle.mv_ir.specs.Outcome.{State, End, Outcome, Run}
use Rattle.mv_select_code.specs.Statements.Frames.{Site}
use Rattle.mv_select_code.specs.declared.control.enclosing.Enclosing.{Enclosing}
use Rattle.mv_select_code.specs.Control.Placed as placed
use Rattle.mv_select_code.specs.Control.Runs.{Machine}
use Rattle.mv_select_code.specs.Control.Flow as flow

pub record Course : Type 1 where
  -- lines stand in text
  pub Placed : List Line → (at stop : ℕ) → Type 0
  -- a time of the run stands at a place, in a state
  pub Here : (over spare k pc : ℕ) → State → ℕ → Type 0
  pub FollowsEnd : (spare k : ℕ) → End → Type 0
  pub Follows : (spare k : ℕ) → List Enclosing → ℕ → Outcome → Type 0
  pub Does : (spare k : ℕ) → List Enclosing → (pc next : ℕ) → (State → Run) → Type 0

abbrev pub course : {M : Type 0} → Access M → Site → Machine M → (place : ℕ → ℕ) → (end budget far : ℕ) → Course
course access s machine place end budget far = record {
  Placed = placed.Placed machine.text place s.entry;
  Here = flow.Here access s machine place end budget far;
  FollowsEnd = flow.FollowsEnd access s machine place end budget far;
  Follows = flow.Follows access s machine place end budget far;
  Does = flow.Does access s machine place end budget far;
}
