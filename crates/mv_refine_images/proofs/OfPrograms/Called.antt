-- Calls of a program's functions below a bound, by the names that their proofs use.
use Rattle.std.proofs.Common.{ℕ, List, length}
use Rattle.mv_ast.specs.declared.program.Program.{Program}
use Rattle.mv_isa.specs.Execution.{Access}
use Rattle.mv_ir.specs.World.{Setting}
use Rattle.mv_ir.specs.Outcome.{Bound, End}
use Rattle.mv_ir.specs.Programs.{setting_of}
use Rattle.mv_select_code.specs.Control.Runs.{Machine}
use Rattle.mv_select.specs.Calls.Convention.{Layout, FollowsCall}
use Rattle.mv_lower_spec.specs.Calls.SourceCalls.{source_levels}

pub record Called : Type 1 where
  pub setting : Setting
  pub levels : Bound
  -- what follows a call
  pub FC : (spare i back : ℕ) → End → Type 0

abbrev pub called : {M : Type 0} (access : Access M) (y : Layout) (machine : Machine M) (budget far : ℕ) (p : Program) (numbers : List ℕ) (k : ℕ) → Called
called access y machine budget far p numbers k = record {
  setting = setting_of numbers p;
  levels = source_levels p numbers k;
  FC = λ spare i back end. FollowsCall access y machine budget far spare (length (source_levels p numbers k)) i back end;
}
