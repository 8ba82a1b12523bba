-- What it is for a call to run, by the names that the laws on calls use.
use Rattle.std.proofs.Common.{ℕ, List}
use Rattle.mv_isa.specs.Execution.{Access}
use Rattle.mv_ir.specs.World.{World}
use Rattle.mv_select_code.specs.Statements.Frames.{Site}
use Rattle.mv_select_code.specs.Control.Runs.{Machine, IsRun}
use Rattle.mv_select_code.proofs.OfControl.Course.{Course, course}
use Rattle.mv_select_code.proofs.OfControl.Walk as walk

pub record CallCourse (M : Type 0) : Type 1 where
  pub of : Course
  -- a time of the run stands at a place, with these registers and this memory
  pub Stands : World → (pc : ℕ) → List ℕ → M → ℕ → Type 0
  -- so does a later time, so many instructions on at most
  pub Reaches : World → (pc : ℕ) → List ℕ → M → (i n : ℕ) → Type 0

abbrev pub call_course : {M : Type 0} (access : Access M) (s : Site) (machine : Machine M) → IsRun access s machine → (place : ℕ → ℕ) → (end budget far : ℕ) → CallCourse M
call_course access s machine ok place end budget far = record {
  of = course access s machine place end budget far;
  Stands = walk.Stands access s machine ok place end budget far;
  Reaches = walk.Reaches access s machine ok place end budget far;
}
