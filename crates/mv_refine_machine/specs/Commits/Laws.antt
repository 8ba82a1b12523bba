-- What runs do while commits are made.
use Rattle.std.specs.Prelude.{ℕ, ◌↔◌, ◌≡◌, Bool, true, List}
use Rattle.mv_image.specs.Spelling.{Fields}
use Rattle.mv_image.specs.Faults.{Rules}
use Rattle.mv_ir.specs.World.{World}
use Rattle.mv_linker.specs.Linked.{commit_lines}
use Rattle.mv_machine.specs.Runs.{State}
use Rattle.mv_select_code.specs.Control.Placed.{Placed}
use Rattle.mv_refine_machine.specs.MachineRuns.{machine_text}
use Rattle.mv_refine_machine.specs.Commits.Watched.{Watched, IsQuiet, is_quiet}
use Rattle.mv_refine_machine.specs.Commits.Served.{IsPlanOpen, AtStub, IsBack}

-- the test of calm tells what it stands for
abbrev pub QuietIsTested : Type 0
QuietIsTested = (image : Fields) (w : World) (m : Watched) → (is_quiet image w m ≡ true) ↔ IsQuiet image w m

-- The stub that stands in an image's text carries out each call for a plan.
abbrev pub StubServes : Type 0
StubServes =
    (attributed : List ℕ) (closed : (pc address : ℕ) → Bool) (image : Fields) → Rules image → (place entry : ℕ → ℕ) (pc end : ℕ) →
    Placed (machine_text attributed image) place entry commit_lines pc end → IsPlanOpen closed pc → (first : State) (picks : List ℕ) (back : ℕ) (w after : World) (answer i : ℕ) →
    (h : AtStub closed image first picks pc back w after answer i) → (j : ℕ) × IsBack closed image first picks back w after answer h.planned.coming i j
