-- What code needs of a machine beside its runs: it begins in calm, its memory has words, and it answers reads and writes.
use Rattle.std.specs.Prelude.{ℕ, ◌≡◌, Bool, true, List, Option}
use Rattle.std.specs.List.{All}
use Rattle.mv_ast.specs.declared.program.Program.{Program}
use Rattle.mv_image.specs.Spelling.{Fields}
use Rattle.mv_image.specs.Faults.{Rules}
use Rattle.mv_ir.specs.Programs.{setting_of}
use Rattle.mv_ir.specs.World.{World}
use Rattle.mv_machine.specs.Acts.{PollActs}
use Rattle.mv_machine.specs.Runs.{bytes_to_come, first}
use Rattle.mv_select_code.specs.Control.Runs.{outside}
use Rattle.mv_select.specs.Calls.Convention.{Layout}
use Rattle.mv_select.specs.Calls.Environment.{ServesCalls}
use Rattle.mv_select.specs.Functions.Functions.{IsMemory}
use Rattle.mv_refine_machine.specs.Layout.{IsSetOut}
use Rattle.mv_refine_machine.specs.Laws.{IsByteOrEnd, IsFirst}
use Rattle.mv_refine_machine.specs.Commits.Watched.{access, is_quiet, spot_at, watched_machine}

-- a run begins in calm, in a world of its hart that has what its polls take
abbrev pub WatchedRunsBegin : Type 0
WatchedRunsBegin =
    (image : Fields) (bytes : List ℕ) (polls : PollActs) (picks : List ℕ) (w : World) → IsFirst image bytes w → w.hart ≡ polls.hart → w.actions ≡ polls.acts →
    is_quiet image (outside w) (spot_at (first image (bytes_to_come bytes) polls) picks 0).memory ≡ true

-- memory has the words of globals that are set out, and of the stack
abbrev pub WatchedMemory : Type 0
WatchedMemory =
    (attributed : List ℕ) (closed : (pc address : ℕ) → Bool) (image : Fields) (input : List (Option ℕ)) (polls : PollActs) (picks : List ℕ) (y : Layout) → IsSetOut y →
    IsMemory access y (watched_machine attributed closed image input polls picks)

-- where its input is bytes, the machine serves those known functions that are environment calls, for every program and layout
abbrev pub WatchedCallsAreServed : Type 0
WatchedCallsAreServed =
    (attributed : List ℕ) (closed : (pc address : ℕ) → Bool) (image : Fields) → Rules image → (input : List (Option ℕ)) (polls : PollActs) (picks : List ℕ) → All IsByteOrEnd input →
    (y : Layout) (budget far : ℕ) (numbers : List ℕ) (p : Program) →
    ServesCalls access y (watched_machine attributed closed image input polls picks) budget far (setting_of numbers p)
