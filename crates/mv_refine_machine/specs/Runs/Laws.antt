-- What is proved of the run of an image.
use Rattle.std.specs.Prelude.{ℕ, Bool, List}
use Rattle.mv_ast.specs.declared.program.Program.{Program}
use Rattle.mv_image.specs.Faults.{Rules}
use Rattle.mv_image.specs.Spelling.{Fields}
use Rattle.mv_machine.specs.Acts.{PollActs}
use Rattle.mv_select.specs.Calls.Convention.{Layout}
use Rattle.mv_refine_machine.specs.Runs.Behaves.{Behaves, CallsArePlain, LoadsWhatIsOpen}
use Rattle.mv_refine_machine.specs.Runs.Main.{HasStubs, RunsMain}

-- Where the stubs stand in an image that keeps the rules, no environment call is patched, and its run does what main does, it does what the program means, and loads
-- only what is open.
abbrev pub ImagesBehave : Type 0
ImagesBehave =
    (attributed : List ℕ) (closed : (pc address : ℕ) → Bool) (p : Program) (image : Fields) (bytes : List ℕ) (polls : PollActs) (picks : List ℕ) (y : Layout) →
    Rules image → CallsArePlain image → HasStubs attributed image y → RunsMain attributed closed p image bytes polls picks y → Behaves p image bytes polls picks × LoadsWhatIsOpen image closed bytes polls picks
