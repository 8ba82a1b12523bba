-- How many words of text have changed where a run has ended, by the source.
use Rattle.std.specs.Prelude.{ℕ, List}
use Rattle.mv_ast.specs.declared.program.Program.{Program}
use Rattle.mv_bindings.specs.declared.action.Action.{Action}
use Rattle.mv_image.specs.Spelling.{Fields}
use Rattle.mv_list.specs.Changes.{patched_text}
use Rattle.mv_machine.specs.Snapshots.{Snapshot}
use Rattle.mv_machine.specs.declared.machine.Stopped.{Stopped}
use Rattle.mv_machine.specs.declared.machine.Stopped.TheVariants.{Ended, Trapped, Steps, InputFault, OutputFault, Fault, Memory}
use Rattle.mv_meaning.specs.Meaning.{mean}
use Rattle.mv_count_words.specs.Lines.{line_count}
use Rattle.mv_count_words.specs.Owed.{CountsWords}

module _ (p : Program) (image : Fields) (actions : List Action) (steps : ℕ) (machine : Snapshot) where
  -- The changed words have as many lines as the bindings owe that are meant at the bound `steps`: at least one for the entry of each bound function, one for
  -- each direct call of it, and four for each call through each bound pointer switch; and none exactly where that is none.
  abbrev pub CountsLines : (bytes : List ℕ) → Type 0
  CountsLines bytes = CountsWords p (mean p bytes actions steps).bindings (line_count (patched_text image machine.room.held))

  -- so it is where the program has ended
  abbrev pub CountsOn : (bytes : List ℕ) → Stopped → Type 0
  CountsOn bytes (Ended status) = CountsLines bytes
  CountsOn bytes (Trapped code) = CountsLines bytes
  CountsOn bytes Steps = Unit {0}
  CountsOn bytes InputFault = Unit {0}
  CountsOn bytes OutputFault = Unit {0}
  CountsOn bytes (Fault pc why) = Unit {0}
  CountsOn bytes Memory = Unit {0}
