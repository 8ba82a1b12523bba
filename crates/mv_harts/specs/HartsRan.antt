-- What was done in a run of harts, and what is promised of it.
use Rattle.std.specs.Prelude.{ℕ, ◌≡◌, ◌<◌, ◌≤◌, ◌^◌, Bool, List, ◌∷◌, length, slice_get, Option, Some, None, option_map}
use Rattle.std.specs.List.{All}
use Rattle.mv_ast.specs.declared.program.Program.{Program}
use Rattle.mv_bindings.specs.declared.action.Action.{Action}
use Rattle.mv_image.specs.Spelling.{Fields}
use Rattle.mv_io.specs.Outside.{CountAfter, Rose}
use Rattle.mv_probe.specs.Ways.{way_after}
use Rattle.mv_machine.specs.Runs.{bytes_to_come}
use Rattle.mv_harts_runs.specs.Harts.{Hart, Harts}
use Rattle.mv_harts_runs.specs.Alone.{IsWell}
use Rattle.mv_harts_meant.specs.Laws.{Means}
use Rattle.mv_harts_turns.specs.Pairs.{Pairs}
use Rattle.mv_harts_turns.specs.Groups.{asked, bindings_of}
use Rattle.mv_harts_turns.specs.Runs.{Outside, GotAll, bytes_of, harts_of}
use Rattle.mv_harts.specs.declared.ends.HartEnd.{HartEnd}
use Rattle.mv_harts.specs.declared.ends.HartsEnd.{HartsEnd}
use Rattle.mv_harts.specs.declared.ends.HartStop.TheVariants.{InputFault, OutputFault}
use Rattle.mv_harts.specs.Ends.{IsEnd, is_input_fault, is_output_fault}

-- a source tells what is to come, and that is bytes
abbrev pub TellsBytes : Option (List ℕ) → Type 0
TellsBytes None = ⊥
TellsBytes (Some bytes) = All (λ b. b < 2 ^ 8) bytes

-- hart 0, and then the others
abbrev pub all_of : Harts → List Hart
all_of hs = hs.leader ∷ hs.others

-- What is promised of a run of harts on the image of a program, each with these bytes to read.
pub record IsKept (p : Program) (image : Fields) (bytes : ℕ → List ℕ) (hs : Harts) : Type 0 where
  -- No fetch has a stale word to choose; text is that of hart 0's bindings, or between two while its commit is under way, and the same in all harts that haven't ended; each hart is
  -- its own run alone, with what its polls took; and each adopts the commits of hart 0 in order, none skipped.
  pub well : IsWell image (λ h. bytes_to_come (bytes h)) hs
  -- What each hart has done is what the program means in it, with what its polls took: its output is the beginning of that at the bound of its instructions, it
  -- has ended only as that does, and it has done all that is meant at each bound for which there was time.
  pub means : (h : ℕ) (o : Hart) → slice_get (all_of hs) h ≡ Some o → Means p h (bytes h) o

-- The counts of faults of a hart's source and sink: that of the device at which it failed rose, by one at most, and the other is as it was.
pub record Fails (h : ℕ) (was is : Outside) (end : HartEnd) : Type 0 where
  pub input : end.stop ≡ InputFault → Rose (was.inputs h) (is.inputs h)
  pub output : end.stop ≡ OutputFault → Rose (was.outputs h) (is.outputs h)
  pub reading : CountAfter (is_input_fault end.stop) (was.inputs h) (is.inputs h)
  pub writing : CountAfter (is_output_fault end.stop) (was.outputs h) (is.outputs h)

-- What was done is one run of so many harts by a schedule, in which reads and writes failed in some turns; each fetch is by the first choice, as it has one alone.
pub record HartsRan (p : Program) (image : Fields) (actions : List Action) (count : ℕ) (schedule : List ℕ) (was is : Outside) (end : HartsEnd) : Type 0 where
  -- whether its read or write fails, for each turn
  pub failing : List Bool
  pub paired : length failing ≡ length schedule
  -- each hart is told of, and each commit
  pub many : length end.harts ≡ count
  pub harts : Pairs (λ h. IsEnd (bindings_of end.commits)) end.harts (all_of (harts_of image actions count was schedule failing))
  pub commits : (harts_of image actions count was schedule failing).commits ≡ bindings_of end.commits
  -- each source has left what its hart has not read, and each sink got what its hart has written
  pub left : (h : ℕ) → h < count → is.left h ≡ Some (bytes_of is h)
  pub read : (h : ℕ) (o : Hart) → slice_get (all_of (harts_of image actions count was schedule failing)) h ≡ Some o → o.state.input ≡ bytes_to_come (bytes_of is h)
  pub written : GotAll was is (harts_of image actions count was schedule failing)
  -- the oracle was asked for each instruction, and for each read or write that failed
  pub way_is : is.way ≡ option_map (λ w. way_after w (asked (harts_of image actions count was schedule failing))) was.way
  -- a device that failed was asked nothing more
  pub failed : (h : ℕ) (hart : HartEnd) → slice_get end.harts h ≡ Some hart → Fails h was is hart
  pub later_inputs : (h : ℕ) → was.inputs h ≤ is.inputs h
  pub later_outputs : (h : ℕ) → was.outputs h ≤ is.outputs h
  -- and all that is promised of such a run
  pub kept : IsKept p image (bytes_of was) (harts_of image actions count was schedule failing)
