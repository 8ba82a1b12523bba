-- What is written to the notes: the lines that were asked for, and the last line.
use Rattle.std.specs.Prelude.{ℕ, ◌≡◌, ◌^◌, ◌-◌, Bool, true, false, if◌then◌else◌, Option, Some, None, List, [], ◌∷◌, ◌++◌, codes}
use Rattle.std.specs.Fmt.{decimal, digits, format_spec, padded_integral}
use Rattle.mv_isa.specs.declared.instr.Cause.{Cause}
use Rattle.mv_isa.specs.declared.instr.Cause.TheVariants as cause
use Rattle.mv_bindings.specs.declared.binding.Event.{Event}
use Rattle.mv_command.specs.declared.command.RunOptions.{RunOptions}
use Rattle.mv_image.specs.Spelling.{Fields}
use Rattle.mv_list.specs.Bindings.{bindings_text}
use Rattle.mv_list.specs.Changes.{patched_text}
use Rattle.mv_list.specs.Events.{events_text}
use Rattle.mv_list.specs.Places.{place_text}
use Rattle.mv_machine.specs.Snapshots.{Snapshot}
use Rattle.mv_machine.specs.declared.machine.Report.{Report}
use Rattle.mv_machine.specs.declared.machine.Stopped.{Stopped}
use Rattle.mv_machine.specs.declared.machine.Stopped.TheVariants as stop
use Rattle.mv_eval.specs.Grown.{Grew, GrewLess}
use Rattle.mv_io.specs.Outside.{Rose}
use Rattle.mv_front.specs.Refusals.{refusal_text}
use Rattle.mv_notes.specs.declared.status.Status.{Status}
use Rattle.mv_notes.specs.declared.status.Status.TheVariants.{Ended, Trapped, Usage, Refused, Memory, InputFault, OutputFault, ShelfFault, Steps, BadImage, MachineFault, Done, BadLine, Differs}

-- eight hexadecimal digits
abbrev pub word_text : ℕ → List ℕ
word_text word = padded_integral (format_spec 32 0 4 8 (2 ^ 64 - 1)) false [] (digits 16 false word)

abbrev pub cause_name : Cause → List ℕ
cause_name cause.Fetch = codes "fetch"
cause_name cause.Undefined = codes "undefined"
cause_name cause.Jump = codes "jump"
cause_name cause.Load = codes "load"
cause_name cause.Store = codes "store"
cause_name cause.Break = codes "break"
cause_name cause.Call = codes "call"

-- the text of a status, which is the last line of the notes without its line feed
abbrev pub status_text : Status → List ℕ
status_text (Ended status) = codes "ended " ++ decimal status
status_text (Trapped code) = codes "trapped " ++ decimal code
status_text Usage = codes "usage"
status_text (Refused refusal) = refusal_text refusal
status_text Memory = codes "out of memory"
status_text InputFault = codes "input fault"
status_text OutputFault = codes "output fault"
status_text ShelfFault = codes "shelf fault"
status_text Steps = codes "steps"
status_text (BadImage code offset) = codes "bad image " ++ (decimal code ++ (codes " " ++ decimal offset))
status_text (MachineFault address cause) = codes "machine fault 0x" ++ (word_text address ++ (codes " " ++ cause_name cause))
status_text Done = codes "done"
status_text (BadLine code line) = codes "refused " ++ (decimal code ++ (codes " " ++ (decimal line ++ codes ":1")))
status_text (Differs offset) = codes "differs " ++ decimal offset

abbrev pub last_line : Status → List ℕ
last_line status = status_text status ++ 10 ∷ []

-- nothing is written to the notes where memory was refused or a write failed
abbrev pub is_silent : Status → Bool
is_silent (Ended status) = false
is_silent (Trapped code) = false
is_silent Usage = false
is_silent (Refused refusal) = false
is_silent Memory = true
is_silent InputFault = false
is_silent OutputFault = true
is_silent ShelfFault = false
is_silent Steps = false
is_silent (BadImage code offset) = false
is_silent (MachineFault address cause) = false
is_silent Done = false
is_silent (BadLine code line) = false
is_silent (Differs offset) = false

-- how many instructions were executed
abbrev pub stats_line : ℕ → List ℕ
stats_line count = codes "instructions " ++ (decimal count ++ codes "\n")

-- from where a run departed last: the function in whose code that is, or the address
abbrev pub place_line : Fields → Option ℕ → List ℕ
place_line image None = []
place_line image (Some address) = codes "at " ++ (place_text image address ++ codes "\n")

-- that line is written of a run that trapped
abbrev pub trap_line : Fields → Stopped → Option ℕ → List ℕ
trap_line image (stop.Trapped code) place = place_line image place
trap_line image other place = []

-- The lines that a run is asked for, of its image, of the machine as it stopped, of its log and of what is reported: each changed binding, what each attributed
-- function and then each pointer switch is bound to, the words of text that are other than the image's, and the number of instructions, with the place behind
-- a trap.
abbrev pub asked_lines : RunOptions → Fields → Snapshot → (log : List Event) → Report → List ℕ
asked_lines options image machine log report =
    (if options.log then events_text image log else []) ++
    ((if options.bindings then bindings_text image machine.bindings else []) ++
    ((if options.words then patched_text image machine.room.held else []) ++ (if options.stats then stats_line report.executed ++ trap_line image report.stopped report.departed else [])))

-- what the notes are owed: the lines that were asked for, and then the last line
abbrev pub owed : (lines : List ℕ) → Status → List ℕ
owed lines status = if is_silent status then [] else lines ++ last_line status

-- What became of the notes, of these lines and the status that was due, by what they tell as written and their count of faults: they grew by what they are owed,
-- no write failed, and that is the status; or there was no memory for it, and they are as they were; or a write failed, and they grew by less.
pub data Noted (lines : List ℕ) (due : Status) (was is : Option (List ℕ)) (faults faults' : ℕ) : Status → Type 0 where
  written : Grew was is (owed lines due) → faults' ≡ faults → Noted lines due was is faults faults' due
  unmade : is ≡ was → faults' ≡ faults → Noted lines due was is faults faults' Memory
  cut : GrewLess was is (owed lines due) → Rose faults faults' → Noted lines due was is faults faults' OutputFault

-- the process status
abbrev pub number_of : Status → ℕ
number_of (Ended status) = 0
number_of (Trapped code) = 1
number_of Usage = 2
number_of (Refused refusal) = 3
number_of Memory = 4
number_of InputFault = 5
number_of OutputFault = 6
number_of ShelfFault = 7
number_of Steps = 8
number_of (BadImage code offset) = 9
number_of (MachineFault address cause) = 10
number_of Done = 0
number_of (BadLine code line) = 3
number_of (Differs offset) = 11

-- the device that a status names: the input, the output, or the shelf
abbrev pub names_input : Status → Bool
names_input InputFault = true
names_input other = false

abbrev pub names_output : Status → Bool
names_output OutputFault = true
names_output other = false

abbrev pub names_shelf : Status → Bool
names_shelf ShelfFault = true
names_shelf other = false
