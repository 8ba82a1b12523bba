-- Which status comes where no count of faults rises.
use Rattle.std.specs.Prelude.{ℕ, ◌≡◌, ◌⊎◌, Bool, true, false, List, [], ◌++◌, IsTrue, Option}
use Rattle.mv_ast.specs.declared.program.Program.{Program}
use Rattle.mv_bindings.specs.declared.action.Action.{Action}
use Rattle.mv_io.specs.Outside.{AreToldBytes, OnInput, Rose}
use Rattle.mv_io.specs.Shelves.{Files, Lacks}
use Rattle.mv_front.specs.Verdicts.{IsProgram, IsRefused}
use Rattle.mv_front.specs.declared.refusal.Refusal.{Refusal}
use Rattle.mv_refine.specs.Verdicts.{PassesLimit}
use Rattle.mv_gen_accepted.specs.Counted.{IsWithinCounts}
use Rattle.mv_image.specs.Faults.{Spells}
use Rattle.mv_image.specs.Spelling.{Fields}
use Rattle.mv_exec.specs.Loading.{IsBadImage}
use Rattle.mv_gen.specs.Generated.{generated}
use Rattle.mv_refine.specs.Environment.{Writing, ReadFailed, WriteFailed}
use Rattle.mv_refine.specs.Meant.{IsEnough}
use Rattle.mv_meaning.specs.Meaning.{mean}
use Rattle.mv_meaning.specs.declared.meant.End.{End}
use Rattle.mv_meaning.specs.declared.meant.End.TheVariants.{More}
use Rattle.mv_eval.specs.Evaluations.{IsInput, meaning}
use Rattle.mv_command.specs.Commands.{Asked, Runs, Builds, Executes, Lists, Evaluates, Generates, Converts, Disassembles, Checks, Prints, IsCommand, IsNoCommand}
use Rattle.mv_command.specs.declared.command.RunOptions.{RunOptions}
use Rattle.mv_command.specs.declared.conversion.Conversion.{Conversion}
use Rattle.mv_command.specs.declared.conversion.Conversion.TheVariants.{Upgrade, Assemble, ToElf, FromElf}
use Rattle.mv_convert.specs.Causes.{IsMemory, IsNotConverted}
use Rattle.mv_convert.specs.Conversions.{IsConverted}
use Rattle.mv_convert.specs.declared.error.ConvertError.{ConvertError}
use Rattle.mv_command.specs.Spelled.{default_steps}
use Rattle.mv_actions.specs.Operator.{IsActions, IsFirstWrong, IsImageActions, IsImageFirstWrong}
use Rattle.mv_notes.specs.declared.status.Status.{Status}
use Rattle.mv_notes.specs.declared.status.Status.TheVariants.{Ended, Trapped, Usage, Refused, Memory, ShelfFault, Steps, BadImage, MachineFault, Done}
use Rattle.mv_top.specs.Building.{IsBuiltAs}
use Rattle.mv_top.specs.Checking.{CompareDoes}
use Rattle.mv_top.specs.Converting.{status_of_conversion}
use Rattle.mv_top.specs.Evaluating.{status_of_end}
use Rattle.mv_top.specs.Generating.{is_summed_up}
use Rattle.mv_top.specs.Outside.{Outside, ShelfFailed, Tells}
use Rattle.mv_top.specs.Running.{no_action}

-- no count of faults rose
pub record Quiet (before after : Outside) (was is : Writing) : Type 0 where
  pub shelf : ShelfFailed before after → ⊥
  pub input : ReadFailed before.environment after.environment → ⊥
  pub output : WriteFailed before.environment after.environment → ⊥
  pub notes : Rose was.faults is.faults → ⊥

-- ---- what a command loads

-- it loads this file
abbrev pub IsLoaded : Asked → (file : List ℕ) → Type 0
IsLoaded (Runs file options) loaded = loaded ≡ file
IsLoaded (Builds file image) loaded = loaded ≡ file
IsLoaded (Executes file options) loaded = loaded ≡ file
IsLoaded (Lists file words) loaded = loaded ≡ file
IsLoaded (Evaluates file bound) loaded = loaded ≡ file
IsLoaded (Generates number source) loaded = ⊥
IsLoaded (Converts conversion from to) loaded = loaded ≡ from
IsLoaded (Disassembles file) loaded = loaded ≡ file
IsLoaded (Checks file image) loaded = loaded ≡ file
IsLoaded (Prints text) loaded = ⊥

-- it reads what it loads as a source
abbrev pub reads_source : Asked → Bool
reads_source (Runs file options) = true
reads_source (Builds file image) = true
reads_source (Executes file options) = false
reads_source (Lists file words) = false
reads_source (Evaluates file bound) = true
reads_source (Generates number source) = false
reads_source (Converts conversion from to) = false
reads_source (Disassembles file) = false
reads_source (Checks file image) = true
reads_source (Prints text) = false

-- it reads what it loads as an image
abbrev pub converts_image : Conversion → Bool
converts_image Upgrade = true
converts_image Assemble = false
converts_image ToElf = true
converts_image FromElf = false

abbrev pub reads_image : Asked → Bool
reads_image (Runs file options) = false
reads_image (Builds file image) = false
reads_image (Executes file options) = true
reads_image (Lists file words) = true
reads_image (Evaluates file bound) = false
reads_image (Generates number source) = false
reads_image (Converts conversion from to) = converts_image conversion
reads_image (Disassembles file) = true
reads_image (Checks file image) = false
reads_image (Prints text) = false

-- ---- answers

-- this status, or want of memory
abbrev pub Is : (result status : Status) → Type 0
Is result status = (result ≡ status) ⊎ (result ≡ Memory)

-- A program is refused for a limit of what is compiled, which it passes. So it isn't within the counts over the source.
pub record IsTooLarge (p : Program) (result : Status) : Type 0 where
  pub refusal : Refusal
  pub passes : PassesLimit p refusal
  pub uncounted : IsWithinCounts p → ⊥
  pub is : result ≡ Refused refusal

-- this status, or want of memory, or the refusal of a program that is too large
abbrev pub IsWithinLimits : (result status : Status) → Program → Type 0
IsWithinLimits result status p = Is result status ⊎ IsTooLarge p result

-- bytes are compared with an image of a text, or memory was wanting
abbrev pub IsCompared : (result : Status) → (text bytes : List ℕ) → Type 0
IsCompared result text bytes = (result ≡ Memory) ⊎ ((due : List ℕ) × IsBuiltAs text due × CompareDoes due bytes result)

-- how a run of an image stands: it ended, trapped, faulted, or goes on
abbrev pub IsStop : Status → Type 0
IsStop (Ended status) = Unit {0}
IsStop (Trapped code) = Unit {0}
IsStop Steps = Unit {0}
IsStop (MachineFault pc why) = Unit {0}
IsStop other = ⊥

-- it stands so, or memory was wanting
abbrev pub Stands : Status → Type 0
Stands result = IsStop result ⊎ (result ≡ Memory)

-- a generated program ended, trapped or used up its steps, or memory was wanting
abbrev pub IsSummedUp : Status → Type 0
IsSummedUp result = IsTrue (is_summed_up result) ⊎ (result ≡ Memory)

-- a program has this end at a bound for which so many instructions are time enough
pub record Ends (p : Program) (actions : List Action) (bytes : List ℕ) (steps bound : ℕ) (e : End) : Type 0 where
  pub enough : IsEnough p actions bytes steps bound
  pub comes : (mean p bytes actions bound).«end» ≡ e
  pub over : e ≡ More → ⊥

-- ---- the status of each command

-- `left`, `left'`: what the input tells as still to come, before and after the command
module _ (words : List (List ℕ)) (files : Option Files) (left left' : Option (List ℕ)) (result : Status) where
  -- a file of these bytes is loaded by the command that the words are
  pub record Loads (asked : Asked) (bytes : List ℕ) : Type 0 where
    pub command : IsCommand words asked
    pub file : List ℕ
    pub loaded : IsLoaded asked file
    pub tells : Tells files file bytes

  -- Each status comes where its cause stands.
  pub record Decides : Type 0 where
    pub usage : IsNoCommand words → Is result Usage
    pub absent : (asked : Asked) (file : List ℕ) → IsCommand words asked → IsLoaded asked file → Lacks files file → Is result ShelfFault
    pub refused : (asked : Asked) (text : List ℕ) (r : Refusal) → Loads asked text → reads_source asked ≡ true → IsRefused text r → Is result (Refused r)
    pub bad_image : (asked : Asked) (bytes : List ℕ) (code offset : ℕ) → Loads asked bytes → reads_image asked ≡ true → IsBadImage bytes code offset →
        Is result (BadImage code offset)
    -- a run
    pub wrong_item : (file text : List ℕ) (options : RunOptions) (p : Program) (item : ℕ) → Loads (Runs file options) text → IsProgram text p →
        IsFirstWrong p options.items item → IsWithinLimits result (Refused (no_action item)) p
    -- some bytes were taken, and whatever may come behind them, the status is the end of the program on both, where it has one for which there were steps enough
    pub ended : (file text : List ℕ) (options : RunOptions) (p : Program) (actions : List Action) → Loads (Runs file options) text →
        IsProgram text p → IsActions p options.items actions → AreToldBytes left →
        (result ≡ Memory) ⊎ (IsTooLarge p result ⊎ OnInput left left' (λ taken later. (bound : ℕ) (e : End) → Ends p actions (taken ++ later) options.steps bound e → result ≡ status_of_end e))
    pub ran : (file text : List ℕ) (options : RunOptions) (p : Program) (actions : List Action) → Loads (Runs file options) text → IsProgram text p →
        IsActions p options.items actions → Stands result ⊎ IsTooLarge p result
    pub built : (file image text : List ℕ) (p : Program) → Loads (Builds file image) text → IsProgram text p → IsWithinLimits result Done p
    -- a run of an image
    pub no_action_of_image : (file bytes : List ℕ) (options : RunOptions) (image : Fields) (item : ℕ) → Loads (Executes file options) bytes → Spells bytes image →
        IsImageFirstWrong image options.items item → Is result (Refused (no_action item))
    pub executed : (file bytes : List ℕ) (options : RunOptions) (image : Fields) (actions : List Action) → Loads (Executes file options) bytes → Spells bytes image →
        IsImageActions image options.items actions → Stands result
    pub listed : (file bytes : List ℕ) (words : Bool) (image : Fields) → Loads (Lists file words) bytes → Spells bytes image → Is result Done
    pub evaluated : (file text : List ℕ) (bound : ℕ) (p : Program) → Loads (Evaluates file bound) text → IsProgram text p →
        (result ≡ Memory) ⊎ OnInput left left' (λ taken later. IsInput taken later × (result ≡ status_of_end (meaning p bound taken).«end»))
    pub shown : (number : ℕ) → IsCommand words (Generates number true) → Is result Done
    -- a generated program, which is never refused: it has the program's end where there are steps enough
    pub generated_ended : (number bound : ℕ) (p : Program) (e : End) → IsCommand words (Generates number false) → IsProgram (generated number) p →
        Ends p [] [] default_steps bound e → Is result (status_of_end e)
    pub generated_runs : (number : ℕ) → IsCommand words (Generates number false) → IsSummedUp result
    -- a conversion
    pub converted : (conversion : Conversion) (from to bytes made : List ℕ) → Loads (Converts conversion from to) bytes → IsConverted conversion bytes made → Is result Done
    pub unconverted : (conversion : Conversion) (from to bytes : List ℕ) (error : ConvertError) → Loads (Converts conversion from to) bytes → IsNotConverted conversion bytes error →
        (IsMemory error → ⊥) → Is result (status_of_conversion error)
    pub disassembled : (file bytes : List ℕ) (image : Fields) → Loads (Disassembles file) bytes → Spells bytes image → Is result Done
    -- a check, which compares with the file that the other name has
    pub nothing_compared : (file image text : List ℕ) (p : Program) → Loads (Checks file image) text → IsProgram text p → Lacks files image → IsWithinLimits result ShelfFault p
    pub compared : (file image text bytes : List ℕ) (p : Program) → Loads (Checks file image) text → IsProgram text p → Tells files image bytes →
        IsCompared result text bytes ⊎ IsTooLarge p result
    pub printed : (text : List ℕ) → IsCommand words (Prints text) → Is result Done
