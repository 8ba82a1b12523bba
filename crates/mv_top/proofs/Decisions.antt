-- Which status comes of a command, from what each status says.
use Rattle.std.proofs.Common.{ℕ, ◌≡◌, ◌⊎◌, inl, inr, true, false, List, refl, subst, Option}
use Rattle.mv_ast.specs.declared.program.Program.{Program}
use Rattle.mv_bindings.specs.declared.binding.Event.{Event}
use Rattle.mv_io.specs.Shelves.{Files, Lacks}
use Rattle.mv_gen_accepted.specs.Counted.{CountedPassNone}
use Rattle.mv_front.specs.Verdicts.{IsRefused}
use Rattle.mv_front.specs.declared.refusal.Refusal.{Refusal}
use Rattle.mv_exec.specs.Loading.{IsBadImage}
use Rattle.mv_refine.specs.Environment.{Writing}
use Rattle.mv_command.specs.Commands.{Asked, Runs, Builds, Executes, Lists, Evaluates, Generates, Converts, Disassembles, Checks, Prints, IsCommand, IsNoCommand}
use Rattle.mv_command.proofs.Same.{same_asked}
use Rattle.mv_notes.specs.Lines.{Noted, written, unmade, cut}
use Rattle.mv_notes.specs.declared.status.Status.{Status}
use Rattle.mv_notes.specs.declared.status.Status.TheVariants.{Usage, Refused, Memory, ShelfFault, BadImage}
use Rattle.mv_top.specs.Decisions.{Decides, Is, IsCompared, IsLoaded, IsSummedUp, IsTooLarge, IsWithinLimits, Quiet, Stands, reads_image, reads_source}
use Rattle.mv_top.specs.Outcomes as outcomes
use Rattle.mv_top.specs.Outcomes.{Comes, Does, IsCarriedOut, IsDue}
use Rattle.mv_top.specs.Outside.{Outside, Tells}
use Rattle.mv_top.specs.Shown.{shown_by_list, text_shown}
use Rattle.mv_top.specs.declared.list.Shown.TheVariants.{Assembler}
use Rattle.mv_top.proofs.RunsDecided.{run_ended, run_refused, run_stands, run_wrong_item}
use Rattle.mv_top.proofs.FilesDecided.{build_done, build_refused, check_compared, check_lacks, check_refused, convert_bad, convert_done, convert_fails, show_bad, show_done, written_whole}
use Rattle.mv_top.proofs.OthersDecided.{eval_ended, eval_refused, exec_bad, exec_stands, exec_wrong_item, gen_ended, gen_summed, source_done}
use Rattle.mv_top.proofs.ToldFiles.{given, lacking}

-- ---- one cause

-- a fact of what comes of the bytes, or want of memory
or_memory : {Came : Type 0} {status due : Status} → (Came → Is status due) → Came ⊎ (status ≡ Memory) → Is status due
or_memory so (inl came) = so came
or_memory so (inr none) = inr none

or_limits : {Came : Type 0} {status due : Status} {p : Program} → (Came → IsWithinLimits status due p) → Came ⊎ (status ≡ Memory) → IsWithinLimits status due p
or_limits so (inl came) = so came
or_limits so (inr none) = inl (inr none)

or_large : {Came : Type 0} {status : Status} {p : Program} → (Came → Stands status ⊎ IsTooLarge p status) → Came ⊎ (status ≡ Memory) → Stands status ⊎ IsTooLarge p status
or_large so (inl came) = so came
or_large so (inr none) = inl (inr none)

or_compared : {Came : Type 0} {status : Status} {text bytes : List ℕ} {p : Program} → (Came → IsCompared status text bytes ⊎ IsTooLarge p status) → Came ⊎ (status ≡ Memory) →
    IsCompared status text bytes ⊎ IsTooLarge p status
or_compared so (inl came) = so came
or_compared so (inr none) = inl (inl none)

or_none : {Came Due : Type 0} {status : Status} → (Came → (status ≡ Memory) ⊎ Due) → Came ⊎ (status ≡ Memory) → (status ≡ Memory) ⊎ Due
or_none so (inl came) = so came
or_none so (inr none) = inl none

or_summed : {Came : Type 0} {status : Status} → (Came → IsSummedUp status) → Came ⊎ (status ≡ Memory) → IsSummedUp status
or_summed so (inl came) = so came
or_summed so (inr none) = inr none

or_stands : {Came : Type 0} {status : Status} → (Came → Stands status) → Came ⊎ (status ≡ Memory) → Stands status
or_stands so (inl came) = so came
or_stands so (inr none) = inr none

-- ---- each command

module _ (counted : CountedPassNone) (before after : Outside) (Heard : List Event → Type 0) (was is : Writing) (quiet : Quiet before after was is) where
  abbrev Did : Asked → List ℕ → Status → Type 0
  Did asked lines status = Does before after Heard asked lines status

  absent : (asked : Asked) (lines : List ℕ) (status : Status) → Did asked lines status → (file : List ℕ) → IsLoaded asked file → Lacks before.shelf.files file → Is status ShelfFault
  absent (Runs f options) lines status does file e lacks = lacking before after quiet.shelf _ f _ does.0 file e lacks
  absent (Builds f image) lines status does file e lacks = lacking before after quiet.shelf _ f _ does.0 file e lacks
  absent (Executes f options) lines status does file e lacks = lacking before after quiet.shelf _ f _ does.0 file e lacks
  absent (Lists f shown) lines status does file e lacks = lacking before after quiet.shelf _ f _ does.0 file e lacks
  absent (Evaluates f bound) lines status does file e lacks = lacking before after quiet.shelf _ f _ does.0 file e lacks
  absent (Generates number source) lines status does file e lacks = absurd e
  absent (Converts conversion from to) lines status does file e lacks = lacking before after quiet.shelf _ from _ does.0 file e lacks
  absent (Disassembles f) lines status does file e lacks = lacking before after quiet.shelf _ f _ does.0 file e lacks
  absent (Checks f image) lines status does file e lacks = lacking before after quiet.shelf _ f _ does.0 file e lacks
  absent (Prints text) lines status does file e lacks = absurd e

  module _ (file bytes : List ℕ) (tells : Tells before.shelf.files file bytes) where
    refused : (asked : Asked) (lines : List ℕ) (status : Status) → Did asked lines status → IsLoaded asked file → reads_source asked ≡ true → (r : Refusal) → IsRefused bytes r →
        Is status (Refused r)
    refused (Runs f options) lines status does e reads r why =
        or_memory (λ came. run_refused before.environment after.environment quiet.input quiet.output bytes Heard options came r why) (given before after quiet.shelf _ f _ does.0 file bytes e tells)
    refused (Builds f image) lines status does e reads r why =
        or_memory (λ came. build_refused before after quiet.shelf image bytes came.0 r why) (given before after quiet.shelf _ f _ does.0 file bytes e tells)
    refused (Executes f options) lines status does e reads r why = cc
    refused (Lists f shown) lines status does e reads r why = cc
    refused (Evaluates f bound) lines status does e reads r why =
        or_memory (λ came. eval_refused before.environment after.environment quiet.input quiet.output bytes bound came.0 r why) (given before after quiet.shelf _ f _ does.0 file bytes e tells)
    refused (Generates number source) lines status does e reads r why = cc
    refused (Converts conversion from to) lines status does e reads r why = cc
    refused (Disassembles f) lines status does e reads r why = cc
    refused (Checks f image) lines status does e reads r why =
        or_memory (λ came. check_refused before after quiet.shelf image bytes came.0 r why) (given before after quiet.shelf _ f _ does.0 file bytes e tells)
    refused (Prints text) lines status does e reads r why = absurd e

    bad : (asked : Asked) (lines : List ℕ) (status : Status) → Did asked lines status → IsLoaded asked file → reads_image asked ≡ true → (code offset : ℕ) →
        IsBadImage bytes code offset → Is status (BadImage code offset)
    bad (Runs f options) lines status does e image_file code offset why = cc
    bad (Builds f image) lines status does e image_file code offset why = cc
    bad (Executes f options) lines status does e image_file code offset why =
        or_memory (λ came. exec_bad before.environment after.environment quiet.input quiet.output bytes Heard options came code offset why)
        (given before after quiet.shelf _ f _ does.0 file bytes e tells)
    bad (Lists f shown) lines status does e image_file code offset why =
        or_memory (λ came. show_bad (text_shown (shown_by_list shown)) before.environment after.environment quiet.output bytes came.0 code offset why) (given before after quiet.shelf _ f _ does.0 file bytes e tells)
    bad (Evaluates f bound) lines status does e image_file code offset why = cc
    bad (Generates number source) lines status does e image_file code offset why = absurd e
    bad (Converts conversion from to) lines status does e image_file code offset why =
        or_memory (λ came. convert_bad before after quiet.shelf to bytes conversion image_file came.0 code offset why) (given before after quiet.shelf _ from _ does.0 file bytes e tells)
    bad (Disassembles f) lines status does e image_file code offset why =
        or_memory (λ came. show_bad (text_shown Assembler) before.environment after.environment quiet.output bytes came.0 code offset why) (given before after quiet.shelf _ f _ does.0 file bytes e tells)
    bad (Checks f image) lines status does e image_file code offset why = cc
    bad (Prints text) lines status does e image_file code offset why = absurd e

  module _ (words : List (List ℕ)) where
    abbrev Came : List ℕ → Status → Type 0
    Came lines status = Comes before after Heard words lines status

    usage_of : {lines : List ℕ} {status : Status} → Came lines status → IsNoCommand words → Is status Usage
    usage_of (outcomes.usage none untouched unheard) never = inl refl
    usage_of (outcomes.unread untouched unheard) never = inr refl
    usage_of (outcomes.done asked lines status c does) never = absurd (never asked c)

    -- what comes of the command that the words are, or there was no memory to read them
    did : {lines : List ℕ} {status : Status} → Came lines status → (asked : Asked) → IsCommand words asked → Did asked lines status ⊎ (status ≡ Memory)
    did (outcomes.usage none untouched unheard) asked c = absurd (none asked c)
    did (outcomes.unread untouched unheard) asked c = inr refl
    did (outcomes.done other lines status d does) asked c = inl (subst (λ a. Did a lines status) (same_asked d c) does.0)

    module _ (lines : List ℕ) (status : Status) (came : Came lines status) where
      abbrev files : Option Files
      files = before.shelf.files

      decided : Decides words files before.environment.input.left after.environment.input.left status
      decided = record {
        usage = usage_of came;
        absent = λ asked file c loaded lacks. or_memory (λ does. absent asked lines status does file loaded lacks) (did came asked c);
        refused = λ asked text r l source why. or_memory (λ does. refused l.file text l.tells asked lines status does l.loaded source r why) (did came asked l.command);
        bad_image = λ asked bytes code offset l image_file why. or_memory (λ does. bad l.file bytes l.tells asked lines status does l.loaded image_file code offset why) (did came asked l.command);
        wrong_item = λ file text options p item l good wrong.
            or_limits (λ does. or_limits (λ ran. run_wrong_item before.environment after.environment quiet.input quiet.output text Heard options counted p good ran item wrong)
            (given before after quiet.shelf _ file _ does.0 l.file text l.loaded l.tells)) (did came (Runs file options) l.command);
        ended = λ file text options p actions l good are told.
            or_none (λ does. or_none (λ ran. run_ended before.environment after.environment quiet.input quiet.output text Heard options counted p good actions are ran told)
            (given before after quiet.shelf _ file _ does.0 l.file text l.loaded l.tells)) (did came (Runs file options) l.command);
        ran = λ file text options p actions l good are.
            or_large (λ does. or_large (λ ran. run_stands before.environment after.environment quiet.input quiet.output text Heard options counted p good actions are ran)
            (given before after quiet.shelf _ file _ does.0 l.file text l.loaded l.tells)) (did came (Runs file options) l.command);
        built = λ file image text p l good.
            or_limits (λ does. or_limits (λ made. build_done before after quiet.shelf image text counted made.0 p good)
            (given before after quiet.shelf _ file _ does.0 l.file text l.loaded l.tells)) (did came (Builds file image) l.command);
        no_action_of_image = λ file bytes options image item l spells wrong.
            or_memory (λ does. or_memory (λ ran. exec_wrong_item before.environment after.environment quiet.input quiet.output bytes Heard options image spells ran item wrong)
            (given before after quiet.shelf _ file _ does.0 l.file bytes l.loaded l.tells)) (did came (Executes file options) l.command);
        executed = λ file bytes options image actions l spells are.
            or_stands (λ does. or_stands (λ ran. exec_stands before.environment after.environment quiet.input quiet.output bytes Heard options image spells ran actions are)
            (given before after quiet.shelf _ file _ does.0 l.file bytes l.loaded l.tells)) (did came (Executes file options) l.command);
        listed = λ file bytes shown image l spells.
            or_memory (λ does. or_memory (λ made. show_done (text_shown (shown_by_list shown)) before.environment after.environment quiet.output bytes made.0 image spells)
            (given before after quiet.shelf _ file _ does.0 l.file bytes l.loaded l.tells)) (did came (Lists file shown) l.command);
        evaluated = λ file text bound p l good.
            or_none (λ does. or_none (λ made. eval_ended before.environment after.environment quiet.input quiet.output text bound made.0 p good)
            (given before after quiet.shelf _ file _ does.0 l.file text l.loaded l.tells)) (did came (Evaluates file bound) l.command);
        shown = λ number c. or_memory (λ does. source_done before.environment after.environment quiet.output Heard number does.0.0) (did came (Generates number true) c);
        generated_ended = λ number bound p e c good ends.
            or_memory (λ does. gen_ended before.environment after.environment quiet.output Heard number counted p good does.0 bound e ends) (did came (Generates number false) c);
        generated_runs = λ number c. or_summed (λ does. gen_summed before.environment after.environment quiet.output Heard number does.0) (did came (Generates number false) c);
        converted = λ conversion from to bytes made l is.
            or_memory (λ does. or_memory (λ came. convert_done before after quiet.shelf to bytes conversion came.0 made is)
            (given before after quiet.shelf _ from _ does.0 l.file bytes l.loaded l.tells)) (did came (Converts conversion from to) l.command);
        unconverted = λ conversion from to bytes error l why some.
            or_memory (λ does. or_memory (λ came. convert_fails before after quiet.shelf to bytes conversion came.0 error why some)
            (given before after quiet.shelf _ from _ does.0 l.file bytes l.loaded l.tells)) (did came (Converts conversion from to) l.command);
        disassembled = λ file bytes image l spells.
            or_memory (λ does. or_memory (λ made. show_done (text_shown Assembler) before.environment after.environment quiet.output bytes made.0 image spells)
            (given before after quiet.shelf _ file _ does.0 l.file bytes l.loaded l.tells)) (did came (Disassembles file) l.command);
        nothing_compared = λ file image text p l good lacks.
            or_limits (λ does. or_limits (λ came. check_lacks before after quiet.shelf image text counted came.0 p good lacks)
            (given before after quiet.shelf _ file _ does.0 l.file text l.loaded l.tells)) (did came (Checks file image) l.command);
        compared = λ file image text bytes p l good tells.
            or_compared (λ does. or_compared (λ came. check_compared before after quiet.shelf image text counted came.0 p good bytes tells)
            (given before after quiet.shelf _ file _ does.0 l.file text l.loaded l.tells)) (did came (Checks file image) l.command);
        printed = λ text c. or_memory (λ does. inl (written_whole before.environment after.environment text _ quiet.output does.0)) (did came (Prints text) c);
      }

    memory_decided : Decides words before.shelf.files before.environment.input.left after.environment.input.left Memory
    memory_decided = record {
      usage = λ never. inr refl;
      absent = λ asked file c loaded lacks. inr refl;
      refused = λ asked text r l source why. inr refl;
      bad_image = λ asked bytes code offset l image_file why. inr refl;
      wrong_item = λ file text options p item l good wrong. inl (inr refl);
      ended = λ file text options p actions l good are told. inl refl;
      ran = λ file text options p actions l good are. inl (inr refl);
      built = λ file image text p l good. inl (inr refl);
      no_action_of_image = λ file bytes options image item l spells wrong. inr refl;
      executed = λ file bytes options image actions l spells are. inr refl;
      listed = λ file bytes shown image l spells. inr refl;
      evaluated = λ file text bound p l good. inl refl;
      shown = λ number c. inr refl;
      generated_ended = λ number bound p e c good ends. inr refl;
      generated_runs = λ number c. inr refl;
      converted = λ conversion from to bytes made l is. inr refl;
      unconverted = λ conversion from to bytes error l why some. inr refl;
      disassembled = λ file bytes image l spells. inr refl;
      nothing_compared = λ file image text p l good lacks. inl (inr refl);
      compared = λ file image text bytes p l good tells. inl (inl refl);
      printed = λ text c. inr refl;
    }

    noted : (lines : List ℕ) (due status : Status) → Came lines due → Noted lines due was.written is.written was.faults is.faults status →
        Decides words before.shelf.files before.environment.input.left after.environment.input.left status
    noted lines due status came (written grew kept) = decided lines due came
    noted lines due status came (unmade same count) = memory_decided
    noted lines due status came (cut less rose) = absurd (quiet.notes rose)

-- ---- from the command to its notes

module _ (before after : Outside) (Heard : List Event → Type 0) (words : List (List ℕ)) (was is : Writing) where
  pub carried_out : CountedPassNone → (due : IsDue (Comes before after Heard words)) (status : Status) → Noted due.lines due.status was.written is.written was.faults is.faults status →
      IsCarriedOut before after Heard words was is status
  carried_out counted due status noted_so = record {
    gives = record { due = due; noted = noted_so };
    decides = λ quiet. noted counted before after Heard was is quiet words due.lines due.status status due.comes noted_so;
  }
