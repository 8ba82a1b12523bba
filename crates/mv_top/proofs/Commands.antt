-- From what comes of each command to what comes of the words.
use Rattle.std.proofs.Common.{ℕ, ◌≡◌, Bool, List, [], refl, subst, Option, Some, ◌∙◌}
use Rattle.std.specs.Prelude.{MatchOption}
use Rattle.mv_bindings.specs.declared.binding.Event.{Event}
use Rattle.mv_command.specs.Commands.{asked, Builds, Checks, Converts, Disassembles, Evaluates, Generates, Lists, Prints, IsCommand, IsNoCommand}
use Rattle.mv_command.specs.declared.command.Command.{Command}
use Rattle.mv_command.specs.declared.conversion.Conversion.{Conversion}
use Rattle.mv_notes.specs.declared.status.Status.{Status}
use Rattle.mv_notes.specs.declared.status.Status.TheVariants.{Usage, Memory, Done}
use Rattle.mv_top.specs.Building.{BuildsFile}
use Rattle.mv_top.specs.Checking.{ChecksFile}
use Rattle.mv_top.specs.Converting.{ConvertsFile}
use Rattle.mv_top.specs.Evaluating.{EvaluatesFile}
use Rattle.mv_top.specs.Generating.{GenDoes}
use Rattle.mv_top.specs.Listing.{DisassemblesFile, ListsFile, ShowsFile}
use Rattle.mv_top.specs.Outcomes.{Comes, done, unread, usage}
use Rattle.mv_top.specs.Outside.{Outside, KeepsFiles, Writes}
use Rattle.mv_top.specs.Shown.{shown_by_list, text_shown}
use Rattle.mv_top.specs.Uses.{Uses}
use Rattle.mv_top.specs.declared.list.Shown.{Shown}
use Rattle.mv_top.proofs.Performing.{alone}

-- the command that was found
pub is_command : (words : List (List ℕ)) (found : Option Command) (command what : Command) → MatchOption found (IsNoCommand words) (λ c. IsCommand words (asked c)) →
    found ≡ Some command → command ≡ what → IsCommand words (asked what)
is_command words found command what is same this =
    subst (λ c. IsCommand words (asked c)) this (subst (λ f. MatchOption f (IsNoCommand words) (λ c. IsCommand words (asked c))) same is)

-- what `list` shows is what is written
pub listed_by : (before after : Outside) (file : List ℕ) (words : Bool) (shown : Shown) (status : Status) → shown ≡ shown_by_list words → ShowsFile (text_shown shown) before after file status → ListsFile before after file words status
listed_by before after file words shown status same shows = subst (λ s. ShowsFile (text_shown s) before after file status) same shows

module _ (before after : Outside) (Heard : List Event → Type 0) (words : List (List ℕ)) (lines : List ℕ) (status due : Status) (none : lines ≡ []) (same : status ≡ due) (unheard : Heard []) where
  abbrev Came : List ℕ → Status → Type 0
  Came l s = Comes before after Heard words l s

  pub no_command : due ≡ Usage → IsNoCommand words → after ≡ before → Came lines status
  no_command is never untouched = alone Came lines status Usage none (same ∙ is) (usage never untouched unheard)

  pub no_memory : due ≡ Memory → after ≡ before → Came lines status
  no_memory is untouched = alone Came lines status Memory none (same ∙ is) (unread untouched unheard)

  pub built : (file image : List ℕ) → IsCommand words (Builds file image) → BuildsFile before after file image due → Uses before after (Builds file image) due → Came lines status
  built file image command builds uses = alone Came lines status due none same (done (Builds file image) [] due command ((builds, (refl, unheard)), uses))

  pub listed : (file : List ℕ) (shown : Bool) → IsCommand words (Lists file shown) → ListsFile before after file shown due → KeepsFiles before after → Uses before after (Lists file shown) due → Came lines status
  listed file shown command lists keeps uses = alone Came lines status due none same (done (Lists file shown) [] due command ((lists, keeps, (refl, unheard)), uses))

  pub converted : (conversion : Conversion) (from to : List ℕ) → IsCommand words (Converts conversion from to) → ConvertsFile before after conversion from to due →
      Uses before after (Converts conversion from to) due → Came lines status
  converted conversion from to command converts uses = alone Came lines status due none same (done (Converts conversion from to) [] due command ((converts, (refl, unheard)), uses))

  pub disassembled : (file : List ℕ) → IsCommand words (Disassembles file) → DisassemblesFile before after file due → KeepsFiles before after → Uses before after (Disassembles file) due →
      Came lines status
  disassembled file command shows keeps uses = alone Came lines status due none same (done (Disassembles file) [] due command ((shows, keeps, (refl, unheard)), uses))

  pub checked : (file image : List ℕ) → IsCommand words (Checks file image) → ChecksFile before after file image due → KeepsFiles before after → Uses before after (Checks file image) due →
      Came lines status
  checked file image command checks keeps uses = alone Came lines status due none same (done (Checks file image) [] due command ((checks, keeps, (refl, unheard)), uses))

  pub evaluated : (file : List ℕ) (bound : ℕ) → IsCommand words (Evaluates file bound) → EvaluatesFile before after file bound due → KeepsFiles before after → Uses before after (Evaluates file bound) due → Came lines status
  evaluated file bound command evaluates keeps uses = alone Came lines status due none same (done (Evaluates file bound) [] due command ((evaluates, keeps, (refl, unheard)), uses))

  pub printed : (text : List ℕ) → IsCommand words (Prints text) → Writes before.environment after.environment text Done due → after.environment.input ≡ before.environment.input →
      after.environment.way ≡ before.environment.way → KeepsFiles before after → Uses before after (Prints text) due → Came lines status
  printed text command writes input way keeps uses =
      alone Came lines status due none same (done (Prints text) [] due command ((writes, input, way, keeps, (refl, unheard)), uses))

module _ (before after : Outside) (Heard : List Event → Type 0) (words : List (List ℕ)) (lines : List ℕ) (status due : Status) (none : lines ≡ []) (same : status ≡ due) where
  pub made : (number : ℕ) (source : Bool) → IsCommand words (Generates number source) → GenDoes before.environment after.environment Heard number source due →
      after.environment.input ≡ before.environment.input → KeepsFiles before after → Uses before after (Generates number source) due → Comes before after Heard words lines status
  made number source command does input keeps uses =
      alone (λ l s. Comes before after Heard words l s) lines status due none same (done (Generates number source) [] due command ((does, input, keeps, refl), uses))
