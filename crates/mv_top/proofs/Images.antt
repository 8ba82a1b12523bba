-- From the answers of the layers to what comes of bytes that are run or shown as an image.
use Rattle.std.proofs.Common.{ℕ, ◌≡◌, List, [], ◌++◌, sym, subst}
use Rattle.mv_bindings.specs.declared.action.Action.{Action}
use Rattle.mv_bindings.specs.declared.binding.Event.{Event}
use Rattle.mv_exec.specs.Loading.{IsLoaded, IsNotLoaded, IsNotRead}
use Rattle.mv_exec.specs.declared.error.LoadError.{LoadError}
use Rattle.mv_exec.specs.declared.error.LoadError.TheVariants as load
use Rattle.mv_exec.specs.declared.loaded.Loaded.{Loaded}
use Rattle.mv_image.specs.Faults.{Spells}
use Rattle.mv_image.specs.Spelling.{Fields}
use Rattle.mv_machine.specs.Acts.{polls_of}
use Rattle.mv_actions.specs.Operator.{IsImageActions}
use Rattle.mv_refine.specs.declared.execution.Execution.{Execution}
use Rattle.mv_refine.specs.Environment.{Environment, OneRun}
use Rattle.mv_refine.specs.Execution.{HasCount, HasDeparture, HeardAs}
use Rattle.mv_refine.specs.Run.{Runs}
use Rattle.mv_command.specs.declared.command.RunOptions.{RunOptions}
use Rattle.mv_notes.specs.Lines.{asked_lines}
use Rattle.mv_notes.specs.declared.status.Status.{Status}
use Rattle.mv_notes.specs.declared.status.Status.TheVariants.{Memory, Done}
use Rattle.mv_top.specs.Executing as executing
use Rattle.mv_top.specs.Executing.{ExecDoes, status_of_load}
use Rattle.mv_top.specs.Listing as listing
use Rattle.mv_top.specs.Listing.{ShowDoes}
use Rattle.mv_top.specs.Outside.{Writes}
use Rattle.mv_top.specs.Running.{Unused, status_of_stop}
use Rattle.mv_top.proofs.Performing.{alone}

-- ---- a run

module _ (before after : Environment) (Heard : List Event → Type 0) (options : RunOptions) (bytes : List ℕ) where
  abbrev Ran : (lines : List ℕ) → Status → Type 0
  Ran lines status = ExecDoes before after Heard options bytes lines status

  not_loaded_by : (e : LoadError) → IsNotLoaded bytes options.items e → Unused before after Heard → Ran [] (status_of_load e)
  not_loaded_by (load.BadImage code offset) is unused = executing.no_image code offset is unused
  not_loaded_by (load.Refused item) is unused = executing.wrong_item is.image item is.spells is.first unused
  not_loaded_by (load.Memory m) is unused = executing.unread unused

  pub not_loaded : (lines : List ℕ) (status : Status) (e : LoadError) → lines ≡ [] → status ≡ status_of_load e → IsNotLoaded bytes options.items e → after ≡ before → Heard [] → Ran lines status
  not_loaded lines status e none same is untouched unheard = alone Ran lines status (status_of_load e) none same (not_loaded_by e is (untouched, unheard))

  pub not_started : (lines : List ℕ) (status : Status) → lines ≡ [] → status ≡ Memory → Unused before after Heard → Ran lines status
  not_started lines status none same unused = alone Ran lines status Memory none same (executing.unread unused)

  pub ran : (loaded : Loaded) (actions : List Action) (e : Execution) (log : List Event) → actions ≡ loaded.actions.items → IsLoaded bytes options.items loaded →
      OneRun before after (λ picks taken later. Runs loaded.image (polls_of actions) before after (HeardAs Heard log) e.machine picks taken later options.steps e.report.stopped
      × HasCount loaded.image actions options.steps picks (taken ++ later) e.report × HasDeparture loaded.image actions options.stats picks (taken ++ later) e.report) →
      Ran (asked_lines options loaded.image e.machine log e.report) (status_of_stop e.report.stopped)
  ran loaded actions e log same is runs =
      executing.ran loaded.image actions e log is.image (subst (λ a. IsImageActions loaded.image options.items a) (sym same) is.actions) runs

-- ---- a text of an image

module _ (text_of : Fields → List ℕ) (before after : Environment) (bytes : List ℕ) where
  not_listed_by : (e : LoadError) → IsNotRead bytes e → after ≡ before → ShowDoes text_of before after bytes (status_of_load e)
  not_listed_by (load.BadImage code offset) is untouched = listing.no_image code offset is untouched
  not_listed_by (load.Refused item) is untouched = absurd is
  not_listed_by (load.Memory m) is untouched = listing.unlisted untouched

  pub not_listed : (status : Status) (e : LoadError) → status ≡ status_of_load e → IsNotRead bytes e → after ≡ before → ShowDoes text_of before after bytes status
  not_listed status e same is untouched = subst (λ (s : Status). ShowDoes text_of before after bytes s) (sym same) (not_listed_by e is untouched)

  pub listed_so : (image : Fields) (text : List ℕ) (status : Status) → text ≡ text_of image → Spells bytes image → Writes before after text Done status → ShowDoes text_of before after bytes status
  listed_so image text status same spells writes = listing.listed image status spells (subst (λ t. Writes before after t Done status) same writes)
