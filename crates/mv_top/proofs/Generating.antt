-- From the answers of the layers to what comes of a generated program.
use Rattle.std.proofs.Common.{ℕ, ◌≡◌, ◌≤◌, ◌<◌, ◌^◌, ◌⊎◌, inl, inr, ◌||◌, Bool, true, false, List, [], refl, sym, subst, ◌∙◌, arith, Option}
use Rattle.std.specs.Prelude.{IsTrue}
use Rattle.std.proofs.lemmas.List.Elements.{All-nil}
use Rattle.mv_ast.specs.declared.program.Program.{Program}
use Rattle.mv_bindings.specs.declared.action.Action.{Action}
use Rattle.mv_bindings.specs.declared.binding.Event.{Event}
use Rattle.mv_front.specs.declared.refusal.Refusal.{Refusal}
use Rattle.mv_gen.specs.Generated.{generated}
use Rattle.mv_gen_accepted.specs.Accepted.{TextsHaveImages}
use Rattle.mv_actions.proofs.Acting.{not_both}
use Rattle.mv_image.specs.Spelling.{Fields}
use Rattle.mv_io.specs.Outside.{Rose}
use Rattle.mv_command.specs.declared.command.RunOptions.{RunOptions}
use Rattle.mv_command.specs.declared.oracles.Oracle.TheVariants.{Oldest}
use Rattle.mv_command.specs.declared.items.Item.{Item}
use Rattle.mv_command.specs.declared.options.TheConstants.{DEFAULT_STEPS}
use Rattle.mv_eval.specs.Grown.{Grew, GrewLess}
use Rattle.mv_machine.specs.Acts.{polls_of}
use Rattle.mv_machine.specs.Snapshots.{Snapshot}
use Rattle.mv_machine.specs.declared.machine.Stopped.{Stopped}
use Rattle.mv_machine.specs.declared.machine.Stopped.TheVariants as stop
use Rattle.mv_notes.specs.declared.status.Status.{Status}
use Rattle.mv_notes.specs.declared.status.Status.TheVariants.{Memory, OutputFault, Done}
use Rattle.mv_probe.specs.Ways.{Way}
use Rattle.mv_refine.specs.Environment.{Environment, Reading, Writing, environment}
use Rattle.mv_refine.specs.Meant as meant
use Rattle.mv_refine.specs.Execution.{HeardAs}
use Rattle.mv_refine.specs.Run.{Runs}
use Rattle.mv_top.specs.Generating as spec
use Rattle.mv_top.specs.Generating.{is_cut_short, is_summed_up, no_input, plain, summary, GenDoes, RunsPlainly, RunsText, Sums}
use Rattle.mv_top.specs.Outcomes.{IsDue}
use Rattle.mv_top.specs.Outside.{Writes}
use Rattle.mv_top.specs.Running as running
use Rattle.mv_top.specs.Running.{IsNotRun, RunDoes, status_of_stop}

-- ---- the run of a text without input

module _ (was is : Writing) (way way' : Option Way) (Heard : List Event → Type 0) where
  -- what comes of it without input
  abbrev Ran : RunOptions → (text lines : List ℕ) → Status → Type 0
  Ran options text lines status = RunDoes (environment no_input was way) (environment no_input is way') Heard options text lines status

  -- it is asked for no lines
  no_lines : (text lines : List ℕ) (status : Status) → Ran plain text lines status → Ran plain text [] status
  no_lines text lines status (running.unread unused) = running.unread unused
  no_lines text lines status (running.not_run r why unused) = running.not_run r why unused
  no_lines text lines status (running.ran built actions e log good are one) = running.ran built actions e log good are one

  never_fails : Rose 0 0 → ⊥
  never_fails rose = grind (arith, rose)

  -- no read fails where there is no input, and the machine never faults
  stop_is : (p : Program) (image : Fields) (actions : List Action) (steps : ℕ) (log : List Event) (machine : Snapshot) (picks taken later : List ℕ) (s : Stopped) →
      Runs image (polls_of actions) (environment no_input was way) (environment no_input is way') (HeardAs Heard log) machine picks taken later steps s →
      meant.WroteAndTook p image actions steps (environment no_input was way) (environment no_input is way') (HeardAs Heard log) machine taken later s →
      IsTrue (is_summed_up (status_of_stop s) || is_cut_short (status_of_stop s))
  stop_is p image actions steps log machine picks taken later (stop.Ended s) runs does = refl
  stop_is p image actions steps log machine picks taken later (stop.Trapped c) runs does = refl
  stop_is p image actions steps log machine picks taken later stop.Steps runs does = refl
  stop_is p image actions steps log machine picks taken later stop.InputFault runs does = absurd (never_fails runs.1)
  stop_is p image actions steps log machine picks taken later stop.OutputFault runs does = refl
  stop_is p image actions steps log machine picks taken later (stop.Fault pc why) runs does = absurd does
  stop_is p image actions steps log machine picks taken later stop.Memory runs does = absurd does

  -- the text that is generated of a number is not refused, and its run no action
  never_refused : TextsHaveImages → (number : ℕ) (r : Refusal) → IsNotRun (generated number) [] r → ⊥
  never_refused images number r (running.unbuilt s none) = images number s none
  never_refused images number r (running.wrong_item built item good wrong) = not_both built.program [] [] item (record { right = refl; are = refl }) wrong

  pub stands_so : TextsHaveImages → (number : ℕ) (lines : List ℕ) (status : Status) → Ran plain (generated number) lines status → IsTrue (is_summed_up status || is_cut_short status)
  stands_so images number lines status (running.unread unused) = refl
  stands_so images number lines status (running.not_run r why unused) = absurd (never_refused images number r why)
  stands_so images number lines status (running.ran built actions e log good are (picks, (taken, lost, each))) =
      let execution = (each [] refl).0 in
      stop_is built.program built.image actions DEFAULT_STEPS log e.machine picks taken [] e.report.stopped execution.runs
      (execution.does good.image.behaves good.image.fits (All-nil (λ b. b < 2 ^ 8)))

  -- options that ask for nothing but these items
  abbrev with_items : List Item → RunOptions
  with_items items = record { steps = DEFAULT_STEPS; items = items; oracle = Oldest; bindings = false; words = false; log = false; stats = false }

  module _ (input : Reading) (text : List ℕ) (items : List Item) (none : items ≡ []) where
    pub ran_plainly : (lines : List ℕ) (stands status : Status) → Ran (with_items items) text lines stands → (status ≡ stands) ⊎ (status ≡ Memory) →
        RunsPlainly (environment input was way) (environment input is way') Heard text status
    ran_plainly lines stands status does same_or_none =
        record { stands = stands; does = no_lines text lines stands (subst (λ i. Ran (with_items i) text lines stands) none does); is = same_or_none }

    pub unlined : IsDue (λ lines status. Ran (with_items items) text lines status) → RunsPlainly (environment input was way) (environment input is way') Heard text Memory
    unlined due = ran_plainly due.lines due.status Memory due.comes (inr refl)

-- ---- and then the summary

-- nothing is written behind want of memory
silent : (number : ℕ) (was is : Writing) (status : Status) → Sums number was is Memory status → (is ≡ was) × (status ≡ Memory)
silent number was is status (spec.summed over grew) = cc
silent number was is status (spec.part over less rose) = cc
silent number was is status (spec.cut_short short same) = (same, refl)
silent number was is status (spec.unmade same) = (same, refl)

module _ (number : ℕ) (input : Reading) (was between is : Writing) (way way' : Option Way) (Heard : List Event → Type 0) where
  summed_up : (stands ran status : Status) → IsTrue (is_summed_up stands || is_cut_short stands) → (ran ≡ stands) ⊎ (ran ≡ Memory) →
      (IsTrue (is_summed_up ran || is_cut_short ran) → Sums number between is ran status) → Sums number between is stands status
  summed_up stands ran status fair (inl same) sums =
      subst (λ (s : Status). Sums number between is s status) same (sums (subst (λ s. IsTrue (is_summed_up s || is_cut_short s)) (sym same) fair))
  summed_up stands ran status fair (inr none) sums =
      let quiet : Sums number between is Memory status =
      subst (λ (s : Status). Sums number between is s status) none (sums (subst (λ s. IsTrue (is_summed_up s || is_cut_short s)) (sym none) refl)) in
      let both = silent number between is status quiet in
      subst (λ (s : Status). Sums number between is stands s) (sym both.1) (spec.unmade both.0)

  pub ran_and_summed : TextsHaveImages → (text : List ℕ) (ran status : Status) → text ≡ generated number → was.faults ≤ between.faults → between.faults ≤ is.faults →
      RunsPlainly (environment input was way) (environment input between way') Heard text ran →
      (IsTrue (is_summed_up ran || is_cut_short ran) → Sums number between is ran status) → RunsText (environment input was way) (environment input is way') Heard number status
  ran_and_summed images text ran status same later latest plainly sums =
      let does : RunDoes (environment no_input was way) (environment no_input between way') Heard plain (generated number) [] plainly.stands =
      subst (λ t. RunDoes (environment no_input was way) (environment no_input between way') Heard plain t [] plainly.stands) same plainly.does in
      spec.ran between plainly.stands status does later latest
      (summed_up plainly.stands ran status (stands_so was between way way' Heard images number [] plainly.stands does) plainly.is sums)

-- ---- what is written behind a run

module _ (number : ℕ) (was : Writing) (ran : Status) (summed : Bool) (said : summed ≡ is_summed_up ran) where
  pub not_summed : summed ≡ false → IsTrue (is_summed_up ran || is_cut_short ran) → Sums number was was ran ran
  not_summed none fair = spec.cut_short (subst (λ b. IsTrue (b || is_cut_short ran)) (sym said ∙ none) fair) refl

  module _ (is : Writing) (text : List ℕ) (same : text ≡ summary number ran) (whole : summed ≡ true) where
    pub all_summed : Grew was.written is.written text → Sums number was is ran ran
    all_summed grew = spec.summed (sym said ∙ whole) (subst (λ t. Grew was.written is.written t) same grew)

    pub part_summed : GrewLess was.written is.written text → Rose was.faults is.faults → Sums number was is ran OutputFault
    part_summed less rose = spec.part (sym said ∙ whole) (subst (λ t. GrewLess was.written is.written t) same less) rose

-- ---- the whole command

module _ (before after : Environment) (Heard : List Event → Type 0) (number : ℕ) (source : Bool) where
  pub shown_so : (text : List ℕ) (status : Status) → source ≡ true → text ≡ generated number → Heard [] → after.way ≡ before.way → Writes before after text Done status →
      GenDoes before after Heard number source status
  shown_so text status shows same unheard way writes =
      subst (λ b. GenDoes before after Heard number b status) (sym shows)
      (spec.shown status unheard (subst (λ t. Writes before after t Done status) same writes), way)

  pub runs_so : (status : Status) → source ≡ false → RunsText before after Heard number status → GenDoes before after Heard number source status
  runs_so status runs does = subst (λ b. GenDoes before after Heard number b status) (sym runs) does

pub unmade_so : (before : Environment) (Heard : List Event → Type 0) (number : ℕ) (source : Bool) → Heard [] → GenDoes before before Heard number source Memory
unmade_so before Heard number true unheard = (spec.ShowsText.unmade (refl, unheard), refl)
unmade_so before Heard number false unheard = spec.RunsText.unmade (refl, unheard)
