-- Which status comes of the run of a text.
use Rattle.std.proofs.Common.{ℕ, ◌≡◌, ◌⊎◌, inl, inr, List, [], ◌++◌, refl, sym, ap, ◌∙◌, subst}
use Rattle.mv_ast.specs.declared.program.Program.{Program}
use Rattle.mv_bindings.specs.declared.action.Action.{Action}
use Rattle.mv_bindings.specs.declared.binding.Event.{Event}
use Rattle.mv_front.specs.Verdicts.{IsProgram, IsRefused}
use Rattle.mv_front.specs.declared.refusal.Refusal.{Refusal}
use Rattle.mv_front.proofs.OneVerdict.{one_program, one_refusal, not_both}
use Rattle.mv_refine.specs.Verdicts as build
use Rattle.mv_refine.specs.Verdicts.{HasNoImage, PassesLimit}
use Rattle.mv_machine.specs.Acts.{PollActs, polls_of}
use Rattle.mv_machine.specs.declared.machine.Stopped.{Stopped}
use Rattle.mv_machine.specs.declared.machine.Stopped.TheVariants as stop
use Rattle.mv_io.specs.Outside.{AreToldBytes, OnInput}
use Rattle.mv_io.proofs.Common.{some_later}
use Rattle.mv_refine.specs.Environment.{Environment, ReadFailed, WriteFailed}
use Rattle.mv_refine.specs.Meant as meant
use Rattle.mv_refine.specs.Meant.{IsAnswer}
use Rattle.mv_refine.specs.Execution.{HeardAs}
use Rattle.mv_refine.specs.Run.{Runs}
use Rattle.mv_image.specs.Spelling.{Fields}
use Rattle.mv_machine.specs.Snapshots.{Snapshot}
use Rattle.mv_meaning.specs.Meaning.{mean}
use Rattle.mv_meaning.specs.declared.meant.End.{End}
use Rattle.mv_meaning.specs.declared.meant.End.TheVariants.{Exit, Trap, More}
use Rattle.mv_command.specs.declared.items.Item.{Item}
use Rattle.mv_command.specs.declared.command.RunOptions.{RunOptions}
use Rattle.mv_actions.specs.Operator.{IsActions, IsFirstWrong}
use Rattle.mv_actions.proofs.Acting as operator
use Rattle.mv_notes.specs.declared.status.Status.{Status}
use Rattle.mv_notes.specs.declared.status.Status.TheVariants.{Memory, Refused}
use Rattle.mv_gen_accepted.specs.Counted.{CountedPassNone}
use Rattle.mv_top.specs.Decisions.{Ends, Is, IsTooLarge, IsWithinLimits, Stands}
use Rattle.mv_top.specs.Evaluating.{status_of_end}
use Rattle.mv_top.specs.Running as running
use Rattle.mv_top.specs.Running.{IsNotRun, no_action, RunDoes, status_of_stop}

-- ---- why a text isn't run

-- a text that is refused has no image for the one cause that it is refused for
pub one_cause : (text : List ℕ) (s r : Refusal) → HasNoImage text s → IsRefused text r → s ≡ r
one_cause text s r (build.refused u there) is = one_refusal text u r there is
one_cause text s r (build.over_limit p u good passes) is = absurd (not_both text p r good is)

-- a program has no image because it passes a limit
pub only_limits : (text : List ℕ) (p : Program) → IsProgram text p → (s : Refusal) → HasNoImage text s → PassesLimit p s
only_limits text p is s (build.refused u there) = absurd (not_both text p u is there)
only_limits text p is s (build.over_limit q u good passes) = subst (λ z. PassesLimit z u) (one_program text q p good is) passes

-- and so it isn't within the counts over the source
pub too_large : CountedPassNone → (text : List ℕ) (p : Program) → IsProgram text p → (s : Refusal) → PassesLimit p s → IsTooLarge p (Refused s)
too_large counted text p is s passes = record { refusal = s; passes = passes; uncounted = λ within. counted text p is within s passes; is = refl }

module _ (text : List ℕ) (items : List Item) where
  not_run_cause : (s r : Refusal) → IsNotRun text items s → IsRefused text r → s ≡ r
  not_run_cause s r (running.unbuilt t none) is = one_cause text t r none is
  not_run_cause s r (running.wrong_item b item good wrong) is = absurd (not_both text b.program r good.program is)

  -- a program isn't run because it passes a limit, or an item is no action of it
  limit_or_item : (p : Program) → IsProgram text p → (s : Refusal) → IsNotRun text items s → PassesLimit p s ⊎ ((item : ℕ) × IsFirstWrong p items item × (s ≡ no_action item))
  limit_or_item p is s (running.unbuilt t none) = inl (only_limits text p is t none)
  limit_or_item p is s (running.wrong_item b item good wrong) = inr (item, subst (λ z. IsFirstWrong z items item) (one_program text b.program p good.program is) wrong, refl)

-- ---- each status of a run

-- the answer of a run that is an end has the status of that end
status_of_answer : (e : End) (stopped : Stopped) → IsAnswer e stopped → status_of_stop stopped ≡ status_of_end e
status_of_answer (Exit status) stopped is = ap status_of_stop is
status_of_answer (Trap code) stopped is = ap status_of_stop is
status_of_answer More stopped is = absurd is

-- a run in which no read and no write failed stands, unless memory was wanting
pub stands : (before after : Environment) (Heard : List Event → Type 0) → (ReadFailed before after → ⊥) → (WriteFailed before after → ⊥) →
    (image : Fields) (polls : PollActs) (machine : Snapshot) (picks taken later : List ℕ) (steps : ℕ) (s : Stopped) →
    Runs image polls before after Heard machine picks taken later steps s →
    Stands (status_of_stop s)
stands before after Heard no_input_fault no_output_fault image polls machine picks taken later steps (stop.Ended s) runs = inl tt
stands before after Heard no_input_fault no_output_fault image polls machine picks taken later steps (stop.Trapped c) runs = inl tt
stands before after Heard no_input_fault no_output_fault image polls machine picks taken later steps stop.Steps runs = inl tt
stands before after Heard no_input_fault no_output_fault image polls machine picks taken later steps stop.InputFault runs = absurd (no_input_fault runs.1)
stands before after Heard no_input_fault no_output_fault image polls machine picks taken later steps stop.OutputFault runs = absurd (no_output_fault runs.1)
stands before after Heard no_input_fault no_output_fault image polls machine picks taken later steps (stop.Fault pc why) runs = inl tt
stands before after Heard no_input_fault no_output_fault image polls machine picks taken later steps stop.Memory runs = inr refl

module _ (before after : Environment) (no_input_fault : ReadFailed before after → ⊥) (no_output_fault : WriteFailed before after → ⊥) (text : List ℕ) (Heard : List Event → Type 0)
    (options : RunOptions) where
  abbrev Ran : List ℕ → Status → Type 0
  Ran lines status = RunDoes before after Heard options text lines status

  pub run_refused : {lines : List ℕ} {status : Status} → Ran lines status → (r : Refusal) → IsRefused text r → Is status (Refused r)
  run_refused (running.unread unused) r is = inr refl
  run_refused (running.not_run s none unused) r is = inl (ap Refused (not_run_cause text options.items s r none is))
  run_refused (running.ran b actions x log good are one_run) r is = absurd (not_both text b.program r good.program is)

  module _ (counted : CountedPassNone) (p : Program) (is : IsProgram text p) where
    wrong_cause : (s : Refusal) (item : ℕ) → IsFirstWrong p options.items item → PassesLimit p s ⊎ ((n : ℕ) × IsFirstWrong p options.items n × (s ≡ no_action n)) →
        IsWithinLimits (Refused s) (Refused (no_action item)) p
    wrong_cause s item wrong (inl passes) = inr (too_large counted text p is s passes)
    wrong_cause s item wrong (inr (n, first, same)) = inl (inl (ap Refused (same ∙ ap no_action (operator.one_wrong p options.items n item first wrong))))

    pub run_wrong_item : {lines : List ℕ} {status : Status} → Ran lines status → (item : ℕ) → IsFirstWrong p options.items item →
        IsWithinLimits status (Refused (no_action item)) p
    run_wrong_item (running.unread unused) item wrong = inl (inr refl)
    run_wrong_item (running.not_run s none unused) item wrong = wrong_cause s item wrong (limit_or_item text options.items p is s none)
    run_wrong_item (running.ran b actions x log good are one_run) item wrong =
        absurd (operator.not_both p options.items actions item (subst (λ z. IsActions z options.items actions) (one_program text b.program p good.program is) are) wrong)

    module _ (actions : List Action) (are : IsActions p options.items actions) where
      limit_cause : (s : Refusal) → PassesLimit p s ⊎ ((n : ℕ) × IsFirstWrong p options.items n × (s ≡ no_action n)) → PassesLimit p s
      limit_cause s (inl passes) = passes
      limit_cause s (inr (n, first, same)) = absurd (operator.not_both p options.items actions n are first)

      -- where a run has time enough for an end, it ends so
      decided : (bytes : List ℕ) (bound : ℕ) (e : End) (stopped : Stopped) → meant.EndsInTime p actions options.steps before after bytes stopped →
          Ends p actions bytes options.steps bound e → status_of_stop stopped ≡ status_of_end e
      decided bytes bound e stopped decides ends =
          let over : (mean p bytes actions bound).«end» ≡ More → ⊥ = λ more. ends.over (sym ends.comes ∙ more) in
          let answer : IsAnswer (mean p bytes actions bound).«end» stopped = decides no_input_fault no_output_fault bound ends.enough over in
          status_of_answer e stopped (subst (λ z. IsAnswer z stopped) ends.comes answer)

      -- so it is on what was taken and whatever may come behind it; or there was no memory, or the program passes a limit
      pub run_ended : {lines : List ℕ} {status : Status} → Ran lines status → AreToldBytes before.input.left → (status ≡ Memory) ⊎ (IsTooLarge p status
          ⊎ OnInput before.input.left after.input.left (λ taken later. (bound : ℕ) (e : End) → Ends p actions (taken ++ later) options.steps bound e → status ≡ status_of_end e))
      run_ended (running.unread unused) told = inl refl
      run_ended (running.not_run s none unused) told = inr (inl (too_large counted text p is s (limit_cause s (limit_or_item text options.items p is s none))))
      run_ended (running.ran b acts x log good are_taken (picks, (taken, lost, each))) told = inr (inr (
        taken,
        lost,
        λ later may bound e ends.
            let one : b.program ≡ p = one_program text b.program p good.program is in
            let same : acts ≡ actions = operator.one_list p options.items acts actions (subst (λ z. IsActions z options.items acts) one are_taken) are in
            let decides : meant.EndsInTime b.program acts options.steps before after (taken ++ later) x.report.stopped =
            (each later may).0.decides good.image.behaves good.image.fits told in
            let here : meant.EndsInTime p actions options.steps before after (taken ++ later) x.report.stopped =
            subst (λ a. meant.EndsInTime p a options.steps before after (taken ++ later) x.report.stopped) same
            (subst (λ z. meant.EndsInTime z acts options.steps before after (taken ++ later) x.report.stopped) one decides) in
            decided (taken ++ later) bound e x.report.stopped here ends,
      ))

      -- it stands, or there was no memory, or the program passes a limit
      pub run_stands : {lines : List ℕ} {status : Status} → Ran lines status → Stands status ⊎ IsTooLarge p status
      run_stands (running.unread unused) = inl (inr refl)
      run_stands (running.not_run s none unused) = inr (too_large counted text p is s (limit_cause s (limit_or_item text options.items p is s none)))
      run_stands (running.ran b acts x log good are_taken (picks, (taken, lost, each))) =
          let later = some_later after.input.left in
          inl (stands before after (HeardAs Heard log) no_input_fault no_output_fault b.image (polls_of acts) x.machine picks taken later.0 options.steps x.report.stopped (each later.0 later.1).0.runs)
