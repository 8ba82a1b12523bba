-- Which status comes of what is evaluated, run as an image or generated.
use Rattle.std.proofs.Common.{ℕ, ◌≡◌, ◌≤◌, ◌<◌, ◌^◌, ◌⊎◌, inl, inr, List, [], ◌++◌, refl, sym, ap, ◌∙◌, subst, Some, arith}
use Rattle.std.specs.Prelude.{Result, Ok, Err, IsTrue}
use Rattle.std.proofs.lemmas.List.Elements.{All-nil}
use Rattle.mv_ast.specs.declared.program.Program.{Program}
use Rattle.mv_bindings.specs.declared.action.Action.{Action}
use Rattle.mv_bindings.specs.declared.binding.Event.{Event}
use Rattle.mv_io.specs.Outside.{OnInput}
use Rattle.mv_image.specs.Faults.{Spells}
use Rattle.mv_image.specs.Spelling.{Fields}
use Rattle.mv_image.proofs.OneVerdict.{one_image}
use Rattle.mv_front.specs.Verdicts.{IsProgram, IsRefused}
use Rattle.mv_front.specs.declared.refusal.Refusal.{Refusal}
use Rattle.mv_front.proofs.OneVerdict.{one_program, one_refusal, not_both}
use Rattle.mv_exec.specs.Loading.{IsBadImage}
use Rattle.mv_exec.proofs.Answer.{one_bad, spells_not_bad}
use Rattle.mv_gen.specs.Generated.{generated}
use Rattle.mv_refine.specs.Environment.{Environment, Writing, Wrote, ReadFailed, WriteFailed, environment}
use Rattle.mv_meaning.specs.declared.meant.End.{End}
use Rattle.mv_eval.specs.Evaluations.{meaning, IsInput, Evaluates}
use Rattle.mv_eval.specs.declared.error.EvalError.{EvalError}
use Rattle.mv_eval.specs.declared.error.EvalError.TheVariants as fault
use Rattle.mv_command.specs.declared.command.RunOptions.{RunOptions}
use Rattle.mv_command.specs.declared.options.TheConstants.{DEFAULT_STEPS}
use Rattle.mv_machine.specs.Acts.{polls_of}
use Rattle.mv_actions.specs.Operator.{IsImageActions, IsImageFirstWrong}
use Rattle.mv_actions.proofs.Acting as operator
use Rattle.mv_notes.specs.declared.status.Status.{Status}
use Rattle.mv_notes.specs.declared.status.Status.TheVariants.{Refused, Memory, BadImage, Done}
use Rattle.mv_gen_accepted.specs.Counted.{CountedPassNone}
use Rattle.mv_machine.specs.declared.machine.Stopped.{Stopped}
use Rattle.mv_machine.specs.declared.machine.Stopped.TheVariants as stop
use Rattle.mv_machine.specs.Snapshots.{Snapshot}
use Rattle.mv_refine.specs.Execution.{HeardAs}
use Rattle.mv_refine.specs.Run.{Runs}
use Rattle.mv_top.specs.Decisions.{Ends, Is, IsSummedUp, IsTooLarge, IsWithinLimits, Stands}
use Rattle.mv_top.specs.Evaluating as evaluating
use Rattle.mv_top.specs.Evaluating.{EvalDoes, status_of_end, status_of_evaluation}
use Rattle.mv_top.specs.Executing as executing
use Rattle.mv_top.specs.Executing.{ExecDoes}
use Rattle.mv_top.specs.Generating as generating
use Rattle.mv_top.specs.Generating.{is_cut_short, no_input, plain, RunsText, ShowsText, Sums}
use Rattle.mv_top.specs.Running as running
use Rattle.mv_top.specs.Running.{no_action, RunDoes, status_of_stop}
use Rattle.mv_top.proofs.FilesDecided.{written_whole}
use Rattle.mv_top.proofs.RunsDecided.{run_ended, stands}
use Rattle.mv_io.proofs.Common.{of_told, rose_later, some_later}

-- ---- an evaluation

module _ (before after : Environment) (no_input_fault : ReadFailed before after → ⊥) (no_output_fault : WriteFailed before after → ⊥) (text : List ℕ) (bound : ℕ) where
  pub eval_refused : {status : Status} → EvalDoes before after bound text status → (r : Refusal) → IsRefused text r → Is status (Refused r)
  eval_refused (evaluating.unread untouched) r is = inr refl
  eval_refused (evaluating.no_program s there untouched) r is = inl (ap Refused (one_refusal text s r there is))
  eval_refused (evaluating.evaluated p result good evaluates) r is = absurd (not_both text p r good is)

  -- the end of the program on all that was read
  abbrev IsEnd : Program → Status → Type 0
  IsEnd p status = OnInput before.input.left after.input.left (λ taken later. IsInput taken later × (status ≡ status_of_end (meaning p bound taken).«end»))

  evaluation_is : (p : Program) (result : Result End EvalError) → Evaluates p bound before.input.left after.input.left (Wrote before after) (ReadFailed before after) (WriteFailed before after) result →
      (status_of_evaluation result ≡ Memory) ⊎ IsEnd p (status_of_evaluation result)
  evaluation_is p (Ok «end») (taken, lost, each) =
      inr (taken, lost, λ later may. let h = each later may in (h.0, ap status_of_end (sym h.1)))
  evaluation_is p (Err fault.Input) (part, none, rose) = absurd (no_input_fault rose)
  evaluation_is p (Err fault.Output) (count, part, rose) = absurd (no_output_fault rose)
  evaluation_is p (Err (fault.Memory e)) g = inl refl

  pub eval_ended : {status : Status} → EvalDoes before after bound text status → (p : Program) → IsProgram text p → (status ≡ Memory) ⊎ IsEnd p status
  eval_ended (evaluating.unread untouched) p is = inl refl
  eval_ended (evaluating.no_program r there untouched) p is = absurd (not_both text p r is there)
  eval_ended (evaluating.evaluated q result good evaluates) p is =
      subst (λ z. (status_of_evaluation result ≡ Memory) ⊎ IsEnd z (status_of_evaluation result)) (one_program text q p good is) (evaluation_is q result evaluates)

-- ---- a run of an image

module _ (before after : Environment) (no_input_fault : ReadFailed before after → ⊥) (no_output_fault : WriteFailed before after → ⊥) (bytes : List ℕ) (Heard : List Event → Type 0)
    (options : RunOptions) where
  abbrev Ran : List ℕ → Status → Type 0
  Ran lines status = ExecDoes before after Heard options bytes lines status

  pub exec_bad : {lines : List ℕ} {status : Status} → Ran lines status → (code offset : ℕ) → IsBadImage bytes code offset → Is status (BadImage code offset)
  exec_bad (executing.unread unused) code offset bad = inr refl
  exec_bad (executing.no_image c o there unused) code offset bad =
      let same = one_bad bytes c o code offset there bad in inl (λ i. BadImage (same.0 i) (same.1 i))
  exec_bad (executing.wrong_item image item spells wrong unused) code offset bad = absurd (spells_not_bad bytes image code offset spells bad)
  exec_bad (executing.ran image actions e log spells are runs) code offset bad = absurd (spells_not_bad bytes image code offset spells bad)

  module _ (image : Fields) (spells : Spells bytes image) where
    pub exec_wrong_item : {lines : List ℕ} {status : Status} → Ran lines status → (item : ℕ) → IsImageFirstWrong image options.items item → Is status (Refused (no_action item))
    exec_wrong_item (executing.unread unused) item wrong = inr refl
    exec_wrong_item (executing.no_image c o there unused) item wrong = absurd (spells_not_bad bytes image c o spells there)
    exec_wrong_item (executing.wrong_item other n there first unused) item wrong =
        inl (ap (λ k. Refused (no_action k))
        (operator.one_wrong_in image options.items n item (subst (λ z. IsImageFirstWrong z options.items n) (one_image bytes other image there spells) first) wrong))
    exec_wrong_item (executing.ran other actions e log there are runs) item wrong =
        absurd (operator.not_both_in image options.items actions item (subst (λ z. IsImageActions z options.items actions) (one_image bytes other image there spells) are) wrong)

    pub exec_stands : {lines : List ℕ} {status : Status} → Ran lines status → (actions : List Action) → IsImageActions image options.items actions → Stands status
    exec_stands (executing.unread unused) actions are = inr refl
    exec_stands (executing.no_image c o there unused) actions are = absurd (spells_not_bad bytes image c o spells there)
    exec_stands (executing.wrong_item other n there first unused) actions are =
        absurd (operator.not_both_in image options.items actions n are (subst (λ z. IsImageFirstWrong z options.items n) (one_image bytes other image there spells) first))
    exec_stands (executing.ran other acts e log there are_acts (picks, (taken, lost, each))) actions are =
        let later = some_later after.input.left in
        stands before after (HeardAs Heard log) no_input_fault no_output_fault other (polls_of acts) e.machine picks taken later.0 options.steps e.report.stopped (each later.0 later.1).0

-- ---- a generated program

module _ (before after : Environment) (no_output_fault : WriteFailed before after → ⊥) (Heard : List Event → Type 0) (number : ℕ) where
  pub source_done : {status : Status} → ShowsText before after Heard number status → Is status Done
  source_done (generating.unmade unused) = inr refl
  source_done (generating.shown status unheard writes) = inl (written_whole before after _ Done no_output_fault writes)

  no_reading_fault : (was is : Writing) → ReadFailed (environment no_input was before.way) (environment no_input is after.way) → ⊥
  no_reading_fault was is rose = grind (arith, rose)

  -- a run that wrote without a fault is that of its status, or memory was wanting
  summed_so : (between : Writing) (ran : Status) {status : Status} → before.output.faults ≤ between.faults → Sums number between after.output ran status → Is status ran
  summed_so between ran later (generating.summed over grew) = inl refl
  summed_so between ran later (generating.part over less rose) = absurd (no_output_fault (rose_later before.output.faults between.faults after.output.faults later rose))
  summed_so between ran later (generating.cut_short short same) = inl refl
  summed_so between ran later (generating.unmade same) = inr refl

  no_fault_before : (between : Writing) → between.faults ≤ after.output.faults → WriteFailed (environment no_input before.output before.way) (environment no_input between after.way) → ⊥
  no_fault_before between latest rose = no_output_fault (grind (arith, latest, rose))

  -- a run that was refused is not summed up, and no refusal stands
  none_refused : (between : Writing) (r : Refusal) {status : Status} → Sums number between after.output (Refused r) status → status ≡ Memory
  none_refused between r (generating.summed over grew) = cc
  none_refused between r (generating.part over less rose) = cc
  none_refused between r (generating.cut_short short same) = cc
  none_refused between r (generating.unmade same) = refl

  module _ (between : Writing) (latest : between.faults ≤ after.output.faults) where
    -- a run that isn't summed up though no write failed is one for which there was no memory
    stop_summed : (image : Fields) (actions : List Action) (log : List Event) (machine : Snapshot) (picks taken later : List ℕ) (s : Stopped) →
        Runs image (polls_of actions) (environment no_input before.output before.way) (environment no_input between after.way) (HeardAs Heard log) machine picks taken later DEFAULT_STEPS s →
        IsTrue (is_cut_short (status_of_stop s)) → IsSummedUp (status_of_stop s)
    stop_summed image actions log machine picks taken later (stop.Ended s) runs short = inl refl
    stop_summed image actions log machine picks taken later (stop.Trapped c) runs short = inl refl
    stop_summed image actions log machine picks taken later stop.Steps runs short = inl refl
    stop_summed image actions log machine picks taken later stop.InputFault runs short = cc
    stop_summed image actions log machine picks taken later stop.OutputFault runs short = absurd (no_fault_before between latest runs.1)
    stop_summed image actions log machine picks taken later (stop.Fault pc why) runs short = cc
    stop_summed image actions log machine picks taken later stop.Memory runs short = inr refl

    cut_summed : {lines : List ℕ} {ran : Status} → RunDoes (environment no_input before.output before.way) (environment no_input between after.way) Heard plain (generated number) lines ran →
        IsTrue (is_cut_short ran) → IsSummedUp ran
    cut_summed (running.unread unused) short = inr refl
    cut_summed (running.not_run r why unused) short = cc
    cut_summed (running.ran built actions e log good are (picks, (taken, lost, each))) short =
        stop_summed built.image actions log e.machine picks taken [] e.report.stopped (each [] refl).0.runs short

    summed_up : before.output.faults ≤ between.faults → (ran : Status) →
        RunDoes (environment no_input before.output before.way) (environment no_input between after.way) Heard plain (generated number) [] ran →
        {status : Status} → Sums number between after.output ran status → IsSummedUp status
    summed_up later ran does (generating.summed over grew) = inl over
    summed_up later ran does (generating.part over less rose) = absurd (no_output_fault (rose_later before.output.faults between.faults after.output.faults later rose))
    summed_up later ran does (generating.cut_short short same) = cut_summed does short
    summed_up later ran does (generating.unmade same) = inr refl

  pub gen_summed : {status : Status} → RunsText before after Heard number status → IsSummedUp status
  gen_summed (generating.unmade unused) = inr refl
  gen_summed (generating.ran between ran status does later latest sums) = summed_up between latest later ran does sums

  module _ (counted : CountedPassNone) (p : Program) (is : IsProgram (generated number) p) where
    ended_so : (between : Writing) (ran status e : Status) → Is status ran → Sums number between after.output ran status → IsWithinLimits ran e p → Is status e
    ended_so between ran status e (inl same) sums (inl (inl due)) = inl (same ∙ due)
    ended_so between ran status e (inl same) sums (inl (inr none)) = inr (same ∙ none)
    ended_so between ran status e (inr none) sums (inl due) = inr none
    ended_so between ran status e stands sums (inr large) = inr (none_refused between large.refusal (subst (λ s. Sums number between after.output s status) large.is sums))

    -- where there is no input, none is taken and none may come
    abbrev EndsSo : (ran : Status) (taken later : List ℕ) → Type 0
    EndsSo ran taken later = (bound : ℕ) (e : End) → Ends p [] (taken ++ later) DEFAULT_STEPS bound e → ran ≡ status_of_end e

    without_input : (ran : Status) (bound : ℕ) (e : End) → Ends p [] [] DEFAULT_STEPS bound e → (ran ≡ Memory) ⊎ (IsTooLarge p ran ⊎ OnInput (Some []) (Some []) (EndsSo ran)) →
        IsWithinLimits ran (status_of_end e) p
    without_input ran bound e ends (inl none) = inl (inr none)
    without_input ran bound e ends (inr (inl large)) = inr large
    without_input ran bound e ends (inr (inr on)) =
        let told = of_told [] (Some []) (EndsSo ran) on in
        inl (inl (told.3 bound e (subst (λ (bytes : List ℕ). Ends p [] bytes DEFAULT_STEPS bound e) told.2 ends)))

    pub gen_ended : {status : Status} → RunsText before after Heard number status → (bound : ℕ) (e : End) → Ends p [] [] DEFAULT_STEPS bound e → Is status (status_of_end e)
    gen_ended (generating.unmade unused) bound e ends = inr refl
    gen_ended (generating.ran between ran status does later latest sums) bound e ends =
        ended_so between ran status (status_of_end e) (summed_so between ran later sums) sums
        (without_input ran bound e ends
        (run_ended (environment no_input before.output before.way) (environment no_input between after.way) (no_reading_fault before.output between) (no_fault_before between latest)
        (generated number) Heard plain counted p is [] (record { right = refl; are = refl }) does (All-nil (λ b. b < 2 ^ 8))))
