-- From the answers of the layers to what comes of a text that is run, built or evaluated.
use Rattle.std.proofs.Common.{ℕ, ◌≡◌, List, [], sym, subst}
use Rattle.std.specs.Prelude.{Result, Ok, Err, MatchResult, Vec}
use Rattle.std.specs.declared.alloc.Global.{Global}
use Rattle.mv_ast.specs.declared.program.Program.{Program}
use Rattle.mv_bindings.specs.declared.action.Action.{Action}
use Rattle.mv_bindings.specs.declared.binding.Event.{Event}
use Rattle.mv_image.specs.Faults.{Spells}
use Rattle.mv_front.specs.Verdicts.{IsProgram}
use Rattle.mv_front.specs.Verdicts as front
use Rattle.mv_front.specs.declared.refusal.FrontError.{FrontError}
use Rattle.mv_front.specs.declared.refusal.FrontError.TheVariants as front_error
use Rattle.mv_refine.specs.Answers as build
use Rattle.mv_refine.specs.Verdicts.{IsBuiltFrom}
use Rattle.mv_refine.specs.Built.{Built}
use Rattle.mv_refine.specs.BuildError.{BuildError}
use Rattle.mv_refine.specs.BuildError.TheVariants as build_error
use Rattle.mv_refine.specs.declared.execution.Execution.{Execution}
use Rattle.mv_refine.specs.Environment.{Environment, OneRun, Wrote, ReadFailed, WriteFailed}
use Rattle.mv_refine.specs.Execution.{HeardAs, IsExecution}
use Rattle.mv_meaning.specs.declared.meant.End.{End}
use Rattle.mv_eval.specs.Evaluations.{Evaluates}
use Rattle.mv_eval.specs.declared.error.EvalError.{EvalError}
use Rattle.mv_command.specs.declared.command.RunOptions.{RunOptions}
use Rattle.mv_actions.specs.Operator.{IsActions}
use Rattle.mv_notes.specs.Lines.{asked_lines}
use Rattle.mv_notes.specs.declared.status.Status.{Status}
use Rattle.mv_notes.specs.declared.status.Status.TheVariants.{Memory}
use Rattle.mv_top.specs.Building as building
use Rattle.mv_top.specs.Building.{IsBuiltAs, IsUnbuilt}
use Rattle.mv_top.specs.Evaluating as evaluating
use Rattle.mv_top.specs.Evaluating.{EvalDoes, status_of_error, status_of_evaluation}
use Rattle.mv_top.specs.Running as running
use Rattle.mv_top.specs.Running.{IsCause, IsPrepared, RunDoes, Unused, status_of_build, status_of_stop}
use Rattle.mv_top.specs.declared.run.Prepared.{Prepared}
use Rattle.mv_top.proofs.Performing.{alone}
use Rattle.mv_top.proofs.WordLines.{word_lines}

-- ---- a run

module _ (before after : Environment) (Heard : List Event → Type 0) (options : RunOptions) (text : List ℕ) where
  abbrev Ran : (lines : List ℕ) → Status → Type 0
  Ran lines status = RunDoes before after Heard options text lines status

  not_prepared_by : (e : BuildError) → IsCause text options.items e → Unused before after Heard → Ran [] (status_of_build e)
  not_prepared_by (build_error.Refused r) is unused = running.not_run r is unused
  not_prepared_by (build_error.Memory m) is unused = running.unread unused

  pub not_prepared : (lines : List ℕ) (status : Status) (e : BuildError) → lines ≡ [] → status ≡ status_of_build e → IsCause text options.items e → after ≡ before → Heard [] → Ran lines status
  not_prepared lines status e none same is untouched unheard = alone Ran lines status (status_of_build e) none same (not_prepared_by e is (untouched, unheard))

  pub not_started : (lines : List ℕ) (status : Status) → lines ≡ [] → status ≡ Memory → Unused before after Heard → Ran lines status
  not_started lines status none same unused = alone Ran lines status Memory none same (running.unread unused)

  pub ran : (prepared : Prepared) (actions : List Action) (e : Execution) (log : List Event) → actions ≡ prepared.actions.items → IsPrepared text options.items prepared →
      OneRun before after (λ picks taken later. IsExecution prepared.built actions options.stats options.steps before after (HeardAs Heard log) picks taken later e) →
      Ran (asked_lines options prepared.built.image e.machine log e.report) (status_of_stop e.report.stopped)
  ran prepared actions e log same is (picks, (taken, lost, each)) =
      running.ran prepared.built actions e log is.built (subst (λ a. IsActions prepared.built.program options.items a) (sym same) is.actions) (
        picks,
        (
          taken,
          lost,
          λ later may.
              let execution = each later may in
              (execution, word_lines text prepared.built actions options.stats options.steps before after (HeardAs Heard log) picks taken later e is.built execution),
        ),
      )

-- ---- a build

pub spelled : (text : List ℕ) (of : Built) (result : Result (Vec ℕ Global) Status) → IsBuiltFrom text of →
    MatchResult result (λ bytes. Spells bytes.items of.image) (λ status. status ≡ Memory) → MatchResult result (λ bytes. IsBuiltAs text bytes.items) (IsUnbuilt text)
spelled text of (Ok bytes) is h = record { of = of; built = is; spells = h }
spelled text of (Err status) is h = subst (λ (s : Status). IsUnbuilt text s) (sym h) building.no_memory

unbuilt_by : (text : List ℕ) (e : BuildError) → build.IsCause text e → IsUnbuilt text (status_of_build e)
unbuilt_by text (build_error.Refused r) is = building.refused r is
unbuilt_by text (build_error.Memory m) is = building.no_memory

pub unbuilt : (text : List ℕ) (status : Status) (e : BuildError) → status ≡ status_of_build e → build.IsCause text e → IsUnbuilt text status
unbuilt text status e same is = subst (λ (s : Status). IsUnbuilt text s) (sym same) (unbuilt_by text e is)

-- ---- an evaluation

module _ (before after : Environment) (bound : ℕ) (text : List ℕ) where
  no_program_by : (e : FrontError) → front.IsCause text e → after ≡ before → EvalDoes before after bound text (status_of_error e)
  no_program_by (front_error.Refused r) is unused = evaluating.no_program r is unused
  no_program_by (front_error.Memory m) is unused = evaluating.unread unused

  pub not_evaluated : (status : Status) (e : FrontError) → status ≡ status_of_error e → front.IsCause text e → after ≡ before → EvalDoes before after bound text status
  not_evaluated status e same is unused = subst (λ (s : Status). EvalDoes before after bound text s) (sym same) (no_program_by e is unused)

  pub evaluation_done : (status : Status) (p : Program) (result : Result End EvalError) → status ≡ status_of_evaluation result → IsProgram text p →
      Evaluates p bound before.input.left after.input.left (Wrote before after) (ReadFailed before after) (WriteFailed before after) result → EvalDoes before after bound text status
  evaluation_done status p result same is evaluates = subst (λ (s : Status). EvalDoes before after bound text s) (sym same) (evaluating.evaluated p result is evaluates)
