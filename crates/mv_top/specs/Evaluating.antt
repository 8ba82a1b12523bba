-- What comes of evaluating a text.
use Rattle.std.specs.Prelude.{ℕ, ◌≡◌, List, Result, Ok, Err}
use Rattle.mv_ast.specs.declared.program.Program.{Program}
use Rattle.mv_front.specs.Verdicts.{IsProgram, IsRefused}
use Rattle.mv_front.specs.declared.refusal.Refusal.{Refusal}
use Rattle.mv_front.specs.declared.refusal.FrontError.{FrontError}
use Rattle.mv_front.specs.declared.refusal.FrontError.TheVariants as front
use Rattle.mv_meaning.specs.declared.meant.End.{End}
use Rattle.mv_meaning.specs.declared.meant.End.TheVariants.{Exit, Trap, More}
use Rattle.mv_eval.specs.Evaluations.{Evaluates}
use Rattle.mv_eval.specs.declared.error.EvalError.{EvalError}
use Rattle.mv_eval.specs.declared.error.EvalError.TheVariants as fault
use Rattle.mv_refine.specs.Environment.{Environment, Wrote, ReadFailed, WriteFailed}
use Rattle.mv_notes.specs.declared.status.Status.{Status}
use Rattle.mv_notes.specs.declared.status.Status.TheVariants.{Ended, Trapped, Refused, Memory, InputFault, OutputFault, Steps}
use Rattle.mv_top.specs.Outside.{Outside, OfFile, Untouched}

-- the status of an end, and of an evaluation
abbrev pub status_of_end : End → Status
status_of_end (Exit status) = Ended status
status_of_end (Trap code) = Trapped code
status_of_end More = Steps

abbrev pub status_of_evaluation : Result End EvalError → Status
status_of_evaluation (Ok «end») = status_of_end «end»
status_of_evaluation (Err fault.Input) = InputFault
status_of_evaluation (Err fault.Output) = OutputFault
status_of_evaluation (Err (fault.Memory e)) = Memory

-- the status of a text that is no program
abbrev pub status_of_error : FrontError → Status
status_of_error (front.Refused r) = Refused r
status_of_error (front.Memory e) = Memory

-- What comes of the evaluation of a text.
module _ (before after : Environment) where
  pub data EvalDoes (bound : ℕ) (text : List ℕ) : Status → Type 0 where
    -- there was no memory to read it as a program
    unread : after ≡ before → EvalDoes bound text Memory
    no_program : (r : Refusal) → IsRefused text r → after ≡ before → EvalDoes bound text (Refused r)
    evaluated : (p : Program) (result : Result End EvalError) → IsProgram text p →
        Evaluates p bound before.input.left after.input.left (Wrote before after) (ReadFailed before after) (WriteFailed before after) result →
        EvalDoes bound text (status_of_evaluation result)

module _ (before after : Outside) where
  abbrev pub EvaluatesFile : (file : List ℕ) → (bound : ℕ) → Status → Type 0
  EvaluatesFile file bound status =
      OfFile before after (Untouched before after) file
      (λ text s. EvalDoes before.environment after.environment bound text s × (after.environment.way ≡ before.environment.way)) status
