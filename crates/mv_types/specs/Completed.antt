-- A unit that breaks no rule, before its program is made.
use Rattle.std.specs.Prelude.{◌≡◌, ℕ, Option, Some, None, Result, Ok, Err}
use Rattle.mv_ast.specs.declared.program.Function.{Function}
use Rattle.mv_ast.specs.declared.program.Program.{Program}
use Rattle.mv_check_expressions.specs.declared.error.RuleError.{RuleError}
use Rattle.mv_check_expressions.specs.declared.error.RuleError.TheVariants as error
use Rattle.mv_check_expressions.specs.Judged.{Judged, Good, Broken}
use Rattle.mv_types.specs.declared.contents.Completed.{Completed}
use Rattle.mv_types.specs.Units.{program_of}

abbrev pub completed_program : Completed → Program
completed_program u = program_of u.contents u.pointers u.main

-- how many parameters a function has; one that isn't defined has none
abbrev pub params_or_none : Option Function → ℕ
params_or_none None = 0
params_or_none (Some f) = f.params

-- What a result shows of the judgement on a unit: want of memory shows nothing.
abbrev pub ShowsUnit : Judged Program → Result Completed RuleError → Type 0
ShowsUnit judged (Ok u) = judged ≡ Good (completed_program u)
ShowsUnit judged (Err (error.Rule place rule)) = judged ≡ Broken place rule
ShowsUnit judged (Err error.Memory) = Unit {0}

-- a judgement is what a result shows
pub record IsCompleted (judged : Judged Program) (result : Result Completed RuleError) : Type 0 where
  pub shown : ShowsUnit judged result
