-- What a checker answers, by the judgement on the unit.
use Rattle.std.proofs.Common.{◌≡◌, ℕ, sym, subst, refl, Result, Ok, Err}
use Rattle.mv_syntax.specs.declared.place.Place.{Place}
use Rattle.mv_ast.specs.declared.program.Program.{Program}
use Rattle.mv_syntax.specs.declared.unit.Unit as unit
use Rattle.mv_check_expressions.specs.declared.error.RuleError.TheVariants as error
use Rattle.mv_check_expressions.specs.Judged.{Judged, Good, Broken}
use Rattle.std.specs.declared.alloc.AllocError.{AllocError}
use Rattle.mv_types.specs.declared.error.TypeError.{TypeError}
use Rattle.mv_types.specs.declared.error.TypeError.TheVariants.{Rule, Memory}
use Rattle.mv_types.specs.declared.contents.Completed.{Completed}
use Rattle.mv_types.specs.Checked.{IsChecked}
use Rattle.mv_types.specs.Completed.{completed_program, IsCompleted}

pub good_answer : (u : unit.Unit) (j : Judged Program) (c : Completed) (r : Result Program TypeError) → IsCompleted j (Ok c) → IsChecked u (Good (completed_program c)) r → IsChecked u j r
good_answer u j c r e h = subst (λ (k : Judged Program). IsChecked u k r) (sym e.shown) h

pub rule_answer : (u : unit.Unit) (j : Judged Program) (place : Place) (rule : ℕ) → IsCompleted j (Err (error.Rule place rule)) → IsChecked u j (Err (Rule place rule))
rule_answer u j place rule e = subst (λ (k : Judged Program). IsChecked u k (Err (Rule place rule))) (sym e.shown) (refl, refl)

pub memory_answer : (u : unit.Unit) (j : Judged Program) (e : AllocError) → IsChecked u j (Err (Memory e))
memory_answer u (Good p) e = tt
memory_answer u (Broken place rule) e = tt

pub ruleset answers = (good_answer, rule_answer, memory_answer)

-- what holds of a program holds of an equal one
pub same_answer : (u : unit.Unit) (p q : Program) (r : Result Program TypeError) → q ≡ p → IsChecked u (Good q) r → IsChecked u (Good p) r
same_answer u p q r e h = subst (λ (x : Program). IsChecked u (Good x) r) e h
