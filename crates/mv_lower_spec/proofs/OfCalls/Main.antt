-- `main`, whose callees do what they do by the source's meaning.
use Rattle.std.proofs.Common.{◌≡◌, [], Some, sym, ◌∙◌, subst}
use Rattle.mv_ast.specs.declared.program.Function.{Function}
use Rattle.mv_ast.specs.Starts.{first_world_under}
use Rattle.mv_meaning.specs.Meaning.{hart_mean}
use Rattle.mv_meaning_numbering.specs.Laws.{AnyNumberingServes, StraysDoNotShow}
use Rattle.mv_ir.specs.Meaning.{body_from}
use Rattle.mv_ir.specs.Programs.{setting_of, execution_of, run_of_main}
use Rattle.mv_ir.specs.KnownFunctions.{seen}
use Rattle.mv_lower_spec.specs.Functions.{lower_function, lower_program}
use Rattle.mv_lower_spec.specs.Programs.Laws.{IsExecution}
use Rattle.mv_lower_spec.proofs.OfPrograms.Programs as programs
use Rattle.mv_lower_spec.proofs.OfPrograms.Programs.{EndAlike}
use Rattle.mv_lower_spec.specs.Statements.{levels}
use Rattle.mv_lower_spec.specs.Calls.Laws.{MainIsRight, MainEndsAlike}
use Rattle.mv_lower_spec.proofs.OfCalls.Calls.{alike_agreed}

pub main_right : AnyNumberingServes → StraysDoNotShow → MainIsRight
main_right any strays p numbers calls alike_source formed numbering hart input actions bound fit contents main here =
    let same : formed.typed.entry.main ≡ main = let e : Some formed.typed.entry.main ≡ Some main = sym formed.typed.entry.defined ∙ here in cc in
    subst
    (λ (g : Function).
    let first = seen (first_world_under p numbers hart input actions) in
    let c = body_from (setting_of numbers p) (record { depth = 0; live = 0; bound = [] }) contents (lower_function p g) [] (levels calls bound) first in
    IsExecution (hart_mean p hart input actions bound) (execution_of first c.cost c.end))
    same (programs.main_is_right p numbers formed numbering hart input actions bound any strays fit calls (λ i up. alike_agreed p numbers formed.functions calls alike_source i) contents)

pub main_alike : AnyNumberingServes → StraysDoNotShow → MainEndsAlike
main_alike any strays p numbers calls alike_source formed numbering hart input actions bound fit contents main here = (alike.same, alike.valued)
  where
    same : formed.typed.entry.main ≡ main
    same = let e : Some formed.typed.entry.main ≡ Some main = sym formed.typed.entry.defined ∙ here in cc

    alike : EndAlike (body_from (setting_of numbers p) (record { depth = 0; live = 0; bound = [] }) contents (lower_function p main) [] (levels calls bound) (seen (first_world_under p numbers hart input actions)))
        (run_of_main numbers (lower_program p) hart input actions bound)
    alike = subst
        (λ (g : Function). EndAlike (body_from (setting_of numbers p) (record { depth = 0; live = 0; bound = [] }) contents (lower_function p g) [] (levels calls bound) (seen (first_world_under p numbers hart input actions)))
        (run_of_main numbers (lower_program p) hart input actions bound))
        same (programs.main_ends_alike p numbers formed numbering hart input actions bound any strays fit calls (λ i up. alike_agreed p numbers formed.functions calls alike_source i) contents)
