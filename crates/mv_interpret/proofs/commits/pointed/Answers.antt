use Rattle.std.proofs.Common.{◌∷◌, [], ap, sym, ◌∙◌}
use Rattle.mv_ast.specs.Numbering.{own_numbers, function_of_number}
use Rattle.mv_bindings.specs.Bindings.{bound_to}
use Rattle.mv_ast.specs.Switches.{bound_to_function}
use Rattle.mv_interpret.proofs.OwnNumbers.{own_found}
use Rattle.mv_interpret.proofs.commits.pointed.Goals as goal

pub returns-in-Some : goal.returns-in-Some
returns-in-Some c =
    let found = sym c.function_of_number.ensures ∙ c.in-Some.is in
    let there = ap (function_of_number (own_numbers c.args.program.now)) (sym c.word_at-number.ensures) ∙ found in
    c.bound_to.ensures ∙ (ap (λ n. bound_to (n ∷ [])) (own_found c.args.program.now c.word_at-number.result _ found) ∙ sym (ap bound_to_function there))
