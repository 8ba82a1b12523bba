use Rattle.std.proofs.Common.{rules, ap, ◌∙◌, map}
use Rattle.mv_command.proofs.OracleTexts.{names_none, pieces_numbers}
use Rattle.mv_command.proofs.oracles.named.Goals as goal

pub returns-in-Some : goal.returns-in-Some
returns-in-Some c =
    let found = rw c.in-Some.is at c.in_ok-numbers.ensures in
    pieces_numbers c.args.text.now c.in-Some.numbers _ (ap (map (λ piece. piece.now)) c.as_slice.ensures.value ∙ c.in_ok-pieces.ensures) found.1 found.0

pub returns : goal.returns
returns c = λ oracle names.
    let none = rw c.in-None.is at c.in_ok-numbers.ensures in
    names_none c.args.text.now _ (search rules) (search rules) (ap (map (λ piece. piece.now)) c.as_slice.ensures.value ∙ c.in_ok-pieces.ensures) none oracle names
