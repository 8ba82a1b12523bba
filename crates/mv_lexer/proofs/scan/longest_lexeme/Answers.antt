use Rattle.std.proofs.Common.{sym, ◌∙◌}
use Rattle.mv_lexer.proofs.LexemeLemmas.{blank_longest, identifier_longest, number_longest}
use Rattle.mv_lexer.proofs.scan.longest_lexeme.Goals as goal

pub returns-then-is_white_space : goal.returns-then-is_white_space
returns-then-is_white_space c = blank_longest c.args.text.now c.requires (sym c.is_white_space.ensures ∙ c.if-is_white_space.true)

pub returns-then-is_nondigit : goal.returns-then-is_nondigit
returns-then-is_nondigit c =
    let found = c.identifier_length.ensures in
    identifier_longest c.args.text.now c.requires _ (sym c.is_nondigit.ensures ∙ c.if-is_nondigit.true) found.some found.in_range found.each found.stops

pub returns-then-is_digit : goal.returns-then-is_digit
returns-then-is_digit c =
    let found = c.number_length.ensures in
    number_longest c.args.text.now c.requires _ (sym c.is_digit.ensures ∙ c.if-is_digit.true) found.some found.in_range found.each found.stops
