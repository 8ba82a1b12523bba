use Rattle.std.proofs.Common.{arith}
use Rattle.mv_lexer.proofs.LexemeLemmas.{punctuator_longest, unsupported_punctuator_longest, other_longest}
use Rattle.mv_lexer.proofs.scan.longest_punctuator.Goals as goal

pub returns-then-unsupported-punctuator : goal.returns-then-unsupported-punctuator
returns-then-unsupported-punctuator c =
    let found = c.longest_entry-unsupported.ensures in
    unsupported_punctuator_longest c.args.text.now c.requires.some c.requires.no_blank c.requires.no_letter c.requires.no_digit c.requires.no_comment
    c.requires.no_closing _ _ _ (omega arith) found.in_range (found.found (omega arith)) found.longest (omega arith)
    c.longest_entry-punctuator.ensures.longest

pub returns-then-punctuator-gt0 : goal.returns-then-punctuator-gt0
returns-then-punctuator-gt0 c =
    let found = c.longest_entry-punctuator.ensures in
    punctuator_longest c.args.text.now c.requires.some c.requires.no_blank c.requires.no_letter c.requires.no_digit c.requires.no_comment
    c.requires.no_closing _ _ _ (omega arith) found.in_range (found.found (omega arith)) found.longest (omega arith)
    c.longest_entry-unsupported.ensures.longest

pub returns-else-punctuator-gt0 : goal.returns-else-punctuator-gt0
returns-else-punctuator-gt0 c =
    other_longest c.args.text.now c.requires.some c.requires.no_blank c.requires.no_letter c.requires.no_digit c.requires.no_comment
    c.requires.no_closing _ _ c.if-punctuator-gt0.false (omega arith) c.longest_entry-punctuator.ensures.longest
    c.longest_entry-unsupported.ensures.longest
