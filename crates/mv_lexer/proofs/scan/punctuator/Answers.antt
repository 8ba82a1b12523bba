use Rattle.std.proofs.Common.{arith}
use Rattle.mv_lexer.proofs.LexemeLemmas.{punctuator_longest}
use Rattle.mv_lexer.proofs.scan.punctuator.Goals as goal

pub returns-in-Some : goal.returns-in-Some
returns-in-Some c =
    let bound = c.most_bytes-length.ensures in
    punctuator_longest c.args.text.now c.requires.some c.requires.no_blank c.requires.no_letter c.requires.no_digit c.requires.no_comment
    c.requires.no_closing _ _ _ bound.some bound.in_range c.in-Some.ensures bound.supported (omega arith) bound.unsupported
