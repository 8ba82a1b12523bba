use Rattle.std.proofs.Common.{sym, refl, arith}
use Rattle.mv_lexer.specs.Reading as spec
use Rattle.mv_lexer.proofs.identifier.evaluate_identifier.Goals as goal

pub returns-then-name-gt-IDENTIFIER_LIMIT : goal.returns-then-name-gt-IDENTIFIER_LIMIT
returns-then-name-gt-IDENTIFIER_LIMIT c = spec.long_name c.if-name-gt-IDENTIFIER_LIMIT.true

pub returns-then-keyword-size : goal.returns-then-keyword-size
returns-then-keyword-size c = spec.keyword _ (c.index_of-keyword.ensures.found (omega arith))

pub returns-then-index_of-size : goal.returns-then-index_of-size
returns-then-index_of-size c = (spec.unsupported_keyword _ (c.index_of.ensures.found (omega arith)), refl)

pub returns : goal.returns
returns c = spec.name (omega arith) (λ k is. c.index_of-keyword.ensures.none (omega arith) k is.in_range (sym is.is)) (λ k is. c.index_of.ensures.none (omega arith) k is.in_range (sym is.is))
