use Rattle.std.proofs.Common.{◌≡◌, drop}
use Rattle.mv_asmtext.specs.Lexemes.{lexemes}
use Rattle.mv_asmtext.specs.Statements.{filled, no_operands}
use Rattle.mv_asmtext.proofs.statement.read_operands.Given as goal

abbrev pub invariant-loop-element : goal.invariant-loop-element
invariant-loop-element l = filled (drop l.element-index l.elements) (lexemes l.rest) l.operands ≡ filled l.elements (lexemes l.line) no_operands
