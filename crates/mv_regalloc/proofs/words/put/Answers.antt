use Rattle.std.proofs.Common.{cond, eqb, sym, ap, ◌∙◌}
use Rattle.mv_regalloc.specs.LiveBits.{in_word}
use Rattle.mv_regalloc.proofs.WordBits.{bit_set, bit_cleared}
use Rattle.mv_regalloc.proofs.words.put.Goals as goal

pub returns-then-bit : goal.returns-then-bit
returns-then-bit c = let a = c.args in λ t e. bit_set a.word a.temp t e ∙ ap (λ b. cond (eqb a.temp t) b (in_word a.word t)) (sym c.if-bit.true)

pub returns-else-bit : goal.returns-else-bit
returns-else-bit c = let a = c.args in λ t e. bit_cleared a.word a.temp t e ∙ ap (λ b. cond (eqb a.temp t) b (in_word a.word t)) (sym c.if-bit.false)
