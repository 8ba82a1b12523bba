use Rattle.std.proofs.Common.{sym, ◌∙◌}
use Rattle.mv_plain.specs.Plain.{neutral}
use Rattle.mv_plain.proofs.PlainTrees.{asked_zero}
use Rattle.mv_plain.proofs.plain.leaves.Goals as goal

pub returns-then-is_neutral : goal.returns-then-is_neutral
returns-then-is_neutral c = λ e. neutral c.args.operator c.args.n c.args.a.now (sym c.is_neutral.ensures ∙ c.if-is_neutral.true) (sym c.is_word.ensures ∙ e)

pub returns-then-n-eq0 : goal.returns-then-n-eq0
returns-then-n-eq0 c = λ e. asked_zero c.args.operator c.args.n c.args.a.now c.if-operator-eq-NOT_EQUAL.true c.if-n-eq0.true (sym c.is_truth.ensures ∙ e)
