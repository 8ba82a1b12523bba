use Rattle.mv_plain.proofs.PlainTrees.{not_equal_is, equal_is}
use Rattle.mv_plain.proofs.plain.opposite.Goals as goal

pub returns-in-11 : goal.returns-in-11
returns-in-11 c = λ a b. not_equal_is c.args.operator a b c.in-11.is

pub returns-in-12 : goal.returns-in-12
returns-in-12 c = λ a b. equal_is c.args.operator a b c.in-12.is
