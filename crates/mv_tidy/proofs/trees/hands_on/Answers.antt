use Rattle.std.proofs.Common.{refl}
use Rattle.mv_tidy.proofs.Values.{whole_taken}
use Rattle.mv_tidy.proofs.trees.hands_on.Goals as goal

pub returns-then-is_temp : goal.returns-then-is_temp
returns-then-is_temp c e = whole_taken c.args.temp c.args.value.now c.args.tree.now c.args.value.now (c.is_temp.ensures c.if-is_temp.true) refl
