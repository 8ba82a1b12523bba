use Rattle.std.proofs.Common.{sym, ◌∙◌}
use Rattle.mv_tidy.proofs.Values.{denial_is}
use Rattle.mv_tidy.proofs.trees.denies.Goals as goal

pub returns-then-o-eq-LOGICAL_NOT : goal.returns-then-o-eq-LOGICAL_NOT
returns-then-o-eq-LOGICAL_NOT c h =
    let s = c.in-Unary in
    denial_is c.args.temp s.o s.a c.args.tree.now c.if-o-eq-LOGICAL_NOT.true (sym c.get.ensures ∙ c.is_temp.ensures h) s.is
