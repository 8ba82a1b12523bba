use Rattle.std.proofs.Common.{sym, ◌∙◌, subst}
use Rattle.mv_tidy.specs.Tidying.{Takes}
use Rattle.mv_tidy.proofs.Values.{through_taken}
use Rattle.mv_tidy.proofs.trees.takes.Goals as goal

pub returns-then-hands_on : goal.returns-then-hands_on
returns-then-hands_on c = subst (Takes c.args.temp c.args.value.now c.args.tree.now) (sym c.in_ok-copy_tree.ensures) (c.hands_on.ensures c.if-hands_on.true)

pub returns-in_ok-taking : goal.returns-in_ok-taking
returns-in_ok-taking c = through_taken c.args.temp c.args.value.now c.args.tree.now c.in_ok-taking.field-0 (sym c.is_leaf.ensures ∙ c.if-is_leaf.true) c.in_ok-taking.ensures
