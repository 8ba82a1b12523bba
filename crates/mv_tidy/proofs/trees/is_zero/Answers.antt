use Rattle.std.proofs.Common.{sym, ◌∙◌, ap, eqb-true}
use Rattle.mv_ir.specs.Rolled.{number}
use Rattle.mv_plain.proofs.PlainTrees.{constant_is}
use Rattle.mv_tidy.proofs.trees.is_zero.Goals as goal

pub returns-in-Some : goal.returns-in-Some
returns-in-Some c h = constant_is c.args.tree.now c.in-Some.n (sym c.constant.ensures ∙ c.in-Some.is) ∙ ap number (eqb-true c.in-Some.n 0 h)
