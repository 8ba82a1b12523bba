use Rattle.std.proofs.Common.{refl, subst, sym}
use Rattle.mv_ir.specs.Rolled as rolled
use Rattle.mv_ir.specs.declared.stm.Stm as at
use Rattle.mv_propagate.specs.Propagating.{PropagatedIn}
use Rattle.mv_propagate.proofs.Reading.{between}
use Rattle.mv_propagate.proofs.Walked.{reads_leaf, reads}
use Rattle.mv_propagate.proofs.walk.kept.Goals.{then-is_low+in_ok-facts, else-is_low+in_ok-facts-2}
use Rattle.mv_propagate.proofs.walk.kept.Goals as goal

pub returns : goal.returns
returns c i h = elim c.if-is_low.branch [
  | then-is_low+in_ok-facts w ↦ subst (PropagatedIn c.args.temps c.args.facts.now (rolled.read c.args.temp c.args.array i)
      (at.Read c.args.temp c.args.array c.tree_of.result)) (sym w.facts-is)
      (reads_leaf c.args.temps c.args.facts.now w.in_ok-facts.facts c.args.temp c.args.array i c.tree_of.result c.args.index h c.tree_of.ensures
      (c.is_low.ensures w.if-is_low.true) w.in_ok-facts.ensures)
  | else-is_low+in_ok-facts-2 w ↦ subst (PropagatedIn c.args.temps c.args.facts.now (rolled.read c.args.temp c.args.array i)
      (at.Read c.args.temp c.args.array c.tree_of.result)) (sym w.facts-is)
      (reads c.args.temps c.args.facts.now w.in_ok-facts-2.facts c.args.temp c.args.array i c.tree_of.result
      (between c.args.facts.now i i _ _ refl c.tree_of.ensures h) w.in_ok-facts-2.ensures)
]
