use Rattle.std.proofs.Common.{arith}
use Rattle.mv_ranges.proofs.Holding.{through, whole}
use Rattle.mv_ranges.proofs.facts.refuted.Goals as goal

pub loop-fact-preserved : goal.loop-fact-preserved
loop-fact-preserved c s h = through s _ _ _ c.loop-fact-test.true (c.loop-fact.invariant s h) (c.implies.ensures c.if-not-implies.false s h)

pub returns : goal.returns
returns c e s h = whole s _ _ (omega (arith, c.loop-fact-test.false)) (c.loop-fact.invariant s h)
