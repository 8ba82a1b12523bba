use Rattle.std.proofs.Common.{arith, ◌∙◌}
use Rattle.mv_ranges.proofs.Holding.{kept_one, kept_none, parts, within_stays}
use Rattle.mv_ranges.proofs.facts.without_arrays.Goals.{in-Within+in_ok-push-in-Within, in-Below}
use Rattle.mv_ranges.proofs.facts.without_arrays.Goals as goal

pub loop-fact-preserved : goal.loop-fact-preserved
loop-fact-preserved c s s' h e = elim c.match-fact.branch [
  | in-Within+in_ok-push-in-Within w ↦ kept_one s s' _ _ _ _ _ c.loop-fact-test.true h (λ k. c.loop-fact.invariant s s' k e) (w.kept-is ∙ w.in_ok-push-in-Within.ensures.ok)
      (within_stays s s' _ _ _ w.in-Within.is e)
  | in-Below w ↦ kept_none s s' _ _ _ _ c.loop-fact-test.true h (λ k. c.loop-fact.invariant s s' k e) w.kept-is
]

pub returns : goal.returns
returns c s s' h e = c.loop-fact.invariant s s' (parts s _ _ (omega (arith, c.loop-fact-test.false)) h) e
