use Rattle.std.proofs.Common.{arith, ◌∙◌}
use Rattle.mv_ranges.proofs.Holding.{kept_one, kept_none, parts, stays}
use Rattle.mv_ranges.proofs.facts.without.Goals.{then-temp+in_ok-push, else-temp}
use Rattle.mv_ranges.proofs.facts.without.Goals as goal

pub loop-fact-preserved : goal.loop-fact-preserved
loop-fact-preserved c s s' h but long = elim c.if-temp.branch [
  | then-temp+in_ok-push w ↦ kept_one s s' _ _ _ _ _ c.loop-fact-test.true h (λ k. c.loop-fact.invariant s s' k but long) (w.kept-is ∙ w.in_ok-push.ensures.ok)
      (stays s s' _ _ (λ e. w.if-temp.true (c.temp.ensures ∙ e)) but long)
  | else-temp w ↦ kept_none s s' _ _ _ _ c.loop-fact-test.true h (λ k. c.loop-fact.invariant s s' k but long) w.kept-is
]

pub returns : goal.returns
returns c s s' h but long = c.loop-fact.invariant s s' (parts s _ _ (omega (arith, c.loop-fact-test.false)) h) but long
