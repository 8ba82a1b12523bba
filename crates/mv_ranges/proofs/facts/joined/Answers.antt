use Rattle.std.proofs.Common.{arith, ◌∙◌, subst, sym}
use Rattle.mv_ranges.specs.Facts.{AllHold}
use Rattle.mv_ranges.proofs.Holding.{kept_other, kept_none, parts, pushed}
use Rattle.mv_ranges.proofs.facts.joined.Goals.{in-Some+in_ok-push-in-Some, in-None}
use Rattle.mv_ranges.proofs.facts.joined.Goals as goal

pub loop-fact-preserved : goal.loop-fact-preserved
loop-fact-preserved c = elim c.match-common.branch [
  | in-Some+in_ok-push-in-Some w ↦ (
    λ s h. kept_other s _ _ _ _ _ _ c.loop-fact-test.true h (c.loop-fact.invariant.0 s) (w.both-is ∙ w.in_ok-push-in-Some.ensures.ok) (w.in-Some.ensures.first s),
    λ s h. subst (AllHold s) (sym (w.both-is ∙ w.in_ok-push-in-Some.ensures.ok)) (pushed s _ _ (c.loop-fact.invariant.1 s h) (w.in-Some.ensures.second s h)),
  )
  | in-None w ↦ (
    λ s h. kept_none s s _ _ _ _ c.loop-fact-test.true h (c.loop-fact.invariant.0 s) w.both-is,
    λ s h. subst (AllHold s) (sym w.both-is) (c.loop-fact.invariant.1 s h),
  )
]

pub returns-clause-first : goal.returns-clause-first
returns-clause-first c s h = c.loop-fact.invariant.0 s (parts s _ _ (omega (arith, c.loop-fact-test.false)) h)
