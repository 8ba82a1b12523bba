use Rattle.std.proofs.Common.{arith, ◌∙◌, sym, subst}
use Rattle.std.proofs.lemmas.Result.{IfOk-weaker}
use Rattle.std.specs.Prelude.{List, slice_index}
use Rattle.mv_ir.specs.Outcome.{State}
use Rattle.mv_ranges.specs.declared.facts.Fact.{Fact}
use Rattle.mv_ranges.specs.Ranges.{IsIn}
use Rattle.mv_ranges.specs.Facts.{AllHold}
use Rattle.mv_ranges.proofs.Holding.{kept_one, kept_none, parts}
use Rattle.mv_ranges.proofs.facts.narrowed.Goals.{in-Within, in_default+in_ok-push-in_default, in-Some, in-None}
use Rattle.mv_ranges.proofs.facts.narrowed.Goals as goal

pub loop-fact-preserved : goal.loop-fact-preserved
loop-fact-preserved c s h = elim c.match-fact.branch [
  | in-Within w ↦ kept_none s s _ _ _ _ c.loop-fact-test.true h (λ k. c.loop-fact.invariant s k) w.kept-is
  | in_default+in_ok-push-in_default w ↦ kept_one s s _ _ _ _ _ c.loop-fact-test.true h (λ k. c.loop-fact.invariant s k) (w.kept-is ∙ w.in_ok-push-in_default.ensures.ok) (λ k. k)
]

pub returns : goal.returns
returns c = IfOk-weaker c.with.result _ _ gives c.with.ensures
  where
    lies : (s : State) → AllHold s c.args.facts.now → IsIn c.args.range (slice_index s.temps c.args.temp) → IsIn c.match-range_in.least (slice_index s.temps c.args.temp)
    lies s h i = elim c.match-range_in.branch [
      | in-Some w ↦ subst (λ r. IsIn r (slice_index s.temps c.args.temp)) (sym w.least-is) (w.meet-least.ensures _ (w.in-Some.ensures s h) i)
      | in-None w ↦ subst (λ r. IsIn r (slice_index s.temps c.args.temp)) (sym w.least-is) i
    ]

    gives : (more : List Fact) → ((s : State) → AllHold s c.loop-fact.kept → IsIn c.match-range_in.least (slice_index s.temps c.args.temp) → AllHold s more) →
        (s : State) → AllHold s c.args.facts.now → IsIn c.args.range (slice_index s.temps c.args.temp) → AllHold s more
    gives more give s h i = give s (c.loop-fact.invariant s (parts s _ _ (omega (arith, c.loop-fact-test.false)) h)) (lies s h i)
