use Rattle.std.proofs.Common.{◌<◌, length, arith, subst, sym}
use Rattle.std.specs.Prelude.{slice_index}
use Rattle.mv_ir.specs.Meaning.{elements, with_temp}
use Rattle.mv_ranges.specs.Facts.{AllHold, Holds}
use Rattle.mv_ranges.proofs.Steps.{below_copied}
use Rattle.mv_ranges.proofs.walk.bounded.Goals.{in-Below+in_ok-after-in-Below, in-Below+else-other-from, in-Within-1}
use Rattle.mv_ranges.proofs.walk.bounded.Goals as goal

pub loop-fact-preserved : goal.loop-fact-preserved
loop-fact-preserved c s known h = elim c.match-fact.branch [
  | in-Below+in_ok-after-in-Below w ↦ subst (AllHold (with_temp s c.args.temp _)) (sym w.after-is) (w.in_ok-after-in-Below.ensures _ (c.loop-fact.invariant s known h)
      (below_copied s c.args.temp c.args.from w.in-Below.array (let e = known.enough in omega (arith, e, c.if-temp-ground.true))
      (subst (λ u. slice_index s.temps u < length (elements w.in-Below.array s)) w.if-other-from.true (subst (Holds s) w.in-Below.is (known.true c.loop-fact.fact-index _ c.loop-fact-test.true)))))
  | in-Below+else-other-from w ↦ subst (AllHold (with_temp s c.args.temp _)) (sym w.after-is) (c.loop-fact.invariant s known h)
  | in-Within-1 w ↦ subst (AllHold (with_temp s c.args.temp _)) (sym w.after-is) (c.loop-fact.invariant s known h)
]
