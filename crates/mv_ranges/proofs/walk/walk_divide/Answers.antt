use Rattle.std.proofs.Common.{ℕ, sym, subst}
use Rattle.mv_ir.specs.declared.stm.Stm as st
use Rattle.mv_ir.specs.Outcome.{State}
use Rattle.mv_ir.specs.Meaning.{with_temp}
use Rattle.mv_ranges.specs.declared.walk.Reach.TheVariants.{Knowing}
use Rattle.mv_ranges.specs.Facts.{AllHold, AreKnown}
use Rattle.mv_ranges.specs.Ranges.{IsWithin}
use Rattle.mv_ranges.specs.Following.{IsMarked}
use Rattle.mv_ranges.proofs.Marks.{divide_marked}
use Rattle.mv_ranges.proofs.walk.walk_divide.Goals as goal

pub returns : goal.returns
returns c around =
    subst (λ x. IsMarked c.args.ground.temps around c.args.facts (st.Divide c.args.temp c.args.operator c.args.a.now c.args.b.now) (st.Divide c.args.temp c.args.operator x c.in_ok-b.b) (Knowing c.in_ok-after.after)) (sym c.in_ok-a.ensures)
    (subst (λ x. IsMarked c.args.ground.temps around c.args.facts (st.Divide c.args.temp c.args.operator c.args.a.now c.args.b.now)
    (st.Divide c.args.temp c.args.operator c.args.a.now x) (Knowing c.in_ok-after.after)) (sym c.in_ok-b.ensures)
    (divide_marked c.args.ground.temps around c.args.facts c.args.temp c.args.operator c.args.a.now c.args.b.now c.range_of_division-range.result c.in_ok-after.after
    (λ numbers bound s h. c.range_of_division-range.ensures numbers bound s (subst (AllHold s) (sym c.as_slice.ensures) h))
    (subst (λ fs. (s : State) (v : ℕ) → AreKnown c.args.ground.temps fs s → IsWithin c.range_of_division-range.result v → AllHold (with_temp s c.args.temp v) c.in_ok-after.after) c.as_slice-2.ensures c.in_ok-after.ensures)))
