use Rattle.std.proofs.Common.{ℕ, List, subst, sym}
use Rattle.mv_ir.specs.declared.stm.Stm as st
use Rattle.mv_ir.specs.Outcome.{State}
use Rattle.mv_ir.specs.Trees.{value}
use Rattle.mv_ir.specs.Meaning.{with_temp}
use Rattle.mv_ranges.specs.declared.walk.Reach.TheVariants.{Knowing}
use Rattle.mv_ranges.specs.Facts.{AllHold, AreKnown}
use Rattle.mv_ranges.specs.Following.{IsMarked}
use Rattle.mv_ranges.proofs.Marks.{set_marked}
use Rattle.mv_ranges.proofs.walk.walk_set.Goals as goal

pub returns : goal.returns
returns c around =
    subst (λ v. IsMarked c.args.ground.temps around c.args.facts (st.Set c.args.temp c.args.value.now) (st.Set c.args.temp v) (Knowing c.in_ok-after.after)) (sym c.in_ok-copy_tree.ensures)
    (set_marked c.args.ground.temps around c.args.facts c.args.temp c.args.value.now c.in_ok-after.after
    (subst (λ fs. (numbers : List ℕ) (bound : List (ℕ × ℕ)) (s : State) → AreKnown c.args.ground.temps fs s → AllHold (with_temp s c.args.temp (value numbers bound c.args.value.now s.temps s.world.globals)) c.in_ok-after.after)
    c.as_slice.ensures c.in_ok-after.ensures))
