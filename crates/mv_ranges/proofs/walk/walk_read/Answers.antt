use Rattle.std.proofs.Common.{ℕ, None, sym, subst}
use Rattle.mv_ir.specs.declared.stm.Stm as st
use Rattle.mv_ir.specs.Outcome.{State}
use Rattle.mv_ir.specs.Meaning.{with_temp}
use Rattle.mv_ranges.specs.declared.walk.Reach.TheVariants.{Knowing}
use Rattle.mv_ranges.specs.Facts.{AllHold, AreKnown}
use Rattle.mv_ranges.specs.Ranges.{IsWithin}
use Rattle.mv_ranges.specs.Following.{IsKept, IsMarked}
use Rattle.mv_ranges.proofs.Marks.{read_marked}
use Rattle.mv_ranges.proofs.walk.walk_read.Goals as goal

pub returns : goal.returns
returns c around =
    subst (λ i. IsMarked c.args.ground.temps around c.args.facts (st.Read c.args.temp c.args.array c.args.index.now) (st.Read c.args.temp c.promised-sure.result i) (Knowing c.in_ok-after.after)) (sym c.in_ok-copy_tree.ensures)
    (read_marked c.args.ground.temps around c.args.facts c.args.temp c.args.array c.promised-sure.result c.args.index.now c.in_ok-before.before c.in_ok-after.after c.promised-sure.ensures.same
    (subst (λ fs. IsKept fs c.args.array c.args.index.now c.promised-sure.result) c.as_slice.ensures c.promised-sure.ensures.kept) c.in_ok-before.ensures
    (subst (λ fs. (s : State) (v : ℕ) → AreKnown c.args.ground.temps fs s → IsWithin None v → AllHold (with_temp s c.args.temp v) c.in_ok-after.after) c.as_slice-2.ensures c.in_ok-after.ensures))
