use Rattle.std.proofs.Common.{sym, subst}
use Rattle.mv_ir.specs.declared.stm.Stm as st
use Rattle.mv_ranges.specs.declared.walk.Reach.TheVariants.{Knowing}
use Rattle.mv_ranges.specs.Following.{IsKept, IsMarked}
use Rattle.mv_ranges.proofs.Marks.{check_marked}
use Rattle.mv_ranges.proofs.walk.walk_check.Goals as goal

pub returns : goal.returns
returns c around =
    subst (λ i. IsMarked c.args.ground.temps around c.args.facts (st.Check c.args.array c.args.index.now) (st.Check c.promised-sure.result i) (Knowing c.in_ok-after.after)) (sym c.in_ok-copy_tree.ensures)
    (check_marked c.args.ground.temps around c.args.facts c.args.array c.promised-sure.result c.args.index.now c.in_ok-after.after c.promised-sure.ensures.same
    (subst (λ fs. IsKept fs c.args.array c.args.index.now c.promised-sure.result) c.as_slice.ensures c.promised-sure.ensures.kept) c.in_ok-after.ensures)
