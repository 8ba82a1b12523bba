use Rattle.std.proofs.Common.{sym, subst}
use Rattle.mv_ir.specs.declared.stm.Stm as st
use Rattle.mv_ranges.specs.declared.walk.Reach.TheVariants.{Knowing}
use Rattle.mv_ranges.specs.Following.{IsKept, IsMarked}
use Rattle.mv_ranges.proofs.Marks.{write_marked}
use Rattle.mv_ranges.proofs.walk.walk_write.Goals as goal

pub returns : goal.returns
returns c around =
    subst (λ i. IsMarked c.args.ground.temps around c.args.facts (st.Write c.args.array c.args.index.now c.args.value.now) (st.Write c.promised-sure.result i c.in_ok-value.value) (Knowing c.in_ok-after.after)) (sym c.in_ok-index.ensures)
    (subst (λ v. IsMarked c.args.ground.temps around c.args.facts (st.Write c.args.array c.args.index.now c.args.value.now) (st.Write c.promised-sure.result c.args.index.now v) (Knowing c.in_ok-after.after)) (sym c.in_ok-value.ensures)
    (write_marked c.args.ground.temps around c.args.facts c.args.array c.promised-sure.result c.args.index.now c.args.value.now c.in_ok-after.after c.promised-sure.ensures.same
    (subst (λ fs. IsKept fs c.args.array c.args.index.now c.promised-sure.result) c.as_slice.ensures c.promised-sure.ensures.kept) c.in_ok-after.ensures))
