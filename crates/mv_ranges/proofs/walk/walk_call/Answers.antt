use Rattle.std.proofs.Common.{sym, subst}
use Rattle.mv_ir.specs.declared.stm.Stm as st
use Rattle.mv_ranges.specs.declared.walk.Reach.TheVariants.{Knowing}
use Rattle.mv_ranges.specs.Facts.{AllHold}
use Rattle.mv_ranges.specs.Following.{IsMarked}
use Rattle.mv_ranges.proofs.Marks.{call_marked}
use Rattle.mv_ranges.proofs.walk.walk_call.Goals as goal

pub returns : goal.returns
returns c around =
    subst (λ f. IsMarked c.args.ground.temps around c.args.facts (st.Call c.args.target c.args.callee.now c.args.args.now) (st.Call c.args.target f c.in_ok-args.args) (Knowing c.in_ok-after.after)) (sym c.in_ok-callee.ensures)
    (subst (λ xs. IsMarked c.args.ground.temps around c.args.facts (st.Call c.args.target c.args.callee.now c.args.args.now) (st.Call c.args.target c.args.callee.now xs) (Knowing c.in_ok-after.after)) (sym c.in_ok-args.ensures)
    (call_marked c.args.ground.temps around c.args.facts c.args.target c.args.callee.now c.args.args.now c.in_ok-after.after
    (λ s w v h. c.in_ok-after.ensures s w v (subst (AllHold s) (sym c.as_slice.ensures) h))))
