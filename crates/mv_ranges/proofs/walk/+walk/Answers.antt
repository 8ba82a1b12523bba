use Rattle.std.proofs.Common.{◌∙◌, ◌∷◌, ◌+◌, ◌<◌, take, get_or, length, List, ap, subst, sym}
use Rattle.mv_ir.specs.declared.stm.Stm.{Stm}
use Rattle.mv_ir.specs.declared.stm.Stm as st
use Rattle.mv_ranges.specs.declared.walk.Reach.TheVariants.{Never, Knowing}
use Rattle.mv_ranges.specs.Facts.{AllHold, AreKnown}
use Rattle.mv_ranges.specs.Following.{IsMarked, AreMarked, IsMarkedNext}
use Rattle.mv_ranges.proofs.Marks.{set_global_marked, zero_marked, return_marked}
use Rattle.mv_ranges.proofs.Codes.{step_marked, of_statement, loop_marked, block_marked}
use Rattle.mv_ranges.proofs.walk.+walk.Goals as goal

pub walk_code-loop-stm-preserved : goal.walk_code-loop-stm-preserved
walk_code-loop-stm-preserved t c = (
  c.in_ok-next.ensures.around ∙ c.loop-stm.invariant.0,
  subst (λ made. AreMarked c.args.ground.temps c.args.around.now c.args.facts (take (c.loop-stm.stm-index + 1) c.args.code.now) made c.in_ok-next.behind) (sym c.in_ok-push.ensures)
      (step_marked c.args.ground.temps c.args.around.now c.args.facts c.args.code.now c.loop-stm.made c.loop-stm.stm-index c.stm-item.result c.in_ok-next.next c.loop-stm.reach c.in_ok-next.behind
      (subst (λ (xs : List Stm). c.loop-stm.stm-index < length xs) c.as_slice-stm-items.ensures c.loop-stm-test.true) c.loop-stm.invariant.1
      (subst (λ x. IsMarkedNext c.args.ground.temps c.args.around.now c.loop-stm.reach x c.in_ok-next.next c.in_ok-next.behind)
      (c.stm-item.is ∙ ap (λ xs. get_or xs c.loop-stm.stm-index c.stm-item.result) c.as_slice-stm-items.ensures)
      (subst (λ a. IsMarkedNext c.args.ground.temps a c.loop-stm.reach c.stm-item.result c.in_ok-next.next c.in_ok-next.behind) c.loop-stm.invariant.0 c.in_ok-next.ensures.marked))),
)

pub walk_once-returns-clause-marked : goal.walk_once-returns-clause-marked
walk_once-returns-clause-marked t c =
    block_marked c.args.ground.temps c.args.around.now c.args.claim.now c.in_ok-made.reach c.args.facts.now c.args.code.now c.in_ok-made.made
    (subst (λ fs. AreMarked c.args.ground.temps (c.args.claim.now ∷ c.args.around.now) fs c.args.code.now c.in_ok-made.made c.in_ok-made.reach) c.in_ok-start.ensures
    (subst (λ cl. AreMarked c.args.ground.temps (cl ∷ c.args.around.now) c.in_ok-start.start c.args.code.now c.in_ok-made.made c.in_ok-made.reach) c.in_ok-copied.ensures c.in_ok-made.ensures.marked))
    (λ s k. subst (λ fs. AreKnown c.args.ground.temps fs s) c.as_slice.ensures (c.in_ok-checked_reach.ensures c.args.ground.temps s k))

pub walk_turns-returns-clause-marked : goal.walk_turns-returns-clause-marked
walk_turns-returns-clause-marked t c =
    loop_marked c.args.ground.temps c.args.around.now c.args.claim.now c.in_ok-made.reach c.args.facts.now c.args.code.now c.in_ok-made.made
    (λ s k. subst (AllHold s) c.as_slice-2.ensures (c.in_ok-checked.ensures s (subst (AllHold s) (sym c.as_slice.ensures) k)))
    (subst (λ fs. AreMarked c.args.ground.temps (c.args.claim.now ∷ c.args.around.now) fs c.args.code.now c.in_ok-made.made c.in_ok-made.reach) c.in_ok-start.ensures
    (subst (λ cl. AreMarked c.args.ground.temps (cl ∷ c.args.around.now) c.in_ok-start.start c.args.code.now c.in_ok-made.made c.in_ok-made.reach) c.in_ok-copied.ensures c.in_ok-made.ensures.marked))
    (λ s k. subst (λ fs. AreKnown c.args.ground.temps fs s) c.as_slice-3.ensures (c.in_ok-checked_reach.ensures c.args.ground.temps s k))

pub walk_stm-returns-in_ok-walk_set-in-Set-clause-marked :
    goal.walk_stm-returns-in_ok-walk_set-in-Set-clause-marked
walk_stm-returns-in_ok-walk_set-in-Set-clause-marked t c =
    of_statement c.args.ground.temps c.args.around.now c.args.facts _ c.args.stm.now c.in_ok-walk_set-in-Set.field-0.0 c.in_ok-walk_set-in-Set.field-0.1 c.in-Set.is (c.in_ok-walk_set-in-Set.ensures c.args.around.now)

pub walk_stm-returns-in_ok-walk_divide-in-Divide-clause-marked :
    goal.walk_stm-returns-in_ok-walk_divide-in-Divide-clause-marked
walk_stm-returns-in_ok-walk_divide-in-Divide-clause-marked t c =
    of_statement c.args.ground.temps c.args.around.now c.args.facts _ c.args.stm.now c.in_ok-walk_divide-in-Divide.field-0.0 c.in_ok-walk_divide-in-Divide.field-0.1 c.in-Divide.is (c.in_ok-walk_divide-in-Divide.ensures c.args.around.now)

pub walk_stm-returns-in_ok-walk_check-in-Check-clause-marked :
    goal.walk_stm-returns-in_ok-walk_check-in-Check-clause-marked
walk_stm-returns-in_ok-walk_check-in-Check-clause-marked t c =
    of_statement c.args.ground.temps c.args.around.now c.args.facts _ c.args.stm.now c.in_ok-walk_check-in-Check.field-0.0 c.in_ok-walk_check-in-Check.field-0.1 c.in-Check.is (c.in_ok-walk_check-in-Check.ensures c.args.around.now)

pub walk_stm-returns-in_ok-walk_read-in-Read-clause-marked :
    goal.walk_stm-returns-in_ok-walk_read-in-Read-clause-marked
walk_stm-returns-in_ok-walk_read-in-Read-clause-marked t c =
    of_statement c.args.ground.temps c.args.around.now c.args.facts _ c.args.stm.now c.in_ok-walk_read-in-Read.field-0.0 c.in_ok-walk_read-in-Read.field-0.1 c.in-Read.is (c.in_ok-walk_read-in-Read.ensures c.args.around.now)

pub walk_stm-returns-in_ok-walk_write-in-Write-clause-marked :
    goal.walk_stm-returns-in_ok-walk_write-in-Write-clause-marked
walk_stm-returns-in_ok-walk_write-in-Write-clause-marked t c =
    of_statement c.args.ground.temps c.args.around.now c.args.facts _ c.args.stm.now c.in_ok-walk_write-in-Write.field-0.0 c.in_ok-walk_write-in-Write.field-0.1 c.in-Write.is (c.in_ok-walk_write-in-Write.ensures c.args.around.now)

pub walk_stm-returns-in_ok-walk_call-in-Call-clause-marked :
    goal.walk_stm-returns-in_ok-walk_call-in-Call-clause-marked
walk_stm-returns-in_ok-walk_call-in-Call-clause-marked t c =
    of_statement c.args.ground.temps c.args.around.now c.args.facts _ c.args.stm.now c.in_ok-walk_call-in-Call.field-0.0 c.in_ok-walk_call-in-Call.field-0.1 c.in-Call.is (c.in_ok-walk_call-in-Call.ensures c.args.around.now)

pub walk_stm-returns-in_ok-walk_known-in-Known-clause-marked :
    goal.walk_stm-returns-in_ok-walk_known-in-Known-clause-marked
walk_stm-returns-in_ok-walk_known-in-Known-clause-marked t c =
    of_statement c.args.ground.temps c.args.around.now c.args.facts _ c.args.stm.now c.in_ok-walk_known-in-Known.field-0.0 c.in_ok-walk_known-in-Known.field-0.1 c.in-Known.is (c.in_ok-walk_known-in-Known.ensures c.args.around.now)

pub walk_stm-returns-in_ok-copy_tree-in-SetGlobal-clause-marked :
    goal.walk_stm-returns-in_ok-copy_tree-in-SetGlobal-clause-marked
walk_stm-returns-in_ok-copy_tree-in-SetGlobal-clause-marked t c =
    of_statement c.args.ground.temps c.args.around.now c.args.facts (st.SetGlobal c.in-SetGlobal.g c.in-SetGlobal.v) c.args.stm.now
    (st.SetGlobal c.in-SetGlobal.g c.in_ok-copy_tree-in-SetGlobal.field-0) (Knowing c.args.facts) c.in-SetGlobal.is
    (subst (λ v. IsMarked c.args.ground.temps c.args.around.now c.args.facts (st.SetGlobal c.in-SetGlobal.g c.in-SetGlobal.v) (st.SetGlobal c.in-SetGlobal.g v) (Knowing c.args.facts)) (sym c.in_ok-copy_tree-in-SetGlobal.ensures)
    (set_global_marked c.args.ground.temps c.args.around.now c.args.facts c.in-SetGlobal.g c.in-SetGlobal.v))

pub walk_stm-returns-in-Zero-clause-marked : goal.walk_stm-returns-in-Zero-clause-marked
walk_stm-returns-in-Zero-clause-marked t c =
    of_statement c.args.ground.temps c.args.around.now c.args.facts (st.Zero c.in-Zero.l) c.args.stm.now (st.Zero c.in-Zero.l) (Knowing c.args.facts) c.in-Zero.is
    (zero_marked c.args.ground.temps c.args.around.now c.args.facts c.in-Zero.l)

pub walk_stm-returns-in_ok-copy_tree-in-Return-clause-marked :
    goal.walk_stm-returns-in_ok-copy_tree-in-Return-clause-marked
walk_stm-returns-in_ok-copy_tree-in-Return-clause-marked t c =
    of_statement c.args.ground.temps c.args.around.now c.args.facts (st.Return c.in-Return.v) c.args.stm.now (st.Return c.in_ok-copy_tree-in-Return.field-0) Never c.in-Return.is
    (subst (λ v. IsMarked c.args.ground.temps c.args.around.now c.args.facts (st.Return c.in-Return.v) (st.Return v) Never) (sym c.in_ok-copy_tree-in-Return.ensures)
    (return_marked c.args.ground.temps c.args.around.now c.args.facts c.in-Return.v))

pub walk_stm-returns-in_ok-chosen-in-If-clause-marked : goal.walk_stm-returns-in_ok-chosen-in-If-clause-marked
walk_stm-returns-in_ok-chosen-in-If-clause-marked t c =
    of_statement c.args.ground.temps c.args.around.now c.args.facts _ c.args.stm.now c.in_ok-chosen-in-If.field-0.0 c.in_ok-chosen-in-If.field-0.1 c.in-If.is
    (c.in_ok-chosen-in-If.ensures c.args.ground.temps c.args.around.now c.args.facts c.in_ok-first-in-If.first c.in_ok-first-in-If.second c.in-If.a c.in-If.b c.in_ok-first-in-If.ensures c.in_ok-then-in-If.ensures.marked
    (subst (λ a. AreMarked c.args.ground.temps a c.in_ok-first-in-If.second c.in-If.b c.in_ok-other-in-If.other.0 c.in_ok-other-in-If.other.1) c.in_ok-then-in-If.ensures.around c.in_ok-other-in-If.ensures.marked))
