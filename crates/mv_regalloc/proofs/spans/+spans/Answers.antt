use Rattle.std.proofs.Common.{◌≡◌, ◌-◌, ◌<◌, ◌∷◌, ◌++◌, [], length, drop, get_or, map, sym, ap, ◌∙◌, subst, arith}
use Rattle.std.proofs.lemmas.List.{append_assoc}
use Rattle.std.proofs.lemmas.Result.{on_ok_weaker}
use Rattle.mv_ir.specs.declared.stm.Stm as at
use Rattle.mv_regalloc.specs.declared.liveness.Row.TheVariants.{Saved, Start}
use Rattle.mv_regalloc.specs.Rows.{either_bits, live_before, own_trees, rows_in_order, sets, stm_rows, with_all_reads}
use Rattle.mv_regalloc.specs.Shared.{LiveSets, entered, forgotten, left, row_of, walked, with_live, with_rows, with_saved}
use Rattle.mv_regalloc.proofs.Positions.{from_end}
use Rattle.mv_regalloc.proofs.RowSteps.{block_walked, if_walked, loop_walked, walked_two}
use Rattle.mv_regalloc.proofs.spans.+spans.Goals as goal

pub mark_code-loop-done-preserved : goal.mark_code-loop-done-preserved
mark_code-loop-done-preserved t c =
    let code = c.args.code.now in
    let done = c.loop-done.done in
    let s = c.index-stms-stms.result in
    let first = c.args.liveness.now in
    let r = sets first.around first.live in
    let behind = drop (length code - done) code in
    let before = live_before (map stm_rows behind) r in
    let long = ap (λ l. length l) c.as_slice-stms.ensures in
    let low : done < length code = omega (arith, long) in
    let step = from_end code done s low (subst (λ l. s ≡ get_or l (length l - 1 - done) s) c.as_slice-stms.ensures c.index-stms-stms.is) in
    c.in_ok-mark_stm.ensures ∙ ap (λ v. walked v ((stm_rows s).live (sets v.around v.live)) ((stm_rows s).rows (sets v.around v.live))) c.loop-done.invariant ∙
    walked_two first before ((stm_rows s).live (sets first.around before)) (rows_in_order (map stm_rows behind) r) ((stm_rows s).rows (sets first.around before)) ∙
    ap (λ l. walked first (live_before (map stm_rows l) r) (rows_in_order (map stm_rows l) r)) (sym step)

pub mark_block-returns : goal.mark_block-returns
mark_block-returns t c =
    let code = c.args.code.now in
    let old = c.args.liveness.now in
    on_ok_weaker c.mark.result
    (λ z. z ∙ ap (λ v. with_rows v (v.live ∷ [])) (c.leave.ensures ∙ ap left (c.in_ok-mark_code.ensures ∙
    ap (λ v. walked v (live_before (map stm_rows code) (sets v.around v.live)) (rows_in_order (map stm_rows code) (sets v.around v.live))) c.in_ok-enter.ensures.ok)) ∙
    block_walked old code)
    c.mark.ensures

pub mark_loop-returns : goal.mark_loop-returns
mark_loop-returns t c =
    let code = c.args.code.now in
    let old = c.args.liveness.now in
    on_ok_weaker c.mark.result
    (λ z. z ∙ ap (λ v. with_rows v (v.live ∷ [])) (c.forget.ensures ∙ ap forgotten (c.leave.ensures ∙ ap left (c.turn.ensures ∙ ap (λ v. with_live v (row_of v (Start 0))) (c.in_ok-mark_code.ensures ∙
    ap (λ v. walked v (live_before (map stm_rows code) (sets v.around v.live)) (rows_in_order (map stm_rows code) (sets v.around v.live))) (c.in_ok-enter.ensures.ok ∙ ap (λ v. entered v (row_of v (Saved 0)) v.live)
    (c.in_ok-live_loop.ensures ∙ ap (λ v. with_live v ((stm_rows (at.Loop code)).live (sets v.around v.live))) c.in_ok-save.ensures.ok)))))) ∙
    loop_walked old code)
    c.mark.ensures

pub mark_stm-returns-in_ok-join-in-If : goal.mark_stm-returns-in_ok-join-in-If
mark_stm-returns-in_ok-join-in-If t c =
    let old = c.args.liveness.now in
    let test = c.in-If.field-0 in
    let a = c.in-If.a in
    let b = c.in-If.b in
    let r = sets old.around old.live in
    let rows_a = rows_in_order (map stm_rows a) r in
    let rows_b = rows_in_order (map stm_rows b) r in
    let both = either_bits (live_before (map stm_rows a) r) (live_before (map stm_rows b) r) in
    let here = with_all_reads (own_trees c.args.stm.now) both in
    on_ok_weaker c.mark_plain-in-If.result
    (λ z. z ∙ ap (λ v. walked v (with_all_reads (own_trees c.args.stm.now) v.live) (with_all_reads (own_trees c.args.stm.now) v.live ∷ [])) (c.forget-in-If.ensures ∙ ap forgotten (c.forget.ensures ∙ ap forgotten
    (c.in_ok-join-in-If.ensures.ok ∙ ap (λ v. with_live v (either_bits v.live (row_of v (Saved 0)))) (c.in_ok-mark_code-in-If-2.ensures ∙
    ap (λ v. walked v (live_before (map stm_rows a) (sets v.around v.live)) (rows_in_order (map stm_rows a) (sets v.around v.live))) (c.turn.ensures ∙ ap (λ v. with_live v (row_of v (Saved 1)))
    (c.in_ok-save-in-If-2.ensures.ok ∙ ap (λ v. with_saved v v.live) (c.in_ok-mark_code-in-If.ensures ∙
    ap (λ v. walked v (live_before (map stm_rows b) (sets v.around v.live)) (rows_in_order (map stm_rows b) (sets v.around v.live))) c.in_ok-save-in-If.ensures.ok))))))) ∙
    ap (λ l. let v : LiveSets = record old { live = here; rows = here ∷ l } in v) (sym (append_assoc rows_a rows_b old.rows)) ∙
    subst (λ s. walked old (with_all_reads (own_trees s) both) (with_all_reads (own_trees s) both ∷ (rows_a ++ rows_b)) ≡ walked old ((stm_rows s).live r) ((stm_rows s).rows r)) (sym c.in-If.is) (if_walked old test a b))
    c.mark_plain-in-If.ensures
