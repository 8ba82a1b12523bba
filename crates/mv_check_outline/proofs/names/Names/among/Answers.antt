use Rattle.std.proofs.Common.{◌∙◌, true, false}
use Rattle.mv_check_outline.proofs.KeyLists.{kept_more}
use Rattle.mv_check_outline.proofs.names.Names.among.Goals as goal
use Rattle.mv_check_outline.proofs.names.Names.among.Goals.{then-has+in_ok-add, else-has}

pub loop-name-preserved : goal.loop-name-preserved
loop-name-preserved c =
    let l = c.loop-name in
    let turn = kept_more c.args.others.now c.as_slice-name-items.result.now l.name-index c.name-item.result c.loop-name-test.true c.name-item.is
    c.as_slice-name.result.now c.as_slice-name.ensures.value c.has.result c.has.ensures l.names c.if-has.names l.invariant in
    elim c.if-has.branch [
      | then-has+in_ok-add w ↦ turn true w.if-has.true (w.names-is ∙ w.in_ok-add.ensures)
      | else-has w ↦ turn false w.if-has.false w.names-is
    ]
