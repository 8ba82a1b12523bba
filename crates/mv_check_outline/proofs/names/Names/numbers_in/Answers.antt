use Rattle.mv_check_outline.specs.Names.{number_in}
use Rattle.mv_check_outline.proofs.KeyLists.{numbered_more}
use Rattle.mv_check_outline.proofs.names.Names.numbers_in.Goals as goal

pub loop-name-preserved : goal.loop-name-preserved
loop-name-preserved c =
    let l = c.loop-name in
    numbered_more (number_in c.args.others.now) c.as_slice-name-items.result.now l.name-index c.name-item.result c.loop-name-test.true c.name-item.is
    c.as_slice.result.now c.as_slice.ensures.value l.numbers c.push.new.self l.invariant c.in_ok-short_number_of.field-0 c.in_ok-short_number_of.ensures
    c.in_ok-push.ensures.ok
