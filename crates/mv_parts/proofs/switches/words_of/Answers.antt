use Rattle.std.proofs.Common.{arith}
use Rattle.mv_parts.proofs.PartSwitches.{next_fits, next_counts}
use Rattle.mv_parts.proofs.switches.words_of.Goals as goal

pub overflow_add-words : goal.overflow_add-words
overflow_add-words c =
    let fits = next_fits c.args.globals.now c.loop-global.global-index c.global-item.result c.loop-global-test.true c.global-item.is in
    omega (arith, fits, c.requires, c.loop-global.invariant, c.words_of_size-words.ensures)

pub loop-global-preserved : goal.loop-global-preserved
loop-global-preserved c =
    let next = next_counts c.args.globals.now c.loop-global.global-index c.global-item.result c.loop-global-test.true c.global-item.is in
    omega (arith, next, c.loop-global.invariant, c.words_of_size-words.ensures)
