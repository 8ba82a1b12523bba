use Rattle.std.proofs.Common.{arith}
use Rattle.mv_fetch.proofs.Places.{in_stack, in_globals}
use Rattle.mv_fetch.proofs.memory.Memory.store.Goals as goal

pub store_at-requires-clause-region : goal.store_at-requires-clause-region
store_at-requires-clause-region c =
    let at = c.words_above-in_stack.ensures in
    let whole = c.self.invariant.stack in
    (in_stack c.args.address c.args.width c.words_above-in_stack.result at.here at.elsewhere (omega (arith, c.if-in_stack-len.true, c.len.ensures, whole))).1

pub store_at-requires-clause-index : goal.store_at-requires-clause-index
store_at-requires-clause-index c =
    let at = c.words_above-in_stack.ensures in
    let whole = c.self.invariant.stack in
    (in_stack c.args.address c.args.width c.words_above-in_stack.result at.here at.elsewhere (omega (arith, c.if-in_stack-len.true, c.len.ensures, whole))).2

pub store_at-requires-then-in_globals-len-clause-region : goal.store_at-requires-then-in_globals-len-clause-region
store_at-requires-then-in_globals-len-clause-region c =
    let at = c.words_above-in_globals.ensures in
    let short = c.self.invariant.globals in
    (in_globals c.args.address c.args.width c.words_above-in_globals.result at.here at.elsewhere (omega (arith, c.if-in_globals-len.true, c.len-2.ensures, short))).1

pub store_at-requires-then-in_globals-len-clause-index : goal.store_at-requires-then-in_globals-len-clause-index
store_at-requires-then-in_globals-len-clause-index c =
    let at = c.words_above-in_globals.ensures in
    let short = c.self.invariant.globals in
    (in_globals c.args.address c.args.width c.words_above-in_globals.result at.here at.elsewhere (omega (arith, c.if-in_globals-len.true, c.len-2.ensures, short))).2
