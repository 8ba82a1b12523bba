use Rattle.mv_regalloc.specs.Tracked.{AreFirsts}
use Rattle.mv_regalloc.proofs.number.firsts.Given as goal

abbrev pub invariant-loop-temp : goal.invariant-loop-temp
invariant-loop-temp l = AreFirsts l.body l.temp l.spans.positions l.lists
