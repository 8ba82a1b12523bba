use Rattle.std.proofs.Common.{map, reverse}
use Rattle.mv_regalloc.specs.Shared.{bits_at}
use Rattle.mv_regalloc.proofs.Telling.{begins_done, begins_next, begins_none}
use Rattle.mv_regalloc.proofs.table.begins_of.Goals as goal

pub loop-done-init : goal.loop-done-init
loop-done-init c =
    let h = c.in_ok-firsts.ensures in
    record {
      seen = h.seen;
      begins = begins_none c.args.temps c.in_ok-firsts.firsts h.values h.told (map (bits_at c.args.temps c.args.parts.now) (reverse c.args.rows.now));
    }

pub loop-done-preserved : goal.loop-done-preserved
loop-done-preserved c = record {
  seen = c.in_ok-tell.ensures.seen;
  begins = begins_next c.args.parts.now c.args.temps c.args.rows.now c.loop-done.done c.loop-done-test.true c.loop-done.firsts c.tell.new.self c.in_ok-tell.ensures.told c.loop-done.invariant.begins;
}

pub returns : goal.returns
returns c = begins_done c.args.parts.now c.args.temps c.args.rows.now c.loop-done.done c.loop-done.firsts c.loop-done-test.false c.loop-done.invariant.begins
