use Rattle.std.proofs.Common.{◌-◌, length, map, reverse, arith}
use Rattle.std.proofs.lemmas.List.{drop_all}
use Rattle.mv_regalloc.specs.Shared.{bits_at}
use Rattle.mv_regalloc.proofs.Telling.{all_long, ends_done, ends_next, ends_none}
use Rattle.mv_regalloc.proofs.table.ends_of.Goals as goal

pub loop-i-init : goal.loop-i-init
loop-i-init c =
    let rows = c.args.rows.now in
    let all = map (bits_at c.args.temps c.args.parts.now) (reverse rows) in
    let h = c.in_ok-firsts.ensures in
    let long = all_long c.args.parts.now c.args.temps rows in
    record {
      seen = h.seen;
      ends = ends_none c.args.temps c.in_ok-firsts.firsts h.values h.told _ (drop_all (length rows - 0) all (omega (arith, long)));
    }

pub loop-i-preserved : goal.loop-i-preserved
loop-i-preserved c = record {
  seen = c.in_ok-tell.ensures.seen;
  ends = ends_next c.args.parts.now c.args.temps c.args.rows.now c.loop-i.i c.loop-i-test.true c.loop-i.firsts c.tell.new.self c.in_ok-tell.ensures.told c.loop-i.invariant.ends;
}

pub returns : goal.returns
returns c = ends_done c.args.parts.now c.args.temps c.args.rows.now c.loop-i.i c.loop-i.firsts c.loop-i-test.false c.loop-i.invariant.ends
