use Rattle.std.proofs.Common.{arith, ◌^◌, All, subst}
use Rattle.std.specs.Prelude.{None}
use Rattle.std.proofs.lemmas.List.{take_all}
use Rattle.mv_fold.specs.Reaching.{Fits}
use Rattle.mv_fold.proofs.Reached.{fits_more, greater, greatest}
use Rattle.mv_fold.proofs.needed.count.Goals as goal

pub loop-read-preserved : goal.loop-read-preserved
loop-read-preserved c =
    let first = greater c.loop-read.count c.row-end.result c.max.result c.max.ensures in
    let second = greatest c.max.result c.row-row.result c.max-count.result c.max-count.ensures in
    record {
      fits =
          fits_more c.loop-read.count c.max-count.result c.args.uses.now c.loop-read.read-index
          (record { user = None; used = 0 }) c.loop-read-test.true c.loop-read.invariant.fits (omega (arith, first.first, second.first))
          (omega (arith, first.second, second.first, c.row-end.ensures.value)) (omega (arith, second.second, c.row-row.ensures.value));
      small = second.below (2 ^ 33) (first.below (2 ^ 33) c.loop-read.invariant.small c.row-end.ensures.small) c.row-row.ensures.small;
    }

pub returns-clause-fits : goal.returns-clause-fits
returns-clause-fits c = subst (λ l. All (Fits c.loop-read.count) l) (take_all c.loop-read.read-index c.args.uses.now c.loop-read-test.false) c.loop-read.invariant.fits
