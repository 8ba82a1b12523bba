use Rattle.std.proofs.Common.{sym, arith}
use Rattle.mv_image.specs.Counts.{count_of}
use Rattle.mv_image.proofs.PlaceLaws.{sum_below-more, owner-is}
use Rattle.mv_image.proofs.places.owner_from.Goals as goal

pub loop-at-preserved : goal.loop-at-preserved
loop-at-preserved c = record {
  reached = record {
    owner = omega arith;
    start = omega (arith, c.count.ensures, c.loop-at.invariant.reached.start, sum_below-more (count_of c.args.counts c.args.words.now) c.loop-at.at.owner);
    before = omega arith;
  };
  forward = omega (arith, c.loop-at.invariant.forward);
}

pub returns-then-thing-next-clause-owner : goal.returns-then-thing-next-clause-owner
returns-then-thing-next-clause-owner c =
    sym (owner-is (count_of c.args.counts c.args.words.now) c.args.n c.loop-at.at.owner c.args.thing c.loop-at.invariant.reached.owner
    (omega (arith, c.loop-at.invariant.reached.start, c.loop-at.invariant.reached.before))
    (λ lt. omega (arith, c.count.ensures, c.loop-at.invariant.reached.start, sum_below-more (count_of c.args.counts c.args.words.now) c.loop-at.at.owner)))

pub returns-clause-owner : goal.returns-clause-owner
returns-clause-owner c =
    sym (owner-is (count_of c.args.counts c.args.words.now) c.args.n c.loop-at.at.owner c.args.thing c.loop-at.invariant.reached.owner
    (omega (arith, c.loop-at.invariant.reached.start, c.loop-at.invariant.reached.before))
    (λ lt. absurd (omega arith)))
