use Rattle.std.proofs.Common.{refl}
use Rattle.std.specs.Ordering.{nat_cmp}
use Rattle.std.specs.BTreeSet.{contains}
use Rattle.mv_meaning_numbering.proofs.Differences.{seen_none, seen_one, seen_twice, seen_all, was_absent, was_present}
use Rattle.mv_meaning_numbering.proofs.numbering.are_different.Goals as goal

pub loop-number-init : goal.loop-number-init
loop-number-init c =
    seen_none c.args.numbers.now (contains nat_cmp c.new-seen.result) (λ q. rw c.new-seen.ensures.empty refl)

pub returns-then-not-branch : goal.returns-then-not-branch
returns-then-not-branch c = (
  (λ e. absurd (cc)),
  (λ apart.
      absurd
      (seen_twice c.args.numbers.now c.loop-number.number-index (contains nat_cmp c.loop-number.seen) c.loop-number.invariant c.loop-number-test.true
      (was_present _ _ c.in_ok-insert.ensures.added c.if-not-branch.true) apart)),
)

pub loop-number-preserved : goal.loop-number-preserved
loop-number-preserved c =
    seen_one c.args.numbers.now c.loop-number.number-index (contains nat_cmp c.loop-number.seen) (contains nat_cmp c.insert.new.self) _ refl
    c.in_ok-insert.ensures.updates.0 c.loop-number.invariant
    (was_absent _ _ c.in_ok-insert.ensures.added c.if-not-branch.false)

pub returns : goal.returns
returns c = (
  (λ e. seen_all c.args.numbers.now c.loop-number.number-index (contains nat_cmp c.loop-number.seen) c.loop-number.invariant c.loop-number-test.false),
  (λ apart. refl),
)
