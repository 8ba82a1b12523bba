use Rattle.std.specs.Ordering.{nat_cmp}
use Rattle.std.specs.BTreeSet.{contains}
use Rattle.mv_meaning_numbering.proofs.Differences.{IsSeen}
use Rattle.mv_meaning_numbering.proofs.numbering.are_different.Given as goal

abbrev pub invariant-loop-number : goal.invariant-loop-number
invariant-loop-number l = IsSeen l.numbers l.number-index (contains nat_cmp l.seen)
