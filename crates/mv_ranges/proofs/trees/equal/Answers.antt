use Rattle.std.proofs.Common.{sym, subst}
use Rattle.mv_ranges.specs.Ranges.{IsWithin}
use Rattle.mv_ranges.specs.Facts.{AllHold}
use Rattle.mv_ranges.proofs.Values.{then_known}
use Rattle.mv_ranges.proofs.trees.equal.Goals as goal

pub returns : goal.returns
returns c = then_known c.lying-2.result c.args.facts c.in_ok-facts.facts _ _ c.lying-2.ensures (λ numbers bound s h e.
    let a = c.range_of-a.ensures numbers bound s (subst (AllHold s) (sym c.as_slice.ensures) h) in
    let b = c.range_of-b.ensures numbers bound s (subst (AllHold s) (sym c.as_slice-2.ensures) h) in
    (c.in_ok-facts.ensures numbers bound s h (subst (IsWithin c.range_of-b.result) (sym e) b), subst (IsWithin c.range_of-a.result) e a))
