use Rattle.std.proofs.Common.{sym, subst, arith}
use Rattle.mv_ranges.specs.Facts.{AllHold}
use Rattle.mv_ranges.proofs.Values.{then_known}
use Rattle.mv_ranges.proofs.trees.at_most.Goals as goal

pub returns-in-Some : goal.returns-in-Some
returns-in-Some c = then_known c.at_least.result c.args.facts c.in_ok-facts.facts _ _ c.at_least.ensures (λ numbers bound s h le.
    let a = c.in-Some.ensures numbers bound s (subst (AllHold s) (sym c.as_slice.ensures) h) in
    let b = c.range_of-b.ensures numbers bound s (subst (AllHold s) (sym c.as_slice-2.ensures) h) in
    (c.in_ok-facts.ensures numbers bound s h (c.not_above.ensures _ _ b le), omega arith))

pub returns-in-None : goal.returns-in-None
returns-in-None c numbers bound s h le =
    let b = c.range_of-b.ensures numbers bound s (subst (AllHold s) (sym c.as_slice-2.ensures) h) in
    c.in_ok-facts.ensures numbers bound s h (c.not_above.ensures _ _ b le)
