use Rattle.std.proofs.Common.{◌≡◌, ◌++◌, drop}
use Rattle.mv_list.specs.Listing.{ranges_text}
use Rattle.mv_list.proofs.functions.push_ranges.Given as goal

abbrev pub invariant-loop-switch : goal.invariant-loop-switch
invariant-loop-switch l = (l.i ≡ l.switch-index) × (l.out.items ++ ranges_text l.image l.row l.i (drop l.switch-index l.switches) ≡ l.initial.out.items ++ ranges_text l.image l.row 0 l.switches)
