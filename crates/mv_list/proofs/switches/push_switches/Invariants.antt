use Rattle.std.proofs.Common.{◌≡◌, ◌++◌, drop}
use Rattle.mv_list.specs.Listing.{switches_text}
use Rattle.mv_list.proofs.switches.push_switches.Given as goal

abbrev pub invariant-loop-row : goal.invariant-loop-row
invariant-loop-row l = (l.switch ≡ l.row-index) × (l.out.items ++ switches_text l.image l.switch (drop l.row-index l.rows) ≡ l.initial.out.items ++ switches_text l.image 0 l.rows)
