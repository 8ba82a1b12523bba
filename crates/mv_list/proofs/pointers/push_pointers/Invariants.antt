use Rattle.std.proofs.Common.{◌≡◌, ◌++◌, drop}
use Rattle.mv_list.specs.Listing.{pointers_text}
use Rattle.mv_list.proofs.pointers.push_pointers.Given as goal

abbrev pub invariant-loop-row : goal.invariant-loop-row
invariant-loop-row l = (l.number ≡ l.row-index) × (l.out.items ++ pointers_text l.image l.number (drop l.row-index l.rows) ≡ l.initial.out.items ++ pointers_text l.image 0 l.rows)
