use Rattle.std.proofs.Common.{◌≡◌, ◌++◌, drop}
use Rattle.mv_list.specs.Listing.{functions_text}
use Rattle.mv_list.proofs.functions.push_functions.Given as goal

abbrev pub invariant-loop-row : goal.invariant-loop-row
invariant-loop-row l =
    (l.number ≡ l.row-index) × (l.out.items ++ functions_text l.image l.number (drop l.row-index l.rows) l.variants l.guards
    ≡ l.initial.out.items ++ functions_text l.image 0 l.image.functions l.image.variants l.image.guards)
