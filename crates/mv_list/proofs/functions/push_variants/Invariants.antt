use Rattle.std.proofs.Common.{◌≡◌, ◌++◌, drop}
use Rattle.mv_list.specs.Listing.{variants_text}
use Rattle.mv_list.proofs.functions.push_variants.Given as goal

abbrev pub invariant-loop-row : goal.invariant-loop-row
invariant-loop-row l = (l.number ≡ l.row-index) × (l.out.items ++ variants_text l.image l.switches l.number (drop l.row-index l.rows) l.left ≡ l.initial.out.items ++ variants_text l.image l.switches 0 l.rows l.guards)
