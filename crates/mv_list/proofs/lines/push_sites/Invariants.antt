use Rattle.std.proofs.Common.{◌≡◌, ◌++◌, drop}
use Rattle.mv_list.specs.Listing.{sites_text}
use Rattle.mv_list.proofs.lines.push_sites.Given as goal

abbrev pub invariant-loop-row : goal.invariant-loop-row
invariant-loop-row l = l.out.items ++ sites_text l.image (drop l.row-index l.rows) ≡ l.initial.out.items ++ sites_text l.image l.rows
