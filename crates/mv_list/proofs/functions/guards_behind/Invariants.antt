use Rattle.std.proofs.Common.{◌≡◌, drop}
use Rattle.mv_list.specs.Listing.{guards_behind}
use Rattle.mv_list.proofs.functions.guards_behind.Given as goal

abbrev pub invariant-loop-row : goal.invariant-loop-row
invariant-loop-row l = guards_behind (drop l.row-index l.rows) l.left ≡ guards_behind l.rows l.guards
