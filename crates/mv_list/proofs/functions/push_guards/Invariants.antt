use Rattle.std.proofs.Common.{◌≡◌, ◌++◌, drop}
use Rattle.mv_list.specs.Listing.{guards_text}
use Rattle.mv_list.proofs.functions.push_guards.Given as goal

abbrev pub invariant-loop-row : goal.invariant-loop-row
invariant-loop-row l = l.out.items ++ guards_text l.image l.switches (drop l.row-index l.rows) ≡ l.initial.out.items ++ guards_text l.image l.switches l.rows
