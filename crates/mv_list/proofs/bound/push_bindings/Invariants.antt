use Rattle.std.proofs.Common.{◌≡◌, ◌++◌, drop}
use Rattle.mv_list.specs.Bindings.{bindings_from}
use Rattle.mv_list.proofs.bound.push_bindings.Given as goal

abbrev pub invariant-loop-row : goal.invariant-loop-row
invariant-loop-row l = (l.number ≡ l.row-index) × (l.out.items ++ bindings_from l.image l.bound l.number (drop l.row-index l.rows) ≡ l.initial.out.items ++ bindings_from l.image l.bound 0 l.rows)
