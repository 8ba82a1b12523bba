use Rattle.std.proofs.Common.{◌≡◌, ◌++◌, drop}
use Rattle.mv_list.specs.Bindings.{pointed_from}
use Rattle.mv_list.proofs.bound.push_pointers.Given as goal

abbrev pub invariant-loop-row : goal.invariant-loop-row
invariant-loop-row l = (l.number ≡ l._row-index) × (l.out.items ++ pointed_from l.image l.bound l.number (drop l._row-index l.rows) ≡ l.initial.out.items ++ pointed_from l.image l.bound 0 l.rows)
