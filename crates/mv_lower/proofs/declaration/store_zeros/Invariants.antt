use Rattle.std.proofs.Common.{◌≡◌, ◌-◌, ◌++◌}
use Rattle.mv_lower_spec.specs.Statements.{store_zeros}
use Rattle.mv_lower.proofs.declaration.store_zeros.Given as goal

abbrev pub invariant-loop-i : goal.invariant-loop-i
invariant-loop-i l = l.code ++ store_zeros l.size l.local l.i (l.to - l.i) ≡ l.initial.code ++ store_zeros l.size l.local l.from (l.to - l.from)
