use Rattle.std.proofs.Common.{◌≡◌, map, take}
use Rattle.mv_lower_expressions.specs.Values.{seen}
use Rattle.mv_lower_expressions.specs.Expressions.{each_at}
use Rattle.mv_lower_expressions.proofs.expression.lower_each.Given as goal

abbrev pub invariant-loop-e : goal.invariant-loop-e
invariant-loop-e l = map seen l.values ≡ each_at l.pointers (take l.e-index l.es) l.n
