use Rattle.std.proofs.Common.{◌≡◌, ◌+◌, ◌≤◌, drop}
use Rattle.mv_patch.specs.Orders.{code_of, index_of, is_ordered, bound_rows}
use Rattle.mv_patch.proofs.bindings.count_functions.Given as goal

abbrev pub invariant-loop-i : goal.invariant-loop-i
invariant-loop-i l = record {
  few : l.count ≤ l.i;
  rest :
      let addressed = is_ordered (code_of l.order) (index_of l.order) in
      l.count + bound_rows addressed l.i (drop l.i l.image.functions) (drop l.i l.bound) ≡ bound_rows addressed 0 l.image.functions l.bound;
}
