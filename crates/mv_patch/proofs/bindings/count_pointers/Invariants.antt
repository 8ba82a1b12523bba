use Rattle.std.proofs.Common.{◌≡◌, ◌+◌, ◌≤◌, drop}
use Rattle.mv_patch.specs.Orders.{code_of, index_of, is_pointer_ordered, pointer_bindings, bound_rows}
use Rattle.mv_patch.proofs.bindings.count_pointers.Given as goal

abbrev pub invariant-loop-number : goal.invariant-loop-number
invariant-loop-number l = record {
  few : l.count ≤ l.number;
  rest :
      let addressed = is_pointer_ordered l.image (code_of l.order) (index_of l.order) in
      let bindings = pointer_bindings l.image l.bound in
      l.count + bound_rows addressed l.number (drop l.number l.image.pointers) (drop l.number bindings) ≡ bound_rows addressed 0 l.image.pointers bindings;
}
