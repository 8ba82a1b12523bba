use Rattle.std.proofs.Common.{◌≡◌, ◌+◌, ◌≤◌, drop}
use Rattle.mv_ast.specs.Orders.{is_pointer_addressed, bound_from}
use Rattle.mv_interpret.proofs.commits.count_pointers_bound.Given as goal

abbrev pub invariant-loop-number : goal.invariant-loop-number
invariant-loop-number l = record {
  few : l.bound ≤ l.number;
  rest :
      l.bound + bound_from (is_pointer_addressed l.program l.order.code l.order.index) l.number (drop l.number l.global-items) (drop l.number l.bindings) ≡
      bound_from (is_pointer_addressed l.program l.order.code l.order.index) 0 l.global-items l.bindings;
}
