use Rattle.std.proofs.Common.{◌≡◌, ◌+◌, ◌≤◌, drop, filter}
use Rattle.mv_ast.specs.Orders.{is_addressed, bound_from}
use Rattle.mv_interpret.proofs.commits.count_bound.Given as goal

abbrev pub invariant-loop-f : goal.invariant-loop-f
invariant-loop-f l = record {
  few : l.bound ≤ l.f-index;
  rest :
      l.bound + bound_from (is_addressed l.order.code l.order.index) l.number (filter (λ f. f.attributed) (drop l.f-index l.f-items)) (drop l.number l.bindings) ≡
      bound_from (is_addressed l.order.code l.order.index) 0 (filter (λ f. f.attributed) l.f-items) l.bindings;
}
