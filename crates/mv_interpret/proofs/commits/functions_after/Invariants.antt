use Rattle.std.proofs.Common.{◌≡◌, ◌++◌, drop, filter}
use Rattle.mv_ast.specs.Orders.{is_addressed, ordered_from, ordered_function}
use Rattle.mv_interpret.proofs.commits.functions_after.Given as goal

abbrev pub invariant-loop-f : goal.invariant-loop-f
invariant-loop-f l =
    l.after ++ ordered_from (is_addressed l.order.code l.order.index) (ordered_function l.program l.order.code l.globals) l.number
    (filter (λ f. f.attributed) (drop l.f-index l.f-items)) (drop l.number l.bindings) ≡
    ordered_from (is_addressed l.order.code l.order.index) (ordered_function l.program l.order.code l.globals) 0 (filter (λ f. f.attributed) l.f-items) l.bindings
