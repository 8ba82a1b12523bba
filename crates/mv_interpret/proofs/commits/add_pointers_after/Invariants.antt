use Rattle.std.proofs.Common.{◌≡◌, ◌++◌, drop}
use Rattle.mv_ast.specs.Numbering.{own_numbers}
use Rattle.mv_ast.specs.Orders.{is_pointer_addressed, ordered_from, ordered_pointer}
use Rattle.mv_interpret.proofs.commits.add_pointers_after.Given as goal

abbrev pub invariant-loop-number : goal.invariant-loop-number
invariant-loop-number l =
    l.after ++ ordered_from (is_pointer_addressed l.program l.order.code l.order.index) (ordered_pointer (own_numbers l.program) l.order.code l.globals) l.number
    (drop l.number l.global-items) (drop l.number l.bindings) ≡
    l.fn.after ++ ordered_from (is_pointer_addressed l.program l.order.code l.order.index) (ordered_pointer (own_numbers l.program) l.order.code l.globals) 0 l.global-items l.bindings
