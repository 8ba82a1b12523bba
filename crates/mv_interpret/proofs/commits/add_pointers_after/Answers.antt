use Rattle.std.proofs.Common.{◌++◌, sym, ◌∙◌, ap, arith, drop, append-nil}
use Rattle.std.proofs.lemmas.List.{drop_all}
use Rattle.mv_ast.specs.Numbering.{own_numbers}
use Rattle.mv_ast.specs.Orders.{is_pointer_addressed, ordered_from, ordered_pointer}
use Rattle.mv_ast.proofs.Common.{ordered_end}
use Rattle.mv_interpret.proofs.commits.add_pointers_after.Goals as goal

-- there are no more bindings
pub returns-then-number-bindings : goal.returns-then-number-bindings
returns-then-number-bindings c =
    let a = c.args in
    let l = c.loop-number in
    let addressed = is_pointer_addressed a.program.now a.order.code a.order.index in
    let next = ordered_pointer (own_numbers a.program.now) a.order.code a.globals.now in
    let items = c.as_slice-global-items.result.now in
    let none = ap (ordered_from addressed next l.number (drop l.number items)) (drop_all l.number a.bindings.now (omega arith)) ∙ ordered_end addressed next l.number (drop l.number items) in
    sym (append-nil l.after) ∙
    (ap (λ bs. l.after ++ bs) (sym none) ∙ (l.invariant ∙ ap (λ gs. a.after.now ++ ordered_from addressed next 0 gs a.bindings.now) c.as_slice-global-items.ensures))
