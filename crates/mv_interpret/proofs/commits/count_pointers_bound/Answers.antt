use Rattle.std.proofs.Common.{◌∙◌, ap, arith, drop}
use Rattle.std.proofs.lemmas.List.{drop_all}
use Rattle.mv_ast.specs.Orders.{is_pointer_addressed, bound_from}
use Rattle.mv_interpret.proofs.Committing.{bound_none}
use Rattle.mv_interpret.proofs.commits.count_pointers_bound.Goals as goal

pub returns-then-number-bindings-clause-count : goal.returns-then-number-bindings-clause-count
returns-then-number-bindings-clause-count c =
    let l = c.loop-number in
    let addressed = is_pointer_addressed c.args.program.now c.args.order.code c.args.order.index in
    let items = c.as_slice-global-items.result.now in
    let none = ap (bound_from addressed l.number (drop l.number items)) (drop_all l.number c.args.bindings.now (omega arith)) ∙ bound_none addressed l.number (drop l.number items) in
    let same = ap (λ gs. bound_from addressed 0 gs c.args.bindings.now) c.as_slice-global-items.ensures in
    let rest = l.invariant.rest in
    omega (arith, none, rest, same)
