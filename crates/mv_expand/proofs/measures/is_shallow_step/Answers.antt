use Rattle.std.proofs.Common.{◌≤◌, arith, leb-true, sym, subst}
use Rattle.mv_ir.specs.Measures.{deepest_of, stm_trees}
use Rattle.mv_ir.specs.Trees.{depth}
use Rattle.mv_expand.proofs.Counting.{uncapped}
use Rattle.mv_expand.proofs.Stepwise.{shallow_set, shallow_divide}
use Rattle.mv_expand.proofs.measures.is_shallow_step.Goals as goal

pub returns-in-Set : goal.returns-in-Set
returns-in-Set c = λ e.
    let s = c.in-Set in
    subst (λ x. deepest_of (stm_trees x) ≤ 4) (sym s.is)
    (shallow_set s.field-0 s.v (uncapped (depth s.v) c.depth.result 4 (omega arith) (leb-true c.depth.result 4 e) c.depth.ensures))

pub returns-then-depth-le4 : goal.returns-then-depth-le4
returns-then-depth-le4 c = λ e.
    let s = c.in-Divide in
    let first = c.depth-in-Divide in
    let second = c.depth-then-depth-le4 in
    subst (λ x. deepest_of (stm_trees x) ≤ 4) (sym s.is)
    (shallow_divide s.field-0 s.field-1 s.a s.b (uncapped (depth s.a) first.result 4 (omega arith) c.if-depth-le4.true first.ensures)
    (uncapped (depth s.b) second.result 4 (omega arith) (leb-true second.result 4 e) second.ensures))
