use Rattle.std.proofs.Common.{◌≡◌, true, sym, ap, ◌∙◌}
use Rattle.mv_ir.specs.Operators.{logical_not}
use Rattle.mv_plain.specs.Plain.{is_truth}
use Rattle.mv_plain.proofs.PlainTrees.{stays_unary, not_twice, not_compared}
use Rattle.mv_plain.proofs.plain.denied.Goals as goal

pub returns-then-is_truth : goal.returns-then-is_truth
returns-then-is_truth c =
    let s = c.in-Unary in
    let truth : is_truth s.a ≡ true = ap is_truth (sym c.get.ensures) ∙ sym c.is_truth.ensures ∙ c.if-is_truth.true in
    not_twice c.args.tree s.o s.a c.into_inner.result s.is c.if-o-eq-LOGICAL_NOT.true truth c.into_inner.ensures

pub returns-in-Some : goal.returns-in-Some
returns-in-Some c =
    let s = c.in-Binary in
    not_compared c.args.tree s.o c.in-Some.p s.a s.b s.is (c.in-Some.ensures s.a s.b)

pub returns-in_ok-new-in-None : goal.returns-in_ok-new-in-None
returns-in_ok-new-in-None c = stays_unary logical_not c.args.tree c.in_ok-new-in-None.field-0 (c.in_ok-new-in-None.ensures ∙ sym c.in-Binary.is)

pub returns-in_ok-new-in-Unary : goal.returns-in_ok-new-in-Unary
returns-in_ok-new-in-Unary c = stays_unary logical_not c.args.tree c.in_ok-new-in-Unary.field-0 (c.in_ok-new-in-Unary.ensures ∙ sym c.in-Unary.is)

pub returns-in_ok-new-in_default : goal.returns-in_ok-new-in_default
returns-in_ok-new-in_default c = stays_unary logical_not c.args.tree c.in_ok-new-in_default.field-0 c.in_ok-new-in_default.ensures
