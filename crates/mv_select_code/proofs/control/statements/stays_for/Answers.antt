use Rattle.std.proofs.Common.{◌≡◌, cond, None, Some, sym, ap, ◌∙◌}
use Rattle.std.proofs.lemmas.Option.{IfSome_then}
use Rattle.mv_select_code.specs.Control.FlowCode.{staying}
use Rattle.mv_select_code.specs.Control.Staying.{tested_of}
use Rattle.mv_select_code.proofs.OfControl.Emitting.{unstaying, stays_by, chosen, branches_to}
use Rattle.mv_select_code.proofs.control.statements.stays_for.Goals as goal
use Rattle.mv_select_code.proofs.control.statements.stays_for.Goals.{then-sense, else-sense}

pub returns-in_err-sense-in-If : goal.returns-in_err-sense-in-If
returns-in_err-sense-in-If c = record {
  code = λ plan.
      stays_by plan c.args.statement.now c.in-If.test c.in-If.first c.in-If.second c.list_leading.result c.list_leading-in-If.result None c.in-If.is (c.list_leading.ensures plan) (c.list_leading-in-If.ensures plan)
      c.in_err-sense-in-If.ensures ∙ ap (tested_of plan) (sym c.from_residual.ensures);
  branch = rw c.from_residual.ensures tt;
}

pub returns-after-sense : goal.returns-after-sense
returns-after-sense c =
    let a = c.in-If.first in
    let b = c.in-If.second in
    let sense = c.in_ok-sense-in-If.sense in
    let lead = c.in_ok-sense-in-If.lead in
    let list : c.if-sense.staying_for.now ≡ cond sense b a = elim c.if-sense.branch [
      | then-sense w ↦ rw w.if-sense.true (let is = w.staying_for-is in cc)
      | else-sense w ↦ rw w.if-sense.false (let is = w.staying_for-is in cc)
    ] in
    record {
      code = λ plan.
          stays_by plan c.args.statement.now c.in-If.test a b c.list_leading.result c.list_leading-in-If.result (Some (sense, lead)) c.in-If.is (c.list_leading.ensures plan) (c.list_leading-in-If.ensures plan)
          c.in_ok-sense-in-If.ensures ∙ ap (staying c.in-If.test sense lead) (chosen plan sense a b c.if-sense.staying_for.now list) ∙ c.staying_for.ensures.code plan;
      branch = IfSome_then c.staying_for.result c.staying_for.ensures.same (λ x same. branches_to sense c.args.statement.now c.in-If.test x.test.now a b x.list.now c.in-If.is same.0 (same.1 ∙ list));
    }

pub returns-in_default : goal.returns-in_default
returns-in_default c = record { code = λ plan. unstaying plan c.args.statement.now c.in_default.not-If; branch = tt }
