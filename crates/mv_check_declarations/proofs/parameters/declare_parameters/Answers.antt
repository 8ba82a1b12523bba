use Rattle.std.proofs.Common.{rules, ◌≡◌, Err}
use Rattle.mv_check_declarations.specs.Parameters.{parameter_judgement}
use Rattle.mv_check_declarations.proofs.Parts.{left_failed}
use Rattle.mv_check_declarations.proofs.parameters.declare_parameters.Goals as goal

pub returns-in_err-declare_parameter : goal.returns-in_err-declare_parameter
returns-in_err-declare_parameter c =
    let r : c.from_residual.result ≡ Err c.in_err-declare_parameter.field-0.0 = search rules in
    rw r (left_failed parameter_judgement _ c.args.params.now c.loop-param.param-index c.loop-param.scope c.loop-param.invariant.rest
    c.param-item.result c.in_err-declare_parameter.field-0.0 _ _ (rw c.as_slice-param-items.ensures at c.loop-param-test.true)
    (rw c.as_slice-param-items.ensures at c.param-item.is) c.in_err-declare_parameter.ensures)
