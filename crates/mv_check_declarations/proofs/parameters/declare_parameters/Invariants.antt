use Rattle.std.proofs.Common.{◌≡◌, drop}
use Rattle.mv_check_declarations.specs.Parameters.{parameter_judgement, parameters_judgement}
use Rattle.mv_check_declarations.specs.Turns.{through}
use Rattle.mv_check_declarations.proofs.parameters.declare_parameters.Given as goal

abbrev pub invariant-loop-param : goal.invariant-loop-param
invariant-loop-param l = record {
  rest : parameters_judgement l.fn.scope l.params ≡ through parameter_judgement (drop l.param-index l.params) l.scope;
}
