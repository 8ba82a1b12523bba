use Rattle.std.proofs.Common.{◌≡◌, [], drop}
use Rattle.mv_check_declarations.specs.Turns.{through}
use Rattle.mv_check_declarations.specs.Attributes.{domain_value}
use Rattle.mv_check_declarations.proofs.attributes.domain.Given as goal

abbrev pub invariant-loop-node : goal.invariant-loop-node
invariant-loop-node l = record {
  rest : through (domain_value l.kind l.scope) l.nodes [] ≡ through (domain_value l.kind l.scope) (drop l.node-index l.nodes) l.values;
}
