use Rattle.std.proofs.Common.{◌≡◌, drop}
use Rattle.std.specs.List.{list_any}
use Rattle.mv_types.specs.Units.{declares_constant}
use Rattle.mv_types.proofs.units.any_constant.Given as goal

abbrev pub invariant-loop-declarator : goal.invariant-loop-declarator
invariant-loop-declarator l = record {
  rest : list_any (declares_constant l.known) l.names ≡ list_any (declares_constant l.known) (drop l.declarator-index l.names);
}
