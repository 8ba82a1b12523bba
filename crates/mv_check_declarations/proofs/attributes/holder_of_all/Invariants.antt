use Rattle.std.proofs.Common.{◌≡◌, drop}
use Rattle.mv_check_declarations.specs.Attributes.{holder_of_all, all_hold}
use Rattle.mv_check_declarations.proofs.attributes.holder_of_all.Given as goal

abbrev pub invariant-loop-declarator : goal.invariant-loop-declarator
invariant-loop-declarator l = record {
  rest : holder_of_all l.position l.fixed l.declarators ≡ all_hold l.position l.fixed l.all (drop l.declarator-index l.rest);
}
