use Rattle.std.proofs.Common.{◌≡◌, drop}
use Rattle.mv_check_declarations.specs.Turns.{through}
use Rattle.mv_types.specs.Repeated.{AreSettled}
use Rattle.mv_types.specs.Units.{declarator_judgement}
use Rattle.mv_types.proofs.units.declare_all.Given as goal

abbrev pub invariant-loop-declarator : goal.invariant-loop-declarator
invariant-loop-declarator l = record {
  rest :
      through (declarator_judgement l.known l.base l.body) l.names l.initial.contents ≡
      through (declarator_judgement l.known l.base l.body) (drop l.declarator-index l.names) l.contents;
  settled : AreSettled l.base l.contents l.settled;
}
