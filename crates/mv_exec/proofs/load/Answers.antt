use Rattle.std.proofs.Common.{subst}
use Rattle.mv_actions.specs.Operator.{IsImageRefusedFor}
use Rattle.mv_exec.proofs.load.Goals as goal

pub returns-in-Err-Refused-clause-err : goal.returns-in-Err-Refused-clause-err
returns-in-Err-Refused-clause-err c = record {
  image = c.in_ok-image.image;
  spells = c.in_ok-image.ensures.ok;
  first = subst (IsImageRefusedFor c.in_ok-image.image c.args.items.now) c.in-Err-Refused.field-0-is c.in-Err-Refused.ensures.refused;
}
