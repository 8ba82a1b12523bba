use Rattle.mv_check_rules.proofs.Units.{same_judgement}
use Rattle.mv_check_rules.proofs.judged_by_rules_is_unit_judgement.Goals as goal

pub returns : goal.returns
returns c = same_judgement
