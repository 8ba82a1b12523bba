use Rattle.mv_verdicts.proofs.Judged.{judged}
use Rattle.mv_verdicts.proofs.Whole.{none_without}
use Rattle.mv_verdicts.proofs.each_text_has_a_verdict.Goals as goal

pub returns-clause-judged : goal.returns-clause-judged
returns-clause-judged c = judged

pub returns-clause-complete : goal.returns-clause-complete
returns-clause-complete c = none_without
