use Rattle.mv_convert.proofs.Answer.{converted_not_error, one_error, one_made}
use Rattle.mv_convert.proofs.laws.one_answer.Goals as goal

pub returns-clause-made : goal.returns-clause-made
returns-clause-made c = one_made

pub returns-clause-error : goal.returns-clause-error
returns-clause-error c = one_error

pub returns-clause-either : goal.returns-clause-either
returns-clause-either c = converted_not_error
