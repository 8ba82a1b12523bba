use Rattle.mv_exec.proofs.Answer.{one_loaded, one_error, loaded_not_error}
use Rattle.mv_exec.proofs.one_answer.Goals as goal

pub returns-clause-loaded : goal.returns-clause-loaded
returns-clause-loaded c = one_loaded

pub returns-clause-error : goal.returns-clause-error
returns-clause-error c = one_error

pub returns-clause-either : goal.returns-clause-either
returns-clause-either c = loaded_not_error
