use Rattle.mv_front.proofs.OneVerdict as law
use Rattle.mv_front.proofs.one_verdict.Goals as goal

pub returns-clause-one_program : goal.returns-clause-one_program
returns-clause-one_program c = law.one_program

pub returns-clause-one_refusal : goal.returns-clause-one_refusal
returns-clause-one_refusal c = law.one_refusal

pub returns-clause-not_both : goal.returns-clause-not_both
returns-clause-not_both c = law.not_both
