use Rattle.mv_gen_accepted.proofs.Within.{within_counts, not_refused}
use Rattle.mv_gen_programs.proofs.Limited.{is_program}
use Rattle.mv_gen_programs.proofs.Program.{program}
use Rattle.mv_gen_accepted.proofs.generated_texts_are_accepted.Goals as goal

pub returns-clause-within : goal.returns-clause-within
returns-clause-within c = λ number. (program number, is_program number, within_counts number)

pub returns-clause-images : goal.returns-clause-images
returns-clause-images c = not_refused c.one_verdict.ensures.one_program c.one_verdict.ensures.not_both c.counted_programs_pass_no_limit.ensures.none
