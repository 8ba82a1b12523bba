use Rattle.mv_gen_programs.proofs.Limited.{is_program}
use Rattle.mv_gen_programs.proofs.Program.{program}
use Rattle.mv_gen_programs.proofs.generated_texts_are_programs.Goals as goal

pub returns : goal.returns
returns c = λ seed. (program seed, is_program seed)
