use Rattle.mv_lower_spec.proofs.OfPrograms.Programs.{program_is_right}
use Rattle.mv_lower_spec.proofs.programs.programs_are_right.Goals as goal

pub returns : goal.returns
returns c = λ p numbers formed numbering hart input actions bound fit.
    program_is_right p numbers formed numbering hart input actions bound c.numbering_law.ensures.any c.numbering_law.ensures.strays fit
