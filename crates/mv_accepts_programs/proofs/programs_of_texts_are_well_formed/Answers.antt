use Rattle.std.proofs.Common.{arith, sym, ◌∙◌}
use Rattle.mv_check_limits.proofs.Orders.{none_exceeded}
use Rattle.mv_check_rules.proofs.Units.{same_judgement}
use Rattle.mv_accepts_programs.proofs.programs_of_texts_are_well_formed.Goals as goal

pub returns : goal.returns
returns c text p is =
    c.programs_of_small_units_are_well_formed.ensures is.unit p (sym (same_judgement is.unit) ∙ is.good) (none_exceeded is.unit p is.within)
    (omega (arith, c.units_of_texts_are_small.ensures text is.unit is.reads.reads, is.reads.reads.lexed.fits))
