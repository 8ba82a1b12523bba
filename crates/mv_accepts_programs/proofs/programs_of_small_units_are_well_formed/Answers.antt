use Rattle.mv_accepts_programs.proofs.programs_of_small_units_are_well_formed.Goals as goal

pub returns : goal.returns
returns c u p q none small = c.checked_programs_are_well_formed.ensures u p q none (c.programs_of_small_units_are_small.ensures u p q small)
