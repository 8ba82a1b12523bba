use Rattle.mv_accepts_programs.proofs.OfFacts.Whole.{programs_have_facts}
use Rattle.mv_accepts_programs.proofs.facts.programs_of_texts_have_table_facts.Goals as goal

pub returns : goal.returns
returns c =
    programs_have_facts c.good_parameters_fit.ensures c.good_bodies_are_typed.ensures.grows c.good_globals_are_formed.ensures
    c.programs_of_texts_are_well_formed.ensures c.units_of_texts_are_written.ensures
