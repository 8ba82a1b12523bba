use Rattle.mv_harts.proofs.Tabled.{runnable}
use Rattle.mv_harts.proofs.runnable.built_programs_are_runnable.Goals as goal

pub returns : goal.returns
returns c = runnable c.images_have_tables.ensures c.programs_of_texts_are_well_formed.ensures
