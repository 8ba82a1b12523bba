use Rattle.mv_count_limits.proofs.Counted.{frames_counted, sites_counted, texts_counted, pass_none}
use Rattle.mv_count_limits.proofs.counted_programs_pass_no_limit.Goals as goal

pub returns-clause-frames : goal.returns-clause-frames
returns-clause-frames c = frames_counted c.programs_of_texts_are_well_formed.ensures c.code_is_short.ensures.lowered

pub returns-clause-sites : goal.returns-clause-sites
returns-clause-sites c = sites_counted c.programs_of_texts_are_well_formed.ensures c.parts_law.ensures.counts

pub returns-clause-texts : goal.returns-clause-texts
returns-clause-texts c = texts_counted c.programs_of_texts_are_well_formed.ensures c.parts_law.ensures.counts

pub returns-clause-none : goal.returns-clause-none
returns-clause-none c =
    pass_none c.programs_of_texts_are_well_formed.ensures c.code_is_short.ensures.lowered c.parts_law.ensures.counts c.parts_law.ensures.sizes
