use Rattle.mv_refine_machine.proofs.commits.laws.laws_below.Goals as goal

pub returns : goal.returns
returns c = record {
  calms = c.calm_is_tested.ensures;
  runs = c.runs_are_runs.ensures;
  begins = c.runs_begin_in_calm.ensures;
  found = c.texts_are_found.ensures;
  between = c.text_between_law.ensures.between;
  tested = c.text_between_law.ensures.tested;
  ranges = c.text_between_law.ensures.range;
  rooms = c.text_between_law.ensures.whole;
  images = c.texts_of_images_law.ensures.texts;
  finds = c.texts_of_images_law.ensures.room;
  differ = c.pairs_law.ensures.differences;
  tells = c.tables_law.ensures.pairs;
  fits = c.fit_worlds_law.ensures.told;
  keep_fit = c.fit_worlds_law.ensures.knowns;
}
