use Rattle.mv_harts_meant.proofs.Fit.{fitting, all_pass}
use Rattle.mv_harts_meant.proofs.laws.fitting_law.Goals as goal

pub returns-clause-fitting : goal.returns-clause-fitting
returns-clause-fitting c p image runs bytes are =
    fitting c.format_law.ensures.needed c.fit_worlds_law.ensures.bindings c.pointer_types_law.ensures c.text_between_law.ensures.whole c.texts_of_images_law.ensures.texts p image runs bytes are

pub returns-clause-actions : goal.returns-clause-actions
returns-clause-actions c = all_pass
