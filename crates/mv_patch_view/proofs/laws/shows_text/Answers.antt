use Rattle.mv_patch_view.proofs.Places.{text_shown}
use Rattle.mv_patch_view.proofs.laws.shows_text.Goals as goal

pub returns : goal.returns
returns c = λ bound. text_shown c.args.image.now c.entry-entry.ensures.rules bound
