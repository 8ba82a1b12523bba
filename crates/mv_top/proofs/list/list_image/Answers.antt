use Rattle.std.proofs.Common.{refl, ◌∙◌}
use Rattle.mv_top.specs.Listing.{unlisted}
use Rattle.mv_top.proofs.Images.{listed_so}
use Rattle.mv_top.proofs.list.list_image.Goals as goal

pub returns-in-Ok-clause-does : goal.returns-in-Ok-clause-does
returns-in-Ok-clause-does g c bytes input way spells =
    listed_so _ _ _ bytes c.args.image.now c.as_slice.result.now c.write_text.result (c.as_slice.ensures.value ∙ c.in-Ok.ensures) spells (c.write_text.ensures.writes input way)

pub returns-in-Err-clause-does : goal.returns-in-Err-clause-does
returns-in-Err-clause-does g c bytes input way spells = unlisted refl
