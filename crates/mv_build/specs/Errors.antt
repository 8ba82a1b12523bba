-- The answer of each error of a stage.
use Rattle.std.specs.Prelude.{cond, nat_lt}
use Rattle.mv_front.specs.Codes as refusals
use Rattle.mv_front.specs.Refusals.{counted}
use Rattle.mv_front.specs.declared.refusal.Refusal.{Refusal}
use Rattle.mv_variants.specs.declared.size.Size.{Size}
use Rattle.mv_variants.specs.declared.error.VariantError.{VariantError}
use Rattle.mv_variants.specs.declared.error.VariantError.TheVariants as varying
use Rattle.mv_select.specs.declared.error.SelectError.{SelectError}
use Rattle.mv_select.specs.declared.error.SelectError.TheVariants as selecting
use Rattle.mv_linker.specs.declared.error.LinkError.{LinkError}
use Rattle.mv_linker.specs.declared.error.LinkError.TheVariants as linking
use Rattle.mv_linker.specs.Outcome.{site_limit}
use Rattle.mv_build.specs.declared.error.BuildError.{BuildError}
use Rattle.mv_build.specs.declared.error.BuildError.TheVariants.{Refused, Memory}

abbrev pub of_selecting : SelectError → BuildError
of_selecting (selecting.Frame function bytes) = Refused (counted refusals.frame function bytes)
of_selecting (selecting.Memory e) = Memory e

abbrev pub of_linking : LinkError → BuildError
of_linking (linking.Sites count) = Refused (counted refusals.sites 0 count)
of_linking (linking.DataLimit count) = Refused (counted refusals.globals 0 count)
of_linking (linking.TextLimit count) = Refused (counted refusals.text 0 count)
of_linking (linking.Memory e) = Memory e

-- what is refused where code of some size doesn't fit: its sites, or else its words
abbrev pub refusal_at : Size → Refusal
refusal_at size = cond (nat_lt site_limit size.sites) (counted refusals.sites 0 size.sites) (counted refusals.text 0 size.words)

abbrev pub of_varying : VariantError → BuildError
of_varying (varying.Limit size) = Refused (refusal_at size)
of_varying (varying.Memory e) = Memory e
