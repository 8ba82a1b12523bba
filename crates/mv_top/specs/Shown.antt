-- The text that is written of an image.
use Rattle.std.specs.Prelude.{ℕ, Bool, List, if◌then◌else◌}
use Rattle.mv_convert.specs.Conversions.{assembler_text}
use Rattle.mv_image.specs.Spelling.{Fields}
use Rattle.mv_list.specs.Listing.{listing_text}
use Rattle.mv_patch_view.specs.PatchView.{patch_view_text}
use Rattle.mv_top.specs.declared.list.Shown.{Shown}
use Rattle.mv_top.specs.declared.list.Shown.TheVariants.{Listing, PatchView, Assembler}

abbrev pub text_shown : Shown → Fields → List ℕ
text_shown Listing image = listing_text image
text_shown PatchView image = patch_view_text image
text_shown Assembler image = assembler_text image

-- what `list` writes, and with `--words`
abbrev pub shown_by_list : (words : Bool) → Shown
shown_by_list words = if words then PatchView else Listing
