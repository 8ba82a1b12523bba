-- That the patch view shows what texts under bindings hold.
use Rattle.std.specs.Prelude.{ℕ, ◌≡◌, ◌+◌, List, [], ◌∷◌, map, slice_get, Some}
use Rattle.mv_descriptors.specs.declared.rows.FunctionRow.{FunctionRow}
use Rattle.mv_descriptors.specs.declared.rows.PointRow.{PointRow}
use Rattle.mv_descriptors.specs.declared.rows.SiteRow.{SiteRow}
use Rattle.mv_image.specs.Patched.{Bindings, pointer_number, slot_places, target_under, text_of, variant_under}
use Rattle.mv_image.specs.Spelling.{Fields}
use Rattle.mv_patch.specs.Tables.{word_of}
use Rattle.mv_patch_view.specs.PatchView.{words_at, words_through}
use Rattle.mv_patch_view.specs.declared.place.Place.TheVariants.{Entry, Site}

-- the words at some addresses of the text under bindings
abbrev pub words_in : Fields → Bindings → List ℕ → List ℕ
words_in image bound addresses = map (word_of (text_of image bound)) addresses

-- What the text holds under bindings at each place is what is shown there for the variant or the target that they lead to.
pub record ShowsText (image : Fields) (bound : Bindings) : Type 0 where
  pub entries : (function : ℕ) (row : FunctionRow) → slice_get image.functions function ≡ Some row →
      words_in image bound (row.entry ∷ []) ≡ words_at image (Entry row.entry) (variant_under image function (bound function))
  pub sites : (k : ℕ) (row : SiteRow) → slice_get image.sites k ≡ Some row →
      words_in image bound (row.address ∷ (row.address + 4) ∷ []) ≡ words_at image (Site row.address) (variant_under image row.function (bound row.function))
  pub points : (k : ℕ) (row : PointRow) → slice_get image.points k ≡ Some row →
      words_in image bound (slot_places row) ≡ words_through image row (target_under image (bound (pointer_number image row.pointer)))
