-- The words that a text under bindings has at an entry, at a site and at a pointer site.
use Rattle.std.proofs.Common.{◌≡◌, ℕ, ◌+◌, [], ◌∷◌, get_or, slice_get, Some, subst, ◌∙◌, arith, lit<}
use Rattle.std.proofs.lemmas.Option.{get_or_from_slice_get, slice_get_within}
use Rattle.mv_descriptors.specs.declared.rows.FunctionRow.{FunctionRow}
use Rattle.mv_descriptors.specs.declared.rows.SiteRow.{SiteRow}
use Rattle.mv_image.specs.Faults.{Rules}
use Rattle.mv_image.specs.Patched.{Bindings, after_site, at_entry, at_site, text_of, variant_under, word_under}
use Rattle.mv_image.specs.Spelling.{Fields}
use Rattle.mv_image.specs.WellFormed.{IsInText}
use Rattle.mv_image.proofs.PatchLaws.{entry_word, next_word_is, site_word_is}
use Rattle.mv_image.proofs.RowsFit.{functions_fit, sites_fit}
use Rattle.mv_patch.specs.Tables.{word_of}
use Rattle.mv_patch.proofs.TablePairs.{word_under_at}
use Rattle.mv_patch.proofs.TablePlaces.{index_in}
use Rattle.mv_patch.proofs.Words.{point_shown}
use Rattle.mv_patch_view.specs.Laws.{ShowsText}

module _ (image : Fields) (r : Rules image) (bound : Bindings) where
  entry_holds : (f : ℕ) (row : FunctionRow) → slice_get image.functions f ≡ Some row →
      word_of (text_of image bound) row.entry ≡ at_entry row.entry (word_of image.text row.entry) (variant_under image f (bound f))
  entry_holds f row e =
      let w : ℕ = word_of image.text row.entry in
      let lt = slice_get_within image.functions f row e in
      let is : get_or image.functions f row ≡ row = get_or_from_slice_get image.functions f row row e in
      let x = index_in image row.entry (subst (λ (d : FunctionRow). IsInText image d.entry) is (functions_fit image r f row lt).entry) in
      word_under_at image bound row.entry x.0 x.2 x.1
      ∙ subst (λ (d : FunctionRow). word_under image bound d.entry w ≡ at_entry d.entry w (variant_under image f (bound f))) is (entry_word image r bound f w row lt)

  site_holds : (k : ℕ) (row : SiteRow) → slice_get image.sites k ≡ Some row →
      word_of (text_of image bound) row.address ≡ at_site row.address (word_of image.text row.address) (variant_under image row.function (bound row.function))
  site_holds k row e =
      let w : ℕ = word_of image.text row.address in
      let lt = slice_get_within image.sites k row e in
      let is : get_or image.sites k row ≡ row = get_or_from_slice_get image.sites k row row e in
      let x = index_in image row.address (subst (λ (s : SiteRow). IsInText image s.address) is (sites_fit image r k row lt).address) in
      word_under_at image bound row.address x.0 x.2 x.1
      ∙ subst (λ (s : SiteRow). word_under image bound s.address w ≡ at_site s.address w (variant_under image s.function (bound s.function))) is (site_word_is image r bound k w row lt)

  next_holds : (k : ℕ) (row : SiteRow) → slice_get image.sites k ≡ Some row →
      word_of (text_of image bound) (row.address + 4) ≡ after_site (row.address + 4) (word_of image.text (row.address + 4)) (variant_under image row.function (bound row.function))
  next_holds k row e =
      let w : ℕ = word_of image.text (row.address + 4) in
      let lt = slice_get_within image.sites k row e in
      let is : get_or image.sites k row ≡ row = get_or_from_slice_get image.sites k row row e in
      let x = index_in image (row.address + 4) (subst (λ (s : SiteRow). IsInText image (s.address + 4)) is (sites_fit image r k row lt).next) in
      word_under_at image bound (row.address + 4) x.0 x.2 x.1
      ∙ subst (λ (s : SiteRow). word_under image bound (s.address + 4) w ≡ after_site (s.address + 4) w (variant_under image s.function (bound s.function))) is (next_word_is image r bound k w row lt)

  pub text_shown : ShowsText image bound
  text_shown = record {
    entries = λ f row e i. entry_holds f row e i ∷ [];
    sites = λ k row e i. site_holds k row e i ∷ (next_holds k row e i ∷ []);
    points = λ k row e i.
        point_shown image r k 0 row e (lit< tt) bound row.address (omega arith) i
        ∷ (point_shown image r k 1 row e (lit< tt) bound (row.address + 4) (omega arith) i
        ∷ (point_shown image r k 2 row e (lit< tt) bound (row.address + 8) (omega arith) i
        ∷ (point_shown image r k 3 row e (lit< tt) bound (row.address + 12) (omega arith) i ∷ [])));
  }
