-- The words under bindings at the addresses of the tables, by the variants that functions are bound to.
use Rattle.std.proofs.Common.{◌≡◌, ℕ, ◌+◌, ◌-◌, ◌*◌, ◌/◌, ◌<◌, List, length, get_or, slice_index, option_map, option_and_then, slice_get, Option, Some, None, sym, ap, ap₂, ◌∙◌, subst, arith}
use Rattle.std.proofs.lemmas.Option.{get_or_from_slice_get, slice_get_within, slice_get-get_or}
use Rattle.mv_bindings.specs.declared.binding.Binding.{Binding}
use Rattle.mv_descriptors.specs.declared.rows.FunctionRow.{FunctionRow}
use Rattle.mv_descriptors.specs.declared.rows.SiteRow.{SiteRow}
use Rattle.mv_descriptors.specs.declared.rows.PointRow.{PointRow}
use Rattle.mv_descriptors.specs.declared.rows.TargetRow.{TargetRow}
use Rattle.mv_image.specs.Jumps.{bound_words}
use Rattle.mv_descriptors.specs.declared.rows.VariantRow.{VariantRow}
use Rattle.mv_image.specs.Spelling.{Fields}
use Rattle.mv_image.specs.Faults.{Rules}
use Rattle.mv_image.specs.WellFormed.{IsInText, FitsPoint}
use Rattle.mv_image.specs.Patched.{Bindings, variant_under, target_under, pointer_number, at_entry, at_site, after_site, at_point, word_under, text_of}
use Rattle.mv_image.proofs.PatchLaws.{entry_word, site_word_is, next_word_is, through_word}
use Rattle.mv_image.proofs.RowsFit.{functions_fit, sites_fit, points_fit}
use Rattle.mv_patch.specs.Pairs.{place}
use Rattle.mv_patch.specs.Orders.{binding_count, bound_values, values_of}
use Rattle.mv_patch.specs.Shown.{AreShown}
use Rattle.mv_patch.specs.Tables.{entries, word_of, change, change_at}
use Rattle.mv_patch.proofs.TablePlaces.{index_in, no_function, entry_is}
use Rattle.mv_patch.proofs.TablePairs.{word_under_at}

module _ (image : Fields) (r : Rules image) (bound : Bindings) (shown : List (Option VariantRow)) (are : AreShown image bound shown) where
  shown_is : (f : ℕ) (v : Option VariantRow) → f < length image.functions → slice_get shown f ≡ Some v → variant_under image f (bound f) ≡ v
  shown_is f v lt e = let each = are.each f lt in cc

  pub entry_shown : (f a : ℕ) (v : Option VariantRow) → f < length image.functions → slice_get shown f ≡ Some v → a ≡ get_or (entries image) f 0 → word_of (text_of image bound) a ≡ at_entry a (word_of image.text a) v
  entry_shown f a v lt e at =
      let w : ℕ = word_of image.text a in
      let row : FunctionRow = get_or image.functions f no_function in
      let here : a ≡ row.entry = at ∙ entry_is image f lt in
      let x = index_in image row.entry (functions_fit image r f no_function lt).entry in
      word_under_at image bound a x.0 (here ∙ x.2) x.1
      ∙ subst (λ (b : ℕ). word_under image bound b w ≡ at_entry b w (variant_under image f (bound f))) (sym here) (entry_word image r bound f w no_function lt)
      ∙ ap (at_entry a w) (shown_is f v lt e)

  pub site_shown : (k a : ℕ) (site : SiteRow) (v : Option VariantRow) → slice_get image.sites k ≡ Some site → site.function < length image.functions → slice_get shown site.function ≡ Some v → a ≡ site.address
      → word_of (text_of image bound) a ≡ at_site a (word_of image.text a) v
  site_shown k a site v e there h at =
      let w : ℕ = word_of image.text a in
      let lt = slice_get_within image.sites k site e in
      let is : get_or image.sites k site ≡ site = get_or_from_slice_get image.sites k site site e in
      let x = index_in image site.address (subst (λ (s : SiteRow). IsInText image s.address) is (sites_fit image r k site lt).address) in
      word_under_at image bound a x.0 (at ∙ x.2) x.1
      ∙ subst (λ (b : ℕ). word_under image bound b w ≡ at_site b w (variant_under image site.function (bound site.function))) (sym at)
      (subst (λ (s : SiteRow). word_under image bound s.address w ≡ at_site s.address w (variant_under image s.function (bound s.function))) is (site_word_is image r bound k w site lt))
      ∙ ap (at_site a w) (shown_is site.function v there h)

  pub next_shown : (k a : ℕ) (site : SiteRow) (v : Option VariantRow) → slice_get image.sites k ≡ Some site → site.function < length image.functions → slice_get shown site.function ≡ Some v → a ≡ site.address + 4
      → word_of (text_of image bound) a ≡ after_site a (word_of image.text a) v
  next_shown k a site v e there h at =
      let w : ℕ = word_of image.text a in
      let lt = slice_get_within image.sites k site e in
      let is : get_or image.sites k site ≡ site = get_or_from_slice_get image.sites k site site e in
      let x = index_in image (site.address + 4) (subst (λ (s : SiteRow). IsInText image (s.address + 4)) is (sites_fit image r k site lt).next) in
      word_under_at image bound a x.0 (at ∙ x.2) x.1
      ∙ subst (λ (b : ℕ). word_under image bound b w ≡ after_site b w (variant_under image site.function (bound site.function))) (sym at)
      (subst (λ (s : SiteRow). word_under image bound (s.address + 4) w ≡ after_site (s.address + 4) w (variant_under image s.function (bound s.function))) is (next_word_is image r bound k w site lt))
      ∙ ap (after_site a w) (shown_is site.function v there h)

-- ---- pointer sites

-- what stands at a word of a pointer site, by the entry of the target
pub point_told : (image : Fields) (point : PointRow) (j w v : ℕ) (target : Option TargetRow) (entry : Option ℕ) → j < 4 → entry ≡ option_map (λ (t : TargetRow). t.entry) target → (entry ≡ None → v ≡ w)
    → ((e : ℕ) → entry ≡ Some e → v ≡ slice_index (bound_words image.check point.address e) j) → v ≡ at_point image point (point.address + 4 * j) w target
point_told image point j w v None entry lt is none some = none is
point_told image point j w v (Some target) entry lt is none some =
    let place : j ≡ (point.address + 4 * j - point.address) / 4 = omega arith in
    some target.entry is ∙ ap (slice_index (bound_words image.check point.address target.entry)) place

-- the target that a pointer switch is bound to, by its binding behind those of the functions
pub bound_behind : (image : Fields) (bs : List Binding) (q n : ℕ) (d : Binding) → n ≡ length image.functions → length bs ≡ binding_count image → q < length image.pointers
    → target_under image (bound_values (get_or bs (n + q) d)) ≡ target_under image (values_of bs (pointer_number image q))
bound_behind image bs q n d first size lt =
    ap (λ (k : ℕ). target_under image (bound_values (get_or bs (k + q) d))) first
    ∙ ap (λ (o : Option Binding). target_under image (option_and_then bound_values o)) (sym (slice_get-get_or bs (length image.functions + q) d (omega (arith, size, lt))))

module _ (image : Fields) (r : Rules image) (k j : ℕ) (point : PointRow) (row : slice_get image.points k ≡ Some point) (lt : j < 4) where
  in_slot : (a : ℕ) → a ≡ point.address + 4 * j → (n : ℕ) × (n < length image.text) × (a ≡ place n)
  in_slot a at =
      let is : get_or image.points k point ≡ point = get_or_from_slice_get image.points k point point row in
      let fits : FitsPoint image point = subst (λ (p : PointRow). FitsPoint image p) is (points_fit image r k point (slice_get_within image.points k point row)) in
      let x = index_in image point.address fits.address in
      let y = index_in image (point.address + 12) fits.last in
      let first = x.2 in
      let last = y.2 in
      let below = y.1 in
      (x.0 + j, omega (arith, first, last, below, lt), omega (arith, at, first))

  pub point_shown : (bound : Bindings) (a : ℕ) → a ≡ point.address + 4 * j
      → word_of (text_of image bound) a ≡ at_point image point a (word_of image.text a) (target_under image (bound (pointer_number image point.pointer)))
  point_shown bound a at =
      let w : ℕ = word_of image.text a in
      let is : get_or image.points k point ≡ point = get_or_from_slice_get image.points k point point row in
      let x = in_slot a at in
      word_under_at image bound a x.0 x.2 x.1
      ∙ subst (λ (b : ℕ). word_under image bound b w ≡ at_point image point b w (target_under image (bound (pointer_number image point.pointer)))) (sym at)
      (subst (λ (p : PointRow). word_under image bound (p.address + 4 * j) w ≡ at_point image p (p.address + 4 * j) w (target_under image (bound (pointer_number image p.pointer)))) is
      (through_word image r bound k j w point (slice_get_within image.points k point row) lt))

  pub point_change : (some other : Bindings) (a w x y e : ℕ) → a ≡ point.address + 4 * j → a ≡ e → w ≡ word_of image.text a
      → x ≡ at_point image point a w (target_under image (some (pointer_number image point.pointer))) → y ≡ at_point image point a w (target_under image (other (pointer_number image point.pointer)))
      → change a x y ≡ change_at image some other e
  point_change some other a w x y e at same is first second =
      let q : ℕ = pointer_number image point.pointer in
      let old : x ≡ word_of (text_of image some) a = first ∙ ap (λ (v : ℕ). at_point image point a v (target_under image (some q))) is ∙ sym (point_shown some a at) in
      let new : y ≡ word_of (text_of image other) a = second ∙ ap (λ (v : ℕ). at_point image point a v (target_under image (other q))) is ∙ sym (point_shown other a at) in
      ap₂ (change a) old new ∙ ap (change_at image some other) same

-- ---- the pairs of these addresses

module _ (image : Fields) (r : Rules image) (some other : Bindings) (before after : List (Option VariantRow)) (b : AreShown image some before) (d : AreShown image other after) where
  there : (shown : List (Option VariantRow)) (f : ℕ) → length shown ≡ binding_count image → f < length image.functions → slice_get shown f ≡ Some (get_or shown f None)
  there shown f size lt = slice_get-get_or shown f None (omega (arith, size, lt))

  pub entry_change : (f a w x y : ℕ) → f < length image.functions → a ≡ get_or (entries image) f 0 → w ≡ word_of image.text a → x ≡ at_entry a w (get_or before f None) → y ≡ at_entry a w (get_or after f None)
      → change a x y ≡ change_at image some other (get_or (entries image) f 0)
  entry_change f a w x y lt at is first second =
      let old : x ≡ word_of (text_of image some) a = first ∙ ap (λ (v : ℕ). at_entry a v (get_or before f None)) is ∙ sym (entry_shown image r some before b f a (get_or before f None) lt (there before f b.count lt) at) in
      let new : y ≡ word_of (text_of image other) a = second ∙ ap (λ (v : ℕ). at_entry a v (get_or after f None)) is ∙ sym (entry_shown image r other after d f a (get_or after f None) lt (there after f d.count lt) at) in
      ap₂ (change a) old new ∙ ap (change_at image some other) at

  pub site_change : (k a w x y e : ℕ) (site : SiteRow) → slice_get image.sites k ≡ Some site → site.function < length image.functions → a ≡ site.address → a ≡ e → w ≡ word_of image.text a
      → x ≡ at_site a w (get_or before site.function None) → y ≡ at_site a w (get_or after site.function None) → change a x y ≡ change_at image some other e
  site_change k a w x y e site row lt at same is first second =
      let f : ℕ = site.function in
      let old : x ≡ word_of (text_of image some) a = first ∙ ap (λ (v : ℕ). at_site a v (get_or before f None)) is ∙ sym (site_shown image r some before b k a site (get_or before f None) row lt (there before f b.count lt) at) in
      let new : y ≡ word_of (text_of image other) a = second ∙ ap (λ (v : ℕ). at_site a v (get_or after f None)) is ∙ sym (site_shown image r other after d k a site (get_or after f None) row lt (there after f d.count lt) at) in
      ap₂ (change a) old new ∙ ap (change_at image some other) same

  pub next_change : (k a w x y e : ℕ) (site : SiteRow) → slice_get image.sites k ≡ Some site → site.function < length image.functions → a ≡ site.address + 4 → a ≡ e → w ≡ word_of image.text a
      → x ≡ after_site a w (get_or before site.function None) → y ≡ after_site a w (get_or after site.function None) → change a x y ≡ change_at image some other e
  next_change k a w x y e site row lt at same is first second =
      let f : ℕ = site.function in
      let old : x ≡ word_of (text_of image some) a = first ∙ ap (λ (v : ℕ). after_site a v (get_or before f None)) is ∙ sym (next_shown image r some before b k a site (get_or before f None) row lt (there before f b.count lt) at) in
      let new : y ≡ word_of (text_of image other) a = second ∙ ap (λ (v : ℕ). after_site a v (get_or after f None)) is ∙ sym (next_shown image r other after d k a site (get_or after f None) row lt (there after f d.count lt) at) in
      ap₂ (change a) old new ∙ ap (change_at image some other) same
