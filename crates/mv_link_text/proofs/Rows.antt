-- What the rows of a linked image say of an address: it is the entry of an attributed function, or a word of a slot.
use Rattle.std.proofs.Common.{◌≡◌, ℕ, ◌+◌, ◌<◌, Bool, true, eqb, List, Option, Some, None, length, get_or, slice_get, refl, sym, ap, ◌∙◌, subst, arith, eq-eqb}
use Rattle.std.specs.List.{find}
use Rattle.std.proofs.lemmas.Bool.{eqb-true, ne_eqb}
use Rattle.std.proofs.lemmas.List.{length-map, get_or-map}
use Rattle.std.proofs.lemmas.List.Quantifiers.{position-Some}
use Rattle.mv_descriptors.specs.declared.rows.FunctionRow.{FunctionRow}
use Rattle.mv_descriptors.specs.declared.rows.SiteRow.{SiteRow}
use Rattle.mv_isa.specs.declared.labelled.Line.TheVariants.{Label, Slot}
use Rattle.mv_isa.specs.Code.{line_at, least_words, text_start}
use Rattle.mv_image.specs.Patched.{entry_at, site_at, site_before}
use Rattle.mv_linker.specs.declared.parts.Parts.{Parts}
use Rattle.mv_linker.specs.Tables.{function_row, place_among, CallsAmong}
use Rattle.mv_linker.proofs.Sited.{called, row_at, sites_are_rows, lines_call, among, site_is}
use Rattle.mv_link_text.proofs.Found.{found_told, row_found}
use Rattle.mv_linker.proofs.LinkedText.{linked_text}
use Rattle.mv_linker.proofs.Tabled.{no_function}
use Rattle.mv_linker.proofs.Lines.{one_line, begins, slot_size}
use Rattle.mv_link_text.proofs.Codes.{IsAssembled, IsBegun, own, number_is, number_within, own_is, attributed_begun, one_number, entry_of, first_in}
use Rattle.mv_num.proofs.Lists.{position_at}
use Rattle.mv_linker.proofs.Entered.{has_line}

-- ---- the rows of an image

module _ (parts : Parts) (sizing words : List ℕ) (s : IsAssembled parts sizing words) where
  open linked_text parts sizing words use {lines, at, entry, numbers, image, index, Of}

  abbrev begun : (n f : ℕ) → slice_get numbers n ≡ Some f → IsBegun parts f
  begun n f is = attributed_begun parts s.tables n f is

  -- ---- entries

  -- an address is the entry of the attributed function with a number
  pub record IsEntry (n a : ℕ) : Type 0 where
    pub function : ℕ
    pub attributed : slice_get numbers n ≡ Some function
    pub of : Of (index function + 1) a
    pub here : entry function ≡ a

  row_is : (n : ℕ) (d : FunctionRow) → n < length parts.attributed → get_or image.functions n d ≡ function_row entry (own parts s.tables n)
  row_is n d below = get_or-map (function_row entry) parts.attributed n no_function d below

  count_is : length image.functions ≡ length parts.attributed
  count_is = length-map parts.attributed (function_row entry)

  pub entry_told : (a n : ℕ) → entry_at image a ≡ Some n → IsEntry n a
  unfolding entry_at
  entry_told a n e =
      let d = function_row entry no_function in
      let found = position-Some (λ (row : FunctionRow). eqb row.entry a) image.functions n d e in
      let within : n < length parts.attributed = let w = found.0 in omega (arith, w, count_is) in
      let is = number_is parts s.tables n within in
      let f = (own parts s.tables n).function in
      let here : entry f ≡ a = ap (λ (row : FunctionRow). row.entry) (sym (row_is n d within)) ∙ eqb-true (get_or image.functions n d).entry a found.1 in
      record { function = f; attributed = is; of = subst (Of (index f + 1)) here (entry_of parts sizing words s f (begun n f is)); here = here }

  -- attributed functions whose first line is the same are the same
  pub one_function : (n f m g : ℕ) → slice_get numbers n ≡ Some f → slice_get numbers m ≡ Some g → index f + 1 ≡ index g + 1 → f ≡ g
  one_function n f m g is other same =
      let b = begun m g other in
      let some = has_line b.code.items b.begins.some in
      first_in parts sizing words s f (begun n f is) g b.code b.found (omega (arith, same)) (omega (arith, same, some))

  pub entry_found : (n f : ℕ) → slice_get numbers n ≡ Some f → entry_at image (entry f) ≡ Some n
  unfolding entry_at
  entry_found n f is =
      let d = function_row entry no_function in
      let within = number_within parts s.tables n f is in
      position_at (λ (row : FunctionRow). eqb row.entry (entry f)) image.functions n d (omega (arith, within, count_is))
      (λ i lt. ne_eqb (get_or image.functions i d).entry (entry f) (λ same. other i lt (ap (λ (row : FunctionRow). row.entry) (sym (row_is i d (omega (arith, lt, within)))) ∙ same)))
      (eq-eqb (get_or image.functions n d).entry (entry f) (ap (λ (row : FunctionRow). row.entry) (row_is n d within) ∙ ap entry (own_is parts s.tables n f is)))
    where
      other : (i : ℕ) → i < n → entry (own parts s.tables i).function ≡ entry f → ⊥
      other i lt same =
          let within = number_within parts s.tables n f is in
          let g = (own parts s.tables i).function in
          let there = number_is parts s.tables i (omega (arith, lt, within)) in
          let line = one_line text_start lines sizing (index g + 1) (index f + 1) (entry f) (subst (Of (index g + 1)) same (entry_of parts sizing words s g (begun i g there))) (entry_of parts sizing words s f (begun n f is)) in
          let equal : g ≡ f = one_function i g n f there is line in
          let number : i ≡ n = one_number parts s.tables i n f (there ∙ ap Some equal) is in
          omega (arith, lt, number)

  -- ---- sites

  -- the row of a slot
  pub record IsRowOfSlot (row : SiteRow) : Type 0 where
    pub index : ℕ
    pub function : ℕ
    pub within : index < length lines
    pub line : line_at lines index ≡ Slot function
    pub is : row ≡ row_at at numbers index function

  row_told : (test : SiteRow → Bool) (row : SiteRow) → find test image.sites ≡ Some row → IsRowOfSlot row × (test row ≡ true)
  row_told test row e =
      let f = found_told test image.sites row e in
      let site = site_is at numbers lines 0 f.number f.within in
      let same : 0 + site.index ≡ site.index = omega arith in (
        record {
          index = site.index;
          function = site.function;
          within = site.within;
          line = site.line;
          is = sym f.here ∙ site.row row ∙ ap (λ k. row_at at numbers k site.function) same;
        },
        f.passes,
      )

  -- the function of a slot is attributed
  pub called_among : (k f : ℕ) → k < length lines → line_at lines k ≡ Slot f → slice_get numbers (place_among numbers f) ≡ Some f
  called_among k f below line =
      let c = subst (CallsAmong numbers) line (lines_call numbers parts s.tables.slots k (Label 0) below) in
      (among numbers f c.0 c.1).there

  pub slot_of : (k f : ℕ) → k < length lines → line_at lines k ≡ Slot f → Of k (at k)
  slot_of k f below line = begins text_start lines sizing s.fits k below (let two = ap least_words line in omega (arith, two))

  pub second_of : (k f : ℕ) → k < length lines → line_at lines k ≡ Slot f → Of k (at k + 4)
  second_of k f below line = let size = slot_size text_start lines sizing s.fits k below f line in record { from = omega arith; below = omega (arith, size) }

  pub record IsSite (row : SiteRow) (a : ℕ) : Type 0 where
    pub slot : IsRowOfSlot row
    pub of : Of slot.index a
    pub here : at slot.index ≡ a

  pub site_told : (a : ℕ) (row : SiteRow) → site_at image a ≡ Some row → IsSite row a
  unfolding site_at
  site_told a row e =
      let told = row_told (λ (site : SiteRow). eqb site.address a) row e in
      let slot = told.0 in
      let here : at slot.index ≡ a = ap (λ (r : SiteRow). r.address) (sym slot.is) ∙ eqb-true row.address a told.1 in
      record { slot = slot; of = subst (Of slot.index) here (slot_of slot.index slot.function slot.within slot.line); here = here }

  pub record IsBehindSite (row : SiteRow) (a : ℕ) : Type 0 where
    pub slot : IsRowOfSlot row
    pub of : Of slot.index a
    pub here : at slot.index + 4 ≡ a

  pub before_told : (a : ℕ) (row : SiteRow) → site_before image a ≡ Some row → IsBehindSite row a
  unfolding site_before
  before_told a row e =
      let told = row_told (λ (site : SiteRow). eqb (site.address + 4) a) row e in
      let slot = told.0 in
      let here : at slot.index + 4 ≡ a = ap (λ (r : SiteRow). r.address + 4) (sym slot.is) ∙ eqb-true (row.address + 4) a told.1 in
      record { slot = slot; of = subst (Of slot.index) here (second_of slot.index slot.function slot.within slot.line); here = here }

  site_there : (k f : ℕ) → k < length lines → line_at lines k ≡ Slot f → site_at image (at k) ≡ None → ⊥
  unfolding site_at
  site_there k f below line none =
      let first : 0 + k ≡ k = omega arith in
      let test = λ (site : SiteRow). eqb site.address (at k) in
      row_found SiteRow (row_at at numbers) called test lines 0 k f below (ap called line) (eq-eqb (at (0 + k)) (at k) (ap at first))
      (ap (find test) (sym (sites_are_rows at numbers lines 0)) ∙ none)

  -- the site of a slot is found at it
  pub site_found : (k f : ℕ) → k < length lines → line_at lines k ≡ Slot f → site_at image (at k) ≡ Some (row_at at numbers k f)
  site_found k f below line = by (site_at image (at k)) refl
    where
      by : (o : Option SiteRow) → site_at image (at k) ≡ o → o ≡ Some (row_at at numbers k f)
      by None e = absurd (site_there k f below line e)
      by (Some row) e =
          let told = site_told (at k) row e in
          let slot = told.slot in
          let same : slot.index ≡ k = one_line text_start lines sizing slot.index k (at k) told.of (slot_of k f below line) in
          let function : Slot slot.function ≡ Slot f = sym slot.line ∙ ap (line_at lines) same ∙ line in
          let equal : slot.function ≡ f = cc in
          ap Some (slot.is ∙ ap (λ i. row_at at numbers i slot.function) same ∙ ap (row_at at numbers k) equal)
