-- What the pointer sites of a linked image say of an address: it is one of the four words of a slot that calls through a pointer switch.
use Rattle.std.proofs.Common.{◌≡◌, ℕ, zero, suc, ◌+◌, ◌*◌, ◌<◌, Bool, true, List, length, map, Option, Some, None, slice_get, option_and_then, refl, sym, ap, ◌∙◌, subst, arith, eq-eqb}
use Rattle.std.specs.Prelude.{option_map}
use Rattle.std.specs.List.{find}
use Rattle.std.proofs.lemmas.Bool.{eqb-true}
use Rattle.std.proofs.lemmas.Option.{slice_get-map}
use Rattle.mv_descriptors.specs.declared.rows.PointerRow.{PointerRow}
use Rattle.mv_descriptors.specs.declared.rows.PointRow.{PointRow}
use Rattle.mv_isa.specs.declared.labelled.Line.TheVariants.{Label, Point}
use Rattle.mv_isa.specs.Code.{line_at, text_start}
use Rattle.mv_image.specs.Patched.{point_at, is_in_point, slot_places}
use Rattle.mv_refine_machine.specs.MachineRuns.{begins_at, through_at}
use Rattle.mv_linker.specs.declared.parts.Parts.{Parts}
use Rattle.mv_linker.specs.declared.parts.PartPointer.{PartPointer}
use Rattle.mv_linker.specs.Tables.{pointer_row, pointer_address, place_among, GoesThrough}
use Rattle.mv_linker.proofs.Sited.{gone_through, point_row_at, points_are_rows, lines_through, among, point_is}
use Rattle.mv_linker.proofs.LinkedText.{linked_text}
use Rattle.mv_linker.proofs.Lines.{one_line, point_size}
use Rattle.mv_link_text.proofs.Found.{found_told, row_found, among_told, among_at}
use Rattle.mv_link_text.proofs.Codes.{IsAssembled}

-- the word of a slot of four words at an address
pub record IsFourth (point : PointRow) (b : ℕ) : Type 0 where
  pub word : ℕ
  pub few : word < 4
  pub here : point.address + 4 * word ≡ b

fourth_at : (point : PointRow) (b j : ℕ) → slice_get (slot_places point) j ≡ Some b → IsFourth point b
fourth_at point b zero e = record { word = 0; few = omega arith; here = let same : point.address ≡ b = cc in omega (arith, same) }
fourth_at point b (suc zero) e = record { word = 1; few = omega arith; here = let same : point.address + 4 ≡ b = cc in omega (arith, same) }
fourth_at point b (suc (suc zero)) e = record { word = 2; few = omega arith; here = let same : point.address + 8 ≡ b = cc in omega (arith, same) }
fourth_at point b (suc (suc (suc zero))) e = record { word = 3; few = omega arith; here = let same : point.address + 12 ≡ b = cc in omega (arith, same) }
fourth_at point b (suc (suc (suc (suc j)))) e = absurd (let bad : ⊥ = cc in bad)

place_of : (point : PointRow) (j : ℕ) → j < 4 → slice_get (slot_places point) j ≡ Some (point.address + 4 * j)
place_of point zero few = let same : point.address ≡ point.address + 4 * 0 = omega arith in ap Some same
place_of point (suc zero) few = refl
place_of point (suc (suc zero)) few = refl
place_of point (suc (suc (suc zero))) few = refl
place_of point (suc (suc (suc (suc j)))) few = absurd (omega (arith, few))

-- the address of a pointer switch by its row
address_at : (ps : List PartPointer) (q : ℕ) → option_map (λ (row : PointerRow). row.address) (slice_get (map pointer_row ps) q) ≡ slice_get (map pointer_address ps) q
address_at ps q = ap (option_map (λ (row : PointerRow). row.address)) (slice_get-map pointer_row ps q) ∙ by (slice_get ps q) ∙ sym (slice_get-map pointer_address ps q)
  where
    by : (o : Option PartPointer) → option_map (λ (row : PointerRow). row.address) (option_map pointer_row o) ≡ option_map pointer_address o
    by None = refl
    by (Some p) = refl

module _ (parts : Parts) (sizing words : List ℕ) (s : IsAssembled parts sizing words) where
  open linked_text parts sizing words use {lines, at, pointers, image, Of}

  -- the row of a slot of four words
  pub record IsRowOfPoint (row : PointRow) : Type 0 where
    pub index : ℕ
    pub pointer : ℕ
    pub within : index < length lines
    pub line : line_at lines index ≡ Point pointer
    pub is : row ≡ point_row_at at pointers index pointer

  row_told : (test : PointRow → Bool) (row : PointRow) → find test image.points ≡ Some row → IsRowOfPoint row × (test row ≡ true)
  row_told test row e =
      let f = found_told test image.points row e in
      let point = point_is at pointers lines 0 f.number f.within in
      let same : 0 + point.index ≡ point.index = omega arith in (
        record {
          index = point.index;
          pointer = point.pointer;
          within = point.within;
          line = point.line;
          is = sym f.here ∙ point.row row ∙ ap (λ k. point_row_at at pointers k point.pointer) same;
        },
        f.passes,
      )

  -- rows of one slot are the same
  pub one_row : (row : PointRow) (slot : IsRowOfPoint row) (k a : ℕ) → slot.index ≡ k → line_at lines k ≡ Point a → row ≡ point_row_at at pointers k a
  one_row row slot k a same line =
      let point : Point slot.pointer ≡ Point a = sym slot.line ∙ ap (line_at lines) same ∙ line in
      let equal : slot.pointer ≡ a = cc in
      slot.is ∙ ap (λ i. point_row_at at pointers i slot.pointer) same ∙ ap (point_row_at at pointers k) equal

  module _ (k a : ℕ) (below : k < length lines) (line : line_at lines k ≡ Point a) where
    -- the pointer of a slot of four words is that of a pointer switch
    pub through_among : slice_get pointers (place_among pointers a) ≡ Some a
    through_among =
        let c = subst (GoesThrough pointers) line (lines_through pointers parts s.tables.through k (Label 0) below) in
        (among pointers a c.0 c.1).there

    -- whose row is there
    pub pointer_there : (row : PointerRow) × (slice_get image.pointers (place_among pointers a) ≡ Some row)
    pointer_there = by (slice_get image.pointers (place_among pointers a)) refl
      where
        by : (o : Option PointerRow) → slice_get image.pointers (place_among pointers a) ≡ o → (row : PointerRow) × (slice_get image.pointers (place_among pointers a) ≡ Some row)
        by (Some row) e = (row, e)
        by None e =
            let bad : None ≡ Some a = ap (option_map (λ (row : PointerRow). row.address)) (sym e) ∙ address_at parts.pointers (place_among pointers a) ∙ through_among in absurd cc

    pub word_of : (j : ℕ) → j < 4 → Of k (at k + 4 * j)
    word_of j few = let size = point_size text_start lines sizing s.fits k below a line in record { from = omega arith; below = omega (arith, size, few) }

    -- a row is found by a test that the one of this slot passes
    some_row : (test : PointRow → Bool) → test (point_row_at at pointers k a) ≡ true → find test image.points ≡ None → ⊥
    some_row test t none =
        let first : 0 + k ≡ k = omega arith in
        row_found PointRow (point_row_at at pointers) gone_through test lines 0 k a below (ap gone_through line) (subst (λ i. test (point_row_at at pointers i a) ≡ true) (sym first) t)
        (ap (find test) (sym (points_are_rows at pointers lines 0)) ∙ none)

    -- and it is this one, where no other slot's passes
    this_row : (test : PointRow → Bool) → test (point_row_at at pointers k a) ≡ true → ((row : PointRow) (slot : IsRowOfPoint row) → test row ≡ true → slot.index ≡ k) →
        find test image.points ≡ Some (point_row_at at pointers k a)
    this_row test t only = by (find test image.points) refl
      where
        by : (o : Option PointRow) → find test image.points ≡ o → o ≡ Some (point_row_at at pointers k a)
        by None e = absurd (some_row test t e)
        by (Some row) e = let told = row_told test row e in ap Some (one_row row told.0 k a (only row told.0 told.1) line)

  -- the row that an address is a word of
  pub record IsPointWord (row : PointRow) (b : ℕ) : Type 0 where
    pub slot : IsRowOfPoint row
    pub of : Of slot.index b

  word_told : (b : ℕ) (row : PointRow) (slot : IsRowOfPoint row) → is_in_point b row ≡ true → Of slot.index b
  word_told b row slot t =
      let place = among_told b (slot_places row) t in
      let word = fourth_at row b place.place place.there in
      let here : at slot.index + 4 * word.word ≡ b = ap (λ (r : PointRow). r.address + 4 * word.word) (sym slot.is) ∙ word.here in
      subst (Of slot.index) here (word_of slot.index slot.pointer slot.within slot.line word.word word.few)

  pub point_told : (b : ℕ) (row : PointRow) → point_at image b ≡ Some row → IsPointWord row b
  unfolding point_at
  point_told b row e = let told = row_told (is_in_point b) row e in record { slot = told.0; of = word_told b row told.0 told.1 }

  module _ (k a : ℕ) (below : k < length lines) (line : line_at lines k ≡ Point a) where
    -- each of the four words of a slot is found as one of it
    pub point_found : (j : ℕ) → j < 4 → point_at image (at k + 4 * j) ≡ Some (point_row_at at pointers k a)
    unfolding point_at
    point_found j few =
        let b = at k + 4 * j in
        this_row k a below line (is_in_point b) (among_at b (slot_places (point_row_at at pointers k a)) j (place_of (point_row_at at pointers k a) j few))
        (λ row slot t. one_line text_start lines sizing slot.index k b (word_told b row slot t) (word_of k a below line j few))

    begins_found : find (begins_at (at k)) image.points ≡ Some (point_row_at at pointers k a)
    begins_found =
        this_row k a below line (begins_at (at k)) (eq-eqb (at k) (at k) refl)
        (λ row slot t.
        let here : at slot.index ≡ at k = ap (λ (r : PointRow). r.address) (sym slot.is) ∙ eqb-true row.address (at k) t in
        let none : at k + 4 * 0 ≡ at k = omega arith in
        let own : at slot.index + 4 * 0 ≡ at k = omega (arith, here) in
        one_line text_start lines sizing slot.index k (at k) (subst (Of slot.index) own (word_of slot.index slot.pointer slot.within slot.line 0 (omega arith)))
        (subst (Of k) none (word_of k a below line 0 (omega arith))))

    -- and calls through its pointer
    pub through_found : through_at image (at k) ≡ Some a
    unfolding through_at
    through_found =
        ap (option_and_then (λ (point : PointRow). option_map (λ (pointer : PointerRow). pointer.address) (slice_get image.pointers point.pointer))) begins_found
        ∙ address_at parts.pointers (place_among pointers a)
        ∙ through_among k a below line

  -- what calls through a pointer is a slot of four words
  pub record IsThrough (b a : ℕ) : Type 0 where
    pub index : ℕ
    pub within : index < length lines
    pub line : line_at lines index ≡ Point a
    pub here : at index ≡ b

  through_by : (b a : ℕ) (o : Option PointRow) → find (begins_at b) image.points ≡ o →
      option_and_then (λ (point : PointRow). option_map (λ (pointer : PointerRow). pointer.address) (slice_get image.pointers point.pointer)) o ≡ Some a → IsThrough b a
  through_by b a None e through = absurd (let bad : ⊥ = cc in bad)
  through_by b a (Some row) e through =
      let told = row_told (begins_at b) row e in
      let slot = told.0 in
      let own = address_at parts.pointers (place_among pointers slot.pointer) ∙ through_among slot.index slot.pointer slot.within slot.line in
      let same : Some slot.pointer ≡ Some a = sym own ∙ ap (λ (r : PointRow). option_map (λ (pointer : PointerRow). pointer.address) (slice_get image.pointers r.pointer)) (sym slot.is) ∙ through in
      let equal : slot.pointer ≡ a = cc in
      record {
        index = slot.index;
        within = slot.within;
        line = slot.line ∙ ap Point equal;
        here = ap (λ (r : PointRow). r.address) (sym slot.is) ∙ eqb-true row.address b told.1;
      }

  pub through_told : (b a : ℕ) → through_at image b ≡ Some a → IsThrough b a
  unfolding through_at
  through_told b a through = through_by b a (find (begins_at b) image.points) refl through
