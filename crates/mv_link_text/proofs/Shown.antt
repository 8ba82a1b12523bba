-- Where bindings show in the text of a linked image: at the first instruction of an attributed function, in its slots, and in those of four words.
use Rattle.std.proofs.Common.{◌≡◌, inl, inr, ℕ, zero, suc, pos, ◌+◌, ◌*◌, ◌-◌, ◌/◌, ◌%◌, ◌<◌, true, false, ltb, List, [], ◌∷◌, Option, Some, None, length, slice_get, slice_index, option_and_then, refl, sym, ap, ◌∙◌, subst, arith}
use Rattle.std.proofs.lemmas.Bool.{le-ltb}
use Rattle.mv_descriptors.specs.declared.rows.SiteRow.{SiteRow}
use Rattle.mv_descriptors.specs.declared.rows.PointRow.{PointRow}
use Rattle.mv_isa.specs.declared.instr.Instr.{Instr}
use Rattle.mv_isa.specs.declared.labelled.Labelled.{Labelled}
use Rattle.mv_isa.specs.declared.labelled.Line.{Line}
use Rattle.mv_isa.specs.declared.labelled.Line.TheVariants.{Word, Slot, Point}
use Rattle.mv_isa.specs.Encoding.{encode}
use Rattle.mv_isa.specs.Code.{IsPlace, line_at, label_index, text_start, distance, upper_part, lower_part}
use Rattle.mv_isa.specs.declared.instr.Instr.TheVariants.{Lui, Lw, Jal, Jalr}
use Rattle.mv_isa.specs.Registers.{ra, t0, t1}
use Rattle.mv_isa.specs.Standing.{SlotStands, PointStands, LineStands, word_at}
use Rattle.mv_image.specs.Patched.{entry_at, site_at, site_before, point_at, pointer_number}
use Rattle.mv_refine_machine.specs.MachineRuns.{image_word, called_at}
use Rattle.mv_linker.specs.declared.parts.Parts.{Parts}
use Rattle.mv_linker.specs.Linked.{codes, check_label}
use Rattle.mv_linker.specs.Tables.{place_among, is_slot, is_point}
use Rattle.mv_linker.proofs.Sited.{row_at, point_row_at}
use Rattle.mv_link_text.specs.Text.{ShowsAlone, HasEntry, HasSlot, HasPoint}
use Rattle.mv_link_text.proofs.Facts.{Laws}
use Rattle.mv_link_text.proofs.Found.{none_of}
use Rattle.mv_linker.proofs.LinkedText.{linked_text}
use Rattle.mv_linker.proofs.Lines.{one_line, slot_size, point_size}
use Rattle.mv_link_text.proofs.Codes.{IsAssembled, attributed_begun, one_number, behind_label, first_line, first_below, first_no_slot, first_no_point}
use Rattle.mv_link_text.proofs.Rows.{IsRowOfSlot, entry_told, entry_found, one_function, site_told, before_told, site_found, called_among, slot_of, second_of}
use Rattle.mv_link_text.proofs.Points.{one_row, point_told, point_found, pointer_there}
use Rattle.mv_link_text.proofs.Kept.{NotFirst, no_entry, no_site, no_site_before, no_point}

module _ (laws : Laws) (parts : Parts) (sizing words : List ℕ) (s : IsAssembled parts sizing words) where
  open linked_text parts sizing words use {lines, at, entry, numbers, pointers, image, index, Of}

  -- a word that is assembled stands in the image
  in_text : (a w : ℕ) → IsPlace a → word_at text_start words a ≡ Some w → image_word image a ≡ Some w
  in_text a w place e =
      let from = place.0 in
      let most = place.1 in
      let even = place.2 in
      let t : ltb a text_start ≡ false = le-ltb a text_start from in
      let there : slice_get words ((a - text_start) / 4) ≡ Some w = rw t at e in
      let is : 0x1000 + 4 * ((a - text_start) / 4) ≡ a = omega (arith, from, even) in
      subst (λ x. image_word image x ≡ Some w) is ((laws.texts_are_found image).found ((a - text_start) / 4) w there (omega (arith, is, most)))

  there_is : {R : Type 0} (o : Option R) (row : R) → o ≡ None → o ≡ Some row → ⊥
  there_is o row none some = let bad : None ≡ Some row = sym none ∙ some in cc

  -- a line shows the one function that all rows are of which say something of its words
  shows_alone : (k n : ℕ) → ((a m : ℕ) → Of k a → entry_at image a ≡ Some m → m ≡ n) → ((a : ℕ) (row : SiteRow) → Of k a → site_at image a ≡ Some row → row.function ≡ n) →
      ((a : ℕ) (row : SiteRow) → Of k a → site_before image a ≡ Some row → row.function ≡ n) →
      ((a : ℕ) (row : PointRow) → Of k a → point_at image a ≡ Some row → pointer_number image row.pointer ≡ n) → ShowsAlone parts image sizing n k
  shows_alone k n entries sites before points a m low high even (inl e) = entries a m (record { from = low; below = high }) e
  shows_alone k n entries sites before points a m low high even (inr (inl h)) = sym h.2 ∙ sites a h.0 (record { from = low; below = high }) h.1
  shows_alone k n entries sites before points a m low high even (inr (inr (inl h))) = sym h.2 ∙ before a h.0 (record { from = low; below = high }) h.1
  shows_alone k n entries sites before points a m low high even (inr (inr (inr h))) = sym h.2 ∙ points a h.0 (record { from = low; below = high }) h.1

  -- ---- entries

  module _ (n f : ℕ) (is : slice_get numbers n ≡ Some f) (code : Labelled) (found : slice_get (codes parts) f ≡ Some code) (instr : Instr) (rest : List Line) (items : code.items ≡ Word instr ∷ rest) where
    abbrev k : ℕ
    k = index f + 1

    line : line_at lines k ≡ Word instr
    line = first_line parts sizing words s f code found instr rest items

    below : k < length lines
    below = first_below parts sizing words s f code found instr rest items

    place : IsPlace (entry f)
    place = s.under.places (label_index lines f)

    word : word_at text_start words (at k) ≡ Some (encode instr)
    word = (subst (λ (l : Line). LineStands (word_at text_start words) entry entry (at k) (at (k + 1)) l) line (s.under.stands.each k below)).0.word

    pub entry_shows : HasEntry parts image sizing n f instr
    entry_shows =
        let here : at k ≡ entry f = behind_label parts sizing words s f code found in
        record {
          index = k;
          within = below;
          line = line;
          at_line = here;
          alone = shows_alone k n
              (λ a m of e.
              let t = entry_told parts sizing words s a m e in
              let same = one_line text_start lines sizing (index t.function + 1) k a t.of of in
              let equal : t.function ≡ f = one_function parts sizing words s m t.function n f t.attributed is same in
              one_number parts s.tables m n f (t.attributed ∙ ap Some equal) is)
              (λ a row of e. absurd (there_is (site_at image a) row (no_site parts sizing words s k a of (ap is_slot line)) e))
              (λ a row of e. absurd (there_is (site_before image a) row (no_site_before parts sizing words s k a of (ap is_slot line)) e))
              (λ a row of e. absurd (there_is (point_at image a) row (no_point parts sizing words s k a of (ap is_point line)) e));
          is_entry = entry_found parts sizing words s n f is;
          word = encode instr;
          in_text = in_text (entry f) (encode instr) place (subst (λ a. word_at text_start words a ≡ Some (encode instr)) here word);
          here = place;
        }

  -- ---- slots

  module _ (k f n : ℕ) (below : k < length lines) (line : line_at lines k ≡ Slot f) (is : slice_get numbers n ≡ Some f) where
    not_first : NotFirst parts sizing words s k
    not_first m g other same =
        let plain = first_no_slot parts sizing words s g (attributed_begun parts s.tables m g other) in
        let bad : false ≡ true = sym plain ∙ ap (λ i. is_slot (line_at lines i)) (sym same) ∙ ap is_slot line in cc

    here : Of k (at k)
    here = slot_of parts sizing words s k f below line

    second : Of k (at k + 4)
    second = second_of parts sizing words s k f below line

    no_other : (a m : ℕ) → Of k a → entry_at image a ≡ Some m → ⊥
    no_other a m of e = let bad : None ≡ Some m = sym (no_entry parts sizing words s k a of not_first) ∙ e in cc

    number_is : (row : SiteRow) (slot : IsRowOfSlot parts sizing words s row) → slot.index ≡ k → row.function ≡ n
    number_is row slot same =
        let function : Slot slot.function ≡ Slot f = sym slot.line ∙ ap (line_at lines) same ∙ line in
        let equal : slot.function ≡ f = cc in
        ap (λ (r : SiteRow). r.function) slot.is ∙ ap (place_among numbers) equal ∙ one_number parts s.tables (place_among numbers f) n f (called_among parts sizing words s k f below line) is

    slot_stands : SlotStands (word_at text_start words) (at k) (at (k + 1)) (entry f)
    slot_stands = subst (λ (l : Line). LineStands (word_at text_start words) entry entry (at k) (at (k + 1)) l) line (s.under.stands.each k below)

    second_place : IsPlace (at k + 4)
    second_place =
        let first = s.under.places k in
        let last = s.under.places (k + 1) in
        let from = first.0 in
        let even = first.2 in
        let most = last.1 in
        let size = slot_size text_start lines sizing s.fits k below f line in (omega (arith, from), omega (arith, most, size), omega (arith, even))

    pub slot_shows : HasSlot parts image sizing n f (at k)
    slot_shows = record {
      index = k;
      within = below;
      line = line;
      at_line = refl;
      behind = slot_size text_start lines sizing s.fits k below f line;
      alone = shows_alone k n
          (λ a m of e. absurd (no_other a m of e))
          (λ a row of e. let t = site_told parts sizing words s a row e in number_is row t.slot (one_line text_start lines sizing t.slot.index k a t.of of))
          (λ a row of e. let t = before_told parts sizing words s a row e in number_is row t.slot (one_line text_start lines sizing t.slot.index k a t.of of))
          (λ a row of e. absurd (there_is (point_at image a) row (no_point parts sizing words s k a of (ap is_point line)) e));
      site = record {
        site = row_at at numbers k f;
        is_site = site_found parts sizing words s k f below line;
        of = one_number parts s.tables (place_among numbers f) n f (called_among parts sizing words s k f below line) is;
        no_entry = no_entry parts sizing words s k (at k) here not_first;
        no_entry_behind = no_entry parts sizing words s k (at k + 4) second not_first;
        no_site_behind = none_of (site_at image (at k + 4)) (λ row e.
            let t = site_told parts sizing words s (at k + 4) row e in
            let same = ap at (one_line text_start lines sizing t.slot.index k (at k + 4) t.of second) in
            let there = t.here in omega (arith, same, there));
        no_point = no_point parts sizing words s k (at k) here (ap is_point line);
        no_point_behind = no_point parts sizing words s k (at k + 4) second (ap is_point line);
        first = encode _;
        first_in_text = in_text (at k) _ (s.under.places k) slot_stands.call.word;
        second = encode _;
        second_in_text = in_text (at k + 4) _ second_place slot_stands.rest.word;
      };
      here = s.under.places k;
    }

  -- what calls a function is a slot of it
  pub record IsCalled (a f : ℕ) : Type 0 where
    pub index : ℕ
    pub within : index < length lines
    pub line : line_at lines index ≡ Slot f
    pub here : at index ≡ a
    pub number : ℕ
    pub attributed : slice_get numbers number ≡ Some f

  called_by : (a f : ℕ) (o : Option SiteRow) → site_at image a ≡ o → option_and_then (λ (site : SiteRow). slice_get numbers site.function) o ≡ Some f → IsCalled a f
  called_by a f None e called = absurd (let bad : ⊥ = cc in bad)
  called_by a f (Some row) e called =
      let t = site_told parts sizing words s a row e in
      let slot = t.slot in
      let own : slice_get numbers (place_among numbers slot.function) ≡ Some slot.function = called_among parts sizing words s slot.index slot.function slot.within slot.line in
      let same : Some slot.function ≡ Some f = sym own ∙ ap (λ (r : SiteRow). slice_get numbers r.function) (sym slot.is) ∙ called in
      let equal : slot.function ≡ f = cc in
      record { index = slot.index; within = slot.within; line = slot.line ∙ ap Slot equal; here = t.here; number = row.function; attributed = called }

  pub called_told : (a f : ℕ) → called_at numbers image a ≡ Some f → IsCalled a f
  unfolding called_at
  called_told a f called = called_by a f (site_at image a) refl called

  pub called_shows : (a f : ℕ) → called_at numbers image a ≡ Some f → (n : ℕ) → slice_get numbers n ≡ Some f → HasSlot parts image sizing n f a
  called_shows a f called n is = let c = called_told a f called in subst (HasSlot parts image sizing n f) c.here (slot_shows c.index f n c.within c.line is)

  -- ---- slots of four words

  module _ (k p : ℕ) (below : k < length lines) (line : line_at lines k ≡ Point p) where
    abbrev n : ℕ
    n = pointer_number image (place_among pointers p)

    no_first : NotFirst parts sizing words s k
    no_first m g other same =
        let plain = first_no_point parts sizing words s g (attributed_begun parts s.tables m g other) in
        let bad : false ≡ true = sym plain ∙ ap (λ i. is_point (line_at lines i)) (sym same) ∙ ap is_point line in cc

    no_slot : is_slot (line_at lines k) ≡ false
    no_slot = ap is_slot line

    point_stands : PointStands (word_at text_start words) (at k) (at (k + 1)) (entry check_label) p
    point_stands = subst (λ (l : Line). LineStands (word_at text_start words) entry entry (at k) (at (k + 1)) l) line (s.under.stands.each k below)

    size : at (k + 1) ≡ at k + 16
    size = point_size text_start lines sizing s.fits k below p line

    word_place : (j : ℕ) → j < 4 → IsPlace (at k + 4 * j)
    word_place j few =
        let first = s.under.places k in
        let last = s.under.places (k + 1) in
        let from = first.0 in
        let even = first.2 in
        let most = last.1 in
        (omega (arith, from), omega (arith, most, size, few), omega (arith, even))

    -- the words of a slot of four words
    abbrev encoded : ℕ → ℕ
    encoded j =
        slice_index (encode (Lui t0 (pos (upper_part p % 1048576))) ∷ encode (Lw t0 t0 (lower_part p)) ∷ encode (Jal t1 (distance (at k + 8) (entry check_label))) ∷ encode (Jalr ra t0 (pos 0)) ∷ []) j

    stands_at : (j : ℕ) → j < 4 → word_at text_start words (at k + 4 * j) ≡ Some (encoded j)
    stands_at zero few = let same : at k ≡ at k + 4 * 0 = omega arith in subst (λ a. word_at text_start words a ≡ Some (encoded 0)) same point_stands.upper.word
    stands_at (suc zero) few = point_stands.load.word
    stands_at (suc (suc zero)) few = point_stands.test.word
    stands_at (suc (suc (suc zero))) few = point_stands.call.word
    stands_at (suc (suc (suc (suc j)))) few = absurd (omega (arith, few))

    number_through : (a : ℕ) (row : PointRow) → Of k a → point_at image a ≡ Some row → pointer_number image row.pointer ≡ n
    number_through a row of e =
        let t = point_told parts sizing words s a row e in
        ap (λ (r : PointRow). pointer_number image r.pointer) (one_row parts sizing words s row t.slot k p (one_line text_start lines sizing t.slot.index k a t.of of) line)

    pub point_shows : HasPoint parts image sizing (place_among pointers p) p (at k)
    point_shows =
        let there = pointer_there parts sizing words s k p below line in
        record {
          index = k;
          within = below;
          line = line;
          at_line = refl;
          behind = size;
          alone = shows_alone k n
              (λ a m of e. absurd (there_is (entry_at image a) m (no_entry parts sizing words s k a of no_first) e))
              (λ a row of e. absurd (there_is (site_at image a) row (no_site parts sizing words s k a of no_slot) e))
              (λ a row of e. absurd (there_is (site_before image a) row (no_site_before parts sizing words s k a of no_slot) e))
              number_through;
          point = record {
            point = point_row_at at pointers k p;
            pointer = there.0;
            begins = refl;
            there = there.1;
            of = refl;
            only = point_found parts sizing words s k p below line;
            word = encoded;
            in_text = λ j few. in_text (at k + 4 * j) (encoded j) (word_place j few) (stands_at j few);
          };
          here = s.under.places k;
        }
