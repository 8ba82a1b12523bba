-- Where the codes of parts begin: at different words of text, none of which is a slot's.
use Rattle.std.proofs.Common.{◌≡◌, ℕ, suc, ◌+◌, ◌*◌, ◌<◌, ◌≤◌, ◌⊎◌, inl, inr, Bool, true, false, List, [], ◌∷◌, Some, length, take, get_or, slice_get, refl, ap, sym, subst, ◌∙◌, arith}
use Rattle.std.proofs.lemmas.List.{length-map, take-take, get_or-take, length-take-le, get_or-map}
use Rattle.std.proofs.lemmas.List.Sums.{sum_by_more_le, sum_by-take-le}
use Rattle.std.proofs.lemmas.Option.{get_or_from_slice_get, slice_get_within}
use Rattle.std.proofs.lemmas.Bool.{cases_lt, cases_eq}
use Rattle.mv_isa.specs.declared.labelled.Labelled.{Labelled}
use Rattle.mv_isa.specs.declared.labelled.Line.{Line}
use Rattle.mv_isa.specs.declared.labelled.Line.TheVariants.{Word, Label, Jump, Branch, Entry, Slot, Point}
use Rattle.mv_isa.specs.Code.{IsSizing, line_at, least_words, text_start}
use Rattle.mv_isa.specs.Standing.{LineStands, word_at}
use Rattle.mv_asm.specs.Outcome.{AreWordsUnder}
use Rattle.mv_image.specs.Spelling.{Fields}
use Rattle.mv_image.specs.WellFormed.{IsInText}
use Rattle.mv_linker.specs.declared.parts.Parts.{Parts}
use Rattle.mv_linker.specs.Linked.{relabelled, linked_lines, has_pointers, first_label, line_count, part_index, AreParts}
use Rattle.mv_linker.specs.Tables.{is_slot, is_point, BeginsWithWords}
use Rattle.mv_linker.specs.Laws.{FunctionStands}
use Rattle.mv_linker.proofs.Places.{function_law}
use Rattle.mv_linker.proofs.LinkedText.{linked_text}
use Rattle.mv_linker.proofs.Slots.{offset_next, behind_line, before_slot}

-- ---- renaming keeps what a line is

pub relabelled_words : (first count : ℕ) (x : Line) → least_words (relabelled first count x) ≡ least_words x
relabelled_words first count (Word i) = refl
relabelled_words first count (Label l) = refl
relabelled_words first count (Jump rd l) = refl
relabelled_words first count (Branch funct3 a b l) = refl
relabelled_words first count (Entry rd f) = refl
relabelled_words first count (Slot f) = refl
relabelled_words first count (Point a) = refl

pub relabelled_slot : (first count : ℕ) (x : Line) → is_slot (relabelled first count x) ≡ is_slot x
relabelled_slot first count (Word i) = refl
relabelled_slot first count (Label l) = refl
relabelled_slot first count (Jump rd l) = refl
relabelled_slot first count (Branch funct3 a b l) = refl
relabelled_slot first count (Entry rd f) = refl
relabelled_slot first count (Slot f) = refl
relabelled_slot first count (Point a) = refl

pub relabelled_point : (first count : ℕ) (x : Line) → is_point (relabelled first count x) ≡ is_point x
relabelled_point first count (Word i) = refl
relabelled_point first count (Label l) = refl
relabelled_point first count (Jump rd l) = refl
relabelled_point first count (Branch funct3 a b l) = refl
relabelled_point first count (Entry rd f) = refl
relabelled_point first count (Slot f) = refl
relabelled_point first count (Point a) = refl

-- code that begins with words has a line
pub has_line : (items : List Line) → 1 ≤ least_words (line_at items 0) → 0 < length items
has_line [] some = absurd (omega (arith, some))
has_line (x ∷ items) some = omega arith

-- ---- codes

-- the lines of a code end where the next begins, or before
pub index_behind : (checks : Bool) (xs : List Labelled) (f g : ℕ) (code : Labelled) → slice_get xs f ≡ Some code → f < g → g ≤ length xs → part_index checks xs f + 1 + length code.items ≤ part_index checks xs g
index_behind checks xs f g code found lt le =
    let size = λ (c : Labelled). 1 + length c.items in
    let count : length (take g xs) ≡ g = length-take-le g xs le in
    let all = sum_by_more_le size (take g xs) f code (omega (arith, count, lt)) in
    let front : line_count (take f (take g xs)) ≡ line_count (take f xs) = ap line_count (take-take f g xs (omega (arith, lt))) in
    let here : get_or (take g xs) f code ≡ code = get_or-take g xs f code lt ∙ get_or_from_slice_get xs f code code found in
    let size_here : size (get_or (take g xs) f code) ≡ size code = ap size here in
    omega (arith, all, front, size_here)

module _ (parts : Parts) (are : AreParts parts) (sizing words : List ℕ) (fits : IsSizing (linked_lines parts) sizing)
    (under : AreWordsUnder text_start (linked_lines parts) sizing words) where
  open linked_text parts sizing words use {lines, at, all, entry, index}

  -- a line with words stands in text
  pub in_text : (image : Fields) → image.text ≡ words → (k : ℕ) → k < length lines → 1 ≤ least_words (line_at lines k) → IsInText image (at k)
  in_text image text_is k below some =
      let place = under.places k in
      let most = sum_by-take-le (λ (n : ℕ). n) sizing (suc k) in
      let here = fits.at_least k below in
      record {
        aligned = place.2;
        not_before = place.0;
        within = omega (arith, most, here, some, offset_next sizing k, under.count, ap length text_is);
      }

  -- and so does each word of it
  pub word_in_text : (image : Fields) → image.text ≡ words → (k j : ℕ) → k < length lines → j < least_words (line_at lines k) → IsInText image (at k + 4 * j)
  word_in_text image text_is k j below wide =
      let place = under.places k in
      let most = sum_by-take-le (λ (n : ℕ). n) sizing (suc k) in
      let here = fits.at_least k below in
      record {
        aligned = omega (arith, place.2);
        not_before = omega (arith, place.0);
        within = omega (arith, most, here, wide, offset_next sizing k, under.count, ap length text_is);
      }

  module _ (f : ℕ) (code : Labelled) (found : slice_get all f ≡ Some code) where
    abbrev stands : FunctionStands lines (has_pointers parts) all f code
    stands = function_law parts are f code found

    label_here : line_at lines (index f) ≡ Label f
    label_here = let same : index f + 0 ≡ index f = omega arith in ap (line_at lines) (sym same) ∙ stands.part.each 0 (omega arith)

    label_within : index f < length lines
    label_within = let within = stands.part.within in omega (arith, within)

    pub entry_is : entry f ≡ at (index f)
    entry_is = under.stands.labels (index f) f label_within label_here stands.entry

    -- behind the label of its entry the code goes on where the label is
    pub at_same : at (index f + 1) ≡ at (index f)
    at_same =
        subst (λ (x : Line). LineStands (word_at text_start words) entry entry (at (index f)) (at (index f + 1)) x) label_here (under.stands.each (index f) label_within)

  module _ (f : ℕ) (code : Labelled) (found : slice_get all f ≡ Some code) (begins : BeginsWithWords code) where
    abbrev renamed : Line → Line
    renamed = relabelled (first_label all f) code.labels

    some_line : 0 < length code.items
    some_line = has_line code.items begins.some

    first_is : line_at lines (index f + 1) ≡ renamed (line_at code.items 0)
    first_is =
        let count = length-map code.items renamed in
        (stands f code found).part.each 1 (omega (arith, count, some_line)) ∙ get_or-map renamed code.items 0 (Label 0) (Label 0) some_line

    pub first_within : index f + 1 < length lines
    first_within =
        let within = (stands f code found).part.within in
        let count = length-map code.items renamed in omega (arith, within, count, some_line)

    pub first_some : 1 ≤ least_words (line_at lines (index f + 1))
    first_some =
        let same = ap least_words first_is ∙ relabelled_words (first_label all f) code.labels (line_at code.items 0) in
        omega (arith, same, begins.some)

    pub first_no_slot : is_slot (line_at lines (index f + 1)) ≡ false
    first_no_slot = ap is_slot first_is ∙ relabelled_slot (first_label all f) code.labels (line_at code.items 0) ∙ begins.no_slot

    pub first_no_point : is_point (line_at lines (index f + 1)) ≡ false
    first_no_point = ap is_point first_is ∙ relabelled_point (first_label all f) code.labels (line_at code.items 0) ∙ begins.no_point

    pub entry_in_text : (image : Fields) → image.text ≡ words → IsInText image (entry f)
    entry_in_text image text_is =
        subst (IsInText image) (at_same f code found ∙ sym (entry_is f code found)) (in_text image text_is (index f + 1) first_within first_some)

    -- a later code begins at a later address
    pub entry_before : (g : ℕ) (other : Labelled) → slice_get all g ≡ Some other → f < g → entry f < entry g
    entry_before g other there lt =
        let within = slice_get_within all g other there in
        let later = index_behind (has_pointers parts) all f g code found lt (omega (arith, within)) in
        let less = before_slot text_start lines sizing (index f) (index f + 1) (index g) fits (omega arith) (omega (arith, later, some_line)) first_within first_some in
        omega (arith, less, entry_is f code found, entry_is g other there)

    -- a line with words that isn't the code's first stands behind it, or ends at it or before
    entry_apart : (m n : ℕ) → m < length lines → 1 ≤ n → n ≤ least_words (line_at lines m) → (m ≡ index f + 1 → ⊥) → (entry f < at m) ⊎ (at m + 4 * n ≤ entry f)
    entry_apart m n below some wide other =
        let here = entry_is f code found in
        elim (cases_lt m (index f)) [
          | inl before ↦ let less = behind_line text_start lines sizing m n (index f) fits below wide before in inr (omega (arith, less, here))
          | inr not_before ↦ elim (cases_lt (index f + 1) m) [
            | inl behind ↦ let less = before_slot text_start lines sizing (index f) (index f + 1) m fits (omega arith) behind first_within first_some in inl (omega (arith, less, here))
            | inr not_behind ↦ elim (cases_eq m (index f)) [
              | inl same ↦ absurd (let none : least_words (line_at lines m) ≡ 0 = ap (λ j. least_words (line_at lines j)) same ∙ ap least_words (label_here f code found) in omega (arith, none, some, wide))
              | inr differs ↦ absurd (other (omega (arith, not_before, not_behind, differs)))
            ]
          ]
        ]

    -- so a slot does
    pub entry_outside : (m h : ℕ) → m < length lines → line_at lines m ≡ Slot h → (entry f < at m) ⊎ (at m + 8 ≤ entry f)
    entry_outside m h below slot =
        entry_apart m 2 below (omega arith) (omega (arith, ap least_words slot))
        (λ first. let e : false ≡ true = sym (ap (λ j. is_slot (line_at lines j)) first ∙ first_no_slot) ∙ ap is_slot slot in cc)

    -- and so does one of four words
    pub entry_outside_point : (m a : ℕ) → m < length lines → line_at lines m ≡ Point a → (entry f < at m) ⊎ (at m + 16 ≤ entry f)
    entry_outside_point m a below slot =
        entry_apart m 4 below (omega arith) (omega (arith, ap least_words slot))
        (λ first. let e : false ≡ true = sym (ap (λ j. is_point (line_at lines j)) first ∙ first_no_point) ∙ ap is_point slot in cc)
