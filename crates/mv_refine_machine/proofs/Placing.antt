-- Assembled code that an image's text has is placed there.
use Rattle.std.proofs.Common.{◌≡◌, inl, inr, ℕ, suc, ◌+◌, ◌*◌, ◌-◌, ◌/◌, ◌%◌, ◌<◌, ◌≤◌, Bool, true, false, List, [], ◌∷◌, length, slice_get, Option, Some, None, nat_lt, if◌then◌else◌, refl, sym, ap, ◌∙◌, subst, arith}
use Rattle.std.proofs.lemmas.Bool.{ltb-false}
use Rattle.mv_isa.specs.declared.instr.Instr.{Instr}
use Rattle.mv_isa.specs.declared.labelled.Line.{Line}
use Rattle.mv_isa.specs.declared.labelled.Line.TheVariants.{Word, Label, Jump, Branch, Entry, Slot, Point}
use Rattle.mv_isa.specs.Encoding.{encode}
use Rattle.mv_isa.specs.Labels.{check_label}
use Rattle.mv_isa.specs.Code.{LineFits, IsPlace, CodeFits, line_at, label_index, address, label_address}
use Rattle.mv_isa.specs.Standing.{InstrStands, LineStands, word_at}
use Rattle.mv_isa.specs.LineSteps.{named}
use Rattle.mv_asm.specs.Outcome.{AreWordsUnder}
use Rattle.mv_image.specs.Spelling.{Fields}
use Rattle.mv_ir.specs.World.{World}
use Rattle.mv_select_code.specs.Control.Placed.{StandsIn, IsAtPlace, IsPlaced, Placed}
use Rattle.mv_refine_machine.specs.MachineRuns.{may_be_patched, image_word, unpatched_word, bound_word, machine_text}
use Rattle.mv_refine_machine.specs.Assembled.{HasWords, IsFreeAt, IsKept, IsOnlyLabel, IsPart}
use Rattle.mv_refine_machine.proofs.Fetches.{finds_word, keeps_word, free_stands}

-- ---- a line stands in each text that has its words

module _ (text text' : ℕ → Option ℕ) (place : ℕ → ℕ) (at end : ℕ) (aligned : at % 4 ≡ 0)
    (same : (a word : ℕ) → at ≤ a → a < end → a % 4 ≡ 0 → text a ≡ Some word → text' a ≡ Some word) where
  first_stands : (i : Instr) → at < end → InstrStands text at i → InstrStands text' at i
  first_stands i lt h = record { fields = h.fields; word = same at (encode i) (omega arith) lt aligned h.word }

  second_stands : (i : Instr) → at + 4 < end → InstrStands text (at + 4) i → InstrStands text' (at + 4) i
  second_stands i lt h = record { fields = h.fields; word = same (at + 4) (encode i) (omega arith) lt (omega (arith, aligned)) h.word }

  third_stands : (i : Instr) → at + 8 < end → InstrStands text (at + 8) i → InstrStands text' (at + 8) i
  third_stands i lt h = record { fields = h.fields; word = same (at + 8) (encode i) (omega arith) lt (omega (arith, aligned)) h.word }

  fourth_stands : (i : Instr) → at + 12 < end → InstrStands text (at + 12) i → InstrStands text' (at + 12) i
  fourth_stands i lt h = record { fields = h.fields; word = same (at + 12) (encode i) (omega arith) lt (omega (arith, aligned)) h.word }

  pub stands_too : (line : Line) → LineStands text place place at end line → LineStands text' place place at end line
  stands_too (Word i) h = let e = h.1 in (first_stands i (omega (arith, e)) h.0, e)
  stands_too (Label l) h = h
  stands_too (Jump rd l) h = let e = h.end_is in record { jump = first_stands _ (omega (arith, e)) h.jump; end_is = e }
  stands_too (Branch funct3 rs1 rs2 l) (inl h) = let e = h.end_is in inl (record { branch = first_stands _ (omega (arith, e)) h.branch; end_is = e })
  stands_too (Branch funct3 rs1 rs2 l) (inr h) =
      let e = h.end_is in inr (record { branch = first_stands _ (omega (arith, e)) h.branch; jump = second_stands _ (omega (arith, e)) h.jump; end_is = e })
  stands_too (Entry rd l) h =
      let e = h.end_is in record { upper = first_stands _ (omega (arith, e)) h.upper; lower = second_stands _ (omega (arith, e)) h.lower; end_is = e }
  stands_too (Slot l) h =
      let e = h.end_is in record { call = first_stands _ (omega (arith, e)) h.call; rest = second_stands _ (omega (arith, e)) h.rest; end_is = e }
  stands_too (Point a) h =
      let e = h.end_is in
      record {
        upper = first_stands _ (omega (arith, e)) h.upper;
        load = second_stands _ (omega (arith, e)) h.load;
        test = third_stands _ (omega (arith, e)) h.test;
        call = fourth_stands _ (omega (arith, e)) h.call;
        end_is = e;
      }

-- ---- words of the image

word_told : (base : ℕ) (words : List ℕ) (a word : ℕ) → word_at base words a ≡ Some word → (base ≤ a) × (slice_get words ((a - base) / 4) ≡ Some word)
word_told base words a word e = by_test (nat_lt a base) refl e
  where
    by_test : (before : Bool) → nat_lt a base ≡ before → (if before then None else slice_get words ((a - base) / 4)) ≡ Some word → (base ≤ a) × (slice_get words ((a - base) / 4) ≡ Some word)
    by_test true p q = absurd (cc)
    by_test false p q = (ltb-false a base p, q)

text_has : (image : Fields) (base : ℕ) (words : List ℕ) (a word : ℕ) → HasWords image base words → 0x1000 ≤ base → base % 4 ≡ 0 → a % 4 ≡ 0 → a < 0x0010_0000
    → word_at base words a ≡ Some word → image_word image a ≡ Some word
text_has image base words a word has start aligned even below e =
    let told = word_told base words a word e in
    let from = told.0 in
    let index = (base - 0x1000) / 4 + (a - base) / 4 in
    let is : 0x1000 + 4 * index ≡ a = omega (arith, start, aligned, even, from) in
    subst (λ x. image_word image x ≡ Some word) is (finds_word image index word (has ((a - base) / 4) word told.1) (omega (arith, is, below)))

-- ---- the lines of a part

module _ (image : Fields) (base : ℕ) (lines : List Line) (sizing words : List ℕ) (are : AreWordsUnder base lines sizing words) (has : HasWords image base words) where
  abbrev at : ℕ → ℕ
  at = address base sizing

  abbrev place : ℕ → ℕ
  place = label_address base lines sizing

  -- an address of the line of an index
  record IsWithin (k a : ℕ) : Type 0 where
    from : at k ≤ a
    below : a < at (k + 1)
    even : a % 4 ≡ 0

  has_word : (k a word : ℕ) → IsWithin k a → word_at base words a ≡ Some word → image_word image a ≡ Some word
  has_word k a word within e =
      let start = base_place in
      let below = within.below in
      let end = (are.places (k + 1)).1 in
      text_has image base words a word has start.0 start.2 within.even (omega (arith, below, end)) e
    where
      base_place : IsPlace base
      base_place = let same : base + 0 ≡ base = omega arith in subst IsPlace same (are.places 0)

  -- the line of an index stands in each text that has its words
  line_stands : (text : ℕ → Option ℕ) (k : ℕ) → ((a word : ℕ) → IsWithin k a → image_word image a ≡ Some word → text a ≡ Some word)
      → (line : Line) → LineStands (word_at base words) place place (at k) (at (k + 1)) line → LineStands text place place (at k) (at (k + 1)) line
  line_stands text k same =
      stands_too (word_at base words) text place (at k) (at (k + 1)) (are.places k).2
      (λ a word le lt even e. let within : IsWithin k a = record { from = le; below = lt; even = even } in same a word within (has_word k a word within e))

  -- under bindings that are free there
  pub line_stands_free : (w : World) (k : ℕ) → k < length lines → ((a : ℕ) → at k ≤ a → a < at (k + 1) → a % 4 ≡ 0 → IsFreeAt image w a)
      → LineStands (bound_word image w) place place (at k) (at (k + 1)) (line_at lines k)
  line_stands_free w k lt free =
      line_stands (bound_word image w) k (λ a word within e. free_stands image w a word (free a within.from within.below within.even) e) (line_at lines k) (are.stands.each k lt)

  module _ (attributed : List ℕ) (fits : CodeFits lines) where
    kept_line : (k : ℕ) (line : Line) → LineStands (word_at base words) place place (at k) (at (k + 1)) line
        → ((a : ℕ) → at k ≤ a → a < at (k + 1) → a % 4 ≡ 0 → may_be_patched image a ≡ false) → LineStands (unpatched_word image) place place (at k) (at (k + 1)) line
    kept_line k line h never =
        line_stands (unpatched_word image) k (λ a word within e. keeps_word image a word e (never a within.from within.below within.even)) line h

    stands : (k : ℕ) (line : Line) → LineStands (word_at base words) place place (at k) (at (k + 1)) line → IsKept attributed image (at k) (at (k + 1)) line
        → StandsIn (machine_text attributed image) place place (at k) (at (k + 1)) line
    stands k (Word i) h kept = kept_line k (Word i) h kept
    stands k (Label l) h kept = h
    stands k (Jump rd l) h kept = kept_line k (Jump rd l) h kept
    stands k (Branch funct3 rs1 rs2 l) h kept = kept_line k (Branch funct3 rs1 rs2 l) h kept
    stands k (Entry rd l) h kept = kept_line k (Entry rd l) h kept
    stands k (Slot f) h kept = (kept, h.end_is)
    stands k (Point a) h kept = (kept, h.end_is)

    there : (k : ℕ) (line : Line) → IsPlace (named place place (at k) line)
    there k (Word i) = are.places k
    there k (Label l) = are.places k
    there k (Jump rd l) = are.places (label_index lines l)
    there k (Branch funct3 rs1 rs2 l) = are.places (label_index lines l)
    there k (Entry rd l) = are.places (label_index lines l)
    there k (Slot l) = are.places (label_index lines l)
    there k (Point a) = are.places (label_index lines check_label)

    label : (k : ℕ) (line : Line) → k < length lines → line_at lines k ≡ line → IsOnlyLabel lines line → IsAtPlace place (at k) line
    label k (Word i) lt e only = tt
    label k (Label l) lt e only = are.stands.labels k l lt e only
    label k (Jump rd l) lt e only = tt
    label k (Branch funct3 rs1 rs2 l) lt e only = tt
    label k (Entry rd l) lt e only = tt
    label k (Slot l) lt e only = tt
    label k (Point a) lt e only = tt

    line_placed : (k : ℕ) (line : Line) → k < length lines → line_at lines k ≡ line → IsKept attributed image (at k) (at (k + 1)) line → IsOnlyLabel lines line
        → IsPlaced (machine_text attributed image) place place (at k) (at (k + 1)) line
    line_placed k line lt e kept only = record {
      stands = stands k line (subst (LineStands (word_at base words) place place (at k) (at (k + 1))) e (are.stands.each k lt)) kept;
      fits = subst LineFits e (fits.fields k lt);
      here = are.places k;
      there = there k line;
      label = label k line lt e only;
    }

    abbrev Part : ℕ → List Line → Type 0
    Part = IsPart attributed image at lines

    behind : (k : ℕ) (line : Line) (part : List Line) → Part k (line ∷ part) → Part (k + 1) part
    behind k line part h = let within = h.within in record {
      within = omega (arith, within);
      each = λ j lt. ap (line_at lines) (next j) ∙ h.each (suc j) (omega (arith, lt));
      kept = λ j lt. subst (λ i. IsKept attributed image (at i) (at (i + 1)) (line_at part j)) (sym (next j)) (h.kept (suc j) (omega (arith, lt)));
      labels = λ j lt. h.labels (suc j) (omega (arith, lt));
    }
      where
        next : (j : ℕ) → k + 1 + j ≡ k + suc j
        next j = omega arith

    pub part_placed : (k : ℕ) (part : List Line) → Part k part → Placed (machine_text attributed image) place place part (at k) (at (k + length part))
    part_placed k [] h = let none : k + 0 ≡ k = omega arith in ap at none
    part_placed k (line ∷ part) h =
        let within = h.within in
        let here : k + 0 ≡ k = omega arith in
        let all : k + 1 + length part ≡ k + length (line ∷ part) = omega arith in (
          at (k + 1),
          line_placed k line (omega (arith, within)) (ap (line_at lines) (sym here) ∙ h.each 0 (omega arith))
              (subst (λ i. IsKept attributed image (at i) (at (i + 1)) line) here (h.kept 0 (omega arith))) (h.labels 0 (omega arith)),
          subst (λ i. Placed (machine_text attributed image) place place part (at (k + 1)) (at i)) all (part_placed (k + 1) part (behind k line part h)),
        )
