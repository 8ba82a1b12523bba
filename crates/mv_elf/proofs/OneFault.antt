-- A file has one first fault: the one that is found when all is judged in order.
use Rattle.std.proofs.Common.{◌≡◌, ◌<◌, ◌∙◌, ◌==◌, ◌&&◌, not, ℕ, zero, suc, List, length, Bool, true, false, cond, ltb, sym, ap, refl, arith, inl, inr}
use Rattle.std.proofs.lemmas.Bool.{cases_lt, cond-true, cond-false, lt-ltb, le-ltb, ne_eqb, eq-eqb, and_from, and_left, and_right, not_from_true, not_from_false}
use Rattle.mv_elf.specs.declared.fault.ElfError.{ElfError}
use Rattle.mv_elf.specs.declared.fault.ElfError.TheVariants.{Truncated, BadField, BadSegment, Foreign, BadNote, Memory}
use Rattle.mv_elf.specs.declared.segment.Region.TheVariants.{Text}
use Rattle.mv_elf.specs.declared.segment.Segment.{Segment}
use Rattle.mv_elf.specs.Numbers.{word_at}
use Rattle.mv_elf.specs.Header.{header_size, programs_at, entry_at, field_fits, is_foreign, HasHeader, IsFirstWrong}
use Rattle.mv_elf.specs.Segments.{count_of, program_at, segment_of, is_there, segment_fits, AreRight}
use Rattle.mv_elf.specs.Memory.{words_in, enters_text, IsProgram}
use Rattle.mv_elf.specs.Notes.{is_ours, IsNoteOf}
use Rattle.mv_elf.specs.Faults.{FirstFault, IsMemory}

-- ---- the first of some tests that fails

first_false : (ℕ → Bool) → ℕ → ℕ
first_false test zero = 0
first_false test (suc n) = cond (ltb (first_false test n) n) (first_false test n) (cond (test n) (suc n) n)

none_false : (test : ℕ → Bool) (n : ℕ) → ((k : ℕ) → k < n → test k ≡ true) → first_false test n ≡ n
unfolding first_false
none_false test zero all = refl
none_false test (suc n) all =
    let before : first_false test n ≡ n = none_false test n (λ k lt. all k (omega (arith, lt))) in
    let last : ltb n n ≡ false = le-ltb n n (omega arith) in
    let here : test n ≡ true = all n (omega arith) in
    rw (before, last, here) refl

first_is : (test : ℕ → Bool) (n i : ℕ) → i < n → ((k : ℕ) → k < i → test k ≡ true) → test i ≡ false → first_false test n ≡ i
unfolding first_false
first_is test zero i lt before here = absurd (omega arith)
first_is test (suc n) i lt before here =
    elim (cases_lt i n) [
      | inl below ↦
          let found : first_false test n ≡ i = first_is test n i below before here in
          let there : ltb i n ≡ true = lt-ltb i n below in
          rw (found, there) refl
      | inr from ↦
          let same : i ≡ n = omega arith in
          let none : first_false test n ≡ n = none_false test n (λ k l. before k (omega (arith, l, same))) in
          let last : ltb n n ≡ false = le-ltb n n (omega arith) in
          let wrong : test n ≡ false = ap test (sym same) ∙ here in
          rw (none, last, wrong) (sym same)
    ]

-- ---- all in order

segment_test : List ℕ → ℕ → Bool
segment_test bytes i = is_there bytes i && segment_fits bytes i

no_note_test : List ℕ → ℕ → Bool
no_note_test bytes i = not (is_ours bytes (segment_of bytes i))

text_verdict : List ℕ → ElfError
text_verdict bytes =
    cond (words_in bytes Text == 0) (BadSegment (word_at bytes programs_at))
    (cond (enters_text bytes) (BadNote (segment_of bytes (first_false (no_note_test bytes) (count_of bytes))).offset) (BadField entry_at))

segment_verdict : List ℕ → ℕ → ElfError
segment_verdict bytes i = cond (ltb i (count_of bytes)) (cond (is_there bytes i) (BadSegment (program_at bytes i)) (Truncated (length bytes))) (text_verdict bytes)

field_verdict : List ℕ → ℕ → ElfError
field_verdict bytes at = cond (ltb at header_size) (cond (is_foreign at) (Foreign at) (BadField at)) (segment_verdict bytes (first_false (segment_test bytes) (count_of bytes)))

verdict : List ℕ → ElfError
verdict bytes = cond (ltb (length bytes) header_size) (Truncated (length bytes)) (field_verdict bytes (first_false (field_fits bytes) header_size))

-- ---- what it is at each stage

at_short : (bytes : List ℕ) → length bytes < header_size → verdict bytes ≡ Truncated (length bytes)
unfolding verdict
at_short bytes short = cond-true _ _ _ (lt-ltb _ _ short)

at_field : (bytes : List ℕ) (at : ℕ) → IsFirstWrong bytes at → verdict bytes ≡ cond (is_foreign at) (Foreign at) (BadField at)
unfolding verdict field_verdict
at_field bytes at wrong =
    cond-false _ _ _ (le-ltb _ _ wrong.whole) ∙ ap (field_verdict bytes) (first_is (field_fits bytes) header_size at wrong.within wrong.before wrong.wrong) ∙ cond-true _ _ _ (lt-ltb _ _ wrong.within)

at_segments : (bytes : List ℕ) → HasHeader bytes → verdict bytes ≡ segment_verdict bytes (first_false (segment_test bytes) (count_of bytes))
unfolding verdict field_verdict
at_segments bytes header =
    cond-false _ _ _ (le-ltb _ _ header.whole) ∙ ap (field_verdict bytes) (none_false (field_fits bytes) header_size header.fields)

right_before : (bytes : List ℕ) (i : ℕ) → AreRight bytes i → (k : ℕ) → k < i → segment_test bytes k ≡ true
unfolding segment_test
right_before bytes i right k lt = and_from _ _ (right.there k lt) (right.right k lt)

at_segment : (bytes : List ℕ) (i : ℕ) → HasHeader bytes → i < count_of bytes → AreRight bytes i → segment_test bytes i ≡ false → verdict bytes ≡ cond (is_there bytes i) (BadSegment (program_at bytes i)) (Truncated (length bytes))
unfolding segment_verdict
at_segment bytes i header within before wrong =
    at_segments bytes header ∙ ap (segment_verdict bytes) (first_is (segment_test bytes) (count_of bytes) i within (right_before bytes i before) wrong) ∙ cond-true _ _ _ (lt-ltb _ _ within)

at_text : (bytes : List ℕ) → HasHeader bytes → AreRight bytes (count_of bytes) → verdict bytes ≡ text_verdict bytes
unfolding segment_verdict
at_text bytes header right =
    at_segments bytes header ∙ ap (segment_verdict bytes) (none_false (segment_test bytes) (count_of bytes) (right_before bytes (count_of bytes) right))
    ∙ cond-false _ _ _ (le-ltb (count_of bytes) (count_of bytes) (omega arith))

at_missing : (bytes : List ℕ) (i : ℕ) → HasHeader bytes → i < count_of bytes → AreRight bytes i → is_there bytes i ≡ false → verdict bytes ≡ Truncated (length bytes)
unfolding segment_test
at_missing bytes i header within before missing = at_segment bytes i header within before (and_left _ _ missing) ∙ cond-false _ _ _ missing

at_wrong : (bytes : List ℕ) (i : ℕ) → HasHeader bytes → i < count_of bytes → AreRight bytes i → is_there bytes i ≡ true → segment_fits bytes i ≡ false → verdict bytes ≡ BadSegment (program_at bytes i)
unfolding segment_test
at_wrong bytes i header within before there wrong = at_segment bytes i header within before (and_right (is_there bytes i) _ wrong) ∙ cond-true _ _ _ there

at_empty : (bytes : List ℕ) → HasHeader bytes → AreRight bytes (count_of bytes) → words_in bytes Text ≡ 0 → verdict bytes ≡ BadSegment (word_at bytes programs_at)
unfolding text_verdict
at_empty bytes header right none = at_text bytes header right ∙ cond-true _ _ _ (eq-eqb _ _ none)

some_text : (bytes : List ℕ) → 0 < words_in bytes Text → (words_in bytes Text == 0) ≡ false
some_text bytes some = ne_eqb _ _ (λ e. omega (arith, e, some))

at_entry : (bytes : List ℕ) → HasHeader bytes → AreRight bytes (count_of bytes) → 0 < words_in bytes Text → enters_text bytes ≡ false → verdict bytes ≡ BadField entry_at
unfolding text_verdict
at_entry bytes header right some outside = at_text bytes header right ∙ cond-false _ _ _ (some_text bytes some) ∙ cond-false _ _ _ outside

first_note_at : (bytes : List ℕ) (note : Segment) (i : ℕ) → IsNoteOf bytes note i → first_false (no_note_test bytes) (count_of bytes) ≡ i
unfolding no_note_test
first_note_at bytes note i first =
    first_is (no_note_test bytes) (count_of bytes) i first.within (λ k lt. not_from_false _ (first.before k lt)) (not_from_true _ (ap (is_ours bytes) (sym first.is) ∙ first.ours))

at_note : (bytes : List ℕ) (note : Segment) (i : ℕ) → IsProgram bytes → IsNoteOf bytes note i → verdict bytes ≡ BadNote note.offset
unfolding text_verdict
at_note bytes note i program first =
    at_text bytes program.header program.segments ∙ cond-false _ _ _ (some_text bytes program.some_text) ∙ cond-true _ _ _ program.entry
    ∙ ap (λ (k : ℕ). BadNote (segment_of bytes k).offset) (first_note_at bytes note i first) ∙ ap (λ (s : Segment). BadNote s.offset) (sym first.is)

-- ---- each fault is that one

is_verdict : (bytes : List ℕ) (f : ElfError) → FirstFault bytes f → (IsMemory f → ⊥) → f ≡ verdict bytes
is_verdict bytes (Truncated at) (is, inl short) other = ap (λ (n : ℕ). Truncated n) is ∙ sym (at_short bytes short)
is_verdict bytes (Truncated at) (is, inr (header, (i, missing))) other = ap (λ (n : ℕ). Truncated n) is ∙ sym (at_missing bytes i header missing.within missing.before missing.missing)
is_verdict bytes (BadField at) (inl field) other = sym (at_field bytes at field.wrong ∙ cond-false _ _ _ field.own)
is_verdict bytes (BadField at) (inr entry) other = ap (λ (n : ℕ). BadField n) entry.at_is ∙ sym (at_entry bytes entry.header entry.segments entry.some_text entry.outside)
is_verdict bytes (BadSegment at) (inl (i, bad)) other = ap (λ (n : ℕ). BadSegment n) bad.at_is ∙ sym (at_wrong bytes i bad.header bad.wrong.within bad.wrong.before bad.wrong.there bad.wrong.wrong)
is_verdict bytes (BadSegment at) (inr empty) other = ap (λ (n : ℕ). BadSegment n) empty.at_is ∙ sym (at_empty bytes empty.header empty.segments empty.no_text)
is_verdict bytes (Foreign at) field other = sym (at_field bytes at field.wrong ∙ cond-true _ _ _ field.foreign)
is_verdict bytes (BadNote at) (note, i, bad) other = ap (λ (n : ℕ). BadNote n) bad.at_is ∙ sym (at_note bytes note i bad.program bad.first)
is_verdict bytes (Memory e) fault other = absurd (other tt)

pub one_fault : (bytes : List ℕ) (f g : ElfError) → FirstFault bytes f → FirstFault bytes g → (IsMemory f → ⊥) → (IsMemory g → ⊥) → f ≡ g
one_fault bytes f g first second no_memory none = is_verdict bytes f first no_memory ∙ sym (is_verdict bytes g second none)
