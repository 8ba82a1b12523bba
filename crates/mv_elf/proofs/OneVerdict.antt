-- A file holds one image, or has one first fault.
use Rattle.std.proofs.Common.{◌≡◌, ◌<◌, ◌∙◌, ℕ, List, ap, sym, subst, arith, inl, inr, Result, Ok, Err}
use Rattle.std.specs.Prelude.{IfOk, IfErr, MatchResult}
use Rattle.std.proofs.lemmas.Bool.{cases_lt, both_ways}
use Rattle.mv_image.specs.Spelling.{Fields}
use Rattle.mv_image.proofs.OneVerdict.{one_image}
use Rattle.mv_elf.specs.declared.fault.ElfError.{ElfError}
use Rattle.mv_elf.specs.declared.fault.ElfError.TheVariants.{Truncated, BadField, BadSegment, Foreign, BadNote, Memory}
use Rattle.mv_elf.specs.declared.segment.Segment.{Segment}
use Rattle.mv_elf.specs.Header.{IsFirstWrong}
use Rattle.mv_elf.specs.Segments.{segment_of}
use Rattle.mv_elf.specs.Memory.{IsProgram}
use Rattle.mv_elf.specs.Notes.{is_ours, HasNoNote, IsNoteOf, Gives}
use Rattle.mv_elf.specs.Faults.{Holds, FirstFault, IsMemory, IsTruncated}

-- ---- one note

none_before : (bytes : List ℕ) (m n : Segment) (i j : ℕ) → IsNoteOf bytes m i → IsNoteOf bytes n j → i < j → ⊥
none_before bytes m n i j first second lt = both_ways _ (second.before i lt) (ap (is_ours bytes) (sym first.is) ∙ first.ours)

one_note : (bytes : List ℕ) (m n : Segment) (i j : ℕ) → IsNoteOf bytes m i → IsNoteOf bytes n j → m ≡ n
one_note bytes m n i j first second =
    elim (cases_lt i j) [
      | inl lt ↦ absurd (none_before bytes m n i j first second lt)
      | inr le ↦ elim (cases_lt j i) [
        | inl lt ↦ absurd (none_before bytes n m j i second first lt)
        | inr ge ↦ let same : i ≡ j = omega arith in first.is ∙ ap (segment_of bytes) same ∙ sym second.is
      ]
    ]

note_or_none : (bytes : List ℕ) (n : Segment) (i : ℕ) → HasNoNote bytes → IsNoteOf bytes n i → ⊥
note_or_none bytes n i none first = both_ways _ (none i first.within) (ap (is_ours bytes) (sym first.is) ∙ first.ours)

-- ---- one image

pub one_held : (bytes : List ℕ) (a b : Fields) → Holds bytes a → Holds bytes b → a ≡ b
one_held bytes a b (inl p) (inl q) = p.image_is ∙ sym q.image_is
one_held bytes a b (inl p) (inr q) = absurd (note_or_none bytes q.0 q.1 p.no_note q.2.first)
one_held bytes a b (inr p) (inl q) = absurd (note_or_none bytes p.0 p.1 q.no_note p.2.first)
one_held bytes a b (inr p) (inr q) =
    let same : p.0 ≡ q.0 = one_note bytes p.0 q.0 p.1 q.1 p.2.first q.2.first in
    let gives : Gives bytes q.0 a = subst (λ (n : Segment). Gives bytes n a) same p.2.gives in
    one_image _ a b gives.spelled q.2.gives.spelled

-- ---- an image or a fault

pub program_of : (bytes : List ℕ) (a : Fields) → Holds bytes a → IsProgram bytes
program_of bytes a (inl p) = p.program
program_of bytes a (inr p) = p.2.program

no_wrong : (bytes : List ℕ) (at : ℕ) → IsProgram bytes → IsFirstWrong bytes at → ⊥
no_wrong bytes at p wrong = both_ways _ wrong.wrong (p.header.fields at wrong.within)

no_truncated : (bytes : List ℕ) (at : ℕ) → IsProgram bytes → IsTruncated bytes at → ⊥
no_truncated bytes at p (is, inl short) = omega (arith, short, p.header.whole)
no_truncated bytes at p (is, inr later) = both_ways _ later.1.1.missing (p.segments.there later.1.0 later.1.1.within)

no_bad_note : (bytes : List ℕ) (a : Fields) (n : Segment) (i : ℕ) → Holds bytes a → IsNoteOf bytes n i → Gives bytes n a
no_bad_note bytes a n i (inl p) first = absurd (note_or_none bytes n i p.no_note first)
no_bad_note bytes a n i (inr p) first = subst (λ (m : Segment). Gives bytes m a) (one_note bytes p.0 n p.1 i p.2.first first) p.2.gives

pub held_has_none : (bytes : List ℕ) (a : Fields) (f : ElfError) → Holds bytes a → FirstFault bytes f → IsMemory f
held_has_none bytes a (Truncated at) held fault = no_truncated bytes at (program_of bytes a held) fault
held_has_none bytes a (BadField at) held (inl fault) = no_wrong bytes at (program_of bytes a held) fault.wrong
held_has_none bytes a (BadField at) held (inr fault) = both_ways _ fault.outside (program_of bytes a held).entry
held_has_none bytes a (BadSegment at) held (inl fault) = both_ways _ fault.1.wrong.wrong ((program_of bytes a held).segments.right fault.0 fault.1.wrong.within)
held_has_none bytes a (BadSegment at) held (inr fault) = let some = (program_of bytes a held).some_text in omega (arith, some, fault.no_text)
held_has_none bytes a (Foreign at) held fault = no_wrong bytes at (program_of bytes a held) fault.wrong
held_has_none bytes a (BadNote at) held fault = fault.2.no_image a (no_bad_note bytes a fault.0 fault.1 held fault.2.first)
held_has_none bytes a (Memory e) held fault = tt

pub only_that : (bytes : List ℕ) (image : Fields) (r : Result Fields ElfError) → Holds bytes image → IfOk r (λ a. Holds bytes a) → IfErr r (λ f. FirstFault bytes f) → MatchResult r (λ a. a ≡ image) IsMemory
only_that bytes image (Ok a) held found fault = one_held bytes a image found held
only_that bytes image (Err f) held found fault = held_has_none bytes image f held fault
