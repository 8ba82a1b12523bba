-- What a file holds whose header and segments are right.
use Rattle.std.proofs.Common.{◌≡◌, ◌<◌, ◌≤◌, ◌+◌, ◌*◌, ◌%◌, ◌∙◌, ◌==◌, ◌&&◌, nat_le, nat_lt, ℕ, List, length, true, ap, arith, inl, inr, Result, Ok, Err}
use Rattle.std.specs.Prelude.{IfOk, IfErr}
use Rattle.std.proofs.lemmas.Bool.{and_parts, eqb-true, leb-true, ltb-true}
use Rattle.mv_num.specs.Regions.{text_start, text_limit, data_limit}
use Rattle.mv_num.proofs.ByteLaws.{length-words_of}
use Rattle.mv_image.specs.Spelling.{Fields, bare}
use Rattle.mv_elf.specs.declared.fault.ElfError.{ElfError}
use Rattle.mv_elf.specs.declared.fault.ElfError.TheVariants.{Truncated, BadField, BadSegment, Foreign, BadNote, Memory}
use Rattle.mv_elf.specs.declared.segment.Region.{Region}
use Rattle.mv_elf.specs.declared.segment.Region.TheVariants.{Text, Data}
use Rattle.mv_elf.specs.declared.segment.Segment.{Segment}
use Rattle.mv_elf.specs.Memory.{words_in, loaded_in, bytes_in, text_of, data_of, entry_of, enters_text, IsProgram}
use Rattle.mv_elf.specs.Notes.{HasNoNote, IsNoteOf, Gives}
use Rattle.mv_elf.specs.NoteFaults.{IsNoteFault}
use Rattle.mv_elf.specs.Faults.{Holds, FirstFault}
use Rattle.mv_elf.proofs.MemoryLaws.{words_room, bytes_length}

-- ---- a run begins in text

pub record Enters (bytes : List ℕ) : Type 0 where
  pub aligned : entry_of bytes % 4 ≡ 0
  pub not_before : text_start ≤ entry_of bytes
  pub within : entry_of bytes < text_start + 4 * words_in bytes Text

pub enters : (bytes : List ℕ) → enters_text bytes ≡ true → Enters bytes
unfolding enters_text
enters bytes e =
    let p = and_parts (entry_of bytes % 4 == 0 && nat_le text_start (entry_of bytes)) (nat_lt (entry_of bytes) (text_start + 4 * words_in bytes Text)) e in
    let q = and_parts (entry_of bytes % 4 == 0) (nat_le text_start (entry_of bytes)) p.0 in
    record { aligned = eqb-true _ _ q.0; not_before = leb-true _ _ q.1; within = ltb-true _ _ p.1 }

-- ---- how much is loaded

pub loaded_length : (region : Region) (bytes : List ℕ) → length (loaded_in bytes region) ≡ words_in bytes region
loaded_length region bytes = length-words_of (bytes_in bytes region) ∙ omega (arith, bytes_length region bytes)

pub text_short : (bytes : List ℕ) → length (text_of bytes) ≤ text_limit
text_short bytes = omega (arith, loaded_length Text bytes, words_room Text bytes)

pub data_short : (bytes : List ℕ) → length (data_of bytes) ≤ data_limit
data_short bytes = omega (arith, loaded_length Data bytes, words_room Data bytes)

-- ---- what is answered

pub noted : (bytes : List ℕ) (note : Segment) (i : ℕ) (r : Result Fields ElfError) → IsProgram bytes → IsNoteOf bytes note i → IfOk r (λ image. Gives bytes note image) → IfOk r (λ image. Holds bytes image)
noted bytes note i (Ok image) program first gives = inr (note, i, record { program = program; first = first; gives = gives })
noted bytes note i (Err fault) program first gives = tt

pub note_fault : (bytes : List ℕ) (note : Segment) (i : ℕ) (r : Result Fields ElfError) → IsProgram bytes → IsNoteOf bytes note i → IfErr r (λ fault. IsNoteFault bytes note fault) → IfErr r (λ fault. FirstFault bytes fault)
note_fault bytes note i (Ok image) program first fault = tt
note_fault bytes note i (Err (Truncated at)) program first fault = absurd fault
note_fault bytes note i (Err (BadField at)) program first fault = absurd fault
note_fault bytes note i (Err (BadSegment at)) program first fault = absurd fault
note_fault bytes note i (Err (Foreign at)) program first fault = absurd fault
note_fault bytes note i (Err (BadNote at)) program first fault = (note, i, record { program = program; first = first; no_image = fault.1; at_is = fault.0 })
note_fault bytes note i (Err (Memory e)) program first fault = tt

pub plain : (bytes : List ℕ) (image : Fields) (entry : ℕ) (text globals : List ℕ) → IsProgram bytes → HasNoNote bytes
    → image ≡ bare entry text globals → entry ≡ entry_of bytes → text ≡ text_of bytes → globals ≡ data_of bytes → Holds bytes image
plain bytes image entry text globals program no_note is entry_is text_is globals_is =
    inl (record {
      program = program;
      no_note = no_note;
      image_is = is ∙ ap (λ (e : ℕ). bare e text globals) entry_is ∙ ap (λ (t : List ℕ). bare (entry_of bytes) t globals) text_is ∙ ap (bare (entry_of bytes) (text_of bytes)) globals_is;
    })
