-- The image that a file holds, and the first place at which it holds none.
use Rattle.std.specs.Prelude.{ℕ, ◌≡◌, ◌<◌, ◌⊎◌, List, length, true, false}
use Rattle.mv_image.specs.Spelling.{Fields, bare}
use Rattle.mv_elf.specs.declared.fault.ElfError.{ElfError}
use Rattle.mv_elf.specs.declared.fault.ElfError.TheVariants.{Truncated, BadField, BadSegment, Foreign, BadNote, Memory}
use Rattle.mv_elf.specs.declared.segment.Region.TheVariants.{Text}
use Rattle.mv_elf.specs.declared.segment.Segment.{Segment}
use Rattle.mv_elf.specs.Numbers.{word_at}
use Rattle.mv_elf.specs.Header.{header_size, programs_at, entry_at, is_foreign, HasHeader, IsFirstWrong}
use Rattle.mv_elf.specs.Segments.{count_of, program_at, AreRight, IsMissing, IsWrong}
use Rattle.mv_elf.specs.Memory.{words_in, text_of, data_of, entry_of, enters_text, IsProgram}
use Rattle.mv_elf.specs.Notes.{HasNoNote, IsNoteOf, Gives}

-- A file holds an image: without a note its text and data alone, and else what the note gives.
pub record IsPlain (bytes : List ℕ) (image : Fields) : Type 0 where
  pub program : IsProgram bytes
  pub no_note : HasNoNote bytes
  pub image_is : image ≡ bare (entry_of bytes) (text_of bytes) (data_of bytes)

pub record IsNoted (bytes : List ℕ) (image : Fields) (note : Segment) (i : ℕ) : Type 0 where
  pub program : IsProgram bytes
  pub first : IsNoteOf bytes note i
  pub gives : Gives bytes note image

abbrev pub Holds : List ℕ → Fields → Type 0
Holds bytes image = IsPlain bytes image ⊎ ((note : Segment) × (i : ℕ) × IsNoted bytes image note i)

-- The header is cut short, or a segment is the first that isn't there.
abbrev pub IsTruncated : List ℕ → ℕ → Type 0
IsTruncated bytes at = (at ≡ length bytes) × ((length bytes < header_size) ⊎ (HasHeader bytes × ((i : ℕ) × IsMissing bytes i)))

-- A field is the first that is wrong, and shows a file of another kind or not.
pub record IsBadField (bytes : List ℕ) (at : ℕ) : Type 0 where
  pub wrong : IsFirstWrong bytes at
  pub own : is_foreign at ≡ false

pub record IsForeign (bytes : List ℕ) (at : ℕ) : Type 0 where
  pub wrong : IsFirstWrong bytes at
  pub foreign : is_foreign at ≡ true

-- All else before the note is right, and the entry isn't.
pub record IsBadEntry (bytes : List ℕ) (at : ℕ) : Type 0 where
  pub header : HasHeader bytes
  pub segments : AreRight bytes (count_of bytes)
  pub some_text : 0 < words_in bytes Text
  pub outside : enters_text bytes ≡ false
  pub at_is : at ≡ entry_at

-- A segment is the first that isn't right.
pub record IsBadSegment (bytes : List ℕ) (at i : ℕ) : Type 0 where
  pub header : HasHeader bytes
  pub wrong : IsWrong bytes i
  pub at_is : at ≡ program_at bytes i

-- All segments are right, and none is text.
pub record IsEmpty (bytes : List ℕ) (at : ℕ) : Type 0 where
  pub header : HasHeader bytes
  pub segments : AreRight bytes (count_of bytes)
  pub no_text : words_in bytes Text ≡ 0
  pub at_is : at ≡ word_at bytes programs_at

-- All else is right, and the note gives no image.
pub record IsBadNote (bytes : List ℕ) (at : ℕ) (note : Segment) (i : ℕ) : Type 0 where
  pub program : IsProgram bytes
  pub first : IsNoteOf bytes note i
  pub no_image : (image : Fields) → Gives bytes note image → ⊥
  pub at_is : at ≡ note.offset

abbrev pub FirstFault : List ℕ → ElfError → Type 0
FirstFault bytes (Truncated at) = IsTruncated bytes at
FirstFault bytes (BadField at) = IsBadField bytes at ⊎ IsBadEntry bytes at
FirstFault bytes (BadSegment at) = ((i : ℕ) × IsBadSegment bytes at i) ⊎ IsEmpty bytes at
FirstFault bytes (Foreign at) = IsForeign bytes at
FirstFault bytes (BadNote at) = (note : Segment) × (i : ℕ) × IsBadNote bytes at note i
FirstFault bytes (Memory _) = Unit {0}

abbrev pub IsMemory : ElfError → Type 0
IsMemory (Truncated at) = ⊥
IsMemory (BadField at) = ⊥
IsMemory (BadSegment at) = ⊥
IsMemory (Foreign at) = ⊥
IsMemory (BadNote at) = ⊥
IsMemory (Memory _) = Unit {0}
