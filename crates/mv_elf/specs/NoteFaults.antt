-- Why a note gives no image.
use Rattle.std.specs.Prelude.{ℕ, ◌≡◌, List}
use Rattle.mv_image.specs.Spelling.{Fields}
use Rattle.mv_elf.specs.declared.fault.ElfError.{ElfError}
use Rattle.mv_elf.specs.declared.fault.ElfError.TheVariants.{Truncated, BadField, BadSegment, Foreign, BadNote, Memory}
use Rattle.mv_elf.specs.declared.segment.Segment.{Segment}
use Rattle.mv_elf.specs.Notes.{Gives}

abbrev pub IsNoteFault : List ℕ → Segment → ElfError → Type 0
IsNoteFault bytes note (Truncated at) = ⊥
IsNoteFault bytes note (BadField at) = ⊥
IsNoteFault bytes note (BadSegment at) = ⊥
IsNoteFault bytes note (Foreign at) = ⊥
IsNoteFault bytes note (BadNote at) = (at ≡ note.offset) × ((image : Fields) → Gives bytes note image → ⊥)
IsNoteFault bytes note (Memory _) = Unit {0}
