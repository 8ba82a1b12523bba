-- Why a file gives a conversion nothing.
use Rattle.std.specs.Prelude.{ℕ, ◌≡◌, List}
use Rattle.mv_asmtext.specs.Scans.{IsCause, scanned}
use Rattle.mv_asmtext.specs.declared.error.ScanError.{ScanError}
use Rattle.mv_asmtext.specs.declared.error.ScanError.TheVariants as scan
use Rattle.mv_command.specs.declared.conversion.Conversion.{Conversion}
use Rattle.mv_command.specs.declared.conversion.Conversion.TheVariants.{Upgrade, Assemble, ToElf, FromElf}
use Rattle.mv_elf.specs.Faults as file
use Rattle.mv_elf.specs.declared.fault.ElfError.{ElfError}
use Rattle.mv_elf.specs.declared.fault.ElfError.TheVariants as elf
use Rattle.mv_image.specs.Faults.{FirstFault}
use Rattle.mv_image.specs.declared.fault.ImageError.{ImageError}
use Rattle.mv_image.specs.declared.fault.ImageError.TheVariants as image
use Rattle.mv_convert.specs.declared.error.ConvertError.{ConvertError}
use Rattle.mv_convert.specs.declared.error.ConvertError.TheVariants.{BadImage, BadLine, TooMany, Memory}

-- the faults of an image by their codes
abbrev pub of_image : ImageError → ConvertError
of_image (image.Truncated offset) = BadImage 10 offset
of_image (image.BadField offset) = BadImage 11 offset
of_image (image.Trailing offset) = BadImage 12 offset
of_image (image.Memory e) = Memory e

-- the refusals of assembler text by theirs: 3 is for its length, 9 and 13 are for its words of text and of data
abbrev pub of_scan : ScanError → ConvertError
of_scan (scan.TooLong count) = TooMany 3 count
of_scan (scan.Line code line) = BadLine code line
of_scan (scan.TextLimit count) = TooMany 9 count
of_scan (scan.DataLimit count) = TooMany 13 count
of_scan (scan.Memory e) = Memory e

-- and those of an ELF file
abbrev pub of_elf : ElfError → ConvertError
of_elf (elf.Truncated offset) = BadImage 10 offset
of_elf (elf.BadField offset) = BadImage 20 offset
of_elf (elf.BadSegment offset) = BadImage 21 offset
of_elf (elf.Foreign offset) = BadImage 22 offset
of_elf (elf.BadNote offset) = BadImage 23 offset
of_elf (elf.Memory e) = Memory e

-- A fault is the first, or want of memory, which has no cause, and the error is that by its code.
pub record Fails {Fault : Type 0} (IsFirst : Fault → Type 0) (coded : Fault → ConvertError) (error : ConvertError) : Type 0 where
  pub fault : Fault
  pub first : IsFirst fault
  pub is : error ≡ coded fault

-- why bytes are no file that a conversion takes
abbrev pub IsNotConverted : Conversion → List ℕ → ConvertError → Type 0
IsNotConverted Upgrade bytes error = Fails (FirstFault bytes) of_image error
IsNotConverted Assemble bytes error = Fails (λ refusal. IsCause refusal (scanned bytes)) of_scan error
IsNotConverted ToElf bytes error = Fails (FirstFault bytes) of_image error
IsNotConverted FromElf bytes error = Fails (file.FirstFault bytes) of_elf error

abbrev pub IsMemory : ConvertError → Type 0
IsMemory (BadImage code offset) = ⊥
IsMemory (BadLine code line) = ⊥
IsMemory (TooMany code count) = ⊥
IsMemory (Memory e) = Unit {0}
