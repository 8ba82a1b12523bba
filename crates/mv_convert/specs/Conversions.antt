-- What conversions make of a file.
use Rattle.std.specs.Prelude.{ℕ, ◌≡◌, List, Ok}
use Rattle.mv_asmtext.specs.Printing.{printed}
use Rattle.mv_asmtext.specs.Scans.{scanned}
use Rattle.mv_asmtext.specs.declared.code.Code.{Code}
use Rattle.mv_command.specs.declared.conversion.Conversion.{Conversion}
use Rattle.mv_command.specs.declared.conversion.Conversion.TheVariants.{Upgrade, Assemble, ToElf, FromElf}
use Rattle.mv_elf.specs.Faults.{Holds}
use Rattle.mv_elf.specs.Writing.{file_of}
use Rattle.mv_image.specs.Faults.{Spells}
use Rattle.mv_image.specs.Spelling.{Fields, bare}
use Rattle.mv_image.specs.Versions.{upgraded}

-- the code that an image has: where a run begins, the words of text and those of data
abbrev pub code_of : Fields → Code
code_of image = record { entry = image.entry; text = image.text; globals = image.globals }

abbrev pub assembler_text : Fields → List ℕ
assembler_text image = printed (code_of image)

-- A text reads as code, and the image has that and no tables, in version 2.
pub record Assembles (text : List ℕ) (image : Fields) : Type 0 where
  pub code : Code
  pub reads : scanned text ≡ Ok code
  pub image_is : image ≡ bare code.entry code.text code.globals

-- the image that a conversion takes from a file
abbrev pub Takes : Conversion → (bytes : List ℕ) → Fields → Type 0
Takes Upgrade bytes image = Spells bytes image
Takes Assemble bytes image = Assembles bytes image
Takes ToElf bytes image = Spells bytes image
Takes FromElf bytes image = Holds bytes image

-- the file that it makes of the image
abbrev pub Makes : Conversion → Fields → (made : List ℕ) → Type 0
Makes Upgrade image made = Spells made (upgraded image)
Makes Assemble image made = Spells made image
Makes ToElf image made = made ≡ file_of image
Makes FromElf image made = Spells made image

-- A conversion makes one file of another.
pub record IsConverted (conversion : Conversion) (bytes made : List ℕ) : Type 0 where
  pub image : Fields
  pub takes : Takes conversion bytes image
  pub makes : Makes conversion image made
