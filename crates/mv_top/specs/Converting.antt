-- What comes of a conversion of a file.
use Rattle.std.specs.Prelude.{ℕ, List}
use Rattle.mv_command.specs.declared.conversion.Conversion.{Conversion}
use Rattle.mv_convert.specs.Causes.{IsNotConverted}
use Rattle.mv_convert.specs.Conversions.{IsConverted}
use Rattle.mv_convert.specs.declared.error.ConvertError.{ConvertError}
use Rattle.mv_convert.specs.declared.error.ConvertError.TheVariants as convert
use Rattle.mv_front.specs.Refusals.{counted}
use Rattle.mv_notes.specs.declared.status.Status.{Status}
use Rattle.mv_notes.specs.declared.status.Status.TheVariants.{Refused, Memory, BadImage, BadLine}
use Rattle.mv_top.specs.Outside.{Outside}
use Rattle.mv_top.specs.Saving.{SavesFile}

-- the status of a file that gives a conversion nothing
abbrev pub status_of_conversion : ConvertError → Status
status_of_conversion (convert.BadImage code offset) = BadImage code offset
status_of_conversion (convert.BadLine code line) = BadLine code line
status_of_conversion (convert.TooMany code count) = Refused (counted code 0 count)
status_of_conversion (convert.Memory e) = Memory

-- A conversion makes nothing of bytes, for this cause or for want of memory.
pub data IsUnconverted (conversion : Conversion) (bytes : List ℕ) : Status → Type 0 where
  unconverted : (error : ConvertError) → IsNotConverted conversion bytes error → IsUnconverted conversion bytes (status_of_conversion error)

abbrev pub ConvertsFile : (before after : Outside) → Conversion → (from to : List ℕ) → Status → Type 0
ConvertsFile before after conversion from to status = SavesFile before after from to (IsConverted conversion) (IsUnconverted conversion) status
