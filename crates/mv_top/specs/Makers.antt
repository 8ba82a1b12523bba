-- What is made of a file by the compiler or by a conversion.
use Rattle.std.specs.Prelude.{ℕ, List}
use Rattle.mv_convert.specs.Conversions.{IsConverted}
use Rattle.mv_notes.specs.declared.status.Status.{Status}
use Rattle.mv_top.specs.Building.{IsBuiltAs, IsUnbuilt}
use Rattle.mv_top.specs.Converting.{IsUnconverted}
use Rattle.mv_top.specs.declared.save.Maker.{Maker}
use Rattle.mv_top.specs.declared.save.Maker.TheVariants.{Build, Convert}

abbrev pub IsMade : Maker → (bytes made : List ℕ) → Type 0
IsMade Build bytes made = IsBuiltAs bytes made
IsMade (Convert conversion) bytes made = IsConverted conversion bytes made

abbrev pub IsUnmade : Maker → (bytes : List ℕ) → Status → Type 0
IsUnmade Build bytes status = IsUnbuilt bytes status
IsUnmade (Convert conversion) bytes status = IsUnconverted conversion bytes status
