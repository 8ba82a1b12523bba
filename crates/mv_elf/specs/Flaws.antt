-- What is wrong with the first segment that isn't there or isn't right.
use Rattle.std.specs.Prelude.{ℕ, List}
use Rattle.mv_elf.specs.declared.programs.Flaw.{Flaw}
use Rattle.mv_elf.specs.declared.programs.Flaw.TheVariants.{Missing, Wrong}
use Rattle.mv_elf.specs.Segments.{IsMissing, IsWrong}

abbrev pub IsFirstFlaw : List ℕ → Flaw → Type 0
IsFirstFlaw bytes Missing = (i : ℕ) × IsMissing bytes i
IsFirstFlaw bytes (Wrong i) = IsWrong bytes i
