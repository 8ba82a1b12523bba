-- What it is for no generated text to be refused.
use Rattle.std.specs.Prelude.{ℕ}
use Rattle.mv_ast.specs.declared.program.Program.{Program}
use Rattle.mv_front.specs.Verdicts.{IsProgram}
use Rattle.mv_front.specs.declared.refusal.Refusal.{Refusal}
use Rattle.mv_count_limits.specs.Verdicts.{HasNoImage}
use Rattle.mv_count_limits.specs.Counted.{IsWithinCounts}
use Rattle.mv_gen.specs.Generated.{generated}

-- each is a program within the counts below which no limit of what is built is passed
abbrev pub TextsAreWithinCounts : Type 0
TextsAreWithinCounts = (number : ℕ) → (p : Program) × IsProgram (generated number) p × IsWithinCounts p

-- and is refused for no cause
abbrev pub TextsHaveImages : Type 0
TextsHaveImages = (number : ℕ) (r : Refusal) → HasNoImage (generated number) r → ⊥
