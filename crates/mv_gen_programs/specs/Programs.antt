-- What it is for generated texts to be programs.
use Rattle.std.specs.Prelude.{ℕ}
use Rattle.mv_ast.specs.declared.program.Program.{Program}
use Rattle.mv_front.specs.Verdicts.{IsProgram}
use Rattle.mv_gen.specs.Generated.{generated}

-- each generated text is a program
abbrev pub TextsArePrograms : Type 0
TextsArePrograms = (number : ℕ) → (p : Program) × IsProgram (generated number) p
