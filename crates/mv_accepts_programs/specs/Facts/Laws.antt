-- What tables need to know of programs holds of those that are accepted.
use Rattle.std.specs.Prelude.{ℕ, List}
use Rattle.mv_ast.specs.declared.program.Program.{Program}
use Rattle.mv_front.specs.Verdicts.{IsProgram}
use Rattle.mv_image.specs.Format.{IsIdentifier}
use Rattle.mv_source_facts.specs.Facts.{IsName, HasTableFacts}

-- the program of a text, of which nothing more is asked
abbrev pub ProgramsHaveTableFacts : Type 0
ProgramsHaveTableFacts = (text : List ℕ) (p : Program) → IsProgram text p → HasTableFacts p

-- a name in a source is an identifier of the format of images
abbrev pub NamesAreIdentifiers : Type 0
NamesAreIdentifiers = (name : List ℕ) → IsName name → IsIdentifier name
