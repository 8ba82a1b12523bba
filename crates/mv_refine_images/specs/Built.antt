-- What a compiler gives of a program.
use Rattle.std.specs.Prelude.{◌≤◌, List, All}
use Rattle.mv_ast.specs.declared.program.Program.{Program}
use Rattle.mv_ast.specs.declared.program.Global.{Global}
use Rattle.mv_ast.specs.Counts.{words_of_size}
use Rattle.mv_image.specs.Faults.{Rules}
use Rattle.mv_image.specs.Spelling.{Fields}
use Rattle.mv_ir.specs.declared.body.Body.{Body}
use Rattle.mv_select.specs.Bodies.SelectedBodies.{HasWords}
use Rattle.mv_linker.specs.declared.parts.Parts.{Parts}
use Rattle.mv_linker.specs.Outcome.{IsLinked}
use Rattle.mv_variants.specs.declared.variant.Variant.{Variant}
use Rattle.mv_parts.specs.Parts.{ArePartsOf}

-- each global of a program has a word (C11 6.7.6.2: the size of an array is above 0)
abbrev pub HasWordsOfGlobals : Program → Type 0
HasWordsOfGlobals p = All (λ (x : Global). 1 ≤ words_of_size x.size) p.globals

-- An image that keeps the rules is linked of the code of bodies of a program's functions and of variants of its attributed ones, of the first words of its
-- globals, and of tables. The constants in the functions' own bodies are words.
pub record IsBuilt (p : Program) (image : Fields) : Type 0 where
  pub bodies : List Body
  pub tables : List (List Variant)
  pub parts : Parts
  pub are : ArePartsOf p bodies tables parts
  pub constants : All (λ (b : Body). HasWords b.code) bodies
  pub linked : IsLinked parts image
  pub rules : Rules image
