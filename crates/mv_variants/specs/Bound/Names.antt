-- The names and constants in code that comes of other code by binding, carrying numbers, tidying or folding.
use Rattle.std.specs.Prelude.{ℕ, ◌≡◌, ◌<◌, ◌^◌, List, [], Contains, Some}
use Rattle.mv_ast.specs.declared.program.Known.{Known}
use Rattle.mv_ir.specs.declared.stm.Stm.{Stm}
use Rattle.mv_ir.specs.Trees.{found}
use Rattle.mv_select_code.specs.Control.Labels.{functions}
use Rattle.mv_select.specs.Bodies.SelectedBodies.{HasWords, knowns}
use Rattle.mv_clone.specs.Bind.{bound_code}
use Rattle.mv_carry.specs.declared.facts.Reach.TheVariants.{Knowing}
use Rattle.mv_carry.specs.Carrying.{outermost, carried_code}
use Rattle.mv_fold.specs.Folded.{IsFoldedCode}
use Rattle.mv_tidy.specs.Tidied.{IsTidiedCode}

-- The second code names no functions and known functions that the first doesn't; and its constants are words, and its orders fit, where those of the first are and do.
pub record NamesNoMore (code result : List Stm) : Type 0 where
  pub functions : (f : ℕ) → Contains (functions result) f → Contains (functions code) f
  pub knowns : (k : Known) → Contains (knowns result) k → Contains (knowns code) k
  pub words : HasWords code → HasWords result

-- the switches are read as words
abbrev pub ReadAsWords : List (ℕ × ℕ) → Type 0
ReadAsWords ps = (g v : ℕ) → found ps g ≡ Some v → v < 2 ^ 32

abbrev pub BindingNamesNoMore : Type 0
BindingNamesNoMore = (ps : List (ℕ × ℕ)) → ReadAsWords ps → (code : List Stm) → NamesNoMore code (bound_code ps code)

abbrev pub CarryingNamesNoMore : Type 0
CarryingNamesNoMore = (temps : ℕ) (code : List Stm) → NamesNoMore code (carried_code temps outermost (Knowing []) code).code

abbrev pub TidyingNamesNoMore : Type 0
TidyingNamesNoMore = (temps : ℕ) (code tidied : List Stm) → IsTidiedCode temps code tidied → NamesNoMore code tidied

abbrev pub FoldingNamesNoMore : Type 0
FoldingNamesNoMore = (temps : ℕ) (code folded : List Stm) → IsFoldedCode temps code folded → NamesNoMore code folded
