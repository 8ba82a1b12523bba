-- The names of a block: a plain list in order of declaration; those of a name space: the innermost block, and the blocks around it, of which
-- the innermost comes last.
use Rattle.std.specs.Prelude.{ℕ, List}
use Rattle.mv_check_scope.specs.declared.meaning.Meaning.{Meaning}

abbrev pub Names : Type 0
Names = List (List ℕ × Meaning)

pub record Space : Type 0 where
  pub here : Names
  pub around : List Names
