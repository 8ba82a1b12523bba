-- A name space: what a name means in it, and how declarations and blocks change it (C11 6.2.1).
use Rattle.std.specs.Prelude.{ℕ, List, [], ◌∷◌, ◌++◌, Option}
use Rattle.mv_check_scope.specs.declared.meaning.Meaning.{Meaning}
use Rattle.mv_check_scope.specs.Names.{Names, Space}
use Rattle.mv_check_scope.specs.Spaces.{named, or_else, meaning_in}

abbrev pub no_names : Space
no_names = record { here = []; around = [] }

-- what a name means, if it is declared
abbrev pub sought : Space → List ℕ → Option Meaning
sought space name = or_else (named name space.here) (meaning_in space.around name)

-- a name is declared in the innermost block
abbrev pub with_name : Space → List ℕ → Meaning → Space
with_name space name meaning = record space { here = space.here ++ (name, meaning) ∷ [] }

-- a block is entered, with no name of its own yet
abbrev pub entered : Space → Space
entered space = record { here = []; around = space.around ++ space.here ∷ [] }

-- the last of some blocks, and those before it
abbrev pub last_block : List Names → Names
last_block [] = []
last_block (block ∷ []) = block
last_block (block ∷ next ∷ blocks) = last_block (next ∷ blocks)

abbrev pub before_last : List Names → List Names
before_last [] = []
before_last (block ∷ []) = []
before_last (block ∷ next ∷ blocks) = block ∷ before_last (next ∷ blocks)

-- the block is left: its names mean no more what they meant in it
abbrev pub left : Space → Space
left space = record { here = last_block space.around; around = before_last space.around }
