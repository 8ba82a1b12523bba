-- The numbers that stand for functions in function pointers: 0 for null, and a number above 0 for each function, different for different functions.
use Rattle.std.specs.Prelude.{ℕ, suc, List, [], ◌∷◌, Option, Some, None, if◌then◌else◌, nat_eq}
use Rattle.mv_ast.specs.declared.program.Program.{Program}
use Rattle.mv_ast.specs.declared.program.Function.{Function}

-- as many numbers as there are functions, from one on
abbrev pub numbers_from : ℕ → List Function → List ℕ
numbers_from n [] = []
numbers_from n (f ∷ fs) = n ∷ numbers_from (suc n) fs

-- the numbering of the program itself: each function has one more than its index
abbrev pub own_numbers : Program → List ℕ
own_numbers p = numbers_from 1 p.functions

-- the place of a number in a list, counted on from another place
abbrev pub place_from : ℕ → List ℕ → ℕ → Option ℕ
place_from i [] v = None
place_from i (n ∷ ns) v = if nat_eq n v then Some i else place_from (suc i) ns v

-- the function that has a number, where one has it
abbrev pub function_of_number : List ℕ → ℕ → Option ℕ
function_of_number numbers v = place_from 0 numbers v
