-- Where the walks over code have come to.
use Rattle.std.specs.Prelude.{ℕ, ◌≡◌, ◌<◌, ◌≤◌, List, [], ◌∷◌, ◌++◌, length}
use Rattle.mv_ir.specs.declared.tree.Tree.{Tree}
use Rattle.mv_ir.specs.declared.stm.Stm.{Stm}
use Rattle.mv_ir.specs.declared.body.Body.{Body}
use Rattle.mv_ir.specs.Rolled.{number, set, choose, break, enclosed}
use Rattle.mv_arms.specs.Arms.{passed, Steered, AreArms, Arms, Nests}

-- ---- tests

-- a place put into a temporary, and then the blocks left
abbrev pub leaving : ℕ → ℕ → ℕ → List Stm
leaving t p k = set t (number p) ∷ break k ∷ []

-- a test, and what becomes of it
pub record IsTest (t : ℕ) (places : List ℕ) (s made : Stm) : Type 0 where
  pub test : Tree
  pub place : ℕ
  pub is : s ≡ choose test (leaving t place 0) []
  pub becomes : made ≡ choose test (leaving t place (passed places place)) []

-- some tests, and what becomes of them
abbrev pub Steers : (t : ℕ) → (places : List ℕ) → List Stm → List Stm → Type 0
Steers t places tests made = (rest rest' : List Stm) → Steered t places rest rest' → Steered t places (tests ++ rest) (made ++ rest')

-- code is a `switch`, and what its tests become
pub record IsPlan (temps : ℕ) (code made : List Stm) : Type 0 where
  pub temp : ℕ
  pub places : List ℕ
  pub tests : List Stm
  pub arms : List Stm
  pub is : code ≡ enclosed tests ∷ arms
  pub low : temp < temps
  pub some : 1 ≤ length arms
  pub are : AreArms temp places arms
  pub steered : Steered temp places tests made

-- ---- code

-- what some statements become
abbrev pub Becomes : (temps : ℕ) → (levels : List ℕ) → (code made : List Stm) → Type 0
Becomes temps levels code made = (rest rest' : List Stm) → Arms temps levels rest rest' → Arms temps levels (code ++ rest) (made ++ rest')

-- what some code becomes with the arms that stand in a list behind its first statement
abbrev pub NestsCode : (temps : ℕ) → (levels : List ℕ) → (inner code made : List Stm) → Type 0
NestsCode temps levels inner code made = (first : Stm) (arms : List Stm) → code ≡ first ∷ arms → Nests temps levels inner arms made

-- what some code becomes with the next arm, where so many follow
abbrev pub IsNextArm : (temps : ℕ) → (levels : List ℕ) → (behind : ℕ) → (arm : Stm) → (inner made : List Stm) → Type 0
IsNextArm temps levels behind arm inner made =
    (arms all : List Stm) → length arms ≡ behind → Nests temps levels made arms all → Nests temps levels inner (arm ∷ arms) all

-- the body with other code
abbrev pub with_code : Body → List Stm → Body
with_code b code = record b { code = code }
