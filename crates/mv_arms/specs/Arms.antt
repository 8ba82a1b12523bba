-- Code in which the arms of a `switch` are reached by one jump.
use Rattle.std.specs.Prelude.{ℕ, zero, suc, ◌+◌, ◌≡◌, ◌<◌, ◌≤◌, Bool, true, false, cond, ltb, List, [], ◌∷◌, ◌++◌, length}
use Rattle.mv_ir.specs.declared.tree.Tree.{Tree}
use Rattle.mv_ir.specs.declared.stm.Stm.{Stm, out-Stm}
use Rattle.mv_ir.specs.declared.stm.Stm.TheOpen.{Stm-F}
use Rattle.mv_ir.specs.declared.stm.Stm.TheOpen as stm
use Rattle.mv_ir.specs.declared.stm.Stm.TheViews.{roll-Stm}
use Rattle.mv_ir.specs.Operators as operators
use Rattle.mv_ir.specs.Rolled.{number, temp, binary, set, choose, break, repeat, enclosed}

-- ---- jumps

-- The number of a jump, where a list has, for each loop and block around it, how many blocks were added within that alone. The innermost comes first.
abbrev pub level : List ℕ → ℕ → ℕ
level [] n = n
level (added ∷ outer) zero = added
level (added ∷ outer) (suc n) = suc (level outer n + added)

abbrev pub back : ℕ → Stm
back n = roll-Stm (stm.Back n)

-- ---- tests

-- How many arms are skipped before the one that a place chooses, from the places of the arms: those that are before it, up to the first that isn't.
abbrev pub passed : List ℕ → ℕ → ℕ
passed [] p = 0
passed (i ∷ places) p = cond (ltb i p) (suc (passed places p)) 0

-- Tests that put a place into a temporary and leave their block. They leave as many blocks more as arms are skipped.
pub data Steered (t : ℕ) (places : List ℕ) : List Stm → List Stm → Type 0 where
  other : (p : ℕ) → Steered t places (set t (number p) ∷ []) (set t (number p) ∷ break (passed places p) ∷ [])
  test : (c : Tree) (p : ℕ) (rest rest' : List Stm) → Steered t places rest rest' →
      Steered t places (choose c (set t (number p) ∷ break 0 ∷ []) [] ∷ rest) (choose c (set t (number p) ∷ break (passed places p) ∷ []) [] ∷ rest')

-- ---- arms

-- whether the place in a temporary is behind an arm
abbrev pub skips : ℕ → ℕ → Tree
skips i t = binary operators.less_unsigned (number i) (temp t)

pub record EndsAtZero (t : ℕ) (code : List Stm) : Type 0 where
  pub front : List Stm
  pub is : code ≡ front ++ set t (number 0) ∷ []

-- the arm at a place
pub record IsArm (t i : ℕ) (s : Stm) : Type 0 where
  pub code : List Stm
  pub ends : EndsAtZero t code
  pub is : s ≡ choose (skips i t) [] code

abbrev pub AreArms : ℕ → List ℕ → List Stm → Type 0
AreArms t [] [] = Unit {0}
AreArms t [] (a ∷ arms) = ⊥
AreArms t (i ∷ places) [] = ⊥
AreArms t (i ∷ places) (a ∷ arms) = IsArm t i a × AreArms t places arms

-- ---- code

-- a statement without others in it that is no jump to a loop or block
abbrev pub layer_is_still : {A : Type 0} → Stm-F A → Bool
layer_is_still (stm.If t a b) = false
layer_is_still (stm.Loop b) = false
layer_is_still (stm.Block b) = false
layer_is_still (stm.Break n) = false
layer_is_still (stm.Back n) = false
layer_is_still _ = true

unfoldable pub is_still : Stm → Bool
is_still s = layer_is_still (out-Stm s)

mutual
  -- What becomes of code whose temporaries are below `temps`, under the levels around it. A block of tests and arms becomes blocks within blocks.
  pub data Arms (temps : ℕ) : List ℕ → List Stm → List Stm → Type 0 where
    none : (levels : List ℕ) → Arms temps levels [] []
    still : (levels : List ℕ) (s : Stm) (rest rest' : List Stm) → is_still s ≡ true → Arms temps levels rest rest' → Arms temps levels (s ∷ rest) (s ∷ rest')
    leave : (levels : List ℕ) (n : ℕ) (rest rest' : List Stm) → Arms temps levels rest rest' → Arms temps levels (break n ∷ rest) (break (level levels n) ∷ rest')
    again : (levels : List ℕ) (n : ℕ) (rest rest' : List Stm) → Arms temps levels rest rest' → Arms temps levels (back n ∷ rest) (back (level levels n) ∷ rest')
    branch : (levels : List ℕ) (c : Tree) (a b a' b' rest rest' : List Stm) → Arms temps levels a a' → Arms temps levels b b' → Arms temps levels rest rest' →
        Arms temps levels (choose c a b ∷ rest) (choose c a' b' ∷ rest')
    turns : (levels : List ℕ) (b b' rest rest' : List Stm) → Arms temps (0 ∷ levels) b b' → Arms temps levels rest rest' → Arms temps levels (repeat b ∷ rest) (repeat b' ∷ rest')
    block : (levels : List ℕ) (b b' rest rest' : List Stm) → Arms temps (0 ∷ levels) b b' → Arms temps levels rest rest' → Arms temps levels (enclosed b ∷ rest) (enclosed b' ∷ rest')
    switch : (levels : List ℕ) (t : ℕ) (places : List ℕ) (tests tests' arms made rest rest' : List Stm) → t < temps → 1 ≤ length arms → AreArms t places arms → Steered t places tests tests' →
        Nests temps levels tests' arms made → Arms temps levels rest rest' → Arms temps levels (enclosed (enclosed tests ∷ arms) ∷ rest) (enclosed made ∷ rest')

  -- What becomes of some code and the arms behind it: it stands in a block before the first arm, and so on. An arm stands in as many more as arms follow.
  pub data Nests (temps : ℕ) : List ℕ → List Stm → List Stm → List Stm → Type 0 where
    all : (levels : List ℕ) (inner : List Stm) → Nests temps levels inner [] inner
    arm : (levels : List ℕ) (inner : List Stm) (c : Tree) (a b b' arms made : List Stm) → Arms temps (length arms ∷ levels) b b' → Nests temps levels (enclosed inner ∷ b') arms made →
        Nests temps levels inner (choose c a b ∷ arms) made
