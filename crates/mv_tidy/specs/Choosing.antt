-- Two choices as one: where both sides of a choice end by setting a temporary, one of them to a number, and the next choice asks for nothing but that
-- temporary, the side that knows the number goes on at once, and the other asks for its own value.
use Rattle.std.specs.Prelude.{ℕ, ◌≡◌, ◌<◌, Bool, true, false, ◌||◌, cond, eqb, List, [], ◌∷◌, ◌++◌}
use Rattle.mv_ir.specs.declared.tree.Tree.{Tree}
use Rattle.mv_ir.specs.declared.stm.Stm.{Stm, out-Stm}
use Rattle.mv_ir.specs.declared.stm.Stm.TheOpen.{Stm-F}
use Rattle.mv_ir.specs.declared.stm.Stm.TheOpen as stm
use Rattle.mv_ir.specs.Operators as operator
pub use Rattle.mv_ir.specs.Measures.{is_empty as is_nothing}
use Rattle.mv_ir.specs.Live.{Around}
use Rattle.mv_ir.specs.Rolled.{number, temp, unary, binary, set, choose, repeat, enclosed}
use Rattle.mv_tidy.specs.Tidying.{lives, before, in_loop, in_block}

-- ---- sides

abbrev pub layer_jumps_only : {A : Type 0} → Stm-F A → Bool
layer_jumps_only (stm.Break n) = true
layer_jumps_only (stm.Back n) = true
layer_jumps_only _ = false

-- whether a side is one jump out of it
abbrev pub is_jump : List Stm → Bool
is_jump [] = false
is_jump (s ∷ []) = layer_jumps_only (out-Stm s)
is_jump (s ∷ t ∷ ss) = false

-- the side that a number takes
abbrev pub taken : ℕ → (x y : List Stm) → List Stm
taken n x y = cond (eqb n 0) y x

-- a choice whose sides stand in this order, or in the other
abbrev pub sides : Bool → Tree → List Stm → List Stm → Stm
sides turned c a b = cond turned (choose c b a) (choose c a b)

-- ---- some code, and then a choice

-- What does the same as some code and a choice behind it. Of a temporary that is no longer set `gone` holds.
pub data Attached (gone : ℕ → Type 0) : List Stm → Tree → (x y : List Stm) → List Stm → Type 0 where
  apart : (first : List Stm) (k : Tree) (x y : List Stm) → Attached gone first k x y (first ++ choose k x y ∷ [])
  -- a condition that asks for the same, or for the opposite
  denied : (first : List Stm) (k : Tree) (x y z : List Stm) → Attached gone first k y x z → Attached gone first (unary operator.logical_not k) x y z
  unequal : (first : List Stm) (k : Tree) (x y z : List Stm) → Attached gone first k x y z → Attached gone first (binary operator.not_equal k (number 0)) x y z
  equal : (first : List Stm) (k : Tree) (x y z : List Stm) → Attached gone first k y x z → Attached gone first (binary operator.equal k (number 0)) x y z
  -- the number takes a side that is short, which stands there, and the choice goes to the other
  pushed : (turned : Bool) (first a b : List Stm) (c e : Tree) (t n : ℕ) (x y z : List Stm) → gone t → (is_nothing (taken n x y) || is_jump (taken n x y)) ≡ true → Attached gone a e x y z →
      Attached gone (first ++ sides turned c (a ++ set t e ∷ []) (b ++ set t (number n) ∷ []) ∷ []) (temp t) x y (first ++ sides turned c z (b ++ taken n x y) ∷ [])
  -- the number takes the side that goes on, which stands behind both, and the value may take the jump
  jumped : (turned : Bool) (first a b : List Stm) (c e : Tree) (t n : ℕ) (x y z : List Stm) → gone t → is_jump (taken n y x) ≡ true → Attached gone a e (cond (eqb n 0) x []) (cond (eqb n 0) [] y) z →
      Attached gone (first ++ sides turned c (a ++ set t e ∷ []) (b ++ set t (number n) ∷ []) ∷ []) (temp t) x y (first ++ sides turned c z b ∷ taken n x y)

-- ---- code

-- a temporary of a body with so many that isn't live where either side begins, where this is around the choice
abbrev pub IsUnread : (temps : ℕ) → (ℕ → Around) → (x y : List Stm) → ℕ → Type 0
IsUnread temps r x y t = (t < temps) × ((lives r x t ≡ false) × (lives r y t ≡ false))

mutual
  -- what becomes of code whose temporaries are below `temps`
  pub data Chosen (temps : ℕ) : (ℕ → Around) → List Stm → List Stm → Type 0 where
    none : (r : ℕ → Around) → Chosen temps r [] []
    put : (r : ℕ → Around) (s y : Stm) (code rest : List Stm) → Chosen temps r code rest → ChosenIn temps (before r code) s y → Chosen temps r (s ∷ code) (y ∷ rest)
    merged : (r : ℕ → Around) (s : Stm) (c k : Tree) (a b x y z code rest : List Stm) → Chosen temps r code (choose k x y ∷ rest) → ChosenIn temps (before r code) s (choose c a b) →
        Attached (IsUnread temps (before r rest) x y) (choose c a b ∷ []) k x y z → Chosen temps r (s ∷ code) (z ++ rest)

  -- what becomes of a statement
  pub data ChosenIn (temps : ℕ) : (ℕ → Around) → Stm → Stm → Type 0 where
    same : (r : ℕ → Around) (s : Stm) → ChosenIn temps r s s
    choice : (r : ℕ → Around) (t : Tree) (a a' b b' : List Stm) → Chosen temps r a a' → Chosen temps r b b' → ChosenIn temps r (choose t a b) (choose t a' b')
    turns : (r : ℕ → Around) (b b' : List Stm) → Chosen temps (in_loop r b) b b' → ChosenIn temps r (repeat b) (repeat b')
    block : (r : ℕ → Around) (b b' : List Stm) → Chosen temps (in_block r) b b' → ChosenIn temps r (enclosed b) (enclosed b')
