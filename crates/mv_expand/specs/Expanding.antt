-- Code with short bodies in place of calls. Before the first of them in a list stands what is left of its call, the test of the depth; a later one behind it,
-- in the same turn of a loop, needs no other.
use Rattle.std.specs.Prelude.{ℕ, ◌≡◌, Bool, true, false, List, [], ◌∷◌, ◌++◌, slice_get, Option, Some, None}
use Rattle.mv_ir.specs.declared.tree.Tree.{Tree}
use Rattle.mv_ir.specs.declared.stm.Callee.TheVariants as callee
use Rattle.mv_ir.specs.declared.stm.Stm.{Stm}
use Rattle.mv_ir.specs.declared.body.Body.{Body}
use Rattle.mv_ir.specs.Rolled.{call, choose, repeat, enclosed}
use Rattle.mv_ir.specs.Shorts.{Shorts}
use Rattle.mv_expand.specs.Placed.{IsPlaced}

-- the test of the depth, if it wasn't made
abbrev pub test_unless : Bool → List Stm
test_unless true = []
test_unless false = call None callee.Expanded [] ∷ []

-- `tested` says whether the test was made before the code.
pub data Expands (shorts : Shorts) (base : ℕ) : (tested : Bool) → List Stm → List Stm → Type 0 where
  none : (tested : Bool) → Expands shorts base tested [] []
  same : (tested : Bool) (s : Stm) (rest rest' : List Stm) → Expands shorts base tested rest rest' → Expands shorts base tested (s ∷ rest) (s ∷ rest')
  branch : (tested : Bool) (t : Tree) (a b a' b' rest rest' : List Stm) → Expands shorts base tested a a' → Expands shorts base tested b b' → Expands shorts base tested rest rest' →
      Expands shorts base tested (choose t a b ∷ rest) (choose t a' b' ∷ rest')
  loop : (tested : Bool) (b b' rest rest' : List Stm) → Expands shorts base false b b' → Expands shorts base tested rest rest' →
      Expands shorts base tested (repeat b ∷ rest) (repeat b' ∷ rest')
  enclose : (tested : Bool) (b b' rest rest' : List Stm) → Expands shorts base tested b b' → Expands shorts base tested rest rest' →
      Expands shorts base tested (enclosed b ∷ rest) (enclosed b' ∷ rest')
  place : (tested : Bool) (r : Option ℕ) (f : ℕ) (args : List Tree) (b : Body) (placed rest rest' : List Stm) → slice_get shorts f ≡ Some (Some b) → IsPlaced base r args b placed →
      Expands shorts base true rest rest' →
      Expands shorts base tested (call r (callee.Direct f) args ∷ rest) (test_unless tested ++ (placed ++ rest'))
