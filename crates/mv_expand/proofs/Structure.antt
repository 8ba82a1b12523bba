-- A relation holds of code and the code with short bodies in place of calls where it is kept by each step of that.
use Rattle.std.proofs.Common.{◌≡◌, ℕ, Bool, true, false, List, [], ◌∷◌, ◌++◌, slice_get, Option, Some, subst, append_assoc}
use Rattle.mv_ir.specs.declared.tree.Tree.{Tree}
use Rattle.mv_ir.specs.declared.stm.Callee.TheVariants as callee
use Rattle.mv_ir.specs.declared.stm.Stm.{Stm}
use Rattle.mv_ir.specs.declared.body.Body.{Body}
use Rattle.mv_ir.specs.Rolled.{call, choose, repeat, enclosed}
use Rattle.mv_ir.specs.Shorts.{Shorts}
use Rattle.mv_expand.specs.Placed.{IsPlaced}
use Rattle.mv_expand.specs.Expanding.{test_unless, Expands, none, same, branch, loop, enclose, place}

-- A relation of code that is kept by doing nothing, by one thing after the other, by what is done to parts, and by a short body in place of a call.
pub record IsClosed (shorts : Shorts) (base : ℕ) (Q : List Stm → List Stm → Type 0) : Type 0 where
  pub itself : (xs : List Stm) → Q xs xs
  pub both : (xs xs' ys ys' : List Stm) → Q xs xs' → Q ys ys' → Q (xs ++ ys) (xs' ++ ys')
  pub branches : (t : Tree) (a a' b b' : List Stm) → Q a a' → Q b b' → Q (choose t a b ∷ []) (choose t a' b' ∷ [])
  pub loops : (b b' : List Stm) → Q b b' → Q (repeat b ∷ []) (repeat b' ∷ [])
  pub encloses : (b b' : List Stm) → Q b b' → Q (enclosed b ∷ []) (enclosed b' ∷ [])
  pub places : (tested : Bool) (r : Option ℕ) (f : ℕ) (args : List Tree) (b : Body) (placed : List Stm) → slice_get shorts f ≡ Some (Some b) → IsPlaced base r args b placed →
      Q (call r (callee.Direct f) args ∷ []) (test_unless tested ++ placed)

module _ (shorts : Shorts) (base : ℕ) (Q : List Stm → List Stm → Type 0) (q : IsClosed shorts base Q) where
  pub expanded_is : (tested : Bool) (code result : List Stm) → Expands shorts base tested code result → Q code result
  expanded_is tested code result (none p) = q.itself []
  expanded_is tested code result (same p s rest rest' h) = q.both (s ∷ []) (s ∷ []) rest rest' (q.itself (s ∷ [])) (expanded_is p rest rest' h)
  expanded_is tested code result (branch p t a b a' b' rest rest' h k l) =
      q.both (choose t a b ∷ []) (choose t a' b' ∷ []) rest rest' (q.branches t a a' b b' (expanded_is p a a' h) (expanded_is p b b' k)) (expanded_is p rest rest' l)
  expanded_is tested code result (loop p b b' rest rest' h k) =
      q.both (repeat b ∷ []) (repeat b' ∷ []) rest rest' (q.loops b b' (expanded_is false b b' h)) (expanded_is p rest rest' k)
  expanded_is tested code result (enclose p b b' rest rest' h k) =
      q.both (enclosed b ∷ []) (enclosed b' ∷ []) rest rest' (q.encloses b b' (expanded_is p b b' h)) (expanded_is p rest rest' k)
  expanded_is tested code result (place p r f args b placed rest rest' e k h) =
      subst (Q (call r (callee.Direct f) args ∷ rest)) (append_assoc (test_unless p) placed rest')
      (q.both (call r (callee.Direct f) args ∷ []) (test_unless p ++ placed) rest rest' (q.places p r f args b placed e k) (expanded_is true rest rest' h))
