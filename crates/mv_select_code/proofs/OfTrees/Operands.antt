-- Where the operands of a tree stand.
use Rattle.std.proofs.Common.{◌≡◌, ◌⊎◌, inl, inr, ⊎_elim, ℕ, ◌+◌, ◌<◌, ◌≤◌, Bool, true, false, cond, eqb, Option, Some, None, unwrap_or, refl, sym, subst, arith}
use Rattle.mv_ir.specs.declared.tree.Tree.{Tree}
use Rattle.mv_ir.specs.declared.tree.Tree.TheOpen.{Tree-F}
use Rattle.mv_ir.specs.declared.tree.Tree.TheOpen as tree
use Rattle.mv_ir.specs.declared.tree.Tree.TheFolds.{map-Tree}
use Rattle.mv_ir.proofs.Induction.{TreeChildren, tree_ind}
use Rattle.mv_select_code.specs.Trees.TreeCode.{Seats, keeps_words, own_layer, own_register, operand_register}
use Rattle.mv_select_code.specs.Trees.View.{AreScratch, AreSeats}
use Rattle.mv_select_code.proofs.OfTrees.Registers.{frame_outside, pin_in_frame, temp_in_frame}
pub use Rattle.mv_select_code.proofs.OfTrees.Registers.{InFrame}
use Rattle.mv_select_code.proofs.OfTrees.Rolls.{own_roll}

abbrev AreInFrame : Option ℕ → Type 0
AreInFrame None = Unit {0}
AreInFrame (Some q) = InFrame q

module _ (seats : Seats) (are : AreSeats seats) where
  own_in_frame : (t : Tree) → AreInFrame (own_register seats t)
  own_in_frame = tree_ind (λ t. AreInFrame (own_register seats t)) (λ x h. subst AreInFrame (sym (own_roll seats x)) (layer x h))
    where
      of_number : (n : ℕ) (own : Option ℕ) → seats.pinned n ≡ own → AreInFrame own
      of_number n None e = tt
      of_number n (Some q) e = pin_in_frame seats are n q e

      by_test : (n : ℕ) (is_zero : Bool) → AreInFrame (cond is_zero (Some 0) (seats.pinned n))
      by_test n true = inl (omega arith)
      by_test n false = of_number n (seats.pinned n) refl

      by_kind : (keeps : Bool) (own : Option ℕ) → AreInFrame own → AreInFrame (cond keeps own None)
      by_kind true own h = h
      by_kind false own h = tt

      of_temp : (t : ℕ) (own : Option ℕ) → seats.register t ≡ own → AreInFrame own
      of_temp t None e = tt
      of_temp t (Some q) e = temp_in_frame seats are t q e

      layer : (x : Tree-F Tree) → TreeChildren (λ t. AreInFrame (own_register seats t)) x → AreInFrame (own_layer seats (map-Tree Tree (Option ℕ) (own_register seats) x))
      layer (tree.Number n) h = by_test n (eqb n 0)
      layer (tree.Temp t) h = of_temp t (seats.register t) refl
      layer (tree.Global g) h = tt
      layer (tree.Function f) h = tt
      layer (tree.Unary o a) h = tt
      layer (tree.Binary o a b) h = tt
      layer (tree.Narrow k a) h = by_kind (keeps_words k) (own_register seats a) h

  -- an operand stands where it was put, or in a register of the frame
  pub operand_stands : (t : Tree) (r : ℕ) → (operand_register seats t r ≡ r) ⊎ InFrame (operand_register seats t r)
  unfolding operand_register
  operand_stands t r = by_own (own_register seats t) (own_in_frame t)
    where
      by_own : (own : Option ℕ) → AreInFrame own → (unwrap_or own r ≡ r) ⊎ InFrame (unwrap_or own r)
      by_own None h = inl refl
      by_own (Some q) h = inr h

  pub operand_below : (t : Tree) (r : ℕ) → r < 32 → operand_register seats t r < 32
  operand_below t r h =
      let q = operand_register seats t r in
      ⊎_elim (λ (e : q ≡ r). omega arith) (λ (f : InFrame q). ⊎_elim (λ (l : q < 5). omega arith) (λ (g : (9 ≤ q) × (q < 28)). let below = g.1 in omega arith) f) (operand_stands t r)

  -- an operand at r isn't among the scratch registers behind it
  pub operand_outside : (t : Tree) (r hi : ℕ) → AreScratch (r + 1) hi → (operand_register seats t r < r + 1) ⊎ (hi ≤ operand_register seats t r)
  operand_outside t r hi s =
      let q = operand_register seats t r in
      ⊎_elim (λ (e : q ≡ r). inl (omega arith)) (λ (f : InFrame q). frame_outside (r + 1) hi q s f) (operand_stands t r)
