-- Operators on two operands.
use Rattle.std.proofs.Common.{◌≡◌, ℕ, ◌+◌, Bool, true, false, cond, List, [], ◌∷◌, ◌++◌, max, Option, Some, None, refl, sym, ap, ◌∙◌, append_assoc}
use Rattle.std.specs.Prelude.{nat_lt, nat_eq}
use Rattle.mv_ast.specs.declared.program.CType.{CType}
use Rattle.mv_ir.specs.declared.tree.Tree.{Tree}
use Rattle.mv_ir.specs.declared.stm.Stm.{Stm}
use Rattle.mv_lower_spec.specs.Lowered.{Lowered, Lowering, binary, divide, lower_division}
use Rattle.mv_lower_spec.specs.Lower.{bit_tree, lower_operator, quotient_number, remainder_number}
use Rattle.mv_lower_expressions.specs.declared.operands.Operands.{Operands}
use Rattle.mv_lower_expressions.specs.Values.{given, first_of, second_of, AreOperands, binary_of, division_number, divided, operator_tree, combined}

pub same_lowered : {c d : List Stm} {t u : Tree} {m n : ℕ} → c ≡ d → t ≡ u → m ≡ n → (let a : Lowered = record { code = c; tree = t; top = m } in a) ≡ (let b : Lowered = record { code = d; tree = u; top = n } in b)
same_lowered e f h = cc

module _ (turned : Bool) (op : ℕ) (t : CType) (a b : Lowered) (n : ℕ) (o : Operands) (h : AreOperands turned o (first_of a b n) (second_of b n)) where
  abbrev of_tree : (Tree → Tree → Tree) → Lowered
  of_tree f = record { code = o.code; tree = f o.left o.right; top = o.top }

  left_right : (z : Bool) (f : Tree → Tree → Tree) (x y : Tree) → cond z (f y x) (f x y) ≡ f (cond z y x) (cond z x y)
  left_right true f x y = refl
  left_right false f x y = refl

  two : (f : Tree → Tree → Tree) → lower_operator turned f (given a) (given b) n ≡ of_tree f
  unfolding first_of second_of
  two f =
      same_lowered (sym h.code)
      (left_right turned f (first_of a b n).tree (second_of b n).tree ∙ ap (λ l. f l (cond turned (first_of a b n).tree (second_of b n).tree)) (sym h.left) ∙ ap (f o.left) (sym h.right))
      (sym h.top)

  quotient : (d : ℕ) → lower_division turned d (given a) (given b) n ≡ divided d o n
  unfolding first_of second_of
  quotient d =
      same_lowered (sym (append_assoc (first_of a b n).code (second_of b n).code
      (divide n d (cond turned (second_of b n).tree (first_of a b n).tree) (cond turned (first_of a b n).tree (second_of b n).tree) ∷ []))
      ∙ ap (λ c. c ++
      divide n d (cond turned (second_of b n).tree (first_of a b n).tree) (cond turned (first_of a b n).tree (second_of b n).tree) ∷ [])
      (sym h.code) ∙
      ap (λ l. o.code ++ divide n d l (cond turned (first_of a b n).tree (second_of b n).tree) ∷ []) (sym h.left) ∙
      ap (λ r. o.code ++ divide n d o.left r ∷ []) (sym h.right)) refl
      (ap (λ m. max (n + 1) m) (sym h.top))

  abbrev L : (Tree → Tree → Tree) → Lowering
  L f = lower_operator turned f (given a) (given b)

  abbrev D : ℕ → Lowering
  D d = lower_division turned d (given a) (given b)

  -- the lowering, its tree and the number of its division, by the tests of the operator
  abbrev lowering_by : Bool → Bool → Bool → Bool → Bool → Lowering
  lowering_by small p q r s =
      cond small (cond p (L (binary 0)) (cond q (L (binary 1)) (cond r (L (binary 2)) (cond s (D (quotient_number t)) (D (remainder_number t)))))) (L (bit_tree op t))

  abbrev tree_by : Bool → Bool → Bool → Tree → Tree → Tree
  tree_by small p q x y = cond small (cond p (binary 0 x y) (cond q (binary 1 x y) (binary 2 x y))) (bit_tree op t x y)

  abbrev number_by : Bool → Bool → Bool → Bool → Bool → Option ℕ
  number_by small p q r s = cond small (cond p None (cond q None (cond r None (cond s (Some (quotient_number t)) (Some (remainder_number t)))))) None

  combined_by : (small p q r s : Bool) → number_by small p q r s ≡ None → lowering_by small p q r s n ≡ of_tree (tree_by small p q)
  combined_by false p q r s e = two (bit_tree op t)
  combined_by true true q r s e = two (binary 0)
  combined_by true false true r s e = two (binary 1)
  combined_by true false false true s e = two (binary 2)
  combined_by true false false false true e = cc
  combined_by true false false false false e = cc

  divided_by : (small p q r s : Bool) (d : ℕ) → number_by small p q r s ≡ Some d → lowering_by small p q r s n ≡ divided d o n
  divided_by false p q r s d e = cc
  divided_by true true q r s d e = cc
  divided_by true false true r s d e = cc
  divided_by true false false true s d e = cc
  divided_by true false false false true d e = let same : quotient_number t ≡ d = cc in quotient (quotient_number t) ∙ ap (λ k. divided k o n) same
  divided_by true false false false false d e = let same : remainder_number t ≡ d = cc in quotient (remainder_number t) ∙ ap (λ k. divided k o n) same

  pub is_combined : division_number op t ≡ None → binary_of turned op t a b n ≡ combined op t o
  unfolding division_number binary_of operator_tree
  is_combined e = combined_by (nat_lt op 17) (nat_eq op 12) (nat_eq op 13) (nat_eq op 14) (nat_eq op 15) e

  pub is_divided : (d : ℕ) → division_number op t ≡ Some d → binary_of turned op t a b n ≡ divided d o n
  unfolding division_number binary_of
  is_divided d e = divided_by (nat_lt op 17) (nat_eq op 12) (nat_eq op 13) (nat_eq op 14) (nat_eq op 15) d e

pub ruleset operators = (is_combined, is_divided)
