-- Stores in elements.
use Rattle.std.proofs.Common.{◌≡◌, ℕ, List, [], ◌∷◌, ◌++◌, refl, sym, append_assoc}
use Rattle.mv_ir.specs.declared.stm.Array.{Array}
use Rattle.mv_ir.specs.declared.stm.Stm.{Stm}
use Rattle.mv_lower_spec.specs.Lowered.{Lowered}
use Rattle.mv_lower_spec.specs.Lower.{InLocal, InGlobal, Element}
use Rattle.mv_lower_expressions.specs.Values.{given, set_local_of, set_global_of}
use Rattle.mv_lower_expressions.specs.Places.{tested_index, stored, behind, set_of, set_element_of}
use Rattle.mv_lower_expressions.proofs.Combining.{same_lowered}

regrouped : (a b : List Stm) (s t u w : Stm) → ((a ++ s ∷ []) ++ t ∷ []) ++ ((b ++ u ∷ []) ++ w ∷ []) ≡ (a ++ s ∷ []) ++ ((t ∷ b) ++ (u ∷ w ∷ []))
regrouped a b s t u w = simp append_assoc

pub element_set : (a : Array) (i v : Lowered) (n : ℕ) → set_element_of a i v n ≡ behind (tested_index a i n) (stored a v n)
unfolding set_element_of
element_set a i v n = same_lowered (sym (regrouped i.code v.code _ _ _ _)) refl refl

pub ruleset elements = element_set

pub set_in_local : (l : ℕ) (v : Lowered) (n : ℕ) → set_of (InLocal l) v n ≡ set_local_of l v n
unfolding set_of set_local_of
set_in_local l v n = refl

pub set_in_global : (g : ℕ) (v : Lowered) (n : ℕ) → set_of (InGlobal g) v n ≡ set_global_of g v n
unfolding set_of set_global_of
set_in_global g v n = refl

pub set_in_element : (a : Array) (i v : Lowered) (n : ℕ) → set_of (Element a (given i)) v n ≡ set_element_of a i v n
unfolding set_of set_element_of
set_in_element a i v n = refl

pub ruleset sets = (set_in_local, set_in_global, set_in_element)
