-- What an ordered map has at each text, where one has a new value.
use Rattle.std.proofs.Common.{◌≡◌, ℕ, ◌∙◌, refl, sym, subst, Bool, true, false, if◌then◌else◌, nat_eq, List, Some}
use Rattle.std.specs.Cmp.Lexicographic.{pointwise, slice_cmp, same_text}
use Rattle.std.specs.Cmp.{eq_by_cmp_equiv}
use Rattle.std.specs.Ordering.{is_eq, nat_cmp, eq_by_cmp}
use Rattle.std.specs.BTreeMap.{is_at}
use Rattle.std.specs.Map.{KeepsOthers, lookup}
use Rattle.std.specs.declared.vec.Vec.{Vec}
use Rattle.std.specs.declared.alloc.Global.{Global}
use Rattle.std.proofs.lemmas.Cmp.{nat_list_eq_equiv, nat_list_cmp_total}
use Rattle.std.proofs.lemmas.Map.Text.{is_eq-slice_cmp}
use Rattle.mv_check_scope.specs.Entries.{value_at}

-- texts that are apart, in either form
apart_in_order : (m n k : List ℕ) → pointwise nat_eq n m ≡ false → is_eq (slice_cmp nat_cmp m k) ≡ true → is_eq (slice_cmp nat_cmp n k) ≡ false
apart_in_order m n k apart same =
    is_eq-slice_cmp n k ∙
    (nat_list_eq_equiv.symm n k ∙ (sym (nat_list_eq_equiv.congr m k n (sym (is_eq-slice_cmp m k) ∙ same)) ∙ (nat_list_eq_equiv.symm m n ∙ apart)))

module _ {X : Type 0} (es fs : List (Vec ℕ Global × X)) (text : List ℕ) (v : X) where
  abbrev pub IsThere : Type 0
  IsThere = lookup (is_at (λ (k : Vec ℕ Global). slice_cmp nat_cmp text k.items)) fs ≡ Some v

  abbrev pub OthersStay : Type 0
  OthersStay = KeepsOthers (eq_by_cmp (λ (j k : Vec ℕ Global). slice_cmp nat_cmp j.items k.items)) (is_at (λ k. slice_cmp nat_cmp text k.items)) es fs

  pub written : IsThere → OthersStay → (other : List ℕ) → value_at other fs ≡ (if pointwise nat_eq other text then Some v else value_at other es)
  unfolding KeepsOthers
  written here others other = by (pointwise nat_eq other text) refl
    where
      by : (t : Bool) → pointwise nat_eq other text ≡ t → value_at other fs ≡ (if t then Some v else value_at other es)
      by true e = subst (λ l. value_at l fs ≡ Some v) (sym (same_text other text (sym e))) here
      by false e =
          others (λ k. is_eq (slice_cmp nat_cmp other k.items)) (λ j k. (eq_by_cmp_equiv nat_list_cmp_total).congr other j.items k.items)
          (λ k. apart_in_order text other k.items e)
