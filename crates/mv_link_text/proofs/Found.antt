-- What is found in a list, among numbers, and among the rows of lines.
use Rattle.std.proofs.Common.{◌≡◌, ℕ, zero, suc, ◌+◌, ◌<◌, ◌||◌, Bool, true, false, cond, eqb, List, [], ◌∷◌, length, get_or, slice_get, Option, Some, None, refl, sym, ap, ◌∙◌, subst, arith, eq-eqb}
use Rattle.std.specs.List.{find}
use Rattle.std.proofs.lemmas.Bool.{eqb-true}
use Rattle.mv_num.specs.Lists.{is_among}
use Rattle.mv_isa.specs.declared.labelled.Line.{Line}
use Rattle.mv_isa.specs.Code.{line_at}
use Rattle.mv_linker.proofs.Sited.{rows_from, with_row}

pub none_of : {X : Type 0} (o : Option X) → ((x : X) → o ≡ Some x → ⊥) → o ≡ None
none_of None never = refl
none_of (Some x) never = absurd (never x refl)

-- a row that is found is one of them, and passes
pub record IsFound {R : Type 0} (test : R → Bool) (rows : List R) (x : R) : Type 0 where
  pub number : ℕ
  pub within : number < length rows
  pub here : get_or rows number x ≡ x
  pub passes : test x ≡ true

first_or_later : {R : Type 0} (test : R → Bool) (r : R) (rows : List R) (x : R) → (find test rows ≡ Some x → IsFound test rows x) → (b : Bool) → test r ≡ b → cond b (Some r) (find test rows) ≡ Some x → IsFound test (r ∷ rows) x
first_or_later test r rows x later true t same = let is : r ≡ x = cc in record { number = 0; within = omega arith; here = is; passes = subst (λ y. test y ≡ true) is t }
first_or_later test r rows x later false t rest = let f = later rest in let within = f.within in record { number = suc f.number; within = omega (arith, within); here = f.here; passes = f.passes }

pub found_told : {R : Type 0} (test : R → Bool) (rows : List R) (x : R) → find test rows ≡ Some x → IsFound test rows x
found_told test [] x e = absurd (let bad : ⊥ = cc in bad)
found_told test (r ∷ rows) x e = first_or_later test r rows x (found_told test rows x) (test r) refl e

-- a number that is among others has a place among them
pub record HasPlace (n : ℕ) (ns : List ℕ) : Type 0 where
  pub place : ℕ
  pub there : slice_get ns place ≡ Some n

pub among_told : (n : ℕ) (ns : List ℕ) → is_among n ns ≡ true → HasPlace n ns
among_told n [] t = absurd (let bad : ⊥ = cc in bad)
among_told n (m ∷ ms) t = by (λ u. among_told n ms u) (eqb n m) refl
  where
    by : (is_among n ms ≡ true → HasPlace n ms) → (b : Bool) → eqb n m ≡ b → HasPlace n (m ∷ ms)
    by rest true e = record { place = 0; there = ap Some (sym (eqb-true n m e)) }
    by rest false e = let later = rest (ap (λ b. b || is_among n ms) (sym e) ∙ t) in record { place = suc later.place; there = later.there }

pub among_at : (n : ℕ) (ns : List ℕ) (j : ℕ) → slice_get ns j ≡ Some n → is_among n ns ≡ true
among_at n [] j e = absurd (let bad : ⊥ = cc in bad)
among_at n (m ∷ ms) zero e = let same : n ≡ m = cc in ap (λ b. b || is_among n ms) (eq-eqb n m same)
among_at n (m ∷ ms) (suc j) e = by (among_at n ms j e) (eqb n m) refl
  where
    by : is_among n ms ≡ true → (b : Bool) → eqb n m ≡ b → is_among n (m ∷ ms) ≡ true
    by rest true t = ap (λ b. b || is_among n ms) t
    by rest false t = ap (λ b. b || is_among n ms) t ∙ rest

-- a test that the row of some line passes finds a row
module _ (R : Type 0) (row : ℕ → ℕ → R) (value_of : Line → Option ℕ) (test : R → Bool) where
  found_first : (r : R) (rows : List R) → test r ≡ true → find test (r ∷ rows) ≡ None → ⊥
  found_first r rows t none = let bad : Some r ≡ None = ap (λ b. cond b (Some r) (find test rows)) (sym t) ∙ none in cc

  found_behind : (o : Option ℕ) (k : ℕ) (rows : List R) → (find test rows ≡ None → ⊥) → find test (with_row R (row k) o rows) ≡ None → ⊥
  found_behind None k rows rest none = rest none
  found_behind (Some v) k rows rest none = by (test (row k v)) refl
    where
      by : (b : Bool) → test (row k v) ≡ b → ⊥
      by true t = found_first (row k v) rows t none
      by false t = rest (ap (λ b. cond b (Some (row k v)) (find test rows)) (sym t) ∙ none)

  pub row_found : (ls : List Line) (k j v : ℕ) → j < length ls → value_of (line_at ls j) ≡ Some v → test (row (k + j) v) ≡ true → find test (rows_from R row value_of k ls) ≡ None → ⊥
  row_found [] k j v below line t none = omega (arith, below)
  row_found (x ∷ ls) k zero v below line t none =
      let here : k + 0 ≡ k = omega arith in
      let rows = rows_from R row value_of (suc k) ls in
      found_first (row k v) rows (subst (λ i. test (row i v) ≡ true) here t) (ap (λ o. find test (with_row R (row k) o rows)) (sym line) ∙ none)
  row_found (x ∷ ls) k (suc j) v below line t none =
      let same : k + suc j ≡ suc k + j = omega arith in
      found_behind (value_of x) k (rows_from R row value_of (suc k) ls) (row_found ls (suc k) j v (omega (arith, below)) line (subst (λ i. test (row i v) ≡ true) same t)) none
