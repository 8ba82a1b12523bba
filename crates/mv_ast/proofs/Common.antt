-- Lemmas on this crate's words that the crates above share.
use Rattle.std.proofs.Common.{◌≡◌, ℕ, zero, suc, ◌+◌, List, [], ◌∷◌, ◌++◌, length, drop, ap, ◌∙◌, slice_get, slice_index_or, refl, Bool, true, false, sym, subst, arith, nat_eq, Some, if◌then◌else◌}
use Rattle.mv_ast.specs.Numbering.{place_from}
use Rattle.std.proofs.lemmas.Bool.{eqb-true}
use Rattle.mv_ast.specs.Switches.{words_or_none}
use Rattle.mv_ast.specs.Orders.{ordered_from}
use Rattle.mv_bindings.specs.declared.binding.Binding.{Binding}

pub objects_at : (objects : List (List ℕ)) (k : ℕ) → words_or_none (slice_get objects k) ≡ slice_index_or objects k []
objects_at [] k = refl
objects_at (x ∷ objects) zero = refl
objects_at (x ∷ objects) (suc k) = objects_at objects k

-- which function has a number, by the first of the numbers
module _ (v : ℕ) where
  pub first_has : (i n : ℕ) (ns : List ℕ) → n ≡ v → place_from i (n ∷ ns) v ≡ Some i
  first_has i n ns e =
      let h : nat_eq n v ≡ true = grind arith in
      let P : Bool → Type 0 = λ b. (if b then Some i else place_from (suc i) ns v) ≡ Some i in
      subst P (sym h) refl

  pub first_has_not : (i n : ℕ) (ns : List ℕ) → (n ≡ v → ⊥) → place_from i (n ∷ ns) v ≡ place_from (suc i) ns v
  first_has_not i n ns ne =
      let h : nat_eq n v ≡ false = grind arith in
      let P : Bool → Type 0 = λ b. (if b then Some i else place_from (suc i) ns v) ≡ place_from (suc i) ns v in
      subst P (sym h) refl

-- a place that is found is the place of that number
pub place_at : (i : ℕ) (ns : List ℕ) (v k : ℕ) → place_from i ns v ≡ Some k → (j : ℕ) × (k ≡ i + j) × (slice_get ns j ≡ Some v)
place_at i [] v k e = absurd (cc)
place_at i (n ∷ ns) v k e = by (nat_eq n v) refl (place_at (suc i) ns v k) e
  where
    by : (b : Bool) → nat_eq n v ≡ b → (place_from (suc i) ns v ≡ Some k → (j : ℕ) × (k ≡ suc i + j) × (slice_get ns j ≡ Some v)) →
        (if b then Some i else place_from (suc i) ns v) ≡ Some k → (j : ℕ) × (k ≡ i + j) × (slice_get (n ∷ ns) j ≡ Some v)
    by true q later h = let here : i ≡ k = cc in (0, omega (arith, here), ap Some (eqb-true n v q))
    by false q later h = let found = later h in (suc found.0, (let e = found.1 in omega (arith, e)), found.2)

-- what an order leaves behind the bindings of functions
pub ordered_end : {A : Type 0} (addressed : ℕ → A → Bool) (next : A → Binding) (i : ℕ) (xs : List A) → ordered_from addressed next i xs [] ≡ []
ordered_end addressed next i [] = refl
ordered_end addressed next i (x ∷ xs) = refl

pub ordered_behind : {A B : Type 0} (addressed : ℕ → A → Bool) (next : A → Binding) (also : ℕ → B → Bool) (others : B → Binding) (i : ℕ) (xs : List A) (ys : List B) (bs : List Binding) →
    drop (length xs) (ordered_from addressed next i xs bs ++ ordered_from also others 0 ys (drop (length xs) bs)) ≡ ordered_from also others 0 ys (drop (length xs) bs)
ordered_behind addressed next also others i [] ys bs = refl
ordered_behind addressed next also others i (x ∷ xs) ys [] = ap (drop (suc (length xs))) (ordered_end also others 0 ys) ∙ sym (ordered_end also others 0 ys)
ordered_behind addressed next also others i (x ∷ xs) ys (b ∷ bs) = ordered_behind addressed next also others (suc i) xs ys bs

pub get_drop : {A : Type 0} (n j : ℕ) (xs : List A) → slice_get (drop n xs) j ≡ slice_get xs (n + j)
get_drop zero j xs = ap (slice_get xs) (omega arith)
get_drop (suc n) j [] = refl
get_drop (suc n) j (x ∷ xs) = get_drop n j xs ∙ let e : suc (n + j) ≡ suc n + j = omega arith in ap (slice_get (x ∷ xs)) e
