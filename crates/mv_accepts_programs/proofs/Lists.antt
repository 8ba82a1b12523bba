-- What stands at the places of lists.
use Rattle.std.proofs.Common.{◌≡◌, ℕ, suc, ◌+◌, ◌<◌, refl, ap, subst, Bool, true, false, cond, List, [], ◌∷◌, length, map, get_or, Some, slice_get, arith}
use Rattle.std.specs.Prelude.{All}
use Rattle.std.specs.List.{AllByRecursion}
use Rattle.std.proofs.lemmas.Option.{slice_get_within, slice_get-get_or, get_or_from_slice_get}
use Rattle.mv_ast.specs.declared.program.Function.{Function}
use Rattle.mv_ast.specs.declared.program.Switch.{Switch}
use Rattle.mv_types.specs.Contents.{present}
use Rattle.mv_check_uses.specs.Uses.{numbers_from, switches_named}

module _ {A : Type 0} where
  pub all_at : (P : A → Type 0) (xs : List A) → All P xs → (i : ℕ) (x : A) → slice_get xs i ≡ Some x → P x
  all_at P xs h i x q = subst P (get_or_from_slice_get xs i x x q) (h i x (slice_get_within xs i x q))

  pub all_by : (P : A → Type 0) (xs : List A) → ((i : ℕ) (x : A) → slice_get xs i ≡ Some x → P x) → All P xs
  all_by P xs h = λ k d lt. h k (get_or xs k d) (slice_get-get_or xs k d lt)

  pub one_there : (xs : List A) (i : ℕ) → i < length xs → (x : A) × (slice_get xs i ≡ Some x)
  one_there [] i h = absurd (no i h)
    where
      no : (n : ℕ) → n < 0 → ⊥
      no n h = omega (arith, h)
  one_there (x ∷ xs) i h = (get_or (x ∷ xs) i x, slice_get-get_or (x ∷ xs) i x h)

pub present_is : (fs : List Function) → present (map (λ f. Some f) fs) ≡ fs
present_is [] = refl
present_is (f ∷ fs) = ap (λ gs. f ∷ gs) (present_is fs)

-- ---- the numbers of switches

numbers_below : (named : ℕ → Bool) (n : ℕ) (ss : List Switch) (end : ℕ) → n + length ss ≡ end → AllByRecursion (λ i. i < end) (numbers_from named n ss)
numbers_below named n [] end e = tt
numbers_below named n (s ∷ ss) end e = by (named s.global) (numbers_below named (suc n) ss end (next (length ss) e))
  where
    next : (l : ℕ) → n + suc l ≡ end → suc n + l ≡ end
    next l q = omega (arith, q)

    here : (l : ℕ) → n + suc l ≡ end → n < end
    here l q = omega (arith, q)

    by : (b : Bool) → AllByRecursion (λ i. i < end) (numbers_from named (suc n) ss) →
        AllByRecursion (λ i. i < end) (cond b (n ∷ numbers_from named (suc n) ss) (numbers_from named (suc n) ss))
    by true h = (here (length ss) e, h)
    by false h = h

none_more : (n : ℕ) → 0 + n ≡ n
none_more n = omega arith

pub named_below : (ss : List Switch) (f : Function) → AllByRecursion (λ i. i < length ss) (switches_named ss f.body)
unfolding switches_named
named_below ss f = numbers_below _ 0 ss (length ss) (none_more (length ss))
