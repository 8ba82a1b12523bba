-- Lists of bindings: what an order leaves at each place, what events tell of those that differ, and tests on each.
use Rattle.std.proofs.Common.{◌≡◌, ◌⊎◌, inl, inr, ℕ, zero, suc, ◌+◌, ◌<◌, ◌≤◌, Bool, true, false, cond, if◌then◌else◌, nat_lt, List, [], ◌∷◌, ◌++◌, length, replicate, slice_get, Some, None, refl, ap, ◌∙◌, subst, arith}
use Rattle.std.specs.List.{All, position, position_or_len}
use Rattle.std.proofs.lemmas.Bool.{and_from}
use Rattle.std.proofs.lemmas.List.{take_at, drop_at}
use Rattle.std.proofs.lemmas.List.Elements.{All-take, All-drop, All-head}
use Rattle.mv_ast.specs.Bindings.{each_passes}
use Rattle.mv_bindings.specs.declared.binding.Binding.{Binding}
use Rattle.mv_bindings.specs.declared.binding.Event.{Event}
use Rattle.mv_bindings.specs.Bindings.{events_from, is_same_binding}
use Rattle.mv_ir_worlds.proofs.Combining.{binding_told}
use Rattle.mv_patch.specs.Orders.{ordered_rows}

module _ {A : Type 0} where
  -- a binding behind an order is one that the order made, of its row, or one that was before
  pub rows_bound : (addressed : ℕ → A → Bool) (next : ℕ → A → Binding) (i : ℕ) (rows : List A) (bs : List Binding) (n : ℕ) (b : Binding) →
      slice_get (ordered_rows addressed next i rows bs) n ≡ Some b → ((row : A) × (slice_get rows n ≡ Some row) × (b ≡ next (n + i) row)) ⊎ (slice_get bs n ≡ Some b)
  rows_bound addressed next i [] bs n b e = absurd (cc)
  rows_bound addressed next i (row ∷ rows) [] n b e = absurd (cc)
  rows_bound addressed next i (row ∷ rows) (c ∷ bs) zero b e = by_test (addressed i row) e
    where
      by_test : (z : Bool) → Some (if z then next i row else c) ≡ Some b → ((r : A) × (Some row ≡ Some r) × (b ≡ next (0 + i) r)) ⊎ (Some c ≡ Some b)
      by_test true h = inl (row, refl, (let s : b ≡ next i row = cc in s) ∙ ap (λ (k : ℕ). next k row) (let z : i ≡ 0 + i = omega arith in z))
      by_test false h = inr h
  rows_bound addressed next i (row ∷ rows) (c ∷ bs) (suc n) b e = by_case (rows_bound addressed next (suc i) rows bs n b e)
    where
      by_case : ((r : A) × (slice_get rows n ≡ Some r) × (b ≡ next (n + suc i) r)) ⊎ (slice_get bs n ≡ Some b)
          → ((r : A) × (slice_get rows n ≡ Some r) × (b ≡ next (suc n + i) r)) ⊎ (slice_get bs n ≡ Some b)
      by_case (inl x) = inl (x.0, x.1, x.2 ∙ ap (λ (k : ℕ). next k x.0) (let z : n + suc i ≡ suc n + i = omega arith in z))
      by_case (inr h) = inr h

  pub rows_count : (addressed : ℕ → A → Bool) (next : ℕ → A → Binding) (i : ℕ) (rows : List A) (bs : List Binding) →
      length rows ≤ length bs → length (ordered_rows addressed next i rows bs) ≡ length rows
  rows_count addressed next i [] bs e = refl
  rows_count addressed next i (row ∷ rows) [] e = absurd (omega (arith, e))
  rows_count addressed next i (row ∷ rows) (b ∷ bs) e = ap suc (rows_count addressed next (suc i) rows bs (omega (arith, e)))

  -- a test of each
  pub all_pass : (test : A → Binding → Bool) (xs : List A) (bs : List Binding) → length bs ≡ length xs →
      ((q : ℕ) (x : A) (b : Binding) → slice_get xs q ≡ Some x → slice_get bs q ≡ Some b → test x b ≡ true) → each_passes test xs bs ≡ true
  all_pass test [] [] n h = refl
  all_pass test [] (b ∷ bs) n h = absurd (omega (arith, n))
  all_pass test (x ∷ xs) [] n h = absurd (omega (arith, n))
  all_pass test (x ∷ xs) (b ∷ bs) n h =
      and_from (test x b) (each_passes test xs bs) (h 0 x b refl refl) (all_pass test xs bs (omega (arith, n)) (λ q y c there is. h (suc q) y c there is))

  -- what stands in two lists stands in the first, or behind it in the second
  pub in_either : (xs ys : List A) (n : ℕ) (y : A) → slice_get (xs ++ ys) n ≡ Some y → (slice_get xs n ≡ Some y) ⊎ ((q : ℕ) × (n ≡ length xs + q) × (slice_get ys q ≡ Some y))
  in_either [] ys n y e = inr (n, omega arith, e)
  in_either (x ∷ xs) ys zero y e = inl e
  in_either (x ∷ xs) ys (suc n) y e = by_case (in_either xs ys n y e)
    where
      by_case : (slice_get xs n ≡ Some y) ⊎ ((q : ℕ) × (n ≡ length xs + q) × (slice_get ys q ≡ Some y)) →
          (slice_get xs n ≡ Some y) ⊎ ((q : ℕ) × (suc n ≡ suc (length xs) + q) × (slice_get ys q ≡ Some y))
      by_case (inl h) = inl h
      by_case (inr h) = let e = h.1 in inr (h.0, omega (arith, e), h.2)

  pub all_before : (P : A → Type 0) (xs ys : List A) → All P (xs ++ ys) → All P xs
  all_before P xs ys all = subst (All P) (take_at xs ys (length xs) refl) (All-take P (length xs) (xs ++ ys) all)

  pub all_behind : (P : A → Type 0) (xs ys : List A) → All P (xs ++ ys) → All P ys
  all_behind P xs ys all = subst (All P) (drop_at xs ys (length xs) refl) (All-drop P (length xs) (xs ++ ys) all)

  pub position_within : (test : A → Bool) (xs : List A) (k : ℕ) → position test xs ≡ Some k → k < length xs
  position_within test xs k e = by_test (nat_lt at (length xs)) refl e
    where
      at : ℕ
      at = position_or_len test xs

      by_test : (z : Bool) → nat_lt at (length xs) ≡ z → cond z (Some at) None ≡ Some k → k < length xs
      by_test true q h = let same : at ≡ k = cc in grind (arith, q, same)
      by_test false q h = absurd (cc)

pub all_the_same : (count n : ℕ) (b c : Binding) → slice_get (replicate count b) n ≡ Some c → c ≡ b
all_the_same zero n b c e = absurd (cc)
all_the_same (suc count) zero b c e = cc
all_the_same (suc count) (suc n) b c e = all_the_same count n b c e

-- each of new bindings is an old one or in the events of those that differ
pub events_tell : (P : Event → Type 0) (i : ℕ) (old new : List Binding) → length new ≤ length old → All P (events_from i old new) →
    (n : ℕ) (b : Binding) → slice_get new n ≡ Some b → (slice_get old n ≡ Some b) ⊎ P (record { function = i + n; binding = b })
events_tell P i old [] few all n b e = absurd (cc)
events_tell P i [] (c ∷ new) few all n b e = absurd (omega (arith, few))
events_tell P i (a ∷ old) (c ∷ new) few all zero b e = by_test (is_same_binding a c) refl all
  where
    here : c ≡ b
    here = cc

    by_test : (z : Bool) → is_same_binding a c ≡ z → All P ((if z then [] else record { function = i; binding = c } ∷ []) ++ events_from (suc i) old new) →
        (Some a ≡ Some b) ⊎ P (record { function = i + 0; binding = b })
    by_test true q h = inl (ap Some (binding_told a c q ∙ here))
    by_test false q h =
        let first = All-head P (record { function = i; binding = c }) (events_from (suc i) old new) h in
        let place : i ≡ i + 0 = omega arith in
        inr (subst (λ (k : ℕ). P (record { function = k; binding = b })) place (subst (λ (x : Binding). P (record { function = i; binding = x })) here first))
events_tell P i (a ∷ old) (c ∷ new) few all (suc n) b e = by_case (events_tell P (suc i) old new (omega (arith, few)) later n b e)
  where
    later : All P (events_from (suc i) old new)
    later = all_behind P (if is_same_binding a c then [] else record { function = i; binding = c } ∷ []) (events_from (suc i) old new) all

    by_case : (slice_get old n ≡ Some b) ⊎ P (record { function = suc i + n; binding = b }) → (slice_get old n ≡ Some b) ⊎ P (record { function = i + suc n; binding = b })
    by_case (inl h) = inl h
    by_case (inr h) = inr (subst (λ (k : ℕ). P (record { function = k; binding = b })) (let z : suc i + n ≡ i + suc n = omega arith in z) h)
