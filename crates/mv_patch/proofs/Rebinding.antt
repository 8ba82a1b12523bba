-- The bindings behind an order, one after the other.
use Rattle.std.proofs.Common.{◌≡◌, ℕ, suc, ◌+◌, ◌<◌, ◌≤◌, Bool, cond, ◌&&◌, List, [], ◌∷◌, ◌++◌, length, take, drop, set, get_or, slice_get, Some, refl, sym, ap, ap₂, ◌∙◌, arith, append_assoc, append-nil, drop-cons}
use Rattle.std.proofs.Math.Seq.{take-suc-set}
use Rattle.std.proofs.lemmas.List.{drop_all, take_all, get_or-drop, length-drop}
use Rattle.std.proofs.lemmas.Option.{slice_get_within, get_or_from_slice_get, slice_get-get_or}
use Rattle.mv_bindings.specs.declared.binding.Binding.{Binding}
use Rattle.mv_patch.specs.Orders.{ordered_rows, bound_rows}

-- a list from an item on
from_item : {X : Type 0} (xs : List X) (i : ℕ) (x : X) → slice_get xs i ≡ Some x → drop i xs ≡ x ∷ drop (i + 1) xs
from_item {X = X} xs i x e =
    let more : suc i ≡ i + 1 = omega arith in
    drop-cons xs i x (slice_get_within xs i x e) ∙ ap₂ (λ (y : X) (n : ℕ). y ∷ drop n xs) (get_or_from_slice_get xs i x x e) more

module _ {A : Type 0} (addressed : ℕ → A → Bool) (next : ℕ → A → Binding) (rows : List A) (old : List Binding) where
  -- with one more bound, behind so many others
  pub one_bound : (new : List Binding) (k i : ℕ) (row : A) (b v : Binding) → slice_get rows i ≡ Some row → slice_get old i ≡ Some b → k < length new → v ≡ cond (addressed i row) (next i row) b
      → take (k + 1) (set new k v) ++ ordered_rows addressed next (i + 1) (drop (i + 1) rows) (drop (i + 1) old) ≡ take k new ++ ordered_rows addressed next i (drop i rows) (drop i old)
  one_bound new k i row b v e f lt is =
      let more : i + 1 ≡ suc i = omega arith in
      let longer : k + 1 ≡ suc k = omega arith in
      let rest : List Binding = ordered_rows addressed next (suc i) (drop (i + 1) rows) (drop (i + 1) old) in
      ap₂ (λ (n m : ℕ). take n (set new k v) ++ ordered_rows addressed next m (drop (i + 1) rows) (drop (i + 1) old)) longer more
      ∙ ap (λ (l : List Binding). l ++ rest) (take-suc-set new k v lt)
      ∙ append_assoc (take k new) (v ∷ []) rest
      ∙ ap (λ (w : Binding). take k new ++ (w ∷ rest)) is
      ∙ sym (ap₂ (λ (rs : List A) (bs : List Binding). take k new ++ ordered_rows addressed next i rs bs) (from_item rows i row e) (from_item old i b f))

  pub rows_bound : (new : List Binding) (k n : ℕ) → length rows ≤ n → take k new ++ ordered_rows addressed next n (drop n rows) (drop n old) ≡ take k new
  rows_bound new k n few = ap (λ (rs : List A). take k new ++ ordered_rows addressed next n rs (drop n old)) (drop_all n rows few) ∙ append-nil (take k new)

  pub all_bound : (new : List Binding) (k n : ℕ) → length rows ≤ n → length new ≤ k → take k new ++ ordered_rows addressed next n (drop n rows) (drop n old) ≡ new
  all_bound new k n few short = rows_bound new k n few ∙ take_all k new short

pub ordered_count : {A : Type 0} (addressed : ℕ → A → Bool) (next : ℕ → A → Binding) (i : ℕ) (rows : List A) (old : List Binding) → length rows ≤ length old → length (ordered_rows addressed next i rows old) ≡ length rows
ordered_count addressed next i [] old e = refl
ordered_count addressed next i (row ∷ rows) [] e = absurd (omega (arith, e))
ordered_count addressed next i (row ∷ rows) (b ∷ old) e = ap suc (ordered_count addressed next (suc i) rows old (omega (arith, e)))

-- an item behind others
pub behind_others : (n i : ℕ) (bs : List Binding) (d : Binding) → n + i < length bs → slice_get (drop n bs) i ≡ Some (get_or bs (n + i) d)
behind_others n i bs d lt = slice_get-get_or (drop n bs) i d (let size = length-drop n bs in omega (arith, size, lt)) ∙ ap Some (get_or-drop n bs i d)

-- ---- how many are bound

pub one_counted : {A : Type 0} (addressed : ℕ → A → Bool) (rows : List A) (bs : List Binding) (i count n : ℕ) (row : A) (b : Binding) → slice_get rows i ≡ Some row → slice_get bs i ≡ Some b
    → n ≡ cond (addressed i row && b.bound) 1 0 → (count + n) + bound_rows addressed (i + 1) (drop (i + 1) rows) (drop (i + 1) bs) ≡ count + bound_rows addressed i (drop i rows) (drop i bs)
one_counted {A = A} addressed rows bs i count n row b e f is =
    let more : i + 1 ≡ suc i = omega arith in
    let here = ap₂ (λ (rs : List A) (xs : List Binding). bound_rows addressed i rs xs) (from_item rows i row e) (from_item bs i b f) in
    let next = ap (λ (k : ℕ). bound_rows addressed k (drop (i + 1) rows) (drop (i + 1) bs)) more in
    omega (arith, here, next, is)
