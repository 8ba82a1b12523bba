-- Two lists that agree place by place.
use Rattle.std.specs.Prelude.{ℕ, List, slice_get, Option, Some, None}

-- both are there and agree, or neither is there
abbrev pub Both : {A B : Type 0} → (A → B → Type 0) → Option A → Option B → Type 0
Both R None None = Unit {0}
Both R None (Some y) = ⊥
Both R (Some x) None = ⊥
Both R (Some x) (Some y) = R x y

-- as many, of which those at each place agree
abbrev pub Pairs : {A B : Type 0} → (ℕ → A → B → Type 0) → List A → List B → Type 0
Pairs R xs ys = (n : ℕ) → Both (R n) (slice_get xs n) (slice_get ys n)
