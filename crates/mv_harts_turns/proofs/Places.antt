-- Lists that agree place by place, and changes of one place.
use Rattle.std.proofs.Common.{◌≡◌, ◌≢◌, ◌⊎◌, inl, inr, ℕ, zero, suc, ◌+◌, ◌≤◌, List, [], ◌∷◌, map, set, slice_get, Option, Some, None, option_map, refl, sym, ap, ◌∙◌, arith, subst}
use Rattle.std.specs.List.{sum_by}
use Rattle.std.proofs.lemmas.Bool.{cases_eq}
use Rattle.std.proofs.lemmas.Option.{slice_get-map}
use Rattle.std.proofs.lemmas.List.Sums.{sum_by-cons}
use Rattle.mv_num.proofs.Lists.{set_there}
use Rattle.mv_harts_turns.specs.Pairs.{Both, Pairs}
use Rattle.mv_harts_runs.proofs.Lists.{set_other}

-- ---- agreement

-- by way of a change on the left
pub both_after : {A B C D : Type 0} (Q : A → C → Type 0) (R : A → B → Type 0) (S : C → D → Type 0) (f : B → D) → ((x : A) (z : C) (y : B) → Q x z → R x y → S z (f y)) →
    (o : Option A) (o' : Option C) (p : Option B) → Both Q o o' → Both R o p → Both S o' (option_map f p)
both_after Q R S f h None None None q r = tt
both_after Q R S f h None None (Some y) q r = absurd r
both_after Q R S f h None (Some z) p q r = absurd q
both_after Q R S f h (Some x) None p q r = absurd q
both_after Q R S f h (Some x) (Some z) None q r = absurd r
both_after Q R S f h (Some x) (Some z) (Some y) q r = h x z y q r

pub both_weaker : {A B : Type 0} (R S : A → B → Type 0) → ((x : A) (y : B) → R x y → S x y) → (o : Option A) (p : Option B) → Both R o p → Both S o p
both_weaker R S h None None b = tt
both_weaker R S h None (Some y) b = absurd b
both_weaker R S h (Some x) None b = absurd b
both_weaker R S h (Some x) (Some y) b = h x y b

pub both_here : {A B : Type 0} (R : A → B → Type 0) (o : Option A) (p : Option B) (x : A) (y : B) → o ≡ Some x → p ≡ Some y → R x y → Both R o p
both_here R o p x y e d r = subst (λ q. Both R q p) (sym e) (subst (λ q. Both R (Some x) q) (sym d) r)

pub both_at : {A B : Type 0} (R : A → B → Type 0) (o : Option A) (p : Option B) (x : A) (y : B) → o ≡ Some x → p ≡ Some y → Both R o p → R x y
both_at R o p x y e d b = subst (λ q. Both R (Some x) q) d (subst (λ q. Both R q p) e b)

pub both_left : {A B : Type 0} (R : A → B → Type 0) (o : Option A) (p : Option B) (y : B) → p ≡ Some y → Both R o p → (x : A) × (o ≡ Some x) × R x y
both_left R None p y e b = absurd (subst (λ q. Both R None q) e b)
both_left R (Some x) p y e b = (x, refl, subst (λ q. Both R (Some x) q) e b)

pub both_right : {A B : Type 0} (R : A → B → Type 0) (o : Option A) (p : Option B) (x : A) → o ≡ Some x → Both R o p → (y : B) × (p ≡ Some y) × R x y
both_right R o None x e b = absurd (subst (λ q. Both R q None) e b)
both_right R o (Some y) x e b = (y, refl, subst (λ q. Both R q (Some y)) e b)

pub both_same : {A : Type 0} (R : A → A → Type 0) → ((x : A) → R x x) → (o : Option A) → Both R o o
both_same R h None = tt
both_same R h (Some x) = h x

pub both_moved : {A B : Type 0} (R : A → B → Type 0) (o o' : Option A) (p p' : Option B) → o' ≡ o → p' ≡ p → Both R o p → Both R o' p'
both_moved R o o' p p' e d b = subst (λ q. Both R q p') (sym e) (subst (λ q. Both R o q) (sym d) b)

pub both_then : {A B C : Type 0} (Q : A → B → Type 0) (R : B → C → Type 0) (S : A → C → Type 0) → ((x : A) (y : B) (z : C) → Q x y → R y z → S x z) →
    (o : Option A) (p : Option B) (q : Option C) → Both Q o p → Both R p q → Both S o q
both_then Q R S h None None None a b = tt
both_then Q R S h None None (Some z) a b = absurd b
both_then Q R S h None (Some y) q a b = absurd a
both_then Q R S h (Some x) None q a b = absurd a
both_then Q R S h (Some x) (Some y) None a b = absurd b
both_then Q R S h (Some x) (Some y) (Some z) a b = h x y z a b

-- a change at one place of each list
pub pairs_one : {A B : Type 0} (R : ℕ → A → B → Type 0) (xs : List A) (ys : List B) (n : ℕ) (x : A) (y : B) → slice_get xs n ≡ Some x → slice_get ys n ≡ Some y → R n x y →
    ((m : ℕ) → m ≢ n → Both (R m) (slice_get xs m) (slice_get ys m)) → Pairs R xs ys
pairs_one R xs ys n x y e d r rest m = by_eq (cases_eq m n)
  where
    by_eq : (m ≡ n) ⊎ (m ≢ n) → Both (R m) (slice_get xs m) (slice_get ys m)
    by_eq (inl q) = subst (λ k. Both (R k) (slice_get xs k) (slice_get ys k)) (sym q) (both_here (R n) (slice_get xs n) (slice_get ys n) x y e d r)
    by_eq (inr ne) = rest m ne

-- ---- sums

pub sum_same : {A : Type 0} (f : A → ℕ) (g : A → A) → ((x : A) → f (g x) ≡ f x) → (xs : List A) → sum_by f (map g xs) ≡ sum_by f xs
sum_same f g h [] = refl
sum_same f g h (x ∷ xs) = sum_by-cons f (g x) (map g xs) ∙ (let e : f (g x) + sum_by f (map g xs) ≡ f x + sum_by f xs = ap (λ k. k + sum_by f (map g xs)) (h x) ∙ ap (λ k. f x + k) (sum_same f g h xs) in e) ∙ sym (sum_by-cons f x xs)

pub sum_one : {A : Type 0} (f : A → ℕ) (xs : List A) (n k : ℕ) (x y : A) → slice_get xs n ≡ Some x → f y ≡ f x + k → sum_by f (set xs n y) ≡ sum_by f xs + k
sum_one f [] n k x y e d = absurd (cc)
sum_one f (z ∷ zs) zero k x y e d =
    let same : z ≡ x = cc in
    let fs : f z ≡ f x = ap f same in
    omega (arith, sum_by-cons f y zs, sum_by-cons f z zs, fs, d)
sum_one f (z ∷ zs) (suc n) k x y e d =
    let more = sum_one f zs n k x y e d in
    omega (arith, sum_by-cons f z (set zs n y), sum_by-cons f z zs, more)

pub sum_at : {A : Type 0} (f : A → ℕ) (xs : List A) (n : ℕ) (x : A) → slice_get xs n ≡ Some x → f x ≤ sum_by f xs
sum_at f [] n x e = absurd (cc)
sum_at f (z ∷ zs) zero x e = let same : f z ≡ f x = ap f (let q : z ≡ x = cc in q) in omega (arith, sum_by-cons f z zs, same)
sum_at f (z ∷ zs) (suc n) x e = let more = sum_at f zs n x e in omega (arith, sum_by-cons f z zs, more)

-- the list behind a map, and then a change of one place, at another place
pub map_set_other : {A : Type 0} (f : A → A) (xs : List A) (n m : ℕ) (y : A) → m ≢ n → slice_get (set (map f xs) n y) m ≡ option_map f (slice_get xs m)
map_set_other f xs n m y ne = set_other (map f xs) n m y ne ∙ slice_get-map f xs m

pub map_set_there : {A : Type 0} (f : A → A) (xs : List A) (n : ℕ) (x y : A) → slice_get xs n ≡ Some x → slice_get (set (map f xs) n y) n ≡ Some y
map_set_there f xs n x y e = set_there (map f xs) n (f x) y (slice_get-map f xs n ∙ ap (option_map f) e)
