-- Tests of all numbers of a list, and of lists of lists.
use Rattle.std.proofs.Common.{◌≡◌, ℕ, Bool, true, false, ◌&&◌, ◌||◌, refl, ◌∙◌, ap, List, [], ◌∷◌, ◌++◌, map, nat_eq}
use Rattle.std.specs.List.{concat}
use Rattle.std.proofs.lemmas.Bool.{and_from, eq-eqb}
use Rattle.std.proofs.Math.Bool.{or-true}
use Rattle.mv_num.specs.Lists.{is_among}
use Rattle.std.specs.List.{AllByRecursion}
use Rattle.mv_source_forms.specs.Lists.{all_of}

pub cons : (a b : Bool) (xs ys : List Bool) → a ≡ b → xs ≡ ys → (a ∷ xs) ≡ (b ∷ ys)
cons a b xs ys h k = ap (λ c. c ∷ xs) h ∙ ap (λ zs. b ∷ zs) k

pub joined : (xs ys zs ws : List Bool) → xs ≡ zs → ys ≡ ws → (xs ++ ys) ≡ (zs ++ ws)
joined xs ys zs ws h k = ap (λ vs. vs ++ ys) h ∙ ap (λ vs. zs ++ vs) k

pub each_all : {A : Type 0} (P : A → Type 0) → ((x : A) → P x) → (xs : List A) → AllByRecursion P xs
each_all P h [] = tt
each_all P h (x ∷ xs) = (h x, each_all P h xs)

module _ (own : ℕ → Bool) where
  abbrev pub all_own : List ℕ → Bool
  all_own ns = all_of (map own ns)

  pub own_both : (xs ys : List ℕ) → all_own (xs ++ ys) ≡ (all_own xs && all_own ys)
  own_both [] ys = refl
  own_both (x ∷ xs) ys = by (own x) (own_both xs ys)
    where
      by : (b : Bool) → all_own (xs ++ ys) ≡ (all_own xs && all_own ys) → (b && all_own (xs ++ ys)) ≡ ((b && all_own xs) && all_own ys)
      by true h = h
      by false h = refl

  pub own_concat : (xss : List (List ℕ)) → all_own (concat xss) ≡ all_of (map all_own xss)
  own_concat [] = refl
  own_concat (xs ∷ xss) = own_both xs (concat xss) ∙ ap (λ b. all_own xs && b) (own_concat xss)

  -- a test of each of some parts is one of the names of each
  pub same_tests : {A : Type 0} (test : A → Bool) (names : A → List ℕ) (xs : List A) → AllByRecursion (λ x. test x ≡ all_own (names x)) xs → map test xs ≡ map all_own (map names xs)
  same_tests test names [] h = refl
  same_tests test names (x ∷ xs) h = cons (test x) (all_own (names x)) (map test xs) (map all_own (map names xs)) h.0 (same_tests test names xs h.1)

  pub all_among : (xs : List ℕ) → ((n : ℕ) → is_among n xs ≡ true → own n ≡ true) → all_own xs ≡ true
  all_among [] h = refl
  all_among (x ∷ xs) h =
      and_from (own x) (all_own xs) (h x (ap (λ b. b || is_among x xs) (eq-eqb x x refl)))
      (all_among xs (λ n m. h n (ap (λ b. nat_eq n x || b) m ∙ or-true (nat_eq n x))))
