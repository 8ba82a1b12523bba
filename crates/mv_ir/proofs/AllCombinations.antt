-- The combinations of some domains are all of them, each once, and as many as the product of the domains' lengths.
use Rattle.std.proofs.Common.{arith, ◌≡◌, ℕ, zero, suc, ◌+◌, ◌*◌, ◌<◌, List, [], ◌∷◌, ◌++◌, length, map, refl, sym, ◌∙◌, ap, subst, ◌⊎◌, inl, inr, length-append}
use Rattle.std.specs.Prelude.{slice_index_or}
use Rattle.std.proofs.lemmas.List.{length-map}
use Rattle.mv_ir.specs.declared.body.Assignment.{Assignment}
use Rattle.mv_ast.specs.Counts.{product_of}
use Rattle.mv_ir.specs.Measures.{joined}
use Rattle.mv_ir.specs.Combinations.{combinations, values_of, In, Fresh, AllApart, IsCombination, AreAllCombinations, AreDomains}

-- ---- what stands in a list

-- one of a list's items
abbrev Among : {A : Type 0} → A → List A → Type 0
Among x [] = ⊥
Among x (y ∷ ys) = (y ≡ x) ⊎ Among x ys

module _ {A : Type 0} where
  among : (x : A) (xs : List A) → In x xs → Among x xs
  among x xs h = at xs h.0 h.1 h.2
    where
      at : (ys : List A) (i : ℕ) → i < length ys → ((d : A) → slice_index_or ys i d ≡ x) → Among x ys
      at [] i lt e = absurd (omega arith)
      at (y ∷ ys) zero lt e = inl (e x)
      at (y ∷ ys) (suc i) lt e = let below : suc i < suc (length ys) = lt in inr (at ys i (omega arith) e)

  in_behind : (x y : A) (ys : List A) → In x ys → In x (y ∷ ys)
  in_behind x y ys h = let lt : suc h.0 < suc (length ys) = omega (arith, h.1) in (suc h.0, lt, h.2)

  among_in : (x : A) (xs : List A) → Among x xs → In x xs
  among_in x [] h = absurd h
  among_in x (y ∷ ys) (inl e) = let lt : 0 < suc (length ys) = omega arith in (0, lt, λ d. e)
  among_in x (y ∷ ys) (inr h) = in_behind x y ys (among_in x ys h)

  among_left : (x : A) (xs ys : List A) → Among x xs → Among x (xs ++ ys)
  among_left x [] ys h = absurd h
  among_left x (z ∷ xs) ys (inl e) = inl e
  among_left x (z ∷ xs) ys (inr h) = inr (among_left x xs ys h)

  among_right : (x : A) (xs ys : List A) → Among x ys → Among x (xs ++ ys)
  among_right x [] ys h = h
  among_right x (z ∷ xs) ys h = inr (among_right x xs ys h)

  among_either : (x : A) (xs ys : List A) → Among x (xs ++ ys) → Among x xs ⊎ Among x ys
  among_either x [] ys h = inr h
  among_either x (z ∷ xs) ys (inl e) = inl (inl e)
  among_either x (z ∷ xs) ys (inr h) = elim (among_either x xs ys h) [ inl k ↦ inl (inr k) | inr k ↦ inr k ]

  fresh_from : (x : A) (xs : List A) → (Among x xs → ⊥) → Fresh x xs
  fresh_from x [] h = tt
  fresh_from x (y ∷ ys) h = ((λ e. h (inl (sym e))), fresh_from x ys (λ k. h (inr k)))

  not_among : (x : A) (xs : List A) → Fresh x xs → Among x xs → ⊥
  not_among x [] f h = h
  not_among x (y ∷ ys) f (inl e) = f.0 (sym e)
  not_among x (y ∷ ys) f (inr h) = not_among x ys f.1 h

  fresh_append : (x : A) (xs ys : List A) → Fresh x xs → Fresh x ys → Fresh x (xs ++ ys)
  fresh_append x [] ys f g = g
  fresh_append x (z ∷ xs) ys f g = (f.0, fresh_append x xs ys f.1 g)

  apart_append : (xs ys : List A) → AllApart xs → AllApart ys → ((x : A) → Among x xs → Among x ys → ⊥) → AllApart (xs ++ ys)
  apart_append [] ys a b h = b
  apart_append (x ∷ xs) ys a b h =
      (fresh_append x xs ys a.0 (fresh_from x ys (h x (inl refl))), apart_append xs ys a.1 b (λ y i j. h y (inr i) j))

-- ---- a value before each of some lists

heads : (v w : ℕ) (xs ys : List ℕ) → v ∷ xs ≡ w ∷ ys → v ≡ w
heads v w xs ys e = ap head e
  where
    head : List ℕ → ℕ
    head [] = v
    head (x ∷ l) = x

tails : (v w : ℕ) (xs ys : List ℕ) → v ∷ xs ≡ w ∷ ys → xs ≡ ys
tails v w xs ys e = ap tail e
  where
    tail : List ℕ → List ℕ
    tail [] = xs
    tail (x ∷ l) = l

abbrev before : ℕ → List (List ℕ) → List (List ℕ)
before v rests = map (λ rest. v ∷ rest) rests

among_before : (v : ℕ) (rest : List ℕ) (rests : List (List ℕ)) → Among rest rests → Among (v ∷ rest) (before v rests)
among_before v rest [] h = h
among_before v rest (r ∷ rests) (inl e) = inl (ap (λ l. v ∷ l) e)
among_before v rest (r ∷ rests) (inr h) = inr (among_before v rest rests h)

before_among : (v w : ℕ) (rest : List ℕ) (rests : List (List ℕ)) → Among (w ∷ rest) (before v rests) → (v ≡ w) × Among rest rests
before_among v w rest [] h = absurd h
before_among v w rest (r ∷ rests) (inl e) = (heads v w r rest e, inl (tails v w r rest e))
before_among v w rest (r ∷ rests) (inr h) = let k = before_among v w rest rests h in (k.0, inr k.1)

before_empty : (v : ℕ) (rests : List (List ℕ)) → Among [] (before v rests) → ⊥
before_empty v [] h = h
before_empty v (r ∷ rests) (inl e) = let n : suc (length r) ≡ 0 = ap length e in omega arith
before_empty v (r ∷ rests) (inr h) = before_empty v rests h

before_fresh : (v : ℕ) (x : List ℕ) (xs : List (List ℕ)) → Fresh x xs → Fresh (v ∷ x) (before v xs)
before_fresh v x [] f = tt
before_fresh v x (y ∷ ys) f = ((λ e. f.0 (tails v v x y e)), before_fresh v x ys f.1)

before_apart : (v : ℕ) (rests : List (List ℕ)) → AllApart rests → AllApart (before v rests)
before_apart v [] a = tt
before_apart v (r ∷ rests) a = (before_fresh v r rests a.0, before_apart v rests a.1)

-- ---- each value of a domain before them

module _ (rests : List (List ℕ)) where
  abbrev spread : List ℕ → List (List ℕ)
  spread d = joined (map (λ v. before v rests) d)

  among_spread : (d : List ℕ) (v : ℕ) (rest : List ℕ) → Among v d → Among rest rests → Among (v ∷ rest) (spread d)
  among_spread [] v rest h k = h
  among_spread (u ∷ d) v rest (inl e) k =
      among_left (v ∷ rest) (before u rests) (spread d) (subst (λ w. Among (v ∷ rest) (before w rests)) (sym e) (among_before v rest rests k))
  among_spread (u ∷ d) v rest (inr h) k = among_right (v ∷ rest) (before u rests) (spread d) (among_spread d v rest h k)

  spread_among : (d : List ℕ) (v : ℕ) (rest : List ℕ) → Among (v ∷ rest) (spread d) → Among v d × Among rest rests
  spread_among [] v rest h = absurd h
  spread_among (u ∷ d) v rest h = by (among_either (v ∷ rest) (before u rests) (spread d) h) (λ k. spread_among d v rest k)
    where
      by : Among (v ∷ rest) (before u rests) ⊎ Among (v ∷ rest) (spread d) → (Among (v ∷ rest) (spread d) → Among v d × Among rest rests) → Among v (u ∷ d) × Among rest rests
      by (inl k) f = let m = before_among u v rest rests k in (inl m.0, m.1)
      by (inr k) f = let m = f k in (inr m.0, m.1)

  spread_empty : (d : List ℕ) → Among [] (spread d) → ⊥
  spread_empty [] h = h
  spread_empty (u ∷ d) h = by (among_either [] (before u rests) (spread d) h) (spread_empty d)
    where
      by : Among [] (before u rests) ⊎ Among [] (spread d) → (Among [] (spread d) → ⊥) → ⊥
      by (inl k) f = before_empty u rests k
      by (inr k) f = f k

  spread_apart : (d : List ℕ) → AllApart d → AllApart rests → AllApart (spread d)
  spread_apart [] a r = tt
  spread_apart (u ∷ d) a r = apart_append (before u rests) (spread d) (before_apart u rests r) (spread_apart d a.1 r) elsewhere
    where
      elsewhere : (x : List ℕ) → Among x (before u rests) → Among x (spread d) → ⊥
      elsewhere [] h k = before_empty u rests h
      elsewhere (v ∷ rest) h k =
          not_among u d a.0 (subst (λ w. Among w d) (sym (before_among u v rest rests h).0) (spread_among d v rest k).0)

  length_before : (v : ℕ) (xs : List (List ℕ)) → length (before v xs) ≡ length xs
  length_before v [] = refl
  length_before v (x ∷ xs) = ap suc (length_before v xs)

  spread_length : (d : List ℕ) → length (spread d) ≡ length d * length rests
  spread_length [] = omega arith
  spread_length (u ∷ d) = length-append (before u rests) (spread d) ∙ ap (λ n. n + length (spread d)) (length_before u rests) ∙ ap (λ n. length rests + n) (spread_length d) ∙ more (length d) (length rests)
    where
      more : (m n : ℕ) → n + m * n ≡ suc m * n
      more m n = omega arith

-- ---- all combinations

is_among : (ds : List (List ℕ)) (vs : List ℕ) → IsCombination ds vs → Among vs (combinations ds)
is_among [] [] h = inl refl
is_among [] (v ∷ vs) h = absurd h
is_among (d ∷ ds) [] h = absurd h
is_among (d ∷ ds) (v ∷ vs) h = among_spread (combinations ds) d v vs (among v d h.0) (is_among ds vs h.1)

is_combination : (ds : List (List ℕ)) (vs : List ℕ) → Among vs (combinations ds) → IsCombination ds vs
is_combination [] [] h = tt
is_combination [] (v ∷ vs) (inl e) = let n : 0 ≡ suc (length vs) = ap length e in absurd (omega arith)
is_combination [] (v ∷ vs) (inr h) = absurd h
is_combination (d ∷ ds) [] h = absurd (spread_empty (combinations ds) d h)
is_combination (d ∷ ds) (v ∷ vs) h = let k = spread_among (combinations ds) d v vs h in (among_in v d k.0, is_combination ds vs k.1)

all_apart : (ds : List (List ℕ)) → AreDomains ds → AllApart (combinations ds)
all_apart [] h = (tt, tt)
all_apart (d ∷ ds) h = spread_apart (combinations ds) d h.0 (all_apart ds h.1)

pub all_combinations : (ds : List (List ℕ)) → AreDomains ds → AreAllCombinations ds (combinations ds)
all_combinations ds h = record {
  only = λ vs i. is_combination ds vs (among vs (combinations ds) i);
  every = λ vs c. among_in vs (combinations ds) (is_among ds vs c);
  once = all_apart ds h;
}

pub combinations_count : (ds : List (List ℕ)) → length (combinations ds) ≡ product_of (map (λ d. length d) ds)
combinations_count [] = refl
combinations_count (d ∷ ds) = spread_length (combinations ds) d ∙ ap (λ n. length d * n) (combinations_count ds)

-- ---- assignments with these values

module _ (ds : List (List ℕ)) where
  pub every_of : (all : List Assignment) → values_of all ≡ combinations ds → AreDomains ds → AreAllCombinations ds (values_of all)
  every_of all e h = subst (AreAllCombinations ds) (sym e) (all_combinations ds h)

  pub count_of : (all : List Assignment) → values_of all ≡ combinations ds → length all ≡ product_of (map (λ d. length d) ds)
  count_of all e = sym (length-map all (λ a. a.values)) ∙ ap length e ∙ combinations_count ds
