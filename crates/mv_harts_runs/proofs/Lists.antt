-- Lists of harts, and what harts took.
use Rattle.std.proofs.Common.{◌≡◌, ◌≢◌, ◌⊎◌, inl, inr, ℕ, zero, suc, true, List, [], ◌∷◌, ◌++◌, map, set, length, slice_get, Option, Some, None, option_map, refl, sym, ap, ◌∙◌}
use Rattle.std.proofs.lemmas.Bool.{cases_eq, and_parts}
use Rattle.std.proofs.lemmas.Option.{slice_get-map}
use Rattle.mv_bindings.specs.declared.binding.Binding.{Binding}
use Rattle.mv_num.proofs.Lists.{set_there}
use Rattle.mv_image.specs.Spelling.{Fields}
use Rattle.mv_bindings.specs.Acts.{Act, Skip, Flip, Adopt}
use Rattle.mv_harts_runs.specs.Harts.{Hart, is_away, all_away, last_of, others_from}
use Rattle.mv_harts_runs.specs.Alone.{adopts_of}

pub set_other : {A : Type 0} (xs : List A) (n m : ℕ) (y : A) → m ≢ n → slice_get (set xs n y) m ≡ slice_get xs m
set_other [] n m y ne = refl
set_other (x ∷ xs) zero zero y ne = absurd (ne refl)
set_other (x ∷ xs) zero (suc m) y ne = refl
set_other (x ∷ xs) (suc n) zero y ne = refl
set_other (x ∷ xs) (suc n) (suc m) y ne = set_other xs n m y (λ e. ne (ap suc e))

-- an element behind a change of one is that one, or it was there
pub set_cases : {A : Type 0} (xs : List A) (n m : ℕ) (w x y : A) → slice_get xs n ≡ Some w → slice_get (set xs n y) m ≡ Some x → ((m ≡ n) × (x ≡ y)) ⊎ (slice_get xs m ≡ Some x)
set_cases xs n m w x y there e = by_eq (cases_eq m n)
  where
    by_eq : (m ≡ n) ⊎ (m ≢ n) → ((m ≡ n) × (x ≡ y)) ⊎ (slice_get xs m ≡ Some x)
    by_eq (inl q) = inl (q, (let s : Some x ≡ Some y = sym e ∙ ap (slice_get (set xs n y)) q ∙ set_there xs n w y there in cc))
    by_eq (inr ne) = inr (sym (set_other xs n m y ne) ∙ e)

some_map : {A B : Type 0} (f : A → B) (o : Option A) (y : B) → option_map f o ≡ Some y → (x : A) × (o ≡ Some x) × (y ≡ f x)
some_map f None y e = absurd (cc)
some_map f (Some x) y e = (x, refl, cc)

pub map_there : {A B : Type 0} (f : A → B) (xs : List A) (n : ℕ) (y : B) → slice_get (map f xs) n ≡ Some y → (x : A) × (slice_get xs n ≡ Some x) × (y ≡ f x)
map_there f xs n y e = some_map f (slice_get xs n) y (sym (slice_get-map f xs n) ∙ e)

pub others_length : (n : ℕ) (image : Fields) (input : ℕ → List (Option ℕ)) (count : ℕ) → length (others_from n image input count) ≡ count
others_length n image input zero = refl
others_length n image input (suc count) = ap suc (others_length (suc n) image input count)

pub away_at : (hs : List Hart) (n : ℕ) (o : Hart) → all_away hs ≡ true → slice_get hs n ≡ Some o → is_away o ≡ true
away_at [] n o h e = absurd (cc)
away_at (x ∷ hs) zero o h e = let s : x ≡ o = cc in ap is_away (sym s) ∙ (and_parts (is_away x) (all_away hs) h).0
away_at (x ∷ hs) (suc n) o h e = away_at hs n o (and_parts (is_away x) (all_away hs) h).1 e

pub adopts_append : (xs ys : List Act) → adopts_of (xs ++ ys) ≡ adopts_of xs ++ adopts_of ys
adopts_append [] ys = refl
adopts_append (Skip ∷ xs) ys = adopts_append xs ys
adopts_append (Flip s v ∷ xs) ys = adopts_append xs ys
adopts_append (Adopt bs ∷ xs) ys = ap (λ l. bs ∷ l) (adopts_append xs ys)

pub last_append : (xs : List (List Binding)) (bs : List Binding) → last_of (xs ++ bs ∷ []) ≡ bs
last_append [] bs = refl
last_append (x ∷ []) bs = refl
last_append (x ∷ y ∷ xs) bs = last_append (y ∷ xs) bs
