-- What a body reads: no more than the function's lowered code, and a variant none of its switches.
use Rattle.std.proofs.Common.{◌≡◌, ℕ, Bool, true, false, cond, eqb, nat_eq, ◌||◌, List, [], ◌∷◌, Some, None, All, Contains, refl, sym, ap, ◌∙◌, subst}
use Rattle.std.specs.List.{zip}
use Rattle.std.proofs.lemmas.Bool.{eq-eqb, eqb-true}
use Rattle.std.proofs.lemmas.List.Elements.{All-nil, All-cons, All-head, All-tail, All-append, All-weaker, All-contains, All-contains_itself, Contains-append_left, Contains-append_right}
use Rattle.mv_num.specs.Lists.{is_among}
use Rattle.mv_ir.specs.declared.body.Body.{Body}
use Rattle.mv_ir.specs.Measures.{scalars_read, arrays_read}
use Rattle.mv_ir.specs.Shorts.{Shorts}
use Rattle.mv_ir.specs.Trees.{found}
use Rattle.mv_select.specs.Bodies.SelectedBodies.{globals_read}
use Rattle.mv_variants.proofs.OfBound.Meant.{reads_scalar, reads_array}
use Rattle.mv_variants.specs.Bound.Meant.{IsMadeUnder}

-- ---- elements of lists

-- what holds of each element holds of what is among them
pub among_all : (P : ℕ → Type 0) (xs : List ℕ) (x : ℕ) → All P xs → is_among x xs ≡ true → P x
among_all P [] x all e = absurd (cc e)
among_all P (k ∷ xs) x all e = by (among_all P xs x (All-tail P k xs all)) (nat_eq x k) refl e
  where
    by : (is_among x xs ≡ true → P x) → (b : Bool) → nat_eq x k ≡ b → (b || is_among x xs) ≡ true → P x
    by rest true q h = subst P (sym (eqb-true x k q)) (All-head P k xs all)
    by rest false q h = rest h

-- each element is among them
all_among : (xs : List ℕ) → All (λ x. is_among x xs ≡ true) xs
all_among [] = All-nil (λ x. is_among x [] ≡ true)
all_among (k ∷ xs) =
    All-cons (λ x. is_among x (k ∷ xs) ≡ true) k xs (ap (λ b. b || is_among k xs) (eq-eqb k k refl))
    (All-weaker (λ x. is_among x xs ≡ true) (λ x. is_among x (k ∷ xs) ≡ true) (λ x e. later (nat_eq x k) (is_among x xs) e) xs (all_among xs))
  where
    later : (b c : Bool) → c ≡ true → (b || c) ≡ true
    later true c h = refl
    later false c h = h

-- what is none of some globals has no value there
pub not_found : (globals values : List ℕ) (k : ℕ) → is_among k globals ≡ false → found (zip globals values) k ≡ None
not_found [] values k e = refl
not_found (s ∷ globals) [] k e = refl
not_found (s ∷ globals) (v ∷ values) k e = by (not_found globals values k) (nat_eq k s) (eqb s k) refl refl e
  where
    by : (is_among k globals ≡ false → found (zip globals values) k ≡ None) → (a b : Bool) → nat_eq k s ≡ a → eqb s k ≡ b → (a || is_among k globals) ≡ false → cond b (Some v) (found (zip globals values) k) ≡ None
    by rest true b p q h = absurd (cc h)
    by rest false true p q h = let one : false ≡ true = sym p ∙ eq-eqb k s (sym (eqb-true s k q)) in absurd (cc)
    by rest false false p q h = rest h

-- ---- what the passes leave

-- a body that reads no scalar and no array but those of another reads no other globals
module _ (body result : Body) (scalars : (k : ℕ) → Contains (scalars_read result.code) k → Contains (scalars_read body.code) k)
    (arrays : (k : ℕ) → Contains (arrays_read result.code) k → Contains (arrays_read body.code) k) where
  abbrev Among : ℕ → Type 0
  Among k = is_among k (globals_read body.code) ≡ true

  was_among : (k : ℕ) → Contains (globals_read body.code) k → Among k
  was_among k c = All-contains Among (globals_read body.code) k (all_among (globals_read body.code)) c

  scalars_among : All Among (scalars_read result.code)
  scalars_among =
      All-weaker (Contains (scalars_read result.code)) Among (λ k c. was_among k (Contains-append_left (scalars_read body.code) (arrays_read body.code) k (scalars k c)))
      (scalars_read result.code) (All-contains_itself (scalars_read result.code))

  arrays_among : All Among (arrays_read result.code)
  arrays_among =
      All-weaker (Contains (arrays_read result.code)) Among (λ k c. was_among k (Contains-append_right (scalars_read body.code) (arrays_read body.code) k (arrays k c)))
      (arrays_read result.code) (All-contains_itself (arrays_read result.code))

  pub reads_no_more : (x : ℕ) → is_among x (globals_read result.code) ≡ true → is_among x (globals_read body.code) ≡ true
  reads_no_more x e = among_all Among (globals_read result.code) x (All-append Among (scalars_read result.code) (arrays_read result.code) scalars_among arrays_among) e

pub made_reads_no_more : (shorts : Shorts) (ps : List (ℕ × ℕ)) (body result : Body) → IsMadeUnder shorts ps body result → (x : ℕ) → is_among x (globals_read result.code) ≡ true → is_among x (globals_read body.code) ≡ true
made_reads_no_more shorts ps body result m = reads_no_more body result (reads_scalar shorts ps body result m) (reads_array shorts ps body result m)
