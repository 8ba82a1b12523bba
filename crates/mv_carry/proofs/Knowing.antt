-- When temporaries hold what is known of them, and that the walk's steps keep this true.
use Rattle.std.proofs.Common.{arith, ◌≡◌, ℕ, zero, suc, ◌-◌, ◌<◌, ◌≤◌, Bool, true, false, not, cond, eqb, ltb, List, [], ◌∷◌, ◌++◌, length, drop, Option, Some, None, refl, sym, ◌∙◌, ap}
use Rattle.std.specs.Prelude.{slice_index, slice_set}
use Rattle.std.specs.List.{filter}
use Rattle.std.proofs.lemmas.List.{get_or-set_other}
use Rattle.std.proofs.lemmas.Grind.{get_or-set_at}
use Rattle.std.proofs.lemmas.Bool.{eqb-true, eqb-false, not-true, ltb-true}
use Rattle.mv_num.proofs.Booleans.{from_falsity}
use Rattle.mv_ir.proofs.Common.{each_weaker}
use Rattle.mv_ir.proofs.Induction.{Each, each_append}
use Rattle.mv_carry.specs.declared.facts.Fact.{Fact}
use Rattle.mv_carry.specs.declared.facts.Reach.{Reach}
use Rattle.mv_carry.specs.declared.facts.Reach.TheVariants.{Never, Knowing}
use Rattle.mv_carry.specs.Facts.{number_of, without, newest, behind_write, is_number, shared, known, with_facts, meet}

-- ---- facts

-- a temporary holds its number
abbrev pub Holds : List ℕ → Fact → Type 0
Holds xs f = slice_index xs f.temp ≡ f.number

abbrev pub Hold : List Fact → List ℕ → Type 0
Hold fs xs = Each (Holds xs) fs

pub each_filter : {A : Type 0} (P : A → Type 0) (p : A → Bool) (xs : List A) → Each P xs → Each P (filter p xs)
each_filter P p [] h = tt
each_filter P p (x ∷ xs) h = by (p x) (each_filter P p xs h.1)
  where
    by : (c : Bool) → Each P (filter p xs) → Each P (cond c (x ∷ filter p xs) (filter p xs))
    by true k = (h.0, k)
    by false k = k

pub each_passes : {A : Type 0} (p : A → Bool) (xs : List A) → Each (λ x. p x ≡ true) (filter p xs)
each_passes p [] = tt
each_passes p (x ∷ xs) = by (p x) refl (each_passes p xs)
  where
    by : (c : Bool) → p x ≡ c → Each (λ y. p y ≡ true) (filter p xs) → Each (λ y. p y ≡ true) (cond c (x ∷ filter p xs) (filter p xs))
    by true e h = (e, h)
    by false e h = h

pub each_drop : {A : Type 0} (P : A → Type 0) (n : ℕ) (xs : List A) → Each P xs → Each P (drop n xs)
each_drop P zero xs h = h
each_drop P (suc n) [] h = tt
each_drop P (suc n) (x ∷ xs) h = each_drop P n xs h.1

each_both : {A : Type 0} (P Q R : A → Type 0) → ((x : A) → P x → Q x → R x) → (xs : List A) → Each P xs → Each Q xs → Each R xs
each_both P Q R f [] h k = tt
each_both P Q R f (x ∷ xs) h k = (f x h.0 k.0, each_both P Q R f xs h.1 k.1)

-- a temporary that is known holds its number
pub held : (fs : List Fact) (xs : List ℕ) → Hold fs xs → (t n : ℕ) → number_of fs t ≡ Some n → slice_index xs t ≡ n
held [] xs h t n e = absurd cc
held (f ∷ fs) xs h t n e = by (eqb f.temp t) refl e (held fs xs h.1 t n)
  where
    by : (c : Bool) → eqb f.temp t ≡ c → cond c (Some f.number) (number_of fs t) ≡ Some n → (number_of fs t ≡ Some n → slice_index xs t ≡ n) → slice_index xs t ≡ n
    by true same e rest = let n_is : f.number ≡ n = cc in ap (slice_index xs) (sym (eqb-true f.temp t same)) ∙ h.0 ∙ n_is
    by false other e rest = rest e

-- of other temporaries than the one that is written
abbrev pub Others : ℕ → List Fact → Type 0
Others t fs = Each (λ f. eqb f.temp t ≡ false) fs

others_without : (t : ℕ) (fs : List Fact) → Others t (without t fs)
others_without t fs = each_weaker (λ (f : Fact). not (eqb f.temp t) ≡ true) (λ (f : Fact). eqb f.temp t ≡ false) (λ f h. not-true (eqb f.temp t) h) (without t fs) (each_passes (λ (f : Fact). not (eqb f.temp t)) fs)

pub hold_set : (t v : ℕ) (fs : List Fact) (xs : List ℕ) → Others t fs → Hold fs xs → Hold fs (slice_set xs t v)
hold_set t v fs xs = each_both (λ (f : Fact). eqb f.temp t ≡ false) (Holds xs) (Holds (slice_set xs t v)) (λ f o h. get_or-set_other xs t f.temp v 0 (eqb-false f.temp t o) ∙ h) fs

pub hold_without : (t v : ℕ) (fs : List Fact) (xs : List ℕ) → Hold fs xs → Hold (without t fs) (slice_set xs t v)
hold_without t v fs xs h = hold_set t v (without t fs) xs (others_without t fs) (each_filter (Holds xs) (λ (f : Fact). not (eqb f.temp t)) fs h)

pub hold_behind : (temps t v : ℕ) (c : Option ℕ) (fs : List Fact) (xs : List ℕ) → temps ≤ length xs → ((n : ℕ) → c ≡ Some n → v ≡ n) → Hold fs xs → Hold (behind_write temps t c fs) (slice_set xs t v)
hold_behind temps t v None fs xs long is h = hold_without t v fs xs h
hold_behind temps t v (Some n) fs xs long is h = by (ltb t temps) refl
  where
    by : (c : Bool) → ltb t temps ≡ c → Hold (cond c (without t (newest fs) ++ record { temp = t; number = n } ∷ []) (without t fs)) (slice_set xs t v)
    by true e =
        let lt : t < length xs = omega (arith, ltb-true t temps e, long) in
        each_append (Holds (slice_set xs t v)) (without t (newest fs)) (record { temp = t; number = n } ∷ []) (hold_without t v (newest fs) xs (each_drop (Holds xs) (length fs - 31) fs h)) (get_or-set_at xs t t v 0 refl lt ∙ is n refl, tt)
    by false e = hold_without t v fs xs h

is_number_is : (o : Option ℕ) (n : ℕ) → is_number o n ≡ true → o ≡ Some n
is_number_is None n e = from_falsity e
is_number_is (Some m) n e = ap Some (eqb-true m n e)

-- ---- places

-- control may be at a place with these temporaries
abbrev pub At : Reach → List ℕ → Type 0
At Never xs = ⊥
At (Knowing fs) xs = Hold fs xs

pub hold_known : (r : Reach) (xs : List ℕ) → At r xs → Hold (known r) xs
hold_known Never xs h = absurd h
hold_known (Knowing fs) xs h = h

pub meet_left : (a b : Reach) (xs : List ℕ) → At a xs → At (meet a b) xs
meet_left Never b xs h = absurd h
meet_left (Knowing fs) Never xs h = h
meet_left (Knowing fs) (Knowing gs) xs h = each_filter (Holds xs) (λ (f : Fact). is_number (number_of gs f.temp) f.number) fs h

pub meet_right : (a b : Reach) (xs : List ℕ) → At b xs → At (meet a b) xs
meet_right Never b xs h = h
meet_right (Knowing fs) Never xs h = absurd h
meet_right (Knowing fs) (Knowing gs) xs h =
    each_weaker (λ (f : Fact). is_number (number_of gs f.temp) f.number ≡ true) (Holds xs) (λ f e. held gs xs h f.temp f.number (is_number_is (number_of gs f.temp) f.number e)) (shared fs gs)
    (each_passes (λ (f : Fact). is_number (number_of gs f.temp) f.number) fs)

pub at_without : (t v : ℕ) (r : Reach) (xs : List ℕ) → At r xs → At (with_facts (without t) r) (slice_set xs t v)
at_without t v Never xs h = absurd h
at_without t v (Knowing fs) xs h = hold_without t v fs xs h

pub at_behind : (temps t v : ℕ) (c : Option ℕ) (r : Reach) (xs : List ℕ) → temps ≤ length xs → ((n : ℕ) → c ≡ Some n → v ≡ n) → At r xs → At (with_facts (behind_write temps t c) r) (slice_set xs t v)
at_behind temps t v c Never xs long is h = absurd h
at_behind temps t v c (Knowing fs) xs long is h = hold_behind temps t v c fs xs long is h
