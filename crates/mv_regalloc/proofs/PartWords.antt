-- Words by their places in parts: one step of the way to a word, and what a new part changes.
use Rattle.std.proofs.Common.{arith, ◌≡◌, ℕ, zero, suc, ◌-◌, ◌/◌, ◌%◌, ◌<◌, ◌≤◌, true, false, Bool, cond, eqb, List, [], ◌∷◌, ◌++◌, length, refl, sym, ap, ◌∙◌, ◌⊎◌, inl, inr, bit_or, ◌*◌, ◌+◌, subst}
use Rattle.std.proofs.lemmas.List.{get_or_append_left, get_or_past, length-append}
use Rattle.std.proofs.Math.Seq.{get_or-append_seam}
use Rattle.std.proofs.lemmas.Bool.{cases_eq, cases_lt, eq-eqb, ne_eqb}
use Rattle.std.specs.Prelude.{Result, Ok, Err, IfOk, OnErr}
use Rattle.std.proofs.lemmas.Result.{IfOk-weaker}
use Rattle.std.specs.List.{All}
use Rattle.std.specs.Int.Bits.{or_zero_l}
use Rattle.std.proofs.lemmas.List.Elements.{All-weaker}
use Rattle.mv_regalloc.specs.declared.joins.Join.{Join}
use Rattle.mv_regalloc.specs.declared.parts.Part.{Part}
use Rattle.mv_regalloc.specs.Parts.{IsJoin, no_part, part_at, further, word_within, word_of, AreParts, Keeps}

pub if_ok_by : {T E : Type 0} {P Q : T → Type 0} (r : Result T E) → ((x : T) → P x → Q x) → IfOk r P → IfOk r Q
if_ok_by {P} {Q} r h k = IfOk-weaker r P Q h k

pub on_err_of : {T E P : Type 0} (r : Result T E) → P → OnErr r P
on_err_of (Ok x) p = tt
on_err_of (Err e) p = p

-- ---- the way to a word

module _ (parts : List Part) where
  -- a longer way is as good
  within_any : (n m number place : ℕ) → place < n → place < m → word_within parts n number place ≡ word_within parts m number place
  within_any zero m number place l k = absurd (omega (arith, l))
  within_any (suc n) zero number place l k = absurd (omega (arith, k))
  within_any (suc n) (suc m) number zero l k = refl
  within_any (suc n) (suc m) number (suc p) l k = within_any n m (further (part_at parts number) (suc p)) (p / 2) (omega (arith, l)) (omega (arith, k))

  pub word_here : (number : ℕ) → word_of parts number 0 ≡ (part_at parts number).word
  unfolding word_of
  word_here number = refl

  pub word_further : (number place : ℕ) → 0 < place → word_of parts number place ≡ word_of parts (further (part_at parts number) place) ((place - 1) / 2)
  unfolding word_of
  word_further number zero l = absurd (omega (arith, l))
  word_further number (suc p) l =
      within_any (suc p) (suc (p / 2)) (further (part_at parts number) (suc p)) (p / 2) (omega arith) (omega arith) ∙
      ap (λ q. word_of parts (further (part_at parts number) (suc p)) q) (let e : p / 2 ≡ (suc p - 1) / 2 = omega arith in e)

  none_within : (are : AreParts parts) (n place : ℕ) → word_within parts n 0 place ≡ 0
  none_within are zero place = refl
  none_within are (suc n) zero = ap (λ q. q.word) are.first
  none_within are (suc n) (suc p) = ap (λ q. word_within parts n (further q (suc p)) (p / 2)) are.first ∙ by (none_within are n (p / 2)) (eqb (suc p % 2) 1)
    where
      by : word_within parts n 0 (p / 2) ≡ 0 → (s : Bool) → word_within parts n (cond s no_part.odd no_part.even) (p / 2) ≡ 0
      by h true = h
      by h false = h

  pub none_words : AreParts parts → (place : ℕ) → word_of parts 0 place ≡ 0
  unfolding word_of
  none_words are place = none_within are (suc place) place

-- ---- more parts

past_part : (parts : List Part) (number : ℕ) → length parts ≤ number → part_at parts number ≡ no_part
past_part parts number l = get_or_past parts number no_part l

further_within : (part : Part) (n place : ℕ) → part.odd < n → part.even < n → further part place < n
further_within part n place o v = by (eqb (place % 2) 1)
  where
    by : (c : Bool) → cond c part.odd part.even < n
    by true = o
    by false = v

module _ (parts : List Part) (are : AreParts parts) where
  pub odd_within : (number : ℕ) → (part_at parts number).odd < length parts
  odd_within number = by (cases_eq number 0) (cases_lt number (length parts))
    where
      by : (number ≡ 0) ⊎ (number ≡ 0 → ⊥) → (number < length parts) ⊎ (length parts ≤ number) → (part_at parts number).odd < length parts
      by (inl e) _ = let a : (part_at parts number).odd ≡ 0 = ap (λ n. (part_at parts n).odd) e ∙ ap (λ q. q.odd) are.first in let b = are.some in omega (arith, a, b)
      by (inr n) (inl l) = let a = are.odd number (omega (arith, n)) in omega (arith, a, l)
      by (inr n) (inr l) = let a = ap (λ q. q.odd) (past_part parts number l) in let b = are.some in omega (arith, a, b)

  pub even_within : (number : ℕ) → (part_at parts number).even < length parts
  even_within number = by (cases_eq number 0) (cases_lt number (length parts))
    where
      by : (number ≡ 0) ⊎ (number ≡ 0 → ⊥) → (number < length parts) ⊎ (length parts ≤ number) → (part_at parts number).even < length parts
      by (inl e) _ = let a : (part_at parts number).even ≡ 0 = ap (λ n. (part_at parts n).even) e ∙ ap (λ q. q.even) are.first in let b = are.some in omega (arith, a, b)
      by (inr n) (inl l) = let a = are.even number (omega (arith, n)) in omega (arith, a, l)
      by (inr n) (inr l) = let a = ap (λ q. q.even) (past_part parts number l) in let b = are.some in omega (arith, a, b)

  module _ (part : Part) where
    push_within : (n number place : ℕ) → number < length parts → word_within (parts ++ part ∷ []) n number place ≡ word_within parts n number place
    push_within zero number place l = refl
    push_within (suc n) number zero l = ap (λ q. q.word) (get_or_append_left parts (part ∷ []) no_part number l)
    push_within (suc n) number (suc p) l =
        ap (λ q. word_within (parts ++ part ∷ []) n (further q (suc p)) (p / 2)) (get_or_append_left parts (part ∷ []) no_part number l) ∙
        push_within n (further (part_at parts number) (suc p)) (p / 2) (further_within (part_at parts number) (length parts) (suc p) (odd_within number) (even_within number))

    pub push_keeps : Keeps parts (parts ++ part ∷ [])
    unfolding word_of
    push_keeps = record { long = (let a = length-append parts (part ∷ []) in omega (arith, a)); words = λ number place l. push_within (suc place) number place l }

    pub push_part : part_at (parts ++ part ∷ []) (length parts) ≡ part
    push_part = get_or-append_seam parts part [] no_part

    pub push_are : part.odd < length parts → part.even < length parts → AreParts (parts ++ part ∷ [])
    push_are o v = record {
      some = (let a = length-append parts (part ∷ []) in omega (arith, a));
      first = get_or_append_left parts (part ∷ []) no_part 0 are.some ∙ are.first;
      odd = λ number l. by (λ q. q.odd) refl are.odd o number l (cases_lt number (length parts)) (cases_eq number (length parts));
      even = λ number l. by (λ q. q.even) refl are.even v number l (cases_lt number (length parts)) (cases_eq number (length parts));
    }
      where
        by : (side : Part → ℕ) → side no_part ≡ 0 → ((number : ℕ) → 0 < number → side (part_at parts number) < number) → side part < length parts →
            (number : ℕ) → 0 < number → (number < length parts) ⊎ (length parts ≤ number) → (number ≡ length parts) ⊎ (number ≡ length parts → ⊥) → side (part_at (parts ++ part ∷ []) number) < number
        by side none before here number some (inl l) _ = let a = before number some in let b = ap side (get_or_append_left parts (part ∷ []) no_part number l) in omega (arith, a, b)
        by side none before here number some (inr l) (inl e) = let b = ap (λ n. side (part_at (parts ++ part ∷ []) n)) e ∙ ap side push_part in omega (arith, b, e, here)
        by side none before here number some (inr l) (inr n) =
            let a = length-append parts (part ∷ []) in
            let b = ap side (past_part (parts ++ part ∷ []) number (omega (arith, a, l, n))) ∙ none in omega (arith, b, some)

pub keeps_two : (a b d : List Part) → Keeps a b → Keeps b d → Keeps a d
keeps_two a b d h k = record { long = (let l = h.long in let m = k.long in omega (arith, l, m)); words = λ number place l. k.words number place (let m = h.long in omega (arith, l, m)) ∙ h.words number place l }

-- ---- another word at a place

-- the word that is there
pub word_there : (parts : List Part) (number place w : ℕ) → w ≡ word_of parts number place → (p : ℕ) → word_of parts number p ≡ cond (eqb p place) w (word_of parts number p)
word_there parts number place w e p = by (cases_eq p place)
  where
    by : (p ≡ place) ⊎ (p ≡ place → ⊥) → word_of parts number p ≡ cond (eqb p place) w (word_of parts number p)
    by (inl k) = ap (word_of parts number) k ∙ sym e ∙ ap (λ c. cond c w (word_of parts number p)) (sym (eq-eqb p place k))
    by (inr n) = ap (λ c. cond c w (word_of parts number p)) (sym (ne_eqb p place n))

module _ (a b : List Part) (keeps : Keeps a b) (root made w : ℕ) (o : (part_at a root).odd < length a) (v : (part_at a root).even < length a) where
  pub put_here : part_at b made ≡ record { word = w; odd = (part_at a root).odd; even = (part_at a root).even } → (p : ℕ) → word_of b made p ≡ cond (eqb p 0) w (word_of a root p)
  put_here e zero = word_here b made ∙ ap (λ q. q.word) e
  put_here e (suc p) =
      word_further b made (suc p) (omega arith) ∙ ap (λ q. word_of b (further q (suc p)) ((suc p - 1) / 2)) e ∙
      keeps.words (further (part_at a root) (suc p)) ((suc p - 1) / 2) (further_within (part_at a root) (length a) (suc p) o v) ∙ sym (word_further a root (suc p) (omega arith)) ∙
      ap (λ c. cond c w (word_of a root (suc p))) (sym (ne_eqb (suc p) 0 (λ k. omega (arith, k))))

  pub put_further : (d : List Part) → Keeps b d → (place f : ℕ) → 0 < place → f < length b →
      ((p : ℕ) → word_of b f p ≡ cond (eqb p ((place - 1) / 2)) w (word_of a (further (part_at a root) place) p)) →
      part_at d made ≡ cond (eqb (place % 2) 1) (record (part_at a root) { odd = f }) (record (part_at a root) { even = f }) →
      (p : ℕ) → word_of d made p ≡ cond (eqb p place) w (word_of a root p)
  put_further d more place f some low h e zero =
      word_here d made ∙ ap (λ q. q.word) e ∙ same (eqb (place % 2) 1) ∙ sym (word_here a root) ∙ ap (λ c. cond c w (word_of a root 0)) (sym (ne_eqb 0 place (λ k. omega (arith, k, some))))
    where
      same : (c : Bool) → (cond c (record (part_at a root) { odd = f }) (record (part_at a root) { even = f })).word ≡ (part_at a root).word
      same true = refl
      same false = refl
  put_further d more place f some low h e (suc n) = word_further d made p (omega arith) ∙ ap (λ q. word_of d (further q p) r) e ∙ by (cases_eq (p % 2) (place % 2))
    where
      p : ℕ
      p = suc n

      r : ℕ
      r = (p - 1) / 2

      old : Part
      old = part_at a root

      new : Bool → Part
      new c = cond c (record old { odd = f }) (record old { even = f })

      here : (c : Bool) → cond c (new c).odd (new c).even ≡ f
      here true = refl
      here false = refl

      there : (p % 2 ≡ place % 2 → ⊥) → further (new (eqb (place % 2) 1)) p ≡ further old p
      there n = over (cases_eq (place % 2) 1) (cases_eq (p % 2) 1)
        where
          over : (place % 2 ≡ 1) ⊎ (place % 2 ≡ 1 → ⊥) → (p % 2 ≡ 1) ⊎ (p % 2 ≡ 1 → ⊥) → further (new (eqb (place % 2) 1)) p ≡ further old p
          over (inl k) (inl m) = absurd (n (m ∙ sym k))
          over (inl k) (inr m) =
              ap (λ c. further (new c) p) (eq-eqb (place % 2) 1 k) ∙ ap (λ c. cond c f old.even) (ne_eqb (p % 2) 1 m) ∙ ap (λ c. cond c old.odd old.even) (sym (ne_eqb (p % 2) 1 m))
          over (inr k) (inl m) =
              ap (λ c. further (new c) p) (ne_eqb (place % 2) 1 k) ∙ ap (λ c. cond c old.odd f) (eq-eqb (p % 2) 1 m) ∙ ap (λ c. cond c old.odd old.even) (sym (eq-eqb (p % 2) 1 m))
          over (inr k) (inr m) = absurd (n (omega (arith, k, m)))

      place_eq : p % 2 ≡ place % 2 → eqb r ((place - 1) / 2) ≡ eqb p place
      place_eq k = on (cases_eq p place)
        where
          on : (p ≡ place) ⊎ (p ≡ place → ⊥) → eqb r ((place - 1) / 2) ≡ eqb p place
          on (inl s) = eq-eqb r ((place - 1) / 2) (ap (λ v. (v - 1) / 2) s) ∙ sym (eq-eqb p place s)
          on (inr s) = ne_eqb r ((place - 1) / 2) (λ v. s (omega (arith, k, v, some))) ∙ sym (ne_eqb p place s)

      by : (p % 2 ≡ place % 2) ⊎ (p % 2 ≡ place % 2 → ⊥) → word_of d (further (new (eqb (place % 2) 1)) p) r ≡ cond (eqb p place) w (word_of a root p)
      by (inl k) =
          ap (λ v. word_of d v r) (ap (λ v. cond (eqb v 1) (new (eqb (place % 2) 1)).odd (new (eqb (place % 2) 1)).even) k ∙ here (eqb (place % 2) 1)) ∙
          more.words f r low ∙ h r ∙ ap (λ c. cond c w (word_of a (further old place) r)) (place_eq k) ∙
          ap (cond (eqb p place) w) (ap (λ v. word_of a (cond (eqb v 1) old.odd old.even) r) (sym k) ∙ sym (word_further a root p (omega arith)))
      by (inr k) =
          ap (λ v. word_of d v r) (there k) ∙
          (keeps_two a b d keeps more).words (further old p) r (further_within old (length a) p o v) ∙ sym (word_further a root p (omega arith)) ∙
          ap (λ c. cond c w (word_of a root p)) (sym (ne_eqb p place (λ s. k (ap (λ v. v % 2) s))))

-- ---- the bits of two

module _ (a b c d : List Part) (first : Keeps a b) (second : Keeps b c) (third : Keeps c d) (one other odd even made : ℕ) where
  pub join_words : (part_at a one).even < length a → (part_at a other).even < length a → odd < length b → even < length c →
      ((p : ℕ) → word_of b odd p ≡ bit_or (word_of a (part_at a one).odd p) (word_of a (part_at a other).odd p)) →
      ((p : ℕ) → word_of c even p ≡ bit_or (word_of b (part_at a one).even p) (word_of b (part_at a other).even p)) →
      part_at d made ≡ record { word = bit_or (part_at a one).word (part_at a other).word; odd = odd; even = even } →
      (p : ℕ) → word_of d made p ≡ bit_or (word_of a one p) (word_of a other p)
  join_words u v l m h k e zero = word_here d made ∙ ap (λ q. q.word) e ∙ ap (λ w. bit_or w (part_at a other).word) (sym (word_here a one)) ∙ ap (bit_or (word_of a one 0)) (sym (word_here a other))
  join_words u v l m h k e (suc n) =
      word_further d made p (omega arith) ∙ ap (λ q. word_of d (further q p) r) e ∙ by (eqb (p % 2) 1) ∙
      ap (λ w. bit_or w (word_of a (further (part_at a other) p) r)) (sym (word_further a one p (omega arith))) ∙ ap (bit_or (word_of a one p)) (sym (word_further a other p (omega arith)))
    where
      p : ℕ
      p = suc n

      r : ℕ
      r = (p - 1) / 2

      by : (s : Bool) → word_of d (cond s odd even) r ≡ bit_or (word_of a (cond s (part_at a one).odd (part_at a one).even) r) (word_of a (cond s (part_at a other).odd (part_at a other).even) r)
      by true = (keeps_two b c d second third).words odd r l ∙ h r
      by false =
          third.words even r m ∙ k r ∙ ap (λ w. bit_or w (word_of b (part_at a other).even r)) (first.words (part_at a one).even r u) ∙
          ap (bit_or (word_of a (part_at a one).even r)) (first.words (part_at a other).even r v)

-- ---- joins that are remembered

module _ (parts more : List Part) (k : Keeps parts more) (one other made : ℕ) (u : one < length parts) (v : other < length parts) where
  pub made_join : made < length more → ((p : ℕ) → word_of more made p ≡ bit_or (word_of parts one p) (word_of parts other p)) → IsJoin more one other made
  made_join within h = record {
    first = (let l = k.long in omega (arith, l, u));
    second = (let l = k.long in omega (arith, l, v));
    within = within;
    words = λ p. h p ∙ ap (λ w. bit_or w (word_of parts other p)) (sym (k.words one p u)) ∙ ap (bit_or (word_of more one p)) (sym (k.words other p v));
  }

  pub join_before : IsJoin more one other made → (p : ℕ) → word_of more made p ≡ bit_or (word_of parts one p) (word_of parts other p)
  join_before j p = j.words p ∙ ap (λ w. bit_or w (word_of more other p)) (k.words one p u) ∙ ap (bit_or (word_of parts one p)) (k.words other p v)

pub join_kept : (parts more : List Part) → Keeps parts more → (one other made : ℕ) → IsJoin parts one other made → IsJoin more one other made
join_kept parts more k one other made j =
    made_join parts more k one other made j.first j.second (let l = k.long in let m = j.within in omega (arith, l, m)) (λ p. k.words made p j.within ∙ j.words p)

pub joins_kept : (parts more : List Part) → Keeps parts more → (joins : List Join) → All (λ j. IsJoin parts j.one j.other j.made) joins → All (λ j. IsJoin more j.one j.other j.made) joins
joins_kept parts more k joins h = All-weaker (λ j. IsJoin parts j.one j.other j.made) (λ j. IsJoin more j.one j.other j.made) (λ j i. join_kept parts more k j.one j.other j.made i) joins h

-- the part without words, joined to itself
pub none_join : (parts : List Part) → AreParts parts → IsJoin parts 0 0 0
none_join parts are = record {
  first = are.some;
  second = are.some;
  within = are.some;
  words = λ p. none_words parts are p ∙ sym (or_zero_l 0) ∙ ap (λ w. bit_or w 0) (sym (none_words parts are p)) ∙ ap (bit_or (word_of parts 0 p)) (sym (none_words parts are p));
}

-- ---- the places of a part's words

module _ (parts : List Part) (number : ℕ) where
  pub odd_word : (q : ℕ) → word_of parts number (2 * q + 1) ≡ word_of parts (part_at parts number).odd q
  odd_word q =
      let side : (2 * q + 1) % 2 ≡ 1 = omega arith in
      let half : (2 * q + 1 - 1) / 2 ≡ q = omega arith in
      word_further parts number (2 * q + 1) (omega arith) ∙ ap (λ c. word_of parts (cond c (part_at parts number).odd (part_at parts number).even) ((2 * q + 1 - 1) / 2)) (eq-eqb ((2 * q + 1) % 2) 1 side) ∙
      ap (word_of parts (part_at parts number).odd) half

  pub even_word : (q : ℕ) → word_of parts number (2 * q + 2) ≡ word_of parts (part_at parts number).even q
  even_word q =
      let side : (2 * q + 2) % 2 ≡ 1 → ⊥ = λ k. omega (arith, k) in
      let half : (2 * q + 2 - 1) / 2 ≡ q = omega arith in
      word_further parts number (2 * q + 2) (omega arith) ∙ ap (λ c. word_of parts (cond c (part_at parts number).odd (part_at parts number).even) ((2 * q + 2 - 1) / 2)) (ne_eqb ((2 * q + 2) % 2) 1 side) ∙
      ap (word_of parts (part_at parts number).even) half

  module _ (first step : ℕ) where
    pub odd_place : (q : ℕ) → first + step + step * 2 * q ≡ first + step * (2 * q + 1)
    odd_place q = omega arith

    pub even_place : (q : ℕ) → first + step * 2 + step * 2 * q ≡ first + step * (2 * q + 2)
    even_place q = omega arith

    -- what holds of its own word, and of those of the two parts that it leads to
    pub at_each : (P : ℕ → ℕ → Type 0) → P first (part_at parts number).word →
        ((q : ℕ) → P (first + step + step * 2 * q) (word_of parts (part_at parts number).odd q)) →
        ((q : ℕ) → P (first + step * 2 + step * 2 * q) (word_of parts (part_at parts number).even q)) → (q : ℕ) → P (first + step * q) (word_of parts number q)
    at_each P own odd even q = by (cases_eq q 0) (cases_eq (q % 2) 1)
      where
        by : (q ≡ 0) ⊎ (q ≡ 0 → ⊥) → (q % 2 ≡ 1) ⊎ (q % 2 ≡ 1 → ⊥) → P (first + step * q) (word_of parts number q)
        by (inl z) _ =
            let here : first ≡ first + step * q = (let e : step * 0 ≡ step * q = ap (λ v. step * v) (sym z) in omega (arith, e)) in
            subst (λ p. P p (word_of parts number q)) here (subst (λ w. P first w) (sym (ap (word_of parts number) z ∙ word_here parts number)) own)
        by (inr n) (inl k) =
            let r : 2 * (q / 2) + 1 ≡ q = omega (arith, k) in
            subst (λ v. P (first + step * v) (word_of parts number v)) r
            (subst (λ p. P p (word_of parts number (2 * (q / 2) + 1))) (odd_place (q / 2)) (subst (λ w. P (first + step + step * 2 * (q / 2)) w) (sym (odd_word (q / 2))) (odd (q / 2))))
        by (inr n) (inr k) =
            let r : 2 * (q / 2 - 1) + 2 ≡ q = omega (arith, k, n) in
            subst (λ v. P (first + step * v) (word_of parts number v)) r
            (subst (λ p. P p (word_of parts number (2 * (q / 2 - 1) + 2))) (even_place (q / 2 - 1)) (subst (λ w. P (first + step * 2 + step * 2 * (q / 2 - 1)) w) (sym (even_word (q / 2 - 1))) (even (q / 2 - 1))))
