-- The test of text between two others.
use Rattle.std.proofs.Common.{◌≡◌, inl, inr, ℕ, zero, suc, true, ◌&&◌, not, eqb, List, [], ◌∷◌, length, slice_get, Some, refl, ap, ap₂, arith}
use Rattle.std.proofs.lemmas.Bool.{and_parts, and_from, eqb-true, eqb-false, eq-eqb, ne_eqb, not-true, not_from_false}
use Rattle.mv_fetch.specs.Held.{Held, older_at, choices_of}
use Rattle.mv_refine_machine.specs.Stores.Between.{IsWordBetween, IsBetween, is_word_between, are_between, is_between}

-- ---- one word

word_told : (o n w : ℕ) (ws : List ℕ) → is_word_between o n w ws ≡ true → IsWordBetween o n (w ∷ ws)
word_told o n w [] h = inl (ap (λ (x : ℕ). x ∷ []) (eqb-true w o h))
word_told o n w (v ∷ []) h =
    let p = and_parts (eqb w n) (eqb v o && not (eqb o n)) h in
    let q = and_parts (eqb v o) (not (eqb o n)) p.1 in
    inr (eqb-false o n (not-true (eqb o n) q.1), ap₂ (λ (x y : ℕ). x ∷ y ∷ []) (eqb-true w n p.0) (eqb-true v o q.0))
word_told o n w (v ∷ u ∷ ws) h = absurd (cc)

word_tested : (o n w : ℕ) (ws : List ℕ) → IsWordBetween o n (w ∷ ws) → is_word_between o n w ws ≡ true
word_tested o n w [] (inl e) = eq-eqb w o (cc)
word_tested o n w [] (inr p) = absurd (let e = p.1 in cc)
word_tested o n w (v ∷ []) (inl e) = absurd (cc)
word_tested o n w (v ∷ []) (inr p) =
    let e = p.1 in
    and_from (eqb w n) (eqb v o && not (eqb o n)) (eq-eqb w n (cc))
    (and_from (eqb v o) (not (eqb o n)) (eq-eqb v o (cc)) (not_from_false (eqb o n) (ne_eqb o n p.0)))
word_tested o n w (v ∷ u ∷ ws) (inl e) = absurd (cc)
word_tested o n w (v ∷ u ∷ ws) (inr p) = absurd (let e = p.1 in cc)

-- ---- all words

record Between (old new text : List ℕ) (older : List (List ℕ)) : Type 0 where
  size : length new ≡ length old
  words : length text ≡ length old
  olds : length older ≡ length old
  each : (k o n : ℕ) → slice_get old k ≡ Some o → slice_get new k ≡ Some n → IsWordBetween o n (choices_of (slice_get text k) (older_at older k))

all_told : (old new text : List ℕ) (older : List (List ℕ)) → are_between old new text older ≡ true → Between old new text older
unfolding are_between
all_told [] [] [] [] h = record { size = refl; words = refl; olds = refl; each = λ k o n e f. absurd (cc) }
all_told (o ∷ old) (n ∷ new) (w ∷ text) (ws ∷ older) h =
    let p = and_parts (is_word_between o n w ws) (are_between old new text older) h in
    let rest = all_told old new text older p.1 in
    record { size = ap suc rest.size; words = ap suc rest.words; olds = ap suc rest.olds; each = by_index (word_told o n w ws p.0) rest }
  where
    by_index : IsWordBetween o n (w ∷ ws) → Between old new text older → (k x y : ℕ) → slice_get (o ∷ old) k ≡ Some x → slice_get (n ∷ new) k ≡ Some y
        → IsWordBetween x y (choices_of (slice_get (w ∷ text) k) (older_at (ws ∷ older) k))
    by_index here rest zero x y e f = rw (← (let s : o ≡ x = cc in s), ← (let s : n ≡ y = cc in s)) here
    by_index here rest (suc k) x y e f = rest.each k x y e f
all_told _ _ _ _ h = absurd (cc)

all_tested : (old new text : List ℕ) (older : List (List ℕ)) → Between old new text older → are_between old new text older ≡ true
unfolding are_between
all_tested [] [] [] [] h = refl
all_tested (o ∷ old) (n ∷ new) (w ∷ text) (ws ∷ older) h =
    let size = h.size in
    let words = h.words in
    let olds = h.olds in
    and_from (is_word_between o n w ws) (are_between old new text older) (word_tested o n w ws (h.each 0 o n refl refl))
    (all_tested old new text older (record { size = omega (arith, size); words = omega (arith, words); olds = omega (arith, olds); each = λ k x y e f. h.each (suc k) x y e f }))
all_tested _ _ _ _ h = absurd (let size = h.size in let words = h.words in let olds = h.olds in omega (arith, size, words, olds))

pub between_told : (old new : List ℕ) (h : Held) → is_between old new h ≡ true → IsBetween old new h
between_told old new h e =
    let b = all_told old new h.text h.older e in
    record { size = b.size; text = b.words; older = b.olds; words = b.each }

pub between_tested : (old new : List ℕ) (h : Held) → IsBetween old new h → is_between old new h ≡ true
between_tested old new h b = all_tested old new h.text h.older (record { size = b.size; words = b.text; olds = b.older; each = b.words })
