-- The places of bytes, and the first that is wrong.
use Rattle.std.proofs.Common.{◌≡◌, ℕ, ◌+◌, ◌-◌, ◌*◌, ◌/◌, ◌<◌, ◌≤◌, true, false, ltb, List, length, refl, sym, ap, subst, ◌∙◌, arith, inl, inr}
use Rattle.std.proofs.lemmas.Bool.{lt-ltb, le-ltb, cases_lt}
use Rattle.mv_num.specs.Bytes.{words_of}
use Rattle.mv_num.proofs.ByteLaws.{length-words_of}
use Rattle.mv_image.specs.Places.{words_end, name_bytes}
use Rattle.mv_image.specs.Rules.{word_fits, name_fits}
use Rattle.mv_image.specs.Spelling.{filled}
use Rattle.mv_image.specs.Faults.{places, offset, place_fits, AllBefore, Spelled, IsTruncated, IsBad, IsTrailing}

abbrev pub end_of : List ℕ → ℕ
end_of bytes = words_end (words_of bytes)

pub offset-past : (bytes : List ℕ) (p : ℕ) → end_of bytes ≤ p → offset bytes p ≡ 4 * end_of bytes + (p - end_of bytes)
unfolding offset
offset-past bytes p le = rw (le-ltb p (end_of bytes) le) refl

pub offset-upto : (bytes : List ℕ) (p : ℕ) → p ≤ end_of bytes → offset bytes p ≡ 4 * p
unfolding offset
offset-upto bytes p le =
    elim (cases_lt p (end_of bytes)) [
      | inl lt ↦ rw (lt-ltb p (end_of bytes) lt) refl
      | inr ge ↦ offset-past bytes p ge ∙ omega (arith, le, ge)
    ]

pub fits-word : (bytes : List ℕ) (p : ℕ) → p < end_of bytes → place_fits bytes p ≡ word_fits (words_of bytes) p
unfolding place_fits
fits-word bytes p lt = rw (lt-ltb p (end_of bytes) lt) refl

pub fits-name : (bytes : List ℕ) (j : ℕ) → place_fits bytes (end_of bytes + j) ≡ name_fits (words_of bytes) bytes j
unfolding place_fits
fits-name bytes j =
    let f : ltb (end_of bytes + j) (end_of bytes) ≡ false = le-ltb _ _ (omega arith) in
    let e : end_of bytes + j - end_of bytes ≡ j = omega arith in
    rw (f, e) refl

pub words_before : (bytes : List ℕ) (n : ℕ) → n ≤ end_of bytes → 4 * n ≤ length bytes → ((k : ℕ) → k < n → word_fits (words_of bytes) k ≡ true) → AllBefore bytes n
words_before bytes n le room fit p lt =
    let next : offset bytes (p + 1) ≡ 4 * (p + 1) = offset-upto bytes (p + 1) (omega arith) in
    (omega (arith, next, room, lt), fits-word bytes p (omega arith) ∙ fit p lt)

pub names_before : (bytes : List ℕ) (n : ℕ) → 4 * end_of bytes + n ≤ length bytes → ((k : ℕ) → k < end_of bytes → word_fits (words_of bytes) k ≡ true)
    → ((j : ℕ) → j < n → name_fits (words_of bytes) bytes j ≡ true) → AllBefore bytes (end_of bytes + n)
names_before bytes n room words names p lt =
    elim (cases_lt p (end_of bytes)) [
      | inl below ↦ words_before bytes (end_of bytes) (omega arith) (omega arith) words p below
      | inr above ↦
          let next : offset bytes (p + 1) ≡ 4 * end_of bytes + (p + 1 - end_of bytes) = offset-past bytes (p + 1) (omega arith) in
          let j : ℕ = p - end_of bytes in
          let e : end_of bytes + j ≡ p = omega arith in
          let fit : place_fits bytes (end_of bytes + j) ≡ true = fits-name bytes j ∙ names j (omega arith) in
          (omega (arith, next, room, lt), subst (λ (q : ℕ). place_fits bytes q ≡ true) e fit)
    ]

pub bad_word : (bytes : List ℕ) (i at : ℕ) → i < end_of bytes → 4 * i + 4 ≤ length bytes → at ≡ 4 * i → ((k : ℕ) → k < i → word_fits (words_of bytes) k ≡ true) → word_fits (words_of bytes) i ≡ false → IsBad bytes at i
bad_word bytes i at lt room at-is before breaks = record {
  is_place = omega (arith, lt);
  before = words_before bytes i (omega arith) (omega arith) before;
  at_is = at-is ∙ sym (offset-upto bytes i (omega arith));
  there = omega (arith, offset-upto bytes (i + 1) (omega arith), room);
  breaks = fits-word bytes i lt ∙ breaks;
}

pub missing_word : (bytes : List ℕ) (n at : ℕ) → n < end_of bytes → 4 * n ≤ length bytes → length bytes < 4 * n + 4 → at ≡ 4 * n → ((k : ℕ) → k < n → word_fits (words_of bytes) k ≡ true) → IsTruncated bytes at n
missing_word bytes n at lt room short at-is before = record {
  is_place = omega (arith, lt);
  before = words_before bytes n (omega arith) room before;
  at_is = at-is ∙ sym (offset-upto bytes n (omega arith));
  missing = omega (arith, offset-upto bytes (n + 1) (omega arith), short);
}

pub bad_name : (bytes : List ℕ) (j at : ℕ) → j < filled (name_bytes (words_of bytes)) → 4 * end_of bytes + j < length bytes
    → at ≡ 4 * end_of bytes + j → ((k : ℕ) → k < end_of bytes → word_fits (words_of bytes) k ≡ true)
    → ((k : ℕ) → k < j → name_fits (words_of bytes) bytes k ≡ true) → name_fits (words_of bytes) bytes j ≡ false → IsBad bytes at (end_of bytes + j)
bad_name bytes j at lt room at-is words before breaks = record {
  is_place = omega (arith, lt);
  before = names_before bytes j (omega arith) words before;
  at_is = omega (arith, at-is, offset-past bytes (end_of bytes + j) (omega arith));
  there = omega (arith, offset-past bytes (end_of bytes + j + 1) (omega arith), room);
  breaks = fits-name bytes j ∙ breaks;
}

pub missing_name : (bytes : List ℕ) (j at : ℕ) → j < filled (name_bytes (words_of bytes)) → 4 * end_of bytes + j ≡ length bytes → at ≡ length bytes
    → ((k : ℕ) → k < end_of bytes → word_fits (words_of bytes) k ≡ true) → ((k : ℕ) → k < j → name_fits (words_of bytes) bytes k ≡ true)
    → IsTruncated bytes at (end_of bytes + j)
missing_name bytes j at lt room at-is words before = record {
  is_place = omega (arith, lt);
  before = names_before bytes j (omega arith) words before;
  at_is = omega (arith, at-is, room, offset-past bytes (end_of bytes + j) (omega arith));
  missing = omega (arith, offset-past bytes (end_of bytes + j + 1) (omega arith), room);
}

pub end_is : (bytes : List ℕ) → offset bytes (places bytes) ≡ 4 * end_of bytes + filled (name_bytes (words_of bytes))
end_is bytes = omega (arith, offset-past bytes (places bytes) (omega arith))

pub trailing : (bytes : List ℕ) (at : ℕ) → at ≡ 4 * end_of bytes + filled (name_bytes (words_of bytes)) → at < length bytes
    → ((k : ℕ) → k < end_of bytes → word_fits (words_of bytes) k ≡ true)
    → ((k : ℕ) → k < filled (name_bytes (words_of bytes)) → name_fits (words_of bytes) bytes k ≡ true) → IsTrailing bytes at
trailing bytes at at-is more words names = record {
  all = names_before bytes (filled (name_bytes (words_of bytes))) (omega arith) words names;
  at_is = at-is ∙ sym (end_is bytes);
  more = more;
}

pub spelled : (bytes : List ℕ) → length bytes ≡ 4 * end_of bytes + filled (name_bytes (words_of bytes))
    → ((k : ℕ) → k < end_of bytes → word_fits (words_of bytes) k ≡ true)
    → ((k : ℕ) → k < filled (name_bytes (words_of bytes)) → name_fits (words_of bytes) bytes k ≡ true) → Spelled bytes
spelled bytes len words names = record {
  all = names_before bytes (filled (name_bytes (words_of bytes))) (omega arith) words names;
  end = len ∙ sym (end_is bytes);
}

-- the same of words that are those of the bytes

pub words_fit : (ws bytes : List ℕ) (m n : ℕ) → ws ≡ words_of bytes → n ≤ m → ((k : ℕ) → k < m → word_fits ws k ≡ true) → (k : ℕ) → k < n → word_fits (words_of bytes) k ≡ true
words_fit ws bytes m n e le fit k lt = subst (λ (x : List ℕ). word_fits x k ≡ true) e (fit k (omega (arith, le, lt)))

pub word_breaks : (ws bytes : List ℕ) (i : ℕ) → ws ≡ words_of bytes → word_fits ws i ≡ false → word_fits (words_of bytes) i ≡ false
word_breaks ws bytes i e breaks = subst (λ (x : List ℕ). word_fits x i ≡ false) e breaks

pub names_fit : (ws bytes : List ℕ) (m n : ℕ) → ws ≡ words_of bytes → n ≤ m → ((k : ℕ) → k < m → name_fits ws bytes k ≡ true) → (k : ℕ) → k < n → name_fits (words_of bytes) bytes k ≡ true
names_fit ws bytes m n e le fit k lt = subst (λ (x : List ℕ). name_fits x bytes k ≡ true) e (fit k (omega (arith, le, lt)))

pub name_breaks : (ws bytes : List ℕ) (i : ℕ) → ws ≡ words_of bytes → name_fits ws bytes i ≡ false → name_fits (words_of bytes) bytes i ≡ false
name_breaks ws bytes i e breaks = subst (λ (x : List ℕ). name_fits x bytes i ≡ false) e breaks

pub count_is : (ws bytes : List ℕ) → ws ≡ words_of bytes → length ws ≡ length bytes / 4
count_is ws bytes e = ap length e ∙ length-words_of bytes

pub end_at : (ws bytes : List ℕ) → ws ≡ words_of bytes → words_end ws ≡ end_of bytes
end_at ws bytes e = ap words_end e

pub names_at : (ws bytes : List ℕ) → ws ≡ words_of bytes → name_bytes ws ≡ name_bytes (words_of bytes)
names_at ws bytes e = ap name_bytes e
