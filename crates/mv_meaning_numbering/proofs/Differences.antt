-- Whether no number of a list stands twice, by a set of those that were seen.
use Rattle.std.proofs.Common.{◌≡◌, ℕ, ◌+◌, ◌<◌, ◌≤◌, ◌⊎◌, inl, inr, Bool, true, false, not, cond, List, length, get_or, refl, sym, ◌∙◌, ap, arith, nat_lt, ◌==◌}
use Rattle.std.specs.Prelude.{◌≢◌, ◌^◌, All, AllPairs}
use Rattle.std.specs.Bool.{Decides}
use Rattle.std.specs.Ordering.{nat_cmp}
use Rattle.std.specs.BTreeMap.{is_at}
use Rattle.std.proofs.lemmas.List.{get_or_default}
use Rattle.mv_ast.specs.declared.program.Program.{Program}
use Rattle.mv_meaning_numbering.specs.Numberings.{IsNumbering}

-- whether a number was seen among the first so many, which all differ
pub record IsSeen (xs : List ℕ) (n : ℕ) (has : ℕ → Bool) : Type 0 where
  pub found : (k : ℕ) → k < n → has (get_or xs k 0) ≡ true
  pub only : (q : ℕ) → has q ≡ true → (k : ℕ) × (k < n) × (get_or xs k 0 ≡ q)
  pub apart : (i j : ℕ) → i < j → j < n → get_or xs i 0 ≡ get_or xs j 0 → ⊥

is_at-itself : (v q : ℕ) → v ≡ q → is_at (nat_cmp v) q ≡ true
is_at-itself v q e =
    let a : nat_lt v q ≡ false = grind (arith, e) in
    let b : (v == q) ≡ true = grind (arith, e) in rw (a, b) refl

is_at-other : (v q : ℕ) → is_at (nat_cmp v) q ≡ true → v ≡ q
is_at-other v q h = grind (arith, h)

pub seen_none : (xs : List ℕ) (has : ℕ → Bool) → ((q : ℕ) → has q ≡ false) → IsSeen xs 0 has
seen_none xs has h = record {
  found = λ k lt. absurd (omega arith);
  only = λ q e. let no = h q in absurd (cc);
  apart = λ i j below within e. absurd (omega arith);
}

module _ (xs : List ℕ) (n : ℕ) (has has' : ℕ → Bool) (v : ℕ) (here : v ≡ get_or xs n 0)
    (grows : (q : ℕ) → has' q ≡ cond (is_at (nat_cmp v) q) true (has q)) (seen : IsSeen xs n has) where
  kept : (q : ℕ) (b : Bool) → is_at (nat_cmp v) q ≡ b → has q ≡ true → has' q ≡ true
  kept q true e h = grows q ∙ ap (λ b. cond b true (has q)) e
  kept q false e h = grows q ∙ (ap (λ b. cond b true (has q)) e ∙ h)

  come : (q : ℕ) (b : Bool) → is_at (nat_cmp v) q ≡ b → has' q ≡ true → (v ≡ q) ⊎ (has q ≡ true)
  come q true e h = inl (is_at-other v q e)
  come q false e h = inr (sym (ap (λ b. cond b true (has q)) e) ∙ (sym (grows q) ∙ h))

  found_there : (k : ℕ) → (k < n) ⊎ (k ≡ n) → has' (get_or xs k 0) ≡ true
  found_there k (inl lt) = kept (get_or xs k 0) (is_at (nat_cmp v) (get_or xs k 0)) refl (seen.found k lt)
  found_there k (inr e) =
      let same : v ≡ get_or xs k 0 = here ∙ sym (ap (λ i. get_or xs i 0) e) in
      grows (get_or xs k 0) ∙ ap (λ b. cond b true (has (get_or xs k 0))) (is_at-itself v (get_or xs k 0) same)

  only_there : (q : ℕ) → (v ≡ q) ⊎ (has q ≡ true) → (k : ℕ) × (k < n + 1) × (get_or xs k 0 ≡ q)
  only_there q (inl e) = (n, omega arith, sym here ∙ e)
  only_there q (inr h) = let k = seen.only q h in let lt = k.1 in (k.0, omega (arith, lt), k.2)

  apart_there : has v ≡ false → (i j : ℕ) → i < j → (j < n) ⊎ (j ≡ n) → get_or xs i 0 ≡ get_or xs j 0 → ⊥
  apart_there new i j below (inl lt) e = seen.apart i j below lt e
  apart_there new i j below (inr k) e =
      let there : has (get_or xs i 0) ≡ true = seen.found i (omega (arith, below, k)) in
      let same : get_or xs i 0 ≡ v = e ∙ (ap (λ i. get_or xs i 0) k ∙ sym here) in
      let old : has v ≡ true = ap has (sym same) ∙ there in absurd (cc)

  split : (k : ℕ) → k < n + 1 → (k < n) ⊎ (k ≡ n)
  split k lt = grind (arith, lt)

  pub seen_one : has v ≡ false → IsSeen xs (n + 1) has'
  seen_one new = record {
    found = λ k lt. found_there k (split k lt);
    only = λ q h. only_there q (come q (is_at (nat_cmp v) q) refl h);
    apart = λ i j below lt e. apart_there new i j below (split j lt) e;
  }

-- a number that was seen stands twice
pub seen_twice : (xs : List ℕ) (n : ℕ) (has : ℕ → Bool) → IsSeen xs n has → n < length xs → has (get_or xs n 0) ≡ true →
    AllPairs (λ m n. m ≢ n) xs → ⊥
seen_twice xs n has seen lt h apart =
    let k = seen.only (get_or xs n 0) h in apart k.0 n 0 k.1 lt k.2

-- all were seen, and none twice
pub seen_all : (xs : List ℕ) (n : ℕ) (has : ℕ → Bool) → IsSeen xs n has → length xs ≤ n → AllPairs (λ m n. m ≢ n) xs
seen_all xs n has seen le i j d below within e =
    seen.apart i j below (omega (arith, le, within))
    (get_or_default xs i 0 d (omega (arith, below, within)) ∙ (e ∙ get_or_default xs j d 0 within))

-- what an insert tells of the set before it
pub was_absent : (added old : Bool) → added ≡ not old → added ≡ true → old ≡ false
was_absent added true e h = cc
was_absent added false e h = refl

pub was_present : (added old : Bool) → added ≡ not old → added ≡ false → old ≡ true
was_present added true e h = refl
was_present added false e h = cc

-- as many words above 0 as there are functions are a numbering where they differ
module _ (p : Program) (xs : List ℕ) (count : length xs ≡ length p.functions) (above : All (λ n. (n == 0) ≡ false) xs) (words : (i : ℕ) → get_or xs i 0 < 2 ^ 32) where
  words_above : All (λ n. (0 < n) × (n < 2 ^ 32)) xs
  words_above k d lt =
      let some = above k d lt in
      let word = words k in
      let same = get_or_default xs k d 0 lt in
      (grind (arith, some), omega (arith, word, same))

  pub numbering_where : (answer : Bool) → Decides answer (AllPairs (λ m n. m ≢ n) xs) → Decides answer (IsNumbering p xs)
  numbering_where answer h = (
    (λ e. record { count = count; words = words_above; different = h.0 e }),
    (λ (n : IsNumbering p xs). h.1 n.different),
  )
