-- What is known of segments that are there and right.
use Rattle.std.proofs.Common.{◌≡◌, ◌<◌, ◌≤◌, ◌+◌, ◌-◌, ◌∙◌, ◌||◌, ◌==◌, nat_lt, min, ◌/◌, ◌%◌, ℕ, zero, suc, max, List, length, Bool, true, false, subst, sym, ap, refl, arith, inl, inr}
use Rattle.std.proofs.lemmas.Bool.{cases_lt, cases_Bool, and_parts, or_cases, or_left, or_right, not-true, both_ways, leb-true}
use Rattle.mv_num.specs.Bytes.{AreBytes}
use Rattle.mv_elf.specs.declared.segment.Region.{Region}
use Rattle.mv_elf.specs.declared.segment.Region.TheVariants.{Text, Data}
use Rattle.mv_elf.specs.declared.segment.Segment.{Segment}
use Rattle.mv_elf.specs.Numbers.{half_at}
use Rattle.mv_elf.specs.Header.{program_size}
use Rattle.mv_elf.specs.Segments.{region_start, region_end, count_of, program_at, segment_of, is_loaded, is_in_file, lies_in, reach, is_there, is_right, segment_fits, AreRight}

-- ---- the tests

pub record LiesIn (region : Region) (s : Segment) : Type 0 where
  pub loaded : is_loaded s ≡ true
  pub start : region_start region ≤ s.address
  pub end : s.address + s.memory_size ≤ region_end region

pub lies : (region : Region) (s : Segment) → lies_in region s ≡ true → LiesIn region s
unfolding lies_in
lies region s e =
    let p = and_parts _ _ e in
    let q = and_parts _ _ p.0 in
    record { loaded = q.0; start = leb-true _ _ q.1; end = leb-true _ _ p.1 }

pub record IsPlaced (reached : ℕ) (s : Segment) : Type 0 where
  pub bytes : s.file_size ≤ s.memory_size
  pub region : (lies_in Text s || lies_in Data s) ≡ true
  pub behind : reached ≤ s.address

pub placed : (reached : ℕ) (s : Segment) → is_right reached s ≡ true → is_loaded s ≡ true → IsPlaced reached s
unfolding is_right
placed reached s right loaded =
    elim (or_cases _ _ right) [
      | inl skipped ↦ absurd (both_ways _ (not-true _ skipped) loaded)
      | inr kept ↦
          let p = and_parts _ _ kept in
          let q = and_parts _ _ p.0 in
          record { bytes = leb-true _ _ q.0; region = q.1; behind = leb-true _ _ p.1 }
    ]

pub record IsThere (bytes : List ℕ) (i : ℕ) : Type 0 where
  pub program : program_at bytes i + program_size ≤ length bytes
  pub file : is_in_file bytes (segment_of bytes i) ≡ true

pub there : (bytes : List ℕ) (i : ℕ) → is_there bytes i ≡ true → IsThere bytes i
unfolding is_there
there bytes i e = let p = and_parts _ _ e in record { program = leb-true _ _ p.0; file = p.1 }

has_bytes : (bytes : List ℕ) (s : Segment) → is_in_file bytes s ≡ true → (s.kind == 1 || s.kind == 4) ≡ true → s.offset + s.file_size ≤ length bytes
unfolding is_in_file
has_bytes bytes s e kind =
    elim (or_cases _ _ e) [
      | inl none ↦ absurd (both_ways _ (not-true _ none) kind)
      | inr file ↦ leb-true _ _ file
    ]

pub loaded_bytes : (bytes : List ℕ) (s : Segment) → is_in_file bytes s ≡ true → is_loaded s ≡ true → s.offset + s.file_size ≤ length bytes
unfolding is_loaded
loaded_bytes bytes s e loaded = has_bytes bytes s e (or_left (s.kind == 1) (s.kind == 4) (and_parts (s.kind == 1) (nat_lt 0 s.memory_size) loaded).0)

pub note_bytes : (bytes : List ℕ) (s : Segment) → is_in_file bytes s ≡ true → (s.kind == 4) ≡ true → s.offset + s.file_size ≤ length bytes
note_bytes bytes s e note = has_bytes bytes s e (or_right (s.kind == 1) (s.kind == 4) note)

-- ---- how many there are

pub count_small : (bytes : List ℕ) → AreBytes bytes → count_of bytes < 65536
unfolding half_at
count_small bytes fits = omega (arith, fits 44, fits 45)

-- ---- how far segments reach

pub reach-none : (test : Segment → Bool) (bytes : List ℕ) → reach test bytes 0 ≡ 0
unfolding reach
reach-none test bytes = refl

pub reach-yes : (test : Segment → Bool) (bytes : List ℕ) (i : ℕ) → test (segment_of bytes i) ≡ true → reach test bytes (i + 1) ≡ max (reach test bytes i) ((segment_of bytes i).address + (segment_of bytes i).memory_size)
unfolding reach
reach-yes test bytes i e = let n : i + 1 ≡ suc i = omega arith in rw (n, e) refl

pub reach-no : (test : Segment → Bool) (bytes : List ℕ) (i : ℕ) → test (segment_of bytes i) ≡ false → reach test bytes (i + 1) ≡ reach test bytes i
unfolding reach
reach-no test bytes i e = let n : i + 1 ≡ suc i = omega arith in rw (n, e) refl

-- up to the end of each that passes the test
pub reach-holds : (test : Segment → Bool) (bytes : List ℕ) (n k : ℕ) → k < n → test (segment_of bytes k) ≡ true → (segment_of bytes k).address + (segment_of bytes k).memory_size ≤ reach test bytes n
unfolding reach
reach-holds test bytes zero k lt e = absurd (omega arith)
reach-holds test bytes (suc n) k lt e =
    elim (cases_lt k n) [
      | inl below ↦
          let ih = reach-holds test bytes n k below e in
          elim (cases_Bool (test (segment_of bytes n))) [
            | inl holds ↦ rw holds (omega (arith, ih))
            | inr fails ↦ rw fails ih
          ]
      | inr last ↦
          let same : k ≡ n = omega arith in
          let holds : test (segment_of bytes n) ≡ true = subst (λ (j : ℕ). test (segment_of bytes j) ≡ true) same e in
          let here : (segment_of bytes k).address + (segment_of bytes k).memory_size ≡ (segment_of bytes n).address + (segment_of bytes n).memory_size = ap (λ (j : ℕ). (segment_of bytes j).address + (segment_of bytes j).memory_size) same in
          rw holds (omega (arith, here))
    ]

-- and not beyond the region
pub reach-most : (region : Region) (bytes : List ℕ) (n : ℕ) → reach (lies_in region) bytes n ≤ region_end region
unfolding reach
reach-most region bytes zero = omega arith
reach-most region bytes (suc n) =
    let ih = reach-most region bytes n in
    elim (cases_Bool (lies_in region (segment_of bytes n))) [
      | inl holds ↦ let end = (lies region (segment_of bytes n) holds).end in rw holds (omega (arith, ih, end))
      | inr fails ↦ rw fails ih
    ]

-- ---- steps of a loop over segments

pub reached_more : (test : Segment → Bool) (bytes : List ℕ) (i r end new : ℕ) (s : Segment) → s ≡ segment_of bytes i → test s ≡ true
    → r ≡ reach test bytes i → end ≡ s.address + s.memory_size → new ≡ max r end → new ≡ reach test bytes (i + 1)
reached_more test bytes i r end new s is passes was ends made =
    made ∙ ap (λ (x : ℕ). max x end) was ∙ ap (λ (x : ℕ). max (reach test bytes i) x) (ends ∙ ap (λ (z : Segment). z.address + z.memory_size) is)
    ∙ sym (reach-yes test bytes i (subst (λ (z : Segment). test z ≡ true) is passes))

pub reached_still : (test : Segment → Bool) (bytes : List ℕ) (i r new : ℕ) (s : Segment) → s ≡ segment_of bytes i → test s ≡ false → r ≡ reach test bytes i → new ≡ r → new ≡ reach test bytes (i + 1)
reached_still test bytes i r new s is passes was made = made ∙ was ∙ sym (reach-no test bytes i (subst (λ (z : Segment). test z ≡ false) is passes))

pub reach_words : (region : Region) (bytes : List ℕ) (n r start more words : ℕ) → r ≡ reach (lies_in region) bytes n → start ≡ region_start region → more ≡ r - start → words ≡ more / 4 + min 1 (more % 4) → words ≤ 262144
reach_words Text bytes n r start more words is begins left made = omega (arith, reach-most Text bytes n, is, begins, left, made)
reach_words Data bytes n r start more words is begins left made = omega (arith, reach-most Data bytes n, is, begins, left, made)

pub right_more : (bytes : List ℕ) (i : ℕ) → AreRight bytes i → is_there bytes i ≡ true → segment_fits bytes i ≡ true → AreRight bytes (i + 1)
right_more bytes i before here fits = record {
  there = λ k lt. (elim (cases_lt k i) [
    | inl below ↦ before.there k below
    | inr last ↦ let same : i ≡ k = omega (arith, lt, last) in subst (λ (j : ℕ). is_there bytes j ≡ true) same here
  ]);
  right = λ k lt. (elim (cases_lt k i) [
    | inl below ↦ before.right k below
    | inr last ↦ let same : i ≡ k = omega (arith, lt, last) in subst (λ (j : ℕ). segment_fits bytes j ≡ true) same fits
  ]);
}
