-- The addresses of the tables one after the other.
use Rattle.std.proofs.Common.{◌≡◌, ◌⊎◌, inl, inr, ⊎_elim, ℕ, zero, suc, ◌+◌, ◌*◌, ◌/◌, ◌%◌, ◌<◌, ◌≤◌, Bool, true, false, cond, ◌&&◌, ◌||◌, ltb, leb, List, [], ◌∷◌, ◌++◌, length, drop, get_or, slice_get, Some, refl, sym, ap, ap₂, ◌∙◌, arith, append_assoc, drop-cons}
use Rattle.std.proofs.lemmas.Bool.{lt-ltb, le-ltb, ltb-true, ltb-false, leb-true, leb-false, cases_lt, or_cases, or_parts}
use Rattle.std.proofs.lemmas.List.{drop_all, get_or-drop, length-map}
use Rattle.std.proofs.lemmas.Option.{get_or_from_slice_get, slice_get_within}
use Rattle.mv_descriptors.specs.declared.rows.FunctionRow.{FunctionRow}
use Rattle.mv_descriptors.specs.declared.rows.SiteRow.{SiteRow}
use Rattle.mv_descriptors.specs.declared.rows.PointRow.{PointRow}
use Rattle.mv_patch.specs.declared.changes.Passed.{Passed}
use Rattle.mv_patch.specs.declared.prepared.Pair.{Pair}
use Rattle.mv_image.specs.Spelling.{Fields}
use Rattle.mv_image.specs.Patched.{Bindings, text_of}
use Rattle.mv_patch.specs.Tables.{entries, site_words, point_words, merged_behind, merged, word_of, change, change_at, changes_at, is_entry_next, is_point_next, IsPassed, count_passed, places_left, pairs_at}
use Rattle.mv_patch.proofs.TablePlaces.{length_sites, length_points}
use Rattle.mv_num.proofs.Booleans.{and_cases}

-- ---- the first of two lists

by_second : (x : ℕ) (xs ys : List ℕ) → ((y : ℕ) (later : List ℕ) → ys ≡ y ∷ later → x < y) → merged (x ∷ xs) ys ≡ x ∷ merged xs ys
unfolding merged
by_second x xs [] h = refl
by_second x xs (y ∷ ys) h = let t : ltb x y ≡ true = lt-ltb x y (h y ys refl) in rw t refl

by_first : (y : ℕ) (xs ys : List ℕ) → ((x : ℕ) (later : List ℕ) → xs ≡ x ∷ later → y ≤ x) → merged xs (y ∷ ys) ≡ y ∷ merged xs ys
unfolding merged
by_first y [] ys h = refl
by_first y (x ∷ xs) ys h = let t : ltb x y ≡ false = le-ltb x y (h x xs refl) in rw t refl

-- what stands first behind some items
behind : (xs : List ℕ) (i x : ℕ) (later : List ℕ) → drop i xs ≡ x ∷ later → (i < length xs) × (x ≡ get_or xs i 0)
behind xs i x later e = (
  ⊎_elim (λ (lt : i < length xs). lt) (λ (le : length xs ≤ i). absurd (let none = drop_all i xs le in cc)) (cases_lt i (length xs)),
  ap (λ (l : List ℕ). get_or l 0 0) (sym e) ∙ get_or-drop i xs 0 0 ∙ ap (λ (k : ℕ). get_or xs k 0) (omega arith),
)

-- the first of both is the first of one
first_of_both : (xs ys : List ℕ) (x : ℕ) (later : List ℕ) → merged xs ys ≡ x ∷ later → ((more : List ℕ) × (xs ≡ x ∷ more)) ⊎ ((more : List ℕ) × (ys ≡ x ∷ more))
unfolding merged
first_of_both [] ys x later e = inr (later, e)
first_of_both (a ∷ xs) [] x later e = let same : a ≡ x = cc in inl (xs, ap (λ (b : ℕ). b ∷ xs) same)
first_of_both (a ∷ xs) (b ∷ ys) x later e = by_test (ltb a b) e
  where
    by_test : (t : Bool) → cond t (a ∷ merged xs (b ∷ ys)) (b ∷ merged_behind a (merged xs) ys) ≡ x ∷ later → ((more : List ℕ) × (a ∷ xs ≡ x ∷ more)) ⊎ ((more : List ℕ) × (b ∷ ys ≡ x ∷ more))
    by_test true q = let same : a ≡ x = cc in inl (xs, ap (λ (c : ℕ). c ∷ xs) same)
    by_test false q = let same : b ≡ x = cc in inr (ys, ap (λ (c : ℕ). c ∷ ys) same)

-- ---- with so many items passed

pub before_second : (x : ℕ) (xs ys : List ℕ) (j : ℕ) → (length ys ≤ j) ⊎ (x < get_or ys j 0) → merged (x ∷ xs) (drop j ys) ≡ x ∷ merged xs (drop j ys)
before_second x xs ys j h =
    by_second x xs (drop j ys)
    (λ y later e. (
    let at = behind ys j y later e in
    let within = at.0 in
    let is = at.1 in
    ⊎_elim (λ (le : length ys ≤ j). absurd (omega (arith, le, within))) (λ (below : x < get_or ys j 0). omega (arith, below, is)) h))

pub first_next : (xs ys : List ℕ) (i j : ℕ) → i < length xs → (length ys ≤ j) ⊎ (get_or xs i 0 < get_or ys j 0) → merged (drop i xs) (drop j ys) ≡ get_or xs i 0 ∷ merged (drop (suc i) xs) (drop j ys)
first_next xs ys i j lt h = ap (λ (l : List ℕ). merged l (drop j ys)) (drop-cons xs i 0 lt) ∙ before_second (get_or xs i 0) (drop (suc i) xs) ys j h

pub second_next : (xs ys : List ℕ) (i j : ℕ) → j < length ys → (length xs ≤ i) ⊎ (get_or ys j 0 ≤ get_or xs i 0) → merged (drop i xs) (drop j ys) ≡ get_or ys j 0 ∷ merged (drop i xs) (drop (suc j) ys)
second_next xs ys i j lt h =
    ap (merged (drop i xs)) (drop-cons ys j 0 lt)
    ∙ by_first (get_or ys j 0) (drop i xs) (drop (suc j) ys)
    (λ x later e. (
    let at = behind xs i x later e in
    let within = at.0 in
    let is = at.1 in
    ⊎_elim (λ (le : length xs ≤ i). absurd (omega (arith, le, within))) (λ (above : get_or ys j 0 ≤ get_or xs i 0). omega (arith, above, is)) h))

pub none_next : (xs ys : List ℕ) (i j : ℕ) → length xs ≤ i → length ys ≤ j → merged (drop i xs) (drop j ys) ≡ []
unfolding merged
none_next xs ys i j no_first no_second = rw (drop_all i xs no_first, drop_all j ys no_second) refl

-- the first of three
pub third_next : (xs ys zs : List ℕ) (i j k : ℕ) → k < length zs → (length xs ≤ i) ⊎ (get_or zs k 0 ≤ get_or xs i 0) → (length ys ≤ j) ⊎ (get_or zs k 0 ≤ get_or ys j 0)
    → merged (merged (drop i xs) (drop j ys)) (drop k zs) ≡ get_or zs k 0 ∷ merged (merged (drop i xs) (drop j ys)) (drop (suc k) zs)
third_next xs ys zs i j k lt g h =
    ap (merged (merged (drop i xs) (drop j ys))) (drop-cons zs k 0 lt)
    ∙ by_first (get_or zs k 0) (merged (drop i xs) (drop j ys)) (drop (suc k) zs)
    (λ x later e. ⊎_elim
    (λ (p : (more : List ℕ) × (drop i xs ≡ x ∷ more)). least xs i x p.0 p.1 g)
    (λ (p : (more : List ℕ) × (drop j ys ≡ x ∷ more)). least ys j x p.0 p.1 h)
    (first_of_both (drop i xs) (drop j ys) x later e))
  where
    least : (ws : List ℕ) (n x : ℕ) (more : List ℕ) → drop n ws ≡ x ∷ more → (length ws ≤ n) ⊎ (get_or zs k 0 ≤ get_or ws n 0) → get_or zs k 0 ≤ x
    least ws n x more e o =
        let at = behind ws n x more e in
        let within = at.0 in
        let is = at.1 in
        ⊎_elim (λ (le : length ws ≤ n). absurd (omega (arith, le, within))) (λ (above : get_or zs k 0 ≤ get_or ws n 0). omega (arith, above, is)) o

-- ---- which of them comes next

-- so many entries, words of sites and words of pointer sites are passed, of so many, and these are next
module _ (f w p n m q x y z : ℕ) where
  abbrev is_point : Bool
  is_point = ltb p q && (leb n f || leb z x) && (leb m w || leb z y)

  abbrev is_entry : Bool
  is_entry = ltb f n && (leb m w || ltb x y)

  pub point_told : is_point ≡ true → (p < q) × ((n ≤ f) ⊎ (z ≤ x)) × ((m ≤ w) ⊎ (z ≤ y))
  point_told h =
      let both = and_cases (ltb p q && (leb n f || leb z x)) (leb m w || leb z y) h in
      let first = and_cases (ltb p q) (leb n f || leb z x) both.0 in (
        ltb-true p q first.0,
        ⊎_elim (λ (e : leb n f ≡ true). inl (leb-true n f e)) (λ (e : leb z x ≡ true). inr (leb-true z x e)) (or_cases (leb n f) (leb z x) first.1),
        ⊎_elim (λ (e : leb m w ≡ true). inl (leb-true m w e)) (λ (e : leb z y ≡ true). inr (leb-true z y e)) (or_cases (leb m w) (leb z y) both.1),
      )

  -- no word of a pointer site is next: there is none, or an entry or a word of a site is below it
  no_point_told : is_point ≡ false → (q ≤ p) ⊎ (((f < n) × (x < z)) ⊎ ((w < m) × (y < z)))
  no_point_told h = by_tests (ltb p q) (leb n f || leb z x) (leb m w || leb z y) refl refl refl h
    where
      by_tests : (a b c : Bool) → ltb p q ≡ a → (leb n f || leb z x) ≡ b → (leb m w || leb z y) ≡ c → (a && b && c) ≡ false → (q ≤ p) ⊎ (((f < n) × (x < z)) ⊎ ((w < m) × (y < z)))
      by_tests false b c ea eb ec e = inl (ltb-false p q ea)
      by_tests true false c ea eb ec e = let none = or_parts (leb n f) (leb z x) eb in inr (inl (leb-false n f none.0, leb-false z x none.1))
      by_tests true true false ea eb ec e = let none = or_parts (leb m w) (leb z y) ec in inr (inr (leb-false m w none.0, leb-false z y none.1))
      by_tests true true true ea eb ec e = absurd (cc)

  pub entry_told : is_point ≡ false → is_entry ≡ true → (f < n) × ((m ≤ w) ⊎ (x < y)) × ((q ≤ p) ⊎ (x < z))
  entry_told g h =
      let both = and_cases (ltb f n) (leb m w || ltb x y) h in
      let second : (m ≤ w) ⊎ (x < y) = ⊎_elim (λ (e : leb m w ≡ true). inl (leb-true m w e)) (λ (e : ltb x y ≡ true). inr (ltb-true x y e)) (or_cases (leb m w) (ltb x y) both.1) in (
        ltb-true f n both.0,
        second,
        elim (no_point_told g) [
          | inl none ↦ inl none
          | inr some ↦ elim some [
            | inl entry ↦ inr entry.1
            | inr site ↦
                let lt = site.0 in
                let below = site.1 in
                elim second [
                  | inl le ↦ absurd (omega (arith, le, lt))
                  | inr less ↦ inr (omega (arith, less, below))
                ]
          ]
        ],
      )

  pub site_told : f ≤ n → w ≤ m → p ≤ q → f + w + p < n + m + q → is_point ≡ false → is_entry ≡ false → (w < m) × ((n ≤ f) ⊎ (y ≤ x)) × ((q ≤ p) ⊎ (y < z))
  site_told few some most left g h =
      let points = no_point_told g in
      let more : f + w < n + m = elim points [
        | inl none ↦ omega (arith, most, left, none)
        | inr entry_or_site ↦ elim entry_or_site [
          | inl entry ↦ let lt = entry.0 in omega (arith, lt, some)
          | inr site ↦ let lt = site.0 in omega (arith, lt, few)
        ]
      ] in
      elim (cases_lt f n) [
        | inl lt ↦
            let rest : (leb m w || ltb x y) ≡ false = (let t = lt-ltb f n lt in rw t at h) in
            let none = or_parts (leb m w) (ltb x y) rest in
            let above : y ≤ x = ltb-false x y none.1 in (
              leb-false m w none.0,
              inr above,
              elim points [
                | inl end ↦ inl end
                | inr entry_or_site ↦ elim entry_or_site [
                  | inl entry ↦ let below = entry.1 in inr (omega (arith, above, below))
                  | inr site ↦ inr site.1
                ]
              ],
            )
        | inr le ↦ (
          omega (arith, few, more, le),
          inl le,
          elim points [
            | inl end ↦ inl end
            | inr entry_or_site ↦ elim entry_or_site [
              | inl entry ↦ let lt = entry.0 in absurd (omega (arith, le, lt))
              | inr site ↦ inr site.1
            ]
          ],
        )
      ]

-- ---- the pairs found

pub one_more : (old new : List ℕ) (pairs found : List Pair) (a : ℕ) (places later : List ℕ) → found ≡ pairs ++ change a (word_of old a) (word_of new a) → places ≡ a ∷ later
    → found ++ pairs_at old new later ≡ pairs ++ pairs_at old new places
unfolding pairs_at
one_more old new pairs found a places later e q =
    ap (λ (l : List Pair). l ++ pairs_at old new later) e ∙ append_assoc pairs (change a (word_of old a) (word_of new a)) (pairs_at old new later)
    ∙ ap (λ (l : List ℕ). pairs ++ pairs_at old new l) (sym q)

pub none_at : (old new : List ℕ) → pairs_at old new [] ≡ []
unfolding pairs_at
none_at old new = refl

-- ---- the words of the sites

pub first_word : (sites : List SiteRow) (k w : ℕ) (d : SiteRow) → k < length sites → w ≡ 2 * k → get_or (site_words sites) w 0 ≡ (get_or sites k d).address
first_word [] k w d lt e = absurd (omega (arith, lt))
first_word (x ∷ sites) zero w d lt e = let is : w ≡ 0 = omega (arith, e) in rw is refl
first_word (x ∷ sites) (suc k) zero d lt e = absurd (omega (arith, e))
first_word (x ∷ sites) (suc k) (suc zero) d lt e = absurd (omega (arith, e))
first_word (x ∷ sites) (suc k) (suc (suc w)) d lt e = first_word sites k w d (omega (arith, lt)) (omega (arith, e))

pub second_word : (sites : List SiteRow) (k w : ℕ) (d : SiteRow) → k < length sites → w ≡ 2 * k + 1 → get_or (site_words sites) w 0 ≡ (get_or sites k d).address + 4
second_word [] k w d lt e = absurd (omega (arith, lt))
second_word (x ∷ sites) zero w d lt e = let is : w ≡ 1 = omega (arith, e) in rw is refl
second_word (x ∷ sites) (suc k) zero d lt e = absurd (omega (arith, e))
second_word (x ∷ sites) (suc k) (suc zero) d lt e = absurd (omega (arith, e))
second_word (x ∷ sites) (suc k) (suc (suc w)) d lt e = second_word sites k w d (omega (arith, lt)) (omega (arith, e))

pub first_at : (sites : List SiteRow) (w : ℕ) (site : SiteRow) → slice_get sites (w / 2) ≡ Some site → w ≡ 2 * (w / 2) → site.address ≡ get_or (site_words sites) w 0
first_at sites w site e even =
    sym (first_word sites (w / 2) w site (slice_get_within sites (w / 2) site e) even ∙ ap (λ (s : SiteRow). s.address) (get_or_from_slice_get sites (w / 2) site site e))

pub second_at : (sites : List SiteRow) (w : ℕ) (site : SiteRow) → slice_get sites (w / 2) ≡ Some site → w ≡ 2 * (w / 2) + 1 → site.address + 4 ≡ get_or (site_words sites) w 0
second_at sites w site e odd =
    sym (second_word sites (w / 2) w site (slice_get_within sites (w / 2) site e) odd ∙ ap (λ (s : SiteRow). s.address + 4) (get_or_from_slice_get sites (w / 2) site site e))

-- ---- the words of the pointer sites

word_of_point : (points : List PointRow) (k j w : ℕ) (d : PointRow) → k < length points → j < 4 → w ≡ 4 * k + j → get_or (point_words points) w 0 ≡ (get_or points k d).address + 4 * j
word_of_point [] k j w d lt few e = absurd (omega (arith, lt))
word_of_point (x ∷ points) zero zero w d lt few e = let is : w ≡ 0 = omega (arith, e) in rw is (let none : x.address ≡ x.address + 4 * 0 = omega arith in none)
word_of_point (x ∷ points) zero (suc zero) w d lt few e = let is : w ≡ 1 = omega (arith, e) in rw is (let one : x.address + 4 ≡ x.address + 4 * 1 = omega arith in one)
word_of_point (x ∷ points) zero (suc (suc zero)) w d lt few e = let is : w ≡ 2 = omega (arith, e) in rw is (let two : x.address + 8 ≡ x.address + 4 * 2 = omega arith in two)
word_of_point (x ∷ points) zero (suc (suc (suc zero))) w d lt few e = let is : w ≡ 3 = omega (arith, e) in rw is (let three : x.address + 12 ≡ x.address + 4 * 3 = omega arith in three)
word_of_point (x ∷ points) zero (suc (suc (suc (suc j)))) w d lt few e = absurd (omega (arith, few))
word_of_point (x ∷ points) (suc k) j zero d lt few e = absurd (omega (arith, e))
word_of_point (x ∷ points) (suc k) j (suc zero) d lt few e = absurd (omega (arith, e))
word_of_point (x ∷ points) (suc k) j (suc (suc zero)) d lt few e = absurd (omega (arith, e))
word_of_point (x ∷ points) (suc k) j (suc (suc (suc zero))) d lt few e = absurd (omega (arith, e))
word_of_point (x ∷ points) (suc k) j (suc (suc (suc (suc w)))) d lt few e = word_of_point points k j w d (omega (arith, lt)) few (omega (arith, e))

pub point_at_word : (points : List PointRow) (w : ℕ) (point : PointRow) → slice_get points (w / 4) ≡ Some point → point.address + 4 * (w % 4) ≡ get_or (point_words points) w 0
point_at_word points w point e =
    sym (word_of_point points (w / 4) (w % 4) w point (slice_get_within points (w / 4) point e) (omega arith) (omega arith)
    ∙ ap (λ (p : PointRow). p.address + 4 * (w % 4)) (get_or_from_slice_get points (w / 4) point point e))

-- ---- one address more

module _ (image : Fields) (some other : Bindings) (pairs found : List Pair) (passed : Passed) where
  entry_count : length (entries image) ≡ length image.functions
  entry_count = length-map image.functions (λ (row : FunctionRow). row.entry)

  -- the pairs at the addresses that are left
  abbrev left_behind : (f w p : ℕ) → List Pair
  left_behind f w p = changes_at image some other (places_left image (record { entries = f; sites = w; points = p }))

  -- what is next, where so many are passed
  abbrev next_entry : ℕ
  next_entry = get_or (entries image) passed.entries 0

  abbrev next_site : ℕ
  next_site = get_or (site_words image.sites) passed.sites 0

  abbrev next_point : ℕ
  next_point = get_or (point_words image.points) passed.points 0

  pub point_found : is_point_next image passed.entries passed.sites passed.points ≡ true → found ≡ pairs ++ change_at image some other next_point
      → found ++ left_behind passed.entries passed.sites (passed.points + 1) ≡ pairs ++ changes_at image some other (places_left image passed)
  point_found next is =
      let told = point_told passed.entries passed.sites passed.points (length image.functions) (2 * length image.sites) (4 * length image.points) next_entry next_site next_point next in
      let lt = told.0 in
      let entries_are = entry_count in
      let sites_are = length_sites image.sites in
      let points_are = length_points image.points in
      let more : passed.points + 1 ≡ suc passed.points = omega arith in
      ap (λ (k : ℕ). found ++ left_behind passed.entries passed.sites k) more
      ∙ one_more (text_of image some) (text_of image other) pairs found next_point (places_left image passed) (places_left image (record { entries = passed.entries; sites = passed.sites; points = suc passed.points })) is
      (third_next (entries image) (site_words image.sites) (point_words image.points) passed.entries passed.sites passed.points (omega (arith, lt, points_are))
      (elim told.1 [ inl le ↦ inl (omega (arith, le, entries_are)) | inr below ↦ inr below ])
      (elim told.2 [ inl le ↦ inl (omega (arith, le, sites_are)) | inr below ↦ inr below ]))

  pub entry_found : is_point_next image passed.entries passed.sites passed.points ≡ false → is_entry_next image passed.entries passed.sites ≡ true → found ≡ pairs ++ change_at image some other next_entry
      → found ++ left_behind (passed.entries + 1) passed.sites passed.points ≡ pairs ++ changes_at image some other (places_left image passed)
  entry_found none next is =
      let told = entry_told passed.entries passed.sites passed.points (length image.functions) (2 * length image.sites) (4 * length image.points) next_entry next_site next_point none next in
      let lt = told.0 in
      let entries_are = entry_count in
      let sites_are = length_sites image.sites in
      let points_are = length_points image.points in
      let more : passed.entries + 1 ≡ suc passed.entries = omega arith in
      let rest : List ℕ = drop passed.points (point_words image.points) in
      ap (λ (k : ℕ). found ++ left_behind k passed.sites passed.points) more
      ∙ one_more (text_of image some) (text_of image other) pairs found next_entry (places_left image passed) (places_left image (record { entries = suc passed.entries; sites = passed.sites; points = passed.points })) is
      (ap (λ (l : List ℕ). merged l rest)
      (first_next (entries image) (site_words image.sites) passed.entries passed.sites (omega (arith, lt, entries_are))
      (elim told.1 [ inl le ↦ inl (omega (arith, le, sites_are)) | inr below ↦ inr below ]))
      ∙ before_second next_entry (merged (drop (suc passed.entries) (entries image)) (drop passed.sites (site_words image.sites))) (point_words image.points) passed.points
      (elim told.2 [ inl le ↦ inl (omega (arith, le, points_are)) | inr below ↦ inr below ]))

  pub site_left : IsPassed image passed → count_passed passed < length image.functions + 2 * length image.sites + 4 * length image.points
      → is_point_next image passed.entries passed.sites passed.points ≡ false → is_entry_next image passed.entries passed.sites ≡ false → passed.sites < 2 * length image.sites
  site_left few left no_point no_entry =
      (site_told passed.entries passed.sites passed.points (length image.functions) (2 * length image.sites) (4 * length image.points) next_entry next_site next_point few.entries few.sites few.points left no_point no_entry).0

  pub site_found : IsPassed image passed → count_passed passed < length image.functions + 2 * length image.sites + 4 * length image.points
      → is_point_next image passed.entries passed.sites passed.points ≡ false → is_entry_next image passed.entries passed.sites ≡ false → found ≡ pairs ++ change_at image some other next_site
      → found ++ left_behind passed.entries (passed.sites + 1) passed.points ≡ pairs ++ changes_at image some other (places_left image passed)
  site_found few left no_point no_entry is =
      let told = site_told passed.entries passed.sites passed.points (length image.functions) (2 * length image.sites) (4 * length image.points) next_entry next_site next_point few.entries few.sites few.points left no_point no_entry in
      let lt = told.0 in
      let entries_are = entry_count in
      let sites_are = length_sites image.sites in
      let points_are = length_points image.points in
      let more : passed.sites + 1 ≡ suc passed.sites = omega arith in
      let rest : List ℕ = drop passed.points (point_words image.points) in
      ap (λ (k : ℕ). found ++ left_behind passed.entries k passed.points) more
      ∙ one_more (text_of image some) (text_of image other) pairs found next_site (places_left image passed) (places_left image (record { entries = passed.entries; sites = suc passed.sites; points = passed.points })) is
      (ap (λ (l : List ℕ). merged l rest)
      (second_next (entries image) (site_words image.sites) passed.entries passed.sites (omega (arith, lt, sites_are))
      (elim told.1 [ inl le ↦ inl (omega (arith, le, entries_are)) | inr above ↦ inr above ]))
      ∙ before_second next_site (merged (drop passed.entries (entries image)) (drop (suc passed.sites) (site_words image.sites))) (point_words image.points) passed.points
      (elim told.2 [ inl le ↦ inl (omega (arith, le, points_are)) | inr below ↦ inr below ]))

  pub none_left : length image.functions ≤ passed.entries → 2 * length image.sites ≤ passed.sites → 4 * length image.points ≤ passed.points → changes_at image some other (places_left image passed) ≡ []
  unfolding merged
  none_left first second third =
      let entries_are = entry_count in
      let sites_are = length_sites image.sites in
      let points_are = length_points image.points in
      ap (pairs_at (text_of image some) (text_of image other))
      (ap₂ merged (none_next (entries image) (site_words image.sites) passed.entries passed.sites (omega (arith, first, entries_are)) (omega (arith, second, sites_are)))
      (drop_all passed.points (point_words image.points) (omega (arith, third, points_are))))
      ∙ none_at (text_of image some) (text_of image other)
