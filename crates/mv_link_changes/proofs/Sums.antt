-- Sums over functions, sites, pointer sites and addresses.
use Rattle.std.proofs.Common.{◌≡◌, ◌≢◌, ℕ, suc, ◌+◌, ◌*◌, ◌<◌, ◌≤◌, Bool, true, false, if◌then◌else◌, eqb, ltb, List, [], ◌∷◌, length, map, get_or, refl, sym, ap, ◌∙◌, subst, arith}
use Rattle.std.proofs.lemmas.Bool.{cond_both, eqb-true, ne_eqb}
use Rattle.std.proofs.lemmas.List.{length-append}
use Rattle.mv_descriptors.specs.declared.rows.FunctionRow.{FunctionRow}
use Rattle.mv_descriptors.specs.declared.rows.SiteRow.{SiteRow}
use Rattle.mv_descriptors.specs.declared.rows.PointRow.{PointRow}
use Rattle.mv_patch.specs.Pairs.{pair_of}
use Rattle.mv_patch.specs.Tables.{site_words, point_words, merged_behind, merged, word_of, change, pairs_at}
use Rattle.mv_link_changes.specs.Changed.{sites_of, points_of, sum_from}

abbrev pub total : {R : Type 0} → (R → ℕ) → List R → ℕ
total g [] = 0
total g (x ∷ xs) = g x + total g xs

pub total_least : {R : Type 0} (h g : R → ℕ) (d : R) (xs : List R) → ((i : ℕ) → i < length xs → h (get_or xs i d) ≤ g (get_or xs i d)) → total h xs ≤ total g xs
total_least h g d [] le = omega arith
total_least h g d (x ∷ xs) le =
    let here : h x ≤ g x = le 0 (omega arith) in
    let rest = total_least h g d xs (λ i lt. le (suc i) (omega (arith, lt))) in omega (arith, here, rest)

pub total_none : (g : ℕ → ℕ) (xs : List ℕ) → ((i : ℕ) → i < length xs → g (get_or xs i 0) ≡ 0) → total g xs ≡ 0
total_none g [] none = refl
total_none g (x ∷ xs) none =
    let here : g x ≡ 0 = none 0 (omega arith) in
    let rest = total_none g xs (λ i lt. none (suc i) (omega (arith, lt))) in omega (arith, here, rest)

total_four : {R : Type 0} (g : R → ℕ) (xs : List R) → total (λ x. 4 * g x) xs ≡ 4 * total g xs
total_four g [] = refl
total_four g (x ∷ xs) = let rest = total_four g xs in omega (arith, rest)

-- ---- the pairs at addresses, and addresses that are merged

-- how many pairs there are at an address
abbrev pub differs : (old new : List ℕ) → ℕ → ℕ
differs old new a = length (change a (word_of old a) (word_of new a))

pub pairs_total : (old new places : List ℕ) → length (pairs_at old new places) ≡ total (differs old new) places
unfolding pairs_at
pairs_total old new [] = refl
pairs_total old new (a ∷ places) =
    length-append (change a (word_of old a) (word_of new a)) (pairs_at old new places) ∙ ap (λ (n : ℕ). differs old new a + n) (pairs_total old new places)

pub differs_one : (old new : List ℕ) (a : ℕ) → word_of old a ≢ word_of new a → differs old new a ≡ 1
differs_one old new a ne = ap (λ (b : Bool). length (if b then [] else (pair_of a (word_of new a) ∷ []))) (ne_eqb (word_of old a) (word_of new a) ne)

behind_total : (g : ℕ → ℕ) (x : ℕ) (later : List ℕ → List ℕ) (s : ℕ) (ys : List ℕ) → ((zs : List ℕ) → total g (later zs) ≡ s + total g zs)
    → total g (merged_behind x later ys) ≡ g x + (s + total g ys)
behind_total g x later s [] e = let q = e [] in omega (arith, q)
behind_total g x later s (y ∷ ys) e =
    cond_both (ltb x y) (x ∷ later (y ∷ ys)) (y ∷ merged_behind x later ys) (λ (zs : List ℕ). total g zs ≡ g x + (s + total g (y ∷ ys)))
    (λ t. (let q = e (y ∷ ys) in omega (arith, q)))
    (λ t. (let q = behind_total g x later s ys e in omega (arith, q)))

pub merged_total : (g : ℕ → ℕ) (xs ys : List ℕ) → total g (merged xs ys) ≡ total g xs + total g ys
unfolding merged
merged_total g [] ys = omega arith
merged_total g (x ∷ xs) ys = let q = behind_total g x (merged xs) (total g xs) ys (λ zs. merged_total g xs zs) in omega (arith, q)

pub entries_total : (g : ℕ → ℕ) (rows : List FunctionRow) → total g (map (λ (row : FunctionRow). row.entry) rows) ≡ total (λ (row : FunctionRow). g row.entry) rows
entries_total g [] = refl
entries_total g (row ∷ rows) = ap (λ (n : ℕ). g row.entry + n) (entries_total g rows)

pub sites_total : (g : ℕ → ℕ) (sites : List SiteRow) → total (λ (site : SiteRow). g site.address) sites ≤ total g (site_words sites)
sites_total g [] = omega arith
sites_total g (site ∷ sites) = let rest = sites_total g sites in omega (arith, rest)

-- the sum over the four words of a pointer site
abbrev pub four : (ℕ → ℕ) → PointRow → ℕ
four g point = g point.address + (g (point.address + 4) + (g (point.address + 8) + g (point.address + 12)))

pub points_total : (g : ℕ → ℕ) (points : List PointRow) → total (four g) points ≡ total g (point_words points)
points_total g [] = refl
points_total g (point ∷ points) = let rest = points_total g points in omega (arith, rest)

-- ---- sums over the numbers of functions, or of pointer switches

pub functions_least : (h : ℕ → ℕ) (g : FunctionRow → ℕ) (d : FunctionRow) (f : ℕ) (rows : List FunctionRow) → ((i : ℕ) → i < length rows → h (f + i) ≤ g (get_or rows i d)) → sum_from h f rows ≤ total g rows
functions_least h g d f [] le = omega arith
functions_least h g d f (row ∷ rows) le =
    let first : f + 0 ≡ f = omega arith in
    let here : h f ≤ g row = subst (λ (k : ℕ). h k ≤ g row) first (le 0 (omega arith)) in
    let rest = functions_least h g d (suc f) rows
    (λ i lt. (let on : f + suc i ≡ suc f + i = omega arith in subst (λ (k : ℕ). h k ≤ g (get_or rows i d)) on (le (suc i) (omega (arith, lt))))) in
    omega (arith, here, rest)

sum_least : {A : Type 0} (h k : ℕ → ℕ) (f : ℕ) (rows : List A) → ((i : ℕ) → h i ≤ k i) → sum_from h f rows ≤ sum_from k f rows
sum_least h k f [] le = omega arith
sum_least h k f (row ∷ rows) le = let here = le f in let rest = sum_least h k (suc f) rows le in omega (arith, here, rest)

sum_both : {A : Type 0} (h k : ℕ → ℕ) (f : ℕ) (rows : List A) → sum_from (λ i. h i + k i) f rows ≡ sum_from h f rows + sum_from k f rows
sum_both h k f [] = refl
sum_both h k f (row ∷ rows) = let rest = sum_both h k (suc f) rows in omega (arith, rest)

sum_four : {A : Type 0} (h : ℕ → ℕ) (f : ℕ) (rows : List A) → sum_from (λ i. 4 * h i) f rows ≡ 4 * sum_from h f rows
sum_four h f [] = refl
sum_four h f (row ∷ rows) = let rest = sum_four h (suc f) rows in omega (arith, rest)

-- ---- a test of numbers

never : (b : Bool) → ◌≡◌ {A = ℕ} (if b then 0 else 0) 0
never true = refl
never false = refl

module _ (test : ℕ → Bool) where
  abbrev pub passes : ℕ → ℕ
  passes f = if test f then 1 else 0

  -- one, where a number that passes is the one
  abbrev hit : (s i : ℕ) → ℕ
  hit s i = if test i then (if eqb s i then 1 else 0) else 0

  miss : (s i : ℕ) → s ≢ i → hit s i ≡ 0
  miss s i ne = ap (λ (b : Bool). if test i then (if b then 1 else 0) else 0) (ne_eqb s i ne) ∙ never (test i)

  hit_least : (s i : ℕ) → hit s i ≤ passes i
  hit_least s i = by_tests (test i) (eqb s i)
    where
      by_tests : (b c : Bool) → (if b then (if c then 1 else 0) else 0) ≤ (if b then 1 else 0)
      by_tests true true = omega arith
      by_tests true false = omega arith
      by_tests false c = omega arith

  misses : {A : Type 0} (s f : ℕ) (rows : List A) → s < f → sum_from (hit s) f rows ≡ 0
  misses s f [] lt = refl
  misses s f (row ∷ rows) lt =
      let here = miss s f (λ e. omega (arith, e, lt)) in
      let rest = misses s (suc f) rows (omega (arith, lt)) in omega (arith, here, rest)

  hits : {A : Type 0} (s f : ℕ) (rows : List A) → sum_from (hit s) f rows ≤ passes s
  hits s f [] = omega arith
  hits s f (row ∷ rows) = by_test (hits s (suc f) rows) (eqb s f) refl
    where
      by_test : sum_from (hit s) (suc f) rows ≤ passes s → (b : Bool) → eqb s f ≡ b → hit s f + sum_from (hit s) (suc f) rows ≤ passes s
      by_test later true e =
          let same : s ≡ f = eqb-true s f e in
          let here : hit s f ≤ passes s = subst (λ (i : ℕ). hit s f ≤ passes i) (sym same) (hit_least s f) in
          let rest = misses s (suc f) rows (omega (arith, same)) in omega (arith, here, rest)
      by_test later false e =
          let here : hit s f ≡ 0 = ap (λ (b : Bool). if test f then (if b then 1 else 0) else 0) e ∙ never (test f) in omega (arith, here, later)

  -- ---- rows that each are of a number, and how many of some are of one

  module _ (R : Type 0) (key : R → ℕ) (count : ℕ → List R → ℕ) (none : (i : ℕ) → count i [] ≡ 0)
      (more : (i : ℕ) (x : R) (xs : List R) → count i (x ∷ xs) ≡ (if eqb (key x) i then 1 else 0) + count i xs) where
    abbrev counted : List R → ℕ → ℕ
    counted xs i = if test i then count i xs else 0

    split : (x : R) (xs : List R) (i : ℕ) → counted (x ∷ xs) i ≤ hit (key x) i + counted xs i
    split x xs i = by_test (test i)
      where
        by_test : (b : Bool) → (if b then count i (x ∷ xs) else 0) ≤ (if b then (if eqb (key x) i then 1 else 0) else 0) + (if b then count i xs else 0)
        by_test true = omega (arith, more i x xs)
        by_test false = omega arith

    nothing : {A : Type 0} (f : ℕ) (rows : List A) → sum_from (counted []) f rows ≡ 0
    nothing f [] = refl
    nothing f (row ∷ rows) =
        let rest = nothing (suc f) rows in
        let here : counted [] f ≡ 0 = ap {B = ℕ} (λ (n : ℕ). if test f then n else 0) (none f) ∙ never (test f) in omega (arith, here, rest)

    -- those of numbers that pass
    counted_least : {A : Type 0} (f : ℕ) (rows : List A) (xs : List R) → sum_from (counted xs) f rows ≤ total (λ (x : R). passes (key x)) xs
    counted_least f rows [] = let e = nothing f rows in omega (arith, e)
    counted_least f rows (x ∷ xs) =
        let parts = sum_least (counted (x ∷ xs)) (λ i. hit (key x) i + counted xs i) f rows (split x xs) in
        let both = sum_both (hit (key x)) (counted xs) f rows in
        let first = hits (key x) f rows in
        let rest = counted_least f rows xs in omega (arith, parts, both, first, rest)

  -- the functions that pass, and their sites
  pub each_least : (sites : List SiteRow) (f : ℕ) (rows : List FunctionRow)
      → sum_from (λ i. if test i then 1 + sites_of i sites else 0) f rows ≤ sum_from passes f rows + total (λ (site : SiteRow). passes site.function) sites
  each_least sites f rows =
      let of_sites : ℕ → ℕ = λ i. if test i then sites_of i sites else 0 in
      let parts = sum_least (λ i. if test i then 1 + sites_of i sites else 0) (λ i. passes i + of_sites i) f rows (λ i. by_test i (test i)) in
      let both = sum_both passes of_sites f rows in
      let rest = counted_least SiteRow (λ (site : SiteRow). site.function) sites_of (λ i. refl) (λ i x xs. refl) f rows sites in omega (arith, parts, both, rest)
    where
      by_test : (i : ℕ) (b : Bool) → (if b then 1 + sites_of i sites else 0) ≤ (if b then 1 else 0) + (if b then sites_of i sites else 0)
      by_test i true = omega arith
      by_test i false = omega arith

  -- the pointer sites of the pointer switches that pass, four times
  pub through_least : {A : Type 0} (points : List PointRow) (q : ℕ) (rows : List A)
      → sum_from (λ i. if test i then 4 * points_of i points else 0) q rows ≤ total (λ (point : PointRow). 4 * passes point.pointer) points
  through_least points q rows =
      let of_points : ℕ → ℕ = λ i. if test i then points_of i points else 0 in
      let parts = sum_least (λ i. if test i then 4 * points_of i points else 0) (λ i. 4 * of_points i) q rows (λ i. by_test i (test i)) in
      let fours = sum_four of_points q rows in
      let all = total_four (λ (point : PointRow). passes point.pointer) points in
      let rest = counted_least PointRow (λ (point : PointRow). point.pointer) points_of (λ i. refl) (λ i x xs. refl) q rows points in omega (arith, parts, fours, all, rest)
    where
      by_test : (i : ℕ) (b : Bool) → (if b then 4 * points_of i points else 0) ≤ 4 * (if b then points_of i points else 0)
      by_test i true = omega arith
      by_test i false = omega arith
