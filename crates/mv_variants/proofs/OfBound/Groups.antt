-- How many rows the groups have.
use Rattle.std.proofs.Common.{arith, ◌≡◌, ℕ, zero, suc, ◌+◌, ◌<◌, ◌≤◌, Bool, true, false, cond, List, [], ◌∷◌, ◌++◌, length, get_or, eqb, refl, sym, ◌∙◌, ap, subst, length-append}
use Rattle.std.specs.Prelude.{slice_get, Some}
use Rattle.std.proofs.lemmas.Bool.{eq-eqb, eqb-true, ne_eqb}
use Rattle.mv_ir.specs.Measures.{joined}
use Rattle.mv_descriptors.specs.declared.rows.GuardRow.{GuardRow}
use Rattle.mv_merge.specs.declared.rows.Domain.{Domain}
use Rattle.mv_merge.specs.declared.rows.Bound.{Bound}
use Rattle.mv_merge.specs.declared.rows.Guarded.{Guarded}
use Rattle.mv_merge.specs.declared.rows.Variants.{Variants}
use Rattle.mv_merge.specs.Guards.{bodies_led_to, IsClean, HasRanges, EachRow, IsMerged}
use Rattle.mv_variants.specs.Bound.Rows.{rows_of, groups_from, groups}
use Rattle.mv_variants.specs.Bound.Tables.{IsGroup, GroupsFit}
use Rattle.mv_variants.proofs.OfBound.Tables.{groups_many}

-- ---- one group

few_rows : (guards : List Guarded) (i : ℕ) → length (rows_of guards i) ≤ length guards
few_rows [] i = omega arith
few_rows (g ∷ guards) i = by (eqb g.body i) (few_rows guards i)
  where
    by : (b : Bool) → length (rows_of guards i) ≤ length guards → length (cond b (g.row ∷ rows_of guards i) (rows_of guards i)) ≤ length (g ∷ guards)
    by true h = let more : suc (length (rows_of guards i)) ≤ suc (length guards) = omega (arith, h) in more
    by false h = let more : length (rows_of guards i) ≤ suc (length guards) = omega (arith, h) in more

some_row : (guards : List Guarded) (i : ℕ) → (k : ℕ) → k < length (bodies_led_to guards) → ((d : ℕ) → get_or (bodies_led_to guards) k d ≡ i) → 0 < length (rows_of guards i)
some_row [] i k lt e = absurd (omega arith)
some_row (g ∷ guards) i zero lt e =
    let same : eqb g.body i ≡ true = eq-eqb g.body i (e 0) in
    let one : 0 < suc (length (rows_of guards i)) = omega arith in
    rw same one
some_row (g ∷ guards) i (suc k) lt e =
    let below : suc k < suc (length (bodies_led_to guards)) = lt in
    by (eqb g.body i) (some_row guards i k (omega arith) e)
  where
    by : (b : Bool) → 0 < length (rows_of guards i) → 0 < length (cond b (g.row ∷ rows_of guards i) (rows_of guards i))
    by true h = let more : 0 < suc (length (rows_of guards i)) = omega arith in more
    by false h = h

each_row : (P : GuardRow → Type 0) (guards : List Guarded) (i : ℕ) → EachRow P guards → (k : ℕ) (row : GuardRow) → slice_get (rows_of guards i) k ≡ Some row → P row
each_row P [] i h k row e = absurd cc
each_row P (g ∷ guards) i h k row e = by (eqb g.body i) (each_row P guards i h.1) k e
  where
    by : (b : Bool) → ((k : ℕ) (row : GuardRow) → slice_get (rows_of guards i) k ≡ Some row → P row) → (k : ℕ) → slice_get (cond b (g.row ∷ rows_of guards i) (rows_of guards i)) k ≡ Some row → P row
    by true rest zero e = let same : g.row ≡ row = cc in subst P same h.0
    by true rest (suc k) e = rest k row e
    by false rest k e = rest k row e

-- ---- all groups

group_is : (guards : List Guarded) (i k j : ℕ) (group : List GuardRow) → slice_get (groups_from guards i k) j ≡ Some group → (j < k) × (group ≡ rows_of guards (i + j))
group_is guards i zero j group e = absurd cc
group_is guards i (suc k) zero group e = let same : rows_of guards i ≡ group = cc in (omega arith, sym same ∙ let z : i ≡ i + 0 = omega arith in ap (rows_of guards) z)
group_is guards i (suc k) (suc j) group e =
    let rest = group_is guards (suc i) k j group e in
    (omega (arith, rest.0), rest.1 ∙ let z : suc i + j ≡ i + suc j = omega arith in ap (rows_of guards) z)

other_groups : (g : Guarded) (guards : List Guarded) (i k : ℕ) → g.body < i → groups_from (g ∷ guards) i k ≡ groups_from guards i k
other_groups g guards i zero lt = refl
other_groups g guards i (suc k) lt =
    let apart : eqb g.body i ≡ false = ne_eqb g.body i (λ e. omega (arith, e)) in
    ap (λ b. cond b (g.row ∷ rows_of guards i) (rows_of guards i) ∷ groups_from (g ∷ guards) (suc i) k) apart ∙ ap (λ l. rows_of guards i ∷ l) (other_groups g guards (suc i) k (omega arith))

one_more : (g : Guarded) (guards : List Guarded) (i k : ℕ) → length (joined (groups_from (g ∷ guards) i k)) ≤ suc (length (joined (groups_from guards i k)))
one_more g guards i zero = omega arith
one_more g guards i (suc k) = by (eqb g.body i) refl (one_more g guards (suc i) k)
  where
    by : (b : Bool) → eqb g.body i ≡ b → length (joined (groups_from (g ∷ guards) (suc i) k)) ≤ suc (length (joined (groups_from guards (suc i) k))) →
        length (cond b (g.row ∷ rows_of guards i) (rows_of guards i) ++ joined (groups_from (g ∷ guards) (suc i) k)) ≤ suc (length (rows_of guards i ++ joined (groups_from guards (suc i) k)))
    by true e h =
        let same : g.body ≡ i = eqb-true g.body i e in
        let others : length (joined (groups_from (g ∷ guards) (suc i) k)) ≡ length (joined (groups_from guards (suc i) k)) = ap (λ l. length (joined l)) (other_groups g guards (suc i) k (omega (arith, same))) in
        let longer : length (g.row ∷ rows_of guards i) ≡ suc (length (rows_of guards i)) = refl in
        omega (arith, length-append (g.row ∷ rows_of guards i) (joined (groups_from (g ∷ guards) (suc i) k)), length-append (rows_of guards i) (joined (groups_from guards (suc i) k)), others, longer)
    by false e h = omega (arith, length-append (rows_of guards i) (joined (groups_from (g ∷ guards) (suc i) k)), length-append (rows_of guards i) (joined (groups_from guards (suc i) k)), h)

none_in : (i k : ℕ) → length (joined (groups_from [] i k)) ≡ 0
none_in i zero = refl
none_in i (suc k) = none_in (suc i) k

together : (guards : List Guarded) (i k : ℕ) → length (joined (groups_from guards i k)) ≤ length guards
together [] i k = let e = none_in i k in omega (arith, e)
together (g ∷ guards) i k =
    let rest = together guards i k in
    let more = one_more g guards i k in
    let all : length (joined (groups_from (g ∷ guards) i k)) ≤ suc (length guards) = omega (arith, rest, more) in
    all

-- no more groups than rows where none is empty
as_many : (xss : List (List GuardRow)) → ((j : ℕ) (xs : List GuardRow) → slice_get xss j ≡ Some xs → 0 < length xs) → length xss ≤ length (joined xss)
as_many [] h = omega arith
as_many (xs ∷ xss) h =
    let here = h 0 xs refl in
    let rest = as_many xss (λ j ys e. h (suc j) ys e) in
    let all : suc (length xss) ≤ length (xs ++ joined xss) = omega (arith, here, rest, length-append xs (joined xss)) in
    all

each_fits : (domains : List Domain) (rows : List Bound) (variants : Variants) → IsMerged domains rows variants → (j : ℕ) (group : List GuardRow) → slice_get (groups variants) j ≡ Some group → IsGroup domains (length rows) group
each_fits domains rows variants merged j group e =
    let is = group_is variants.guards 0 (length variants.bodies) j group e in
    let same : group ≡ rows_of variants.guards j = is.1 ∙ let z : 0 + j ≡ j = omega arith in ap (rows_of variants.guards) z in
    let used = merged.used j is.0 in
    let count = merged.count in
    subst (IsGroup domains (length rows)) (sym same) (record {
      some = some_row variants.guards j used.0 used.1 used.2;
      few = omega (arith, few_rows variants.guards j, count);
      ranges = each_row (HasRanges domains) variants.guards j merged.ranges;
      clean = each_row (IsClean domains) variants.guards j merged.clean;
    })

pub groups_fit : GroupsFit
groups_fit domains rows variants merged =
    let each = each_fits domains rows variants merged in
    let all : length (joined (groups variants)) ≤ length rows = omega (arith, together variants.guards 0 (length variants.bodies), merged.count) in
    record {
      many = groups_many variants;
      each = each;
      together = all;
      bodies = omega (arith, all, as_many (groups variants) (λ j xs e. (each j xs e).some), groups_many variants);
    }
