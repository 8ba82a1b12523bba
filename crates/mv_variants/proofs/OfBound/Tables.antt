-- The rows of one function among those of all.
use Rattle.std.proofs.Common.{arith, ◌≡◌, ℕ, zero, suc, ◌+◌, ◌<◌, ◌≤◌, List, [], ◌∷◌, ◌++◌, length, take, drop, refl, sym, ◌∙◌, ap, subst, length-append}
use Rattle.std.specs.Prelude.{slice_get, Some, sum_by}
use Rattle.std.proofs.Math.Seq.{drop-append_seam}
use Rattle.std.proofs.lemmas.List.Sums.{sum_by-cons}
use Rattle.mv_ast.proofs.Common.{get_drop}
use Rattle.mv_ir.specs.Measures.{joined}
use Rattle.mv_descriptors.specs.declared.rows.FunctionRow.{FunctionRow}
use Rattle.mv_descriptors.specs.declared.rows.VariantRow.{VariantRow}
use Rattle.mv_descriptors.specs.declared.rows.GuardRow.{GuardRow}
use Rattle.mv_descriptors.specs.Guards.{holds, fitting}
use Rattle.mv_image.specs.Spelling.{Fields}
use Rattle.mv_image.specs.Patched.{variants_before, guards_before, kinds_of, fitting_variant}
use Rattle.mv_merge.specs.declared.rows.Variants.{Variants}
use Rattle.mv_variants.specs.Bound.Rows.{groups_from, groups, AreCounted, Leads}
use Rattle.mv_variants.specs.Bound.Tables.{HaveVariants, HasTables, VariantsAreLed}
use Rattle.mv_variants.proofs.OfBound.Fitting.{is_led}
use Rattle.mv_ir.proofs.Lists.{joined_append}

-- ---- lists of lists

-- a list is what is before an item, the item, and the rest
split_at : {A : Type 0} (xs : List A) (n : ℕ) (x : A) → slice_get xs n ≡ Some x → xs ≡ take n xs ++ (x ∷ drop (suc n) xs)
split_at [] n x h = absurd cc
split_at (y ∷ ys) zero x h = let e : y ≡ x = cc in ap (λ z. z ∷ ys) e
split_at (y ∷ ys) (suc n) x h = ap (λ l. y ∷ l) (split_at ys n x h)

-- ---- counts

counted_length : (all : List (List GuardRow)) (vrows : List VariantRow) → AreCounted all vrows → length vrows ≡ length all
counted_length [] [] c = refl
counted_length [] (v ∷ vrows) c = absurd c
counted_length (rows ∷ all) [] c = absurd c
counted_length (rows ∷ all) (v ∷ vrows) c = ap suc (counted_length all vrows c.1)

counted_left : (xs ys : List (List GuardRow)) (vrows : List VariantRow) → AreCounted (xs ++ ys) vrows → AreCounted xs (take (length xs) vrows)
counted_left [] ys vrows c = tt
counted_left (x ∷ xs) ys [] c = absurd c
counted_left (x ∷ xs) ys (v ∷ vrows) c = (c.0, counted_left xs ys vrows c.1)

counted_right : (xs ys : List (List GuardRow)) (vrows : List VariantRow) → AreCounted (xs ++ ys) vrows → AreCounted ys (drop (length xs) vrows)
counted_right [] ys vrows c = c
counted_right (x ∷ xs) ys [] c = absurd c
counted_right (x ∷ xs) ys (v ∷ vrows) c = counted_right xs ys vrows c.1

counted_sum : (xs : List (List GuardRow)) (vrows : List VariantRow) → AreCounted xs vrows → sum_by (λ (row : VariantRow). row.guards) vrows ≡ length (joined xs)
counted_sum [] [] c = refl
counted_sum [] (v ∷ vrows) c = absurd c
counted_sum (x ∷ xs) [] c = absurd c
counted_sum (x ∷ xs) (v ∷ vrows) c =
    sum_by-cons (λ (row : VariantRow). row.guards) v vrows ∙ ap (λ n. n + sum_by (λ (row : VariantRow). row.guards) vrows) c.0 ∙ ap (λ n. length x + n) (counted_sum xs vrows c.1) ∙ sym (length-append x (joined xs))

variants_sum : (tables : List (List (List GuardRow))) (rows : List FunctionRow) (n : ℕ) → HaveVariants tables rows → sum_by (λ (row : FunctionRow). row.variants) (take n rows) ≡ length (joined (take n tables))
variants_sum [] [] zero h = refl
variants_sum [] [] (suc n) h = refl
variants_sum [] (r ∷ rows) n h = absurd h
variants_sum (t ∷ tables) [] n h = absurd h
variants_sum (t ∷ tables) (r ∷ rows) zero h = refl
variants_sum (t ∷ tables) (r ∷ rows) (suc n) h =
    sum_by-cons (λ (row : FunctionRow). row.variants) r (take n rows) ∙ ap (λ k. k + sum_by (λ (row : FunctionRow). row.variants) (take n rows)) h.0
    ∙ ap (λ k. length t + k) (variants_sum tables rows n h.1) ∙ sym (length-append t (joined (take n tables)))

variants_there : (tables : List (List (List GuardRow))) (rows : List FunctionRow) (n : ℕ) (t : List (List GuardRow)) (row : FunctionRow) →
    HaveVariants tables rows → slice_get tables n ≡ Some t → slice_get rows n ≡ Some row → row.variants ≡ length t
variants_there [] rows n t row h e f = absurd cc
variants_there (s ∷ tables) [] n t row h e f = absurd h
variants_there (s ∷ tables) (r ∷ rows) zero t row h e f =
    let same : s ≡ t = cc in
    let same_row : r ≡ row = cc in
    ap (λ (x : FunctionRow). x.variants) (sym same_row) ∙ h.0 ∙ ap length same
variants_there (s ∷ tables) (r ∷ rows) (suc n) t row h e f = variants_there tables rows n t row h.1 e f

pub groups_many : (variants : Variants) → length (groups variants) ≡ length variants.bodies
groups_many variants = by 0 (length variants.bodies)
  where
    by : (i k : ℕ) → length (groups_from variants.guards i k) ≡ k
    by i zero = refl
    by i (suc k) = ap suc (by (suc i) k)

-- ---- items

get_take : {A : Type 0} (n j : ℕ) (xs : List A) → j < n → slice_get (take n xs) j ≡ slice_get xs j
get_take zero j xs lt = absurd (omega arith)
get_take (suc n) j [] lt = refl
get_take (suc n) zero (x ∷ xs) lt = refl
get_take (suc n) (suc j) (x ∷ xs) lt = get_take n j xs (omega arith)

-- ---- one function's rows

module _ (image : Fields) (tables : List (List (List GuardRow))) (has : HasTables image tables) (n : ℕ) (table : List (List GuardRow)) (at : slice_get tables n ≡ Some table) where
  abbrev before : List (List GuardRow)
  before = joined (take n tables)

  abbrev behind : List (List GuardRow)
  behind = joined (drop (suc n) tables)

  abbrev first : ℕ
  first = variants_before image n

  first_is : first ≡ length before
  first_is = variants_sum tables image.functions n has.functions

  all_is : joined tables ≡ before ++ (table ++ behind)
  all_is = ap joined (split_at tables n table at) ∙ joined_append (take n tables) (table ∷ drop (suc n) tables)

  counted_from : AreCounted (before ++ (table ++ behind)) image.variants
  counted_from = subst (λ l. AreCounted l image.variants) all_is has.variants

  counted_before : AreCounted before (take first image.variants)
  counted_before = subst (λ k. AreCounted before (take k image.variants)) (sym first_is) (counted_left before (table ++ behind) image.variants counted_from)

  counted_here : (count : ℕ) → count ≡ length table → AreCounted table (take count (drop first image.variants))
  counted_here count e =
      subst (λ k. AreCounted table (take count (drop k image.variants))) (sym first_is)
      (subst (λ k. AreCounted table (take k (drop (length before) image.variants))) (sym e) (counted_left table behind (drop (length before) image.variants) (counted_right before (table ++ behind) image.variants counted_from)))

  guards_is : guards_before image first ≡ length (joined before)
  guards_is = counted_sum before (take first image.variants) counted_before

  guards_here : drop (guards_before image first) image.guards ≡ joined table ++ joined behind
  guards_here =
      ap (λ k. drop k image.guards) guards_is ∙ ap (drop (length (joined before))) (has.guards ∙ ap joined all_is ∙ joined_append before (table ++ behind))
      ∙ drop-append_seam (joined before) (joined (table ++ behind)) ∙ joined_append table behind

  within_all : first + length table ≤ length image.variants
  within_all = omega (arith, first_is, counted_length (before ++ (table ++ behind)) image.variants counted_from, length-append before (table ++ behind), length-append table behind)

  fitting_is : (vs : List ℕ) (row : FunctionRow) → slice_get image.functions n ≡ Some row → fitting_variant image n vs ≡ fitting
      (holds (kinds_of image row) vs) first (take row.variants (drop first image.variants)) (joined table ++ joined behind)
  unfolding fitting_variant
  fitting_is vs row e = rw e (ap (fitting (holds (kinds_of image row) vs) first (take row.variants (drop first image.variants))) guards_here)

pub variants_led : VariantsAreLed
variants_led image tables has domains rows variants all merged n row at there same =
    let count = variants_there tables image.functions n (groups variants) row has.functions at there in
    let many : row.variants ≡ length variants.bodies = count ∙ groups_many variants in
    record {
      leads = λ vs values.
          let is = fitting_is image tables has n (groups variants) at vs row there ∙ ap (λ ks. fitting (holds ks vs) (variants_before image n)
          (take row.variants (drop (variants_before image n) image.variants)) (joined (groups variants) ++ joined
          (behind image tables has n (groups variants) at))) same in
          subst (Leads domains rows variants.bodies (variants_before image n) vs) (sym is)
          (is_led domains rows variants all merged (take row.variants (drop (variants_before image n) image.variants)) (counted_here image tables has n (groups variants) at row.variants count)
          (variants_before image n) (joined (behind image tables has n (groups variants) at)) vs values);
      own = λ j lt. sym (get_take row.variants j (drop (variants_before image n) image.variants) (omega (arith, many, lt)) ∙ get_drop (variants_before image n) j image.variants);
      there = omega (arith, within_all image tables has n (groups variants) at, groups_many variants);
      many = many;
    }
