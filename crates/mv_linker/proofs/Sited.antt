-- The sites and pointer sites of linked lines: one for each slot, in order.
use Rattle.std.proofs.Common.{◌≡◌, ℕ, zero, suc, ◌+◌, ◌*◌, ◌<◌, ◌++◌, true, false, Option, Some, None, List, [], ◌∷◌, length, map, slice_get, get_or, eqb, cond, Bool, All, count_by, refl, ap, sym, ◌∙◌, subst, arith, eq-eqb}
use Rattle.std.specs.Prelude.{sum_by, is_some}
use Rattle.std.proofs.lemmas.List.{length-map}
use Rattle.std.proofs.lemmas.List.Elements.{All-nil, All-cons, All-append, All-head, All-tail, All-map, All-from_recursion}
use Rattle.std.proofs.lemmas.List.Sums.{sum_by-append, sum_by-cons}
use Rattle.std.proofs.lemmas.Bool.{eqb-true}
use Rattle.std.proofs.lemmas.Bool.Decides.{nat_tests}
use Rattle.std.proofs.lemmas.Option.{slice_get_within}
use Rattle.mv_descriptors.specs.declared.rows.SiteRow.{SiteRow}
use Rattle.mv_descriptors.specs.declared.rows.PointRow.{PointRow}
use Rattle.mv_isa.specs.declared.labelled.Labelled.{Labelled}
use Rattle.mv_isa.specs.declared.labelled.Line.{Line}
use Rattle.mv_isa.specs.declared.labelled.Line.TheVariants.{Word, Label, Jump, Branch, Entry, Slot, Point}
use Rattle.mv_isa.specs.Code.{line_at}
use Rattle.mv_linker.specs.declared.parts.Parts.{Parts}
use Rattle.mv_linker.specs.Linked.{codes, relabelled, start_lines, trap_lines, commit_lines, check_lines, stub_lines, has_pointers, function_part, function_parts, linked_lines}
use Rattle.mv_linker.specs.Tables.{is_slot, slot_count, is_point, point_count, site_weight, site_count, place_among, sites_from, points_from, pointer_address, pointer_addresses, CallsAmong, GoesThrough, FitTables}
use Rattle.mv_linker.proofs.Entered.{relabelled_slot, relabelled_point}
use Rattle.mv_linker.proofs.Fits.{stubs_all}

-- ---- how many there are

-- how many lines pass a test that no label passes, and that renaming keeps
module _ (test : Line → Bool) (label : (l : ℕ) → test (Label l) ≡ false) (renamed : (first count : ℕ) (x : Line) → test (relabelled first count x) ≡ test x) where
  passes_cons : (x : Line) (xs : List Line) → count_by test (x ∷ xs) ≡ count_by test (x ∷ []) + count_by test xs
  passes_cons x xs = sum_by-append (λ y. cond (test y) 1 0) (x ∷ []) xs

  passes_append : (xs ys : List Line) → count_by test (xs ++ ys) ≡ count_by test xs + count_by test ys
  passes_append xs ys = sum_by-append (λ y. cond (test y) 1 0) xs ys

  renamed_passes : (first count : ℕ) (xs : List Line) → count_by test (map (relabelled first count) xs) ≡ count_by test xs
  renamed_passes first count [] = refl
  renamed_passes first count (x ∷ xs) =
      let here : count_by test (relabelled first count x ∷ []) ≡ count_by test (x ∷ []) = ap (λ b. 0 + cond b 1 0) (renamed first count x) in
      omega (arith, here, renamed_passes first count xs, passes_cons x xs, passes_cons (relabelled first count x) (map (relabelled first count) xs))

  parts_passes : (f first : ℕ) (xs : List Labelled) → count_by test (function_parts f first xs) ≡ sum_by (λ (code : Labelled). count_by test code.items) xs
  parts_passes f first [] = refl
  parts_passes f first (x ∷ xs) =
      let part = function_part f first x in
      let rest = function_parts (f + 1) (first + x.labels) xs in
      let none : count_by test (Label f ∷ []) ≡ 0 = ap (λ b. 0 + cond b 1 0) (label f) in
      omega (
        arith,
        passes_append part rest,
        passes_cons (Label f) (map (relabelled first x.labels) x.items),
        none,
        renamed_passes first x.labels x.items,
        parts_passes (f + 1) (first + x.labels) xs,
        sum_by-cons (λ (code : Labelled). count_by test code.items) x xs,
      )

  -- the linked lines have those of the codes, where the stubs have none
  passes_of_codes : (parts : Parts) → count_by test (stub_lines parts.main (has_pointers parts)) ≡ 0 → count_by test (linked_lines parts) ≡ sum_by (λ (code : Labelled). count_by test code.items) (codes parts)
  passes_of_codes parts none =
      let rest = function_parts 0 (length (codes parts)) (codes parts) in
      omega (arith, none, passes_append (stub_lines parts.main (has_pointers parts)) rest, parts_passes 0 (length (codes parts)) (codes parts))

no_slots : (main : ℕ) (checks : Bool) → slot_count (stub_lines main checks) ≡ 0
no_slots main true = refl
no_slots main false = refl

no_points : (main : ℕ) (checks : Bool) → point_count (stub_lines main checks) ≡ 0
no_points main true = refl
no_points main false = refl

weights : (xs : List Labelled) → sum_by (λ (code : Labelled). site_weight code.items) xs
    ≡ sum_by (λ (code : Labelled). slot_count code.items) xs + 2 * sum_by (λ (code : Labelled). point_count code.items) xs
weights [] = refl
weights (x ∷ xs) =
    omega (
      arith,
      weights xs,
      sum_by-cons (λ (code : Labelled). site_weight code.items) x xs,
      sum_by-cons (λ (code : Labelled). slot_count code.items) x xs,
      sum_by-cons (λ (code : Labelled). point_count code.items) x xs,
    )

pub slots_of_codes : (parts : Parts) → site_weight (linked_lines parts) ≡ site_count parts
slots_of_codes parts =
    let slots = passes_of_codes is_slot (λ l. refl) relabelled_slot parts (no_slots parts.main (has_pointers parts)) in
    let points = passes_of_codes is_point (λ l. refl) relabelled_point parts (no_points parts.main (has_pointers parts)) in
    omega (arith, slots, points, weights (codes parts))

-- ---- what slots name

-- what holds of each line of the codes holds of all lines
module _ (P : Line → Type 0) (label : (l : ℕ) → P (Label l)) (renamed : (first count : ℕ) (x : Line) → P x → P (relabelled first count x)) where
  parts_all : (f first : ℕ) (xs : List Labelled) → All (λ (code : Labelled). All P code.items) xs → All P (function_parts f first xs)
  parts_all f first [] all = All-nil P
  parts_all f first (x ∷ xs) all =
      let here = All-head (λ (code : Labelled). All P code.items) x xs all in
      All-append P (function_part f first x) (function_parts (f + 1) (first + x.labels) xs)
      (All-cons P (Label f) (map (relabelled first x.labels) x.items) (label f)
      (All-map P (relabelled first x.labels) x.items (λ k d l. renamed first x.labels _ (here k d l))))
      (parts_all (f + 1) (first + x.labels) xs (All-tail (λ (code : Labelled). All P code.items) x xs all))

module _ (ns : List ℕ) where
  renamed_calls : (first count : ℕ) (x : Line) → CallsAmong ns x → CallsAmong ns (relabelled first count x)
  renamed_calls first count (Word i) h = h
  renamed_calls first count (Label l) h = h
  renamed_calls first count (Jump rd l) h = h
  renamed_calls first count (Branch funct3 a b l) h = h
  renamed_calls first count (Entry rd f) h = h
  renamed_calls first count (Slot f) h = h
  renamed_calls first count (Point a) h = h

  -- each slot calls one of some functions
  pub lines_call : (parts : Parts) → All (λ (code : Labelled). All (CallsAmong ns) code.items) (codes parts) → All (CallsAmong ns) (linked_lines parts)
  lines_call parts all =
      All-append (CallsAmong ns) (stub_lines parts.main (has_pointers parts)) (function_parts 0 (length (codes parts)) (codes parts))
      (stubs_all (CallsAmong ns) parts.main
      (All-from_recursion (CallsAmong ns) (start_lines parts.main) (tt, (tt, (tt, (tt, (tt, (tt, (tt, (tt, (tt, tt))))))))))
      (λ c le. All-from_recursion (CallsAmong ns) (trap_lines c) (tt, (tt, (tt, (tt, tt)))))
      (All-from_recursion (CallsAmong ns) commit_lines (tt, (tt, (tt, (tt, (tt, (tt, (tt, (tt, (tt, (tt, (tt, (tt, (tt, tt))))))))))))))
      (All-from_recursion (CallsAmong ns) check_lines (tt, (tt, (tt, (tt, (tt, (tt, (tt, tt)))))))) (has_pointers parts))
      (parts_all (CallsAmong ns) (λ l. tt) renamed_calls 0 (length (codes parts)) (codes parts) all)

  renamed_through : (first count : ℕ) (x : Line) → GoesThrough ns x → GoesThrough ns (relabelled first count x)
  renamed_through first count (Word i) h = h
  renamed_through first count (Label l) h = h
  renamed_through first count (Jump rd l) h = h
  renamed_through first count (Branch funct3 a b l) h = h
  renamed_through first count (Entry rd f) h = h
  renamed_through first count (Slot f) h = h
  renamed_through first count (Point a) h = h

  -- each slot of four words calls through one of some pointers
  pub lines_through : (parts : Parts) → All (λ (code : Labelled). All (GoesThrough ns) code.items) (codes parts) → All (GoesThrough ns) (linked_lines parts)
  lines_through parts all =
      All-append (GoesThrough ns) (stub_lines parts.main (has_pointers parts)) (function_parts 0 (length (codes parts)) (codes parts))
      (stubs_all (GoesThrough ns) parts.main
      (All-from_recursion (GoesThrough ns) (start_lines parts.main) (tt, (tt, (tt, (tt, (tt, (tt, (tt, (tt, (tt, tt))))))))))
      (λ c le. All-from_recursion (GoesThrough ns) (trap_lines c) (tt, (tt, (tt, (tt, tt)))))
      (All-from_recursion (GoesThrough ns) commit_lines (tt, (tt, (tt, (tt, (tt, (tt, (tt, (tt, (tt, (tt, (tt, (tt, (tt, tt))))))))))))))
      (All-from_recursion (GoesThrough ns) check_lines (tt, (tt, (tt, (tt, (tt, (tt, (tt, tt)))))))) (has_pointers parts))
      (parts_all (GoesThrough ns) (λ l. tt) renamed_through 0 (length (codes parts)) (codes parts) all)

-- the place of a number that is among others
pub record IsAmong (ns : List ℕ) (f : ℕ) : Type 0 where
  pub below : place_among ns f < length ns
  pub there : slice_get ns (place_among ns f) ≡ Some f

among_more : (m : ℕ) (ns : List ℕ) (f : ℕ) → ((n : ℕ) → slice_get ns n ≡ Some f → IsAmong ns f) → (n : ℕ) → slice_get (m ∷ ns) n ≡ Some f → IsAmong (m ∷ ns) f
among_more m ns f rest n found = by (eqb m f) refl n found
  where
    first : eqb m f ≡ true → IsAmong (m ∷ ns) f
    first e =
        let here : place_among (m ∷ ns) f ≡ 0 = ap (λ b. cond b 0 (suc (place_among ns f))) e in
        record { below = omega (arith, here); there = ap (slice_get (m ∷ ns)) here ∙ ap Some (eqb-true m f e) }

    later : eqb m f ≡ false → IsAmong ns f → IsAmong (m ∷ ns) f
    later e more =
        let here : place_among (m ∷ ns) f ≡ suc (place_among ns f) = ap (λ b. cond b 0 (suc (place_among ns f))) e in
        record { below = omega (arith, here, more.below); there = ap (slice_get (m ∷ ns)) here ∙ more.there }

    not_first : eqb m f ≡ false → Some m ≡ Some f → ⊥
    not_first e here = let same : m ≡ f = cc in let other : true ≡ false = sym (eq-eqb m f same) ∙ e in cc

    by : (b : Bool) → eqb m f ≡ b → (n : ℕ) → slice_get (m ∷ ns) n ≡ Some f → IsAmong (m ∷ ns) f
    by true e n found = first e
    by false e zero found = absurd (not_first e found)
    by false e (suc n) found = later e (rest n found)

pub among : (ns : List ℕ) (f n : ℕ) → slice_get ns n ≡ Some f → IsAmong ns f
among [] f n found = absurd (let bad : ⊥ = cc in bad)
among (m ∷ ns) f n found = among_more m ns f (λ k e. among ns f k e) n found

-- ---- rows of lines, in order

-- one row more, where there is a value for it
abbrev pub with_row : (R : Type 0) → (ℕ → R) → Option ℕ → List R → List R
with_row R row None rows = rows
with_row R row (Some v) rows = row v ∷ rows

-- the rows of the lines that have a value, given the row of an index and its line's value
module _ (R : Type 0) (row : ℕ → ℕ → R) (value_of : Line → Option ℕ) where
  abbrev pub rows_from : ℕ → List Line → List R
  rows_from k [] = []
  rows_from k (x ∷ ls) = with_row R (row k) (value_of x) (rows_from (suc k) ls)

  -- the row with a number is that of a line among some lines, which stand from an index on
  pub record IsRow (ls : List Line) (k i : ℕ) : Type 0 where
    pub index : ℕ
    pub value : ℕ
    pub within : index < length ls
    pub line : value_of (line_at ls index) ≡ Some value
    pub row_is : (d : R) → get_or (rows_from k ls) i d ≡ row (k + index) value

  -- the row with a number, and the next
  pub record AreRows (ls : List Line) (k i : ℕ) : Type 0 where
    pub this : IsRow ls k i
    pub next : IsRow ls k (suc i)
    pub less : this.index < next.index

  -- behind a line that has none, and behind one that has one

  abbrev passed : (x : Line) (ls : List Line) (k i : ℕ) → value_of x ≡ None → IsRow ls (suc k) i → IsRow (x ∷ ls) k i
  passed x ls k i none s =
      let index : suc k + s.index ≡ k + suc s.index = omega arith in
      record {
        index = suc s.index;
        value = s.value;
        within = let within = s.within in omega (arith, within);
        line = s.line;
        row_is = λ d. ap (λ o. get_or (with_row R (row k) o (rows_from (suc k) ls)) i d) none ∙ s.row_is d ∙ ap (λ j. row j s.value) index;
      }

  abbrev counted : (x : Line) (ls : List Line) (k i v : ℕ) → value_of x ≡ Some v → IsRow ls (suc k) i → IsRow (x ∷ ls) k (suc i)
  counted x ls k i v some s =
      let index : suc k + s.index ≡ k + suc s.index = omega arith in
      record {
        index = suc s.index;
        value = s.value;
        within = let within = s.within in omega (arith, within);
        line = s.line;
        row_is = λ d. ap (λ o. get_or (with_row R (row k) o (rows_from (suc k) ls)) (suc i) d) some ∙ s.row_is d ∙ ap (λ j. row j s.value) index;
      }

  abbrev first : (x : Line) (ls : List Line) (k v : ℕ) → value_of x ≡ Some v → IsRow (x ∷ ls) k 0
  first x ls k v some = record {
    index = 0;
    value = v;
    within = omega arith;
    line = some;
    row_is = λ d. let e : k ≡ k + 0 = omega arith in ap (λ o. get_or (with_row R (row k) o (rows_from (suc k) ls)) 0 d) some ∙ ap (λ j. row j v) e;
  }

  row_more : (x : Line) (ls : List Line) (k : ℕ) → ((i : ℕ) → i < length (rows_from (suc k) ls) → IsRow ls (suc k) i) → (o : Option ℕ) → value_of x ≡ o
      → (i : ℕ) → i < length (with_row R (row k) o (rows_from (suc k) ls)) → IsRow (x ∷ ls) k i
  row_more x ls k rest None e i below = passed x ls k i e (rest i below)
  row_more x ls k rest (Some v) e zero below = first x ls k v e
  row_more x ls k rest (Some v) e (suc i) below = counted x ls k i v e (rest i (omega (arith, below)))

  pub row_of : (ls : List Line) (k i : ℕ) → i < length (rows_from k ls) → IsRow ls k i
  row_of [] k i below = absurd (omega (arith, below))
  row_of (x ∷ ls) k i below = row_more x ls k (λ j l. row_of ls (suc k) j l) (value_of x) refl i below

  rows_more : (x : Line) (ls : List Line) (k : ℕ) → ((i : ℕ) → i + 1 < length (rows_from (suc k) ls) → AreRows ls (suc k) i) → (o : Option ℕ) → value_of x ≡ o
      → (i : ℕ) → i + 1 < length (with_row R (row k) o (rows_from (suc k) ls)) → AreRows (x ∷ ls) k i
  rows_more x ls k rest None e i below =
      let s = rest i below in
      record { this = passed x ls k i e s.this; next = passed x ls k (suc i) e s.next; less = let less = s.less in omega (arith, less) }
  rows_more x ls k rest (Some v) e zero below = record {
    this = first x ls k v e;
    next = counted x ls k 0 v e (row_of ls (suc k) 0 (omega (arith, below)));
    less = omega arith;
  }
  rows_more x ls k rest (Some v) e (suc i) below =
      let s = rest i (omega (arith, below)) in
      record { this = counted x ls k i v e s.this; next = counted x ls k (suc i) v e s.next; less = let less = s.less in omega (arith, less) }

  pub rows_of : (ls : List Line) (k i : ℕ) → i + 1 < length (rows_from k ls) → AreRows ls k i
  rows_of [] k i below = absurd (omega (arith, below))
  rows_of (x ∷ ls) k i below = rows_more x ls k (λ j l. rows_of ls (suc k) j l) (value_of x) refl i below

  -- there are as many as lines that have one
  module _ (test : Line → Bool) (tests : (x : Line) → test x ≡ is_some (value_of x)) where
    length_more : (x : Line) (ls : List Line) (rows : List R) (k : ℕ) (o : Option ℕ) → test x ≡ is_some o → length rows ≡ count_by test ls → length (with_row R (row k) o rows) ≡ count_by test (x ∷ ls)
    length_more x ls rows k None e h = omega (arith, h, sum_by-cons (λ y. cond (test y) 1 0) x ls, ap {B = ℕ} (λ b. cond b 1 0) e)
    length_more x ls rows k (Some v) e h = omega (arith, h, sum_by-cons (λ y. cond (test y) 1 0) x ls, ap {B = ℕ} (λ b. cond b 1 0) e)

    pub rows_length : (ls : List Line) (k : ℕ) → length (rows_from k ls) ≡ count_by test ls
    rows_length [] k = refl
    rows_length (x ∷ ls) k = length_more x ls (rows_from (suc k) ls) k (value_of x) (tests x) (rows_length ls (suc k))

-- ---- each site is that of a slot

-- the function that a slot calls
abbrev pub called : Line → Option ℕ
called (Slot f) = Some f
called _ = None

slot_of : (x : Line) (f : ℕ) → called x ≡ Some f → x ≡ Slot f
slot_of (Word i) f e = absurd (cc)
slot_of (Label l) f e = absurd (cc)
slot_of (Jump rd l) f e = absurd (cc)
slot_of (Branch funct3 a b l) f e = absurd (cc)
slot_of (Entry rd g) f e = absurd (cc)
slot_of (Slot g) f e = let same : g ≡ f = cc in ap Slot same
slot_of (Point a) f e = absurd (cc)

slot_tests : (x : Line) → is_slot x ≡ is_some (called x)
slot_tests (Word i) = refl
slot_tests (Label l) = refl
slot_tests (Jump rd l) = refl
slot_tests (Branch funct3 a b l) = refl
slot_tests (Entry rd g) = refl
slot_tests (Slot g) = refl
slot_tests (Point a) = refl

module _ (at : ℕ → ℕ) (ns : List ℕ) where
  -- the row of the slot at an index, which calls a function
  abbrev pub row_at : ℕ → ℕ → SiteRow
  row_at k f = record { address = at k; function = place_among ns f }

  pub sites_are_rows : (ls : List Line) (k : ℕ) → sites_from at ns k ls ≡ rows_from SiteRow row_at called k ls
  sites_are_rows [] k = refl
  sites_are_rows (Word x ∷ ls) k = sites_are_rows ls (suc k)
  sites_are_rows (Label l ∷ ls) k = sites_are_rows ls (suc k)
  sites_are_rows (Jump rd l ∷ ls) k = sites_are_rows ls (suc k)
  sites_are_rows (Branch funct3 a b l ∷ ls) k = sites_are_rows ls (suc k)
  sites_are_rows (Entry rd f ∷ ls) k = sites_are_rows ls (suc k)
  sites_are_rows (Slot f ∷ ls) k = ap (λ rows. row_at k f ∷ rows) (sites_are_rows ls (suc k))
  sites_are_rows (Point a ∷ ls) k = sites_are_rows ls (suc k)

  -- the site with a number is that of a slot in some lines, which stand from an index on
  pub record IsSite (ls : List Line) (k i : ℕ) : Type 0 where
    pub index : ℕ
    pub function : ℕ
    pub within : index < length ls
    pub line : line_at ls index ≡ Slot function
    pub row : (d : SiteRow) → get_or (sites_from at ns k ls) i d ≡ row_at (k + index) function

  -- the site with a number, and the next
  pub record AreSites (ls : List Line) (k i : ℕ) : Type 0 where
    pub this : IsSite ls k i
    pub next : IsSite ls k (suc i)
    pub less : this.index < next.index

  abbrev site_of : (ls : List Line) (k i : ℕ) → IsRow SiteRow row_at called ls k i → IsSite ls k i
  site_of ls k i s = record {
    index = s.index;
    function = s.value;
    within = s.within;
    line = slot_of (line_at ls s.index) s.value s.line;
    row = λ d. ap (λ rows. get_or rows i d) (sites_are_rows ls k) ∙ s.row_is d;
  }

  pub site_is : (ls : List Line) (k i : ℕ) → i < length (sites_from at ns k ls) → IsSite ls k i
  site_is ls k i below = site_of ls k i (row_of SiteRow row_at called ls k i (omega (arith, below, ap length (sites_are_rows ls k))))

  pub sites_are : (ls : List Line) (k i : ℕ) → i + 1 < length (sites_from at ns k ls) → AreSites ls k i
  sites_are ls k i below =
      let s = rows_of SiteRow row_at called ls k i (omega (arith, below, ap length (sites_are_rows ls k))) in
      record { this = site_of ls k i s.this; next = site_of ls k (suc i) s.next; less = s.less }

  pub site_length : (ls : List Line) (k : ℕ) → length (sites_from at ns k ls) ≡ slot_count ls
  site_length ls k = ap length (sites_are_rows ls k) ∙ rows_length SiteRow row_at called is_slot slot_tests ls k

-- ---- each pointer site is that of a slot of four words

-- the pointer that a slot of four words calls through
abbrev pub gone_through : Line → Option ℕ
gone_through (Point a) = Some a
gone_through _ = None

point_of : (x : Line) (a : ℕ) → gone_through x ≡ Some a → x ≡ Point a
point_of (Word i) a e = absurd (cc)
point_of (Label l) a e = absurd (cc)
point_of (Jump rd l) a e = absurd (cc)
point_of (Branch funct3 x y l) a e = absurd (cc)
point_of (Entry rd g) a e = absurd (cc)
point_of (Slot g) a e = absurd (cc)
point_of (Point b) a e = let same : b ≡ a = cc in ap Point same

point_tests : (x : Line) → is_point x ≡ is_some (gone_through x)
point_tests (Word i) = refl
point_tests (Label l) = refl
point_tests (Jump rd l) = refl
point_tests (Branch funct3 a b l) = refl
point_tests (Entry rd g) = refl
point_tests (Slot g) = refl
point_tests (Point a) = refl

module _ (at : ℕ → ℕ) (ns : List ℕ) where
  -- the row of the slot of four words at an index, which calls through a pointer
  abbrev pub point_row_at : ℕ → ℕ → PointRow
  point_row_at k a = record { address = at k; pointer = place_among ns a }

  pub points_are_rows : (ls : List Line) (k : ℕ) → points_from at ns k ls ≡ rows_from PointRow point_row_at gone_through k ls
  points_are_rows [] k = refl
  points_are_rows (Word x ∷ ls) k = points_are_rows ls (suc k)
  points_are_rows (Label l ∷ ls) k = points_are_rows ls (suc k)
  points_are_rows (Jump rd l ∷ ls) k = points_are_rows ls (suc k)
  points_are_rows (Branch funct3 a b l ∷ ls) k = points_are_rows ls (suc k)
  points_are_rows (Entry rd f ∷ ls) k = points_are_rows ls (suc k)
  points_are_rows (Slot f ∷ ls) k = points_are_rows ls (suc k)
  points_are_rows (Point a ∷ ls) k = ap (λ rows. point_row_at k a ∷ rows) (points_are_rows ls (suc k))

  -- the pointer site with a number is that of a slot of four words in some lines, which stand from an index on
  pub record IsPoint (ls : List Line) (k i : ℕ) : Type 0 where
    pub index : ℕ
    pub pointer : ℕ
    pub within : index < length ls
    pub line : line_at ls index ≡ Point pointer
    pub row : (d : PointRow) → get_or (points_from at ns k ls) i d ≡ point_row_at (k + index) pointer

  -- the pointer site with a number, and the next
  pub record ArePoints (ls : List Line) (k i : ℕ) : Type 0 where
    pub this : IsPoint ls k i
    pub next : IsPoint ls k (suc i)
    pub less : this.index < next.index

  abbrev point_from : (ls : List Line) (k i : ℕ) → IsRow PointRow point_row_at gone_through ls k i → IsPoint ls k i
  point_from ls k i s = record {
    index = s.index;
    pointer = s.value;
    within = s.within;
    line = point_of (line_at ls s.index) s.value s.line;
    row = λ d. ap (λ rows. get_or rows i d) (points_are_rows ls k) ∙ s.row_is d;
  }

  pub point_is : (ls : List Line) (k i : ℕ) → i < length (points_from at ns k ls) → IsPoint ls k i
  point_is ls k i below = point_from ls k i (row_of PointRow point_row_at gone_through ls k i (omega (arith, below, ap length (points_are_rows ls k))))

  pub points_are : (ls : List Line) (k i : ℕ) → i + 1 < length (points_from at ns k ls) → ArePoints ls k i
  points_are ls k i below =
      let s = rows_of PointRow point_row_at gone_through ls k i (omega (arith, below, ap length (points_are_rows ls k))) in
      record { this = point_from ls k i s.this; next = point_from ls k (suc i) s.next; less = s.less }

  pub point_length : (ls : List Line) (k : ℕ) → length (points_from at ns k ls) ≡ point_count ls
  point_length ls k = ap length (points_are_rows ls k) ∙ rows_length PointRow point_row_at gone_through is_point point_tests ls k

-- ---- pointer switches

-- where a line calls through a pointer, there is a pointer switch
pub line_has_pointers : (parts : Parts) → FitTables parts → (k a : ℕ) → k < length (linked_lines parts) → line_at (linked_lines parts) k ≡ Point a → has_pointers parts ≡ true
line_has_pointers parts tables k a below line =
    let ns = pointer_addresses parts.pointers in
    let goes = subst (GoesThrough ns) line (lines_through ns parts tables.through k (Label 0) below) in
    let some : 0 < length parts.pointers = omega (arith, slice_get_within ns goes.0 a goes.1, length-map parts.pointers pointer_address) in
    grind (arith, nat_tests)

-- and so where there is a slot of four words
pub points_have_pointers : (parts : Parts) → FitTables parts → 0 < point_count (linked_lines parts) → has_pointers parts ≡ true
points_have_pointers parts tables some =
    let at = λ (k : ℕ). k in
    let s = point_is at [] (linked_lines parts) 0 0 (omega (arith, some, point_length at [] (linked_lines parts) 0)) in
    line_has_pointers parts tables s.index s.pointer s.within s.line
