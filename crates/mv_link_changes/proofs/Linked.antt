-- Slots become sites, and those of four words pointer sites.
use Rattle.std.proofs.Common.{◌≡◌, ℕ, suc, ◌+◌, ◌<◌, ◌≤◌, Bool, true, false, if◌then◌else◌, eqb, cond, List, [], ◌∷◌, ◌++◌, Some, length, map, slice_get, refl, sym, ap, ◌∙◌, arith, eq-eqb}
use Rattle.std.specs.Prelude.{option_map}
use Rattle.std.proofs.lemmas.Bool.{eqb-true, eqb-false, ne_eqb}
use Rattle.std.proofs.lemmas.Option.{slice_get-map, slice_get_within}
use Rattle.mv_descriptors.specs.declared.rows.SiteRow.{SiteRow}
use Rattle.mv_descriptors.specs.declared.rows.PointRow.{PointRow}
use Rattle.mv_isa.specs.declared.labelled.Labelled.{Labelled}
use Rattle.mv_isa.specs.declared.labelled.Line.{Line}
use Rattle.mv_isa.specs.declared.labelled.Line.TheVariants.{Word, Label, Jump, Branch, Entry, Slot, Point}
use Rattle.mv_isa.specs.Code.{address, text_start}
use Rattle.mv_image.specs.Spelling.{Fields}
use Rattle.mv_linker.specs.declared.parts.Parts.{Parts}
use Rattle.mv_linker.specs.Linked.{function_variants, variant_codes, codes, has_pointers, relabelled, stub_lines, function_parts, linked_lines}
use Rattle.mv_linker.specs.Tables.{attributed_numbers, place_among, sites_from, pointer_address, pointer_addresses, points_from}
use Rattle.mv_link_changes.specs.Changed.{points_of, sites_of}
use Rattle.mv_link_changes.specs.Linked.{slots_of, slots_in, points_through, points_in, SlotsAreSites, PointsAreSites}

-- ---- what lines count

-- what some lines and what those of some codes count, where each line counts by itself, a label nothing, and a line with its labels renamed the same
module _ (of : List Line → ℕ) (of_codes : List Labelled → ℕ) (weight : Line → ℕ) (none : of [] ≡ 0) (more : (x : Line) (xs : List Line) → of (x ∷ xs) ≡ weight x + of xs)
    (no_codes : of_codes [] ≡ 0) (more_codes : (code : Labelled) (cs : List Labelled) → of_codes (code ∷ cs) ≡ of code.items + of_codes cs)
    (label : (l : ℕ) → weight (Label l) ≡ 0) (renamed : (first count : ℕ) (x : Line) → weight (relabelled first count x) ≡ weight x) where
  of_both : (xs ys : List Line) → of (xs ++ ys) ≡ of xs + of ys
  of_both [] ys = omega (arith, none)
  of_both (x ∷ xs) ys = let rest = of_both xs ys in omega (arith, rest, more x (xs ++ ys), more x xs)

  of_renamed : (first count : ℕ) (xs : List Line) → of (map (relabelled first count) xs) ≡ of xs
  of_renamed first count [] = refl
  of_renamed first count (x ∷ xs) =
      let rest = of_renamed first count xs in omega (arith, rest, renamed first count x, more (relabelled first count x) (map (relabelled first count) xs), more x xs)

  of_parts : (k first : ℕ) (cs : List Labelled) → of (function_parts k first cs) ≡ of_codes cs
  of_parts k first [] = none ∙ sym no_codes
  of_parts k first (code ∷ cs) =
      let own = map (relabelled first code.labels) code.items in
      let others = function_parts (k + 1) (first + code.labels) cs in
      let both = of_both own others in
      let here = of_renamed first code.labels code.items in
      let rest = of_parts (k + 1) (first + code.labels) cs in
      omega (arith, both, here, rest, more (Label k) (own ++ others), label k, more_codes code cs)

  of_linked : (parts : Parts) → of (linked_lines parts) ≡ of (stub_lines parts.main (has_pointers parts)) + of_codes (codes parts)
  of_linked parts =
      let both = of_both (stub_lines parts.main (has_pointers parts)) (function_parts 0 (length (codes parts)) (codes parts)) in
      let all = of_parts 0 (length (codes parts)) (codes parts) in omega (arith, both, all)

  codes_both : (xs ys : List Labelled) → of_codes (xs ++ ys) ≡ of_codes xs + of_codes ys
  codes_both [] ys = omega (arith, no_codes)
  codes_both (code ∷ xs) ys = let rest = codes_both xs ys in omega (arith, rest, more_codes code (xs ++ ys), more_codes code xs)

  of_functions : (parts : Parts) → of_codes parts.functions ≤ of (linked_lines parts)
  of_functions parts =
      let split = codes_both parts.functions (variant_codes (function_variants parts.attributed)) in
      omega (arith, split, of_linked parts)

-- ---- slots of lines

abbrev slot_weight : ℕ → Line → ℕ
slot_weight f (Slot g) = if eqb g f then 1 else 0
slot_weight f _ = 0

slots_more : (f : ℕ) (x : Line) (xs : List Line) → slots_of f (x ∷ xs) ≡ slot_weight f x + slots_of f xs
slots_more f (Word i) xs = omega arith
slots_more f (Label l) xs = omega arith
slots_more f (Jump rd l) xs = omega arith
slots_more f (Branch c rs1 rs2 l) xs = omega arith
slots_more f (Entry rd g) xs = omega arith
slots_more f (Slot g) xs = refl
slots_more f (Point a) xs = omega arith

slot_renamed : (f first count : ℕ) (x : Line) → slot_weight f (relabelled first count x) ≡ slot_weight f x
slot_renamed f first count (Word i) = refl
slot_renamed f first count (Label l) = refl
slot_renamed f first count (Jump rd l) = refl
slot_renamed f first count (Branch c rs1 rs2 l) = refl
slot_renamed f first count (Entry rd g) = refl
slot_renamed f first count (Slot g) = refl
slot_renamed f first count (Point a) = refl

slots_linked : (f : ℕ) (parts : Parts) → slots_in f parts.functions ≤ slots_of f (linked_lines parts)
slots_linked f parts = of_functions (slots_of f) (slots_in f) (slot_weight f) refl (slots_more f) refl (λ code cs. refl) (λ l. refl) (slot_renamed f) parts

-- ---- sites

module _ (at : ℕ → ℕ) (numbers : List ℕ) (f : ℕ) where
  abbrev own : List SiteRow → ℕ
  own sites = sites_of (place_among numbers f) sites

  one_site : (g : ℕ) → (if eqb g f then 1 else 0) ≤ (if eqb (place_among numbers g) (place_among numbers f) then 1 else 0)
  one_site g = by_test (eqb g f) refl
    where
      by_test : (b : Bool) → eqb g f ≡ b → (if b then 1 else 0) ≤ (if eqb (place_among numbers g) (place_among numbers f) then 1 else 0)
      by_test false e = omega arith
      by_test true e =
          let same : place_among numbers g ≡ place_among numbers f = ap (place_among numbers) (eqb-true g f e) in
          let one = ap {B = ℕ} (λ (b : Bool). if b then 1 else 0) (eq-eqb (place_among numbers g) (place_among numbers f) same) in omega (arith, one)

  sites_least : (k : ℕ) (lines : List Line) → slots_of f lines ≤ own (sites_from at numbers k lines)
  sites_least k [] = omega arith
  sites_least k (Word i ∷ lines) = sites_least (suc k) lines
  sites_least k (Label l ∷ lines) = sites_least (suc k) lines
  sites_least k (Jump rd l ∷ lines) = sites_least (suc k) lines
  sites_least k (Branch c rs1 rs2 l ∷ lines) = sites_least (suc k) lines
  sites_least k (Entry rd g ∷ lines) = sites_least (suc k) lines
  sites_least k (Slot g ∷ lines) = let here = one_site g in let rest = sites_least (suc k) lines in omega (arith, here, rest)
  sites_least k (Point a ∷ lines) = sites_least (suc k) lines

pub slots_are_sites : SlotsAreSites
slots_are_sites parts image linked f =
    let at : ℕ → ℕ = address text_start linked.sizing in
    let numbers : List ℕ = attributed_numbers parts.attributed in
    let is : image.sites ≡ sites_from at numbers 0 (linked_lines parts) = ap (λ (i : Fields). i.sites) linked.image_is in
    let all = slots_linked f parts in
    let least = sites_least at numbers f 0 (linked_lines parts) in
    let same = ap (λ (sites : List SiteRow). sites_of (place_among numbers f) sites) is in
    omega (arith, all, least, same)

-- ---- slots of four words of lines

abbrev point_weight : ℕ → Line → ℕ
point_weight a (Point b) = if eqb b a then 1 else 0
point_weight a _ = 0

points_more : (a : ℕ) (x : Line) (xs : List Line) → points_through a (x ∷ xs) ≡ point_weight a x + points_through a xs
points_more a (Word i) xs = omega arith
points_more a (Label l) xs = omega arith
points_more a (Jump rd l) xs = omega arith
points_more a (Branch c rs1 rs2 l) xs = omega arith
points_more a (Entry rd g) xs = omega arith
points_more a (Slot g) xs = omega arith
points_more a (Point b) xs = refl

point_renamed : (a first count : ℕ) (x : Line) → point_weight a (relabelled first count x) ≡ point_weight a x
point_renamed a first count (Word i) = refl
point_renamed a first count (Label l) = refl
point_renamed a first count (Jump rd l) = refl
point_renamed a first count (Branch c rs1 rs2 l) = refl
point_renamed a first count (Entry rd g) = refl
point_renamed a first count (Slot g) = refl
point_renamed a first count (Point b) = refl

points_linked : (a : ℕ) (parts : Parts) → points_in a parts.functions ≤ points_through a (linked_lines parts)
points_linked a parts = of_functions (points_through a) (points_in a) (point_weight a) refl (points_more a) refl (λ code cs. refl) (λ l. refl) (point_renamed a) parts

-- the stubs have none
no_stub : (a main : ℕ) (checks : Bool) → points_through a (stub_lines main checks) ≡ 0
no_stub a main true = refl
no_stub a main false = refl

points_of_codes : (a : ℕ) (parts : Parts) → points_through a (linked_lines parts) ≡ points_in a (codes parts)
points_of_codes a parts =
    let all = of_linked (points_through a) (points_in a) (point_weight a) refl (points_more a) refl (λ code cs. refl) (λ l. refl) (point_renamed a) parts in
    omega (arith, all, no_stub a parts.main (has_pointers parts))

-- ---- pointer sites

-- a number whose place is below the end is there
there_below : (ns : List ℕ) (n : ℕ) → place_among ns n < length ns → slice_get ns (place_among ns n) ≡ Some n
there_below [] n lt = absurd (omega (arith, lt))
there_below (m ∷ ns) n lt = by_test (λ l. there_below ns n l) (eqb m n) refl
  where
    by_test : (place_among ns n < length ns → slice_get ns (place_among ns n) ≡ Some n) → (b : Bool) → eqb m n ≡ b → slice_get (m ∷ ns) (place_among (m ∷ ns) n) ≡ Some n
    by_test rest true e = ap (λ (b : Bool). slice_get (m ∷ ns) (cond b 0 (suc (place_among ns n)))) e ∙ ap Some (eqb-true m n e)
    by_test rest false e =
        let place : place_among (m ∷ ns) n ≡ suc (place_among ns n) = ap (λ (b : Bool). cond b 0 (suc (place_among ns n))) e in
        ap (slice_get (m ∷ ns)) place ∙ rest (omega (arith, place, lt))

module _ (at : ℕ → ℕ) (ns : List ℕ) (q a : ℕ) (there : slice_get ns q ≡ Some a) (first : place_among ns a ≡ q) where
  -- the pointer site of a slot is of the pointer switch exactly where the slot is through it
  one_point : (b : ℕ) → eqb (place_among ns b) q ≡ eqb b a
  one_point b = by_test (eqb b a) refl
    where
      by_test : (t : Bool) → eqb b a ≡ t → eqb (place_among ns b) q ≡ t
      by_test true e = eq-eqb (place_among ns b) q (ap (place_among ns) (eqb-true b a e) ∙ first)
      by_test false e =
          ne_eqb (place_among ns b) q
          (λ same.
          let below = slice_get_within ns q a there in
          let other : slice_get ns q ≡ Some b = ap (slice_get ns) (sym same) ∙ there_below ns b (omega (arith, same, below)) in
          let equal : Some b ≡ Some a = sym other ∙ there in
          let is : b ≡ a = cc in eqb-false b a e is)

  points_are : (k : ℕ) (lines : List Line) → points_of q (points_from at ns k lines) ≡ points_through a lines
  points_are k [] = refl
  points_are k (Word i ∷ lines) = points_are (suc k) lines
  points_are k (Label l ∷ lines) = points_are (suc k) lines
  points_are k (Jump rd l ∷ lines) = points_are (suc k) lines
  points_are k (Branch c rs1 rs2 l ∷ lines) = points_are (suc k) lines
  points_are k (Entry rd g ∷ lines) = points_are (suc k) lines
  points_are k (Slot g ∷ lines) = points_are (suc k) lines
  points_are k (Point b ∷ lines) =
      let rest = points_are (suc k) lines in
      let here = ap {B = ℕ} (λ (t : Bool). if t then 1 else 0) (one_point b) in omega (arith, here, rest)

pub points_are_sites : PointsAreSites
points_are_sites parts image linked q pointer found first =
    let at : ℕ → ℕ = address text_start linked.sizing in
    let ns : List ℕ = pointer_addresses parts.pointers in
    let a : ℕ = pointer_address pointer in
    let there : slice_get ns q ≡ Some a = slice_get-map pointer_address parts.pointers q ∙ ap (option_map pointer_address) found in
    let is : image.points ≡ points_from at ns 0 (linked_lines parts) = ap (λ (i : Fields). i.points) linked.image_is in
    let own : points_of q image.points ≡ points_through a (linked_lines parts) = ap (λ (points : List PointRow). points_of q points) is ∙ points_are at ns q a there first 0 (linked_lines parts) in
    (omega (arith, own, points_linked a parts), λ none. omega (arith, own, points_of_codes a parts, none))
