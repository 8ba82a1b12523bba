-- Where the rows of an image stand among its words.
use Rattle.std.proofs.Common.{◌≡◌, ℕ, zero, suc, ◌+◌, ◌-◌, ◌*◌, ◌/◌, ◌<◌, true, false, eqb, inl, inr, List, [], ◌∷◌, ◌++◌, length, take, drop, slice_index, get_or, slice_range, refl, sym, ap, subst, ◌∙◌, arith, All, append_assoc}
use Rattle.std.proofs.lemmas.Bool.{cases_Bool}
use Rattle.std.specs.List.{flat_map}
use Rattle.std.proofs.lemmas.List.{take_at, drop_at, length-append}
use Rattle.std.proofs.lemmas.List.Concat.{flat_map-cons}
use Rattle.mv_num.specs.Bytes.{words_of, AreWords}
use Rattle.mv_num.specs.Kinds.{kind_number}
use Rattle.mv_descriptors.specs.Widths.{switch_words, function_words, variant_words, guard_words, site_words, pointer_words, point_words, target_words, SwitchWhole, FunctionWhole, VariantWhole, GuardWhole, SiteWhole, PointerWhole, PointWhole, TargetWhole}
use Rattle.mv_descriptors.specs.WidthLaws.{switch_width, function_width, variant_width, guard_width, site_width, pointer_width, point_width, target_width}
use Rattle.mv_descriptors.specs.declared.rows.SwitchRow.{SwitchRow}
use Rattle.mv_descriptors.specs.declared.rows.FunctionRow.{FunctionRow}
use Rattle.mv_descriptors.specs.declared.rows.VariantRow.{VariantRow}
use Rattle.mv_descriptors.specs.declared.rows.GuardRow.{GuardRow}
use Rattle.mv_descriptors.specs.declared.rows.SiteRow.{SiteRow}
use Rattle.mv_descriptors.specs.declared.rows.PointerRow.{PointerRow}
use Rattle.mv_descriptors.specs.declared.rows.PointRow.{PointRow}
use Rattle.mv_descriptors.specs.declared.rows.TargetRow.{TargetRow}
use Rattle.mv_image.specs.Places.{switch_row_words, function_row_words, variant_row_words, guard_row_words, site_row_words, pointer_row_words, point_row_words, target_row_words, pointers_place, points_place, targets_place, check_place, is_second, header_words, later_word, data_at, switches_at, functions_at, variants_at, guards_at, sites_at, pointers_at, points_at, targets_at, words_end, switch_field, function_field, variant_field, guard_field, site_field, pointer_field, point_field, target_field, variants_of, guards_of, text_word}
use Rattle.mv_image.specs.Spelling.{Fields, later_of, header_of, words_in, names_in, spelling}
use Rattle.mv_image.specs.Faults.{AllFit, Rules, HasNoPointers, Counts, image_words}
use Rattle.mv_image.specs.Format.{HasWidths}
use Rattle.mv_image.specs.WellFormed.{IsInText}
use Rattle.mv_image.proofs.RowRules.{functions_from, variants_from, guards_from, sites_from, pointers_from, points_from, targets_from, end_from}
use Rattle.mv_image.proofs.RowReads.{index_range}
use Rattle.mv_image.proofs.WhatIsRead.{data_from, switches_after, header_second, later_none, all_fit}
use Rattle.mv_image.proofs.ImageRules.{later_words}
use Rattle.mv_image.proofs.OneVerdict.{later_long, later_short, words_in_front, flat_length, whole_switches, whole_functions, whole_variants}
use Rattle.mv_num.proofs.Lists.{index_left, all_tail, all_head}

-- Each row has as many words as its kind has, and only version 2 has anything of pointers.
pub record IsWhole (a : Fields) : Type 0 where
  pub widths : HasWidths a
  pub first : eqb a.version 2 ≡ false → HasNoPointers a

version_of : (a : Fields) (x : List ℕ) → is_second (words_in a ++ x) ≡ eqb a.version 2
unfolding words_in header_of
version_of a x = refl

pub later_is : (ws : List ℕ) (i : ℕ) → is_second ws ≡ true → later_word ws i ≡ slice_index ws i
unfolding later_word
later_is ws i e = rw e refl

-- The words of the header that version 2 alone has are those of the fields.
record LaterIs (ws : List ℕ) (a : Fields) : Type 0 where
  pointers : later_word ws pointers_place ≡ length a.pointers
  points : later_word ws points_place ≡ length a.points
  targets : later_word ws targets_place ≡ length a.targets
  check : later_word ws check_place ≡ a.check

-- the words of an image with its header's last four
later_stand : (a : Fields) (x : List ℕ) → eqb a.version 2 ≡ true → LaterIs (words_in a ++ x) a
unfolding words_in header_of
later_stand a x e =
    let all : List ℕ → List ℕ = λ l. (l ++ a.text ++ a.globals ++ flat_map switch_words a.switches ++ flat_map function_words a.functions ++ flat_map variant_words a.variants
    ++ flat_map guard_words a.guards ++ flat_map site_words a.sites ++ flat_map pointer_words a.pointers ++ flat_map point_words a.points ++ flat_map target_words a.targets) ++ x in
    let same : (i : ℕ) → slice_index (all (later_of a)) i ≡ slice_index (all (length a.pointers ∷ length a.points ∷ length a.targets ∷ a.check ∷ [])) i =
    λ i. ap (λ (l : List ℕ). slice_index (all l) i) (later_words a e) in
    let s : is_second (words_in a ++ x) ≡ true = version_of a x ∙ e in
    record {
      pointers = later_is (words_in a ++ x) pointers_place s ∙ same 0;
      points = later_is (words_in a ++ x) points_place s ∙ same 1;
      targets = later_is (words_in a ++ x) targets_place s ∙ same 2;
      check = later_is (words_in a ++ x) check_place s ∙ same 3;
    }

later_stands : (a : Fields) (x : List ℕ) → IsWhole a → LaterIs (words_in a ++ x) a
later_stands a x w =
    elim (cases_Bool (eqb a.version 2)) [
      | inl e ↦ later_stand a x e
      | inr e ↦
          let none = w.first e in
          let s : is_second (words_in a ++ x) ≡ false = version_of a x ∙ e in
          record {
            pointers = later_none (words_in a ++ x) pointers_place s ∙ sym (ap length none.pointers);
            points = later_none (words_in a ++ x) points_place s ∙ sym (ap length none.points);
            targets = later_none (words_in a ++ x) targets_place s ∙ sym (ap length none.targets);
            check = later_none (words_in a ++ x) check_place s ∙ sym none.check;
          }
    ]

pub counts_are : (a : Fields) (x : List ℕ) → IsWhole a → Counts (words_in a ++ x) a
unfolding words_in header_of
counts_are a x w =
    let later = later_stands a x w in
    record {
      version = refl;
      entry = refl;
      text = refl;
      globals = refl;
      switches = refl;
      functions = refl;
      variants = refl;
      guards = refl;
      sites = refl;
      pointers = later.pointers;
      points = later.points;
      targets = later.targets;
      check = later.check;
      names = refl;
    }

pub header_first : (ws : List ℕ) → is_second ws ≡ false → header_words ws ≡ 12
unfolding header_words
header_first ws e = rw e refl

-- the header of an image is as long as its version says
header_length : (a : Fields) (x : List ℕ) → length (header_of a) ≡ header_words (words_in a ++ x)
unfolding header_of
header_length a x =
    elim (cases_Bool (eqb a.version 2)) [
      | inl e ↦ omega (arith, later_long a e, header_second (words_in a ++ x) (version_of a x ∙ e))
      | inr e ↦ omega (arith, later_short a e, header_first (words_in a ++ x) (version_of a x ∙ e))
    ]

-- a word of a list behind another
pub behind : (front back : List ℕ) (i j : ℕ) → i ≡ length front + j → slice_index (front ++ back) i ≡ slice_index back j
behind [] back i j e = ap (slice_index back) (omega (arith, e))
behind (x ∷ front) back i j e =
    let m : i ≡ suc (length front + j) = omega (arith, e) in
    ap (slice_index (x ∷ (front ++ back))) m ∙ behind front back (length front + j) j refl

-- a word of a row, behind others
row_word : {R : Type 0} (f : R → List ℕ) (Whole : R → Type 0) (w : ℕ) → ((x : R) → Whole x → length (f x) ≡ w) → (rows : List R) → All Whole rows → (front rest : List ℕ) (k j i : ℕ) (d : R)
    → k < length rows → j < w → i ≡ length front + w * k + j → slice_index (front ++ (flat_map f rows ++ rest)) i ≡ slice_index (f (get_or rows k d)) j
row_word f Whole w size [] whole front rest k j i d hk hj e = absurd (omega (arith, hk))
row_word f Whole w size (x ∷ rows) whole front rest zero j i d hk hj e =
    let s = size x (all_head Whole x rows whole) in
    ap (λ (t : List ℕ). slice_index (front ++ (t ++ rest)) i) (flat_map-cons f x rows)
    ∙ behind front ((f x ++ flat_map f rows) ++ rest) i j (omega (arith, e))
    ∙ ap (λ (t : List ℕ). slice_index t j) (append_assoc (f x) (flat_map f rows) rest)
    ∙ index_left (f x) (flat_map f rows ++ rest) j (omega (arith, s, hj))
row_word f Whole w size (x ∷ rows) whole front rest (suc k) j i d hk hj e =
    let s = size x (all_head Whole x rows whole) in
    let grows : w * suc k ≡ w + w * k = omega arith in
    let moved : front ++ (flat_map f (x ∷ rows) ++ rest) ≡ (front ++ f x) ++ (flat_map f rows ++ rest) =
    ap (λ (t : List ℕ). front ++ (t ++ rest)) (flat_map-cons f x rows) ∙ ap (λ (t : List ℕ). front ++ t) (append_assoc (f x) (flat_map f rows) rest) ∙ sym (append_assoc front (f x) (flat_map f rows ++ rest)) in
    ap (λ (t : List ℕ). slice_index t i) moved
    ∙ row_word f Whole w size rows (all_tail Whole x rows whole) (front ++ f x) rest k j i d (omega (arith, hk)) hj (omega (arith, e, grows, s, length-append front (f x)))

-- ---- the words before each table

abbrev before_switches : Fields → List ℕ
before_switches a = header_of a ++ a.text ++ a.globals

abbrev before_functions : Fields → List ℕ
before_functions a = before_switches a ++ flat_map switch_words a.switches

abbrev before_variants : Fields → List ℕ
before_variants a = before_functions a ++ flat_map function_words a.functions

abbrev before_guards : Fields → List ℕ
before_guards a = before_variants a ++ flat_map variant_words a.variants

abbrev before_sites : Fields → List ℕ
before_sites a = before_guards a ++ flat_map guard_words a.guards

abbrev before_pointers : Fields → List ℕ
before_pointers a = before_sites a ++ flat_map site_words a.sites

abbrev before_points : Fields → List ℕ
before_points a = before_pointers a ++ flat_map pointer_words a.pointers

abbrev before_targets : Fields → List ℕ
before_targets a = before_points a ++ flat_map point_words a.points

-- and those behind the sites
abbrev after_sites : Fields → List ℕ → List ℕ
after_sites a x = flat_map pointer_words a.pointers ++ flat_map point_words a.points ++ flat_map target_words a.targets ++ x

switches_length : (a : Fields) (x : List ℕ) → IsWhole a → length (before_switches a) ≡ switches_at (words_in a ++ x)
switches_length a x r =
    let n = counts_are a x r in
    omega (arith, header_length a x, n.text, n.globals, data_from (words_in a ++ x), switches_after (words_in a ++ x), length-append (header_of a ++ a.text) a.globals, length-append (header_of a) a.text)

functions_length : (a : Fields) (x : List ℕ) → IsWhole a → length (before_functions a) ≡ functions_at (words_in a ++ x)
functions_length a x r =
    let n = counts_are a x r in
    omega (
      arith,
      n.switches,
      switches_length a x r,
      functions_from (words_in a ++ x),
      length-append (before_switches a) (flat_map switch_words a.switches),
      flat_length switch_words SwitchWhole switch_row_words switch_width a.switches r.widths.switches,
    )

variants_length : (a : Fields) (x : List ℕ) → IsWhole a → length (before_variants a) ≡ variants_at (words_in a ++ x)
variants_length a x r =
    let n = counts_are a x r in
    omega (
      arith,
      n.functions,
      functions_length a x r,
      variants_from (words_in a ++ x),
      length-append (before_functions a) (flat_map function_words a.functions),
      flat_length function_words FunctionWhole function_row_words function_width a.functions r.widths.functions,
    )

guards_length : (a : Fields) (x : List ℕ) → IsWhole a → length (before_guards a) ≡ guards_at (words_in a ++ x)
guards_length a x r =
    let n = counts_are a x r in
    omega (
      arith,
      n.variants,
      variants_length a x r,
      guards_from (words_in a ++ x),
      length-append (before_variants a) (flat_map variant_words a.variants),
      flat_length variant_words VariantWhole variant_row_words variant_width a.variants r.widths.variants,
    )

sites_length : (a : Fields) (x : List ℕ) → IsWhole a → length (before_sites a) ≡ sites_at (words_in a ++ x)
sites_length a x r =
    let n = counts_are a x r in
    omega (arith, n.guards, guards_length a x r, sites_from (words_in a ++ x), length-append (before_guards a) (flat_map guard_words a.guards), flat_length guard_words GuardWhole guard_row_words guard_width a.guards r.widths.guards)

pointers_length : (a : Fields) (x : List ℕ) → IsWhole a → length (before_pointers a) ≡ pointers_at (words_in a ++ x)
pointers_length a x r =
    let n = counts_are a x r in
    omega (arith, n.sites, sites_length a x r, pointers_from (words_in a ++ x), length-append (before_sites a) (flat_map site_words a.sites), flat_length site_words SiteWhole site_row_words site_width a.sites (λ i e lt. tt))

points_length : (a : Fields) (x : List ℕ) → IsWhole a → length (before_points a) ≡ points_at (words_in a ++ x)
points_length a x r =
    let n = counts_are a x r in
    omega (
      arith,
      n.pointers,
      pointers_length a x r,
      points_from (words_in a ++ x),
      length-append (before_pointers a) (flat_map pointer_words a.pointers),
      flat_length pointer_words PointerWhole pointer_row_words pointer_width a.pointers (λ i e lt. tt),
    )

targets_length : (a : Fields) (x : List ℕ) → IsWhole a → length (before_targets a) ≡ targets_at (words_in a ++ x)
targets_length a x r =
    let n = counts_are a x r in
    omega (arith, n.points, points_length a x r, targets_from (words_in a ++ x), length-append (before_points a) (flat_map point_words a.points), flat_length point_words PointWhole point_row_words point_width a.points (λ i e lt. tt))

switches_split : (a : Fields) (x : List ℕ)
    → words_in a ++ x ≡ before_switches a
    ++ (flat_map switch_words a.switches
    ++ (flat_map function_words a.functions ++ flat_map variant_words a.variants ++ flat_map guard_words a.guards ++ flat_map site_words a.sites
    ++ after_sites a x))
unfolding words_in
switches_split a x = simp append_assoc

functions_split : (a : Fields) (x : List ℕ)
    → words_in a ++ x ≡ before_functions a
    ++ (flat_map function_words a.functions
    ++ (flat_map variant_words a.variants ++ flat_map guard_words a.guards ++ flat_map site_words a.sites ++ after_sites a x))
unfolding words_in
functions_split a x = simp append_assoc

variants_split : (a : Fields) (x : List ℕ) → words_in a ++ x ≡ before_variants a ++ (flat_map variant_words a.variants ++ (flat_map guard_words a.guards ++ flat_map site_words a.sites ++ after_sites a x))
unfolding words_in
variants_split a x = simp append_assoc

guards_split : (a : Fields) (x : List ℕ) → words_in a ++ x ≡ before_guards a ++ (flat_map guard_words a.guards ++ (flat_map site_words a.sites ++ after_sites a x))
unfolding words_in
guards_split a x = simp append_assoc

sites_split : (a : Fields) (x : List ℕ) → words_in a ++ x ≡ before_sites a ++ (flat_map site_words a.sites ++ after_sites a x)
unfolding words_in
sites_split a x = simp append_assoc

pointers_split : (a : Fields) (x : List ℕ) → words_in a ++ x ≡ before_pointers a ++ (flat_map pointer_words a.pointers ++ (flat_map point_words a.points ++ flat_map target_words a.targets ++ x))
unfolding words_in
pointers_split a x = simp append_assoc

points_split : (a : Fields) (x : List ℕ) → words_in a ++ x ≡ before_points a ++ (flat_map point_words a.points ++ (flat_map target_words a.targets ++ x))
unfolding words_in
points_split a x = simp append_assoc

targets_split : (a : Fields) (x : List ℕ) → words_in a ++ x ≡ before_targets a ++ (flat_map target_words a.targets ++ x)
unfolding words_in
targets_split a x = simp append_assoc

targets_last : (a : Fields) → words_in a ≡ before_targets a ++ flat_map target_words a.targets
unfolding words_in
targets_last a = simp append_assoc

pub switch_stands : (a : Fields) (x : List ℕ) → IsWhole a → (k j : ℕ) (d : SwitchRow) → k < length a.switches → j < switch_row_words → switch_field (words_in a ++ x) k j ≡ slice_index (switch_words (get_or a.switches k d)) j
unfolding switch_field
switch_stands a x r k j d hk hj =
    ap (λ (t : List ℕ). slice_index t (switches_at (words_in a ++ x) + switch_row_words * k + j)) (switches_split a x)
    ∙ row_word switch_words SwitchWhole switch_row_words switch_width a.switches r.widths.switches (before_switches a) _ k j (switches_at (words_in a ++ x) + switch_row_words * k + j) d hk hj (omega (arith, switches_length a x r))

pub function_stands : (a : Fields) (x : List ℕ) → IsWhole a → (k j : ℕ) (d : FunctionRow) → k < length a.functions → j < function_row_words → function_field (words_in a ++ x) k j ≡ slice_index (function_words (get_or a.functions k d)) j
unfolding function_field
function_stands a x r k j d hk hj =
    ap (λ (t : List ℕ). slice_index t (functions_at (words_in a ++ x) + function_row_words * k + j)) (functions_split a x)
    ∙ row_word function_words FunctionWhole function_row_words function_width a.functions r.widths.functions (before_functions a) _ k j
    (functions_at (words_in a ++ x) + function_row_words * k + j) d hk hj (omega (arith, functions_length a x r))

pub variant_stands : (a : Fields) (x : List ℕ) → IsWhole a → (k j : ℕ) (d : VariantRow) → k < length a.variants → j < variant_row_words → variant_field (words_in a ++ x) k j ≡ slice_index (variant_words (get_or a.variants k d)) j
unfolding variant_field
variant_stands a x r k j d hk hj =
    ap (λ (t : List ℕ). slice_index t (variants_at (words_in a ++ x) + variant_row_words * k + j)) (variants_split a x)
    ∙ row_word variant_words VariantWhole variant_row_words variant_width a.variants r.widths.variants (before_variants a) _ k j (variants_at (words_in a ++ x) + variant_row_words * k + j) d hk hj (omega (arith, variants_length a x r))

pub guard_stands : (a : Fields) (x : List ℕ) → IsWhole a → (k j : ℕ) (d : GuardRow) → k < length a.guards → j < guard_row_words → guard_field (words_in a ++ x) k j ≡ slice_index (guard_words (get_or a.guards k d)) j
unfolding guard_field
guard_stands a x r k j d hk hj =
    ap (λ (t : List ℕ). slice_index t (guards_at (words_in a ++ x) + guard_row_words * k + j)) (guards_split a x)
    ∙ row_word guard_words GuardWhole guard_row_words guard_width a.guards r.widths.guards (before_guards a) _ k j (guards_at (words_in a ++ x) + guard_row_words * k + j) d hk hj (omega (arith, guards_length a x r))

pub site_stands : (a : Fields) (x : List ℕ) → IsWhole a → (k j : ℕ) (d : SiteRow) → k < length a.sites → j < site_row_words → site_field (words_in a ++ x) k j ≡ slice_index (site_words (get_or a.sites k d)) j
unfolding site_field
site_stands a x r k j d hk hj =
    ap (λ (t : List ℕ). slice_index t (sites_at (words_in a ++ x) + 2 * k + j)) (sites_split a x)
    ∙ row_word site_words SiteWhole site_row_words site_width a.sites (λ i e lt. tt) (before_sites a) _ k j (sites_at (words_in a ++ x) + 2 * k + j) d hk hj (omega (arith, sites_length a x r))

pub pointer_stands : (a : Fields) (x : List ℕ) → IsWhole a → (k j : ℕ) (d : PointerRow) → k < length a.pointers → j < pointer_row_words → pointer_field (words_in a ++ x) k j ≡ slice_index (pointer_words (get_or a.pointers k d)) j
unfolding pointer_field
pointer_stands a x r k j d hk hj =
    ap (λ (t : List ℕ). slice_index t (pointers_at (words_in a ++ x) + pointer_row_words * k + j)) (pointers_split a x)
    ∙ row_word pointer_words PointerWhole pointer_row_words pointer_width a.pointers (λ i e lt. tt) (before_pointers a) _ k j (pointers_at (words_in a ++ x) + pointer_row_words * k + j) d hk hj (omega (arith, pointers_length a x r))

pub point_stands : (a : Fields) (x : List ℕ) → IsWhole a → (k j : ℕ) (d : PointRow) → k < length a.points → j < point_row_words → point_field (words_in a ++ x) k j ≡ slice_index (point_words (get_or a.points k d)) j
unfolding point_field
point_stands a x r k j d hk hj =
    ap (λ (t : List ℕ). slice_index t (points_at (words_in a ++ x) + point_row_words * k + j)) (points_split a x)
    ∙ row_word point_words PointWhole point_row_words point_width a.points (λ i e lt. tt) (before_points a) _ k j (points_at (words_in a ++ x) + point_row_words * k + j) d hk hj (omega (arith, points_length a x r))

pub target_stands : (a : Fields) (x : List ℕ) → IsWhole a → (k j : ℕ) (d : TargetRow) → k < length a.targets → j < target_row_words → target_field (words_in a ++ x) k j ≡ slice_index (target_words (get_or a.targets k d)) j
unfolding target_field
target_stands a x r k j d hk hj =
    ap (λ (t : List ℕ). slice_index t (targets_at (words_in a ++ x) + target_row_words * k + j)) (targets_split a x)
    ∙ row_word target_words TargetWhole target_row_words target_width a.targets (λ i e lt. tt) (before_targets a) _ k j (targets_at (words_in a ++ x) + target_row_words * k + j) d hk hj (omega (arith, targets_length a x r))

text_first : (a : Fields) (x : List ℕ)
    → words_in a ++ x ≡ header_of a ++ (a.text
    ++ (a.globals ++ (flat_map switch_words a.switches ++ flat_map function_words a.functions ++ flat_map variant_words a.variants
    ++ flat_map guard_words a.guards ++ flat_map site_words a.sites ++ after_sites a x)))
unfolding words_in
text_first a x = simp append_assoc

pub part_is : (front part back : List ℕ) (i j : ℕ) → i ≡ length front → j ≡ length front + length part → slice_range (front ++ (part ++ back)) i j ≡ part
part_is front part back i j ei ej =
    let m : j - i ≡ length part = omega (arith, ei, ej) in
    ap (λ (n : ℕ). take n (drop i (front ++ (part ++ back)))) m ∙ ap (take (length part)) (drop_at front (part ++ back) i (sym ei)) ∙ take_at part back (length part) refl

pub text_stands : (a : Fields) (x : List ℕ) → IsWhole a → slice_range (words_in a ++ x) (header_words (words_in a ++ x)) (data_at (words_in a ++ x)) ≡ a.text
text_stands a x r =
    let n = counts_are a x r in
    let size = header_length a x in
    ap (λ (t : List ℕ). slice_range t (header_words (words_in a ++ x)) (data_at (words_in a ++ x))) (text_first a x)
    ∙ part_is (header_of a) a.text _ (header_words (words_in a ++ x)) (data_at (words_in a ++ x)) (sym size) (omega (arith, size, n.text, data_from (words_in a ++ x)))

pub globals_stand : (a : Fields) (x : List ℕ) → IsWhole a → slice_range (words_in a ++ x) (data_at (words_in a ++ x)) (switches_at (words_in a ++ x)) ≡ a.globals
globals_stand a x r =
    let n = counts_are a x r in
    let size = header_length a x in
    let len = length-append (header_of a) a.text in
    ap (λ (t : List ℕ). slice_range t (data_at (words_in a ++ x)) (switches_at (words_in a ++ x))) (text_first a x ∙ sym (append_assoc (header_of a) a.text _))
    ∙ part_is (header_of a ++ a.text) a.globals _ (data_at (words_in a ++ x)) (switches_at (words_in a ++ x))
    (omega (arith, size, len, n.text, data_from (words_in a ++ x)))
    (omega (arith, size, len, n.text, n.globals, data_from (words_in a ++ x), switches_after (words_in a ++ x)))

-- the words of an image are all that stand before the names
pub words_length : (a : Fields) (x : List ℕ) → IsWhole a → words_end (words_in a ++ x) ≡ length (words_in a)
words_length a x w =
    let n = counts_are a x w in
    let len : length (before_targets a ++ flat_map target_words a.targets) ≡ length (words_in a) = ap length (sym (targets_last a)) in
    omega (
      arith,
      len,
      n.targets,
      targets_length a x w,
      end_from (words_in a ++ x),
      length-append (before_targets a) (flat_map target_words a.targets),
      flat_length target_words TargetWhole target_row_words target_width a.targets
          (λ i e lt. tt),
    )

-- ---- words in which the fields stand

-- The numbers of the header are those of the lists, and text, data and rows stand at their places.
pub record StandIn (ws : List ℕ) (a : Fields) : Type 0 where
  pub counts : Counts ws a
  pub text : slice_range ws (header_words ws) (data_at ws) ≡ a.text
  pub globals : slice_range ws (data_at ws) (switches_at ws) ≡ a.globals
  pub switch : (k j : ℕ) (d : SwitchRow) → k < length a.switches → j < switch_row_words → switch_field ws k j ≡ slice_index (switch_words (get_or a.switches k d)) j
  pub function : (k j : ℕ) (d : FunctionRow) → k < length a.functions → j < function_row_words → function_field ws k j ≡ slice_index (function_words (get_or a.functions k d)) j
  pub variant : (k j : ℕ) (d : VariantRow) → k < length a.variants → j < variant_row_words → variant_field ws k j ≡ slice_index (variant_words (get_or a.variants k d)) j
  pub guard : (k j : ℕ) (d : GuardRow) → k < length a.guards → j < guard_row_words → guard_field ws k j ≡ slice_index (guard_words (get_or a.guards k d)) j
  pub site : (k j : ℕ) (d : SiteRow) → k < length a.sites → j < site_row_words → site_field ws k j ≡ slice_index (site_words (get_or a.sites k d)) j
  pub pointer : (k j : ℕ) (d : PointerRow) → k < length a.pointers → j < pointer_row_words → pointer_field ws k j ≡ slice_index (pointer_words (get_or a.pointers k d)) j
  pub point : (k j : ℕ) (d : PointRow) → k < length a.points → j < point_row_words → point_field ws k j ≡ slice_index (point_words (get_or a.points k d)) j
  pub target : (k j : ℕ) (d : TargetRow) → k < length a.targets → j < target_row_words → target_field ws k j ≡ slice_index (target_words (get_or a.targets k d)) j
  pub whole : IsWhole a

-- the fields of an image whose rows are whole stand in its words, whatever follows
pub fields_stand : (a : Fields) (x : List ℕ) → IsWhole a → StandIn (words_in a ++ x) a
fields_stand a x w = record {
  counts = counts_are a x w;
  text = text_stands a x w;
  globals = globals_stand a x w;
  switch = switch_stands a x w;
  function = function_stands a x w;
  variant = variant_stands a x w;
  guard = guard_stands a x w;
  site = site_stands a x w;
  pointer = pointer_stands a x w;
  point = point_stands a x w;
  target = target_stands a x w;
  whole = w;
}

pub variants_stand : (ws : List ℕ) (a : Fields) → StandIn ws a → (k : ℕ) (d : FunctionRow) → k < length a.functions → variants_of ws k ≡ (get_or a.functions k d).variants
variants_stand ws a s k d lt =
    let row : FunctionRow = get_or a.functions k d in
    let whole : length row.switches ≡ 6 = s.whole.widths.functions k d lt in
    s.function k 9 d lt (omega arith) ∙ behind row.switches (row.variants ∷ []) 6 0 (omega (arith, whole))

pub guards_stand : (ws : List ℕ) (a : Fields) → StandIn ws a → (k : ℕ) (d : VariantRow) → k < length a.variants → guards_of ws k ≡ (get_or a.variants k d).guards
guards_stand ws a s k d lt =
    let row : VariantRow = get_or a.variants k d in
    let whole : length row.words ≡ 2 = s.whole.widths.variants k d lt in
    s.variant k 4 d lt (omega arith) ∙ behind row.words (row.guards ∷ []) 2 0 (omega (arith, whole))

pub function_switch_stands : (ws : List ℕ) (a : Fields) → StandIn ws a → (k i : ℕ) (d : FunctionRow) → k < length a.functions → i < 6 → function_field ws k (3 + i) ≡ slice_index (get_or a.functions k d).switches i
function_switch_stands ws a s k i d lt hi =
    let row : FunctionRow = get_or a.functions k d in
    let whole : length row.switches ≡ 6 = s.whole.widths.functions k d lt in
    s.function k (3 + i) d lt (omega (arith, hi)) ∙ behind (row.length ∷ row.entry ∷ row.count ∷ []) (row.switches ++ row.variants ∷ []) (3 + i) i refl ∙ index_left row.switches (row.variants ∷ []) i (omega (arith, whole, hi))

pub inline_word_stands : (ws : List ℕ) (a : Fields) → StandIn ws a → (k i : ℕ) (d : VariantRow) → k < length a.variants → i < 2 → variant_field ws k (2 + i) ≡ slice_index (get_or a.variants k d).words i
inline_word_stands ws a s k i d lt hi =
    let row : VariantRow = get_or a.variants k d in
    let whole : length row.words ≡ 2 = s.whole.widths.variants k d lt in
    s.variant k (2 + i) d lt (omega (arith, hi)) ∙ behind (row.address ∷ row.inlined ∷ []) (row.words ++ row.guards ∷ []) (2 + i) i refl ∙ index_left row.words (row.guards ∷ []) i (omega (arith, whole, hi))

pub switch_value_stands : (ws : List ℕ) (a : Fields) → StandIn ws a → (k i : ℕ) (d : SwitchRow) → k < length a.switches → i < 16 → switch_field ws k (4 + i) ≡ slice_index (get_or a.switches k d).values i
switch_value_stands ws a s k i d lt hi =
    let row : SwitchRow = get_or a.switches k d in
    s.switch k (4 + i) d lt (omega (arith, hi)) ∙ behind (row.length ∷ row.address ∷ kind_number row.kind ∷ row.count ∷ []) row.values (4 + i) i refl

pub lowest_stands : (ws : List ℕ) (a : Fields) → StandIn ws a → (k i : ℕ) (d : GuardRow) → k < length a.guards → i < 6 → guard_field ws k i ≡ slice_index (get_or a.guards k d).low i
lowest_stands ws a s k i d lt hi =
    let row : GuardRow = get_or a.guards k d in
    let whole : length row.low ≡ 6 = (s.whole.widths.guards k d lt).low in
    s.guard k i d lt (omega (arith, hi)) ∙ index_left row.low row.high i (omega (arith, whole, hi))

pub highest_stands : (ws : List ℕ) (a : Fields) → StandIn ws a → (k i : ℕ) (d : GuardRow) → k < length a.guards → i < 6 → guard_field ws k (6 + i) ≡ slice_index (get_or a.guards k d).high i
highest_stands ws a s k i d lt hi =
    let row : GuardRow = get_or a.guards k d in
    let whole : length row.low ≡ 6 = (s.whole.widths.guards k d lt).low in
    s.guard k (6 + i) d lt (omega (arith, hi)) ∙ behind row.low row.high (6 + i) i (omega (arith, whole))

-- the word of text at an address
pub text_word_stands : (ws : List ℕ) (a : Fields) → StandIn ws a → (x : ℕ) → IsInText a x → text_word ws x ≡ slice_index a.text ((x - 4096) / 4)
unfolding text_word
text_word_stands ws a s x within =
    let n = s.counts in
    sym (ap (λ (t : List ℕ). slice_index t ((x - 4096) / 4)) (sym s.text)
    ∙ index_range ws (header_words ws) (data_at ws) ((x - 4096) / 4) (omega (arith, n.text, data_from ws, within.not_before, within.within, within.aligned)))

-- ---- the words that a reader sees

pub widths : (a : Fields) → Rules a → HasWidths a
widths a r = record { switches = whole_switches a r; functions = whole_functions a r; variants = whole_variants a r; guards = r.guards }

pub is_whole : (a : Fields) → Rules a → IsWhole a
is_whole a r = record { widths = widths a r; first = r.first }

pub image_words_are : (a : Fields) → AreWords (words_in a) → image_words a ≡ words_in a ++ words_of (names_in a)
unfolding spelling
image_words_are a fits = words_in_front (words_in a) (names_in a) fits

pub image_fits : (a : Fields) → Rules a → AllFit (image_words a)
image_fits a r = all_fit (spelling a) r.spelled

pub stand_in_image : (a : Fields) → AreWords (words_in a) → IsWhole a → StandIn (image_words a) a
stand_in_image a fits w = subst (λ (ws : List ℕ). StandIn ws a) (sym (image_words_are a fits)) (fields_stand a (words_of (names_in a)) w)

pub image_stands : (a : Fields) → Rules a → StandIn (image_words a) a
image_stands a r = stand_in_image a r.words (is_whole a r)

pub counts_of : (a : Fields) → Rules a → Counts (image_words a) a
counts_of a r = (image_stands a r).counts

pub text_is : (a : Fields) → Rules a → slice_range (image_words a) (header_words (image_words a)) (data_at (image_words a)) ≡ a.text
text_is a r = (image_stands a r).text

pub globals_are : (a : Fields) → Rules a → slice_range (image_words a) (data_at (image_words a)) (switches_at (image_words a)) ≡ a.globals
globals_are a r = (image_stands a r).globals

pub switch_is : (a : Fields) → Rules a → (k j : ℕ) (d : SwitchRow) → k < length a.switches → j < switch_row_words → switch_field (image_words a) k j ≡ slice_index (switch_words (get_or a.switches k d)) j
switch_is a r = (image_stands a r).switch

pub function_is : (a : Fields) → Rules a → (k j : ℕ) (d : FunctionRow) → k < length a.functions → j < function_row_words → function_field (image_words a) k j ≡ slice_index (function_words (get_or a.functions k d)) j
function_is a r = (image_stands a r).function

pub variant_is : (a : Fields) → Rules a → (k j : ℕ) (d : VariantRow) → k < length a.variants → j < variant_row_words → variant_field (image_words a) k j ≡ slice_index (variant_words (get_or a.variants k d)) j
variant_is a r = (image_stands a r).variant

pub guard_is : (a : Fields) → Rules a → (k j : ℕ) (d : GuardRow) → k < length a.guards → j < guard_row_words → guard_field (image_words a) k j ≡ slice_index (guard_words (get_or a.guards k d)) j
guard_is a r = (image_stands a r).guard

pub site_is : (a : Fields) → Rules a → (k j : ℕ) (d : SiteRow) → k < length a.sites → j < site_row_words → site_field (image_words a) k j ≡ slice_index (site_words (get_or a.sites k d)) j
site_is a r = (image_stands a r).site

pub pointer_is : (a : Fields) → Rules a → (k j : ℕ) (d : PointerRow) → k < length a.pointers → j < pointer_row_words → pointer_field (image_words a) k j ≡ slice_index (pointer_words (get_or a.pointers k d)) j
pointer_is a r = (image_stands a r).pointer

pub point_is : (a : Fields) → Rules a → (k j : ℕ) (d : PointRow) → k < length a.points → j < point_row_words → point_field (image_words a) k j ≡ slice_index (point_words (get_or a.points k d)) j
point_is a r = (image_stands a r).point

pub target_is : (a : Fields) → Rules a → (k j : ℕ) (d : TargetRow) → k < length a.targets → j < target_row_words → target_field (image_words a) k j ≡ slice_index (target_words (get_or a.targets k d)) j
target_is a r = (image_stands a r).target

pub function_variants : (a : Fields) → Rules a → (k : ℕ) (d : FunctionRow) → k < length a.functions → variants_of (image_words a) k ≡ (get_or a.functions k d).variants
function_variants a r = variants_stand (image_words a) a (image_stands a r)

pub variant_guards : (a : Fields) → Rules a → (k : ℕ) (d : VariantRow) → k < length a.variants → guards_of (image_words a) k ≡ (get_or a.variants k d).guards
variant_guards a r = guards_stand (image_words a) a (image_stands a r)

pub function_switch_is : (a : Fields) → Rules a → (k i : ℕ) (d : FunctionRow) → k < length a.functions → i < 6 → function_field (image_words a) k (3 + i) ≡ slice_index (get_or a.functions k d).switches i
function_switch_is a r = function_switch_stands (image_words a) a (image_stands a r)
