-- The tables of linked parts fit the format of images.
use Rattle.std.proofs.Common.{◌≡◌, ℕ, suc, ◌+◌, ◌<◌, ◌≤◌, ◌⊎◌, ◌++◌, true, false, cond, nat_lt, List, [], ◌∷◌, Some, length, map, get_or, slice_get, slice_index, All, inl, inr, refl, ap, sym, subst, ◌∙◌, arith}
use Rattle.std.proofs.lemmas.List.{length-map, map-append, get_or-map}
use Rattle.std.proofs.lemmas.List.Elements.{All-nil, All-cons, All-append, All-head, All-tail, All-map, All-weaker, All-from_get_or}
use Rattle.std.proofs.lemmas.List.Sums.{get_or-le-sum_by}
use Rattle.std.proofs.lemmas.Bool.Decides.{nat_tests}
use Rattle.std.proofs.lemmas.Bool.{cases_lt}
use Rattle.std.proofs.lemmas.Option.{slice_get-map, slice_get-get_or, get_or_from_slice_get}
use Rattle.std.specs.Prelude.{option_map}
use Rattle.mv_descriptors.specs.declared.rows.SwitchRow.{SwitchRow}
use Rattle.mv_descriptors.specs.declared.rows.FunctionRow.{FunctionRow}
use Rattle.mv_descriptors.specs.declared.rows.SiteRow.{SiteRow}
use Rattle.mv_descriptors.specs.declared.rows.PointerRow.{PointerRow}
use Rattle.mv_descriptors.specs.declared.rows.PointRow.{PointRow}
use Rattle.mv_descriptors.specs.declared.rows.TargetRow.{TargetRow}
use Rattle.mv_descriptors.specs.Widths.{SwitchClean, FunctionClean, VariantClean}
use Rattle.mv_isa.specs.declared.labelled.Labelled.{Labelled}
use Rattle.mv_isa.specs.declared.labelled.Line.{Line}
use Rattle.mv_isa.specs.declared.labelled.Line.TheVariants.{Slot, Point}
use Rattle.mv_isa.specs.Code.{IsSizing, IsPlace, line_at, least_words, label_index, text_start}
use Rattle.mv_isa.specs.Standing.{SlotStands, PointStands, LineStands, word_at}
use Rattle.mv_asm.specs.Outcome.{AreWordsUnder}
use Rattle.mv_image.specs.WellFormed.{IsInText, FitsSwitch, FitsFunction, FitsVariant, FitsSite, FitsGuard, FitsPointer, FitsPoint, FitsTarget}
use Rattle.mv_image.specs.Format.{IsWithin, HasCheck, IsIdentifier, AreNamed, FitsFormat}
use Rattle.mv_image.specs.Groups.{AreGrouped, GroupsFit, GroupsBelong, GroupsAreRows}
use Rattle.mv_linker.specs.declared.parts.Parts.{Parts}
use Rattle.mv_linker.specs.declared.parts.PartSwitch.{PartSwitch}
use Rattle.mv_linker.specs.declared.parts.PartFunction.{PartFunction}
use Rattle.mv_linker.specs.declared.parts.PartVariant.{PartVariant}
use Rattle.mv_linker.specs.declared.parts.PartPointer.{PartPointer}
use Rattle.mv_linker.specs.Linked.{codes, function_variants, variant_codes, linked_lines, has_pointers, check_label, check_lines, check_index, AreParts}
use Rattle.mv_linker.specs.Tables.{switch_row, function_row, variant_row, variant_rows, pointer_row, pointer_address, target_rows, sites_from, points_from, point_count, place_among, BeginsWithWords, IsName, IsRange, CallsAmong, GoesThrough, FitsPartFunction, FitsPartVariant, kinds_of, FitTables}
use Rattle.mv_linker.specs.Outcome.{datum_word, HasFewSites, WithinLimit}
use Rattle.mv_linker.proofs.Entered.{in_text, word_in_text, entry_in_text, entry_before, entry_outside, entry_outside_point}
use Rattle.mv_linker.proofs.LinkedText.{linked_text}
use Rattle.mv_linker.proofs.Slots.{slot_is_site, slot_is_point, behind_line}
use Rattle.mv_linker.proofs.Rowed.{padded_zeros, switch_fits, pointer_fits, target_fits, target_at, target_count, function_fits, variant_clean, variant_fits, IsRowed, all_rowed, guard_fits, variant_guards, groups_of, function_counts, group_counts, group_guards, variant_row_count, are_few}
use Rattle.mv_linker.proofs.Sited.{row_at, slots_of_codes, lines_call, lines_through, IsAmong, among, site_is, sites_are, site_length, point_row_at, point_is, points_are, point_length, line_has_pointers}
use Rattle.mv_linker.proofs.Places.{check_law}
use Rattle.mv_num.proofs.Lists.{slice_get_left, slice_get_right}

-- ---- codes by number

pub function_code : (parts : Parts) (f : ℕ) (code : Labelled) → slice_get parts.functions f ≡ Some code → slice_get (codes parts) f ≡ Some code
function_code parts f code found = slice_get_left parts.functions (variant_codes (function_variants parts.attributed)) f code found

each_begins : (parts : Parts) (attributed : List PartFunction) → All (FitsPartFunction parts) attributed → All (λ (v : PartVariant). BeginsWithWords v.code) (function_variants attributed)
each_begins parts [] all = All-nil (λ (v : PartVariant). BeginsWithWords v.code)
each_begins parts (a ∷ rest) all =
    let h = All-head (FitsPartFunction parts) a rest all in
    All-append (λ (v : PartVariant). BeginsWithWords v.code) a.variants (function_variants rest)
    (All-weaker (FitsPartVariant (kinds_of parts.switches a.switches)) (λ (v : PartVariant). BeginsWithWords v.code) (λ v fits. fits.begins) a.variants h.variants)
    (each_begins parts rest (All-tail (FitsPartFunction parts) a rest all))

abbrev pub no_code : Labelled
no_code = record { items = []; labels = 0 }

abbrev pub no_pointer : PartPointer
no_pointer = record { name = []; word = 0 }

abbrev pub no_function : PartFunction
no_function = record { name = []; function = 0; switches = []; variants = [] }

module _ (parts : Parts) (are : AreParts parts) (tables : FitTables parts) (sizing words : List ℕ) (fits : IsSizing (linked_lines parts) sizing)
    (under : AreWordsUnder text_start (linked_lines parts) sizing words) where
  open linked_text parts sizing words use {lines, at, entry, image, numbers, pointers}

  -- ---- attributed functions

  abbrev own : ℕ → PartFunction
  own n = get_or parts.attributed n no_function

  own_fits : (n : ℕ) → n < length parts.attributed → FitsPartFunction parts (own n)
  own_fits n below = tables.functions n no_function below

  number_is : (n : ℕ) → n < length parts.attributed → slice_index numbers n ≡ (own n).function
  number_is n below = get_or-map (λ (a : PartFunction). a.function) parts.attributed n no_function 0 below

  row_is : (n : ℕ) (d : FunctionRow) → n < length parts.attributed → get_or image.functions n d ≡ function_row entry (own n)
  row_is n d below = get_or-map (function_row entry) parts.attributed n no_function d below

  abbrev generic : PartFunction → Labelled
  generic a = get_or parts.functions a.function no_code

  module _ (a : PartFunction) (h : FitsPartFunction parts a) where
    generic_there : slice_get parts.functions a.function ≡ Some (generic a)
    generic_there = slice_get-get_or parts.functions a.function no_code h.there

    pub generic_begins : BeginsWithWords (generic a)
    generic_begins = h.begins (generic a) generic_there

    pub generic_code : slice_get (codes parts) a.function ≡ Some (generic a)
    generic_code = function_code parts a.function (generic a) generic_there

    own_in_text : IsInText image (entry a.function)
    own_in_text = entry_in_text parts are sizing words fits under a.function (generic a) generic_code generic_begins image refl

  function_rows_fit : All (FitsFunction image) image.functions
  function_rows_fit =
      All-map (FitsFunction image) (function_row entry) parts.attributed
      (λ k d l. let h = tables.functions k d l in function_fits image entry parts (length-map parts.switches switch_row) _ h (own_in_text _ h))

  -- ---- variants

  rows_fit : (n : ℕ) (vs : List PartVariant) → ((j : ℕ) (v : PartVariant) → slice_get vs j ≡ Some v → slice_get (codes parts) (n + j) ≡ Some v.code)
      → All (λ (v : PartVariant). BeginsWithWords v.code) vs → All IsRowed vs → All (FitsVariant image) (variant_rows entry n vs)
  rows_fit n [] there begin rowed = All-nil (FitsVariant image)
  rows_fit n (v ∷ vs) there begin rowed =
      let here : n + 0 ≡ n = omega arith in
      let found : slice_get (codes parts) n ≡ Some v.code = subst (λ i. slice_get (codes parts) i ≡ Some v.code) here (there 0 v refl) in
      let text = entry_in_text parts are sizing words fits under n v.code found (All-head (λ (x : PartVariant). BeginsWithWords x.code) v vs begin) image refl in
      All-cons (FitsVariant image) (variant_row (entry n) v) (variant_rows entry (suc n) vs) (variant_fits image (entry n) v text (All-head IsRowed v vs rowed))
      (rows_fit (suc n) vs (λ j x found. let next : n + suc j ≡ suc n + j = omega arith in subst (λ i. slice_get (codes parts) i ≡ Some x.code) next (there (suc j) x found))
      (All-tail (λ (x : PartVariant). BeginsWithWords x.code) v vs begin) (All-tail IsRowed v vs rowed))

  variant_there : (j : ℕ) (v : PartVariant) → slice_get (function_variants parts.attributed) j ≡ Some v → slice_get (codes parts) (length parts.functions + j) ≡ Some v.code
  variant_there j v found =
      slice_get_right parts.functions (variant_codes (function_variants parts.attributed)) j v.code
      (slice_get-map (λ (x : PartVariant). x.code) (function_variants parts.attributed) j ∙ ap (option_map (λ (x : PartVariant). x.code)) found)

  variant_rows_fit : All (FitsVariant image) image.variants
  variant_rows_fit =
      rows_fit (length parts.functions) (function_variants parts.attributed) variant_there (each_begins parts parts.attributed tables.functions)
      (all_rowed parts parts.attributed tables.functions)

  variants_clean : (n : ℕ) (vs : List PartVariant) → All VariantClean (variant_rows entry n vs)
  variants_clean n [] = All-nil VariantClean
  variants_clean n (v ∷ vs) = All-cons VariantClean (variant_row (entry n) v) (variant_rows entry (suc n) vs) (variant_clean (entry n) v) (variants_clean (suc n) vs)

  -- ---- guard rows

  grouped : AreGrouped image (groups_of parts.attributed)
  grouped = record {
    functions = function_counts entry parts.attributed;
    variants = group_counts entry (length parts.functions) parts.attributed;
    guards = group_guards parts.attributed;
  }

  groups_fit : GroupsFit image (groups_of parts.attributed)
  groups_fit f d below =
      let n : f < length parts.attributed = omega (arith, below, length-map parts.attributed (function_row entry)) in
      let group : get_or (groups_of parts.attributed) f [] ≡ variant_guards (own f).variants = get_or-map (λ (a : PartFunction). variant_guards a.variants) parts.attributed f no_function [] n in
      subst (λ (row : FunctionRow). All (λ rows. All (FitsGuard image row) rows) (get_or (groups_of parts.attributed) f [])) (sym (row_is f d n))
      (subst (λ groups. All (λ rows. All (FitsGuard image (function_row entry (own f))) rows) groups) (sym group)
      (All-map (λ rows. All (FitsGuard image (function_row entry (own f))) rows) (λ (v : PartVariant). v.guards) (own f).variants
      (λ k e l. All-weaker (IsRange (kinds_of parts.switches (own f).switches)) (FitsGuard image (function_row entry (own f))) (guard_fits image parts refl entry (own f)) _
      ((own_fits f n).variants k e l).ranges)))

  -- ---- sites

  calls : All (CallsAmong numbers) lines
  calls = lines_call numbers parts tables.slots

  abbrev sites : List SiteRow
  sites = sites_from at numbers 0 lines

  module _ (k f : ℕ) (below : k < length lines) (line : line_at lines k ≡ Slot f) where
    called : IsAmong numbers f
    called = let c = subst (CallsAmong numbers) line (calls k _ below) in among numbers f c.0 c.1

    abbrev n : ℕ
    n = place_among numbers f

    n_below : n < length parts.attributed
    n_below = omega (arith, called.below, length-map parts.attributed (λ (a : PartFunction). a.function))

    own_is : (own n).function ≡ f
    own_is = sym (number_is n n_below) ∙ get_or_from_slice_get numbers n f 0 called.there

    stands : SlotStands (word_at text_start words) (at k) (at (suc k)) (entry f)
    stands =
        let next : k + 1 ≡ suc k = omega arith in
        subst (λ j. SlotStands (word_at text_start words) (at k) (at j) (entry f)) next
        (subst (λ (x : Line). LineStands (word_at text_start words) entry entry (at k) (at (k + 1)) x) line (under.stands.each k below))

    two : 2 ≤ least_words (line_at lines k)
    two = omega (arith, ap least_words line)

    pub site_fits : FitsSite image (record { address = at k; function = n })
    site_fits =
        slot_is_site image (record { address = at k; function = n }) (at (suc k)) (entry f)
        (in_text parts are sizing words fits under image refl k below (omega (arith, two)))
        (word_in_text parts are sizing words fits under image refl k 1 below two)
        (omega (arith, n_below, length-map parts.attributed (function_row entry)))
        (under.places k)
        (under.places (label_index lines f))
        (λ d. ap (λ (row : FunctionRow). row.entry) (row_is n d n_below) ∙ ap entry own_is)
        stands

  site_rows_fit : All (FitsSite image) sites
  site_rows_fit = All-from_get_or (FitsSite image) sites any_site (λ i below.
      let s = site_is at numbers lines 0 i below in
      let here : 0 + s.index ≡ s.index = omega arith in
      subst (FitsSite image) (sym (s.row any_site ∙ ap (λ j. row_at at numbers j s.function) here)) (site_fits s.index s.function s.within s.line))
    where
      any_site : SiteRow
      any_site = record { address = 0; function = 0 }

  -- ---- entries and sites apart

  entries_ascend : (k : ℕ) (d : FunctionRow) → k + 1 < length image.functions → (get_or image.functions k d).entry < (get_or image.functions (k + 1) d).entry
  entries_ascend k d below =
      let count = length-map parts.attributed (function_row entry) in
      let next : k + 1 < length parts.attributed = omega (arith, below, count) in
      let this : k < length parts.attributed = omega (arith, next) in
      let less = tables.ascend k next in
      let here = number_is k this in
      let there = number_is (k + 1) next in
      let h = own_fits k this in
      let g = own_fits (k + 1) next in
      let before = entry_before parts are sizing words fits under (own k).function (generic (own k)) (generic_code (own k) h) (generic_begins (own k) h)
      (own (k + 1)).function (generic (own (k + 1))) (generic_code (own (k + 1)) g) (omega (arith, less, here, there)) in
      let first : (get_or image.functions k d).entry ≡ entry (own k).function = ap (λ (row : FunctionRow). row.entry) (row_is k d this) in
      let second : (get_or image.functions (k + 1) d).entry ≡ entry (own (k + 1)).function = ap (λ (row : FunctionRow). row.entry) (row_is (k + 1) d next) in
      omega (arith, before, first, second)

  sites_ascend : (i : ℕ) (d : SiteRow) → i + 1 < length sites → (get_or sites i d).address + 8 ≤ (get_or sites (i + 1) d).address
  sites_ascend i d below =
      let s = sites_are at numbers lines 0 i below in
      let less = behind_line text_start lines sizing s.this.index 2 s.next.index fits s.this.within (omega (arith, ap least_words s.this.line)) s.less in
      let first : (get_or sites i d).address ≡ at (0 + s.this.index) = ap (λ (row : SiteRow). row.address) (s.this.row d) in
      let later : i + 1 ≡ suc i = omega arith in
      let second : (get_or sites (i + 1) d).address ≡ at (0 + s.next.index) = ap (λ j. (get_or sites j d).address) later ∙ ap (λ (row : SiteRow). row.address) (s.next.row d) in
      let this : at (0 + s.this.index) ≡ at s.this.index = let e : 0 + s.this.index ≡ s.this.index = omega arith in ap at e in
      let next : at (0 + s.next.index) ≡ at s.next.index = let e : 0 + s.next.index ≡ s.next.index = omega arith in ap at e in
      omega (arith, less, first, second, this, next)

  entries_outside : (f k : ℕ) (d : FunctionRow) (e : SiteRow) → f < length image.functions → k < length sites
      → ((get_or image.functions f d).entry < (get_or sites k e).address) ⊎ ((get_or sites k e).address + 8 ≤ (get_or image.functions f d).entry)
  entries_outside f k d e within below =
      let n : f < length parts.attributed = omega (arith, within, length-map parts.attributed (function_row entry)) in
      let h = own_fits f n in
      let s = site_is at numbers lines 0 k below in
      let index : 0 + s.index ≡ s.index = omega arith in
      let site : (get_or sites k e).address ≡ at s.index = ap (λ (row : SiteRow). row.address) (s.row e) ∙ ap at index in
      let own_entry : (get_or image.functions f d).entry ≡ entry (own f).function = ap (λ (row : FunctionRow). row.entry) (row_is f d n) in
      let apart = entry_outside parts are sizing words fits under (own f).function (generic (own f)) (generic_code (own f) h) (generic_begins (own f) h) s.index s.function s.within s.line in
      subst (λ a. (a < (get_or sites k e).address) ⊎ ((get_or sites k e).address + 8 ≤ a)) (sym own_entry)
      (subst (λ a. (entry (own f).function < a) ⊎ (a + 8 ≤ entry (own f).function)) (sym site) apart)

  -- ---- the stub of calls through pointer switches

  module _ (checks : has_pointers parts ≡ true) where
    stub_line : (j : ℕ) → j < 7 → line_at lines (check_index + j) ≡ line_at check_lines j
    stub_line j lt = let stands = check_law parts are checks in stands.stub.each j (omega arith)

    stub_within : check_index + 7 ≤ length lines
    stub_within = let stands = check_law parts are checks in omega (arith, stands.stub.within)

    stub_stands : (j : ℕ) → j < 7 → LineStands (word_at text_start words) entry entry (at (check_index + j)) (at (check_index + j + 1)) (line_at check_lines j)
    stub_stands j lt =
        subst (λ (x : Line). LineStands (word_at text_start words) entry entry (at (check_index + j)) (at (check_index + j + 1)) x) (stub_line j lt)
        (under.stands.each (check_index + j) (omega (arith, stub_within)))

    -- its label, the first word of its test of the pointer, and that of its test of the depth
    check_at : entry check_label ≡ at (check_index + 1)
    check_at =
        let stands = check_law parts are checks in
        let end : at (check_index + 1) ≡ at check_index = stub_stands 0 (omega arith) in
        under.stands.labels check_index check_label (omega (arith, stub_within)) (stub_line 0 (omega arith)) stands.label ∙ sym end

    depth_at : at (check_index + 3) ≡ entry check_label + 8
    depth_at =
        let branch : at (check_index + 2) ≡ at (check_index + 1) + 4 = (stub_stands 1 (omega arith)).1 in
        let jump : at (check_index + 3) ≡ at (check_index + 2) + 4 = (stub_stands 2 (omega arith)).end_is in
        omega (arith, branch, jump, check_at)

    check_in_text : IsInText image (entry check_label)
    check_in_text =
        subst (IsInText image) (sym check_at)
        (in_text parts are sizing words fits under image refl (check_index + 1) (omega (arith, stub_within)) (omega (arith, ap least_words (stub_line 1 (omega arith)))))

    depth_in_text : IsInText image (entry check_label + 8)
    depth_in_text =
        subst (IsInText image) depth_at
        (in_text parts are sizing words fits under image refl (check_index + 3) (omega (arith, stub_within)) (omega (arith, ap least_words (stub_line 3 (omega arith)))))

  -- ---- pointer sites

  through : All (GoesThrough pointers) lines
  through = lines_through pointers parts tables.through

  abbrev points : List PointRow
  points = points_from at pointers 0 lines

  check_none : length points ≡ 0 → image.check ≡ 0
  check_none none =
      let count = point_length at pointers lines 0 in
      let test : nat_lt 0 (point_count lines) ≡ false = grind (arith, nat_tests, none, count) in
      ap (λ b. cond b (entry check_label) 0) test

  pub check_some : 0 < length points → image.check ≡ entry check_label
  check_some some =
      let count = point_length at pointers lines 0 in
      let test : nat_lt 0 (point_count lines) ≡ true = grind (arith, nat_tests, some, count) in
      ap (λ b. cond b (entry check_label) 0) test

  point_checks : 0 < length points → has_pointers parts ≡ true
  point_checks some = let s = point_is at pointers lines 0 0 some in line_has_pointers parts tables s.index s.pointer s.within s.line

  has_check : HasCheck image
  has_check = record {
    none = check_none;
    check = λ some. subst (IsInText image) (sym (check_some some)) (check_in_text (point_checks some));
    depth = λ some. subst (λ a. IsInText image (a + 8)) (sym (check_some some)) (depth_in_text (point_checks some));
  }

  module _ (k p : ℕ) (below : k < length lines) (line : line_at lines k ≡ Point p) (check_is : image.check ≡ entry check_label) where
    gone : IsAmong pointers p
    gone = let goes = subst (GoesThrough pointers) line (through k _ below) in among pointers p goes.0 goes.1

    abbrev m : ℕ
    m = place_among pointers p

    m_below : m < length parts.pointers
    m_below = omega (arith, gone.below, length-map parts.pointers pointer_address)

    address_is : (d : PointerRow) → (get_or image.pointers m d).address ≡ p
    address_is d =
        ap (λ (row : PointerRow). row.address) (get_or-map pointer_row parts.pointers m no_pointer d m_below)
        ∙ sym (get_or-map pointer_address parts.pointers m no_pointer 0 m_below)
        ∙ get_or_from_slice_get pointers m p 0 gone.there

    point_stands : PointStands (word_at text_start words) (at k) (at (suc k)) image.check p
    point_stands =
        let next : k + 1 ≡ suc k = omega arith in
        let placed : PointStands (word_at text_start words) (at k) (at (suc k)) (entry check_label) p =
        subst (λ j. PointStands (word_at text_start words) (at k) (at j) (entry check_label) p) next
        (subst (λ (x : Line). LineStands (word_at text_start words) entry entry (at k) (at (k + 1)) x) line (under.stands.each k below)) in
        subst (λ c. PointStands (word_at text_start words) (at k) (at (suc k)) c p) (sym check_is) placed

    four : 4 ≤ least_words (line_at lines k)
    four = omega (arith, ap least_words line)

    test_place : IsPlace (at k + 8)
    test_place =
        let first = under.places k in
        let last = word_in_text parts are sizing words fits under image refl k 3 below four in
        (omega (arith, first.0), omega (arith, last.within, under.count, under.within), omega (arith, first.2))

    point_fits : FitsPoint image (record { address = at k; pointer = m })
    point_fits =
        slot_is_point image (record { address = at k; pointer = m }) (at (suc k)) p
        (in_text parts are sizing words fits under image refl k below (omega (arith, four)))
        (word_in_text parts are sizing words fits under image refl k 3 below four)
        (omega (arith, m_below, length-map parts.pointers pointer_row))
        test_place
        (subst IsPlace (sym check_is) (under.places (label_index lines check_label)))
        address_is
        point_stands

  point_rows_fit : All (FitsPoint image) points
  point_rows_fit = All-from_get_or (FitsPoint image) points any_point (λ i below.
      let s = point_is at pointers lines 0 i below in
      let here : 0 + s.index ≡ s.index = omega arith in
      subst (FitsPoint image) (sym (s.row any_point ∙ ap (λ j. point_row_at at pointers j s.pointer) here)) (point_fits s.index s.pointer s.within s.line (check_some (omega (arith, below)))))
    where
      any_point : PointRow
      any_point = record { address = 0; pointer = 0 }

  point_address : (i : ℕ) (d : PointRow) (k p : ℕ) → ((e : PointRow) → get_or points i e ≡ point_row_at at pointers (0 + k) p) → (get_or points i d).address ≡ at k
  point_address i d k p row = let here : 0 + k ≡ k = omega arith in ap (λ (x : PointRow). x.address) (row d) ∙ ap at here

  points_ascend : (i : ℕ) (d : PointRow) → i + 1 < length points → (get_or points i d).address + 16 ≤ (get_or points (i + 1) d).address
  points_ascend i d below =
      let s = points_are at pointers lines 0 i below in
      let less = behind_line text_start lines sizing s.this.index 4 s.next.index fits s.this.within (omega (arith, ap least_words s.this.line)) s.less in
      let later : i + 1 ≡ suc i = omega arith in
      let second : (get_or points (i + 1) d).address ≡ at s.next.index = ap (λ j. (get_or points j d).address) later ∙ point_address (suc i) d s.next.index s.next.pointer s.next.row in
      omega (arith, less, point_address i d s.this.index s.this.pointer s.this.row, second)

  entries_outside_points : (f k : ℕ) (d : FunctionRow) (e : PointRow) → f < length image.functions → k < length points
      → ((get_or image.functions f d).entry < (get_or points k e).address) ⊎ ((get_or points k e).address + 16 ≤ (get_or image.functions f d).entry)
  entries_outside_points f k d e within below =
      let n : f < length parts.attributed = omega (arith, within, length-map parts.attributed (function_row entry)) in
      let h = own_fits f n in
      let s = point_is at pointers lines 0 k below in
      let own_entry : (get_or image.functions f d).entry ≡ entry (own f).function = ap (λ (row : FunctionRow). row.entry) (row_is f d n) in
      let apart = entry_outside_point parts are sizing words fits under (own f).function (generic (own f)) (generic_code (own f) h) (generic_begins (own f) h) s.index s.pointer s.within s.line in
      subst (λ a. (a < (get_or points k e).address) ⊎ ((get_or points k e).address + 16 ≤ a)) (sym own_entry)
      (subst (λ a. (entry (own f).function < a) ⊎ (a + 16 ≤ entry (own f).function)) (sym (point_address k e s.index s.pointer s.row)) apart)

  sites_beside_points : (j k : ℕ) (d : SiteRow) (e : PointRow) → j < length sites → k < length points
      → ((get_or sites j d).address < (get_or points k e).address) ⊎ ((get_or points k e).address + 16 ≤ (get_or sites j d).address)
  sites_beside_points j k d e within below =
      let s = site_is at numbers lines 0 j within in
      let t = point_is at pointers lines 0 k below in
      let here : 0 + s.index ≡ s.index = omega arith in
      let site : (get_or sites j d).address ≡ at s.index = ap (λ (row : SiteRow). row.address) (s.row d) ∙ ap at here in
      let point = point_address k e t.index t.pointer t.row in
      elim (cases_lt s.index t.index) [
        | inl before ↦
            let less = behind_line text_start lines sizing s.index 2 t.index fits s.within (omega (arith, ap least_words s.line)) before in
            inl (omega (arith, less, site, point))
        | inr not_before ↦
            let differ : s.index ≡ t.index → ⊥ = λ same. let lines_same = sym s.line ∙ ap (line_at lines) same ∙ t.line in cc in
            let less = behind_line text_start lines sizing t.index 4 s.index fits t.within (omega (arith, ap least_words t.line)) (omega (arith, not_before, differ)) in
            inr (omega (arith, less, site, point))
      ]

  -- ---- pointer switches, and their targets

  pointer_rows_fit : All (FitsPointer image) image.pointers
  pointer_rows_fit =
      All-map (FitsPointer image) pointer_row parts.pointers (λ k d l. pointer_fits image (length parts.globals) (omega (arith, length-map parts.globals (datum_word entry))) _ (tables.pointers k d l))

  abbrev target_code : ℕ → Labelled
  target_code k = get_or parts.functions k no_code

  target_there : (k : ℕ) → k < length parts.targets → slice_get (codes parts) k ≡ Some (target_code k)
  target_there k below = function_code parts k (target_code k) (slice_get-get_or parts.functions k no_code (omega (arith, below, tables.targets_there)))

  target_begins : (k : ℕ) → k < length parts.targets → BeginsWithWords (target_code k)
  target_begins k below = tables.targets_begin (λ none. omega (arith, below, ap length none)) k no_code (omega (arith, below, tables.targets_there))

  abbrev targets : List TargetRow
  targets = target_rows entry 0 parts.targets

  target_is : (k : ℕ) (d : TargetRow) → k < length parts.targets → get_or targets k d ≡ record { length = length (get_or parts.targets k []); entry = entry k }
  target_is k d below = let here : 0 + k ≡ k = omega arith in target_at entry 0 parts.targets k d below ∙ ap (λ j. record { length = length (get_or parts.targets k []); entry = entry j }) here

  target_rows_fit : All (FitsTarget image) targets
  target_rows_fit = All-from_get_or (FitsTarget image) targets any_target (λ k below.
      let within : k < length parts.targets = omega (arith, below, target_count entry 0 parts.targets) in
      subst (FitsTarget image) (sym (target_is k any_target within))
      (target_fits image (get_or parts.targets k []) (entry k) (tables.targets k [] within)
      (entry_in_text parts are sizing words fits under k (target_code k) (target_there k within) (target_begins k within) image refl)))
    where
      any_target : TargetRow
      any_target = record { length = 0; entry = 0 }

  targets_ascend : (k : ℕ) (d : TargetRow) → k + 1 < length targets → (get_or targets k d).entry < (get_or targets (k + 1) d).entry
  targets_ascend k d below =
      let next : k + 1 < length parts.targets = omega (arith, below, target_count entry 0 parts.targets) in
      let this : k < length parts.targets = omega (arith, next) in
      let before = entry_before parts are sizing words fits under k (target_code k) (target_there k this) (target_begins k this) (k + 1) (target_code (k + 1)) (target_there (k + 1) next) (omega arith) in
      let first : (get_or targets k d).entry ≡ entry k = ap (λ (row : TargetRow). row.entry) (target_is k d this) in
      let second : (get_or targets (k + 1) d).entry ≡ entry (k + 1) = ap (λ (row : TargetRow). row.entry) (target_is (k + 1) d next) in
      omega (arith, before, first, second)

  -- ---- names

  abbrev switch_names : List (List ℕ)
  switch_names = map (λ (s : PartSwitch). s.name) parts.switches

  abbrev function_names : List (List ℕ)
  function_names = map (λ (a : PartFunction). a.name) parts.attributed

  abbrev pointer_names : List (List ℕ)
  pointer_names = map (λ (q : PartPointer). q.name) parts.pointers

  named : AreNamed image
  named = record {
    identifiers =
        All-append IsIdentifier (switch_names ++ function_names ++ pointer_names) parts.targets
        (All-append IsIdentifier (switch_names ++ function_names) pointer_names
        (All-append IsIdentifier switch_names function_names
        (All-map IsIdentifier (λ (s : PartSwitch). s.name) parts.switches (λ k d l. (tables.switches k d l).name.identifier))
        (All-map IsIdentifier (λ (a : PartFunction). a.name) parts.attributed (λ k d l. (tables.functions k d l).name.identifier)))
        (All-map IsIdentifier (λ (q : PartPointer). q.name) parts.pointers (λ k d l. (tables.pointers k d l).name.identifier)))
        (All-weaker IsName IsIdentifier (λ name h. h.identifier) parts.targets tables.targets);
    lengths =
        map-append length (switch_names ++ function_names ++ pointer_names) parts.targets
        ∙ ap (λ ls. ls ++ map length parts.targets) (map-append length (switch_names ++ function_names) pointer_names)
        ∙ ap (λ ls. ls ++ map length pointer_names ++ map length parts.targets) (map-append length switch_names function_names)
        ∙ ap (λ ls. ls ++ map length function_names ++ map length pointer_names ++ map length parts.targets) (switch_lengths parts.switches)
        ∙ ap (λ ls. map (λ (row : SwitchRow). row.length) image.switches ++ ls ++ map length pointer_names ++ map length parts.targets) (function_lengths parts.attributed)
        ∙ ap (λ ls. map (λ (row : SwitchRow). row.length) image.switches ++ map (λ (row : FunctionRow). row.length) image.functions ++ ls ++ map length parts.targets) (pointer_lengths parts.pointers)
        ∙ ap (λ ls. map (λ (row : SwitchRow). row.length) image.switches ++ map (λ (row : FunctionRow). row.length) image.functions ++ map (λ (row : PointerRow). row.length) image.pointers ++ ls) (target_lengths 0 parts.targets);
  }
    where
      switch_lengths : (switches : List PartSwitch) → map length (map (λ (s : PartSwitch). s.name) switches) ≡ map (λ (row : SwitchRow). row.length) (map switch_row switches)
      switch_lengths [] = refl
      switch_lengths (s ∷ rest) = ap (λ ls. length s.name ∷ ls) (switch_lengths rest)

      function_lengths : (attributed : List PartFunction) → map length (map (λ (a : PartFunction). a.name) attributed) ≡ map (λ (row : FunctionRow). row.length) (map (function_row entry) attributed)
      function_lengths [] = refl
      function_lengths (a ∷ rest) = ap (λ ls. length a.name ∷ ls) (function_lengths rest)

      pointer_lengths : (qs : List PartPointer) → map length (map (λ (q : PartPointer). q.name) qs) ≡ map (λ (row : PointerRow). row.length) (map pointer_row qs)
      pointer_lengths [] = refl
      pointer_lengths (q ∷ rest) = ap (λ ls. length q.name ∷ ls) (pointer_lengths rest)

      target_lengths : (n : ℕ) (names : List (List ℕ)) → map length names ≡ map (λ (row : TargetRow). row.length) (target_rows entry n names)
      target_lengths n [] = refl
      target_lengths n (name ∷ rest) = ap (λ ls. length name ∷ ls) (target_lengths (suc n) rest)

  -- ---- the whole

  module _ (groups_are : GroupsAreRows) (few_sites : HasFewSites parts) (few_words : WithinLimit parts) where
    within : IsWithin image
    within =
        let few = are_few parts parts.attributed tables.functions in
        let most = under.within in
        record {
          some_text = omega (arith, some_words);
          text = omega (arith, most, under.count);
          globals = omega (arith, few_words, length-map parts.globals (datum_word entry));
          switches = omega (arith, tables.few_switches, length-map parts.switches switch_row);
          functions = omega (arith, tables.few_functions, length-map parts.attributed (function_row entry));
          variants = omega (arith, few.variants, tables.few_functions, variant_row_count entry (length parts.functions) (function_variants parts.attributed));
          guards = omega (arith, few.guards, tables.few_functions);
          sites = omega (arith, few_sites, site_length at numbers lines 0, point_length at pointers lines 0, slots_of_codes parts);
          pointers = omega (arith, tables.few_pointers, length-map parts.pointers pointer_row);
          points = omega (arith, few_sites, site_length at numbers lines 0, point_length at pointers lines 0, slots_of_codes parts);
          places = omega (arith, few_sites, site_length at numbers lines 0, point_length at pointers lines 0, slots_of_codes parts);
          targets = omega (arith, tables.few_targets, target_count entry 0 parts.targets);
          entry = record { aligned = refl; not_before = omega arith; within = omega (arith, some_words) };
        }
      where
        some_words : 1 ≤ length words
        some_words =
            let first = fits.at_least 0 (omega arith) in
            let there : 0 < length sizing = omega (arith, fits.one_each) in
            omega (arith, first, under.count, get_or-le-sum_by (λ (n : ℕ). n) sizing 0 0 there)

    belongs : GroupsBelong image
    belongs = groups_are image (groups_of parts.attributed) grouped groups_fit

    pub tables_fit : FitsFormat image
    tables_fit = record {
      version = record { known = inr refl; first = λ e. absurd (let other : true ≡ false = e in cc) };
      limits = within;
      check = has_check;
      fit = record {
        switches = All-map (FitsSwitch image) switch_row parts.switches (λ k d l. switch_fits image (length parts.globals) (omega (arith, length-map parts.globals (datum_word entry))) _ (tables.switches k d l));
        functions = function_rows_fit;
        variants = variant_rows_fit;
        guards = belongs.guards;
        sites = site_rows_fit;
        pointers = pointer_rows_fit;
        points = point_rows_fit;
        targets = target_rows_fit;
      };
      unused = record {
        switches = All-map SwitchClean switch_row parts.switches (λ k d l. padded_zeros 16 (get_or parts.switches k d).values);
        functions = All-map FunctionClean (function_row entry) parts.attributed (λ k d l. padded_zeros 6 (get_or parts.attributed k d).switches);
        variants = variants_clean (length parts.functions) (function_variants parts.attributed);
      };
      sums = belongs.sums;
      apart = record {
        entries = entries_ascend;
        sites = sites_ascend;
        outside = entries_outside;
        points = points_ascend;
        outside_points = entries_outside_points;
        beside_points = sites_beside_points;
        targets = targets_ascend;
      };
      names = named;
    }
