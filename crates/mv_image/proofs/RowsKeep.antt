-- Fields that fit the format: the words in which they stand keep every rule.
use Rattle.std.proofs.Common.{◌≡◌, ℕ, ◌+◌, ◌-◌, ◌*◌, ◌/◌, ◌%◌, ◌<◌, ◌≤◌, ◌⊎◌, true, false, ltb, List, [], length, slice_index, get_or, refl, sym, ap, subst, ◌∙◌, arith, inl, inr}
use Rattle.std.specs.Prelude.{sum_by}
use Rattle.std.proofs.Math.Seq.{take-length}
use Rattle.std.proofs.lemmas.Bool.{lt-ltb, le-ltb, cases_lt, cases_Bool}
use Rattle.mv_num.specs.Kinds.{kind_number, is_value, is_at_most}
use Rattle.mv_descriptors.proofs.Below.{each_below-all}
use Rattle.mv_descriptors.specs.WidthLaws.{kind_small}
use Rattle.mv_descriptors.specs.declared.rows.SwitchRow.{SwitchRow}
use Rattle.mv_descriptors.specs.declared.rows.FunctionRow.{FunctionRow}
use Rattle.mv_descriptors.specs.declared.rows.VariantRow.{VariantRow}
use Rattle.mv_descriptors.specs.declared.rows.GuardRow.{GuardRow}
use Rattle.mv_descriptors.specs.declared.rows.SiteRow.{SiteRow}
use Rattle.mv_descriptors.specs.declared.rows.PointerRow.{PointerRow}
use Rattle.mv_descriptors.specs.declared.rows.PointRow.{PointRow}
use Rattle.mv_descriptors.specs.declared.rows.TargetRow.{TargetRow}
use Rattle.mv_image.specs.Places.{switch_row_words, function_row_words, variant_row_words, guard_row_words, site_row_words, pointer_row_words, point_row_words, target_row_words, magic_place, version_place, last_place, pointers_place, points_place, targets_place, check_place, magic, is_second, entry_address, header_words, switch_rows, function_rows, variant_rows, guard_rows, site_rows, pointer_rows, point_rows, target_rows, switches_at, functions_at, variants_at, guards_at, sites_at, pointers_at, points_at, targets_at, switch_field, function_field, variant_field, guard_field, site_field, pointer_field, point_field, target_field, entry_of, variants_of, guards_of, text_word, sum_below, owner, guard_function}
use Rattle.mv_image.specs.Rules.{is_text_address, is_data_address, word_fits, header_fits, switch_fits, function_fits, variant_fits, guard_fits, site_fits, pointer_fits, point_fits, target_fits, kind_at, is_outside, is_outside_four, stands_free}
use Rattle.mv_image.specs.Jumps.{jump, slot_words}
use Rattle.mv_image.specs.Spelling.{Fields}
use Rattle.mv_image.specs.Faults.{AllFit}
use Rattle.mv_image.specs.Patched.{kind_of}
use Rattle.mv_image.specs.WellFormed.{FitsGuard}
use Rattle.mv_image.specs.Format.{FitsFormat, IsGuardOf}
use Rattle.mv_image.proofs.PlaceLaws.{IsOwner, has_owner}
use Rattle.mv_image.proofs.RowRules.{functions_from, variants_from, guards_from, sites_from, pointers_from, points_from, targets_from, end_from, header_word, switch_word, function_word, variant_word, guard_word, site_word, pointer_word, point_word, target_word}
use Rattle.mv_image.proofs.WhatIsRead.{header_second}
use Rattle.mv_image.proofs.RowsStand.{StandIn, later_is, header_first, variants_stand, guards_stand, function_switch_stands, switch_value_stands, inline_word_stands, lowest_stands, highest_stands, text_word_stands}
use Rattle.mv_image.proofs.RowsFit.{slot_address}
use Rattle.mv_image.proofs.Sums.{variants_below, guards_below, kind_stands, any_switch, any_function, any_variant}
use Rattle.mv_image.proofs.NameRules.{any_pointer, any_target, names_add_up}
use Rattle.mv_image.proofs.FieldRules.{of_header, of_later, SumsHold, text_address, data_address, header_magic, header_version, header_entry, header_text, header_data, header_switches, header_functions, header_variants, header_guards, header_sites, header_names, header_last, header_pointers, header_points, header_targets, header_check, switch_named, switch_addressed, switch_kinded, switch_counted, switch_valued, function_named, function_entered, function_counted, function_switched, function_variable, variant_addressed, variant_flagged, variant_inlined, variant_guarded, guard_lowest, guard_highest, site_addressed, site_called, is_out, pointer_named, pointer_addressed, is_out_of_four, nothing_within, point_addressed, point_called, target_named, target_entered, switch_fields, function_fields, variant_fields, guard_fields, two_fields}

-- The first word of the header and the last that both versions have are those of the format.
pub record HasFormat (ws : List ℕ) : Type 0 where
  pub magic : slice_index ws magic_place ≡ magic
  pub last : slice_index ws last_place ≡ 0

sums_hold : (ws : List ℕ) (a : Fields) → StandIn ws a → FitsFormat a → SumsHold ws
sums_hold ws a s h =
    let c = s.counts in
    let f : FunctionRow → ℕ = λ row. row.variants in
    let g : VariantRow → ℕ = λ row. row.guards in
    record {
      variants = ap (sum_below (variants_of ws)) c.functions ∙ variants_below ws a s (length a.functions) (omega arith) ∙ ap (sum_by f) (take-length a.functions) ∙ h.sums.variants ∙ sym c.variants;
      guards = ap (sum_below (guards_of ws)) c.variants ∙ guards_below ws a s (length a.variants) (omega arith) ∙ ap (sum_by g) (take-length a.variants) ∙ h.sums.guards ∙ sym c.guards;
      names = names_add_up ws a s h.names.lengths;
    }

later_keeps : (ws : List ℕ) (a : Fields) → StandIn ws a → FitsFormat a → SumsHold ws → (i : ℕ) → i < header_words ws → 12 ≤ i → header_fits ws i ≡ true
later_keeps ws a s h sums i lt from =
    let c = s.counts in
    let limits = h.limits in
    elim (cases_Bool (is_second ws)) [
      | inl e ↦
          let pointers = later_is ws pointers_place e in
          let points = later_is ws points_place e in
          let targets = later_is ws targets_place e in
          let check : slice_index ws check_place ≡ a.check = sym (later_is ws check_place e) ∙ c.check in
          of_later (λ (k : ℕ). header_fits ws k ≡ true)
          (header_pointers ws (omega (arith, pointers, c.pointers, limits.pointers))) (header_points ws (omega (arith, points, c.points, limits.points)) (omega (arith, points, c.points, c.sites, limits.places)))
          (header_targets ws sums (omega (arith, targets, c.targets, limits.targets)))
          (header_check ws (λ none. check ∙ h.check.none (sym c.points ∙ none)) (λ some. (
          let there : 0 < length a.points = omega (arith, c.points, some) in (
            subst (λ (x : ℕ). is_text_address ws x ≡ true) (sym check) (text_address a ws a.check c.text (h.check.check there)),
            subst (λ (x : ℕ). is_text_address ws (x + 8) ≡ true) (sym check) (text_address a ws (a.check + 8) c.text (h.check.depth there)),
          ))))
          i from (omega (arith, lt, header_second ws e))
      | inr e ↦ absurd (omega (arith, lt, from, header_first ws e))
    ]

header_keeps : (ws : List ℕ) (a : Fields) → StandIn ws a → HasFormat ws → FitsFormat a → SumsHold ws → (i : ℕ) → i < header_words ws → header_fits ws i ≡ true
header_keeps ws a s format h sums i lt =
    let c = s.counts in
    let limits = h.limits in
    let entry = c.entry in
    let version : (slice_index ws version_place ≡ 1) ⊎ (slice_index ws version_place ≡ 2) = elim h.version.known [
      | inl e ↦ inl (c.version ∙ e)
      | inr e ↦ inr (c.version ∙ e)
    ] in
    let start : entry_address ws % 4 ≡ 0 = ap (λ (x : ℕ). x % 4) entry ∙ limits.entry.aligned in
    let in_text = subst (λ (x : ℕ). is_text_address ws x ≡ true) (sym entry) (text_address a ws a.entry c.text limits.entry) in
    of_header (λ (k : ℕ). header_fits ws k ≡ true)
    (header_magic ws format.magic) (header_version ws version) (header_entry ws start)
    (header_text ws (omega (arith, c.text, limits.some_text)) (omega (arith, c.text, limits.text)) in_text)
    (header_data ws (omega (arith, c.globals, limits.globals))) (header_switches ws (omega (arith, c.switches, limits.switches))) (header_functions ws (omega (arith, c.functions, limits.functions)))
    (header_variants ws sums (omega (arith, c.variants, limits.variants))) (header_guards ws sums (omega (arith, c.guards, limits.guards))) (header_sites ws (omega (arith, c.sites, limits.sites)))
    (header_names ws sums) (header_last ws format.last) i (λ from. later_keeps ws a s h sums i lt from)

switch_keeps : (ws : List ℕ) (a : Fields) → StandIn ws a → FitsFormat a → SumsHold ws → (k : ℕ) → k < length a.switches → (f : ℕ) → f < switch_row_words → switch_fits ws k f ≡ true
switch_keeps ws a s h sums k lt =
    let d = any_switch in
    let row : SwitchRow = get_or a.switches k d in
    let fits = h.fit.switches k d lt in
    let clean = h.unused.switches k d lt in
    let f0 : switch_field ws k 0 ≡ row.length = s.switch k 0 d lt (omega arith) in
    let f1 : switch_field ws k 1 ≡ row.address = s.switch k 1 d lt (omega arith) in
    let f2 : switch_field ws k 2 ≡ kind_number row.kind = s.switch k 2 d lt (omega arith) in
    let f3 : switch_field ws k 3 ≡ row.count = s.switch k 3 d lt (omega arith) in
    let value : (i : ℕ) → i < 16 → switch_field ws k (4 + i) ≡ slice_index row.values i = λ i hi. switch_value_stands ws a s k i d lt hi in
    switch_fields (λ (f : ℕ). switch_fits ws k f ≡ true)
    (switch_named ws k sums (omega (arith, f0, fits.named)) (omega (arith, f0, fits.name)))
    (switch_addressed ws k (subst (λ (x : ℕ). is_data_address ws x ≡ true) (sym f1) (data_address a ws row.address s.counts.globals fits.address)))
    (switch_kinded ws k (omega (arith, f2, kind_small row.kind)))
    (switch_counted ws k (omega (arith, f3, fits.some)) (omega (arith, f3, fits.count)))
    (λ i hi. switch_valued ws k i
    (λ used. ap (λ (x : ℕ). is_value x (switch_field ws k (4 + i))) f2 ∙ ap (is_value (kind_number row.kind)) (value i hi) ∙ fits.values i (omega (arith, f3, used)))
    (λ unused. value i hi ∙ clean i (omega (arith, f3, unused))))

-- what holds of each next row holds of each row but the first and the one before
from_next : (P : ℕ → ℕ → Type 0) (n k : ℕ) → ((i : ℕ) → i + 1 < n → P i (i + 1)) → 0 < k → k < n → P (k - 1) k
from_next P n k next pos lt = let e : k - 1 + 1 ≡ k = omega arith in subst (λ (j : ℕ). P (k - 1) j) e (next (k - 1) (omega arith))

function_keeps : (ws : List ℕ) (a : Fields) → StandIn ws a → FitsFormat a → SumsHold ws → (k : ℕ) → k < length a.functions → (f : ℕ) → f < function_row_words → function_fits ws k f ≡ true
function_keeps ws a s h sums k lt =
    let d = any_function in
    let row : FunctionRow = get_or a.functions k d in
    let fits = h.fit.functions k d lt in
    let clean = h.unused.functions k d lt in
    let f0 : function_field ws k 0 ≡ row.length = s.function k 0 d lt (omega arith) in
    let entry : (j : ℕ) → j < length a.functions → entry_of ws j ≡ (get_or a.functions j d).entry = λ j hj. s.function j 1 d hj (omega arith) in
    let f2 : function_field ws k 2 ≡ row.count = s.function k 2 d lt (omega arith) in
    let f9 : variants_of ws k ≡ row.variants = variants_stand ws a s k d lt in
    let switch : (i : ℕ) → i < 6 → function_field ws k (3 + i) ≡ slice_index row.switches i = λ i hi. function_switch_stands ws a s k i d lt hi in
    function_fields (λ (f : ℕ). function_fits ws k f ≡ true)
    (function_named ws k sums (omega (arith, f0, fits.named)) (omega (arith, f0, fits.name)))
    (function_entered ws k (subst (λ (x : ℕ). is_text_address ws x ≡ true) (sym (entry k lt)) (text_address a ws row.entry s.counts.text fits.entry))
    (λ pos. from_next (λ (i j : ℕ). entry_of ws i < entry_of ws j) (length a.functions) k (λ i hi. omega (arith, entry i (omega (arith, hi)), entry (i + 1) hi, h.apart.entries i d hi)) pos lt))
    (function_counted ws k (omega (arith, f2, fits.count)))
    (λ i hi. function_switched ws k i hi
    (λ used. omega (arith, switch i hi, s.counts.switches, fits.switches i (omega (arith, f2, used))))
    (λ pos used. (
    let back : i - 1 + 1 ≡ i = omega (arith, pos) in
    let up : slice_index row.switches (i - 1) < slice_index row.switches i = subst (λ (j : ℕ). slice_index row.switches (i - 1) < slice_index row.switches j) back (fits.ascend (i - 1) (omega (arith, f2, used, back))) in
    omega (arith, switch i hi, switch (i - 1) (omega (arith, hi)), up)))
    (λ unused. switch i hi ∙ clean i (omega (arith, f2, unused))))
    (function_variable ws k sums (omega (arith, f9, fits.some)) (omega (arith, f9, fits.variants)))

variant_keeps : (ws : List ℕ) (a : Fields) → StandIn ws a → FitsFormat a → SumsHold ws → (k : ℕ) → k < length a.variants → (f : ℕ) → f < variant_row_words → variant_fits ws k f ≡ true
variant_keeps ws a s h sums k lt =
    let d = any_variant in
    let row : VariantRow = get_or a.variants k d in
    let fits = h.fit.variants k d lt in
    let clean = h.unused.variants k d lt in
    let f0 : variant_field ws k 0 ≡ row.address = s.variant k 0 d lt (omega arith) in
    let f1 : variant_field ws k 1 ≡ row.inlined = s.variant k 1 d lt (omega arith) in
    let f4 : guards_of ws k ≡ row.guards = guards_stand ws a s k d lt in
    let flag : variant_field ws k 1 ≤ 1 = omega (arith, f1, fits.inlined) in
    variant_fields (λ (f : ℕ). variant_fits ws k f ≡ true)
    (variant_addressed ws k (subst (λ (x : ℕ). is_text_address ws x ≡ true) (sym f0) (text_address a ws row.address s.counts.text fits.address)))
    (variant_flagged ws k flag)
    (λ i hi. variant_inlined ws k i hi flag (λ none. inline_word_stands ws a s k i d lt hi ∙ clean (sym f1 ∙ none) i (omega arith)))
    (variant_guarded ws k sums (omega (arith, f4, fits.some)) (omega (arith, f4, fits.guards)))

-- the variant and the function that a guard row belongs to
guard_owned : (ws : List ℕ) (a : Fields) → StandIn ws a → SumsHold ws → (g : ℕ) → g < length a.guards → IsGuardOf a (guard_function ws g) (owner (guards_of ws) (variant_rows ws) g) g
unfolding guard_function
guard_owned ws a s sums g lt =
    let c = s.counts in
    let v : ℕ = owner (guards_of ws) (variant_rows ws) g in
    let f : ℕ = owner (variants_of ws) (function_rows ws) v in
    let of_variant : IsOwner (guards_of ws) (variant_rows ws) v g = has_owner (guards_of ws) (variant_rows ws) g (omega (arith, sums.guards, c.guards, lt)) in
    let hv : v < length a.variants = omega (arith, of_variant.there, c.variants) in
    let of_function : IsOwner (variants_of ws) (function_rows ws) f v = has_owner (variants_of ws) (function_rows ws) v (omega (arith, sums.variants, c.variants, hv)) in
    let hf : f < length a.functions = omega (arith, of_function.there, c.functions) in
    record {
      function_there = hf;
      variant_there = hv;
      guard_there = lt;
      first_variant = omega (arith, of_function.start, variants_below ws a s f (omega (arith, hf)));
      last_variant = omega (arith, of_function.next, variants_below ws a s (f + 1) (omega (arith, hf)));
      first_guard = omega (arith, of_variant.start, guards_below ws a s v (omega (arith, hv)));
      last_guard = omega (arith, of_variant.next, guards_below ws a s (v + 1) (omega (arith, hv)));
    }

any_guard : GuardRow
any_guard = record { low = []; high = [] }

guard_keeps : (ws : List ℕ) (a : Fields) → StandIn ws a → FitsFormat a → SumsHold ws → (g : ℕ) → g < length a.guards → (f : ℕ) → f < guard_row_words → guard_fits ws g f ≡ true
guard_keeps ws a s h sums g lt =
    let f : ℕ = guard_function ws g in
    let own = guard_owned ws a s sums g lt in
    let hf = own.function_there in
    let function : FunctionRow = get_or a.functions f any_function in
    let row : GuardRow = get_or a.guards g any_guard in
    let fits : FitsGuard a function row = h.fit.guards f (owner (guards_of ws) (variant_rows ws) g) g any_function any_guard own in
    let wide = h.fit.functions f any_function hf in
    let count : function_field ws f 2 ≡ function.count = s.function f 2 any_function hf (omega arith) in
    let kind : (i : ℕ) → i < function_field ws f 2 → kind_at ws f i ≡ kind_of a (slice_index function.switches i) = λ i hi. kind_stands ws a s f i any_function hf wide (omega (arith, count, hi)) in
    let low : (i : ℕ) → i < 6 → guard_field ws g i ≡ slice_index row.low i = λ i hi. lowest_stands ws a s g i any_guard lt hi in
    let high : (i : ℕ) → i < 6 → guard_field ws g (6 + i) ≡ slice_index row.high i = λ i hi. highest_stands ws a s g i any_guard lt hi in
    guard_fields (λ (i : ℕ). guard_fits ws g i ≡ true)
    (λ i hi. guard_lowest ws g f i refl hi
    (λ used. ap (λ (x : ℕ). is_value x (guard_field ws g i)) (kind i used) ∙ ap (is_value (kind_of a (slice_index function.switches i))) (low i hi) ∙ fits.low i (omega (arith, count, used)))
    (λ unused. low i hi ∙ fits.low_unused i (omega (arith, count, unused)) hi))
    (λ i hi. guard_highest ws g f i refl
    (λ used. ap (λ (x : ℕ). is_value x (guard_field ws g (6 + i))) (kind i used) ∙ ap (is_value (kind_of a (slice_index function.switches i))) (high i hi) ∙ fits.high i (omega (arith, count, used)))
    (λ used. ap (λ (x : ℕ). is_at_most x (guard_field ws g i) (guard_field ws g (6 + i))) (kind i used)
    ∙ ap (λ (x : ℕ). is_at_most (kind_of a (slice_index function.switches i)) x (guard_field ws g (6 + i))) (low i hi)
    ∙ ap (is_at_most (kind_of a (slice_index function.switches i)) (slice_index row.low i)) (high i hi) ∙ fits.ordered i (omega (arith, count, used)))
    (λ unused. high i hi ∙ fits.high_unused i (omega (arith, count, unused)) hi))

any_site : SiteRow
any_site = record { address = 0; function = 0 }

site_keeps : (ws : List ℕ) (a : Fields) → StandIn ws a → FitsFormat a → (k : ℕ) → k < length a.sites → (f : ℕ) → f < site_row_words → site_fits ws k f ≡ true
site_keeps ws a s h k lt =
    let c = s.counts in
    let d = any_site in
    let row : SiteRow = get_or a.sites k d in
    let fits = h.fit.sites k d lt in
    let address : (j : ℕ) → j < length a.sites → site_field ws j 0 ≡ (get_or a.sites j d).address = λ j hj. s.site j 0 d hj (omega arith) in
    let f0 : site_field ws k 0 ≡ row.address = address k lt in
    let f1 : site_field ws k 1 ≡ row.function = s.site k 1 d lt (omega arith) in
    let entry : (j : ℕ) → j < length a.functions → entry_of ws j ≡ (get_or a.functions j any_function).entry = λ j hj. s.function j 1 any_function hj (omega arith) in
    let called : entry_of ws (site_field ws k 1) ≡ (get_or a.functions row.function any_function).entry = ap (entry_of ws) f1 ∙ entry row.function fits.function in
    two_fields (λ (f : ℕ). site_fits ws k f ≡ true)
    (site_addressed ws k
    (subst (λ (x : ℕ). is_text_address ws x ≡ true) (sym f0) (text_address a ws row.address c.text fits.address))
    (subst (λ (x : ℕ). is_text_address ws (x + 4) ≡ true) (sym f0) (text_address a ws (row.address + 4) c.text fits.next))
    (λ pos. from_next (λ (i j : ℕ). site_field ws i 0 + 8 ≤ site_field ws j 0) (length a.sites) k (λ i hi. omega (arith, address i (omega (arith, hi)), address (i + 1) hi, h.apart.sites i d hi)) pos lt)
    (each_below-all (λ f. is_outside (site_field ws k 0) (entry_of ws f)) (function_rows ws) (λ f hf. (
    let there : f < length a.functions = omega (arith, c.functions, hf) in
    ap (λ (x : ℕ). is_outside x (entry_of ws f)) f0 ∙ ap (is_outside row.address) (entry f there) ∙ is_out row.address (get_or a.functions f any_function).entry (h.apart.outside f k any_function d there lt)))))
    (site_called ws k (omega (arith, f1, c.functions, fits.function))
    (ap (text_word ws) f0 ∙ text_word_stands ws a s row.address fits.address ∙ fits.call any_function ∙ ap (λ (x : ℕ). jump 1 x (get_or a.functions row.function any_function).entry) (sym f0) ∙ ap (jump 1 (site_field ws k 0)) (sym called))
    (ap (λ (x : ℕ). text_word ws (x + 4)) f0 ∙ text_word_stands ws a s (row.address + 4) fits.next ∙ fits.pad))

pointer_keeps : (ws : List ℕ) (a : Fields) → StandIn ws a → FitsFormat a → SumsHold ws → (k : ℕ) → k < length a.pointers → (f : ℕ) → f < pointer_row_words → pointer_fits ws k f ≡ true
pointer_keeps ws a s h sums k lt =
    let d = any_pointer in
    let row : PointerRow = get_or a.pointers k d in
    let fits = h.fit.pointers k d lt in
    let f0 : pointer_field ws k 0 ≡ row.length = s.pointer k 0 d lt (omega arith) in
    let f1 : pointer_field ws k 1 ≡ row.address = s.pointer k 1 d lt (omega arith) in
    two_fields (λ (f : ℕ). pointer_fits ws k f ≡ true)
    (pointer_named ws k sums (omega (arith, f0, fits.named)) (omega (arith, f0, fits.name)))
    (pointer_addressed ws k (subst (λ (x : ℕ). is_data_address ws x ≡ true) (sym f1) (data_address a ws row.address s.counts.globals fits.address)))

any_point : PointRow
any_point = record { address = 0; pointer = 0 }

-- nothing else stands in a pointer site
stands_alone : (ws : List ℕ) (a : Fields) → StandIn ws a → FitsFormat a → (k : ℕ) → k < length a.points → stands_free ws (point_field ws k 0) ≡ true
stands_alone ws a s h k lt =
    let c = s.counts in
    let d = any_point in
    let row : PointRow = get_or a.points k d in
    let f0 : point_field ws k 0 ≡ row.address = s.point k 0 d lt (omega arith) in
    nothing_within ws (point_field ws k 0)
    (each_below-all (λ f. is_outside_four (point_field ws k 0) (entry_of ws f)) (function_rows ws) (λ f hf. (
    let there : f < length a.functions = omega (arith, c.functions, hf) in
    let entry : entry_of ws f ≡ (get_or a.functions f any_function).entry = s.function f 1 any_function there (omega arith) in
    ap (λ (x : ℕ). is_outside_four x (entry_of ws f)) f0 ∙ ap (is_outside_four row.address) entry ∙ is_out_of_four row.address (get_or a.functions f any_function).entry (h.apart.outside_points f k any_function d there lt))))
    (each_below-all (λ j. is_outside_four (point_field ws k 0) (site_field ws j 0)) (site_rows ws) (λ j hj. (
    let there : j < length a.sites = omega (arith, c.sites, hj) in
    let site : site_field ws j 0 ≡ (get_or a.sites j any_site).address = s.site j 0 any_site there (omega arith) in
    ap (λ (x : ℕ). is_outside_four x (site_field ws j 0)) f0 ∙ ap (is_outside_four row.address) site ∙ is_out_of_four row.address (get_or a.sites j any_site).address (h.apart.beside_points j k any_site d there lt))))

point_keeps : (ws : List ℕ) (a : Fields) → StandIn ws a → FitsFormat a → (k : ℕ) → k < length a.points → (f : ℕ) → f < point_row_words → point_fits ws k f ≡ true
point_keeps ws a s h k lt =
    let c = s.counts in
    let d = any_point in
    let row : PointRow = get_or a.points k d in
    let fits = h.fit.points k d lt in
    let address : (j : ℕ) → j < length a.points → point_field ws j 0 ≡ (get_or a.points j d).address = λ j hj. s.point j 0 d hj (omega arith) in
    let f0 : point_field ws k 0 ≡ row.address = address k lt in
    let f1 : point_field ws k 1 ≡ row.pointer = s.point k 1 d lt (omega arith) in
    let pointed : pointer_field ws (point_field ws k 1) 1 ≡ (get_or a.pointers row.pointer any_pointer).address = ap (λ (q : ℕ). pointer_field ws q 1) f1 ∙ s.pointer row.pointer 1 any_pointer fits.pointer (omega arith) in
    two_fields (λ (f : ℕ). point_fits ws k f ≡ true)
    (point_addressed ws k
    (subst (λ (x : ℕ). is_text_address ws x ≡ true) (sym f0) (text_address a ws row.address c.text fits.address))
    (subst (λ (x : ℕ). is_text_address ws (x + 12) ≡ true) (sym f0) (text_address a ws (row.address + 12) c.text fits.last))
    (λ pos. from_next (λ (i j : ℕ). point_field ws i 0 + 16 ≤ point_field ws j 0) (length a.points) k (λ i hi. omega (arith, address i (omega (arith, hi)), address (i + 1) hi, h.apart.points i d hi)) pos lt)
    (stands_alone ws a s h k lt))
    (point_called ws k (omega (arith, f1, c.pointers, fits.pointer)) (λ j hj.
    ap (λ (x : ℕ). text_word ws (x + 4 * j)) f0 ∙ text_word_stands ws a s (row.address + 4 * j) (slot_address a row.address j fits.address fits.last hj) ∙ fits.slot j any_pointer hj
    ∙ ap (λ (p : ℕ). slice_index (slot_words a.check row.address p) j) (sym pointed) ∙ ap (λ (x : ℕ). slice_index (slot_words a.check x (pointer_field ws (point_field ws k 1) 1)) j) (sym f0)
    ∙ ap (λ (x : ℕ). slice_index (slot_words x (point_field ws k 0) (pointer_field ws (point_field ws k 1) 1)) j) (sym c.check)))

target_keeps : (ws : List ℕ) (a : Fields) → StandIn ws a → FitsFormat a → SumsHold ws → (k : ℕ) → k < length a.targets → (f : ℕ) → f < target_row_words → target_fits ws k f ≡ true
target_keeps ws a s h sums k lt =
    let d = any_target in
    let row : TargetRow = get_or a.targets k d in
    let fits = h.fit.targets k d lt in
    let f0 : target_field ws k 0 ≡ row.length = s.target k 0 d lt (omega arith) in
    let entry : (j : ℕ) → j < length a.targets → target_field ws j 1 ≡ (get_or a.targets j d).entry = λ j hj. s.target j 1 d hj (omega arith) in
    two_fields (λ (f : ℕ). target_fits ws k f ≡ true)
    (target_named ws k sums (omega (arith, f0, fits.named)) (omega (arith, f0, fits.name)))
    (target_entered ws k (subst (λ (x : ℕ). is_text_address ws x ≡ true) (sym (entry k lt)) (text_address a ws row.entry s.counts.text fits.entry))
    (λ pos. from_next (λ (i j : ℕ). target_field ws i 1 < target_field ws j 1) (length a.targets) k (λ i hi. omega (arith, entry i (omega (arith, hi)), entry (i + 1) hi, h.apart.targets i d hi)) pos lt))

-- a word behind the header and before the tables
plain_word : (ws : List ℕ) (i : ℕ) → header_words ws ≤ i → i < switches_at ws → word_fits ws i ≡ true
unfolding word_fits
plain_word ws i from to =
    let a : ltb i (header_words ws) ≡ false = le-ltb _ _ from in
    let b : ltb i (switches_at ws) ≡ true = lt-ltb _ _ to in
    rw (a, b) refl

pub words_keep : (ws : List ℕ) (a : Fields) → StandIn ws a → HasFormat ws → FitsFormat a → AllFit ws
words_keep ws a s format h i lt =
    let c = s.counts in
    let sums = sums_hold ws a s h in
    elim (cases_lt i (header_words ws)) [
      | inl low ↦ header_word ws i low ∙ header_keeps ws a s format h sums i low
      | inr from ↦ elim (cases_lt i (switches_at ws)) [
        | inl plain ↦ plain_word ws i from plain
        | inr past2 ↦ elim (cases_lt i (functions_at ws)) [
          | inl here ↦
              let k : ℕ = (i - switches_at ws) / switch_row_words in
              let f : ℕ = (i - switches_at ws) % switch_row_words in
              let there : k < switch_rows ws = omega (arith, functions_from ws) in
              switch_word ws k f i there (omega arith) (omega arith) ∙ switch_keeps ws a s h sums k (omega (arith, there, c.switches)) f (omega arith)
          | inr past3 ↦ elim (cases_lt i (variants_at ws)) [
            | inl here ↦
                let k : ℕ = (i - functions_at ws) / function_row_words in
                let f : ℕ = (i - functions_at ws) % function_row_words in
                let there : k < function_rows ws = omega (arith, variants_from ws) in
                function_word ws k f i there (omega arith) (omega arith) ∙ function_keeps ws a s h sums k (omega (arith, there, c.functions)) f (omega arith)
            | inr past4 ↦ elim (cases_lt i (guards_at ws)) [
              | inl here ↦
                  let k : ℕ = (i - variants_at ws) / variant_row_words in
                  let f : ℕ = (i - variants_at ws) % variant_row_words in
                  let there : k < variant_rows ws = omega (arith, guards_from ws) in
                  variant_word ws k f i there (omega arith) (omega arith) ∙ variant_keeps ws a s h sums k (omega (arith, there, c.variants)) f (omega arith)
              | inr past5 ↦ elim (cases_lt i (sites_at ws)) [
                | inl here ↦
                    let k : ℕ = (i - guards_at ws) / guard_row_words in
                    let f : ℕ = (i - guards_at ws) % guard_row_words in
                    let there : k < guard_rows ws = omega (arith, sites_from ws) in
                    guard_word ws k f i there (omega arith) (omega arith) ∙ guard_keeps ws a s h sums k (omega (arith, there, c.guards)) f (omega arith)
                | inr past6 ↦ elim (cases_lt i (pointers_at ws)) [
                  | inl here ↦
                      let k : ℕ = (i - sites_at ws) / site_row_words in
                      let f : ℕ = (i - sites_at ws) % site_row_words in
                      let there : k < site_rows ws = omega (arith, pointers_from ws) in
                      site_word ws k f i there (omega arith) (omega arith) ∙ site_keeps ws a s h k (omega (arith, there, c.sites)) f (omega arith)
                  | inr past7 ↦ elim (cases_lt i (points_at ws)) [
                    | inl here ↦
                        let k : ℕ = (i - pointers_at ws) / pointer_row_words in
                        let f : ℕ = (i - pointers_at ws) % pointer_row_words in
                        let there : k < pointer_rows ws = omega (arith, points_from ws) in
                        pointer_word ws k f i there (omega arith) (omega arith) ∙ pointer_keeps ws a s h sums k (omega (arith, there, c.pointers)) f (omega arith)
                    | inr past8 ↦ elim (cases_lt i (targets_at ws)) [
                      | inl here ↦
                          let k : ℕ = (i - points_at ws) / point_row_words in
                          let f : ℕ = (i - points_at ws) % point_row_words in
                          let there : k < point_rows ws = omega (arith, targets_from ws) in
                          point_word ws k f i there (omega arith) (omega arith) ∙ point_keeps ws a s h k (omega (arith, there, c.points)) f (omega arith)
                      | inr past9 ↦
                          let k : ℕ = (i - targets_at ws) / target_row_words in
                          let f : ℕ = (i - targets_at ws) % target_row_words in
                          let there : k < target_rows ws = omega (arith, lt, end_from ws) in
                          target_word ws k f i (omega arith) (omega arith) ∙ target_keeps ws a s h sums k (omega (arith, there, c.targets)) f (omega arith)
                    ]
                  ]
                ]
              ]
            ]
          ]
        ]
      ]
    ]
