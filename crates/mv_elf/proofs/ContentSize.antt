-- How many bytes stand in the note of an image.
use Rattle.std.proofs.Common.{◌≡◌, ◌<◌, ◌≤◌, ◌+◌, ◌-◌, ◌*◌, ◌^◌, ◌++◌, ◌∷◌, [], ℕ, List, length, replicate, refl, ap, arith, All}
use Rattle.std.specs.List.{flat_map}
use Rattle.std.proofs.lemmas.List.{length-append, length-replicate}
use Rattle.std.proofs.lemmas.List.Concat.{flat_map-cons}
use Rattle.mv_num.specs.Bytes.{bytes_of}
use Rattle.mv_num.proofs.ByteLaws.{length-bytes_of}
use Rattle.mv_num.proofs.Lists.{all_tail, all_head}
use Rattle.mv_descriptors.specs.Widths.{switch_words, function_words, variant_words, guard_words, site_words, pointer_words, point_words, target_words, SwitchWhole, FunctionWhole, VariantWhole, GuardWhole, SiteWhole, PointerWhole, PointWhole, TargetWhole}
use Rattle.mv_descriptors.specs.WidthLaws.{switch_width, function_width, variant_width, guard_width, site_width, pointer_width, point_width, target_width}
use Rattle.mv_image.specs.Spelling.{Fields, joined, filled, header_of, names_in, spelling}
use Rattle.mv_image.specs.Faults.{Rules}
use Rattle.mv_image.specs.Format.{FitsFormat}
use Rattle.mv_image.specs.Versions.{upgraded}
use Rattle.mv_image.proofs.OneVerdict.{flat_length, whole_switches, whole_functions, whole_variants}
use Rattle.mv_image.proofs.NameRules.{names_count, lengths_keep}
use Rattle.mv_image.proofs.RulesAreTables.{rules_are_tables}
use Rattle.mv_elf.specs.Writing.{note_of}
use Rattle.mv_elf.proofs.SpellingParts.{tables_of, rest_of, header_bytes, note_in_parts, spelled_in_parts}
use Rattle.mv_elf.proofs.Filed.{IsSmall}
use Rattle.mv_elf.proofs.FileHolds.{IsEntry}

-- ---- names

joined_most : (names : List (List ℕ)) → All (λ (name : List ℕ). length name ≤ 63) names → length (joined names) ≤ 63 * length names
joined_most [] short = omega arith
joined_most (name ∷ names) short =
    let rest = joined_most names (all_tail (λ (n : List ℕ). length n ≤ 63) name names short) in
    let first : length name ≤ 63 = all_head (λ (n : List ℕ). length n ≤ 63) name names short in
    let more = length-append name (joined names) in
    let parts = ap length (flat_map-cons (λ (n : List ℕ). n) name names) in
    omega (arith, rest, first, more, parts)

names_short : (a : Fields) → FitsFormat a → All (λ (name : List ℕ). length name ≤ 63) a.names
names_short a fits = lengths_keep a (λ (n : ℕ). n ≤ 63) fits.names.lengths (record {
  switches = λ k d lt. (fits.fit.switches k d lt).name;
  functions = λ k d lt. (fits.fit.functions k d lt).name;
  pointers = λ k d lt. (fits.fit.pointers k d lt).name;
  targets = λ k d lt. (fits.fit.targets k d lt).name;
})

names_length : (a : Fields) → length (names_in a) ≤ length (joined a.names) + 3
names_length a =
    let n : ℕ = length (joined a.names) in
    omega (arith, length-append (joined a.names) (replicate (filled n - n) 0), length-replicate {A = ℕ} (filled n - n) 0)

names_most : (a : Fields) → FitsFormat a → length (names_in a) ≤ 134067
names_most a fits =
    let l = fits.limits in
    omega (arith, names_length a, joined_most a.names (names_short a fits), names_count a fits.names.lengths, l.switches, l.functions, l.pointers, l.targets)

-- ---- tables

tables_length : (a : Fields) → Rules a
    → length (tables_of a) ≡ 20 * length a.switches + 10 * length a.functions + 5 * length a.variants + 12 * length a.guards + 2 * length a.sites + 2 * length a.pointers + 2 * length a.points + 2 * length a.targets
unfolding tables_of
tables_length a r =
    let s = flat_length switch_words SwitchWhole 20 switch_width a.switches (whole_switches a r) in
    let f = flat_length function_words FunctionWhole 10 function_width a.functions (whole_functions a r) in
    let v = flat_length variant_words VariantWhole 5 variant_width a.variants (whole_variants a r) in
    let g = flat_length guard_words GuardWhole 12 guard_width a.guards r.guards in
    let i = flat_length site_words SiteWhole 2 site_width a.sites (λ k d lt. tt) in
    let p = flat_length pointer_words PointerWhole 2 pointer_width a.pointers (λ k d lt. tt) in
    let q = flat_length point_words PointWhole 2 point_width a.points (λ k d lt. tt) in
    let t = flat_length target_words TargetWhole 2 target_width a.targets (λ k d lt. tt) in
    let t6 : List ℕ = flat_map point_words a.points ++ flat_map target_words a.targets in
    let t5 : List ℕ = flat_map pointer_words a.pointers ++ t6 in
    let t4 : List ℕ = flat_map site_words a.sites ++ t5 in
    let t3 : List ℕ = flat_map guard_words a.guards ++ t4 in
    let t2 : List ℕ = flat_map variant_words a.variants ++ t3 in
    let t1 : List ℕ = flat_map function_words a.functions ++ t2 in
    omega (
      arith,
      s,
      f,
      v,
      g,
      i,
      p,
      q,
      t,
      length-append (flat_map switch_words a.switches) t1,
      length-append (flat_map function_words a.functions) t2,
      length-append (flat_map variant_words a.variants) t3,
      length-append (flat_map guard_words a.guards) t4,
      length-append (flat_map site_words a.sites) t5,
      length-append (flat_map pointer_words a.pointers) t6,
      length-append (flat_map point_words a.points) (flat_map target_words a.targets),
    )

-- ---- all of it

rest_length : (a : Fields) → length (rest_of a) ≡ 4 * length (tables_of a) + length (names_in a)
unfolding rest_of
rest_length a = omega (arith, length-append (bytes_of (tables_of a)) (names_in a), length-bytes_of (tables_of a))

pub note_most : (image : Fields) → Rules (upgraded image) → length (note_of image) < 2 ^ 24
note_most image rules =
    let a : Fields = upgraded image in
    let fits = (rules_are_tables a rules).1 in
    let l = fits.limits in
    omega (
      arith,
      ap length (note_in_parts a refl),
      length-append (bytes_of (header_of a)) (rest_of a),
      header_bytes a refl,
      rest_length a,
      tables_length a rules,
      names_most a fits,
      l.switches,
      l.functions,
      l.variants,
      l.guards,
      l.sites,
      l.pointers,
      l.points,
      l.targets,
    )

-- the spelling is long enough for what is taken out of it
pub code_there : (image : Fields) → 64 + 4 * (length image.text + length image.globals) ≤ length (spelling (upgraded image))
code_there image =
    let a : Fields = upgraded image in
    omega (
      arith,
      ap length (spelled_in_parts a),
      header_bytes a refl,
      length-append (bytes_of (header_of a)) (bytes_of a.text ++ (bytes_of a.globals ++ rest_of a)),
      length-append (bytes_of a.text) (bytes_of a.globals ++ rest_of a),
      length-append (bytes_of a.globals) (rest_of a),
      length-bytes_of a.text,
      length-bytes_of a.globals,
    )

pub is_small : (image : Fields) → Rules (upgraded image) → IsSmall image
is_small image rules =
    let typed = (rules_are_tables (upgraded image) rules).0 in
    let l = (rules_are_tables (upgraded image) rules).1.limits in
    record {
      entry = omega (arith, l.entry.within, l.text);
      some_text = l.some_text;
      text = l.text;
      globals = l.globals;
      note = note_most image rules;
      text_words = typed.words.text;
      globals_words = typed.words.globals;
    }

pub is_entry : (image : Fields) → Rules (upgraded image) → IsEntry image
is_entry image rules =
    let e = (rules_are_tables (upgraded image) rules).1.limits.entry in
    record { aligned = e.aligned; not_before = e.not_before; within = e.within }
