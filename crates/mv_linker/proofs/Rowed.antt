-- The rows that are made of parts.
use Rattle.std.proofs.Common.{◌≡◌, ℕ, zero, suc, ◌+◌, ◌-◌, ◌*◌, ◌<◌, ◌≤◌, ◌++◌, true, Option, Some, None, List, [], ◌∷◌, length, map, replicate, slice_get, slice_index, get_or, All, refl, ap, sym, subst, ◌∙◌, arith}
use Rattle.std.specs.Prelude.{option_map}
use Rattle.std.specs.List.{flat_map}
use Rattle.std.proofs.lemmas.List.{length-append, length-map, map-append, get_or-map, get_or-append-add, get_or_append_left}
use Rattle.std.proofs.lemmas.List.Elements.{All-nil, All-cons, All-append, All-head, All-tail}
use Rattle.std.proofs.lemmas.Option.{slice_get-map}
use Rattle.mv_num.specs.Kinds.{kind_number, is_value, is_at_most}
use Rattle.mv_descriptors.specs.Rows.{ZerosFrom}
use Rattle.mv_descriptors.specs.Widths.{VariantClean}
use Rattle.mv_descriptors.specs.declared.rows.SwitchRow.{SwitchRow}
use Rattle.mv_descriptors.specs.declared.rows.FunctionRow.{FunctionRow}
use Rattle.mv_descriptors.specs.declared.rows.VariantRow.{VariantRow}
use Rattle.mv_descriptors.specs.declared.rows.GuardRow.{GuardRow}
use Rattle.mv_descriptors.specs.declared.rows.TargetRow.{TargetRow}
use Rattle.mv_image.specs.Spelling.{Fields}
use Rattle.mv_image.specs.WellFormed.{IsInText, FitsSwitch, FitsFunction, FitsVariant, FitsGuard, FitsPointer, FitsTarget}
use Rattle.mv_image.specs.Names.{is_letter}
use Rattle.mv_image.specs.Patched.{kind_of}
use Rattle.mv_image.specs.Patched as patched
use Rattle.mv_image.specs.Groups.{Groups, variant_groups}
use Rattle.mv_linker.specs.declared.parts.Parts.{Parts}
use Rattle.mv_linker.specs.declared.parts.PartSwitch.{PartSwitch}
use Rattle.mv_linker.specs.declared.parts.PartFunction.{PartFunction}
use Rattle.mv_linker.specs.declared.parts.PartVariant.{PartVariant}
use Rattle.mv_linker.specs.declared.parts.PartPointer.{PartPointer}
use Rattle.mv_linker.specs.Linked.{function_variants}
use Rattle.mv_linker.specs.Tables.{padded, switch_row, pointer_row, target_rows, function_row, variant_row, variant_rows, guards_of, kinds_of, kind_in, IsName, IsRange, FitsPartSwitch, FitsPartVariant, FitsPartFunction, FitsPartPointer}
use Rattle.mv_num.proofs.Numbers.{zeros_at}

-- ---- padded words

pub padded_at : (n : ℕ) (ws : List ℕ) (i : ℕ) → i < length ws → slice_index (padded n ws) i ≡ slice_index ws i
padded_at n ws i below = get_or_append_left ws (replicate (n - length ws) 0) 0 i below

pub padded_zeros : (n : ℕ) (ws : List ℕ) → ZerosFrom (length ws) (padded n ws)
padded_zeros n ws i from =
    let at : length ws + (i - length ws) ≡ i = omega (arith, from) in
    ap (slice_index (padded n ws)) (sym at) ∙ get_or-append-add ws (replicate (n - length ws) 0) (i - length ws) 0 ∙ zeros_at (n - length ws) (i - length ws)

-- ---- names

name_some : (name : List ℕ) → IsName name → 1 ≤ length name
name_some [] is = let bad : is_letter 0 ≡ true = is.identifier.first in absurd (cc)
name_some (c ∷ name) is = omega arith

-- ---- switches

pub switch_fits : (image : Fields) (words : ℕ) → words ≤ length image.globals → (s : PartSwitch) → FitsPartSwitch words s → FitsSwitch image (switch_row s)
switch_fits image words le s h = record {
  named = name_some s.name h.name;
  name = h.name.short;
  address = record { aligned = omega arith; not_before = omega arith; within = omega (arith, h.word, le) };
  some = h.some;
  count = h.few;
  values = λ i below. subst (λ v. is_value (kind_number s.kind) v ≡ true) (sym (padded_at 16 s.values i below)) (h.values i 0 below);
}

-- ---- pointer switches, and their targets

pub pointer_fits : (image : Fields) (words : ℕ) → words ≤ length image.globals → (q : PartPointer) → FitsPartPointer words q → FitsPointer image (pointer_row q)
pointer_fits image words le q h = record {
  named = name_some q.name h.name;
  name = h.name.short;
  address = record { aligned = omega arith; not_before = omega arith; within = omega (arith, h.word, le) };
}

pub target_count : (entry : ℕ → ℕ) (n : ℕ) (names : List (List ℕ)) → length (target_rows entry n names) ≡ length names
target_count entry n [] = refl
target_count entry n (name ∷ names) = ap suc (target_count entry (suc n) names)

pub target_at : (entry : ℕ → ℕ) (n : ℕ) (names : List (List ℕ)) (k : ℕ) (d : TargetRow) → k < length names
    → get_or (target_rows entry n names) k d ≡ record { length = length (get_or names k []); entry = entry (n + k) }
target_at entry n [] k d below = absurd (omega arith)
target_at entry n (name ∷ names) zero d below = let same : n ≡ n + 0 = omega arith in ap (λ m. record { length = length name; entry = entry m }) same
target_at entry n (name ∷ names) (suc k) d below =
    let same : suc n + k ≡ n + suc k = omega arith in
    target_at entry (suc n) names k d (omega arith) ∙ ap (λ m. record { length = length (get_or names k []); entry = entry m }) same

pub target_fits : (image : Fields) (name : List ℕ) (entry : ℕ) → IsName name → IsInText image entry → FitsTarget image (record { length = length name; entry = entry })
target_fits image name entry h text = record { named = name_some name h; name = h.short; entry = text }

-- ---- functions

-- a function has no more variants than guard rows, and no variant has more
pub few_variants : (vs : List PartVariant) (kinds : List ℕ) → All (FitsPartVariant kinds) vs → length vs ≤ length (guards_of vs)
few_variants [] kinds all = omega arith
few_variants (v ∷ vs) kinds all =
    let here = (All-head (FitsPartVariant kinds) v vs all).some in
    let rest = few_variants vs kinds (All-tail (FitsPartVariant kinds) v vs all) in
    omega (arith, here, rest, length-append v.guards (guards_of vs))

pub function_fits : (image : Fields) (entry : ℕ → ℕ) (parts : Parts) → length image.switches ≡ length parts.switches → (a : PartFunction) → FitsPartFunction parts a →
    IsInText image (entry a.function) → FitsFunction image (function_row entry a)
function_fits image entry parts count a h text = record {
  named = name_some a.name h.name;
  name = h.name.short;
  entry = text;
  count = h.few_switches;
  switches = λ i below. let own = h.switches i 0 below in omega (arith, own, count, padded_at 6 a.switches i below);
  ascend = λ i below.
      let less = h.ascend i below in
      omega (arith, less, padded_at 6 a.switches i (omega (arith, below)), padded_at 6 a.switches (i + 1) below);
  some = h.some;
  variants = let few = few_variants a.variants (kinds_of parts.switches a.switches) h.variants in omega (arith, few, h.few_guards);
}

-- ---- variants

pub variant_clean : (address : ℕ) (v : PartVariant) → VariantClean (variant_row address v)
variant_clean address v = by v.inline
  where
    zeros : (i : ℕ) → slice_index (0 ∷ 0 ∷ []) i ≡ 0
    zeros zero = refl
    zeros (suc zero) = refl
    zeros (suc (suc i)) = refl

    by : (o : Option (List ℕ)) → VariantClean (variant_row address (record v { inline = o }))
    by None = λ e i from. zeros i
    by (Some ws) = λ e. absurd (let bad : 1 ≡ 0 = e in omega (arith, bad))

-- what a row needs of a variant
pub record IsRowed (v : PartVariant) : Type 0 where
  pub some : 1 ≤ length v.guards
  pub few : length v.guards ≤ 64

pub variant_fits : (image : Fields) (address : ℕ) (v : PartVariant) → IsInText image address → IsRowed v → FitsVariant image (variant_row address v)
variant_fits image address v text h = record { address = text; inlined = one v.inline; some = h.some; guards = h.few }
  where
    one : (o : Option (List ℕ)) → (variant_row address (record v { inline = o })).inlined ≤ 1
    one None = omega arith
    one (Some ws) = omega arith

each_rowed : (kinds : List ℕ) (vs : List PartVariant) → All (FitsPartVariant kinds) vs → length (guards_of vs) ≤ 64 → All IsRowed vs
each_rowed kinds [] all few = All-nil IsRowed
each_rowed kinds (v ∷ vs) all few =
    let count = length-append v.guards (guards_of vs) in
    All-cons IsRowed v vs (record { some = (All-head (FitsPartVariant kinds) v vs all).some; few = omega (arith, few, count) })
    (each_rowed kinds vs (All-tail (FitsPartVariant kinds) v vs all) (omega (arith, few, count)))

pub all_rowed : (parts : Parts) (attributed : List PartFunction) → All (FitsPartFunction parts) attributed → All IsRowed (function_variants attributed)
all_rowed parts [] all = All-nil IsRowed
all_rowed parts (a ∷ rest) all =
    let h = All-head (FitsPartFunction parts) a rest all in
    All-append IsRowed a.variants (function_variants rest) (each_rowed (kinds_of parts.switches a.switches) a.variants h.variants h.few_guards)
    (all_rowed parts rest (All-tail (FitsPartFunction parts) a rest all))

-- ---- guard rows

module _ (image : Fields) (parts : Parts) (switches_are : image.switches ≡ map switch_row parts.switches) where
  kind_is : (n : ℕ) → kind_of image n ≡ kind_in (slice_get parts.switches n)
  kind_is n =
      ap (λ (rows : List SwitchRow). patched.kind_in (slice_get rows n)) switches_are
      ∙ ap patched.kind_in (slice_get-map switch_row parts.switches n)
      ∙ by (slice_get parts.switches n)
    where
      by : (o : Option PartSwitch) → patched.kind_in (option_map switch_row o) ≡ kind_in o
      by None = refl
      by (Some s) = refl

  module _ (entry : ℕ → ℕ) (a : PartFunction) where
    abbrev kinds : List ℕ
    kinds = kinds_of parts.switches a.switches

    count_is : length kinds ≡ length a.switches
    count_is = length-map a.switches (λ n. kind_in (slice_get parts.switches n))

    kind_at : (i : ℕ) → i < length a.switches → kind_of image (slice_index (padded 6 a.switches) i) ≡ slice_index kinds i
    kind_at i below =
        ap (kind_of image) (padded_at 6 a.switches i below)
        ∙ kind_is (slice_index a.switches i)
        ∙ sym (get_or-map (λ n. kind_in (slice_get parts.switches n)) a.switches i 0 0 below)

    pub guard_fits : (row : GuardRow) → IsRange kinds row → FitsGuard image (function_row entry a) row
    guard_fits row h = record {
      low = λ i below. subst (λ k. is_value k (slice_index row.low i) ≡ true) (sym (kind_at i below)) (h.low i (omega (arith, below, count_is)));
      high = λ i below. subst (λ k. is_value k (slice_index row.high i) ≡ true) (sym (kind_at i below)) (h.high i (omega (arith, below, count_is)));
      ordered = λ i below. subst (λ k. is_at_most k (slice_index row.low i) (slice_index row.high i) ≡ true) (sym (kind_at i below)) (h.ordered i (omega (arith, below, count_is)));
      low_unused = λ i from below. h.low_unused i (omega (arith, from, count_is)) below;
      high_unused = λ i from below. h.high_unused i (omega (arith, from, count_is)) below;
    }

-- ---- groups

abbrev pub variant_guards : List PartVariant → List (List GuardRow)
variant_guards vs = map (λ (v : PartVariant). v.guards) vs

abbrev pub groups_of : List PartFunction → Groups
groups_of attributed = map (λ (a : PartFunction). variant_guards a.variants) attributed

pub function_counts : (entry : ℕ → ℕ) (attributed : List PartFunction) → map (λ (row : FunctionRow). row.variants) (map (function_row entry) attributed) ≡ map length (groups_of attributed)
function_counts entry [] = refl
function_counts entry (a ∷ rest) = let here = length-map a.variants (λ (v : PartVariant). v.guards) in let more = function_counts entry rest in cc (here, more)

groups_joined : (attributed : List PartFunction) → variant_groups (groups_of attributed) ≡ variant_guards (function_variants attributed)
groups_joined [] = refl
groups_joined (a ∷ rest) =
    ap (λ more. variant_guards a.variants ++ more) (groups_joined rest) ∙ sym (map-append (λ (v : PartVariant). v.guards) a.variants (function_variants rest))

variant_counts : (entry : ℕ → ℕ) (n : ℕ) (vs : List PartVariant) → map (λ (row : VariantRow). row.guards) (variant_rows entry n vs) ≡ map length (variant_guards vs)
variant_counts entry n [] = refl
variant_counts entry n (v ∷ vs) = ap (λ more. length v.guards ∷ more) (variant_counts entry (suc n) vs)

pub group_counts : (entry : ℕ → ℕ) (n : ℕ) (attributed : List PartFunction) →
    map (λ (row : VariantRow). row.guards) (variant_rows entry n (function_variants attributed)) ≡ map length (variant_groups (groups_of attributed))
group_counts entry n attributed = variant_counts entry n (function_variants attributed) ∙ ap (map length) (sym (groups_joined attributed))

guards_joined : (vs : List PartVariant) → guards_of vs ≡ flat_map (λ rows. rows) (variant_guards vs)
guards_joined [] = refl
guards_joined (v ∷ vs) = ap (λ more. v.guards ++ more) (guards_joined vs)

pub group_guards : (attributed : List PartFunction) → guards_of (function_variants attributed) ≡ flat_map (λ rows. rows) (variant_groups (groups_of attributed))
group_guards attributed = guards_joined (function_variants attributed) ∙ ap (flat_map (λ rows. rows)) (sym (groups_joined attributed))

-- ---- counts

pub variant_row_count : (entry : ℕ → ℕ) (n : ℕ) (vs : List PartVariant) → length (variant_rows entry n vs) ≡ length vs
variant_row_count entry n [] = refl
variant_row_count entry n (v ∷ vs) = ap suc (variant_row_count entry (suc n) vs)

guards_append : (xs ys : List PartVariant) → length (guards_of (xs ++ ys)) ≡ length (guards_of xs) + length (guards_of ys)
guards_append [] ys = omega arith
guards_append (x ∷ xs) ys = omega (arith, guards_append xs ys, length-append x.guards (guards_of (xs ++ ys)), length-append x.guards (guards_of xs))

-- all functions together have at most 64 guard rows each, and no more variants
pub record AreFew (attributed : List PartFunction) : Type 0 where
  pub variants : length (function_variants attributed) ≤ 64 * length attributed
  pub guards : length (guards_of (function_variants attributed)) ≤ 64 * length attributed

pub are_few : (parts : Parts) (attributed : List PartFunction) → All (FitsPartFunction parts) attributed → AreFew attributed
are_few parts [] all = record { variants = omega arith; guards = omega arith }
are_few parts (a ∷ rest) all =
    let h = All-head (FitsPartFunction parts) a rest all in
    let more = are_few parts rest (All-tail (FitsPartFunction parts) a rest all) in
    let few = few_variants a.variants (kinds_of parts.switches a.switches) h.variants in
    record {
      variants = omega (arith, more.variants, few, h.few_guards, length-append a.variants (function_variants rest));
      guards = omega (arith, more.guards, h.few_guards, guards_append a.variants (function_variants rest));
    }
