-- What the linker asks of the rows and of the image that it makes.
use Rattle.std.proofs.Common.{◌≡◌, ℕ, ◌+◌, ◌^◌, ◌<◌, ◌≤◌, ◌++◌, cond, nat_lt, List, length, map, slice_index, All, refl, ap, sym, subst, ◌∙◌, arith}
use Rattle.std.proofs.lemmas.List.{length-append, length-map}
use Rattle.std.proofs.lemmas.List.Elements.{All-weaker}
use Rattle.mv_asm.specs.Outcome.{ArePlaced}
use Rattle.mv_descriptors.specs.declared.rows.SwitchRow.{SwitchRow}
use Rattle.mv_descriptors.specs.declared.rows.FunctionRow.{FunctionRow}
use Rattle.mv_descriptors.specs.declared.rows.VariantRow.{VariantRow}
use Rattle.mv_descriptors.specs.declared.rows.GuardRow.{GuardRow}
use Rattle.mv_descriptors.specs.declared.rows.SiteRow.{SiteRow}
use Rattle.mv_descriptors.specs.declared.rows.PointerRow.{PointerRow}
use Rattle.mv_descriptors.specs.declared.rows.PointRow.{PointRow}
use Rattle.mv_descriptors.specs.declared.rows.TargetRow.{TargetRow}
use Rattle.mv_isa.specs.declared.labelled.Line.{Line}
use Rattle.mv_isa.specs.Code.{address, label_address, text_start}
use Rattle.mv_image.specs.Spelling.{Fields}
use Rattle.mv_image.specs.Format.{FitsFormat}
use Rattle.mv_image.specs.Groups.{GroupsAreRows}
use Rattle.mv_linker.specs.declared.joined.Joined.{Joined}
use Rattle.mv_linker.specs.declared.parts.Parts.{Parts}
use Rattle.mv_linker.specs.declared.parts.Datum.{Datum}
use Rattle.mv_linker.specs.declared.parts.PartSwitch.{PartSwitch}
use Rattle.mv_linker.specs.declared.parts.PartFunction.{PartFunction}
use Rattle.mv_linker.specs.declared.parts.PartVariant.{PartVariant}
use Rattle.mv_linker.specs.declared.parts.PartPointer.{PartPointer}
use Rattle.mv_linker.specs.Linked.{codes, function_variants, linked_lines, check_index, IsDatum, AreParts, IsJoined}
use Rattle.mv_linker.specs.Tables.{switch_row, function_row, variant_rows, guards_of, pointer_row, target_rows, sites_from, points_from, attributed_numbers, pointer_addresses, point_count, site_weight, site_count, FitsFunctionRow, FitsPointerRow, HasFewGuards, IsName, FitsPartFunction, FitsPartPointer, kinds_of, FitTables}
use Rattle.mv_linker.specs.Outcome.{datum_word, image_with, HasFewSites, WithinLimit, IsLinked}
use Rattle.mv_linker.proofs.Rowed.{few_variants, IsRowed, all_rowed}
use Rattle.mv_linker.proofs.Images.{linked, datum_within, check_within, image_is}
use Rattle.mv_linker.proofs.Sited.{slots_of_codes, point_length, points_have_pointers}
use Rattle.mv_linker.proofs.Tabled.{tables_fit}

module _ (parts : Parts) (tables : FitTables parts) where
  pub function_rows_fit : (n : ℕ) → length parts.functions ≤ n → All (FitsFunctionRow n) parts.attributed
  function_rows_fit n le =
      All-weaker (FitsPartFunction parts) (FitsFunctionRow n)
      (λ a h. let few = few_variants a.variants (kinds_of parts.switches a.switches) h.variants in record {
        name = omega (arith, h.name.short);
        there = omega (arith, h.there, le);
        switches = h.few_switches;
        variants = omega (arith, few, h.few_guards);
      }) parts.attributed tables.functions

  pub few_guards : All HasFewGuards (function_variants parts.attributed)
  few_guards = All-weaker IsRowed HasFewGuards (λ v h. omega (arith, h.few)) (function_variants parts.attributed) (all_rowed parts parts.attributed tables.functions)

  pub pointers_fit : WithinLimit parts → All FitsPointerRow parts.pointers
  pointers_fit few = All-weaker (FitsPartPointer (length parts.globals)) FitsPointerRow (λ q h. record { name = omega (arith, h.name.short); word = omega (arith, h.word, few) }) parts.pointers tables.pointers

  pub targets_named : All (λ (name : List ℕ). length name < 2 ^ 32) parts.targets
  targets_named = All-weaker IsName (λ (name : List ℕ). length name < 2 ^ 32) (λ name h. omega (arith, h.short)) parts.targets tables.targets

pub code_count : (parts : Parts) → length (codes parts) ≡ length parts.functions + length (function_variants parts.attributed)
code_count parts =
    let all = length-append parts.functions (map (λ (v : PartVariant). v.code) (function_variants parts.attributed)) in
    let variants = length-map (function_variants parts.attributed) (λ (v : PartVariant). v.code) in
    omega (arith, all, variants)

pub data_fit : (parts : Parts) → AreParts parts → (n : ℕ) → n ≡ length (codes parts) → All (IsDatum n) parts.globals
data_fit parts are n is =
    subst (λ m. All (IsDatum m) parts.globals) (sym is)
    (All-weaker (IsDatum (length parts.functions)) (IsDatum (length (codes parts))) (datum_within parts) parts.globals are.globals)

-- the image that is made fits the format, and is that of the parts
pub image_linked : GroupsAreRows → (parts : Parts) (are : AreParts parts) (tables : FitTables parts) → HasFewSites parts → WithinLimit parts →
    (joined : Joined) (is : IsJoined parts joined) (words addresses : List ℕ) (placed : ArePlaced text_start joined.code.items words addresses) →
    (starts : List ℕ) → starts ≡ map (slice_index addresses) joined.entries →
    (check : ℕ) → check ≡ cond (nat_lt 0 (point_count (linked_lines parts))) (slice_index addresses check_index) 0 →
    (image : Fields) → image ≡ record (image_with (slice_index starts) (slice_index addresses) words parts) { check = check } → FitsFormat image × IsLinked parts image
image_linked groups parts are tables sites few joined is words addresses placed starts starts_are check check_is image made =
    let l = linked parts are joined is words addresses placed in
    let sizing = l.sizing in
    let is_with : image ≡ image_with (label_address text_start (linked_lines parts) sizing) (address text_start sizing) words parts =
    made ∙ image_is parts are joined is words addresses placed starts starts_are tables check check_is in (
      subst FitsFormat (sym is_with) (tables_fit parts are tables sizing words l.least.fits.sizes l.under.words_are groups sites few),
      record {
        sites_fit = sites;
        data_fits = few;
        sizing = sizing;
        least = l.least;
        text = words;
        text_is = l.under.words_are;
        image_is = is_with;
      },
    )

-- The image of the lists that the linker makes, given what it has read of the parts and of where lines and codes stand.
pub made_linked : GroupsAreRows → (parts : Parts) (are : AreParts parts) (tables : FitTables parts) → HasFewSites parts → WithinLimit parts →
    (joined : Joined) (is : IsJoined parts joined) (words addresses : List ℕ) (placed : ArePlaced text_start joined.code.items words addresses) →
    (starts globals : List ℕ) (switches : List SwitchRow) (functions : List FunctionRow) (variants : List VariantRow) (guards : List GuardRow)
    (sites : List SiteRow) (pointers : List PointerRow) (points : List PointRow) (targets : List TargetRow) (check : ℕ) (names : List (List ℕ)) →
    (at entries from : List ℕ) (words_read : List Datum) (of_switches : List PartSwitch) (attributed : List PartFunction) (of_pointers : List PartPointer) (of_targets : List (List ℕ)) (lines : List Line) (count : ℕ) →
    at ≡ addresses → entries ≡ joined.entries → from ≡ starts → words_read ≡ parts.globals → of_switches ≡ parts.switches → attributed ≡ parts.attributed
    → of_pointers ≡ parts.pointers → of_targets ≡ parts.targets → lines ≡ joined.code.items →
    count ≡ length parts.functions →
    starts ≡ map (slice_index at) entries →
    globals ≡ map (datum_word (slice_index from)) words_read →
    switches ≡ map switch_row of_switches →
    functions ≡ map (function_row (slice_index from)) attributed →
    variants ≡ variant_rows (slice_index from) count (function_variants attributed) →
    guards ≡ guards_of (function_variants attributed) →
    sites ≡ sites_from (slice_index at) (attributed_numbers attributed) 0 lines →
    pointers ≡ map pointer_row of_pointers →
    points ≡ points_from (slice_index at) (pointer_addresses of_pointers) 0 lines →
    targets ≡ target_rows (slice_index from) 0 of_targets →
    check ≡ cond (nat_lt 0 (length points)) (slice_index at check_index) 0 →
    names ≡ map (λ (s : PartSwitch). s.name) parts.switches ++ map (λ (a : PartFunction). a.name) parts.attributed ++ map (λ (q : PartPointer). q.name) parts.pointers ++ parts.targets →
    FitsFormat (record {
      version = 2;
      entry = text_start;
      text = words;
      globals = globals;
      switches = switches;
      functions = functions;
      variants = variants;
      guards = guards;
      sites = sites;
      pointers = pointers;
      points = points;
      targets = targets;
      check = check;
      names = names;
    })
    × IsLinked parts (record {
      version = 2;
      entry = text_start;
      text = words;
      globals = globals;
      switches = switches;
      functions = functions;
      variants = variants;
      guards = guards;
      sites = sites;
      pointers = pointers;
      points = points;
      targets = targets;
      check = check;
      names = names;
    })
made_linked groups parts are tables few_sites few_words joined is words addresses placed starts globals switches functions variants guards sites pointers points targets check names
    at entries from words_read of_switches attributed of_pointers of_targets lines count at_is entries_are from_is data_are of_switches_are attributed_are of_pointers_are of_targets_are lines_are count_is
    starts_made globals_made switches_made functions_made variants_made guards_made sites_made pointers_made points_made targets_made check_made names_made =
    let all_lines : lines ≡ linked_lines parts = lines_are ∙ is.lines in
    let point_rows : length points ≡ point_count (linked_lines parts) =
    ap length points_made ∙ point_length (slice_index at) (pointer_addresses of_pointers) lines 0 ∙ ap point_count all_lines in
    let check_is : check ≡ cond (nat_lt 0 (point_count (linked_lines parts))) (slice_index addresses check_index) 0 =
    check_made ∙ ap (λ n. cond (nat_lt 0 n) (slice_index at check_index) 0) point_rows ∙ ap (λ xs. cond (nat_lt 0 (point_count (linked_lines parts))) (slice_index xs check_index) 0) at_is in
    image_linked groups parts are tables few_sites few_words joined is words addresses placed starts (rw (← at_is, ← entries_are) starts_made) check check_is _
    (rw (
      globals_made,
      switches_made,
      functions_made,
      variants_made,
      guards_made,
      sites_made,
      pointers_made,
      points_made,
      targets_made,
      names_made,
      at_is,
      from_is,
      data_are,
      of_switches_are,
      attributed_are,
      of_pointers_are,
      of_targets_are,
      all_lines,
      count_is,
    ) refl)

-- where there is a pointer site the stub of calls through pointer switches has an item
pub check_there : (parts : Parts) (are : AreParts parts) (tables : FitTables parts) (joined : Joined) (is : IsJoined parts joined) (words addresses : List ℕ)
    (placed : ArePlaced text_start joined.code.items words addresses) → (points : List PointRow) (at : ℕ → ℕ) (pointers : List ℕ) (lines : List Line) →
    points ≡ points_from at pointers 0 lines → lines ≡ joined.code.items → 0 < length points → check_index < length addresses
check_there parts are tables joined is words addresses placed points at pointers lines points_are lines_are some =
    let l = linked parts are joined is words addresses placed in
    let count : length points ≡ point_count (linked_lines parts) = ap length points_are ∙ point_length at pointers lines 0 ∙ ap point_count (lines_are ∙ is.lines) in
    let checks = points_have_pointers parts tables (omega (arith, some, count)) in
    omega (arith, check_within parts are checks, l.under.addresses_are.one_more, l.least.fits.sizes.one_each)

-- the slots of the joined code are those of the codes
pub sites_counted : (parts : Parts) (joined : Joined) → IsJoined parts joined → (lines : List Line) (count : ℕ) → lines ≡ joined.code.items → count ≡ site_weight lines → count ≡ site_count parts
sites_counted parts joined is lines count lines_are count_is = count_is ∙ ap site_weight (lines_are ∙ is.lines) ∙ slots_of_codes parts
