-- What is linked of a program, and what goes into tables.
use Rattle.std.proofs.Common.{◌≡◌, ⊎_elim, ℕ, suc, ◌<◌, ◌≤◌, Bool, true, false, List, [], ◌∷◌, ◌++◌, Some, length, map, slice_get, All, refl, sym, ap, ◌∙◌, subst, arith}
use Rattle.std.specs.Prelude.{if◌then◌else◌, nat_lt}
use Rattle.std.specs.List.Sorted.{IsStrictlyIncreasing}
use Rattle.std.proofs.lemmas.List.{length-map}
use Rattle.std.proofs.lemmas.List.Elements.{All-append, All-map, All-nil, All-weaker}
use Rattle.std.proofs.lemmas.Option.{slice_get_within}
use Rattle.mv_ast.specs.declared.program.Program.{Program}
use Rattle.mv_ast.specs.declared.program.Function.{Function}
use Rattle.mv_ast.specs.declared.program.Global.{Global}
use Rattle.mv_ast.specs.declared.program.CType.{CType}
use Rattle.mv_ast.specs.declared.program.CType.TheVariants.{Void, Scalar, Pointer}
use Rattle.mv_num.specs.Regions.{data_limit}
use Rattle.mv_ast.specs.Switches.{attributed_functions}
use Rattle.mv_isa.specs.declared.labelled.Labelled.{Labelled}
use Rattle.mv_descriptors.specs.declared.rows.GuardRow.{GuardRow}
use Rattle.mv_ir.specs.declared.body.Body.{Body}
use Rattle.mv_ir.specs.Measures.{joined}
use Rattle.mv_source_forms.specs.Typing.{IsFirstValue}
use Rattle.mv_source_forms.specs.WellFormed.{IsWellFormed}
use Rattle.mv_source_facts.specs.Facts.{IsName, IsTableFunction, HasTableFacts}
use Rattle.mv_variants.specs.Bound.Led.{BodiesAreMade}
use Rattle.mv_variants.specs.Bound.Rows.{GroupedIsLed}
use Rattle.mv_variants.specs.Bound.Tables.{GroupsFit}
use Rattle.mv_merge.specs.declared.rows.Domain.{Domain}
use Rattle.mv_merge.specs.Guards.{kinds}
use Rattle.mv_linker.specs.declared.parts.Parts.{Parts}
use Rattle.mv_linker.specs.declared.parts.PartFunction.{PartFunction}
use Rattle.mv_linker.specs.declared.parts.PartPointer.{PartPointer}
use Rattle.mv_linker.specs.declared.parts.PartVariant.{PartVariant}
use Rattle.mv_linker.specs.Linked.{AreParts, IsFunction, IsDatum, codes, function_variants, has_pointers, variant_codes}
use Rattle.mv_linker.specs.Tables as linker
use Rattle.mv_linker.specs.Tables.{BeginsWithWords, CallsAmong, FitsPartPointer, FitsPartSwitch, FitsPartFunction, FitsPartVariant, FitTables, GoesThrough, IsRange, kinds_of, pointer_addresses}
use Rattle.mv_link_data.specs.FirstData.{data_words, first_data}
use Rattle.mv_link_data.specs.Laws.{IsFirstValueAmong, HasFirstValues, CountIsSum, FunctionsAreThere}
use Rattle.mv_variants.specs.declared.variant.Variant.{Variant}
use Rattle.mv_variants.specs.Domains.{domain}
use Rattle.mv_parts.specs.Laws.{PartsCanBeLinked}
use Rattle.mv_parts.specs.Numbers.{attributed_numbers}
use Rattle.mv_parts.specs.Parts.{ArePartVariants, AreCodesOf}
use Rattle.mv_parts.specs.Switches.{part_switch, part_switches, part_pointer, part_pointers, part_targets}
use Rattle.mv_parts.proofs.LinkedCode.{Laws, FitsCode, fits_code, has_some, general_names, made_names}
use Rattle.mv_parts.proofs.LinkedLists.{all_variants, flat_is_joined}
use Rattle.mv_parts.proofs.Lists.{all_by_index, one_of_all}
use Rattle.mv_parts.proofs.LinkedNames.{name_fits}
use Rattle.mv_parts.proofs.LinkedNumbers.{ascending}
use Rattle.mv_parts.proofs.LinkedParts.{IsOwnCode, IsAttributedPart, variant_part, own_code, as_many_parts, attributed_part}
use Rattle.mv_parts.proofs.LinkedSwitches.{all_pointers_fit, all_switches_fit, same_kinds, all_valued, range_fits, data_counted}
use Rattle.mv_parts.proofs.LinkedVariants.{made_variant, some_variant, group_of, few_guards}

-- ---- the functions that are first values

first_value : (p : Program) (t : CType) (v : ℕ) → IsFirstValue p t v → IsFirstValueAmong (length p.functions) t v
first_value p Void v h = tt
first_value p (Scalar kind) v h = tt
first_value p (Pointer s) v h =
    ⊎_elim (λ none. omega (arith, none)) (λ some. let within = slice_get_within p.functions some.0 some.2.function some.2.defined in omega (arith, some.1, within)) h

pub first_values : (p : Program) → All (λ (g : Global). All (IsFirstValue p g.ctype) g.first) p.globals → HasFirstValues p
first_values p = All-weaker (λ (g : Global). All (IsFirstValue p g.ctype) g.first) (λ (g : Global). All (IsFirstValueAmong (length p.functions) g.ctype) g.first)
    (λ g. All-weaker (IsFirstValue p g.ctype) (IsFirstValueAmong (length p.functions) g.ctype) (first_value p g.ctype) g.first) p.globals

-- ---- code

module _ (laws : Laws) (made : BodiesAreMade) (p : Program) (formed : IsWellFormed p) (few : data_words p ≤ data_limit) where
  own_fits : (f : ℕ) (code : Labelled) → IsOwnCode p f code → FitsCode p code
  own_fits f code h =
      fits_code laws p h.function.attributed h.body code h.is_code (general_names laws p few f h.function (record { formed = formed; there = h.there }) h.body h.general)

  variant_fits : (n : ℕ) (a : PartFunction) → (h : IsAttributedPart p n a) → (j : ℕ) (part : PartVariant) → slice_get a.variants j ≡ Some part → FitsCode p part.code
  variant_fits n a h j part is =
      let v = variant_part h.variants a.variants h.part.variants_are j part is in
      let m = made_variant p h.function h.variants h.variants_are made j v.variant v.there in
      fits_code laws p true v.variant.body part.code v.is.code
      (made_names laws p few h.number h.function (record { formed = formed; there = h.there }) m.values m.words v.variant.body m.made)

  pub all_fit : (bodies : List Body) (tables : List (List Variant)) (functions : List Labelled) (attributed : List PartFunction) → AreCodesOf p bodies tables functions attributed →
      All (FitsCode p) (functions ++ variant_codes (function_variants attributed))
  all_fit bodies tables functions attributed are =
      All-append (FitsCode p) functions (variant_codes (function_variants attributed))
      (all_by_index (FitsCode p) functions (λ f code is. own_fits f code (own_code p bodies tables functions attributed are f code is)))
      (all_variants (FitsCode p) attributed (λ n a is. variant_fits n a (attributed_part p bodies tables functions attributed are n a is)))

-- ---- attributed functions

-- the rows of variants that are linked are those of the variants
same_guards : (variants : List Variant) (parts : List PartVariant) → ArePartVariants variants parts →
    map (λ (part : PartVariant). part.guards) parts ≡ map (λ (v : Variant). v.guards) variants
same_guards variants parts h = by variants parts h.one_each (λ j v part there is. (h.each j v part there is).guards)
  where
    by : (vs : List Variant) (ps : List PartVariant) → length ps ≡ length vs →
        ((j : ℕ) (v : Variant) (part : PartVariant) → slice_get vs j ≡ Some v → slice_get ps j ≡ Some part → part.guards ≡ v.guards) →
        map (λ (part : PartVariant). part.guards) ps ≡ map (λ (v : Variant). v.guards) vs
    by [] [] e each = refl
    by [] (part ∷ ps) e each = absurd (omega (arith, e))
    by (v ∷ vs) [] e each = absurd (omega (arith, e))
    by (v ∷ vs) (part ∷ ps) e each =
        let rest = by vs ps (omega (arith, e)) (λ j w x there is. each (suc j) w x there is) in
        ap (λ (g : List GuardRow). g ∷ map (λ (x : PartVariant). x.guards) ps) (each 0 v part refl refl) ∙ ap (λ (l : List (List GuardRow)). v.guards ∷ l) rest

-- an attributed function of the program
table_function : (p : Program) → HasTableFacts p → (n : ℕ) (g : Function) → slice_get (attributed_functions p) n ≡ Some g → IsTableFunction p g
table_function p facts n g is = one_of_all (IsTableFunction p) (attributed_functions p) facts.functions n g is

module _ (p : Program) (facts : HasTableFacts p) (fit : GroupsFit) (grouped : GroupedIsLed) (parts : Parts) (count : length parts.functions ≡ length p.functions)
    (switches : parts.switches ≡ part_switches p) (own : (f : ℕ) (code : Labelled) → slice_get parts.functions f ≡ Some code → FitsCode p code) (n : ℕ) (a : PartFunction)
    (h : IsAttributedPart p n a) (codes_fit : (j : ℕ) (part : PartVariant) → slice_get a.variants j ≡ Some part → FitsCode p part.code) where
  open h use {function as g}

  table : IsTableFunction p g
  table = table_function p facts n g h.nth

  abbrev domains : List Domain
  domains = map (domain p) g.switches

  kinds_are : kinds_of parts.switches a.switches ≡ kinds domains
  kinds_are = ap (λ ss. kinds_of ss a.switches) switches ∙ ap (kinds_of (part_switches p)) h.part.switches ∙ same_kinds p facts g.switches table.there

  part_fits : (j : ℕ) (part : PartVariant) → slice_get a.variants j ≡ Some part → FitsPartVariant (kinds domains) part
  part_fits j part is =
      let v = variant_part h.variants a.variants h.part.variants_are j part is in
      let group = group_of p g h.variants h.variants_are fit j v.variant v.there in
      let valued = all_valued p facts g.switches table.there in
      let ranges : All (IsRange (kinds domains)) v.variant.guards =
      all_by_index (IsRange (kinds domains)) v.variant.guards (λ i row at. range_fits domains valued row (group.ranges i row at) (group.clean i row at)) in
      let same = v.is.guards in record {
        begins = (codes_fit j part is).begins;
        some = let some = group.some in let long = ap length same in omega (arith, some, long);
        ranges = subst (All (IsRange (kinds domains))) (sym same) ranges;
      }

  variant_count : length a.variants ≡ length h.variants
  variant_count = h.part.variants_are.one_each

  guards_few : length (linker.guards_of a.variants) ≤ 64
  guards_few =
      let rows = flat_is_joined (λ (part : PartVariant). part.guards) a.variants ∙ ap joined (same_guards h.variants a.variants h.part.variants_are) in
      let few = few_guards p g h.variants h.variants_are fit in
      let most = table.assignments_most in
      let same = ap length rows in omega (arith, same, few, most)

  pub function_fits : FitsPartFunction parts a
  function_fits = record {
    name = subst linker.IsName (sym h.part.name) (name_fits g.name table.named);
    there = let within = slice_get_within p.functions h.number g h.there in let same = h.part.function in omega (arith, within, same, count);
    begins = λ code is. (own a.function code is).begins;
    few_switches = let same = ap length h.part.switches in let most = table.most in omega (arith, same, most);
    switches = subst (λ ss. All (λ s. s < length parts.switches) ss) (sym h.part.switches) (subst (λ m. All (λ s. s < m) g.switches) (sym (ap length switches ∙ length-map p.switches (part_switch p))) table.there);
    ascend = subst IsStrictlyIncreasing (sym h.part.switches) table.ascend;
    some = let some = some_variant p g h.variants h.variants_are grouped table.some_assignment in let same = variant_count in omega (arith, some, same);
    variants = subst (λ ks. All (FitsPartVariant ks) a.variants) (sym kinds_are) (all_by_index (FitsPartVariant (kinds domains)) a.variants part_fits);
    few_guards = guards_few;
  }

-- ---- targets

targets_few : (p : Program) → length (part_targets p) ≤ length p.functions
targets_few p = by (nat_lt 0 (length p.pointers))
  where
    by : (b : Bool) → length (if b then map (λ (g : Function). g.name) p.functions else []) ≤ length p.functions
    by true = let long = length-map p.functions (λ (g : Function). g.name) in omega (arith, long)
    by false = omega arith

targets_named : (p : Program) → HasTableFacts p → All linker.IsName (part_targets p)
targets_named p facts = by (nat_lt 0 (length p.pointers))
  where
    by : (b : Bool) → All linker.IsName (if b then map (λ (g : Function). g.name) p.functions else [])
    by true =
        All-map linker.IsName (λ (g : Function). g.name) p.functions
        (All-weaker (λ (g : Function). IsName g.name) (λ (g : Function). linker.IsName g.name) (λ g named. name_fits g.name named) p.functions facts.names)
    by false = All-nil linker.IsName

-- ---- all parts

module _ (laws : Laws) (made : BodiesAreMade) (fit : GroupsFit) (grouped : GroupedIsLed) (data_count : CountIsSum) (data_there : FunctionsAreThere) where
  pub can_be_linked : PartsCanBeLinked
  can_be_linked p formed facts bodies tables parts are switches pointers targets main globals few_labels few_words = record {
    codes = are;
    switches = switches;
    pointers = pointers;
    targets = targets;
    main = main;
    globals = globals;
    are = are_parts;
    fit = fit_tables;
  }
    where
      count : length parts.functions ≡ length p.functions
      count = are.code.one_each

      fits : All (FitsCode p) (codes parts)
      fits = all_fit laws made p formed few_words bodies tables parts.functions parts.attributed are

      part : (n : ℕ) (a : PartFunction) → slice_get parts.attributed n ≡ Some a → IsAttributedPart p n a
      part = attributed_part p bodies tables parts.functions parts.attributed are

      checks : has_pointers parts ≡ has_some p
      checks = ap (λ (qs : List PartPointer). nat_lt 0 (length qs)) pointers

      words : length parts.globals ≡ data_words p
      words = ap length globals ∙ data_counted data_count p formed

      own_fit : (f : ℕ) (code : Labelled) → slice_get parts.functions f ≡ Some code → FitsCode p code
      own_fit f code at = own_fits laws made p formed few_words f code (own_code p bodies tables parts.functions parts.attributed are f code at)

      are_parts : AreParts parts
      are_parts =
          let entry = formed.typed.entry in
          let within = slice_get_within p.functions p.main entry.main entry.defined in record {
            main = omega (arith, count, within, main);
            functions =
                subst (λ m. All (IsFunction m (has_pointers parts)) (codes parts)) (sym count)
                (subst (λ b. All (IsFunction (length p.functions) b) (codes parts)) (sym checks) (All-weaker (FitsCode p) (IsFunction (length p.functions) (has_some p)) (λ code h. h.linkable) (codes parts) fits));
            globals = subst (λ gs. All (IsDatum (length parts.functions)) gs) (sym globals) (subst (λ m. All (IsDatum m) (first_data p)) (sym count) (data_there p (first_values p formed.typed.globals)));
            labels = few_labels;
          }

      functions_fit : (n : ℕ) (a : PartFunction) → slice_get parts.attributed n ≡ Some a → FitsPartFunction parts a
      functions_fit n a is =
          function_fits p facts fit grouped parts count switches own_fit n a (part n a is) (variant_fits laws made p formed few_words n a (part n a is))

      fit_tables : FitTables parts
      fit_tables = record {
        few_switches = let same = ap length switches ∙ length-map p.switches (part_switch p) in let most = facts.few_switches in omega (arith, same, most);
        switches =
            subst (λ ss. All (FitsPartSwitch (length parts.globals)) ss) (sym switches)
            (all_switches_fit p facts (length parts.globals) words);
        few_functions = let same = as_many_parts p bodies tables parts.functions parts.attributed are in let most = facts.few_functions in omega (arith, same, most);
        functions = all_by_index (FitsPartFunction parts) parts.attributed functions_fit;
        ascend = λ i below.
            subst IsStrictlyIncreasing (sym are.variants.numbers) (ascending 0 p.functions) i
            (let long = length-map parts.attributed (λ (a : PartFunction). a.function) in omega (arith, below, long));
        slots =
            subst (λ ns. All (λ (code : Labelled). All (CallsAmong ns) code.items) (codes parts)) (sym are.variants.numbers)
            (All-weaker (FitsCode p) (λ (code : Labelled). All (CallsAmong (attributed_numbers p)) code.items) (λ code h. h.slots) (codes parts) fits);
        few_pointers = let same = ap length pointers ∙ length-map p.pointers (part_pointer p) in let most = facts.few_pointers in omega (arith, same, most);
        pointers = subst (λ (qs : List PartPointer). All (FitsPartPointer (length parts.globals)) qs) (sym pointers) (all_pointers_fit p facts (length parts.globals) words);
        through =
            subst (λ (qs : List PartPointer). All (λ (code : Labelled). All (GoesThrough (pointer_addresses qs)) code.items) (codes parts)) (sym pointers)
            (All-weaker (FitsCode p) (λ (code : Labelled). All (GoesThrough (pointer_addresses (part_pointers p))) code.items) (λ code h. h.through) (codes parts) fits);
        few_targets = let same = ap length targets in let least = targets_few p in let most = facts.few_targets in omega (arith, same, least, most);
        targets = subst (All linker.IsName) (sym targets) (targets_named p facts);
        targets_there = let same = ap length targets in let least = targets_few p in omega (arith, same, least, count);
        targets_begin = λ some. all_by_index BeginsWithWords parts.functions (λ f code at. (own_fit f code at).begins);
      }
