-- Counts over the source bound what is linked of a program.
use Rattle.std.proofs.Common.{◌≡◌, ℕ, ◌+◌, ◌≤◌, Bool, true, cond, List, [], ◌∷◌, Some, length, map, slice_get, sum, sum_by, refl, sym, ap, ◌∙◌, subst, arith}
use Rattle.std.specs.Prelude.{count_by}
use Rattle.std.proofs.lemmas.List.{length-map, map-append}
use Rattle.std.proofs.lemmas.List.Sums.{sum_by-cons, sum_by-append}
use Rattle.std.proofs.lemmas.Option.{slice_get_within, same_Some}
use Rattle.mv_ast.specs.declared.program.Program.{Program}
use Rattle.mv_ast.specs.declared.program.Function.{Function}
use Rattle.mv_ast.specs.Counts.{assignments}
use Rattle.mv_ast.specs.Switches.{attributed_functions}
use Rattle.mv_isa.specs.declared.labelled.Labelled.{Labelled}
use Rattle.mv_isa.specs.declared.labelled.Line.{Line}
use Rattle.mv_isa.specs.declared.labelled.Line.TheVariants.{Slot, Point}
use Rattle.mv_ir.specs.declared.body.Body.{Body}
use Rattle.mv_variants.specs.Bound.Led.{BodiesAreMade}
use Rattle.mv_variants.specs.Bound.Slots.{points, sites, slots}
use Rattle.mv_variants.specs.Bound.Tables.{GroupsFit}
use Rattle.mv_count_code.specs.Sizes.{general, bound}
use Rattle.mv_count_code.specs.Texts as source
use Rattle.mv_linker.specs.declared.parts.PartFunction.{PartFunction}
use Rattle.mv_linker.specs.declared.parts.PartVariant.{PartVariant}
use Rattle.mv_linker.specs.Linked.{function_variants, variant_codes}
use Rattle.mv_linker.specs.Tables.{is_point, is_slot, site_weight}
use Rattle.mv_variants.specs.declared.variant.Variant.{Variant}
use Rattle.mv_parts.specs.Laws.{PartsAreCounted}
use Rattle.mv_parts.specs.Parts.{AreCodesOf}
use Rattle.mv_parts.proofs.Lists.{all_by_index, map_at}
use Rattle.mv_parts.proofs.LinkedParts.{IsOwnCode, IsAttributedPart, variant_part, own_code, as_many_parts, attributed_part}
use Rattle.mv_parts.proofs.LinkedVariants.{made_variant, few_variants}
use Rattle.mv_num.proofs.Lists.{there_at}

-- ---- sites

-- what grows by one with each line that a test picks counts these
counted : (count : List Line → ℕ) (test : Line → Bool) → count [] ≡ 0 → ((line : Line) (lines : List Line) → count (line ∷ lines) ≡ cond (test line) 1 0 + count lines) →
    (lines : List Line) → count lines ≡ count_by test lines
counted count test none more [] = none
counted count test none more (line ∷ lines) =
    let rest = counted count test none more lines in
    let here = more line lines in
    omega (arith, rest, here, sum_by-cons (λ (x : Line). cond (test x) 1 0) line lines)

slots_more : (line : Line) (lines : List Line) → slots (line ∷ lines) ≡ cond (is_slot line) 1 0 + slots lines
slots_more (Slot f) lines = omega arith
slots_more _ lines = omega arith

points_more : (line : Line) (lines : List Line) → points (line ∷ lines) ≡ cond (is_point line) 1 0 + points lines
points_more (Point a) lines = omega arith
points_more _ lines = omega arith

sites_same : (lines : List Line) → sites lines ≡ site_weight lines
sites_same lines =
    let slots_are = counted slots is_slot refl slots_more lines in
    let points_are = counted points is_point refl points_more lines in
    omega (arith, slots_are, points_are)

abbrev code_sites : Labelled → ℕ
code_sites code = site_weight code.items

own_sum : (codes : List Labelled) → source.slots_in codes ≡ sum_by code_sites codes
own_sum [] = refl
own_sum (code ∷ codes) =
    let rest = own_sum codes in
    let here = sites_same code.items in
    omega (arith, rest, here, sum_by-cons (λ (n : ℕ). n) (sites code.items) (map (λ (c : Labelled). sites c.items) codes), sum_by-cons code_sites code codes)

-- the code of each function's variants
abbrev variant_lists : List PartFunction → List (List Labelled)
variant_lists attributed = map (λ (a : PartFunction). variant_codes a.variants) attributed

variant_sum : (attributed : List PartFunction) → sum (map source.slots_in (variant_lists attributed)) ≡ sum_by code_sites (variant_codes (function_variants attributed))
variant_sum [] = refl
variant_sum (a ∷ attributed) =
    let rest = variant_sum attributed in
    let here = own_sum (variant_codes a.variants) in
    let all = ap (sum_by code_sites) (map-append (λ (v : PartVariant). v.code) a.variants (function_variants attributed)) in
    omega (
      arith,
      rest,
      here,
      all,
      sum_by-append code_sites (variant_codes a.variants) (variant_codes (function_variants attributed)),
      sum_by-cons (λ (n : ℕ). n) (source.slots_in (variant_codes a.variants)) (map source.slots_in (variant_lists attributed)),
    )

-- ---- bodies

own_is : (p : Program) (f : ℕ) (code : Labelled) → (h : IsOwnCode p f code) → source.IsCodeOf p h.function code
own_is p f code h = record {
  body = h.body;
  of = general h.general;
  suitable = h.is_code.suitable;
  fits = h.is_code.selected.frame;
  attributed = h.function.attributed;
  items = h.is_code.selected.items;
}

variant_is : BodiesAreMade → (p : Program) (n : ℕ) (a : PartFunction) → (h : IsAttributedPart p n a) → (j : ℕ) (part : PartVariant) → slice_get a.variants j ≡ Some part →
    source.IsCodeOf p h.function part.code
variant_is made p n a h j part is =
    let v = variant_part h.variants a.variants h.part.variants_are j part is in
    let m = made_variant p h.function h.variants h.variants_are made j v.variant v.there in
    record { body = v.variant.body; of = bound m.values m.made; suitable = v.is.code.suitable; fits = v.is.code.selected.frame; attributed = true; items = v.is.code.selected.items }

variants_few : GroupsFit → (p : Program) (n : ℕ) (a : PartFunction) → (h : IsAttributedPart p n a) → length a.variants ≤ assignments p h.function
variants_few fit p n a h =
    let few = few_variants p h.function h.variants h.variants_are fit in
    let same = h.part.variants_are.one_each in omega (arith, few, same)

-- ---- a program

module _ (made : BodiesAreMade) (fit : GroupsFit) (p : Program) (bodies : List Body) (tables : List (List Variant)) (functions : List Labelled) (attributed : List PartFunction)
    (are : AreCodesOf p bodies tables functions attributed) where
  pub have_code : source.HaveCode p functions
  have_code = record {
    one_each = are.code.one_each;
    each = λ f g code there is.
        let h = own_code p bodies tables functions attributed are f code is in
        subst (λ (k : Function). source.IsCodeOf p k code) (same_Some h.function g (sym h.there ∙ there)) (own_is p f code h);
  }

  -- the part of an attributed function
  part : (n : ℕ) (a : PartFunction) → slice_get attributed n ≡ Some a → IsAttributedPart p n a
  part = attributed_part p bodies tables functions attributed are

  same_function : (n : ℕ) (g : Function) (a : PartFunction) → slice_get (attributed_functions p) n ≡ Some g → (is : slice_get attributed n ≡ Some a) → (part n a is).function ≡ g
  same_function n g a there is = same_Some (part n a is).function g (sym (part n a is).nth ∙ there)

  pub have_variants : source.HaveVariants p attributed
  have_variants = record {
    few = let same = as_many_parts p bodies tables functions attributed are in omega (arith, same);
    each = λ n g a there is.
        subst (λ (k : Function). source.HaveVariantCode p k a.variants) (same_function n g a there is) (record {
          few = variants_few fit p n a (part n a is);
          each = all_by_index (λ (v : PartVariant). source.IsCodeOf p (part n a is).function v.code) a.variants (variant_is made p n a (part n a is));
        });
  }

  are_variant_codes : (n : ℕ) (a : PartFunction) → (is : slice_get attributed n ≡ Some a) → source.AreVariantCodes p (part n a is).function (variant_codes a.variants)
  are_variant_codes n a is =
      let long = length-map a.variants (λ (v : PartVariant). v.code) in record {
        few = let few = variants_few fit p n a (part n a is) in omega (arith, few, long);
        each = λ i code at.
            let within = slice_get_within (variant_codes a.variants) i code at in
            let (v, there) = there_at a.variants i (omega (arith, within, long)) in
            subst (source.IsCodeOf p (part n a is).function) (same_Some v.code code (sym (map_at (λ (x : PartVariant). x.code) a.variants i v there) ∙ at))
            (variant_is made p n a (part n a is) i v there);
      }

  pub have_variant_codes : source.HaveVariantCodes p (variant_lists attributed)
  have_variant_codes =
      let long = length-map attributed (λ (a : PartFunction). variant_codes a.variants) in record {
        one_each = long ∙ as_many_parts p bodies tables functions attributed are;
        each = λ n g cs there at.
            let within = slice_get_within (variant_lists attributed) n cs at in
            let (a, is) = there_at attributed n (omega (arith, within, long)) in
            let codes = same_Some (variant_codes a.variants) cs (sym (map_at (λ (x : PartFunction). variant_codes x.variants) attributed n a is) ∙ at) in
            subst (λ (ds : List Labelled). source.AreVariantCodes p g ds) codes
            (subst (λ (k : Function). source.AreVariantCodes p k (variant_codes a.variants)) (same_function n g a there is) (are_variant_codes n a is));
      }

pub are_counted : BodiesAreMade → GroupsFit → source.TextsPass → source.SlotsAreCounted → PartsAreCounted
are_counted made fit texts counted p formed bodies tables parts are =
    let own = have_code made fit p bodies tables parts.functions parts.attributed are in
    let variants = have_variants made fit p bodies tables parts.functions parts.attributed are in
    let lists = have_variant_codes made fit p bodies tables parts.functions parts.attributed are in
    let both = counted p formed parts.functions (variant_lists parts.attributed) own lists in
    let all = sum_by-append code_sites parts.functions (variant_codes (function_variants parts.attributed)) in
    let first = own_sum parts.functions in
    let second = variant_sum parts.attributed in
    let sites = both.0 in
    let places = both.1 in
    let as_many = as_many_parts p bodies tables parts.functions parts.attributed are in record {
      sites = omega (arith, sites, all, first, second);
      places = omega (arith, places, all, first, second, as_many);
      text = texts p formed parts own variants;
    }
