-- Counts over the source bound the size of code up to the first that there is no room for.
use Rattle.std.proofs.Common.{arith, ◌≡◌, ℕ, ◌≤◌, List, [], ◌∷◌, ◌++◌, All, Some, length, map, slice_get, sum_by, sym, ap, ◌∙◌, subst, length-append}
use Rattle.std.proofs.lemmas.List.{length-map}
use Rattle.std.proofs.lemmas.List.Sums.{sum_by-append, sum_by-cons}
use Rattle.std.proofs.lemmas.Option.{slice_get_within, same_Some}
use Rattle.mv_ast.specs.declared.program.Program.{Program}
use Rattle.mv_ast.specs.declared.program.Function.{Function}
use Rattle.mv_ast.specs.Counts.{assignments}
use Rattle.mv_ast.specs.Switches.{attributed_functions}
use Rattle.mv_isa.specs.declared.labelled.Labelled.{Labelled}
use Rattle.mv_ir.specs.declared.body.Body.{Body}
use Rattle.mv_ir_worlds.proofs.Functions.{attributed_at as nth_attributed}
use Rattle.mv_variants.specs.Bound.Tables.{GroupsFit}
use Rattle.mv_variants.specs.declared.size.Size.{Size}
use Rattle.mv_variants.specs.declared.variant.Variant.{Variant}
use Rattle.mv_variants.specs.Sizes.{body_sites, body_words}
use Rattle.mv_variants.specs.Variants.{bodies_of}
use Rattle.mv_count_code.specs.Fronts as source
use Rattle.mv_count_code.specs.Sizes.{general}
use Rattle.mv_count_code.specs.Texts as texts
use Rattle.mv_parts.specs.Codes.{AreGenerics, HaveCode}
use Rattle.mv_parts.specs.Fronts.{all_bodies, IsFront, PassesFront}
use Rattle.mv_parts.specs.Laws.{IsSizeCounted, SizesAreCounted}
use Rattle.mv_parts.specs.Numbers.{attributed_numbers}
use Rattle.mv_parts.proofs.LinkedNumbers.{as_many}
use Rattle.mv_parts.proofs.LinkedVariants.{few_variants}
use Rattle.mv_parts.proofs.Lists.{each_push, map_at}
use Rattle.mv_parts.proofs.Numbers.{attributed_at, place_of}
use Rattle.mv_num.proofs.Lists.{there_at}

-- the bodies of each function's variants, and the first of the next one's
abbrev lists_of : List (List Variant) → List Body → List (List Body)
lists_of tables bodies = map bodies_of tables ++ bodies ∷ []

sums : (n : Body → ℕ) (tables : List (List Variant)) (bodies : List Body) → sum_by n (all_bodies tables ++ bodies) ≡ sum_by (sum_by n) (lists_of tables bodies)
sums n [] bodies = let here = sum_by-cons (sum_by n) bodies [] in omega (arith, here)
sums n (t ∷ tables) bodies =
    let rest = sums n tables bodies in
    omega (
      arith,
      rest,
      sum_by-append n (bodies_of t ++ all_bodies tables) bodies,
      sum_by-append n (bodies_of t) (all_bodies tables),
      sum_by-append n (all_bodies tables) bodies,
      sum_by-cons (sum_by n) (bodies_of t) (lists_of tables bodies),
    )

module _ (p : Program) where
  nth_function : (n f : ℕ) → slice_get (attributed_numbers p) n ≡ Some f → (g : Function) → slice_get p.functions f ≡ Some g → slice_get (attributed_functions p) n ≡ Some g
  nth_function n f number g there =
      let at = attributed_at p n f number in
      let nth = subst (λ m. slice_get (attributed_functions p) m ≡ Some at.function) (place_of p n f number) (nth_attributed p.functions f at.function at.there at.attributed) in
      nth ∙ (sym at.there ∙ there)

  module _ (fit : GroupsFit) (tables : List (List Variant)) (bodies : List Body) (front : IsFront p tables bodies) where
    record IsList (n : ℕ) (list : List Body) (g : Function) : Type 0 where
      few : length list ≤ assignments p g
      each : All (source.IsCodedOf p g) list

    abbrev Each : ℕ → List Body → Type 0
    Each n list = (g : Function) → slice_get (attributed_functions p) n ≡ Some g → IsList n list g

    of_table : (n : ℕ) (list : List Body) → slice_get (map bodies_of tables) n ≡ Some list → Each n list
    of_table n list is g nth =
        let long = length-map tables bodies_of in
        let within = slice_get_within (map bodies_of tables) n list is in
        let (variants, table) = there_at tables n (omega (arith, within, long)) in
        let all = slice_get_within (attributed_numbers p) (length tables) front.number front.nth in
        let (f, number) = there_at (attributed_numbers p) n (omega (arith, within, long, all)) in
        let at = attributed_at p n f number in
        let same : at.function ≡ g = same_Some at.function g (sym (nth_function n f number at.function at.there) ∙ nth) in
        let list_is : bodies_of variants ≡ list = same_Some (bodies_of variants) list (sym (map_at bodies_of tables n variants table) ∙ is) in
        let few = few_variants p at.function variants (front.first_tables n f variants number table at.function at.there) fit in
        let coded = front.coded n f at.function variants number at.there table in
        subst (λ (h : Function). IsList n list h) same
        (subst (λ (bs : List Body). IsList n bs at.function) list_is (record { few = omega (arith, few, length-map variants (λ (v : Variant). v.body)); each = coded }))

    of_last : Each (length (map bodies_of tables)) bodies
    of_last g nth =
        let place = length-map tables bodies_of in
        let here = nth_function (length tables) front.number front.nth front.function front.there in
        let same : front.function ≡ g = same_Some front.function g (sym here ∙ (ap (λ i. slice_get (attributed_functions p) i) (sym place) ∙ nth)) in
        subst (λ (h : Function). IsList (length (map bodies_of tables)) bodies h) same (record { few = front.first_bodies.few; each = front.each })

    list_at : (n : ℕ) (g : Function) (list : List Body) → slice_get (attributed_functions p) n ≡ Some g → slice_get (lists_of tables bodies) n ≡ Some list → IsList n list g
    list_at n g list nth is = each_push Each (map bodies_of tables) bodies of_table of_last n list is g nth

    pub have_bodies : source.HaveVariantBodies p (lists_of tables bodies)
    have_bodies = record {
      few =
          let all = slice_get_within (attributed_numbers p) (length tables) front.number front.nth in
          let same = as_many 0 p.functions in
          omega (arith, all, same, length-append (map bodies_of tables) (bodies ∷ []), length-map tables bodies_of);
      each_few = λ n g list nth is. (list_at n g list nth is).few;
      each = λ n g list nth is. (list_at n g list nth is).each;
    }

  none_have : source.HaveVariantBodies p []
  none_have = record {
    few = omega arith;
    each_few = λ n g list nth is. absurd (let bad : ⊥ = cc in bad);
    each = λ n g list nth is. absurd (let bad : ⊥ = cc in bad);
  }

  module _ (bodies : List Body) (functions : List Labelled) (generics : AreGenerics p bodies) (code : HaveCode p bodies functions) where
    have_code : texts.HaveCode p functions
    have_code = record {
      one_each = code.one_each;
      each = λ f g c there is.
          let within = slice_get_within functions f c is in
          let count = code.one_each in
          let many = generics.one_each in
          let (b, of) = there_at bodies f (omega (arith, within, count, many)) in
          let has = code.each f b c of is in
          subst (λ (h : Function). texts.IsCodeOf p h c) (same_Some has.function g (sym has.there ∙ there)) (record {
            body = b;
            of = general (generics.each f has.function b has.there of);
            suitable = has.is_code.suitable;
            fits = has.is_code.selected.frame;
            attributed = has.function.attributed;
            items = has.is_code.selected.items;
          });
    }

pub sizes_counted : GroupsFit → source.FrontsAreCounted → SizesAreCounted
sizes_counted fit counted p formed bodies functions generics code size is = (own, over)
  where
    have : texts.HaveCode p functions
    have = have_code p bodies functions generics code

    own : IsSizeCounted p size
    own =
        let all = counted p formed functions have [] (none_have p) in
        let words = all.words in
        let sites = all.sites in
        record { words = omega (arith, is.words, words); sites = omega (arith, is.sites, sites) }

    over : (s : Size) → PassesFront p size s → IsSizeCounted p s
    over s h =
        let last = h.earlier ++ h.last ∷ [] in
        let all = counted p formed functions have (lists_of h.tables last) (have_bodies p fit h.tables last h.front) in
        let words = all.words in
        let sites = all.sites in
        record {
          words = omega (arith, is.words, words, h.is.words, sums body_words h.tables last);
          sites = omega (arith, is.sites, sites, h.is.sites, sums body_sites h.tables last);
        }
