-- The variants of a function, from the steps.
use Rattle.std.proofs.Common.{arith, ◌≡◌, ℕ, ◌<◌, ◌≤◌, List, [], ◌∷◌, length, map, take, get_or, refl, sym, ◌∙◌, ap, subst}
use Rattle.std.proofs.lemmas.List.{length-map, take-map}
use Rattle.mv_ast.specs.declared.program.Program.{Program}
use Rattle.mv_ast.specs.declared.program.Function.{Function}
use Rattle.mv_ast.specs.Switches.{switch_domain, switch_global}
use Rattle.mv_ast.specs.Counts.{product_of}
use Rattle.mv_clone.specs.Assignments as clone
use Rattle.mv_ir.specs.declared.body.Body.{Body}
use Rattle.mv_ir.specs.declared.body.Assignment.{Assignment}
use Rattle.mv_ir.specs.Shorts.{Shorts}
use Rattle.mv_ir.specs.Combinations.{AreDomains, AreAllCombinations, combinations, values_of}
use Rattle.mv_ir.specs.Live.{IsWhole}
use Rattle.mv_ir.specs.Measures.{deepest}
use Rattle.mv_ir.specs.WellFormed as ir
use Rattle.mv_lower_spec.specs.Shape.Law.{LoweredAreShallow, LoweredAreWhole, LoweredAreWellFormed}
use Rattle.mv_source_forms.specs.WellFormed.{IsWellFormed}
use Rattle.mv_merge.specs.declared.rows.Domain.{Domain}
use Rattle.mv_merge.specs.declared.rows.Bound.{Bound}
use Rattle.mv_merge.specs.declared.rows.Variants.{Variants}
use Rattle.mv_merge.specs.Guards.{domain_values, all_values}
use Rattle.mv_merge.specs.Laws.{GroupedAreMerged}
use Rattle.mv_variants.specs.Bound.Shorts.{AreShortsOf}
use Rattle.mv_variants.specs.Bound.Led.{AreMade, HaveWords}
use Rattle.mv_variants.specs.Bound.Switches.{domains_in}
use Rattle.mv_variants.specs.declared.variant.Variant.{Variant}
use Rattle.mv_variants.specs.Domains.{switch_kind, domain, domains_or_none, own_domains, AreDomainsOf}
use Rattle.mv_variants.specs.declared.size.Size.{Size}
use Rattle.mv_variants.specs.Fronts.{IsFirstOver, PassesUnder, PassesWithin, PassesWithinOf}
use Rattle.mv_variants.specs.Rows.{AreMergedUnder}
use Rattle.mv_variants.specs.Variants.{IsLoweredFrom, AreGrouped, AreVariants, AreVariantsOf}
use Rattle.mv_variants.proofs.Domains.{words_of}
use Rattle.mv_variants.proofs.Functions.{IsAttributed, are_domains, few_switches, few_assignments, assignments_are}
use Rattle.mv_variants.proofs.Rows.{values_long}

module _ (p : Program) (formed : IsWellFormed p) (f : ℕ) (a : IsAttributed p f) where
  open a use {function as g}

  abbrev combined : List (List ℕ)
  combined = map (switch_domain p) g.switches

  -- ---- domains

  clone_domains : clone.domains_of p f ≡ combined
  clone_domains = ap (clone.domains_or_none p) a.there

  own : own_domains p f ≡ domains_in p (switch_kind p) g
  own = ap (domains_or_none p) a.there

  values_in : (ss : List ℕ) → domain_values (map (domain p) ss) ≡ map (switch_domain p) ss
  values_in [] = refl
  values_in (s ∷ ss) = ap (λ l. switch_domain p s ∷ l) (values_in ss)

  pub domains_apart : AreDomains (clone.domains_of p f)
  domains_apart = subst AreDomains (sym clone_domains) (are_domains p formed g.switches)

  -- ---- assignments

  lengths : (ss : List ℕ) → map (λ (d : List ℕ). length d) (map (switch_domain p) ss) ≡ map (λ s. length (switch_domain p s)) ss
  lengths [] = refl
  lengths (s ∷ ss) = ap (λ l. length (switch_domain p s) ∷ l) (lengths ss)

  module _ (all : List Assignment) (every : AreAllCombinations (clone.domains_of p f) (values_of all)) (count : length all ≡ product_of (map (λ (d : List ℕ). length d) (clone.domains_of p f))) where
    product : product_of (map (λ (d : List ℕ). length d) (clone.domains_of p f)) ≡ product_of (map (λ s. length (switch_domain p s)) g.switches)
    product = ap (λ ds. product_of (map (λ (d : List ℕ). length d) ds)) clone_domains ∙ ap product_of (lengths g.switches)

    pub values_fit : (body : Body) → IsLoweredFrom p f body → (k : ℕ) (d : Assignment) → k < length all → length body.switches ≡ length (get_or all k d).values
    values_fit body lowered k d below =
        let own_switches = ap (λ (b : Body). length b.switches) (lowered g a.there) ∙ length-map g.switches (switch_global p) in
        let domains = ap length clone_domains ∙ length-map g.switches (switch_domain p) in
        own_switches ∙ sym domains ∙ sym (values_long (clone.domains_of p f) all every.only k d below)

    pub all_few : length all ≤ 64
    all_few = omega (arith, count, product, few_assignments p formed f g a.there a.attributed)

    module _ (shorts : Shorts) (known : AreShortsOf p shorts) (body : Body) (lowered : IsLoweredFrom p f body) (merged : Variants) (are : AreMergedUnder shorts body all merged) where
      abbrev rows : List Bound
      rows = are.rows

      rows_count : length rows ≡ product_of (map (λ s. length (switch_domain p s)) g.switches)
      rows_count = sym (length-map rows (λ (r : Bound). r.assignment.values)) ∙ ap length are.under.values ∙ length-map all (λ (x : Assignment). x.values) ∙ count ∙ product

      combinations_are : AreAllCombinations combined (all_values rows)
      combinations_are = subst (λ ds. AreAllCombinations ds (all_values rows)) clone_domains (subst (AreAllCombinations (clone.domains_of p f)) (sym are.under.values) every)

      rows_are_all : AreAllCombinations (domain_values (domains_in p (switch_kind p) g)) (all_values rows)
      rows_are_all = subst (λ vs. AreAllCombinations vs (all_values rows)) (sym (values_in g.switches)) combinations_are

      pub are_variants : GroupedAreMerged → (domains : List Domain) → AreDomainsOf (own_domains p f) domains → (variants : List Variant) → AreGrouped merged variants → AreVariantsOf p f variants
      are_variants law domains ds variants grouped h there =
          let same : g ≡ h = let here = a.there in cc in
          subst (λ (x : Function). AreVariants p x variants) same (record {
            words = words_of p g.switches (subst HaveWords (ds.is ∙ own) ds.words);
            shorts = shorts;
            known = known;
            rows = rows;
            count = rows_count ∙ sym (assignments_are p formed f g a.there a.attributed);
            all = combinations_are;
            made = subst (λ (b : Body). AreMade shorts b rows) (lowered g a.there) are.under.made;
            merged = merged;
            is_merged = law (domains_in p (switch_kind p) g) rows merged rows_are_all are.grouped;
            grouped = grouped;
          })

    -- the bodies under the first assignments
    pub first_bodies : (order : values_of all ≡ combinations (clone.domains_of p f)) (shorts : Shorts) → AreShortsOf p shorts → (body : Body) → IsLoweredFrom p f body → (size over : Size) →
        PassesUnder shorts body all size over → PassesWithinOf p f size over
    first_bodies order shorts known body lowered size over h k there =
        let same : g ≡ k = let here = a.there in cc in
        let is = lowered g a.there in
        subst (λ (x : Function). PassesWithin p x size over) same (record {
          earlier = h.earlier;
          last = h.last;
          first = record {
            shorts = shorts;
            known = known;
            rows = h.merged.rows;
            count = h.count;
            first = h.merged.under.values ∙ sym (take-map (λ (x : Assignment). x.values) h.count all) ∙ ap (take h.count) (order ∙ ap combinations clone_domains);
            made = subst (λ (b : Body). AreMade shorts b h.merged.rows) is h.merged.under.made;
            guards = h.guards;
            grouped = h.merged.grouped;
            few = omega (arith, h.few, count, product, assignments_are p formed f g a.there a.attributed);
          };
          passes = subst (λ (b : Body). IsFirstOver shorts b size h.earlier h.last over) is h.passes;
        })

  -- ---- the body

  pub body_shallow : LoweredAreShallow → (body : Body) → IsLoweredFrom p f body → deepest body.code ≤ 4
  body_shallow law body lowered = subst (λ (b : Body). deepest b.code ≤ 4) (sym (lowered g a.there)) (law p g)

  pub switches_few : (body : Body) → IsLoweredFrom p f body → length body.switches ≤ 6
  switches_few body lowered =
      omega (arith, ap (λ (b : Body). length b.switches) (lowered g a.there), length-map g.switches (switch_global p), few_switches p formed f g a.there a.attributed)

  pub body_formed : LoweredAreWellFormed → (body : Body) → IsLoweredFrom p f body → ir.IsWellFormed body
  body_formed law body lowered = subst ir.IsWellFormed (sym (lowered g a.there)) (law p f g (record { formed = formed; there = a.there }))

  pub body_whole : LoweredAreWhole → (body : Body) → IsLoweredFrom p f body → IsWhole body
  body_whole law body lowered = subst IsWhole (sym (lowered g a.there)) (law p f g (record { formed = formed; there = a.there }))
