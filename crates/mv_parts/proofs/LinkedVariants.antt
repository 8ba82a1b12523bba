-- The variants of an attributed function: their bodies, and the rows that lead to them.
use Rattle.std.proofs.Common.{◌≡◌, ℕ, zero, suc, ◌<◌, ◌≤◌, ◌^◌, Bool, true, false, cond, eqb, List, [], ◌∷◌, Some, length, map, slice_get, refl, sym, ap, ◌∙◌, subst, arith}
use Rattle.std.specs.List.{zip}
use Rattle.std.proofs.lemmas.List.{length-map}
use Rattle.std.proofs.lemmas.List.Elements.{All-get_or}
use Rattle.mv_num.specs.Bytes.{AreWords}
use Rattle.mv_ast.specs.declared.program.Program.{Program}
use Rattle.mv_ast.specs.declared.program.Function.{Function}
use Rattle.mv_ast.specs.Counts.{assignments}
use Rattle.mv_ast.specs.Switches.{switch_domain}
use Rattle.mv_descriptors.specs.declared.rows.GuardRow.{GuardRow}
use Rattle.mv_ir.specs.declared.body.Body.{Body}
use Rattle.mv_ir.specs.Combinations.{IsCombination, AreAllCombinations}
use Rattle.mv_ir.specs.Measures.{joined}
use Rattle.mv_ir.specs.Trees.{found}
use Rattle.mv_lower_spec.specs.Functions.{lower_function}
use Rattle.mv_merge.specs.declared.rows.Domain.{Domain}
use Rattle.mv_merge.specs.declared.rows.Bound.{Bound}
use Rattle.mv_merge.specs.Guards.{domain_values, all_values, AreValues}
use Rattle.mv_variants.specs.Bound.Led.{BodiesAreMade}
use Rattle.mv_variants.specs.Bound.Programs.{IsMadeOf}
use Rattle.mv_variants.specs.Bound.Names.{ReadAsWords}
use Rattle.mv_variants.specs.Bound.Rows.{groups, GroupedIsLed}
use Rattle.mv_variants.specs.Bound.Switches.{domains_in, DomainsAreWords}
use Rattle.mv_variants.specs.Bound.Tables.{IsGroup, GroupsFit}
use Rattle.mv_variants.specs.declared.variant.Variant.{Variant}
use Rattle.mv_variants.specs.Domains.{switch_kind, domain}
use Rattle.mv_variants.specs.Variants.{guards_of, AreVariants}
use Rattle.mv_ir_worlds.proofs.Functions.{combination_length}
use Rattle.mv_parts.proofs.LinkedLists.{in_at, in_map}
use Rattle.mv_parts.proofs.Lists.{map_at}
use Rattle.mv_num.proofs.Lists.{there_at}

-- ---- combinations of words

-- a combination of domains of words has words
words_in : (p : Program) (ss vs : List ℕ) → DomainsAreWords p ss → IsCombination (map (switch_domain p) ss) vs → AreWords vs
words_in p [] [] w c i = omega arith
words_in p [] (v ∷ vs) w c i = absurd c
words_in p (s ∷ ss) [] w c i = absurd c
words_in p (s ∷ ss) (v ∷ vs) w c zero = subst (λ n. n < 2 ^ 32) (c.0.2 0) (All-get_or (λ v. v < 2 ^ 32) (switch_domain p s) c.0.0 0 c.0.1 w.0)
words_in p (s ∷ ss) (v ∷ vs) w c (suc i) = words_in p ss vs w.1 c.1 i

read_as_words : (globals vs : List ℕ) → AreWords vs → ReadAsWords (zip globals vs)
read_as_words [] vs w g v e = absurd (let bad : ⊥ = cc in bad)
read_as_words (k ∷ globals) [] w g v e = absurd (let bad : ⊥ = cc in bad)
read_as_words (k ∷ globals) (x ∷ vs) w g v e = by (read_as_words globals vs (λ i. w (suc i)) g v) (eqb k g) e
  where
    by : (found (zip globals vs) g ≡ Some v → v < 2 ^ 32) → (b : Bool) → cond b (Some x) (found (zip globals vs) g) ≡ Some v → v < 2 ^ 32
    by rest true e = let same : x ≡ v = cc in subst (λ n. n < 2 ^ 32) same (w 0)
    by rest false e = rest e

values_are : (p : Program) (ss : List ℕ) → domain_values (map (domain p) ss) ≡ map (switch_domain p) ss
values_are p [] = refl
values_are p (s ∷ ss) = ap (λ l. switch_domain p s ∷ l) (values_are p ss)

-- ---- the variants of a function

-- a variant is made of what its function is lowered to, under words for its switches
pub record IsMadeVariant (p : Program) (g : Function) (v : Variant) : Type 0 where
  pub values : List (ℕ × ℕ)
  pub words : ReadAsWords values
  pub made : IsMadeOf p g values v.body

module _ (p : Program) (g : Function) (variants : List Variant) (are : AreVariants p g variants) where
  abbrev domains : List Domain
  domains = domains_in p (switch_kind p) g

  pub many : length variants ≡ length are.merged.bodies
  many = sym (length-map variants (λ (v : Variant). v.body)) ∙ ap length are.grouped.bodies

  body_at : (j : ℕ) (v : Variant) → slice_get variants j ≡ Some v → slice_get are.merged.bodies j ≡ Some v.body
  body_at j v at = subst (λ (bs : List Body). slice_get bs j ≡ Some v.body) are.grouped.bodies (map_at (λ (x : Variant). x.body) variants j v at)

  guards_at : (j : ℕ) (v : Variant) → slice_get variants j ≡ Some v → slice_get (groups are.merged) j ≡ Some v.guards
  guards_at j v at = subst (λ (gs : List (List GuardRow)). slice_get gs j ≡ Some v.guards) are.grouped.guards (map_at (λ (x : Variant). x.guards) variants j v at)

  pub made_variant : BodiesAreMade → (j : ℕ) (v : Variant) → slice_get variants j ≡ Some v → IsMadeVariant p g v
  made_variant bodies j v at =
      let (r, row, made) = bodies domains are.rows are.merged are.is_merged are.shorts (lower_function p g) are.made j v.body (body_at j v at) in
      let vs = r.assignment.values in
      let c = are.all.only vs (in_map (λ (x : Bound). x.assignment.values) are.rows r row) in
      record {
        values = zip (lower_function p g).switches vs;
        words = read_as_words (lower_function p g).switches vs (words_in p g.switches vs are.words c);
        made = record { shorts = are.shorts; known = are.known; made = made };
      }

  -- where there is an assignment there is a variant
  pub some_variant : GroupedIsLed → 1 ≤ assignments p g → 1 ≤ length variants
  some_variant grouped some =
      let count = are.count in
      let (r, at) = there_at are.rows 0 (omega (arith, some, count)) in
      let vs = r.assignment.values in
      let c = are.all.only vs (in_map (λ (x : Bound). x.assignment.values) are.rows r (in_at are.rows 0 r at)) in
      let same = values_are p g.switches in
      let long : length vs ≡ length domains = combination_length (map (switch_domain p) g.switches) vs c ∙ length-map g.switches (switch_domain p) ∙ sym (length-map g.switches (domain p)) in
      let values : AreValues domains vs = record { each = long; words = words_in p g.switches vs are.words c } in
      let all = subst (λ (ds : List (List ℕ)). AreAllCombinations ds (all_values are.rows)) (sym same) are.all in
      let led = (grouped domains are.rows are.merged all are.is_merged vs values).combination (subst (λ (ds : List (List ℕ)). IsCombination ds vs) (sym same) c) in
      let below = led.2 in
      let as_many = many in omega (arith, below, as_many)

  module _ (fit : GroupsFit) where
    pub few_variants : length variants ≤ assignments p g
    few_variants = let bodies = (fit domains are.rows are.merged are.is_merged).bodies in let as_many = many in let count = are.count in omega (arith, bodies, as_many, count)

    pub group_of : (j : ℕ) (v : Variant) → slice_get variants j ≡ Some v → IsGroup domains (length are.rows) v.guards
    group_of j v at = (fit domains are.rows are.merged are.is_merged).each j v.guards (guards_at j v at)

    pub few_guards : length (joined (guards_of variants)) ≤ assignments p g
    few_guards =
        let together = (fit domains are.rows are.merged are.is_merged).together in
        let count = are.count in
        let same = ap (λ (gs : List (List GuardRow)). length (joined gs)) are.grouped.guards in omega (arith, together, count, same)
