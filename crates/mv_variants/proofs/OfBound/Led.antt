-- Each combination leads to a variant that is made under it.
use Rattle.std.proofs.Common.{arith, ◌≡◌, ℕ, zero, suc, ◌+◌, ◌^◌, ◌<◌, List, [], ◌∷◌, length, refl, sym, ◌∙◌, ap, subst}
use Rattle.std.specs.Prelude.{slice_get, slice_index, Some}
use Rattle.std.specs.List.{zip}
use Rattle.std.proofs.lemmas.List.Elements.{All-get_or}
use Rattle.std.proofs.lemmas.Option.{slice_get_within}
use Rattle.mv_ir.specs.Combinations.{IsCombination}
use Rattle.mv_image.specs.Spelling.{Fields}
use Rattle.mv_image.specs.Patched.{variants_before, fitting_variant, variant_under}
use Rattle.mv_merge.specs.declared.rows.Domain.{Domain}
use Rattle.mv_merge.specs.Guards.{domain_values, AreValues}
use Rattle.mv_variants.specs.Bound.Meant.{IsMadeUnder}
use Rattle.mv_variants.specs.Bound.Led.{HaveWords, CombinationsAreLed, BodiesAreMade}
use Rattle.mv_variants.proofs.OfBound.Fitting.{row_with}
use Rattle.mv_variants.proofs.OfBound.Tables.{variants_led}

each_word : (domains : List Domain) (vs : List ℕ) → HaveWords domains → IsCombination (domain_values domains) vs → AreValues domains vs
each_word domains vs words c = record { each = long domains vs c; words = λ i. word domains vs words c i }
  where
    long : (domains : List Domain) (vs : List ℕ) → IsCombination (domain_values domains) vs → length vs ≡ length domains
    long [] [] c = refl
    long [] (v ∷ vs) c = absurd c
    long (d ∷ domains) [] c = absurd c
    long (d ∷ domains) (v ∷ vs) c = ap suc (long domains vs c.1)

    word : (domains : List Domain) (vs : List ℕ) → HaveWords domains → IsCombination (domain_values domains) vs → (i : ℕ) → slice_index vs i < 2 ^ 32
    word [] [] w c i = omega arith
    word [] (v ∷ vs) w c i = absurd c
    word (d ∷ domains) [] w c i = absurd c
    word (d ∷ domains) (v ∷ vs) w c zero = subst (λ n. n < 2 ^ 32) (c.0.2 0) (All-get_or (λ v. v < 2 ^ 32) d.values c.0.0 0 c.0.1 w.0)
    word (d ∷ domains) (v ∷ vs) w c (suc i) = word domains vs w.1 c.1 i

-- values that lead to a number are bound to the row with that number
pub under_is : (image : Fields) (n k : ℕ) (vs : List ℕ) → fitting_variant image n vs ≡ Some k → variant_under image n (Some vs) ≡ slice_get image.variants k
unfolding variant_under
under_is image n k vs e = rw e refl

pub combinations_led : CombinationsAreLed
combinations_led image tables has domains rows variants words all merged n row at there same shorts body made =
    let all_fit = variants_led image tables has domains rows variants all merged n row at there same in
    record {
      combinations = λ vs c.
          let leads = all_fit.leads vs (each_word domains vs words c) in
          let found = leads.combination c in
          let came = row_with domains vs rows (leads.came c) in
          record {
            place = found.0;
            below = found.2;
            fits = found.1;
            row = under_is image n (variants_before image n + found.0) vs found.1;
            result = came.0.body;
            there = found.3 came.0 came.1 came.2;
            made = subst (λ us. IsMadeUnder shorts (zip body.switches us) body came.0.body) came.2 (made came.0 came.1);
          };
      others = λ vs values no. (all_fit.leads vs values).none no;
    }

pub bodies_made : BodiesAreMade
bodies_made domains rows variants merged shorts body made i b e =
    let came = merged.came i (slice_get_within variants.bodies i b e) in
    let same : came.0.body ≡ b = let both : Some came.0.body ≡ Some b = sym came.2 ∙ e in cc in
    (came.0, came.1, subst (IsMadeUnder shorts (zip body.switches came.0.assignment.values) body) same (made came.0 came.1))
