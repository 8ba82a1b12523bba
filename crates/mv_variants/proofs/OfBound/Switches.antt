-- The switches of a program's function in an image.
use Rattle.std.proofs.Common.{arith, ◌≡◌, ℕ, zero, suc, ◌<◌, ◌^◌, List, [], ◌∷◌, map, refl, sym, ◌∙◌, ap, subst}
use Rattle.std.specs.Prelude.{All}
use Rattle.std.proofs.lemmas.List.{length-map}
use Rattle.std.proofs.lemmas.List.Elements.{All-head, All-tail}
use Rattle.mv_num.specs.declared.kind.Kind.{Kind}
use Rattle.mv_num.specs.Kinds.{kind_number}
use Rattle.mv_num.specs.Bytes.{AreWords}
use Rattle.mv_ast.specs.declared.program.Program.{Program}
use Rattle.mv_ast.specs.Switches.{switch_domain}
use Rattle.mv_ir.specs.Combinations.{IsCombination, AreAllCombinations}
use Rattle.mv_image.specs.Spelling.{Fields}
use Rattle.mv_image.specs.Patched.{kind_in, kind_of, kinds_of}
use Rattle.mv_lower_spec.specs.Functions.{lower_function}
use Rattle.mv_merge.specs.declared.rows.Domain.{Domain}
use Rattle.mv_merge.specs.Guards.{kinds, domain_values, all_values}
use Rattle.mv_variants.specs.Bound.Led.{HaveWords}
use Rattle.mv_variants.specs.Bound.Switches.{domains_in, HaveKinds, DomainsAreWords, FunctionsAreLed}
use Rattle.mv_variants.proofs.OfBound.Led.{combinations_led}

module _ (p : Program) (kind : ℕ → Kind) where
  abbrev domain : ℕ → Domain
  domain s = record { kind = kind s; values = switch_domain p s }

  values_are : (switches : List ℕ) → domain_values (map domain switches) ≡ map (switch_domain p) switches
  values_are [] = refl
  values_are (s ∷ switches) = ap (λ l. switch_domain p s ∷ l) (values_are switches)

  kinds_are : (image : Fields) (switches : List ℕ) → HaveKinds image kind switches → map (kind_of image) switches ≡ kinds (map domain switches)
  kinds_are image [] h = refl
  kinds_are image (s ∷ switches) h =
      let here : kind_of image s ≡ kind_number (kind s) = ap kind_in h.0.1 ∙ ap kind_number h.0.2 in
      ap (λ n. n ∷ map (kind_of image) switches) here ∙ ap (λ l. kind_number (kind s) ∷ l) (kinds_are image switches h.1)

  words_are : (switches : List ℕ) → DomainsAreWords p switches → HaveWords (map domain switches)
  words_are [] h = tt
  words_are (s ∷ switches) h = (h.0, words_are switches h.1)

words_at : (vs : List ℕ) → All (λ v. v < 2 ^ 32) vs → AreWords vs
words_at [] h i = omega arith
words_at (v ∷ vs) h zero = All-head (λ v. v < 2 ^ 32) v vs h
words_at (v ∷ vs) h (suc i) = words_at vs (All-tail (λ v. v < 2 ^ 32) v vs h) i

pub functions_led : FunctionsAreLed
functions_led p g kind image tables has words rows variants all merged shorts known made n row at there switches =
    let domains = domains_in p kind g in
    let same = values_are p kind g.switches in
    let kinds_same : kinds_of image row ≡ kinds (domains_in p kind g) = ap (map (kind_of image)) switches.named ∙ kinds_are p kind image g.switches switches.kinds in
    let led = combinations_led image tables has (domains_in p kind g) rows variants (words_are p kind g.switches words)
    (subst (λ ds. AreAllCombinations ds (all_values rows)) (sym same) all) merged n row at there kinds_same shorts (lower_function p g) made in
    record {
      shorts = shorts;
      known = known;
      combinations = λ vs c. led.combinations vs (subst (λ ds. IsCombination ds vs) (sym same) c);
      others = λ vs long are_words no.
          led.others vs (record { each = long ∙ sym (length-map g.switches (domain p kind)); words = words_at vs are_words }) (λ c. no (subst (λ ds. IsCombination ds vs) same c));
    }
