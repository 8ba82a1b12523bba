-- What a variant reads are no switches of its function.
use Rattle.std.proofs.Common.{arith, ◌≡◌, ℕ, Bool, true, false, cond, eqb, ◌||◌, List, [], ◌∷◌, length, Some, None, refl, sym, ◌∙◌, Contains, nat_eq}
use Rattle.std.specs.List.{zip}
use Rattle.std.proofs.lemmas.Bool.{eq-eqb, eqb-true}
use Rattle.std.proofs.lemmas.List.{length-map}
use Rattle.std.proofs.lemmas.List.Elements.{All-contains, All-contains_itself, All-weaker}
use Rattle.mv_num.specs.Lists.{is_among}
use Rattle.mv_ast.specs.Switches.{switch_global}
use Rattle.mv_ir.specs.Measures.{scalars_read, arrays_read}
use Rattle.mv_ir.specs.Trees.{found}
use Rattle.mv_lower_spec.specs.Functions.{lower_function}
use Rattle.mv_variants.specs.Bound.Reads.{VariantsReadNoSwitch}
use Rattle.mv_variants.proofs.OfBound.Meant.{reads_array, made}

-- what has no value is none of the switches
not_among : (ss vs : List ℕ) (k : ℕ) → length vs ≡ length ss → found (zip ss vs) k ≡ None → is_among k ss ≡ false
not_among [] vs k e h = refl
not_among (s ∷ ss) [] k e h = absurd (omega (arith, e))
not_among (s ∷ ss) (v ∷ vs) k e h = by (eqb s k) (nat_eq k s) refl refl (λ f. not_among ss vs k (omega (arith, e)) f) h
  where
    by : (a b : Bool) → eqb s k ≡ a → nat_eq k s ≡ b → (found (zip ss vs) k ≡ None → is_among k ss ≡ false) → cond a (Some v) (found (zip ss vs) k) ≡ None → (b || is_among k ss) ≡ false
    by true b ea eb rest f = let none : Some v ≡ None = f in absurd (cc)
    by false true ea eb rest f = let one : false ≡ true = sym ea ∙ eq-eqb s k (sym (eqb-true k s eb)) in absurd (cc)
    by false false ea eb rest f = rest f

pub read_no_switch : VariantsReadNoSwitch
read_no_switch p g reads vs many shorts result m =
    let body = lower_function p g in
    let variant = made shorts (zip body.switches vs) body result m in
    let as_many : length vs ≡ length body.switches = many ∙ sym (length-map g.switches (switch_global p)) in
    record {
      scalars = All-weaker (λ k. found (zip body.switches vs) k ≡ None) (λ k. is_among k body.switches ≡ false) (λ k. not_among body.switches vs k as_many) (scalars_read result.code) variant.free;
      arrays = All-weaker (Contains (arrays_read result.code)) (λ k. is_among k body.switches ≡ false)
          (λ k c. All-contains (λ i. is_among i body.switches ≡ false) (arrays_read body.code) k reads.switches
          (reads_array shorts (zip body.switches vs) body result m k c)) (arrays_read result.code) (All-contains_itself (arrays_read result.code));
    }
