-- Searches through the combinations of some domains.
use Rattle.std.proofs.Common.{◌≡◌, ℕ, zero, suc, ◌<◌, Bool, true, false, List, [], ◌∷◌, map, length, refl, sym, ◌∙◌, ap, ap₂, subst, arith, nat_eq}
use Rattle.std.specs.Prelude.{◌&&◌, ◌||◌, slice_index_or}
use Rattle.std.proofs.lemmas.Bool.{and_parts, and_from, or_left, or_right, eqb-true, eq-eqb}
use Rattle.mv_ast.specs.declared.program.Program.{Program}
use Rattle.mv_bindings.specs.declared.binding.Binding.{Binding}
use Rattle.mv_ast.specs.Bindings.{some_value, some_combination}
use Rattle.mv_ast.specs.Switches.{switch_domain, all_in_domain}
use Rattle.mv_num.specs.Lists.{is_among}
use Rattle.mv_bindings.specs.Bindings.{same_words, same_truth, is_same_binding}
use Rattle.mv_ir.specs.Combinations.{In, IsCombination}
use Rattle.mv_bindings.proofs.Common.{truth_same, truth_told}

-- ---- what stands in a list

in_first : (v : ℕ) (vs : List ℕ) → In v (v ∷ vs)
in_first v vs = (0, omega arith, λ d. refl)

in_behind : (u v : ℕ) (vs : List ℕ) → In v vs → In v (u ∷ vs)
in_behind u v vs h = let lt : suc h.0 < suc (length vs) = omega (arith, h.1) in (suc h.0, lt, h.2)

among_in : (v : ℕ) (vs : List ℕ) → is_among v vs ≡ true → In v vs
among_in v [] h = absurd (cc)
among_in v (u ∷ vs) h = by (nat_eq v u) refl (among_in v vs)
  where
    by : (z : Bool) → nat_eq v u ≡ z → (is_among v vs ≡ true → In v vs) → In v (u ∷ vs)
    by true e behind = subst (λ x. In v (x ∷ vs)) (eqb-true v u e) (in_first v vs)
    by false e behind = in_behind u v vs (behind (sym (ap (λ z. z || is_among v vs) e) ∙ h))

some_told : (test : ℕ → Bool) (d : List ℕ) → some_value test d ≡ true → (v : ℕ) × In v d × (test v ≡ true)
some_told test [] h = absurd (cc)
some_told test (u ∷ d) h = by (test u) refl (some_told test d)
  where
    by : (z : Bool) → test u ≡ z → (some_value test d ≡ true → (v : ℕ) × In v d × (test v ≡ true)) → (v : ℕ) × In v (u ∷ d) × (test v ≡ true)
    by true e behind = (u, in_first u d, e)
    by false e behind = let k = behind (sym (ap (λ z. z || some_value test d) e) ∙ h) in (k.0, in_behind u k.0 d k.1, k.2)

some_there : (test : ℕ → Bool) (v : ℕ) → test v ≡ true → (d : List ℕ) (i : ℕ) → i < length d → ((o : ℕ) → slice_index_or d i o ≡ v) → some_value test d ≡ true
some_there test v e [] i lt at = absurd (omega (arith, lt))
some_there test v e (u ∷ d) zero lt at = or_left (test u) (some_value test d) (subst (λ x. test x ≡ true) (sym (at 0)) e)
some_there test v e (u ∷ d) (suc i) lt at =
    let below : suc i < suc (length d) = lt in
    or_right (test u) (some_value test d) (some_there test v e d i (omega (arith, below)) at)

-- ---- combinations

pub combination_told : (test : List ℕ → Bool) (ds : List (List ℕ)) → some_combination test ds ≡ true → (vs : List ℕ) × IsCombination ds vs × (test vs ≡ true)
combination_told test [] h = ([], tt, h)
combination_told test (d ∷ ds) h =
    let k = some_told (λ v. some_combination (λ vs. test (v ∷ vs)) ds) d h in
    let r = combination_told (λ vs. test (k.0 ∷ vs)) ds k.2 in
    (k.0 ∷ r.0, (k.1, r.1), r.2)

pub combination_there : (test : List ℕ → Bool) (ds : List (List ℕ)) (vs : List ℕ) → IsCombination ds vs → test vs ≡ true → some_combination test ds ≡ true
combination_there test [] [] c h = h
combination_there test [] (v ∷ vs) c h = absurd c
combination_there test (d ∷ ds) [] c h = absurd c
combination_there test (d ∷ ds) (v ∷ vs) c h =
    some_there (λ x. some_combination (λ xs. test (x ∷ xs)) ds) v (combination_there (λ xs. test (v ∷ xs)) ds vs c.1 h) d c.0.0 c.0.1 c.0.2

-- values, of which each is in its switch's domain
pub combination_in : (p : Program) (value : ℕ → ℕ) (ss : List ℕ) → all_in_domain p ss (map value ss) ≡ true → IsCombination (map (switch_domain p) ss) (map value ss)
combination_in p value [] h = tt
combination_in p value (s ∷ ss) h =
    let b = and_parts (is_among (value s) (switch_domain p s)) (all_in_domain p ss (map value ss)) h in
    (among_in (value s) (switch_domain p s) b.0, combination_in p value ss b.1)

-- and the other way round
in_among : (v : ℕ) (d : List ℕ) (i : ℕ) → i < length d → ((o : ℕ) → slice_index_or d i o ≡ v) → is_among v d ≡ true
in_among v [] i lt at = absurd (omega (arith, lt))
in_among v (u ∷ d) zero lt at = or_left (nat_eq v u) (is_among v d) (eq-eqb v u (sym (at 0)))
in_among v (u ∷ d) (suc i) lt at =
    let below : suc i < suc (length d) = lt in
    or_right (nat_eq v u) (is_among v d) (in_among v d i (omega (arith, below)) at)

pub in_combination : (p : Program) (value : ℕ → ℕ) (ss : List ℕ) → IsCombination (map (switch_domain p) ss) (map value ss) → all_in_domain p ss (map value ss) ≡ true
in_combination p value [] h = refl
in_combination p value (s ∷ ss) h =
    and_from (is_among (value s) (switch_domain p s)) (all_in_domain p ss (map value ss)) (in_among (value s) (switch_domain p s) h.0.0 h.0.1 h.0.2) (in_combination p value ss h.1)

-- ---- the same binding

pub words_told : (xs ys : List ℕ) → same_words xs ys ≡ true → xs ≡ ys
words_told [] [] h = refl
words_told [] (y ∷ ys) h = absurd (cc)
words_told (x ∷ xs) [] h = absurd (cc)
words_told (x ∷ xs) (y ∷ ys) h = let p = and_parts (nat_eq x y) (same_words xs ys) h in ap₂ (λ a as'. a ∷ as') (eqb-true x y p.0) (words_told xs ys p.1)

pub words_same : (xs : List ℕ) → same_words xs xs ≡ true
words_same [] = refl
words_same (x ∷ xs) = and_from (nat_eq x x) (same_words xs xs) (eq-eqb x x refl) (words_same xs)

pub binding_told : (a b : Binding) → is_same_binding a b ≡ true → a ≡ b
binding_told a b h =
    let p = and_parts (same_truth a.bound b.bound) (nat_eq a.count b.count && same_words a.values b.values) h in
    let q = and_parts (nat_eq a.count b.count) (same_words a.values b.values) p.1 in
    let bound = truth_told a.bound b.bound p.0 in
    let count = eqb-true a.count b.count q.0 in
    let values = words_told a.values b.values q.1 in
    ap₂ (λ (x : Bool) (y : ℕ). record a { bound = x; count = y }) bound count ∙ ap (λ (z : List ℕ). record b { values = z }) values

pub binding_same : (a b : Binding) → a ≡ b → is_same_binding a b ≡ true
binding_same a b e = subst (λ (x : Binding). is_same_binding a x ≡ true) e
    (and_from (same_truth a.bound a.bound) (nat_eq a.count a.count && same_words a.values a.values) (truth_same a.bound)
    (and_from (nat_eq a.count a.count) (same_words a.values a.values) (eq-eqb a.count a.count refl) (words_same a.values)))
