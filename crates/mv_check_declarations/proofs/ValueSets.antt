-- What an ordered set of values has, where one is added.
use Rattle.std.proofs.Common.{◌≡◌, ◌∙◌, ℕ, refl, sym, ap, cond, Bool, true, false, ◌||◌, ◌++◌, List, [], ◌∷◌, nat_eq, arith}
use Rattle.std.specs.List.{list_any}
use Rattle.std.specs.Ordering.{is_eq, nat_cmp}
use Rattle.std.proofs.lemmas.Bool.Decides.{nat_tests}
use Rattle.mv_num.specs.Lists.{is_among}
use Rattle.mv_check_declarations.specs.ValueSets.{HasEach}

same_number : (m n : ℕ) → nat_eq m n ≡ is_eq (nat_cmp n m)
same_number m n = grind (arith, nat_tests)

one_more : (value : ℕ) (values : List ℕ) (v : ℕ) → is_among value (values ++ v ∷ []) ≡ cond (is_eq (nat_cmp v value)) true (is_among value values)
one_more value [] v = by (nat_eq value v) (is_eq (nat_cmp v value)) (same_number value v)
  where
    by : (b c : Bool) → b ≡ c → (b || false) ≡ cond c true false
    by true c e = ap (λ t. cond t true false) e
    by false c e = ap (λ t. cond t true false) e
one_more value (w ∷ ws) v =
    ap (λ b. nat_eq value w || b) (one_more value ws v) ∙ by (nat_eq value w) (is_eq (nat_cmp v value)) (is_among value ws)
  where
    by : (a b c : Bool) → (a || cond b true c) ≡ cond b true (a || c)
    by true true c = refl
    by true false c = refl
    by false true c = refl
    by false false c = refl

-- a new value goes last
pub pushed : (keys more values longer : List ℕ) (v : ℕ) → HasEach keys values → longer ≡ values ++ v ∷ [] →
    ((value : ℕ) → list_any (λ k. is_eq (nat_cmp value k)) more ≡ cond (is_eq (nat_cmp v value)) true (list_any (λ k. is_eq (nat_cmp value k)) keys)) →
    HasEach more longer
pushed keys more values longer v kept is put = λ value.
    put value ∙
    (ap (λ b. cond (is_eq (nat_cmp v value)) true b) (kept value) ∙ (sym (one_more value values v) ∙ ap (is_among value) (sym is)))
