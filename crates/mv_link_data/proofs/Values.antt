-- The data of values and of globals.
use Rattle.std.proofs.Common.{◌≡◌, ℕ, zero, suc, ◌-◌, ◌++◌, List, [], ◌∷◌, length, map, replicate, unwrap_or, All, refl, ap, sym, ◌∙◌, arith}
use Rattle.std.specs.List.{flat_map}
use Rattle.std.proofs.lemmas.List.{append_assoc, map-append}
use Rattle.std.proofs.lemmas.List.Elements.{All-nil, All-append, All-map, All-head, All-tail, All-replicate}
use Rattle.mv_ast.specs.declared.program.CType.{CType}
use Rattle.mv_ast.specs.declared.program.CType.TheVariants.{Void, Scalar, Pointer}
use Rattle.mv_ast.specs.declared.program.Global.{Global}
use Rattle.mv_ast.specs.Counts.{words_of_size}
use Rattle.mv_ast.specs.Starts.{first_words, first_words_under, renumbered_at}
use Rattle.mv_linker.specs.declared.parts.Datum.{Datum}
use Rattle.mv_linker.specs.declared.parts.Datum.TheVariants.{Number}
use Rattle.mv_linker.specs.Linked.{IsDatum}
use Rattle.mv_linker.specs.Outcome.{datum_word}
use Rattle.mv_link_data.specs.FirstData.{datum_of, global_data}
use Rattle.mv_link_data.specs.Laws.{IsFirstValueAmong, AreAddresses}

-- ---- zeros

zero_is : (t : CType) → datum_of t 0 ≡ Number 0
zero_is Void = refl
zero_is (Scalar kind) = refl
zero_is (Pointer signature) = refl

zeros_are : (t : CType) (n : ℕ) → map (datum_of t) (replicate n 0) ≡ replicate n (Number 0)
zeros_are t zero = refl
zeros_are t (suc n) = rw (zero_is t) (ap (λ xs. Number 0 ∷ xs) (zeros_are t n))

-- the given values, and the zeros behind them
data_are : (g : Global) (n : ℕ) → n ≡ words_of_size g.size →
    global_data g ≡ map (datum_of g.ctype) g.first ++ replicate (n - length g.first) (Number 0)
data_are g n is =
    let zeros = words_of_size g.size - length g.first in
    rw is (map-append (datum_of g.ctype) g.first (replicate zeros 0) ∙ ap (λ xs. map (datum_of g.ctype) g.first ++ xs) (zeros_are g.ctype zeros))

-- what a list is once the given values and then the zeros have been put behind it
pub pushed_are : (g : Global) (n : ℕ) (given : List ℕ) (old middle new : List Datum) → given ≡ g.first → n ≡ words_of_size g.size →
    middle ≡ old ++ map (datum_of g.ctype) given → new ≡ middle ++ replicate (n - length given) (Number 0) → new ≡ old ++ global_data g
pushed_are g n given old middle new given_is n_is middle_is new_is =
    let values = map (datum_of g.ctype) g.first in
    let zeros = replicate (n - length g.first) (Number 0) in
    new_is ∙
    ap (λ xs. middle ++ replicate (n - length xs) (Number 0)) given_is ∙
    ap (λ xs. xs ++ zeros) (middle_is ∙ ap (λ xs. old ++ map (datum_of g.ctype) xs) given_is) ∙
    append_assoc old values zeros ∙
    ap (λ xs. old ++ xs) (sym (data_are g n n_is))

-- ---- words

-- the first values of a global are of its type
abbrev HasFirst : (functions : ℕ) → Global → Type 0
HasFirst functions g = All (IsFirstValueAmong functions g.ctype) g.first

-- 0 is a first value of each type
zero_is_first : (functions : ℕ) (t : CType) → IsFirstValueAmong functions t 0
zero_is_first functions Void = tt
zero_is_first functions (Scalar kind) = tt
zero_is_first functions (Pointer signature) = omega arith

words_are_first : (functions : ℕ) (g : Global) → HasFirst functions g → All (IsFirstValueAmong functions g.ctype) (first_words g)
words_are_first functions g all =
    let zeros = words_of_size g.size - length g.first in
    All-append (IsFirstValueAmong functions g.ctype) g.first (replicate zeros 0) all
    (All-replicate (IsFirstValueAmong functions g.ctype) zeros 0 (zero_is_first functions g.ctype))

module _ (functions : ℕ) (address : ℕ → ℕ) (numbers : List ℕ) (are : AreAddresses functions address numbers) where
  value_is : (t : CType) (v : ℕ) → IsFirstValueAmong functions t v → datum_word address (datum_of t v) ≡ renumbered_at t numbers v
  value_is Void v h = refl
  value_is (Scalar kind) v h = refl
  value_is (Pointer signature) zero h = refl
  value_is (Pointer signature) (suc f) h = sym (ap (λ o. unwrap_or o (suc f)) (are f (omega (arith, h))))

  values_are : (t : CType) (vs : List ℕ) → All (IsFirstValueAmong functions t) vs → map (datum_word address) (map (datum_of t) vs) ≡ map (renumbered_at t numbers) vs
  values_are t [] all = refl
  values_are t (v ∷ vs) all =
      let head = value_is t v (All-head (IsFirstValueAmong functions t) v vs all) in
      let tail = values_are t vs (All-tail (IsFirstValueAmong functions t) v vs all) in
      cc (head, tail)

  pub words_are : (gs : List Global) → All (HasFirst functions) gs →
      map (datum_word address) (flat_map global_data gs) ≡ flat_map (λ words. words) (map (first_words_under numbers) gs)
  words_are [] all = refl
  words_are (g ∷ gs) all =
      let first = values_are g.ctype (first_words g) (words_are_first functions g (All-head (HasFirst functions) g gs all)) in
      let rest = words_are gs (All-tail (HasFirst functions) g gs all) in
      map-append (datum_word address) (global_data g) (flat_map global_data gs) ∙ cc (first, rest)

-- ---- functions

datum_is_there : (functions : ℕ) (t : CType) (v : ℕ) → IsFirstValueAmong functions t v → IsDatum functions (datum_of t v)
datum_is_there functions Void v h = tt
datum_is_there functions (Scalar kind) v h = tt
datum_is_there functions (Pointer signature) zero h = tt
datum_is_there functions (Pointer signature) (suc f) h = omega (arith, h)

values_are_there : (functions : ℕ) (t : CType) (vs : List ℕ) → All (IsFirstValueAmong functions t) vs → All (IsDatum functions) (map (datum_of t) vs)
values_are_there functions t vs all = All-map (IsDatum functions) (datum_of t) vs (λ k d l. datum_is_there functions t _ (all k d l))

pub functions_are_there : (functions : ℕ) (gs : List Global) → All (HasFirst functions) gs →
    All (IsDatum functions) (flat_map global_data gs)
functions_are_there functions [] all = All-nil (IsDatum functions)
functions_are_there functions (g ∷ gs) all =
    All-append (IsDatum functions) (global_data g) (flat_map global_data gs)
    (values_are_there functions g.ctype (first_words g) (words_are_first functions g (All-head (HasFirst functions) g gs all)))
    (functions_are_there functions gs (All-tail (HasFirst functions) g gs all))
