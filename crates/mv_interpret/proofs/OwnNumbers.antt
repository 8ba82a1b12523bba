-- The program's own numbering: a function has one more than its index.
use Rattle.std.proofs.Common.{◌≡◌, ℕ, zero, suc, ◌+◌, ◌-◌, ◌<◌, ◌≤◌, List, [], ◌∷◌, length, get_or, refl, ◌∙◌, ap, arith, Some, None}
use Rattle.mv_ast.specs.declared.program.Program.{Program}
use Rattle.mv_ast.specs.declared.program.Function.{Function}
use Rattle.mv_ast.specs.Numbering.{numbers_from, own_numbers, place_from, function_of_number}
use Rattle.mv_ast.proofs.Common.{first_has, first_has_not, place_at}
use Rattle.std.proofs.lemmas.Option.{slice_get_within, get_or_from_slice_get}

number_at : (n : ℕ) (fs : List Function) (i : ℕ) → i < length fs → get_or (numbers_from n fs) i 0 ≡ n + i
number_at n [] i lt = absurd (omega arith)
number_at n (f ∷ fs) zero lt = omega arith
number_at n (f ∷ fs) (suc i) lt = number_at (suc n) fs i (omega arith) ∙ omega arith

number_behind : (n : ℕ) (fs : List Function) (i : ℕ) → length fs ≤ i → get_or (numbers_from n fs) i 0 ≡ 0
number_behind n [] i le = refl
number_behind n (f ∷ fs) zero le = absurd (omega arith)
number_behind n (f ∷ fs) (suc i) le = number_behind (suc n) fs i (omega arith)

pub own_number : (p : Program) (f : ℕ) → f < length p.functions → get_or (own_numbers p) f 0 ≡ f + 1
own_number p f lt = number_at 1 p.functions f lt ∙ omega arith

pub no_number : (p : Program) (f : ℕ) → length p.functions ≤ f → get_or (own_numbers p) f 0 ≡ 0
no_number p f le = number_behind 1 p.functions f le

module _ (v : ℕ) where
  found_at : (fs : List Function) (i n k : ℕ) → k < length fs → v ≡ n + k → place_from i (numbers_from n fs) v ≡ Some (i + k)
  found_at [] i n k lt e = absurd (omega arith)
  found_at (f ∷ fs) i n zero lt e = first_has v i n (numbers_from (suc n) fs) (omega arith) ∙ ap Some (omega arith)
  found_at (f ∷ fs) i n (suc k) lt e =
      first_has_not v i n (numbers_from (suc n) fs) (λ h. absurd (omega arith)) ∙
      (found_at fs (suc i) (suc n) k (omega arith) (omega arith) ∙ ap Some (omega arith))

  none_below : (fs : List Function) (i n : ℕ) → v < n → place_from i (numbers_from n fs) v ≡ None
  none_below [] i n lt = refl
  none_below (f ∷ fs) i n lt =
      first_has_not v i n (numbers_from (suc n) fs) (λ h. absurd (omega arith)) ∙ none_below fs (suc i) (suc n) (omega arith)

  none_above : (fs : List Function) (i n : ℕ) → n + length fs ≤ v → place_from i (numbers_from n fs) v ≡ None
  none_above [] i n le = refl
  none_above (f ∷ fs) i n le =
      first_has_not v i n (numbers_from (suc n) fs) (λ h. absurd (omega arith)) ∙ none_above fs (suc i) (suc n) (omega arith)

pub function_found : (p : Program) (v : ℕ) → 0 < v → v ≤ length p.functions → function_of_number (own_numbers p) v ≡ Some (v - 1)
function_found p v gt le = found_at v p.functions 0 1 (v - 1) (omega arith) (omega arith) ∙ ap Some (omega arith)

pub function_of_null : (p : Program) (v : ℕ) → v ≡ 0 → function_of_number (own_numbers p) v ≡ None
function_of_null p v e = none_below v p.functions 0 1 (omega arith)

pub function_missing : (p : Program) (v : ℕ) → length p.functions < v → function_of_number (own_numbers p) v ≡ None
function_missing p v lt = none_above v p.functions 0 1 (omega arith)

-- a number that a function has is one more than its index
pub own_found : (p : Program) (v f : ℕ) → function_of_number (own_numbers p) v ≡ Some f → v ≡ suc f
own_found p v f e =
    let k = place_at 0 (own_numbers p) v f e in
    let within = slice_get_within (own_numbers p) k.0 v k.2 in
    let below : k.0 < length p.functions = by_length 1 p.functions k.0 within in
    let at = own_number p k.0 below in
    let there = get_or_from_slice_get (own_numbers p) k.0 v 0 k.2 in
    let is = k.1 in
    omega (arith, at, there, is)
  where
    by_length : (n : ℕ) (fs : List Function) (i : ℕ) → i < length (numbers_from n fs) → i < length fs
    by_length n [] i lt = lt
    by_length n (g ∷ fs) zero lt = omega arith
    by_length n (g ∷ fs) (suc i) lt = let rest = by_length (suc n) fs i (omega (arith, lt)) in omega (arith, rest)
