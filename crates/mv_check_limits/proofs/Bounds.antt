-- What no count above a bound says of each count.
use Rattle.std.proofs.Common.{◌≡◌, ℕ, zero, suc, ◌+◌, ◌*◌, ◌^◌, ◌<◌, ◌≤◌, Bool, true, false, refl, List, [], ◌∷◌, map, length, get_or, nat_lt, Option, Some, None, if◌then◌else◌, slice_get, add-one, arith}
use Rattle.std.proofs.lemmas.Bool.{ltb-false}
use Rattle.std.proofs.Math.Nat.{pow-le-pow_right, pow-suc, mul-le-mul}
use Rattle.mv_ast.specs.declared.program.Switch.{Switch}
use Rattle.mv_ast.specs.Switches.{values_or_none}
use Rattle.mv_check_limits.specs.Limits.{first_above}

-- the first count, and those behind it
pub first_at_most : (n c : ℕ) (rest : Option ℕ) → (if nat_lt n c then Some c else rest) ≡ None → (c ≤ n) × (rest ≡ None)
first_at_most n c rest h = by (nat_lt n c) refl h
  where
    by : (b : Bool) → nat_lt n c ≡ b → (if b then Some c else rest) ≡ None → (c ≤ n) × (rest ≡ None)
    by true e g = cc
    by false e g = (ltb-false n c e, g)

pub domain_at_most : (n : ℕ) (ss : List Switch) → first_above n (map (λ s. length s.values) ss) ≡ None → (i : ℕ) →
    length (values_or_none (slice_get ss i)) ≤ n
domain_at_most n [] h i = omega arith
domain_at_most n (s ∷ ss) h zero = (first_at_most n (length s.values) _ h).0
domain_at_most n (s ∷ ss) h (suc i) = domain_at_most n ss ((first_at_most n (length s.values) _ h).1) i

pub each_at_most : {X : Type 0} (count : X → ℕ) (n : ℕ) (xs : List X) → first_above n (map count xs) ≡ None →
    (i : ℕ) (x : X) → i < length xs → x ≡ get_or xs i x → count x ≤ n
each_at_most count n [] h i x lt is = omega arith
each_at_most count n (y ∷ ys) h zero x lt is = rw is ((first_at_most n (count y) _ h).0)
each_at_most count n (y ∷ ys) h (suc i) x lt is = each_at_most count n ys ((first_at_most n (count y) _ h).1) i x (omega arith) is

-- a product of at most six sizes
pub product_grows : (i p v : ℕ) → i < 6 → p ≤ 16 ^ i → v ≤ 16 → (p * v ≤ 16 ^ (i + 1)) × (p * v ≤ 16777216)
product_grows i p v few bound small =
    let grown : p * v ≤ 16 ^ i * 16 = mul-le-mul bound small in
    let least : 16 ^ i ≤ 1048576 = pow-le-pow_right {n = 16} (omega arith) {i = i} {j = 5} (omega arith) in
    (rw (add-one, pow-suc) grown, omega (arith, grown, least))
