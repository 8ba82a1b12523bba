-- The functions of a unit have names, and the switches of one that is attributed are the program's, in order.
use Rattle.std.proofs.Common.{◌≡◌, ℕ, zero, suc, ◌+◌, ◌*◌, ◌<◌, ◌≤◌, arith, refl, sym, ap, subst, Bool, true, false, cond, if◌then◌else◌, List, [], ◌∷◌, length, map, slice_index, Option, Some, None}
use Rattle.std.specs.Prelude.{filter}
use Rattle.std.specs.List.{AllByRecursion}
use Rattle.std.specs.List.Sorted.{IsStrictlyIncreasing}
use Rattle.std.proofs.Math.Nat.{mul-pos}
use Rattle.mv_ast.specs.declared.program.Function.{Function}
use Rattle.mv_ast.specs.declared.program.Switch.{Switch}
use Rattle.mv_ast.specs.Counts.{product_of}
use Rattle.mv_types.specs.Contents.{present}
use Rattle.mv_types.specs.Units.{with_switches}
use Rattle.mv_check_uses.specs.Uses.{numbers_from, switches_named}
use Rattle.mv_accepts_programs.proofs.Lists.{named_below}
use Rattle.mv_source_facts.specs.Facts.{IsName}
use Rattle.mv_accepts.proofs.OfStatements.Lists.{all_more}
use Rattle.mv_accepts_programs.proofs.OfFacts.Declarators.{IsNamedFunction}

-- ---- numbers that ascend

ascending_with : (x : ℕ) (xs : List ℕ) → AllByRecursion (λ y. x < y) xs → IsStrictlyIncreasing xs → IsStrictlyIncreasing (x ∷ xs)
ascending_with x [] h a k l = absurd (none k l)
  where
    none : (k : ℕ) → k + 1 < 1 → ⊥
    none k l = omega (arith, l)
ascending_with x (y ∷ ys) h a zero l = h.0
ascending_with x (y ∷ ys) h a (suc k) l =
    let e : suc k + 1 ≡ suc (k + 1) = omega arith in
    subst (λ n. slice_index (x ∷ y ∷ ys) (suc k) < slice_index (x ∷ y ∷ ys) n) (sym e) (a k (omega (arith, l)))

module _ (named : ℕ → Bool) where
  numbers_least : (n : ℕ) (ss : List Switch) → AllByRecursion (λ m. n ≤ m) (numbers_from named n ss)
  numbers_least n [] = tt
  numbers_least n (s ∷ ss) =
      by (named s.global)
      (all_more (λ m. suc n ≤ m) (λ m. n ≤ m) (λ m h. omega (arith, h)) (numbers_from named (suc n) ss) (numbers_least (suc n) ss))
    where
      by : (b : Bool) → AllByRecursion (λ m. n ≤ m) (numbers_from named (suc n) ss) →
          AllByRecursion (λ m. n ≤ m) (cond b (n ∷ numbers_from named (suc n) ss) (numbers_from named (suc n) ss))
      by true rest = (omega arith, rest)
      by false rest = rest

  numbers_ascend : (n : ℕ) (ss : List Switch) → IsStrictlyIncreasing (numbers_from named n ss)
  numbers_ascend n [] = λ k l. absurd (omega (arith, l))
  numbers_ascend n (s ∷ ss) = by (named s.global) (numbers_ascend (suc n) ss)
    where
      by : (b : Bool) → IsStrictlyIncreasing (numbers_from named (suc n) ss) →
          IsStrictlyIncreasing (cond b (n ∷ numbers_from named (suc n) ss) (numbers_from named (suc n) ss))
      by true rest =
          ascending_with n (numbers_from named (suc n) ss)
          (all_more (λ m. suc n ≤ m) (λ m. n < m) (λ m h. omega (arith, h)) (numbers_from named (suc n) ss) (numbers_least (suc n) ss)) rest
      by false rest = rest

named_ascend : (ss : List Switch) (f : Function) → IsStrictlyIncreasing (switches_named ss f.body)
unfolding switches_named
named_ascend ss f = numbers_ascend _ 0 ss

-- ---- functions

-- a name, and switches that are there and ascend
pub record IsOwner (ss : List Switch) (f : Function) : Type 0 where
  pub attributed : f.attributed ≡ true
  pub named : IsName f.name
  pub below : AllByRecursion (λ s. s < length ss) f.switches
  pub ascend : IsStrictlyIncreasing f.switches

owner : (ss : List Switch) (f : Function) → IsName f.name → (with_switches ss f).attributed ≡ true → IsOwner ss (with_switches ss f)
owner ss f n a =
    let e : switches_named ss f.body ≡ (with_switches ss f).switches = sym (ap (λ b. if b then switches_named ss f.body else []) a) in
    record {
      attributed = a;
      named = n;
      below = subst (AllByRecursion (λ s. s < length ss)) e (named_below ss f);
      ascend = subst IsStrictlyIncreasing e (named_ascend ss f);
    }

pub present_named : (fs : List (Option Function)) → AllByRecursion IsNamedFunction fs → AllByRecursion (λ f. IsName f.name) (present fs)
present_named [] h = tt
present_named (None ∷ fs) h = present_named fs h.1
present_named (Some f ∷ fs) h = (h.0, present_named fs h.1)

filtered : (ss : List Switch) (fs : List Function) → AllByRecursion (λ f. IsName f.name) fs →
    AllByRecursion (IsOwner ss) (filter (λ f. f.attributed) (map (with_switches ss) fs))
filtered ss [] h = tt
filtered ss (f ∷ fs) h = by f.attributed refl (filtered ss fs h.1)
  where
    by : (b : Bool) → f.attributed ≡ b → AllByRecursion (IsOwner ss) (filter (λ f. f.attributed) (map (with_switches ss) fs)) →
        AllByRecursion (IsOwner ss) (cond b (with_switches ss f ∷ filter (λ f. f.attributed) (map (with_switches ss) fs)) (filter (λ f. f.attributed) (map (with_switches ss) fs)))
    by true q rest = (owner ss f h.0 q, rest)
    by false q rest = rest

pub owners : (ss : List Switch) (fs : List (Option Function)) → AllByRecursion IsNamedFunction fs →
    AllByRecursion (IsOwner ss) (filter (λ f. f.attributed) (map (with_switches ss) (present fs)))
owners ss fs h = filtered ss (present fs) (present_named fs h)

-- ---- products

times_some : (m n : ℕ) → 1 ≤ m → 1 ≤ n → 1 ≤ m * n
times_some m n h k =
    let p : 0 < m * n = mul-pos (omega (arith, h)) (omega (arith, k)) in
    omega (arith, p)

pub product_some : (ns : List ℕ) → AllByRecursion (λ n. 1 ≤ n) ns → 1 ≤ product_of ns
product_some [] h = omega arith
product_some (n ∷ ns) h = times_some n (product_of ns) h.0 (product_some ns h.1)
