-- The numbers of a program's attributed functions.
use Rattle.std.proofs.Common.{◌≡◌, ℕ, zero, suc, ◌+◌, ◌<◌, ◌≤◌, Bool, true, false, cond, List, [], ◌∷◌, Some, length, filter, slice_get, slice_index, refl, sym, ap, ◌∙◌, subst, arith}
use Rattle.std.specs.List.Sorted.{IsStrictlyIncreasing}
use Rattle.mv_ast.specs.declared.program.Program.{Program}
use Rattle.mv_ast.specs.declared.program.Function.{Function}
use Rattle.mv_ast.specs.Counts.{is_attributed}
use Rattle.mv_variants.proofs.Functions.{attributed_there}
use Rattle.mv_parts.specs.Numbers.{attributed_from, attributed_numbers}
use Rattle.std.proofs.lemmas.Option.{same_Some}

abbrev chosen : List Function → List Function
chosen gs = filter (λ (g : Function). g.attributed) gs

-- each attributed function has a number among them
pub number_among : (k : ℕ) (gs : List Function) (i : ℕ) (g : Function) → slice_get gs i ≡ Some g → g.attributed ≡ true → (n : ℕ) × (slice_get (attributed_from k gs) n ≡ Some (k + i))
number_among k [] i g e a = absurd (let bad : ⊥ = cc in bad)
number_among k (x ∷ gs) zero g e a =
    let same = same_Some x g e in
    let here : x.attributed ≡ true = ap (λ (h : Function). h.attributed) same ∙ a in
    let number : k ≡ k + 0 = omega arith in
    (0, ap (λ (t : Bool). slice_get (cond t (k ∷ attributed_from (suc k) gs) (attributed_from (suc k) gs)) 0) here ∙ ap (λ (m : ℕ). Some m) number)
number_among k (x ∷ gs) (suc i) g e a = by (number_among (suc k) gs i g e a) x.attributed refl
  where
    rest : List ℕ
    rest = attributed_from (suc k) gs

    Found : Type 0
    Found = (n : ℕ) × (slice_get rest n ≡ Some (suc k + i))

    all : (b : Bool) → x.attributed ≡ b → (n : ℕ) → slice_get (attributed_from k (x ∷ gs)) n ≡ slice_get (cond b (k ∷ rest) rest) n
    all b q n = ap (λ (t : Bool). slice_get (cond t (k ∷ rest) rest) n) q

    number : Some (suc k + i) ≡ Some (k + suc i)
    number = let e : suc k + i ≡ k + suc i = omega arith in ap (λ (m : ℕ). Some m) e

    by : Found → (b : Bool) → x.attributed ≡ b → (n : ℕ) × (slice_get (attributed_from k (x ∷ gs)) n ≡ Some (k + suc i))
    by (n, is) true q = (suc n, all true q (suc n) ∙ is ∙ number)
    by (n, is) false q = (n, all false q n ∙ is ∙ number)

pub number_of : (p : Program) (f : ℕ) → is_attributed (slice_get p.functions f) ≡ true → (n : ℕ) × (slice_get (attributed_numbers p) n ≡ Some f)
number_of p f a =
    let h = attributed_there p f a in
    let (n, is) = number_among 0 p.functions f h.function h.there h.attributed in
    let same : 0 + f ≡ f = omega arith in (n, is ∙ ap (λ (m : ℕ). Some m) same)

-- there are as many numbers as attributed functions
pub as_many : (k : ℕ) (gs : List Function) → length (attributed_from k gs) ≡ length (chosen gs)
as_many k [] = refl
as_many k (g ∷ gs) = by g.attributed (as_many (suc k) gs)
  where
    by : (b : Bool) → length (attributed_from (suc k) gs) ≡ length (chosen gs) →
        length (cond b (k ∷ attributed_from (suc k) gs) (attributed_from (suc k) gs)) ≡ length (cond b (g ∷ chosen gs) (chosen gs))
    by true e = ap suc e
    by false e = e

-- ---- their order

least : (k : ℕ) (gs : List Function) (i : ℕ) → i < length (attributed_from k gs) → k ≤ slice_index (attributed_from k gs) i
least k [] i below = absurd (omega (arith, below))
least k (g ∷ gs) i below = by (least (suc k) gs) g.attributed i below
  where
    rest : List ℕ
    rest = attributed_from (suc k) gs

    by : ((i : ℕ) → i < length rest → suc k ≤ slice_index rest i) → (b : Bool) (i : ℕ) → i < length (cond b (k ∷ rest) rest) → k ≤ slice_index (cond b (k ∷ rest) rest) i
    by more true zero below = let same : k ≤ k = omega arith in same
    by more true (suc i) below = let above = more i (omega (arith, below)) in let all : k ≤ slice_index rest i = omega (arith, above) in all
    by more false i below = let above = more i below in let all : k ≤ slice_index rest i = omega (arith, above) in all

pub ascending : (k : ℕ) (gs : List Function) → IsStrictlyIncreasing (attributed_from k gs)
ascending k [] i below = absurd (omega (arith, below))
ascending k (g ∷ gs) i below = by (ascending (suc k) gs) g.attributed i below
  where
    rest : List ℕ
    rest = attributed_from (suc k) gs

    above : (i : ℕ) → i + 1 < length (k ∷ rest) → IsStrictlyIncreasing rest → slice_index (k ∷ rest) i < slice_index (k ∷ rest) (i + 1)
    above zero below rising = let first = least (suc k) gs 0 (omega (arith, below)) in first
    above (suc i) below rising =
        let next : suc i + 1 ≡ suc (i + 1) = omega arith in
        subst (λ m. slice_index (k ∷ rest) (suc i) < slice_index (k ∷ rest) m) (sym next) (rising i (omega (arith, below)))

    by : IsStrictlyIncreasing rest → (b : Bool) (i : ℕ) → i + 1 < length (cond b (k ∷ rest) rest) → slice_index (cond b (k ∷ rest) rest) i < slice_index (cond b (k ∷ rest) rest) (i + 1)
    by rising true i below = above i below rising
    by rising false i below = rising i below
