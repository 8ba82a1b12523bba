-- The sites of a program are within what a plan can patch.
use Rattle.std.proofs.Common.{arith, ◌≡◌, ℕ, suc, ◌+◌, ◌*◌, ◌≤◌, Bool, true, false, cond, List, [], ◌∷◌, map, ◌∙◌, ap, refl}
use Rattle.std.specs.Prelude.{sum}
use Rattle.std.specs.List.{filter}
use Rattle.std.proofs.Math.Nat.{mul_comm, suc-mul}
use Rattle.mv_ast.specs.declared.program.Program.{Program}
use Rattle.mv_ast.specs.declared.program.Function.{Function}
use Rattle.mv_ast.specs.Counts as counts
use Rattle.mv_ast.specs.Switches.{attributed_functions}
use Rattle.mv_variants.specs.Bound.Slots.{AtMost, SlotsArePatchable}
use Rattle.mv_num.proofs.Lists.{sum_cons}

sum_most : (f : Function → ℕ) (gs : List Function) (ns : List ℕ) → AtMost f gs ns → sum ns ≤ sum (map f gs)
sum_most f [] [] h = omega arith
sum_most f [] (n ∷ ns) h = absurd h
sum_most f (g ∷ gs) [] h = absurd h
sum_most f (g ∷ gs) (n ∷ ns) h = let rest = sum_most f gs ns h.1 in omega (arith, h.0, rest, sum_cons n ns, sum_cons (f g) (map f gs))

sum_filter : (f : Function → ℕ) (gs : List Function) → sum (map f (filter (λ g. g.attributed) gs)) ≤ sum (map f gs)
sum_filter f [] = omega arith
sum_filter f (g ∷ gs) = by g.attributed (sum_filter f gs)
  where
    by : (b : Bool) → sum (map f (filter (λ g. g.attributed) gs)) ≤ sum (map f gs) → sum (map f (cond b (g ∷ filter (λ g. g.attributed) gs) (filter (λ g. g.attributed) gs))) ≤ sum (map f (g ∷ gs))
    by true h = let l = sum_cons (f g) (map f (filter (λ g. g.attributed) gs)) in let r = sum_cons (f g) (map f gs) in omega (arith, h, l, r)
    by false h = let r = sum_cons (f g) (map f gs) in omega (arith, h, r)

one_more : (n k : ℕ) → n * (1 + k) ≡ n + n * k
one_more n k =
    let one : 1 + k ≡ suc k = omega arith in
    let all : n * (1 + k) ≡ k * n + n = ap (λ x. n * x) one ∙ mul_comm n (suc k) ∙ suc-mul k n in
    let turned : k * n ≡ n * k = mul_comm k n in
    omega (arith, all, turned)

sum_both : (c a : Function → ℕ) (gs : List Function) → sum (map c gs) + sum (map (λ g. c g * a g) gs) ≡ sum (map (λ g. c g * (1 + a g)) gs)
sum_both c a [] = refl
sum_both c a (g ∷ gs) =
    let rest = sum_both c a gs in
    omega (arith, rest, one_more (c g) (a g), sum_cons (c g) (map c gs), sum_cons (c g * a g) (map (λ g. c g * a g) gs), sum_cons (c g * (1 + a g)) (map (λ g. c g * (1 + a g)) gs))

-- all sites are no more than the call sites, once and once more for each assignment
pub slots_called : (p : Program) (own variants : List ℕ) → AtMost (counts.call_sites p) p.functions own →
    AtMost (λ g. counts.call_sites p g * counts.assignments p g) (attributed_functions p) variants →
    sum own + sum variants ≤ sum (map (λ g. counts.call_sites p g * (1 + counts.assignments p g)) p.functions)
slots_called p own variants h k =
    let first = sum_most (counts.call_sites p) p.functions own h in
    let second = sum_most (λ g. counts.call_sites p g * counts.assignments p g) (attributed_functions p) variants k in
    let fewer = sum_filter (λ g. counts.call_sites p g * counts.assignments p g) p.functions in
    omega (arith, first, second, fewer, sum_both (counts.call_sites p) (counts.assignments p) p.functions)

pub slots_patchable : SlotsArePatchable
slots_patchable p own variants h k = let called = slots_called p own variants h k in omega (arith, called)
