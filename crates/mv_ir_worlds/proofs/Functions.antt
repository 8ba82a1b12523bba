-- What a call of an attributed function finds it bound to.
use Rattle.std.proofs.Common.{◌≡◌, ◌⊎◌, inl, inr, ℕ, zero, suc, ◌+◌, ◌<◌, ◌≤◌, Bool, true, false, cond, List, [], ◌∷◌, ◌++◌, map, length, take, replicate, filter, Option, Some, None, refl, ◌∙◌, ap, subst, arith}
use Rattle.std.specs.Prelude.{slice_get}
use Rattle.std.specs.List.{zip}
use Rattle.std.proofs.lemmas.List.{length-map}
use Rattle.std.proofs.lemmas.Option.{slice_get_within}
use Rattle.std.proofs.lemmas.List.Sums.{sum_by-cons}
use Rattle.mv_ast.specs.declared.program.Function.{Function}
use Rattle.mv_bindings.specs.declared.binding.Binding.{Binding}
use Rattle.mv_num.proofs.Lists.{there_at}
use Rattle.mv_ast.specs.Switches.{attributed_functions, attributed_before, switch_domain}
use Rattle.mv_bindings.specs.Bindings.{bound_to}
use Rattle.mv_ir.specs.Combinations.{IsCombination}
use Rattle.mv_ir.specs.Levels.{read_under}
use Rattle.mv_ir_worlds.specs.Functions.{IsFreeIn, IsBoundIn}
use Rattle.mv_ir_worlds.specs.Fit.{MayBind}
use Rattle.mv_ir_worlds.specs.Laws.{FunctionsAreFreeOrBound, PointersAreFreeOrBound, FramesOfFree, FramesOfBound}

-- ---- its number among the attributed functions

skipped : (x : Function) (rest : List Function) (z : Bool) (n : ℕ) → slice_get (cond z (x ∷ rest) rest) (cond z 1 0 + n) ≡ slice_get rest n
skipped x rest true n = let e : 1 + n ≡ suc n = omega arith in ap (λ m. slice_get (x ∷ rest) m) e
skipped x rest false n = let e : 0 + n ≡ n = omega arith in ap (λ m. slice_get rest m) e

pub attributed_at : (fs : List Function) (f : ℕ) (g : Function) → slice_get fs f ≡ Some g → g.attributed ≡ true →
    slice_get (filter (λ (x : Function). x.attributed) fs) (attributed_before fs f) ≡ Some g
attributed_at [] f g e is = absurd (cc)
attributed_at (x ∷ fs) zero g e is =
    let rest = filter (λ (y : Function). y.attributed) fs in
    let same : x ≡ g = cc in
    let flag : x.attributed ≡ true = ap (λ (y : Function). y.attributed) same ∙ is in
    ap (λ z. slice_get (cond z (x ∷ rest) rest) 0) flag ∙ e
attributed_at (x ∷ fs) (suc f) g e is =
    let rest = filter (λ (y : Function). y.attributed) fs in
    ap (λ n. slice_get (cond x.attributed (x ∷ rest) rest) n) (sum_by-cons (λ (y : Function). cond y.attributed 1 0) x (take f fs)) ∙
    skipped x rest x.attributed (attributed_before fs f) ∙ attributed_at fs f g e is

-- ---- its binding

-- a combination has a value for each switch
pub combination_length : (ds : List (List ℕ)) (vs : List ℕ) → IsCombination ds vs → length vs ≡ length ds
combination_length [] [] h = refl
combination_length [] (v ∷ vs) h = absurd h
combination_length (d ∷ ds) [] h = absurd h
combination_length (d ∷ ds) (v ∷ vs) h = ap suc (combination_length ds vs h.1)

same_one : {A : Type 0} (o : Option A) (a b : A) → o ≡ Some a → o ≡ Some b → a ≡ b
same_one o a b e q = cc

pub free_or_bound : FunctionsAreFreeOrBound
free_or_bound p bs f g are here is = by there.0.bound refl
  where
    n : ℕ
    n = attributed_before p.functions f

    at : slice_get (attributed_functions p) n ≡ Some g
    at = attributed_at p.functions f g here is

    there : (b : Binding) × (slice_get bs n ≡ Some b)
    there =
        let within = slice_get_within (attributed_functions p) n g at in
        let count = are.count in
        there_at bs n (omega (arith, within, count))

    -- it is none of the pointer switches, whose numbers are behind
    of_function : (vs : List ℕ) → MayBind p n vs → IsCombination (map (switch_domain p) g.switches) vs
    of_function vs (inl k) =
        subst (λ (x : Function). IsCombination (map (switch_domain p) x.switches) vs) (same_one (slice_get (attributed_functions p) n) k.0 g k.1 at) k.2
    of_function vs (inr k) =
        let within = slice_get_within (attributed_functions p) n g at in
        let e = k.2 in
        absurd (omega (arith, within, e))

    by : (z : Bool) → there.0.bound ≡ z →
        IsFreeIn bs n ⊎ ((vs : List ℕ) × IsBoundIn bs n vs × IsCombination (map (switch_domain p) g.switches) vs × (length vs ≡ length g.switches))
    by false e = inl (λ b q. ap (λ (x : Binding). x.bound) (same_one (slice_get bs n) b there.0 q there.1) ∙ e)
    by true e =
        let k = are.bound n there.0 there.1 e in
        let combination : IsCombination (map (switch_domain p) g.switches) k.0 = of_function k.0 k.2 in
        inr (k.0, there.1 ∙ ap Some k.1, combination, combination_length (map (switch_domain p) g.switches) k.0 combination ∙ length-map g.switches (switch_domain p))

pub pointer_free_or_bound : PointersAreFreeOrBound
pointer_free_or_bound p bs q g are here = by there.0.bound refl
  where
    n : ℕ
    n = length (attributed_functions p) + q

    there : (b : Binding) × (slice_get bs n ≡ Some b)
    there =
        let within = slice_get_within p.pointers q g here in
        let count = are.count in
        there_at bs n (omega (arith, within, count))

    -- no attributed function has a number as high
    of_pointer : (vs : List ℕ) → MayBind p n vs → (f : ℕ) × (f < length p.functions) × (vs ≡ suc f ∷ [])
    of_pointer vs (inl k) =
        let within = slice_get_within (attributed_functions p) n k.0 k.1 in
        absurd (omega (arith, within))
    of_pointer vs (inr k) = k.4

    by : (z : Bool) → there.0.bound ≡ z → IsFreeIn bs n ⊎ ((f : ℕ) × IsBoundIn bs n (suc f ∷ []) × (f < length p.functions))
    by false e = inl (λ b r. ap (λ (x : Binding). x.bound) (same_one (slice_get bs n) b there.0 r there.1) ∙ e)
    by true e =
        let k = are.bound n there.0 there.1 e in
        let to = of_pointer k.0 k.2 in
        inr (to.0, there.1 ∙ ap Some (k.1 ∙ ap bound_to to.2), to.1)

-- ---- its frame

free_read : (switches : List ℕ) (o : Option Binding) → ((b : Binding) → o ≡ Some b → b.bound ≡ false) → read_under switches o ≡ []
free_read switches None h = refl
free_read switches (Some b) h = ap (λ z. cond z (zip switches b.values) []) (h b refl)

zip_taken : (n : ℕ) (xs vs rest : List ℕ) → length vs ≡ length xs → length vs ≤ n → zip xs (take n (vs ++ rest)) ≡ zip xs vs
zip_taken n [] [] rest count few = refl
zip_taken n [] (v ∷ vs) rest count few = absurd (omega (arith, count))
zip_taken n (x ∷ xs) [] rest count few = absurd (omega (arith, count))
zip_taken zero (x ∷ xs) (v ∷ vs) rest count few = absurd (omega (arith, few))
zip_taken (suc n) (x ∷ xs) (v ∷ vs) rest count few = ap (λ l. (x, v) ∷ l) (zip_taken n xs vs rest (omega (arith, count)) (omega (arith, few)))

pub frames_free : FramesOfFree
frames_free n switches depth live w h = ap (λ l. record { depth = depth + 1; live = live + 1; bound = l }) (free_read switches (slice_get w.bindings n) h)

pub frames_bound : FramesOfBound
frames_bound n switches vs depth live w h count few =
    ap (λ l. record { depth = depth + 1; live = live + 1; bound = l })
    (ap (λ o. read_under switches o) h ∙ zip_taken 6 switches vs (replicate 6 0) count few)
