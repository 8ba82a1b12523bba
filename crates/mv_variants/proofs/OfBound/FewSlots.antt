-- A variant has no more sites than its function has call sites.
use Rattle.std.proofs.Common.{arith, ◌≡◌, ℕ, suc, ◌+◌, ◌*◌, ◌<◌, ◌≤◌, length, get_or, ◌⊎◌, inl, inr, Bool, true, false, cond, eqb, ◌&&◌, ◌||◌, List, [], ◌∷◌, sym, ◌∙◌, subst, ap}
use Rattle.std.specs.Prelude.{slice_get, sum_by}
use Rattle.std.proofs.lemmas.Bool.{eqb-true}
use Rattle.mv_ast.specs.declared.program.Program.{Program}
use Rattle.mv_ast.specs.declared.program.Function.{Function}
use Rattle.mv_ast.specs.Counts.{is_attributed}
use Rattle.mv_ast.specs.Counts as counts
use Rattle.mv_ir.specs.declared.body.Body.{Body}
use Rattle.mv_ir.specs.Shorts.{Shorts}
use Rattle.mv_ir.specs.declared.stm.Callee.{Callee}
use Rattle.mv_ir.specs.declared.stm.Callee.TheVariants as callee
use Rattle.mv_ir.specs.declared.stm.Stm.{Stm}
use Rattle.mv_ir.specs.declared.stm.Stm.TheOpen.{Stm-F}
use Rattle.mv_ir.specs.declared.stm.Stm.TheOpen as stm
use Rattle.mv_ir.specs.declared.stm.Stm.TheFolds.{map-Stm}
use Rattle.mv_ir.proofs.Induction.{Each, StmChildren, stm_ind, stms_ind}
use Rattle.std.proofs.lemmas.List.Elements.{All-from_get_or}
use Rattle.std.proofs.lemmas.List.Sums.{sum_by-le}
use Rattle.std.proofs.lemmas.Option.{slice_get-get_or}
use Rattle.std.proofs.Math.Nat.{mul-le-mul_right, mul_comm, suc-mul}
use Rattle.mv_select.specs.Functions.Functions.{shape_of}
use Rattle.mv_select.specs.Calls.CallCode.{is_marked}
use Rattle.mv_select.specs.Functions.FunctionCode.{Shape, function_lines}
use Rattle.mv_lower_spec.specs.Shape.Law.{CallsAsOften}
use Rattle.mv_lower_spec.specs.Functions.{marked_from, lower_function}
use Rattle.mv_lower_spec.specs.Shape.Calls.{callee_weight, layer_weight, stm_weight, code_weight, attributed_once}
use Rattle.mv_merge.specs.declared.rows.Domain.{Domain}
use Rattle.mv_merge.specs.declared.rows.Bound.{Bound}
use Rattle.mv_merge.specs.declared.rows.Variants.{Variants}
use Rattle.mv_merge.specs.Guards.{IsMerged}
use Rattle.mv_variants.specs.Bound.Led.{AreMade}
use Rattle.mv_variants.specs.Bound.Slots.{sites, one_each, SlotsAreFew, OwnSlotsAreFew, GeneralSlotsAreFew, variant_slots, AllSlotsAreFew, VariantSlotsAreFew}
use Rattle.mv_variants.proofs.OfBound.Meant.{made}
use Rattle.mv_variants.proofs.OfBound.Led.{bodies_made}
use Rattle.mv_variants.proofs.OfBound.Groups.{groups_fit}
use Rattle.mv_source_forms.proofs.Sites.{sites_are}
use Rattle.mv_variants.proofs.OfBound.Weights.{w_roll, weights, weights_of_calls, throughs, throughs_of_calls}
use Rattle.mv_variants.proofs.OfBound.Variants.{CountsNoMore, worked_no_more, made_no_more}
use Rattle.mv_variants.proofs.OfBound.Generals.{kept, general_no_more}
use Rattle.mv_variants.proofs.OfBound.Slots.{slots_are_calls, points_are_calls}
use Rattle.mv_num.proofs.Booleans.{and_left}
use Rattle.mv_variants.proofs.OfBound.Fitting.{bool_cases}

-- ---- greater weights

module _ (d d' : ℕ → ℕ) (le : (f : ℕ) → d f ≤ d' f) where
  abbrev Less : Stm → Type 0
  Less s = stm_weight d 0 s ≤ stm_weight d' 0 s

  all : (code : List Stm) → Each Less code → code_weight d 0 code ≤ code_weight d' 0 code
  all [] h = omega arith
  all (s ∷ code) h = let rest = all code h.1 in omega (arith, h.0, rest)

  of_callee : (f : Callee) → callee_weight d 0 f ≤ callee_weight d' 0 f
  of_callee (callee.Direct f) = le f
  of_callee (callee.Through t) = omega arith
  of_callee (callee.Switched g) = omega arith
  of_callee callee.Expanded = omega arith

  layer : (x : Stm-F Stm) → StmChildren Less x → layer_weight d 0 (map-Stm Stm ℕ (stm_weight d 0) x) ≤ layer_weight d' 0 (map-Stm Stm ℕ (stm_weight d' 0) x)
  layer (stm.Set t v) h = omega arith
  layer (stm.SetGlobal g v) h = omega arith
  layer (stm.Divide t o a b) h = omega arith
  layer (stm.Check r i) h = omega arith
  layer (stm.Read t r i) h = omega arith
  layer (stm.Write r i v) h = omega arith
  layer (stm.Zero l) h = omega arith
  layer (stm.If t a b) h = omega (arith, all a h.0, all b h.1)
  layer (stm.Loop b) h = all b h
  layer (stm.Block b) h = all b h
  layer (stm.Break n) h = omega arith
  layer (stm.Back n) h = omega arith
  layer (stm.Call r f args) h = of_callee f
  layer (stm.Known r k args) h = omega arith
  layer (stm.Return v) h = omega arith

  more_weight : (code : List Stm) → code_weight d 0 code ≤ code_weight d' 0 code
  more_weight code = all code (stms_ind Less (stm_ind Less (λ x h. omega (arith, w_roll d 0 x, w_roll d' 0 x, layer x h))) code)

-- ---- marked functions are attributed

abbrev pub Among : ℕ → ℕ → List Function → Type 0
Among f k gs = (i : ℕ) × (f ≡ k + i) × (is_attributed (slice_get gs i) ≡ true)

later : (f k : ℕ) (g : Function) (gs : List Function) → Among f (suc k) gs → Among f k (g ∷ gs)
later f k g gs (i, e, a) = (suc i, omega (arith, e), a)

marked_among : (is_called : ℕ → Bool) (f k : ℕ) (gs : List Function) → is_marked (marked_from is_called k gs) f ≡ true → Among f k gs
marked_among is_called f k [] e = absurd cc
marked_among is_called f k (g ∷ gs) e = by (bool_cases (g.attributed && is_called k)) (marked_among is_called f (suc k) gs)
  where
    by : ((g.attributed && is_called k) ≡ true) ⊎ ((g.attributed && is_called k) ≡ false) → (is_marked (marked_from is_called (suc k) gs) f ≡ true → Among f (suc k) gs) → Among f k (g ∷ gs)
    by (inl t) rest =
        let e' : (eqb k f || is_marked (marked_from is_called (suc k) gs) f) ≡ true = subst (λ b. is_marked (cond b (k ∷ marked_from is_called (suc k) gs) (marked_from is_called (suc k) gs)) f ≡ true) t e in
        elim (bool_cases (eqb k f)) [
          | inl same ↦ (0, let here = eqb-true k f same in omega (arith, here), and_left g.attributed (is_called k) t)
          | inr other ↦ later f k g gs (rest (let e'' : (false || is_marked (marked_from is_called (suc k) gs) f) ≡ true = subst (λ b. (b || is_marked (marked_from is_called (suc k) gs) f) ≡ true) other e' in e''))
        ]
    by (inr t) rest = later f k g gs (rest (subst (λ b. is_marked (cond b (k ∷ marked_from is_called (suc k) gs) (marked_from is_called (suc k) gs)) f ≡ true) t e))

-- what is marked in a lowered body is attributed
pub marked_attributed : (p : Program) (g : Function) (f : ℕ) → is_marked (lower_function p g).marked f ≡ true → is_attributed (slice_get p.functions f) ≡ true
marked_attributed p g f e =
    let (i, at, is) = marked_among _ f 0 p.functions e in
    let same : i ≡ f = omega (arith, at) in subst (λ k. is_attributed (slice_get p.functions k) ≡ true) same is

marked_once : (p : Program) (g : Function) (f : ℕ) → one_each (is_marked (lower_function p g).marked) f ≤ attributed_once p f
marked_once p g f = by (bool_cases (is_marked (lower_function p g).marked f))
  where
    by : (is_marked (lower_function p g).marked f ≡ true) ⊎ (is_marked (lower_function p g).marked f ≡ false) → one_each (is_marked (lower_function p g).marked) f ≤ attributed_once p f
    by (inr e) = let none : one_each (is_marked (lower_function p g).marked) f ≡ 0 = ap (λ b. cond b 1 0) e in omega (arith, none)
    by (inl e) =
        let one : attributed_once p f ≡ 1 = ap (λ b. cond b 1 0) (marked_attributed p g f e) in
        let own : one_each (is_marked (lower_function p g).marked) f ≡ 1 = ap (λ b. cond b 1 0) e in
        omega (arith, one, own)

-- ---- sites

few : (p : Program) (g : Function) → CallsAsOften p g (lower_function p g) → (result : Body) → result.marked ≡ (lower_function p g).marked → CountsNoMore (lower_function p g) result →
    (place sizes : ℕ → ℕ) (shape : Shape) → sites (function_lines place sizes (is_marked result.marked) shape result.code) ≤ counts.call_sites p g
few p g often result same no_more place sizes shape =
    let slots = slots_are_calls place sizes (is_marked result.marked) shape result.code in
    let points = points_are_calls place sizes (is_marked result.marked) shape result.code (λ a. true) in
    let fewer = no_more _ _ (weights (one_each (is_marked result.marked)) 0) (weights_of_calls (one_each (is_marked result.marked)) 0) in
    let fewer_through = no_more _ _ (throughs (λ x. true)) (throughs_of_calls (λ x. true)) in
    let less : code_weight (one_each (is_marked result.marked)) 0 (lower_function p g).code ≤ code_weight (attributed_once p) 0 (lower_function p g).code =
    subst (λ l. code_weight (one_each (is_marked l)) 0 (lower_function p g).code ≤ code_weight (attributed_once p) 0 (lower_function p g).code) (sym same)
    (more_weight (one_each (is_marked (lower_function p g).marked)) (attributed_once p) (marked_once p g) (lower_function p g).code)
    in
    omega (arith, slots, points, fewer, fewer_through, less, often.attributed, often.pointers (λ x. true), sites_are p g)

pub few_slots : SlotsAreFew
few_slots p g often shorts ps result m =
    few p g often result (made shorts ps (lower_function p g) result m).marked (λ layer count of calls. made_no_more of calls shorts ps (lower_function p g) result m)

pub own_few_slots : OwnSlotsAreFew
own_few_slots p g often folded result is_folded is_renamed =
    few p g often result (ap (λ (b : Body). b.marked) is_renamed.changes ∙ is_folded.marked) (λ layer count of calls. worked_no_more of (lower_function p g) folded result is_folded is_renamed)

pub general_few_slots : GeneralSlotsAreFew
general_few_slots p g often shorts result general =
    few p g often result (kept shorts (lower_function p g) result general).marked (λ layer count of calls. general_no_more shorts (lower_function p g) result general of calls)

-- one and what is no more than some are no more than one and some
pub one_and_more : (n m k : ℕ) → m ≤ k → n + m * n ≤ n * (1 + k)
one_and_more n m k le =
    let less : m * n ≤ k * n = mul-le-mul_right n le in
    let one : 1 + k ≡ suc k = omega arith in
    let all : n * (1 + k) ≡ k * n + n = ap (λ x. n * x) one ∙ mul_comm n (suc k) ∙ suc-mul k n in
    omega (arith, less, all)

sum_few : (p : Program) (g : Function) → CallsAsOften p g (lower_function p g) → (domains : List Domain) (rows : List Bound) (variants : Variants) → IsMerged domains rows variants →
    (shorts : Shorts) → AreMade shorts (lower_function p g) rows → (place sizes : ℕ → ℕ) (any : Body) → sum_by (variant_slots place sizes) variants.bodies ≤ length variants.bodies * counts.call_sites p g
sum_few p g often domains rows variants merged shorts made_rows place sizes any =
    let each = λ (i : ℕ) (lt : i < length variants.bodies).
    let from = bodies_made domains rows variants merged shorts (lower_function p g) made_rows i (get_or variants.bodies i any) (slice_get-get_or variants.bodies i any lt) in
    few_slots p g often shorts _ (get_or variants.bodies i any) from.2 place sizes (shape_of true (get_or variants.bodies i any)) in
    sum_by-le (variant_slots place sizes) (counts.call_sites p g) variants.bodies (All-from_get_or (λ b. variant_slots place sizes b ≤ counts.call_sites p g) variants.bodies any each)

pub variant_few_slots : VariantSlotsAreFew
variant_few_slots p g often domains rows variants merged shorts made_rows place sizes =
    let all = sum_few p g often domains rows variants merged shorts made_rows place sizes (lower_function p g) in
    let more : length variants.bodies * counts.call_sites p g ≤ length rows * counts.call_sites p g = mul-le-mul_right (counts.call_sites p g) (groups_fit domains rows variants merged).bodies in
    let turned : length rows * counts.call_sites p g ≡ counts.call_sites p g * length rows = mul_comm (length rows) (counts.call_sites p g) in
    omega (arith, all, more, turned)

pub all_few_slots : AllSlotsAreFew
all_few_slots p g often folded own is_folded is_renamed domains rows variants merged shorts made_rows place sizes =
    let sum = sum_few p g often domains rows variants merged shorts made_rows place sizes own in
    let first : variant_slots place sizes own ≤ counts.call_sites p g = own_few_slots p g often folded own is_folded is_renamed place sizes (shape_of true own) in
    omega (arith, sum, first, one_and_more (counts.call_sites p g) (length variants.bodies) (length rows) (groups_fit domains rows variants merged).bodies)
