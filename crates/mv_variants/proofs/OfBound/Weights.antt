-- Calls, each with a weight, are a measure of statements, and so are the calls through pointer switches that a test picks.
use Rattle.std.proofs.Common.{arith, ◌≡◌, ℕ, Bool, ap, refl}
use Rattle.mv_ir.specs.declared.stm.Callee.{Callee}
use Rattle.mv_ir.specs.declared.stm.Callee.TheVariants as callee
use Rattle.mv_ir.specs.declared.stm.Stm.{Stm}
use Rattle.mv_ir.specs.declared.stm.Stm.TheOpen.{Stm-F}
use Rattle.mv_ir.specs.declared.stm.Stm.TheOpen as stm
use Rattle.mv_ir.specs.declared.stm.Stm.TheViews.{roll-Stm}
use Rattle.mv_ir.specs.declared.stm.Stm.TheFolds.{map-Stm, fold-roll-Stm}
use Rattle.mv_ir.specs.Measures.{layer_calls}
use Rattle.mv_lower_spec.specs.Shape.Calls.{callee_weight, layer_weight, stm_weight, callee_through, layer_through, stm_through}
use Rattle.mv_variants.proofs.OfBound.Measures.{SameGoal, Measure}
use Rattle.mv_variants.proofs.OfBound.TidiedMeasures.{CountsCalls}

module _ (direct : ℕ → ℕ) (through : ℕ) where
  pub w_roll : (x : Stm-F Stm) → stm_weight direct through (roll-Stm x) ≡ layer_weight direct through (map-Stm Stm ℕ (stm_weight direct through) x)
  unfolding stm_weight
  w_roll x = fold-roll-Stm ℕ (layer_weight direct through) x

  same_weight : (f g : Callee) → SameGoal f g → callee_weight direct through f ≡ callee_weight direct through g
  same_weight (callee.Direct f) (callee.Direct g) e = ap direct e
  same_weight (callee.Through t) (callee.Through u) e = refl
  same_weight (callee.Switched g) (callee.Switched h) e = refl
  same_weight callee.Expanded callee.Expanded e = refl
  same_weight _ _ e = absurd e

  pub weights : Measure (layer_weight direct through) (stm_weight direct through)
  weights = record {
    roll = w_roll;
    set = λ t u v w. refl;
    store = λ g h v w. refl;
    divide = λ t u o p a b c d. refl;
    divided = λ t u o v a b. omega arith;
    check = λ r s i j. refl;
    fetched = λ t u v r i. omega arith;
    read = λ t u r s i j. refl;
    write = λ r s i j v w. refl;
    branch = λ t u a b. omega arith;
    loop = λ a b h. h;
    block = λ a b h. h;
    looped = λ a. omega arith;
    blocked = λ a. omega arith;
    break = λ n k. refl;
    jump = λ n t v. omega arith;
    back = λ n t v. omega arith;
    call = λ r s f g xs ys e. same_weight f g e;
    known = λ r s k xs ys. refl;
    return = λ v w. refl;
  }

  pub weights_of_calls : CountsCalls (layer_weight direct through)
  weights_of_calls = record { others = by; expanded = λ r args. refl; blocks = λ a. refl }
    where
      by : (x : Stm-F ℕ) → layer_calls x ≡ 0 → layer_weight direct through x ≡ 0
      by (stm.If t a b) e = e
      by (stm.Loop b) e = e
      by (stm.Block b) e = e
      by (stm.Call r f args) e = absurd (omega (arith, e))
      by _ e = refl

module _ (counts : ℕ → Bool) where
  pub through_roll : (x : Stm-F Stm) → stm_through counts (roll-Stm x) ≡ layer_through counts (map-Stm Stm ℕ (stm_through counts) x)
  unfolding stm_through
  through_roll x = fold-roll-Stm ℕ (layer_through counts) x

  same_through : (f g : Callee) → SameGoal f g → callee_through counts f ≡ callee_through counts g
  same_through (callee.Direct f) (callee.Direct g) e = refl
  same_through (callee.Through t) (callee.Through u) e = refl
  same_through (callee.Switched g) (callee.Switched h) e = ap (λ x. callee_through counts (callee.Switched x)) e
  same_through callee.Expanded callee.Expanded e = refl
  same_through _ _ e = absurd e

  pub throughs : Measure (layer_through counts) (stm_through counts)
  throughs = record {
    roll = through_roll;
    set = λ t u v w. refl;
    store = λ g h v w. refl;
    divide = λ t u o p a b c d. refl;
    divided = λ t u o v a b. omega arith;
    check = λ r s i j. refl;
    fetched = λ t u v r i. omega arith;
    read = λ t u r s i j. refl;
    write = λ r s i j v w. refl;
    branch = λ t u a b. omega arith;
    loop = λ a b h. h;
    block = λ a b h. h;
    looped = λ a. omega arith;
    blocked = λ a. omega arith;
    break = λ n k. refl;
    jump = λ n t v. omega arith;
    back = λ n t v. omega arith;
    call = λ r s f g xs ys e. same_through f g e;
    known = λ r s k xs ys. refl;
    return = λ v w. refl;
  }

  pub throughs_of_calls : CountsCalls (layer_through counts)
  throughs_of_calls = record { others = by; expanded = λ r args. refl; blocks = λ a. refl }
    where
      by : (x : Stm-F ℕ) → layer_calls x ≡ 0 → layer_through counts x ≡ 0
      by (stm.If t a b) e = e
      by (stm.Loop b) e = e
      by (stm.Block b) e = e
      by (stm.Call r f args) e = absurd (omega (arith, e))
      by _ e = refl
