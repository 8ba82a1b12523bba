-- Weights of calls add up over the functions that code calls.
use Rattle.std.proofs.Common.{arith, ◌≡◌, ℕ, ◌+◌, List, [], ◌∷◌, subst}
use Rattle.mv_ir.specs.declared.stm.Callee.{Callee}
use Rattle.mv_ir.specs.declared.stm.Callee.TheVariants as callee
use Rattle.mv_ir.specs.declared.stm.Stm.{Stm}
use Rattle.mv_ir.specs.declared.stm.Stm.TheOpen.{Stm-F}
use Rattle.mv_ir.specs.declared.stm.Stm.TheOpen as stm
use Rattle.mv_ir.specs.declared.stm.Stm.TheViews.{roll-Stm}
use Rattle.mv_ir.specs.declared.stm.Stm.TheFolds.{map-Stm}
use Rattle.mv_ir.proofs.Induction.{Each, StmChildren, stm_ind, stms_ind}
use Rattle.mv_ir.proofs.Common.{each_first, each_right}
use Rattle.mv_lower_spec.specs.Functions.{callee_called, layer_called, stm_called, functions_called}
use Rattle.mv_lower_spec.specs.Shape.Calls.{callee_weight, layer_weight, stm_weight, code_weight}
use Rattle.mv_variants.proofs.OfBound.Weights.{w_roll}
use Rattle.mv_lower_spec.proofs.Common.{called_roll}

module _ (a b c : ℕ → ℕ) where
  abbrev pub AddUp : ℕ → Type 0
  AddUp f = a f ≡ b f + c f

  abbrev Adds : Stm → Type 0
  Adds s = Each AddUp (stm_called s) → stm_weight a 0 s ≡ stm_weight b 0 s + stm_weight c 0 s

  all_add : (code : List Stm) → Each Adds code → Each AddUp (functions_called code) → code_weight a 0 code ≡ code_weight b 0 code + code_weight c 0 code
  all_add [] h z = omega arith
  all_add (s ∷ code) h z =
      let first = h.0 (each_first AddUp (stm_called s) (functions_called code) z) in
      let rest = all_add code h.1 (each_right AddUp (stm_called s) (functions_called code) z) in
      omega (arith, first, rest)

  callee_adds : (f : Callee) → Each AddUp (callee_called f) → callee_weight a 0 f ≡ callee_weight b 0 f + callee_weight c 0 f
  callee_adds (callee.Direct f) z = z.0
  callee_adds (callee.Through t) z = omega arith
  callee_adds (callee.Switched g) z = omega arith
  callee_adds callee.Expanded z = omega arith

  layer_adds : (x : Stm-F Stm) → StmChildren Adds x → Each AddUp (layer_called (map-Stm Stm (List ℕ) stm_called x)) →
      layer_weight a 0 (map-Stm Stm ℕ (stm_weight a 0) x) ≡ layer_weight b 0 (map-Stm Stm ℕ (stm_weight b 0) x) + layer_weight c 0 (map-Stm Stm ℕ (stm_weight c 0) x)
  layer_adds (stm.Set t v) h z = omega arith
  layer_adds (stm.SetGlobal g v) h z = omega arith
  layer_adds (stm.Divide t o x y) h z = omega arith
  layer_adds (stm.Check r i) h z = omega arith
  layer_adds (stm.Read t r i) h z = omega arith
  layer_adds (stm.Write r i v) h z = omega arith
  layer_adds (stm.Zero l) h z = omega arith
  layer_adds (stm.If t xs ys) h z =
      let first = all_add xs h.0 (each_first AddUp (functions_called xs) (functions_called ys) z) in
      let second = all_add ys h.1 (each_right AddUp (functions_called xs) (functions_called ys) z) in
      omega (arith, first, second)
  layer_adds (stm.Loop xs) h z = all_add xs h z
  layer_adds (stm.Block xs) h z = all_add xs h z
  layer_adds (stm.Break n) h z = omega arith
  layer_adds (stm.Back n) h z = omega arith
  layer_adds (stm.Call r f args) h z = callee_adds f z
  layer_adds (stm.Known r k args) h z = omega arith
  layer_adds (stm.Return v) h z = omega arith

  one_adds : (x : Stm-F Stm) → StmChildren Adds x → Adds (roll-Stm x)
  one_adds x h z = let sums = layer_adds x h (subst (Each AddUp) (called_roll x) z) in omega (arith, w_roll a 0 x, w_roll b 0 x, w_roll c 0 x, sums)

  pub weights_add : (code : List Stm) → Each AddUp (functions_called code) → code_weight a 0 code ≡ code_weight b 0 code + code_weight c 0 code
  weights_add code = all_add code (stms_ind Adds (stm_ind Adds one_adds) code)
