-- Tests that agree on what code names pick as many of its calls through pointer switches.
use Rattle.std.proofs.Common.{◌≡◌, ℕ, ◌+◌, Bool, if◌then◌else◌, List, [], ◌∷◌, refl, sym, subst, ap, ap₂, ◌∙◌}
use Rattle.mv_ir.specs.declared.stm.Array.{Array}
use Rattle.mv_ir.specs.declared.stm.Array.TheVariants as array
use Rattle.mv_ir.specs.declared.stm.Callee.{Callee}
use Rattle.mv_ir.specs.declared.stm.Callee.TheVariants as callee
use Rattle.mv_ir.specs.declared.stm.Stm.{Stm}
use Rattle.mv_ir.specs.declared.stm.Stm.TheOpen.{Stm-F}
use Rattle.mv_ir.specs.declared.stm.Stm.TheOpen as stm
use Rattle.mv_ir.specs.declared.stm.Stm.TheViews.{roll-Stm}
use Rattle.mv_ir.specs.declared.stm.Stm.TheFolds.{map-Stm}
use Rattle.mv_ir.specs.WellFormed.{callee_named, layer_named, stm_named, named}
use Rattle.mv_ir.proofs.Induction.{Each, StmChildren, stm_ind, stms_ind}
use Rattle.mv_ir.proofs.Common.{each_first, each_right}
use Rattle.mv_ir.proofs.Rolls.{named_roll}
use Rattle.mv_lower_spec.specs.Shape.Calls.{callee_through, layer_through, stm_through, code_through}
use Rattle.mv_variants.proofs.OfBound.Weights.{through_roll}

module _ (one other : ℕ → Bool) (N : Array → Type 0) (agree : (g : ℕ) → N (array.Global g) → one g ≡ other g) where
  abbrev Same : Stm → Type 0
  Same s = Each N (stm_named s) → stm_through one s ≡ stm_through other s

  all_same : (code : List Stm) → Each Same code → Each N (named code) → code_through one code ≡ code_through other code
  all_same [] h z = refl
  all_same (s ∷ code) h z = ap₂ (λ m n. m + n) (h.0 (each_first N (stm_named s) (named code) z)) (all_same code h.1 (each_right N (stm_named s) (named code) z))

  callee_same : (f : Callee) → Each N (callee_named f) → callee_through one f ≡ callee_through other f
  callee_same (callee.Direct f) z = refl
  callee_same (callee.Through t) z = refl
  callee_same (callee.Switched g) z = ap (λ b. if b then 1 else 0) (agree g z.0)
  callee_same callee.Expanded z = refl

  layer_same : (x : Stm-F Stm) → StmChildren Same x → Each N (layer_named (map-Stm Stm (List Array) stm_named x)) →
      layer_through one (map-Stm Stm ℕ (stm_through one) x) ≡ layer_through other (map-Stm Stm ℕ (stm_through other) x)
  layer_same (stm.If t a b) h z = ap₂ (λ m n. m + n) (all_same a h.0 (each_first N (named a) (named b) z)) (all_same b h.1 (each_right N (named a) (named b) z))
  layer_same (stm.Loop b) h z = all_same b h z
  layer_same (stm.Block b) h z = all_same b h z
  layer_same (stm.Call r f args) h z = callee_same f z
  layer_same _ h z = refl

  one_same : (x : Stm-F Stm) → StmChildren Same x → Same (roll-Stm x)
  one_same x h z = through_roll one x ∙ (layer_same x h (subst (Each N) (named_roll x) z) ∙ sym (through_roll other x))

  pub same_through : (code : List Stm) → Each N (named code) → code_through one code ≡ code_through other code
  same_through code = all_same code (stms_ind Same (stm_ind Same one_same) code)
