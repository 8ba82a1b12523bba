-- The pointer switches that the code of a lowered function calls through are those of the program.
use Rattle.std.proofs.Common.{◌≡◌, ℕ, ◌+◌, ◌≤◌, Bool, true, false, ◌&&◌, List, [], ◌∷◌, ◌++◌, map, length, All, refl, ◌∙◌, ap, arith}
use Rattle.std.specs.Prelude.{if◌then◌else◌}
use Rattle.mv_ir.specs.declared.stm.Callee.TheVariants as callee
use Rattle.mv_ir.specs.declared.stm.Stm.{Stm}
use Rattle.mv_ir.specs.declared.stm.Stm.TheOpen.{Stm-F}
use Rattle.mv_ir.specs.declared.stm.Stm.TheOpen as stm
use Rattle.mv_ir.specs.declared.stm.Stm.TheFolds.{map-Stm}
use Rattle.mv_ir.specs.Measures.{total}
use Rattle.mv_ir.proofs.Common.{each_is_all}
use Rattle.mv_ir.proofs.Induction.{Each, StmChildren, stm_ind, stms_ind}
use Rattle.mv_ir.proofs.Joining.{total_append}
use Rattle.mv_ir.proofs.Keeping.{map_append}
use Rattle.mv_ir.proofs.Rolls.{same_functions}
use Rattle.mv_ast.specs.declared.program.Program.{Program}
use Rattle.mv_ast.specs.declared.program.Function.{Function}
use Rattle.mv_ast.specs.Counts.{is_pointer, calls_through}
use Rattle.mv_lower_spec.specs.Functions.{lower_function}
use Rattle.mv_lower_spec.specs.Shape.Calls.{layer_through, stm_through, code_through}
use Rattle.mv_lower_spec.specs.Shape.Law.{IsFunctionOf}
use Rattle.mv_lower_spec.proofs.OfShape.OfPrograms.{often}
use Rattle.mv_lower_spec.proofs.OfShape.PointerCalls.{through_one}
use Rattle.mv_select_code.specs.Control.Labels.{pointers_layer, stm_pointers, pointers}
use Rattle.mv_select_code.proofs.OfControl.TreeNames.{pointers_roll}

-- ---- a count of those that a test picks

module _ (test : ℕ → Bool) where
  abbrev picked : List ℕ → ℕ
  picked gs = total (map (λ g. if test g then 1 else 0) gs)

  picked_append : (xs ys : List ℕ) → picked (xs ++ ys) ≡ picked xs + picked ys
  picked_append xs ys = ap total (map_append (λ g. if test g then 1 else 0) xs ys) ∙ total_append (map (λ g. if test g then 1 else 0) xs) (map (λ g. if test g then 1 else 0) ys)

  abbrev S : Stm → Type 0
  S s = stm_through test s ≡ picked (stm_pointers s)

  all_picked : (code : List Stm) → Each S code → code_through test code ≡ picked (pointers code)
  all_picked [] h = refl
  all_picked (s ∷ code) h = omega (arith, h.0, all_picked code h.1, picked_append (stm_pointers s) (pointers code))

  layer : (x : Stm-F Stm) → StmChildren S x → layer_through test (map-Stm Stm ℕ (stm_through test) x) ≡ picked (pointers_layer (map-Stm Stm (List ℕ) stm_pointers x))
  layer (stm.Set t v) h = refl
  layer (stm.SetGlobal g v) h = refl
  layer (stm.Divide t o a b) h = refl
  layer (stm.Check a i) h = refl
  layer (stm.Read t a i) h = refl
  layer (stm.Write a i v) h = refl
  layer (stm.Zero l) h = refl
  layer (stm.If t a b) h = omega (arith, all_picked a h.0, all_picked b h.1, picked_append (pointers a) (pointers b))
  layer (stm.Loop b) h = all_picked b h
  layer (stm.Block b) h = all_picked b h
  layer (stm.Break n) h = refl
  layer (stm.Back n) h = refl
  layer (stm.Call r (callee.Direct f) args) h = refl
  layer (stm.Call r (callee.Through t) args) h = refl
  layer (stm.Call r (callee.Switched g) args) h = omega arith
  layer (stm.Call r callee.Expanded args) h = refl
  layer (stm.Known r k args) h = refl
  layer (stm.Return v) h = refl

  through_picked : (code : List Stm) → code_through test code ≡ picked (pointers code)
  through_picked code = all_picked code (stms_ind S (stm_ind S (λ x h. omega (arith, through_one test x, layer x h, ap picked (pointers_roll x)))) code)

  at_most : (gs : List ℕ) → picked gs ≤ length gs
  at_most [] = omega arith
  at_most (g ∷ gs) = by (test g) (at_most gs)
    where
      by : (z : Bool) → picked gs ≤ length gs → (if z then 1 else 0) + picked gs ≤ length (g ∷ gs)
      by true le = omega (arith, le)
      by false le = omega (arith, le)

  -- where all are picked, each is
  all_pass : (gs : List ℕ) → length gs ≤ picked gs → Each (λ g. test g ≡ true) gs
  all_pass [] le = tt
  all_pass (g ∷ gs) le = by (test g) refl le (all_pass gs)
    where
      by : (z : Bool) → test g ≡ z → length (g ∷ gs) ≤ (if z then 1 else 0) + picked gs → (length gs ≤ picked gs → Each (λ k. test k ≡ true) gs) → Each (λ k. test k ≡ true) (g ∷ gs)
      by true e le rest = (e, rest (omega (arith, le)))
      by false e le rest = absurd (omega (arith, le, at_most gs))

every_one : (gs : List ℕ) → picked (λ g. true) gs ≡ length gs
every_one [] = refl
every_one (g ∷ gs) = omega (arith, every_one gs)

itself_twice : (b : Bool) → b && b ≡ b
itself_twice true = refl
itself_twice false = refl

-- ---- a function

-- all calls through pointer switches are through those of the program, since these are as many
pub pointers_there : (p : Program) (f : ℕ) (g : Function) → IsFunctionOf p f g → All (λ k. is_pointer p k ≡ true) (pointers (lower_function p g).code)
pointers_there p f g h =
    let code = (lower_function p g).code in
    let calls = (often p f g h).pointers in
    let same = ap (λ (counts : ℕ → Bool). calls_through counts g) (same_functions (λ k. is_pointer p k && is_pointer p k) (is_pointer p) (λ k. itself_twice (is_pointer p k))) in
    each_is_all (λ k. is_pointer p k ≡ true) (pointers code)
    (all_pass (is_pointer p) (pointers code)
    (omega (arith, every_one (pointers code), through_picked (λ k. true) code, through_picked (is_pointer p) code, calls (λ k. true), calls (is_pointer p), same)))
