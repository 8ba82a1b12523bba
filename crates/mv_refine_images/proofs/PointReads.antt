-- A pointer through which a line of a body's code calls is a global that the body reads.
use Rattle.std.proofs.Common.{◌≡◌, ℕ, Bool, true, false, ◌||◌, List, [], ◌∷◌, map, All, Some, slice_get, refl, sym, subst, eq-eqb}
use Rattle.std.specs.Prelude.{nat_eq}
use Rattle.std.proofs.lemmas.Bool.{eqb-true, or_left, or_right}
use Rattle.std.proofs.lemmas.List.Elements.{All-nil, All-cons, All-append, All-weaker}
use Rattle.mv_num.specs.Lists.{is_among}
use Rattle.mv_isa.specs.declared.labelled.Line.TheVariants.{Point}
use Rattle.mv_ir.specs.declared.stm.Stm.{Stm}
use Rattle.mv_ir.specs.declared.stm.Stm.TheOpen.{Stm-F}
use Rattle.mv_ir.specs.declared.stm.Stm.TheOpen as stm
use Rattle.mv_ir.specs.declared.stm.Stm.TheFolds.{map-Stm}
use Rattle.mv_ir.specs.declared.stm.Callee.TheVariants as callee
use Rattle.mv_ir.specs.Measures.{layer_arrays, stm_arrays, scalars_read, arrays_read}
use Rattle.mv_ir.proofs.Induction.{Each, StmChildren, stm_ind, stms_ind}
use Rattle.mv_ir.proofs.Rolls.{arrays_roll}
use Rattle.mv_select_code.specs.Control.Labels.{pointers_layer, stm_pointers, pointers}
use Rattle.mv_select_code.proofs.OfControl.TreeNames.{all_front, all_back, pointers_roll}
use Rattle.mv_select.specs.Bodies.Lines.{NamesThese, labels_of}
use Rattle.mv_select.specs.Bodies.SelectedBodies.{globals_read}
use Rattle.mv_select.specs.Functions.FunctionCode.{Shape, function_lines}
use Rattle.mv_select.proofs.OfBodies.FunctionNames.{lines_named}
use Rattle.mv_parts.proofs.Lists.{one_of_all}

-- what holds of the arrays that code reads holds of the pointers through which it calls
module _ (P : ℕ → Type 0) where
  abbrev Called : Stm → Type 0
  Called s = All P (stm_arrays s) → All P (stm_pointers s)

  together : (code : List Stm) → Each Called code → All P (arrays_read code) → All P (pointers code)
  together [] h all = All-nil P
  together (s ∷ code) h all =
      All-append P (stm_pointers s) (pointers code) (h.0 (all_front P (stm_arrays s) (arrays_read code) all)) (together code h.1 (all_back P (stm_arrays s) (arrays_read code) all))

  layer : (x : Stm-F Stm) → StmChildren Called x → All P (layer_arrays (map-Stm Stm (List ℕ) stm_arrays x)) → All P (pointers_layer (map-Stm Stm (List ℕ) stm_pointers x))
  layer (stm.Set t v) h all = All-nil P
  layer (stm.SetGlobal g v) h all = All-nil P
  layer (stm.Divide t o a b) h all = All-nil P
  layer (stm.Check a i) h all = All-nil P
  layer (stm.Read t a i) h all = All-nil P
  layer (stm.Write a i v) h all = All-nil P
  layer (stm.Zero l) h all = All-nil P
  layer (stm.If t a b) h all =
      All-append P (pointers a) (pointers b) (together a h.0 (all_front P (arrays_read a) (arrays_read b) all)) (together b h.1 (all_back P (arrays_read a) (arrays_read b) all))
  layer (stm.Loop b) h all = together b h all
  layer (stm.Block b) h all = together b h all
  layer (stm.Break n) h all = All-nil P
  layer (stm.Back n) h all = All-nil P
  layer (stm.Call r (callee.Direct f) args) h all = All-nil P
  layer (stm.Call r (callee.Through t) args) h all = All-nil P
  layer (stm.Call r (callee.Switched g) args) h all = all
  layer (stm.Call r callee.Expanded args) h all = All-nil P
  layer (stm.Known r k args) h all = All-nil P
  layer (stm.Return v) h all = All-nil P

  called : (s : Stm) → Called s
  called = stm_ind Called (λ x h all. subst (All P) (sym (pointers_roll x)) (layer x h (subst (All P) (arrays_roll x) all)))

  pub all_called : (code : List Stm) → All P (arrays_read code) → All P (pointers code)
  all_called code all = together code (stms_ind Called called code) all

-- the global of an address among those of some
module _ (place : ℕ → ℕ) where
  has_place : (gs : List ℕ) (a : ℕ) → is_among a (map place gs) ≡ true → (g : ℕ) × (is_among g gs ≡ true) × (place g ≡ a)
  has_place [] a e = absurd (cc e)
  has_place (g ∷ gs) a e = by (nat_eq a (place g)) refl e (has_place gs a)
    where
      by : (b : Bool) → nat_eq a (place g) ≡ b → (b || is_among a (map place gs)) ≡ true → (is_among a (map place gs) ≡ true → (h : ℕ) × (is_among h gs ≡ true) × (place h ≡ a)) →
          (h : ℕ) × (is_among h (g ∷ gs) ≡ true) × (place h ≡ a)
      by true q e later = (g, or_left (nat_eq g g) (is_among g gs) (eq-eqb g g refl), sym (eqb-true a (place g) q))
      by false q e later = let h = later e in (h.0, or_right (nat_eq h.0 g) (is_among h.0 gs) h.1, h.2)

  -- each of them is there
  each_place : (gs : List ℕ) → All (λ g. is_among (place g) (map place gs) ≡ true) gs
  each_place [] = All-nil (λ g. is_among (place g) [] ≡ true)
  each_place (g ∷ gs) =
      All-cons (λ h. is_among (place h) (map place (g ∷ gs)) ≡ true) g gs (or_left (nat_eq (place g) (place g)) (is_among (place g) (map place gs)) (eq-eqb (place g) (place g) refl))
      (All-weaker (λ h. is_among (place h) (map place gs) ≡ true) (λ h. is_among (place h) (map place (g ∷ gs)) ≡ true)
      (λ h e. or_right (nat_eq (place h) (place g)) (is_among (place h) (map place gs)) e) gs (each_place gs))

  module _ (size : ℕ → ℕ) (is_attributed : ℕ → Bool) (shape : Shape) (code : List Stm) where
    -- an address in a line of code
    pub point_is_read : (k a : ℕ) → slice_get (function_lines place size is_attributed shape code) k ≡ Some (Point a) → (g : ℕ) × (is_among g (globals_read code) ≡ true) × (place g ≡ a)
    point_is_read k a e =
        let is_pointer : ℕ → Bool = λ z. is_among z (map place (globals_read code)) in
        let named =
        lines_named place size is_attributed shape code (λ f. true) is_pointer (λ k d lt. refl)
        (all_called (λ g. is_pointer (place g) ≡ true) code (all_back (λ g. is_pointer (place g) ≡ true) (scalars_read code) (arrays_read code) (each_place (globals_read code)))) in
        has_place (globals_read code) a
        (one_of_all (NamesThese (labels_of place size is_attributed shape code) (λ f. true) is_attributed is_pointer) (function_lines place size is_attributed shape code) named k (Point a) e)
