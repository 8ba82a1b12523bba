-- The code of statements depends on the places of the arrays that they name alone.
use Rattle.std.proofs.Common.{◌≡◌, ℕ, List, [], ◌∷◌, map, refl, sym, ap, ◌∙◌, subst}
use Rattle.mv_ir.specs.declared.stm.Array.{Array}
use Rattle.mv_ir.specs.declared.stm.Array.TheVariants as array
use Rattle.mv_ir.specs.declared.stm.Stm.{Stm}
use Rattle.mv_ir.specs.declared.stm.Stm.TheOpen.{Stm-F}
use Rattle.mv_ir.specs.declared.stm.Stm.TheOpen as stm
use Rattle.mv_ir.specs.declared.stm.Stm.TheFolds.{map-Stm}
use Rattle.mv_ir.specs.Measures.{joined}
use Rattle.mv_ir.specs.WellFormed.{layer_named, stm_named}
use Rattle.mv_ir.proofs.Induction.{Each, StmChildren, stm_ind, stms_ind}
use Rattle.mv_ir.proofs.Rolls.{named_roll}
use Rattle.mv_select_code.specs.declared.statements.elements.Home.TheVariants as place_at
use Rattle.mv_select_code.specs.Statements.StatementCode.{read_lines, write_lines}
use Rattle.mv_select_code.specs.Control.FlowCode.{Plan, Emitted, in_turn, plain, zero_code, if_code, loop_code, block_code, home, size, tests, code_layer, statement_code, code_of}
use Rattle.mv_select_code.proofs.OfControl.Equations.{code_roll}
use Rattle.mv_ir.proofs.Common.{each_first, each_right}

-- other places, which agree at the arrays that are there, whatever is promised of an index
module _ (plan : Plan) (places : ℕ → ℕ) (There : Array → Type 0) (unpromised : (a n : ℕ) → There (array.SureLocal a n) → There (array.Local a))
    (same : (a : ℕ) → There (array.Local a) → plan.array_at a ≡ places a) where
  abbrev other : Plan
  other = record plan { array_at = places }

  home_same : (a : Array) → There a → home plan a ≡ home other a
  home_same (array.Global g) h = refl
  home_same (array.Local a) h = ap place_at.Frame (same a h)
  home_same (array.SureGlobal g n) h = refl
  home_same (array.SureLocal a n) h = ap place_at.Frame (same a (unpromised a n h))

  abbrev codes : List Stm → List Emitted
  codes = map (statement_code plan)

  abbrev others : List Stm → List Emitted
  others = map (statement_code other)

  abbrev StmSame : Stm → Type 0
  StmSame s = Each There (stm_named s) → statement_code plan s ≡ statement_code other s

  in_order_same : (code : List Stm) → Each StmSame code → Each There (joined (map stm_named code)) → codes code ≡ others code
  in_order_same [] h all = refl
  in_order_same (s ∷ code) h all =
      let front = each_first There (stm_named s) (joined (map stm_named code)) all in
      let back = each_right There (stm_named s) (joined (map stm_named code)) all in
      ap (λ c. c ∷ codes code) (h.0 front) ∙ ap (λ cs. statement_code other s ∷ cs) (in_order_same code h.1 back)

  layer : (x : Stm-F Stm) → StmChildren StmSame x → Each There (layer_named (map-Stm Stm (List Array) stm_named x))
      → code_layer plan (map-Stm Stm Emitted (statement_code plan) x) ≡ code_layer other (map-Stm Stm Emitted (statement_code other) x)
  layer (stm.Set t v) h all = refl
  layer (stm.SetGlobal g v) h all = refl
  layer (stm.Divide t o a b) h all = refl
  layer (stm.Check a i) h all = refl
  layer (stm.Read t a i) h all = ap (λ home. plain (read_lines plan.seats t home (size plan a) (tests plan a) i)) (home_same a all.0)
  layer (stm.Write a i v) h all = ap (λ home. plain (write_lines plan.seats home (size plan a) (tests plan a) i v)) (home_same a all.0)
  layer (stm.Zero a) h all = ap (λ at. zero_code at (plan.array_size a)) (same a all.0)
  layer (stm.If t a b) h all =
      let in_a = joined (map stm_named a) in
      let in_b = joined (map stm_named b) in
      ap (λ cs. if_code plan.seats plan.end t (in_turn cs) (in_turn (codes b))) (in_order_same a h.0 (each_first There in_a in_b all)) ∙
      ap (λ cs. if_code plan.seats plan.end t (in_turn (others a)) (in_turn cs)) (in_order_same b h.1 (each_right There in_a in_b all))
  layer (stm.Loop b) h all = ap (loop_code plan.seats) (in_order_same b h all)
  layer (stm.Block b) h all = ap (λ cs. block_code (in_turn cs)) (in_order_same b h all)
  layer (stm.Break n) h all = refl
  layer (stm.Back n) h all = refl
  layer (stm.Call r f args) h all = refl
  layer (stm.Known r k args) h all = refl
  layer (stm.Return v) h all = refl

  statement_same : (s : Stm) → StmSame s
  statement_same =
      stm_ind StmSame (λ x h all. code_roll plan x ∙ layer x h (subst (Each There) (named_roll x) all) ∙ sym (code_roll other x))

  pub code_same : (code : List Stm) → Each There (joined (map stm_named code)) → code_of plan code ≡ code_of other code
  code_same code all = ap in_turn (in_order_same code (stms_ind StmSame statement_same code) all)
