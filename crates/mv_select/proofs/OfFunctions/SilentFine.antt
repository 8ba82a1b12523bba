-- What is fine and calls nothing is fine also where nothing may be called or asked for.
use Rattle.std.proofs.Common.{◌≡◌, ℕ, ◌&&◌, ◌||◌, Bool, true, ltb, List, [], ◌∷◌, map, Some, None, refl, sym, ◌∙◌}
use Rattle.std.proofs.lemmas.Bool.{or_right, and_from}
use Rattle.mv_num.proofs.Booleans.{and_right, and_left}
use Rattle.mv_ast.specs.declared.program.Known.{Known}
use Rattle.mv_ir.specs.declared.tree.Tree.{Tree}
use Rattle.mv_ir.specs.declared.stm.Array.TheVariants as array
use Rattle.mv_ir.specs.declared.stm.Callee.TheVariants as callee
use Rattle.mv_ir.specs.declared.stm.Stm.{Stm}
use Rattle.mv_ir.specs.declared.stm.Stm.TheOpen as stm
use Rattle.mv_ir.specs.declared.stm.Stm.TheOpen.{Stm-F}
use Rattle.mv_ir.specs.declared.stm.Stm.TheFolds.{map-Stm}
use Rattle.mv_ir.specs.WellFormed.{all_true}
use Rattle.mv_ir.proofs.Induction.{Each, StmChildren, stm_ind, stms_ind}
use Rattle.mv_select_code.specs.Control.FlowCode.{Uses, fine_layer, is_fine_statement, are_fine}
use Rattle.mv_select.specs.Functions.FunctionCode.{silent_layer, is_silent, calls_nothing}
use Rattle.mv_select_code.proofs.OfControl.Equations.{fine_roll}
use Rattle.mv_select.proofs.OfFunctions.Silent.{silent_roll}

module _ (is_fine : Tree → Bool) (may_ask other : Known → Bool) (temps : ℕ) (uses : Uses) (may_call : Bool) where
  abbrev others : Uses
  others = record uses { may_call = may_call }

  abbrev Fine : Stm → Bool
  Fine = is_fine_statement is_fine may_ask temps uses

  abbrev StillFine : Stm → Bool
  StillFine = is_fine_statement is_fine other temps (record uses { may_call = may_call })

  abbrev Stays : Stm → Type 0
  Stays s = is_silent s ≡ true → Fine s ≡ true → StillFine s ≡ true

  inner : (code : List Stm) → Each Stays code → calls_nothing code ≡ true → all_true (map Fine code) ≡ true → all_true (map StillFine code) ≡ true
  inner [] h silent fine = refl
  inner (s ∷ code) h silent fine =
      and_from (StillFine s) (all_true (map StillFine code)) (h.0 (and_left (is_silent s) (calls_nothing code) silent) (and_left (Fine s) (all_true (map Fine code)) fine))
      (inner code h.1 (and_right (is_silent s) (calls_nothing code) silent) (and_right (Fine s) (all_true (map Fine code)) fine))

  layer : (x : Stm-F Stm) → StmChildren Stays x → silent_layer (map-Stm Stm Bool is_silent x) ≡ true → fine_layer is_fine may_ask temps uses (map-Stm Stm Bool Fine x) ≡ true
      → fine_layer is_fine other temps (record uses { may_call = may_call }) (map-Stm Stm Bool StillFine x) ≡ true
  layer (stm.Set t v) h silent fine = fine
  layer (stm.SetGlobal g v) h silent fine = fine
  layer (stm.Divide t o a b) h silent fine = fine
  layer (stm.Check a i) h silent fine = fine
  layer (stm.Read t (array.Global g) i) h silent fine = fine
  layer (stm.Read t (array.Local a) i) h silent fine = fine
  layer (stm.Read t (array.SureGlobal g n) i) h silent fine = fine
  layer (stm.Read t (array.SureLocal a n) i) h silent fine = fine
  layer (stm.Write (array.Global g) i v) h silent fine = fine
  layer (stm.Write (array.Local a) i v) h silent fine = fine
  layer (stm.Write (array.SureGlobal g n) i v) h silent fine = fine
  layer (stm.Write (array.SureLocal a n) i v) h silent fine = fine
  layer (stm.Zero a) h silent fine = fine
  layer (stm.If t a b) h silent fine =
      let lists = and_right (is_fine t) (all_true (map Fine a) && all_true (map Fine b)) fine in
      and_from (is_fine t) (all_true (map StillFine a) && all_true (map StillFine b)) (and_left (is_fine t) (all_true (map Fine a) && all_true (map Fine b)) fine)
      (and_from (all_true (map StillFine a)) (all_true (map StillFine b))
      (inner a h.0 (and_left (calls_nothing a) (calls_nothing b) silent) (and_left (all_true (map Fine a)) (all_true (map Fine b)) lists))
      (inner b h.1 (and_right (calls_nothing a) (calls_nothing b) silent) (and_right (all_true (map Fine a)) (all_true (map Fine b)) lists)))
  layer (stm.Loop b) h silent fine = inner b h silent fine
  layer (stm.Block b) h silent fine = inner b h silent fine
  layer (stm.Break n) h silent fine = fine
  layer (stm.Back n) h silent fine = fine
  layer (stm.Call r (callee.Direct f) args) h silent fine = cc
  layer (stm.Call r (callee.Through t) args) h silent fine = cc
  layer (stm.Call r (callee.Switched g) args) h silent fine = cc
  layer (stm.Call r callee.Expanded (t ∷ ts)) h silent fine = cc
  layer (stm.Call None callee.Expanded []) h silent fine = and_from (may_call || true) true (or_right may_call true refl) refl
  layer (stm.Call (Some t) callee.Expanded []) h silent fine =
      and_from (may_call || true) (ltb t temps && true) (or_right may_call true refl) (and_right (uses.may_call || true) (ltb t temps && true) fine)
  layer (stm.Known r k args) h silent fine = cc
  layer (stm.Return v) h silent fine = fine

  pub silent_fine : (code : List Stm) → calls_nothing code ≡ true → are_fine is_fine may_ask temps uses code ≡ true → are_fine is_fine other temps (record uses { may_call = may_call }) code ≡ true
  silent_fine code =
      inner code (stms_ind Stays (stm_ind Stays (λ x h silent fine.
      fine_roll is_fine other temps others x ∙ layer x h (sym (silent_roll x) ∙ silent) (sym (fine_roll is_fine may_ask temps uses x) ∙ fine))) code)
