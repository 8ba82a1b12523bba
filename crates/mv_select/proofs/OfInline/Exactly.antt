-- A body has two instructions exactly where it has one of the shapes.
use Rattle.std.proofs.Common.{◌≡◌, ℕ, cond, ltb, List, [], ◌∷◌, Some, None, refl, ap, ◌∙◌, subst}
use Rattle.std.proofs.lemmas.Bool.{ltb-true, lt-ltb}
use Rattle.std.proofs.lemmas.Option.{none-some}
use Rattle.mv_isa.specs.declared.instr.Instr.{Instr}
use Rattle.mv_isa.specs.Code.{nop}
use Rattle.mv_ir.specs.declared.tree.Tree.{Tree, out-Tree}
use Rattle.mv_ir.specs.declared.tree.Tree as tr
use Rattle.mv_ir.specs.declared.tree.Tree.TheOpen.{Tree-F}
use Rattle.mv_ir.specs.declared.tree.Tree.TheOpen as tree
use Rattle.mv_ir.specs.declared.tree.Tree.TheViews.{roll-Tree, roll-out-Tree}
use Rattle.mv_ir.specs.declared.tree.Tree.TheVariants.{rolls-Number, rolls-Temp, rolls-Global}
use Rattle.mv_ir.specs.declared.stm.Stm.{Stm, out-Stm}
use Rattle.mv_ir.specs.declared.stm.Stm as at
use Rattle.mv_ir.specs.declared.stm.Stm.TheOpen.{Stm-F}
use Rattle.mv_ir.specs.declared.stm.Stm.TheOpen as stm
use Rattle.mv_ir.specs.declared.stm.Stm.TheViews.{roll-Stm, roll-out-Stm}
use Rattle.mv_ir.specs.declared.stm.Stm.TheVariants.{rolls-Return, rolls-SetGlobal}
use Rattle.mv_select.specs.Inline.InlineOf.{number_pair, parameter_pair, load_pair, store_pair, return_layer, return_pair, set_layer, set_pair, statement_layer, statement_pair, code_pair}
use Rattle.mv_select.specs.Inline.Shapes.{IsReturn, OfNumber, OfParameter, OfGlobal, IsInline, Empty, Return, Store, InlineExactly}
use Rattle.mv_select.proofs.OfInline.Bodies.{chosen_test}
use Rattle.mv_select.proofs.OfInline.Equations.{return_number, return_temp, return_global, set_temp, statement_return, statement_setglobal}

module _ (place : ℕ → ℕ) (params : ℕ) where
  -- ---- a pair comes of a shape

  of_return : (x : Tree-F Tree) (p : Instr × Instr) → return_layer place params x ≡ Some p → IsReturn params (roll-Stm (stm.Return (roll-Tree x)) ∷ [])
  of_return (tree.Number n) p e = OfNumber n (ap (λ s. s ∷ []) (rolls-Return (roll-Tree (tree.Number n)) ∙ ap at.Return (rolls-Number n)))
  of_return (tree.Temp t) p e =
      OfParameter t (ltb-true t params (chosen_test (ltb t params) (parameter_pair t) p e)) (ap (λ s. s ∷ []) (rolls-Return (roll-Tree (tree.Temp t)) ∙ ap at.Return (rolls-Temp t)))
  of_return (tree.Global g) p e = OfGlobal g (ap (λ s. s ∷ []) (rolls-Return (roll-Tree (tree.Global g)) ∙ ap at.Return (rolls-Global g)))
  of_return (tree.Function f) p e = absurd (none-some p e)
  of_return (tree.Unary o a) p e = absurd (none-some p e)
  of_return (tree.Binary o a b) p e = absurd (none-some p e)
  of_return (tree.Narrow c a) p e = absurd (none-some p e)

  of_set : (g : ℕ) (x : Tree-F Tree) (p : Instr × Instr) → set_layer place params g x ≡ Some p → IsInline params (roll-Stm (stm.SetGlobal g (roll-Tree x)) ∷ [])
  of_set g (tree.Temp t) p e =
      Store g t (ltb-true t params (chosen_test (ltb t params) (store_pair (place g) t) p e)) (ap (λ s. s ∷ []) (rolls-SetGlobal g (roll-Tree (tree.Temp t)) ∙ ap (at.SetGlobal g) (rolls-Temp t)))
  of_set g (tree.Number n) p e = absurd (none-some p e)
  of_set g (tree.Global h) p e = absurd (none-some p e)
  of_set g (tree.Function f) p e = absurd (none-some p e)
  of_set g (tree.Unary o a) p e = absurd (none-some p e)
  of_set g (tree.Binary o a b) p e = absurd (none-some p e)
  of_set g (tree.Narrow c a) p e = absurd (none-some p e)

  of_statement : (x : Stm-F Stm) (p : Instr × Instr) → statement_layer place params x ≡ Some p → IsInline params (roll-Stm x ∷ [])
  unfolding return_pair set_pair
  of_statement (stm.Return v) p e = Return (subst (λ z. IsReturn params (roll-Stm (stm.Return z) ∷ [])) (roll-out-Tree v) (of_return (out-Tree v) p e))
  of_statement (stm.SetGlobal g v) p e = subst (λ z. IsInline params (roll-Stm (stm.SetGlobal g z) ∷ [])) (roll-out-Tree v) (of_set g (out-Tree v) p e)
  of_statement (stm.Set t v) p e = absurd (none-some p e)
  of_statement (stm.Divide t o a b) p e = absurd (none-some p e)
  of_statement (stm.Check a j) p e = absurd (none-some p e)
  of_statement (stm.Read t a j) p e = absurd (none-some p e)
  of_statement (stm.Write a j v) p e = absurd (none-some p e)
  of_statement (stm.Zero a) p e = absurd (none-some p e)
  of_statement (stm.If t a b) p e = absurd (none-some p e)
  of_statement (stm.Loop b) p e = absurd (none-some p e)
  of_statement (stm.Block b) p e = absurd (none-some p e)
  of_statement (stm.Break n) p e = absurd (none-some p e)
  of_statement (stm.Back n) p e = absurd (none-some p e)
  of_statement (stm.Call r f xs) p e = absurd (none-some p e)
  of_statement (stm.Known r f xs) p e = absurd (none-some p e)

  of_code : (code : List Stm) (p : Instr × Instr) → code_pair place params code ≡ Some p → IsInline params code
  unfolding statement_pair
  of_code [] p e = Empty refl
  of_code (s ∷ []) p e = subst (λ z. IsInline params (z ∷ [])) (roll-out-Stm s) (of_statement (out-Stm s) p e)
  of_code (s ∷ t ∷ code) p e = absurd (none-some p e)

  -- ---- a shape has a pair

  abbrev Has : List Stm → Type 0
  Has code = (p : Instr × Instr) × (code_pair place params code ≡ Some p)

  from_return : (code : List Stm) → IsReturn params code → Has code
  from_return code (OfNumber n is) = (number_pair n, ap (code_pair place params) is ∙ statement_return place params (tr.Number n) ∙ return_number place params n)
  from_return code (OfParameter t lt is) = (
    parameter_pair t,
    ap (code_pair place params) is ∙ statement_return place params (tr.Temp t) ∙ return_temp place params t ∙ ap (λ b. cond b (Some (parameter_pair t)) None) (lt-ltb t params lt),
  )
  from_return code (OfGlobal g is) = (load_pair (place g), ap (code_pair place params) is ∙ statement_return place params (tr.Global g) ∙ return_global place params g)

  from_shape : (code : List Stm) → IsInline params code → Has code
  from_shape code (Empty is) = ((nop, nop), ap (code_pair place params) is)
  from_shape code (Return r) = from_return code r
  from_shape code (Store g t lt is) = (
    store_pair (place g) t,
    ap (code_pair place params) is ∙ statement_setglobal place params g (tr.Temp t) ∙ set_temp place params g t ∙ ap (λ b. cond b (Some (store_pair (place g) t)) None) (lt-ltb t params lt),
  )

pub inline_exactly : InlineExactly
inline_exactly place body = (λ h. of_code place body.params body.code h.0 h.1, from_shape place body.params body.code)
