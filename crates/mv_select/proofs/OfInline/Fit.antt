-- The two instructions of a body have encodings.
use Rattle.std.proofs.Common.{◌≡◌, ℕ, ◌<◌, ◌≤◌, Bool, true, false, cond, eqb, ltb, List, [], ◌∷◌, pos, Some, subst, arith}
use Rattle.std.proofs.lemmas.Bool.{ltb-true}
use Rattle.std.proofs.lemmas.Option.{none-some, same_Some}
use Rattle.mv_isa.specs.declared.instr.Instr.{Instr}
use Rattle.mv_isa.specs.declared.instr.Instr.TheVariants.{Lui, Addi}
use Rattle.mv_isa.specs.Encoding.{Fits}
use Rattle.mv_isa.specs.Code.{nop}
use Rattle.mv_isa.specs.Registers.{a0 as result_register}
use Rattle.mv_ir.specs.declared.tree.Tree.{Tree, out-Tree}
use Rattle.mv_ir.specs.declared.tree.Tree.TheOpen.{Tree-F}
use Rattle.mv_ir.specs.declared.tree.Tree.TheOpen as tree
use Rattle.mv_ir.specs.declared.stm.Stm.{Stm, out-Stm}
use Rattle.mv_ir.specs.declared.stm.Stm.TheOpen.{Stm-F}
use Rattle.mv_ir.specs.declared.stm.Stm.TheOpen as stm
use Rattle.mv_select_code.specs.Trees.TreeCode.{upper_bits, lower_bits}
use Rattle.mv_select_code.proofs.OfTrees.TreesFit.{small_fits, lower_fits, upper_fits}
use Rattle.mv_select.specs.Inline.InlineOf.{number_pair, parameter_pair, load_pair, store_pair, return_layer, return_pair, set_layer, set_pair, statement_layer, statement_pair, code_pair}
use Rattle.mv_select.specs.Inline.Laws.{InlineFits}
use Rattle.mv_select.proofs.OfInline.Bodies.{chosen_test, chosen}

abbrev Both : Instr × Instr → Type 0
Both p = Fits p.0 × Fits p.1

nop_fits : Fits nop
nop_fits = (omega arith, omega arith, small_fits 0 (omega arith))

number_fit : (n : ℕ) → Both (number_pair n)
unfolding number_pair
number_fit n = by_length (eqb (upper_bits n) 0)
  where
    by_length : (is_short : Bool) → Both (cond is_short (Addi result_register 0 (lower_bits n), nop) (Lui result_register (pos (upper_bits n)), Addi result_register result_register (lower_bits n)))
    by_length true = ((omega arith, omega arith, lower_fits n), nop_fits)
    by_length false = ((omega arith, upper_fits n), (omega arith, omega arith, lower_fits n))

parameter_fit : (t : ℕ) → t < 8 → Both (parameter_pair t)
parameter_fit t lt = ((omega arith, omega (arith, lt), small_fits 0 (omega arith)), nop_fits)

load_fit : (a : ℕ) → Both (load_pair a)
load_fit a = ((omega arith, upper_fits a), (omega arith, omega arith, lower_fits a))

store_fit : (a t : ℕ) → t < 8 → Both (store_pair a t)
store_fit a t lt = ((omega arith, upper_fits a), (omega arith, omega (arith, lt), lower_fits a))

module _ (place : ℕ → ℕ) (params : ℕ) (few : params ≤ 8) where
  small : (t : ℕ) → ltb t params ≡ true → t < 8
  small t e = omega (arith, ltb-true t params e, few)

  of_return : (x : Tree-F Tree) (p : Instr × Instr) → return_layer place params x ≡ Some p → Both p
  of_return (tree.Number n) p e = subst Both (same_Some (number_pair n) p e) (number_fit n)
  of_return (tree.Temp t) p e = subst Both (chosen (ltb t params) (parameter_pair t) p e) (parameter_fit t (small t (chosen_test (ltb t params) (parameter_pair t) p e)))
  of_return (tree.Global g) p e = subst Both (same_Some (load_pair (place g)) p e) (load_fit (place g))
  of_return (tree.Function f) p e = absurd (none-some p e)
  of_return (tree.Unary o a) p e = absurd (none-some p e)
  of_return (tree.Binary o a b) p e = absurd (none-some p e)
  of_return (tree.Narrow c a) p e = absurd (none-some p e)

  of_set : (g : ℕ) (x : Tree-F Tree) (p : Instr × Instr) → set_layer place params g x ≡ Some p → Both p
  of_set g (tree.Temp t) p e = subst Both (chosen (ltb t params) (store_pair (place g) t) p e) (store_fit (place g) t (small t (chosen_test (ltb t params) (store_pair (place g) t) p e)))
  of_set g (tree.Number n) p e = absurd (none-some p e)
  of_set g (tree.Global h) p e = absurd (none-some p e)
  of_set g (tree.Function f) p e = absurd (none-some p e)
  of_set g (tree.Unary o a) p e = absurd (none-some p e)
  of_set g (tree.Binary o a b) p e = absurd (none-some p e)
  of_set g (tree.Narrow c a) p e = absurd (none-some p e)

  of_statement : (x : Stm-F Stm) (p : Instr × Instr) → statement_layer place params x ≡ Some p → Both p
  unfolding return_pair set_pair
  of_statement (stm.Return v) p e = of_return (out-Tree v) p e
  of_statement (stm.SetGlobal g v) p e = of_set g (out-Tree v) p e
  of_statement (stm.Set t v) p e = absurd (none-some p e)
  of_statement (stm.Divide t o a b) p e = absurd (none-some p e)
  of_statement (stm.Check a j) p e = absurd (none-some p e)
  of_statement (stm.Read t a j) p e = absurd (none-some p e)
  of_statement (stm.Write a j v) p e = absurd (none-some p e)
  of_statement (stm.Zero a) p e = absurd (none-some p e)
  of_statement (stm.If t a b) p e = absurd (none-some p e)
  of_statement (stm.Loop b) p e = absurd (none-some p e)
  of_statement (stm.Block b) p e = absurd (none-some p e)
  of_statement (stm.Break n) p e = absurd (none-some p e)
  of_statement (stm.Back n) p e = absurd (none-some p e)
  of_statement (stm.Call r f xs) p e = absurd (none-some p e)
  of_statement (stm.Known r f xs) p e = absurd (none-some p e)

  of_code : (code : List Stm) (p : Instr × Instr) → code_pair place params code ≡ Some p → Both p
  unfolding statement_pair
  of_code [] p e = subst Both (same_Some (nop, nop) p e) (nop_fits, nop_fits)
  of_code (s ∷ []) p e = of_statement (out-Stm s) p e
  of_code (s ∷ t ∷ code) p e = absurd (none-some p e)

pub inline_fits : InlineFits
inline_fits place body few one two e = of_code place body.params few body.code (one, two) e
