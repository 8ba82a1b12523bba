-- The pair of each form of tree and statement.
use Rattle.std.proofs.Common.{◌≡◌, ℕ, cond, ltb, List, Option, Some, None, sym, ap, ◌∙◌}
use Rattle.mv_num.specs.declared.kind.Kind.{Kind}
use Rattle.mv_ast.specs.declared.program.Known.{Known}
use Rattle.mv_ir.specs.declared.tree.Tree.{Tree}
use Rattle.mv_ir.specs.declared.tree.Tree as tr
use Rattle.mv_ir.specs.declared.tree.Tree.TheOpen.{Tree-F}
use Rattle.mv_ir.specs.declared.tree.Tree.TheOpen as tree
use Rattle.mv_ir.specs.declared.tree.Tree.TheViews.{roll-Tree, out-roll-Tree}
use Rattle.mv_ir.specs.declared.tree.Tree.TheVariants.{rolls-Number, rolls-Temp, rolls-Global, rolls-Function, rolls-Unary, rolls-Binary, rolls-Narrow}
use Rattle.mv_ir.specs.declared.stm.Array.{Array}
use Rattle.mv_ir.specs.declared.stm.Callee.{Callee}
use Rattle.mv_ir.specs.declared.stm.Stm.{Stm}
use Rattle.mv_ir.specs.declared.stm.Stm as at
use Rattle.mv_ir.specs.declared.stm.Stm.TheOpen.{Stm-F}
use Rattle.mv_ir.specs.declared.stm.Stm.TheOpen as stm
use Rattle.mv_ir.specs.declared.stm.Stm.TheViews.{roll-Stm, out-roll-Stm}
use Rattle.mv_ir.specs.declared.stm.Stm.TheVariants.{rolls-Set, rolls-SetGlobal, rolls-Divide, rolls-Check, rolls-Read, rolls-Write, rolls-Zero, rolls-If, rolls-Loop, rolls-Block, rolls-Break, rolls-Back, rolls-Call, rolls-Known, rolls-Return}
use Rattle.mv_select.specs.Inline.InlineOf.{number_pair, parameter_pair, load_pair, store_pair, return_layer, return_pair, set_layer, set_pair, statement_layer, statement_pair}

module _ (place : ℕ → ℕ) (params : ℕ) where
  pub return_roll : (x : Tree-F Tree) → return_pair place params (roll-Tree x) ≡ return_layer place params x
  unfolding return_pair
  return_roll x = ap (return_layer place params) (out-roll-Tree x)

  pub set_roll : (g : ℕ) (x : Tree-F Tree) → set_pair place params g (roll-Tree x) ≡ set_layer place params g x
  unfolding set_pair
  set_roll g x = ap (set_layer place params g) (out-roll-Tree x)

  pub statement_roll : (x : Stm-F Stm) → statement_pair place params (roll-Stm x) ≡ statement_layer place params x
  unfolding statement_pair
  statement_roll x = ap (statement_layer place params) (out-roll-Stm x)

  pub return_number : (n : ℕ) → return_pair place params (tr.Number n) ≡ Some (number_pair n)
  return_number n = ap (return_pair place params) (sym (rolls-Number n)) ∙ return_roll (tree.Number n)

  pub return_temp : (t : ℕ) → return_pair place params (tr.Temp t) ≡ cond (ltb t params) (Some (parameter_pair t)) None
  return_temp t = ap (return_pair place params) (sym (rolls-Temp t)) ∙ return_roll (tree.Temp t)

  pub return_global : (h : ℕ) → return_pair place params (tr.Global h) ≡ Some (load_pair (place h))
  return_global h = ap (return_pair place params) (sym (rolls-Global h)) ∙ return_roll (tree.Global h)

  pub return_function : (f : ℕ) → return_pair place params (tr.Function f) ≡ None
  return_function f = ap (return_pair place params) (sym (rolls-Function f)) ∙ return_roll (tree.Function f)

  pub return_unary : (o : ℕ) (a : Tree) → return_pair place params (tr.Unary o a) ≡ None
  return_unary o a = ap (return_pair place params) (sym (rolls-Unary o a)) ∙ return_roll (tree.Unary o a)

  pub return_binary : (o : ℕ) (a : Tree) (b : Tree) → return_pair place params (tr.Binary o a b) ≡ None
  return_binary o a b = ap (return_pair place params) (sym (rolls-Binary o a b)) ∙ return_roll (tree.Binary o a b)

  pub return_narrow : (c : Kind) (a : Tree) → return_pair place params (tr.Narrow c a) ≡ None
  return_narrow c a = ap (return_pair place params) (sym (rolls-Narrow c a)) ∙ return_roll (tree.Narrow c a)

  pub set_number : (g : ℕ) (n : ℕ) → set_pair place params g (tr.Number n) ≡ None
  set_number g n = ap (set_pair place params g) (sym (rolls-Number n)) ∙ set_roll g (tree.Number n)

  pub set_temp : (g : ℕ) (t : ℕ) → set_pair place params g (tr.Temp t) ≡ cond (ltb t params) (Some (store_pair (place g) t)) None
  set_temp g t = ap (set_pair place params g) (sym (rolls-Temp t)) ∙ set_roll g (tree.Temp t)

  pub set_global : (g : ℕ) (h : ℕ) → set_pair place params g (tr.Global h) ≡ None
  set_global g h = ap (set_pair place params g) (sym (rolls-Global h)) ∙ set_roll g (tree.Global h)

  pub set_function : (g : ℕ) (f : ℕ) → set_pair place params g (tr.Function f) ≡ None
  set_function g f = ap (set_pair place params g) (sym (rolls-Function f)) ∙ set_roll g (tree.Function f)

  pub set_unary : (g : ℕ) (o : ℕ) (a : Tree) → set_pair place params g (tr.Unary o a) ≡ None
  set_unary g o a = ap (set_pair place params g) (sym (rolls-Unary o a)) ∙ set_roll g (tree.Unary o a)

  pub set_binary : (g : ℕ) (o : ℕ) (a : Tree) (b : Tree) → set_pair place params g (tr.Binary o a b) ≡ None
  set_binary g o a b = ap (set_pair place params g) (sym (rolls-Binary o a b)) ∙ set_roll g (tree.Binary o a b)

  pub set_narrow : (g : ℕ) (c : Kind) (a : Tree) → set_pair place params g (tr.Narrow c a) ≡ None
  set_narrow g c a = ap (set_pair place params g) (sym (rolls-Narrow c a)) ∙ set_roll g (tree.Narrow c a)

  pub statement_set : (t : ℕ) (v : Tree) → statement_pair place params (at.Set t v) ≡ None
  statement_set t v = ap (statement_pair place params) (sym (rolls-Set t v)) ∙ statement_roll (stm.Set t v)

  pub statement_setglobal : (g : ℕ) (v : Tree) → statement_pair place params (at.SetGlobal g v) ≡ set_pair place params g v
  statement_setglobal g v = ap (statement_pair place params) (sym (rolls-SetGlobal g v)) ∙ statement_roll (stm.SetGlobal g v)

  pub statement_divide : (t : ℕ) (o : ℕ) (a : Tree) (b : Tree) → statement_pair place params (at.Divide t o a b) ≡ None
  statement_divide t o a b = ap (statement_pair place params) (sym (rolls-Divide t o a b)) ∙ statement_roll (stm.Divide t o a b)

  pub statement_check : (a : Array) (j : Tree) → statement_pair place params (at.Check a j) ≡ None
  statement_check a j = ap (statement_pair place params) (sym (rolls-Check a j)) ∙ statement_roll (stm.Check a j)

  pub statement_read : (t : ℕ) (a : Array) (j : Tree) → statement_pair place params (at.Read t a j) ≡ None
  statement_read t a j = ap (statement_pair place params) (sym (rolls-Read t a j)) ∙ statement_roll (stm.Read t a j)

  pub statement_write : (a : Array) (j : Tree) (v : Tree) → statement_pair place params (at.Write a j v) ≡ None
  statement_write a j v = ap (statement_pair place params) (sym (rolls-Write a j v)) ∙ statement_roll (stm.Write a j v)

  pub statement_zero : (a : ℕ) → statement_pair place params (at.Zero a) ≡ None
  statement_zero a = ap (statement_pair place params) (sym (rolls-Zero a)) ∙ statement_roll (stm.Zero a)

  pub statement_if : (t : Tree) (a : List Stm) (b : List Stm) → statement_pair place params (at.If t a b) ≡ None
  statement_if t a b = ap (statement_pair place params) (sym (rolls-If t a b)) ∙ statement_roll (stm.If t a b)

  pub statement_loop : (b : List Stm) → statement_pair place params (at.Loop b) ≡ None
  statement_loop b = ap (statement_pair place params) (sym (rolls-Loop b)) ∙ statement_roll (stm.Loop b)

  pub statement_block : (b : List Stm) → statement_pair place params (at.Block b) ≡ None
  statement_block b = ap (statement_pair place params) (sym (rolls-Block b)) ∙ statement_roll (stm.Block b)

  pub statement_break : (n : ℕ) → statement_pair place params (at.Break n) ≡ None
  statement_break n = ap (statement_pair place params) (sym (rolls-Break n)) ∙ statement_roll (stm.Break n)

  pub statement_back : (n : ℕ) → statement_pair place params (at.Back n) ≡ None
  statement_back n = ap (statement_pair place params) (sym (rolls-Back n)) ∙ statement_roll (stm.Back n)

  pub statement_call : (r : Option ℕ) (f : Callee) (xs : List Tree) → statement_pair place params (at.Call r f xs) ≡ None
  statement_call r f xs = ap (statement_pair place params) (sym (rolls-Call r f xs)) ∙ statement_roll (stm.Call r f xs)

  pub statement_known : (r : Option ℕ) (k : Known) (xs : List Tree) → statement_pair place params (at.Known r k xs) ≡ None
  statement_known r k xs = ap (statement_pair place params) (sym (rolls-Known r k xs)) ∙ statement_roll (stm.Known r k xs)

  pub statement_return : (v : Tree) → statement_pair place params (at.Return v) ≡ return_pair place params v
  statement_return v = ap (statement_pair place params) (sym (rolls-Return v)) ∙ statement_roll (stm.Return v)

pub ruleset returned = (return_number, return_temp, return_global, return_function, return_unary, return_binary, return_narrow)

pub ruleset stored = (set_number, set_temp, set_global, set_function, set_unary, set_binary, set_narrow)

pub ruleset alone = (
  statement_set,
  statement_setglobal,
  statement_divide,
  statement_check,
  statement_read,
  statement_write,
  statement_zero,
  statement_if,
  statement_loop,
  statement_block,
  statement_break,
  statement_back,
  statement_call,
  statement_known,
  statement_return,
)
