-- What trees and statements name that lowering makes, by the names of their parts.
use Rattle.std.proofs.Common.{ℕ, List, [], ◌∷◌, ◌++◌, Option, Some}
use Rattle.mv_num.specs.declared.kind.Kind.{Kind}
use Rattle.mv_ast.specs.declared.program.Known.{Known}
use Rattle.mv_ir.specs.declared.tree.Tree.{Tree}
use Rattle.mv_ir.specs.declared.tree.Tree.TheOpen as tree
use Rattle.mv_ir.specs.declared.stm.Array.{Array}
use Rattle.mv_ir.specs.declared.stm.Callee.TheVariants as callee
use Rattle.mv_ir.specs.declared.stm.Stm.{Stm}
use Rattle.mv_ir.specs.declared.stm.Stm.TheOpen as stm
use Rattle.mv_ir.specs.declared.stm.Stm.TheViews.{roll-Stm}
use Rattle.mv_ir.proofs.Induction.{Each, each_append}
use Rattle.mv_lower_spec.specs.Lowered.{number, temp, global, function, unary, binary, set, set_global, divide, choose, call, check, read, write, known}
use Rattle.mv_lower_spec.specs.Lower.{narrowed}
use Rattle.mv_lower_spec.specs.Statements.{return_with, break, repeat, enclosed}
use Rattle.mv_select.proofs.OfBodies.Naming.{TreeNames, StmNames, CodeNames, tree_in, stm_in}

module _ (F : ℕ → Type 0) (K : Known → Type 0) (C : ℕ → Type 0) where
  pub both : (xs ys : List Stm) → CodeNames F K C xs → CodeNames F K C ys → CodeNames F K C (xs ++ ys)
  both xs ys h k = each_append (StmNames F K C) xs ys h k

  -- one statement behind others
  pub then : (xs : List Stm) (s : Stm) → CodeNames F K C xs → StmNames F K C s → CodeNames F K C (xs ++ s ∷ [])
  then xs s h k = both xs (s ∷ []) h (k, tt)

  -- ---- trees

  pub number_names : (n : ℕ) → C n → TreeNames F K C (number n)
  number_names n h = tree_in F K C (tree.Number n) h

  pub temp_names : (t : ℕ) → TreeNames F K C (temp t)
  temp_names t = tree_in F K C (tree.Temp t) tt

  pub global_names : (g : ℕ) → TreeNames F K C (global g)
  global_names g = tree_in F K C (tree.Global g) tt

  pub function_names : (f : ℕ) → F f → TreeNames F K C (function f)
  function_names f h = tree_in F K C (tree.Function f) h

  pub unary_names : (o : ℕ) (a : Tree) → TreeNames F K C a → TreeNames F K C (unary o a)
  unary_names o a h = tree_in F K C (tree.Unary o a) h

  pub binary_names : (o : ℕ) (a b : Tree) → TreeNames F K C a → TreeNames F K C b → TreeNames F K C (binary o a b)
  binary_names o a b h k = tree_in F K C (tree.Binary o a b) (h, k)

  pub narrowed_names : (k : Kind) (a : Tree) → TreeNames F K C a → TreeNames F K C (narrowed k a)
  narrowed_names k a h = tree_in F K C (tree.Narrow k a) h

  -- ---- statements

  pub set_names : (t : ℕ) (v : Tree) → TreeNames F K C v → StmNames F K C (set t v)
  set_names t v h = stm_in F K C (stm.Set t v) h

  pub set_global_names : (g : ℕ) (v : Tree) → TreeNames F K C v → StmNames F K C (set_global g v)
  set_global_names g v h = stm_in F K C (stm.SetGlobal g v) h

  pub divide_names : (t o : ℕ) (a b : Tree) → TreeNames F K C a → TreeNames F K C b → StmNames F K C (divide t o a b)
  divide_names t o a b h k = stm_in F K C (stm.Divide t o a b) (h, k)

  pub check_names : (a : Array) (i : Tree) → TreeNames F K C i → StmNames F K C (check a i)
  check_names a i h = stm_in F K C (stm.Check a i) h

  pub read_names : (t : ℕ) (a : Array) (i : Tree) → TreeNames F K C i → StmNames F K C (read t a i)
  read_names t a i h = stm_in F K C (stm.Read t a i) h

  pub write_names : (a : Array) (i v : Tree) → TreeNames F K C i → TreeNames F K C v → StmNames F K C (write a i v)
  write_names a i v h k = stm_in F K C (stm.Write a i v) (h, k)

  pub zero_names : (l : ℕ) → StmNames F K C (roll-Stm (stm.Zero l))
  zero_names l = stm_in F K C (stm.Zero l) tt

  pub return_names : (v : Tree) → TreeNames F K C v → StmNames F K C (return_with v)
  return_names v h = stm_in F K C (stm.Return v) h

  pub break_names : (n : ℕ) → StmNames F K C (break n)
  break_names n = stm_in F K C (stm.Break n) tt

  pub repeat_names : (xs : List Stm) → CodeNames F K C xs → StmNames F K C (repeat xs)
  repeat_names xs h = stm_in F K C (stm.Loop xs) h

  pub enclosed_names : (xs : List Stm) → CodeNames F K C xs → StmNames F K C (enclosed xs)
  enclosed_names xs h = stm_in F K C (stm.Block xs) h

  pub choose_names : (t : Tree) (xs ys : List Stm) → TreeNames F K C t → CodeNames F K C xs → CodeNames F K C ys → StmNames F K C (choose t xs ys)
  choose_names t xs ys h k l = stm_in F K C (stm.If t xs ys) (h, k, l)

  pub known_names : (t : ℕ) (k : Known) (args : List Tree) → K k → Each (TreeNames F K C) args → StmNames F K C (known t k args)
  known_names t k args h l = stm_in F K C (stm.Known (Some t) k args) (h, l)

  pub direct_names : (r : Option ℕ) (f : ℕ) (args : List Tree) → F f → Each (TreeNames F K C) args → StmNames F K C (call r (callee.Direct f) args)
  direct_names r f args h l = stm_in F K C (stm.Call r (callee.Direct f) args) (h, l)

  pub through_names : (r : Option ℕ) (t : Tree) (args : List Tree) → TreeNames F K C t → Each (TreeNames F K C) args → StmNames F K C (call r (callee.Through t) args)
  through_names r t args h l = stm_in F K C (stm.Call r (callee.Through t) args) (h, l)

  pub switched_names : (r : Option ℕ) (g : ℕ) (args : List Tree) → Each (TreeNames F K C) args → StmNames F K C (call r (callee.Switched g) args)
  switched_names r g args h = stm_in F K C (stm.Call r (callee.Switched g) args) (tt, h)

-- these by short names
pub record Naming : Type 1 where
  pub T : Tree → Type 0
  pub X : List Stm → Type 0
  pub join : (xs ys : List Stm) → X xs → X ys → X (xs ++ ys)

abbrev pub naming : (ℕ → Type 0) → (Known → Type 0) → (ℕ → Type 0) → Naming
naming F K C = record { T = TreeNames F K C; X = CodeNames F K C; join = both F K C }
