-- What renaming gives, at each variant.
use Rattle.std.proofs.Common.{◌≡◌, ℕ, List, map, sym, ap, ◌∙◌, Option}
use Rattle.mv_num.specs.declared.kind.Kind.{Kind}
use Rattle.mv_ir.specs.declared.tree.Tree.{Tree, Number, Temp, Global, Function, Unary, Binary, Narrow}
use Rattle.mv_ir.specs.declared.tree.Tree.TheOpen as tree
use Rattle.mv_ir.specs.declared.tree.Tree.TheVariants.{rolls-Number, rolls-Temp, rolls-Global, rolls-Function, rolls-Unary, rolls-Binary, rolls-Narrow}
use Rattle.mv_ir.specs.declared.stm.Array.{Array}
use Rattle.mv_ir.specs.declared.stm.Callee.{Callee}
use Rattle.mv_ast.specs.declared.program.Known.{Known}
use Rattle.mv_ir.specs.declared.stm.Stm.{Stm}
use Rattle.mv_ir.specs.declared.stm.Stm as at
use Rattle.mv_ir.specs.declared.stm.Stm.TheOpen as stm
use Rattle.mv_ir.specs.declared.stm.Stm.TheVariants.{rolls-Set, rolls-SetGlobal, rolls-Divide, rolls-Check, rolls-Read, rolls-Write, rolls-Zero, rolls-If, rolls-Loop, rolls-Block, rolls-Break, rolls-Back, rolls-Call, rolls-Known, rolls-Return}
use Rattle.mv_regalloc.specs.Rename.{renamed_tree, renamed_callee, renamed_result, renamed_stm, renamed_code}
use Rattle.mv_regalloc.proofs.RenamedTrees.{renamed_tree_roll, renamed_stm_roll}

module _ (c : ℕ → ℕ) where
  pub renamed_number : (n : ℕ) → renamed_tree c (Number n) ≡ Number n
  renamed_number n = ap (renamed_tree c) (sym (rolls-Number n)) ∙ renamed_tree_roll c (tree.Number n) ∙ rolls-Number n

  pub renamed_temp : (t : ℕ) → renamed_tree c (Temp t) ≡ Temp (c t)
  renamed_temp t = ap (renamed_tree c) (sym (rolls-Temp t)) ∙ renamed_tree_roll c (tree.Temp t) ∙ rolls-Temp (c t)

  pub renamed_global : (g : ℕ) → renamed_tree c (Global g) ≡ Global g
  renamed_global g = ap (renamed_tree c) (sym (rolls-Global g)) ∙ renamed_tree_roll c (tree.Global g) ∙ rolls-Global g

  pub renamed_function : (f : ℕ) → renamed_tree c (Function f) ≡ Function f
  renamed_function f = ap (renamed_tree c) (sym (rolls-Function f)) ∙ renamed_tree_roll c (tree.Function f) ∙ rolls-Function f

  pub renamed_unary : (o : ℕ) (a : Tree) → renamed_tree c (Unary o a) ≡ Unary o (renamed_tree c a)
  renamed_unary o a = ap (renamed_tree c) (sym (rolls-Unary o a)) ∙ renamed_tree_roll c (tree.Unary o a) ∙ rolls-Unary o (renamed_tree c a)

  pub renamed_binary : (o : ℕ) (a : Tree) (b : Tree) → renamed_tree c (Binary o a b) ≡ Binary o (renamed_tree c a) (renamed_tree c b)
  renamed_binary o a b = ap (renamed_tree c) (sym (rolls-Binary o a b)) ∙ renamed_tree_roll c (tree.Binary o a b) ∙ rolls-Binary o (renamed_tree c a) (renamed_tree c b)

  pub renamed_narrow : (k : Kind) (a : Tree) → renamed_tree c (Narrow k a) ≡ Narrow k (renamed_tree c a)
  renamed_narrow k a = ap (renamed_tree c) (sym (rolls-Narrow k a)) ∙ renamed_tree_roll c (tree.Narrow k a) ∙ rolls-Narrow k (renamed_tree c a)

  pub renamed_set_stm : (t : ℕ) (v : Tree) → renamed_stm c (at.Set t v) ≡ at.Set (c t) (renamed_tree c v)
  renamed_set_stm t v = ap (renamed_stm c) (sym (rolls-Set t v)) ∙ renamed_stm_roll c (stm.Set t v) ∙ rolls-Set (c t) (renamed_tree c v)

  pub renamed_setglobal_stm : (g : ℕ) (v : Tree) → renamed_stm c (at.SetGlobal g v) ≡ at.SetGlobal g (renamed_tree c v)
  renamed_setglobal_stm g v = ap (renamed_stm c) (sym (rolls-SetGlobal g v)) ∙ renamed_stm_roll c (stm.SetGlobal g v) ∙ rolls-SetGlobal g (renamed_tree c v)

  pub renamed_divide_stm : (t : ℕ) (o : ℕ) (a : Tree) (b : Tree) → renamed_stm c (at.Divide t o a b) ≡ at.Divide (c t) o (renamed_tree c a) (renamed_tree c b)
  renamed_divide_stm t o a b = ap (renamed_stm c) (sym (rolls-Divide t o a b)) ∙ renamed_stm_roll c (stm.Divide t o a b) ∙ rolls-Divide (c t) o (renamed_tree c a) (renamed_tree c b)

  pub renamed_check_stm : (a : Array) (i : Tree) → renamed_stm c (at.Check a i) ≡ at.Check a (renamed_tree c i)
  renamed_check_stm a i = ap (renamed_stm c) (sym (rolls-Check a i)) ∙ renamed_stm_roll c (stm.Check a i) ∙ rolls-Check a (renamed_tree c i)

  pub renamed_read_stm : (t : ℕ) (a : Array) (i : Tree) → renamed_stm c (at.Read t a i) ≡ at.Read (c t) a (renamed_tree c i)
  renamed_read_stm t a i = ap (renamed_stm c) (sym (rolls-Read t a i)) ∙ renamed_stm_roll c (stm.Read t a i) ∙ rolls-Read (c t) a (renamed_tree c i)

  pub renamed_write_stm : (a : Array) (i : Tree) (v : Tree) → renamed_stm c (at.Write a i v) ≡ at.Write a (renamed_tree c i) (renamed_tree c v)
  renamed_write_stm a i v = ap (renamed_stm c) (sym (rolls-Write a i v)) ∙ renamed_stm_roll c (stm.Write a i v) ∙ rolls-Write a (renamed_tree c i) (renamed_tree c v)

  pub renamed_zero_stm : (l : ℕ) → renamed_stm c (at.Zero l) ≡ at.Zero l
  renamed_zero_stm l = ap (renamed_stm c) (sym (rolls-Zero l)) ∙ renamed_stm_roll c (stm.Zero l) ∙ rolls-Zero l

  pub renamed_if_stm : (t : Tree) (a : List Stm) (b : List Stm) → renamed_stm c (at.If t a b) ≡ at.If (renamed_tree c t) (renamed_code c a) (renamed_code c b)
  renamed_if_stm t a b = ap (renamed_stm c) (sym (rolls-If t a b)) ∙ renamed_stm_roll c (stm.If t a b) ∙ rolls-If (renamed_tree c t) (renamed_code c a) (renamed_code c b)

  pub renamed_loop_stm : (b : List Stm) → renamed_stm c (at.Loop b) ≡ at.Loop (renamed_code c b)
  renamed_loop_stm b = ap (renamed_stm c) (sym (rolls-Loop b)) ∙ renamed_stm_roll c (stm.Loop b) ∙ rolls-Loop (renamed_code c b)

  pub renamed_block_stm : (b : List Stm) → renamed_stm c (at.Block b) ≡ at.Block (renamed_code c b)
  renamed_block_stm b = ap (renamed_stm c) (sym (rolls-Block b)) ∙ renamed_stm_roll c (stm.Block b) ∙ rolls-Block (renamed_code c b)

  pub renamed_break_stm : (n : ℕ) → renamed_stm c (at.Break n) ≡ at.Break n
  renamed_break_stm n = ap (renamed_stm c) (sym (rolls-Break n)) ∙ renamed_stm_roll c (stm.Break n) ∙ rolls-Break n

  pub renamed_back_stm : (n : ℕ) → renamed_stm c (at.Back n) ≡ at.Back n
  renamed_back_stm n = ap (renamed_stm c) (sym (rolls-Back n)) ∙ renamed_stm_roll c (stm.Back n) ∙ rolls-Back n

  pub renamed_call_stm : (r : Option ℕ) (f : Callee) (args : List Tree) → renamed_stm c (at.Call r f args) ≡ at.Call (renamed_result c r) (renamed_callee c f) (map (renamed_tree c) args)
  renamed_call_stm r f args = ap (renamed_stm c) (sym (rolls-Call r f args)) ∙ renamed_stm_roll c (stm.Call r f args) ∙ rolls-Call (renamed_result c r) (renamed_callee c f) (map (renamed_tree c) args)

  pub renamed_known_stm : (r : Option ℕ) (k : Known) (args : List Tree) → renamed_stm c (at.Known r k args) ≡ at.Known (renamed_result c r) k (map (renamed_tree c) args)
  renamed_known_stm r k args = ap (renamed_stm c) (sym (rolls-Known r k args)) ∙ renamed_stm_roll c (stm.Known r k args) ∙ rolls-Known (renamed_result c r) k (map (renamed_tree c) args)

  pub renamed_return_stm : (v : Tree) → renamed_stm c (at.Return v) ≡ at.Return (renamed_tree c v)
  renamed_return_stm v = ap (renamed_stm c) (sym (rolls-Return v)) ∙ renamed_stm_roll c (stm.Return v) ∙ rolls-Return (renamed_tree c v)

pub ruleset renamed_trees = (renamed_number, renamed_temp, renamed_global, renamed_function, renamed_unary, renamed_binary, renamed_narrow)

pub ruleset renamed_stms = (
  renamed_set_stm,
  renamed_setglobal_stm,
  renamed_divide_stm,
  renamed_check_stm,
  renamed_read_stm,
  renamed_write_stm,
  renamed_zero_stm,
  renamed_if_stm,
  renamed_loop_stm,
  renamed_block_stm,
  renamed_break_stm,
  renamed_back_stm,
  renamed_call_stm,
  renamed_known_stm,
  renamed_return_stm,
)
