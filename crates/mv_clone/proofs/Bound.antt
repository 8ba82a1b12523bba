-- What the replacement of reads gives, level by level.
use Rattle.std.proofs.Common.{arith, ◌≡◌, ℕ, suc, List, [], ◌∷◌, length, map, refl, sym, ap, ◌∙◌, Option, None, Some}
use Rattle.std.specs.List.{zip}
use Rattle.mv_num.specs.declared.kind.Kind.{Kind}
use Rattle.mv_ir.specs.Trees.{found}
use Rattle.mv_ir.specs.declared.tree.Tree.{Tree, Number, Temp, Global, Function, Unary, Binary, Narrow}
use Rattle.mv_ir.specs.declared.tree.Tree.TheOpen.{Tree-F}
use Rattle.mv_ir.specs.declared.tree.Tree.TheOpen as tree
use Rattle.mv_ir.specs.declared.tree.Tree.TheVariants.{rolls-Number, rolls-Temp, rolls-Global, rolls-Function, rolls-Unary, rolls-Binary, rolls-Narrow}
use Rattle.mv_ir.specs.declared.tree.Tree.TheViews.{roll-Tree}
use Rattle.mv_ir.specs.declared.tree.Tree.TheFolds.{fold-roll-Tree, map-Tree}
use Rattle.mv_ir.specs.declared.stm.Array.{Array}
use Rattle.mv_ir.specs.declared.stm.Callee.{Callee}
use Rattle.mv_ast.specs.declared.program.Known.{Known}
use Rattle.mv_ir.specs.declared.stm.Stm.{Stm}
use Rattle.mv_ir.specs.declared.stm.Stm as at
use Rattle.mv_ir.specs.declared.stm.Stm.TheOpen.{Stm-F}
use Rattle.mv_ir.specs.declared.stm.Stm.TheOpen as stm
use Rattle.mv_ir.specs.declared.stm.Stm.TheVariants.{rolls-Set, rolls-SetGlobal, rolls-Divide, rolls-Check, rolls-Read, rolls-Write, rolls-Zero, rolls-If, rolls-Loop, rolls-Block, rolls-Break, rolls-Back, rolls-Call, rolls-Known, rolls-Return}
use Rattle.mv_ir.specs.declared.stm.Stm.TheViews.{roll-Stm}
use Rattle.mv_ir.specs.declared.stm.Stm.TheFolds.{fold-roll-Stm, map-Stm}
use Rattle.mv_clone.specs.Bind.{known_or_read, bound_node, bound_tree, bound_callee, bound_layer, bound_stm, bound_code}

pub zip_empty : (xs ys : List ℕ) → length ys ≡ 0 → zip xs ys ≡ []
zip_empty [] ys e = refl
zip_empty (x ∷ xs) [] e = refl
zip_empty (x ∷ xs) (y ∷ ys) e = let none : suc (length ys) ≡ 0 = e in absurd (omega arith)

pub none_found : (xs ys : List ℕ) (g : ℕ) → length ys ≡ 0 → found (zip xs ys) g ≡ None
none_found xs ys g e = ap (λ l. found l g) (zip_empty xs ys e)

module _ (ps : List (ℕ × ℕ)) where
  pub bound_tree_roll : (x : Tree-F Tree) → bound_tree ps (roll-Tree x) ≡ bound_node ps (map-Tree Tree Tree (bound_tree ps) x)
  unfolding bound_tree
  bound_tree_roll x = fold-roll-Tree Tree (bound_node ps) x

  pub bound_number : (n : ℕ) → bound_tree ps (Number n) ≡ Number n
  bound_number n = ap (bound_tree ps) (sym (rolls-Number n)) ∙ bound_tree_roll (tree.Number n) ∙ rolls-Number n

  pub bound_temp : (t : ℕ) → bound_tree ps (Temp t) ≡ Temp t
  bound_temp t = ap (bound_tree ps) (sym (rolls-Temp t)) ∙ bound_tree_roll (tree.Temp t) ∙ rolls-Temp t

  pub bound_read : (g : ℕ) → found ps g ≡ None → bound_tree ps (Global g) ≡ Global g
  bound_read g e = ap (bound_tree ps) (sym (rolls-Global g)) ∙ bound_tree_roll (tree.Global g) ∙ ap (known_or_read g) e ∙ rolls-Global g

  pub bound_switch : (g v : ℕ) → found ps g ≡ Some v → bound_tree ps (Global g) ≡ Number v
  bound_switch g v e = ap (bound_tree ps) (sym (rolls-Global g)) ∙ bound_tree_roll (tree.Global g) ∙ ap (known_or_read g) e ∙ rolls-Number v

  pub bound_function : (f : ℕ) → bound_tree ps (Function f) ≡ Function f
  bound_function f = ap (bound_tree ps) (sym (rolls-Function f)) ∙ bound_tree_roll (tree.Function f) ∙ rolls-Function f

  pub bound_unary : (o : ℕ) (a : Tree) → bound_tree ps (Unary o a) ≡ Unary o (bound_tree ps a)
  bound_unary o a = ap (bound_tree ps) (sym (rolls-Unary o a)) ∙ bound_tree_roll (tree.Unary o a) ∙ rolls-Unary o (bound_tree ps a)

  pub bound_binary : (o : ℕ) (a b : Tree) → bound_tree ps (Binary o a b) ≡ Binary o (bound_tree ps a) (bound_tree ps b)
  bound_binary o a b = ap (bound_tree ps) (sym (rolls-Binary o a b)) ∙ bound_tree_roll (tree.Binary o a b) ∙ rolls-Binary o (bound_tree ps a) (bound_tree ps b)

  pub bound_narrow : (k : Kind) (a : Tree) → bound_tree ps (Narrow k a) ≡ Narrow k (bound_tree ps a)
  bound_narrow k a = ap (bound_tree ps) (sym (rolls-Narrow k a)) ∙ bound_tree_roll (tree.Narrow k a) ∙ rolls-Narrow k (bound_tree ps a)

  pub bound_stm_roll : (x : Stm-F Stm) → bound_stm ps (roll-Stm x) ≡ roll-Stm (bound_layer ps (map-Stm Stm Stm (bound_stm ps) x))
  unfolding bound_stm
  bound_stm_roll x = fold-roll-Stm Stm (λ y. roll-Stm (bound_layer ps y)) x

  pub bound_set_stm : (t : ℕ) (v : Tree) → bound_stm ps (at.Set t v) ≡ at.Set t (bound_tree ps v)
  bound_set_stm t v = ap (bound_stm ps) (sym (rolls-Set t v)) ∙ bound_stm_roll (stm.Set t v) ∙ rolls-Set t (bound_tree ps v)

  pub bound_setglobal_stm : (g : ℕ) (v : Tree) → bound_stm ps (at.SetGlobal g v) ≡ at.SetGlobal g (bound_tree ps v)
  bound_setglobal_stm g v = ap (bound_stm ps) (sym (rolls-SetGlobal g v)) ∙ bound_stm_roll (stm.SetGlobal g v) ∙ rolls-SetGlobal g (bound_tree ps v)

  pub bound_divide_stm : (t : ℕ) (o : ℕ) (a : Tree) (b : Tree) → bound_stm ps (at.Divide t o a b) ≡ at.Divide t o (bound_tree ps a) (bound_tree ps b)
  bound_divide_stm t o a b = ap (bound_stm ps) (sym (rolls-Divide t o a b)) ∙ bound_stm_roll (stm.Divide t o a b) ∙ rolls-Divide t o (bound_tree ps a) (bound_tree ps b)

  pub bound_check_stm : (a : Array) (i : Tree) → bound_stm ps (at.Check a i) ≡ at.Check a (bound_tree ps i)
  bound_check_stm a i = ap (bound_stm ps) (sym (rolls-Check a i)) ∙ bound_stm_roll (stm.Check a i) ∙ rolls-Check a (bound_tree ps i)

  pub bound_read_stm : (t : ℕ) (a : Array) (i : Tree) → bound_stm ps (at.Read t a i) ≡ at.Read t a (bound_tree ps i)
  bound_read_stm t a i = ap (bound_stm ps) (sym (rolls-Read t a i)) ∙ bound_stm_roll (stm.Read t a i) ∙ rolls-Read t a (bound_tree ps i)

  pub bound_write_stm : (a : Array) (i : Tree) (v : Tree) → bound_stm ps (at.Write a i v) ≡ at.Write a (bound_tree ps i) (bound_tree ps v)
  bound_write_stm a i v = ap (bound_stm ps) (sym (rolls-Write a i v)) ∙ bound_stm_roll (stm.Write a i v) ∙ rolls-Write a (bound_tree ps i) (bound_tree ps v)

  pub bound_zero_stm : (l : ℕ) → bound_stm ps (at.Zero l) ≡ at.Zero l
  bound_zero_stm l = ap (bound_stm ps) (sym (rolls-Zero l)) ∙ bound_stm_roll (stm.Zero l) ∙ rolls-Zero l

  pub bound_if_stm : (t : Tree) (a : List Stm) (b : List Stm) → bound_stm ps (at.If t a b) ≡ at.If (bound_tree ps t) (bound_code ps a) (bound_code ps b)
  bound_if_stm t a b = ap (bound_stm ps) (sym (rolls-If t a b)) ∙ bound_stm_roll (stm.If t a b) ∙ rolls-If (bound_tree ps t) (bound_code ps a) (bound_code ps b)

  pub bound_loop_stm : (b : List Stm) → bound_stm ps (at.Loop b) ≡ at.Loop (bound_code ps b)
  bound_loop_stm b = ap (bound_stm ps) (sym (rolls-Loop b)) ∙ bound_stm_roll (stm.Loop b) ∙ rolls-Loop (bound_code ps b)

  pub bound_block_stm : (b : List Stm) → bound_stm ps (at.Block b) ≡ at.Block (bound_code ps b)
  bound_block_stm b = ap (bound_stm ps) (sym (rolls-Block b)) ∙ bound_stm_roll (stm.Block b) ∙ rolls-Block (bound_code ps b)

  pub bound_break_stm : (n : ℕ) → bound_stm ps (at.Break n) ≡ at.Break n
  bound_break_stm n = ap (bound_stm ps) (sym (rolls-Break n)) ∙ bound_stm_roll (stm.Break n) ∙ rolls-Break n

  pub bound_back_stm : (n : ℕ) → bound_stm ps (at.Back n) ≡ at.Back n
  bound_back_stm n = ap (bound_stm ps) (sym (rolls-Back n)) ∙ bound_stm_roll (stm.Back n) ∙ rolls-Back n

  pub bound_call_stm : (r : Option ℕ) (f : Callee) (args : List Tree) → bound_stm ps (at.Call r f args) ≡ at.Call r (bound_callee ps f) (map (bound_tree ps) args)
  bound_call_stm r f args = ap (bound_stm ps) (sym (rolls-Call r f args)) ∙ bound_stm_roll (stm.Call r f args) ∙ rolls-Call r (bound_callee ps f) (map (bound_tree ps) args)

  pub bound_known_stm : (r : Option ℕ) (k : Known) (args : List Tree) → bound_stm ps (at.Known r k args) ≡ at.Known r k (map (bound_tree ps) args)
  bound_known_stm r k args = ap (bound_stm ps) (sym (rolls-Known r k args)) ∙ bound_stm_roll (stm.Known r k args) ∙ rolls-Known r k (map (bound_tree ps) args)

  pub bound_return_stm : (v : Tree) → bound_stm ps (at.Return v) ≡ at.Return (bound_tree ps v)
  bound_return_stm v = ap (bound_stm ps) (sym (rolls-Return v)) ∙ bound_stm_roll (stm.Return v) ∙ rolls-Return (bound_tree ps v)

pub ruleset bound_trees = (bound_number, bound_temp, bound_read, bound_switch, bound_function, bound_unary, bound_binary, bound_narrow)

pub ruleset bound_stms = (
  bound_set_stm,
  bound_setglobal_stm,
  bound_divide_stm,
  bound_check_stm,
  bound_read_stm,
  bound_write_stm,
  bound_zero_stm,
  bound_if_stm,
  bound_loop_stm,
  bound_block_stm,
  bound_break_stm,
  bound_back_stm,
  bound_call_stm,
  bound_known_stm,
  bound_return_stm,
)
