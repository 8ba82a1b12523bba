-- What code costs and how deep trees are, at each variant.
use Rattle.std.proofs.Common.{◌≡◌, ℕ, suc, ◌+◌, ◌-◌, ◌*◌, ◌^◌, ◌<◌, ◌≤◌, List, [], ◌∷◌, length, take, get_or, Option, sym, ◌∙◌, ap, arith}
use Rattle.std.proofs.lemmas.List.{take_more}
use Rattle.mv_num.specs.declared.kind.Kind.{Kind}
use Rattle.mv_ast.specs.declared.program.Known.{Known}
use Rattle.mv_ir.specs.declared.tree.Tree.{Tree}
use Rattle.mv_ir.specs.declared.tree.Tree as tr
use Rattle.mv_ir.specs.declared.tree.Tree.TheOpen as tree
use Rattle.mv_ir.specs.declared.tree.Tree.TheVariants.{rolls-Number, rolls-Temp, rolls-Global, rolls-Function, rolls-Unary, rolls-Binary, rolls-Narrow}
use Rattle.mv_ir.specs.declared.stm.Array.{Array}
use Rattle.mv_ir.specs.declared.stm.Callee.{Callee}
use Rattle.mv_ir.specs.declared.stm.Stm.{Stm}
use Rattle.mv_ir.specs.declared.stm.Stm as at
use Rattle.mv_ir.specs.declared.stm.Stm.TheOpen.{Stm-F}
use Rattle.mv_ir.specs.declared.stm.Stm.TheOpen as stm
use Rattle.mv_ir.specs.declared.stm.Stm.TheVariants.{rolls-Set, rolls-SetGlobal, rolls-Divide, rolls-Check, rolls-Read, rolls-Write, rolls-Zero, rolls-If, rolls-Loop, rolls-Block, rolls-Break, rolls-Back, rolls-Call, rolls-Known, rolls-Return}
use Rattle.mv_ir.specs.declared.stm.Stm.TheViews.{roll-Stm}
use Rattle.mv_ir.specs.declared.stm.Stm.TheFolds.{map-Stm}
use Rattle.mv_ir.specs.Trees.{nodes, nodes_of_all}
use Rattle.mv_ir.specs.Measures.{callee_trees, layer_trees, layer_size, stm_size, stm_trees, trees}
use Rattle.mv_ir.proofs.Rolls.{nodes_roll, size_roll, trees_roll}
use Rattle.mv_ir.proofs.Common.{depth_number, depth_temp, depth_global, depth_function, depth_unary, depth_binary, depth_narrow}
use Rattle.mv_ir.proofs.Joining.{nodes_append}
use Rattle.mv_expand.specs.Placed.{straight_cost}
use Rattle.mv_expand.specs.Walking.{capped, stm_cost}
use Rattle.mv_expand.proofs.Costs.{cost_append}

pub ruleset depths = (depth_number, depth_temp, depth_global, depth_function, depth_unary, depth_binary, depth_narrow)

-- ---- nodes

pub nodes_number : (n : ℕ) → nodes (tr.Number n) ≡ 1
nodes_number n = ap nodes (sym (rolls-Number n)) ∙ nodes_roll (tree.Number n)

pub nodes_temp : (t : ℕ) → nodes (tr.Temp t) ≡ 1
nodes_temp t = ap nodes (sym (rolls-Temp t)) ∙ nodes_roll (tree.Temp t)

pub nodes_global : (g : ℕ) → nodes (tr.Global g) ≡ 1
nodes_global g = ap nodes (sym (rolls-Global g)) ∙ nodes_roll (tree.Global g)

pub nodes_function : (f : ℕ) → nodes (tr.Function f) ≡ 1
nodes_function f = ap nodes (sym (rolls-Function f)) ∙ nodes_roll (tree.Function f)

pub nodes_unary : (o : ℕ) (a : Tree) → nodes (tr.Unary o a) ≡ suc (nodes a)
nodes_unary o a = ap nodes (sym (rolls-Unary o a)) ∙ nodes_roll (tree.Unary o a)

pub nodes_binary : (o : ℕ) (a b : Tree) → nodes (tr.Binary o a b) ≡ suc (nodes a + nodes b)
nodes_binary o a b = ap nodes (sym (rolls-Binary o a b)) ∙ nodes_roll (tree.Binary o a b)

pub nodes_narrow : (k : Kind) (a : Tree) → nodes (tr.Narrow k a) ≡ suc (nodes a)
nodes_narrow k a = ap nodes (sym (rolls-Narrow k a)) ∙ nodes_roll (tree.Narrow k a)

pub ruleset counts = (nodes_number, nodes_temp, nodes_global, nodes_function, nodes_unary, nodes_binary, nodes_narrow)

-- ---- statements

pub cost_roll : (x : Stm-F Stm) → stm_cost (roll-Stm x) ≡ 8 * layer_size (map-Stm Stm ℕ stm_size x) + 3 * nodes_of_all (layer_trees (map-Stm Stm (List Tree) stm_trees x))
cost_roll x = λ i. 8 * size_roll x i + 3 * nodes_of_all (trees_roll x i)

pub cost_set : (t : ℕ) (v : Tree) → stm_cost (at.Set t v) ≡ 8 + 3 * nodes v
cost_set t v = ap stm_cost (sym (rolls-Set t v)) ∙ cost_roll (stm.Set t v) ∙ omega (arith)

pub cost_setglobal : (g : ℕ) (v : Tree) → stm_cost (at.SetGlobal g v) ≡ 8 + 3 * nodes v
cost_setglobal g v = ap stm_cost (sym (rolls-SetGlobal g v)) ∙ cost_roll (stm.SetGlobal g v) ∙ omega (arith)

pub cost_divide : (t o : ℕ) (a b : Tree) → stm_cost (at.Divide t o a b) ≡ 8 + 3 * (nodes a + nodes b)
cost_divide t o a b = ap stm_cost (sym (rolls-Divide t o a b)) ∙ cost_roll (stm.Divide t o a b) ∙ omega (arith)

pub cost_check : (a : Array) (i : Tree) → stm_cost (at.Check a i) ≡ 8 + 3 * nodes i
cost_check a i = ap stm_cost (sym (rolls-Check a i)) ∙ cost_roll (stm.Check a i) ∙ omega (arith)

pub cost_read : (t : ℕ) (a : Array) (i : Tree) → stm_cost (at.Read t a i) ≡ 8 + 3 * nodes i
cost_read t a i = ap stm_cost (sym (rolls-Read t a i)) ∙ cost_roll (stm.Read t a i) ∙ omega (arith)

pub cost_write : (a : Array) (i v : Tree) → stm_cost (at.Write a i v) ≡ 8 + 3 * (nodes i + nodes v)
cost_write a i v = ap stm_cost (sym (rolls-Write a i v)) ∙ cost_roll (stm.Write a i v) ∙ omega (arith)

pub cost_zero : (l : ℕ) → stm_cost (at.Zero l) ≡ 8
cost_zero l = ap stm_cost (sym (rolls-Zero l)) ∙ cost_roll (stm.Zero l) ∙ omega (arith)

pub cost_if : (t : Tree) (a b : List Stm) → stm_cost (at.If t a b) ≡ 8 + 3 * nodes t + straight_cost a + straight_cost b
cost_if t a b = ap stm_cost (sym (rolls-If t a b)) ∙ cost_roll (stm.If t a b) ∙ omega (arith, nodes_append (trees a) (trees b))

pub cost_loop : (b : List Stm) → stm_cost (at.Loop b) ≡ straight_cost b + 8
cost_loop b = ap stm_cost (sym (rolls-Loop b)) ∙ cost_roll (stm.Loop b) ∙ omega (arith)

pub cost_block : (b : List Stm) → stm_cost (at.Block b) ≡ straight_cost b + 8
cost_block b = ap stm_cost (sym (rolls-Block b)) ∙ cost_roll (stm.Block b) ∙ omega (arith)

pub cost_break : (n : ℕ) → stm_cost (at.Break n) ≡ 8
cost_break n = ap stm_cost (sym (rolls-Break n)) ∙ cost_roll (stm.Break n) ∙ omega (arith)

pub cost_back : (n : ℕ) → stm_cost (at.Back n) ≡ 8
cost_back n = ap stm_cost (sym (rolls-Back n)) ∙ cost_roll (stm.Back n) ∙ omega (arith)

pub cost_call : (r : Option ℕ) (f : Callee) (args : List Tree) → stm_cost (at.Call r f args) ≡ 8 + 3 * (nodes_of_all (callee_trees f) + nodes_of_all args)
cost_call r f args = ap stm_cost (sym (rolls-Call r f args)) ∙ cost_roll (stm.Call r f args) ∙ omega (arith, nodes_append (callee_trees f) args)

pub cost_known : (r : Option ℕ) (k : Known) (args : List Tree) → stm_cost (at.Known r k args) ≡ 8 + 3 * nodes_of_all args
cost_known r k args = ap stm_cost (sym (rolls-Known r k args)) ∙ cost_roll (stm.Known r k args) ∙ omega (arith)

pub cost_return : (v : Tree) → stm_cost (at.Return v) ≡ 8 + 3 * nodes v
cost_return v = ap stm_cost (sym (rolls-Return v)) ∙ cost_roll (stm.Return v) ∙ omega (arith)

pub ruleset stm_costs = (cost_set, cost_setglobal, cost_divide, cost_check, cost_read, cost_write, cost_zero, cost_if, cost_loop, cost_block, cost_break, cost_back, cost_call, cost_known, cost_return)

-- ---- lists

pub cost_more : (code : List Stm) (i : ℕ) (d : Stm) → i < length code → straight_cost (take (i + 1) code) ≡ straight_cost (take i code) + stm_cost (get_or code i d)
cost_more code i d lt = ap straight_cost (take_more code i d lt) ∙ omega (arith, cost_append (take i code) (get_or code i d ∷ []), nodes_append (stm_trees (get_or code i d)) [])

pub nodes_more : (ts : List Tree) (i : ℕ) (d : Tree) → i < length ts → nodes_of_all (take (i + 1) ts) ≡ nodes_of_all (take i ts) + nodes (get_or ts i d)
nodes_more ts i d lt = ap nodes_of_all (take_more ts i d lt) ∙ omega (arith, nodes_append (take i ts) (get_or ts i d ∷ []))

-- ---- counts as far as 64 bits hold them

pub uncapped : (n r m : ℕ) → m < 2 ^ 64 - 1 → r ≤ m → r ≡ capped n → n ≤ m
uncapped n r m lt le e = omega (arith, lt, le, e)

pub capped_sum : (a b x y r : ℕ) → x ≡ capped a → y ≡ capped b → r ≡ capped (x + y) → r ≡ capped (a + b)
capped_sum a b x y r ex ey er = omega (arith, ex, ey, er)

module _ (i before here after : ℕ) where
  pub count_more : (items trees : List Tree) (t : Tree) → items ≡ trees → i < length items → t ≡ get_or items i t → before ≡ capped (nodes_of_all (take i trees)) →
      here ≡ capped (nodes t) → after ≡ capped (before + here) → after ≡ capped (nodes_of_all (take (i + 1) trees))
  count_more items trees t e lt is eb eh ea =
      capped_sum (nodes_of_all (take i trees)) (nodes t) before here after eb eh ea ∙
      ap (λ l. capped (nodes_of_all (take i l) + nodes t)) (sym e) ∙ ap (λ n. capped (nodes_of_all (take i items) + nodes n)) is ∙
      ap capped (sym (nodes_more items i t lt)) ∙ ap (λ l. capped (nodes_of_all (take (i + 1) l))) e

  pub costs_more : (items code : List Stm) (s : Stm) → items ≡ code → i < length items → s ≡ get_or items i s → before ≡ capped (straight_cost (take i code)) →
      here ≡ capped (stm_cost s) → after ≡ capped (before + here) → after ≡ capped (straight_cost (take (i + 1) code))
  costs_more items code s e lt is eb eh ea =
      capped_sum (straight_cost (take i code)) (stm_cost s) before here after eb eh ea ∙
      ap (λ l. capped (straight_cost (take i l) + stm_cost s)) (sym e) ∙ ap (λ n. capped (straight_cost (take i items) + stm_cost n)) is ∙
      ap capped (sym (cost_more items i s lt)) ∙ ap (λ l. capped (straight_cost (take (i + 1) l))) e
