-- The definitions over trees at each variant.
use Rattle.std.proofs.Common.{◌≡◌, ℕ, true, false, cond, eqb, sym, ◌∙◌, ap}
use Rattle.std.specs.Prelude.{◌||◌}
use Rattle.mv_num.specs.declared.kind.Kind.{Kind}
use Rattle.mv_ir.specs.declared.tree.Tree.{Tree}
use Rattle.mv_ir.specs.declared.tree.Tree as tr
use Rattle.mv_ir.specs.declared.tree.Tree.TheOpen.{Tree-F}
use Rattle.mv_ir.specs.declared.tree.Tree.TheOpen as tree
use Rattle.mv_ir.specs.declared.tree.Tree.TheVariants.{rolls-Number, rolls-Temp, rolls-Global, rolls-Function, rolls-Unary, rolls-Binary, rolls-Narrow}
use Rattle.mv_ir.specs.declared.tree.Tree.TheViews.{roll-Tree, out-roll-Tree}
use Rattle.mv_ir.specs.declared.tree.Tree.TheFolds.{fold-roll-Tree, map-Tree}
use Rattle.mv_ir.specs.Live.{reads_temp}
use Rattle.mv_ir.specs.Rolled.{temp}
use Rattle.mv_ir.proofs.Rolls.{reads_temp_roll}
use Rattle.mv_fold.proofs.Reached.{eqb_self}
use Rattle.mv_tidy.specs.Tidying.{taking_node, taking, layer_is_leaf, is_leaf}

pub temp_is : (t : ℕ) → tr.Temp t ≡ temp t
temp_is t = sym (rolls-Temp t)

-- ---- what a tree reads

pub reads_number : (u n : ℕ) → reads_temp u (tr.Number n) ≡ false
reads_number u n = ap (reads_temp u) (sym (rolls-Number n)) ∙ reads_temp_roll u (tree.Number n)

pub reads_itself : (u t : ℕ) → reads_temp u (tr.Temp t) ≡ eqb t u
reads_itself u t = ap (reads_temp u) (sym (rolls-Temp t)) ∙ reads_temp_roll u (tree.Temp t)

pub itself_read : (u t : ℕ) → t ≡ u → reads_temp u (temp t) ≡ true
itself_read u t e = reads_temp_roll u (tree.Temp t) ∙ ap (λ n. eqb n u) e ∙ eqb_self u

pub reads_global : (u g : ℕ) → reads_temp u (tr.Global g) ≡ false
reads_global u g = ap (reads_temp u) (sym (rolls-Global g)) ∙ reads_temp_roll u (tree.Global g)

pub reads_function : (u f : ℕ) → reads_temp u (tr.Function f) ≡ false
reads_function u f = ap (reads_temp u) (sym (rolls-Function f)) ∙ reads_temp_roll u (tree.Function f)

pub reads_unary : (u o : ℕ) (a : Tree) → reads_temp u (tr.Unary o a) ≡ reads_temp u a
reads_unary u o a = ap (reads_temp u) (sym (rolls-Unary o a)) ∙ reads_temp_roll u (tree.Unary o a)

pub reads_binary : (u o : ℕ) (a b : Tree) → reads_temp u (tr.Binary o a b) ≡ (reads_temp u a || reads_temp u b)
reads_binary u o a b = ap (reads_temp u) (sym (rolls-Binary o a b)) ∙ reads_temp_roll u (tree.Binary o a b)

pub reads_narrow : (u : ℕ) (k : Kind) (a : Tree) → reads_temp u (tr.Narrow k a) ≡ reads_temp u a
reads_narrow u k a = ap (reads_temp u) (sym (rolls-Narrow k a)) ∙ reads_temp_roll u (tree.Narrow k a)

pub ruleset reading = (reads_number, reads_itself, reads_global, reads_function, reads_unary, reads_binary, reads_narrow)

-- ---- leaves

pub leaf_roll : (x : Tree-F Tree) → is_leaf (roll-Tree x) ≡ layer_is_leaf x
unfolding is_leaf
leaf_roll x = ap layer_is_leaf (out-roll-Tree x)

pub leaf_number : (n : ℕ) → is_leaf (tr.Number n) ≡ true
leaf_number n = ap is_leaf (sym (rolls-Number n)) ∙ leaf_roll (tree.Number n)

pub leaf_temp : (t : ℕ) → is_leaf (tr.Temp t) ≡ true
leaf_temp t = ap is_leaf (sym (rolls-Temp t)) ∙ leaf_roll (tree.Temp t)

pub leaf_global : (g : ℕ) → is_leaf (tr.Global g) ≡ true
leaf_global g = ap is_leaf (sym (rolls-Global g)) ∙ leaf_roll (tree.Global g)

pub leaf_function : (f : ℕ) → is_leaf (tr.Function f) ≡ true
leaf_function f = ap is_leaf (sym (rolls-Function f)) ∙ leaf_roll (tree.Function f)

pub leaf_unary : (o : ℕ) (a : Tree) → is_leaf (tr.Unary o a) ≡ false
leaf_unary o a = ap is_leaf (sym (rolls-Unary o a)) ∙ leaf_roll (tree.Unary o a)

pub leaf_binary : (o : ℕ) (a b : Tree) → is_leaf (tr.Binary o a b) ≡ false
leaf_binary o a b = ap is_leaf (sym (rolls-Binary o a b)) ∙ leaf_roll (tree.Binary o a b)

pub leaf_narrow : (k : Kind) (a : Tree) → is_leaf (tr.Narrow k a) ≡ false
leaf_narrow k a = ap is_leaf (sym (rolls-Narrow k a)) ∙ leaf_roll (tree.Narrow k a)

pub ruleset leaves = (leaf_number, leaf_temp, leaf_global, leaf_function, leaf_unary, leaf_binary, leaf_narrow)

-- ---- a value in place of a temporary

module _ (t : ℕ) (e : Tree) where
  pub taking_roll : (x : Tree-F Tree) → taking t e (roll-Tree x) ≡ taking_node t e (map-Tree Tree Tree (taking t e) x)
  unfolding taking
  taking_roll x = fold-roll-Tree Tree (taking_node t e) x

  pub taking_number : (n : ℕ) → taking t e (tr.Number n) ≡ tr.Number n
  taking_number n = ap (taking t e) (sym (rolls-Number n)) ∙ taking_roll (tree.Number n) ∙ rolls-Number n

  pub taking_same : (u : ℕ) → eqb u t ≡ true → taking t e (tr.Temp u) ≡ e
  taking_same u h = ap (taking t e) (sym (rolls-Temp u)) ∙ taking_roll (tree.Temp u) ∙ ap (λ c. cond c e (temp u)) h

  pub taking_other : (u : ℕ) → eqb u t ≡ false → taking t e (tr.Temp u) ≡ tr.Temp u
  taking_other u h = ap (taking t e) (sym (rolls-Temp u)) ∙ taking_roll (tree.Temp u) ∙ ap (λ c. cond c e (temp u)) h ∙ rolls-Temp u

  pub taking_global : (g : ℕ) → taking t e (tr.Global g) ≡ tr.Global g
  taking_global g = ap (taking t e) (sym (rolls-Global g)) ∙ taking_roll (tree.Global g) ∙ rolls-Global g

  pub taking_function : (f : ℕ) → taking t e (tr.Function f) ≡ tr.Function f
  taking_function f = ap (taking t e) (sym (rolls-Function f)) ∙ taking_roll (tree.Function f) ∙ rolls-Function f

  pub taking_unary : (o : ℕ) (a : Tree) → taking t e (tr.Unary o a) ≡ tr.Unary o (taking t e a)
  taking_unary o a = ap (taking t e) (sym (rolls-Unary o a)) ∙ taking_roll (tree.Unary o a) ∙ rolls-Unary o (taking t e a)

  pub taking_binary : (o : ℕ) (a b : Tree) → taking t e (tr.Binary o a b) ≡ tr.Binary o (taking t e a) (taking t e b)
  taking_binary o a b = ap (taking t e) (sym (rolls-Binary o a b)) ∙ taking_roll (tree.Binary o a b) ∙ rolls-Binary o (taking t e a) (taking t e b)

  pub taking_narrow : (k : Kind) (a : Tree) → taking t e (tr.Narrow k a) ≡ tr.Narrow k (taking t e a)
  taking_narrow k a = ap (taking t e) (sym (rolls-Narrow k a)) ∙ taking_roll (tree.Narrow k a) ∙ rolls-Narrow k (taking t e a)

pub ruleset takings = (taking_number, taking_same, taking_other, taking_global, taking_function, taking_unary, taking_binary, taking_narrow)
