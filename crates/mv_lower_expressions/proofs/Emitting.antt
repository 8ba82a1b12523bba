-- The trees and statements that are put together, as the definitions write them.
use Rattle.std.proofs.Common.{◌≡◌, ℕ, suc, ◌≤◌, Bool, true, false, ◌&&◌, List, [], ◌∷◌, length, max, Option, sym, refl, ap, ◌∙◌, arith}
use Rattle.std.specs.Prelude.{nat_le}
use Rattle.std.proofs.Math.Dec.{leb-suc-suc}
use Rattle.std.proofs.lemmas.Bool.{le-leb, leb-true, leb-false, lt-leb}
use Rattle.mv_num.specs.declared.kind.Kind.{Kind}
use Rattle.mv_ast.specs.declared.program.Known.{Known}
use Rattle.mv_ir.specs.declared.tree.Tree.{Tree}
use Rattle.mv_ir.specs.declared.tree.Tree as tr
use Rattle.mv_ir.specs.declared.tree.Tree.TheOpen as tree
use Rattle.mv_ir.specs.declared.tree.Tree.TheVariants.{rolls-Number, rolls-Temp, rolls-Global, rolls-Function, rolls-Unary, rolls-Binary, rolls-Narrow}
use Rattle.mv_ir.specs.declared.tree.Tree.TheViews.{roll-Tree}
use Rattle.mv_ir.specs.declared.stm.Array.{Array}
use Rattle.mv_ir.specs.declared.stm.Callee.{Callee}
use Rattle.mv_ir.specs.declared.stm.Stm.{Stm}
use Rattle.mv_ir.specs.declared.stm.Stm as at
use Rattle.mv_ir.specs.declared.stm.Stm.TheOpen as stm
use Rattle.mv_ir.specs.declared.stm.Stm.TheVariants.{rolls-Set, rolls-SetGlobal, rolls-Divide, rolls-Check, rolls-Read, rolls-Write, rolls-Zero, rolls-If, rolls-Loop, rolls-Block, rolls-Break, rolls-Call, rolls-Known, rolls-Return}
use Rattle.mv_ir.specs.declared.stm.Stm.TheViews.{roll-Stm}
use Rattle.mv_ir.specs.Trees.{depth}
use Rattle.mv_ir.proofs.Joining.{depth_positive}
use Rattle.mv_lower_spec.specs.Lowered.{is_low, is_empty}
use Rattle.mv_lower_expressions.specs.Values.{is_leaf}
use Rattle.mv_ir.proofs.Common.{depth_number, depth_temp, depth_global, depth_function, depth_unary, depth_binary, depth_narrow}

pub number_is : (n : ℕ) → tr.Number n ≡ roll-Tree (tree.Number n)
number_is n = sym (rolls-Number n)

pub temp_is : (t : ℕ) → tr.Temp t ≡ roll-Tree (tree.Temp t)
temp_is t = sym (rolls-Temp t)

pub global_is : (g : ℕ) → tr.Global g ≡ roll-Tree (tree.Global g)
global_is g = sym (rolls-Global g)

pub function_is : (f : ℕ) → tr.Function f ≡ roll-Tree (tree.Function f)
function_is f = sym (rolls-Function f)

pub unary_is : (o : ℕ) (a : Tree) → tr.Unary o a ≡ roll-Tree (tree.Unary o a)
unary_is o a = sym (rolls-Unary o a)

pub binary_is : (o : ℕ) (a b : Tree) → tr.Binary o a b ≡ roll-Tree (tree.Binary o a b)
binary_is o a b = sym (rolls-Binary o a b)

pub narrow_is : (k : Kind) (a : Tree) → tr.Narrow k a ≡ roll-Tree (tree.Narrow k a)
narrow_is k a = sym (rolls-Narrow k a)

pub set_is : (t : ℕ) (v : Tree) → at.Set t v ≡ roll-Stm (stm.Set t v)
set_is t v = sym (rolls-Set t v)

pub set_global_is : (g : ℕ) (v : Tree) → at.SetGlobal g v ≡ roll-Stm (stm.SetGlobal g v)
set_global_is g v = sym (rolls-SetGlobal g v)

pub divide_is : (t o : ℕ) (a b : Tree) → at.Divide t o a b ≡ roll-Stm (stm.Divide t o a b)
divide_is t o a b = sym (rolls-Divide t o a b)

pub check_is : (a : Array) (i : Tree) → at.Check a i ≡ roll-Stm (stm.Check a i)
check_is a i = sym (rolls-Check a i)

pub read_is : (t : ℕ) (a : Array) (i : Tree) → at.Read t a i ≡ roll-Stm (stm.Read t a i)
read_is t a i = sym (rolls-Read t a i)

pub write_is : (a : Array) (i v : Tree) → at.Write a i v ≡ roll-Stm (stm.Write a i v)
write_is a i v = sym (rolls-Write a i v)

pub zero_is : (l : ℕ) → at.Zero l ≡ roll-Stm (stm.Zero l)
zero_is l = sym (rolls-Zero l)

pub if_is : (t : Tree) (a b : List Stm) → at.If t a b ≡ roll-Stm (stm.If t a b)
if_is t a b = sym (rolls-If t a b)

pub loop_is : (b : List Stm) → at.Loop b ≡ roll-Stm (stm.Loop b)
loop_is b = sym (rolls-Loop b)

pub block_is : (b : List Stm) → at.Block b ≡ roll-Stm (stm.Block b)
block_is b = sym (rolls-Block b)

pub break_is : (n : ℕ) → at.Break n ≡ roll-Stm (stm.Break n)
break_is n = sym (rolls-Break n)

pub call_is : (r : Option ℕ) (f : Callee) (args : List Tree) → at.Call r f args ≡ roll-Stm (stm.Call r f args)
call_is r f args = sym (rolls-Call r f args)

pub known_is : (r : Option ℕ) (k : Known) (args : List Tree) → at.Known r k args ≡ roll-Stm (stm.Known r k args)
known_is r k args = sym (rolls-Known r k args)

pub return_is : (v : Tree) → at.Return v ≡ roll-Stm (stm.Return v)
return_is v = sym (rolls-Return v)

pub ruleset emitted = (number_is, temp_is, global_is, function_is, unary_is, binary_is, narrow_is, set_is, set_global_is, divide_is, check_is, read_is, write_is, zero_is, if_is, loop_is, block_is, break_is, call_is, known_is, return_is)

-- ---- depths

within : (t : Tree) (d l : ℕ) → depth t ≡ d → d ≤ l → nat_le (depth t) l ≡ true
within t d l e h = le-leb (depth t) l (omega arith)

beyond : (t : Tree) (a : Tree) → suc (depth a) ≤ depth t → nat_le (depth t) 1 ≡ false
beyond t a h = let p = depth_positive a in lt-leb (depth t) 1 (omega arith)

max_within : (x y l : ℕ) → nat_le (max x y) l ≡ (nat_le x l && nat_le y l)
max_within x y l = by (nat_le x l) (nat_le y l) refl refl
  where
    by : (p q : Bool) → nat_le x l ≡ p → nat_le y l ≡ q → nat_le (max x y) l ≡ (p && q)
    by true true e h = le-leb (max x y) l (omega (arith, leb-true x l e, leb-true y l h))
    by true false e h = lt-leb (max x y) l (omega (arith, leb-false y l h))
    by false q e h = lt-leb (max x y) l (omega (arith, leb-false x l e))

pub leaf_number : (n : ℕ) → is_leaf (tr.Number n) ≡ true
unfolding is_leaf
leaf_number n = within (tr.Number n) 1 1 (depth_number n) (omega arith)

pub leaf_temp : (n : ℕ) → is_leaf (tr.Temp n) ≡ true
unfolding is_leaf
leaf_temp n = within (tr.Temp n) 1 1 (depth_temp n) (omega arith)

pub leaf_global : (n : ℕ) → is_leaf (tr.Global n) ≡ true
unfolding is_leaf
leaf_global n = within (tr.Global n) 1 1 (depth_global n) (omega arith)

pub leaf_function : (n : ℕ) → is_leaf (tr.Function n) ≡ true
unfolding is_leaf
leaf_function n = within (tr.Function n) 1 1 (depth_function n) (omega arith)

pub leaf_unary : (o : ℕ) (a : Tree) → is_leaf (tr.Unary o a) ≡ false
unfolding is_leaf
leaf_unary o a = beyond (tr.Unary o a) a (omega (arith, depth_unary o a))

pub leaf_binary : (o : ℕ) (a b : Tree) → is_leaf (tr.Binary o a b) ≡ false
unfolding is_leaf
leaf_binary o a b = beyond (tr.Binary o a b) a (omega (arith, depth_binary o a b))

pub leaf_narrow : (k : Kind) (a : Tree) → is_leaf (tr.Narrow k a) ≡ false
unfolding is_leaf
leaf_narrow k a = beyond (tr.Narrow k a) a (omega (arith, depth_narrow k a))

pub ruleset leaves = (leaf_number, leaf_temp, leaf_global, leaf_function, leaf_unary, leaf_binary, leaf_narrow)

pub low_number : (n : ℕ) → is_low (tr.Number n) ≡ true
low_number n = within (tr.Number n) 1 2 (depth_number n) (omega arith)

pub low_temp : (n : ℕ) → is_low (tr.Temp n) ≡ true
low_temp n = within (tr.Temp n) 1 2 (depth_temp n) (omega arith)

pub low_global : (n : ℕ) → is_low (tr.Global n) ≡ true
low_global n = within (tr.Global n) 1 2 (depth_global n) (omega arith)

pub low_function : (n : ℕ) → is_low (tr.Function n) ≡ true
low_function n = within (tr.Function n) 1 2 (depth_function n) (omega arith)

pub low_unary : (o : ℕ) (a : Tree) → is_low (tr.Unary o a) ≡ is_leaf a
unfolding is_leaf
low_unary o a = ap (λ d. nat_le d 2) (depth_unary o a) ∙ leb-suc-suc (depth a) 1

pub low_binary : (o : ℕ) (a b : Tree) → is_low (tr.Binary o a b) ≡ (is_leaf a && is_leaf b)
unfolding is_leaf
low_binary o a b = ap (λ d. nat_le d 2) (depth_binary o a b) ∙ leb-suc-suc (max (depth a) (depth b)) 1 ∙ max_within (depth a) (depth b) 1

pub low_narrow : (k : Kind) (a : Tree) → is_low (tr.Narrow k a) ≡ is_leaf a
unfolding is_leaf
low_narrow k a = ap (λ d. nat_le d 2) (depth_narrow k a) ∙ leb-suc-suc (depth a) 1

pub ruleset lows = (low_number, low_temp, low_global, low_function, low_unary, low_binary, low_narrow)

-- ---- empty code

pub empty_none : (code : List Stm) → length code ≡ 0 → is_empty code ≡ true
empty_none [] e = refl
empty_none (s ∷ ss) e = let none : suc (length ss) ≡ 0 = e in absurd (omega arith)

pub empty_some : (code : List Stm) → (length code ≡ 0 → ⊥) → is_empty code ≡ false
empty_some [] h = absurd (h refl)
empty_some (s ∷ ss) h = refl

pub ruleset empties = (empty_none, empty_some)
