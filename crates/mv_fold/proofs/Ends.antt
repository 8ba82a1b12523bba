-- What shortening the end of code gives, at each variant, and along the code's loop.
use Rattle.std.proofs.Common.{arith, ◌≡◌, ℕ, zero, suc, ◌+◌, ◌<◌, ◌≤◌, true, false, cond, eqb, List, [], ◌∷◌, ◌++◌, length, take, drop, get_or, Option, Some, None, refl, sym, ◌∙◌, ap}
use Rattle.std.proofs.lemmas.Bool.{lt-ltb, le-ltb}
use Rattle.std.proofs.lemmas.List.{take-append-drop, drop_all}
use Rattle.std.proofs.Math.Seq.{drop-cons}
use Rattle.mv_num.specs.declared.kind.Kind.{Kind}
use Rattle.mv_ir.specs.declared.tree.Tree.{Tree}
use Rattle.mv_ir.specs.declared.tree.Tree as tr
use Rattle.mv_ir.specs.declared.tree.Tree.TheOpen.{Tree-F}
use Rattle.mv_ir.specs.declared.tree.Tree.TheOpen as tree
use Rattle.mv_ir.specs.declared.tree.Tree.TheVariants.{rolls-Number, rolls-Temp, rolls-Global, rolls-Function, rolls-Unary, rolls-Binary, rolls-Narrow}
use Rattle.mv_ir.specs.declared.tree.Tree.TheViews.{roll-Tree, out-roll-Tree}
use Rattle.mv_ir.specs.declared.stm.Array.{Array}
use Rattle.mv_ir.specs.declared.stm.Callee.{Callee}
use Rattle.mv_ast.specs.declared.program.Known.{Known}
use Rattle.mv_ir.specs.declared.stm.Stm.{Stm}
use Rattle.mv_ir.specs.declared.stm.Stm as at
use Rattle.mv_ir.specs.declared.stm.Stm.TheOpen.{Stm-F}
use Rattle.mv_ir.specs.declared.stm.Stm.TheOpen as stm
use Rattle.mv_ir.specs.declared.stm.Stm.TheVariants.{rolls-Set, rolls-SetGlobal, rolls-Divide, rolls-Check, rolls-Read, rolls-Write, rolls-Zero, rolls-If, rolls-Loop, rolls-Block, rolls-Break, rolls-Back, rolls-Call, rolls-Known, rolls-Return}
use Rattle.mv_ir.specs.declared.stm.Stm.TheViews.{roll-Stm, out-roll-Stm}
use Rattle.mv_fold.specs.Opened.{layer_leaves, leaves, without_leave}
use Rattle.mv_fold.specs.Shortened.{layer_idles, idles, unless_idle, without_idle, layer_is_temp, is_temp, where_true, layer_taking, taking, layer_as_one, as_one, or_both, in_front, carried}

pub leaves_roll : (x : Stm-F Stm) → leaves (roll-Stm x) ≡ layer_leaves x
unfolding leaves
leaves_roll x = ap layer_leaves (out-roll-Stm x)

pub idles_roll : (x : Stm-F Stm) → idles (roll-Stm x) ≡ layer_idles x
unfolding idles
idles_roll x = ap layer_idles (out-roll-Stm x)

pub is_temp_roll : (t : ℕ) (x : Tree-F Tree) → is_temp t (roll-Tree x) ≡ layer_is_temp t x
unfolding is_temp
is_temp_roll t x = ap (layer_is_temp t) (out-roll-Tree x)

pub taking_roll : (t : ℕ) (v : Tree) (x : Stm-F Stm) → taking t v (roll-Stm x) ≡ layer_taking t v x
unfolding taking
taking_roll t v x = ap (layer_taking t v) (out-roll-Stm x)

pub as_one_roll : (temps : ℕ) (x : Stm-F Stm) (s : Stm) → as_one temps (roll-Stm x) s ≡ layer_as_one temps x s
unfolding as_one
as_one_roll temps x s = ap (λ y. layer_as_one temps y s) (out-roll-Stm x)

-- ---- at each variant

pub leaves_set : (t : ℕ) (v : Tree) → leaves (at.Set t v) ≡ false
leaves_set t v = ap leaves (sym (rolls-Set t v)) ∙ leaves_roll (stm.Set t v)

pub leaves_setglobal : (g : ℕ) (v : Tree) → leaves (at.SetGlobal g v) ≡ false
leaves_setglobal g v = ap leaves (sym (rolls-SetGlobal g v)) ∙ leaves_roll (stm.SetGlobal g v)

pub leaves_divide : (t o : ℕ) (a b : Tree) → leaves (at.Divide t o a b) ≡ false
leaves_divide t o a b = ap leaves (sym (rolls-Divide t o a b)) ∙ leaves_roll (stm.Divide t o a b)

pub leaves_check : (a : Array) (i : Tree) → leaves (at.Check a i) ≡ false
leaves_check a i = ap leaves (sym (rolls-Check a i)) ∙ leaves_roll (stm.Check a i)

pub leaves_read : (t : ℕ) (a : Array) (i : Tree) → leaves (at.Read t a i) ≡ false
leaves_read t a i = ap leaves (sym (rolls-Read t a i)) ∙ leaves_roll (stm.Read t a i)

pub leaves_write : (a : Array) (i v : Tree) → leaves (at.Write a i v) ≡ false
leaves_write a i v = ap leaves (sym (rolls-Write a i v)) ∙ leaves_roll (stm.Write a i v)

pub leaves_zero : (l : ℕ) → leaves (at.Zero l) ≡ false
leaves_zero l = ap leaves (sym (rolls-Zero l)) ∙ leaves_roll (stm.Zero l)

pub leaves_if : (t : Tree) (a b : List Stm) → leaves (at.If t a b) ≡ false
leaves_if t a b = ap leaves (sym (rolls-If t a b)) ∙ leaves_roll (stm.If t a b)

pub leaves_loop : (b : List Stm) → leaves (at.Loop b) ≡ false
leaves_loop b = ap leaves (sym (rolls-Loop b)) ∙ leaves_roll (stm.Loop b)

pub leaves_block : (b : List Stm) → leaves (at.Block b) ≡ false
leaves_block b = ap leaves (sym (rolls-Block b)) ∙ leaves_roll (stm.Block b)

pub leaves_break : (n : ℕ) → leaves (at.Break n) ≡ true
leaves_break n = ap leaves (sym (rolls-Break n)) ∙ leaves_roll (stm.Break n)

pub leaves_back : (n : ℕ) → leaves (at.Back n) ≡ false
leaves_back n = ap leaves (sym (rolls-Back n)) ∙ leaves_roll (stm.Back n)

pub leaves_call : (r : Option ℕ) (f : Callee) (args : List Tree) → leaves (at.Call r f args) ≡ false
leaves_call r f args = ap leaves (sym (rolls-Call r f args)) ∙ leaves_roll (stm.Call r f args)

pub leaves_known : (r : Option ℕ) (k : Known) (args : List Tree) → leaves (at.Known r k args) ≡ false
leaves_known r k args = ap leaves (sym (rolls-Known r k args)) ∙ leaves_roll (stm.Known r k args)

pub leaves_return : (v : Tree) → leaves (at.Return v) ≡ false
leaves_return v = ap leaves (sym (rolls-Return v)) ∙ leaves_roll (stm.Return v)

pub ruleset leaving = (leaves_set, leaves_setglobal, leaves_divide, leaves_check, leaves_read, leaves_write, leaves_zero, leaves_if, leaves_loop, leaves_block, leaves_break, leaves_back, leaves_call, leaves_known, leaves_return)

pub idles_set : (t : ℕ) (v : Tree) → idles (at.Set t v) ≡ true
idles_set t v = ap idles (sym (rolls-Set t v)) ∙ idles_roll (stm.Set t v)

pub idles_setglobal : (g : ℕ) (v : Tree) → idles (at.SetGlobal g v) ≡ false
idles_setglobal g v = ap idles (sym (rolls-SetGlobal g v)) ∙ idles_roll (stm.SetGlobal g v)

pub idles_divide : (t o : ℕ) (a b : Tree) → idles (at.Divide t o a b) ≡ false
idles_divide t o a b = ap idles (sym (rolls-Divide t o a b)) ∙ idles_roll (stm.Divide t o a b)

pub idles_check : (a : Array) (i : Tree) → idles (at.Check a i) ≡ false
idles_check a i = ap idles (sym (rolls-Check a i)) ∙ idles_roll (stm.Check a i)

pub idles_read : (t : ℕ) (a : Array) (i : Tree) → idles (at.Read t a i) ≡ false
idles_read t a i = ap idles (sym (rolls-Read t a i)) ∙ idles_roll (stm.Read t a i)

pub idles_write : (a : Array) (i v : Tree) → idles (at.Write a i v) ≡ false
idles_write a i v = ap idles (sym (rolls-Write a i v)) ∙ idles_roll (stm.Write a i v)

pub idles_zero : (l : ℕ) → idles (at.Zero l) ≡ false
idles_zero l = ap idles (sym (rolls-Zero l)) ∙ idles_roll (stm.Zero l)

pub idles_if : (t : Tree) (a b : List Stm) → idles (at.If t a b) ≡ false
idles_if t a b = ap idles (sym (rolls-If t a b)) ∙ idles_roll (stm.If t a b)

pub idles_loop : (b : List Stm) → idles (at.Loop b) ≡ false
idles_loop b = ap idles (sym (rolls-Loop b)) ∙ idles_roll (stm.Loop b)

pub idles_block : (b : List Stm) → idles (at.Block b) ≡ false
idles_block b = ap idles (sym (rolls-Block b)) ∙ idles_roll (stm.Block b)

pub idles_break : (n : ℕ) → idles (at.Break n) ≡ true
idles_break n = ap idles (sym (rolls-Break n)) ∙ idles_roll (stm.Break n)

pub idles_back : (n : ℕ) → idles (at.Back n) ≡ false
idles_back n = ap idles (sym (rolls-Back n)) ∙ idles_roll (stm.Back n)

pub idles_call : (r : Option ℕ) (f : Callee) (args : List Tree) → idles (at.Call r f args) ≡ false
idles_call r f args = ap idles (sym (rolls-Call r f args)) ∙ idles_roll (stm.Call r f args)

pub idles_known : (r : Option ℕ) (k : Known) (args : List Tree) → idles (at.Known r k args) ≡ false
idles_known r k args = ap idles (sym (rolls-Known r k args)) ∙ idles_roll (stm.Known r k args)

pub idles_return : (v : Tree) → idles (at.Return v) ≡ false
idles_return v = ap idles (sym (rolls-Return v)) ∙ idles_roll (stm.Return v)

pub ruleset idling = (idles_set, idles_setglobal, idles_divide, idles_check, idles_read, idles_write, idles_zero, idles_if, idles_loop, idles_block, idles_break, idles_back, idles_call, idles_known, idles_return)

pub temp_is_number : (t : ℕ) (n : ℕ) → is_temp t (tr.Number n) ≡ false
temp_is_number t n = ap (is_temp t) (sym (rolls-Number n)) ∙ is_temp_roll t (tree.Number n)

pub temp_is_temp : (t : ℕ) (n : ℕ) → is_temp t (tr.Temp n) ≡ eqb n t
temp_is_temp t n = ap (is_temp t) (sym (rolls-Temp n)) ∙ is_temp_roll t (tree.Temp n)

pub temp_is_global : (t : ℕ) (n : ℕ) → is_temp t (tr.Global n) ≡ false
temp_is_global t n = ap (is_temp t) (sym (rolls-Global n)) ∙ is_temp_roll t (tree.Global n)

pub temp_is_function : (t : ℕ) (n : ℕ) → is_temp t (tr.Function n) ≡ false
temp_is_function t n = ap (is_temp t) (sym (rolls-Function n)) ∙ is_temp_roll t (tree.Function n)

pub temp_is_unary : (t : ℕ) (o : ℕ) (a : Tree) → is_temp t (tr.Unary o a) ≡ false
temp_is_unary t o a = ap (is_temp t) (sym (rolls-Unary o a)) ∙ is_temp_roll t (tree.Unary o a)

pub temp_is_binary : (t : ℕ) (o : ℕ) (a b : Tree) → is_temp t (tr.Binary o a b) ≡ false
temp_is_binary t o a b = ap (is_temp t) (sym (rolls-Binary o a b)) ∙ is_temp_roll t (tree.Binary o a b)

pub temp_is_narrow : (t : ℕ) (k : Kind) (a : Tree) → is_temp t (tr.Narrow k a) ≡ false
temp_is_narrow t k a = ap (is_temp t) (sym (rolls-Narrow k a)) ∙ is_temp_roll t (tree.Narrow k a)

pub ruleset are_temps = (temp_is_number, temp_is_temp, temp_is_global, temp_is_function, temp_is_unary, temp_is_binary, temp_is_narrow)

pub taking_set : (t : ℕ) (v : Tree) (u : ℕ) (x : Tree) → taking t v (at.Set u x) ≡ None
taking_set t v u x = ap (taking t v) (sym (rolls-Set u x)) ∙ taking_roll t v (stm.Set u x)

pub taking_setglobal : (t : ℕ) (v : Tree) (g : ℕ) (x : Tree) → is_temp t x ≡ true → taking t v (at.SetGlobal g x) ≡ Some (at.SetGlobal g v)
taking_setglobal t v g x e = ap (taking t v) (sym (rolls-SetGlobal g x)) ∙ taking_roll t v (stm.SetGlobal g x) ∙ ap (λ c. where_true c (stm.SetGlobal g v)) e ∙ ap Some (rolls-SetGlobal g v)

pub taking_other_setglobal : (t : ℕ) (v : Tree) (g : ℕ) (x : Tree) → is_temp t x ≡ false → taking t v (at.SetGlobal g x) ≡ None
taking_other_setglobal t v g x e = ap (taking t v) (sym (rolls-SetGlobal g x)) ∙ taking_roll t v (stm.SetGlobal g x) ∙ ap (λ c. where_true c (stm.SetGlobal g v)) e

pub taking_divide : (t : ℕ) (v : Tree) (u o : ℕ) (a b : Tree) → taking t v (at.Divide u o a b) ≡ None
taking_divide t v u o a b = ap (taking t v) (sym (rolls-Divide u o a b)) ∙ taking_roll t v (stm.Divide u o a b)

pub taking_check : (t : ℕ) (v : Tree) (a : Array) (i : Tree) → taking t v (at.Check a i) ≡ None
taking_check t v a i = ap (taking t v) (sym (rolls-Check a i)) ∙ taking_roll t v (stm.Check a i)

pub taking_read : (t : ℕ) (v : Tree) (u : ℕ) (a : Array) (i : Tree) → taking t v (at.Read u a i) ≡ None
taking_read t v u a i = ap (taking t v) (sym (rolls-Read u a i)) ∙ taking_roll t v (stm.Read u a i)

pub taking_write : (t : ℕ) (v : Tree) (a : Array) (i x : Tree) → taking t v (at.Write a i x) ≡ None
taking_write t v a i x = ap (taking t v) (sym (rolls-Write a i x)) ∙ taking_roll t v (stm.Write a i x)

pub taking_zero : (t : ℕ) (v : Tree) (l : ℕ) → taking t v (at.Zero l) ≡ None
taking_zero t v l = ap (taking t v) (sym (rolls-Zero l)) ∙ taking_roll t v (stm.Zero l)

pub taking_if : (t : ℕ) (v : Tree) (u : Tree) (a b : List Stm) → taking t v (at.If u a b) ≡ None
taking_if t v u a b = ap (taking t v) (sym (rolls-If u a b)) ∙ taking_roll t v (stm.If u a b)

pub taking_loop : (t : ℕ) (v : Tree) (b : List Stm) → taking t v (at.Loop b) ≡ None
taking_loop t v b = ap (taking t v) (sym (rolls-Loop b)) ∙ taking_roll t v (stm.Loop b)

pub taking_block : (t : ℕ) (v : Tree) (b : List Stm) → taking t v (at.Block b) ≡ None
taking_block t v b = ap (taking t v) (sym (rolls-Block b)) ∙ taking_roll t v (stm.Block b)

pub taking_break : (t : ℕ) (v : Tree) (n : ℕ) → taking t v (at.Break n) ≡ None
taking_break t v n = ap (taking t v) (sym (rolls-Break n)) ∙ taking_roll t v (stm.Break n)

pub taking_back : (t : ℕ) (v : Tree) (n : ℕ) → taking t v (at.Back n) ≡ None
taking_back t v n = ap (taking t v) (sym (rolls-Back n)) ∙ taking_roll t v (stm.Back n)

pub taking_call : (t : ℕ) (v : Tree) (r : Option ℕ) (f : Callee) (args : List Tree) → taking t v (at.Call r f args) ≡ None
taking_call t v r f args = ap (taking t v) (sym (rolls-Call r f args)) ∙ taking_roll t v (stm.Call r f args)

pub taking_known : (t : ℕ) (v : Tree) (r : Option ℕ) (k : Known) (args : List Tree) → taking t v (at.Known r k args) ≡ None
taking_known t v r k args = ap (taking t v) (sym (rolls-Known r k args)) ∙ taking_roll t v (stm.Known r k args)

pub taking_return : (t : ℕ) (v : Tree) (x : Tree) → is_temp t x ≡ true → taking t v (at.Return x) ≡ Some (at.Return v)
taking_return t v x e = ap (taking t v) (sym (rolls-Return x)) ∙ taking_roll t v (stm.Return x) ∙ ap (λ c. where_true c (stm.Return v)) e ∙ ap Some (rolls-Return v)

pub taking_other_return : (t : ℕ) (v : Tree) (x : Tree) → is_temp t x ≡ false → taking t v (at.Return x) ≡ None
taking_other_return t v x e = ap (taking t v) (sym (rolls-Return x)) ∙ taking_roll t v (stm.Return x) ∙ ap (λ c. where_true c (stm.Return v)) e

pub ruleset takings = (
  taking_set,
  taking_setglobal,
  taking_other_setglobal,
  taking_divide,
  taking_check,
  taking_read,
  taking_write,
  taking_zero,
  taking_if,
  taking_loop,
  taking_block,
  taking_break,
  taking_back,
  taking_call,
  taking_known,
  taking_return,
  taking_other_return,
)

pub one_set : (temps t : ℕ) (v : Tree) (s : Stm) → t < temps → as_one temps (at.Set t v) s ≡ taking t v s
one_set temps t v s lt = ap (λ r. as_one temps r s) (sym (rolls-Set t v)) ∙ as_one_roll temps (stm.Set t v) s ∙ ap (λ c. cond c (taking t v s) None) (lt-ltb t temps lt)

pub one_past : (temps t : ℕ) (v : Tree) (s : Stm) → (t < temps → ⊥) → as_one temps (at.Set t v) s ≡ None
one_past temps t v s past = ap (λ r. as_one temps r s) (sym (rolls-Set t v)) ∙ as_one_roll temps (stm.Set t v) s ∙ ap (λ c. cond c (taking t v s) None) (le-ltb t temps (omega (arith, past)))

pub one_setglobal : (temps : ℕ) (g : ℕ) (v : Tree) (s : Stm) → as_one temps (at.SetGlobal g v) s ≡ None
one_setglobal temps g v s = ap (λ q. as_one temps q s) (sym (rolls-SetGlobal g v)) ∙ as_one_roll temps (stm.SetGlobal g v) s

pub one_divide : (temps : ℕ) (t o : ℕ) (a b : Tree) (s : Stm) → as_one temps (at.Divide t o a b) s ≡ None
one_divide temps t o a b s = ap (λ q. as_one temps q s) (sym (rolls-Divide t o a b)) ∙ as_one_roll temps (stm.Divide t o a b) s

pub one_check : (temps : ℕ) (a : Array) (i : Tree) (s : Stm) → as_one temps (at.Check a i) s ≡ None
one_check temps a i s = ap (λ q. as_one temps q s) (sym (rolls-Check a i)) ∙ as_one_roll temps (stm.Check a i) s

pub one_read : (temps : ℕ) (t : ℕ) (a : Array) (i : Tree) (s : Stm) → as_one temps (at.Read t a i) s ≡ None
one_read temps t a i s = ap (λ q. as_one temps q s) (sym (rolls-Read t a i)) ∙ as_one_roll temps (stm.Read t a i) s

pub one_write : (temps : ℕ) (a : Array) (i v : Tree) (s : Stm) → as_one temps (at.Write a i v) s ≡ None
one_write temps a i v s = ap (λ q. as_one temps q s) (sym (rolls-Write a i v)) ∙ as_one_roll temps (stm.Write a i v) s

pub one_zero : (temps : ℕ) (l : ℕ) (s : Stm) → as_one temps (at.Zero l) s ≡ None
one_zero temps l s = ap (λ q. as_one temps q s) (sym (rolls-Zero l)) ∙ as_one_roll temps (stm.Zero l) s

pub one_if : (temps : ℕ) (t : Tree) (a b : List Stm) (s : Stm) → as_one temps (at.If t a b) s ≡ None
one_if temps t a b s = ap (λ q. as_one temps q s) (sym (rolls-If t a b)) ∙ as_one_roll temps (stm.If t a b) s

pub one_loop : (temps : ℕ) (b : List Stm) (s : Stm) → as_one temps (at.Loop b) s ≡ None
one_loop temps b s = ap (λ q. as_one temps q s) (sym (rolls-Loop b)) ∙ as_one_roll temps (stm.Loop b) s

pub one_block : (temps : ℕ) (b : List Stm) (s : Stm) → as_one temps (at.Block b) s ≡ None
one_block temps b s = ap (λ q. as_one temps q s) (sym (rolls-Block b)) ∙ as_one_roll temps (stm.Block b) s

pub one_break : (temps : ℕ) (n : ℕ) (s : Stm) → as_one temps (at.Break n) s ≡ None
one_break temps n s = ap (λ q. as_one temps q s) (sym (rolls-Break n)) ∙ as_one_roll temps (stm.Break n) s

pub one_back : (temps : ℕ) (n : ℕ) (s : Stm) → as_one temps (at.Back n) s ≡ None
one_back temps n s = ap (λ q. as_one temps q s) (sym (rolls-Back n)) ∙ as_one_roll temps (stm.Back n) s

pub one_call : (temps : ℕ) (r : Option ℕ) (f : Callee) (args : List Tree) (s : Stm) → as_one temps (at.Call r f args) s ≡ None
one_call temps r f args s = ap (λ q. as_one temps q s) (sym (rolls-Call r f args)) ∙ as_one_roll temps (stm.Call r f args) s

pub one_known : (temps : ℕ) (r : Option ℕ) (k : Known) (args : List Tree) (s : Stm) → as_one temps (at.Known r k args) s ≡ None
one_known temps r k args s = ap (λ q. as_one temps q s) (sym (rolls-Known r k args)) ∙ as_one_roll temps (stm.Known r k args) s

pub one_return : (temps : ℕ) (v : Tree) (s : Stm) → as_one temps (at.Return v) s ≡ None
one_return temps v s = ap (λ q. as_one temps q s) (sym (rolls-Return v)) ∙ as_one_roll temps (stm.Return v) s

pub ruleset ones = (one_set, one_past, one_setglobal, one_divide, one_check, one_read, one_write, one_zero, one_if, one_loop, one_block, one_break, one_back, one_call, one_known, one_return)

-- ---- the end of a list

pub leave_last : (code : List Stm) (n : ℕ) (d : Stm) → length code ≡ suc n → leaves (get_or code n d) ≡ true → without_leave code ≡ take n code
leave_last [] n d e h = absurd (omega arith)
leave_last (s ∷ []) zero d e h = ap (λ c. cond c [] (s ∷ [])) h
leave_last (s ∷ []) (suc n) d e h = absurd (omega arith)
leave_last (s ∷ t ∷ ss) zero d e h = absurd (omega arith)
leave_last (s ∷ t ∷ ss) (suc n) d e h = ap (λ c. s ∷ c) (leave_last (t ∷ ss) n d (omega (arith, e)) h)

pub keep_last : (code : List Stm) (n : ℕ) (d : Stm) → length code ≡ suc n → leaves (get_or code n d) ≡ false → without_leave code ≡ code
keep_last [] n d e h = absurd (omega arith)
keep_last (s ∷ []) zero d e h = ap (λ c. cond c [] (s ∷ [])) h
keep_last (s ∷ []) (suc n) d e h = absurd (omega arith)
keep_last (s ∷ t ∷ ss) zero d e h = absurd (omega arith)
keep_last (s ∷ t ∷ ss) (suc n) d e h = ap (λ c. s ∷ c) (keep_last (t ∷ ss) n d (omega (arith, e)) h)

pub no_last : (code : List Stm) → length code ≡ 0 → without_leave code ≡ code
no_last [] e = refl
no_last (s ∷ ss) e = absurd (omega arith)

pub idle_last : (code : List Stm) (n : ℕ) (d : Stm) → length code ≡ suc n → idles (get_or code n d) ≡ true → without_idle (take n code) ≡ without_idle code
idle_last [] n d e h = absurd (omega arith)
idle_last (s ∷ []) zero d e h = sym (ap (λ c. cond c [] (s ∷ [])) h)
idle_last (s ∷ []) (suc n) d e h = absurd (omega arith)
idle_last (s ∷ t ∷ ss) zero d e h = absurd (omega arith)
idle_last (s ∷ t ∷ ss) (suc n) d e h = ap (unless_idle s) (idle_last (t ∷ ss) n d (omega (arith, e)) h)

pub busy_last : (code : List Stm) (n : ℕ) (d : Stm) → length code ≡ suc n → idles (get_or code n d) ≡ false → without_idle code ≡ code
busy_last [] n d e h = absurd (omega arith)
busy_last (s ∷ []) zero d e h = ap (λ c. cond c [] (s ∷ [])) h
busy_last (s ∷ []) (suc n) d e h = absurd (omega arith)
busy_last (s ∷ t ∷ ss) zero d e h = absurd (omega arith)
busy_last (s ∷ t ∷ ss) (suc n) d e h = ap (unless_idle s) (busy_last (t ∷ ss) n d (omega (arith, e)) h)

pub add_one : (n : ℕ) → suc n ≡ n + 1
add_one n = omega arith

module _ (temps : ℕ) where
  -- in front of what the end has become
  abbrev fronted : List Stm → List Stm → List Stm
  fronted [] end = end
  fronted (s ∷ ss) end = in_front temps s (fronted ss end)

  carried_append : (xs ys : List Stm) → carried temps (xs ++ ys) ≡ fronted xs (carried temps ys)
  carried_append [] ys = refl
  carried_append (s ∷ xs) ys = ap (in_front temps s) (carried_append xs ys)

  third : (s t : Stm) (xs : List Stm) (a b : Stm) → in_front temps s (t ∷ (xs ++ a ∷ b ∷ [])) ≡ s ∷ t ∷ (xs ++ a ∷ b ∷ [])
  third s t [] a b = refl
  third s t (x ∷ xs) a b = refl

  two_stay : (xs : List Stm) (a b : Stm) → fronted xs (a ∷ b ∷ []) ≡ xs ++ a ∷ b ∷ []
  two_stay [] a b = refl
  two_stay (s ∷ []) a b = refl
  two_stay (s ∷ t ∷ xs) a b = ap (in_front temps s) (two_stay (t ∷ xs) a b) ∙ third s t xs a b

  split : (code : List Stm) (n : ℕ) (d e : Stm) → length code ≡ n + 2 → code ≡ take n code ++ get_or code n d ∷ get_or code (n + 1) e ∷ []
  split code n d e h =
      sym (take-append-drop n code) ∙
      ap (λ l. take n code ++ l) (drop-cons code n d (omega (arith, h)) ∙ ap (λ k. get_or code n d ∷ drop k code) (add_one n) ∙
      ap (λ l. get_or code n d ∷ l) (drop-cons code (n + 1) e (omega (arith, h)) ∙ ap (λ l. get_or code (n + 1) e ∷ l) (drop_all (suc (n + 1)) code (omega (arith, h)))))

  pub end_as_one : (code : List Stm) (n : ℕ) (d e q : Stm) → length code ≡ n + 2 → as_one temps (get_or code n d) (get_or code (n + 1) e) ≡ Some q →
      carried temps (take n code ++ q ∷ []) ≡ carried temps code
  end_as_one code n d e q h one =
      carried_append (take n code) (q ∷ []) ∙
      ap (λ (x : Option Stm). fronted (take n code) (or_both x (get_or code n d) (get_or code (n + 1) e))) (sym one) ∙
      sym (carried_append (take n code) (get_or code n d ∷ get_or code (n + 1) e ∷ [])) ∙ ap (carried temps) (sym (split code n d e h))

  pub end_stays : (code : List Stm) (n : ℕ) (d e : Stm) → length code ≡ n + 2 → as_one temps (get_or code n d) (get_or code (n + 1) e) ≡ None → carried temps code ≡ code
  end_stays code n d e h none =
      ap (carried temps) (split code n d e h) ∙ carried_append (take n code) (get_or code n d ∷ get_or code (n + 1) e ∷ []) ∙
      ap (λ (x : Option Stm). fronted (take n code) (or_both x (get_or code n d) (get_or code (n + 1) e))) none ∙
      two_stay (take n code) (get_or code n d) (get_or code (n + 1) e) ∙ sym (split code n d e h)

  pub short_stays : (code : List Stm) → length code ≤ 1 → carried temps code ≡ code
  short_stays [] h = refl
  short_stays (s ∷ []) h = refl
  short_stays (s ∷ t ∷ ss) h = absurd (omega (arith, h))
