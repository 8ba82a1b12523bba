-- What folding gives, at each variant.
use Rattle.std.proofs.Common.{arith, ◌≡◌, ℕ, zero, suc, ◌+◌, ◌<◌, ◌≤◌, true, false, cond, eqb, List, [], ◌∷◌, ◌++◌, length, map, take, drop, get_or, Option, Some, None, refl, sym, ◌∙◌, ap, subst, ◌⊎◌, inl, inr, append_assoc, append-nil}
use Rattle.std.proofs.lemmas.List.{take_more, take_all, take-append-drop}
use Rattle.std.proofs.Math.Seq.{drop-cons}
use Rattle.mv_num.specs.declared.kind.Kind.{Kind}
use Rattle.mv_num.specs.Words as word
use Rattle.mv_ir.specs.declared.tree.Tree.{Tree}
use Rattle.mv_ir.specs.declared.tree.Tree as tr
use Rattle.mv_ir.specs.declared.tree.Tree.TheOpen as tree
use Rattle.mv_ir.specs.declared.tree.Tree.TheVariants.{rolls-Number, rolls-Temp, rolls-Global, rolls-Function, rolls-Unary, rolls-Binary, rolls-Narrow}
use Rattle.mv_ir.specs.declared.tree.Tree.TheViews.{roll-Tree}
use Rattle.mv_ir.specs.declared.stm.Array.{Array}
use Rattle.mv_ir.specs.declared.stm.Callee.{Callee}
use Rattle.mv_ast.specs.declared.program.Known.{Known}
use Rattle.mv_ir.specs.declared.stm.Stm.{Stm}
use Rattle.mv_ir.specs.declared.stm.Stm as at
use Rattle.mv_ir.specs.declared.stm.Stm.TheOpen as stm
use Rattle.mv_ir.specs.declared.stm.Stm.TheVariants.{rolls-Set, rolls-SetGlobal, rolls-Divide, rolls-Check, rolls-Read, rolls-Write, rolls-Zero, rolls-If, rolls-Loop, rolls-Block, rolls-Break, rolls-Back, rolls-Call, rolls-Known, rolls-Return}
use Rattle.mv_num.specs.Words.{as_word}
use Rattle.mv_ir.specs.Trees.{unary, binary, divide}
use Rattle.mv_fold.specs.Simple.{constant, one_or, two_or, simple_tree, simple_callee, simple_stm, simple_code, jumps, ended, division, choice}
use Rattle.mv_fold.specs.Opened.{blocked, looped}
use Rattle.mv_fold.proofs.Levels.{not_zero}
use Rattle.mv_fold.proofs.SimpleKept.{constant_roll, jumps_roll, simple_tree_roll, simple_stm_roll}
use Rattle.mv_fold.proofs.Ends.{add_one}

pub constant_number : (n : ℕ) → constant (tr.Number n) ≡ Some n
constant_number n = ap constant (sym (rolls-Number n)) ∙ constant_roll (tree.Number n)

pub constant_temp : (n : ℕ) → constant (tr.Temp n) ≡ None
constant_temp n = ap constant (sym (rolls-Temp n)) ∙ constant_roll (tree.Temp n)

pub constant_global : (n : ℕ) → constant (tr.Global n) ≡ None
constant_global n = ap constant (sym (rolls-Global n)) ∙ constant_roll (tree.Global n)

pub constant_function : (n : ℕ) → constant (tr.Function n) ≡ None
constant_function n = ap constant (sym (rolls-Function n)) ∙ constant_roll (tree.Function n)

pub constant_unary : (o : ℕ) (a : Tree) → constant (tr.Unary o a) ≡ None
constant_unary o a = ap constant (sym (rolls-Unary o a)) ∙ constant_roll (tree.Unary o a)

pub constant_binary : (o : ℕ) (a : Tree) (b : Tree) → constant (tr.Binary o a b) ≡ None
constant_binary o a b = ap constant (sym (rolls-Binary o a b)) ∙ constant_roll (tree.Binary o a b)

pub constant_narrow : (k : Kind) (a : Tree) → constant (tr.Narrow k a) ≡ None
constant_narrow k a = ap constant (sym (rolls-Narrow k a)) ∙ constant_roll (tree.Narrow k a)

pub simple_number : (n : ℕ) → simple_tree (tr.Number n) ≡ tr.Number n
simple_number n = ap simple_tree (sym (rolls-Number n)) ∙ simple_tree_roll (tree.Number n) ∙ rolls-Number n

pub simple_temp : (n : ℕ) → simple_tree (tr.Temp n) ≡ tr.Temp n
simple_temp n = ap simple_tree (sym (rolls-Temp n)) ∙ simple_tree_roll (tree.Temp n) ∙ rolls-Temp n

pub simple_global : (n : ℕ) → simple_tree (tr.Global n) ≡ tr.Global n
simple_global n = ap simple_tree (sym (rolls-Global n)) ∙ simple_tree_roll (tree.Global n) ∙ rolls-Global n

pub simple_function : (n : ℕ) → simple_tree (tr.Function n) ≡ tr.Function n
simple_function n = ap simple_tree (sym (rolls-Function n)) ∙ simple_tree_roll (tree.Function n) ∙ rolls-Function n

pub simple_unary_number : (o : ℕ) (a : Tree) (n : ℕ) → constant (simple_tree a) ≡ Some n → simple_tree (tr.Unary o a) ≡ tr.Number (unary o n)
simple_unary_number o a n e =
    ap simple_tree (sym (rolls-Unary o a)) ∙ simple_tree_roll (tree.Unary o a) ∙ ap (λ c. one_or c (unary o) (roll-Tree (tree.Unary o (simple_tree a)))) e ∙ rolls-Number (unary o n)

pub simple_unary_tree : (o : ℕ) (a : Tree) → constant (simple_tree a) ≡ None → simple_tree (tr.Unary o a) ≡ tr.Unary o (simple_tree a)
simple_unary_tree o a e =
    ap simple_tree (sym (rolls-Unary o a)) ∙ simple_tree_roll (tree.Unary o a) ∙ ap (λ c. one_or c (unary o) (roll-Tree (tree.Unary o (simple_tree a)))) e ∙ rolls-Unary o (simple_tree a)

pub simple_narrow_number : (k : Kind) (a : Tree) (n : ℕ) → constant (simple_tree a) ≡ Some n → simple_tree (tr.Narrow k a) ≡ tr.Number (word.narrow k n)
simple_narrow_number k a n e =
    ap simple_tree (sym (rolls-Narrow k a)) ∙ simple_tree_roll (tree.Narrow k a) ∙ ap (λ c. one_or c (word.narrow k) (roll-Tree (tree.Narrow k (simple_tree a)))) e ∙ rolls-Number (word.narrow k n)

pub simple_narrow_tree : (k : Kind) (a : Tree) → constant (simple_tree a) ≡ None → simple_tree (tr.Narrow k a) ≡ tr.Narrow k (simple_tree a)
simple_narrow_tree k a e =
    ap simple_tree (sym (rolls-Narrow k a)) ∙ simple_tree_roll (tree.Narrow k a) ∙ ap (λ c. one_or c (word.narrow k) (roll-Tree (tree.Narrow k (simple_tree a)))) e ∙ rolls-Narrow k (simple_tree a)

binary_by : (o : ℕ) (a b : Tree) (c d : Option ℕ) → constant (simple_tree a) ≡ c → constant (simple_tree b) ≡ d → simple_tree (tr.Binary o a b) ≡ two_or c d (binary o) (roll-Tree (tree.Binary o (simple_tree a) (simple_tree b)))
binary_by o a b c d e h =
    ap simple_tree (sym (rolls-Binary o a b)) ∙ simple_tree_roll (tree.Binary o a b) ∙
    ap (λ x. two_or x (constant (simple_tree b)) (binary o) (roll-Tree (tree.Binary o (simple_tree a) (simple_tree b)))) e ∙ ap (λ x. two_or c x (binary o) (roll-Tree (tree.Binary o (simple_tree a) (simple_tree b)))) h

pub simple_binary_number : (o : ℕ) (a b : Tree) (n m : ℕ) → constant (simple_tree a) ≡ Some n → constant (simple_tree b) ≡ Some m → simple_tree (tr.Binary o a b) ≡ tr.Number (binary o n m)
simple_binary_number o a b n m e h = binary_by o a b (Some n) (Some m) e h ∙ rolls-Number (binary o n m)

pub simple_binary_left : (o : ℕ) (a b : Tree) → constant (simple_tree a) ≡ None → simple_tree (tr.Binary o a b) ≡ tr.Binary o (simple_tree a) (simple_tree b)
simple_binary_left o a b e = by (constant (simple_tree b)) refl
  where
    by : (d : Option ℕ) → constant (simple_tree b) ≡ d → simple_tree (tr.Binary o a b) ≡ tr.Binary o (simple_tree a) (simple_tree b)
    by None h = binary_by o a b None None e h ∙ rolls-Binary o (simple_tree a) (simple_tree b)
    by (Some m) h = binary_by o a b None (Some m) e h ∙ rolls-Binary o (simple_tree a) (simple_tree b)

pub simple_binary_right : (o : ℕ) (a b : Tree) (n : ℕ) → constant (simple_tree a) ≡ Some n → constant (simple_tree b) ≡ None → simple_tree (tr.Binary o a b) ≡ tr.Binary o (simple_tree a) (simple_tree b)
simple_binary_right o a b n e h = binary_by o a b (Some n) None e h ∙ rolls-Binary o (simple_tree a) (simple_tree b)

pub jumps_set : (t : ℕ) (v : Tree) → jumps (at.Set t v) ≡ false
jumps_set t v = ap jumps (sym (rolls-Set t v)) ∙ jumps_roll (stm.Set t v)

pub jumps_setglobal : (g : ℕ) (v : Tree) → jumps (at.SetGlobal g v) ≡ false
jumps_setglobal g v = ap jumps (sym (rolls-SetGlobal g v)) ∙ jumps_roll (stm.SetGlobal g v)

pub jumps_divide : (t : ℕ) (o : ℕ) (a : Tree) (b : Tree) → jumps (at.Divide t o a b) ≡ false
jumps_divide t o a b = ap jumps (sym (rolls-Divide t o a b)) ∙ jumps_roll (stm.Divide t o a b)

pub jumps_check : (a : Array) (i : Tree) → jumps (at.Check a i) ≡ false
jumps_check a i = ap jumps (sym (rolls-Check a i)) ∙ jumps_roll (stm.Check a i)

pub jumps_read : (t : ℕ) (a : Array) (i : Tree) → jumps (at.Read t a i) ≡ false
jumps_read t a i = ap jumps (sym (rolls-Read t a i)) ∙ jumps_roll (stm.Read t a i)

pub jumps_write : (a : Array) (i : Tree) (v : Tree) → jumps (at.Write a i v) ≡ false
jumps_write a i v = ap jumps (sym (rolls-Write a i v)) ∙ jumps_roll (stm.Write a i v)

pub jumps_zero : (l : ℕ) → jumps (at.Zero l) ≡ false
jumps_zero l = ap jumps (sym (rolls-Zero l)) ∙ jumps_roll (stm.Zero l)

pub jumps_if : (t : Tree) (a : List Stm) (b : List Stm) → jumps (at.If t a b) ≡ false
jumps_if t a b = ap jumps (sym (rolls-If t a b)) ∙ jumps_roll (stm.If t a b)

pub jumps_loop : (b : List Stm) → jumps (at.Loop b) ≡ false
jumps_loop b = ap jumps (sym (rolls-Loop b)) ∙ jumps_roll (stm.Loop b)

pub jumps_block : (b : List Stm) → jumps (at.Block b) ≡ false
jumps_block b = ap jumps (sym (rolls-Block b)) ∙ jumps_roll (stm.Block b)

pub jumps_break : (n : ℕ) → jumps (at.Break n) ≡ true
jumps_break n = ap jumps (sym (rolls-Break n)) ∙ jumps_roll (stm.Break n)

pub jumps_back : (n : ℕ) → jumps (at.Back n) ≡ true
jumps_back n = ap jumps (sym (rolls-Back n)) ∙ jumps_roll (stm.Back n)

pub jumps_call : (r : Option ℕ) (f : Callee) (args : List Tree) → jumps (at.Call r f args) ≡ false
jumps_call r f args = ap jumps (sym (rolls-Call r f args)) ∙ jumps_roll (stm.Call r f args)

pub jumps_known : (r : Option ℕ) (k : Known) (args : List Tree) → jumps (at.Known r k args) ≡ false
jumps_known r k args = ap jumps (sym (rolls-Known r k args)) ∙ jumps_roll (stm.Known r k args)

pub jumps_return : (v : Tree) → jumps (at.Return v) ≡ true
jumps_return v = ap jumps (sym (rolls-Return v)) ∙ jumps_roll (stm.Return v)

pub simple_set_stm : (t : ℕ) (v : Tree) → simple_stm (at.Set t v) ≡ at.Set t (simple_tree v) ∷ []
simple_set_stm t v = ap simple_stm (sym (rolls-Set t v)) ∙ simple_stm_roll (stm.Set t v) ∙ ap (λ s. s ∷ []) (rolls-Set t (simple_tree v))

pub simple_setglobal_stm : (g : ℕ) (v : Tree) → simple_stm (at.SetGlobal g v) ≡ at.SetGlobal g (simple_tree v) ∷ []
simple_setglobal_stm g v = ap simple_stm (sym (rolls-SetGlobal g v)) ∙ simple_stm_roll (stm.SetGlobal g v) ∙ ap (λ s. s ∷ []) (rolls-SetGlobal g (simple_tree v))

pub simple_divide_stm : (t : ℕ) (o : ℕ) (a : Tree) (b : Tree) → simple_stm (at.Divide t o a b) ≡ division (constant (simple_tree a)) (constant (simple_tree b)) t o (simple_tree a) (simple_tree b)
simple_divide_stm t o a b = ap simple_stm (sym (rolls-Divide t o a b)) ∙ simple_stm_roll (stm.Divide t o a b)

pub simple_check_stm : (a : Array) (i : Tree) → simple_stm (at.Check a i) ≡ at.Check a (simple_tree i) ∷ []
simple_check_stm a i = ap simple_stm (sym (rolls-Check a i)) ∙ simple_stm_roll (stm.Check a i) ∙ ap (λ s. s ∷ []) (rolls-Check a (simple_tree i))

pub simple_read_stm : (t : ℕ) (a : Array) (i : Tree) → simple_stm (at.Read t a i) ≡ at.Read t a (simple_tree i) ∷ []
simple_read_stm t a i = ap simple_stm (sym (rolls-Read t a i)) ∙ simple_stm_roll (stm.Read t a i) ∙ ap (λ s. s ∷ []) (rolls-Read t a (simple_tree i))

pub simple_write_stm : (a : Array) (i : Tree) (v : Tree) → simple_stm (at.Write a i v) ≡ at.Write a (simple_tree i) (simple_tree v) ∷ []
simple_write_stm a i v = ap simple_stm (sym (rolls-Write a i v)) ∙ simple_stm_roll (stm.Write a i v) ∙ ap (λ s. s ∷ []) (rolls-Write a (simple_tree i) (simple_tree v))

pub simple_zero_stm : (l : ℕ) → simple_stm (at.Zero l) ≡ at.Zero l ∷ []
simple_zero_stm l = ap simple_stm (sym (rolls-Zero l)) ∙ simple_stm_roll (stm.Zero l) ∙ ap (λ s. s ∷ []) (rolls-Zero l)

pub simple_if_stm : (t : Tree) (a : List Stm) (b : List Stm) → simple_stm (at.If t a b) ≡ choice (constant (simple_tree t)) (simple_tree t) (simple_code a) (simple_code b)
simple_if_stm t a b = ap simple_stm (sym (rolls-If t a b)) ∙ simple_stm_roll (stm.If t a b)

pub simple_loop_stm : (b : List Stm) → simple_stm (at.Loop b) ≡ looped (simple_code b)
simple_loop_stm b = ap simple_stm (sym (rolls-Loop b)) ∙ simple_stm_roll (stm.Loop b)

pub simple_block_stm : (b : List Stm) → simple_stm (at.Block b) ≡ blocked (simple_code b)
simple_block_stm b = ap simple_stm (sym (rolls-Block b)) ∙ simple_stm_roll (stm.Block b)

pub simple_break_stm : (n : ℕ) → simple_stm (at.Break n) ≡ at.Break n ∷ []
simple_break_stm n = ap simple_stm (sym (rolls-Break n)) ∙ simple_stm_roll (stm.Break n) ∙ ap (λ s. s ∷ []) (rolls-Break n)

pub simple_back_stm : (n : ℕ) → simple_stm (at.Back n) ≡ at.Back n ∷ []
simple_back_stm n = ap simple_stm (sym (rolls-Back n)) ∙ simple_stm_roll (stm.Back n) ∙ ap (λ s. s ∷ []) (rolls-Back n)

pub simple_call_stm : (r : Option ℕ) (f : Callee) (args : List Tree) → simple_stm (at.Call r f args) ≡ at.Call r (simple_callee f) (map simple_tree args) ∷ []
simple_call_stm r f args = ap simple_stm (sym (rolls-Call r f args)) ∙ simple_stm_roll (stm.Call r f args) ∙ ap (λ s. s ∷ []) (rolls-Call r (simple_callee f) (map simple_tree args))

pub simple_known_stm : (r : Option ℕ) (k : Known) (args : List Tree) → simple_stm (at.Known r k args) ≡ at.Known r k (map simple_tree args) ∷ []
simple_known_stm r k args = ap simple_stm (sym (rolls-Known r k args)) ∙ simple_stm_roll (stm.Known r k args) ∙ ap (λ s. s ∷ []) (rolls-Known r k (map simple_tree args))

pub simple_return_stm : (v : Tree) → simple_stm (at.Return v) ≡ at.Return (simple_tree v) ∷ []
simple_return_stm v = ap simple_stm (sym (rolls-Return v)) ∙ simple_stm_roll (stm.Return v) ∙ ap (λ s. s ∷ []) (rolls-Return (simple_tree v))

division_alone : (c d : Option ℕ) (t o : ℕ) (a b : Tree) → (d ≡ None) ⊎ (d ≡ Some 0) → division c d t o a b ≡ at.Divide t o a b ∷ []
division_alone None None t o a b h = ap (λ s. s ∷ []) (rolls-Divide t o a b)
division_alone (Some n) None t o a b h = ap (λ s. s ∷ []) (rolls-Divide t o a b)
division_alone None (Some zero) t o a b h = ap (λ s. s ∷ []) (rolls-Divide t o a b)
division_alone (Some n) (Some zero) t o a b h = ap (λ s. s ∷ []) (rolls-Divide t o a b)
division_alone c (Some (suc d)) t o a b (inl h) = absurd (cc)
division_alone c (Some (suc d)) t o a b (inr h) = let e : suc d ≡ 0 = cc in absurd (omega arith)

pub division_left : (c d : Option ℕ) (t o : ℕ) (a b : Tree) → c ≡ None → division c d t o a b ≡ at.Divide t o a b ∷ []
division_left None None t o a b h = ap (λ s. s ∷ []) (rolls-Divide t o a b)
division_left None (Some d) t o a b h = ap (λ s. s ∷ []) (rolls-Divide t o a b)
division_left (Some n) d t o a b h = absurd (cc)

pub division_right : (c d : Option ℕ) (t o : ℕ) (a b : Tree) → d ≡ None → division c d t o a b ≡ at.Divide t o a b ∷ []
division_right c d t o a b h = division_alone c d t o a b (inl h)

pub division_zero : (c d : Option ℕ) (t o z : ℕ) (a b : Tree) → d ≡ Some z → z ≡ 0 → division c d t o a b ≡ at.Divide t o a b ∷ []
division_zero c d t o z a b h e = division_alone c d t o a b (inr (h ∙ ap Some e))

pub division_number : (c d : Option ℕ) (t o n k : ℕ) (a b : Tree) → c ≡ Some n → d ≡ Some k → (k ≡ 0 → ⊥) → division c d t o a b ≡ at.Set t (tr.Number (divide o n k)) ∷ []
division_number None d t o n k a b h e z = absurd (cc)
division_number (Some m) None t o n k a b h e z = absurd (cc)
division_number (Some m) (Some zero) t o n k a b h e z = let x : 0 ≡ k = cc in absurd (z (sym x))
division_number (Some m) (Some (suc d)) t o n k a b h e z =
    let x : m ≡ n = cc in let y : suc d ≡ k = cc in
    ap (λ s. s ∷ []) (rolls-Set t (roll-Tree (tree.Number (divide o m (suc d))))) ∙ ap (λ v. at.Set t v ∷ []) (rolls-Number (divide o m (suc d))) ∙
    ap (λ i. at.Set t (tr.Number (divide o i (suc d))) ∷ []) x ∙ ap (λ i. at.Set t (tr.Number (divide o n i)) ∷ []) y

pub choice_none : (c : Option ℕ) (t : Tree) (a b : List Stm) → c ≡ None → choice c t a b ≡ at.If t a b ∷ []
choice_none None t a b h = ap (λ s. s ∷ []) (rolls-If t a b)
choice_none (Some n) t a b h = absurd (cc)

pub choice_zero : (c : Option ℕ) (n : ℕ) (t : Tree) (a b : List Stm) → c ≡ Some n → n ≡ 0 → choice c t a b ≡ b
choice_zero None n t a b h e = absurd (cc)
choice_zero (Some zero) n t a b h e = refl
choice_zero (Some (suc m)) n t a b h e = let x : suc m ≡ n = cc in absurd (omega arith)

pub choice_other : (c : Option ℕ) (n : ℕ) (t : Tree) (a b : List Stm) → c ≡ Some n → (n ≡ 0 → ⊥) → choice c t a b ≡ a
choice_other None n t a b h e = absurd (cc)
choice_other (Some zero) n t a b h e = let x : 0 ≡ n = cc in absurd (e (sym x))
choice_other (Some (suc m)) n t a b h e = refl

-- ---- the first jump

abbrev pub NoneBefore : List Stm → Type 0
NoneBefore front = (rest : List Stm) → ended (front ++ rest) ≡ front ++ ended rest

none_push : (front : List Stm) (s : Stm) → NoneBefore front → jumps s ≡ false → NoneBefore (front ++ s ∷ [])
none_push front s h e rest =
    ap ended (append_assoc front (s ∷ []) rest) ∙ h (s ∷ rest) ∙ ap (λ c. front ++ s ∷ cond c [] (ended rest)) e ∙ sym (append_assoc front (s ∷ []) (ended rest))

pub none_more : (code : List Stm) (i : ℕ) (d : Stm) → i < length code → NoneBefore (take i code) → jumps (get_or code i d) ≡ false → NoneBefore (take (i + 1) code)
none_more code i d lt h e = subst NoneBefore (sym (take_more code i d lt)) (none_push (take i code) (get_or code i d) h e)

pub none_all : (code : List Stm) (n : ℕ) → length code ≤ n → NoneBefore (take n code) → ended code ≡ code
none_all code n le h =
    let e = subst NoneBefore (take_all n code le) h in
    ap ended (sym (append-nil code)) ∙ e [] ∙ append-nil code

pub jump_at : (code : List Stm) (i : ℕ) (d : Stm) → i < length code → NoneBefore (take i code) → jumps (get_or code i d) ≡ true → ended code ≡ take (i + 1) code
jump_at code i d lt h e =
    let split : code ≡ take i code ++ get_or code i d ∷ drop (i + 1) code = sym (take-append-drop i code) ∙ ap (λ l. take i code ++ l) (drop-cons code i d lt ∙ ap (λ n. get_or code i d ∷ drop n code) (add_one i)) in
    ap ended split ∙ h (get_or code i d ∷ drop (i + 1) code) ∙ ap (λ c. take i code ++ get_or code i d ∷ cond c [] (ended (drop (i + 1) code))) e ∙ sym (take_more code i d lt)

-- ---- the logical not

pub unary_zero : (o a : ℕ) → o ≡ 2 → a ≡ 0 → unary o a ≡ 1
unfolding unary
unary_zero o a h e = ap (λ x. unary x a) h ∙ ap (λ x. as_word (eqb x 0)) e

unary_two : (o a : ℕ) → o ≡ 2 → unary o a ≡ as_word (eqb a 0)
unfolding unary
unary_two o a h = ap (λ x. unary x a) h

pub unary_other : (o a : ℕ) → o ≡ 2 → (a ≡ 0 → ⊥) → unary o a ≡ 0
unary_other o zero h e = absurd (e refl)
unary_other o (suc a) h e = unary_two o (suc a) h ∙ ap as_word (not_zero a)

pub ruleset unaries = (unary_zero, unary_other)

pub ruleset constants = (constant_number, constant_temp, constant_global, constant_function, constant_unary, constant_binary, constant_narrow)

pub ruleset simple_trees = (simple_number, simple_temp, simple_global, simple_function, simple_unary_number, simple_unary_tree, simple_narrow_number, simple_narrow_tree, simple_binary_number, simple_binary_left, simple_binary_right)

pub ruleset jumping = (jumps_set, jumps_setglobal, jumps_divide, jumps_check, jumps_read, jumps_write, jumps_zero, jumps_if, jumps_loop, jumps_block, jumps_break, jumps_back, jumps_call, jumps_known, jumps_return)

pub ruleset simple_stms = (
  simple_set_stm,
  simple_setglobal_stm,
  simple_divide_stm,
  simple_check_stm,
  simple_read_stm,
  simple_write_stm,
  simple_zero_stm,
  simple_if_stm,
  simple_loop_stm,
  simple_block_stm,
  simple_break_stm,
  simple_back_stm,
  simple_call_stm,
  simple_known_stm,
  simple_return_stm,
)

pub ruleset divided = (division_left, division_right, division_zero, division_number)

pub ruleset chosen = (choice_none, choice_zero, choice_other)

pub ruleset first_jumps = (none_more, none_all, jump_at)
