-- What is read, and what is kept, at each variant.
use Rattle.std.proofs.Common.{◌≡◌, ℕ, Bool, true, false, cond, List, [], ◌∷◌, ◌++◌, Option, Some, None, refl, sym, ◌∙◌, ap, subst, append_assoc, append-nil}
use Rattle.mv_num.specs.declared.kind.Kind.{Kind}
use Rattle.mv_ir.specs.declared.tree.Tree.{Tree}
use Rattle.mv_ir.specs.declared.tree.Tree as tr
use Rattle.mv_ir.specs.declared.tree.Tree.TheOpen.{Tree-F}
use Rattle.mv_ir.specs.declared.tree.Tree.TheOpen as tree
use Rattle.mv_ir.specs.declared.tree.Tree.TheVariants.{rolls-Number, rolls-Temp, rolls-Global, rolls-Function, rolls-Unary, rolls-Binary, rolls-Narrow}
use Rattle.mv_ir.specs.declared.tree.Tree.TheViews.{roll-Tree}
use Rattle.mv_ir.specs.declared.tree.Tree.TheFolds.{fold-roll-Tree, map-Tree}
use Rattle.mv_ir.specs.declared.stm.Array.{Array}
use Rattle.mv_ir.specs.declared.stm.Callee.{Callee}
use Rattle.mv_ir.specs.declared.stm.Callee.TheVariants as callee
use Rattle.mv_ast.specs.declared.program.Known.{Known}
use Rattle.mv_ir.specs.declared.stm.Stm.{Stm}
use Rattle.mv_ir.specs.declared.stm.Stm as at
use Rattle.mv_ir.specs.declared.stm.Stm.TheOpen.{Stm-F}
use Rattle.mv_ir.specs.declared.stm.Stm.TheOpen as stm
use Rattle.mv_ir.specs.declared.stm.Stm.TheVariants.{rolls-Set, rolls-SetGlobal, rolls-Divide, rolls-Check, rolls-Read, rolls-Write, rolls-Zero, rolls-If, rolls-Loop, rolls-Block, rolls-Break, rolls-Back, rolls-Call, rolls-Known, rolls-Return}
use Rattle.mv_ir.specs.declared.stm.Stm.TheViews.{roll-Stm}
use Rattle.mv_ir.specs.declared.stm.Stm.TheFolds.{fold-roll-Stm, map-Stm}
use Rattle.mv_ir.specs.Measures.{callee_trees}
use Rattle.mv_ir.proofs.Induction.{Each, StmChildren, stm_ind, stms_ind}
use Rattle.mv_fold.specs.declared.uses.Use.{Use}
use Rattle.mv_fold.specs.Needed.{layer_tree_uses, tree_uses, trees_uses, layer_uses, stm_uses, code_uses, needed_layer, needed_stm, needed_code}

pub tree_uses_roll : (user : Option ℕ) (x : Tree-F Tree) → tree_uses user (roll-Tree x) ≡ layer_tree_uses user (map-Tree Tree (List Use) (tree_uses user) x)
unfolding tree_uses
tree_uses_roll user x = fold-roll-Tree (List Use) (layer_tree_uses user) x

pub stm_uses_roll : (x : Stm-F Stm) → stm_uses (roll-Stm x) ≡ layer_uses (map-Stm Stm (List Use) stm_uses x)
unfolding stm_uses
stm_uses_roll x = fold-roll-Stm (List Use) layer_uses x

pub needed_stm_roll : (needed : ℕ → Bool) (x : Stm-F Stm) → needed_stm needed (roll-Stm x) ≡ needed_layer needed (map-Stm Stm (List Stm) (needed_stm needed) x)
unfolding needed_stm
needed_stm_roll needed x = fold-roll-Stm (List Stm) (needed_layer needed) x

-- what holds of what is left of each layer, of the statements of some code
pub each_left : (needed : ℕ → Bool) (P : Stm → List Stm → Type 0) →
    ((x : Stm-F Stm) → StmChildren (λ s. P s (needed_stm needed s)) x → P (roll-Stm x) (needed_layer needed (map-Stm Stm (List Stm) (needed_stm needed) x))) →
    (code : List Stm) → Each (λ s. P s (needed_stm needed s)) code
each_left needed P layer = stms_ind (λ s. P s (needed_stm needed s)) (stm_ind (λ s. P s (needed_stm needed s)) (λ x h. subst (P (roll-Stm x)) (sym (needed_stm_roll needed x)) (layer x h)))

-- ---- reads

pub uses_number : (user : Option ℕ) (n : ℕ) → tree_uses user (tr.Number n) ≡ []
uses_number user n = ap (tree_uses user) (sym (rolls-Number n)) ∙ tree_uses_roll user (tree.Number n)

pub uses_temp : (user : Option ℕ) (n : ℕ) → tree_uses user (tr.Temp n) ≡ record { user = user; used = n } ∷ []
uses_temp user n = ap (tree_uses user) (sym (rolls-Temp n)) ∙ tree_uses_roll user (tree.Temp n)

pub uses_global : (user : Option ℕ) (n : ℕ) → tree_uses user (tr.Global n) ≡ []
uses_global user n = ap (tree_uses user) (sym (rolls-Global n)) ∙ tree_uses_roll user (tree.Global n)

pub uses_function : (user : Option ℕ) (n : ℕ) → tree_uses user (tr.Function n) ≡ []
uses_function user n = ap (tree_uses user) (sym (rolls-Function n)) ∙ tree_uses_roll user (tree.Function n)

pub uses_unary : (user : Option ℕ) (o : ℕ) (a : Tree) → tree_uses user (tr.Unary o a) ≡ tree_uses user a
uses_unary user o a = ap (tree_uses user) (sym (rolls-Unary o a)) ∙ tree_uses_roll user (tree.Unary o a)

pub uses_binary : (user : Option ℕ) (o : ℕ) (a b : Tree) → tree_uses user (tr.Binary o a b) ≡ tree_uses user a ++ tree_uses user b
uses_binary user o a b = ap (tree_uses user) (sym (rolls-Binary o a b)) ∙ tree_uses_roll user (tree.Binary o a b)

pub uses_narrow : (user : Option ℕ) (k : Kind) (a : Tree) → tree_uses user (tr.Narrow k a) ≡ tree_uses user a
uses_narrow user k a = ap (tree_uses user) (sym (rolls-Narrow k a)) ∙ tree_uses_roll user (tree.Narrow k a)

pub uses_set_stm : (t : ℕ) (v : Tree) → stm_uses (at.Set t v) ≡ tree_uses (Some t) v
uses_set_stm t v = ap stm_uses (sym (rolls-Set t v)) ∙ stm_uses_roll (stm.Set t v)

pub uses_setglobal_stm : (g : ℕ) (v : Tree) → stm_uses (at.SetGlobal g v) ≡ tree_uses None v
uses_setglobal_stm g v = ap stm_uses (sym (rolls-SetGlobal g v)) ∙ stm_uses_roll (stm.SetGlobal g v)

pub uses_divide_stm : (t o : ℕ) (a b : Tree) → stm_uses (at.Divide t o a b) ≡ tree_uses None a ++ tree_uses None b
uses_divide_stm t o a b = ap stm_uses (sym (rolls-Divide t o a b)) ∙ stm_uses_roll (stm.Divide t o a b)

pub uses_check_stm : (a : Array) (i : Tree) → stm_uses (at.Check a i) ≡ tree_uses None i
uses_check_stm a i = ap stm_uses (sym (rolls-Check a i)) ∙ stm_uses_roll (stm.Check a i)

pub uses_read_stm : (t : ℕ) (a : Array) (i : Tree) → stm_uses (at.Read t a i) ≡ tree_uses None i
uses_read_stm t a i = ap stm_uses (sym (rolls-Read t a i)) ∙ stm_uses_roll (stm.Read t a i)

pub uses_write_stm : (a : Array) (i v : Tree) → stm_uses (at.Write a i v) ≡ tree_uses None i ++ tree_uses None v
uses_write_stm a i v = ap stm_uses (sym (rolls-Write a i v)) ∙ stm_uses_roll (stm.Write a i v)

pub uses_zero_stm : (l : ℕ) → stm_uses (at.Zero l) ≡ []
uses_zero_stm l = ap stm_uses (sym (rolls-Zero l)) ∙ stm_uses_roll (stm.Zero l)

pub uses_if_stm : (t : Tree) (a b : List Stm) → stm_uses (at.If t a b) ≡ tree_uses None t ++ (code_uses a ++ code_uses b)
uses_if_stm t a b = ap stm_uses (sym (rolls-If t a b)) ∙ stm_uses_roll (stm.If t a b)

pub uses_loop_stm : (b : List Stm) → stm_uses (at.Loop b) ≡ code_uses b
uses_loop_stm b = ap stm_uses (sym (rolls-Loop b)) ∙ stm_uses_roll (stm.Loop b)

pub uses_block_stm : (b : List Stm) → stm_uses (at.Block b) ≡ code_uses b
uses_block_stm b = ap stm_uses (sym (rolls-Block b)) ∙ stm_uses_roll (stm.Block b)

pub uses_break_stm : (n : ℕ) → stm_uses (at.Break n) ≡ []
uses_break_stm n = ap stm_uses (sym (rolls-Break n)) ∙ stm_uses_roll (stm.Break n)

pub uses_back_stm : (n : ℕ) → stm_uses (at.Back n) ≡ []
uses_back_stm n = ap stm_uses (sym (rolls-Back n)) ∙ stm_uses_roll (stm.Back n)

pub uses_call_stm : (r : Option ℕ) (f : Callee) (args : List Tree) → stm_uses (at.Call r f args) ≡ trees_uses (callee_trees f) ++ trees_uses args
uses_call_stm r f args = ap stm_uses (sym (rolls-Call r f args)) ∙ stm_uses_roll (stm.Call r f args)

pub uses_known_stm : (r : Option ℕ) (k : Known) (args : List Tree) → stm_uses (at.Known r k args) ≡ trees_uses args
uses_known_stm r k args = ap stm_uses (sym (rolls-Known r k args)) ∙ stm_uses_roll (stm.Known r k args)

pub uses_return_stm : (v : Tree) → stm_uses (at.Return v) ≡ tree_uses None v
uses_return_stm v = ap stm_uses (sym (rolls-Return v)) ∙ stm_uses_roll (stm.Return v)

pub uses_direct : (f : ℕ) → trees_uses (callee_trees (callee.Direct f)) ≡ []
uses_direct f = refl

pub uses_through : (t : Tree) → trees_uses (callee_trees (callee.Through t)) ≡ tree_uses None t
uses_through t = append-nil (tree_uses None t)

pub uses_switched : (g : ℕ) → trees_uses (callee_trees (callee.Switched g)) ≡ []
uses_switched g = refl

pub uses_expanded : trees_uses (callee_trees callee.Expanded) ≡ []
uses_expanded = refl

-- ---- what is kept

pub kept_set : (needed : ℕ → Bool) (t : ℕ) (v : Tree) → needed t ≡ true → needed_stm needed (at.Set t v) ≡ at.Set t v ∷ []
kept_set needed t v e = ap (needed_stm needed) (sym (rolls-Set t v)) ∙ needed_stm_roll needed (stm.Set t v) ∙ ap (λ c. cond c (roll-Stm (stm.Set t v) ∷ []) []) e ∙ ap (λ s. s ∷ []) (rolls-Set t v)

pub left_set : (needed : ℕ → Bool) (t : ℕ) (v : Tree) → needed t ≡ false → needed_stm needed (at.Set t v) ≡ []
left_set needed t v e = ap (needed_stm needed) (sym (rolls-Set t v)) ∙ needed_stm_roll needed (stm.Set t v) ∙ ap (λ c. cond c (roll-Stm (stm.Set t v) ∷ []) []) e

pub kept_setglobal : (needed : ℕ → Bool) (g : ℕ) (v : Tree) → needed_stm needed (at.SetGlobal g v) ≡ at.SetGlobal g v ∷ []
kept_setglobal needed g v = ap (needed_stm needed) (sym (rolls-SetGlobal g v)) ∙ needed_stm_roll needed (stm.SetGlobal g v) ∙ ap (λ s. s ∷ []) (rolls-SetGlobal g v)

pub kept_divide : (needed : ℕ → Bool) (t o : ℕ) (a b : Tree) → needed_stm needed (at.Divide t o a b) ≡ at.Divide t o a b ∷ []
kept_divide needed t o a b = ap (needed_stm needed) (sym (rolls-Divide t o a b)) ∙ needed_stm_roll needed (stm.Divide t o a b) ∙ ap (λ s. s ∷ []) (rolls-Divide t o a b)

pub kept_check : (needed : ℕ → Bool) (a : Array) (i : Tree) → needed_stm needed (at.Check a i) ≡ at.Check a i ∷ []
kept_check needed a i = ap (needed_stm needed) (sym (rolls-Check a i)) ∙ needed_stm_roll needed (stm.Check a i) ∙ ap (λ s. s ∷ []) (rolls-Check a i)

pub kept_read : (needed : ℕ → Bool) (t : ℕ) (a : Array) (i : Tree) → needed_stm needed (at.Read t a i) ≡ at.Read t a i ∷ []
kept_read needed t a i = ap (needed_stm needed) (sym (rolls-Read t a i)) ∙ needed_stm_roll needed (stm.Read t a i) ∙ ap (λ s. s ∷ []) (rolls-Read t a i)

pub kept_write : (needed : ℕ → Bool) (a : Array) (i v : Tree) → needed_stm needed (at.Write a i v) ≡ at.Write a i v ∷ []
kept_write needed a i v = ap (needed_stm needed) (sym (rolls-Write a i v)) ∙ needed_stm_roll needed (stm.Write a i v) ∙ ap (λ s. s ∷ []) (rolls-Write a i v)

pub kept_zero : (needed : ℕ → Bool) (l : ℕ) → needed_stm needed (at.Zero l) ≡ at.Zero l ∷ []
kept_zero needed l = ap (needed_stm needed) (sym (rolls-Zero l)) ∙ needed_stm_roll needed (stm.Zero l) ∙ ap (λ s. s ∷ []) (rolls-Zero l)

pub kept_if : (needed : ℕ → Bool) (t : Tree) (a b : List Stm) → needed_stm needed (at.If t a b) ≡ at.If t (needed_code needed a) (needed_code needed b) ∷ []
kept_if needed t a b = ap (needed_stm needed) (sym (rolls-If t a b)) ∙ needed_stm_roll needed (stm.If t a b) ∙ ap (λ s. s ∷ []) (rolls-If t (needed_code needed a) (needed_code needed b))

pub kept_loop : (needed : ℕ → Bool) (b : List Stm) → needed_stm needed (at.Loop b) ≡ at.Loop (needed_code needed b) ∷ []
kept_loop needed b = ap (needed_stm needed) (sym (rolls-Loop b)) ∙ needed_stm_roll needed (stm.Loop b) ∙ ap (λ s. s ∷ []) (rolls-Loop (needed_code needed b))

pub kept_block : (needed : ℕ → Bool) (b : List Stm) → needed_stm needed (at.Block b) ≡ at.Block (needed_code needed b) ∷ []
kept_block needed b = ap (needed_stm needed) (sym (rolls-Block b)) ∙ needed_stm_roll needed (stm.Block b) ∙ ap (λ s. s ∷ []) (rolls-Block (needed_code needed b))

pub kept_break : (needed : ℕ → Bool) (n : ℕ) → needed_stm needed (at.Break n) ≡ at.Break n ∷ []
kept_break needed n = ap (needed_stm needed) (sym (rolls-Break n)) ∙ needed_stm_roll needed (stm.Break n) ∙ ap (λ s. s ∷ []) (rolls-Break n)

pub kept_back : (needed : ℕ → Bool) (n : ℕ) → needed_stm needed (at.Back n) ≡ at.Back n ∷ []
kept_back needed n = ap (needed_stm needed) (sym (rolls-Back n)) ∙ needed_stm_roll needed (stm.Back n) ∙ ap (λ s. s ∷ []) (rolls-Back n)

pub kept_call : (needed : ℕ → Bool) (r : Option ℕ) (f : Callee) (args : List Tree) → needed_stm needed (at.Call r f args) ≡ at.Call r f args ∷ []
kept_call needed r f args = ap (needed_stm needed) (sym (rolls-Call r f args)) ∙ needed_stm_roll needed (stm.Call r f args) ∙ ap (λ s. s ∷ []) (rolls-Call r f args)

pub kept_known : (needed : ℕ → Bool) (r : Option ℕ) (k : Known) (args : List Tree) → needed_stm needed (at.Known r k args) ≡ at.Known r k args ∷ []
kept_known needed r k args = ap (needed_stm needed) (sym (rolls-Known r k args)) ∙ needed_stm_roll needed (stm.Known r k args) ∙ ap (λ s. s ∷ []) (rolls-Known r k args)

pub kept_return : (needed : ℕ → Bool) (v : Tree) → needed_stm needed (at.Return v) ≡ at.Return v ∷ []
kept_return needed v = ap (needed_stm needed) (sym (rolls-Return v)) ∙ needed_stm_roll needed (stm.Return v) ∙ ap (λ s. s ∷ []) (rolls-Return v)

pub ruleset uses_of_trees = (append_assoc, append-nil, uses_number, uses_temp, uses_global, uses_function, uses_unary, uses_binary, uses_narrow)

pub ruleset uses_of_callees = (append-nil, uses_direct, uses_through, uses_switched, uses_expanded)

pub ruleset uses_of_stms = (
  append_assoc,
  append-nil,
  uses_set_stm,
  uses_setglobal_stm,
  uses_divide_stm,
  uses_check_stm,
  uses_read_stm,
  uses_write_stm,
  uses_zero_stm,
  uses_if_stm,
  uses_loop_stm,
  uses_block_stm,
  uses_break_stm,
  uses_back_stm,
  uses_call_stm,
  uses_known_stm,
  uses_return_stm,
)

pub ruleset needed_stms = (append-nil, left_set, kept_set, kept_setglobal, kept_divide, kept_check, kept_read, kept_write, kept_zero, kept_if, kept_loop, kept_block, kept_break, kept_back, kept_call, kept_known, kept_return)
