-- What trees and statements name, at each variant.
use Rattle.std.proofs.Common.{◌≡◌, ℕ, ◌+◌, ◌<◌, Bool, List, [], ◌∷◌, ◌++◌, map, take, length, get_or, Option, refl, sym, ap, ◌∙◌, append_assoc, append-nil}
use Rattle.mv_num.specs.declared.kind.Kind.{Kind}
use Rattle.mv_ast.specs.declared.program.Known.{Known}
use Rattle.mv_ast.specs.Flags.{flagged}
use Rattle.mv_ast.proofs.Flags.{flagged_both}
use Rattle.mv_ir.specs.declared.tree.Tree.{Tree}
use Rattle.mv_ir.specs.declared.tree.Tree as tr
use Rattle.mv_ir.specs.declared.tree.Tree.TheOpen as tree
use Rattle.mv_ir.specs.declared.stm.Array.{Array}
use Rattle.mv_ir.specs.declared.stm.Callee.{Callee}
use Rattle.mv_ir.specs.declared.stm.Callee.TheVariants as callee
use Rattle.mv_ir.specs.declared.stm.Stm.{Stm}
use Rattle.mv_ir.specs.declared.stm.Stm as at
use Rattle.mv_ir.specs.declared.stm.Stm.TheOpen as stm
use Rattle.mv_ir.specs.declared.stm.Stm.TheOpen.{Stm-F}
use Rattle.mv_ir.specs.declared.stm.Stm.TheViews.{roll-Stm}
use Rattle.mv_ir.specs.declared.stm.Stm.TheVariants.{rolls-Back}
use Rattle.mv_ir.specs.declared.stm.Stm.TheFolds.{map-Stm}
use Rattle.mv_ir.proofs.Lists.{joined_push}
use Rattle.mv_ir.specs.Measures.{joined, layer_trees, tree_reads, stm_trees, array_read, callee_trees}
use Rattle.mv_ir.specs.WellFormed.{callee_named, stm_named, layer_named}
use Rattle.mv_ir.proofs.Rolls.{reads_roll, trees_roll, named_roll}
use Rattle.mv_lower_spec.specs.Functions.{callee_called, layer_called, stm_called}
use Rattle.mv_lower.specs.Naming.{Flags, Names, marked, tree_names, trees_names, global_names, function_names, array_names, callee_names, stm_names, code_names}
use Rattle.mv_lower_expressions.proofs.Emitting.{number_is, temp_is, global_is, function_is, unary_is, binary_is, narrow_is, set_is, set_global_is, divide_is, check_is, read_is, write_is, zero_is, if_is, loop_is, block_is, break_is, call_is, known_is, return_is}
use Rattle.mv_lower_spec.proofs.Common.{called_roll}

-- ---- trees

pub reads_number : (n : ℕ) (flags : List Bool) → flagged (tree_reads (tr.Number n)) flags ≡ flags
reads_number n flags = ap (λ t. flagged (tree_reads t) flags) (number_is n) ∙ ap (λ l. flagged l flags) (reads_roll (tree.Number n))

pub reads_temp : (n : ℕ) (flags : List Bool) → flagged (tree_reads (tr.Temp n)) flags ≡ flags
reads_temp n flags = ap (λ t. flagged (tree_reads t) flags) (temp_is n) ∙ ap (λ l. flagged l flags) (reads_roll (tree.Temp n))

pub reads_global : (g : ℕ) → tree_reads (tr.Global g) ≡ g ∷ []
reads_global g = ap tree_reads (global_is g) ∙ reads_roll (tree.Global g)

pub reads_function : (n : ℕ) (flags : List Bool) → flagged (tree_reads (tr.Function n)) flags ≡ flags
reads_function n flags = ap (λ t. flagged (tree_reads t) flags) (function_is n) ∙ ap (λ l. flagged l flags) (reads_roll (tree.Function n))

pub reads_unary : (o : ℕ) (a : Tree) → tree_reads (tr.Unary o a) ≡ tree_reads a
reads_unary o a = ap tree_reads (unary_is o a) ∙ reads_roll (tree.Unary o a)

pub reads_binary : (o : ℕ) (a b : Tree) (flags : List Bool) → flagged (tree_reads (tr.Binary o a b)) flags ≡ flagged (tree_reads b) (flagged (tree_reads a) flags)
reads_binary o a b flags = ap (λ l. flagged l flags) (ap tree_reads (binary_is o a b) ∙ reads_roll (tree.Binary o a b)) ∙ flagged_both (tree_reads a) (tree_reads b) flags

pub reads_narrow : (k : Kind) (a : Tree) → tree_reads (tr.Narrow k a) ≡ tree_reads a
reads_narrow k a = ap tree_reads (narrow_is k a) ∙ reads_roll (tree.Narrow k a)

pub ruleset reads = (reads_number, reads_temp, reads_global, reads_function, reads_unary, reads_binary, reads_narrow)

-- ---- names together

-- both
abbrev with_more : Names → Names → Names
with_more x y = record { read = x.read ++ y.read; stored = x.stored ++ y.stored; called = x.called ++ y.called }

marked_both : (x y : Names) (m : Flags) → marked (with_more x y) m ≡ marked y (marked x m)
unfolding marked
marked_both x y m =
    ap (λ l. (let r : Flags = record { read = l; stored = flagged (x.stored ++ y.stored) m.stored; called = flagged (x.called ++ y.called) m.called } in r)) (flagged_both x.read y.read m.read) ∙
    (ap (λ l. (let r : Flags = record { read = flagged y.read (flagged x.read m.read); stored = l; called = flagged (x.called ++ y.called) m.called } in r)) (flagged_both x.stored y.stored m.stored) ∙
    ap (λ l. (let r : Flags = record { read = flagged y.read (flagged x.read m.read); stored = flagged y.stored (flagged x.stored m.stored); called = l } in r)) (flagged_both x.called y.called m.called))

abbrev names_of : List ℕ → List ℕ → List ℕ → Names
names_of r s c = record { read = r; stored = s; called = c }

same_names : (r r' s s' c c' : List ℕ) → r ≡ r' → s ≡ s' → c ≡ c' → names_of r s c ≡ names_of r' s' c'
same_names r r' s s' c c' e f h = ap (λ l. names_of l s c) e ∙ (ap (λ l. names_of r' l c) f ∙ ap (λ l. names_of r' s' l) h)

-- the names of a statement, by one layer of it
abbrev layer_names : Stm-F Stm → Names
layer_names x =
    names_of (joined (map tree_reads (layer_trees (map-Stm Stm (List Tree) stm_trees x)))) (joined (map array_read (layer_named (map-Stm Stm (List Array) stm_named x)))) (layer_called (map-Stm Stm (List ℕ) stm_called x))

named_by : (s : Stm) (x : Stm-F Stm) → s ≡ roll-Stm x → stm_names s ≡ layer_names x
named_by s x e =
    ap stm_names e ∙
    same_names _ _ _ _ _ _ (ap (λ ts. joined (map tree_reads ts)) (trees_roll x)) (ap (λ arrays. joined (map array_read arrays)) (named_roll x)) (called_roll x)

module _ (s : Stm) (x : Stm-F Stm) (e : s ≡ roll-Stm x) (m : Flags) where
  by_one : (a : Names) → layer_names x ≡ a → marked (stm_names s) m ≡ marked a m
  by_one a h = ap (λ (n : Names). marked n m) (named_by s x e ∙ h)

  by_two : (a b : Names) → layer_names x ≡ with_more a b → marked (stm_names s) m ≡ marked b (marked a m)
  by_two a b h = by_one (with_more a b) h ∙ marked_both a b m

  by_three : (a b z : Names) → layer_names x ≡ with_more a (with_more b z) → marked (stm_names s) m ≡ marked z (marked b (marked a m))
  by_three a b z h = by_two a (with_more b z) h ∙ marked_both b z (marked a m)

one : (t : Tree) → tree_reads t ++ [] ≡ tree_reads t
one t = append-nil (tree_reads t)

pub joined_both : {A B : Type 0} (f : A → List B) (xs ys : List A) → joined (map f (xs ++ ys)) ≡ joined (map f xs) ++ joined (map f ys)
joined_both f [] ys = refl
joined_both f (x ∷ xs) ys = ap (λ l. f x ++ l) (joined_both f xs ys) ∙ sym (append_assoc (f x) (joined (map f xs)) (joined (map f ys)))

pub names_set : (t : ℕ) (v : Tree) (m : Flags) → marked (stm_names (at.Set t v)) m ≡ marked (tree_names v) m
names_set t v m = by_one _ (stm.Set t v) (set_is t v) m (tree_names v) (same_names _ _ _ _ _ _ (one v) refl refl)

pub names_set_global : (g : ℕ) (v : Tree) (m : Flags) → marked (stm_names (at.SetGlobal g v)) m ≡ marked (tree_names v) (marked (global_names g) m)
names_set_global g v m = by_two _ (stm.SetGlobal g v) (set_global_is g v) m (global_names g) (tree_names v) (same_names _ _ _ _ _ _ (one v) refl refl)

pub names_divide : (t o : ℕ) (a b : Tree) (m : Flags) → marked (stm_names (at.Divide t o a b)) m ≡ marked (tree_names b) (marked (tree_names a) m)
names_divide t o a b m = by_two _ (stm.Divide t o a b) (divide_is t o a b) m (tree_names a) (tree_names b) (same_names _ _ _ _ _ _ (ap (λ l. tree_reads a ++ l) (one b)) refl refl)

pub names_check : (a : Array) (i : Tree) (m : Flags) → marked (stm_names (at.Check a i)) m ≡ marked (tree_names i) (marked (array_names a) m)
names_check a i m = by_two _ (stm.Check a i) (check_is a i) m (array_names a) (tree_names i) (same_names _ _ _ _ _ _ (one i) refl refl)

pub names_read : (t : ℕ) (a : Array) (i : Tree) (m : Flags) → marked (stm_names (at.Read t a i)) m ≡ marked (tree_names i) (marked (array_names a) m)
names_read t a i m = by_two _ (stm.Read t a i) (read_is t a i) m (array_names a) (tree_names i) (same_names _ _ _ _ _ _ (one i) refl refl)

pub names_write : (a : Array) (i v : Tree) (m : Flags) → marked (stm_names (at.Write a i v)) m ≡ marked (tree_names v) (marked (tree_names i) (marked (array_names a) m))
names_write a i v m = by_three _ (stm.Write a i v) (write_is a i v) m (array_names a) (tree_names i) (tree_names v) (same_names _ _ _ _ _ _ (ap (λ l. tree_reads i ++ l) (one v)) refl refl)

pub none_named : (m : Flags) → marked (names_of [] [] []) m ≡ m
unfolding marked
none_named m = refl

pub names_zero : (l : ℕ) (m : Flags) → marked (stm_names (at.Zero l)) m ≡ m
names_zero l m = by_one _ (stm.Zero l) (zero_is l) m (names_of [] [] []) refl ∙ none_named m

pub names_if : (t : Tree) (a b : List Stm) (m : Flags) → marked (stm_names (at.If t a b)) m ≡ marked (code_names b) (marked (code_names a) (marked (tree_names t) m))
names_if t a b m =
    by_three _ (stm.If t a b) (if_is t a b) m (tree_names t) (code_names a) (code_names b)
    (same_names _ _ _ _ _ _ (ap (λ l. tree_reads t ++ l) (joined_both tree_reads (joined (map stm_trees a)) (joined (map stm_trees b)))) (joined_both array_read (joined (map stm_named a)) (joined (map stm_named b))) refl)

pub names_loop : (b : List Stm) (m : Flags) → marked (stm_names (at.Loop b)) m ≡ marked (code_names b) m
names_loop b m = by_one _ (stm.Loop b) (loop_is b) m (code_names b) refl

pub names_block : (b : List Stm) (m : Flags) → marked (stm_names (at.Block b)) m ≡ marked (code_names b) m
names_block b m = by_one _ (stm.Block b) (block_is b) m (code_names b) refl

pub names_break : (n : ℕ) (m : Flags) → marked (stm_names (at.Break n)) m ≡ m
names_break n m = by_one _ (stm.Break n) (break_is n) m (names_of [] [] []) refl ∙ none_named m

pub names_back : (n : ℕ) (m : Flags) → marked (stm_names (at.Back n)) m ≡ m
names_back n m = by_one _ (stm.Back n) (sym (rolls-Back n)) m (names_of [] [] []) refl ∙ none_named m

pub names_call : (r : Option ℕ) (f : Callee) (args : List Tree) (m : Flags) → marked (stm_names (at.Call r f args)) m ≡ marked (trees_names args) (marked (callee_names f) m)
names_call r f args m =
    by_two _ (stm.Call r f args) (call_is r f args) m (callee_names f) (trees_names args)
    (same_names _ _ _ _ _ _ (joined_both tree_reads (callee_trees f) args) (sym (append-nil (joined (map array_read (callee_named f))))) (sym (append-nil (callee_called f))))

pub names_known : (r : Option ℕ) (k : Known) (args : List Tree) (m : Flags) → marked (stm_names (at.Known r k args)) m ≡ marked (trees_names args) m
names_known r k args m = by_one _ (stm.Known r k args) (known_is r k args) m (trees_names args) refl

pub names_return : (v : Tree) (m : Flags) → marked (stm_names (at.Return v)) m ≡ marked (tree_names v) m
names_return v m = by_one _ (stm.Return v) (return_is v) m (tree_names v) (same_names _ _ _ _ _ _ (one v) refl refl)

pub ruleset statements = (names_set, names_set_global, names_divide, names_check, names_read, names_write, names_zero, names_if, names_loop, names_block, names_break, names_back, names_call, names_known, names_return)

pub names_direct : (f : ℕ) (m : Flags) → marked (callee_names (callee.Direct f)) m ≡ marked (function_names f) m
names_direct f m = refl

pub names_through : (t : Tree) (m : Flags) → marked (callee_names (callee.Through t)) m ≡ marked (tree_names t) m
names_through t m = ap (λ l. marked (names_of l [] []) m) (one t)

pub names_switched : (g : ℕ) (m : Flags) → marked (callee_names (callee.Switched g)) m ≡ marked (global_names g) m
names_switched g m = refl

pub names_expanded : (m : Flags) → marked (callee_names callee.Expanded) m ≡ m
names_expanded m = none_named m

pub ruleset callees = (names_direct, names_through, names_switched, names_expanded)

-- ---- lists, one item more

pub trees_push : (ts : List Tree) (i : ℕ) (t : Tree) (m : Flags) → i < length ts → t ≡ get_or ts i t → marked (trees_names (take (i + 1) ts)) m ≡ marked (tree_names t) (marked (trees_names (take i ts)) m)
trees_push ts i t m h e =
    ap (λ l. marked (names_of l [] []) m) (joined_push tree_reads ts i t h ∙ ap (λ u. joined (map tree_reads (take i ts)) ++ tree_reads u) (sym e)) ∙
    marked_both (trees_names (take i ts)) (tree_names t) m

pub code_push : (code : List Stm) (i : ℕ) (s : Stm) (m : Flags) → i < length code → s ≡ get_or code i s → marked (code_names (take (i + 1) code)) m ≡ marked (stm_names s) (marked (code_names (take i code)) m)
code_push code i s m h e =
    ap (λ (n : Names). marked n m)
    (same_names _ _ _ _ _ _
    (ap (λ ts. joined (map tree_reads ts)) (joined_push stm_trees code i s h ∙ ap (λ u. joined (map stm_trees (take i code)) ++ stm_trees u) (sym e)) ∙ joined_both tree_reads (joined (map stm_trees (take i code))) (stm_trees s))
    (ap (λ arrays. joined (map array_read arrays)) (joined_push stm_named code i s h ∙ ap (λ u. joined (map stm_named (take i code)) ++ stm_named u) (sym e)) ∙ joined_both array_read (joined (map stm_named (take i code))) (stm_named s))
    (joined_push stm_called code i s h ∙ ap (λ u. joined (map stm_called (take i code)) ++ stm_called u) (sym e))) ∙
    marked_both (code_names (take i code)) (stm_names s) m

pub ruleset pushes = (none_named, trees_push, code_push)
