-- The constants and orders of trees and statements, at each variant.
use Rattle.std.proofs.Common.{◌≡◌, ℕ, ◌+◌, ◌<◌, ◌≤◌, ◌^◌, List, [], ◌∷◌, ◌++◌, map, take, length, get_or, All, Option, sym, ap, ◌∙◌, subst, append-nil, arith}
use Rattle.std.proofs.lemmas.List.{take_more, take_all}
use Rattle.std.proofs.lemmas.List.Elements.{All-append, All-cons, All-nil}
use Rattle.mv_num.specs.declared.kind.Kind.{Kind}
use Rattle.mv_ast.specs.declared.program.Known.{Known}
use Rattle.mv_ir.specs.declared.tree.Tree.{Tree}
use Rattle.mv_ir.specs.declared.tree.Tree as tr
use Rattle.mv_ir.specs.declared.tree.Tree.TheOpen as tree
use Rattle.mv_ir.specs.declared.tree.Tree.TheOpen.{Tree-F}
use Rattle.mv_ir.specs.declared.tree.Tree.TheViews.{roll-Tree}
use Rattle.mv_ir.specs.declared.tree.Tree.TheVariants.{rolls-Number, rolls-Temp, rolls-Global, rolls-Function, rolls-Unary, rolls-Binary, rolls-Narrow}
use Rattle.mv_ir.specs.declared.tree.Tree.TheFolds.{map-Tree}
use Rattle.mv_ir.specs.declared.stm.Array.{Array}
use Rattle.mv_ir.specs.declared.stm.Callee.{Callee}
use Rattle.mv_ir.specs.declared.stm.Callee.TheVariants as callee
use Rattle.mv_ir.specs.declared.stm.Stm.{Stm}
use Rattle.mv_ir.specs.declared.stm.Stm as at
use Rattle.mv_ir.specs.declared.stm.Stm.TheOpen as stm
use Rattle.mv_ir.specs.declared.stm.Stm.TheOpen.{Stm-F}
use Rattle.mv_ir.specs.declared.stm.Stm.TheViews.{roll-Stm}
use Rattle.mv_ir.specs.declared.stm.Stm.TheVariants.{rolls-Set, rolls-SetGlobal, rolls-Divide, rolls-Check, rolls-Read, rolls-Write, rolls-Zero, rolls-If, rolls-Loop, rolls-Block, rolls-Break, rolls-Back, rolls-Call, rolls-Known, rolls-Return}
use Rattle.mv_ir.specs.declared.stm.Stm.TheFolds.{map-Stm}
use Rattle.mv_ir.specs.Measures.{joined, callee_trees, layer_trees, stm_trees, trees}
use Rattle.mv_ir.proofs.Rolls.{trees_roll}
use Rattle.mv_ir.proofs.Lists.{joined_append, joined_push}
use Rattle.mv_ir.proofs.Keeping.{map_append}
use Rattle.mv_select.specs.Bodies.SelectedBodies.{constants_layer, tree_constants, constants_of_all, knowns_layer, stm_knowns, knowns, IsOrder, AreWords, HasWords}
use Rattle.mv_select.proofs.OfBodies.FineCode.{knowns_roll}
use Rattle.mv_select.proofs.OfBodies.NamedTrees.{IsWord, constants_roll}

-- ---- trees

no_words : AreWords []
no_words = All-nil IsWord

of_layer : (t : Tree) (x : Tree-F Tree) → roll-Tree x ≡ t → AreWords (constants_layer (map-Tree Tree (List ℕ) tree_constants x)) → AreWords (tree_constants t)
of_layer t x e h = subst (λ u. AreWords (tree_constants u)) e (subst AreWords (sym (constants_roll x)) h)

pub words_number : (n : ℕ) → n < 2 ^ 32 → AreWords (tree_constants (tr.Number n))
words_number n h = of_layer (tr.Number n) (tree.Number n) (rolls-Number n) (All-cons IsWord n [] h no_words)

pub words_temp : (n : ℕ) → AreWords (tree_constants (tr.Temp n))
words_temp n = of_layer (tr.Temp n) (tree.Temp n) (rolls-Temp n) no_words

pub words_global : (n : ℕ) → AreWords (tree_constants (tr.Global n))
words_global n = of_layer (tr.Global n) (tree.Global n) (rolls-Global n) no_words

pub words_function : (n : ℕ) → AreWords (tree_constants (tr.Function n))
words_function n = of_layer (tr.Function n) (tree.Function n) (rolls-Function n) no_words

pub words_unary : (o : ℕ) (a : Tree) → AreWords (tree_constants a) → AreWords (tree_constants (tr.Unary o a))
words_unary o a h = of_layer (tr.Unary o a) (tree.Unary o a) (rolls-Unary o a) h

pub words_binary : (o : ℕ) (a b : Tree) → AreWords (tree_constants a) → AreWords (tree_constants b) → AreWords (tree_constants (tr.Binary o a b))
words_binary o a b h k = of_layer (tr.Binary o a b) (tree.Binary o a b) (rolls-Binary o a b) (All-append IsWord (tree_constants a) (tree_constants b) h k)

pub words_narrow : (k : Kind) (a : Tree) → AreWords (tree_constants a) → AreWords (tree_constants (tr.Narrow k a))
words_narrow k a h = of_layer (tr.Narrow k a) (tree.Narrow k a) (rolls-Narrow k a) h

pub ruleset tree_words = (words_number, words_temp, words_global, words_function, words_unary, words_binary, words_narrow)

-- ---- lists

append_both : (xs ys : List Tree) → AreWords (constants_of_all xs) → AreWords (constants_of_all ys) → AreWords (constants_of_all (xs ++ ys))
append_both xs ys h k =
    subst AreWords (sym (ap joined (map_append tree_constants xs ys) ∙ joined_append (map tree_constants xs) (map tree_constants ys)))
    (All-append IsWord (constants_of_all xs) (constants_of_all ys) h k)

one_tree : (t : Tree) → AreWords (tree_constants t) → AreWords (constants_of_all (t ∷ []))
one_tree t h = subst AreWords (sym (append-nil (tree_constants t))) h

two_trees : (a b : Tree) → AreWords (tree_constants a) → AreWords (tree_constants b) → AreWords (constants_of_all (a ∷ b ∷ []))
two_trees a b h k = All-append IsWord (tree_constants a) (constants_of_all (b ∷ [])) h (one_tree b k)

-- one tree more
pub words_step : (ts items : List Tree) (i : ℕ) (t : Tree) → items ≡ ts → i < length items → t ≡ get_or items i t → AreWords (constants_of_all (take i ts)) →
    AreWords (tree_constants t) → AreWords (constants_of_all (take (i + 1) ts))
words_step ts items i t same lt is h k =
    let one = subst (λ u. AreWords (tree_constants u)) is k in
    subst (λ xs. AreWords (constants_of_all (take (i + 1) xs))) same (
    subst AreWords (sym (joined_push tree_constants items i t lt))
    (All-append IsWord (constants_of_all (take i items)) (tree_constants (get_or items i t)) (subst (λ xs. AreWords (constants_of_all (take i xs))) (sym same) h) one))

-- all of them
pub words_end : (ts items : List Tree) (i : ℕ) → items ≡ ts → length items ≤ i → AreWords (constants_of_all (take i ts)) → AreWords (constants_of_all ts)
words_end ts items i same le h = subst (λ xs. AreWords (constants_of_all xs)) (take_all i ts (omega (arith, le, ap length same))) h

pub words_direct : (f : ℕ) → AreWords (constants_of_all (callee_trees (callee.Direct f)))
words_direct f = no_words

pub words_through : (t : Tree) → AreWords (tree_constants t) → AreWords (constants_of_all (callee_trees (callee.Through t)))
words_through t h = one_tree t h

pub words_switched : (g : ℕ) → AreWords (constants_of_all (callee_trees (callee.Switched g)))
words_switched g = no_words

pub words_expanded : AreWords (constants_of_all (callee_trees callee.Expanded))
words_expanded = no_words

pub ruleset callees = (words_direct, words_through, words_switched, words_expanded)

code_both : (a b : List Stm) → HasWords a → HasWords b → HasWords (a ++ b)
code_both a b h k = record {
  constants = subst (λ ts. AreWords (constants_of_all ts)) (sym (ap joined (map_append stm_trees a b) ∙ joined_append (map stm_trees a) (map stm_trees b)))
      (append_both (trees a) (trees b) h.constants k.constants);
  orders = subst (All IsOrder) (sym (ap joined (map_append stm_knowns a b) ∙ joined_append (map stm_knowns a) (map stm_knowns b)))
      (All-append IsOrder (knowns a) (knowns b) h.orders k.orders);
}

-- one statement more
pub code_step : (code items : List Stm) (i : ℕ) (s : Stm) → items ≡ code → i < length items → s ≡ get_or items i s → HasWords (take i code) → HasWords (s ∷ []) →
    HasWords (take (i + 1) code)
code_step code items i s same lt is h k =
    let one = subst (λ u. HasWords (u ∷ [])) is k in
    subst (λ xs. HasWords (take (i + 1) xs)) same (
    subst HasWords (sym (take_more items i s lt)) (code_both (take i items) (get_or items i s ∷ []) (subst (λ xs. HasWords (take i xs)) (sym same) h) one))

-- ---- statements

has : (s : Stm) (x : Stm-F Stm) → roll-Stm x ≡ s → AreWords (constants_of_all (layer_trees (map-Stm Stm (List Tree) stm_trees x))) →
    All IsOrder (knowns_layer (map-Stm Stm (List Known) stm_knowns x)) → HasWords (s ∷ [])
has s x e h k = subst (λ u. HasWords (u ∷ [])) e (record {
  constants = subst (λ ts. AreWords (constants_of_all ts)) (sym (append-nil (stm_trees (roll-Stm x)) ∙ trees_roll x)) h;
  orders = subst (All IsOrder) (sym (append-nil (stm_knowns (roll-Stm x)) ∙ knowns_roll x)) k;
})

none : All IsOrder []
none = All-nil IsOrder

pub has_set : (t : ℕ) (v : Tree) → AreWords (tree_constants v) → HasWords (at.Set t v ∷ [])
has_set t v h = has (at.Set t v) (stm.Set t v) (rolls-Set t v) (one_tree v h) none

pub has_set_global : (g : ℕ) (v : Tree) → AreWords (tree_constants v) → HasWords (at.SetGlobal g v ∷ [])
has_set_global g v h = has (at.SetGlobal g v) (stm.SetGlobal g v) (rolls-SetGlobal g v) (one_tree v h) none

pub has_divide : (t o : ℕ) (a b : Tree) → AreWords (tree_constants a) → AreWords (tree_constants b) → HasWords (at.Divide t o a b ∷ [])
has_divide t o a b h k = has (at.Divide t o a b) (stm.Divide t o a b) (rolls-Divide t o a b) (two_trees a b h k) none

pub has_check : (a : Array) (i : Tree) → AreWords (tree_constants i) → HasWords (at.Check a i ∷ [])
has_check a i h = has (at.Check a i) (stm.Check a i) (rolls-Check a i) (one_tree i h) none

pub has_read : (t : ℕ) (a : Array) (i : Tree) → AreWords (tree_constants i) → HasWords (at.Read t a i ∷ [])
has_read t a i h = has (at.Read t a i) (stm.Read t a i) (rolls-Read t a i) (one_tree i h) none

pub has_write : (a : Array) (i v : Tree) → AreWords (tree_constants i) → AreWords (tree_constants v) → HasWords (at.Write a i v ∷ [])
has_write a i v h k = has (at.Write a i v) (stm.Write a i v) (rolls-Write a i v) (two_trees i v h k) none

pub has_zero : (l : ℕ) → HasWords (at.Zero l ∷ [])
has_zero l = has (at.Zero l) (stm.Zero l) (rolls-Zero l) no_words none

pub has_if : (t : Tree) (a b : List Stm) → AreWords (tree_constants t) → HasWords a → HasWords b → HasWords (at.If t a b ∷ [])
has_if t a b h k l =
    has (at.If t a b) (stm.If t a b) (rolls-If t a b)
    (All-append IsWord (tree_constants t) (constants_of_all (trees a ++ trees b)) h (append_both (trees a) (trees b) k.constants l.constants))
    (All-append IsOrder (knowns a) (knowns b) k.orders l.orders)

pub has_loop : (b : List Stm) → HasWords b → HasWords (at.Loop b ∷ [])
has_loop b h = has (at.Loop b) (stm.Loop b) (rolls-Loop b) h.constants h.orders

pub has_block : (b : List Stm) → HasWords b → HasWords (at.Block b ∷ [])
has_block b h = has (at.Block b) (stm.Block b) (rolls-Block b) h.constants h.orders

pub has_break : (n : ℕ) → HasWords (at.Break n ∷ [])
has_break n = has (at.Break n) (stm.Break n) (rolls-Break n) no_words none

pub has_back : (n : ℕ) → HasWords (at.Back n ∷ [])
has_back n = has (at.Back n) (stm.Back n) (rolls-Back n) no_words none

pub has_call : (r : Option ℕ) (f : Callee) (args : List Tree) → AreWords (constants_of_all (callee_trees f)) → AreWords (constants_of_all args) → HasWords (at.Call r f args ∷ [])
has_call r f args h k = has (at.Call r f args) (stm.Call r f args) (rolls-Call r f args) (append_both (callee_trees f) args h k) none

pub has_known : (r : Option ℕ) (k : Known) (args : List Tree) → IsOrder k → AreWords (constants_of_all args) → HasWords (at.Known r k args ∷ [])
has_known r k args h l = has (at.Known r k args) (stm.Known r k args) (rolls-Known r k args) l (All-cons IsOrder k [] h none)

pub has_return : (v : Tree) → AreWords (tree_constants v) → HasWords (at.Return v ∷ [])
has_return v h = has (at.Return v) (stm.Return v) (rolls-Return v) (one_tree v h) none
