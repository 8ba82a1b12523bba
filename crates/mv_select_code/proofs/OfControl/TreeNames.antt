-- The functions that a tree or a statement names, of those that its parts name.
use Rattle.std.proofs.Common.{◌≡◌, ℕ, List, [], ◌∷◌, ◌++◌, All, subst}
use Rattle.std.proofs.lemmas.List.Elements.{All-cons, All-nil, All-head, All-tail}
use Rattle.mv_ir.specs.declared.tree.Tree.{Tree}
use Rattle.mv_ir.specs.declared.tree.Tree.TheOpen.{Tree-F}
use Rattle.mv_ir.specs.declared.tree.Tree.TheOpen as tree
use Rattle.mv_ir.specs.declared.tree.Tree.TheViews.{roll-Tree}
use Rattle.mv_ir.specs.declared.tree.Tree.TheFolds.{fold-roll-Tree, map-Tree}
use Rattle.mv_ir.specs.declared.stm.Stm.{Stm}
use Rattle.mv_ir.specs.declared.stm.Stm.TheOpen.{Stm-F}
use Rattle.mv_ir.specs.declared.stm.Stm.TheViews.{roll-Stm}
use Rattle.mv_ir.specs.declared.stm.Stm.TheFolds.{fold-roll-Stm, map-Stm}
use Rattle.mv_ir.proofs.Induction.{Each, TreeChildren}
use Rattle.mv_select_code.specs.Control.Labels.{functions_layer, tree_functions, named_layer, stm_functions, pointers_layer, stm_pointers}

-- where nothing is asked of a number
abbrev pub AnyNumber : ℕ → Type 0
AnyNumber n = Unit {0}

pub all_any : (ns : List ℕ) → All AnyNumber ns
all_any ns k d lt = tt

pub each_any : (ns : List ℕ) → Each AnyNumber ns
each_any [] = tt
each_any (n ∷ ns) = (tt, each_any ns)

pub all_front : {X : Type 0} (P : X → Type 0) (xs ys : List X) → All P (xs ++ ys) → All P xs
all_front P [] ys h = All-nil P
all_front P (x ∷ xs) ys h = All-cons P x xs (All-head P x (xs ++ ys) h) (all_front P xs ys (All-tail P x (xs ++ ys) h))

pub all_back : {X : Type 0} (P : X → Type 0) (xs ys : List X) → All P (xs ++ ys) → All P ys
all_back P [] ys h = h
all_back P (x ∷ xs) ys h = all_back P xs ys (All-tail P x (xs ++ ys) h)

pub functions_roll : (x : Tree-F Tree) → tree_functions (roll-Tree x) ≡ functions_layer (map-Tree Tree (List ℕ) tree_functions x)
unfolding tree_functions
functions_roll x = fold-roll-Tree (List ℕ) functions_layer x

-- the functions that the parts of a tree name, of those that it names
pub functions_inside : (P : ℕ → Type 0) (x : Tree-F Tree) → All P (tree_functions (roll-Tree x)) → TreeChildren (λ t. All P (tree_functions t)) x
functions_inside P x h = parts x (subst (All P) (functions_roll x) h)
  where
    parts : (x : Tree-F Tree) → All P (functions_layer (map-Tree Tree (List ℕ) tree_functions x)) → TreeChildren (λ t. All P (tree_functions t)) x
    parts (tree.Number n) h = tt
    parts (tree.Temp t) h = tt
    parts (tree.Global g) h = tt
    parts (tree.Function f) h = tt
    parts (tree.Unary o a) h = h
    parts (tree.Binary o a b) h = (all_front P (tree_functions a) (tree_functions b) h, all_back P (tree_functions a) (tree_functions b) h)
    parts (tree.Narrow k a) h = h

pub function_named : (P : ℕ → Type 0) (f : ℕ) → All P (tree_functions (roll-Tree (tree.Function f))) → P f
function_named P f h = All-head P f [] (subst (All P) (functions_roll (tree.Function f)) h)

pub named_roll : (x : Stm-F Stm) → stm_functions (roll-Stm x) ≡ named_layer (map-Stm Stm (List ℕ) stm_functions x)
unfolding stm_functions
named_roll x = fold-roll-Stm (List ℕ) named_layer x

pub pointers_roll : (x : Stm-F Stm) → stm_pointers (roll-Stm x) ≡ pointers_layer (map-Stm Stm (List ℕ) stm_pointers x)
unfolding stm_pointers
pointers_roll x = fold-roll-Stm (List ℕ) pointers_layer x
