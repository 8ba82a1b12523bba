-- Code whose switches are bound names no more, but for the values that they are bound to.
use Rattle.std.proofs.Common.{◌≡◌, ℕ, List, [], ◌∷◌, map, Option, None, Some, sym, subst, refl}
use Rattle.mv_ast.specs.declared.program.Known.{Known}
use Rattle.mv_ir.specs.declared.tree.Tree.{Tree}
use Rattle.mv_ir.specs.declared.tree.Tree.TheOpen.{Tree-F}
use Rattle.mv_ir.specs.declared.tree.Tree.TheOpen as tree
use Rattle.mv_ir.specs.declared.tree.Tree.TheFolds.{map-Tree}
use Rattle.mv_ir.specs.declared.stm.Callee.{Callee}
use Rattle.mv_ir.specs.declared.stm.Callee.TheVariants as callee
use Rattle.mv_ir.specs.declared.stm.Stm.{Stm}
use Rattle.mv_ir.specs.declared.stm.Stm.TheOpen.{Stm-F}
use Rattle.mv_ir.specs.declared.stm.Stm.TheOpen as stm
use Rattle.mv_ir.specs.declared.stm.Stm.TheFolds.{map-Stm}
use Rattle.mv_ir.specs.Trees.{found}
use Rattle.mv_ir.proofs.Induction.{Each, TreeChildren, tree_ind, StmChildren, stm_ind, stms_ind}
use Rattle.mv_clone.specs.Bind.{known_or_read, bound_node, bound_tree, bound_callee, bound_layer, bound_stm, bound_code}
use Rattle.mv_clone.proofs.Bound.{bound_tree_roll, bound_stm_roll}
use Rattle.mv_select.proofs.OfBodies.Naming.{TreeNames, StmNames, CodeNames, TreeParts, tree_in, tree_out, CalleeNames, StmParts, stm_in, stm_out}

module _ (F : ℕ → Type 0) (K : Known → Type 0) (C : ℕ → Type 0) (ps : List (ℕ × ℕ)) (values : (g v : ℕ) → found ps g ≡ Some v → C v) where
  -- ---- trees

  abbrev TreeKept : Tree → Type 0
  TreeKept t = TreeNames F K C t → TreeNames F K C (bound_tree ps t)

  read_names : (g : ℕ) (o : Option ℕ) → found ps g ≡ o → TreeNames F K C (known_or_read g o)
  read_names g None e = tree_in F K C (tree.Global g) tt
  read_names g (Some v) e = tree_in F K C (tree.Number v) (values g v e)

  node : (x : Tree-F Tree) → TreeChildren TreeKept x → TreeParts F K C x → TreeNames F K C (bound_node ps (map-Tree Tree Tree (bound_tree ps) x))
  node (tree.Number n) h p = tree_in F K C (tree.Number n) p
  node (tree.Temp t) h p = tree_in F K C (tree.Temp t) tt
  node (tree.Global g) h p = read_names g (found ps g) refl
  node (tree.Function f) h p = tree_in F K C (tree.Function f) p
  node (tree.Unary o a) h p = tree_in F K C (tree.Unary o (bound_tree ps a)) (h p)
  node (tree.Binary o a b) h p = tree_in F K C (tree.Binary o (bound_tree ps a) (bound_tree ps b)) (h.0 p.0, h.1 p.1)
  node (tree.Narrow k a) h p = tree_in F K C (tree.Narrow k (bound_tree ps a)) (h p)

  tree_kept : (t : Tree) → TreeKept t
  tree_kept = tree_ind TreeKept (λ x h n. subst (TreeNames F K C) (sym (bound_tree_roll ps x)) (node x h (tree_out F K C x n)))

  trees_kept : (ts : List Tree) → Each (TreeNames F K C) ts → Each (TreeNames F K C) (map (bound_tree ps) ts)
  trees_kept [] h = tt
  trees_kept (t ∷ ts) h = (tree_kept t h.0, trees_kept ts h.1)

  -- ---- statements

  abbrev StmKept : Stm → Type 0
  StmKept s = StmNames F K C s → StmNames F K C (bound_stm ps s)

  inner : (code : List Stm) → Each StmKept code → CodeNames F K C code → CodeNames F K C (bound_code ps code)
  inner [] h n = tt
  inner (s ∷ code) h n = (h.0 n.0, inner code h.1 n.1)

  callee_kept : (f : Callee) → CalleeNames F K C f → CalleeNames F K C (bound_callee ps f)
  callee_kept (callee.Direct f) n = n
  callee_kept (callee.Through t) n = tree_kept t n
  callee_kept (callee.Switched g) n = tt
  callee_kept callee.Expanded n = tt

  layer : (x : Stm-F Stm) → StmChildren StmKept x → StmParts F K C x → StmParts F K C (bound_layer ps (map-Stm Stm Stm (bound_stm ps) x))
  layer (stm.Set t v) h p = tree_kept v p
  layer (stm.SetGlobal g v) h p = tree_kept v p
  layer (stm.Divide t o a b) h p = (tree_kept a p.0, tree_kept b p.1)
  layer (stm.Check r i) h p = tree_kept i p
  layer (stm.Read t r i) h p = tree_kept i p
  layer (stm.Write r i v) h p = (tree_kept i p.0, tree_kept v p.1)
  layer (stm.Zero l) h p = tt
  layer (stm.If t a b) h p = (tree_kept t p.0, inner a h.0 p.1, inner b h.1 p.2)
  layer (stm.Loop b) h p = inner b h p
  layer (stm.Block b) h p = inner b h p
  layer (stm.Break n) h p = tt
  layer (stm.Back n) h p = tt
  layer (stm.Call r f args) h p = (callee_kept f p.0, trees_kept args p.1)
  layer (stm.Known r k args) h p = (p.0, trees_kept args p.1)
  layer (stm.Return v) h p = tree_kept v p

  stm_kept : (s : Stm) → StmKept s
  stm_kept = stm_ind StmKept (λ x h n. subst (StmNames F K C) (sym (bound_stm_roll ps x)) (stm_in F K C (bound_layer ps (map-Stm Stm Stm (bound_stm ps) x)) (layer x h (stm_out F K C x n))))

  pub bound_names : (code : List Stm) → CodeNames F K C code → CodeNames F K C (bound_code ps code)
  bound_names code n = inner code (stms_ind StmKept stm_kept code) n
