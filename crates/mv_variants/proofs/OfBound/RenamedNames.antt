-- Code whose temporaries are renamed names no more.
use Rattle.std.proofs.Common.{ℕ, List, [], ◌∷◌, map, sym, subst}
use Rattle.mv_ast.specs.declared.program.Known.{Known}
use Rattle.mv_ir.specs.declared.tree.Tree.{Tree}
use Rattle.mv_ir.specs.declared.tree.Tree.TheOpen.{Tree-F}
use Rattle.mv_ir.specs.declared.tree.Tree.TheOpen as tree
use Rattle.mv_ir.specs.declared.tree.Tree.TheFolds.{map-Tree}
use Rattle.mv_ir.specs.declared.stm.Callee.{Callee}
use Rattle.mv_ir.specs.declared.stm.Callee.TheVariants as callee
use Rattle.mv_ir.specs.declared.stm.Stm.{Stm}
use Rattle.mv_ir.specs.declared.stm.Stm.TheOpen.{Stm-F}
use Rattle.mv_ir.specs.declared.stm.Stm.TheOpen as stm
use Rattle.mv_ir.specs.declared.stm.Stm.TheFolds.{map-Stm}
use Rattle.mv_ir.proofs.Induction.{Each, TreeChildren, tree_ind, StmChildren, stm_ind, stms_ind}
use Rattle.mv_regalloc.specs.Rename.{renamed_node, renamed_tree, renamed_callee, renamed_layer, renamed_stm, renamed_code}
use Rattle.mv_regalloc.proofs.RenamedTrees.{renamed_tree_roll, renamed_stm_roll}
use Rattle.mv_select.proofs.OfBodies.Naming.{TreeNames, StmNames, CodeNames, TreeParts, tree_in, tree_out, CalleeNames, StmParts, stm_in, stm_out}

module _ (F : ℕ → Type 0) (K : Known → Type 0) (C : ℕ → Type 0) (c : ℕ → ℕ) where
  abbrev TreeKept : Tree → Type 0
  TreeKept t = TreeNames F K C t → TreeNames F K C (renamed_tree c t)

  node : (x : Tree-F Tree) → TreeChildren TreeKept x → TreeParts F K C x → TreeNames F K C (renamed_node c (map-Tree Tree Tree (renamed_tree c) x))
  node (tree.Number n) h p = tree_in F K C (tree.Number n) p
  node (tree.Temp t) h p = tree_in F K C (tree.Temp (c t)) tt
  node (tree.Global g) h p = tree_in F K C (tree.Global g) tt
  node (tree.Function f) h p = tree_in F K C (tree.Function f) p
  node (tree.Unary o a) h p = tree_in F K C (tree.Unary o (renamed_tree c a)) (h p)
  node (tree.Binary o a b) h p = tree_in F K C (tree.Binary o (renamed_tree c a) (renamed_tree c b)) (h.0 p.0, h.1 p.1)
  node (tree.Narrow k a) h p = tree_in F K C (tree.Narrow k (renamed_tree c a)) (h p)

  tree_kept : (t : Tree) → TreeKept t
  tree_kept = tree_ind TreeKept (λ x h n. subst (TreeNames F K C) (sym (renamed_tree_roll c x)) (node x h (tree_out F K C x n)))

  trees_kept : (ts : List Tree) → Each (TreeNames F K C) ts → Each (TreeNames F K C) (map (renamed_tree c) ts)
  trees_kept [] h = tt
  trees_kept (t ∷ ts) h = (tree_kept t h.0, trees_kept ts h.1)

  abbrev StmKept : Stm → Type 0
  StmKept s = StmNames F K C s → StmNames F K C (renamed_stm c s)

  inner : (code : List Stm) → Each StmKept code → CodeNames F K C code → CodeNames F K C (renamed_code c code)
  inner [] h n = tt
  inner (s ∷ code) h n = (h.0 n.0, inner code h.1 n.1)

  callee_kept : (f : Callee) → CalleeNames F K C f → CalleeNames F K C (renamed_callee c f)
  callee_kept (callee.Direct f) n = n
  callee_kept (callee.Through t) n = tree_kept t n
  callee_kept (callee.Switched g) n = tt
  callee_kept callee.Expanded n = tt

  layer : (x : Stm-F Stm) → StmChildren StmKept x → StmParts F K C x → StmParts F K C (renamed_layer c (map-Stm Stm Stm (renamed_stm c) x))
  layer (stm.Set t v) h p = tree_kept v p
  layer (stm.SetGlobal g v) h p = tree_kept v p
  layer (stm.Divide t o a b) h p = (tree_kept a p.0, tree_kept b p.1)
  layer (stm.Check r i) h p = tree_kept i p
  layer (stm.Read t r i) h p = tree_kept i p
  layer (stm.Write r i v) h p = (tree_kept i p.0, tree_kept v p.1)
  layer (stm.Zero l) h p = tt
  layer (stm.If t a b) h p = (tree_kept t p.0, inner a h.0 p.1, inner b h.1 p.2)
  layer (stm.Loop b) h p = inner b h p
  layer (stm.Block b) h p = inner b h p
  layer (stm.Break n) h p = tt
  layer (stm.Back n) h p = tt
  layer (stm.Call r f args) h p = (callee_kept f p.0, trees_kept args p.1)
  layer (stm.Known r k args) h p = (p.0, trees_kept args p.1)
  layer (stm.Return v) h p = tree_kept v p

  stm_kept : (s : Stm) → StmKept s
  stm_kept = stm_ind StmKept (λ x h n. subst (StmNames F K C) (sym (renamed_stm_roll c x)) (stm_in F K C (renamed_layer c (map-Stm Stm Stm (renamed_stm c) x)) (layer x h (stm_out F K C x n))))

  pub renamed_names : (code : List Stm) → CodeNames F K C code → CodeNames F K C (renamed_code c code)
  renamed_names code n = inner code (stms_ind StmKept stm_kept code) n
