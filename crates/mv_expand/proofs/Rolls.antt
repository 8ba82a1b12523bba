-- The definitions over trees and statements, one level at a time.
use Rattle.std.proofs.Common.{◌≡◌, ℕ, Bool, List, Option}
use Rattle.mv_ir.specs.declared.tree.Tree.{Tree}
use Rattle.mv_ir.specs.declared.tree.Tree.TheOpen.{Tree-F}
use Rattle.mv_ir.specs.declared.tree.Tree.TheViews.{roll-Tree}
use Rattle.mv_ir.specs.declared.tree.Tree.TheFolds.{fold-roll-Tree, map-Tree}
use Rattle.mv_ir.specs.declared.stm.Stm.{Stm}
use Rattle.mv_ir.specs.declared.stm.Stm.TheOpen.{Stm-F}
use Rattle.mv_ir.specs.declared.stm.Stm.TheViews.{roll-Stm}
use Rattle.mv_ir.specs.declared.stm.Stm.TheFolds.{fold-roll-Stm, map-Stm}
use Rattle.mv_expand.specs.Straight.{layer_reads_only, reads_only}
use Rattle.mv_expand.specs.Placed.{layer_sets, stm_sets, placed_node, placed_tree, placed_layer, placed_stm}

pub reads_only_roll : (known : List ℕ) (x : Tree-F Tree) → reads_only known (roll-Tree x) ≡ layer_reads_only known (map-Tree Tree Bool (reads_only known) x)
unfolding reads_only
reads_only_roll known x = fold-roll-Tree Bool (layer_reads_only known) x

pub stm_sets_roll : (t : ℕ) (x : Stm-F Stm) → stm_sets t (roll-Stm x) ≡ layer_sets t (map-Stm Stm Bool (stm_sets t) x)
unfolding stm_sets
stm_sets_roll t x = fold-roll-Stm Bool (layer_sets t) x

module _ (base : ℕ) (keeps : ℕ → Bool) (args : List Tree) where
  pub placed_tree_roll : (x : Tree-F Tree) → placed_tree base keeps args (roll-Tree x) ≡ placed_node base keeps args (map-Tree Tree Tree (placed_tree base keeps args) x)
  unfolding placed_tree
  placed_tree_roll x = fold-roll-Tree Tree (placed_node base keeps args) x

  pub placed_stm_roll : (r : Option ℕ) (x : Stm-F Stm) → placed_stm base keeps args r (roll-Stm x) ≡ placed_layer base keeps args r (map-Stm Stm (List Stm) (placed_stm base keeps args r) x)
  unfolding placed_stm
  placed_stm_roll r x = fold-roll-Stm (List Stm) (placed_layer base keeps args r) x
