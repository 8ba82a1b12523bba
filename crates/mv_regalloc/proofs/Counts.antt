-- Renaming changes no count of a body, no depth, and no read of a global.
use Rattle.std.proofs.Common.{◌≡◌, ℕ, suc, ◌+◌, Bool, nat_lt, nat_eq, List, [], ◌∷◌, ◌++◌, length, map, max, refl, sym, ap, ◌∙◌}
use Rattle.mv_ir.specs.declared.tree.Tree.{Tree}
use Rattle.mv_ir.specs.declared.tree.Tree.TheOpen.{Tree-F}
use Rattle.mv_ir.specs.declared.tree.Tree.TheOpen as tree
use Rattle.mv_ir.specs.declared.tree.Tree.TheViews.{roll-Tree}
use Rattle.mv_ir.specs.declared.tree.Tree.TheFolds.{map-Tree}
use Rattle.mv_ir.specs.declared.stm.Callee.{Callee}
use Rattle.mv_ir.specs.declared.stm.Callee.TheVariants as callee
use Rattle.mv_ir.specs.declared.stm.Stm.{Stm}
use Rattle.mv_ir.specs.declared.stm.Stm.TheOpen.{Stm-F}
use Rattle.mv_ir.specs.declared.stm.Stm.TheOpen as stm
use Rattle.mv_ir.specs.declared.stm.Stm.TheViews.{roll-Stm}
use Rattle.mv_ir.specs.declared.stm.Stm.TheFolds.{map-Stm}
use Rattle.mv_ir.specs.Trees.{node_count, nodes, node_depth, depth, nodes_of_all}
use Rattle.mv_ir.specs.Measures.{joined, total, layer_reads, tree_reads, callee_trees, layer_trees, stm_trees, trees, callee_read, layer_arrays, stm_arrays, arrays_read, layer_size, stm_size, statements, layer_calls, stm_calls, calls, tree_nodes, scalars_read, deepest, deepest_of}
use Rattle.mv_ir.specs.declared.stm.Array.{Array}
use Rattle.mv_ir.specs.WellFormed.{layer_targets, stm_targets, callee_named, layer_named, stm_named, named, known_arguments, layer_arguments, stm_arguments}
use Rattle.mv_ir.proofs.Induction.{Each, TreeChildren, tree_ind, StmChildren, stm_ind, stms_ind}
use Rattle.mv_ir.proofs.Rolls.{nodes_roll, depth_roll, reads_roll, trees_roll, arrays_roll, size_roll, calls_roll, targets_roll, named_roll, arguments_roll}
use Rattle.mv_ir.proofs.Keeping.{map_append}
use Rattle.mv_ir.proofs.Joining.{map_map, map_joined, map_through}
use Rattle.mv_regalloc.specs.Rename.{renamed_tree, renamed_callee, renamed_layer, renamed_stm, renamed_code}
use Rattle.mv_regalloc.proofs.RenamedTrees.{renamed_tree_roll, renamed_stm_roll}

module _ (c : ℕ → ℕ) where
  -- ---- trees

  -- what is folded from a tree, where the number of a temporary doesn't matter
  module _ {A : Type 0} (g : Tree → A) (layer : Tree-F A → A) (rolls : (x : Tree-F Tree) → g (roll-Tree x) ≡ layer (map-Tree Tree A g x)) (blind : (n m : ℕ) → layer (tree.Temp n) ≡ layer (tree.Temp m)) where
    abbrev SameOf : Tree → Type 0
    SameOf t = g (renamed_tree c t) ≡ g t

    tree_layer : (x : Tree-F Tree) → TreeChildren SameOf x → SameOf (roll-Tree x)
    tree_layer (tree.Number n) h = ap g (renamed_tree_roll c (tree.Number n))
    tree_layer (tree.Temp n) h = ap g (renamed_tree_roll c (tree.Temp n)) ∙ rolls (tree.Temp (c n)) ∙ blind (c n) n ∙ sym (rolls (tree.Temp n))
    tree_layer (tree.Global n) h = ap g (renamed_tree_roll c (tree.Global n))
    tree_layer (tree.Function n) h = ap g (renamed_tree_roll c (tree.Function n))
    tree_layer (tree.Unary o a) h = ap g (renamed_tree_roll c (tree.Unary o a)) ∙ rolls (tree.Unary o (renamed_tree c a)) ∙ ap (λ y. layer (tree.Unary o y)) h ∙ sym (rolls (tree.Unary o a))
    tree_layer (tree.Binary o a b) h =
        ap g (renamed_tree_roll c (tree.Binary o a b)) ∙ rolls (tree.Binary o (renamed_tree c a) (renamed_tree c b)) ∙
        ap (λ y. layer (tree.Binary o y (g (renamed_tree c b)))) h.0 ∙ ap (λ y. layer (tree.Binary o (g a) y)) h.1 ∙ sym (rolls (tree.Binary o a b))
    tree_layer (tree.Narrow k a) h = ap g (renamed_tree_roll c (tree.Narrow k a)) ∙ rolls (tree.Narrow k (renamed_tree c a)) ∙ ap (λ y. layer (tree.Narrow k y)) h ∙ sym (rolls (tree.Narrow k a))

    same_tree : (t : Tree) → SameOf t
    same_tree = tree_ind SameOf tree_layer

  reads_same : (t : Tree) → tree_reads (renamed_tree c t) ≡ tree_reads t
  reads_same = same_tree tree_reads layer_reads reads_roll (λ n m. refl)

  reads_all : (ts : List Tree) → joined (map tree_reads (map (renamed_tree c) ts)) ≡ joined (map tree_reads ts)
  reads_all [] = refl
  reads_all (t ∷ ts) = ap (λ l. l ++ joined (map tree_reads (map (renamed_tree c) ts))) (reads_same t) ∙ ap (λ l. tree_reads t ++ l) (reads_all ts)

  nodes_all : (ts : List Tree) → nodes_of_all (map (renamed_tree c) ts) ≡ nodes_of_all ts
  nodes_all [] = refl
  nodes_all (t ∷ ts) = ap (λ n. n + nodes_of_all (map (renamed_tree c) ts)) (same_tree nodes node_count nodes_roll (λ n m. refl) t) ∙ ap (λ n. nodes t + n) (nodes_all ts)

  depths_all : (ts : List Tree) → deepest_of (map (renamed_tree c) ts) ≡ deepest_of ts
  depths_all [] = refl
  depths_all (t ∷ ts) = ap (λ n. max n (deepest_of (map (renamed_tree c) ts))) (same_tree depth node_depth depth_roll (λ n m. refl) t) ∙ ap (λ n. max (depth t) n) (depths_all ts)

  -- ---- what stands in code

  module _ {A : Type 0} (g : Stm → List A) (f : A → A) where
    -- of a list of statements, from each of them
    joined_renamed : (b : List Stm) → Each (λ s. g (renamed_stm c s) ≡ map f (g s)) b → joined (map g (map (renamed_stm c) b)) ≡ map f (joined (map g b))
    joined_renamed b h = ap joined (map_through (λ s. map f (g s)) g (renamed_stm c) b h ∙ sym (map_map (map f) g b)) ∙ sym (map_joined f (map g b))

  abbrev HasTrees : Stm → Type 0
  HasTrees s = stm_trees (renamed_stm c s) ≡ map (renamed_tree c) (stm_trees s)

  trees_to : (x : Stm-F Stm) → stm_trees (renamed_stm c (roll-Stm x)) ≡ layer_trees (map-Stm Stm (List Tree) stm_trees (renamed_layer c (map-Stm Stm Stm (renamed_stm c) x)))
  trees_to x = ap stm_trees (renamed_stm_roll c x) ∙ trees_roll (renamed_layer c (map-Stm Stm Stm (renamed_stm c) x))

  trees_from : (x : Stm-F Stm) → map (renamed_tree c) (layer_trees (map-Stm Stm (List Tree) stm_trees x)) ≡ map (renamed_tree c) (stm_trees (roll-Stm x))
  trees_from x = ap (map (renamed_tree c)) (sym (trees_roll x))

  two_lists : (a b : List Stm) → Each HasTrees a → Each HasTrees b →
      joined (map stm_trees (map (renamed_stm c) a)) ++ joined (map stm_trees (map (renamed_stm c) b)) ≡ map (renamed_tree c)
      (joined (map stm_trees a) ++ joined (map stm_trees b))
  two_lists a b ha hb =
      ap (λ l. l ++ joined (map stm_trees (map (renamed_stm c) b))) (joined_renamed stm_trees (renamed_tree c) a ha) ∙
      ap (λ l. map (renamed_tree c) (joined (map stm_trees a)) ++ l) (joined_renamed stm_trees (renamed_tree c) b hb) ∙
      sym (map_append (renamed_tree c) (joined (map stm_trees a)) (joined (map stm_trees b)))

  callee_trees_renamed : (f : Callee) → callee_trees (renamed_callee c f) ≡ map (renamed_tree c) (callee_trees f)
  callee_trees_renamed (callee.Direct f) = refl
  callee_trees_renamed (callee.Through t) = refl
  callee_trees_renamed (callee.Switched g) = refl
  callee_trees_renamed callee.Expanded = refl

  trees_layer : (x : Stm-F Stm) → StmChildren HasTrees x → layer_trees (map-Stm Stm (List Tree) stm_trees (renamed_layer c (map-Stm Stm Stm (renamed_stm c) x))) ≡ map (renamed_tree c) (layer_trees (map-Stm Stm (List Tree) stm_trees x))
  trees_layer (stm.Set t v) h = refl
  trees_layer (stm.SetGlobal g v) h = refl
  trees_layer (stm.Divide t o a b) h = refl
  trees_layer (stm.Check a i) h = refl
  trees_layer (stm.Read t a i) h = refl
  trees_layer (stm.Write a i v) h = refl
  trees_layer (stm.Zero l) h = refl
  trees_layer (stm.If t a b) h = ap (λ l. renamed_tree c t ∷ l) (two_lists a b h.0 h.1)
  trees_layer (stm.Loop b) h = joined_renamed stm_trees (renamed_tree c) b h
  trees_layer (stm.Block b) h = joined_renamed stm_trees (renamed_tree c) b h
  trees_layer (stm.Break n) h = refl
  trees_layer (stm.Back n) h = refl
  trees_layer (stm.Call r f args) h =
      ap (λ l. l ++ map (renamed_tree c) args) (callee_trees_renamed f) ∙ sym (map_append (renamed_tree c) (callee_trees f) args)
  trees_layer (stm.Known r k args) h = refl
  trees_layer (stm.Return v) h = refl

  trees_renamed_one : (s : Stm) → HasTrees s
  trees_renamed_one = stm_ind HasTrees (λ x h. trees_to x ∙ trees_layer x h ∙ trees_from x)

  pub trees_renamed : (code : List Stm) → trees (renamed_code c code) ≡ map (renamed_tree c) (trees code)
  trees_renamed code = joined_renamed stm_trees (renamed_tree c) code (stms_ind HasTrees trees_renamed_one code)

  -- a count or list that no tree matters to
  module _ {A : Type 0} (g : Stm → A) (layer : Stm-F A → A) (rolls : (x : Stm-F Stm) → g (roll-Stm x) ≡ layer (map-Stm Stm A g x)) (blind : (x : Stm-F A) → layer (renamed_layer c x) ≡ layer x) where
    abbrev Same : Stm → Type 0
    Same s = g (renamed_stm c s) ≡ g s

    abbrev image : Stm-F Stm → Stm-F A
    image x = map-Stm Stm A g (renamed_layer c (map-Stm Stm Stm (renamed_stm c) x))

    image_is : (x : Stm-F Stm) → StmChildren Same x → image x ≡ renamed_layer c (map-Stm Stm A g x)
    image_is (stm.Set t v) h = refl
    image_is (stm.SetGlobal k v) h = refl
    image_is (stm.Divide t o a b) h = refl
    image_is (stm.Check a i) h = refl
    image_is (stm.Read t a i) h = refl
    image_is (stm.Write a i v) h = refl
    image_is (stm.Zero l) h = refl
    image_is (stm.If t a b) h =
        ap (λ l. stm.If (renamed_tree c t) l (map g (map (renamed_stm c) b))) (map_through g g (renamed_stm c) a h.0) ∙
        ap (λ l. stm.If (renamed_tree c t) (map g a) l) (map_through g g (renamed_stm c) b h.1)
    image_is (stm.Loop b) h = ap (λ l. stm.Loop l) (map_through g g (renamed_stm c) b h)
    image_is (stm.Block b) h = ap (λ l. stm.Block l) (map_through g g (renamed_stm c) b h)
    image_is (stm.Break n) h = refl
    image_is (stm.Back n) h = refl
    image_is (stm.Call r f args) h = refl
    image_is (stm.Known r k args) h = refl
    image_is (stm.Return v) h = refl

    blind_one : (s : Stm) → Same s
    blind_one = stm_ind Same (λ x h. ap g (renamed_stm_roll c x) ∙ rolls (renamed_layer c (map-Stm Stm Stm (renamed_stm c) x)) ∙ ap layer (image_is x h) ∙ blind (map-Stm Stm A g x) ∙ sym (rolls x))

    blind_all : (code : List Stm) → map g (renamed_code c code) ≡ map g code
    blind_all code = map_through g g (renamed_stm c) code (stms_ind Same blind_one code)

  blind_sizes : (x : Stm-F ℕ) → layer_size (renamed_layer c x) ≡ layer_size x
  blind_sizes (stm.Set t v) = refl
  blind_sizes (stm.SetGlobal k v) = refl
  blind_sizes (stm.Divide t o a b) = refl
  blind_sizes (stm.Check a i) = refl
  blind_sizes (stm.Read t a i) = refl
  blind_sizes (stm.Write a i v) = refl
  blind_sizes (stm.Zero l) = refl
  blind_sizes (stm.If t a b) = refl
  blind_sizes (stm.Loop b) = refl
  blind_sizes (stm.Block b) = refl
  blind_sizes (stm.Break n) = refl
  blind_sizes (stm.Back n) = refl
  blind_sizes (stm.Call r f args) = refl
  blind_sizes (stm.Known r k args) = refl
  blind_sizes (stm.Return v) = refl

  blind_calls : (x : Stm-F ℕ) → layer_calls (renamed_layer c x) ≡ layer_calls x
  blind_calls (stm.Set t v) = refl
  blind_calls (stm.SetGlobal k v) = refl
  blind_calls (stm.Divide t o a b) = refl
  blind_calls (stm.Check a i) = refl
  blind_calls (stm.Read t a i) = refl
  blind_calls (stm.Write a i v) = refl
  blind_calls (stm.Zero l) = refl
  blind_calls (stm.If t a b) = refl
  blind_calls (stm.Loop b) = refl
  blind_calls (stm.Block b) = refl
  blind_calls (stm.Break n) = refl
  blind_calls (stm.Back n) = refl
  blind_calls (stm.Call r f args) = refl
  blind_calls (stm.Known r k args) = refl
  blind_calls (stm.Return v) = refl

  callee_read_renamed : (f : Callee) → callee_read (renamed_callee c f) ≡ callee_read f
  callee_read_renamed (callee.Direct f) = refl
  callee_read_renamed (callee.Through t) = refl
  callee_read_renamed (callee.Switched g) = refl
  callee_read_renamed callee.Expanded = refl

  blind_arrays : (x : Stm-F (List ℕ)) → layer_arrays (renamed_layer c x) ≡ layer_arrays x
  blind_arrays (stm.Set t v) = refl
  blind_arrays (stm.SetGlobal k v) = refl
  blind_arrays (stm.Divide t o a b) = refl
  blind_arrays (stm.Check a i) = refl
  blind_arrays (stm.Read t a i) = refl
  blind_arrays (stm.Write a i v) = refl
  blind_arrays (stm.Zero l) = refl
  blind_arrays (stm.If t a b) = refl
  blind_arrays (stm.Loop b) = refl
  blind_arrays (stm.Block b) = refl
  blind_arrays (stm.Break n) = refl
  blind_arrays (stm.Back n) = refl
  blind_arrays (stm.Call r f args) = callee_read_renamed f
  blind_arrays (stm.Known r k args) = refl
  blind_arrays (stm.Return v) = refl

  length_renamed : (ts : List Tree) → length (map (renamed_tree c) ts) ≡ length ts
  length_renamed [] = refl
  length_renamed (t ∷ ts) = ap suc (length_renamed ts)

  blind_targets : (x : Stm-F (List Bool → Bool)) → layer_targets (renamed_layer c x) ≡ layer_targets x
  blind_targets (stm.Set t v) = refl
  blind_targets (stm.SetGlobal k v) = refl
  blind_targets (stm.Divide t o a b) = refl
  blind_targets (stm.Check a i) = refl
  blind_targets (stm.Read t a i) = refl
  blind_targets (stm.Write a i v) = refl
  blind_targets (stm.Zero l) = refl
  blind_targets (stm.If t a b) = refl
  blind_targets (stm.Loop b) = refl
  blind_targets (stm.Block b) = refl
  blind_targets (stm.Break n) = refl
  blind_targets (stm.Back n) = refl
  blind_targets (stm.Call r f args) = refl
  blind_targets (stm.Known r k args) = refl
  blind_targets (stm.Return v) = refl

  callee_named_renamed : (f : Callee) → callee_named (renamed_callee c f) ≡ callee_named f
  callee_named_renamed (callee.Direct f) = refl
  callee_named_renamed (callee.Through t) = refl
  callee_named_renamed (callee.Switched g) = refl
  callee_named_renamed callee.Expanded = refl

  blind_named : (x : Stm-F (List Array)) → layer_named (renamed_layer c x) ≡ layer_named x
  blind_named (stm.Set t v) = refl
  blind_named (stm.SetGlobal k v) = refl
  blind_named (stm.Divide t o a b) = refl
  blind_named (stm.Check a i) = refl
  blind_named (stm.Read t a i) = refl
  blind_named (stm.Write a i v) = refl
  blind_named (stm.Zero l) = refl
  blind_named (stm.If t a b) = refl
  blind_named (stm.Loop b) = refl
  blind_named (stm.Block b) = refl
  blind_named (stm.Break n) = refl
  blind_named (stm.Back n) = refl
  blind_named (stm.Call r f args) = callee_named_renamed f
  blind_named (stm.Known r k args) = refl
  blind_named (stm.Return v) = refl

  blind_arguments : (x : Stm-F Bool) → layer_arguments (renamed_layer c x) ≡ layer_arguments x
  blind_arguments (stm.Set t v) = refl
  blind_arguments (stm.SetGlobal k v) = refl
  blind_arguments (stm.Divide t o a b) = refl
  blind_arguments (stm.Check a i) = refl
  blind_arguments (stm.Read t a i) = refl
  blind_arguments (stm.Write a i v) = refl
  blind_arguments (stm.Zero l) = refl
  blind_arguments (stm.If t a b) = refl
  blind_arguments (stm.Loop b) = refl
  blind_arguments (stm.Block b) = refl
  blind_arguments (stm.Break n) = refl
  blind_arguments (stm.Back n) = refl
  blind_arguments (stm.Call r f args) = ap (λ n. nat_lt n 9) (length_renamed args)
  blind_arguments (stm.Known r k args) = ap (λ n. nat_eq n (known_arguments k)) (length_renamed args)
  blind_arguments (stm.Return v) = refl

  -- ---- of some code

  pub same_scalars : (b : List Stm) → scalars_read (renamed_code c b) ≡ scalars_read b
  same_scalars b = ap (λ ts. joined (map tree_reads ts)) (trees_renamed b) ∙ reads_all (trees b)

  pub same_arrays : (b : List Stm) → arrays_read (renamed_code c b) ≡ arrays_read b
  same_arrays b = ap joined (blind_all stm_arrays layer_arrays arrays_roll blind_arrays b)

  pub same_deepest : (b : List Stm) → deepest (renamed_code c b) ≡ deepest b
  same_deepest b = ap deepest_of (trees_renamed b) ∙ depths_all (trees b)

  pub same_statements : (b : List Stm) → statements (renamed_code c b) ≡ statements b
  same_statements b = ap total (blind_all stm_size layer_size size_roll blind_sizes b)

  pub same_nodes : (b : List Stm) → tree_nodes (renamed_code c b) ≡ tree_nodes b
  same_nodes b = ap nodes_of_all (trees_renamed b) ∙ nodes_all (trees b)

  pub same_calls : (b : List Stm) → calls (renamed_code c b) ≡ calls b
  same_calls b = ap total (blind_all stm_calls layer_calls calls_roll blind_calls b)

  pub same_targets : (b : List Stm) → map stm_targets (renamed_code c b) ≡ map stm_targets b
  same_targets b = blind_all stm_targets layer_targets targets_roll blind_targets b

  pub same_named : (b : List Stm) → named (renamed_code c b) ≡ named b
  same_named b = ap joined (blind_all stm_named layer_named named_roll blind_named b)

  pub same_arguments : (b : List Stm) → map stm_arguments (renamed_code c b) ≡ map stm_arguments b
  same_arguments b = blind_all stm_arguments layer_arguments arguments_roll blind_arguments b
