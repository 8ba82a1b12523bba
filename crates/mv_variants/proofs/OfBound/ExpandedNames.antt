-- Code with short bodies in place of calls names no more, but for the constants of the short bodies.
use Rattle.std.proofs.Common.{arith, ◌≡◌, ℕ, zero, suc, ◌+◌, ◌<◌, Bool, true, false, cond, List, [], ◌∷◌, ◌++◌, length, slice_get, slice_index_or, Option, None, Some, ◌∙◌, refl, sym, subst}
use Rattle.mv_ast.specs.declared.program.Known.{Known}
use Rattle.mv_ir.specs.declared.tree.Tree.{Tree}
use Rattle.mv_ir.specs.declared.tree.Tree.TheOpen.{Tree-F}
use Rattle.mv_ir.specs.declared.tree.Tree.TheOpen as tree
use Rattle.mv_ir.specs.declared.tree.Tree.TheViews.{roll-Tree}
use Rattle.mv_ir.specs.declared.tree.Tree.TheFolds.{map-Tree}
use Rattle.mv_ir.specs.declared.stm.Callee.TheVariants as callee
use Rattle.mv_ir.specs.declared.stm.Stm.{Stm, out-Stm}
use Rattle.mv_ir.specs.declared.stm.Stm.TheOpen.{Stm-F}
use Rattle.mv_ir.specs.declared.stm.Stm.TheOpen as stm
use Rattle.mv_ir.specs.declared.stm.Stm.TheViews.{roll-out-Stm}
use Rattle.mv_ir.specs.declared.stm.Stm.TheFolds.{map-Stm}
use Rattle.mv_ir.specs.declared.body.Body.{Body}
use Rattle.mv_ir.specs.Rolled.{number, temp, set, call}
use Rattle.mv_ir.specs.Shorts.{Shorts}
use Rattle.mv_ir.proofs.Induction.{Each, each_append, TreeChildren, tree_ind}
use Rattle.mv_ir.proofs.Common.{each_first, each_right}
use Rattle.mv_num.proofs.Booleans.{and_left, and_right}
use Rattle.mv_select.proofs.OfBodies.Naming.{TreeNames, StmNames, CodeNames, TreeParts, StmParts, tree_in, tree_out, stm_in, stm_out}
use Rattle.mv_select_code.proofs.OfControl.TreeNames.{AnyNumber}
use Rattle.mv_expand.specs.Straight.{reads_only, layer_reads_only, Straight, returns, sets, divides, IsShort}
use Rattle.mv_expand.specs.Placed.{stand_in, placed_node, placed_tree, given_from, result_into, placed_layer, placed_stm, placed_code, steps, IsPlaced}
use Rattle.mv_expand.specs.Expanding.{Expands, test_unless}
use Rattle.mv_expand.proofs.Rolls.{reads_only_roll, placed_tree_roll, placed_stm_roll}
use Rattle.mv_expand.proofs.Structure.{IsClosed, expanded_is}

-- any known function
abbrev pub AnyKnown : Known → Type 0
AnyKnown k = Unit {0}

module _ (F : ℕ → Type 0) (K : Known → Type 0) (C : ℕ → Type 0) where
  -- ---- short bodies name nothing but constants

  module _ (known : List ℕ) where
    abbrev OnlyNames : Tree → Type 0
    OnlyNames t = reads_only known t ≡ true → TreeNames AnyNumber AnyKnown C t → TreeNames F K C t

    only_names : (t : Tree) → OnlyNames t
    only_names = tree_ind OnlyNames (λ x h only n. tree_in F K C x (by x h (sym (reads_only_roll known x) ∙ only) (tree_out AnyNumber AnyKnown C x n)))
      where
        by : (x : Tree-F Tree) → TreeChildren OnlyNames x → layer_reads_only known (map-Tree Tree Bool (reads_only known) x) ≡ true → TreeParts AnyNumber AnyKnown C x → TreeParts F K C x
        by (tree.Number n) h only p = p
        by (tree.Temp t) h only p = tt
        by (tree.Global g) h only p = tt
        by (tree.Function f) h only p = absurd cc
        by (tree.Unary o a) h only p = h only p
        by (tree.Binary o a b) h only p = (h.0 (and_left (reads_only known a) (reads_only known b) only) p.0, h.1 (and_right (reads_only known a) (reads_only known b) only) p.1)
        by (tree.Narrow k a) h only p = h only p

  straight_names : (temps : ℕ) (known : List ℕ) (code : List Stm) → Straight temps known code → CodeNames AnyNumber AnyKnown C code → CodeNames F K C code
  straight_names temps known code (returns k v only) n =
      (stm_in F K C (stm.Return v) (only_names k v only (stm_out AnyNumber AnyKnown C (stm.Return v) n.0)), tt)
  straight_names temps known code (sets k t v rest lt only h) n =
      (stm_in F K C (stm.Set t v) (only_names k v only (stm_out AnyNumber AnyKnown C (stm.Set t v) n.0)), straight_names temps (t ∷ k) rest h n.1)
  straight_names temps known code (divides k t o a d rest lt some only h) n =
      let parts = stm_out AnyNumber AnyKnown C (stm.Divide t o a (roll-Tree (tree.Number d))) n.0 in (
        stm_in F K C (stm.Divide t o a (roll-Tree (tree.Number d)))
            (only_names k a only parts.0, tree_in F K C (tree.Number d) (tree_out AnyNumber AnyKnown C (tree.Number d) parts.1)),
        straight_names temps (t ∷ k) rest h n.1,
      )

  pub short_names : (b : Body) → IsShort b → CodeNames AnyNumber AnyKnown C b.code → CodeNames F K C b.code
  short_names b short n = straight_names _ _ b.code short.straight n

  -- ---- statements that stand in place of a call

  arg_names : (args : List Tree) (t : ℕ) (d : Tree) → Each (TreeNames F K C) args → t < length args → TreeNames F K C (slice_index_or args t d)
  arg_names [] t d h lt = absurd (omega (arith, lt))
  arg_names (a ∷ args) zero d h lt = h.0
  arg_names (a ∷ args) (suc t) d h lt = arg_names args t d h.1 (omega (arith, lt))

  module _ (base : ℕ) (keeps : ℕ → Bool) (args : List Tree) (few : (t : ℕ) → keeps t ≡ true → t < length args) (given : Each (TreeNames F K C) args) where
    stand_names : (t : ℕ) → TreeNames F K C (stand_in base keeps args t)
    stand_names t = by (keeps t) refl
      where
        by : (k : Bool) → keeps t ≡ k → TreeNames F K C (cond k (slice_index_or args t (number 0)) (temp (base + t)))
        by true e = arg_names args t (number 0) given (few t e)
        by false e = tree_in F K C (tree.Temp (base + t)) tt

    abbrev PlacedNames : Tree → Type 0
    PlacedNames t = TreeNames F K C t → TreeNames F K C (placed_tree base keeps args t)

    tree_names : (t : Tree) → PlacedNames t
    tree_names = tree_ind PlacedNames (λ x h n. subst (TreeNames F K C) (sym (placed_tree_roll base keeps args x)) (by x h (tree_out F K C x n)))
      where
        by : (x : Tree-F Tree) → TreeChildren PlacedNames x → TreeParts F K C x → TreeNames F K C (placed_node base keeps args (map-Tree Tree Tree (placed_tree base keeps args) x))
        by (tree.Number n) h p = tree_in F K C (tree.Number n) p
        by (tree.Temp t) h p = stand_names t
        by (tree.Global g) h p = tree_in F K C (tree.Global g) tt
        by (tree.Function f) h p = tree_in F K C (tree.Function f) p
        by (tree.Unary o a) h p = tree_in F K C (tree.Unary o (placed_tree base keeps args a)) (h p)
        by (tree.Binary o a b) h p = tree_in F K C (tree.Binary o (placed_tree base keeps args a) (placed_tree base keeps args b)) (h.0 p.0, h.1 p.1)
        by (tree.Narrow k a) h p = tree_in F K C (tree.Narrow k (placed_tree base keeps args a)) (h p)

    set_names : (t : ℕ) (v : Tree) → TreeNames F K C v → CodeNames F K C (set t v ∷ [])
    set_names t v n = (stm_in F K C (stm.Set t v) n, tt)

    given_names : (i : ℕ) (xs : List Tree) → Each (TreeNames F K C) xs → CodeNames F K C (given_from base keeps args i xs)
    given_names i [] h = tt
    given_names i (a ∷ xs) h = each_append (StmNames F K C) (cond (keeps i) [] (set (base + i) a ∷ [])) (given_from base keeps args (suc i) xs) (by (keeps i)) (given_names (suc i) xs h.1)
      where
        by : (k : Bool) → CodeNames F K C (cond k [] (set (base + i) a ∷ []))
        by true = tt
        by false = set_names (base + i) a h.0

    module _ (r : Option ℕ) where
      result_names : (o : Option ℕ) (v : Tree) → TreeNames F K C v → CodeNames F K C (result_into base keeps args o v)
      result_names None v n = tt
      result_names (Some t) v n = set_names t (placed_tree base keeps args v) (tree_names v n)

      layer_names : (x : Stm-F Stm) → StmParts F K C x → CodeNames F K C (placed_layer base keeps args r (map-Stm Stm (List Stm) (placed_stm base keeps args r) x))
      layer_names (stm.Set t v) p = set_names (base + t) (placed_tree base keeps args v) (tree_names v p)
      layer_names (stm.Divide t o a b) p =
          (stm_in F K C (stm.Divide (base + t) o (placed_tree base keeps args a) (placed_tree base keeps args b)) (tree_names a p.0, tree_names b p.1), tt)
      layer_names (stm.Return v) p = result_names r v p
      layer_names _ p = tt

      stm_names : (s : Stm) → StmNames F K C s → CodeNames F K C (placed_stm base keeps args r s)
      stm_names s n =
          subst (λ u. CodeNames F K C (placed_stm base keeps args r u)) (roll-out-Stm s)
          (subst (CodeNames F K C) (sym (placed_stm_roll base keeps args r (out-Stm s))) (layer_names (out-Stm s) (stm_out F K C (out-Stm s) (subst (StmNames F K C) (sym (roll-out-Stm s)) n))))

      code_names : (code : List Stm) → CodeNames F K C code → CodeNames F K C (placed_code base keeps args r code)
      code_names [] n = tt
      code_names (s ∷ code) n = each_append (StmNames F K C) (placed_stm base keeps args r s) (placed_code base keeps args r code) (stm_names s n.0) (code_names code n.1)

      steps_names : (code : List Stm) → CodeNames F K C code → CodeNames F K C (steps base keeps args r code)
      steps_names code n = each_append (StmNames F K C) (given_from base keeps args 0 args) (placed_code base keeps args r code) (given_names 0 args given) (code_names code n)

  -- ---- code

  module _ (shorts : Shorts) (short : (f : ℕ) (b : Body) → slice_get shorts f ≡ Some (Some b) → CodeNames F K C b.code) where
    abbrev NamesStay : List Stm → List Stm → Type 0
    NamesStay xs ys = CodeNames F K C xs → CodeNames F K C ys

    test_names : (tested : Bool) → CodeNames F K C (test_unless tested)
    test_names true = tt
    test_names false = (stm_in F K C (stm.Call None callee.Expanded []) (tt, tt), tt)

    places : (base : ℕ) (tested : Bool) (r : Option ℕ) (f : ℕ) (args : List Tree) (b : Body) (placed : List Stm) → slice_get shorts f ≡ Some (Some b) → IsPlaced base r args b placed →
        NamesStay (call r (callee.Direct f) args ∷ []) (test_unless tested ++ placed)
    places base tested r f args b placed there h n =
        let parts = stm_out F K C (stm.Call r (callee.Direct f) args) n.0 in
        each_append (StmNames F K C) (test_unless tested) placed (test_names tested)
        (subst (CodeNames F K C) (sym h.is)
        (steps_names base h.keeps args (λ t k. (let lt = (h.kept t k).0 in let count = h.count in omega (arith, lt, count))) parts.1 r b.code (short f b there)))

    closed : (base : ℕ) → IsClosed shorts base NamesStay
    closed base = record {
      itself = λ xs n. n;
      both = λ xs xs' ys ys' h k n. each_append (StmNames F K C) xs' ys' (h (each_first (StmNames F K C) xs ys n)) (k (each_right (StmNames F K C) xs ys n));
      branches = λ t a a' b b' h k n. let parts = stm_out F K C (stm.If t a b) n.0 in (stm_in F K C (stm.If t a' b') (parts.0, h parts.1, k parts.2), tt);
      loops = λ b b' h n. (stm_in F K C (stm.Loop b') (h (stm_out F K C (stm.Loop b) n.0)), tt);
      encloses = λ b b' h n. (stm_in F K C (stm.Block b') (h (stm_out F K C (stm.Block b) n.0)), tt);
      places = places base;
    }

    pub expanded_names : (base : ℕ) (tested : Bool) (code result : List Stm) → Expands shorts base tested code result → CodeNames F K C code → CodeNames F K C result
    expanded_names base tested code result h = expanded_is shorts base NamesStay (closed base) tested code result h
