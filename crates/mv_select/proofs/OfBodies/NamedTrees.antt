-- What a tree names is there, and what code names its trees do.
use Rattle.std.proofs.Common.{◌≡◌, ℕ, ◌<◌, ◌^◌, ◌&&◌, Bool, true, ltb, List, [], ◌∷◌, ◌++◌, length, refl, sym, ◌∙◌, subst, eq-eqb}
use Rattle.std.proofs.lemmas.Bool.{lt-ltb, or_right, or_left, and_from}
use Rattle.mv_ir.specs.declared.tree.Tree.{Tree}
use Rattle.mv_ir.specs.declared.tree.Tree.TheOpen.{Tree-F}
use Rattle.mv_ir.specs.declared.tree.Tree.TheOpen as tree
use Rattle.mv_ir.specs.declared.tree.Tree.TheViews.{roll-Tree}
use Rattle.mv_ir.specs.declared.tree.Tree.TheFolds.{fold-Tree, fold-roll-Tree, map-Tree}
use Rattle.mv_ir.specs.declared.stm.Callee.{Callee}
use Rattle.mv_ir.specs.declared.stm.Callee.TheVariants as callee
use Rattle.mv_ir.specs.declared.stm.Stm.{Stm}
use Rattle.mv_ir.specs.declared.stm.Stm.TheOpen.{Stm-F}
use Rattle.mv_ir.specs.declared.stm.Stm.TheOpen as stm
use Rattle.mv_ir.specs.declared.stm.Stm.TheViews.{roll-Stm}
use Rattle.mv_ir.specs.declared.stm.Stm.TheFolds.{map-Stm}
use Rattle.mv_ir.specs.Measures.{callee_trees, layer_trees, stm_trees, trees, layer_reads, tree_reads}
use Rattle.mv_ir.specs.Live.{reads_temp, layer_reads_temp}
use Rattle.mv_ir.proofs.Induction.{Each, each_append, TreeChildren, tree_ind, StmChildren, stm_ind, stms_ind}
use Rattle.mv_ir.proofs.Rolls.{reads_roll, reads_temp_roll, trees_roll}
use Rattle.mv_select_code.specs.Trees.View.{View, is_in_view}
use Rattle.mv_select_code.specs.Control.Labels.{functions_layer, tree_functions, callee_functions, functions_of_all, named_layer, stm_functions, functions}
use Rattle.mv_select_code.proofs.OfControl.TreeNames.{functions_roll, named_roll}
use Rattle.mv_select.specs.Bodies.SelectedBodies.{constants_layer, tree_constants}
use Rattle.mv_select.proofs.OfBodies.Lists.{IsIn, each_joined}
use Rattle.mv_select.proofs.OfBodies.FineCode.{ReadsBelow}
use Rattle.mv_ir.proofs.Common.{each_first, each_right}

pub constants_roll : (x : Tree-F Tree) → tree_constants (roll-Tree x) ≡ constants_layer (map-Tree Tree (List ℕ) tree_constants x)
unfolding tree_constants
constants_roll x = fold-roll-Tree (List ℕ) constants_layer x

-- ---- trees

abbrev pub IsWord : ℕ → Type 0
IsWord n = n < 2 ^ 32

module _ (temps count : ℕ) (is_read : ℕ → Bool) where
  abbrev pub IsOne : ℕ → Type 0
  IsOne f = f < count

  abbrev test_layer : Tree-F Bool → Bool
  test_layer (tree.Number n) = ltb n (2 ^ 32)
  test_layer (tree.Temp t) = ltb t temps
  test_layer (tree.Global g) = is_read g
  test_layer (tree.Function f) = ltb f count
  test_layer (tree.Unary o a) = a
  test_layer (tree.Binary o a b) = a && b
  test_layer (tree.Narrow k a) = a

  -- whether the constants of a tree are words, and what it names is there
  unfoldable pub is_named : Tree → Bool
  is_named = fold-Tree Bool test_layer

  test_roll : (x : Tree-F Tree) → is_named (roll-Tree x) ≡ test_layer (map-Tree Tree Bool is_named x)
  unfolding is_named
  test_roll x = fold-roll-Tree Bool test_layer x

  abbrev IsNamed : Tree → Type 0
  IsNamed v = Each IsWord (tree_constants v) → Each (IsIn is_read) (tree_reads v) → Each IsOne (tree_functions v) → ReadsBelow temps v → is_named v ≡ true

  layer : (x : Tree-F Tree) → TreeChildren IsNamed x → Each IsWord (constants_layer (map-Tree Tree (List ℕ) tree_constants x)) →
      Each (IsIn is_read) (layer_reads (map-Tree Tree (List ℕ) tree_reads x)) → Each IsOne (functions_layer (map-Tree Tree (List ℕ) tree_functions x)) →
      ((t : ℕ) → layer_reads_temp t (map-Tree Tree Bool (reads_temp t) x) ≡ true → t < temps) → test_layer (map-Tree Tree Bool is_named x) ≡ true
  layer (tree.Number n) c word read one low = lt-ltb n (2 ^ 32) word.0
  layer (tree.Temp t) c word read one low = lt-ltb t temps (low t (eq-eqb t t refl))
  layer (tree.Global g) c word read one low = read.0
  layer (tree.Function f) c word read one low = lt-ltb f count one.0
  layer (tree.Unary o a) c word read one low = c word read one low
  layer (tree.Binary o a b) c word read one low =
      and_from (is_named a) (is_named b)
      (c.0 (each_first IsWord (tree_constants a) (tree_constants b) word) (each_first (IsIn is_read) (tree_reads a) (tree_reads b) read)
      (each_first IsOne (tree_functions a) (tree_functions b) one) (λ t e. low t (or_left (reads_temp t a) (reads_temp t b) e)))
      (c.1 (each_right IsWord (tree_constants a) (tree_constants b) word) (each_right (IsIn is_read) (tree_reads a) (tree_reads b) read)
      (each_right IsOne (tree_functions a) (tree_functions b) one) (λ t e. low t (or_right (reads_temp t a) (reads_temp t b) e)))
  layer (tree.Narrow k a) c word read one low = c word read one low

  from_layer : (x : Tree-F Tree) → TreeChildren IsNamed x → IsNamed (roll-Tree x)
  from_layer x c word read one low =
      test_roll x ∙
      layer x c (subst (Each IsWord) (constants_roll x) word) (subst (Each (IsIn is_read)) (reads_roll x) read) (subst (Each IsOne) (functions_roll x) one)
      (λ t e. low t (reads_temp_roll t x ∙ e))

  pub all_named : (v : Tree) → Each IsWord (tree_constants v) → Each (IsIn is_read) (tree_reads v) → Each IsOne (tree_functions v) → ReadsBelow temps v → is_named v ≡ true
  all_named = tree_ind IsNamed from_layer

-- such a tree is in view
pub in_view : (v : View) (t : Tree) → is_in_view v t ≡ is_named (length v.temps) (length v.numbers) v.is_read t
unfolding is_in_view is_named
in_view v t = refl

-- ---- the functions that code names

module _ (P : ℕ → Type 0) where
  abbrev TreeNames : Tree → Type 0
  TreeNames t = Each P (tree_functions t)

  abbrev Named : Stm → Type 0
  Named s = Each P (stm_functions s) → Each TreeNames (stm_trees s)

  code_named : (code : List Stm) → Each Named code → Each P (functions code) → Each TreeNames (trees code)
  code_named [] c h = tt
  code_named (s ∷ code) c h =
      each_append TreeNames (stm_trees s) (trees code) (c.0 (each_first P (stm_functions s) (functions code) h)) (code_named code c.1 (each_right P (stm_functions s) (functions code) h))

  callee_named : (f : Callee) → Each P (callee_functions f) → Each TreeNames (callee_trees f)
  callee_named (callee.Direct f) h = tt
  callee_named (callee.Through t) h = (h, tt)
  callee_named (callee.Switched g) h = tt
  callee_named callee.Expanded h = tt

  two_named : (a b : Tree) → Each P (tree_functions a ++ tree_functions b) → Each TreeNames (a ∷ b ∷ [])
  two_named a b h = (each_first P (tree_functions a) (tree_functions b) h, (each_right P (tree_functions a) (tree_functions b) h, tt))

  stm_layer : (x : Stm-F Stm) → StmChildren Named x → Each P (named_layer (map-Stm Stm (List ℕ) stm_functions x)) → Each TreeNames (layer_trees (map-Stm Stm (List Tree) stm_trees x))
  stm_layer (stm.Set t v) c h = (h, tt)
  stm_layer (stm.SetGlobal g v) c h = (h, tt)
  stm_layer (stm.Divide t o a b) c h = two_named a b h
  stm_layer (stm.Check a i) c h = (h, tt)
  stm_layer (stm.Read t a i) c h = (h, tt)
  stm_layer (stm.Write a i v) c h = two_named i v h
  stm_layer (stm.Zero l) c h = tt
  stm_layer (stm.If t a b) c h =
      let within = each_right P (tree_functions t) (functions a ++ functions b) h in (
        each_first P (tree_functions t) (functions a ++ functions b) h,
        each_append TreeNames (trees a) (trees b) (code_named a c.0 (each_first P (functions a) (functions b) within)) (code_named b c.1 (each_right P (functions a) (functions b) within)),
      )
  stm_layer (stm.Loop b) c h = code_named b c h
  stm_layer (stm.Block b) c h = code_named b c h
  stm_layer (stm.Break n) c h = tt
  stm_layer (stm.Back n) c h = tt
  stm_layer (stm.Call r f args) c h =
      each_append TreeNames (callee_trees f) args (callee_named f (each_first P (callee_functions f) (functions_of_all args) h))
      (each_joined P tree_functions args (each_right P (callee_functions f) (functions_of_all args) h))
  stm_layer (stm.Known r k args) c h = each_joined P tree_functions args h
  stm_layer (stm.Return v) c h = (h, tt)

  from_stm : (x : Stm-F Stm) → StmChildren Named x → Named (roll-Stm x)
  from_stm x c h = subst (Each TreeNames) (sym (trees_roll x)) (stm_layer x c (subst (Each P) (named_roll x) h))

  pub trees_named : (code : List Stm) → Each P (functions code) → Each TreeNames (trees code)
  trees_named code = code_named code (stms_ind Named (stm_ind Named from_stm) code)
