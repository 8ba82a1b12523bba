-- Code that names only functions, known functions and constants of some kinds, level by level.
use Rattle.std.proofs.Common.{ℕ, List, [], ◌∷◌, ◌++◌, sym, subst}
use Rattle.mv_ast.specs.declared.program.Known.{Known}
use Rattle.mv_ir.specs.declared.tree.Tree.{Tree}
use Rattle.mv_ir.specs.declared.tree.Tree.TheOpen.{Tree-F}
use Rattle.mv_ir.specs.declared.tree.Tree.TheOpen as tree
use Rattle.mv_ir.specs.declared.tree.Tree.TheViews.{roll-Tree}
use Rattle.mv_ir.specs.declared.tree.Tree.TheFolds.{map-Tree}
use Rattle.mv_ir.specs.declared.stm.Callee.{Callee}
use Rattle.mv_ir.specs.declared.stm.Callee.TheVariants as callee
use Rattle.mv_ir.specs.declared.stm.Stm.{Stm}
use Rattle.mv_ir.specs.declared.stm.Stm.TheOpen.{Stm-F}
use Rattle.mv_ir.specs.declared.stm.Stm.TheOpen as stm
use Rattle.mv_ir.specs.declared.stm.Stm.TheViews.{roll-Stm}
use Rattle.mv_ir.specs.declared.stm.Stm.TheFolds.{map-Stm}
use Rattle.mv_ir.specs.Measures.{layer_trees, stm_trees, trees}
use Rattle.mv_ir.proofs.Induction.{Each, each_append}
use Rattle.mv_ir.proofs.Rolls.{trees_roll}
use Rattle.mv_select_code.specs.Control.Labels.{functions_layer, tree_functions, functions_of_all, named_layer, stm_functions, functions}
use Rattle.mv_select_code.proofs.OfControl.TreeNames.{functions_roll, named_roll}
use Rattle.mv_select.specs.Bodies.SelectedBodies.{constants_layer, tree_constants, constants_of_all, constants, knowns_layer, stm_knowns, knowns}
use Rattle.mv_select.proofs.OfBodies.NamedTrees.{constants_roll}
use Rattle.mv_select.proofs.OfBodies.FineCode.{knowns_roll}
use Rattle.mv_ir.proofs.Common.{each_first, each_right}
use Rattle.mv_select.proofs.OfBodies.Common.{constants_append}

module _ (F : ℕ → Type 0) (K : Known → Type 0) (C : ℕ → Type 0) where
  pub record TreeNames (t : Tree) : Type 0 where
    pub functions : Each F (tree_functions t)
    pub constants : Each C (tree_constants t)

  pub record StmNames (s : Stm) : Type 0 where
    pub functions : Each F (stm_functions s)
    pub knowns : Each K (stm_knowns s)
    pub constants : Each C (constants_of_all (stm_trees s))

  abbrev pub CodeNames : List Stm → Type 0
  CodeNames xs = Each StmNames xs

  -- ---- trees and their operands

  abbrev pub TreeParts : Tree-F Tree → Type 0
  TreeParts (tree.Number n) = C n
  TreeParts (tree.Temp t) = Unit {0}
  TreeParts (tree.Global g) = Unit {0}
  TreeParts (tree.Function f) = F f
  TreeParts (tree.Unary o a) = TreeNames a
  TreeParts (tree.Binary o a b) = TreeNames a × TreeNames b
  TreeParts (tree.Narrow k a) = TreeNames a

  tree_of : (x : Tree-F Tree) → Each F (functions_layer (map-Tree Tree (List ℕ) tree_functions x)) → Each C (constants_layer (map-Tree Tree (List ℕ) tree_constants x)) → TreeNames (roll-Tree x)
  tree_of x h k = record { functions = subst (Each F) (sym (functions_roll x)) h; constants = subst (Each C) (sym (constants_roll x)) k }

  pub tree_in : (x : Tree-F Tree) → TreeParts x → TreeNames (roll-Tree x)
  tree_in (tree.Number n) h = tree_of (tree.Number n) tt (h, tt)
  tree_in (tree.Temp t) h = tree_of (tree.Temp t) tt tt
  tree_in (tree.Global g) h = tree_of (tree.Global g) tt tt
  tree_in (tree.Function f) h = tree_of (tree.Function f) (h, tt) tt
  tree_in (tree.Unary o a) h = tree_of (tree.Unary o a) h.functions h.constants
  tree_in (tree.Binary o a b) h =
      tree_of (tree.Binary o a b) (each_append F (tree_functions a) (tree_functions b) h.0.functions h.1.functions) (each_append C (tree_constants a) (tree_constants b) h.0.constants h.1.constants)
  tree_in (tree.Narrow k a) h = tree_of (tree.Narrow k a) h.functions h.constants

  pub tree_out : (x : Tree-F Tree) → TreeNames (roll-Tree x) → TreeParts x
  tree_out x n = by x (subst (Each F) (functions_roll x) n.functions) (subst (Each C) (constants_roll x) n.constants)
    where
      by : (x : Tree-F Tree) → Each F (functions_layer (map-Tree Tree (List ℕ) tree_functions x)) → Each C (constants_layer (map-Tree Tree (List ℕ) tree_constants x)) → TreeParts x
      by (tree.Number n) h k = k.0
      by (tree.Temp t) h k = tt
      by (tree.Global g) h k = tt
      by (tree.Function f) h k = h.0
      by (tree.Unary o a) h k = record { functions = h; constants = k }
      by (tree.Binary o a b) h k = (
        record { functions = each_first F (tree_functions a) (tree_functions b) h; constants = each_first C (tree_constants a) (tree_constants b) k },
        record { functions = each_right F (tree_functions a) (tree_functions b) h; constants = each_right C (tree_constants a) (tree_constants b) k },
      )
      by (tree.Narrow o a) h k = record { functions = h; constants = k }

  -- ---- lists of trees, and code

  all_functions : (ts : List Tree) → Each TreeNames ts → Each F (functions_of_all ts)
  all_functions [] h = tt
  all_functions (t ∷ ts) h = each_append F (tree_functions t) (functions_of_all ts) h.0.functions (all_functions ts h.1)

  all_constants : (ts : List Tree) → Each TreeNames ts → Each C (constants_of_all ts)
  all_constants [] h = tt
  all_constants (t ∷ ts) h = each_append C (tree_constants t) (constants_of_all ts) h.0.constants (all_constants ts h.1)

  trees_of : (ts : List Tree) → Each F (functions_of_all ts) → Each C (constants_of_all ts) → Each TreeNames ts
  trees_of [] h k = tt
  trees_of (t ∷ ts) h k = (
    record { functions = each_first F (tree_functions t) (functions_of_all ts) h; constants = each_first C (tree_constants t) (constants_of_all ts) k },
    trees_of ts (each_right F (tree_functions t) (functions_of_all ts) h) (each_right C (tree_constants t) (constants_of_all ts) k),
  )

  pub code_functions : (xs : List Stm) → CodeNames xs → Each F (functions xs)
  code_functions [] h = tt
  code_functions (s ∷ xs) h = each_append F (stm_functions s) (functions xs) h.0.functions (code_functions xs h.1)

  pub code_knowns : (xs : List Stm) → CodeNames xs → Each K (knowns xs)
  code_knowns [] h = tt
  code_knowns (s ∷ xs) h = each_append K (stm_knowns s) (knowns xs) h.0.knowns (code_knowns xs h.1)

  constants_both : (ts us : List Tree) → Each C (constants_of_all ts) → Each C (constants_of_all us) → Each C (constants_of_all (ts ++ us))
  constants_both ts us h k = subst (Each C) (sym (constants_append ts us)) (each_append C (constants_of_all ts) (constants_of_all us) h k)

  constants_left : (ts us : List Tree) → Each C (constants_of_all (ts ++ us)) → Each C (constants_of_all ts)
  constants_left ts us h = each_first C (constants_of_all ts) (constants_of_all us) (subst (Each C) (constants_append ts us) h)

  constants_right : (ts us : List Tree) → Each C (constants_of_all (ts ++ us)) → Each C (constants_of_all us)
  constants_right ts us h = each_right C (constants_of_all ts) (constants_of_all us) (subst (Each C) (constants_append ts us) h)

  pub code_constants : (xs : List Stm) → CodeNames xs → Each C (constants xs)
  code_constants [] h = tt
  code_constants (s ∷ xs) h = constants_both (stm_trees s) (trees xs) h.0.constants (code_constants xs h.1)

  pub code_of : (xs : List Stm) → Each F (functions xs) → Each K (knowns xs) → Each C (constants xs) → CodeNames xs
  code_of [] f k c = tt
  code_of (s ∷ xs) f k c = (
    record { functions = each_first F (stm_functions s) (functions xs) f; knowns = each_first K (stm_knowns s) (knowns xs) k; constants = constants_left (stm_trees s) (trees xs) c },
    code_of xs (each_right F (stm_functions s) (functions xs) f) (each_right K (stm_knowns s) (knowns xs) k) (constants_right (stm_trees s) (trees xs) c),
  )

  -- ---- statements and what is in them

  abbrev pub CalleeNames : Callee → Type 0
  CalleeNames (callee.Direct f) = F f
  CalleeNames (callee.Through t) = TreeNames t
  CalleeNames (callee.Switched g) = Unit {0}
  CalleeNames callee.Expanded = Unit {0}

  abbrev pub StmParts : Stm-F Stm → Type 0
  StmParts (stm.Set t v) = TreeNames v
  StmParts (stm.SetGlobal g v) = TreeNames v
  StmParts (stm.Divide t o a b) = TreeNames a × TreeNames b
  StmParts (stm.Check r i) = TreeNames i
  StmParts (stm.Read t r i) = TreeNames i
  StmParts (stm.Write r i v) = TreeNames i × TreeNames v
  StmParts (stm.Zero l) = Unit {0}
  StmParts (stm.If t a b) = TreeNames t × CodeNames a × CodeNames b
  StmParts (stm.Loop b) = CodeNames b
  StmParts (stm.Block b) = CodeNames b
  StmParts (stm.Break n) = Unit {0}
  StmParts (stm.Back n) = Unit {0}
  StmParts (stm.Call r f args) = CalleeNames f × Each TreeNames args
  StmParts (stm.Known r k args) = K k × Each TreeNames args
  StmParts (stm.Return v) = TreeNames v

  stm_of : (x : Stm-F Stm) → Each F (named_layer (map-Stm Stm (List ℕ) stm_functions x)) → Each K (knowns_layer (map-Stm Stm (List Known) stm_knowns x)) →
      Each C (constants_of_all (layer_trees (map-Stm Stm (List Tree) stm_trees x))) → StmNames (roll-Stm x)
  stm_of x h k l = record {
    functions = subst (Each F) (sym (named_roll x)) h;
    knowns = subst (Each K) (sym (knowns_roll x)) k;
    constants = subst (λ ts. Each C (constants_of_all ts)) (sym (trees_roll x)) l;
  }

  two : (a b : Tree) → TreeNames a → TreeNames b → Each F (tree_functions a ++ tree_functions b)
  two a b h k = each_append F (tree_functions a) (tree_functions b) h.functions k.functions

  pub stm_in : (x : Stm-F Stm) → StmParts x → StmNames (roll-Stm x)
  stm_in (stm.Set t v) h = stm_of (stm.Set t v) h.functions tt (all_constants (v ∷ []) (h, tt))
  stm_in (stm.SetGlobal g v) h = stm_of (stm.SetGlobal g v) h.functions tt (all_constants (v ∷ []) (h, tt))
  stm_in (stm.Divide t o a b) h = stm_of (stm.Divide t o a b) (two a b h.0 h.1) tt (all_constants (a ∷ b ∷ []) (h.0, (h.1, tt)))
  stm_in (stm.Check r i) h = stm_of (stm.Check r i) h.functions tt (all_constants (i ∷ []) (h, tt))
  stm_in (stm.Read t r i) h = stm_of (stm.Read t r i) h.functions tt (all_constants (i ∷ []) (h, tt))
  stm_in (stm.Write r i v) h = stm_of (stm.Write r i v) (two i v h.0 h.1) tt (all_constants (i ∷ v ∷ []) (h.0, (h.1, tt)))
  stm_in (stm.Zero l) h = stm_of (stm.Zero l) tt tt tt
  stm_in (stm.If t a b) h =
      stm_of (stm.If t a b)
      (each_append F (tree_functions t) (functions a ++ functions b) h.0.functions (each_append F (functions a) (functions b) (code_functions a h.1) (code_functions b h.2)))
      (each_append K (knowns a) (knowns b) (code_knowns a h.1) (code_knowns b h.2))
      (each_append C (tree_constants t) (constants_of_all (trees a ++ trees b)) h.0.constants (constants_both (trees a) (trees b) (code_constants a h.1) (code_constants b h.2)))
  stm_in (stm.Loop b) h = stm_of (stm.Loop b) (code_functions b h) (code_knowns b h) (code_constants b h)
  stm_in (stm.Block b) h = stm_of (stm.Block b) (code_functions b h) (code_knowns b h) (code_constants b h)
  stm_in (stm.Break n) h = stm_of (stm.Break n) tt tt tt
  stm_in (stm.Back n) h = stm_of (stm.Back n) tt tt tt
  stm_in (stm.Call r (callee.Direct f) args) h = stm_of (stm.Call r (callee.Direct f) args) (h.0, all_functions args h.1) tt (all_constants args h.1)
  stm_in (stm.Call r (callee.Through t) args) h =
      stm_of (stm.Call r (callee.Through t) args) (each_append F (tree_functions t) (functions_of_all args) h.0.functions (all_functions args h.1)) tt (all_constants (t ∷ args) (h.0, h.1))
  stm_in (stm.Call r (callee.Switched g) args) h = stm_of (stm.Call r (callee.Switched g) args) (all_functions args h.1) tt (all_constants args h.1)
  stm_in (stm.Call r callee.Expanded args) h = stm_of (stm.Call r callee.Expanded args) (all_functions args h.1) tt (all_constants args h.1)
  stm_in (stm.Known r k args) h = stm_of (stm.Known r k args) (all_functions args h.1) (h.0, tt) (all_constants args h.1)
  stm_in (stm.Return v) h = stm_of (stm.Return v) h.functions tt (all_constants (v ∷ []) (h, tt))

  pub stm_out : (x : Stm-F Stm) → StmNames (roll-Stm x) → StmParts x
  stm_out x n = by x (subst (Each F) (named_roll x) n.functions) (subst (Each K) (knowns_roll x) n.knowns) (subst (λ ts. Each C (constants_of_all ts)) (trees_roll x) n.constants)
    where
      one : (v : Tree) → Each F (tree_functions v) → Each C (constants_of_all (v ∷ [])) → TreeNames v
      one v f c = record { functions = f; constants = each_first C (tree_constants v) [] c }

      pair : (a b : Tree) → Each F (tree_functions a ++ tree_functions b) → Each C (constants_of_all (a ∷ b ∷ [])) → TreeNames a × TreeNames b
      pair a b f c = (
        record { functions = each_first F (tree_functions a) (tree_functions b) f; constants = each_first C (tree_constants a) (constants_of_all (b ∷ [])) c },
        one b (each_right F (tree_functions a) (tree_functions b) f) (each_right C (tree_constants a) (constants_of_all (b ∷ [])) c),
      )

      by : (x : Stm-F Stm) → Each F (named_layer (map-Stm Stm (List ℕ) stm_functions x)) → Each K (knowns_layer (map-Stm Stm (List Known) stm_knowns x)) →
          Each C (constants_of_all (layer_trees (map-Stm Stm (List Tree) stm_trees x))) → StmParts x
      by (stm.Set t v) f k c = one v f c
      by (stm.SetGlobal g v) f k c = one v f c
      by (stm.Divide t o a b) f k c = pair a b f c
      by (stm.Check r i) f k c = one i f c
      by (stm.Read t r i) f k c = one i f c
      by (stm.Write r i v) f k c = pair i v f c
      by (stm.Zero l) f k c = tt
      by (stm.If t a b) f k c =
          let f' = each_right F (tree_functions t) (functions a ++ functions b) f in
          let c' = each_right C (tree_constants t) (constants_of_all (trees a ++ trees b)) c in (
            record { functions = each_first F (tree_functions t) (functions a ++ functions b) f; constants = each_first C (tree_constants t) (constants_of_all (trees a ++ trees b)) c },
            code_of a (each_first F (functions a) (functions b) f') (each_first K (knowns a) (knowns b) k) (constants_left (trees a) (trees b) c'),
            code_of b (each_right F (functions a) (functions b) f') (each_right K (knowns a) (knowns b) k) (constants_right (trees a) (trees b) c'),
          )
      by (stm.Loop b) f k c = code_of b f k c
      by (stm.Block b) f k c = code_of b f k c
      by (stm.Break n) f k c = tt
      by (stm.Back n) f k c = tt
      by (stm.Call r (callee.Direct g) args) f k c = (f.0, trees_of args f.1 c)
      by (stm.Call r (callee.Through t) args) f k c = let ts = trees_of (t ∷ args) f c in (ts.0, ts.1)
      by (stm.Call r (callee.Switched g) args) f k c = (tt, trees_of args f c)
      by (stm.Call r callee.Expanded args) f k c = (tt, trees_of args f c)
      by (stm.Known r g args) f k c = (k.0, trees_of args f c)
      by (stm.Return v) f k c = one v f c
