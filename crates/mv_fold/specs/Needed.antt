-- The temporaries that code needs, and the code without the sets of all others.
use Rattle.std.specs.Prelude.{ℕ, ◌≡◌, Bool, true, false, cond, eqb, ◌&&◌, ◌||◌, List, [], ◌∷◌, ◌++◌, map, Option, Some, None}
use Rattle.mv_ir.specs.declared.tree.Tree.{Tree}
use Rattle.mv_ir.specs.declared.tree.Tree.TheOpen.{Tree-F}
use Rattle.mv_ir.specs.declared.tree.Tree.TheOpen as tree
use Rattle.mv_ir.specs.declared.tree.Tree.TheFolds.{fold-Tree}
use Rattle.mv_ir.specs.declared.stm.Stm.{Stm}
use Rattle.mv_ir.specs.declared.stm.Stm.TheOpen.{Stm-F}
use Rattle.mv_ir.specs.declared.stm.Stm.TheOpen as stm
use Rattle.mv_ir.specs.declared.stm.Stm.TheFolds.{fold-Stm}
use Rattle.mv_ir.specs.Measures.{joined, callee_trees}
use Rattle.mv_fold.specs.declared.uses.Use.{Use}
use Rattle.mv_fold.specs.Simple.{alone}

-- ---- who reads what

abbrev pub layer_tree_uses : Option ℕ → Tree-F (List Use) → List Use
layer_tree_uses user (tree.Temp t) = record { user = user; used = t } ∷ []
layer_tree_uses user (tree.Unary o a) = a
layer_tree_uses user (tree.Binary o a b) = a ++ b
layer_tree_uses user (tree.Narrow k a) = a
layer_tree_uses user _ = []

-- the temporaries that a tree reads
unfoldable pub tree_uses : Option ℕ → Tree → List Use
tree_uses user = fold-Tree (List Use) (layer_tree_uses user)

abbrev pub trees_uses : List Tree → List Use
trees_uses ts = joined (map (tree_uses None) ts)

-- A set reads for the temporary that it sets, and each other statement for the body.
abbrev pub layer_uses : Stm-F (List Use) → List Use
layer_uses (stm.Set t v) = tree_uses (Some t) v
layer_uses (stm.SetGlobal g v) = tree_uses None v
layer_uses (stm.Divide t o a b) = tree_uses None a ++ tree_uses None b
layer_uses (stm.Check a i) = tree_uses None i
layer_uses (stm.Read t a i) = tree_uses None i
layer_uses (stm.Write a i v) = tree_uses None i ++ tree_uses None v
layer_uses (stm.Zero l) = []
layer_uses (stm.If t a b) = tree_uses None t ++ (joined a ++ joined b)
layer_uses (stm.Loop b) = joined b
layer_uses (stm.Block b) = joined b
layer_uses (stm.Break n) = []
layer_uses (stm.Back n) = []
layer_uses (stm.Call r f args) = trees_uses (callee_trees f) ++ trees_uses args
layer_uses (stm.Known r k args) = trees_uses args
layer_uses (stm.Return v) = tree_uses None v

unfoldable pub stm_uses : Stm → List Use
stm_uses = fold-Stm (List Use) layer_uses

abbrev pub code_uses : List Stm → List Use
code_uses code = joined (map stm_uses code)

-- ---- what is needed

-- the body needs all that it reads, a temporary only where it is needed
abbrev pub counts : (ℕ → Bool) → Option ℕ → Bool
counts needed None = true
counts needed (Some t) = needed t

-- whether the body or a needed temporary reads it
abbrev pub used_in : (ℕ → Bool) → List Use → ℕ → Bool
used_in needed [] t = false
used_in needed (x ∷ xs) t = (counts needed x.user && eqb x.used t) || used_in needed xs t

-- needed is exactly what the body or a needed temporary reads
abbrev pub IsNeeded : (ℕ → Bool) → List Use → Type 0
IsNeeded needed uses = (t : ℕ) → needed t ≡ used_in needed uses t

-- ---- without the sets of the others

abbrev pub needed_layer : (ℕ → Bool) → Stm-F (List Stm) → List Stm
needed_layer needed (stm.Set t v) = cond (needed t) (alone (stm.Set t v)) []
needed_layer needed (stm.SetGlobal g v) = alone (stm.SetGlobal g v)
needed_layer needed (stm.Divide t o a b) = alone (stm.Divide t o a b)
needed_layer needed (stm.Check a i) = alone (stm.Check a i)
needed_layer needed (stm.Read t a i) = alone (stm.Read t a i)
needed_layer needed (stm.Write a i v) = alone (stm.Write a i v)
needed_layer needed (stm.Zero l) = alone (stm.Zero l)
needed_layer needed (stm.If t a b) = alone (stm.If t (joined a) (joined b))
needed_layer needed (stm.Loop b) = alone (stm.Loop (joined b))
needed_layer needed (stm.Block b) = alone (stm.Block (joined b))
needed_layer needed (stm.Break n) = alone (stm.Break n)
needed_layer needed (stm.Back n) = alone (stm.Back n)
needed_layer needed (stm.Call r f args) = alone (stm.Call r f args)
needed_layer needed (stm.Known r k args) = alone (stm.Known r k args)
needed_layer needed (stm.Return v) = alone (stm.Return v)

unfoldable pub needed_stm : (ℕ → Bool) → Stm → List Stm
needed_stm needed = fold-Stm (List Stm) (needed_layer needed)

abbrev pub needed_code : (ℕ → Bool) → List Stm → List Stm
needed_code needed code = joined (map (needed_stm needed) code)
