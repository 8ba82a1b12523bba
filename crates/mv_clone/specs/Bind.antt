-- The reads of some switches replaced by their values, and what that keeps.
use Rattle.std.specs.Prelude.{ℕ, ◌≡◌, Bool, not, List, map, Option, Some, None, is_some}
use Rattle.std.specs.List.{filter}
use Rattle.mv_ir.specs.declared.tree.Tree.{Tree}
use Rattle.mv_ir.specs.declared.tree.Tree.TheOpen.{Tree-F}
use Rattle.mv_ir.specs.declared.tree.Tree.TheOpen as tree
use Rattle.mv_ir.specs.declared.tree.Tree.TheViews.{roll-Tree}
use Rattle.mv_ir.specs.declared.tree.Tree.TheFolds.{fold-Tree}
use Rattle.mv_ir.specs.declared.stm.Callee.{Callee}
use Rattle.mv_ir.specs.declared.stm.Callee.TheVariants as callee
use Rattle.mv_ir.specs.declared.stm.Stm.{Stm}
use Rattle.mv_ir.specs.declared.stm.Stm.TheOpen.{Stm-F}
use Rattle.mv_ir.specs.declared.stm.Stm.TheOpen as stm
use Rattle.mv_ir.specs.declared.stm.Stm.TheViews.{roll-Stm}
use Rattle.mv_ir.specs.declared.stm.Stm.TheFolds.{fold-Stm}
use Rattle.mv_ir.specs.declared.body.Body.{Body}
use Rattle.mv_ir.specs.World.{World, Setting, Frame}
use Rattle.mv_ir.specs.Trees.{found}
use Rattle.mv_ir.specs.Outcome.{Bound}
use Rattle.mv_ir.specs.Meaning.{Contents, body_from}
use Rattle.mv_ir.specs.Keeps.{KeepsCall}
use Rattle.mv_ir.specs.Live.{IsWhole, interval, most_intervals}
use Rattle.mv_ir.specs.WellFormed.{IsWellFormed}
use Rattle.mv_ir.specs.Measures.{scalars_read, arrays_read, statements, tree_nodes, calls, deepest}

-- ---- the replacement

abbrev pub known_or_read : ℕ → Option ℕ → Tree
known_or_read g None = roll-Tree (tree.Global g)
known_or_read g (Some v) = roll-Tree (tree.Number v)

abbrev pub bound_node : List (ℕ × ℕ) → Tree-F Tree → Tree
bound_node ps (tree.Global g) = known_or_read g (found ps g)
bound_node ps x = roll-Tree x

-- the tree with its reads of the switches replaced
unfoldable pub bound_tree : List (ℕ × ℕ) → Tree → Tree
bound_tree ps = fold-Tree Tree (bound_node ps)

abbrev pub bound_callee : List (ℕ × ℕ) → Callee → Callee
bound_callee ps (callee.Direct f) = callee.Direct f
bound_callee ps (callee.Through t) = callee.Through (bound_tree ps t)
bound_callee ps (callee.Switched g) = callee.Switched g
bound_callee ps callee.Expanded = callee.Expanded

abbrev pub bound_layer : {A : Type 0} → List (ℕ × ℕ) → Stm-F A → Stm-F A
bound_layer ps (stm.Set t v) = stm.Set t (bound_tree ps v)
bound_layer ps (stm.SetGlobal g v) = stm.SetGlobal g (bound_tree ps v)
bound_layer ps (stm.Divide t o a b) = stm.Divide t o (bound_tree ps a) (bound_tree ps b)
bound_layer ps (stm.Check a i) = stm.Check a (bound_tree ps i)
bound_layer ps (stm.Read t a i) = stm.Read t a (bound_tree ps i)
bound_layer ps (stm.Write a i v) = stm.Write a (bound_tree ps i) (bound_tree ps v)
bound_layer ps (stm.Zero l) = stm.Zero l
bound_layer ps (stm.If t a b) = stm.If (bound_tree ps t) a b
bound_layer ps (stm.Loop b) = stm.Loop b
bound_layer ps (stm.Block b) = stm.Block b
bound_layer ps (stm.Break n) = stm.Break n
bound_layer ps (stm.Back n) = stm.Back n
bound_layer ps (stm.Call r f args) = stm.Call r (bound_callee ps f) (map (bound_tree ps) args)
bound_layer ps (stm.Known r k args) = stm.Known r k (map (bound_tree ps) args)
bound_layer ps (stm.Return v) = stm.Return (bound_tree ps v)

unfoldable pub bound_stm : List (ℕ × ℕ) → Stm → Stm
bound_stm ps = fold-Stm Stm (λ x. roll-Stm (bound_layer ps x))

abbrev pub bound_code : List (ℕ × ℕ) → List Stm → List Stm
bound_code ps = map (bound_stm ps)

-- ---- what it keeps

-- a frame, in which the switches are read as some values
abbrev pub frame : ℕ → ℕ → List (ℕ × ℕ) → Frame
frame depth live ps = record { depth = depth; live = live; bound = ps }

-- the second reads no other global as a switch than the first
abbrev pub ReadsNoMore : List (ℕ × ℕ) → List (ℕ × ℕ) → Type 0
ReadsNoMore ps others = (g : ℕ) → found ps g ≡ None → found others g ≡ None

abbrev pub is_free : List (ℕ × ℕ) → ℕ → Bool
is_free ps g = not (is_some (found ps g))

-- The second body is the first under the values of its switches. It means in every frame, whatever its switches
-- are read as there, what the first means where they are read as these values; it reads the same globals but for
-- the switches; and nothing else of it differs, so that it is whole and well formed where the first is. Its code is
-- the first's with the reads replaced.
pub record IsBound (ps : List (ℕ × ℕ)) (body result : Body) : Type 0 where
  pub means :
      (others : List (ℕ × ℕ)) → ReadsNoMore ps others → (setting : Setting) (depth live : ℕ) (contents : Contents) (args : List ℕ) (bound : Bound) (w : World) →
      KeepsCall (body_from setting (frame depth live ps) contents body args bound w) (body_from setting (frame depth live others) contents result args bound w)
  pub scalars : scalars_read result.code ≡ filter (is_free ps) (scalars_read body.code)
  pub code : result.code ≡ bound_code ps body.code
  pub arrays : arrays_read result.code ≡ arrays_read body.code
  pub deepest : deepest result.code ≡ deepest body.code
  pub statements : statements result.code ≡ statements body.code
  pub tree_nodes : tree_nodes result.code ≡ tree_nodes body.code
  pub calls : calls result.code ≡ calls body.code
  pub whole : IsWhole body → IsWhole result
  pub well_formed : IsWellFormed body → IsWellFormed result
  pub intervals : (t : ℕ) → interval result t ≡ interval body t
  pub most : most_intervals result ≡ most_intervals body
  pub params : result.params ≡ body.params
  pub temps : result.temps ≡ body.temps
  pub sizes : result.arrays ≡ body.arrays
  pub rooms : result.rooms ≡ body.rooms
  pub marked : result.marked ≡ body.marked
  pub switches : result.switches ≡ body.switches
