-- Numbers carried through temporaries: one walk over code in the order in which it runs.
use Rattle.std.specs.Prelude.{ℕ, zero, suc, ◌-◌, Bool, false, not, eqb, ◌||◌, List, [], ◌∷◌, ◌++◌, map, Option, Some, None}
use Rattle.std.specs.List.{filter}
use Rattle.mv_ast.specs.Names.{any_of}
use Rattle.mv_ir.specs.declared.tree.Tree.{Tree}
use Rattle.mv_ir.specs.declared.tree.Tree.TheOpen.{Tree-F}
use Rattle.mv_ir.specs.declared.tree.Tree.TheOpen as tree
use Rattle.mv_ir.specs.declared.tree.Tree.TheViews.{roll-Tree}
use Rattle.mv_ir.specs.declared.tree.Tree.TheFolds.{fold-Tree}
use Rattle.mv_ir.specs.declared.stm.Callee.{Callee}
use Rattle.mv_ir.specs.declared.stm.Callee.TheVariants as callee
use Rattle.mv_ir.specs.declared.stm.Stm.{Stm}
use Rattle.mv_ir.specs.declared.stm.Stm.TheOpen.{Stm-F}
use Rattle.mv_ir.specs.declared.stm.Stm.TheOpen as stm
use Rattle.mv_ir.specs.declared.stm.Stm.TheViews.{roll-Stm}
use Rattle.mv_ir.specs.declared.stm.Stm.TheFolds.{fold-Stm, map-Stm}
use Rattle.mv_ir.specs.Live.{is}
use Rattle.mv_ir.specs.Rolled.{number}
use Rattle.mv_fold.specs.Simple.{constant, simple_tree}
use Rattle.mv_carry.specs.declared.facts.Fact.{Fact}
use Rattle.mv_carry.specs.declared.facts.Reach.{Reach}
use Rattle.mv_carry.specs.declared.facts.Reach.TheVariants.{Never, Knowing}
use Rattle.mv_carry.specs.declared.walk.Within.{Within}
use Rattle.mv_carry.specs.declared.walk.Walk.{Walk}
use Rattle.mv_carry.specs.Facts.{number_of, without, behind_write, known, with_facts, meet}

-- ---- trees

abbrev pub number_or : Option ℕ → ℕ → Tree
number_or None t = roll-Tree (tree.Temp t)
number_or (Some n) t = number n

abbrev pub known_node : List Fact → Tree-F Tree → Tree
known_node fs (tree.Temp t) = number_or (number_of fs t) t
known_node fs x = roll-Tree x

-- the tree with its reads of known temporaries replaced
unfoldable pub known_tree : List Fact → Tree → Tree
known_tree fs = fold-Tree Tree (known_node fs)

-- and then its operators on constants computed
abbrev pub carried_tree : List Fact → Tree → Tree
carried_tree fs t = simple_tree (known_tree fs t)

abbrev pub carried_callee : List Fact → Callee → Callee
carried_callee fs (callee.Direct f) = callee.Direct f
carried_callee fs (callee.Through t) = callee.Through (carried_tree fs t)
carried_callee fs (callee.Switched g) = callee.Switched g
carried_callee fs callee.Expanded = callee.Expanded

-- ---- what is written

abbrev pub layer_writes : ℕ → Stm-F Bool → Bool
layer_writes t (stm.Set u v) = eqb u t
layer_writes t (stm.Divide u o a b) = eqb u t
layer_writes t (stm.Read u a i) = eqb u t
layer_writes t (stm.If x a b) = any_of a || any_of b
layer_writes t (stm.Loop b) = any_of b
layer_writes t (stm.Block b) = any_of b
layer_writes t (stm.Call r f args) = is r t
layer_writes t (stm.Known r k args) = is r t
layer_writes t _ = false

-- whether a statement writes a temporary somewhere
unfoldable pub writes : ℕ → Stm → Bool
writes t = fold-Stm Bool (layer_writes t)

-- what is known of temporaries that some code, which is given by what it writes, doesn't write
abbrev pub unwritten : (ℕ → Bool) → List Fact → List Fact
unwritten written fs = filter (λ f. not (written f.temp)) fs

-- what is known of temporaries that a statement doesn't write
unfoldable pub unwritten_by : Stm → List Fact → List Fact
unwritten_by s fs = unwritten (λ t. writes t s) fs

abbrev pub without_result : Option ℕ → List Fact → List Fact
without_result None fs = fs
without_result (Some t) fs = without t fs

-- ---- loops

-- within no loop
abbrev pub outermost : Within
outermost = record { looks = 4; start = Knowing [] }

-- within a loop at whose start something is known
abbrev pub inner : Within → Reach → Within
inner l r = record { looks = l.looks - 1; start = r }

-- What is known at each start of a loop, which is given by what it writes: what was known before and it doesn't write. Deep within others it is what is known
-- at each start of the innermost loop that was looked into.
abbrev pub looked : ℕ → Reach → (ℕ → Bool) → List Fact → Reach
looked zero r written fs = r
looked (suc n) r written fs = Knowing (unwritten written fs)

abbrev pub at_start : Within → (ℕ → Bool) → Reach → Reach
at_start l written Never = Never
at_start l written (Knowing fs) = looked l.looks l.start written fs

-- the same of a list of statements
abbrev pub start : Within → List Stm → Reach → Reach
start l b r = at_start l (λ t. any_of (map (writes t) b)) r

-- ---- the walk

-- at the start of some code
abbrev pub begun : Reach → Walk
begun r = record { code = []; here = r; left = Never; far = Never }

abbrev pub put : Stm → Walk → Walk
put s w = record w { code = w.code ++ s ∷ [] }

abbrev pub wrote : ℕ → Walk → Walk
wrote t w = record w { here = with_facts (without t) w.here }

abbrev pub wrote_result : Option ℕ → Walk → Walk
wrote_result None w = w
wrote_result (Some t) w = wrote t w

abbrev pub learned : (temps t : ℕ) → Option ℕ → Walk → Walk
learned temps t c w = record w { here = with_facts (behind_write temps t c) w.here }

-- control never comes behind a jump
abbrev pub jumped : Walk → Walk
jumped w = record w { here = Never }

-- the innermost loop or block around is left with what is known here, or one further out
abbrev pub leaves : ℕ → Walk → Walk
leaves zero w = record w { left = meet w.left w.here }
leaves (suc n) w = record w { far = meet w.far w.here }

-- a statement with others in it: what is known behind it, where it leaves the innermost loop or block around it, and where one further out
abbrev pub around : Stm → Reach → Reach → Reach → Walk → Walk
around s here left far w = record { code = w.code ++ s ∷ []; here = here; left = meet w.left left; far = meet w.far far }

-- on either side, or on the side that a constant takes
abbrev pub chosen : Option ℕ → Tree → Walk → Walk → Walk → Walk
chosen None t a b w = around (roll-Stm (stm.If t a.code b.code)) (meet a.here b.here) (meet a.left b.left) (meet a.far b.far) w
chosen (Some zero) t a b w = around (roll-Stm (stm.If t a.code b.code)) b.here b.left b.far w
chosen (Some (suc n)) t a b w = around (roll-Stm (stm.If t a.code b.code)) a.here a.left a.far w

-- What leaves a loop or block and another leaves the innermost one around that, or one further out.
abbrev pub looped : Walk → Walk → Walk
looped b w = around (roll-Stm (stm.Loop b.code)) b.left b.far b.far w

abbrev pub blocked : Walk → Walk → Walk
blocked b w = around (roll-Stm (stm.Block b.code)) (meet b.here b.left) b.far b.far w

-- a walk over a statement: what it writes, and where one comes to
pub record Step : Type 0 where
  pub written : ℕ → Bool
  pub walk : Within → Walk → Walk

abbrev pub in_order : Within → List Step → Walk → Walk
in_order l [] w = w
in_order l (s ∷ ss) w = in_order l ss (s.walk l w)

-- whether some statements write a temporary
abbrev pub written_in : List Step → ℕ → Bool
written_in b t = any_of (map (λ (s : Step). s.written t) b)

-- what is known at each start of a loop over some statements
abbrev pub start_of : Within → List Step → Reach → Reach
start_of l b r = at_start l (written_in b) r

module _ (temps : ℕ) where
  abbrev pub carried_layer : Stm-F Step → Within → Walk → Walk
  carried_layer (stm.Set t v) l w = let u = carried_tree (known w.here) v in put (roll-Stm (stm.Set t u)) (learned temps t (constant u) w)
  carried_layer (stm.SetGlobal g v) l w = put (roll-Stm (stm.SetGlobal g (carried_tree (known w.here) v))) w
  carried_layer (stm.Divide t o a b) l w = put (roll-Stm (stm.Divide t o (carried_tree (known w.here) a) (carried_tree (known w.here) b))) (wrote t w)
  carried_layer (stm.Check a i) l w = put (roll-Stm (stm.Check a (carried_tree (known w.here) i))) w
  carried_layer (stm.Read t a i) l w = put (roll-Stm (stm.Read t a (carried_tree (known w.here) i))) (wrote t w)
  carried_layer (stm.Write a i v) l w = put (roll-Stm (stm.Write a (carried_tree (known w.here) i) (carried_tree (known w.here) v))) w
  carried_layer (stm.Zero a) l w = put (roll-Stm (stm.Zero a)) w
  carried_layer (stm.If t a b) l w = let u = carried_tree (known w.here) t in chosen (constant u) u (in_order l a (begun w.here)) (in_order l b (begun w.here)) w
  carried_layer (stm.Loop b) l w = let r = start_of l b w.here in looped (in_order (inner l r) b (begun r)) w
  carried_layer (stm.Block b) l w = blocked (in_order l b (begun w.here)) w
  carried_layer (stm.Break n) l w = put (roll-Stm (stm.Break n)) (jumped (leaves n w))
  carried_layer (stm.Back n) l w = put (roll-Stm (stm.Back n)) (jumped w)
  carried_layer (stm.Call r f args) l w = put (roll-Stm (stm.Call r (carried_callee (known w.here) f) (map (carried_tree (known w.here)) args))) (wrote_result r w)
  carried_layer (stm.Known r k args) l w = put (roll-Stm (stm.Known r k (map (carried_tree (known w.here)) args))) (wrote_result r w)
  carried_layer (stm.Return v) l w = put (roll-Stm (stm.Return (carried_tree (known w.here) v))) (jumped w)

  abbrev pub step_layer : Stm-F Step → Step
  step_layer x = record { written = λ t. layer_writes t (map-Stm Step Bool (λ s. s.written t) x); walk = carried_layer x }

  unfoldable pub step : Stm → Step
  step = fold-Stm Step step_layer

  -- where the walk comes to behind some code, from a place where something is known
  abbrev pub carried_code : Within → Reach → List Stm → Walk
  carried_code l r code = in_order l (map step code) (begun r)

  -- the walk over a loop and over a block
  abbrev pub loop_walk : Within → List Stm → Walk → Walk
  loop_walk l b w = let r = start l b w.here in looped (carried_code (inner l r) r b) w

  abbrev pub block_walk : Within → List Stm → Walk → Walk
  block_walk l b w = blocked (carried_code l w.here b) w
