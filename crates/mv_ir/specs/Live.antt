-- Where a temporary is live, and its interval. Positions are the start of a body and then its statements in written
-- order.
use Rattle.std.specs.Prelude.{ℕ, zero, suc, ◌+◌, ◌≡◌, ◌<◌, Bool, true, false, cond, not, eqb, ltb, ◌&&◌, ◌||◌, List, [], ◌∷◌, ◌++◌, max, map, Option, Some, None}
use Rattle.mv_ir.specs.declared.tree.Tree.{Tree}
use Rattle.mv_ir.specs.declared.tree.Tree.TheOpen.{Tree-F}
use Rattle.mv_ir.specs.declared.tree.Tree.TheOpen as tree
use Rattle.mv_ir.specs.declared.tree.Tree.TheFolds.{fold-Tree}
use Rattle.mv_ir.specs.declared.stm.Stm.{Stm}
use Rattle.mv_ir.specs.declared.stm.Stm.TheOpen.{Stm-F}
use Rattle.mv_ir.specs.declared.stm.Stm.TheOpen as stm
use Rattle.mv_ir.specs.declared.stm.Stm.TheFolds.{fold-Stm}
use Rattle.mv_ir.specs.declared.body.Body.{Body}
use Rattle.mv_ir.specs.Measures.{callee_trees}
use Rattle.mv_ast.specs.Names.{any_of}

-- ---- reads and writes

abbrev pub layer_reads_temp : ℕ → Tree-F Bool → Bool
layer_reads_temp t (tree.Temp u) = eqb u t
layer_reads_temp t (tree.Unary o a) = a
layer_reads_temp t (tree.Binary o a b) = a || b
layer_reads_temp t (tree.Narrow k a) = a
layer_reads_temp t _ = false

unfoldable pub reads_temp : ℕ → Tree → Bool
reads_temp t = fold-Tree Bool (layer_reads_temp t)

abbrev pub any_reads : ℕ → List Tree → Bool
any_reads t [] = false
any_reads t (x ∷ xs) = reads_temp t x || any_reads t xs

abbrev pub is : Option ℕ → ℕ → Bool
is None t = false
is (Some u) t = eqb u t

-- ---- the flow through a statement, as one temporary sees it

-- whether the temporary is live behind the statement, behind the n-th enclosing loop or block, and at the start of
-- the n-th enclosing loop
pub record Around : Type 0 where
  pub next : Bool
  pub leaves : ℕ → Bool
  pub restarts : ℕ → Bool

-- whether it is live at the statement, and, for the statement and those within it in written order, whether it is
-- live there or written there
pub record Flow : Type 0 where
  pub live : Around → Bool
  pub marks : Around → List Bool

abbrev pub with_after : Around → Bool → Around
with_after r b = record r { next = b }

abbrev pub at_place : Bool → (ℕ → Bool) → ℕ → Bool
at_place b f zero = b
at_place b f (suc n) = f n

abbrev pub around_block : Around → Around
around_block r = record { next = r.next; leaves = at_place r.next r.leaves; restarts = at_place false r.restarts }

-- around the statements of a loop, where it is live at the loop's start or not
abbrev pub around_loop : Around → Bool → Around
around_loop r start = record { next = start; leaves = at_place r.next r.leaves; restarts = at_place start r.restarts }

abbrev pub live_in_order : List Flow → Around → Bool
live_in_order [] r = r.next
live_in_order (f ∷ fs) r = f.live (with_after r (live_in_order fs r))

abbrev pub marks_in_order : List Flow → Around → List Bool
marks_in_order [] r = []
marks_in_order (f ∷ fs) r = f.marks (with_after r (live_in_order fs r)) ++ marks_in_order fs r

-- A loop's start is live where a path from it leads to a read before a write: one that doesn't go back says so
-- already, since a path that goes back goes through the start again.
abbrev pub live_at_loop : List Flow → Around → Bool
live_at_loop b r = live_in_order b (around_loop r false)

-- a statement that reads some trees, may write a temporary, and goes on at a place
abbrev pub plain : ℕ → List Tree → Option ℕ → (Around → Bool) → Flow
plain t reads writes on = record {
  live = λ r. any_reads t reads || (not (is writes t) && on r);
  marks = λ r. ((any_reads t reads || (not (is writes t) && on r)) || is writes t) ∷ [];
}

abbrev pub goes_next : Around → Bool
goes_next r = r.next

abbrev pub layer_flow : ℕ → Stm-F Flow → Flow
layer_flow t (stm.Set u v) = plain t (v ∷ []) (Some u) goes_next
layer_flow t (stm.SetGlobal g v) = plain t (v ∷ []) None goes_next
layer_flow t (stm.Divide u o a b) = plain t (a ∷ b ∷ []) (Some u) goes_next
layer_flow t (stm.Check a i) = plain t (i ∷ []) None goes_next
layer_flow t (stm.Read u a i) = plain t (i ∷ []) (Some u) goes_next
layer_flow t (stm.Write a i v) = plain t (i ∷ v ∷ []) None goes_next
layer_flow t (stm.Zero l) = plain t [] None goes_next
layer_flow t (stm.If x a b) = record {
  live = λ r. reads_temp t x || (live_in_order a r || live_in_order b r);
  marks = λ r. (reads_temp t x || (live_in_order a r || live_in_order b r)) ∷ (marks_in_order a r ++ marks_in_order b r);
}
layer_flow t (stm.Loop b) = record {
  live = λ r. live_at_loop b r;
  marks = λ r. live_at_loop b r ∷ marks_in_order b (around_loop r (live_at_loop b r));
}
layer_flow t (stm.Block b) = record {
  live = λ r. live_in_order b (around_block r);
  marks = λ r. live_in_order b (around_block r) ∷ marks_in_order b (around_block r);
}
layer_flow t (stm.Break n) = plain t [] None (λ r. r.leaves n)
layer_flow t (stm.Back n) = plain t [] None (λ r. r.restarts n)
layer_flow t (stm.Call u f args) = plain t (callee_trees f ++ args) u goes_next
layer_flow t (stm.Known u k args) = plain t args u goes_next
layer_flow t (stm.Return v) = plain t (v ∷ []) None (λ r. false)

unfoldable pub flow : ℕ → Stm → Flow
flow t = fold-Stm Flow (layer_flow t)

-- ---- bodies

-- behind a body nothing is live
abbrev pub nowhere : Around
nowhere = record { next = false; leaves = λ n. false; restarts = λ n. false }

abbrev pub live_at_start : ℕ → List Stm → Bool
live_at_start t code = live_in_order (map (flow t) code) nowhere

-- for each position, whether the temporary is live or written there; a parameter is given at the start
abbrev pub all_marks : Body → ℕ → List Bool
all_marks b t = (live_at_start t b.code || ltb t b.params) ∷ marks_in_order (map (flow t) b.code) nowhere

-- on each path each temporary other than a parameter is written before it is read
abbrev pub IsWhole : Body → Type 0
IsWhole b = (t : ℕ) → live_at_start t b.code ≡ true → t < b.params

-- the least range that holds all marks
abbrev pub filled : Bool → List Bool → List Bool
filled begun [] = []
filled begun (x ∷ xs) = ((begun || x) && (x || any_of xs)) ∷ filled (begun || x) xs

-- for each position, whether the temporary's interval holds it
abbrev pub interval : Body → ℕ → List Bool
interval b t = filled false (all_marks b t)

-- whether the position is marked
abbrev pub mark_at : List Bool → ℕ → Bool
mark_at [] i = false
mark_at (x ∷ xs) zero = x
mark_at (x ∷ xs) (suc i) = mark_at xs i

-- each temporary that is live or written somewhere, or a parameter, is one of the body's
abbrev pub HasTemps : Body → Type 0
HasTemps b = (i t : ℕ) → mark_at (all_marks b t) i ≡ true → t < b.temps

abbrev pub count_at : ℕ → List (List Bool) → ℕ
count_at i [] = 0
count_at i (xs ∷ xss) = cond (mark_at xs i) 1 0 + count_at i xss

abbrev pub below : ℕ → List ℕ
below zero = []
below (suc n) = below n ++ n ∷ []

abbrev pub greatest_up_to : ℕ → (ℕ → ℕ) → ℕ
greatest_up_to zero f = 0
greatest_up_to (suc n) f = max (greatest_up_to n f) (f n)

abbrev pub marks_length : List Bool → ℕ
marks_length [] = 0
marks_length (x ∷ xs) = suc (marks_length xs)

-- the greatest number of intervals over one position
abbrev pub most_intervals : Body → ℕ
most_intervals b = greatest_up_to (marks_length (all_marks b 0)) (λ i. count_at i (map (interval b) (below b.temps)))
