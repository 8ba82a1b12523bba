-- The replacement of reads changes nothing that a temporary sees: where it is live, and where it is written.
use Rattle.std.proofs.Common.{◌≡◌, ℕ, Bool, false, not, ◌&&◌, ◌||◌, List, [], ◌∷◌, ◌++◌, map, refl, sym, ap, ◌∙◌, Option, None, Some}
use Rattle.mv_ir.specs.declared.tree.Tree.{Tree}
use Rattle.mv_ir.specs.declared.tree.Tree.TheOpen.{Tree-F}
use Rattle.mv_ir.specs.declared.tree.Tree.TheOpen as tree
use Rattle.mv_ir.specs.declared.tree.Tree.TheViews.{roll-Tree}
use Rattle.mv_ir.specs.declared.stm.Callee.{Callee}
use Rattle.mv_ir.specs.declared.stm.Stm.{Stm}
use Rattle.mv_ir.specs.declared.stm.Stm.TheOpen.{Stm-F}
use Rattle.mv_ir.specs.declared.stm.Stm.TheOpen as stm
use Rattle.mv_ir.specs.declared.body.Body.{Body}
use Rattle.mv_ir.specs.Trees.{found}
use Rattle.mv_ir.specs.Measures.{callee_trees}
use Rattle.mv_ir.specs.Live.{reads_temp, any_reads, is, Around, Flow, live_in_order, marks_in_order, plain, goes_next, layer_flow, flow, all_marks, IsWhole, HasTemps, marks_length, interval, filled, greatest_up_to, count_at, below, most_intervals}
use Rattle.mv_ir.proofs.Induction.{TreeChildren, tree_ind}
use Rattle.mv_ir.proofs.Rolls.{same_functions, reads_temp_roll, flow_roll}
use Rattle.mv_ir.proofs.Keeping.{map_append}
use Rattle.mv_ir.proofs.Living as of_flows
use Rattle.mv_clone.specs.Bind.{bound_tree, bound_callee, bound_layer, bound_code, known_or_read}
use Rattle.mv_clone.proofs.Bound.{bound_tree_roll}
use Rattle.mv_clone.proofs.Kept.{callee_trees_bound, blind_all}

module _ (ps : List (ℕ × ℕ)) (t : ℕ) where
  -- ---- trees

  abbrev Same : Tree → Type 0
  Same x = reads_temp t (bound_tree ps x) ≡ reads_temp t x

  read_same : (g : ℕ) (o : Option ℕ) → reads_temp t (known_or_read g o) ≡ false
  read_same g None = reads_temp_roll t (tree.Global g)
  read_same g (Some v) = reads_temp_roll t (tree.Number v)

  same_layer : (x : Tree-F Tree) → TreeChildren Same x → Same (roll-Tree x)
  same_layer (tree.Number n) h = ap (reads_temp t) (bound_tree_roll ps (tree.Number n))
  same_layer (tree.Temp u) h = ap (reads_temp t) (bound_tree_roll ps (tree.Temp u))
  same_layer (tree.Global g) h = ap (reads_temp t) (bound_tree_roll ps (tree.Global g)) ∙ read_same g (found ps g) ∙ sym (reads_temp_roll t (tree.Global g))
  same_layer (tree.Function f) h = ap (reads_temp t) (bound_tree_roll ps (tree.Function f))
  same_layer (tree.Unary o a) h = ap (reads_temp t) (bound_tree_roll ps (tree.Unary o a)) ∙ reads_temp_roll t (tree.Unary o (bound_tree ps a)) ∙ h ∙ sym (reads_temp_roll t (tree.Unary o a))
  same_layer (tree.Binary o a b) h =
      ap (reads_temp t) (bound_tree_roll ps (tree.Binary o a b)) ∙ reads_temp_roll t (tree.Binary o (bound_tree ps a) (bound_tree ps b)) ∙
      ap (λ r. r || reads_temp t (bound_tree ps b)) h.0 ∙ ap (λ r. reads_temp t a || r) h.1 ∙ sym (reads_temp_roll t (tree.Binary o a b))
  same_layer (tree.Narrow k a) h = ap (reads_temp t) (bound_tree_roll ps (tree.Narrow k a)) ∙ reads_temp_roll t (tree.Narrow k (bound_tree ps a)) ∙ h ∙ sym (reads_temp_roll t (tree.Narrow k a))

  reads_same : (x : Tree) → Same x
  reads_same = tree_ind Same same_layer

  any_same : (xs : List Tree) → any_reads t (map (bound_tree ps) xs) ≡ any_reads t xs
  any_same [] = refl
  any_same (x ∷ xs) = ap (λ r. r || any_reads t (map (bound_tree ps) xs)) (reads_same x) ∙ ap (λ r. reads_temp t x || r) (any_same xs)

  -- ---- statements

  plain_same : (xs ys : List Tree) (writes : Option ℕ) (on : Around → Bool) → any_reads t xs ≡ any_reads t ys → plain t xs writes on ≡ plain t ys writes on
  plain_same xs ys writes on e = ap by e
    where
      by : Bool → Flow
      by r = record {
        live = λ a. r || (not (is writes t) && on a);
        marks = λ a. ((r || (not (is writes t) && on a)) || is writes t) ∷ [];
      }

  plain_bound : (xs : List Tree) (writes : Option ℕ) (on : Around → Bool) → plain t (map (bound_tree ps) xs) writes on ≡ plain t xs writes on
  plain_bound xs writes on = plain_same (map (bound_tree ps) xs) xs writes on (any_same xs)

  choice_same : (x : Tree) (a b : List Flow) → layer_flow t (stm.If (bound_tree ps x) a b) ≡ layer_flow t (stm.If x a b)
  choice_same x a b = ap by (reads_same x)
    where
      by : Bool → Flow
      by r = record {
        live = λ o. r || (live_in_order a o || live_in_order b o);
        marks = λ o. (r || (live_in_order a o || live_in_order b o)) ∷ (marks_in_order a o ++ marks_in_order b o);
      }

  trees_of_call : (f : Callee) (args : List Tree) → any_reads t (callee_trees (bound_callee ps f) ++ map (bound_tree ps) args) ≡ any_reads t (callee_trees f ++ args)
  trees_of_call f args =
      ap (λ l. any_reads t (l ++ map (bound_tree ps) args)) (callee_trees_bound ps f) ∙ ap (any_reads t) (sym (map_append (bound_tree ps) (callee_trees f) args)) ∙
      any_same (callee_trees f ++ args)

  flow_blind : (x : Stm-F Flow) → layer_flow t (bound_layer ps x) ≡ layer_flow t x
  flow_blind (stm.Set u v) = plain_bound (v ∷ []) (Some u) goes_next
  flow_blind (stm.SetGlobal g v) = plain_bound (v ∷ []) None goes_next
  flow_blind (stm.Divide u o a b) = plain_bound (a ∷ b ∷ []) (Some u) goes_next
  flow_blind (stm.Check a i) = plain_bound (i ∷ []) None goes_next
  flow_blind (stm.Read u a i) = plain_bound (i ∷ []) (Some u) goes_next
  flow_blind (stm.Write a i v) = plain_bound (i ∷ v ∷ []) None goes_next
  flow_blind (stm.Zero l) = refl
  flow_blind (stm.If x a b) = choice_same x a b
  flow_blind (stm.Loop b) = refl
  flow_blind (stm.Block b) = refl
  flow_blind (stm.Break n) = refl
  flow_blind (stm.Back n) = refl
  flow_blind (stm.Call u f args) =
      plain_same (callee_trees (bound_callee ps f) ++ map (bound_tree ps) args) (callee_trees f ++ args) u goes_next (trees_of_call f args)
  flow_blind (stm.Known u k args) = plain_bound args u goes_next
  flow_blind (stm.Return v) = plain_bound (v ∷ []) None (λ r. false)

  flows_same : (code : List Stm) → map (flow t) (bound_code ps code) ≡ map (flow t) code
  flows_same code = blind_all ps (flow t) (layer_flow t) (flow_roll t) flow_blind code

-- ---- bodies

-- the second has the first's code with its switches replaced, and its numbers of parameters and of temporaries
module _ (ps : List (ℕ × ℕ)) (b r : Body) (ep : r.params ≡ b.params) (et : r.temps ≡ b.temps) (ec : r.code ≡ bound_code ps b.code) where
  same_flows : (t : ℕ) → map (flow t) r.code ≡ map (flow t) b.code
  same_flows t = ap (map (flow t)) ec ∙ flows_same ps t b.code

  pub whole_kept : IsWhole b → IsWhole r
  whole_kept = of_flows.whole_kept b r same_flows ep et

  pub temps_kept : HasTemps b → HasTemps r
  temps_kept = of_flows.temps_kept b r same_flows ep et

  marks_same : (t : ℕ) → all_marks r t ≡ all_marks b t
  marks_same = of_flows.same_marks b r same_flows ep et

  pub interval_same : (t : ℕ) → interval r t ≡ interval b t
  interval_same t = ap (filled false) (marks_same t)

  pub most_same : most_intervals r ≡ most_intervals b
  most_same =
      ap (λ m. greatest_up_to (marks_length m) (λ i. count_at i (map (interval r) (below r.temps)))) (marks_same 0) ∙
      ap (λ f. greatest_up_to (marks_length (all_marks b 0)) (λ i. count_at i (map f (below r.temps)))) (same_functions (interval r) (interval b) interval_same) ∙
      ap (λ n. greatest_up_to (marks_length (all_marks b 0)) (λ i. count_at i (map (interval b) (below n)))) et
