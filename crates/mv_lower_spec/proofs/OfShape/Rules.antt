-- What code is made of. A relation between code, the trees of values that are still to be used before and behind it, and counts holds
-- of all lowered expressions where it obeys these rules.
use Rattle.std.proofs.Common.{◌*◌, ◌≡◌, ℕ, ◌+◌, ◌≤◌, Bool, true, List, [], ◌∷◌, ◌++◌, map, Option, Some, None}
use Rattle.mv_ir.specs.declared.tree.Tree.{Tree}
use Rattle.mv_ir.specs.declared.stm.Array.{Array}
use Rattle.mv_ir.specs.declared.stm.Stm.{Stm}
use Rattle.mv_ir.specs.declared.stm.Stm.TheOpen.{Stm-F}
use Rattle.mv_ir.specs.declared.stm.Stm.TheViews.{roll-Stm}
use Rattle.mv_ir.specs.declared.stm.Stm.TheFolds.{map-Stm}
use Rattle.mv_ir.specs.Levels.{one_if}
use Rattle.mv_ir.specs.Trees.{nodes_of_all}
use Rattle.mv_ir.specs.Measures.{joined, layer_trees, stm_trees, tree_reads, layer_arrays, stm_arrays, layer_size, stm_size, layer_calls, stm_calls}
use Rattle.mv_ir.specs.Live.{Flow, layer_flow, flow, any_reads, plain, goes_next}
use Rattle.mv_ir.specs.WellFormed.{layer_targets, stm_targets, layer_named, stm_named, layer_arguments, stm_arguments}
use Rattle.mv_ir.proofs.Induction.{Each}
use Rattle.mv_lower_spec.specs.Lowered.{temp, global, choose}
use Rattle.mv_lower_spec.specs.Statements.{return_with, break, repeat, enclosed}
use Rattle.mv_lower_spec.specs.Shape.Allowances.{layer_allowance, stm_allowance}
use Rattle.mv_lower_spec.specs.Shape.Calls.{layer_weight, stm_weight, each_once}

-- what code may name and read, and the weights of its calls
pub record Allowed : Type 0 where
  pub temps : ℕ → Bool
  pub declared : ℕ → Bool
  pub scalars : ℕ → Bool
  pub arrays : ℕ → Bool
  pub named : Array → Bool
  pub direct : ℕ → ℕ
  pub through : ℕ

-- the global scalars that some trees read
abbrev pub all_read : List Tree → List ℕ
all_read ts = joined (map tree_reads ts)

abbrev pub AllMay : (ℕ → Bool) → List ℕ → Type 0
AllMay may = Each (λ g. may g ≡ true)

-- trees that read no more than others, and have at most so many nodes more
pub record Covers (ts us : List Tree) (more : ℕ) : Type 0 where
  pub temps : (t : ℕ) → any_reads t us ≡ true → any_reads t ts ≡ true
  pub scalars : (may : ℕ → Bool) → AllMay may (all_read ts) → AllMay may (all_read us)
  pub nodes : nodes_of_all us ≤ nodes_of_all ts + more

-- the tree that reads what a statement writes
abbrev pub result : Option ℕ → List Tree
result None = []
result (Some t) = temp t ∷ []

abbrev pub IsAllowed : Allowed → Option ℕ → Type 0
IsAllowed a None = Unit {0}
IsAllowed a (Some t) = a.temps t ≡ true

-- a statement without others in it that goes on, with what it reads, what it writes, the weight of its call, which has one where it is a call, what it
-- counts as, where a call is as much as four other statements, and the words that it is allowed
pub record IsPlain (a : Allowed) (x : Stm-F Stm) (reads : List Tree) (writes : Option ℕ) (weight measure words : ℕ) : Type 0 where
  pub flows : (t : ℕ) → layer_flow t (map-Stm Stm Flow (flow t) x) ≡ plain t reads writes goes_next
  pub trees : layer_trees (map-Stm Stm (List Tree) stm_trees x) ≡ reads
  pub units : layer_size (map-Stm Stm ℕ stm_size x) + 3 * layer_calls (map-Stm Stm ℕ stm_calls x) ≤ measure
  pub allowed : layer_allowance (map-Stm Stm ℕ stm_allowance x) ≤ words
  pub calls : layer_weight a.direct a.through (map-Stm Stm ℕ (stm_weight a.direct a.through) x) ≡ weight
  pub weighed : layer_calls (map-Stm Stm ℕ stm_calls x) ≡ layer_weight each_once 1 (map-Stm Stm ℕ (stm_weight each_once 1) x)
  pub arguments : layer_arguments (map-Stm Stm Bool stm_arguments x) ≡ true
  pub targets : (around : List Bool) → layer_targets (map-Stm Stm (List Bool → Bool) stm_targets x) around ≡ true
  pub named : Each (λ r. a.named r ≡ true) (layer_named (map-Stm Stm (List Array) stm_named x))
  pub arrays : Each (λ g. a.arrays g ≡ true) (layer_arrays (map-Stm Stm (List ℕ) stm_arrays x))
  pub written : IsAllowed a writes

-- The rules. B has counts of units, of words of statements, of tree nodes and of the calls' weights, the trees that code finds to be used, the code, and the
-- trees that it leaves.
pub record Rules (a : Allowed) (B : ℕ → ℕ → ℕ → ℕ → List Tree → List Stm → List Tree → Type 0) : Type 0 where
  pub local : (l : ℕ) → a.declared l ≡ true → a.temps l ≡ true → B 0 0 1 0 [] [] (temp l ∷ [])
  pub scalar : (g : ℕ) → a.scalars g ≡ true → B 0 0 1 0 [] [] (global g ∷ [])
  pub retree : {m : ℕ} {ts us : List Tree} → Covers ts us m → B 0 0 m 0 ts [] us
  pub does : {c v w : ℕ} {x : Stm-F Stm} {reads : List Tree} {writes : Option ℕ} → IsPlain a x reads writes c v w → B v w (one_if writes) c reads (roll-Stm x ∷ []) (result writes)
  pub drops : {c v w : ℕ} {x : Stm-F Stm} {reads : List Tree} {writes : Option ℕ} → IsPlain a x reads writes c v w → B v w 0 c reads (roll-Stm x ∷ []) []
  pub choose : {s w t k s' w' t' k' : ℕ} {ys zs : List Stm} {us : List Tree} (x : Tree) → B s w t k [] ys us → B s' w' t' k' [] zs us → B (s + s' + 1) (w + w' + 3) (t + t') (k + k') (x ∷ []) (choose x ys zs ∷ []) us
  pub chain : {s w t k s' w' t' k' : ℕ} {xs ys : List Stm} {ts us vs : List Tree} → B s w t k ts xs us → B s' w' t' k' us ys vs → B (s + s') (w + w') (t + t') (k + k') ts (xs ++ ys) vs
  pub beside : {s w t k : ℕ} {xs : List Stm} {ts us : List Tree} (rest : List Tree) → B s w t k ts xs us → B s w t k (ts ++ rest) xs (us ++ rest)
  pub weaken : {s w t k s' w' t' k' : ℕ} {xs : List Stm} {ts us : List Tree} → s ≤ s' → w ≤ w' → t ≤ t' → k ≡ k' → B s w t k ts xs us → B s' w' t' k' ts xs us

-- the rules of what jumps and of what encloses other code
pub record BlockRules (B : ℕ → ℕ → ℕ → ℕ → List Tree → List Stm → List Tree → Type 0) : Type 0 where
  pub block : {s w t k : ℕ} {ts : List Tree} {xs : List Stm} → B s w t k ts xs [] → B (s + 1) w t k ts (enclosed xs ∷ []) []
  pub turns : {s w t k : ℕ} {xs : List Stm} → B s w t k [] xs [] → B (s + 1) (w + 1) t k [] (repeat xs ∷ []) []
  pub leaves : (n : ℕ) → B 1 1 0 0 [] (break n ∷ []) []
  pub returns : (v : Tree) → B 1 1 0 0 (v ∷ []) (return_with v ∷ []) []
