-- Code that has no more in it than other code, and reads no other globals.
use Rattle.std.proofs.Common.{arith, ◌≡◌, ℕ, ◌+◌, ◌≤◌, max, List, [], ◌∷◌, ◌++◌, map, sym, ◌∙◌, ap, subst, ◌⊎◌, inl, inr, Contains, append-nil}
use Rattle.std.proofs.lemmas.List.Elements.{Contains-append_left, Contains-append_right, Contains-append_cases}
use Rattle.mv_ir.specs.declared.tree.Tree.{Tree}
use Rattle.mv_ir.specs.declared.stm.Stm.{Stm}
use Rattle.mv_ir.specs.declared.stm.Stm.TheOpen.{Stm-F}
use Rattle.mv_ir.specs.declared.stm.Stm.TheViews.{roll-Stm}
use Rattle.mv_ir.specs.declared.stm.Stm.TheFolds.{map-Stm}
use Rattle.mv_ir.specs.Trees.{nodes_of_all}
use Rattle.mv_ir.specs.Measures.{joined, total, layer_trees, stm_trees, trees, tree_reads, scalars_read, layer_arrays, stm_arrays, arrays_read, layer_size, stm_size, statements, layer_calls, stm_calls, calls, tree_nodes, deepest_of, deepest}
use Rattle.mv_ir.proofs.Rolls.{trees_roll, arrays_roll, size_roll, calls_roll}
use Rattle.mv_ir.proofs.Keeping.{map_append}
use Rattle.mv_ir.proofs.Lists.{joined_append}
use Rattle.mv_ir.proofs.Joining.{total_append, nodes_append, trees_append}
use Rattle.mv_fold.specs.Folded.{IsNoGreater}

-- ---- lists of numbers

abbrev pub Among : List ℕ → List ℕ → Type 0
Among ms ns = (g : ℕ) → Contains ms g → Contains ns g

pub among_append : (ms ns ms' ns' : List ℕ) → Among ms ns → Among ms' ns' → Among (ms ++ ms') (ns ++ ns')
among_append ms ns ms' ns' h k g c = by (Contains-append_cases ms ms' g c)
  where
    by : Contains ms g ⊎ Contains ms' g → Contains (ns ++ ns') g
    by (inl e) = Contains-append_left ns ns' g (h g e)
    by (inr e) = Contains-append_right ns ns' g (k g e)

pub among_both : (ms ns ls : List ℕ) → Among ms ls → Among ns ls → Among (ms ++ ns) ls
among_both ms ns ls h k g c = by (Contains-append_cases ms ns g c)
  where
    by : Contains ms g ⊎ Contains ns g → Contains ls g
    by (inl e) = h g e
    by (inr e) = k g e

pub among_left : (ms ns ls : List ℕ) → Among ms ns → Among ms (ns ++ ls)
among_left ms ns ls h g c = Contains-append_left ns ls g (h g c)

pub among_right : (ms ns ls : List ℕ) → Among ms ls → Among ms (ns ++ ls)
among_right ms ns ls h g c = Contains-append_right ns ls g (h g c)

pub none_among : (ns : List ℕ) → Among [] ns
none_among ns g (k, lt, e) = absurd (omega (arith, lt))

-- ---- what there is in some code

pub record Amount : Type 0 where
  pub nodes : ℕ
  pub depth : ℕ
  pub reads : List ℕ
  pub statements : ℕ
  pub calls : ℕ
  pub arrays : List ℕ

pub record Less (a b : Amount) : Type 0 where
  pub nodes : a.nodes ≤ b.nodes
  pub depth : a.depth ≤ b.depth
  pub reads : Among a.reads b.reads
  pub statements : a.statements ≤ b.statements
  pub calls : a.calls ≤ b.calls
  pub arrays : Among a.arrays b.arrays

pub less_refl : (a : Amount) → Less a a
less_refl a = record { nodes = omega arith; depth = omega arith; reads = λ g c. c; statements = omega arith; calls = omega arith; arrays = λ g c. c }

pub less_trans : (a b c : Amount) → Less a b → Less b c → Less a c
less_trans a b c h k = record {
  nodes = omega (arith, h.nodes, k.nodes);
  depth = omega (arith, h.depth, k.depth);
  reads = λ g e. k.reads g (h.reads g e);
  statements = omega (arith, h.statements, k.statements);
  calls = omega (arith, h.calls, k.calls);
  arrays = λ g e. k.arrays g (h.arrays g e);
}

abbrev pub with : Amount → Amount → Amount
with a b = record {
  nodes = a.nodes + b.nodes;
  depth = max a.depth b.depth;
  reads = a.reads ++ b.reads;
  statements = a.statements + b.statements;
  calls = a.calls + b.calls;
  arrays = a.arrays ++ b.arrays;
}

pub less_with : (a a' b b' : Amount) → Less a a' → Less b b' → Less (with a b) (with a' b')
less_with a a' b b' h k = record {
  nodes = omega (arith, h.nodes, k.nodes);
  depth = omega (arith, h.depth, k.depth);
  reads = among_append a.reads a'.reads b.reads b'.reads h.reads k.reads;
  statements = omega (arith, h.statements, k.statements);
  calls = omega (arith, h.calls, k.calls);
  arrays = among_append a.arrays a'.arrays b.arrays b'.arrays h.arrays k.arrays;
}

-- a statement that has no trees, as a jump
abbrev pub bare : Amount
bare = record { nodes = 0; depth = 0; reads = []; statements = 1; calls = 0; arrays = [] }

abbrev pub nothing : Amount
nothing = record { nodes = 0; depth = 0; reads = []; statements = 0; calls = 0; arrays = [] }

pub less_nothing : (a : Amount) → Less nothing a
less_nothing a = record { nodes = omega arith; depth = omega arith; reads = none_among a.reads; statements = omega arith; calls = omega arith; arrays = none_among a.arrays }

pub less_left : (a b : Amount) → Less a (with a b)
less_left a b = record {
  nodes = omega arith;
  depth = omega arith;
  reads = λ g c. Contains-append_left a.reads b.reads g c;
  statements = omega arith;
  calls = omega arith;
  arrays = λ g c. Contains-append_left a.arrays b.arrays g c;
}

pub less_right : (a b : Amount) → Less b (with a b)
less_right a b = record {
  nodes = omega arith;
  depth = omega arith;
  reads = λ g c. Contains-append_right a.reads b.reads g c;
  statements = omega arith;
  calls = omega arith;
  arrays = λ g c. Contains-append_right a.arrays b.arrays g c;
}

-- ---- of trees

abbrev pub of_trees : List Tree → Amount
of_trees ts = record { nodes = nodes_of_all ts; depth = deepest_of ts; reads = joined (map tree_reads ts); statements = 0; calls = 0; arrays = [] }

deepest_append : (ts us : List Tree) → deepest_of (ts ++ us) ≡ max (deepest_of ts) (deepest_of us)
deepest_append [] us = omega arith
deepest_append (t ∷ ts) us = omega (arith, deepest_append ts us)

reads_of_append : (ts us : List Tree) → joined (map tree_reads (ts ++ us)) ≡ joined (map tree_reads ts) ++ joined (map tree_reads us)
reads_of_append ts us = ap joined (map_append tree_reads ts us) ∙ joined_append (map tree_reads ts) (map tree_reads us)

pub of_trees_append : (ts us : List Tree) → of_trees (ts ++ us) ≡ with (of_trees ts) (of_trees us)
of_trees_append ts us = λ i. record { nodes = nodes_append ts us i; depth = deepest_append ts us i; reads = reads_of_append ts us i; statements = 0; calls = 0; arrays = [] }

-- ---- of code

abbrev pub amount : List Stm → Amount
amount code = record { nodes = tree_nodes code; depth = deepest code; reads = scalars_read code; statements = statements code; calls = calls code; arrays = arrays_read code }

pub amount_append : (xs ys : List Stm) → amount (xs ++ ys) ≡ with (amount xs) (amount ys)
amount_append xs ys = λ i. record {
  nodes = (ap nodes_of_all (trees_append xs ys) ∙ nodes_append (trees xs) (trees ys)) i;
  depth = (ap deepest_of (trees_append xs ys) ∙ deepest_append (trees xs) (trees ys)) i;
  reads = (ap (λ ts. joined (map tree_reads ts)) (trees_append xs ys) ∙ reads_of_append (trees xs) (trees ys)) i;
  statements = (ap total (map_append stm_size xs ys) ∙ total_append (map stm_size xs) (map stm_size ys)) i;
  calls = (ap total (map_append stm_calls xs ys) ∙ total_append (map stm_calls xs) (map stm_calls ys)) i;
  arrays = (ap joined (map_append stm_arrays xs ys) ∙ joined_append (map stm_arrays xs) (map stm_arrays ys)) i;
}

-- of one statement, by its layer
abbrev pub layer_amount : Stm-F Stm → Amount
layer_amount x =
    let ts = layer_trees (map-Stm Stm (List Tree) stm_trees x) in
    record {
      nodes = nodes_of_all ts;
      depth = deepest_of ts;
      reads = joined (map tree_reads ts);
      statements = layer_size (map-Stm Stm ℕ stm_size x);
      calls = layer_calls (map-Stm Stm ℕ stm_calls x);
      arrays = layer_arrays (map-Stm Stm (List ℕ) stm_arrays x);
    }

plus_none : (n : ℕ) → n + 0 ≡ n
plus_none n = omega arith

pub amount_one : (x : Stm-F Stm) → amount (roll-Stm x ∷ []) ≡ layer_amount x
amount_one x = λ i. record {
  nodes = ap nodes_of_all e i;
  depth = ap deepest_of e i;
  reads = ap (λ ts. joined (map tree_reads ts)) e i;
  statements = (plus_none (stm_size (roll-Stm x)) ∙ size_roll x) i;
  calls = (plus_none (stm_calls (roll-Stm x)) ∙ calls_roll x) i;
  arrays = (append-nil (stm_arrays (roll-Stm x)) ∙ arrays_roll x) i;
}
  where
    e : trees (roll-Stm x ∷ []) ≡ layer_trees (map-Stm Stm (List Tree) stm_trees x)
    e = append-nil (stm_trees (roll-Stm x)) ∙ trees_roll x

-- ---- the relation on code

abbrev pub Within : List Stm → List Stm → Type 0
Within xs ys = Less (amount ys) (amount xs)

pub within_append : (xs xs' ys ys' : List Stm) → Within xs xs' → Within ys ys' → Within (xs ++ ys) (xs' ++ ys')
within_append xs xs' ys ys' h k =
    subst (λ a. Less a (amount (xs ++ ys))) (sym (amount_append xs' ys')) (subst (Less (with (amount xs') (amount ys'))) (sym (amount_append xs ys)) (less_with (amount xs') (amount xs) (amount ys') (amount ys) h k))

pub within_one : (x y : Stm-F Stm) → Less (layer_amount y) (layer_amount x) → Within (roll-Stm x ∷ []) (roll-Stm y ∷ [])
within_one x y h = subst (λ a. Less a (amount (roll-Stm x ∷ []))) (sym (amount_one y)) (subst (Less (layer_amount y)) (sym (amount_one x)) h)

pub within_many : (x : Stm-F Stm) (ys : List Stm) → Less (amount ys) (layer_amount x) → Within (roll-Stm x ∷ []) ys
within_many x ys h = subst (Less (amount ys)) (sym (amount_one x)) h

pub no_greater : (code result : List Stm) → Within code result → IsNoGreater code result
no_greater code result h = record { scalars = h.reads; arrays = h.arrays; deepest = h.depth; statements = h.statements; tree_nodes = h.nodes; calls = h.calls }
