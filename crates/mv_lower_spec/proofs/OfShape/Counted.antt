-- Counts of statements, tree nodes and calls obey the rules.
use Rattle.std.proofs.Common.{◌*◌, ◌≡◌, ℕ, suc, ◌+◌, ◌≤◌, List, [], ◌∷◌, ◌++◌, map, Option, Some, None, refl, sym, ◌∙◌, ap, subst, arith, add-zero, zero-add, append-nil}
use Rattle.mv_ir.specs.declared.tree.Tree.{Tree}
use Rattle.mv_ir.specs.declared.tree.Tree.TheOpen as tree
use Rattle.mv_ir.specs.declared.stm.Stm.{Stm}
use Rattle.mv_ir.specs.declared.stm.Stm.TheOpen.{Stm-F}
use Rattle.mv_ir.specs.declared.stm.Stm.TheOpen as stm
use Rattle.mv_ir.specs.declared.stm.Stm.TheViews.{roll-Stm}
use Rattle.mv_ir.specs.declared.stm.Stm.TheFolds.{map-Stm, fold-roll-Stm}
use Rattle.mv_ir.specs.Levels.{one_if}
use Rattle.mv_ir.specs.Trees.{nodes_of_all}
use Rattle.mv_ir.specs.Measures.{total, layer_trees, stm_trees, trees, stm_size, statements, stm_calls, calls}
use Rattle.mv_ir.proofs.Keeping.{map_append}
use Rattle.mv_ir.proofs.Rolls.{nodes_roll, trees_roll, size_roll, calls_roll}
use Rattle.mv_ir.proofs.Joining.{total_append, nodes_append, trees_append}
use Rattle.mv_lower_spec.specs.Shape.Allowances.{layer_allowance, stm_allowance, allowance}
use Rattle.mv_lower_spec.specs.Shape.Calls.{layer_weight, stm_weight, code_weight, each_once}
use Rattle.mv_lower_spec.proofs.OfShape.Rules.{Allowed, Rules, BlockRules, IsPlain, result}

-- the trees of one statement
pub trees_one : (x : Stm-F Stm) → trees (roll-Stm x ∷ []) ≡ layer_trees (map-Stm Stm (List Tree) stm_trees x)
trees_one x = append-nil (stm_trees (roll-Stm x)) ∙ trees_roll x

allowance_roll : (x : Stm-F Stm) → stm_allowance (roll-Stm x) ≡ layer_allowance (map-Stm Stm ℕ stm_allowance x)
unfolding stm_allowance
allowance_roll x = fold-roll-Stm ℕ layer_allowance x

weight_roll : (direct : ℕ → ℕ) (through : ℕ) (x : Stm-F Stm) → stm_weight direct through (roll-Stm x) ≡ layer_weight direct through (map-Stm Stm ℕ (stm_weight direct through) x)
unfolding stm_weight
weight_roll direct through x = fold-roll-Stm ℕ (layer_weight direct through) x

weight_append : (direct : ℕ → ℕ) (through : ℕ) (xs ys : List Stm) → code_weight direct through (xs ++ ys) ≡ code_weight direct through xs + code_weight direct through ys
weight_append direct through xs ys = ap total (map_append (stm_weight direct through) xs ys) ∙ total_append (map (stm_weight direct through) xs) (map (stm_weight direct through) ys)

module _ (direct : ℕ → ℕ) (through : ℕ) where
  -- how many statements stand in some code, where a call counts as four, how many words these are allowed, how many nodes stand in it and in the trees that
  -- it leaves, and the weight of its calls, each of which has one
  pub record Counted (s w t k : ℕ) (ts : List Tree) (xs : List Stm) (us : List Tree) : Type 0 where
    pub units : statements xs + 3 * calls xs ≤ s
    pub words : allowance xs ≤ w
    pub nodes : nodes_of_all (trees xs) + nodes_of_all us ≤ t + nodes_of_all ts
    pub weight : code_weight direct through xs ≡ k
    pub weighed : calls xs ≡ code_weight each_once 1 xs

  counted_result : (w : Option ℕ) → nodes_of_all (result w) ≡ one_if w
  counted_result None = refl
  counted_result (Some t) = let e = nodes_roll (tree.Temp t) in omega (arith, e)

  module _ (a : Allowed) (same_direct : a.direct ≡ direct) (same_through : a.through ≡ through) where
    plain_weight : (x : Stm-F Stm) (reads : List Tree) (w : Option ℕ) (c v n : ℕ) → IsPlain a x reads w c v n → stm_weight direct through (roll-Stm x) ≡ c
    plain_weight x reads w c v n p =
        weight_roll direct through x ∙ sym (ap (λ d. layer_weight d through (map-Stm Stm ℕ (stm_weight d through) x)) same_direct) ∙
        sym (ap (λ n. layer_weight a.direct n (map-Stm Stm ℕ (stm_weight a.direct n) x)) same_through) ∙ p.calls

    pub counted_rules : Rules a Counted
    counted_rules = record {
      local = λ l h k. let e = nodes_roll (tree.Temp l) in record { units = omega arith; words = omega arith; nodes = omega (arith, e); weight = refl; weighed = refl };
      scalar = λ g h. let e = nodes_roll (tree.Global g) in record { units = omega arith; words = omega arith; nodes = omega (arith, e); weight = refl; weighed = refl };
      retree = λ {m} {ts} {us} c. record { units = omega arith; words = omega arith; nodes = omega (arith, c.nodes); weight = refl; weighed = refl };
      does = λ {c} {v} {w} {x} {reads} {writes} p.
          let n = ap nodes_of_all (trees_one x ∙ p.trees) in
          record {
            units = omega (arith, size_roll x, calls_roll x, p.units);
            words = omega (arith, allowance_roll x, p.allowed);
            nodes = omega (arith, n, counted_result writes);
            weight = omega (arith, plain_weight x reads writes c v w p);
            weighed = omega (arith, calls_roll x, weight_roll each_once 1 x, p.weighed);
          };
      drops = λ {c} {v} {w} {x} {reads} {writes} p.
          let n = ap nodes_of_all (trees_one x ∙ p.trees) in
          record {
            units = omega (arith, size_roll x, calls_roll x, p.units);
            words = omega (arith, allowance_roll x, p.allowed);
            nodes = omega (arith, n);
            weight = omega (arith, plain_weight x reads writes c v w p);
            weighed = omega (arith, calls_roll x, weight_roll each_once 1 x, p.weighed);
          };
      choose = λ {s} {w} {t} {k} {s'} {w'} {t'} {k'} {ys} {zs} {us} x h h'.
          let n = ap nodes_of_all (trees_one (stm.If x ys zs)) in
          let m = nodes_append (trees ys) (trees zs) in
          record {
            units = omega (arith, size_roll (stm.If x ys zs), calls_roll (stm.If x ys zs), h.units, h'.units);
            words = omega (arith, allowance_roll (stm.If x ys zs), h.words, h'.words);
            nodes = omega (arith, n, m, h.nodes, h'.nodes);
            weight = omega (arith, weight_roll direct through (stm.If x ys zs), h.weight, h'.weight);
            weighed = omega (arith, calls_roll (stm.If x ys zs), weight_roll each_once 1 (stm.If x ys zs), h.weighed, h'.weighed);
          };
      chain = λ {s} {w} {t} {k} {s'} {w'} {t'} {k'} {xs} {ys} {ts} {us} {vs} h h'.
          let n = ap nodes_of_all (trees_append xs ys) ∙ nodes_append (trees xs) (trees ys) in
          let m = ap total (map_append stm_size xs ys) ∙ total_append (map stm_size xs) (map stm_size ys) in
          let v = ap total (map_append stm_calls xs ys) ∙ total_append (map stm_calls xs) (map stm_calls ys) in
          let x = ap total (map_append stm_allowance xs ys) ∙ total_append (map stm_allowance xs) (map stm_allowance ys) in
          record {
            units = omega (arith, m, v, h.units, h'.units);
            words = omega (arith, x, h.words, h'.words);
            nodes = omega (arith, n, h.nodes, h'.nodes);
            weight = omega (arith, weight_append direct through xs ys, h.weight, h'.weight);
            weighed = omega (arith, v, weight_append each_once 1 xs ys, h.weighed, h'.weighed);
          };
      beside = λ {s} {w} {t} {k} {xs} {ts} {us} rest h.
          record { units = h.units; words = h.words; nodes = omega (arith, nodes_append ts rest, nodes_append us rest, h.nodes); weight = h.weight; weighed = h.weighed };
      weaken = λ {s} {w} {t} {k} {s'} {w'} {t'} {k'} {xs} {ts} {us} ls lw lt e h.
          record { units = omega (arith, ls, h.units); words = omega (arith, lw, h.words); nodes = omega (arith, lt, h.nodes); weight = h.weight ∙ e; weighed = h.weighed };
    }

  enclosing : {s w t k : ℕ} {ts : List Tree} {xs : List Stm} (x : Stm-F Stm) (more : ℕ) → stm_allowance (roll-Stm x) ≡ more + allowance xs →
      stm_size (roll-Stm x) ≡ suc (statements xs) → stm_calls (roll-Stm x) ≡ calls xs → trees (roll-Stm x ∷ []) ≡ trees xs →
      stm_weight direct through (roll-Stm x) ≡ code_weight direct through xs → stm_weight each_once 1 (roll-Stm x) ≡ code_weight each_once 1 xs →
      Counted s w t k ts xs [] → Counted (s + 1) (w + more) t k ts (roll-Stm x ∷ []) []
  enclosing x more allowed size measure same weight weighed h =
      record {
        units = omega (arith, size, measure, h.units);
        words = omega (arith, allowed, h.words);
        nodes = omega (arith, ap nodes_of_all same, h.nodes);
        weight = omega (arith, weight, h.weight);
        weighed = omega (arith, measure, weighed, h.weighed);
      }

  pub counted_blocks : BlockRules Counted
  counted_blocks = record {
    block = λ {s} {w} {t} {k} {ts} {xs} h. subst (λ n. Counted (s + 1) n t k ts (roll-Stm (stm.Block xs) ∷ []) []) (add-zero w)
        (enclosing (stm.Block xs) 0 (allowance_roll (stm.Block xs) ∙ sym (zero-add (allowance xs))) (size_roll (stm.Block xs))
        (calls_roll (stm.Block xs)) (trees_one (stm.Block xs)) (weight_roll direct through (stm.Block xs))
        (weight_roll each_once 1 (stm.Block xs)) h);
    turns = λ {s} {w} {t} {k} {xs} h. enclosing (stm.Loop xs) 1 (allowance_roll (stm.Loop xs)) (size_roll (stm.Loop xs)) (calls_roll (stm.Loop xs))
        (trees_one (stm.Loop xs)) (weight_roll direct through (stm.Loop xs)) (weight_roll each_once 1 (stm.Loop xs)) h;
    leaves = λ n. record {
      units = omega (arith, size_roll (stm.Break n), calls_roll (stm.Break n));
      words = omega (arith, allowance_roll (stm.Break n));
      nodes = omega (arith, ap nodes_of_all (trees_one (stm.Break n)));
      weight = omega (arith, weight_roll direct through (stm.Break n));
      weighed = omega (arith, calls_roll (stm.Break n), weight_roll each_once 1 (stm.Break n));
    };
    returns = λ v. record {
      units = omega (arith, size_roll (stm.Return v), calls_roll (stm.Return v));
      words = omega (arith, allowance_roll (stm.Return v));
      nodes = omega (arith, ap nodes_of_all (trees_one (stm.Return v)));
      weight = omega (arith, weight_roll direct through (stm.Return v));
      weighed = omega (arith, calls_roll (stm.Return v), weight_roll each_once 1 (stm.Return v));
    };
  }
