-- A body whose reads of its switches are replaced is that body under the values of its switches.
use Rattle.std.proofs.Common.{◌≡◌, ℕ, List, map, subst, sym, ap, ◌∙◌}
use Rattle.std.specs.List.{filter}
use Rattle.mv_ir.specs.declared.body.Body.{Body}
use Rattle.mv_ir.specs.Trees.{nodes_of_all}
use Rattle.mv_ir.specs.Measures.{joined, total, tree_reads, trees, layer_arrays, stm_arrays, arrays_read, layer_size, stm_size, layer_calls, stm_calls, scalars_read, statements, tree_nodes, deepest_of}
use Rattle.mv_ir.proofs.Rolls.{arrays_roll, size_roll, calls_roll}
use Rattle.mv_ir.proofs.Keeping.{Between, body_between}
use Rattle.mv_clone.specs.Bind.{bound_code, frame, is_free, IsBound}
use Rattle.mv_clone.proofs.Kept.{reads_bound_all, nodes_bound_all, deepest_bound, trees_bound, blind_all, blind_sizes, blind_calls, blind_arrays, all_kept}
use Rattle.mv_clone.proofs.FlowsKept.{whole_kept, interval_same, most_same}
use Rattle.mv_clone.proofs.FormKept.{form_kept}

module _ (ps : List (ℕ × ℕ)) where
  pub body_is_bound : (b r : Body) → r.params ≡ b.params → r.temps ≡ b.temps → r.arrays ≡ b.arrays → r.code ≡ bound_code ps b.code → r.rooms ≡ b.rooms → r.marked ≡ b.marked → r.switches ≡ b.switches → IsBound ps b r
  body_is_bound b r ep et ea ec er em es =
      let reads : scalars_read r.code ≡ filter (is_free ps) (scalars_read b.code) =
      ap scalars_read ec ∙ ap (λ ts. joined (map tree_reads ts)) (trees_bound ps b.code) ∙ reads_bound_all ps (trees b.code) in
      let size : statements r.code ≡ statements b.code = ap (λ c. total (map stm_size c)) ec ∙ ap total (blind_all ps stm_size layer_size size_roll (blind_sizes ps) b.code) in
      let count : tree_nodes r.code ≡ tree_nodes b.code = ap (λ c. nodes_of_all (trees c)) ec ∙ ap nodes_of_all (trees_bound ps b.code) ∙ nodes_bound_all ps (trees b.code) in
      record {
        means =
            λ others fewer setting depth live. body_between setting (frame depth live ps) (frame depth live others) b r et ea
            (subst (λ c. Between setting (frame depth live ps) (frame depth live others) b.code c) (sym ec) (all_kept ps others fewer setting depth live b.code));
        scalars = reads;
        code = ec;
        arrays = ap arrays_read ec ∙ ap joined (blind_all ps stm_arrays layer_arrays arrays_roll (blind_arrays ps) b.code);
        deepest = ap (λ c. deepest_of (trees c)) ec ∙ ap deepest_of (trees_bound ps b.code) ∙ deepest_bound ps (trees b.code);
        statements = size;
        tree_nodes = count;
        calls = ap (λ c. total (map stm_calls c)) ec ∙ ap total (blind_all ps stm_calls layer_calls calls_roll (blind_calls ps) b.code);
        whole = whole_kept ps b r ep et ec;
        well_formed = form_kept ps b r ep et ea ec er reads size count;
        intervals = interval_same ps b r ep et ec;
        most = most_same ps b r ep et ec;
        params = ep;
        temps = et;
        sizes = ea;
        rooms = er;
        marked = em;
        switches = es;
      }
