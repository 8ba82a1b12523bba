-- Lowered declarations of locals are made of code that obeys the rules.
use Rattle.std.proofs.Common.{◌≡◌, ℕ, zero, suc, ◌+◌, ◌-◌, ◌*◌, ◌≤◌, Bool, true, false, cond, List, [], ◌∷◌, ◌++◌, map, length, Option, Some, None, refl, ap, arith}
use Rattle.std.specs.Prelude.{◌||◌, nat_lt, nat_le, sum}
use Rattle.std.proofs.lemmas.Bool.{leb-false, or_parts}
use Rattle.std.proofs.lemmas.List.{length-map}
use Rattle.mv_ir.specs.declared.tree.Tree.{Tree}
use Rattle.mv_ir.specs.declared.stm.Array.TheVariants as array
use Rattle.mv_ir.specs.declared.stm.Stm.{Stm}
use Rattle.mv_ast.specs.declared.program.Expr.{Expr}
use Rattle.mv_ast.specs.Counts.{expr_nodes, words_of_size}
use Rattle.mv_lower_spec.specs.Lowered.{number}
use Rattle.mv_lower_spec.specs.Lower.{lower_expr}
use Rattle.mv_source_forms.specs.Names.{is_scalar}
use Rattle.mv_lower_spec.specs.Statements.{Jumps, store_word, clear_words, store_zeros, store_values, values_top, lower_clear}
use Rattle.mv_lower_spec.proofs.OfShape.Asked.{Globals, is_within, all_exprs_within}
use Rattle.mv_lower_spec.proofs.OfShape.Rules.{Rules}
use Rattle.mv_lower_spec.proofs.OfShape.Plain.{plain_set, plain_write, plain_zero, covers_number, covers_none, covers_before, dropped}
use Rattle.mv_lower_spec.proofs.OfShape.Paid.{paid, stmt_paid, paying}
use Rattle.mv_lower_spec.proofs.OfShape.Expressions.{allowed, local_used, expr_paid}
use Rattle.mv_num.proofs.Booleans.{and_cases}
use Rattle.mv_num.proofs.Lists.{sum_cons}

module _ (globals : Globals) (locals : ℕ) (sizes : ℕ → Option ℕ) (room : ℕ) (direct : ℕ → ℕ) (through : ℕ) (declared : ℕ → Bool)
    (B : ℕ → ℕ → ℕ → ℕ → List Tree → List Stm → List Tree → Type 0) (r : Rules (allowed globals locals sizes room direct through declared) B) where
  open paying locals direct through B use {weight, ValuePaid, CodePaid, StmtPaid}

  pub value : (e : Expr) → is_within globals locals sizes declared e ≡ true → (lower_expr globals.pointers e locals).top ≤ room → ValuePaid (expr_nodes e) (weight e) (lower_expr globals.pointers e)
  value e b top =
      let p = expr_paid globals locals sizes room direct through declared B r e b in
      record { units = p.units; words = p.words; nodes = p.nodes; made = p.gives locals (omega arith) top; few_units = p.few_units; few_nodes = p.few_nodes; few_words = p.few_words }

  module _ (l : ℕ) (is_local : nat_lt l locals ≡ true) (size : Option ℕ) (is_size : sizes l ≡ size) where
    word_paid : (i : ℕ) (v : Tree) → B 1 8 1 0 (v ∷ []) (store_word size l i v ∷ []) []
    word_paid i v = by size is_size
      where
        by : (z : Option ℕ) → sizes l ≡ z → B 1 8 1 0 (v ∷ []) (store_word z l i v ∷ []) []
        by None e = r.weaken (omega arith) (omega arith) (omega arith) refl (dropped r (r.does (plain_set _ l v (local_used locals sizes room l is_local (ap is_scalar e)))))
        by (Some n) e = r.chain (r.retree (covers_before [] (number i ∷ []) (v ∷ []) 1 (covers_number i))) (r.does (plain_write _ (array.Local l) (number i) v is_local))

    clear_paid : B 1 7 2 0 [] (clear_words size l ∷ []) []
    clear_paid = by size is_size
      where
        by : (z : Option ℕ) → sizes l ≡ z → B 1 7 2 0 [] (clear_words z l ∷ []) []
        by None e = r.weaken (omega arith) (omega arith) (omega arith) refl (dropped r (r.chain (r.retree (covers_number 0)) (r.does (plain_set _ l (number 0) (local_used locals sizes room l is_local (ap is_scalar e))))))
        by (Some n) e = r.weaken (omega arith) (omega arith) (omega arith) refl (r.does (plain_zero _ l is_local))

    zeros_paid : (i n : ℕ) → B n (8 * n) (2 * n) 0 [] (store_zeros size l i n) []
    zeros_paid i zero = r.retree (covers_none [])
    zeros_paid i (suc n) =
        r.weaken (omega arith) (omega arith) (omega arith) (omega arith) (r.chain (r.retree (covers_number 0)) (r.chain (word_paid i (number 0)) (zeros_paid (suc i) n)))

    stores_paid : (i : ℕ) (es : List Expr) → all_exprs_within globals locals sizes es declared ≡ true → values_top locals (map (lower_expr globals.pointers) es) ≤ room →
        CodePaid (sum (map expr_nodes es)) (sum (map weight es)) (store_values locals size l i (map (lower_expr globals.pointers) es))
    stores_paid i [] b top = paid 0 0 0 (r.retree (covers_none [])) (omega arith) (omega arith) (omega arith)
    stores_paid i (e ∷ es) b top =
        let bs = and_cases (is_within globals locals sizes declared e) (all_exprs_within globals locals sizes es declared) b in
        let p = value e bs.0 (omega (arith, top)) in
        let q = stores_paid (suc i) es bs.1 (omega (arith, top)) in
        let n = sum_cons (expr_nodes e) (map expr_nodes es) in
        let k = sum_cons (weight e) (map weight es) in
        record {
          units = p.units + (1 + q.units);
          words = p.words + (8 + q.words);
          nodes = p.nodes + (1 + q.nodes);
          made = r.weaken (omega arith) (omega arith) (omega arith) (omega (arith, k)) (r.chain p.made (r.chain (word_paid i (lower_expr globals.pointers e locals).tree) q.made));
          few_units = omega (arith, p.few_units, q.few_units, n);
          few_nodes = omega (arith, p.few_nodes, q.few_nodes, n);
          few_words = omega (arith, p.few_words, q.few_words, n);
        }

    -- where zeros are stored one by one, they are fewer than the values
    pub cleared : (itself : Bool) (es : List Expr) (j : Jumps) → all_exprs_within globals locals sizes es declared ≡ true → values_top locals (map (lower_expr globals.pointers) es) ≤ room →
        StmtPaid (1 + length es + sum (map expr_nodes es)) (sum (map weight es)) (lower_clear locals size l itself (map (lower_expr globals.pointers) es) j).code
    cleared itself es j b top = by (itself || nat_le (8 * words_of_size size) (92 * (words_of_size size - length (map (lower_expr globals.pointers) es)))) refl
      where
        by : (z : Bool) → (itself || nat_le (8 * words_of_size size) (92 * (words_of_size size - length (map (lower_expr globals.pointers) es)))) ≡ z →
            StmtPaid (1 + length es + sum (map expr_nodes es)) (sum (map weight es))
            (cond z (clear_words size l ∷ store_values locals size l 0 (map (lower_expr globals.pointers) es))
            (store_values locals size l 0 (map (lower_expr globals.pointers) es) ++ store_zeros size l (length (map (lower_expr globals.pointers) es)) (words_of_size size - length (map (lower_expr globals.pointers) es))))
        by true e =
            let p = stores_paid 0 es b top in
            stmt_paid (1 + p.units) (7 + p.words) (2 + p.nodes)
            (r.weaken (omega arith) (omega arith) (omega arith) (omega arith) (r.chain clear_paid p.made)) (omega (arith, p.few_units))
            (omega (arith, p.few_nodes)) (omega (arith, p.few_words))
        by false e =
            let p = stores_paid 0 es b top in
            let words = words_of_size size in
            let long = length-map es (lower_expr globals.pointers) in
            let d = words - length (map (lower_expr globals.pointers) es) in
            let few = leb-false (8 * words) (92 * d) (or_parts itself (nat_le (8 * words) (92 * d)) e).1 in
            stmt_paid (p.units + d) (p.words + 8 * d) (p.nodes + 2 * d) (r.weaken (omega arith) (omega arith) (omega arith) (omega arith) (r.chain p.made (zeros_paid (length (map (lower_expr globals.pointers) es)) d)))
            (omega (arith, p.few_units, few, long)) (omega (arith, p.few_nodes, few, long)) (omega (arith, p.few_words, few, long))
