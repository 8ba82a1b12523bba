-- Code is fine whose trees are, since where a temporary is read or written it is marked.
use Rattle.std.proofs.Common.{◌≡◌, ℕ, suc, ◌<◌, ◌≤◌, ◌&&◌, ◌||◌, Bool, true, false, not, eqb, ltb, length, List, [], ◌∷◌, ◌++◌, map, Option, Some, None, refl, sym, ◌∙◌, subst, arith, eq-eqb}
use Rattle.std.proofs.lemmas.Bool.{lt-ltb, or_right, or_left, and_from}
use Rattle.mv_ast.specs.declared.program.Known.{Known}
use Rattle.mv_ir.specs.declared.tree.Tree.{Tree}
use Rattle.mv_ir.specs.declared.tree.Tree.TheOpen.{Tree-F}
use Rattle.mv_ir.specs.declared.tree.Tree.TheOpen as tree
use Rattle.mv_ir.specs.declared.tree.Tree.TheViews.{roll-Tree}
use Rattle.mv_ir.specs.declared.stm.Array.{Array}
use Rattle.mv_ir.specs.declared.stm.Array.TheVariants as array
use Rattle.mv_ir.specs.declared.stm.Callee.{Callee}
use Rattle.mv_ir.specs.declared.stm.Callee.TheVariants as callee
use Rattle.mv_ir.specs.declared.stm.Stm.{Stm}
use Rattle.mv_ir.specs.declared.stm.Stm.TheOpen.{Stm-F}
use Rattle.mv_ir.specs.declared.stm.Stm.TheOpen as stm
use Rattle.mv_ir.specs.declared.stm.Stm.TheViews.{roll-Stm}
use Rattle.mv_ir.specs.declared.stm.Stm.TheFolds.{fold-roll-Stm, map-Stm}
use Rattle.mv_ir.specs.Measures.{joined, callee_trees, layer_trees, stm_trees, array_read, callee_read, layer_arrays, stm_arrays}
use Rattle.mv_ir.specs.Live.{reads_temp, any_reads, is, Around, Flow, with_after, around_block, around_loop, live_in_order, marks_in_order, live_at_loop, layer_flow, flow, mark_at}
use Rattle.mv_ir.specs.WellFormed.{known_arguments, layer_named, stm_named, layer_arguments, stm_arguments, all_true}
use Rattle.mv_ir.proofs.Induction.{Each, TreeChildren, tree_ind, StmChildren, stm_ind, stms_ind}
use Rattle.mv_ir.proofs.Rolls.{reads_temp_roll, trees_roll, named_roll, arrays_roll, arguments_roll, flow_roll}
use Rattle.mv_select_code.specs.Trees.TreeCode.{temps_of}
use Rattle.mv_select_code.proofs.OfTrees.Rolls.{temps_roll}
use Rattle.mv_select_code.specs.Control.FlowCode.{Uses, may_read, may_write, fine_target, fine_callee, fine_known, only_tests, fine_layer, is_fine_statement, are_fine}
use Rattle.mv_select_code.proofs.OfControl.Equations.{fine_roll}
use Rattle.mv_select.specs.Bodies.SelectedBodies.{knowns_layer, stm_knowns, written_layer, stm_written}
use Rattle.mv_select.proofs.OfBodies.Lists.{each_both, true_each, each_weaker}
use Rattle.mv_num.proofs.Booleans.{and_right, and_left}
use Rattle.mv_ir.proofs.Common.{each_first, each_right}

pub knowns_roll : (x : Stm-F Stm) → stm_knowns (roll-Stm x) ≡ knowns_layer (map-Stm Stm (List Known) stm_knowns x)
unfolding stm_knowns
knowns_roll x = fold-roll-Stm (List Known) knowns_layer x

written_roll : (x : Stm-F Stm) → stm_written (roll-Stm x) ≡ written_layer (map-Stm Stm (List ℕ) stm_written x)
unfolding stm_written
written_roll x = fold-roll-Stm (List ℕ) written_layer x

-- ---- temporaries below a limit

module _ (limit : ℕ) where
  -- each that a tree reads is
  abbrev pub ReadsBelow : Tree → Type 0
  ReadsBelow v = (t : ℕ) → reads_temp t v ≡ true → t < limit

  -- one that is marked is
  abbrev pub Low : ℕ → Bool → Type 0
  Low t marked = marked ≡ true → t < limit

  abbrev Target : Option ℕ → Type 0
  Target None = Unit {0}
  Target (Some t) = t < limit

  pub low_marks : (t : ℕ) (xs : List Bool) → ((i : ℕ) → mark_at xs i ≡ true → t < limit) → Each (Low t) xs
  low_marks t [] h = tt
  low_marks t (x ∷ xs) h = (h 0, low_marks t xs (λ i. h (suc i)))

  all_below : (xs : List Tree) → ((t : ℕ) → any_reads t xs ≡ true → t < limit) → Each ReadsBelow xs
  all_below [] h = tt
  all_below (x ∷ xs) h = (λ t e. h t (or_left (reads_temp t x) (any_reads t xs) e), all_below xs (λ t e. h t (or_right (reads_temp t x) (any_reads t xs) e)))

  -- a statement that reads some trees and may write a temporary
  module _ (reads : List Tree) (writes : Option ℕ) (on : ℕ → Bool) (low : (t : ℕ) → Low t ((any_reads t reads || (not (is writes t) && on t)) || is writes t)) where
    trees_below : Each ReadsBelow reads
    trees_below = all_below reads (λ t e.
        let stays = not (is writes t) && on t in
        low t (or_left (any_reads t reads || stays) (is writes t) (or_left (any_reads t reads) stays e)))

    target_below : Target writes
    target_below = by writes (λ t e. low t (or_right (any_reads t reads || (not (is writes t) && on t)) (is writes t) e))
      where
        by : (w : Option ℕ) → ((t : ℕ) → is w t ≡ true → t < limit) → Target w
        by None h = tt
        by (Some u) h = h u (eq-eqb u u refl)

  -- ---- trees

  temps_layer_below : (x : Tree-F Tree) → TreeChildren (λ v. ReadsBelow v → temps_of v ≤ limit) x → ReadsBelow (roll-Tree x) → temps_of (roll-Tree x) ≤ limit
  temps_layer_below (tree.Number n) h r = omega (arith, temps_roll (tree.Number n))
  temps_layer_below (tree.Temp t) h r =
      let low = r t (reads_temp_roll t (tree.Temp t) ∙ eq-eqb t t refl) in
      omega (arith, temps_roll (tree.Temp t), low)
  temps_layer_below (tree.Global g) h r = omega (arith, temps_roll (tree.Global g))
  temps_layer_below (tree.Function f) h r = omega (arith, temps_roll (tree.Function f))
  temps_layer_below (tree.Unary o a) h r =
      let below = h (λ t e. r t (reads_temp_roll t (tree.Unary o a) ∙ e)) in
      omega (arith, temps_roll (tree.Unary o a), below)
  temps_layer_below (tree.Binary o a b) h r =
      let left = h.0 (λ t e. r t (reads_temp_roll t (tree.Binary o a b) ∙ or_left (reads_temp t a) (reads_temp t b) e)) in
      let right = h.1 (λ t e. r t (reads_temp_roll t (tree.Binary o a b) ∙ or_right (reads_temp t a) (reads_temp t b) e)) in
      omega (arith, temps_roll (tree.Binary o a b), left, right)
  temps_layer_below (tree.Narrow k a) h r =
      let below = h (λ t e. r t (reads_temp_roll t (tree.Narrow k a) ∙ e)) in
      omega (arith, temps_roll (tree.Narrow k a), below)

  pub temps_below : (v : Tree) → ReadsBelow v → temps_of v ≤ limit
  temps_below = tree_ind (λ v. ReadsBelow v → temps_of v ≤ limit) temps_layer_below

-- ---- statements

module _ (is_fine : Tree → Bool) (may_ask : Known → Bool) (limit : ℕ) (uses : Uses) where
  -- an array has a word, where it is a global
  abbrev pub IsScalar : Array → Type 0
  IsScalar (array.Global g) = uses.has_word g ≡ true
  IsScalar (array.Local l) = Unit {0}
  IsScalar (array.SureGlobal g n) = uses.has_word g ≡ true
  IsScalar (array.SureLocal l n) = Unit {0}

  abbrev pub IsAsked : Known → Type 0
  IsAsked k = fine_known is_fine may_ask limit uses k ≡ true

module _ (is_fine : Tree → Bool) (may_ask : Known → Bool) (limit : ℕ) (uses : Uses) (P : Tree → Type 0)
    (tree_fine : (v : Tree) → P v → ReadsBelow limit v → is_fine v ≡ true) (may_call : uses.may_call ≡ true) where
  abbrev Fine : Stm → Bool
  Fine = is_fine_statement is_fine may_ask limit uses

  abbrev Scalar : Array → Type 0
  Scalar = IsScalar is_fine may_ask limit uses

  abbrev Asked : Known → Type 0
  Asked = IsAsked is_fine may_ask limit uses

  abbrev IsRead : ℕ → Type 0
  IsRead g = uses.is_read g ≡ true

  abbrev IsWritten : ℕ → Type 0
  IsWritten g = uses.is_written g ≡ true

  -- what is asked of the trees, the names, the calls, and the globals that are read by elements and written, of a statement, and of some code
  record Holds (vs : List Tree) (names : List Array) (calls : List Known) (reads writes : List ℕ) (has_arguments : Bool) : Type 0 where
    trees : Each P vs
    named : Each Scalar names
    knowns : Each Asked calls
    arrays : Each IsRead reads
    written : Each IsWritten writes
    arguments : has_arguments ≡ true

  abbrev HoldsOf : Stm → Type 0
  HoldsOf s = Holds (stm_trees s) (stm_named s) (stm_knowns s) (stm_arrays s) (stm_written s) (stm_arguments s)

  abbrev HoldsOfAll : List Stm → Type 0
  HoldsOfAll code = Holds (joined (map stm_trees code)) (joined (map stm_named code)) (joined (map stm_knowns code)) (joined (map stm_arrays code)) (joined (map stm_written code)) (all_true (map stm_arguments code))

  abbrev Marked : Stm → (ℕ → Around) → Type 0
  Marked s r = (t : ℕ) → Each (Low limit t) ((flow t s).marks (r t))

  abbrev AllMarked : List Stm → (ℕ → Around) → Type 0
  AllMarked code r = (t : ℕ) → Each (Low limit t) (marks_in_order (map (flow t) code) (r t))

  abbrev IsFineStm : Stm → Type 0
  IsFineStm s = (r : ℕ → Around) → HoldsOf s → Marked s r → Fine s ≡ true

  holds_first : (s : Stm) (code : List Stm) → HoldsOfAll (s ∷ code) → HoldsOf s
  holds_first s code h = record {
    trees = each_first P (stm_trees s) (joined (map stm_trees code)) h.trees;
    named = each_first Scalar (stm_named s) (joined (map stm_named code)) h.named;
    knowns = each_first Asked (stm_knowns s) (joined (map stm_knowns code)) h.knowns;
    arrays = each_first IsRead (stm_arrays s) (joined (map stm_arrays code)) h.arrays;
    written = each_first IsWritten (stm_written s) (joined (map stm_written code)) h.written;
    arguments = and_left (stm_arguments s) (all_true (map stm_arguments code)) h.arguments;
  }

  holds_rest : (s : Stm) (code : List Stm) → HoldsOfAll (s ∷ code) → HoldsOfAll code
  holds_rest s code h = record {
    trees = each_right P (stm_trees s) (joined (map stm_trees code)) h.trees;
    named = each_right Scalar (stm_named s) (joined (map stm_named code)) h.named;
    knowns = each_right Asked (stm_knowns s) (joined (map stm_knowns code)) h.knowns;
    arrays = each_right IsRead (stm_arrays s) (joined (map stm_arrays code)) h.arrays;
    written = each_right IsWritten (stm_written s) (joined (map stm_written code)) h.written;
    arguments = and_right (stm_arguments s) (all_true (map stm_arguments code)) h.arguments;
  }

  code_fine : (code : List Stm) → Each IsFineStm code → (r : ℕ → Around) → HoldsOfAll code → AllMarked code r → are_fine is_fine may_ask limit uses code ≡ true
  code_fine [] f r h m = refl
  code_fine (s ∷ code) f r h m =
      let behind = λ (t : ℕ). with_after (r t) (live_in_order (map (flow t) code) (r t)) in
      let here : Fine s ≡ true = f.0 behind (holds_first s code h) (λ t. each_first (Low limit t) ((flow t s).marks (behind t)) (marks_in_order (map (flow t) code) (r t)) (m t)) in
      let others = code_fine code f.1 r (holds_rest s code h) (λ t. each_right (Low limit t) ((flow t s).marks (behind t)) (marks_in_order (map (flow t) code) (r t)) (m t)) in
      and_from (Fine s) (all_true (map Fine code)) here others

  fine_trees : (vs : List Tree) → Each P vs → Each (ReadsBelow limit) vs → all_true (map is_fine vs) ≡ true
  fine_trees vs h r =
      true_each is_fine vs (each_weaker (λ v. P v × ReadsBelow limit v) (λ v. is_fine v ≡ true) (λ v k. tree_fine v k.0 k.1) vs (each_both P (ReadsBelow limit) vs h r))

  target_fine : (w : Option ℕ) → Target limit w → fine_target is_fine may_ask limit uses w ≡ true
  target_fine None h = refl
  target_fine (Some t) h = lt-ltb t limit h

  -- ---- a layer at a time

  abbrev LayerHolds : Stm-F Stm → Type 0
  LayerHolds x =
      Holds (layer_trees (map-Stm Stm (List Tree) stm_trees x)) (layer_named (map-Stm Stm (List Array) stm_named x))
      (knowns_layer (map-Stm Stm (List Known) stm_knowns x)) (layer_arrays (map-Stm Stm (List ℕ) stm_arrays x)) (written_layer (map-Stm Stm (List ℕ) stm_written x))
      (layer_arguments (map-Stm Stm Bool stm_arguments x))

  abbrev LayerMarked : Stm-F Stm → (ℕ → Around) → Type 0
  LayerMarked x r = (t : ℕ) → Each (Low limit t) ((layer_flow t (map-Stm Stm Flow (flow t) x)).marks (r t))

  abbrev LayerFine : Stm-F Stm → Type 0
  LayerFine x = (r : ℕ → Around) → LayerHolds x → LayerMarked x r → fine_layer is_fine may_ask limit uses (map-Stm Stm Bool Fine x) ≡ true

  from_layer : (x : Stm-F Stm) → LayerFine x → IsFineStm (roll-Stm x)
  from_layer x f r h m =
      let holds : LayerHolds x = record {
        trees = subst (Each P) (trees_roll x) h.trees;
        named = subst (Each Scalar) (named_roll x) h.named;
        knowns = subst (Each Asked) (knowns_roll x) h.knowns;
        arrays = subst (Each IsRead) (arrays_roll x) h.arrays;
        written = subst (Each IsWritten) (written_roll x) h.written;
        arguments = sym (arguments_roll x) ∙ h.arguments;
      } in
      let marked : LayerMarked x r = λ t. subst (λ (w : Flow). Each (Low limit t) (w.marks (r t))) (flow_roll t x) (m t) in
      fine_roll is_fine may_ask limit uses x ∙ f r holds marked

  -- a statement that reads one tree and may write a temporary
  one_tree : (v : Tree) (w : Option ℕ) (on : ℕ → Bool) → P v → ((t : ℕ) → Low limit t ((any_reads t (v ∷ []) || (not (is w t) && on t)) || is w t)) → is_fine v ≡ true
  one_tree v w on p low = tree_fine v p (trees_below limit (v ∷ []) w on low).0

  two_trees : (a b : Tree) (w : Option ℕ) (on : ℕ → Bool) → P a → P b → ((t : ℕ) → Low limit t ((any_reads t (a ∷ b ∷ []) || (not (is w t) && on t)) || is w t)) → (is_fine a && is_fine b) ≡ true
  two_trees a b w on p q low =
      let below = trees_below limit (a ∷ b ∷ []) w on low in
      and_from (is_fine a) (is_fine b) (tree_fine a p below.0) (tree_fine b q below.1.0)

  branch_fine : (v : Tree) (a b : List Stm) → Each IsFineStm a × Each IsFineStm b → LayerFine (stm.If v a b)
  branch_fine v a b f r h m =
      let in_a = λ (t : ℕ). marks_in_order (map (flow t) a) (r t) in
      let in_b = λ (t : ℕ). marks_in_order (map (flow t) b) (r t) in
      let either = λ (t : ℕ). live_in_order (map (flow t) a) (r t) || live_in_order (map (flow t) b) (r t) in
      let test = tree_fine v h.trees.0 (λ t e. (m t).0 (or_left (reads_temp t v) (either t) e)) in
      let first = code_fine a f.0 r (record {
        trees = each_first P (joined (map stm_trees a)) (joined (map stm_trees b)) h.trees.1;
        named = each_first Scalar (joined (map stm_named a)) (joined (map stm_named b)) h.named;
        knowns = each_first Asked (joined (map stm_knowns a)) (joined (map stm_knowns b)) h.knowns;
        arrays = each_first IsRead (joined (map stm_arrays a)) (joined (map stm_arrays b)) h.arrays;
        written = each_first IsWritten (joined (map stm_written a)) (joined (map stm_written b)) h.written;
        arguments = and_left (all_true (map stm_arguments a)) (all_true (map stm_arguments b)) h.arguments;
      }) (λ t. each_first (Low limit t) (in_a t) (in_b t) (m t).1) in
      let second = code_fine b f.1 r (record {
        trees = each_right P (joined (map stm_trees a)) (joined (map stm_trees b)) h.trees.1;
        named = each_right Scalar (joined (map stm_named a)) (joined (map stm_named b)) h.named;
        knowns = each_right Asked (joined (map stm_knowns a)) (joined (map stm_knowns b)) h.knowns;
        arrays = each_right IsRead (joined (map stm_arrays a)) (joined (map stm_arrays b)) h.arrays;
        written = each_right IsWritten (joined (map stm_written a)) (joined (map stm_written b)) h.written;
        arguments = and_right (all_true (map stm_arguments a)) (all_true (map stm_arguments b)) h.arguments;
      }) (λ t. each_right (Low limit t) (in_a t) (in_b t) (m t).1) in
      and_from (is_fine v) (all_true (map Fine a) && all_true (map Fine b)) test (and_from (all_true (map Fine a)) (all_true (map Fine b)) first second)

  element_read : (a : Array) → Each IsRead (array_read a) → may_read is_fine may_ask limit uses a ≡ true
  element_read (array.Global g) h = h.0
  element_read (array.Local a) h = refl
  element_read (array.SureGlobal g n) h = h.0
  element_read (array.SureLocal a n) h = refl

  element_written : (a : Array) → Each IsWritten (array_read a) → may_write is_fine may_ask limit uses a ≡ true
  element_written (array.Global g) h = h.0
  element_written (array.Local a) h = refl
  element_written (array.SureGlobal g n) h = h.0
  element_written (array.SureLocal a n) h = refl

  callee_fine : (c : Callee) → Each P (callee_trees c) → Each (ReadsBelow limit) (callee_trees c) → Each IsRead (callee_read c) → fine_callee is_fine may_ask limit uses c ≡ true
  callee_fine (callee.Direct f) h r k = refl
  callee_fine (callee.Through t) h r k = tree_fine t h.0 r.0
  callee_fine (callee.Switched g) h r k = k.0
  callee_fine callee.Expanded h r k = refl

  layer : (x : Stm-F Stm) → StmChildren IsFineStm x → LayerFine x
  layer (stm.Set t v) f r h m =
      let on = λ (t : ℕ). (r t).next in
      and_from (ltb t limit) (is_fine v) (lt-ltb t limit (target_below limit (v ∷ []) (Some t) on (λ t. (m t).0))) (one_tree v (Some t) on h.trees.0 (λ t. (m t).0))
  layer (stm.SetGlobal g v) f r h m = and_from (uses.has_word g && uses.is_written g) (is_fine v) (and_from (uses.has_word g) (uses.is_written g) h.named.0 h.written.0) (one_tree v None (λ t. (r t).next) h.trees.0 (λ t. (m t).0))
  layer (stm.Divide t o a b) f r h m =
      let on = λ (t : ℕ). (r t).next in
      and_from (ltb t limit) (is_fine a && is_fine b) (lt-ltb t limit (target_below limit (a ∷ b ∷ []) (Some t) on (λ t. (m t).0)))
      (two_trees a b (Some t) on h.trees.0 h.trees.1.0 (λ t. (m t).0))
  layer (stm.Check a i) f r h m = one_tree i None (λ t. (r t).next) h.trees.0 (λ t. (m t).0)
  layer (stm.Read t a i) f r h m =
      let on = λ (t : ℕ). (r t).next in
      let may = may_read is_fine may_ask limit uses a in
      let tree = one_tree i (Some t) on h.trees.0 (λ t. (m t).0) in
      and_from (ltb t limit) (may && is_fine i) (lt-ltb t limit (target_below limit (i ∷ []) (Some t) on (λ t. (m t).0))) (and_from may (is_fine i) (element_read a h.arrays) tree)
  layer (stm.Write a i v) f r h m =
      and_from (may_write is_fine may_ask limit uses a) (is_fine i && is_fine v) (element_written a h.written) (two_trees i v None (λ t. (r t).next) h.trees.0 h.trees.1.0 (λ t. (m t).0))
  layer (stm.Zero l) f r h m = refl
  layer (stm.If v a b) f r h m = branch_fine v a b f r h m
  layer (stm.Loop b) f r h m =
      code_fine b f (λ t. around_loop (r t) (live_at_loop (map (flow t) b) (r t))) (record { trees = h.trees; named = h.named; knowns = h.knowns; arrays = h.arrays; written = h.written; arguments = h.arguments }) (λ t. (m t).1)
  layer (stm.Block b) f r h m =
      code_fine b f (λ t. around_block (r t)) (record { trees = h.trees; named = h.named; knowns = h.knowns; arrays = h.arrays; written = h.written; arguments = h.arguments }) (λ t. (m t).1)
  layer (stm.Break n) f r h m = refl
  layer (stm.Back n) f r h m = refl
  layer (stm.Call w c args) f r h m =
      let on = λ (t : ℕ). (r t).next in
      let reads = callee_trees c ++ args in
      let below = trees_below limit reads w on (λ t. (m t).0) in
      let of_callee = callee_fine c (each_first P (callee_trees c) args h.trees) (each_first (ReadsBelow limit) (callee_trees c) args below) h.arrays in
      let of_args = fine_trees args (each_right P (callee_trees c) args h.trees) (each_right (ReadsBelow limit) (callee_trees c) args below) in
      let target = target_fine w (target_below limit reads w on (λ t. (m t).0)) in
      let trees = and_from (fine_callee is_fine may_ask limit uses c) (all_true (map is_fine args)) of_callee of_args in
      let callee_and_args = fine_callee is_fine may_ask limit uses c && all_true (map is_fine args) in
      let is_target = fine_target is_fine may_ask limit uses w in
      and_from (uses.may_call || only_tests c args) (ltb (length args) 9 && (is_target && callee_and_args)) (or_left uses.may_call (only_tests c args) may_call)
      (and_from (ltb (length args) 9) (is_target && callee_and_args) h.arguments (and_from is_target callee_and_args target trees))
  layer (stm.Known w k args) f r h m =
      let on = λ (t : ℕ). (r t).next in
      let below = trees_below limit args w on (λ t. (m t).0) in
      let target = target_fine w (target_below limit args w on (λ t. (m t).0)) in
      let trees = fine_trees args h.trees below in
      let are_args = all_true (map is_fine args) in
      let is_target = fine_target is_fine may_ask limit uses w in
      let is_known = fine_known is_fine may_ask limit uses k in
      and_from (eqb (length args) (known_arguments k)) (is_known && (is_target && are_args)) h.arguments
      (and_from is_known (is_target && are_args) h.knowns.0 (and_from is_target are_args target trees))
  layer (stm.Return v) f r h m = one_tree v None (λ t. false) h.trees.0 (λ t. (m t).0)

  -- Code is fine if its trees, its names, the known functions that it calls and the globals that it reads and writes are what is asked, and each temporary that is marked is below the limit.
  pub all_fine : (code : List Stm) → Each P (joined (map stm_trees code)) → Each Scalar (joined (map stm_named code)) → Each Asked (joined (map stm_knowns code)) →
      Each IsRead (joined (map stm_arrays code)) → Each IsWritten (joined (map stm_written code)) →
      all_true (map stm_arguments code) ≡ true → (r : ℕ → Around) → ((t : ℕ) → Each (Low limit t) (marks_in_order (map (flow t) code) (r t))) →
      are_fine is_fine may_ask limit uses code ≡ true
  all_fine code trees named knowns arrays written arguments r marked =
      code_fine code (stms_ind IsFineStm (stm_ind IsFineStm (λ x f. from_layer x (layer x f))) code) r
      (record { trees = trees; named = named; knowns = knowns; arrays = arrays; written = written; arguments = arguments }) marked
