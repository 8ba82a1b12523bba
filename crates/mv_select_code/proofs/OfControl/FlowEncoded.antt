-- The code of statements has encodings and few words, by induction over the statements.
use Rattle.std.proofs.Common.{◌≡◌, ℕ, ◌+◌, ◌*◌, ◌<◌, ◌≤◌, Bool, true, false, cond, eqb, ltb, ◌&&◌, Option, Some, None, IfSome, List, [], ◌∷◌, ◌++◌, inl, map, sym, ap, subst, arith}
use Rattle.std.proofs.lemmas.Bool.{ltb-true}
use Rattle.std.proofs.lemmas.List.Elements.{All-cons, All-nil}
use Rattle.mv_isa.specs.declared.labelled.Line.{Line}
use Rattle.mv_isa.specs.declared.labelled.Line.TheVariants.{Label, Jump, Branch}
use Rattle.mv_isa.specs.Code.{LineFits}
use Rattle.mv_ir.specs.declared.tree.Tree.{Tree}
use Rattle.mv_ir.specs.declared.stm.Stm.{Stm}
use Rattle.mv_ir.specs.declared.stm.Stm.TheOpen.{Stm-F}
use Rattle.mv_ir.specs.declared.stm.Stm.TheOpen as stm
use Rattle.mv_ir.specs.declared.stm.Stm.TheViews.{roll-Stm}
use Rattle.mv_ir.specs.declared.stm.Stm.TheFolds.{fold-roll-Stm, map-Stm}
use Rattle.mv_ir.specs.declared.stm.Array.{Array}
use Rattle.mv_ir.specs.declared.stm.Array.TheVariants as array
use Rattle.mv_ir.specs.Trees.{nodes as nodes_of, nodes_of_all}
use Rattle.mv_ir.specs.Measures.{total, joined, layer_trees, stm_trees}
use Rattle.mv_ir.proofs.Induction.{Each, StmChildren, stm_ind, stms_ind}
use Rattle.mv_ir.proofs.Rolls.{trees_roll}
use Rattle.mv_select_code.specs.Trees.TreeCode.{branch_lines}
use Rattle.mv_select_code.specs.Statements.StatementCode.{first, second, bounds_lines, clear_lines, result_lines, home_within}
use Rattle.mv_select_code.specs.Statements.Encoded.{IsCode, IsSmall, AreEncoded}
use Rattle.mv_select_code.specs.Trees.View.{AreSeats}
use Rattle.mv_select_code.proofs.OfTrees.KeepingSeats.{keeping_seats}
use Rattle.mv_select_code.proofs.OfStatements.EncodedCode.{statements_are_encoded, both as join, jump}
use Rattle.mv_select_code.specs.declared.control.enclosing.Enclosing.{Enclosing}
use Rattle.mv_select_code.specs.declared.control.enclosing.Leading.{Leading}
use Rattle.mv_select_code.specs.declared.control.enclosing.Leading.TheVariants as lead
use Rattle.mv_select_code.specs.declared.control.enclosing.Way.{Way}
use Rattle.mv_select_code.specs.Control.FlowCode.{Plan, Tested, Emitted, fall_to, jump_to, go_to, go_on, jumps, leads_to, if_leads, in_turn, enclosing_at, zero_lines, loop_at, block_at, straight_loop, turned_loop, loop_by, home, size, tests, code_layer, statement_code, loop_of, may_read, may_write, fine_layer}
use Rattle.mv_select_code.specs.Control.Layouts.{plan_in, any_global, any_known, is_small, is_small_statement}
use Rattle.mv_select_code.specs.Control.Encoded.{words_layer, stm_words, CallsAreEncoded, FlowIsEncoded}
use Rattle.mv_select_code.proofs.OfControl.ArraysWithin.{plan_within}
use Rattle.mv_select_code.proofs.OfControl.Small.{small_tree}
use Rattle.mv_select_code.proofs.OfControl.Equations.{code_roll, fine_roll, if_stays, loop_stays}
use Rattle.mv_num.proofs.Booleans.{and_right, and_left}
use Rattle.mv_ir.proofs.Joining.{nodes_append}
use Rattle.mv_ir.specs.WellFormed.{all_true}

pub words_roll : (x : Stm-F Stm) → stm_words (roll-Stm x) ≡ words_layer (map-Stm Stm ℕ stm_words x)
unfolding stm_words
words_roll x = fold-roll-Stm ℕ words_layer x

-- ---- parts put together

wider : (n k : ℕ) (ls : List Line) → IsCode n ls → n ≤ k → IsCode k ls
wider n k ls h le = (h.0, omega (arith, le, h.1))

none : IsCode 0 []
none = (All-nil LineFits, omega arith)

label_line : (l : ℕ) → IsCode 0 (Label l ∷ [])
label_line l = (All-cons LineFits (Label l) [] tt (All-nil LineFits), omega arith)

zero_code : (l at n : ℕ) → IsCode 2 (bounds_lines at n) → IsCode 2 clear_lines → IsCode 7 (zero_lines l at n)
zero_code l at n h g =
    let go = Jump 0 (l + 1) ∷ Label l ∷ [] in
    let next = Label (l + 1) ∷ [] in
    let test = Branch 1 first second l ∷ [] in
    join 2 5 (bounds_lines at n) (go ++ (clear_lines ++ (next ++ test))) h
    (join 1 4 go (clear_lines ++ (next ++ test)) (join 1 0 (Jump 0 (l + 1) ∷ []) (Label l ∷ []) (jump (l + 1)) (label_line l))
    (join 2 2 clear_lines (next ++ test) g
    (join 0 2 next test (label_line (l + 1)) (All-cons LineFits (Branch 1 first second l) [] (inl (omega arith), omega arith, omega arith) (All-nil LineFits), omega arith))))

-- where control goes behind code
go_to_code : (way : Way) (l : ℕ) → IsCode 1 (go_to way l)
go_to_code way l = by (way.falls && eqb way.after l)
  where
    by : (b : Bool) → IsCode 1 (cond b [] (Jump 0 l ∷ []))
    by true = wider 0 1 [] none (omega arith)
    by false = jump l

go_on_code : (way : Way) → IsCode (jumps way) (go_on way)
go_on_code way = by way.falls
  where
    by : (b : Bool) → IsCode (cond b 0 1) (cond b [] (Jump 0 way.after ∷ []))
    by true = none
    by false = jump way.after

-- lines, and on
on : (n k : ℕ) (way : Way) (ls : List Line) → IsCode n ls → n ≤ k → IsCode (k + jumps way) (ls ++ go_on way)
on n k way ls h le = wider (n + jumps way) (k + jumps way) (ls ++ go_on way) (join n (jumps way) ls (go_on way) h (go_on_code way)) (omega (arith, le))

module _ (plan : Plan) (seats : AreSeats plan.seats) (within : (a : ℕ) → plan.array_at a + 4 * plan.array_size a ≤ 2032) (calls : CallsAreEncoded plan.calls) where
  parts : AreEncoded plan.seats
  parts = statements_are_encoded plan.seats seats

  home_fits : (a : Array) → home_within (home plan a) (size plan a) 2032
  home_fits (array.Global g) = tt
  home_fits (array.Local a) = within a
  home_fits (array.SureGlobal g n) = tt
  home_fits (array.SureLocal a n) = within a

  abbrev bound : (trees : List Tree) (own : ℕ) → ℕ
  bound trees own = 2 * nodes_of_all trees + own

  -- some code is so wherever it stands, if a test says so
  abbrev Holds : Bool → ℕ → Emitted → Type 0
  Holds small n code = small ≡ true → (around : List Enclosing) (label : ℕ) (way : Way) → IsCode (n + jumps way) (code.lines around label way)

  -- likewise what a test leads to, with the test and three words more
  abbrev TestedHolds : Bool → ℕ → Tested → Type 0
  TestedHolds small n a =
      small ≡ true → IsSmall a.test × (k : ℕ) × (2 * nodes_of a.test + (3 + k) ≤ n) × ((around : List Enclosing) (label : ℕ) (way : Way) → IsCode (k + jumps way) (a.lines around label way))

  abbrev BothHold : Bool → ℕ → Emitted → Type 0
  BothHold small n code = Holds small n code × IfSome code.stays (TestedHolds small n)

  abbrev StmHolds : Stm → Type 0
  StmHolds s = BothHold (is_small_statement s) (bound (stm_trees s) (stm_words s)) (statement_code plan s)

  abbrev small_layer : Stm-F Stm → Bool
  small_layer x = fine_layer is_small any_known 507 any_global (map-Stm Stm Bool is_small_statement x)

  abbrev bound_layer : Stm-F Stm → ℕ
  bound_layer x = bound (layer_trees (map-Stm Stm (List Tree) stm_trees x)) (words_layer (map-Stm Stm ℕ stm_words x))

  abbrev LayerHolds : Stm-F Stm → Type 0
  LayerHolds x = Holds (small_layer x) (bound_layer x) (code_layer plan (map-Stm Stm Emitted (statement_code plan) x))

  from_layer : (x : Stm-F Stm) → BothHold (small_layer x) (bound_layer x) (code_layer plan (map-Stm Stm Emitted (statement_code plan) x)) → StmHolds (roll-Stm x)
  from_layer x h =
      let nodes = ap nodes_of_all (trees_roll x) in
      let own = words_roll x in
      let most : bound_layer x ≡ bound (stm_trees (roll-Stm x)) (stm_words (roll-Stm x)) = omega (arith, nodes, own) in
      subst (BothHold (is_small_statement (roll-Stm x)) (bound (stm_trees (roll-Stm x)) (stm_words (roll-Stm x)))) (sym (code_roll plan x))
      (subst (λ b. BothHold b (bound (stm_trees (roll-Stm x)) (stm_words (roll-Stm x))) (code_layer plan (map-Stm Stm Emitted (statement_code plan) x))) (sym (fine_roll is_small any_known 507 any_global x))
      (subst (λ n. BothHold (small_layer x) n (code_layer plan (map-Stm Stm Emitted (statement_code plan) x))) most h))

  -- a statement before others
  before_holds : (s : Stm) (code : List Stm) → is_small_statement s ≡ true → Holds (is_small_statement s) (bound (stm_trees s) (stm_words s)) (statement_code plan s)
      → ((around : List Enclosing) (label : ℕ) (way : Way)
      → IsCode (bound (joined (map stm_trees code)) (total (map stm_words code)) + jumps way) ((in_turn (map (statement_code plan) code)).lines around label way))
      → (around : List Enclosing) (label : ℕ) (way : Way)
      → IsCode (bound (joined (map stm_trees (s ∷ code))) (total (map stm_words (s ∷ code))) + jumps way) ((in_turn (map (statement_code plan) (s ∷ code))).lines around label way)
  before_holds s [] small here others around label way =
      let n = bound (stm_trees s) (stm_words s) in
      let m = bound (joined (map stm_trees (s ∷ []))) (total (map stm_words (s ∷ []))) in
      wider (n + jumps way) (m + jumps way) ((statement_code plan s).lines around label way) (here small around label way) (omega (arith, nodes_append (stm_trees s) []))
  before_holds s (t ∷ code) small here others around label way =
      let a = statement_code plan s in
      let b = in_turn (map (statement_code plan) (t ∷ code)) in
      let n = bound (stm_trees s) (stm_words s) in
      let k = bound (joined (map stm_trees (t ∷ code))) (total (map stm_words (t ∷ code))) in
      let m = bound (joined (map stm_trees (s ∷ t ∷ code))) (total (map stm_words (s ∷ t ∷ code))) in
      let ls = a.lines around (label + 1) (fall_to label) in
      let ls' = b.lines around (label + 1 + a.labels) way in
      wider (n + 0 + (0 + (k + jumps way))) (m + jumps way) (ls ++ (Label label ∷ ls'))
      (join (n + 0) (0 + (k + jumps way)) ls (Label label ∷ ls') (here small around (label + 1) (fall_to label))
      (join 0 (k + jumps way) (Label label ∷ []) ls' (label_line label) (others around (label + 1 + a.labels) way)))
      (omega (arith, nodes_append (stm_trees s) (joined (map stm_trees (t ∷ code)))))

  -- statements in order
  pub in_order_holds : (code : List Stm) → Each StmHolds code
      → Holds (all_true (map is_small_statement code)) (bound (joined (map stm_trees code)) (total (map stm_words code))) (in_turn (map (statement_code plan) code))
  in_order_holds [] h = λ small around label way. wider (jumps way) (bound [] 0 + jumps way) (go_on way) (go_on_code way) (omega arith)
  in_order_holds (s ∷ code) h = λ small.
      before_holds s code (and_left (is_small_statement s) (all_true (map is_small_statement code)) small) h.0.0 (in_order_holds code h.1 (and_right (is_small_statement s) (all_true (map is_small_statement code)) small))

  below : (t : ℕ) (b : Bool) → (ltb t 507 && b) ≡ true → t < 507
  below t b e = ltb-true t 507 (and_left (ltb t 507) b e)

  tree : (t : ℕ) (v : Tree) → (ltb t 507 && is_small v) ≡ true → IsSmall v
  tree t v e = small_tree v (and_right (ltb t 507) (is_small v) e)

  -- a branch, whose lists have so many words
  if_holds : (t : Tree) → IsSmall t → (x y : Option Leading) (a b : Emitted) (n k : ℕ) → ((around : List Enclosing) (label : ℕ) (way : Way) → IsCode (n + jumps way) (a.lines around label way))
      → ((around : List Enclosing) (label : ℕ) (way : Way) → IsCode (k + jumps way) (b.lines around label way)) → (around : List Enclosing) (label : ℕ) (way : Way)
      → IsCode (2 * nodes_of t + (3 + (n + k)) + jumps way) ((if_leads plan.seats plan.end t x y a b).lines around label way)
  if_holds t small x y a b n k h g around label way = go x y
    where
      most : ℕ
      most = 2 * nodes_of t + (3 + (n + k)) + jumps way

      to_first : (l : Leading) → IsCode most (branch_lines plan.seats t true first (leads_to plan.end around way l) ++ b.lines around label way)
      to_first l =
          let to = leads_to plan.end around way l in
          wider (2 * nodes_of t + 2 + (k + jumps way)) most (branch_lines plan.seats t true first to ++ b.lines around label way)
          (join (2 * nodes_of t + 2) (k + jumps way) (branch_lines plan.seats t true first to) (b.lines around label way) (parts.branch true to t small) (g around label way)) (omega arith)

      to_second : (l : Leading) → IsCode most (branch_lines plan.seats t false first (leads_to plan.end around way l) ++ a.lines around label way)
      to_second l =
          let to = leads_to plan.end around way l in
          wider (2 * nodes_of t + 2 + (n + jumps way)) most (branch_lines plan.seats t false first to ++ a.lines around label way)
          (join (2 * nodes_of t + 2) (n + jumps way) (branch_lines plan.seats t false first to) (a.lines around label way) (parts.branch false to t small) (h around label way)) (omega arith)

      go : (x y : Option Leading) → IsCode most ((if_leads plan.seats plan.end t x y a b).lines around label way)
      go None None =
          let ls = a.lines around (label + 1) (jump_to way.after) in
          let ls' = b.lines around (label + 1 + a.labels) way in
          wider (2 * nodes_of t + 2 + (n + 1 + (0 + (k + jumps way)))) most (branch_lines plan.seats t false first label ++ (ls ++ (Label label ∷ ls')))
          (join (2 * nodes_of t + 2) (n + 1 + (0 + (k + jumps way))) (branch_lines plan.seats t false first label) (ls ++ (Label label ∷ ls')) (parts.branch false label t small)
          (join (n + 1) (0 + (k + jumps way)) ls (Label label ∷ ls') (h around (label + 1) (jump_to way.after))
          (join 0 (k + jumps way) (Label label ∷ []) ls' (label_line label) (g around (label + 1 + a.labels) way)))) (omega arith)
      go (Some l) None = to_first l
      go (Some l) (Some lead.On) = to_first l
      go None (Some l) = to_second l
      go (Some l) (Some (lead.Out m)) = to_second (lead.Out m)
      go (Some l) (Some (lead.Back m)) = to_second (lead.Back m)

  straight_holds : (code : List Stm) → Each StmHolds code
      → Holds (all_true (map is_small_statement code)) (bound (joined (map stm_trees code)) (1 + total (map stm_words code))) (straight_loop (in_turn (map (statement_code plan) code)))
  straight_holds code h small around label way =
      let inner = in_turn (map (statement_code plan) code) in
      let body = inner.lines (loop_at label way ∷ around) (label + 1) (jump_to label) in
      let n = bound (joined (map stm_trees code)) (total (map stm_words code)) in
      wider (0 + (n + 1)) _ (Label label ∷ body) (join 0 (n + 1) (Label label ∷ []) body (label_line label) (in_order_holds code h small (loop_at label way ∷ around) (label + 1) (jump_to label))) (omega arith)

  -- a loop whose test stands at its end
  turned_holds : (a : Tested) (rest : Emitted) (k n : ℕ) → IsSmall a.test → ((around : List Enclosing) (label : ℕ) (way : Way) → IsCode (k + jumps way) (a.lines around label way))
      → ((around : List Enclosing) (label : ℕ) (way : Way) → IsCode (n + jumps way) (rest.lines around label way)) → (around : List Enclosing) (label : ℕ) (way : Way)
      → IsCode (2 * nodes_of a.test + (3 + k) + n + jumps way) ((turned_loop plan.seats a rest).lines around label way)
  turned_holds a rest k n small h g around label way =
      let inside = loop_at (label + 1) way ∷ around in
      let w = 2 * nodes_of a.test + 2 in
      let ls = a.lines inside (label + 3) (fall_to (label + 2)) in
      let ls' = rest.lines inside (label + 3 + a.labels) (fall_to (label + 1)) in
      let branch = branch_lines plan.seats a.test a.sense first label in
      let test = Label (label + 1) ∷ (branch ++ go_on way) in
      let behind = ls ++ (Label (label + 2) ∷ (ls' ++ test)) in
      wider (1 + (0 + (k + 0 + (0 + (n + 0 + (0 + (w + jumps way))))))) _ (Jump 0 (label + 1) ∷ Label label ∷ behind)
      (join 1 (0 + (k + 0 + (0 + (n + 0 + (0 + (w + jumps way)))))) (Jump 0 (label + 1) ∷ []) (Label label ∷ behind) (jump (label + 1))
      (join 0 (k + 0 + (0 + (n + 0 + (0 + (w + jumps way))))) (Label label ∷ []) behind (label_line label)
      (join (k + 0) (0 + (n + 0 + (0 + (w + jumps way)))) ls (Label (label + 2) ∷ (ls' ++ test)) (h inside (label + 3) (fall_to (label + 2)))
      (join 0 (n + 0 + (0 + (w + jumps way))) (Label (label + 2) ∷ []) (ls' ++ test) (label_line (label + 2))
      (join (n + 0) (0 + (w + jumps way)) ls' test (g inside (label + 3 + a.labels) (fall_to (label + 1)))
      (join 0 (w + jumps way) (Label (label + 1) ∷ []) (branch ++ go_on way) (label_line (label + 1))
      (join w (jumps way) branch (go_on way) (parts.branch a.sense label a.test small) (go_on_code way))))))))
      (omega arith)

  loop_holds : (code : List Stm) → Each StmHolds code → Holds (all_true (map is_small_statement code)) (bound (joined (map stm_trees code)) (1 + total (map stm_words code))) (loop_of plan code)
  loop_holds [] h = straight_holds [] h
  loop_holds (s ∷ code) h = by (statement_code plan s).stays h.0.1
    where
      by : (x : Option Tested) → IfSome x (TestedHolds (is_small_statement s) (bound (stm_trees s) (stm_words s)))
          → Holds (all_true (map is_small_statement (s ∷ code))) (bound (joined (map stm_trees (s ∷ code))) (1 + total (map stm_words (s ∷ code)))) (loop_by plan.seats x (statement_code plan s) (map (statement_code plan) code))
      by None stays = straight_holds (s ∷ code) h
      by (Some a) stays = λ small around label way.
          let t = stays (and_left (is_small_statement s) (all_true (map is_small_statement code)) small) in
          let n = bound (joined (map stm_trees code)) (total (map stm_words code)) in
          let rest = in_turn (map (statement_code plan) code) in
          wider (2 * nodes_of a.test + (3 + t.1) + n + jumps way) _ ((turned_loop plan.seats a rest).lines around label way)
          (turned_holds a rest t.1 n t.0 t.3 (in_order_holds code h.1 (and_right (is_small_statement s) (all_true (map is_small_statement code)) small)) around label way)
          (omega (arith, t.2, nodes_append (stm_trees s) (joined (map stm_trees code))))

  layer : (x : Stm-F Stm) → StmChildren StmHolds x → LayerHolds x
  layer (stm.Set t v) h small around label way = on _ _ way _ (parts.set t v (below t (is_small v) small) (tree t v small)) (omega arith)
  layer (stm.SetGlobal g v) h small around label way = on _ _ way _ (parts.set_global g v (small_tree v small)) (omega arith)
  layer (stm.Divide t o a b) h small around label way =
      let both = and_right (ltb t 507) (is_small a && is_small b) small in
      on _ _ way _ (parts.divide t o a b (below t (is_small a && is_small b) small) (small_tree a (and_left (is_small a) (is_small b) both)) (small_tree b (and_right (is_small a) (is_small b) both))) (omega arith)
  layer (stm.Check a i) h small around label way = on _ _ way _ (parts.check (size plan a) (tests plan a) i (small_tree i small)) (omega arith)
  layer (stm.Read t a i) h small around label way =
      let may = may_read is_small any_known 507 any_global a in
      let tree_too = and_right (ltb t 507) (may && is_small i) small in
      on _ _ way _ (parts.read t (size plan a) (home plan a) (tests plan a) i (below t (may && is_small i) small) (home_fits a) (small_tree i (and_right may (is_small i) tree_too))) (omega arith)
  layer (stm.Write a i v) h small around label way =
      let both = and_right (may_write is_small any_known 507 any_global a) (is_small i && is_small v) small in
      on _ _ way _ (parts.write (size plan a) (home plan a) (tests plan a) i v (home_fits a) (small_tree i (and_left (is_small i) (is_small v) both)) (small_tree v (and_right (is_small i) (is_small v) both))) (omega arith)
  layer (stm.Zero a) h small around label way =
      let at = plan.array_at a in
      let n = plan.array_size a in
      on 7 _ way (zero_lines label at n) (zero_code label at n (parts.bounds at n (within a)) parts.clear) (omega arith)
  layer (stm.Return v) h small around label way =
      wider (2 * nodes_of v + 1) _ (result_lines plan.seats v ++ go_to way plan.end) (join (2 * nodes_of v) 1 (result_lines plan.seats v) (go_to way plan.end) (parts.result v (small_tree v small)) (go_to_code way plan.end))
      (omega arith)
  layer (stm.Break n) h small around label way = let to = (enclosing_at around n plan.end).end in wider 1 _ (go_to way to) (go_to_code way to) (omega arith)
  layer (stm.Back n) h small around label way = let to = (enclosing_at around n plan.end).start in wider 1 _ (Jump 0 to ∷ []) (jump to) (omega arith)
  layer (stm.Call r f args) h small around label way = on _ _ way _ (calls.call r f args small) (omega arith)
  layer (stm.Known r k args) h small around label way = on _ _ way _ (calls.known r k args small) (omega arith)
  layer (stm.Block b) h small around label way = in_order_holds b h small (block_at way ∷ around) label way
  layer (stm.Loop b) h small around label way = loop_holds b h small around label way
  layer (stm.If t a b) h small around label way =
      let smalls = map is_small_statement in
      let both = and_right (is_small t) (all_true (smalls a) && all_true (smalls b)) small in
      let test = small_tree t (and_left (is_small t) (all_true (smalls a) && all_true (smalls b)) small) in
      let one = in_turn (map (statement_code plan) a) in
      let other = in_turn (map (statement_code plan) b) in
      let n = bound (joined (map stm_trees a)) (total (map stm_words a)) in
      let k = bound (joined (map stm_trees b)) (total (map stm_words b)) in
      wider (2 * nodes_of t + (3 + (n + k)) + jumps way) _ _
      (if_holds t test one.alone other.alone one other n k (in_order_holds a h.0 (and_left (all_true (smalls a)) (all_true (smalls b)) both))
      (in_order_holds b h.1 (and_right (all_true (smalls a)) (all_true (smalls b)) both)) around label way)
      (omega (arith, nodes_append (joined (map stm_trees a)) (joined (map stm_trees b))))

  stays_layer : (x : Stm-F Stm) → StmChildren StmHolds x → IfSome (code_layer plan (map-Stm Stm Emitted (statement_code plan) x)).stays (TestedHolds (small_layer x) (bound_layer x))
  stays_layer (stm.If t a b) h =
      let smalls = map is_small_statement in
      let one = in_turn (map (statement_code plan) a) in
      let other = in_turn (map (statement_code plan) b) in
      let n = bound (joined (map stm_trees a)) (total (map stm_words a)) in
      let k = bound (joined (map stm_trees b)) (total (map stm_words b)) in
      let trees = nodes_append (joined (map stm_trees a)) (joined (map stm_trees b)) in
      if_stays (TestedHolds (small_layer (stm.If t a b)) (bound_layer (stm.If t a b))) plan.seats plan.end t one.alone other.alone one other
      (λ e small.
      let both = and_right (is_small t) (all_true (smalls a) && all_true (smalls b)) small in
      (small_tree t (and_left (is_small t) (all_true (smalls a) && all_true (smalls b)) small), n, omega (arith, trees), in_order_holds a h.0 (and_left (all_true (smalls a)) (all_true (smalls b)) both)))
      (λ e small.
      let both = and_right (is_small t) (all_true (smalls a) && all_true (smalls b)) small in
      (small_tree t (and_left (is_small t) (all_true (smalls a) && all_true (smalls b)) small), k, omega (arith, trees), in_order_holds b h.1 (and_right (all_true (smalls a)) (all_true (smalls b)) both)))
  stays_layer (stm.Loop b) h = loop_stays (TestedHolds (small_layer (stm.Loop b)) (bound_layer (stm.Loop b))) plan.seats (map (statement_code plan) b)
  stays_layer _ h = tt

  pub statement_holds : (s : Stm) → StmHolds s
  statement_holds = stm_ind StmHolds (λ x h. from_layer x (layer x h, stays_layer x h))

pub flow_encoded : FlowIsEncoded
flow_encoded layout within pins lines calls code small around label way =
    let plan = plan_in layout lines in
    let seats = keeping_seats plan.seats.place layout.keeping layout.pins pins in
    let arrays = plan_within layout lines within in
    in_order_holds plan seats arrays calls code (stms_ind (StmHolds plan seats arrays calls) (statement_holds plan seats arrays calls) code) small around label way
