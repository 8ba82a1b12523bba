-- What holds of single lines and of lines that are put together holds of the code of statements, by induction over the statements.
use Rattle.std.proofs.Common.{ℕ, zero, suc, ◌+◌, ◌<◌, ◌≤◌, List, [], ◌∷◌, ◌++◌, Bool, true, false, Option, Some, None, IfSome, All, map, sym, subst, arith}
use Rattle.std.proofs.lemmas.List.Elements.{All-cons, All-head, All-tail, All-weaker}
use Rattle.mv_ast.specs.declared.program.Known.{Known}
use Rattle.mv_isa.specs.declared.labelled.Line.{Line}
use Rattle.mv_isa.specs.declared.labelled.Line.TheVariants.{Label, Jump, Branch}
use Rattle.mv_ir.specs.declared.tree.Tree.{Tree}
use Rattle.mv_ir.specs.declared.stm.Callee.{Callee}
use Rattle.mv_ir.specs.declared.stm.Stm.{Stm}
use Rattle.mv_ir.specs.declared.stm.Stm.TheOpen.{Stm-F}
use Rattle.mv_ir.specs.declared.stm.Stm.TheOpen as stm
use Rattle.mv_ir.specs.declared.stm.Stm.TheViews.{roll-Stm}
use Rattle.mv_ir.specs.declared.stm.Stm.TheFolds.{map-Stm}
use Rattle.mv_ir.specs.Measures.{joined, callee_read}
use Rattle.mv_ir.proofs.Induction.{Each, StmChildren, stm_ind, stms_ind}
use Rattle.mv_select_code.specs.Trees.TreeCode.{branch_lines}
use Rattle.mv_select_code.specs.Statements.StatementCode.{first, second, bounds_lines, clear_lines, result_lines, trap_label}
use Rattle.mv_select_code.specs.declared.control.enclosing.Enclosing.{Enclosing}
use Rattle.mv_select_code.specs.declared.control.enclosing.Leading.{Leading}
use Rattle.mv_select_code.specs.declared.control.enclosing.Leading.TheVariants as lead
use Rattle.mv_select_code.specs.declared.control.enclosing.Way.{Way}
use Rattle.mv_select_code.specs.Control.FlowCode.{Plan, Tested, Emitted, in_turn, enclosing_at, fall_to, jump_to, go_to, go_on, leads_to, if_leads, loop_at, block_at, straight_loop, turned_loop, loop_by, zero_lines, home, size, tests, code_layer, code_of, loop_of, statement_code}
use Rattle.mv_select_code.specs.Control.Labels.{named_layer, stm_functions, tree_functions, callee_functions, functions_of_all, functions, pointers_layer, stm_pointers, pointers}
use Rattle.mv_select_code.proofs.OfControl.Equations.{code_roll, if_stays, loop_stays}
use Rattle.mv_select_code.proofs.OfControl.TreeNames.{all_front, all_back, named_roll, pointers_roll}
use Rattle.mv_select_code.proofs.OfControl.StatementsAreMade.{LineByLine, branch_made, result_made, go_to_made, go_on_made, set_made, set_global_made, divide_made, check_made, read_made, write_made, bounds_made, clear_made}

module _ {P : List Line → Type 0} {L J Q : ℕ → Type 0} (made : LineByLine P L J Q) (plan : Plan) (R : ℕ → Type 0)
    (call : (r : Option ℕ) (f : Callee) (args : List Tree) → All Q (callee_functions f ++ functions_of_all args) → All R (callee_read f) → P (plan.calls.call r f args))
    (known : (r : Option ℕ) (k : Known) (args : List Tree) → All Q (functions_of_all args) → P (plan.calls.known r k args))
    (end : J plan.end) (division : J (trap_label 1)) (index : J (trap_label 2)) where
  -- what encloses some code is of the kind J, and the labels that the code takes are of both kinds
  abbrev Starts : List Enclosing → Type 0
  Starts = All (λ e. J e.start)

  abbrev Ends : List Enclosing → Type 0
  Ends = All (λ e. J e.end)

  abbrev Own : ℕ → ℕ → Type 0
  Own label count = (l : ℕ) → label ≤ l → l < label + count → L l × J l

  start_is : (around : List Enclosing) (n : ℕ) → Starts around → J (enclosing_at around n plan.end).start
  start_is [] n h = end
  start_is (e ∷ around) zero h = All-head (λ e. J e.start) e around h
  start_is (e ∷ around) (suc n) h = start_is around n (All-tail (λ e. J e.start) e around h)

  end_is : (around : List Enclosing) (n : ℕ) → Ends around → J (enclosing_at around n plan.end).end
  end_is [] n h = end
  end_is (e ∷ around) zero h = All-head (λ e. J e.end) e around h
  end_is (e ∷ around) (suc n) h = end_is around n (All-tail (λ e. J e.end) e around h)

  abbrev LinesAreMade : (labels : ℕ) → (List Enclosing → ℕ → Way → List Line) → Type 0
  LinesAreMade labels lines =
      (around : List Enclosing) → Starts around → Ends around → (way : Way) → J way.after → (label : ℕ) → Own label labels → P (lines around label way)

  abbrev CodeIsMade : (names points : List ℕ) → Emitted → Type 0
  CodeIsMade names points code = All Q names → All R points → LinesAreMade code.labels code.lines

  -- likewise what a test leads to; and what the test names is of the kind Q
  abbrev TestedIsMade : (names points : List ℕ) → Tested → Type 0
  TestedIsMade names points a = All Q names → All R points → All Q (tree_functions a.test) × LinesAreMade a.labels a.lines

  abbrev BothAreMade : (names points : List ℕ) → Emitted → Type 0
  BothAreMade names points code = CodeIsMade names points code × IfSome code.stays (TestedIsMade names points)

  abbrev StmIsMade : Stm → Type 0
  StmIsMade s = BothAreMade (stm_functions s) (stm_pointers s) (statement_code plan s)

  abbrev names_of : Stm-F Stm → List ℕ
  names_of x = named_layer (map-Stm Stm (List ℕ) stm_functions x)

  abbrev points_of : Stm-F Stm → List ℕ
  points_of x = pointers_layer (map-Stm Stm (List ℕ) stm_pointers x)

  abbrev LayerIsMade : Stm-F Stm → Type 0
  LayerIsMade x = CodeIsMade (names_of x) (points_of x) (code_layer plan (map-Stm Stm Emitted (statement_code plan) x))

  from_layer : (x : Stm-F Stm) → BothAreMade (names_of x) (points_of x) (code_layer plan (map-Stm Stm Emitted (statement_code plan) x)) → StmIsMade (roll-Stm x)
  from_layer x h =
      subst (BothAreMade (stm_functions (roll-Stm x)) (stm_pointers (roll-Stm x))) (sym (code_roll plan x))
      (subst (λ ns. BothAreMade ns (stm_pointers (roll-Stm x)) (code_layer plan (map-Stm Stm Emitted (statement_code plan) x))) (sym (named_roll x))
      (subst (λ ns. BothAreMade (names_of x) ns (code_layer plan (map-Stm Stm Emitted (statement_code plan) x))) (sym (pointers_roll x)) h))

  -- a statement before others
  before_made : (s : Stm) (code : List Stm) → CodeIsMade (stm_functions s) (stm_pointers s) (statement_code plan s) → CodeIsMade (joined (map stm_functions code)) (joined (map stm_pointers code)) (in_turn (map (statement_code plan) code))
      → CodeIsMade (joined (map stm_functions (s ∷ code))) (joined (map stm_pointers (s ∷ code))) (in_turn (map (statement_code plan) (s ∷ code)))
  before_made s [] here others names points around starts ends way behind label own =
      here (all_front Q (stm_functions s) [] names) (all_front R (stm_pointers s) [] points) around starts ends way behind label own
  before_made s (t ∷ code) here others names points around starts ends way behind label own =
      let a = statement_code plan s in
      let b = in_turn (map (statement_code plan) (t ∷ code)) in
      let named = joined (map stm_functions (t ∷ code)) in
      let pointed = joined (map stm_pointers (t ∷ code)) in
      let between = own label (omega arith) (omega arith) in
      let ls = b.lines around (label + 1 + a.labels) way in
      made.after (a.lines around (label + 1) (fall_to label)) (Label label ∷ ls)
      (here (all_front Q (stm_functions s) named names) (all_front R (stm_pointers s) pointed points) around starts ends (fall_to label) between.1 (label + 1) (λ l p q. own l (omega (arith, p)) (omega (arith, q))))
      (made.after (Label label ∷ []) ls (made.label label between.0)
      (others (all_back Q (stm_functions s) named names) (all_back R (stm_pointers s) pointed points) around starts ends way behind (label + 1 + a.labels) (λ l p q. own l (omega (arith, p)) (omega (arith, q)))))

  in_order_made : (code : List Stm) → Each StmIsMade code → CodeIsMade (joined (map stm_functions code)) (joined (map stm_pointers code)) (in_turn (map (statement_code plan) code))
  in_order_made [] h = λ names points around starts ends way behind label own. go_on_made made plan.seats way behind
  in_order_made (s ∷ code) h = before_made s code h.0.0 (in_order_made code h.1)

  -- two trees
  left : (a b : Tree) → All Q (tree_functions a ++ tree_functions b) → All Q (tree_functions a)
  left a b = all_front Q (tree_functions a) (tree_functions b)

  right : (a b : Tree) → All Q (tree_functions a ++ tree_functions b) → All Q (tree_functions b)
  right a b = all_back Q (tree_functions a) (tree_functions b)

  -- lines without labels, and on
  on_made : (ls : List Line) (way : Way) → J way.after → P ls → P (ls ++ go_on way)
  on_made ls way behind h = made.after ls (go_on way) h (go_on_made made plan.seats way behind)

  lead_is : (l : Leading) (around : List Enclosing) (way : Way) → Starts around → Ends around → J way.after → J (leads_to plan.end around way l)
  lead_is lead.On around way starts ends behind = behind
  lead_is (lead.Out n) around way starts ends behind = end_is around n ends
  lead_is (lead.Back n) around way starts ends behind = start_is around n starts

  if_made : (t : Tree) (names_a names_b points_a points_b : List ℕ) (x y : Option Leading) (a b : Emitted) → All Q (tree_functions t) → CodeIsMade names_a points_a a → CodeIsMade names_b points_b b
      → All Q names_a → All Q names_b → All R points_a → All R points_b → (around : List Enclosing) → Starts around → Ends around → (way : Way) → J way.after → (label : ℕ)
      → Own label (if_leads plan.seats plan.end t x y a b).labels → P ((if_leads plan.seats plan.end t x y a b).lines around label way)
  if_made t names_a names_b points_a points_b x y a b ft ma mb na nb pa pb around starts ends way behind label = go x y
    where
      to : (sense : Bool) (l : ℕ) → J l → P (branch_lines plan.seats t sense first l)
      to sense l j = branch_made made plan.seats t ft sense first l j

      to_first : (l : Leading) → Own label b.labels → P (branch_lines plan.seats t true first (leads_to plan.end around way l) ++ b.lines around label way)
      to_first l own =
          let g = leads_to plan.end around way l in
          made.after (branch_lines plan.seats t true first g) (b.lines around label way) (to true g (lead_is l around way starts ends behind)) (mb nb pb around starts ends way behind label own)

      to_second : (l : Leading) → Own label a.labels → P (branch_lines plan.seats t false first (leads_to plan.end around way l) ++ a.lines around label way)
      to_second l own =
          let g = leads_to plan.end around way l in
          made.after (branch_lines plan.seats t false first g) (a.lines around label way) (to false g (lead_is l around way starts ends behind)) (ma na pa around starts ends way behind label own)

      go : (x y : Option Leading) → Own label (if_leads plan.seats plan.end t x y a b).labels → P ((if_leads plan.seats plan.end t x y a b).lines around label way)
      go None None own =
          let past = own label (omega arith) (omega arith) in
          let ls = a.lines around (label + 1) (jump_to way.after) in
          let ls' = b.lines around (label + 1 + a.labels) way in
          made.after (branch_lines plan.seats t false first label) (ls ++ (Label label ∷ ls')) (to false label past.1)
          (made.after ls (Label label ∷ ls') (ma na pa around starts ends (jump_to way.after) behind (label + 1) (λ l p q. own l (omega (arith, p)) (omega (arith, q))))
          (made.after (Label label ∷ []) ls' (made.label label past.0) (mb nb pb around starts ends way behind (label + 1 + a.labels) (λ l p q. own l (omega (arith, p)) (omega (arith, q))))))
      go (Some l) None own = to_first l own
      go (Some l) (Some lead.On) own = to_first l own
      go None (Some l) own = to_second l own
      go (Some l) (Some (lead.Out n)) own = to_second (lead.Out n) own
      go (Some l) (Some (lead.Back n)) own = to_second (lead.Back n) own

  straight_made : (code : List Stm) → Each StmIsMade code → CodeIsMade (joined (map stm_functions code)) (joined (map stm_pointers code)) (straight_loop (in_turn (map (statement_code plan) code)))
  straight_made code h names points around starts ends way behind label own =
      let inner = in_turn (map (statement_code plan) code) in
      let start = own label (omega arith) (omega arith) in
      made.after (Label label ∷ []) (inner.lines (loop_at label way ∷ around) (label + 1) (jump_to label)) (made.label label start.0)
      (in_order_made code h names points (loop_at label way ∷ around) (All-cons (λ e. J e.start) (loop_at label way) around start.1 starts) (All-cons (λ e. J e.end) (loop_at label way) around behind ends)
      (jump_to label) start.1 (label + 1) (λ l p q. own l (omega (arith, p)) (omega (arith, q))))

  turned_made : (a : Tested) (rest : Emitted) → All Q (tree_functions a.test) → LinesAreMade a.labels a.lines → LinesAreMade rest.labels rest.lines → LinesAreMade (turned_loop plan.seats a rest).labels (turned_loop plan.seats a rest).lines
  turned_made a rest names first_made rest_made around starts ends way behind label own =
      let at_start = own label (omega arith) (omega arith) in
      let at_test = own (label + 1) (omega arith) (omega arith) in
      let between = own (label + 2) (omega arith) (omega arith) in
      let enclosing = loop_at (label + 1) way in
      let inside = enclosing ∷ around in
      let starts = All-cons (λ e. J e.start) enclosing around at_test.1 starts in
      let ends = All-cons (λ e. J e.end) enclosing around behind ends in
      let ls = a.lines inside (label + 3) (fall_to (label + 2)) in
      let ls' = rest.lines inside (label + 3 + a.labels) (fall_to (label + 1)) in
      let test = branch_lines plan.seats a.test a.sense first label ++ go_on way in
      made.after (Jump 0 (label + 1) ∷ []) (Label label ∷ (ls ++ (Label (label + 2) ∷ (ls' ++ (Label (label + 1) ∷ test))))) (made.jump (label + 1) at_test.1)
      (made.after (Label label ∷ []) (ls ++ (Label (label + 2) ∷ (ls' ++ (Label (label + 1) ∷ test)))) (made.label label at_start.0)
      (made.after ls (Label (label + 2) ∷ (ls' ++ (Label (label + 1) ∷ test)))
      (first_made inside starts ends (fall_to (label + 2)) between.1 (label + 3) (λ l p q. own l (omega (arith, p)) (omega (arith, q))))
      (made.after (Label (label + 2) ∷ []) (ls' ++ (Label (label + 1) ∷ test)) (made.label (label + 2) between.0)
      (made.after ls' (Label (label + 1) ∷ test)
      (rest_made inside starts ends (fall_to (label + 1)) at_test.1 (label + 3 + a.labels) (λ l p q. own l (omega (arith, p)) (omega (arith, q))))
      (made.after (Label (label + 1) ∷ []) test (made.label (label + 1) at_test.0)
      (on_made (branch_lines plan.seats a.test a.sense first label) way behind (branch_made made plan.seats a.test names a.sense first label at_start.1)))))))

  loop_made : (code : List Stm) → Each StmIsMade code → CodeIsMade (joined (map stm_functions code)) (joined (map stm_pointers code)) (loop_of plan code)
  loop_made [] h = straight_made [] h
  loop_made (s ∷ code) h = by (statement_code plan s).stays h.0.1
    where
      by : (x : Option Tested) → IfSome x (TestedIsMade (stm_functions s) (stm_pointers s))
          → CodeIsMade (joined (map stm_functions (s ∷ code))) (joined (map stm_pointers (s ∷ code))) (loop_by plan.seats x (statement_code plan s) (map (statement_code plan) code))
      by None stays = straight_made (s ∷ code) h
      by (Some a) stays = λ names points.
          let named = joined (map stm_functions code) in
          let pointed = joined (map stm_pointers code) in
          let inner = stays (all_front Q (stm_functions s) named names) (all_front R (stm_pointers s) pointed points) in
          turned_made a (in_turn (map (statement_code plan) code)) inner.0 inner.1 (in_order_made code h.1 (all_back Q (stm_functions s) named names) (all_back R (stm_pointers s) pointed points))

  layer : (x : Stm-F Stm) → StmChildren StmIsMade x → LayerIsMade x
  layer (stm.Set t v) h names points around starts ends way behind label own = on_made _ way behind (set_made made plan.seats t v names)
  layer (stm.SetGlobal g v) h names points around starts ends way behind label own = on_made _ way behind (set_global_made made plan.seats g v names)
  layer (stm.Divide t o a b) h names points around starts ends way behind label own = on_made _ way behind (divide_made made plan.seats t o a b division (left a b names) (right a b names))
  layer (stm.Check a i) h names points around starts ends way behind label own = on_made _ way behind (check_made made plan.seats (size plan a) (tests plan a) i index names)
  layer (stm.Read t a i) h names points around starts ends way behind label own = on_made _ way behind (read_made made plan.seats t (size plan a) (home plan a) (tests plan a) i index names)
  layer (stm.Write a i v) h names points around starts ends way behind label own = on_made _ way behind (write_made made plan.seats (size plan a) (home plan a) (tests plan a) i v index (left i v names) (right i v names))
  layer (stm.Zero a) h names points around starts ends way behind label own =
      let go = Jump 0 (label + 1) ∷ [] in
      let turn = Label label ∷ [] in
      let tested = Label (label + 1) ∷ [] in
      let test = Branch 1 first second label ∷ [] in
      let at_turn = own label (omega arith) (omega arith) in
      let at_test = own (label + 1) (omega arith) (omega arith) in
      on_made (zero_lines label (plan.array_at a) (plan.array_size a)) way behind
      (made.after (bounds_lines (plan.array_at a) (plan.array_size a)) (go ++ (turn ++ (clear_lines ++ (tested ++ test)))) (bounds_made made (plan.array_at a) (plan.array_size a))
      (made.after go (turn ++ (clear_lines ++ (tested ++ test))) (made.jump (label + 1) at_test.1)
      (made.after turn (clear_lines ++ (tested ++ test)) (made.label label at_turn.0)
      (made.after clear_lines (tested ++ test) (clear_made made)
      (made.after tested test (made.label (label + 1) at_test.0) (made.branch 1 first second label at_turn.1))))))
  layer (stm.Return v) h names points around starts ends way behind label own =
      made.after (result_lines plan.seats v) (go_to way plan.end) (result_made made plan.seats v names) (go_to_made made plan.seats way plan.end end)
  layer (stm.Break n) h names points around starts ends way behind label own = go_to_made made plan.seats way (enclosing_at around n plan.end).end (end_is around n ends)
  layer (stm.Back n) h names points around starts ends way behind label own = made.jump (enclosing_at around n plan.end).start (start_is around n starts)
  layer (stm.Call r f args) h names points around starts ends way behind label own = on_made _ way behind (call r f args names points)
  layer (stm.Known r k args) h names points around starts ends way behind label own = on_made _ way behind (known r k args names)
  layer (stm.Block b) h names points around starts ends way behind label own =
      in_order_made b h names points (block_at way ∷ around) (All-cons (λ e. J e.start) (block_at way) around behind starts) (All-cons (λ e. J e.end) (block_at way) around behind ends) way behind label own
  layer (stm.Loop b) h names points around starts ends way behind label own = loop_made b h names points around starts ends way behind label own
  layer (stm.If t a b) h names points around starts ends way behind label own =
      let in_a = joined (map stm_functions a) in
      let in_b = joined (map stm_functions b) in
      let by_a = joined (map stm_pointers a) in
      let by_b = joined (map stm_pointers b) in
      let one = in_turn (map (statement_code plan) a) in
      let other = in_turn (map (statement_code plan) b) in
      let lists = all_back Q (tree_functions t) (in_a ++ in_b) names in
      if_made t in_a in_b by_a by_b one.alone other.alone one other (all_front Q (tree_functions t) (in_a ++ in_b) names) (in_order_made a h.0) (in_order_made b h.1) (all_front Q in_a in_b lists) (all_back Q in_a in_b lists)
      (all_front R by_a by_b points) (all_back R by_a by_b points) around starts ends way behind label own

  stays_layer : (x : Stm-F Stm) → StmChildren StmIsMade x → IfSome (code_layer plan (map-Stm Stm Emitted (statement_code plan) x)).stays (TestedIsMade (names_of x) (points_of x))
  stays_layer (stm.If t a b) h =
      let in_a = joined (map stm_functions a) in
      let in_b = joined (map stm_functions b) in
      let by_a = joined (map stm_pointers a) in
      let by_b = joined (map stm_pointers b) in
      let one = in_turn (map (statement_code plan) a) in
      let other = in_turn (map (statement_code plan) b) in
      if_stays (TestedIsMade (names_of (stm.If t a b)) (points_of (stm.If t a b))) plan.seats plan.end t one.alone other.alone one other
      (λ e names points.
      (all_front Q (tree_functions t) (in_a ++ in_b) names, in_order_made a h.0 (all_front Q in_a in_b (all_back Q (tree_functions t) (in_a ++ in_b) names)) (all_front R by_a by_b points)))
      (λ e names points.
      (all_front Q (tree_functions t) (in_a ++ in_b) names, in_order_made b h.1 (all_back Q in_a in_b (all_back Q (tree_functions t) (in_a ++ in_b) names)) (all_back R by_a by_b points)))
  stays_layer (stm.Loop b) h = loop_stays (TestedIsMade (names_of (stm.Loop b)) (points_of (stm.Loop b))) plan.seats (map (statement_code plan) b)
  stays_layer _ h = tt

  statement_made : (s : Stm) → StmIsMade s
  statement_made = stm_ind StmIsMade (λ x h. from_layer x (layer x h, stays_layer x h))

  in_all_made : (code : List Stm) → CodeIsMade (functions code) (pointers code) (code_of plan code)
  in_all_made code = in_order_made code (stms_ind StmIsMade statement_made code)

-- The same where a function that is called by name is of one more kind.
module _ {P : List Line → Type 0} {L J Q : ℕ → Type 0} (made : LineByLine P L J Q) (plan : Plan) (C R : ℕ → Type 0)
    (call : (r : Option ℕ) (f : Callee) (args : List Tree) → All Q (callee_functions f ++ functions_of_all args) → All C (callee_functions f) → All R (callee_read f) → P (plan.calls.call r f args))
    (known : (r : Option ℕ) (k : Known) (args : List Tree) → All Q (functions_of_all args) → P (plan.calls.known r k args))
    (end : J plan.end) (division : J (trap_label 1)) (index : J (trap_label 2)) where
  abbrev Both : ℕ → Type 0
  Both f = Q f × C f

  both_made : LineByLine P L J Both
  both_made = record {
    none = made.none;
    after = made.after;
    word = made.word;
    label = made.label;
    jump = made.jump;
    branch = made.branch;
    entry = λ r f h. made.entry r f h.0;
  }

  firsts : (fs : List ℕ) → All Both fs → All Q fs
  firsts = All-weaker Both Q (λ f h. h.0)

  -- the code of statements within others
  pub code_made : (code : List Stm) (around : List Enclosing) → All (λ e. J e.start) around → All (λ e. J e.end) around → (way : Way) → J way.after → (label : ℕ)
      → ((l : ℕ) → label ≤ l → l < label + (code_of plan code).labels → L l × J l) → All Q (functions code) → All C (functions code) → All R (pointers code) → P ((code_of plan code).lines around label way)
  code_made code around starts ends way behind label own names called points =
      in_all_made both_made plan R
      (λ r f args both. call r f args (firsts (callee_functions f ++ functions_of_all args) both) (All-weaker Both C (λ f h. h.1) (callee_functions f) (all_front Both (callee_functions f) (functions_of_all args) both)))
      (λ r k args both. known r k args (firsts (functions_of_all args) both)) end division index code (λ k d lt. (names k d lt, called k d lt)) points around starts ends way behind label own
