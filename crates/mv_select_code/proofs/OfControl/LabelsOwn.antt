-- Which labels stand in the code of statements: each that it takes, once.
use Rattle.std.proofs.Common.{◌≡◌, ⊎_elim, ℕ, ◌+◌, ◌*◌, ◌<◌, ◌≤◌, Bool, true, false, cond, Option, Some, None, IfSome, List, [], ◌∷◌, ◌++◌, All, count_by, map, refl, sym, ap, subst, arith, eq-eqb}
use Rattle.std.proofs.lemmas.List.Elements.{All-head, All-tail}
use Rattle.std.proofs.lemmas.Bool.{cases_lt, ne_eqb}
use Rattle.mv_isa.specs.declared.labelled.Line.{Line}
use Rattle.mv_isa.specs.declared.labelled.Line.TheVariants.{Word, Label, Jump, Branch, Entry, Slot, Point}
use Rattle.mv_isa.specs.Code.{is_label}
use Rattle.mv_ir.specs.declared.tree.Tree.{Tree}
use Rattle.mv_ir.specs.declared.stm.Stm.{Stm}
use Rattle.mv_ir.specs.declared.stm.Stm.TheOpen.{Stm-F}
use Rattle.mv_ir.specs.declared.stm.Stm.TheOpen as stm
use Rattle.mv_ir.specs.declared.stm.Stm.TheViews.{roll-Stm}
use Rattle.mv_ir.specs.declared.stm.Stm.TheFolds.{map-Stm}
use Rattle.mv_ir.specs.Measures.{callee_read, total, layer_size, stm_size}
use Rattle.mv_ir.proofs.Rolls.{size_roll}
use Rattle.mv_ir.proofs.Induction.{Each, StmChildren, stm_ind, stms_ind}
use Rattle.mv_select_code.specs.Trees.TreeCode.{branch_lines}
use Rattle.mv_select_code.specs.Statements.StatementCode.{first, second, bounds_lines, clear_lines, result_lines}
use Rattle.mv_select_code.specs.declared.control.enclosing.Enclosing.{Enclosing}
use Rattle.mv_select_code.specs.declared.control.enclosing.Leading.{Leading}
use Rattle.mv_select_code.specs.declared.control.enclosing.Leading.TheVariants as lead
use Rattle.mv_select_code.specs.declared.control.enclosing.Way.{Way}
use Rattle.mv_select_code.specs.Control.FlowCode.{Plan, Tested, Emitted, fall_to, jump_to, go_to, go_on, leads_to, if_leads, in_turn, plain, enclosing_at, zero_lines, loop_at, block_at, straight_loop, loop_by, home, size, tests, code_layer, statement_code, loop_of}
use Rattle.mv_select_code.specs.Control.Labels.{Names, CallsName, OwnLabels, LabelsAreOwn, LabelsAreFew, tree_functions, callee_functions}
use Rattle.mv_select_code.proofs.OfControl.Equations.{code_roll, if_stays, loop_stays}
use Rattle.mv_select_code.proofs.OfControl.TreeNames.{AnyNumber, all_any}
use Rattle.mv_select_code.proofs.OfControl.StatementsAreMade.{LineByLine, names_made, branch_made, result_made, go_to_made, go_on_made, set_made, set_global_made, divide_made, check_made, read_made, write_made, bounds_made, clear_made}
use Rattle.mv_isa.proofs.Common.{count_append}

-- ---- single lines

mark_at : (l m : ℕ) → m ≡ l → count_by (is_label l) (Label m ∷ []) ≡ 1
mark_at l m e = ap (λ b. 0 + cond b 1 0) (eq-eqb m l e)

mark_below : (l m : ℕ) → m < l → count_by (is_label l) (Label m ∷ []) ≡ 0
mark_below l m lt = ap (λ b. 0 + cond b 1 0) (ne_eqb m l (λ e. omega (arith, lt, e)))

mark_above : (l m : ℕ) → l < m → count_by (is_label l) (Label m ∷ []) ≡ 0
mark_above l m lt = ap (λ b. 0 + cond b 1 0) (ne_eqb m l (λ e. omega (arith, lt, e)))

-- one of two neighbours
marks : (l label : ℕ) → label ≤ l → l < label + 2 → count_by (is_label l) (Label label ∷ []) + count_by (is_label l) (Label (label + 1) ∷ []) ≡ 1
marks l label p q =
    ⊎_elim (λ lt. omega (arith, mark_at l label (omega (arith, p, lt)), mark_above l (label + 1) lt))
    (λ le. omega (arith, mark_below l label (omega (arith, le)), mark_at l (label + 1) (omega (arith, q, le))))
    (cases_lt l (label + 1))

-- one of three
marks_of_three : (l label : ℕ) → label ≤ l → l < label + 3
    → count_by (is_label l) (Label label ∷ []) + (count_by (is_label l) (Label (label + 1) ∷ []) + count_by (is_label l) (Label (label + 2) ∷ [])) ≡ 1
marks_of_three l label p q =
    ⊎_elim (λ lt. omega (arith, marks l label p lt, mark_above l (label + 2) lt))
    (λ le. omega (arith, mark_below l label (omega (arith, le)), mark_below l (label + 1) (omega (arith, le)), mark_at l (label + 2) (omega (arith, q, le))))
    (cases_lt l (label + 2))

silent : (P : ℕ → Type 0) (x : Line) → Names P x → (l : ℕ) → count_by (is_label l) (x ∷ []) ≡ 0
silent P (Word i) h l = refl
silent P (Label m) h l = absurd h
silent P (Jump rd m) h l = refl
silent P (Branch f a b m) h l = refl
silent P (Entry rd m) h l = refl
silent P (Slot m) h l = refl
silent P (Point a) h l = refl

pub none : (P : ℕ → Type 0) (xs : List Line) → All (Names P) xs → (l : ℕ) → count_by (is_label l) xs ≡ 0
none P [] h l = refl
none P (x ∷ xs) h l = omega (arith, count_append l (x ∷ []) xs, silent P x (All-head (Names P) x xs h) l, none P xs (All-tail (Names P) x xs h) l)

-- ---- parts put together

pub silent_own : (P : ℕ → Type 0) (label : ℕ) (xs : List Line) → All (Names P) xs → OwnLabels label 0 xs
silent_own P label xs h = record {
  own = λ l p q. absurd (omega (arith, p, q));
  before = λ l p. none P xs h l;
  after = λ l p. none P xs h l;
}

pub both_own : (label a b : ℕ) (xs ys : List Line) → OwnLabels label a xs → OwnLabels (label + a) b ys → OwnLabels label (a + b) (xs ++ ys)
both_own label a b xs ys h k = record {
  own = λ l p q.
      ⊎_elim (λ lt. omega (arith, count_append l xs ys, h.own l p lt, k.before l lt)) (λ le. omega (arith, count_append l xs ys, h.after l le, k.own l le (omega (arith, q)))) (cases_lt l (label + a));
  before = λ l p. omega (arith, p, count_append l xs ys, h.before l, k.before l);
  after = λ l p. omega (arith, p, count_append l xs ys, h.after l, k.after l);
}

-- lines that have no labels, before and behind others
silent_before : (label n : ℕ) (xs ys : List Line) → All (Names AnyNumber) xs → OwnLabels label n ys → OwnLabels label n (xs ++ ys)
silent_before label n xs ys h k = record {
  own = λ l p q. omega (arith, count_append l xs ys, none AnyNumber xs h l, k.own l p q);
  before = λ l p. omega (arith, count_append l xs ys, none AnyNumber xs h l, k.before l p);
  after = λ l p. omega (arith, count_append l xs ys, none AnyNumber xs h l, k.after l p);
}

silent_behind : (label n : ℕ) (xs ys : List Line) → OwnLabels label n xs → All (Names AnyNumber) ys → OwnLabels label n (xs ++ ys)
silent_behind label n xs ys h k = record {
  own = λ l p q. omega (arith, count_append l xs ys, none AnyNumber ys k l, h.own l p q);
  before = λ l p. omega (arith, count_append l xs ys, none AnyNumber ys k l, h.before l p);
  after = λ l p. omega (arith, count_append l xs ys, none AnyNumber ys k l, h.after l p);
}

-- a label before lines that have those behind it
labelled_own : (label n : ℕ) (b : List Line) → OwnLabels (label + 1) n b → OwnLabels label (1 + n) (Label label ∷ b)
labelled_own label n b h = record {
  own = λ l p q.
      ⊎_elim (λ lt. omega (arith, parts l, h.before l lt, mark_at l label (omega (arith, p, lt)))) (λ le. omega (arith, parts l, h.own l le (omega (arith, q)), mark_below l label (omega (arith, le)))) (cases_lt l (label + 1));
  before = λ l p. omega (arith, p, parts l, h.before l, mark_above l label);
  after = λ l p. omega (arith, p, parts l, h.after l, mark_below l label);
}
  where
    parts : (l : ℕ) → count_by (is_label l) (Label label ∷ b) ≡ count_by (is_label l) (Label label ∷ []) + count_by (is_label l) b
    parts l = count_append l (Label label ∷ []) b

-- a label between lines
between_own : (label n k : ℕ) (a b : List Line) → OwnLabels (label + 1) n a → OwnLabels (label + 1 + n) k b → OwnLabels label (1 + (n + k)) (a ++ (Label label ∷ b))
between_own label n k a b h g = record {
  own = λ l p q.
      ⊎_elim
      (λ lt. omega (arith, parts l, mark_at l label (omega (arith, p, lt)), h.before l lt, g.before l (omega (arith, lt))))
      (λ le.
      let low = mark_below l label (omega (arith, le)) in
      ⊎_elim (λ lt. omega (arith, parts l, low, h.own l le lt, g.before l lt)) (λ le'. omega (arith, parts l, low, h.after l le', g.own l le' (omega (arith, q)))) (cases_lt l (label + 1 + n)))
      (cases_lt l (label + 1));
  before = λ l p. omega (arith, p, parts l, h.before l, g.before l, mark_above l label);
  after = λ l p. omega (arith, p, parts l, h.after l, g.after l, mark_below l label);
}
  where
    parts : (l : ℕ) → count_by (is_label l) (a ++ (Label label ∷ b)) ≡ count_by (is_label l) a + (count_by (is_label l) (Label label ∷ []) + count_by (is_label l) b)
    parts l = omega (arith, count_append l a (Label label ∷ b), count_append l (Label label ∷ []) b)

-- three labels, the last one before others, the third before the first of two stretches between them, and lines behind them all that have none
turned_own : (label n k : ℕ) (a b c : List Line) → OwnLabels (label + 3) n a → OwnLabels (label + 3 + n) k b → All (Names AnyNumber) c
    → OwnLabels label (3 + (n + k)) (Jump 0 (label + 1) ∷ Label label ∷ (a ++ (Label (label + 2) ∷ (b ++ (Label (label + 1) ∷ c)))))
turned_own label n k a b c h g silent_c = record {
  own = λ l p q.
      ⊎_elim (λ lt. omega (arith, parts l, marks_of_three l label p lt, h.before l lt, g.before l (omega (arith, lt))))
      (λ le.
      let past = above l le in
      ⊎_elim (λ lt. omega (arith, parts l, past, h.own l le lt, g.before l lt)) (λ le'. omega (arith, parts l, past, h.after l le', g.own l le' (omega (arith, q)))) (cases_lt l (label + 3 + n)))
      (cases_lt l (label + 3));
  before = λ l p.
      omega (arith, p, parts l, h.before l (omega (arith, p)), g.before l (omega (arith, p)), mark_above l label p, mark_above l (label + 1) (omega (arith, p)), mark_above l (label + 2) (omega (arith, p)));
  after = λ l p. omega (arith, p, parts l, h.after l (omega (arith, p)), g.after l (omega (arith, p)), above l (omega (arith, p)));
}
  where
    three : ℕ → ℕ
    three l = count_by (is_label l) (Label label ∷ []) + (count_by (is_label l) (Label (label + 1) ∷ []) + count_by (is_label l) (Label (label + 2) ∷ []))

    above : (l : ℕ) → label + 3 ≤ l → three l ≡ 0
    above l le = omega (arith, mark_below l label (omega (arith, le)), mark_below l (label + 1) (omega (arith, le)), mark_below l (label + 2) (omega (arith, le)))

    parts : (l : ℕ) → count_by (is_label l) (Jump 0 (label + 1) ∷ Label label ∷ (a ++ (Label (label + 2) ∷ (b ++ (Label (label + 1) ∷ c)))))
        ≡ three l + (count_by (is_label l) a + count_by (is_label l) b)
    parts l =
        let behind = b ++ (Label (label + 1) ∷ c) in
        let inner = a ++ (Label (label + 2) ∷ behind) in
        let jump : count_by (is_label l) (Jump 0 (label + 1) ∷ []) ≡ 0 = refl in
        omega (
          arith,
          jump,
          count_append l (Jump 0 (label + 1) ∷ []) (Label label ∷ inner),
          count_append l (Label label ∷ []) inner,
          count_append l a (Label (label + 2) ∷ behind),
          count_append l (Label (label + 2) ∷ []) behind,
          count_append l b (Label (label + 1) ∷ c),
          count_append l (Label (label + 1) ∷ []) c,
          none AnyNumber c silent_c l,
        )

-- ---- statements

abbrev named : LineByLine (All (Names AnyNumber)) (λ l. ⊥) AnyNumber AnyNumber
named = names_made AnyNumber

zero_own : (label at n : ℕ) → OwnLabels label 2 (zero_lines label at n)
zero_own label at n = record {
  own = λ l p q. omega (arith, parts l, marks l label p q);
  before = λ l p. omega (arith, parts l, mark_above l label p, mark_above l (label + 1) (omega (arith, p)));
  after = λ l p. omega (arith, parts l, mark_below l label (omega (arith, p)), mark_below l (label + 1) (omega (arith, p)));
}
  where
    parts : (l : ℕ) → count_by (is_label l) (zero_lines label at n) ≡ count_by (is_label l) (Label label ∷ []) + count_by (is_label l) (Label (label + 1) ∷ [])
    parts l =
        let test = Branch 1 first second label ∷ [] in
        let middle = Label (label + 1) ∷ [] in
        let turn = Label label ∷ [] in
        let go = Jump 0 (label + 1) ∷ [] in
        let jump : count_by (is_label l) go ≡ 0 = refl in
        let branch : count_by (is_label l) test ≡ 0 = refl in
        omega (
          arith,
          count_append l (bounds_lines at n) (go ++ (turn ++ (clear_lines ++ (middle ++ test)))),
          count_append l go (turn ++ (clear_lines ++ (middle ++ test))),
          count_append l turn (clear_lines ++ (middle ++ test)),
          count_append l clear_lines (middle ++ test),
          count_append l middle test,
          none AnyNumber (bounds_lines at n) (bounds_made named at n) l,
          none AnyNumber clear_lines (clear_made named) l,
          jump,
          branch,
        )

module _ (plan : Plan) (calls : CallsName AnyNumber plan.calls) where
  abbrev Owns : Emitted → Type 0
  Owns code = (around : List Enclosing) (label : ℕ) (way : Way) → OwnLabels label code.labels (code.lines around label way)

  -- likewise what a test leads to
  abbrev TestedOwns : Tested → Type 0
  TestedOwns a = (around : List Enclosing) (label : ℕ) (way : Way) → OwnLabels label a.labels (a.lines around label way)

  abbrev StmOwns : Stm → Type 0
  StmOwns s = Owns (statement_code plan s) × IfSome (statement_code plan s).stays TestedOwns

  on_silent : (way : Way) → All (Names AnyNumber) (go_on way)
  on_silent way = go_on_made named plan.seats way tt

  before_own : (s : Stm) (code : List Stm) → Owns (statement_code plan s) → Owns (in_turn (map (statement_code plan) code)) → Owns (in_turn (map (statement_code plan) (s ∷ code)))
  before_own s [] here others = here
  before_own s (t ∷ code) here others = λ around label way.
      let a = statement_code plan s in
      let b = in_turn (map (statement_code plan) (t ∷ code)) in
      between_own label a.labels b.labels (a.lines around (label + 1) (fall_to label)) (b.lines around (label + 1 + a.labels) way) (here around (label + 1) (fall_to label)) (others around (label + 1 + a.labels) way)

  in_order_own : (code : List Stm) → Each StmOwns code → Owns (in_turn (map (statement_code plan) code))
  in_order_own [] h = λ around label way. silent_own AnyNumber label (go_on way) (on_silent way)
  in_order_own (s ∷ code) h = before_own s code h.0.0 (in_order_own code h.1)

  plain_own : (ls : List Line) → All (Names AnyNumber) ls → Owns (plain ls)
  plain_own ls h around label way = silent_behind label 0 ls (go_on way) (silent_own AnyNumber label ls h) (on_silent way)

  if_own : (t : Tree) (x y : Option Leading) (a b : Emitted) → Owns a → Owns b → Owns (if_leads plan.seats plan.end t x y a b)
  if_own t x y a b h k around label way = go x y
    where
      test : (sense : Bool) (l : ℕ) → All (Names AnyNumber) (branch_lines plan.seats t sense first l)
      test sense l = branch_made named plan.seats t (all_any (tree_functions t)) sense first l tt

      to_first : (l : Leading) → OwnLabels label b.labels (branch_lines plan.seats t true first (leads_to plan.end around way l) ++ b.lines around label way)
      to_first l = silent_before label b.labels (branch_lines plan.seats t true first (leads_to plan.end around way l)) (b.lines around label way) (test true (leads_to plan.end around way l)) (k around label way)

      to_second : (l : Leading) → OwnLabels label a.labels (branch_lines plan.seats t false first (leads_to plan.end around way l) ++ a.lines around label way)
      to_second l = silent_before label a.labels (branch_lines plan.seats t false first (leads_to plan.end around way l)) (a.lines around label way) (test false (leads_to plan.end around way l)) (h around label way)

      go : (x y : Option Leading) → OwnLabels label (if_leads plan.seats plan.end t x y a b).labels ((if_leads plan.seats plan.end t x y a b).lines around label way)
      go None None =
          let ls = a.lines around (label + 1) (jump_to way.after) in
          let ls' = b.lines around (label + 1 + a.labels) way in
          silent_before label (1 + (a.labels + b.labels)) (branch_lines plan.seats t false first label) (ls ++ (Label label ∷ ls')) (test false label)
          (between_own label a.labels b.labels ls ls' (h around (label + 1) (jump_to way.after)) (k around (label + 1 + a.labels) way))
      go (Some l) None = to_first l
      go (Some l) (Some lead.On) = to_first l
      go None (Some l) = to_second l
      go (Some l) (Some (lead.Out n)) = to_second (lead.Out n)
      go (Some l) (Some (lead.Back n)) = to_second (lead.Back n)

  straight_own : (code : List Stm) → Each StmOwns code → Owns (straight_loop (in_turn (map (statement_code plan) code)))
  straight_own code h around label way =
      let inner = in_turn (map (statement_code plan) code) in
      labelled_own label inner.labels (inner.lines (loop_at label way ∷ around) (label + 1) (jump_to label)) (in_order_own code h (loop_at label way ∷ around) (label + 1) (jump_to label))

  loop_own : (code : List Stm) → Each StmOwns code → Owns (loop_of plan code)
  loop_own [] h = straight_own [] h
  loop_own (s ∷ code) h = by (statement_code plan s).stays h.0.1
    where
      by : (x : Option Tested) → IfSome x TestedOwns → Owns (loop_by plan.seats x (statement_code plan s) (map (statement_code plan) code))
      by None own = straight_own (s ∷ code) h
      by (Some a) own = λ around label way.
          let rest = in_turn (map (statement_code plan) code) in
          let inside = loop_at (label + 1) way ∷ around in
          let test = branch_lines plan.seats a.test a.sense first label in
          turned_own label a.labels rest.labels (a.lines inside (label + 3) (fall_to (label + 2))) (rest.lines inside (label + 3 + a.labels) (fall_to (label + 1))) (test ++ go_on way)
          (own inside (label + 3) (fall_to (label + 2))) (in_order_own code h.1 inside (label + 3 + a.labels) (fall_to (label + 1)))
          (named.after test (go_on way) (branch_made named plan.seats a.test (all_any (tree_functions a.test)) a.sense first label tt) (on_silent way))

  layer : (x : Stm-F Stm) → StmChildren StmOwns x → Owns (code_layer plan (map-Stm Stm Emitted (statement_code plan) x))
  layer (stm.Set t v) h = plain_own _ (set_made named plan.seats t v (all_any _))
  layer (stm.SetGlobal g v) h = plain_own _ (set_global_made named plan.seats g v (all_any _))
  layer (stm.Divide t o a b) h = plain_own _ (divide_made named plan.seats t o a b tt (all_any _) (all_any _))
  layer (stm.Check a i) h = plain_own _ (check_made named plan.seats (size plan a) (tests plan a) i tt (all_any _))
  layer (stm.Read t a i) h = plain_own _ (read_made named plan.seats t (size plan a) (home plan a) (tests plan a) i tt (all_any _))
  layer (stm.Write a i v) h = plain_own _ (write_made named plan.seats (size plan a) (home plan a) (tests plan a) i v tt (all_any _) (all_any _))
  layer (stm.Zero a) h = λ around label way.
      silent_behind label 2 (zero_lines label (plan.array_at a) (plan.array_size a)) (go_on way) (zero_own label (plan.array_at a) (plan.array_size a)) (on_silent way)
  layer (stm.Return v) h = λ around label way.
      silent_behind label 0 (result_lines plan.seats v) (go_to way plan.end) (silent_own AnyNumber label (result_lines plan.seats v) (result_made named plan.seats v (all_any _))) (go_to_made named plan.seats way plan.end tt)
  layer (stm.Break n) h = λ around label way.
      let to = (enclosing_at around n plan.end).end in silent_own AnyNumber label (go_to way to) (go_to_made named plan.seats way to tt)
  layer (stm.Back n) h = λ around label way. let to = (enclosing_at around n plan.end).start in silent_own AnyNumber label (Jump 0 to ∷ []) (named.jump to tt)
  layer (stm.Call r f args) h = plain_own _ (calls.call r f args (all_any _) (all_any (callee_functions f)) (all_any (callee_read f)))
  layer (stm.Known r k args) h = plain_own _ (calls.known r k args (all_any _))
  layer (stm.Block b) h = λ around label way. in_order_own b h (block_at way ∷ around) label way
  layer (stm.Loop b) h = loop_own b h
  layer (stm.If t a b) h =
      let one = in_turn (map (statement_code plan) a) in
      let other = in_turn (map (statement_code plan) b) in
      if_own t one.alone other.alone one other (in_order_own a h.0) (in_order_own b h.1)

  stays_layer : (x : Stm-F Stm) → StmChildren StmOwns x → IfSome (code_layer plan (map-Stm Stm Emitted (statement_code plan) x)).stays TestedOwns
  stays_layer (stm.If t a b) h =
      let one = in_turn (map (statement_code plan) a) in
      let other = in_turn (map (statement_code plan) b) in
      if_stays TestedOwns plan.seats plan.end t one.alone other.alone one other (λ e. in_order_own a h.0) (λ e. in_order_own b h.1)
  stays_layer (stm.Loop b) h = loop_stays TestedOwns plan.seats (map (statement_code plan) b)
  stays_layer _ h = tt

  statement_owns : (s : Stm) → StmOwns s
  statement_owns = stm_ind StmOwns (λ x h. subst (λ c. Owns c × IfSome c.stays TestedOwns) (sym (code_roll plan x)) (layer x h, stays_layer x h))

pub labels_own : LabelsAreOwn
labels_own plan calls code = in_order_own plan calls code (stms_ind (StmOwns plan calls) (statement_owns plan calls) code)

-- ---- how many labels there are

module _ (plan : Plan) where
  -- and one is left for a label behind it
  abbrev TestedFew : ℕ → Tested → Type 0
  TestedFew n a = a.labels + 3 ≤ 3 * n

  abbrev Few : ℕ → Emitted → Type 0
  Few n code = (code.labels + 1 ≤ 3 * n) × IfSome code.stays (TestedFew n)

  abbrev StmFew : Stm → Type 0
  StmFew s = Few (stm_size s) (statement_code plan s)

  before_few : (s : Stm) (code : List Stm) → StmFew s → (in_turn (map (statement_code plan) code)).labels ≤ 3 * total (map stm_size code)
      → (in_turn (map (statement_code plan) (s ∷ code))).labels ≤ 3 * total (map stm_size (s ∷ code))
  before_few s [] h k = omega (arith, h.0)
  before_few s (t ∷ code) h k = omega (arith, h.0, k)

  in_order_few : (code : List Stm) → Each StmFew code → (in_turn (map (statement_code plan) code)).labels ≤ 3 * total (map stm_size code)
  in_order_few [] h = omega arith
  in_order_few (s ∷ code) h = before_few s code h.0 (in_order_few code h.1)

  if_few : (t : Tree) (x y : Option Leading) (a b : Emitted) (n k : ℕ) → a.labels ≤ 3 * n → b.labels ≤ 3 * k → (if_leads plan.seats plan.end t x y a b).labels + 1 ≤ 3 * (n + k) + 3
  if_few t None None a b n k h g = omega (arith, h, g)
  if_few t (Some l) None a b n k h g = omega (arith, h, g)
  if_few t (Some l) (Some lead.On) a b n k h g = omega (arith, h, g)
  if_few t None (Some l) a b n k h g = omega (arith, h, g)
  if_few t (Some l) (Some (lead.Out m)) a b n k h g = omega (arith, h, g)
  if_few t (Some l) (Some (lead.Back m)) a b n k h g = omega (arith, h, g)

  loop_few : (code : List Stm) → Each StmFew code → (loop_of plan code).labels + 1 ≤ 3 * total (map stm_size code) + 3
  loop_few [] h = omega arith
  loop_few (s ∷ code) h = by (statement_code plan s).stays h.0.1
    where
      by : (x : Option Tested) → IfSome x (TestedFew (stm_size s))
          → (loop_by plan.seats x (statement_code plan s) (map (statement_code plan) code)).labels + 1 ≤ 3 * total (map stm_size (s ∷ code)) + 3
      by None few = omega (arith, in_order_few (s ∷ code) h)
      by (Some a) few = omega (arith, few, in_order_few code h.1)

  few_layer : (x : Stm-F Stm) → StmChildren StmFew x → (code_layer plan (map-Stm Stm Emitted (statement_code plan) x)).labels + 1 ≤ 3 * layer_size (map-Stm Stm ℕ stm_size x)
  few_layer (stm.If t a b) h =
      let one = in_turn (map (statement_code plan) a) in
      let other = in_turn (map (statement_code plan) b) in
      let n = total (map stm_size a) in
      let k = total (map stm_size b) in
      omega (arith, if_few t one.alone other.alone one other n k (in_order_few a h.0) (in_order_few b h.1))
  few_layer (stm.Loop b) h =
      let few = loop_few b h in omega (arith, few)
  few_layer (stm.Block b) h = omega (arith, in_order_few b h)
  few_layer (stm.Set t v) h = omega arith
  few_layer (stm.SetGlobal g v) h = omega arith
  few_layer (stm.Divide t o a b) h = omega arith
  few_layer (stm.Check a i) h = omega arith
  few_layer (stm.Read t a i) h = omega arith
  few_layer (stm.Write a i v) h = omega arith
  few_layer (stm.Zero a) h = omega arith
  few_layer (stm.Break n) h = omega arith
  few_layer (stm.Back n) h = omega arith
  few_layer (stm.Call r f args) h = omega arith
  few_layer (stm.Known r k args) h = omega arith
  few_layer (stm.Return v) h = omega arith

  stays_few : (x : Stm-F Stm) → StmChildren StmFew x → IfSome (code_layer plan (map-Stm Stm Emitted (statement_code plan) x)).stays (TestedFew (layer_size (map-Stm Stm ℕ stm_size x)))
  stays_few (stm.If t a b) h =
      let one = in_turn (map (statement_code plan) a) in
      let other = in_turn (map (statement_code plan) b) in
      if_stays (TestedFew (layer_size (map-Stm Stm ℕ stm_size (stm.If t a b)))) plan.seats plan.end t one.alone other.alone one other (λ e. omega (arith, in_order_few a h.0)) (λ e. omega (arith, in_order_few b h.1))
  stays_few (stm.Loop b) h = loop_stays (TestedFew (layer_size (map-Stm Stm ℕ stm_size (stm.Loop b)))) plan.seats (map (statement_code plan) b)
  stays_few _ h = tt

  statement_few : (s : Stm) → StmFew s
  statement_few =
      stm_ind StmFew
      (λ x h. subst (λ n. Few n (statement_code plan (roll-Stm x))) (sym (size_roll x)) (subst (Few (layer_size (map-Stm Stm ℕ stm_size x))) (sym (code_roll plan x)) (few_layer x h, stays_few x h)))

pub labels_few : LabelsAreFew
labels_few plan code = in_order_few plan code (stms_ind (StmFew plan) (statement_few plan) code)
