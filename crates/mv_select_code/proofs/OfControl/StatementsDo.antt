-- The code of statements does what they mean, at each bound, by induction over the statements.
use Rattle.std.proofs.Common.{◌≡◌, ℕ, ◌+◌, ◌<◌, ◌≤◌, Bool, true, false, cond, ltb, ◌&&◌, eqb, List, [], ◌∷◌, ◌++◌, ◌*◌, length, map, Option, Some, None, IfSome, slice_index, slice_set, refl, sym, ap, ◌∙◌, subst, arith}
use Rattle.std.proofs.lemmas.Bool.{ltb-true}
use Rattle.mv_isa.specs.declared.labelled.Line.{Line}
use Rattle.mv_isa.specs.declared.labelled.Line.TheVariants.{Label}
use Rattle.mv_isa.specs.Execution.{Access}
use Rattle.mv_ir.specs.declared.tree.Tree.{Tree}
use Rattle.mv_ir.specs.declared.stm.Array.{Array}
use Rattle.mv_ir.specs.declared.stm.Array.TheVariants as array
use Rattle.mv_ir.specs.declared.stm.Stm.{Stm}
use Rattle.mv_ir.specs.declared.stm.Stm.TheOpen.{Stm-F}
use Rattle.mv_ir.specs.declared.stm.Stm.TheOpen as stm
use Rattle.mv_ir.specs.declared.stm.Stm.TheViews.{roll-Stm}
use Rattle.mv_ir.specs.declared.stm.Stm.TheFolds.{map-Stm}
use Rattle.mv_ir.specs.World as ir
use Rattle.mv_bindings.specs.Traps as trap
use Rattle.mv_ir.specs.Outcome.{State, End, Returned, Trapped, More, Stuck, Outcome, Next, Leaves, Restarts, Ends, Run, Call, Calls, Bound, Meaning, spend, now, goes_on, then_do, in_order}
use Rattle.mv_ir.specs.Meaning.{Goal, Nowhere, Null, At, Inside, of_tree, elements, with_temp, with_elements, traps, call_end, within, made_call, call_to, goal, statement, meaning, outside as beyond}
use Rattle.mv_ir.specs.Trees.{nodes, divide}
use Rattle.mv_ir.proofs.Induction.{Each, StmChildren, stm_ind, stms_ind}
use Rattle.mv_ir.proofs.Keeping.{meaning_roll}
use Rattle.mv_ir.specs.WellFormed.{all_true}
use Rattle.mv_select_code.specs.Trees.TreeCode.{is_taken, branch_lines}
use Rattle.mv_select_code.specs.Statements.StatementCode.{first}
use Rattle.mv_select_code.specs.Statements.Frames.{Site, IsRead, IsWritten, IsFine, IsFit}
use Rattle.mv_select_code.proofs.OfStatements.ScalarStatements.{set_done, set_global_done, divide_done}
use Rattle.mv_select_code.proofs.OfStatements.ArrayStatements.{check_done, read_done, write_done}
use Rattle.mv_select_code.specs.declared.control.enclosing.Enclosing.{Enclosing}
use Rattle.mv_select_code.specs.declared.control.enclosing.Leading.{Leading}
use Rattle.mv_select_code.specs.declared.control.enclosing.Leading.TheVariants as lead
use Rattle.mv_select_code.specs.declared.control.enclosing.Way.{Way}
use Rattle.mv_select_code.specs.Control.FlowCode.{CallLines, Plan, Tested, Emitted, fall_to, jump_to, leads_to, plain, if_leads, if_code, in_turn, loop_at, block_at, straight_loop, turned_loop, loop_by, zero_lines, code_layer, statement_code, loop_of, may_read, may_write, fine_layer, is_fine_statement}
use Rattle.mv_select_code.specs.Control.Runs.{Machine, IsRun}
use Rattle.mv_select_code.specs.Control.Flow.{IsWithin}
use Rattle.mv_select_code.specs.Control.Laws.{plan_of, uses_of, LinesDo, CallsDo, CodeDoes}
use Rattle.mv_select_code.proofs.OfControl.Composition.{Gets, rest, arrived, within_within, both_get, last_gets}
use Rattle.mv_select_code.proofs.OfControl.Control.{Falls, IsAhead, led, nothing_gets, break_gets, back_gets, plain_gets, return_gets, block_stands, loop_stands, branch_gets, either_gets, IsTested, turned_stands, gets_same}
use Rattle.mv_select_code.proofs.OfControl.Equations.{code_roll, fine_roll, if_alone, if_stays, loop_alone, loop_stays}
use Rattle.mv_select_code.specs.Statements.Laws as statements
use Rattle.mv_select_code.proofs.OfControl.Leaves.{SameOutside, same_either, same_elements, same_beyond, leaf_does}
use Rattle.mv_select_code.proofs.OfControl.Walk.{placed_split}
use Rattle.mv_select_code.proofs.OfControl.Zeroing.{zero_stands}
use Rattle.mv_select_code.proofs.OfControl.Course.{course}
use Rattle.mv_num.proofs.Booleans.{and_right, and_left}

-- ---- what leaves nothing behind

ahead_either : (b : Bool) (x y : Outcome) → IsAhead x → IsAhead y → IsAhead (cond b x y)
ahead_either true x y h k = h
ahead_either false x y h k = k

call_ahead : (r : Option ℕ) (s : State) (e : End) → IsAhead (call_end r s e)
call_ahead None s (Returned v w) = tt
call_ahead None s (Trapped c w) = tt
call_ahead None s (More w) = tt
call_ahead None s Stuck = tt
call_ahead (Some t) s (Returned None w) = tt
call_ahead (Some t) s (Returned (Some v) w) = tt
call_ahead (Some t) s (Trapped c w) = tt
call_ahead (Some t) s (More w) = tt
call_ahead (Some t) s Stuck = tt

-- where the depth is not used up
limited_ahead : (b : Bool) (run : Run) (s : State) → IsAhead run.outcome → IsAhead (cond b run (now (traps trap.call_too_deep s))).outcome
limited_ahead true run s h = h
limited_ahead false run s h = tt

goal_ahead : (g : Goal) (depth live : ℕ) (r : Option ℕ) (args : List ℕ) (bound : Bound) (s : State) → IsAhead (call_to g depth live r args bound s).outcome
goal_ahead Nowhere depth live r args bound s = tt
goal_ahead Null depth live r args bound s = tt
goal_ahead (At f) depth live r args bound s =
    limited_ahead (ltb depth trap.depth_limit) (within bound (λ (calls : Calls). made_call r s (calls f args depth live s.world)) s) s (deeper bound)
  where
    deeper : (bound : Bound) → IsAhead (within bound (λ (calls : Calls). made_call r s (calls f args depth live s.world)) s).outcome
    deeper [] = tt
    deeper (calls ∷ below) = call_ahead r s (calls f args depth live s.world).end
goal_ahead Inside depth live r args bound s = limited_ahead (ltb depth trap.depth_limit) (within bound (λ (calls : Calls). made_call r s nothing) s) s (inside bound)
  where
    nothing : Call
    nothing = record { cost = 0; end = Returned None s.world }

    inside : (bound : Bound) → IsAhead (within bound (λ (calls : Calls). made_call r s nothing) s).outcome
    inside [] = tt
    inside (calls ∷ below) = call_ahead r s nothing.end

-- ---- code that only leads somewhere

last_outcome : (o : Outcome) → (goes_on o (λ l. now (Next l))).outcome ≡ o
last_outcome (Next l) = refl
last_outcome (Leaves n l) = refl
last_outcome (Restarts n l) = refl
last_outcome (Ends e) = refl

module _ (plan : Plan) (setting : ir.Setting) (frame : ir.Frame) where
  -- a statement that only leads somewhere means just that
  abbrev LeadsAlone : Emitted → Meaning → Type 0
  LeadsAlone code m = (l : Leading) → code.alone ≡ Some l → (bound : Bound) (x : State) → (m bound x).outcome ≡ led l x

  alone_layer : (x : Stm-F Stm) → LeadsAlone (code_layer plan (map-Stm Stm Emitted (statement_code plan) x)) (statement setting frame (map-Stm Stm Meaning (meaning setting frame) x))
  alone_layer (stm.If t a b) l e bound x =
      let one = in_turn (map (statement_code plan) a) in
      let other = in_turn (map (statement_code plan) b) in
      absurd (let none = if_alone plan.seats plan.end t one.alone other.alone one other in cc)
  alone_layer (stm.Loop b) l e bound x = absurd (let none = loop_alone plan.seats (map (statement_code plan) b) in cc)
  alone_layer (stm.Break n) l e bound x = let same : lead.Out n ≡ l = cc in ap (λ l. led l x) same
  alone_layer (stm.Back n) l e bound x = let same : lead.Back n ≡ l = cc in ap (λ l. led l x) same
  alone_layer _ l e bound x = absurd cc

  statement_alone : (t : Stm) → LeadsAlone (statement_code plan t) (meaning setting frame t)
  statement_alone =
      stm_ind (λ t. LeadsAlone (statement_code plan t) (meaning setting frame t))
      (λ x h. subst (LeadsAlone (statement_code plan (roll-Stm x))) (sym (meaning_roll setting frame x))
      (subst (λ c. LeadsAlone c (statement setting frame (map-Stm Stm Meaning (meaning setting frame) x))) (sym (code_roll plan x)) (alone_layer x)))

  list_alone : (code : List Stm) → LeadsAlone (in_turn (map (statement_code plan) code)) (in_order (map (meaning setting frame) code))
  list_alone [] l e bound x = let same : lead.On ≡ l = cc in ap (λ l. led l x) same
  list_alone (t ∷ []) l e bound x = last_outcome (meaning setting frame t bound x).outcome ∙ statement_alone t l e bound x
  list_alone (t ∷ u ∷ code) l e bound x = absurd cc

module _ {M : Type 0} (access : Access M) (s : Site) (setting : ir.Setting) (frame : ir.Frame) (fit : IsFit s access setting frame) (machine : Machine M) (ok : IsRun access s machine)
    (is_fine : Tree → Bool) (fine_trees : (t : Tree) → is_fine t ≡ true → IsFine s setting frame t) (place : ℕ → ℕ) (end budget far : ℕ) (top : Bound) (calls : CallLines)
    (calls_do : CallsDo access s setting frame machine place end budget far is_fine top calls) where
  open course access s machine place end budget far use {Placed as P, Here as H, Does as D}

  abbrev Code : Stm → Emitted
  Code = statement_code (plan_of s end calls)

  abbrev Fine : Stm → Bool
  Fine = is_fine_statement is_fine s.may_ask s.temps (uses_of s)

  abbrev Mean : Stm → Meaning
  Mean = meaning setting frame

  abbrev Lines : List Line → Stm-F Meaning → Type 0
  Lines = LinesDo access s setting frame machine place end budget far is_fine top

  abbrev G : (bar spare k : ℕ) → List Enclosing → Way → (pc : ℕ) → (State → Run) → Type 0
  G = Gets access s machine place end budget far

  -- code does what something means, at each bound up to the greatest
  abbrev PerformsBy : (List Enclosing → ℕ → Way → List Line) → Meaning → Type 0
  PerformsBy lines m =
      (bar spare label : ℕ) → bar ≤ label → (around : List Enclosing) (way : Way) (pc stop : ℕ) (bound : Bound) → IsWithin bound top → P (lines around label way) pc stop → Falls place way stop
      → G bar spare (length bound) around way pc (m bound)

  abbrev Performs : Emitted → Meaning → Type 0
  Performs code m = PerformsBy code.lines m

  abbrev V : Tree → State → ℕ
  V = of_tree setting frame

  -- What a test leads to which else leaves what encloses it: by the test the statement does that, or it leaves.
  pub record Stays (m : Meaning) (a : Tested) : Type 0 where
    pub fine : IsFine s setting frame a.test
    pub inner : Meaning
    pub does : PerformsBy a.lines inner
    pub on : (b : Bound) (x : State) → is_taken a.sense (V a.test x) ≡ true → m b x ≡ spend (8 + 3 * nodes a.test) (inner b x)
    pub leaves : (b : Bound) (x : State) → is_taken a.sense (V a.test x) ≡ false → (r : Run) × (m b x ≡ spend (8 + 3 * nodes a.test) r) × (r.outcome ≡ Leaves 0 x)

  abbrev BothDo : Emitted → Meaning → Type 0
  BothDo code m = Performs code m × IfSome code.stays (Stays m)

  abbrev StmDoes : Stm → Type 0
  StmDoes t = Fine t ≡ true → BothDo (Code t) (Mean t)

  abbrev fine_statement : Stm-F Stm → Bool
  fine_statement x = fine_layer is_fine s.may_ask s.temps (uses_of s) (map-Stm Stm Bool Fine x)

  abbrev LayerDoes : Stm-F Stm → Type 0
  LayerDoes x = fine_statement x ≡ true → Performs (code_layer (plan_of s end calls) (map-Stm Stm Emitted Code x)) (statement setting frame (map-Stm Stm Meaning Mean x))

  abbrev LayerStays : Stm-F Stm → Type 0
  LayerStays x = fine_statement x ≡ true → IfSome (code_layer (plan_of s end calls) (map-Stm Stm Emitted Code x)).stays (Stays (statement setting frame (map-Stm Stm Meaning Mean x)))

  from_layer : (x : Stm-F Stm) → LayerDoes x → LayerStays x → StmDoes (roll-Stm x)
  from_layer x h k fine =
      let fine_too = sym (fine_roll is_fine s.may_ask s.temps (uses_of s) x) ∙ fine in
      subst (BothDo (Code (roll-Stm x))) (sym (meaning_roll setting frame x))
      (subst (λ c. BothDo c (statement setting frame (map-Stm Stm Meaning Mean x))) (sym (code_roll (plan_of s end calls) x)) (h fine_too, k fine_too))

  -- a statement before others
  before_does : (t : Stm) → Performs (Code t) (Mean t) → (code : List Stm) → Performs (in_turn (map Code code)) (in_order (map Mean code)) → Performs (in_turn (map Code (t ∷ code))) (in_order (map Mean (t ∷ code)))
  before_does t here [] others bar spare label le around way pc stop bound under p falls =
      last_gets access s machine place end budget far bar spare (length bound) around way pc (Mean t bound) (here bar spare label le around way pc stop bound under p falls)
  before_does t here (u ∷ code) others bar spare label le around way pc stop bound under p falls =
      let a = Code t in
      let b = in_turn (map Code (u ∷ code)) in
      let q = placed_split machine.text place s.entry (a.lines around (label + 1) (fall_to label)) (Label label ∷ b.lines around (label + 1 + a.labels) way) pc stop p in
      both_get access s machine place end budget far bar label spare (length bound) around way pc q.2.0 (Mean t bound) (in_order (map Mean (u ∷ code)) bound) le (q.2.1.label ∙ sym q.2.1.stands)
      (λ spare. here bar spare (label + 1) (omega (arith, le)) around (fall_to label) pc q.0 bound under q.1 (λ e. q.2.1.label))
      (others bar spare (label + 1 + a.labels) (omega (arith, le)) around way q.2.0 stop bound under q.2.2 falls)

  -- statements in order
  code_does : (code : List Stm) → Each StmDoes code → all_true (map Fine code) ≡ true → Performs (in_turn (map Code code)) (in_order (map Mean code))
  code_does [] h fine =
      (λ bar spare label le around way pc stop bound under p falls.
      nothing_gets access s setting frame fit machine ok place end budget far bar spare (length bound) pc stop around way p falls)
  code_does (t ∷ code) h fine =
      before_does t (h.0 (and_left (Fine t) (all_true (map Fine code)) fine)).0 code (code_does code h.1 (and_right (Fine t) (all_true (map Fine code)) fine))

  -- lines without control
  plain_does : (lines : List Line) (x : Stm-F Meaning) → ((bound : Bound) (l : State) → IsAhead (statement setting frame x bound l).outcome) → Lines lines x → Performs (plain lines) (statement setting frame x)
  plain_does lines x ahead does bar spare label le around way pc stop bound under p falls =
      plain_gets access s setting frame fit machine ok place end budget far bar spare (length bound) pc stop around way lines (statement setting frame x bound) (ahead bound) p falls
      (λ spare next q. does spare around pc next bound under q)

  leaf : (lines : List Line) (x : Stm-F Meaning) → statements.Does access s setting frame lines x → ((bound : Bound) (l : State) → SameOutside l.world (statement setting frame x bound l).outcome)
      → ((bound : Bound) (l : State) → IsAhead (statement setting frame x bound l).outcome) → Performs (plain lines) (statement setting frame x)
  leaf lines x done same ahead = plain_does lines x ahead (leaf_does access s setting frame machine ok place end budget far is_fine top lines x done same)

  below : (t : ℕ) (b : Bool) → (ltb t s.temps && b) ≡ true → t < s.temps
  below t b e = ltb-true t s.temps (and_left (ltb t s.temps) b e)

  array_read : (a : Array) → may_read is_fine s.may_ask s.temps (uses_of s) a ≡ true → IsRead s a
  array_read (array.Global g) e = e
  array_read (array.Local a) e = tt
  array_read (array.SureGlobal g n) e = e
  array_read (array.SureLocal a n) e = tt

  array_written : (a : Array) → may_write is_fine s.may_ask s.temps (uses_of s) a ≡ true → IsWritten s a
  array_written (array.Global g) e = e
  array_written (array.Local a) e = tt
  array_written (array.SureGlobal g n) e = e
  array_written (array.SureLocal a n) e = tt

  -- a branch, by where its lists lead that do nothing else
  if_does : (t : Tree) (a b : List Stm) → IsFine s setting frame t → Performs (in_turn (map Code a)) (in_order (map Mean a)) → Performs (in_turn (map Code b)) (in_order (map Mean b))
      → (x y : Option Leading) → (in_turn (map Code a)).alone ≡ x → (in_turn (map Code b)).alone ≡ y
      → Performs (if_leads s.seats end t x y (in_turn (map Code a)) (in_turn (map Code b))) (statement setting frame (stm.If t (map Mean a) (map Mean b)))
  if_does t a b fine da db x y ex ey bar spare label le around way pc stop bound under p falls = go x y ex ey p
    where
      one : Emitted
      one = in_turn (map Code a)

      other : Emitted
      other = in_turn (map Code b)

      A : State → Run
      A = in_order (map Mean a) bound

      B : State → Run
      B = in_order (map Mean b) bound

      Goal-is : (State → Run) → Type 0
      Goal-is m = G bar spare (length bound) around way pc m

      same : (m : State → Run) → ((x : State) → statement setting frame (stm.If t (map Mean a) (map Mean b)) bound x ≡ m x) → Goal-is m → Goal-is (statement setting frame (stm.If t (map Mean a) (map Mean b)) bound)
      same m e h = gets_same access s setting frame fit machine ok place end budget far bar spare (length bound) pc around way m (statement setting frame (stm.If t (map Mean a) (map Mean b)) bound) e h

      turn : (d : Bool) (x y : Run) → cond d y x ≡ cond (cond d false true) x y
      turn true x y = refl
      turn false x y = refl

      keep : (d : Bool) (x y : Run) → cond d y x ≡ cond (cond d true false) y x
      keep true x y = refl
      keep false x y = refl

      to_first : (l : Leading) → one.alone ≡ Some l → P (branch_lines s.seats t true first (leads_to end around way l) ++ other.lines around label way) pc stop
          → Goal-is (statement setting frame (stm.If t (map Mean a) (map Mean b)) bound)
      to_first l e p =
          same (λ x. spend (8 + 3 * nodes t) (cond (is_taken true (V t x)) (A x) (B x))) (λ x. ap (spend (8 + 3 * nodes t)) (turn (eqb (V t x) 0) (A x) (B x)))
          (branch_gets access s setting frame fit machine ok place end budget far bar spare (length bound) pc stop around way t true l (other.lines around label way) A B fine p
          (λ x. list_alone (plan_of s end calls) setting frame a l e bound x) (λ mid q. db bar spare label le around way mid stop bound under q falls))

      to_second : (l : Leading) → other.alone ≡ Some l → P (branch_lines s.seats t false first (leads_to end around way l) ++ one.lines around label way) pc stop
          → Goal-is (statement setting frame (stm.If t (map Mean a) (map Mean b)) bound)
      to_second l e p =
          same (λ x. spend (8 + 3 * nodes t) (cond (is_taken false (V t x)) (B x) (A x))) (λ x. ap (spend (8 + 3 * nodes t)) (keep (eqb (V t x) 0) (A x) (B x)))
          (branch_gets access s setting frame fit machine ok place end budget far bar spare (length bound) pc stop around way t false l (one.lines around label way) B A fine p
          (λ x. list_alone (plan_of s end calls) setting frame b l e bound x) (λ mid q. da bar spare label le around way mid stop bound under q falls))

      go : (x y : Option Leading) → one.alone ≡ x → other.alone ≡ y → P ((if_leads s.seats end t x y one other).lines around label way) pc stop
          → Goal-is (statement setting frame (stm.If t (map Mean a) (map Mean b)) bound)
      go None None ex ey p =
          same (λ x. spend (8 + 3 * nodes t) (cond (is_taken false (V t x)) (B x) (A x))) (λ x. ap (spend (8 + 3 * nodes t)) (keep (eqb (V t x) 0) (A x) (B x)))
          (either_gets access s setting frame fit machine ok place end budget far bar label spare (length bound) pc stop around way t
          (one.lines around (label + 1) (jump_to way.after)) (other.lines around (label + 1 + one.labels) way) A B fine p
          (λ mid next q. da bar spare (label + 1) (omega (arith, le)) around (jump_to way.after) mid next bound under q (λ e. absurd cc))
          (λ mid q. db bar spare (label + 1 + one.labels) (omega (arith, le)) around way mid stop bound under q falls))
      go (Some l) None ex ey p = to_first l ex p
      go (Some l) (Some lead.On) ex ey p = to_first l ex p
      go None (Some l) ex ey p = to_second l ey p
      go (Some l) (Some (lead.Out n)) ex ey p = to_second (lead.Out n) ey p
      go (Some l) (Some (lead.Back n)) ex ey p = to_second (lead.Back n) ey p

  -- what a branch stays for
  if_stays_for : (t : Tree) (a b : List Stm) → IsFine s setting frame t → Performs (in_turn (map Code a)) (in_order (map Mean a)) → Performs (in_turn (map Code b)) (in_order (map Mean b))
      → IfSome (if_code s.seats end t (in_turn (map Code a)) (in_turn (map Code b))).stays (Stays (statement setting frame (stm.If t (map Mean a) (map Mean b))))
  if_stays_for t a b fine da db =
      let one = in_turn (map Code a) in
      let other = in_turn (map Code b) in
      if_stays (Stays (statement setting frame (stm.If t (map Mean a) (map Mean b)))) s.seats end t one.alone other.alone one other
      (λ e. record {
        fine = fine;
        inner = in_order (map Mean a);
        does = da;
        on = λ u x is. taken_first (eqb (V t x) 0) (in_order (map Mean b) u x) (in_order (map Mean a) u x) is;
        leaves = λ u x is. (in_order (map Mean b) u x, passed_first (eqb (V t x) 0) (in_order (map Mean b) u x) (in_order (map Mean a) u x) is, list_alone (plan_of s end calls) setting frame b (lead.Out 0) e u x);
      })
      (λ e. record {
        fine = fine;
        inner = in_order (map Mean b);
        does = db;
        on = λ u x is. taken_second (eqb (V t x) 0) (in_order (map Mean b) u x) (in_order (map Mean a) u x) is;
        leaves = λ u x is. (in_order (map Mean a) u x, passed_second (eqb (V t x) 0) (in_order (map Mean b) u x) (in_order (map Mean a) u x) is, list_alone (plan_of s end calls) setting frame a (lead.Out 0) e u x);
      })
    where
      c : ℕ
      c = 8 + 3 * nodes t

      taken_first : (d : Bool) (x y : Run) → cond d false true ≡ true → spend c (cond d x y) ≡ spend c y
      taken_first true x y e = absurd cc
      taken_first false x y e = refl

      passed_first : (d : Bool) (x y : Run) → cond d false true ≡ false → spend c (cond d x y) ≡ spend c x
      passed_first true x y e = refl
      passed_first false x y e = absurd cc

      taken_second : (d : Bool) (x y : Run) → cond d true false ≡ true → spend c (cond d x y) ≡ spend c x
      taken_second true x y e = refl
      taken_second false x y e = absurd cc

      passed_second : (d : Bool) (x y : Run) → cond d true false ≡ false → spend c (cond d x y) ≡ spend c y
      passed_second true x y e = absurd cc
      passed_second false x y e = refl

  -- ---- loops

  straight_does : (code : List Stm) → Each StmDoes code → all_true (map Fine code) ≡ true → Performs (straight_loop (in_turn (map Code code))) (statement setting frame (stm.Loop (map Mean code)))
  straight_does code h fine bar spare label le around way pc stop bound under p falls =
      loop_stands access s setting frame fit machine ok place end budget far bar label spare pc stop around way bound (map Mean code) ((in_turn (map Code code)).lines (loop_at label way ∷ around) (label + 1) (jump_to label)) le p
      (λ spare below start le' q. code_does code h fine (label + 1) spare (label + 1) (omega arith) (loop_at label way ∷ around) (jump_to label) start stop below (within_within below bound top le' under) q (λ e. absurd cc))

  -- a turn that begins with such a test
  turn_is : (m : Meaning) (a : Tested) (st : Stays m a) (others : List Meaning)
      → IsTested access s setting frame fit machine ok place end budget far a.test a.sense (in_order (m ∷ others)) (λ b x. then_do (st.inner b x) (in_order others b))
  turn_is m a st others = record {
    stays = λ b x is.
        let same = st.on b x is in
        (ap (λ (r : Run). (then_do r (in_order others b)).outcome) same, cost (8 + 3 * nodes a.test) (m b x) (st.inner b x) (in_order others b) same);
    leaves = λ b x is.
        let r = st.leaves b x is in
        let same = ap (λ (r : Run). r.outcome) r.1 ∙ r.2 in
        (ap (λ o. (goes_on o (in_order others b)).outcome) same, left (8 + 3 * nodes a.test) (m b x) r.0 (in_order others b) r.1);
  }
    where
      cost : (c : ℕ) (r q : Run) (f : State → Run) → r ≡ spend c q → c + (then_do q f).cost ≤ (then_do r f).cost
      cost c r q f same = subst (λ z. c + (then_do q f).cost ≤ (then_do z f).cost) (sym same) (omega arith)

      left : (c : ℕ) (r q : Run) (f : State → Run) → r ≡ spend c q → c ≤ (then_do r f).cost
      left c r q f same = subst (λ z. c ≤ (then_do z f).cost) (sym same) (omega arith)

  turned_does : (m : Meaning) (a : Tested) → Stays m a → (rest : Emitted) (others : List Meaning) → Performs rest (in_order others) → Performs (turned_loop s.seats a rest) (statement setting frame (stm.Loop (m ∷ others)))
  turned_does m a st rest others does bar spare label le around way pc stop bound under p falls =
      let inside = loop_at (label + 1) way ∷ around in
      turned_stands access s setting frame fit machine ok place end budget far a.test a.sense st.fine (in_order (m ∷ others)) st.inner (in_order others) (turn_is m a st others) bar label spare pc stop around way bound
      (a.lines inside (label + 3) (fall_to (label + 2))) (rest.lines inside (label + 3 + a.labels) (fall_to (label + 1))) le p falls
      (λ spare b at next w q e. st.does bar spare (label + 3) (omega (arith, le)) inside (fall_to (label + 2)) at next b (within_within b bound top w under) q (λ f. e))
      (λ spare b at next w q e. does bar spare (label + 3 + a.labels) (omega (arith, le)) inside (fall_to (label + 1)) at next b (within_within b bound top w under) q (λ f. e))

  loop_does : (code : List Stm) → Each StmDoes code → all_true (map Fine code) ≡ true → Performs (loop_of (plan_of s end calls) code) (statement setting frame (stm.Loop (map Mean code)))
  loop_does [] h fine = straight_does [] h fine
  loop_does (t ∷ code) h fine = by (Code t).stays (h.0 (and_left (Fine t) (all_true (map Fine code)) fine)).1
    where
      by : (x : Option Tested) → IfSome x (Stays (Mean t)) → Performs (loop_by s.seats x (Code t) (map Code code)) (statement setting frame (stm.Loop (map Mean (t ∷ code))))
      by None st = straight_does (t ∷ code) h fine
      by (Some a) st = turned_does (Mean t) a st (in_turn (map Code code)) (map Mean code) (code_does code h.1 (and_right (Fine t) (all_true (map Fine code)) fine))

  layer : (x : Stm-F Stm) → StmChildren StmDoes x → LayerDoes x
  layer (stm.Set t v) h fine =
      leaf _ (stm.Set t v) (set_done access s setting frame fit t v (below t (is_fine v) fine) (fine_trees v (and_right (ltb t s.temps) (is_fine v) fine))) (λ bound l. refl) (λ bound l. tt)
  layer (stm.SetGlobal g v) h fine =
      let has_word = ltb 0 (s.size g) in
      let may = has_word && s.reach.is_written g in
      let global = and_left may (is_fine v) fine in
      leaf _ (stm.SetGlobal g v)
      (set_global_done access s setting frame fit g v (ltb-true 0 (s.size g) (and_left has_word (s.reach.is_written g) global)) (and_right has_word (s.reach.is_written g) global)
      (fine_trees v (and_right may (is_fine v) fine))) (λ bound l. refl) (λ bound l. tt)
  layer (stm.Divide t o a b) h fine =
      let both = and_right (ltb t s.temps) (is_fine a && is_fine b) fine in
      leaf _ (stm.Divide t o a b)
      (divide_done access s setting frame fit t o a b (below t (is_fine a && is_fine b) fine) (fine_trees a (and_left (is_fine a) (is_fine b) both)) (fine_trees b (and_right (is_fine a) (is_fine b) both)))
      (λ bound l. same_either l.world (eqb (V b l) 0) (traps 1 l) (Next (with_temp l t (divide o (V a l) (V b l)))) refl refl)
      (λ bound l. ahead_either (eqb (V b l) 0) (traps 1 l) (Next (with_temp l t (divide o (V a l) (V b l)))) tt tt)
  layer (stm.Check a i) h fine =
      leaf _ (stm.Check a i) (check_done access s setting frame fit a i (fine_trees i fine))
      (λ bound l. same_either l.world (ltb (V i l) (length (elements a l))) (Next l) (Ends (beyond a (V i l) l.world)) refl (same_beyond a (V i l) l.world))
      (λ bound l. ahead_either (ltb (V i l) (length (elements a l))) (Next l) (Ends (beyond a (V i l) l.world)) tt tt)
  layer (stm.Read t a i) h fine =
      let may = may_read is_fine s.may_ask s.temps (uses_of s) a in
      let rest = and_right (ltb t s.temps) (may && is_fine i) fine in
      leaf _ (stm.Read t a i)
      (read_done access s setting frame fit t a i (below t (may && is_fine i) fine) (array_read a (and_left may (is_fine i) rest)) (fine_trees i (and_right may (is_fine i) rest)))
      (λ bound l. same_either l.world (ltb (V i l) (length (elements a l))) (Next (with_temp l t (slice_index (elements a l) (V i l)))) (Ends (beyond a (V i l) l.world)) refl (same_beyond a (V i l) l.world))
      (λ bound l. ahead_either (ltb (V i l) (length (elements a l))) (Next (with_temp l t (slice_index (elements a l) (V i l)))) (Ends (beyond a (V i l) l.world)) tt tt)
  layer (stm.Write a i v) h fine =
      let may = may_write is_fine s.may_ask s.temps (uses_of s) a in
      let rest = and_right may (is_fine i && is_fine v) fine in
      leaf _ (stm.Write a i v)
      (write_done access s setting frame fit a i v (array_written a (and_left may (is_fine i && is_fine v) fine)) (fine_trees i (and_left (is_fine i) (is_fine v) rest)) (fine_trees v (and_right (is_fine i) (is_fine v) rest)))
      (λ bound l. same_either l.world (ltb (V i l) (length (elements a l))) (Next (with_elements a l (slice_set (elements a l) (V i l) (V v l)))) (Ends (beyond a (V i l) l.world)) (same_elements a l _) (same_beyond a (V i l) l.world))
      (λ bound l. ahead_either (ltb (V i l) (length (elements a l))) (Next (with_elements a l (slice_set (elements a l) (V i l) (V v l)))) (Ends (beyond a (V i l) l.world)) tt tt)
  layer (stm.Zero a) h fine =
      (λ bar spare label le around way pc stop bound under p falls.
      plain_gets access s setting frame fit machine ok place end budget far bar spare (length bound) pc stop around way (zero_lines label (s.array_at a) (s.array_size a)) (statement setting frame (stm.Zero a) bound) (λ l. tt) p falls
      (λ spare next q. zero_stands access s setting frame fit machine ok place end budget far label a spare (length bound) pc next around bound q))
  layer (stm.Return v) h fine =
      (λ bar spare label le around way pc stop bound under p falls.
      return_gets access s setting frame fit machine ok place end budget far bar spare (length bound) pc stop around way bound v (fine_trees v fine) p falls)
  layer (stm.Call r f args) h fine =
      plain_does _ (stm.Call r f args) (λ bound l. goal_ahead (goal setting frame f l) frame.depth frame.live r (map (λ t. V t l) args) bound l) (calls_do.call r f args fine)
  layer (stm.Known r k args) h fine = plain_does _ (stm.Known r k args) (λ bound l. tt) (calls_do.known r k args fine)
  layer (stm.Break n) h fine =
      (λ bar spare label le around way pc stop bound under p falls.
      break_gets access s setting frame fit machine ok place end budget far bar n spare (length bound) pc stop around way bound p falls)
  layer (stm.Back n) h fine =
      (λ bar spare label le around way pc stop bound under p falls.
      back_gets access s setting frame fit machine ok place end budget far bar n spare (length bound) pc stop around way bound p)
  layer (stm.If t a b) h fine =
      let parts = and_right (is_fine t) (all_true (map Fine a) && all_true (map Fine b)) fine in
      if_does t a b (fine_trees t (and_left (is_fine t) (all_true (map Fine a) && all_true (map Fine b)) fine)) (code_does a h.0 (and_left (all_true (map Fine a)) (all_true (map Fine b)) parts))
      (code_does b h.1 (and_right (all_true (map Fine a)) (all_true (map Fine b)) parts)) (in_turn (map Code a)).alone (in_turn (map Code b)).alone refl refl
  layer (stm.Loop b) h fine = loop_does b h fine
  layer (stm.Block b) h fine =
      (λ bar spare label le around way pc stop bound under p falls.
      block_stands access s setting frame fit machine ok place end budget far bar spare (length bound) pc around way bound (map Mean b) (code_does b h fine bar spare label le (block_at way ∷ around) way pc stop bound under p falls))

  stays_layer : (x : Stm-F Stm) → StmChildren StmDoes x → LayerStays x
  stays_layer (stm.If t a b) h fine =
      let parts = and_right (is_fine t) (all_true (map Fine a) && all_true (map Fine b)) fine in
      if_stays_for t a b (fine_trees t (and_left (is_fine t) (all_true (map Fine a) && all_true (map Fine b)) fine)) (code_does a h.0 (and_left (all_true (map Fine a)) (all_true (map Fine b)) parts))
      (code_does b h.1 (and_right (all_true (map Fine a)) (all_true (map Fine b)) parts))
  stays_layer (stm.Loop b) h fine = loop_stays (Stays (statement setting frame (stm.Loop (map Mean b)))) s.seats (map Code b)
  stays_layer _ h fine = tt

  -- the code of each statement does what it means
  statement_does : (t : Stm) → StmDoes t
  statement_does = stm_ind StmDoes (λ x h. from_layer x (layer x h) (stays_layer x h))

  -- what is certain is let go
  with_jumps : (after spare k pc : ℕ) (falls : Bool) (around : List Enclosing) (m : State → Run) → G 0 spare k around (record { after = after; falls = falls }) pc m
      → D spare k around pc (place after) (λ l. cond falls (m l) (spend 1 (m l)))
  with_jumps after spare k pc true around m does l i h =
      arrived access s machine place end budget far 0 spare k around (fall_to after) (m l).outcome
      (does l i (rest access s machine place end budget far 0 (spare + (m l).cost) k 0 (spare + (0 + (m l).cost)) k pc l i (omega arith) (omega arith) h))
  with_jumps after spare k pc false around m does l i h = arrived access s machine place end budget far 0 spare k around (jump_to after) (m l).outcome (does l i h)

  pub flow_done : (code : List Stm) → all_true (map Fine code) ≡ true → CodeDoes access s setting frame machine place end budget far is_fine top calls code
  flow_done code fine spare label around way pc stop bound under p falls =
      with_jumps way.after spare (length bound) pc way.falls around (in_order (map Mean code) bound)
      (code_does code (stms_ind StmDoes statement_does code) fine 0 spare label (omega arith) around way pc stop bound under p falls)
