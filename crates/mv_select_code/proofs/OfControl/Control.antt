-- The code of branches, loops and blocks, and of what leaves them and starts them again, on a run.
use Rattle.std.proofs.Common.{◌≡◌, ℕ, suc, ◌+◌, ◌-◌, ◌*◌, ◌≤◌, ◌&&◌, Bool, true, false, cond, eqb, List, [], ◌∷◌, ◌++◌, length, inl, inr, refl, sym, ap, ◌∙◌, subst, arith}
use Rattle.std.proofs.lemmas.Bool.{eqb-true}
use Rattle.mv_isa.specs.declared.labelled.Line.{Line}
use Rattle.mv_isa.specs.declared.labelled.Line.TheVariants.{Label, Jump}
use Rattle.mv_isa.specs.Execution.{Access, reg}
use Rattle.mv_ir.specs.declared.tree.Tree.{Tree}
use Rattle.mv_ir.specs.declared.stm.Stm.TheOpen as stm
use Rattle.mv_ir.specs.World as ir
use Rattle.mv_ir.specs.Outcome.{State, More, Outcome, Next, Leaves, Restarts, Ends, Run, Bound, Meaning, spend, now, then_do, in_order, turn_end, turn, loop}
use Rattle.mv_ir.specs.Trees.{nodes}
use Rattle.mv_ir.specs.Meaning.{of_tree, statement}
use Rattle.mv_select_code.specs.Trees.TreeCode.{is_taken, branch_lines}
use Rattle.mv_select_code.specs.Statements.StatementCode.{first, result_lines}
use Rattle.mv_select_code.specs.Statements.Frames.{Site, IsFine, IsFit}
use Rattle.mv_select_code.specs.Statements.Leads.{Past, exit_by}
use Rattle.mv_select_code.specs.Statements.Laws.{LeadsTo}
use Rattle.mv_select_code.proofs.OfStatements.BranchesDo.{branch_done}
use Rattle.mv_select_code.proofs.OfStatements.ScalarStatements.{result_done}
use Rattle.mv_select_code.specs.declared.control.enclosing.Enclosing.{Enclosing}
use Rattle.mv_select_code.specs.declared.control.enclosing.Leading.{Leading}
use Rattle.mv_select_code.specs.declared.control.enclosing.Leading.TheVariants as lead
use Rattle.mv_select_code.specs.declared.control.enclosing.Way.{Way}
use Rattle.mv_select_code.specs.Control.FlowCode.{enclosing_at, fall_to, jump_to, go_to, go_on, jumps, leads_to, loop_at, block_at}
use Rattle.mv_select_code.specs.Control.Runs.{Spot, Machine, outside, IsRun}
use Rattle.mv_select_code.specs.Control.Flow.{IsWithin}
use Rattle.mv_select_code.proofs.OfControl.Composition.{least, least_one, one_at_most, least_go, least_jump, least_fall, least_on, Arrives, Gets, Again, rest, at_place, fewer, less, both_get, block_gets, turn_arrives, cut, loop_gets}
use Rattle.mv_select_code.proofs.OfControl.Walk.{placed_split, jumps_or_falls, leads_walk, leads_later, to_stands, to_here}
use Rattle.mv_select_code.proofs.OfControl.Course.{course}
use Rattle.mv_num.proofs.Booleans.{and_cases}

-- code ends at the label that it falls to
abbrev pub Falls : (place : ℕ → ℕ) → Way → ℕ → Type 0
Falls place way stop = way.falls ≡ true → place way.after ≡ stop

-- an outcome neither leaves nor restarts what encloses it
abbrev pub IsAhead : Outcome → Type 0
IsAhead (Leaves n l) = ⊥
IsAhead (Restarts n l) = ⊥
IsAhead _ = Unit {0}

-- what code does that only leads somewhere
abbrev pub led : Leading → State → Outcome
led lead.On x = Next x
led (lead.Out n) x = Leaves n x
led (lead.Back n) x = Restarts n x

module _ {M : Type 0} (access : Access M) (s : Site) (setting : ir.Setting) (frame : ir.Frame) (fit : IsFit s access setting frame) (machine : Machine M) (ok : IsRun access s machine)
    (place : ℕ → ℕ) (end budget far : ℕ) where
  open course access s machine place end budget far use {Placed as P, Here as H, Follows as F, Does as D}

  abbrev split : (a b : List Line) (at stop : ℕ) → P (a ++ b) at stop → (mid : ℕ) × P a at mid × P b mid stop
  split = placed_split machine.text place s.entry

  abbrev A : (bar spare k : ℕ) → List Enclosing → Way → Outcome → Type 0
  A = Arrives access s machine place end budget far

  abbrev G : (bar spare k : ℕ) → List Enclosing → Way → (pc : ℕ) → (State → Run) → Type 0
  G = Gets access s machine place end budget far

  abbrev let_go : (over spare k over' spare' pc : ℕ) (x : State) (i : ℕ) → over' ≤ over → spare' ≤ spare → H over spare k pc x i → H over' spare' k pc x i
  let_go over spare k over' spare' pc x i le le' h = rest access s machine place end budget far over spare k over' spare' k pc x i (omega (arith, le)) le' h

  -- ---- jumps

  goes : (spare k pc stop l : ℕ) (falls : Bool) (x : State) (i : ℕ) → P (cond falls [] (Jump 0 l ∷ [])) pc stop → (falls ≡ true → place l ≡ stop) → H 0 (spare + cond falls 0 1) k pc x i
      → H (cond falls 0 1) spare k (place l) x (i + cond falls 0 1)
  goes spare k pc stop l falls x i p behind h =
      let n = cond falls 0 1 in
      let paid = h.paid in let asked = h.asked in
      to_here access s machine ok place end budget far n spare k (place l) x x.world (machine.run i).regs (machine.run i).memory (i + n) refl h.shows (omega (arith, paid)) (omega (arith, asked))
      (jumps_or_falls access s machine ok place end budget far x.world pc stop l falls (machine.run i).regs (machine.run i).memory i p behind (to_stands access s machine ok place end budget far 0 (spare + n) k pc x i h))

  falls_to : (way : Way) (stop l : ℕ) → Falls place way stop → (way.falls && eqb way.after l) ≡ true → place l ≡ stop
  falls_to way stop l falls e = let b = and_cases way.falls (eqb way.after l) e in ap place (sym (eqb-true way.after l b.1)) ∙ falls b.0

  goes_to : (bar spare k pc stop l : ℕ) (way : Way) (x : State) (i : ℕ) → P (go_to way l) pc stop → Falls place way stop → H 0 (spare + 1) k pc x i → (j : ℕ) × H (least bar way l) spare k (place l) x j
  goes_to bar spare k pc stop l way x i p falls h =
      let b : Bool = way.falls && eqb way.after l in
      let n : ℕ = cond b 0 1 in (
        i + n,
        let_go n spare k (least bar way l) spare (place l) x (i + n) (least_go bar way l) (omega arith)
            (goes spare k pc stop l b x i p (falls_to way stop l falls) (let_go 0 (spare + 1) k 0 (spare + n) pc x i (omega arith) (omega (arith, one_at_most b)) h)),
      )

  goes_on : (bar spare k pc stop : ℕ) (way : Way) (x : State) (i : ℕ) → P (go_on way) pc stop → Falls place way stop → H 0 (spare + jumps way) k pc x i
      → (j : ℕ) × H (least bar way way.after) spare k (place way.after) x j
  goes_on bar spare k pc stop way x i p falls h =
      let n = jumps way in
      (i + n, let_go n spare k (least bar way way.after) spare (place way.after) x (i + n) (least_on bar way.after way.falls) (omega arith) (goes spare k pc stop way.after way.falls x i p falls h))

  -- no statement at all
  pub nothing_gets : (bar spare k pc stop : ℕ) (around : List Enclosing) (way : Way) → P (go_on way) pc stop → Falls place way stop → G bar spare k around way pc (λ l. now (Next l))
  nothing_gets bar spare k pc stop around way p falls x i h = goes_on bar spare k pc stop way x i p falls (let_go 0 (spare + (jumps way + 0)) k 0 (spare + jumps way) pc x i (omega arith) (omega arith) h)

  pub break_gets : (bar n spare k pc stop : ℕ) (around : List Enclosing) (way : Way) (bound : Bound) → P (go_to way (enclosing_at around n end).end) pc stop → Falls place way stop
      → G bar spare k around way pc (statement setting frame (stm.Break n) bound)
  break_gets bar n spare k pc stop around way bound p falls x i h =
      goes_to bar spare k pc stop (enclosing_at around n end).end way x i p falls (let_go 0 (spare + (jumps way + 8)) k 0 (spare + 1) pc x i (omega arith) (omega arith) h)

  pub back_gets : (bar n spare k pc stop : ℕ) (around : List Enclosing) (way : Way) (bound : Bound) → P (Jump 0 (enclosing_at around n end).start ∷ []) pc stop
      → G bar spare k around way pc (statement setting frame (stm.Back n) bound)
  back_gets bar n spare k pc stop around way bound p x i h =
      (i + 1, goes spare k pc stop (enclosing_at around n end).start false x i p (λ e. absurd cc) (let_go 0 (spare + (jumps way + 8)) k 0 (spare + 1) pc x i (omega arith) (omega arith) h))

  -- ---- lines without control

  plain_arrives : (bar spare k mid stop : ℕ) (around : List Enclosing) (way : Way) (r : Outcome) → IsAhead r → P (go_on way) mid stop → Falls place way stop → F (spare + jumps way) k around mid r → A bar spare k around way r
  plain_arrives bar spare k mid stop around way (Next l) ahead p falls f = goes_on bar spare k mid stop way l f.0 p falls f.1
  plain_arrives bar spare k mid stop around way (Leaves n l) ahead p falls f = absurd ahead
  plain_arrives bar spare k mid stop around way (Restarts n l) ahead p falls f = absurd ahead
  plain_arrives bar spare k mid stop around way (Ends x) ahead p falls f = fewer access s machine place end budget far (spare + jumps way) spare k k around mid (Ends x) (omega arith) (omega arith) f

  pub plain_gets : (bar spare k pc stop : ℕ) (around : List Enclosing) (way : Way) (lines : List Line) (m : State → Run) → ((l : State) → IsAhead (m l).outcome) → P (lines ++ go_on way) pc stop → Falls place way stop
      → ((spare next : ℕ) → P lines pc next → D spare k around pc next m) → G bar spare k around way pc m
  plain_gets bar spare k pc stop around way lines m ahead p falls does x i h =
      let q = split lines (go_on way) pc stop p in
      let c = (m x).cost in
      plain_arrives bar spare k q.0 stop around way (m x).outcome (ahead x) q.2 falls
      (does (spare + jumps way) q.0 q.1 x i (let_go 0 (spare + (jumps way + c)) k 0 (spare + jumps way + c) pc x i (omega arith) (omega arith) h))

  -- ---- results

  abbrev V : Tree → State → ℕ
  V = of_tree setting frame

  pub return_gets : (bar spare k pc stop : ℕ) (around : List Enclosing) (way : Way) (bound : Bound) (v : Tree) → IsFine s setting frame v → P (result_lines s.seats v ++ go_to way end) pc stop → Falls place way stop
      → G bar spare k around way pc (statement setting frame (stm.Return v) bound)
  return_gets bar spare k pc stop around way bound v fine p falls x i h =
      let q = split (result_lines s.seats v) (go_to way end) pc stop p in
      let regs = (machine.run i).regs in
      let m = (machine.run i).memory in
      let g = result_done access s setting frame fit v fine x regs m h.shows in
      let w = leads_walk access s machine ok place end budget far (result_lines s.seats v) (2 * nodes v) x.world pc q.0 regs m Past g.2 g.3 i q.1 g.4
      (to_stands access s machine ok place end budget far 0 (spare + (jumps way + (8 + 3 * nodes v))) k pc x i h) in
      let b = way.falls && eqb way.after end in
      let st = jumps_or_falls access s machine ok place end budget far x.world q.0 stop end b g.2 g.3 w.time q.2 (falls_to way stop end falls) w.stands in
      let paid = h.paid in let asked = h.asked in let late = w.late in let soon = w.soon in
      let value = ap (λ (z : Spot M). reg z.regs 10) st.is in (
        w.time + cond b 0 1,
        g.0,
        g.1,
        to_here access s machine ok place end budget far 0 spare k (place end) g.0 x.world g.2 g.3 (w.time + cond b 0 1) (ap outside g.1) g.5 (omega (arith, paid, soon, one_at_most b)) (omega (arith, asked, late)) st,
        value ∙ g.6,
      )

  -- ---- blocks and loops

  pub block_stands : (bar spare k pc : ℕ) (around : List Enclosing) (way : Way) (bound : Bound) (b : List Meaning) → G bar spare k (block_at way ∷ around) way pc (in_order b bound)
      → G bar spare k around way pc (statement setting frame (stm.Block b) bound)
  block_stands bar spare k pc around way bound b does = block_gets access s machine place end budget far bar spare k around way pc bound (in_order b) does

  pub loop_stands : (bar label spare pc stop : ℕ) (around : List Enclosing) (way : Way) (bound : Bound) (b : List Meaning) (ls : List Line) → bar ≤ label → P (Label label ∷ ls) pc stop
      → ((spare : ℕ) (under : Bound) (start : ℕ) → IsWithin under bound → P ls start stop → G (label + 1) spare (length under) (loop_at label way ∷ around) (jump_to label) start (in_order b under))
      → G bar spare (length bound) around way pc (statement setting frame (stm.Loop b) bound)
  loop_stands bar label spare pc stop around way bound b ls le p does =
      let start : place label ≡ p.0 = p.1.label ∙ sym p.1.stands in
      subst (λ z. G bar spare (length bound) around way z (loop (in_order b) bound)) p.1.stands
      (loop_gets access s machine place end budget far bar label spare around way p.0 (in_order b) bound le start (λ spare under le. does spare under p.0 le p.2))

  -- ---- branches

  -- at a label, where a branch is taken, and else behind it
  abbrev Branched : (label spare k mid : ℕ) → State → Bool → Type 0
  Branched label spare k mid x true = (j : ℕ) × H 1 spare k (place label) x j
  Branched label spare k mid x false = (j : ℕ) × H 0 spare k mid x j

  branch_goes : (v : Tree) (sense : Bool) (label spare k pc mid : ℕ) (x : State) (i : ℕ) (d : Bool) → IsFine s setting frame v → is_taken sense (V v x) ≡ d → P (branch_lines s.seats v sense first label) pc mid
      → H 0 (spare + (2 * nodes v + 3)) k pc x i → Branched label spare k mid x d
  branch_goes v sense label spare k pc mid x i d fine is p h = by d (subst (λ d. To d) is (branch_done access s setting frame fit sense label v fine x regs m h.shows))
    where
      regs : List ℕ
      regs = (machine.run i).regs

      m : M
      m = (machine.run i).memory

      lines : List Line
      lines = branch_lines s.seats v sense first label

      n : ℕ
      n = 2 * nodes v + 2

      To : Bool → Type 0
      To d = LeadsTo access s setting frame lines n regs m (exit_by d label) x

      by : (d : Bool) → To d → Branched label spare k mid x d
      by true t =
          let w = leads_later access s machine ok place end budget far lines n x.world pc mid regs m label t.0 t.1 i p t.2 (to_stands access s machine ok place end budget far 0 (spare + (2 * nodes v + 3)) k pc x i h) in
          let paid = h.paid in let asked = h.asked in let late = w.late in let soon = w.soon in
          (w.time, to_here access s machine ok place end budget far 1 spare k (place label) x x.world t.0 t.1 w.time refl t.3 (omega (arith, paid, soon)) (omega (arith, asked, late)) w.stands)
      by false t =
          let w = leads_walk access s machine ok place end budget far lines n x.world pc mid regs m Past t.0 t.1 i p t.2 (to_stands access s machine ok place end budget far 0 (spare + (2 * nodes v + 3)) k pc x i h) in
          let paid = h.paid in let asked = h.asked in let late = w.late in let soon = w.soon in
          (w.time, to_here access s machine ok place end budget far 0 spare k mid x x.world t.0 t.1 w.time refl t.3 (omega (arith, paid, soon)) (omega (arith, asked, late)) w.stands)

  -- where code leads that does nothing else
  led_arrives : (bar spare k : ℕ) (around : List Enclosing) (way : Way) (l : Leading) (x : State) → (j : ℕ) × H 1 spare k (place (leads_to end around way l)) x j → A bar spare k around way (led l x)
  led_arrives bar spare k around way lead.On x h = (h.0, let_go 1 spare k (least bar way way.after) spare (place way.after) x h.0 (least_one bar way way.after) (omega arith) h.1)
  led_arrives bar spare k around way (lead.Out n) x h =
      let to = (enclosing_at around n end).end in (h.0, let_go 1 spare k (least bar way to) spare (place to) x h.0 (least_one bar way to) (omega arith) h.1)
  led_arrives bar spare k around way (lead.Back n) x h = h

  -- a branch to where one of two runs leads, before the other one
  pub branch_gets : (bar spare k pc stop : ℕ) (around : List Enclosing) (way : Way) (v : Tree) (sense : Bool) (l : Leading) (ls : List Line) (m m' : State → Run) → IsFine s setting frame v
      → P (branch_lines s.seats v sense first (leads_to end around way l) ++ ls) pc stop → ((x : State) → (m x).outcome ≡ led l x) → ((mid : ℕ) → P ls mid stop → G bar spare k around way mid m')
      → G bar spare k around way pc (λ x. spend (8 + 3 * nodes v) (cond (is_taken sense (V v x)) (m x) (m' x)))
  branch_gets bar spare k pc stop around way v sense l ls m m' fine p leads does x i h = go (is_taken sense (V v x)) refl h
    where
      to : ℕ
      to = leads_to end around way l

      q : (mid : ℕ) × P (branch_lines s.seats v sense first to) pc mid × P ls mid stop
      q = split (branch_lines s.seats v sense first to) ls pc stop p

      go : (d : Bool) → is_taken sense (V v x) ≡ d → H 0 (spare + (jumps way + (8 + 3 * nodes v + (cond d (m x) (m' x)).cost))) k pc x i → A bar spare k around way (cond d (m x) (m' x)).outcome
      go true is h =
          subst (A bar spare k around way) (sym (leads x))
          (led_arrives bar spare k around way l x
          (branch_goes v sense to spare k pc q.0 x i true fine is q.1 (let_go 0 (spare + (jumps way + (8 + 3 * nodes v + (m x).cost))) k 0 (spare + (2 * nodes v + 3)) pc x i (omega arith) (omega arith) h)))
      go false is h =
          let c = (m' x).cost in
          let b = branch_goes v sense to (spare + (jumps way + c)) k pc q.0 x i false fine is q.1
          (let_go 0 (spare + (jumps way + (8 + 3 * nodes v + c))) k 0 (spare + (jumps way + c) + (2 * nodes v + 3)) pc x i (omega arith) (omega arith) h) in
          does q.0 q.2 x b.0 b.1

  -- a branch to the second of two runs, and the first one before it
  pub either_gets : (bar label spare k pc stop : ℕ) (around : List Enclosing) (way : Way) (v : Tree) (la lb : List Line) (m m' : State → Run) → IsFine s setting frame v
      → P (branch_lines s.seats v false first label ++ (la ++ (Label label ∷ lb))) pc stop → ((mid next : ℕ) → P la mid next → G bar spare k around (jump_to way.after) mid m)
      → ((mid : ℕ) → P lb mid stop → G bar spare k around way mid m') → G bar spare k around way pc (λ x. spend (8 + 3 * nodes v) (cond (is_taken false (V v x)) (m' x) (m x)))
  either_gets bar label spare k pc stop around way v la lb m m' fine p da db x i h = go (is_taken false (V v x)) refl h
    where
      q : (mid : ℕ) × P (branch_lines s.seats v false first label) pc mid × P (la ++ (Label label ∷ lb)) mid stop
      q = split (branch_lines s.seats v false first label) (la ++ (Label label ∷ lb)) pc stop p

      r : (mid : ℕ) × P la q.0 mid × P (Label label ∷ lb) mid stop
      r = split la (Label label ∷ lb) q.0 stop q.2

      other : place label ≡ r.2.0
      other = r.2.1.label ∙ sym r.2.1.stands

      go : (d : Bool) → is_taken false (V v x) ≡ d → H 0 (spare + (jumps way + (8 + 3 * nodes v + (cond d (m' x) (m x)).cost))) k pc x i → A bar spare k around way (cond d (m' x) (m x)).outcome
      go true is h =
          let c = (m' x).cost in
          let more = spare + (jumps way + c) in
          let b = branch_goes v false label more k pc q.0 x i true fine is q.1 (let_go 0 (spare + (jumps way + (8 + 3 * nodes v + c))) k 0 (more + (2 * nodes v + 3)) pc x i (omega arith) (omega arith) h) in
          db r.2.0 r.2.2 x b.0 (at_place access s machine place end budget far 0 more k (place label) r.2.0 x b.0 other (let_go 1 more k 0 more (place label) x b.0 (omega arith) (omega arith) b.1))
      go false is h =
          let c = (m x).cost in
          let more = spare + (1 + c) in
          let b = branch_goes v false label more k pc q.0 x i false fine is q.1 (let_go 0 (spare + (jumps way + (8 + 3 * nodes v + c))) k 0 (more + (2 * nodes v + 3)) pc x i (omega arith) (omega arith) h) in
          less access s machine place end budget far bar bar spare spare k k around (jump_to way.after) way (m x).outcome refl (λ l. least_jump bar bar way.after l way (omega arith)) (omega arith) (omega arith)
          (da q.0 r.0 r.1 x b.0 b.1)

  -- ---- loops that begin with a test which leaves them, which stands at their end

  -- A turn of such a loop does what stands behind the test where that goes on, and else leaves the loop.
  pub record IsTested (v : Tree) (sense : Bool) (m inner : Meaning) : Type 0 where
    pub stays : (b : Bound) (x : State) → is_taken sense (V v x) ≡ true → ((m b x).outcome ≡ (inner b x).outcome) × (8 + 3 * nodes v + (inner b x).cost ≤ (m b x).cost)
    pub leaves : (b : Bound) (x : State) → is_taken sense (V v x) ≡ false → ((m b x).outcome ≡ Leaves 0 x) × (8 + 3 * nodes v ≤ (m b x).cost)

  module _ (v : Tree) (sense : Bool) (fine : IsFine s setting frame v) (m inner : Meaning) (tested : IsTested v sense m inner) (bar label spare : ℕ) (le : bar ≤ label) (around : List Enclosing) (way : Way)
      (start test mid stop : ℕ) (at_start : place label ≡ start) (at_test : place (label + 1) ≡ test) (branch : P (branch_lines s.seats v sense first label) test mid) (on : P (go_on way) mid stop) (falls : Falls place way stop) where
    abbrev Inner : (spare : ℕ) → Bound → Type 0
    Inner spare b = G bar spare (length b) (loop_at (label + 1) way ∷ around) (fall_to (label + 1)) start (inner b)

    -- One turn from the test on, and the other turns. The test may be come to with one instruction fewer than the bound asks for: to stay takes one at least.
    turn_tested : (k : ℕ) (b : Bound) (again : State → Run) → length b ≤ k → k ≤ length b + 1 → ((spare : ℕ) → Inner spare b)
        → Again access s machine place end budget far bar 0 spare (length b) around way test again
        → (paid : ℕ) (x : State) (i : ℕ) → spare + (jumps way + (turn (m b x) again).cost) ≤ paid + 1 → H 0 paid k test x i → A bar spare k around way (turn (m b x) again).outcome
    turn_tested k b again low high does others paid x i enough h = go (is_taken sense (V v x)) refl
      where
        go : (d : Bool) → is_taken sense (V v x) ≡ d → A bar spare k around way (turn_end (m b x).outcome again).outcome
        go true is =
            let same = tested.stays b x is in
            let o = (inner b x).outcome in
            let c = (inner b x).cost in
            let more = spare + (jumps way + (turn_end o again).cost) in
            let cost = ap (λ r. (turn_end r again).cost) same.0 in
            let n = more + (jumps (fall_to (label + 1)) + c) in
            let t = branch_goes v sense label n k test mid x i true fine is branch (let_go 0 paid k 0 (n + (2 * nodes v + 3)) test x i (omega arith) (omega (arith, enough, same.1, cost)) h) in
            let begun = at_place access s machine place end budget far 0 n (length b) (place label) start x t.0 at_start
            (rest access s machine place end budget far 1 n k 0 n (length b) (place label) x t.0 (omega (arith, high)) (omega arith) t.1) in
            subst (λ r. A bar spare k around way (turn_end r again).outcome) (sym same.0)
            (less access s machine place end budget far bar bar spare spare (length b) k around way way (turn_end o again).outcome refl (λ n. omega arith) (omega arith) low
            (turn_arrives access s machine place end budget far bar bar 0 spare (length b) around way (fall_to (label + 1)) test o again (λ l. least_fall bar (label + 1) l way (omega (arith, le))) (omega arith) at_test
            (does more x t.0 begun) others))
        go false is =
            let same = tested.leaves b x is in
            let n = spare + jumps way in
            let t = branch_goes v sense label n k test mid x i false fine is branch (let_go 0 paid k 0 (n + (2 * nodes v + 3)) test x i (omega arith) (omega (arith, enough, same.1)) h) in
            subst (λ r. A bar spare k around way (turn_end r again).outcome) (sym same.0) (goes_on bar spare k mid stop way x t.0 on falls t.1)

    -- by recursion on the bound
    turns_tested : (bound : Bound) → ((spare : ℕ) (b : Bound) → IsWithin b bound → Inner spare b) → (k : ℕ) → length bound ≤ k → k ≤ length bound + 1
        → (paid : ℕ) (x : State) (i : ℕ) → spare + (jumps way + (loop m bound x).cost) ≤ paid + 1 → H 0 paid k test x i → A bar spare k around way (loop m bound x).outcome
    turns_tested [] does k low high =
        turn_tested k [] (λ x. now (Ends (More x.world))) low high (λ spare. does spare [] refl) (λ x j h. (j, cut access s machine place end budget far 0 (spare + (jumps way + 0)) test x j h))
    turns_tested (calls ∷ below) does k low high =
        turn_tested k (calls ∷ below) (loop m below) low high (λ spare. does spare (calls ∷ below) (inl refl))
        (λ x j h. turns_tested below (λ spare b w. does spare b (inr w)) (suc (length below)) (omega arith) (omega arith) (spare + (jumps way + (loop m below x).cost)) x j (omega arith) h)

  loop_costs : (m : Meaning) (bound : Bound) (x : State) → 1 ≤ (loop m bound x).cost
  loop_costs m [] x = omega arith
  loop_costs m (calls ∷ below) x = omega arith

  -- the jump to the test, what the test leads to, the rest of a turn, and the test
  pub turned_stands : (v : Tree) (sense : Bool) → IsFine s setting frame v → (m one other : Meaning) → IsTested v sense m (λ b x. then_do (one b x) (other b)) → (bar label spare pc stop : ℕ) (around : List Enclosing) (way : Way)
      (bound : Bound) (la lb : List Line) → bar ≤ label
      → P (Jump 0 (label + 1) ∷ Label label ∷ (la ++ (Label (label + 2) ∷ (lb ++ (Label (label + 1) ∷ (branch_lines s.seats v sense first label ++ go_on way)))))) pc stop → Falls place way stop
      → ((spare : ℕ) (b : Bound) (at next : ℕ) → IsWithin b bound → P la at next → place (label + 2) ≡ next → G bar spare (length b) (loop_at (label + 1) way ∷ around) (fall_to (label + 2)) at (one b))
      → ((spare : ℕ) (b : Bound) (at next : ℕ) → IsWithin b bound → P lb at next → place (label + 1) ≡ next → G bar spare (length b) (loop_at (label + 1) way ∷ around) (fall_to (label + 1)) at (other b))
      → G bar spare (length bound) around way pc (loop m bound)
  turned_stands v sense fine m one other tested bar label spare pc stop around way bound la lb le p falls does_one does_other x i h =
      turns_tested v sense fine m (λ b x. then_do (one b x) (other b)) tested bar label spare le around way start test.0 end_of.0 stop begins tests end_of.1 end_of.2 falls bound
      (λ spare b w. both_get access s machine place end budget far bar (label + 2) spare (length b) (loop_at (label + 1) way ∷ around) (fall_to (label + 1)) start second_at (one b) (other b) (omega (arith, le)) between
      (λ spare. does_one spare b start first_list.0 w first_list.1 (first_list.2.1.label)) (does_other spare b second_at second_list.0 w second_list.1 second_list.2.1.label))
      (length bound) (omega arith) (omega arith) paid x (i + 1) (omega (arith, costs))
      (at_place access s machine place end budget far 0 paid (length bound) (place (label + 1)) test.0 x (i + 1) tests
      (let_go 1 paid (length bound) 0 paid (place (label + 1)) x (i + 1) (omega arith) (omega arith)
      (goes paid (length bound) pc p.0 (label + 1) false x i (p.0, p.1, refl) (λ e. absurd cc) (let_go 0 (spare + (jumps way + (loop m bound x).cost)) (length bound) 0 (paid + 1) pc x i (omega arith) (omega (arith, costs)) h))))
    where
      costs : 1 ≤ (loop m bound x).cost
      costs = loop_costs m bound x

      paid : ℕ
      paid = spare + (jumps way + (loop m bound x).cost) - 1

      start : ℕ
      start = p.2.0

      begins : place label ≡ start
      begins = p.2.1.label ∙ sym p.2.1.stands

      tail : List Line
      tail = branch_lines s.seats v sense first label ++ go_on way

      first_list : (mid : ℕ) × P la start mid × P (Label (label + 2) ∷ (lb ++ (Label (label + 1) ∷ tail))) mid stop
      first_list = split la (Label (label + 2) ∷ (lb ++ (Label (label + 1) ∷ tail))) start stop p.2.2

      second_at : ℕ
      second_at = first_list.2.0

      between : place (label + 2) ≡ second_at
      between = first_list.2.1.label ∙ sym first_list.2.1.stands

      second_list : (mid : ℕ) × P lb second_at mid × P (Label (label + 1) ∷ tail) mid stop
      second_list = split lb (Label (label + 1) ∷ tail) second_at stop first_list.2.2

      test : P (Label (label + 1) ∷ tail) second_list.0 stop
      test = second_list.2

      tests : place (label + 1) ≡ test.0
      tests = test.1.label ∙ sym test.1.stands

      end_of : (mid : ℕ) × P (branch_lines s.seats v sense first label) test.0 mid × P (go_on way) mid stop
      end_of = split (branch_lines s.seats v sense first label) (go_on way) test.0 stop test.2

  -- runs that are the same
  pub gets_same : (bar spare k pc : ℕ) (around : List Enclosing) (way : Way) (m m' : State → Run) → ((x : State) → m' x ≡ m x) → G bar spare k around way pc m → G bar spare k around way pc m'
  gets_same bar spare k pc around way m m' same does x i h =
      subst (λ (r : Run). A bar spare k around way r.outcome) (sym (same x)) (does x i (subst (λ (r : Run). H 0 (spare + (jumps way + r.cost)) k pc x i) (same x) h))
