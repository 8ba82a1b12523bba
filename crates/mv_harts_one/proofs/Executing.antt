-- What one instruction of an engine is to the hart that its seat is.
use Rattle.std.proofs.Common.{ℕ, ◌≡◌, ◌⊎◌, inl, inr, ◌+◌, ◌%◌, ◌<◌, Bool, true, false, ◌&&◌, ◌||◌, not, cond, nat_eq, List, [], ◌∷◌, ◌++◌, length, Option, Some, None, option_map, refl, sym, ap, ap₂, ◌∙◌, subst, arith, if◌then◌else◌}
use Rattle.std.proofs.lemmas.Option.{none-some, same_Some}
use Rattle.std.proofs.Math.Bool.{and-false}
use Rattle.mv_bindings.specs.declared.action.Action.{Action}
use Rattle.mv_bindings.specs.declared.binding.Binding.{Binding}
use Rattle.mv_bindings.specs.declared.binding.Event.{Event}
use Rattle.mv_bindings.specs.Acts.{Act, act_of}
use Rattle.mv_isa.specs.declared.instr.Instr.{Instr}
use Rattle.mv_isa.specs.declared.instr.Instr.TheVariants.{FenceI, Ecall}
use Rattle.mv_isa.specs.Encoding.{decode}
use Rattle.mv_isa.specs.Execution.{Outcome, Goes, Calls, Faults, reg}
use Rattle.mv_fetch.specs.Held.{Room, choices}
use Rattle.mv_rv32.specs.Stepping.{picked_step}
use Rattle.mv_patch.specs.Plans.{plan_between}
use Rattle.mv_patch.specs.Orders.{is_known_order}
use Rattle.mv_probe.specs.Ways.{Way, Follows, way_after}
use Rattle.mv_machine.specs.declared.engine.Engine.{Engine}
use Rattle.mv_machine.specs.declared.machine.Stopped.{Stopped}
use Rattle.mv_machine.specs.declared.machine.Stopped.TheVariants as answer
use Rattle.mv_machine.specs.Runs.{State, Stop, Going, Exit, Trap, Fault, Request, Reads, Writes, request_of, environment_call, bytes_to_come, choices_at, fetched_step, turn, is_going}
use Rattle.mv_machine.specs.Commits.{fetched_instr, is_some_pair, opens, after_instr, commit_after}
use Rattle.mv_machine.specs.Moves.{Seen, seen, shown, Moves, Outcomes, Called, Wanting, Turns, input_failed, output_failed}
use Rattle.mv_machine.proofs.Turns.{turn_by}
use Rattle.mv_harts_runs.specs.Harts.{Hart, Elsewhere, place_by, place_of, place, reads_or_writes, outside_of, is_outside, handed, Move, move}
use Rattle.mv_harts_runs.proofs.Acts.{calls_where, where_calls}
use Rattle.mv_harts_one.specs.declared.seat.Seat.{Seat}
use Rattle.mv_harts_one.specs.Seats.{stop_of, has_failed, IsHalt, IsBefore, Sits, is_under}
use Rattle.mv_harts_one.specs.Executions.{is_fence_i, counted, wants_memory, IsFaultOf, HasExecuted, HasFailed}
use Rattle.mv_harts_one.proofs.Words.{fetched_word}
use Rattle.mv_harts_one.proofs.Sitting.{sat, sat_as, none_failed, fetches, shown_by}
use Rattle.mv_harts_runs.proofs.Calls.{no_pairs}

-- ---- the oracle

-- one choice is asked for once
pub asked_once : (way way' : Option Way) (pick : ℕ) → Follows way way' 1 pick → way' ≡ option_map (λ w. way_after w 1) way
unfolding way_after
asked_once None way' pick f = f
asked_once (Some w) way' pick f = f.1

-- ---- whether a commit is under way behind an instruction

pub and_true : (b : Bool) → b ≡ (b && true)
and_true true = refl
and_true false = refl

begun : (b : Bool) (bs : List Binding) (u : Option (List Binding)) → is_under (cond b (Some bs) u) ≡ (b || (is_under u && true))
begun true bs u = refl
begun false bs u = and_true (is_under u)

abbrev Remains : Option Instr → State → Option (List Binding) → Bool → Type 0
Remains i s u b = is_under (after_instr s i u) ≡ (b || (is_under u && not (is_fence_i i)))

remains : (i : Option Instr) (s : State) (u : Option (List Binding)) (b : Bool) → (i ≡ Some Ecall → opens s ≡ b) → ((i ≡ Some Ecall → ⊥) → b ≡ false) → Remains i s u b
remains (Some Ecall) s u b called other = ap (λ c. is_under (cond c (Some s.bindings) u)) (called refl) ∙ begun b s.bindings u
remains (Some FenceI) s u b called other = sym (and-false (is_under u)) ∙ sym (ap (λ c. c || (is_under u && false)) (other (λ e. cc)))
remains i s u b called other = and_true (is_under u) ∙ sym (ap (λ c. c || (is_under u && true)) (other (λ e. cc)))

-- ---- the instruction at pc, where a fetch has one choice

-- what isn't an environment call leaves the bindings as they are
bindings_stay : (s : State) → s.stop ≡ Going → (fetched_instr s 0 ≡ Some Ecall → ⊥) → (turn s 0).bindings ≡ s.bindings
bindings_stay s going n = by_outcome (fetched_step s 0) refl
  where
    by_outcome : (x : Outcome Room) → fetched_step s 0 ≡ x → (turn s 0).bindings ≡ s.bindings
    by_outcome (Goes regs pc room) e = ap (λ (t : State). t.bindings) (turn_by s 0 (Goes regs pc room) going e)
    by_outcome Calls e = absurd (n (where_calls s 0 e))
    by_outcome (Faults why) e = ap (λ (t : State). t.bindings) (turn_by s 0 (Faults why) going e)

-- the answer of an engine, whether the text of its bindings is another
pub under_is : (s : State) (u : Option (List Binding)) (b : Bool) (w : ℕ) (bs : List Binding) → s.stop ≡ Going → choices s.room.held s.pc ≡ w ∷ [] → (turn s 0).bindings ≡ bs
    → b ≡ is_some_pair (plan_between s.image s.bindings bs) → (b || (is_under u && not (is_fence_i (decode w)))) ≡ is_under (commit_after s 0 u)
under_is s u b w bs going one e opened =
    let i : fetched_instr s 0 ≡ decode w = fetched_word s w one in
    let all : is_under (commit_after s 0 u) ≡ (b || (is_under u && not (is_fence_i (decode w)))) =
    ap (λ stop. is_under (if is_going stop then after_instr s (fetched_instr s 0) u else u)) going
    ∙ ap (λ j. is_under (after_instr s j u)) i
    ∙ remains (decode w) s u b (λ c. called (i ∙ c)) (λ n. quiet (λ c. n (sym i ∙ c))) in
    sym all
  where
    called : fetched_instr s 0 ≡ Some Ecall → opens s ≡ b
    called c =
        let t : turn s 0 ≡ environment_call (request_of (reg s.regs 17)) s = turn_by s 0 Calls going (calls_where s 0 c) in
        ap (λ l. is_some_pair (plan_between s.image s.bindings l)) (ap (λ (x : State). x.bindings) (sym t) ∙ e) ∙ sym opened

    quiet : (fetched_instr s 0 ≡ Some Ecall → ⊥) → b ≡ false
    quiet n =
        let same : bs ≡ s.bindings = sym e ∙ bindings_stay s going n in
        opened ∙ ap (λ l. is_some_pair (plan_between s.image s.bindings l)) same ∙ ap is_some_pair (no_pairs s.image s.bindings)

-- ---- an instruction that is executed

module _ (number : ℕ) (was : Seat) (o : Hart) (act : Action) (bytes : List ℕ) (before : Option (List Binding)) (sits : Sits number was bytes o) (on : was.stop ≡ None) (one : choices_at o.state ≡ 1) where
  abbrev a : Act
  a = act_of act

  abbrev h : State
  h = handed o.state a

  abbrev m : Move
  m = move o.state a before 0

  abbrev x : (written : Option (List ℕ)) → Seen
  x written = seen was.engine (act ∷ []) (Some bytes) written

  -- the seat behind an answer of its engine
  abbrev pub behind : Engine → Option Stopped → Seat
  behind e r = record was { engine = e; waited = false; stop = r; instructions = was.instructions + counted r }

  handed_is : (written : Option (List ℕ)) → h ≡ shown (x written) Going (bytes_to_come bytes) o.state.output o.state.log
  handed_is written = ap (λ s. handed s a) (shown_by number was bytes o sits on)

  going : h.stop ≡ Going
  going = ap (λ (s : State). s.stop) (handed_is None)

  word : (w : ℕ) × (choices h.room.held h.pc ≡ w ∷ [])
  word = let f = fetches number was bytes o sits one in (f.0, ap (λ (s : State). choices s.room.held s.pc) (handed_is None) ∙ f.1)

  module _ (e : Engine) (rest : List Action) (written written' : Option (List ℕ)) (Told : List Event → Type 0) (same : e.number ≡ was.engine.number)
      (opened : e.opened ≡ is_some_pair (plan_between was.engine.image was.engine.bindings e.bindings))
      (stays : Bool) (stays_is : (w : ℕ) → choices was.engine.memory.held was.engine.hart.pc ≡ w ∷ [] → stays ≡ (is_under before && not (is_fence_i (decode w)))) where
    abbrev y : (left : Option (List ℕ)) → Seen
    y left = seen e rest left written'

    module _ (r : Option Stopped) (stop : Stop) (stop_is : stop_of r ≡ stop) (well : has_failed r ≡ false) (halts : IsHalt r) (counts : counted r ≡ 1) where
      executed : (left : Option (List ℕ)) → Moves (λ s. turn s 0) (x written) (y left) stop Told → HasExecuted number o a m (behind e r) (e.opened || stays) left written written'
      unfolding move
      executed None moves = absurd (none-some _ moves.4.1.2)
      executed (Some bs) moves =
          let more = moves.0 in
          let news = moves.1 in
          let whole : bytes ≡ moves.4.0 ++ bs =
          moves.4.1.1 ∙ ap (λ (z : List ℕ). moves.4.0 ++ z) (sym (same_Some bs moves.4.1.0 moves.4.1.2)) in
          let t : turn h 0 ≡ shown (y (Some bs)) stop (bytes_to_come bs) (o.state.output ++ more) (o.state.log ++ news) =
          ap (λ s. turn s 0) (handed_is written) ∙ ap (λ (i : List ℕ). turn (shown (x written) Going (bytes_to_come i) o.state.output o.state.log) 0) whole
          ∙ (moves.4.2 bs refl o.state.output o.state.log).1 in
          let is : Seat = behind e r in
          let n : e.number ≡ number = same ∙ sits.engine in
          let q : m.state ≡ sat e.number is bs (o.state.output ++ more) (o.state.log ++ news) =
          ap (λ (s : State). record s { actions = [] }) t
          ∙ ap (λ (k : Stop). shown (seen e [] None None) k (bytes_to_come bs) (o.state.output ++ more) (o.state.log ++ news)) (sym stop_is) in
          let f = fetches number was bytes o sits one in
          let image : h.image ≡ was.engine.image = ap (λ (s : State). s.image) (handed_is None) in
          let bound : h.bindings ≡ was.engine.bindings = ap (λ (s : State). s.bindings) (handed_is None) in
          let another : e.opened ≡ is_some_pair (plan_between h.image h.bindings e.bindings) =
          opened ∙ ap₂ (λ i l. is_some_pair (plan_between i l e.bindings)) (sym image) (sym bound) in
          record {
            bytes = bs;
            has_left = refl;
            sits = record {
              engine = n;
              state = sat_as number is bs m.state (o.state.output ++ more) (o.state.log ++ news) n q;
              mode = sits.mode;
              waited = refl;
              failed = sits.failed ∙ ap has_failed on ∙ sym well;
              count = ap (λ k. k + 1) sits.count ∙ ap (λ k. was.instructions + k) (sym counts);
              halts = halts;
              before = none_failed r m.state well;
            };
            under = ap (λ b. e.opened || b) (stays_is f.0 f.1)
                ∙ under_is h before e.opened f.0 e.bindings going (ap (λ (s : State). choices s.room.held s.pc) (handed_is None) ∙ f.1) (ap (λ (s : State). s.bindings) t) another;
            more = more;
            output = ap (λ (s : State). s.output) q;
            wrote = moves.2;
          }

    -- ---- a read or a write that failed

    -- the call is fetched
    called : (pick : ℕ) (request : Request) → pick ≡ 0 → Called (x written) pick request → (fetched_instr o.state 0 ≡ Some Ecall) × (request_of (reg o.state.regs 17) ≡ request)
    unfolding fetched_step choices_at
    called pick request zero c =
        let s = sits.state in
        let first : 0 % length (choices o.state.room.held o.state.pc) ≡ pick = ap (λ n. 0 % n) one ∙ sym zero in
        let step : fetched_step o.state 0 ≡ Calls =
        ap₂ (λ (t : State) k. picked_step t.room k t.regs t.pc) s first ∙ c.0 in
        (where_calls o.state 0 step, ap (λ (t : State). request_of (reg t.regs 17)) s ∙ c.1)

    module _ (r : Option Stopped) (stop_is : stop_of r ≡ Going) (ill : has_failed r ≡ true) (halts : IsHalt r) (counts : counted r ≡ 0) (A B : Type 0) (fault : IsFaultOf r A B) where
      failed : (left : Option (List ℕ)) (pick : ℕ) (request : Request)
          → ((s : State) → fetched_instr s 0 ≡ Some Ecall → request_of (reg s.regs 17) ≡ request → IsBefore r s) → pick ≡ 0 → y left ≡ x written
          → Called (x written) pick request → reads_or_writes request ≡ true
          → place_by request (is_known_order o.state.image (reg o.state.regs 10) (reg o.state.regs 11)) (nat_eq (reg o.state.regs 26) 0) ≡ Elsewhere
          → HasFailed number o m (behind e r) (is_under before) (e.opened || stays) bytes left written written' A B
      unfolding move place is_outside
      failed left pick request stands zero q c outside at =
          let i = called pick request zero c in
          let n : e.number ≡ number = same ∙ sits.engine in
          let is : Seat = behind e r in
          let s : o.state ≡ sat e.number is bytes o.state.output o.state.log =
          shown_by number was bytes o sits on
          ∙ ap (λ (z : Seen). shown (record z { actions = []; left = None; written = None }) Going (bytes_to_come bytes) o.state.output o.state.log) (sym q)
          ∙ ap (λ (k : Stop). shown (seen e [] None None) k (bytes_to_come bytes) o.state.output o.state.log) (sym stop_is) in
          let f = fetches number was bytes o sits one in
          let w : decode f.0 ≡ Some Ecall =
          sym (fetched_word o.state f.0 (ap (λ (t : State). choices t.room.held t.pc) sits.state ∙ f.1)) ∙ i.0 in
          let bound : e.bindings ≡ was.engine.bindings = ap (λ (z : Seen). z.bindings) q in
          let quiet : e.opened ≡ false =
          opened ∙ ap (λ l. is_some_pair (plan_between was.engine.image was.engine.bindings l)) bound ∙ ap is_some_pair (no_pairs was.engine.image was.engine.bindings) in
          record {
            outside = ap (λ j. outside_of j (reads_or_writes (request_of (reg o.state.regs 17)))) i.0 ∙ ap reads_or_writes i.1 ∙ outside;
            place = ap (λ j. place_of j (place_by (request_of (reg o.state.regs 17)) (is_known_order o.state.image (reg o.state.regs 10) (reg o.state.regs 11)) (nat_eq (reg o.state.regs 26) 0))) i.0
                ∙ ap (λ k. place_by k (is_known_order o.state.image (reg o.state.regs 10) (reg o.state.regs 11)) (nat_eq (reg o.state.regs 26) 0)) i.1 ∙ at;
            has_left = ap (λ (z : Seen). z.left) q;
            sits = record {
              engine = n;
              state = sat_as number is bytes o.state o.state.output o.state.log n s;
              mode = sits.mode;
              waited = refl;
              failed = sym ill;
              count = omega (arith, sits.count, counts);
              halts = halts;
              before = stands o.state i.0 i.1;
            };
            under = ap (λ b. b || stays) quiet ∙ stays_is f.0 f.1 ∙ ap (λ j. is_under before && not (is_fence_i j)) w ∙ sym (and_true (is_under before));
            wrote = ap (λ (z : Seen). z.written) q;
            fault = fault;
          }

    -- ---- each answer of an engine

    abbrev Comes : Option Stopped → (left : Option (List ℕ)) → (A B : Type 0) → Type 0
    Comes r left A B = HasExecuted number o a m (behind e r) (e.opened || stays) left written written' ⊎ HasFailed number o m (behind e r) (is_under before) (e.opened || stays) bytes left written written' A B

    abbrev Led : Option Stopped → (left : Option (List ℕ)) → (pick : ℕ) → (A B : Type 0) → Type 0
    Led r left pick A B =
        Outcomes r (λ stop. Moves (λ s. turn s pick) (x written) (y left) stop Told) ((y left ≡ x written) × Told [] × Called (x written) pick Reads × A) ((y left ≡ x written) × Told [] × Called (x written) pick Writes × B)
        ((y left ≡ x written) × Told [] × Wanting (x written) pick)

    answered : (r : Option Stopped) (left : Option (List ℕ)) (A B : Type 0) → (r ≡ Some answer.Memory → ⊥) → Led r left 0 A B → Comes r left A B
    answered None left A B n t = inl (executed None Going refl refl tt refl left t)
    answered (Some (answer.Ended status)) left A B n t = inl (executed (Some (answer.Ended status)) (Exit status) refl refl tt refl left t)
    answered (Some (answer.Trapped code)) left A B n t = inl (executed (Some (answer.Trapped code)) (Trap code) refl refl tt refl left t)
    answered (Some answer.Steps) left A B n t = absurd t
    answered (Some answer.InputFault) left A B n t = inr (failed (Some answer.InputFault) refl refl tt refl A B t.3 left 0 Reads (λ s f e. (f, e)) refl t.0 t.2 refl refl)
    answered (Some answer.OutputFault) left A B n t = inr (failed (Some answer.OutputFault) refl refl tt refl A B t.3 left 0 Writes (λ s f e. (f, e)) refl t.0 t.2 refl refl)
    answered (Some (answer.Fault pc why)) left A B n t = inl (executed (Some (answer.Fault pc why)) (Fault why) refl refl tt refl left t)
    answered (Some answer.Memory) left A B n t = absurd (n refl)

    pub did : (r : Option Stopped) (left : Option (List ℕ)) (way way' : Option Way) (A B : Type 0) → (r ≡ Some answer.Memory → ⊥) → Turns r (x written) (y left) way way' A B Told
        → (way' ≡ option_map (λ w. way_after w 1) way) × Comes r left A B
    did r left way way' A B n (inl t) =
        let f = fetches number was bytes o sits one in
        let c : 1 ≡ 0 = sym (ap length f.1) ∙ t.0 in
        absurd (omega (arith, c))
    did r left way way' A B n (inr t) =
        let f = fetches number was bytes o sits one in
        let c : length (choices was.engine.memory.held was.engine.hart.pc) ≡ 1 = ap length f.1 in
        let below : t.0 < 1 = subst (λ k. t.0 < k) c t.1 in
        let zero : t.0 ≡ 0 = omega (arith, below) in
        (asked_once way way' t.0 (subst (λ k. Follows way way' k t.0) c t.2), answered r left A B n (subst (λ k. Led r left k A B) zero t.3))

-- the same of the seat and the answer that are left
module _ (number : ℕ) (was : Seat) (o : Hart) (act : Action) (bytes : List ℕ) (before : Option (List Binding)) (sits : Sits number was bytes o) (on : was.stop ≡ None) (one : choices_at o.state ≡ 1)
    (e : Engine) (rest : List Action) (written written' : Option (List ℕ)) (Told : List Event → Type 0) (same : e.number ≡ was.engine.number)
    (opened : e.opened ≡ is_some_pair (plan_between was.engine.image was.engine.bindings e.bindings)) where
  abbrev pub Ends : (under now : Bool) (left' : Option (List ℕ)) (A B : Type 0) → Seat → Type 0
  Ends under now left' A B seat =
      HasExecuted number o (act_of act) (move o.state (act_of act) before 0) seat now left' written written'
      ⊎ HasFailed number o (move o.state (act_of act) before 0) seat under now bytes left' written written' A B

  pub executes_or_fails : (under stays now : Bool) (r : Option Stopped) (acts : List Action) (left left' : Option (List ℕ)) (way way' : Option Way) (A B : Type 0) (seat : Seat)
      → ((w : ℕ) → choices was.engine.memory.held was.engine.hart.pc ≡ w ∷ [] → stays ≡ (under && not (is_fence_i (decode w)))) → is_under before ≡ under → now ≡ (e.opened || stays)
      → acts ≡ act ∷ [] → left ≡ Some bytes → seat ≡ record was { engine = e; waited = false; stop = r; instructions = was.instructions + counted r }
      → (r ≡ Some answer.Memory → ⊥) → Turns r (seen was.engine acts left written) (seen e rest left' written') way way' A B Told
      → (way' ≡ option_map (λ w. way_after w 1) way) × Ends under now left' A B seat
  executes_or_fails under stays now r acts left left' way way' A B seat stays_is under_is now_is acts_is left_is seat_is n t =
      let t' = subst (λ l. Turns r (seen was.engine l left written) (seen e rest left' written') way way' A B Told) acts_is t in
      let d = did number was o act bytes before sits on one e rest written written' Told same opened stays
      (λ w c. stays_is w c ∙ ap (λ u. u && not (is_fence_i (decode w))) (sym under_is)) r left' way way' A B n
      (subst (λ l. Turns r (seen was.engine (act ∷ []) l written) (seen e rest left' written') way way' A B Told) left_is t') in
      let is : Seat = record was { engine = e; waited = false; stop = r; instructions = was.instructions + counted r } in
      let told = subst (λ b. Ends (is_under before) b left' A B is) (sym now_is) d.1 in
      let flag = subst (λ u. Ends u now left' A B is) under_is told in
      (d.0, subst (λ (x : Seat). Ends under now left' A B x) (sym seat_is) flag)

-- ---- want of memory

pub no_want : (r : Option Stopped) → wants_memory r ≡ false → r ≡ Some answer.Memory → ⊥
no_want r e q = let w : wants_memory r ≡ true = ap wants_memory q in cc

-- want of memory is the fault of no device
pub unread : (r : Option Stopped) → wants_memory r ≡ true → input_failed r ≡ false
unread None e = refl
unread (Some (answer.Ended status)) e = refl
unread (Some (answer.Trapped code)) e = refl
unread (Some answer.Steps) e = refl
unread (Some answer.InputFault) e = absurd (cc)
unread (Some answer.OutputFault) e = refl
unread (Some (answer.Fault pc why)) e = refl
unread (Some answer.Memory) e = refl

pub unwritten : (r : Option Stopped) → wants_memory r ≡ true → output_failed r ≡ false
unwritten None e = refl
unwritten (Some (answer.Ended status)) e = refl
unwritten (Some (answer.Trapped code)) e = refl
unwritten (Some answer.Steps) e = refl
unwritten (Some answer.InputFault) e = refl
unwritten (Some answer.OutputFault) e = absurd (cc)
unwritten (Some (answer.Fault pc why)) e = refl
unwritten (Some answer.Memory) e = refl

-- ---- one of two

pub or_true : (a b r : Bool) → a ≡ true → r ≡ true → r ≡ (a || b)
or_true a b r e q = q ∙ sym (ap (λ c. c || b) e)

pub or_false : (a b r : Bool) → a ≡ false → r ≡ b → r ≡ (a || b)
or_false a b r e q = q ∙ sym (ap (λ c. c || b) e)
