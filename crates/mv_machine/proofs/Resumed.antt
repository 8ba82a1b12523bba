-- From a walk over what is seen to a call of `run`.
use Rattle.std.proofs.Common.{ℕ, ◌≡◌, ◌<◌, ◌+◌, ◌-◌, ◌%◌, mod-eq_of_lt, Bool, inl, inr, List, [], ◌∷◌, ◌++◌, length, slice_index, slice_get, Option, Some, None, option_map, unwrap_or, IfSome, IsSomeAnd, refl, sym, ap, ap₂, ◌∙◌, subst, arith, append-nil}
use Rattle.std.proofs.lemmas.List.{length-append, get_or_at, nil_from_length}
use Rattle.mv_bindings.specs.declared.action.Action.{Action}
use Rattle.mv_bindings.specs.declared.binding.Event.{Event}
use Rattle.mv_isa.specs.Execution.{Faults, reg, step}
use Rattle.mv_isa.specs.declared.instr.Cause.{Cause}
use Rattle.mv_isa.specs.declared.instr.Cause.TheVariants as cause
use Rattle.mv_fetch.specs.Held.{Room, IsInText, choices}
use Rattle.mv_rv32.specs.Stepping.{access, picked_step, picked_target, Proceeds}
use Rattle.mv_io.specs.Outside.{CountAfter, OnInput}
use Rattle.mv_io.proofs.Common.{some_later}
use Rattle.mv_probe.specs.Ways.{Way, Follows, way_after}
use Rattle.mv_machine.specs.declared.machine.Stopped.{Stopped}
use Rattle.mv_machine.specs.declared.machine.Stopped.TheVariants as answer
use Rattle.mv_machine.specs.Runs.{Stop, Going, Exit, Trap, Fault, State, Request, Reads, Writes, request_of, bytes_to_come, stopped, choices_at, fetched_step, turn, runs_from, executed}
use Rattle.mv_machine.specs.Snapshots.{Snapshot, resumed, Under, CallsFor, Reached, Whole, Broken, Answered, HasCounted, Departs, WantsMemory, Ran, Unless, is_input_fault, is_output_fault}
use Rattle.mv_machine.specs.Moves.{Seen, shown, Meets, Moves, Called, Wanting, Turns, Goes, Walked, executed_of, FaultAt, input_failed, output_failed}
use Rattle.mv_machine.proofs.Turns.{turn_by, turn_faults, runs_more, adds_by, executed_more, runs_over, executed_over, runs_append, IsOver}
use Rattle.mv_machine.proofs.Departing.{departs_append, departs_more, over_notes}
use Rattle.mv_machine.proofs.Moved.{SoFar, way_more, under_more, Joins, meets_more}

-- what is seen of a machine
pub record IsSeen (m : Snapshot) (x : Seen) : Type 0 where
  pub hart : x.hart ≡ 0
  pub image : m.image ≡ x.image
  pub regs : m.regs ≡ x.regs
  pub pc : m.pc ≡ x.pc
  pub room : m.room ≡ x.room
  pub bindings : m.bindings ≡ x.bindings

resumed_is : (m : Snapshot) (x : Seen) (input : List (Option ℕ)) → IsSeen m x → shown x Going input [] [] ≡ resumed m input x.actions
unfolding resumed
resumed_is m x input i = rw (i.hart, i.image, i.regs, i.pc, i.room, i.bindings) refl

reached : (e : State) (y : Seen) (stop : Stop) (is : Snapshot) (later : List (Option ℕ)) (more : List ℕ) (news : List Event)
    (written : Option (List ℕ)) (Told : List Event → Type 0) → IsSeen is y → y.written ≡ option_map (λ before. before ++ more) written → Told news
    → e ≡ shown y stop later more news → Reached e stop is later written y.written Told
reached e y stop is later more news written Told i w told at = record {
  image = i.image ∙ sym (ap (λ (s : State). s.image) at);
  regs = i.regs ∙ sym (ap (λ (s : State). s.regs) at);
  pc = i.pc ∙ sym (ap (λ (s : State). s.pc) at);
  memory = i.room ∙ sym (ap (λ (s : State). s.room) at);
  bindings = i.bindings ∙ sym (ap (λ (s : State). s.bindings) at);
  input = ap (λ (s : State). s.input) at;
  output = w ∙ ap (λ (out : List ℕ). option_map (λ before. before ++ out) written) (sym (ap (λ (s : State). s.output) at));
  told = subst Told (sym (ap (λ (s : State). s.log) at)) told;
  stopped = ap (λ (s : State). s.stop) at;
}

choices_same : (e : State) (z : Seen) → e.pc ≡ z.pc → e.room ≡ z.room → choices_at e ≡ length (choices z.room.held z.pc)
unfolding choices_at
choices_same e z pc room = ap₂ (λ (a : ℕ) (r : Room). length (choices r.held a)) pc room

fetches : (e : State) (z : Seen) (pick : ℕ) → e.regs ≡ z.regs → e.pc ≡ z.pc → e.room ≡ z.room → pick < length (choices z.room.held z.pc) → fetched_step e pick ≡ picked_step z.room pick z.regs z.pc
unfolding fetched_step
fetches e z pick regs pc room lt =
    ap₂ (λ (c : ℕ) (r : Room). picked_step r (pick % c) e.regs e.pc) (choices_same e z pc room) room
    ∙ ap₂ (λ (g : List ℕ) (a : ℕ). picked_step z.room (pick % length (choices z.room.held z.pc)) g a) regs pc
    ∙ ap (λ (p : ℕ). picked_step z.room p z.regs z.pc) (mod-eq_of_lt lt)

asks : (e : State) (z : Seen) (pick : ℕ) (request : Request) → e.regs ≡ z.regs → e.pc ≡ z.pc → e.room ≡ z.room → pick < length (choices z.room.held z.pc) → Called z pick request → CallsFor e pick request
asks e z pick request regs pc room lt c = (fetches e z pick regs pc room lt ∙ c.0, ap (λ (g : List ℕ). request_of (reg g 17)) regs ∙ c.1)

wants : (e : State) (z : Seen) (pick : ℕ) → e.regs ≡ z.regs → e.pc ≡ z.pc → e.room ≡ z.room → pick < length (choices z.room.held z.pc) → Wanting z pick → WantsMemory e pick
wants e z pick regs pc room lt w =
    let target : picked_target e.room (pick % choices_at e) e.regs e.pc ≡ picked_target z.room pick z.regs z.pc =
    ap₂ (λ (c : ℕ) (r : Room). picked_target r (pick % c) e.regs e.pc) (choices_same e z pc room) room
    ∙ ap₂ (λ (g : List ℕ) (a : ℕ). picked_target z.room (pick % length (choices z.room.held z.pc)) g a) regs pc
    ∙ ap (λ (p : ℕ). picked_target z.room p z.regs z.pc) (mod-eq_of_lt lt) in
    (subst (λ (a : Option ℕ). IsSomeAnd a IsInText) (sym target) w.0, ap (λ (r : Room). r.spare) room ∙ w.1, subst Proceeds (sym (fetches e z pick regs pc room lt)) w.2)

-- no word is fetched where there is no choice
unfetched : (room : Room) (pick : ℕ) (regs : List ℕ) (pc : ℕ) → length (choices room.held pc) ≡ 0 → picked_step room pick regs pc ≡ Faults cause.Fetch
unfolding picked_step
unfetched room pick regs pc none = ap (λ (words : List ℕ). step access (slice_get words pick) regs pc room) (nil_from_length (choices room.held pc) none)

-- an instruction that faults leaves pc and memory
fault_stays : (x y : Seen) (pick : ℕ) (why : Cause) (Told : List Event → Type 0) → Moves (λ s. turn s pick) x y (Fault why) Told → (y.pc ≡ x.pc) × (y.room ≡ x.room)
fault_stays x y pick why Told m =
    let later = some_later y.left in
    let s : State = shown x Going (bytes_to_come (m.4.0 ++ later.0)) [] [] in
    let at = (m.4.2 later.0 later.1 [] []).1 in
    let same : turn s pick ≡ stopped s (Fault why) = turn_faults s pick why refl (ap (λ (e : State). e.stop) at) in
    (ap (λ (e : State). e.pc) (sym at ∙ same), ap (λ (e : State). e.room) (sym at ∙ same))

pub unless : (o : Option Stopped) (X : Type 0) → X → Unless o X
unless None X h = h
unless (Some last) X h = tt

module _ (was is : Snapshot) (x y : Seen) (a : IsSeen was x) (b : IsSeen is y) (rows : is.image ≡ was.image) (way way' : Option Way) (A B : Type 0)
    {P : Type 0} (Tell : P → P → List Event → Type 0) (joins : (k l m : P) → Joins (Tell k l) (Tell l m) (Tell k m)) (p q : P) (wanted : Bool)
    (place : Option ℕ) (steps count : ℕ) where
  abbrev Told : List Event → Type 0
  Told = Tell p q

  abbrev At : (later : List ℕ) → State → Stop → Type 0
  At later e stop = Reached e stop is (bytes_to_come later) x.written y.written Told

  abbrev Runs : Stopped → Type 0
  Runs r = Ran steps r count wanted place was is x.actions x.left y.left x.written y.written way way' A B Told

  from_meets : (f : State → State) (P : State → Type 0) (stop : Stop) (Q : List ℕ → State → Type 0) → Meets P f x y stop Told → ((later : List ℕ) (s : State) → P s → At later (f s) stop → Q later s) →
      OnInput x.left y.left (λ taken later. Q later (resumed was (bytes_to_come (taken ++ later)) x.actions))
  from_meets f P stop Q m q = (
    m.4.0,
    m.4.1,
    λ later may.
        let input = bytes_to_come (m.4.0 ++ later) in
        let s : State = shown x Going input [] [] in
        let here = m.4.2 later may [] [] in
        subst (λ (e : State). Q later e) (resumed_is was x input a) (q later s here.0 (reached (f s) y stop is (bytes_to_come later) m.0 m.1 x.written Told b m.2 m.3 here.1)),
  )

  departs_at : (n : ℕ) (s : State) (picks : List ℕ) → count ≡ n → Departs wanted place s picks n → Departs wanted place s picks count
  departs_at n s picks counted departs = subst (λ (k : ℕ). Departs wanted place s picks k) (sym counted) departs

  -- the steps were used up
  pub all_steps : count ≡ steps → Goes wanted place steps x y way way' Told → Runs answer.Steps
  all_steps counted g = record {
    image = rows;
    picks = g.0;
    way_is = g.2 ∙ ap (λ (n : ℕ). option_map (λ w. way_after w n) way) (sym g.1);
    run = from_meets (λ s. runs_from s g.0 steps) (SoFar wanted place way g.0 steps) Going
        (λ later s. Under way s g.0 × Answered answer.Steps steps s g.0 (At later) A B × HasCounted answer.Steps steps s g.0 count × Departs wanted place s g.0 count) g.3
        (λ later s p r. (p.0, record { reached = r; picked = p.1 ∙ sym g.1 }, p.1 ∙ sym counted, departs_at steps s g.0 counted p.2));
  }

  -- an instruction ended the run
  module _ (n : ℕ) (mid : Seen) (l : P) (v : Option Way) (lt : n < steps) (g : Goes wanted place n x mid way v (Tell p l)) (pick : ℕ)
      (below : pick < length (choices mid.room.held mid.pc)) (follows : Follows v way' (length (choices mid.room.held mid.pc)) pick) where
    abbrev all : List ℕ
    all = g.0 ++ pick ∷ []

    len : length all ≡ n + 1
    len = omega (arith, length-append g.0 (pick ∷ []), g.1)

    way_all : way' ≡ option_map (λ w. way_after w (length all)) way
    way_all = way_more way v way' (length (choices mid.room.held mid.pc)) pick n g.2 follows ∙ ap (λ (k : ℕ). option_map (λ w. way_after w k) way) (sym len)

    to_end : (s : State) (stop : Stop) → IsOver stop → (runs_from s all (n + 1)).stop ≡ stop → runs_from s all steps ≡ runs_from s all (n + 1)
    to_end s stop over e =
        let k : steps ≡ (steps - (n + 1)) + (n + 1) = omega (arith, lt) in
        ap (λ (i : ℕ). runs_from s all i) k ∙ runs_over s all (n + 1) (steps - (n + 1)) (subst (λ t. IsOver t) (sym e) over)

    executed_to_end : (s : State) (stop : Stop) → IsOver stop → (runs_from s all (n + 1)).stop ≡ stop → executed s all steps ≡ executed s all (n + 1)
    executed_to_end s stop over e =
        let k : steps ≡ (steps - (n + 1)) + (n + 1) = omega (arith, lt) in
        ap (λ (i : ℕ). executed s all i) k ∙ executed_over s all (n + 1) (steps - (n + 1)) (subst (λ t. IsOver t) (sym e) over)

    whole : (stop : Stop) → IsOver stop → (later : List ℕ) (s : State) → SoFar wanted place way all (n + 1) s → At later (runs_from s all (n + 1)) stop → Whole s all steps (At later) stop
    whole stop over later s p r = record {
      reached = subst (λ (e : State). At later e stop) (sym (to_end s stop over r.stopped)) r;
      picked = executed_to_end s stop over r.stopped ∙ p.1 ∙ sym len;
    }

    ended : (stop : Stop) (r : Stopped) → IsOver stop → Moves (λ s. turn s pick) mid y stop (Tell l q) → ((later : List ℕ) (s : State) → Whole s all steps (At later) stop → Answered r steps s all (At later) A B)
        → ((s : State) → executed s all steps ≡ count → HasCounted r steps s all count) → count ≡ n + 1 → Runs r
    ended stop r over t answers counts counted = record {
      image = rows;
      picks = all;
      way_is = way_all;
      run = from_meets (λ s. runs_from s all (n + 1)) (SoFar wanted place way all (n + 1)) stop
          (λ later s. Under way s all × Answered r steps s all (At later) A B × HasCounted r steps s all count × Departs wanted place s all count)
          (meets_more wanted place place x mid y stop (over_notes wanted place mid y stop over) way v way' (Tell p l) (Tell l q) Told (joins p l q) g.0 pick n g.1 g.2 follows g.3 t)
          (λ later s p e.
          let w = whole stop over later s p e in
          (p.0, answers later s w, counts s (w.picked ∙ len ∙ sym counted), departs_at (n + 1) s all counted p.2));
    }

    pub ended_at : (status : ℕ) → Moves (λ s. turn s pick) mid y (Exit status) (Tell l q) → count ≡ n + 1 → Runs (answer.Ended status)
    ended_at status t = ended (Exit status) (answer.Ended status) tt t (λ later s w. w) (λ s c. c)

    pub trapped_at : (code : ℕ) → Moves (λ s. turn s pick) mid y (Trap code) (Tell l q) → count ≡ n + 1 → Runs (answer.Trapped code)
    trapped_at code t = ended (Trap code) (answer.Trapped code) tt t (λ later s w. w) (λ s c. c)

    pub fault_at : (pc : ℕ) (why : Cause) → pc ≡ y.pc → Moves (λ s. turn s pick) mid y (Fault why) (Tell l q) → count ≡ n + 1 → Runs (answer.Fault pc why)
    fault_at pc why e t = ended (Fault why) (answer.Fault pc why) tt t (λ later s w.
        let end = runs_from s all steps in
        let still = fault_stays mid y pick why (Tell l q) t in
        let some : choices_at end ≡ length (choices mid.room.held mid.pc) = choices_same end mid (sym w.reached.pc ∙ b.pc ∙ still.0) (sym w.reached.memory ∙ b.room ∙ still.1) in
        record { reached = w.reached; place = sym w.reached.pc ∙ b.pc ∙ sym e; picked = omega (arith, w.picked, some, below) }) (λ s c. c)

    -- nothing more was told
    still_told : Tell l q [] → Meets (SoFar wanted place way g.0 n) (λ s. runs_from s g.0 n) x mid Going Told
    still_told quiet = (g.3.0, g.3.1, g.3.2, subst Told (append-nil g.3.1) (joins p l q g.3.1 [] g.3.3 quiet), g.3.4)

    -- an instruction was fetched and not carried out
    broken : (r : Stopped) (Why : State → ℕ → Type 0) → y ≡ mid → Tell l q []
        → ((e : State) → e.regs ≡ mid.regs → e.pc ≡ mid.pc → e.room ≡ mid.room → Why e pick)
        → ((later : List ℕ) (s : State) → Broken s all steps (At later) Why → Answered r steps s all (At later) A B)
        → ((s : State) → count + 1 ≡ length all → HasCounted r steps s all count) → count ≡ n → Runs r
    broken r Why still quiet why answers counts counted = record {
      image = rows;
      picks = all;
      way_is = way_all;
      run = from_meets (λ s. runs_from s g.0 n) (SoFar wanted place way g.0 n) Going
          (λ later s. Under way s all × Answered r steps s all (At later) A B × HasCounted r steps s all count × Departs wanted place s all count)
          (subst (λ (z : Seen). Meets (SoFar wanted place way g.0 n) (λ s. runs_from s g.0 n) x z Going Told) (sym still) (still_told quiet))
          (λ later s p e.
          let same_state : runs_from s all n ≡ runs_from s g.0 n = runs_append s g.0 (pick ∷ []) n (omega (arith, g.1)) in
          let regs : (runs_from s g.0 n).regs ≡ mid.regs = sym e.regs ∙ b.regs ∙ ap (λ (z : Seen). z.regs) still in
          let pc : (runs_from s g.0 n).pc ≡ mid.pc = sym e.pc ∙ b.pc ∙ ap (λ (z : Seen). z.pc) still in
          let room : (runs_from s g.0 n).room ≡ mid.room = sym e.memory ∙ b.room ∙ ap (λ (z : Seen). z.room) still in
          let some : choices_at (runs_from s g.0 n) ≡ length (choices mid.room.held mid.pc) = choices_same (runs_from s g.0 n) mid pc room in (
            under_more way v way' s g.0 pick (length (choices mid.room.held mid.pc)) n g.1 g.2 follows some p.0,
            answers later s (record {
              count = n;
              within = lt;
              reached = subst (λ (t : State). At later t Going) (sym same_state) e;
              picked = sym len;
              cause = subst (λ (t : State). Why t (slice_index all n)) (sym same_state) (subst (λ (k : ℕ). Why (runs_from s g.0 n) k) (sym (get_or_at g.0 pick [] 0 n g.1)) (why (runs_from s g.0 n) regs pc room));
            }),
            counts s (omega (arith, counted, len)),
            departs_at n s all counted (departs_append wanted place s g.0 (pick ∷ []) n (omega (arith, g.1)) p.2),
          ));
    }

    pub input_fault_at : y ≡ mid → Tell l q [] → Called mid pick Reads → A → count ≡ n → Runs answer.InputFault
    input_fault_at still quiet c rose = broken answer.InputFault (λ e p. CallsFor e p Reads × A) still quiet (λ e regs pc room. (asks e mid pick Reads regs pc room below c, rose)) (λ later s w. w) (λ s e. e)

    pub output_fault_at : y ≡ mid → Tell l q [] → Called mid pick Writes → B → count ≡ n → Runs answer.OutputFault
    output_fault_at still quiet c rose = broken answer.OutputFault (λ e p. CallsFor e p Writes × B) still quiet (λ e regs pc room. (asks e mid pick Writes regs pc room below c, rose)) (λ later s w. w) (λ s e. e)

    pub memory_at : y ≡ mid → Tell l q [] → Wanting mid pick → count ≡ n → Runs answer.Memory
    memory_at still quiet w = broken answer.Memory WantsMemory still quiet (λ e regs pc room. wants e mid pick regs pc room below w) (λ later s h. h) (λ s e. e)

  -- there was no word to fetch
  module _ (n : ℕ) (mid : Seen) (l : P) (v : Option Way) (lt : n < steps) (g : Goes wanted place n x mid way v (Tell p l)) (none : length (choices mid.room.held mid.pc) ≡ 0) (still : y ≡ mid) (quiet : Tell l q []) (stays : way' ≡ v) where
    no_step : (input : List (Option ℕ)) (output : List ℕ) (log : List Event) (pick : ℕ) → fetched_step (shown mid Going input output log) pick ≡ Faults cause.Fetch
    unfolding fetched_step
    no_step input output log pick = unfetched mid.room (pick % choices_at (shown mid Going input output log)) mid.regs mid.pc none

    one_more : (input : List (Option ℕ)) (output : List ℕ) (log : List Event) (pick : ℕ) → turn (shown mid Going input output log) pick ≡ shown mid (Fault cause.Fetch) input output log
    one_more input output log pick = turn_by (shown mid Going input output log) pick (Faults cause.Fetch) refl (no_step input output log pick)

    to_fault : Meets (SoFar wanted place way g.0 (n + 1)) (λ s. runs_from s g.0 (n + 1)) x mid (Fault cause.Fetch) Told
    to_fault =
        let m = g.3 in (
          m.0,
          m.1,
          m.2,
          subst Told (append-nil m.1) (joins p l q m.1 [] m.3 quiet),
          (
            m.4.0,
            m.4.1,
            λ later may o log.
                let s = shown x Going (bytes_to_come (m.4.0 ++ later)) o log in
                let here = m.4.2 later may o log in
                let one : adds_by (runs_from s g.0 n).stop ≡ 1 = ap (λ (e : State). adds_by e.stop) here.1 in
                let end : runs_from s g.0 (n + 1) ≡ shown mid (Fault cause.Fetch) (bytes_to_come later) (o ++ m.0) (log ++ m.1) =
                runs_more s g.0 n ∙ ap (λ (e : State). turn e (slice_index g.0 n)) here.1 ∙ one_more (bytes_to_come later) (o ++ m.0) (log ++ m.1) (slice_index g.0 n) in (
                  (
                    here.0.0,
                    omega (arith, executed_more s g.0 n, here.0.1, one),
                    departs_more wanted place place s g.0 n (shown mid Going (bytes_to_come later) (o ++ m.0) (log ++ m.1)) (shown mid (Fault cause.Fetch) (bytes_to_come later) (o ++ m.0) (log ++ m.1)) here.1 end
                        (over_notes wanted place mid mid (Fault cause.Fetch) tt) here.0.2,
                  ),
                  end,
                ),
          ),
        )

    rest : steps ≡ (steps - (n + 1)) + (n + 1)
    rest = omega (arith, lt)

    over : (s : State) → (runs_from s g.0 (n + 1)).stop ≡ Fault cause.Fetch → IsOver (runs_from s g.0 (n + 1)).stop
    over s e = subst (λ t. IsOver t) (sym e) tt

    to_last : (s : State) → (runs_from s g.0 (n + 1)).stop ≡ Fault cause.Fetch → runs_from s g.0 steps ≡ runs_from s g.0 (n + 1)
    to_last s e = ap (λ (i : ℕ). runs_from s g.0 i) rest ∙ runs_over s g.0 (n + 1) (steps - (n + 1)) (over s e)

    executed_to_last : (s : State) → (runs_from s g.0 (n + 1)).stop ≡ Fault cause.Fetch → executed s g.0 steps ≡ executed s g.0 (n + 1)
    executed_to_last s e = ap (λ (i : ℕ). executed s g.0 i) rest ∙ executed_over s g.0 (n + 1) (steps - (n + 1)) (over s e)

    pub unfetched_at : count ≡ n + 1 → Runs (answer.Fault mid.pc cause.Fetch)
    unfetched_at counted = record {
      image = rows;
      picks = g.0;
      way_is = stays ∙ g.2 ∙ ap (λ (k : ℕ). option_map (λ w. way_after w k) way) (sym g.1);
      run = from_meets (λ s. runs_from s g.0 (n + 1)) (SoFar wanted place way g.0 (n + 1)) (Fault cause.Fetch)
          (λ later s. Under way s g.0 × Answered (answer.Fault mid.pc cause.Fetch) steps s g.0 (At later) A B × HasCounted (answer.Fault mid.pc cause.Fetch) steps s g.0 count × Departs wanted place s g.0 count)
          (subst (λ (z : Seen). Meets (SoFar wanted place way g.0 (n + 1)) (λ s. runs_from s g.0 (n + 1)) x z (Fault cause.Fetch) Told) (sym still) to_fault)
          (λ later s p e.
          let last = to_last s e.stopped in
          let end = runs_from s g.0 steps in
          let pc : end.pc ≡ mid.pc = ap (λ (t : State). t.pc) last ∙ sym e.pc ∙ b.pc ∙ ap (λ (z : Seen). z.pc) still in
          let room : end.room ≡ mid.room = ap (λ (t : State). t.room) last ∙ sym e.memory ∙ b.room ∙ ap (λ (z : Seen). z.room) still in
          let some : choices_at end ≡ length (choices mid.room.held mid.pc) = choices_same end mid pc room in (
            p.0,
            record {
              reached = subst (λ (t : State). At later t (Fault cause.Fetch)) (sym last) e;
              place = pc;
              picked = omega (arith, executed_to_last s e.stopped, p.1, g.1, some, none);
            },
            executed_to_last s e.stopped ∙ p.1 ∙ sym counted,
            departs_at (n + 1) s g.0 counted p.2,
          ));
    }

  from_turn : (n fetched : ℕ) (mid : Seen) (l : P) (v : Option Way) (r : Stopped) → n < steps → fetched ≡ n + 1 → count ≡ executed_of (Some r) fetched → Goes wanted place n x mid way v (Tell p l) → FaultAt r y.pc
      → Turns (Some r) mid y v way' A B (Tell l q) → Runs r
  from_turn n fetched mid l v r lt one counted g f (inl t) =
      let is_fault : r ≡ answer.Fault mid.pc cause.Fetch = ap (λ (o : Option Stopped). unwrap_or o answer.Steps) t.1 in
      let same : executed_of (Some r) fetched ≡ fetched = ap (λ (o : Stopped). executed_of (Some o) fetched) is_fault in
      subst (λ (o : Stopped). Runs o) (sym is_fault) (unfetched_at n mid l v lt g t.0 t.2 t.3 t.4 (counted ∙ same ∙ one))
  from_turn n fetched mid l v (answer.Ended status) lt one counted g f (inr t) = ended_at n mid l v lt g t.0 t.1 t.2 status t.3 (counted ∙ one)
  from_turn n fetched mid l v (answer.Trapped code) lt one counted g f (inr t) = trapped_at n mid l v lt g t.0 t.1 t.2 code t.3 (counted ∙ one)
  from_turn n fetched mid l v answer.Steps lt one counted g f (inr t) = absurd t.3
  from_turn n fetched mid l v answer.InputFault lt one counted g f (inr t) = input_fault_at n mid l v lt g t.0 t.1 t.2 t.3.0 t.3.1 t.3.2 t.3.3 (omega (arith, counted, one))
  from_turn n fetched mid l v answer.OutputFault lt one counted g f (inr t) = output_fault_at n mid l v lt g t.0 t.1 t.2 t.3.0 t.3.1 t.3.2 t.3.3 (omega (arith, counted, one))
  from_turn n fetched mid l v (answer.Fault pc why) lt one counted g f (inr t) = fault_at n mid l v lt g t.0 t.1 t.2 pc why f t.3 (counted ∙ one)
  from_turn n fetched mid l v answer.Memory lt one counted g f (inr t) = memory_at n mid l v lt g t.0 t.1 t.2 t.3.0 t.3.1 t.3.2 (omega (arith, counted, one))

  walked : (r : Option Stopped) (fetched : ℕ) → count ≡ executed_of r fetched → Walked Tell p q wanted place steps r fetched x y way way' A B → IfSome r (λ stopped. FaultAt stopped y.pc) → Runs (unwrap_or r answer.Steps)
  walked None fetched counted w f = all_steps (counted ∙ w.0) w.1
  walked (Some r) fetched counted w f = from_turn w.0 fetched w.1 w.2 w.3 r w.4 w.5 counted w.6 f w.7

  pub ran : (actions : List Action) → x.actions ≡ actions → (r : Option Stopped) (fetched : ℕ) (result : Stopped) → result ≡ unwrap_or r answer.Steps → count ≡ executed_of r fetched
      → Walked Tell p q wanted place steps r fetched x y way way' A B → IfSome r (λ stopped. FaultAt stopped y.pc)
      → Ran steps result count wanted place was is actions x.left y.left x.written y.written way way' A B Told
  ran actions handed r fetched result e counted w f =
      subst (λ (all : List Action). Ran steps result count wanted place was is all x.left y.left x.written y.written way way' A B Told) handed (subst (λ (o : Stopped). Runs o) (sym e) (walked r fetched counted w f))

-- the device that the answer of a call of `run` names is the one that the last instruction names
pub input_count : (r : Option Stopped) (result : Stopped) (before now : ℕ) → result ≡ unwrap_or r answer.Steps → CountAfter (input_failed r) before now → CountAfter (is_input_fault result) before now
input_count None result before now e h = subst (λ (s : Stopped). CountAfter (is_input_fault s) before now) (sym e) h
input_count (Some stopped) result before now e h = subst (λ (s : Stopped). CountAfter (is_input_fault s) before now) (sym e) h

pub output_count : (r : Option Stopped) (result : Stopped) (before now : ℕ) → result ≡ unwrap_or r answer.Steps → CountAfter (output_failed r) before now → CountAfter (is_output_fault result) before now
output_count None result before now e h = subst (λ (s : Stopped). CountAfter (is_output_fault s) before now) (sym e) h
output_count (Some stopped) result before now e h = subst (λ (s : Stopped). CountAfter (is_output_fault s) before now) (sym e) h
