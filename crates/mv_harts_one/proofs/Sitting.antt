-- What follows of a hart whose seat is known, and which seats are which harts.
use Rattle.std.proofs.Common.{ℕ, ◌≡◌, ◌+◌, Bool, true, false, not, ◌&&◌, if◌then◌else◌, nat_eq, List, [], ◌∷◌, ◌++◌, Option, Some, None, option_map, unwrap_or, Ok, Err, refl, sym, ap, ap₂, ◌∙◌, subst}
use Rattle.std.specs.Prelude.{option_and_then}
use Rattle.std.specs.Result.{result_ok}
use Rattle.mv_bindings.specs.declared.binding.Binding.{Binding}
use Rattle.mv_bindings.specs.declared.binding.Event.{Event}
use Rattle.mv_bindings.specs.Bindings.{events_from}
use Rattle.mv_bindings.specs.Acts.{Act}
use Rattle.mv_isa.specs.Encoding.{decode}
use Rattle.mv_isa.specs.Execution.{reg}
use Rattle.mv_fetch.specs.declared.memory.AccessError.{AccessError}
use Rattle.mv_fetch.specs.Held.{Room, choices, only, region_of, store}
use Rattle.mv_fetch.specs.Stores.{spared}
use Rattle.mv_rv32.specs.Stepping.{access, with_held}
use Rattle.mv_patch.specs.Orders.{is_known_order}
use Rattle.mv_machine.specs.declared.engine.Engine.{Engine}
use Rattle.mv_machine.specs.declared.machine.Stopped.{Stopped}
use Rattle.mv_machine.specs.declared.machine.Stopped.TheVariants as answer
use Rattle.mv_machine.specs.Runs.{State, Going, is_going, request_of, bytes_to_come, choices_at, adopts}
use Rattle.mv_machine.specs.Commits.{fetched_instr}
use Rattle.mv_machine.specs.Moves.{seen, shown}
use Rattle.mv_harts_runs.specs.Harts.{Hart, is_on, Place, place_by, place_of, place, Store, store_of, told, is_in_text, with_store, shared_room, shared}
use Rattle.mv_harts_runs.proofs.Rooms.{shared_elsewhere}
use Rattle.mv_harts_one.specs.declared.seat.Mode.TheVariants as mode
use Rattle.mv_harts_one.specs.declared.seat.Seat.{Seat}
use Rattle.mv_harts_one.specs.declared.store.Store.{Store as SeenStore}
use Rattle.mv_harts_one.specs.Seats.{stop_of, has_failed, IsHalt, IsBefore, mode_of, Sits, adopted, width_as, store_as}
use Rattle.mv_harts_one.proofs.Words.{one_word, fetched_word, only_word, no_only}

-- the state of a seat
abbrev pub sat : ℕ → Seat → List ℕ → (output : List ℕ) → (log : List Event) → State
sat number seat bytes output log = record {
  hart = number;
  image = seat.engine.image;
  regs = seat.engine.hart.regs;
  pc = seat.engine.hart.pc;
  room = seat.engine.memory;
  bindings = seat.engine.bindings;
  input = bytes_to_come bytes;
  actions = [];
  output = output;
  log = log;
  stop = stop_of seat.stop;
}

pub sat_as : (number : ℕ) (seat : Seat) (bytes : List ℕ) (s : State) (output : List ℕ) (log : List Event) → seat.engine.number ≡ number
    → s ≡ sat seat.engine.number seat bytes output log → s ≡ sat number seat bytes s.output s.log
sat_as number seat bytes s output log n p =
    p ∙ ap (λ k. sat k seat bytes output log) n
    ∙ ap₂ (λ (o : List ℕ) (l : List Event). sat number seat bytes o l) (sym (ap (λ (x : State). x.output) p)) (sym (ap (λ (x : State). x.log) p))

-- a hart of which no device has failed stands before no call that did
pub none_failed : (stop : Option Stopped) (s : State) → has_failed stop ≡ false → IsBefore stop s
none_failed None s e = tt
none_failed (Some (answer.Ended status)) s e = tt
none_failed (Some (answer.Trapped code)) s e = tt
none_failed (Some answer.Steps) s e = tt
none_failed (Some answer.InputFault) s e = absurd (cc)
none_failed (Some answer.OutputFault) s e = absurd (cc)
none_failed (Some (answer.Fault pc why)) s e = tt
none_failed (Some answer.Memory) s e = tt

-- ---- what is fetched

module _ (number : ℕ) (seat : Seat) (bytes : List ℕ) (o : Hart) (sits : Sits number seat bytes o) where
  pub fetches : choices_at o.state ≡ 1 → (w : ℕ) × (choices seat.engine.memory.held seat.engine.hart.pc ≡ w ∷ [])
  fetches one = one_word (sat number seat bytes o.state.output o.state.log) (sym (ap choices_at sits.state) ∙ one)

  pub fetches_some : choices_at o.state ≡ 1 → None ≡ only (choices seat.engine.memory.held seat.engine.hart.pc) → ⊥
  fetches_some one e = let f = fetches one in no_only _ f.0 e f.1

  module _ (w : ℕ) (e : Some w ≡ only (choices seat.engine.memory.held seat.engine.hart.pc)) where
    abbrev t : State
    t = sat number seat bytes o.state.output o.state.log

    instr : fetched_instr t 0 ≡ decode w
    instr = fetched_word t w (only_word _ w e)

    pub place_is : (p : Place)
        → p ≡ place_of (decode w) (place_by (request_of (reg seat.engine.hart.regs 17)) (is_known_order seat.engine.image (reg seat.engine.hart.regs 10) (reg seat.engine.hart.regs 11)) (nat_eq (reg seat.engine.hart.regs 26) 0))
        → p ≡ place o.state 0
    unfolding place
    place_is p q =
        q ∙ sym (ap (λ i. place_of i (place_by (request_of (reg seat.engine.hart.regs 17)) (is_known_order seat.engine.image (reg seat.engine.hart.regs 10) (reg seat.engine.hart.regs 11)) (nat_eq (reg seat.engine.hart.regs 26) 0))) instr)
        ∙ sym (ap (λ (s : State). place s 0) sits.state)

    pub told_is : (st : Option Store) → st ≡ option_and_then (λ i. store_of i seat.engine.hart.regs) (decode w) → st ≡ told o.state 0
    unfolding told
    told_is st q = q ∙ sym (ap (λ i. option_and_then (λ j. store_of j seat.engine.hart.regs) i) instr) ∙ sym (ap (λ (s : State). told s 0) sits.state)

-- ---- bindings that are adopted

-- the state of a seat that goes on, as its engine shows it
pub shown_by : (number : ℕ) (was : Seat) (bytes : List ℕ) (o : Hart) → Sits number was bytes o → was.stop ≡ None → o.state ≡ shown (seen was.engine [] None None) Going (bytes_to_come bytes) o.state.output o.state.log
shown_by number was bytes o sits on =
    sits.state
    ∙ ap (λ k. sat k was bytes o.state.output o.state.log) (sym sits.engine)
    ∙ ap (λ (r : Option Stopped). shown (seen was.engine [] None None) (stop_of r) (bytes_to_come bytes) o.state.output o.state.log) on

abbrev pub IsAdopted : Seat → Engine → List Binding → Type 0
IsAdopted was e bs =
    (left written : Option (List ℕ)) (input : List (Option ℕ)) (output : List ℕ) (log : List Event) →
    adopts (shown (seen was.engine [] left written) Going input output log) bs ≡ shown (seen e [] left written) Going input output (log ++ events_from 0 was.engine.bindings bs)

pub adopts_sits : (was : Seat) (e : Engine) (bs : List Binding) → was.stop ≡ None → e.number ≡ was.engine.number → IsAdopted was e bs
    → (number : ℕ) (bytes : List ℕ) (o : Hart) (taken : List Act) → Sits number was bytes o
    → Sits number (record was { engine = e; mode = mode.Runs; waited = false; instructions = was.instructions + 1 }) bytes (adopted o bs taken)
adopts_sits was e bs on same h number bytes o taken sits =
    let log = o.state.log ++ events_from 0 was.engine.bindings bs in
    let n : e.number ≡ number = same ∙ sits.engine in
    let is : Seat = record was { engine = e; mode = mode.Runs; waited = false; instructions = was.instructions + 1 } in
    let q : adopts o.state bs ≡ sat e.number is bytes o.state.output log =
    ap (λ s. adopts s bs) (shown_by number was bytes o sits on)
    ∙ h None None (bytes_to_come bytes) o.state.output o.state.log
    ∙ ap (λ (r : Option Stopped). shown (seen e [] None None) (stop_of r) (bytes_to_come bytes) o.state.output log) (sym on) in
    record {
      engine = n;
      state = sat_as number is bytes (adopts o.state bs) o.state.output log n q;
      mode = refl;
      waited = refl;
      failed = sits.failed;
      count = ap (λ k. k + 1) sits.count;
      halts = sits.halts;
      before = none_failed was.stop (adopts o.state bs) (ap has_failed on);
    }

-- ---- another hart's store

not_and : (b c : Bool) → (b && not c) ≡ true → c ≡ false
not_and true true e = absurd (cc)
not_and true false e = refl
not_and false c e = absurd (cc)

-- a hart whose memory stays
pub shared_same : (o : Hart) (st : Option Store) → shared_room st o.state.room ≡ o.state.room → shared st o ≡ o
shared_same o st e = by_on (is_on o)
  where
    by_on : (b : Bool) → (if b then record o { state = record o.state { room = shared_room st o.state.room } } else o) ≡ o
    by_on true = ap (λ (r : Room). record o { state = record o.state { room = r } }) e
    by_on false = refl

pub shared_none : (room : Room) → shared_room None room ≡ room
unfolding shared_room
shared_none room = refl

shared_inside : (st : Store) (room : Room) → is_in_text st.address ≡ true → shared_room (Some st) room ≡ with_store room st
unfolding shared_room
shared_inside st room e = ap (λ b. if b then with_store room st else room) e

module _ (number : ℕ) (was : Seat) (bytes : List ℕ) (o : Hart) (sits : Sits number was bytes o) (store : Option SeenStore) where
  pub takes_none : store ≡ None → Sits number was bytes (shared (option_map store_as store) o)
  takes_none e =
      let q : shared (option_map store_as store) o ≡ o = ap (λ st. shared (option_map store_as st) o) e ∙ shared_same o None (shared_none o.state.room) in
      subst (λ x. Sits number was bytes x) (sym q) sits

  pub takes_outside : (st : SeenStore) → store ≡ Some st → is_in_text st.address ≡ false → Sits number was bytes (shared (option_map store_as store) o)
  takes_outside st e out =
      let q : shared (option_map store_as store) o ≡ o = ap (λ s. shared (option_map store_as s) o) e ∙ shared_same o (Some (store_as st)) (shared_elsewhere (store_as st) o.state.room out) in
      subst (λ x. Sits number was bytes x) (sym q) sits

  -- the seat differs by its memory alone
  pub takes_inside : (is : Seat) (st : SeenStore) → store ≡ Some st → is_in_text st.address ≡ true → is_on o ≡ true → is.engine.memory ≡ with_store was.engine.memory (store_as st)
      → is.engine.number ≡ was.engine.number → ((output : List ℕ) (log : List Event) → sat number is bytes output log ≡ record (sat number was bytes output log) { room = is.engine.memory })
      → is.mode ≡ was.mode → is.waited ≡ was.waited → is.stop ≡ was.stop → is.instructions ≡ was.instructions → Sits number is bytes (shared (option_map store_as store) o)
  takes_inside is st e into on room engine same mode waited stop instructions =
      let x : Hart = record o { state = record o.state { room = is.engine.memory } } in
      let behind : shared_room (Some (store_as st)) o.state.room ≡ is.engine.memory =
      shared_inside (store_as st) o.state.room into ∙ ap (λ (s : State). with_store s.room (store_as st)) sits.state ∙ sym room in
      let q : shared (option_map store_as store) o ≡ x =
      ap (λ s. shared (option_map store_as s) o) e
      ∙ ap (λ b. if b then record o { state = record o.state { room = shared_room (Some (store_as st)) o.state.room } } else o) on
      ∙ ap (λ (r : Room). record o { state = record o.state { room = r } }) behind in
      subst (λ y. Sits number is bytes y) (sym q)
      (record {
        engine = engine ∙ sits.engine;
        state = ap (λ (s : State). record s { room = is.engine.memory }) sits.state ∙ sym (same o.state.output o.state.log);
        mode = sits.mode ∙ ap mode_of (sym mode);
        waited = sits.waited ∙ sym waited;
        failed = sits.failed ∙ ap has_failed (sym stop);
        count = sits.count ∙ sym instructions;
        halts = subst (λ r. IsHalt r) (sym stop) sits.halts;
        before = none_failed is.stop x.state (ap has_failed stop ∙ sym sits.failed ∙ not_and (is_going o.state.stop) o.failed on);
      })

-- what a store leaves

pub stored_ok : (room room' : Room) (st : SeenStore) (width : ℕ) → width ≡ width_as st.width → store room.held st.address width st.value ≡ Ok room'.held → room'.spare ≡ spared (region_of st.address) room.spare → room'.reserve ≡ room.reserve
    → room' ≡ with_store room (store_as st)
unfolding access
stored_ok room room' st width n e spare reserve =
    ap₂ (λ (s r : ℕ). record room' { spare = s; reserve = r }) spare reserve
    ∙ sym (ap (λ r. unwrap_or (option_map (with_held st.address room) (result_ok r)) room) (ap (λ k. store room.held st.address k st.value) (sym n) ∙ e))

pub stored_not : (room room' : Room) (st : SeenStore) (width : ℕ) (x : AccessError) → width ≡ width_as st.width → store room.held st.address width st.value ≡ Err x → room' ≡ room → room' ≡ with_store room (store_as st)
unfolding access
stored_not room room' st width x n e same =
    same ∙ sym (ap (λ r. unwrap_or (option_map (with_held st.address room) (result_ok r)) room) (ap (λ k. store room.held st.address k st.value) (sym n) ∙ e))
