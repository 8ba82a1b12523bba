-- What an instruction that just goes on is to the hart that its seat is.
use Rattle.std.proofs.Common.{ℕ, ◌≡◌, ◌⊎◌, inl, inr, ◌+◌, ◌%◌, Bool, true, false, List, [], ◌∷◌, length, Option, Some, None, is_some, refl, sym, ap, ap₂, ◌∙◌, subst}
use Rattle.std.specs.Prelude.{slice_get, if◌then◌else◌}
use Rattle.mv_bindings.specs.declared.binding.Binding.{Binding}
use Rattle.mv_bindings.specs.declared.binding.Event.{Event}
use Rattle.mv_bindings.specs.Acts.{Act}
use Rattle.mv_isa.specs.declared.instr.Instr.TheVariants.{Ecall}
use Rattle.mv_isa.specs.Execution.{Goes, Calls, step}
use Rattle.mv_fetch.specs.Held.{Room, choices, only}
use Rattle.mv_rv32.specs.Stepping.{access, picked_step, Stays}
use Rattle.mv_rv32.specs.declared.hart.Hart.{Hart as CodeHart}
use Rattle.mv_rv32.specs.declared.hart.Stepped.{Stepped}
use Rattle.mv_rv32.specs.declared.hart.Stepped.TheVariants as stepped
use Rattle.mv_machine.specs.declared.machine.Stopped.{Stopped}
use Rattle.mv_machine.specs.Runs.{State, Going, choices_at, fetched_step, turn, is_going}
use Rattle.mv_machine.specs.Commits.{fetched_instr, after_instr}
use Rattle.mv_machine.proofs.Turns.{turn_by}
use Rattle.mv_harts_runs.specs.Harts.{Hart, Store, shared, told, handed, Move, move}
use Rattle.mv_harts_runs.proofs.Acts.{calls_where, IsNoCall, ecall_or, step_acts, instr_acts, place_elsewhere}
use Rattle.mv_harts_runs.proofs.Rooms.{shared_elsewhere}
use Rattle.mv_harts_one.specs.declared.seat.Seat.{Seat}
use Rattle.mv_harts_one.specs.Seats.{stop_of, has_failed, IsHalt, IsBefore, mode_of, Sits}
use Rattle.mv_harts_one.specs.Executions.{is_into_text, HasAdvanced}
use Rattle.mv_harts_one.proofs.Words.{only_word}
use Rattle.mv_harts_one.proofs.Sitting.{sat, none_failed, shared_same, shared_none}

-- nothing comes to nothing, whether a run goes on or not
none_stays : (going : Bool) (under : Option (List Binding)) → (if going then under else under) ≡ under
none_stays true under = refl
none_stays false under = refl

module _ (number : ℕ) (was is : Seat) (bytes : List ℕ) (o : Hart) (act : Act) (sits : Sits number was bytes o) (on : was.stop ≡ None) (w : ℕ) (word : Some w ≡ only (choices was.engine.memory.held was.engine.hart.pc))
    (hart : CodeHart) (room : Room) (goes : step access (Some w) was.engine.hart.regs was.engine.hart.pc was.engine.memory ≡ Goes hart.regs hart.pc room)
    (same : (output : List ℕ) (log : List Event) → sat number is bytes output log ≡ record (sat number was bytes output log) { regs = hart.regs; pc = hart.pc; room = room }) where
  abbrev m : Move
  m = move o.state act None 0

  step_is : fetched_step o.state 0 ≡ Goes hart.regs hart.pc room
  unfolding fetched_step picked_step choices_at
  step_is =
      ap (λ (s : State). step access (slice_get (choices s.room.held s.pc) (0 % length (choices s.room.held s.pc))) s.regs s.pc s.room) sits.state
      ∙ ap (λ ws. step access (slice_get ws (0 % length ws)) was.engine.hart.regs was.engine.hart.pc was.engine.memory) (only_word (choices was.engine.memory.held was.engine.hart.pc) w word)
      ∙ goes

  no_call : IsNoCall (fetched_instr o.state 0)
  no_call = by_call (ecall_or (fetched_instr o.state 0))
    where
      by_call : (fetched_instr o.state 0 ≡ Some Ecall) ⊎ IsNoCall (fetched_instr o.state 0) → IsNoCall (fetched_instr o.state 0)
      by_call (inl e) = absurd (let c : Goes hart.regs hart.pc room ≡ Calls = sym step_is ∙ calls_where o.state 0 e in cc)
      by_call (inr q) = q

  going : o.state.stop ≡ Going
  going = ap (λ (s : State). s.stop) sits.state ∙ ap stop_of on

  turned : turn (handed o.state act) 0 ≡ record o.state { regs = hart.regs; pc = hart.pc; room = room; actions = act ∷ [] }
  turned = turn_by (handed o.state act) 0 (Goes hart.regs hart.pc room) going (step_acts o.state (act ∷ []) 0 ∙ step_is)

  state_is : m.state ≡ sat number is bytes o.state.output o.state.log
  unfolding move
  state_is =
      ap (λ (s : State). record s { actions = [] }) turned
      ∙ ap (λ (s : State). record s { regs = hart.regs; pc = hart.pc; room = room; actions = [] }) sits.state
      ∙ sym (same o.state.output o.state.log)

  under_is : m.under ≡ None
  unfolding move
  under_is =
      ap (λ i. if is_going o.state.stop then after_instr (handed o.state act) i None else None) (instr_acts o.state (act ∷ []) 0)
      ∙ ap (λ (u : Option (List Binding)). if is_going o.state.stop then u else None) (no_call.calm (handed o.state act))
      ∙ none_stays (is_going o.state.stop) None

  pub has_advanced : is.engine.number ≡ was.engine.number → is.mode ≡ was.mode → is.waited ≡ false → is.stop ≡ was.stop → is.instructions ≡ was.instructions + 1
      → is_into_text (told o.state 0) ≡ false → HasAdvanced number o act m is bytes
  unfolding move
  has_advanced engine mode waited stop instructions outside = record {
    place = place_elsewhere o.state 0 no_call;
    store = outside;
    sits = record {
      engine = engine ∙ sits.engine;
      state = state_is ∙ ap₂ (λ (l : List ℕ) (e : List Event). sat number is bytes l e) (sym (ap (λ (s : State). s.output) state_is)) (sym (ap (λ (s : State). s.log) state_is));
      mode = sits.mode ∙ ap mode_of (sym mode);
      waited = sym waited;
      failed = sits.failed ∙ ap has_failed (sym stop);
      count = ap (λ k. k + 1) sits.count ∙ sym instructions;
      halts = subst (λ r. IsHalt r) (sym stop) sits.halts;
      before = none_failed is.stop m.state (ap has_failed (stop ∙ on));
    };
    under = under_is;
    output = ap (λ (s : State). s.output) state_is;
  }

-- ---- what doesn't just go on changes nothing

pub stays_there : (r : Stepped) (h h' : CodeHart) (m m' : Room) → (r ≡ stepped.Next → ⊥) → Stays r h h' m m' → (h' ≡ h) × (m' ≡ m)
stays_there stepped.Next h h' m m' n s = absurd (n refl)
stays_there stepped.Call h h' m m' n s = s
stays_there (stepped.Fault why) h h' m m' n s = s
stays_there stepped.Memory h h' m m' n s = s

-- ---- a hart that has not ended

pub none_by : (stop : Option Stopped) (b : Bool) → b ≡ is_some stop → b ≡ false → stop ≡ None
none_by None b e f = refl
none_by (Some stopped) b e f = absurd (let c : true ≡ false = sym e ∙ f in cc)

-- a seat that is as it was
pub stands : (number : ℕ) (was is : Seat) (bytes : List ℕ) (o : Hart) → is.engine.hart ≡ was.engine.hart → is.engine.memory ≡ was.engine.memory → is.engine.number ≡ was.engine.number
    → ((output : List ℕ) (log : List Event) → sat number is bytes output log ≡ record (sat number was bytes output log) { regs = is.engine.hart.regs; pc = is.engine.hart.pc; room = is.engine.memory })
    → is.mode ≡ was.mode → is.waited ≡ was.waited → is.stop ≡ was.stop → is.instructions ≡ was.instructions → Sits number was bytes o → Sits number is bytes o
stands number was is bytes o hart memory engine same mode waited stop instructions sits = record {
  engine = engine ∙ sits.engine;
  state = sits.state
      ∙ ap₂ (λ (h : CodeHart) (m : Room). record (sat number was bytes o.state.output o.state.log) { regs = h.regs; pc = h.pc; room = m }) (sym hart) (sym memory)
      ∙ sym (same o.state.output o.state.log);
  mode = sits.mode ∙ ap mode_of (sym mode);
  waited = sits.waited ∙ sym waited;
  failed = sits.failed ∙ ap has_failed (sym stop);
  count = sits.count ∙ sym instructions;
  halts = subst (λ r. IsHalt r) (sym stop) sits.halts;
  before = subst (λ r. IsBefore r o.state) (sym stop) sits.before;
}

-- ---- a store that isn't into text

pub unshared : (st : Option Store) → is_into_text st ≡ false → (o : Hart) → shared st o ≡ o
unshared None e o = shared_same o None (shared_none o.state.room)
unshared (Some st) e o = shared_same o (Some st) (shared_elsewhere st o.state.room e)
