-- What an environment call does from a calm time.
use Rattle.std.proofs.Common.{◌≡◌, ℕ, ◌+◌, ◌-◌, ◌%◌, ◌^◌, ◌<◌, ◌≤◌, Bool, true, false, eqb, ltb, List, [], ◌∷◌, ◌++◌, slice_index, Option, Some, None, refl, sym, ap, ◌∙◌, subst, arith}
use Rattle.std.proofs.lemmas.Bool.{lt-ltb, ne_eqb}
use Rattle.mv_machine.specs.Acts.{PollActs}
use Rattle.mv_isa.specs.Encoding.{decode}
use Rattle.mv_isa.specs.Execution.{Outcome, Goes, Calls, Faults, reg, put, step}
use Rattle.mv_fetch.specs.Held.{Room, choices}
use Rattle.mv_rv32.specs.Stepping.{access as room_access}
use Rattle.mv_image.specs.Spelling.{Fields}
use Rattle.mv_ir.specs.World.{World}
use Rattle.mv_ir.specs.KnownFunctions.{next_byte, written}
use Rattle.mv_machine.specs.Runs.{State, Stop, Exit, Trap, Reads, Writes, request_of, bytes_to_come, word_read, next_read, later_reads, answered, environment_call, trap_of, stopped, fetched_step, first, runs}
use Rattle.mv_machine.proofs.Turns.{runs_more, turn_by, IsOver, runs_over}
use Rattle.mv_refine_machine.specs.Calm.{Rest, IsCalm}
use Rattle.mv_refine_machine.specs.Calls.{IsAnswered, stopped_at, AtCall, CallsAreAnswered}
use Rattle.mv_refine_machine.specs.MachineRuns.{access, rest_of, spot_of, unpatched_word, is_sound}
use Rattle.mv_refine_machine.proofs.Steps.{beside, step_beside}
use Rattle.mv_refine_machine.proofs.Fetches.{unpatched_stands, calm_choice, fetches_one}
use Rattle.mv_refine_machine.proofs.Open.{sound_at, decodes_none}

-- ---- what a call leaves

read_from : (image : Fields) (w : World) (s : State) (bytes : List ℕ) → w.input ≡ bytes → IsCalm image w (rest_of s)
    → IsAnswered image (next_byte bytes w) (spot_of s) (spot_of (environment_call Reads s))
unfolding answered
read_from image w s [] e calm =
    let none = calm.input ∙ ap bytes_to_come e in record {
      regs = ap (λ x. put s.regs 10 (word_read (next_read x))) none;
      pc = refl;
      room = refl;
      calm = record {
        goes_on = calm.goes_on;
        text = calm.text;
        no_older = calm.no_older;
        stack = calm.stack;
        input = ap later_reads none ∙ sym (ap bytes_to_come e);
        output = calm.output;
        bindings = calm.bindings;
        log = calm.log;
      };
    }
read_from image w s (byte ∷ bytes) e calm =
    let some = calm.input ∙ ap bytes_to_come e in record {
      regs = ap (λ x. put s.regs 10 (word_read (next_read x))) some;
      pc = refl;
      room = refl;
      calm = record {
        goes_on = calm.goes_on;
        text = calm.text;
        no_older = calm.no_older;
        stack = calm.stack;
        input = ap later_reads some;
        output = calm.output;
        bindings = calm.bindings;
        log = calm.log;
      };
    }

write_to : (image : Fields) (w : World) (s : State) → IsCalm image w (rest_of s)
    → IsAnswered image (written (reg s.regs 10) w) (spot_of s) (spot_of (environment_call Writes s))
unfolding answered
write_to image w s calm = record {
  regs = refl;
  pc = refl;
  room = refl;
  calm = record {
    goes_on = calm.goes_on;
    text = calm.text;
    no_older = calm.no_older;
    stack = calm.stack;
    input = calm.input;
    output = ap (λ x. x ++ (reg s.regs 10 % 256) ∷ []) calm.output;
    bindings = calm.bindings;
    log = calm.log;
  };
}

trap_is : (code : ℕ) → 1 ≤ code → code ≤ 4 → trap_of code ≡ Trap code
unfolding trap_of
trap_is code ge le =
    let some : eqb code 0 ≡ false = ne_eqb code 0 (λ e. omega (arith, ge, e)) in
    let below : ltb code 5 ≡ true = lt-ltb code 5 (omega (arith, le)) in rw (some, below) refl

-- ---- on the run

-- a call that isn't one of the machine's memory
calls_beside : (m : Rest) (outcome : Outcome Room) → beside m outcome ≡ Calls → outcome ≡ Calls
calls_beside m (Goes regs pc room) e = absurd (cc)
calls_beside m Calls e = refl
calls_beside m (Faults why) e = absurd (cc)

call_has_word : (word : Option ℕ) (regs : List ℕ) (pc : ℕ) (m : Rest) → step access word regs pc m ≡ Calls → (w : ℕ) × (word ≡ Some w)
call_has_word None regs pc m e = absurd (cc)
call_has_word (Some w) regs pc m e = (w, refl)

module _ (image : Fields) (input : List (Option ℕ)) (polls : PollActs) (picks : List ℕ) where
  abbrev at : ℕ → State
  at i = runs image input polls picks i

  abbrev Asked : (number i : ℕ) → World → Type 0
  Asked = AtCall image input polls picks

  record Called (i : ℕ) : Type 0 where
    word : ℕ
    one : choices (at i).room.held (at i).pc ≡ word ∷ []
    calls : step room_access (Some word) (at i).regs (at i).pc (at i).room ≡ Calls

  called : (number i : ℕ) (w : World) → Asked number i w → Called i
  called number i w h =
      let found = call_has_word (unpatched_word image (at i).pc) (at i).regs (at i).pc (rest_of (at i)) h.calls in
      let steps = ap (λ x. step access x (at i).regs (at i).pc (rest_of (at i))) (sym found.1) ∙ h.calls in record {
        word = found.0;
        one = calm_choice image w (rest_of (at i)) (at i).pc found.0 h.calm (unpatched_stands image w (at i).pc found.0 found.1);
        calls = calls_beside (rest_of (at i)) (step room_access (Some found.0) (at i).regs (at i).pc (at i).room)
            (sym (step_beside (Some found.0) (at i).regs (at i).pc (rest_of (at i))) ∙ steps);
      }

  -- the state after the call
  after_call : (number i : ℕ) (w : World) → Asked number i w → at (i + 1) ≡ environment_call (request_of number) (at i)
  after_call number i w h =
      let c = called number i w h in
      let outcome : Outcome Room = Calls in
      let fetched : fetched_step (at i) (slice_index picks i) ≡ outcome = fetches_one (at i) (slice_index picks i) c.word c.one ∙ c.calls in
      runs_more (first image input polls) picks i ∙ turn_by (at i) (slice_index picks i) outcome h.calm.goes_on fetched
      ∙ ap (λ a. environment_call (request_of a) (at i)) h.asks

  sound : (closed : (pc address : ℕ) → Bool) (number i : ℕ) (w : World) → Asked number i w → is_sound closed (spot_of (at i)) ≡ true
  sound closed number i w h = let c = called number i w h in sound_at closed (spot_of (at i)) c.word c.one (λ a e. absurd (decodes_none room_access (at i).regs (at i).pc (at i).room (decode c.word) a c.calls e))

  reads : (i : ℕ) (w : World) → Asked 1 i w → IsAnswered image (next_byte w.input w) (spot_of (at i)) (spot_of (at (i + 1)))
  unfolding request_of
  reads i w h = subst (λ s. IsAnswered image (next_byte w.input w) (spot_of (at i)) (spot_of s)) (sym (after_call 1 i w h)) (read_from image w (at i) w.input refl h.calm)

  writes : (i : ℕ) (w : World) → Asked 2 i w → IsAnswered image (written (reg (at i).regs 10) w) (spot_of (at i)) (spot_of (at (i + 1)))
  unfolding request_of
  writes i w h = subst (λ s. IsAnswered image (written (reg (at i).regs 10) w) (spot_of (at i)) (spot_of s)) (sym (after_call 2 i w h)) (write_to image w (at i) h.calm)

  -- a run that was stopped stays so
  stays : (i j : ℕ) (stop : Stop) → IsOver stop → at (i + 1) ≡ stopped (at i) stop → i < j → spot_of (at j) ≡ stopped_at (spot_of (at i)) stop
  stays i j stop over e lt =
      let later : at (j - (i + 1) + (i + 1)) ≡ at (i + 1) = runs_over (first image input polls) picks (i + 1) (j - (i + 1)) (subst (λ (s : State). IsOver s.stop) (sym e) over) in
      let same : j - (i + 1) + (i + 1) ≡ j = omega (arith, lt) in
      ap spot_of (ap at (sym same) ∙ later ∙ e)

  exits : (i j : ℕ) (w : World) → Asked 0 i w → i < j → spot_of (at j) ≡ stopped_at (spot_of (at i)) (Exit (reg (at i).regs 10 % 2 ^ 8))
  unfolding request_of
  exits i j w h lt = stays i j (Exit (reg (at i).regs 10 % 2 ^ 8)) tt (after_call 0 i w h) lt

  traps : (i j : ℕ) (w : World) → Asked 3 i w → 1 ≤ reg (at i).regs 10 → reg (at i).regs 10 ≤ 4 → i < j → spot_of (at j) ≡ stopped_at (spot_of (at i)) (Trap (reg (at i).regs 10))
  unfolding request_of
  traps i j w h ge le lt =
      stays i j (Trap (reg (at i).regs 10)) tt (after_call 3 i w h ∙ ap (stopped (at i)) (trap_is (reg (at i).regs 10) ge le)) lt

  pub answered_calls : (closed : (pc address : ℕ) → Bool) → CallsAreAnswered image input polls picks closed
  answered_calls closed = record { sound = sound closed; exits = exits; reads = reads; writes = writes; traps = traps }
