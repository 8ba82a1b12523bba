-- What a poll that takes nothing is to the hart that its seat is.
use Rattle.std.proofs.Common.{ℕ, ◌≡◌, ◌+◌, false, ◌&&◌, not, List, [], ◌∷◌, ◌++◌, append-nil, Option, Some, None, refl, sym, ap, ◌∙◌}
use Rattle.mv_bindings.specs.declared.binding.Binding.{Binding}
use Rattle.mv_bindings.specs.Acts.{Skip}
use Rattle.mv_isa.specs.Encoding.{decode}
use Rattle.mv_isa.specs.declared.instr.Instr.TheVariants.{Ecall}
use Rattle.mv_fetch.specs.Held.{choices}
use Rattle.mv_machine.specs.declared.engine.Engine.{Engine}
use Rattle.mv_machine.specs.declared.machine.Stopped.{Stopped}
use Rattle.mv_machine.specs.Runs.{State, Going, answered, refused, bytes_to_come, choices_at, turn}
use Rattle.mv_machine.specs.Commits.{is_some_pair}
use Rattle.mv_machine.specs.Moves.{seen, shown, Does}
use Rattle.mv_machine.proofs.Moved.{nothing_written}
use Rattle.mv_harts_runs.specs.Harts.{Hart, AtPoll, place, handed, Move, move}
use Rattle.mv_harts_runs.proofs.Adopting.{at_call, skipping}
use Rattle.mv_harts_one.specs.declared.seat.Seat.{Seat}
use Rattle.mv_harts_one.specs.Seats.{stop_of, has_failed, Sits, is_under}
use Rattle.mv_harts_one.specs.Executions.{is_fence_i, HasExecuted}
use Rattle.mv_harts_one.proofs.Words.{fetched_word}
use Rattle.mv_harts_one.proofs.Sitting.{sat, sat_as, none_failed, fetches, shown_by}
use Rattle.mv_harts_one.proofs.Executing.{and_true, under_is}
use Rattle.mv_harts_runs.proofs.Calls.{no_pairs}

module _ (number : ℕ) (was : Seat) (bytes : List ℕ) (o : Hart) (before : Option (List Binding)) (sits : Sits number was bytes o) (on : was.stop ≡ None) (one : choices_at o.state ≡ 1) (polls : place o.state 0 ≡ AtPoll)
    (e : Engine) (same : e.number ≡ was.engine.number) (does : Does (λ s. refused s 0) was.engine [] e [] Going []) where
  abbrev is : Seat
  is = record was { engine = e; waited = false; instructions = was.instructions + 1 }

  abbrev m : Move
  m = move o.state Skip before 0

  going : o.state.stop ≡ Going
  going = ap (λ (s : State). s.stop) sits.state ∙ ap stop_of on

  state_is : m.state ≡ sat e.number is bytes o.state.output (o.state.log ++ [])
  unfolding move
  state_is =
      ap (λ (s : State). record s { actions = [] }) (skipping o.state polls going)
      ∙ ap (λ (s : State). record (refused (record s { actions = [] }) 0) { actions = [] }) (shown_by number was bytes o sits on)
      ∙ ap (λ (s : State). record s { actions = [] }) (does None None (bytes_to_come bytes) o.state.output o.state.log)
      ∙ ap (λ (r : Option Stopped). shown (seen e [] None None) (stop_of r) (bytes_to_come bytes) o.state.output (o.state.log ++ [])) (sym on)

  bindings_stay : (turn (handed o.state Skip) 0).bindings ≡ o.state.bindings
  unfolding answered
  bindings_stay = ap (λ (s : State). s.bindings) (skipping o.state polls going)

  word : (w : ℕ) × (choices o.state.room.held o.state.pc ≡ w ∷ [])
  word = let f = fetches number was bytes o sits one in (f.0, ap (λ (s : State). choices s.room.held s.pc) sits.state ∙ f.1)

  -- the commit that is under way stays so
  stays_under : is_under before ≡ is_under m.under
  unfolding move
  stays_under =
      let w = word in
      let call : decode w.0 ≡ Some Ecall = sym (fetched_word o.state w.0 w.1) ∙ at_call o.state polls going in
      and_true (is_under before)
      ∙ ap (λ i. is_under before && not (is_fence_i i)) (sym call)
      ∙ under_is (handed o.state Skip) before false w.0 o.state.bindings going w.1 bindings_stay (sym (ap is_some_pair (no_pairs o.state.image o.state.bindings)))

  pub has_skipped : (written : Option (List ℕ)) → HasExecuted number o Skip m is (is_under before) (Some bytes) written written
  has_skipped written = record {
    bytes = bytes;
    has_left = refl;
    sits = record {
      engine = same ∙ sits.engine;
      state = sat_as number is bytes m.state o.state.output (o.state.log ++ []) (same ∙ sits.engine) state_is;
      mode = sits.mode;
      waited = refl;
      failed = sits.failed;
      count = ap (λ k. k + 1) sits.count;
      halts = sits.halts;
      before = none_failed is.stop m.state (ap has_failed on);
    };
    under = stays_under;
    more = [];
    output = ap (λ (s : State). s.output) state_is ∙ sym (append-nil o.state.output);
    wrote = nothing_written written;
  }
