-- What a run has written, logged and taken only grows, and where it goes on it went on before.
use Rattle.std.proofs.Common.{◌≡◌, ℕ, zero, suc, ◌+◌, ◌-◌, ◌≤◌, List, [], ◌∷◌, length, slice_index, Option, refl, sym, ap, ◌∙◌, subst, arith, if◌then◌else◌}
use Rattle.mv_isa.specs.Execution.{Outcome, Goes, Calls, Faults, reg}
use Rattle.mv_fetch.specs.Held.{Room}
use Rattle.mv_bindings.specs.Bindings.{events_from}
use Rattle.mv_machine.proofs.Leaving.{Leaves as EachLeaves, planned_leaves, polled_leaves}
use Rattle.mv_machine.specs.Runs.{State, Stop, Going, Exit, Trap, Fault, Request, Exits, Reads, Writes, Traps, Plans, Polls, Unknown, request_of, argument, later_reads, answered, environment_call, fetched_step, after, is_going, turn, runs_from}
use Rattle.mv_machine.proofs.Turns.{runs_more, IsOver, runs_over}
use Rattle.mv_meaning.specs.Growth.{Begins}
use Rattle.mv_meaning.proofs.Growing.{Begins-refl, Begins-trans}

pub record Grew (s t : State) : Type 0 where
  pub output : Begins s.output t.output
  pub log : Begins s.log t.log
  pub input : length t.input ≤ length s.input

grew_none : (s : State) → Grew s s
grew_none s = record { output = Begins-refl s.output; log = Begins-refl s.log; input = omega arith }

grew_both : (s t u : State) → Grew s t → Grew t u → Grew s u
grew_both s t u g h =
    let first = g.input in
    let second = h.input in record {
      output = Begins-trans s.output t.output u.output g.output h.output;
      log = Begins-trans s.log t.log u.log g.log h.log;
      input = omega (arith, first, second);
    }

fewer : (input : List (Option ℕ)) → length (later_reads input) ≤ length input
fewer [] = omega arith
fewer (answer ∷ later) = omega arith

plan_grew : (s : State) → EachLeaves (λ (t : State). Grew s t) s
unfolding answered
plan_grew s = record {
  refuses = λ actions answer. record { output = Begins-refl s.output; log = Begins-refl s.log; input = omega arith };
  carries = λ room actions plan answer. record { output = Begins-refl s.output; log = (events_from 0 s.bindings plan.bound, refl); input = omega arith };
  adopts = λ actions bs. record { output = Begins-refl s.output; log = (events_from 0 s.bindings bs, refl); input = omega arith };
  faults = record { output = Begins-refl s.output; log = Begins-refl s.log; input = omega arith };
}

call_grew : (request : Request) (s : State) → Grew s (environment_call request s)
unfolding answered
call_grew Exits s = record { output = Begins-refl s.output; log = Begins-refl s.log; input = omega arith }
call_grew Reads s = record { output = Begins-refl s.output; log = Begins-refl s.log; input = fewer s.input }
call_grew Writes s = record { output = (_ ∷ [], refl); log = Begins-refl s.log; input = omega arith }
call_grew Traps s = record { output = Begins-refl s.output; log = Begins-refl s.log; input = omega arith }
call_grew Plans s = planned_leaves (λ (t : State). Grew s t) s (argument s) (reg s.regs 11) (plan_grew s)
call_grew Polls s = polled_leaves (λ (t : State). Grew s t) s (plan_grew s)
call_grew Unknown s = record { output = Begins-refl s.output; log = Begins-refl s.log; input = omega arith }

after_grew : (outcome : Outcome Room) (s : State) → Grew s (after outcome s)
after_grew (Goes regs pc room) s = record { output = Begins-refl s.output; log = Begins-refl s.log; input = omega arith }
after_grew Calls s = call_grew (request_of (reg s.regs 17)) s
after_grew (Faults why) s = record { output = Begins-refl s.output; log = Begins-refl s.log; input = omega arith }

going_grew : (stop : Stop) (s going : State) → Grew s going → Grew s (if is_going stop then going else s)
going_grew Going s going h = h
going_grew (Exit status) s going h = grew_none s
going_grew (Trap code) s going h = grew_none s
going_grew (Fault why) s going h = grew_none s

turn_grew : (s : State) (pick : ℕ) → Grew s (turn s pick)
unfolding turn
turn_grew s pick = going_grew s.stop s (after (fetched_step s pick) s) (after_grew (fetched_step s pick) s)

module _ (s : State) (picks : List ℕ) where
  abbrev at : ℕ → State
  at n = runs_from s picks n

  more_grew : (n m : ℕ) → Grew (at n) (at (m + n))
  more_grew n zero = let e : n ≡ 0 + n = omega arith in subst (λ k. Grew (at n) (at k)) e (grew_none (at n))
  more_grew n (suc m) =
      let e : m + n + 1 ≡ suc m + n = omega arith in
      let last : Grew (at (m + n)) (at (m + n + 1)) = subst (λ t. Grew (at (m + n)) t) (sym (runs_more s picks (m + n))) (turn_grew (at (m + n)) (slice_index picks (m + n))) in
      subst (λ k. Grew (at n) (at k)) e (grew_both (at n) (at (m + n)) (at (m + n + 1)) (more_grew n m) last)

  pub run_grew : (n j : ℕ) → n ≤ j → Grew (at n) (at j)
  run_grew n j le = let e : j - n + n ≡ j = omega (arith, le) in subst (λ k. Grew (at n) (at k)) e (more_grew n (j - n))

  -- a run that had ended would not have moved
  ended_stays : (n j : ℕ) (stop : Stop) → n ≤ j → IsOver stop → (at n).stop ≡ stop → (at j).stop ≡ stop
  ended_stays n j stop le over e =
      let k : j ≡ j - n + n = omega (arith, le) in
      ap (λ i. (at i).stop) k ∙ ap (λ (t : State). t.stop) (runs_over s picks n (j - n) (subst IsOver (sym e) over)) ∙ e

  pub going_before : (n j : ℕ) → n ≤ j → (at j).stop ≡ Going → (at n).stop ≡ Going
  going_before n j le going = by_stop (at n).stop refl
    where
      by_stop : (stop : Stop) → (at n).stop ≡ stop → (at n).stop ≡ Going
      by_stop Going e = e
      by_stop (Exit status) e = let same = ended_stays n j (Exit status) le tt e in absurd (cc)
      by_stop (Trap code) e = let same = ended_stays n j (Trap code) le tt e in absurd (cc)
      by_stop (Fault why) e = let same = ended_stays n j (Fault why) le tt e in absurd (cc)
