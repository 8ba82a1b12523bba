-- What each step keeps of a state, a run keeps.
use Rattle.std.proofs.Common.{◌≡◌, ℕ, zero, suc, List, Option, slice_index, refl, sym, subst, if◌then◌else◌}
use Rattle.mv_isa.specs.declared.instr.Cause.{Cause}
use Rattle.mv_isa.specs.Execution.{Outcome, Goes, Calls, Faults, reg}
use Rattle.mv_fetch.specs.Held.{Room}
use Rattle.mv_machine.specs.Runs.{State, Stop, Going, Exit, Trap, Fault, Request, Exits, Reads, Writes, Traps, Plans, Polls, Unknown, request_of, argument, planned, polled, answered, environment_call, fetched_step, after, is_going, turn, runs_from}

pub record StepsKeep (P : State → Type 0) : Type 0 where
  pub goes : (regs : List ℕ) (pc : ℕ) (room : Room) (s : State) → P s → P (after (Goes regs pc room) s)
  pub calls : (request : Request) (s : State) → P s → P (environment_call request s)
  pub faults : (why : Cause) (s : State) → P s → P (after (Faults why) s)

module _ (P : State → Type 0) (keep : StepsKeep P) where
  after_keeps : (outcome : Outcome Room) (s : State) → P s → P (after outcome s)
  after_keeps (Goes regs pc room) s h = keep.goes regs pc room s h
  after_keeps Calls s h = keep.calls (request_of (reg s.regs 17)) s h
  after_keeps (Faults why) s h = keep.faults why s h

  going_keeps : (stop : Stop) (going ended : State) → P going → P ended → P (if is_going stop then going else ended)
  going_keeps Going going ended h k = h
  going_keeps (Exit status) going ended h k = k
  going_keeps (Trap code) going ended h k = k
  going_keeps (Fault why) going ended h k = k

  turn_keeps : (s : State) (pick : ℕ) → P s → P (turn s pick)
  unfolding turn
  turn_keeps s pick h = going_keeps s.stop (after (fetched_step s pick) s) s (after_keeps (fetched_step s pick) s h) h

  pub runs_keep : (s : State) (picks : List ℕ) (n : ℕ) → P s → P (runs_from s picks n)
  unfolding runs_from
  runs_keep s picks zero h = h
  runs_keep s picks (suc n) h = turn_keeps (runs_from s picks n) (slice_index picks n) (runs_keep s picks n h)

-- What plans and polls keep, and is not of registers, places, memory, input, output and ends, each step keeps.
pub record PlansKeep (P : State → Type 0) : Type 0 where
  pub others : (regs : List ℕ) (pc : ℕ) (room : Room) (input : List (Option ℕ)) (output : List ℕ) (stop : Stop) (s : State) → P s →
      P (record s { regs = regs; pc = pc; room = room; input = input; output = output; stop = stop })
  pub plans : (s : State) (code index : ℕ) → P s → P (planned s code index)
  pub polls : (s : State) → P s → P (polled s)

module _ (P : State → Type 0) (keep : PlansKeep P) where
  -- a call that is answered, or ends the run
  leaves : (s next : State) → next ≡ record s { regs = next.regs; pc = next.pc; room = next.room; input = next.input; output = next.output; stop = next.stop } → P s → P next
  leaves s next same h = subst P (sym same) (keep.others next.regs next.pc next.room next.input next.output next.stop s h)

  calls : (request : Request) (s : State) → P s → P (environment_call request s)
  unfolding answered
  calls Exits s h = leaves s (environment_call Exits s) refl h
  calls Reads s h = leaves s (environment_call Reads s) refl h
  calls Writes s h = leaves s (environment_call Writes s) refl h
  calls Traps s h = leaves s (environment_call Traps s) refl h
  calls Plans s h = keep.plans s (argument s) (reg s.regs 11) h
  calls Polls s h = keep.polls s h
  calls Unknown s h = leaves s (environment_call Unknown s) refl h

  pub plans_keep : StepsKeep P
  plans_keep = record {
    goes = λ regs pc room s h. leaves s (after (Goes regs pc room) s) refl h;
    calls = calls;
    faults = λ why s h. leaves s (after (Faults why) s) refl h;
  }
