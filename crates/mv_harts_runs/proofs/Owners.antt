-- A run keeps its image and the number of its hart.
use Rattle.std.proofs.Common.{◌≡◌, ℕ, zero, suc, ◌^◌, ◌-◌, ◌&&◌, Bool, true, false, nat_eq, if◌then◌else◌, List, [], ◌∷◌, slice_index, refl, ◌∙◌}
use Rattle.mv_isa.specs.declared.instr.Cause.TheVariants as cause
use Rattle.mv_isa.specs.Execution.{Outcome, Goes, Calls, Faults, reg}
use Rattle.mv_isa.specs.Registers.{a1, a7}
use Rattle.mv_fetch.specs.Held.{Room}
use Rattle.mv_patch.specs.Orders.{is_known_order}
use Rattle.mv_bindings.specs.Acts.{Act, Skip, Flip, Adopt}
use Rattle.mv_machine.specs.Runs.{State, Stop, Going, Exit, Trap, Fault, Request, Exits, Reads, Writes, Traps, Plans, Polls, Unknown, request_of, argument, answered, stopped, live_frames, refused, ordered, planned, act, acted, polled, environment_call, fetched_step, after, is_going, turn, runs_from}

pub record Owns (s t : State) : Type 0 where
  pub image : t.image ≡ s.image
  pub hart : t.hart ≡ s.hart

owns : (s : State) → Owns s s
owns s = record { image = refl; hart = refl }

either : (b : Bool) (s x y : State) → Owns s x → Owns s y → Owns s (if b then x else y)
either true s x y h k = h
either false s x y h k = k

act_owns : (a : Act) (s : State) → Owns s (act a s)
unfolding answered
act_owns Skip s = record { image = refl; hart = refl }
act_owns (Flip switch value) s = record { image = refl; hart = refl }
act_owns (Adopt bs) s = record { image = refl; hart = refl }

acted_owns : (s : State) (acts : List Act) → Owns s (acted s acts)
unfolding answered
acted_owns s [] = record { image = refl; hart = refl }
acted_owns s (a ∷ later) = let o = act_owns a (record s { actions = later }) in record { image = o.image; hart = o.hart }

call_owns : (request : Request) (s : State) → Owns s (environment_call request s)
unfolding answered planned polled
call_owns Exits s = record { image = refl; hart = refl }
call_owns Reads s = record { image = refl; hart = refl }
call_owns Writes s = record { image = refl; hart = refl }
call_owns Traps s = record { image = refl; hart = refl }
call_owns Plans s =
    let code = argument s in
    let index = reg s.regs a1 in
    either (is_known_order s.image code index) s (if nat_eq s.hart 0 && nat_eq (live_frames s) 0 then ordered s code index else refused s (2 ^ 32 - 1)) (stopped s (Fault cause.Call))
    (either (nat_eq s.hart 0 && nat_eq (live_frames s) 0) s (ordered s code index) (refused s (2 ^ 32 - 1)) (record { image = refl; hart = refl }) (record { image = refl; hart = refl }))
    (record { image = refl; hart = refl })
call_owns Polls s = either (nat_eq (live_frames s) 0) s (acted s s.actions) (refused s 0) (acted_owns s s.actions) (record { image = refl; hart = refl })
call_owns Unknown s = record { image = refl; hart = refl }

after_owns : (o : Outcome Room) (s : State) → Owns s (after o s)
after_owns (Goes regs pc room) s = record { image = refl; hart = refl }
after_owns Calls s = call_owns (request_of (reg s.regs a7)) s
after_owns (Faults why) s = record { image = refl; hart = refl }

by_stop : (stop : Stop) (s x : State) → Owns s x → Owns s (if is_going stop then x else s)
by_stop Going s x h = h
by_stop (Exit status) s x h = owns s
by_stop (Trap code) s x h = owns s
by_stop (Fault why) s x h = owns s

turn_owns : (s : State) (pick : ℕ) → Owns s (turn s pick)
unfolding turn
turn_owns s pick = by_stop s.stop s (after (fetched_step s pick) s) (after_owns (fetched_step s pick) s)

pub runs_own : (s : State) (picks : List ℕ) (n : ℕ) → Owns s (runs_from s picks n)
unfolding runs_from
runs_own s picks zero = owns s
runs_own s picks (suc n) =
    let before = runs_own s picks n in
    let last = turn_owns (runs_from s picks n) (slice_index picks n) in
    record { image = last.image ∙ before.image; hart = last.hart ∙ before.hart }
