-- An instruction that ends a run changes nothing but that, and no commit is under way behind it.
use Rattle.std.proofs.Common.{◌≡◌, ℕ, zero, suc, add-one, ◌+◌, ◌-◌, ◌%◌, ◌<◌, Bool, true, false, cond, List, slice_get, slice_index, Option, Some, None, refl, sym, ap, ap₂, ◌∙◌, subst, arith}
use Rattle.std.specs.Prelude.{option_and_then, if◌then◌else◌}
use Rattle.mv_bindings.specs.declared.binding.Binding.{Binding}
use Rattle.mv_isa.specs.declared.instr.Instr.TheVariants.{Ecall}
use Rattle.mv_isa.specs.Encoding.{decode}
use Rattle.mv_isa.specs.Execution.{Outcome, Goes, Calls, Faults, reg, decoded, execute, step}
use Rattle.mv_isa.specs.declared.instr.Instr.{Instr}
use Rattle.mv_fetch.specs.Held.{Room, choices}
use Rattle.mv_rv32.specs.Stepping.{access, picked_step}
use Rattle.mv_image.specs.Spelling.{Fields}
use Rattle.mv_patch.specs.Plans.{plan_between}
use Rattle.mv_machine.specs.Runs.{State, Stop, Going, Exit, Trap, Fault, Request, Exits, Reads, Writes, Traps, Plans, Polls, Unknown, request_of, argument, answered, stopped, choices_at, environment_call, fetched_step, after, turn, runs_from, is_going}
use Rattle.mv_machine.specs.Commits.{opens, is_some_pair, fetched_instr, after_instr, commit_after, commit_from}
use Rattle.mv_machine.proofs.Leaving.{Leaves as EachLeaves, planned_leaves, polled_leaves}
use Rattle.mv_machine.proofs.Turns.{IsOver, runs_more, runs_over, turn_by}
use Rattle.mv_refine_machine.specs.MachineRuns.{spot_of}
use Rattle.mv_refine_machine.specs.Commits.Watch.{texts_of, is_sound}
use Rattle.mv_refine_machine.specs.Commits.Served.{SoundAt}
use Rattle.mv_refine_machine.proofs.OfCommits.Planned.{no_pairs}

-- ---- one instruction

-- where a state has stopped, it is another one but for the stop
abbrev IsStopped : State → State → Type 0
IsStopped s t = (t.stop ≡ Going → ⊥) → t ≡ stopped s t.stop

plan_stops : (s : State) → s.stop ≡ Going → EachLeaves (IsStopped s) s
unfolding answered
plan_stops s going = record {
  refuses = λ actions answer over. absurd (over going);
  carries = λ room actions plan answer over. absurd (over going);
  adopts = λ actions bs over. absurd (over going);
  faults = λ over. refl;
}

call_stops : (request : Request) (s : State) → s.stop ≡ Going → IsStopped s (environment_call request s)
unfolding answered
call_stops Exits s going over = refl
call_stops Reads s going over = absurd (over going)
call_stops Writes s going over = absurd (over going)
call_stops Traps s going over = refl
call_stops Plans s going over = planned_leaves (IsStopped s) s (argument s) (reg s.regs 11) (plan_stops s going) over
call_stops Polls s going over = polled_leaves (IsStopped s) s (plan_stops s going) over
call_stops Unknown s going over = refl

after_stops : (outcome : Outcome Room) (s : State) → s.stop ≡ Going → IsStopped s (after outcome s)
after_stops (Goes regs pc room) s going over = absurd (over going)
after_stops Calls s going over = call_stops (request_of (reg s.regs 17)) s going over
after_stops (Faults why) s going over = refl

turn_stops : (s : State) (pick : ℕ) → s.stop ≡ Going → IsStopped s (turn s pick)
turn_stops s pick going = subst (IsStopped s) (sym (turn_by s pick (fetched_step s pick) going refl)) (after_stops (fetched_step s pick) s going)

-- the instruction of a word that is fetched calls the environment
word_calls : (s : State) (word : Option ℕ) → option_and_then decode word ≡ Some Ecall → step access word s.regs s.pc s.room ≡ Calls
unfolding execute
word_calls s None e = absurd (cc)
word_calls s (Some w) e = ap (λ d. decoded access d s.regs s.pc s.room) e

-- where an environment call is fetched, the step calls the environment
pub calls_where : (s : State) (pick : ℕ) → fetched_instr s pick ≡ Some Ecall → fetched_step s pick ≡ Calls
unfolding fetched_step picked_step choices_at
calls_where s pick e = word_calls s (slice_get (choices s.room.held s.pc) (pick % choices_at s)) e

module _ (s : State) (pick : ℕ) (going : s.stop ≡ Going) (over : (turn s pick).stop ≡ Going → ⊥) where
  opens_none : fetched_instr s pick ≡ Some Ecall → opens s ≡ false
  opens_none e =
      let called : turn s pick ≡ environment_call (request_of (reg s.regs 17)) s = turn_by s pick Calls going (calls_where s pick e) in
      let same : (environment_call (request_of (reg s.regs 17)) s).bindings ≡ s.bindings = ap (λ (t : State). t.bindings) (sym called ∙ turn_stops s pick going over) in
      ap (λ bs. is_some_pair (plan_between s.image s.bindings bs)) same ∙ ap is_some_pair (no_pairs s.image s.bindings)

  begins_none : (i : Option Instr) → fetched_instr s pick ≡ i → after_instr s i None ≡ None
  begins_none None e = refl
  begins_none (Some Ecall) e = ap (λ b. cond b (Some s.bindings) None) (opens_none e)
  begins_none (Some i) e = refl

  -- no commit begins with an instruction that ends the run
  commit_stops : commit_after s pick None ≡ None
  commit_stops = ap (λ stop. if is_going stop then after_instr s (fetched_instr s pick) None else None) going ∙ begins_none (fetched_instr s pick) refl

-- ---- a run

is_over : (stop : Stop) → (stop ≡ Going → ⊥) → IsOver stop
is_over Going over = over refl
is_over (Exit status) over = tt
is_over (Trap code) over = tt
is_over (Fault why) over = tt

where_over : (stop : Stop) (going ended : Option (List Binding)) → IsOver stop → (if is_going stop then going else ended) ≡ ended
where_over Going going ended h = absurd h
where_over (Exit status) going ended h = refl
where_over (Trap code) going ended h = refl
where_over (Fault why) going ended h = refl

pub commit_more : (first : State) (picks : List ℕ) (n : ℕ) → commit_from first picks (n + 1) ≡ commit_after (runs_from first picks n) (slice_index picks n) (commit_from first picks n)
unfolding commit_from
commit_more first picks n = ap (commit_from first picks) (add-one n)

-- a place is as sound where the run has stopped
stopped_sound : (closed : (pc address : ℕ) → Bool) (texts : List Binding → List ℕ) (under : Option (List Binding)) (s : State) (stop : Stop)
    → is_sound closed texts under (spot_of s) ≡ true → is_sound closed texts under (spot_of (stopped s stop)) ≡ true
unfolding is_sound
stopped_sound closed texts None s stop h = h
stopped_sound closed texts (Some old) s stop h = h

-- A run goes on up to a time at which no commit is under way, and not behind it.
module _ (first : State) (picks : List ℕ) (last : ℕ) (going : (runs_from first picks last).stop ≡ Going) (none : commit_from first picks last ≡ None)
    (over : (runs_from first picks (last + 1)).stop ≡ Going → ⊥) where
  ends : (turn (runs_from first picks last) (slice_index picks last)).stop ≡ Going → ⊥
  ends e = over (ap (λ (s : State). s.stop) (runs_more first picks last) ∙ e)

  stays : (n : ℕ) → runs_from first picks (n + (last + 1)) ≡ runs_from first picks (last + 1)
  stays n = runs_over first picks (last + 1) n (is_over (runs_from first picks (last + 1)).stop over)

  none_later : (n : ℕ) → commit_from first picks (n + (last + 1)) ≡ None
  none_later zero =
      let k : 0 + (last + 1) ≡ last + 1 = omega arith in
      ap (commit_from first picks) k ∙ commit_more first picks last
      ∙ ap (commit_after (runs_from first picks last) (slice_index picks last)) none ∙ commit_stops (runs_from first picks last) (slice_index picks last) going ends
  none_later (suc n) =
      let k : suc n + (last + 1) ≡ n + (last + 1) + 1 = omega arith in
      let at : ℕ = n + (last + 1) in
      let s : State = runs_from first picks at in
      ap (commit_from first picks) k ∙ commit_more first picks at
      ∙ where_over s.stop (after_instr s (fetched_instr s (slice_index picks at)) (commit_from first picks at)) (commit_from first picks at)
      (subst (λ (t : State). IsOver t.stop) (sym (stays n)) (is_over (runs_from first picks (last + 1)).stop over))
      ∙ none_later n

  -- no commit is under way behind it
  pub none_behind : (t : ℕ) → last < t → commit_from first picks t ≡ None
  none_behind t lt =
      let k : t - (last + 1) + (last + 1) ≡ t = omega (arith, lt) in
      subst (λ (i : ℕ). commit_from first picks i ≡ None) k (none_later (t - (last + 1)))

  -- the state behind it is the one at that time but for the stop
  stopped_behind : (t : ℕ) → last < t → runs_from first picks t ≡ stopped (runs_from first picks last) (runs_from first picks t).stop
  stopped_behind t lt =
      let k : t - (last + 1) + (last + 1) ≡ t = omega (arith, lt) in
      let same : runs_from first picks t ≡ runs_from first picks (last + 1) = ap (runs_from first picks) (sym k) ∙ stays (t - (last + 1)) in
      let more = runs_more first picks last in
      same ∙ more ∙ turn_stops (runs_from first picks last) (slice_index picks last) going ends
      ∙ ap (λ (s : State). stopped (runs_from first picks last) s.stop) (sym more ∙ sym same)

  -- each place behind it is sound where it is at that time
  pub sound_behind : (closed : (pc address : ℕ) → Bool) (image : Fields) → SoundAt closed image first picks last → (t : ℕ) → last < t → SoundAt closed image first picks t
  sound_behind closed image h t lt =
      let s = runs_from first picks last in
      let stop = (runs_from first picks t).stop in
      ap₂ (λ (u : Option (List Binding)) (x : State). is_sound closed (texts_of image) u (spot_of x)) (none_behind t lt ∙ sym none) (stopped_behind t lt)
      ∙ stopped_sound closed (texts_of image) (commit_from first picks last) s stop h
