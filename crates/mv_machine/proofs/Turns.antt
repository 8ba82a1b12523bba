-- How a run grows by one instruction, and that nothing follows its end.
use Rattle.std.proofs.Common.{ℕ, zero, suc, Bool, true, false, ◌&&◌, if◌then◌else◌, nat_eq, [], ◌∷◌, ◌≡◌, ◌≤◌, ◌+◌, ◌-◌, ◌^◌, add-one, List, ◌++◌, length, slice_index, refl, sym, ap, ap₂, ◌∙◌, subst, arith}
use Rattle.std.proofs.lemmas.List.{get_or_append_left}
use Rattle.mv_bindings.specs.Acts.{Act, Skip, Flip, Adopt}
use Rattle.mv_isa.specs.declared.instr.Cause.TheVariants as cause
use Rattle.mv_isa.specs.Execution.{Outcome, Goes, Calls, Faults, reg}
use Rattle.mv_isa.specs.declared.instr.Cause.{Cause}
use Rattle.mv_fetch.specs.Held.{Room}
use Rattle.mv_patch.specs.Orders.{is_known_order}
use Rattle.mv_machine.specs.Runs.{Stop, Going, Exit, Trap, Fault, Request, Exits, Reads, Writes, Traps, Plans, Polls, Unknown, request_of, environment_call, argument, answered, stopped, live_frames, refused, ordered, planned, act, acted, polled, State, is_going, after, fetched_step, turn, runs_from, executed}

-- after no instruction
pub runs_none : (s : State) (picks : List ℕ) → runs_from s picks 0 ≡ s
unfolding runs_from
runs_none s picks = refl

-- after one more
pub runs_more : (s : State) (picks : List ℕ) (n : ℕ) → runs_from s picks (n + 1) ≡ turn (runs_from s picks n) (slice_index picks n)
unfolding runs_from
runs_more s picks n = ap (λ (k : ℕ). runs_from s picks k) (add-one n)

-- what one more instruction adds to those that were executed
abbrev pub adds_by : Stop → ℕ
adds_by stop = if is_going stop then 1 else 0

pub executed_more : (s : State) (picks : List ℕ) (n : ℕ) → executed s picks (n + 1) ≡ executed s picks n + adds_by (runs_from s picks n).stop
unfolding executed
executed_more s picks n = ap (λ (k : ℕ). executed s picks k) (add-one n)

-- an instruction of a run that goes on, by what its step leads to
pub turn_by : (s : State) (pick : ℕ) (outcome : Outcome Room) → s.stop ≡ Going → fetched_step s pick ≡ outcome → turn s pick ≡ after outcome s
unfolding turn
turn_by s pick outcome going e = ap₂ (λ (stop : Stop) (o : Outcome Room). if is_going stop then after o s else s) going e

-- an instruction that faults changes nothing but that
abbrev IsFault : Stop → Type 0
IsFault Going = ⊥
IsFault (Exit status) = ⊥
IsFault (Trap code) = ⊥
IsFault (Fault why) = Unit {0}

is_fault : (why : Cause) (stop : Stop) → stop ≡ Fault why → IsFault stop
is_fault why stop e = subst (λ t. IsFault t) (sym e) tt

either_goes : (b : Bool) (x y : State) → x.stop ≡ Going → y.stop ≡ Going → (if b then x else y).stop ≡ Going
either_goes true x y h k = h
either_goes false x y h k = k

act_goes : (action : Act) (s : State) → s.stop ≡ Going → (act action s).stop ≡ Going
unfolding answered
act_goes Skip s going = going
act_goes (Flip switch value) s going = going
act_goes (Adopt bs) s going = going

acted_goes : (s : State) (actions : List Act) → s.stop ≡ Going → (acted s actions).stop ≡ Going
unfolding answered
acted_goes s [] going = going
acted_goes s (action ∷ later) going = act_goes action (record s { actions = later }) going

polled_goes : (s : State) → s.stop ≡ Going → (polled s).stop ≡ Going
unfolding polled answered
polled_goes s going = either_goes (nat_eq (live_frames s) 0) (acted s s.actions) (refused s 0) (acted_goes s s.actions going) going

known_or_fault : (known : Bool) (x s : State) (why : Cause) → x.stop ≡ Going → (if known then x else stopped s (Fault cause.Call)).stop ≡ Fault why → (if known then x else stopped s (Fault cause.Call)) ≡ stopped s (Fault why)
known_or_fault true x s why going e = absurd (is_fault why Going (sym going ∙ e))
known_or_fault false x s why going e = ap (λ (stop : Stop). stopped s stop) e

planned_faults : (s : State) (code index : ℕ) (why : Cause) → s.stop ≡ Going → (planned s code index).stop ≡ Fault why → planned s code index ≡ stopped s (Fault why)
unfolding planned answered
planned_faults s code index why going e =
    known_or_fault (is_known_order s.image code index) (if nat_eq s.hart 0 && nat_eq (live_frames s) 0 then ordered s code index else refused s (2 ^ 32 - 1)) s why
    (either_goes (nat_eq s.hart 0 && nat_eq (live_frames s) 0) (ordered s code index) (refused s (2 ^ 32 - 1)) going going) e

call_faults : (request : Request) (s : State) (why : Cause) → s.stop ≡ Going → (environment_call request s).stop ≡ Fault why → environment_call request s ≡ stopped s (Fault why)
unfolding answered
call_faults Exits s why going e = absurd (is_fault why _ e)
call_faults Reads s why going e = absurd (is_fault why Going (sym going ∙ e))
call_faults Writes s why going e = absurd (is_fault why Going (sym going ∙ e))
call_faults Traps s why going e = ap (λ (stop : Stop). stopped s stop) e
call_faults Plans s why going e = planned_faults s (argument s) (reg s.regs 11) why going e
call_faults Polls s why going e = absurd (is_fault why Going (sym (polled_goes s going) ∙ e))
call_faults Unknown s why going e = ap (λ (stop : Stop). stopped s stop) e

after_faults : (outcome : Outcome Room) (s : State) (why : Cause) → s.stop ≡ Going → (after outcome s).stop ≡ Fault why → after outcome s ≡ stopped s (Fault why)
after_faults (Goes regs pc room) s why going e = absurd (is_fault why Going (sym going ∙ e))
after_faults Calls s why going e = call_faults (request_of (reg s.regs 17)) s why going e
after_faults (Faults cause) s why going e = ap (λ (stop : Stop). stopped s stop) e

pub turn_faults : (s : State) (pick : ℕ) (why : Cause) → s.stop ≡ Going → (turn s pick).stop ≡ Fault why → turn s pick ≡ stopped s (Fault why)
turn_faults s pick why going e =
    let by = turn_by s pick (fetched_step s pick) going refl in
    by ∙ after_faults (fetched_step s pick) s why going (sym (ap (λ (t : State). t.stop) by) ∙ e)

-- the run has ended
abbrev pub IsOver : Stop → Type 0
IsOver Going = ⊥
IsOver (Exit status) = Unit {0}
IsOver (Trap code) = Unit {0}
IsOver (Fault why) = Unit {0}

over_stays : (stop : Stop) (a b : State) → IsOver stop → (if is_going stop then a else b) ≡ b
over_stays Going a b h = absurd h
over_stays (Exit status) a b h = refl
over_stays (Trap code) a b h = refl
over_stays (Fault why) a b h = refl

over_counts : (stop : Stop) → IsOver stop → adds_by stop ≡ 0
over_counts Going h = absurd h
over_counts (Exit status) h = refl
over_counts (Trap code) h = refl
over_counts (Fault why) h = refl

pub turn_over : (s : State) (pick : ℕ) → IsOver s.stop → turn s pick ≡ s
unfolding turn
turn_over s pick h = over_stays s.stop (after (fetched_step s pick) s) s h

pub runs_over : (s : State) (picks : List ℕ) (n m : ℕ) → IsOver (runs_from s picks n).stop → runs_from s picks (m + n) ≡ runs_from s picks n
runs_over s picks n zero h = let e : 0 + n ≡ n = omega arith in ap (λ (k : ℕ). runs_from s picks k) e
runs_over s picks n (suc m) h =
    let before = runs_over s picks n m h in
    let e : runs_from s picks (suc m + n) ≡ turn (runs_from s picks (m + n)) (slice_index picks (m + n)) = (let k : suc m + n ≡ m + n + 1 = omega arith in ap (λ (i : ℕ). runs_from s picks i) k) ∙ runs_more s picks (m + n) in
    e ∙ turn_over (runs_from s picks (m + n)) (slice_index picks (m + n)) (subst (λ (t : State). IsOver t.stop) (sym before) h) ∙ before

pub executed_over : (s : State) (picks : List ℕ) (n m : ℕ) → IsOver (runs_from s picks n).stop → executed s picks (m + n) ≡ executed s picks n
executed_over s picks n zero h = let e : 0 + n ≡ n = omega arith in ap (λ (k : ℕ). executed s picks k) e
executed_over s picks n (suc m) h =
    let before = executed_over s picks n m h in
    let none : adds_by (runs_from s picks (m + n)).stop ≡ 0 = over_counts (runs_from s picks (m + n)).stop (subst (λ (t : State). IsOver t.stop) (sym (runs_over s picks n m h)) h) in
    let e : executed s picks (suc m + n) ≡ executed s picks (m + n + 1) = (let k : suc m + n ≡ m + n + 1 = omega arith in ap (λ (i : ℕ). executed s picks i) k) in
    omega (arith, e, executed_more s picks (m + n), none, before)

-- only the picks so far matter
pub runs_append : (s : State) (picks more : List ℕ) (n : ℕ) → n ≤ length picks → runs_from s (picks ++ more) n ≡ runs_from s picks n
unfolding runs_from
runs_append s picks more zero le = refl
runs_append s picks more (suc n) le = ap₂ turn (runs_append s picks more n (omega (arith, le))) (get_or_append_left picks more 0 n (omega (arith, le)))

pub executed_append : (s : State) (picks more : List ℕ) (n : ℕ) → n ≤ length picks → executed s (picks ++ more) n ≡ executed s picks n
unfolding executed
executed_append s picks more zero le = refl
executed_append s picks more (suc n) le = ap₂ (λ (k : ℕ) (t : State). k + adds_by t.stop) (executed_append s picks more n (omega (arith, le))) (runs_append s picks more n (omega (arith, le)))
