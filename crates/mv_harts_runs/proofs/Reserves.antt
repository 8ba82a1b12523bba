-- How many stores are reserved stays.
use Rattle.std.specs.Option.{option_map_or}
use Rattle.std.proofs.Common.{◌≡◌, ℕ, zero, suc, ◌+◌, ◌^◌, ◌-◌, ◌&&◌, Bool, true, false, nat_eq, if◌then◌else◌, List, [], ◌∷◌, slice_get, slice_index, Option, Some, None, option_map, unwrap_or, refl, sym, ap, ◌∙◌, subst}
use Rattle.std.specs.Result.{result_ok}
use Rattle.mv_descriptors.specs.declared.rows.SwitchRow.{SwitchRow}
use Rattle.mv_isa.specs.declared.instr.Cause.TheVariants as cause
use Rattle.mv_isa.specs.declared.instr.Instr.{Instr}
use Rattle.mv_isa.specs.Execution.{Outcome, Goes, Calls, Faults, reg}
use Rattle.mv_isa.specs.Registers.{a1, a7}
use Rattle.mv_fetch.specs.Held.{Held, Room, store}
use Rattle.mv_image.specs.Spelling.{Fields}
use Rattle.mv_rv32.specs.Stepping.{access, with_held}
use Rattle.mv_patch.specs.declared.prepared.Pair.{Pair}
use Rattle.mv_patch.specs.Orders.{is_known_order}
use Rattle.mv_patch.specs.Plans.{plan_between}
use Rattle.mv_patch.specs.Stores.{stored, stored_all}
use Rattle.mv_bindings.specs.Acts.{Act, Skip, Flip, Adopt}
use Rattle.mv_machine.specs.Runs.{State, Stop, Going, Exit, Trap, Fault, Request, Exits, Reads, Writes, Traps, Plans, Polls, Unknown, plan_area, stored_word, stored_words, with_value, request_of, argument, answered, stopped, live_frames, refused, ordered, planned, act, acted, polled, environment_call, fetched_step, after, is_going, turn, runs_from}
use Rattle.mv_machine.specs.Commits.{fetched_instr}
use Rattle.mv_harts_runs.specs.Harts.{Store, store_of}
use Rattle.mv_harts_runs.proofs.Steps.{Effect, is_fence, FetchedLed, fetched_led}

store_reserve : (r r' : Room) (a n v : ℕ) → access.store r a n v ≡ Some r' → r'.reserve ≡ r.reserve
unfolding access
store_reserve r r' a n v e = by_held (result_ok (store r.held a n v)) e
  where
    by_held : (o : Option Held) → option_map (with_held a r) o ≡ Some r' → r'.reserve ≡ r.reserve
    by_held None q = absurd (cc)
    by_held (Some h) q = let s : with_held a r h ≡ r' = cc in ap (λ (x : Room). x.reserve) (sym s)

fence_reserve : (r : Room) → (access.fence r).reserve ≡ r.reserve
unfolding access
fence_reserve r = refl

effect_reserve : (st : Option Store) (f : Bool) (m m' : Room) → Effect st f m m' → m'.reserve ≡ m.reserve
effect_reserve (Some x) f m m' e = store_reserve m m' x.address x.width x.value e
effect_reserve None true m m' e = ap (λ (r : Room). r.reserve) e ∙ fence_reserve m
effect_reserve None false m m' e = ap (λ (r : Room). r.reserve) e

led_reserve : (i : Option Instr) (regs r : List ℕ) (pc : ℕ) (m m' : Room) → FetchedLed i regs m (Goes r pc m') → m'.reserve ≡ m.reserve
led_reserve None regs r pc m m' h = absurd h
led_reserve (Some i) regs r pc m m' h = effect_reserve (store_of i regs) (is_fence i) m m' h

word_reserve : (r : Room) (a w : ℕ) → (stored_word r a w).reserve ≡ r.reserve
word_reserve r a w = by_store (access.store r a 4 w) refl
  where
    by_store : (o : Option Room) → access.store r a 4 w ≡ o → (unwrap_or o r).reserve ≡ r.reserve
    by_store None e = refl
    by_store (Some r') e = store_reserve r r' a 4 w e

words_reserve : (words : List ℕ) (r : Room) (a : ℕ) → (stored_words r a words).reserve ≡ r.reserve
unfolding stored_words
words_reserve [] r a = refl
words_reserve (w ∷ words) r a = words_reserve words (stored_word r a w) (a + 4) ∙ word_reserve r a w

all_reserve : (pairs : List Pair) (r : Room) → (stored_all r pairs).reserve ≡ r.reserve
unfolding stored_all stored
all_reserve [] r = refl
all_reserve (p ∷ pairs) r = all_reserve pairs (stored r p)

value_reserve : (image : Fields) (r : Room) (switch value : ℕ) → (with_value image r switch value).reserve ≡ r.reserve
value_reserve image r switch value = by_row (slice_get image.switches switch)
  where
    by_row : (row : Option SwitchRow) → (option_map_or (λ (x : SwitchRow). stored_word r x.address value) row r).reserve ≡ r.reserve
    by_row None = refl
    by_row (Some row) = word_reserve r row.address value

abbrev Same : State → State → Type 0
Same s t = t.room.reserve ≡ s.room.reserve

either : (b : Bool) (s x y : State) → Same s x → Same s y → Same s (if b then x else y)
either true s x y h k = h
either false s x y h k = k

act_reserve : (a : Act) (s : State) → Same s (act a s)
unfolding answered
act_reserve Skip s = words_reserve _ s.room plan_area
act_reserve (Flip switch value) s = words_reserve _ (with_value s.image s.room switch value) plan_area ∙ value_reserve s.image s.room switch value
act_reserve (Adopt bs) s = words_reserve _ (stored_all s.room (plan_between s.image s.bindings bs)) plan_area ∙ all_reserve (plan_between s.image s.bindings bs) s.room

acted_reserve : (s : State) (acts : List Act) → Same s (acted s acts)
unfolding answered
acted_reserve s [] = words_reserve _ s.room plan_area
acted_reserve s (a ∷ later) = act_reserve a (record s { actions = later })

refused_reserve : (s : State) (answer : ℕ) → Same s (refused s answer)
unfolding answered
refused_reserve s answer = words_reserve _ s.room plan_area

ordered_reserve : (s : State) (code index : ℕ) → Same s (ordered s code index)
unfolding answered
ordered_reserve s code index = words_reserve _ s.room plan_area

call_reserve : (request : Request) (s : State) → Same s (environment_call request s)
unfolding answered planned polled
call_reserve Exits s = refl
call_reserve Reads s = refl
call_reserve Writes s = refl
call_reserve Traps s = refl
call_reserve Plans s =
    let code = argument s in
    let index = reg s.regs a1 in
    either (is_known_order s.image code index) s (if nat_eq s.hart 0 && nat_eq (live_frames s) 0 then ordered s code index else refused s (2 ^ 32 - 1)) (stopped s (Fault cause.Call))
    (either (nat_eq s.hart 0 && nat_eq (live_frames s) 0) s (ordered s code index) (refused s (2 ^ 32 - 1)) (ordered_reserve s code index) (refused_reserve s (2 ^ 32 - 1))) refl
call_reserve Polls s = either (nat_eq (live_frames s) 0) s (acted s s.actions) (refused s 0) (acted_reserve s s.actions) (refused_reserve s 0)
call_reserve Unknown s = refl

after_reserve : (s : State) (pick : ℕ) (o : Outcome Room) → fetched_step s pick ≡ o → Same s (after o s)
after_reserve s pick (Goes regs pc room) e = led_reserve (fetched_instr s pick) s.regs regs pc s.room room (subst (λ o. FetchedLed (fetched_instr s pick) s.regs s.room o) e (fetched_led s pick))
after_reserve s pick Calls e = call_reserve (request_of (reg s.regs a7)) s
after_reserve s pick (Faults why) e = refl

by_stop : (stop : Stop) (s x : State) → Same s x → Same s (if is_going stop then x else s)
by_stop Going s x h = h
by_stop (Exit status) s x h = refl
by_stop (Trap code) s x h = refl
by_stop (Fault why) s x h = refl

turn_reserve : (s : State) (pick : ℕ) → Same s (turn s pick)
unfolding turn
turn_reserve s pick = by_stop s.stop s (after (fetched_step s pick) s) (after_reserve s pick (fetched_step s pick) refl)

pub runs_reserve : (s : State) (picks : List ℕ) (n : ℕ) → Same s (runs_from s picks n)
unfolding runs_from
runs_reserve s picks zero = refl
runs_reserve s picks (suc n) = turn_reserve (runs_from s picks n) (slice_index picks n) ∙ runs_reserve s picks n
