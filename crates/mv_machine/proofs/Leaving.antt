-- What a call for a plan and a poll leave: a refusal, a plan that was carried out, or a fault.
use Rattle.std.proofs.Common.{ℕ, ◌-◌, ◌^◌, Bool, true, false, ◌&&◌, nat_eq, if◌then◌else◌, List, [], ◌∷◌}
use Rattle.mv_bindings.specs.declared.binding.Binding.{Binding}
use Rattle.mv_bindings.specs.Acts.{Act, Skip, Flip, Adopt}
use Rattle.mv_isa.specs.declared.instr.Cause.TheVariants as cause
use Rattle.mv_fetch.specs.Held.{Room}
use Rattle.mv_patch.specs.Plans.{Planned, plan_of}
use Rattle.mv_patch.specs.Orders.{is_known_order}
use Rattle.mv_machine.specs.Runs.{State, Fault, live_frames, refused, carried_out, ordered, planned, adopted, act, acted, polled, stopped, with_value}

-- what holds of each state that such a call leaves
pub record Leaves (P : State → Type 0) (s : State) : Type 0 where
  pub refuses : (actions : List Act) (answer : ℕ) → P (refused (record s { actions = actions }) answer)
  pub carries : (room : Room) (actions : List Act) (plan : Planned) (answer : ℕ) → P (carried_out (record s { room = room; actions = actions }) plan answer)
  pub adopts : (actions : List Act) (bs : List Binding) → P (adopted (record s { actions = actions }) bs)
  pub faults : P (stopped s (Fault cause.Call))

pub either : (P : State → Type 0) (b : Bool) (x y : State) → P x → P y → P (if b then x else y)
either P true x y h k = h
either P false x y h k = k

pub planned_leaves : (P : State → Type 0) (s : State) (code index : ℕ) → Leaves P s → P (planned s code index)
unfolding planned
planned_leaves P s code index l =
    let plan = plan_of s.image s.room.held s.bindings code index in
    let idle : P (ordered s code index) = l.carries s.room s.actions plan plan.answer in
    let busy : P (refused s (2 ^ 32 - 1)) = l.refuses s.actions (2 ^ 32 - 1) in
    either P (is_known_order s.image code index) (if nat_eq s.hart 0 && nat_eq (live_frames s) 0 then ordered s code index else refused s (2 ^ 32 - 1)) (stopped s (Fault cause.Call))
    (either P (nat_eq s.hart 0 && nat_eq (live_frames s) 0) (ordered s code index) (refused s (2 ^ 32 - 1)) idle busy) l.faults

act_leaves : (P : State → Type 0) (s : State) (action : Act) (later : List Act) → Leaves P s → P (act action (record s { actions = later }))
act_leaves P s Skip later l = l.refuses later 0
act_leaves P s (Flip switch value) later l =
    let room = with_value s.image s.room switch value in l.carries room later (plan_of s.image room.held s.bindings 0 0) 1
act_leaves P s (Adopt bs) later l = l.adopts later bs

acted_leaves : (P : State → Type 0) (s : State) (actions : List Act) → Leaves P s → P (acted s actions)
acted_leaves P s [] l = l.refuses s.actions 0
acted_leaves P s (action ∷ later) l = act_leaves P s action later l

pub polled_leaves : (P : State → Type 0) (s : State) → Leaves P s → P (polled s)
unfolding polled
polled_leaves P s l = either P (nat_eq (live_frames s) 0) (acted s s.actions) (refused s 0) (acted_leaves P s s.actions l) (l.refuses s.actions 0)
