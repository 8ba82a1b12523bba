-- Calls for plans, and polls: what the engine does is what the definition does to a state.
use Rattle.std.proofs.Common.{◌≡◌, ◌≢◌, ⊎_elim, ℕ, ◌-◌, ◌<◌, ◌≤◌, ◌^◌, ltb, Bool, true, false, ◌&&◌, nat_eq, if◌then◌else◌, List, [], ◌∷◌, ◌++◌, map, Option, Some, None, refl, sym, ap, ap₂, ◌∙◌, subst, arith, append-nil, Result, Ok, Err, OnOk, OnErr}
use Rattle.std.proofs.lemmas.Bool.{ne_eqb, cases_lt, le-ltb}
use Rattle.mv_num.specs.Words.{add}
use Rattle.mv_bindings.specs.declared.binding.Binding.{Binding}
use Rattle.mv_bindings.specs.declared.binding.Event.{Event}
use Rattle.mv_bindings.specs.declared.action.Action.{Action}
use Rattle.mv_bindings.specs.Bindings.{events_from}
use Rattle.mv_bindings.specs.Acts.{act_of, Skip}
use Rattle.mv_isa.specs.declared.instr.Cause.TheVariants as cause
use Rattle.mv_isa.specs.Execution.{reg, put}
use Rattle.mv_fetch.specs.Held.{Room, Held}
use Rattle.mv_image.specs.Spelling.{Fields}
use Rattle.mv_patch.specs.Plans.{Planned, plan_of}
use Rattle.mv_patch.specs.Orders.{is_known_order, bindings_ordered, answer_after, code_of, index_of}
use Rattle.mv_patch.specs.declared.order.Order.{Order}
use Rattle.mv_patch.specs.declared.planning.PlanError.{PlanError}
use Rattle.mv_patch.specs.declared.order.Order.TheVariants.{CommitAll, RevertAll, CommitFunction, RevertFunction, CommitRefs, RevertRefs}
use Rattle.mv_machine.specs.declared.engine.Engine.{Engine}
use Rattle.mv_machine.specs.Runs.{State, Stop, Going, Fault, Plans, Polls, bytes_to_come, environment_call, answered, stopped, with_plan, with_value, refused, carried_out, ordered, planned, flipped, act, acted, polled, adopts}
use Rattle.mv_machine.specs.Moves.{Seen, seen, shown, Moves, Does}
use Rattle.mv_machine.specs.Engines.{Taken, IsAsked}
use Rattle.mv_machine.proofs.Moved.{moves_telling, moves_quietly}

-- ---- states by their fields

abbrev of : (hart : ℕ) → Fields → (regs : List ℕ) → (pc : ℕ) → Room → List Binding → List (Option ℕ) → List Action → (output : List ℕ) → List Event → Stop → State
of hart image regs pc room bindings input actions output log stop =
    record { hart = hart; image = image; regs = regs; pc = pc; room = room; bindings = bindings; input = input; actions = map act_of actions; output = output; log = log; stop = stop }

-- a state with these fields
same_state : (hart : ℕ) (image image' : Fields) (regs regs' : List ℕ) (pc pc' : ℕ) (room room' : Room) (bindings bindings' : List Binding)
    (input : List (Option ℕ)) (actions : List Action) (output : List ℕ) (log : List Event) → image' ≡ image → regs' ≡ regs → pc' ≡ pc → room' ≡ room
    → bindings' ≡ bindings
    → of hart image regs pc room bindings input actions output log Going ≡ of hart image' regs' pc' room' bindings' input actions output log Going
same_state hart image image' regs regs' pc pc' room room' bindings bindings' input actions output log i r p m b =
    ap₂ (λ (x : Fields) (y : List ℕ). of hart x y pc room bindings input actions output log Going) (sym i) (sym r)
    ∙ ap₂ (λ (x : ℕ) (y : Room). of hart image' regs' x y bindings input actions output log Going) (sym p) (sym m)
    ∙ ap (λ (x : List Binding). of hart image' regs' pc' room' x input actions output log Going) (sym b)

-- the answer to a call that changes nothing, by what is left of the engine
pub refuses : (engine : Engine) (value : ℕ) (regs : List ℕ) (pc : ℕ) (room : Room) → regs ≡ put engine.hart.regs 10 value → pc ≡ add engine.hart.pc 4 → room ≡ with_plan engine.memory []
    → (actions : List Action) (left written : Option (List ℕ)) (input : List (Option ℕ)) (output : List ℕ) (log : List Event)
    → refused (shown (seen engine actions left written) Going input output log) value ≡ of engine.number engine.image regs pc room engine.bindings input actions output (log ++ []) Going
unfolding answered
refuses engine value regs pc room r p m actions left written input output log =
    same_state engine.number engine.image engine.image (put engine.hart.regs 10 value) regs (add engine.hart.pc 4) pc (with_plan engine.memory []) room engine.bindings engine.bindings input actions output log refl r p m refl
    ∙ ap (λ (all : List Event). of engine.number engine.image regs pc room engine.bindings input actions output all Going) (sym (append-nil log))

pub carries : (engine : Engine) (value : ℕ) (plan : Planned) (regs : List ℕ) (pc : ℕ) (room : Room) (bindings : List Binding)
    → regs ≡ put engine.hart.regs 10 value → pc ≡ add engine.hart.pc 4 → room ≡ with_plan engine.memory plan.pairs → bindings ≡ plan.bound
    → (actions : List Action) (left written : Option (List ℕ)) (input : List (Option ℕ)) (output : List ℕ) (log : List Event)
    → carried_out (shown (seen engine actions left written) Going input output log) plan value ≡ of engine.number engine.image regs pc room bindings input actions output (log ++ events_from 0 engine.bindings plan.bound) Going
unfolding answered
carries engine value plan regs pc room bindings r p m b actions left written input output log =
    same_state engine.number engine.image engine.image (put engine.hart.regs 10 value) regs (add engine.hart.pc 4) pc
    (with_plan engine.memory plan.pairs) room plan.bound bindings input actions output (log ++ events_from 0 engine.bindings plan.bound) refl r p m b

-- bindings of a commit that another hart has made
pub takes_on : (engine : Engine) (bound : List Binding) (regs : List ℕ) (pc : ℕ) (room : Room) (bindings : List Binding) → regs ≡ put engine.hart.regs 10 1 → pc ≡ add engine.hart.pc 4 → room ≡ with_plan engine.memory [] → bindings ≡ bound
    → (actions : List Action) (left written : Option (List ℕ)) (input : List (Option ℕ)) (output : List ℕ) (log : List Event)
    → adopts (shown (seen engine actions left written) Going input output log) bound ≡ of engine.number engine.image regs pc room bindings input actions output (log ++ events_from 0 engine.bindings bound) Going
unfolding answered
takes_on engine bound regs pc room bindings r p m b actions left written input output log =
    same_state engine.number engine.image engine.image (put engine.hart.regs 10 1) regs (add engine.hart.pc 4) pc
    (with_plan engine.memory []) room bound bindings input actions output (log ++ events_from 0 engine.bindings bound) refl r p m b

-- ---- orders

-- an order does what its code and index say
pub same_plan : (image : Fields) (held : Held) (bound : List Binding) (code index : ℕ) (order : Order) → IsAsked code index order → plan_of image held bound (code_of order) (index_of order) ≡ plan_of image held bound code index
unfolding plan_of bindings_ordered answer_after
same_plan image held bound code index CommitAll e = subst (λ (c : ℕ). plan_of image held bound 0 0 ≡ plan_of image held bound c index) (sym e) refl
same_plan image held bound code index RevertAll e = subst (λ (c : ℕ). plan_of image held bound 1 0 ≡ plan_of image held bound c index) (sym e) refl
same_plan image held bound code index (CommitFunction f) e = ap₂ (λ c i. plan_of image held bound c i) (sym e.0) e.1
same_plan image held bound code index (RevertFunction f) e = ap₂ (λ c i. plan_of image held bound c i) (sym e.0) e.1
same_plan image held bound code index (CommitRefs s) e = ap₂ (λ c i. plan_of image held bound c i) (sym e.0) e.1
same_plan image held bound code index (RevertRefs s) e = ap₂ (λ c i. plan_of image held bound c i) (sym e.0) e.1

-- no code from 6 on is known
pub known_below : (image : Fields) (code index : ℕ) → is_known_order image code index ≡ true → code < 6
unfolding is_known_order
known_below image code index h = ⊎_elim (λ (lt : code < 6). lt)
    (λ (ge : 6 ≤ code).
    let e : ltb code 2 ≡ false = le-ltb code 2 (omega (arith, ge)) in
    let f : ltb code 4 ≡ false = le-ltb code 4 (omega (arith, ge)) in
    let g : ltb code 6 ≡ false = le-ltb code 6 ge in
    absurd (let k = rw (e, f, g) at h in cc))
    (cases_lt code 6)

-- with a live frame, and in another hart than 0, nothing is planned

pub live_refuses : (number live : ℕ) → 0 < live → (nat_eq number 0 && nat_eq live 0) ≡ false
live_refuses number live busy = ap (λ (idle : Bool). nat_eq number 0 && idle) (ne_eqb live 0 (λ none. omega (arith, none, busy))) ∙ never (nat_eq number 0)
  where
    never : (b : Bool) → (b && false) ≡ false
    never true = refl
    never false = refl

pub other_refuses : (number live : ℕ) → number ≢ 0 → (nat_eq number 0 && nat_eq live 0) ≡ false
other_refuses number live other = ap (λ (leads : Bool). leads && nat_eq live 0) (ne_eqb number 0 other)

-- the three ways of a call for a plan
abbrev chosen : (known idle : Bool) → (s : State) → (code index : ℕ) → State
chosen known idle s code index = if known then (if idle then ordered s code index else refused s (2 ^ 32 - 1)) else stopped s (Fault cause.Call)

module _ (engine engine' : Engine) (left written : Option (List ℕ)) (Told : List Event → Type 0) where
  abbrev code : ℕ
  code = reg engine.hart.regs 10

  abbrev index : ℕ
  index = reg engine.hart.regs 11

  abbrev live : ℕ
  live = reg engine.hart.regs 26

  abbrev from : List Action → Seen
  from actions = seen engine actions left written

  abbrev to : List Action → Seen
  to actions = seen engine' actions left written

  pub unknown_order : (actions : List Action) → is_known_order engine.image code index ≡ false → from actions ≡ to actions → Told [] → Moves (environment_call Plans) (from actions) (to actions) (Fault cause.Call) Told
  unfolding planned
  unknown_order actions e same quiet = subst (λ (y : Seen). Moves (environment_call Plans) (from actions) y (Fault cause.Call) Told) same
      (moves_quietly (environment_call Plans) (from actions) (from actions) (Fault cause.Call) Told refl refl quiet
      (λ i o l. let s = shown (from actions) Going i o l in ap (λ (known : Bool). chosen known (nat_eq engine.number 0 && nat_eq live 0) s code index) e))

  pub refused_order : (actions : List Action) → is_known_order engine.image code index ≡ true → (nat_eq engine.number 0 && nat_eq live 0) ≡ false
      → Told [] → Does (λ s. refused s (2 ^ 32 - 1)) engine actions engine' actions Going []
      → Moves (environment_call Plans) (from actions) (to actions) Going Told
  unfolding planned
  refused_order actions e busy quiet does = moves_telling (environment_call Plans) (from actions) (to actions) Going Told [] refl refl quiet
      (λ i o l. let s = shown (from actions) Going i o l in
      ap₂ (λ (known idle : Bool). chosen known idle s code index) e busy ∙ does left written i o l)

  pub carried_order : (actions : List Action) (plan : Planned) (news : List Event) → is_known_order engine.image code index ≡ true → engine.number ≡ 0
      → live ≡ 0 → plan ≡ plan_of engine.image engine.memory.held engine.bindings code index → Told news
      → Does (λ s. carried_out s plan plan.answer) engine actions engine' actions Going news
      → Moves (environment_call Plans) (from actions) (to actions) Going Told
  unfolding planned
  carried_order actions plan news e leads idle is told does = moves_telling (environment_call Plans) (from actions) (to actions) Going Told news refl refl told
      (λ i o l. let s = shown (from actions) Going i o l in
      ap₂ (λ (known quiet : Bool). chosen known quiet s code index) e (ap₂ (λ (m n : ℕ). nat_eq m 0 && nat_eq n 0) leads idle) ∙ ap (λ (p : Planned). carried_out s p p.answer) (sym is) ∙ does left written i o l)

  -- ---- polls

  abbrev polling : (idle : Bool) → State → State
  polling idle s = if idle then acted s s.actions else refused s 0

  pub busy_poll : (actions : List Action) → live ≢ 0 → Told [] → Does (λ s. refused s 0) engine actions engine' actions Going [] → Moves (environment_call Polls) (from actions) (to actions) Going Told
  unfolding polled
  busy_poll actions busy quiet does = moves_telling (environment_call Polls) (from actions) (to actions) Going Told [] refl refl quiet
      (λ i o l. ap (λ (idle : Bool). polling idle (shown (from actions) Going i o l)) (ne_eqb live 0 busy) ∙ does left written i o l)

  idle_is : live ≡ 0 → nat_eq live 0 ≡ true
  idle_is idle = ap (λ (n : ℕ). nat_eq n 0) idle

  pub poll_of_none : (was is : List Action) → live ≡ 0 → Taken None was is → Told []
      → ((actions : List Action) → Does (λ s. refused s 0) engine actions engine' actions Going [])
      → Moves (environment_call Polls) (from was) (to is) Going Told
  unfolding polled
  poll_of_none was is idle taken quiet does =
      let none : Moves (environment_call Polls) (from []) (to []) Going Told = moves_telling (environment_call Polls) (from []) (to []) Going Told [] refl refl quiet
      (λ i o l. ap (λ (b : Bool). polling b (shown (from []) Going i o l)) (idle_is idle) ∙ does [] left written i o l) in
      subst (λ (a : List Action). Moves (environment_call Polls) (from a) (to is) Going Told) (sym taken.0)
      (subst (λ (a : List Action). Moves (environment_call Polls) (from []) (to a) Going Told) (sym taken.1) none)

  pub poll_of_action : (action : Action) (was is : List Action) → live ≡ 0 → Taken (Some action) was is → Moves (act (act_of action)) (from is) (to is) Going Told → Moves (environment_call Polls) (from was) (to is) Going Told
  unfolding polled
  poll_of_action action was is idle taken m = subst (λ (a : List Action). Moves (environment_call Polls) (from a) (to is) Going Told) (sym taken) (
    m.0,
    m.1,
    m.2,
    m.3,
    (
      m.4.0,
      m.4.1,
      λ later may o l. (tt, ap (λ (b : Bool). polling b (shown (from (action ∷ is)) Going (bytes_to_come (m.4.0 ++ later)) o l)) (idle_is idle) ∙ (m.4.2 later may o l).1),
    ),
  )

  -- a refusal as an action
  pub skips : (actions : List Action) → Told [] → Does (λ s. refused s 0) engine actions engine' actions Going [] → Moves (act Skip) (from actions) (to actions) Going Told
  skips actions quiet does = moves_telling (act Skip) (from actions) (to actions) Going Told [] refl refl quiet (λ i o l. does left written i o l)

-- the same action
pub acts : (x y : Seen) (Told : List Event → Type 0) (action same : Action) → action ≡ same → Moves (act (act_of same)) x y Going Told → Moves (act (act_of action)) x y Going Told
acts x y Told action same e m = subst (λ (a : Action). Moves (act (act_of a)) x y Going Told) (sym e) m

-- a flip: the memory behind its store, and the plan of a commit of all functions then
pub flips : (engine engine' : Engine) (switch value : ℕ) (memory : Room) (plan : Planned) (news : List Event) (Told : List Event → Type 0)
    → memory ≡ with_value engine.image engine.memory switch value → plan ≡ plan_of engine.image memory.held engine.bindings 0 0 → Told news
    → (actions : List Action) (left written : Option (List ℕ))
    → ((input : List (Option ℕ)) (output : List ℕ) (log : List Event)
    → carried_out (of engine.number engine.image engine.hart.regs engine.hart.pc memory engine.bindings input actions output log Going) plan 1
    ≡ shown (seen engine' actions left written) Going input output (log ++ news))
    → Moves (λ s. flipped s switch value) (seen engine actions left written) (seen engine' actions left written) Going Told
flips engine engine' switch value memory plan news Told stores plans told actions left written does =
    moves_telling (λ s. flipped s switch value) (seen engine actions left written) (seen engine' actions left written) Going Told news refl refl told
    (λ i o l.
    ap (λ (m : Room). carried_out (of engine.number engine.image engine.hart.regs engine.hart.pc m engine.bindings i actions o l Going) (plan_of engine.image m.held engine.bindings 0 0) 1) (sym stores)
    ∙ ap (λ (p : Planned). carried_out (of engine.number engine.image engine.hart.regs engine.hart.pc memory engine.bindings i actions o l Going) p 1) (sym plans)
    ∙ does i o l)

-- with no live frame no order is refused
pub was_planned : {T A : Type 0} (result : Result T PlanError) → OnOk result A → OnErr result (0 < 0) → A
was_planned (Ok done) ok err = ok
was_planned (Err e) ok err = absurd (omega (arith, err))
