-- Environment calls, by what a7 asks for.
use Rattle.std.proofs.Common.{ℕ, ◌≡◌, ◌≢◌, ◌%◌, ◌^◌, List, [], ◌∷◌, ◌++◌, Option, Some, refl, sym, ap, ap₂, ◌∙◌, subst}
use Rattle.std.proofs.lemmas.Bool.{ne_eqb}
use Rattle.mv_bindings.specs.declared.action.Action.{Action}
use Rattle.mv_bindings.specs.declared.binding.Event.{Event}
use Rattle.mv_isa.specs.Execution.{reg, put}
use Rattle.mv_isa.specs.declared.instr.Cause.TheVariants as cause
use Rattle.mv_rv32.specs.declared.hart.Hart.{Hart}
use Rattle.mv_machine.specs.declared.engine.Engine.{Engine}
use Rattle.mv_machine.specs.declared.machine.Stopped.{Stopped}
use Rattle.mv_machine.specs.declared.machine.Stopped.TheVariants as answer
use Rattle.mv_machine.specs.Runs.{Stop, Going, Exit, Fault, Request, Exits, Reads, Writes, Traps, Plans, Polls, Unknown, request_of, environment_call, answered, word_read, later_reads, trap_of}
use Rattle.mv_machine.specs.Moves.{Seen, seen, shown, Moves, Gets, Puts, Outcomes, FromCall, IsStop}
use Rattle.mv_machine.proofs.Moved.{moves_quietly, moves_reading, moves_writing, moves_as}
use Rattle.mv_machine.proofs.Walks.{outcomes_map}

pub request_exits : (a : ℕ) → a ≡ 0 → request_of a ≡ Exits
unfolding request_of
request_exits a e = rw e refl

pub request_reads : (a : ℕ) → a ≡ 1 → request_of a ≡ Reads
unfolding request_of
request_reads a e = rw e refl

pub request_writes : (a : ℕ) → a ≡ 2 → request_of a ≡ Writes
unfolding request_of
request_writes a e = rw e refl

pub request_traps : (a : ℕ) → a ≡ 3 → request_of a ≡ Traps
unfolding request_of
request_traps a e = rw e refl

pub request_plans : (a : ℕ) → a ≡ 4 → request_of a ≡ Plans
unfolding request_of
request_plans a e = rw e refl

pub request_polls : (a : ℕ) → a ≡ 5 → request_of a ≡ Polls
unfolding request_of
request_polls a e = rw e refl

pub request_unknown : (a : ℕ) → a ≢ 0 → a ≢ 1 → a ≢ 2 → a ≢ 3 → a ≢ 4 → a ≢ 5 → request_of a ≡ Unknown
unfolding request_of
request_unknown a n0 n1 n2 n3 n4 n5 = rw (ne_eqb a 0 n0, ne_eqb a 1 n1, ne_eqb a 2 n2, ne_eqb a 3 n3, ne_eqb a 4 n4, ne_eqb a 5 n5) refl

module _ (engine : Engine) (actions : List Action) (left written : Option (List ℕ)) where
  abbrev changed : Hart → (left written : Option (List ℕ)) → Seen
  changed hart left' written' = record (seen engine actions left written) { regs = hart.regs; pc = hart.pc; left = left'; written = written' }

  pub same : (hart' : Hart) (left' written' : Option (List ℕ)) → hart' ≡ engine.hart → left' ≡ left → written' ≡ written → changed hart' left' written' ≡ seen engine actions left written
  same hart' left' written' h l w = ap (λ (g : Hart). changed g left' written') h ∙ ap₂ (λ a b. changed engine.hart a b) l w

module _ (engine : Engine) (actions : List Action) (left written : Option (List ℕ)) (Told : List Event → Type 0) where
  abbrev x : Seen
  x = seen engine actions left written

  abbrev number : ℕ
  number = reg engine.hart.regs 17

  -- behind a change of the hart alone
  abbrev behind : Hart → (left written : Option (List ℕ)) → Seen
  behind hart left' written' = record x { regs = hart.regs; pc = hart.pc; left = left'; written = written' }

  -- a call of this kind, as any call
  pub called : (y : Seen) (stop : Stop) (request : Request) → request_of number ≡ request → Moves (environment_call request) x y stop Told → Moves (environment_call (request_of number)) x y stop Told
  called y stop request e m = moves_as (environment_call request) (environment_call (request_of number)) x y stop Told (λ i o l. ap (λ q. environment_call q (shown x Going i o l)) e) m

  pub exits : Told [] → (status : ℕ) → request_of number ≡ Exits → status ≡ reg engine.hart.regs 10 % 2 ^ 8 → Moves (environment_call (request_of number)) x x (Exit status) Told
  exits quiet status e s = called x (Exit status) Exits e (moves_quietly (environment_call Exits) x x (Exit status) Told refl refl quiet (λ i o l. ap (λ k. shown x (Exit k) i o l) (sym s)))

  pub traps : Told [] → (stop : Stop) → request_of number ≡ Traps → stop ≡ trap_of (reg engine.hart.regs 10) → Moves (environment_call (request_of number)) x x stop Told
  traps quiet stop e s = called x stop Traps e (moves_quietly (environment_call Traps) x x stop Told refl refl quiet (λ i o l. ap (λ k. shown x k i o l) (sym s)))

  pub unknown : Told [] → request_of number ≡ Unknown → Moves (environment_call (request_of number)) x x (Fault cause.Call) Told
  unknown quiet e = called x (Fault cause.Call) Unknown e (moves_quietly (environment_call Unknown) x x (Fault cause.Call) Told refl refl quiet (λ i o l. refl))

  pub reads : Told [] → (hart' : Hart) (left' : Option (List ℕ)) → request_of number ≡ Reads → Gets engine.hart hart' left left' → Moves (environment_call (request_of number)) x (behind hart' left' written) Going Told
  unfolding answered
  reads quiet hart' left' e g =
      let y : Seen = behind hart' left' written in
      called y Going Reads e (moves_reading (environment_call Reads) x y g.0 Told g.1 refl quiet (λ i o l n.
      ap₂ (λ r p. shown (record y { regs = r; pc = p }) Going (later_reads i) o l) (ap (λ a. put engine.hart.regs 10 (word_read a)) n ∙ sym g.2) (sym g.3)))

  pub writes : Told [] → (hart' : Hart) (written' : Option (List ℕ)) → request_of number ≡ Writes → Puts engine.hart hart' written written' → Moves (environment_call (request_of number)) x (behind hart' left written') Going Told
  unfolding answered
  writes quiet hart' written' e g =
      let y : Seen = behind hart' left written' in
      called y Going Writes e (moves_writing (environment_call Writes) x y (reg engine.hart.regs 10 % 2 ^ 8) Told refl g.0 quiet (λ i o l.
      ap₂ (λ r p. shown (record y { regs = r; pc = p }) Going i (o ++ reg engine.hart.regs 10 % 2 ^ 8 ∷ []) l) (sym g.1) (sym g.2)))

  -- a call for a plan, and a poll, neither read nor write
  pub plans : (r : Option Stopped) (y : Seen) (A B : Type 0) → request_of number ≡ Plans → Outcomes r (λ stop. Moves (environment_call Plans) x y stop Told) ⊥ ⊥ ⊥ → FromCall r x y A B Told
  plans r y A B e h = outcomes_map r (λ stop m. called y stop Plans e m) (λ i. absurd i) (λ o. absurd o) (λ w. w) h

  pub polls : (y : Seen) → request_of number ≡ Polls → Moves (environment_call Polls) x y Going Told → Moves (environment_call (request_of number)) x y Going Told
  polls y e m = called y Going Polls e m

-- an answer that is a stop
pub outcomes_stop : (m : Stop → Type 0) (i o w : Type 0) (r : Stopped) (stop : Stop) → IsStop r stop → m stop → Outcomes (Some r) m i o w
outcomes_stop m i o w (answer.Ended s) stop e h = subst m (sym e) h
outcomes_stop m i o w (answer.Trapped s) stop e h = subst m (sym e) h
outcomes_stop m i o w answer.Steps stop e h = absurd e
outcomes_stop m i o w answer.InputFault stop e h = absurd e
outcomes_stop m i o w answer.OutputFault stop e h = absurd e
outcomes_stop m i o w (answer.Fault pc why) stop e h = subst m (sym e) h
outcomes_stop m i o w answer.Memory stop e h = absurd e
