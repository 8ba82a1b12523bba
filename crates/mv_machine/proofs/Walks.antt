-- Walks of one instruction after the other.
use Rattle.std.proofs.Common.{ℕ, zero, suc, ◌≡◌, ◌<◌, ◌+◌, Bool, false, if◌then◌else◌, inl, inr, List, [], ◌∷◌, ◌++◌, length, Option, Some, None, option_map, slice_get, option_and_then, refl, sym, ap, ap₂, ◌∙◌, subst, arith, append-nil}
use Rattle.std.proofs.lemmas.List.{length-append}
use Rattle.std.proofs.lemmas.Option.{none-some}
use Rattle.mv_bindings.specs.declared.action.Action.{Action}
use Rattle.mv_bindings.specs.declared.binding.Event.{Event}
use Rattle.mv_isa.specs.declared.instr.Cause.{Cause}
use Rattle.mv_isa.specs.declared.instr.Cause.TheVariants as cause
use Rattle.mv_isa.specs.Execution.{Goes as GoesTo, Calls, Faults, reg, step}
use Rattle.mv_fetch.specs.Held.{Room, choices}
use Rattle.mv_rv32.specs.Stepping.{access, picked_step, picked_target, word_target, Gives, Stays, Wants}
use Rattle.mv_rv32.specs.declared.hart.Hart.{Hart}
use Rattle.mv_rv32.specs.declared.hart.Stepped.{Stepped}
use Rattle.mv_rv32.specs.declared.hart.Stepped.TheVariants as over
use Rattle.mv_probe.specs.Ways.{Way, way_after}
use Rattle.mv_machine.specs.declared.engine.Engine.{Engine}
use Rattle.mv_machine.specs.declared.machine.Stopped.{Stopped}
use Rattle.mv_machine.specs.declared.machine.Stopped.TheVariants as answer
use Rattle.mv_io.proofs.Common.{lost_none}
use Rattle.mv_machine.specs.Runs.{Stop, Going, Fault, State, Reads, Writes, request_of, environment_call, bytes_to_come, turn, executed}
use Rattle.mv_machine.specs.Departures.{departed_by, floor}
use Rattle.mv_machine.specs.Snapshots.{Under}
use Rattle.mv_machine.specs.Moves.{Seen, seen, shown, Moves, Outcomes, FromCall, Called, Wanting, Fetched, Steps, noted, GoOn, Strides, Settles, Turns, Goes}
use Rattle.mv_machine.proofs.Departing.{Notes, call_notes, departs_none}
use Rattle.mv_machine.proofs.Turns.{turn_by, runs_none}
use Rattle.mv_machine.proofs.Moved.{nothing_written, moves_quietly, moves_as, fetched, way_more, Joins, meets_more}

pub outcomes_map : {m n : Stop → Type 0} {i j o p w v : Type 0} (r : Option Stopped) → ((s : Stop) → m s → n s) → (i → j) → (o → p) → (w → v) → Outcomes r m i o w → Outcomes r n j p v
outcomes_map None f a b d h = f _ h
outcomes_map (Some (answer.Ended s)) f a b d h = f _ h
outcomes_map (Some (answer.Trapped s)) f a b d h = f _ h
outcomes_map (Some answer.Steps) f a b d h = h
outcomes_map (Some answer.InputFault) f a b d h = a h
outcomes_map (Some answer.OutputFault) f a b d h = b h
outcomes_map (Some (answer.Fault pc why)) f a b d h = f _ h
outcomes_map (Some answer.Memory) f a b d h = d h

-- ---- one instruction

-- an engine with another hart and another memory
abbrev pub stepped : Seen → Hart → Room → Seen
stepped x hart room = record x { regs = hart.regs; pc = hart.pc; room = room }

pub steps_on : (x : Seen) (hart' : Hart) (room' : Room) (pick : ℕ) (Told : List Event → Type 0) → Told [] → pick < length (choices x.room.held x.pc)
    → picked_step x.room pick x.regs x.pc ≡ GoesTo hart'.regs hart'.pc room' → Moves (λ s. turn s pick) x (stepped x hart' room') Going Told
steps_on x hart' room' pick Told quiet lt e =
    moves_quietly (λ s. turn s pick) x (stepped x hart' room') Going Told refl refl quiet
    (λ i o l. turn_by (shown x Going i o l) pick (GoesTo hart'.regs hart'.pc room') refl (fetched x Going i o l pick lt ∙ e))

pub faults : (x y : Seen) (why : Cause) (pick : ℕ) (Told : List Event → Type 0) → Told [] → y ≡ x → pick < length (choices x.room.held x.pc) → picked_step x.room pick x.regs x.pc ≡ Faults why → Moves (λ s. turn s pick) x y (Fault why) Told
faults x y why pick Told quiet same lt e = subst (λ z. Moves (λ s. turn s pick) x z (Fault why) Told) (sym same)
    (moves_quietly (λ s. turn s pick) x x (Fault why) Told refl refl quiet
    (λ i o l. turn_by (shown x Going i o l) pick (Faults why) refl (fetched x Going i o l pick lt ∙ e)))

pub same_stepped : (x : Seen) (hart hart' : Hart) (room room' : Room) → hart' ≡ hart → room' ≡ room → stepped x hart' room' ≡ stepped x hart room
same_stepped x hart hart' room room' h r = ap₂ (λ (g : Hart) (m : Room). stepped x g m) h r

pub calls : (r : Option Stopped) (x z y : Seen) (pick : ℕ) (A B W : Type 0) (Told : List Event → Type 0) → z ≡ x
    → pick < length (choices x.room.held x.pc) → picked_step x.room pick x.regs x.pc ≡ Calls → FromCall r z y A B Told
    → Outcomes r (λ stop. Moves (λ s. turn s pick) x y stop Told) ((y ≡ x) × Told [] × Called x pick Reads × A) ((y ≡ x) × Told [] × Called x pick Writes × B) W
calls r x z y pick A B W Told same lt e h = outcomes_map r
    (λ stop m. moves_as (environment_call (request_of (reg x.regs 17))) (λ s. turn s pick) x y stop Told (λ i o l. turn_by (shown x Going i o l) pick Calls refl (fetched x Going i o l pick lt ∙ e)) m)
    (λ i. (i.0, i.1, (e, i.2), i.3))
    (λ o. (o.0, o.1, (e, o.2), o.3))
    (λ w. absurd w)
    (subst (λ (u : Seen). FromCall r u y A B Told) same h)

-- what follows an instruction where nothing changes
pub settles_next : (s : Stepped) (x : Seen) (A B : Type 0) (Told : List Event → Type 0) → s ≡ over.Next → Told [] → Settles s None x x A B Told
settles_next s x A B Told e quiet = subst (λ (t : Stepped). Settles t None x x A B Told) (sym e) (refl, refl, quiet)

pub settles_fault : (s : Stepped) (why : Cause) (x : Seen) (A B : Type 0) (Told : List Event → Type 0) → s ≡ over.Fault why → Told [] → Settles s (Some (answer.Fault x.pc why)) x x A B Told
settles_fault s why x A B Told e quiet = subst (λ (t : Stepped). Settles t (Some (answer.Fault x.pc why)) x x A B Told) (sym e) (refl, refl, quiet)

pub settles_memory : (s : Stepped) (x : Seen) (A B : Type 0) (Told : List Event → Type 0) → s ≡ over.Memory → Told [] → Settles s (Some answer.Memory) x x A B Told
settles_memory s x A B Told e quiet = subst (λ (t : Stepped). Settles t (Some answer.Memory) x x A B Told) (sym e) (refl, refl, quiet)

-- an instruction, and what follows it
module _ (e : Engine) (actions : List Action) (left written : Option (List ℕ)) (r : Option Stopped) (y : Seen) (hart' : Hart) (room' : Room) (way way' : Option Way) (A B : Type 0) (Told : List Event → Type 0) where
  abbrev x : Seen
  x = seen e actions left written

  abbrev z : Seen
  z = stepped x hart' room'

  abbrev led : Option Stopped → Seen → ℕ → Type 0
  led o w pick = Outcomes o (λ stop. Moves (λ s. turn s pick) x w stop Told) ((w ≡ x) × Told [] × Called x pick Reads × A) ((w ≡ x) × Told [] × Called x pick Writes × B) ((w ≡ x) × Told [] × Wanting x pick)

  unchanged : hart' ≡ e.hart → room' ≡ e.memory → z ≡ x
  unchanged h m = same_stepped x e.hart hart' e.memory room' h m

  settled : (s : Stepped) (pick : ℕ) → pick < length (choices x.room.held x.pc) → Gives (picked_step x.room pick x.regs x.pc) s hart' room'
      → Stays s e.hart hart' e.memory room' → Wants s (picked_target x.room pick x.regs x.pc) x.room → Settles s r z y A B Told → led r y pick
  settled over.Next pick lt gives stays wants after =
      subst (λ (o : Option Stopped). led o y pick) (sym after.0) (subst (λ (w : Seen). led None w pick) (sym after.1) (steps_on x hart' room' pick Told after.2 lt gives))
  settled over.Call pick lt gives stays wants after = calls r x z y pick A B ((y ≡ x) × Told [] × Wanting x pick) Told (unchanged stays.0 stays.1) lt gives after
  settled (over.Fault why) pick lt gives stays wants after =
      subst (λ (o : Option Stopped). led o y pick) (sym after.0) (faults x y why pick Told after.2 (after.1 ∙ unchanged stays.0 stays.1) lt gives)
  settled over.Memory pick lt gives stays wants after =
      subst (λ (o : Option Stopped). led o y pick) (sym after.0) (after.1 ∙ unchanged stays.0 stays.1, after.2, (wants.0, wants.1, gives))

  pub turns_by : (s : Stepped) → Steps s e.hart hart' e.memory room' way way' → Settles s r z y A B Told → Turns r x y way way' A B Told
  turns_by s (inl n) after =
      let a = subst (λ (t : Stepped). Settles t r z y A B Told) n.1 after in
      inl (n.0, a.0 ∙ ap (λ (h : Hart). Some (answer.Fault h.pc cause.Fetch)) n.2, a.1 ∙ unchanged n.2 n.3, a.2, n.4)
  turns_by s (inr t) after = inr (t.0, t.1, t.2, settled s t.0 t.1 t.3 t.4 t.5 after)

-- ---- so many

under_none : (way : Option Way) (s : State) → Under way s []
under_none None s = tt
under_none (Some w) s = λ j lt. absurd (omega (arith, lt))

executed_none : (s : State) (picks : List ℕ) → executed s picks 0 ≡ 0
unfolding executed
executed_none s picks = refl

way_none : (way : Option Way) → way ≡ option_map (λ w. way_after w 0) way
unfolding way_after
way_none None = refl
way_none (Some w) = refl

pub goes_none : (wanted : Bool) (x : Seen) (way : Option Way) (Told : List Event → Type 0) → Told [] → Goes wanted None 0 x x way way Told
goes_none wanted x way Told quiet = (
  [],
  refl,
  way_none way,
  (
    [],
    [],
    nothing_written x.written,
    quiet,
    (
      [],
      lost_none x.left,
      λ later may o log.
          let s = shown x Going (bytes_to_come later) o log in (
            (under_none way s, executed_none s [], departs_none wanted s []),
            runs_none s [] ∙ ap₂ (λ (out : List ℕ) (events : List Event). shown x Going (bytes_to_come later) out events) (sym (append-nil o)) (sym (append-nil log)),
          ),
    ),
  ),
)

pub goes_more : (wanted : Bool) (place place' : Option ℕ) (n : ℕ) (x y z : Seen) (way v way' : Option Way) (A B : Type 0)
    (Before Behind Told : List Event → Type 0) → Joins Before Behind Told → Goes wanted place n x y way v Before → Turns None y z v way' A B Behind
    → Notes wanted place place' y z Going → Goes wanted place' (n + 1) x z way way' Told
goes_more wanted place place' n x y z way v way' A B Before Behind Told joins g (inl t) noted = absurd (none-some _ t.1)
goes_more wanted place place' n x y z way v way' A B Before Behind Told joins g (inr t) noted = (
  g.0 ++ t.0 ∷ [],
  omega (arith, length-append g.0 (t.0 ∷ []), g.1),
  way_more way v way' _ t.0 n g.2 t.2,
  meets_more wanted place place' x y z Going noted way v way' Before Behind Told joins g.0 t.0 n g.1 g.2 t.2 g.3 t.3,
)

-- the causes at the outside, seen from an earlier time
pub turns_since : (r : Option Stopped) (x y : Seen) (way way' : Option Way) (A B A' B' : Type 0) (Told : List Event → Type 0) → (A → A') → (B → B') → Turns r x y way way' A B Told → Turns r x y way way' A' B' Told
turns_since r x y way way' A B A' B' Told f k (inl t) = inl t
turns_since r x y way way' A B A' B' Told f k (inr t) = inr (t.0, t.1, t.2, outcomes_map r (λ stop m. m) (λ i. (i.0, i.1, i.2, f i.3)) (λ o. (o.0, o.1, o.2, k o.3)) (λ w. w) t.3)

pub goes_at : (wanted : Bool) (place : Option ℕ) (x y : Seen) (way way' : Option Way) (Told : List Event → Type 0) (n m : ℕ) → n ≡ m → Goes wanted place n x y way way' Told → Goes wanted place m x y way way' Told
goes_at wanted place x y way way' Told n m e g = subst (λ k. Goes wanted place k x y way way' Told) e g

pub goes_placed : (wanted : Bool) (place place' : Option ℕ) (n : ℕ) (x y : Seen) (way way' : Option Way) (Told : List Event → Type 0) → place ≡ place' → Goes wanted place n x y way way' Told → Goes wanted place' n x y way way' Told
goes_placed wanted place place' n x y way way' Told e g = subst (λ (p : Option ℕ). Goes wanted p n x y way way' Told) e g

-- ---- instructions that just go on

-- nothing is noted where no place is wanted
pub unnoted : (floor : ℕ) (s : Stepped) (from to : ℕ) (place : Option ℕ) → place ≡ noted false s floor from to place
unnoted floor over.Next from to place = refl
unnoted floor over.Call from to place = refl
unnoted floor (over.Fault why) from to place = refl
unnoted floor over.Memory from to place = refl

-- nor behind an instruction that doesn't just go on
pub others_unnoted : (wanted : Bool) (floor : ℕ) (s : Stepped) (from to : ℕ) (place : Option ℕ) → (s ≡ over.Next → ⊥) → place ≡ noted wanted s floor from to place
others_unnoted wanted floor over.Next from to place other = absurd (other refl)
others_unnoted wanted floor over.Call from to place other = refl
others_unnoted wanted floor (over.Fault why) from to place other = refl
others_unnoted wanted floor over.Memory from to place other = refl

module _ (wanted : Bool) (floor : ℕ) where
  pub one_more_goes : (n m : ℕ) (s : Stepped) (hart h hart' : Hart) (room r room' : Room) (way w way' : Option Way) (place p place' : Option ℕ) → suc n ≡ m → s ≡ over.Next
      → GoOn wanted floor n hart h room r way w place p → Steps s h hart' r room' w way' → place' ≡ noted wanted over.Next floor h.pc hart'.pc p → GoOn wanted floor m hart hart' room room' way way' place place'
  one_more_goes n m s hart h hart' room r room' way w way' place p place' e next before last note =
      subst (λ k. GoOn wanted floor k hart hart' room room' way way' place place') e (h, r, w, p, before, subst (λ (t : Stepped). Steps t h hart' r room' w way') next last, note)

  pub goes_all : (n m : ℕ) (hart hart' : Hart) (room room' : Room) (way way' : Option Way) (place place' : Option ℕ) → n ≡ m
      → GoOn wanted floor n hart hart' room room' way way' place place' → GoOn wanted floor m hart hart' room room' way way' place place'
  goes_all n m hart hart' room room' way way' place place' e g = subst (λ k. GoOn wanted floor k hart hart' room room' way way' place place') e g

  -- the last of some is the one behind the others
  pub ends_with_one : (steps : ℕ) (hart hart' : Hart) (room room' : Room) (way way' : Option Way) (place place' : Option ℕ) → 0 < steps → GoOn wanted floor steps hart hart' room room' way way' place place'
      → Strides wanted floor steps (record { stepped = over.Next; left = 0 }) hart hart' room room' way way' place place'
  ends_with_one zero hart hart' room room' way way' place place' some g = absurd (omega (arith, some))
  ends_with_one (suc n) hart hart' room room' way way' place place' some g = (n, g.0, g.1, g.2, g.3, omega arith, g.4, g.5, g.6)

-- what was noted behind an instruction, where the run goes on behind it
call_stays : (hart hart' : Hart) (room room' : Room) (way way' : Option Way) → Steps over.Call hart hart' room room' way way' → hart'.pc ≡ hart.pc
call_stays hart hart' room room' way way' (inl n) = ap (λ (h : Hart). h.pc) n.2
call_stays hart hart' room room' way way' (inr t) = ap (λ (h : Hart). h.pc) t.4.0

pub notes_settled : (wanted : Bool) (s : Stepped) (e : Engine) (actions : List Action) (left written : Option (List ℕ)) (z : Seen) (hart' : Hart)
    (room' : Room) (way way' : Option Way) (place place' : Option ℕ) (A B : Type 0) (Told : List Event → Type 0)
    → Steps s e.hart hart' e.memory room' way way' → Settles s None (stepped (seen e actions left written) hart' room') z A B Told → place' ≡ noted wanted s (floor e.image) e.hart.pc hart'.pc place
    → Notes wanted place place' (seen e actions left written) z Going
notes_settled wanted over.Next e actions left written z hart' room' way way' place place' A B Told steps after note =
    note ∙ ap (λ (to : ℕ). if wanted then departed_by (floor e.image) Going e.hart.pc to place else place) (sym (ap (λ (w : Seen). w.pc) after.1))
notes_settled wanted over.Call e actions left written z hart' room' way way' place place' A B Told steps after note =
    note ∙ call_notes wanted place (request_of (reg hart'.regs 17)) (seen e actions left written) (stepped (seen e actions left written) hart' room') z Told (call_stays e.hart hart' e.memory room' way way' steps) after
notes_settled wanted (over.Fault why) e actions left written z hart' room' way way' place place' A B Told steps after note = absurd (none-some _ after.0)
notes_settled wanted over.Memory e actions left written z hart' room' way way' place place' A B Told steps after note = absurd (none-some _ after.0)

-- and where it doesn't
pub nothing_noted : (wanted : Bool) (s : Stepped) (stopped : Stopped) (x z : Seen) (floor from to : ℕ) (place : Option ℕ) (A B : Type 0)
    (Told : List Event → Type 0) → Settles s (Some stopped) x z A B Told → noted wanted s floor from to place ≡ place
nothing_noted wanted over.Next stopped x z floor from to place A B Told after = absurd (none-some _ (sym after.0))
nothing_noted wanted over.Call stopped x z floor from to place A B Told after = refl
nothing_noted wanted (over.Fault why) stopped x z floor from to place A B Told after = refl
nothing_noted wanted over.Memory stopped x z floor from to place A B Told after = refl

-- they are instructions of the walk, of which no probe hears
module _ (wanted : Bool) (k : ℕ) (x : Seen) (e : Engine) (actions : List Action) (left written : Option (List ℕ)) (way v : Option Way) (place : Option ℕ) (start : ℕ) (same : start ≡ floor e.image) (Told Behind : List Event → Type 0)
    (joins : Joins Told Behind Told) (quiet : Behind []) (before : Goes wanted place k x (seen e actions left written) way v Told) where
  abbrev on : Hart → Room → Seen
  on hart room = stepped (seen e actions left written) hart room

  pub goes_on : (n : ℕ) (hart' : Hart) (room' : Room) (way' : Option Way) (place' : Option ℕ) → GoOn wanted start n e.hart hart' e.memory room' v way' place place' → Goes wanted place' (k + n) x (on hart' room') way way' Told
  goes_on zero hart' room' way' place' g =
      goes_at wanted place' x (on hart' room') way way' Told k (k + 0) (omega arith)
      (subst (λ (p : Option ℕ). Goes wanted p k x (on hart' room') way way' Told) (sym g.3)
      (subst (λ (w : Option Way). Goes wanted place k x (on hart' room') way w Told) (sym g.2)
      (subst (λ (y : Seen). Goes wanted place k x y way v Told) (sym (same_stepped (seen e actions left written) e.hart hart' e.memory room' g.0 g.1)) before)))
  goes_on (suc n) hart' room' way' place' g =
      let h = g.0 in let r = g.1 in let w = g.2 in let p = g.3 in
      goes_at wanted place' x (on hart' room') way way' Told (k + n + 1) (k + suc n) (omega arith)
      (goes_more wanted p place' (k + n) x (on h r) (on hart' room') way w way' ⊥ ⊥ Told Behind Told joins (goes_on n h r w p g.4)
      (turns_by (record e { hart = h; memory = r }) actions left written None (on hart' room') hart' room' w way' ⊥ ⊥ Behind over.Next g.5 (refl, refl, quiet)) (g.6 ∙ ap (λ (f : ℕ). noted wanted over.Next f h.pc hart'.pc p) same))

-- ---- a step with the word that was fetched

pub step_is : (room : Room) (pick word : ℕ) (regs : List ℕ) (pc : ℕ) → slice_get (choices room.held pc) pick ≡ Some word → picked_step room pick regs pc ≡ step access (Some word) regs pc room
unfolding picked_step
step_is room pick word regs pc e = ap (λ (o : Option ℕ). step access o regs pc room) e

-- a step with the word that is picked is the picked step
pub stepped_by : (s : Stepped) (hart hart' : Hart) (room room' : Room) (way way' : Option Way) (word : ℕ) → Fetched (Some word) (choices room.held hart.pc) way way'
    → Gives (step access (Some word) hart.regs hart.pc room) s hart' room' → Stays s hart hart' room room' → Wants s (word_target word hart.regs) room → Steps s hart hart' room room' way way'
unfolding picked_target
stepped_by s hart hart' room room' way way' word f gives stays wants =
    let at = step_is room f.0 word hart.regs hart.pc f.3 in
    inr (
      f.0,
      f.1,
      f.2,
      subst (λ o. Gives o s hart' room') (sym at) gives,
      stays,
      subst (λ (o : Option ℕ). Wants s (option_and_then (λ w. word_target w hart.regs) o) room) (sym f.3) wants,
    )
