-- From where an instruction departs: from nowhere where it ends the run, calls the environment or goes on behind itself.
use Rattle.std.proofs.Common.{ℕ, zero, suc, Bool, true, false, not, ◌&&◌, if◌then◌else◌, cond, nat_le, ◌≡◌, ◌≤◌, ◌+◌, add-one, List, [], ◌++◌, length, Option, Some, None, refl, sym, ap, ap₂, ◌∙◌, subst, arith}
use Rattle.std.proofs.lemmas.Bool.{eq-eqb}
use Rattle.mv_num.specs.Words.{add}
use Rattle.mv_bindings.specs.declared.binding.Event.{Event}
use Rattle.mv_isa.specs.declared.instr.Cause.TheVariants as cause
use Rattle.mv_isa.specs.Execution.{reg}
use Rattle.mv_io.proofs.Common.{some_later}
use Rattle.mv_machine.specs.Departures.{departed, departed_by, floor}
use Rattle.mv_machine.specs.Moves.{Seen, shown, Moves}
use Rattle.mv_machine.specs.Runs.{Stop, Going, Exit, Trap, Fault, State, Request, Exits, Reads, Writes, Traps, Plans, Polls, Unknown, bytes_to_come, argument, answered, trap_of, environment_call, runs_from}
use Rattle.mv_machine.specs.Snapshots.{Departs}
use Rattle.mv_machine.proofs.Leaving.{Leaves, planned_leaves, polled_leaves}
use Rattle.mv_machine.proofs.Turns.{IsOver, runs_append}

-- ---- over so many instructions

departed_none : (s : State) (picks : List ℕ) → departed s picks 0 ≡ None
unfolding departed
departed_none s picks = refl

departed_more : (s : State) (picks : List ℕ) (n : ℕ) (was is : State) → runs_from s picks n ≡ was → runs_from s picks (n + 1) ≡ is →
    departed s picks (n + 1) ≡ departed_by (floor was.image) is.stop was.pc is.pc (departed s picks n)
unfolding departed
departed_more s picks n was is before behind =
    ap (λ (k : ℕ). departed s picks k) (add-one n)
    ∙ ap₂ (λ (a b : State). departed_by (floor a.image) b.stop a.pc b.pc (departed s picks n)) before (ap (λ (k : ℕ). runs_from s picks k) (sym (add-one n)) ∙ behind)

departed_append : (s : State) (picks more : List ℕ) (n : ℕ) → n ≤ length picks → departed s (picks ++ more) n ≡ departed s picks n
unfolding departed
departed_append s picks more zero le = refl
departed_append s picks more (suc n) le =
    ap₂ (λ (a b : State). departed_by (floor a.image) b.stop a.pc b.pc (departed s (picks ++ more) n)) (runs_append s picks more n (omega (arith, le))) (runs_append s picks more (suc n) le)
    ∙ ap (λ (before : Option ℕ). departed_by (floor (runs_from s picks n).image) (runs_from s picks (suc n)).stop (runs_from s picks n).pc (runs_from s picks (suc n)).pc before)
    (departed_append s picks more n (omega (arith, le)))

-- ---- the place

pub departs_none : (wanted : Bool) (s : State) (picks : List ℕ) → Departs wanted None s picks 0
departs_none true s picks = sym (departed_none s picks)
departs_none false s picks = refl

pub departs_append : (wanted : Bool) (place : Option ℕ) (s : State) (picks more : List ℕ) (n : ℕ) → n ≤ length picks → Departs wanted place s picks n → Departs wanted place s (picks ++ more) n
departs_append true place s picks more n le departs = departs ∙ sym (departed_append s picks more n le)
departs_append false place s picks more n le departs = departs

-- what becomes of the place behind an instruction
abbrev pub Notes : (wanted : Bool) → (place place' : Option ℕ) → Seen → Seen → Stop → Type 0
Notes wanted place place' y z stop = place' ≡ (if wanted then departed_by (floor y.image) stop y.pc z.pc place else place)

pub departs_more : (wanted : Bool) (place place' : Option ℕ) (s : State) (picks : List ℕ) (n : ℕ) (was is : State) → runs_from s picks n ≡ was → runs_from s picks (n + 1) ≡ is →
    place' ≡ (if wanted then departed_by (floor was.image) is.stop was.pc is.pc place else place) → Departs wanted place s picks n → Departs wanted place' s picks (n + 1)
departs_more true place place' s picks n was is before behind noted departs =
    noted ∙ ap (λ (p : Option ℕ). departed_by (floor was.image) is.stop was.pc is.pc p) departs ∙ sym (departed_more s picks n was is before behind)
departs_more false place place' s picks n was is before behind noted departs = noted ∙ departs

-- ---- an instruction that ends the run

over_stays : (floor : ℕ) (stop : Stop) (from to : ℕ) (place : Option ℕ) → IsOver stop → departed_by floor stop from to place ≡ place
over_stays floor Going from to place over = absurd over
over_stays floor (Exit status) from to place over = refl
over_stays floor (Trap code) from to place over = refl
over_stays floor (Fault why) from to place over = refl

pub over_notes : (wanted : Bool) (place : Option ℕ) (y z : Seen) (stop : Stop) → IsOver stop → Notes wanted place place y z stop
over_notes true place y z stop over = sym (over_stays (floor y.image) stop y.pc z.pc place over)
over_notes false place y z stop over = refl

-- ---- a call of the environment

not_going : (stop : Stop) (A : Type 0) → IsOver stop → stop ≡ Going → A
not_going stop A over going = absurd (subst (λ (t : Stop). IsOver t) going over)

trap_over : (a b : Bool) (code : ℕ) → IsOver (cond a (Fault cause.Call) (cond b (Trap code) (Fault cause.Call)))
trap_over true b code = tt
trap_over false true code = tt
trap_over false false code = tt

trap_ends : (code : ℕ) → IsOver (trap_of code)
unfolding trap_of
trap_ends code = trap_over _ _ code

abbrev GoesBehind : State → State → Type 0
GoesBehind s t = t.stop ≡ Going → t.pc ≡ add s.pc 4

plan_goes_behind : (s : State) → Leaves (λ (t : State). GoesBehind s t) s
unfolding answered
plan_goes_behind s = record {
  refuses = λ actions answer going. refl;
  carries = λ room actions plan answer going. refl;
  adopts = λ actions bs going. refl;
  faults = λ going. not_going (Fault cause.Call) _ tt going;
}

call_goes_behind : (request : Request) (s : State) → GoesBehind s (environment_call request s)
unfolding answered
call_goes_behind Exits s going = not_going (Exit _) _ tt going
call_goes_behind Reads s going = refl
call_goes_behind Writes s going = refl
call_goes_behind Traps s going = not_going (trap_of (argument s)) _ (trap_ends (argument s)) going
call_goes_behind Plans s going = planned_leaves (λ (t : State). GoesBehind s t) s (argument s) (reg s.regs 11) (plan_goes_behind s) going
call_goes_behind Polls s going = polled_leaves (λ (t : State). GoesBehind s t) s (plan_goes_behind s) going
call_goes_behind Unknown s going = not_going (Fault cause.Call) _ tt going

moves_behind : (request : Request) (x z : Seen) (Told : List Event → Type 0) → Moves (environment_call request) x z Going Told → z.pc ≡ add x.pc 4
moves_behind request x z Told m =
    let later = some_later z.left in
    let s : State = shown x Going (bytes_to_come (m.4.0 ++ later.0)) [] [] in
    let at = (m.4.2 later.0 later.1 [] []).1 in
    sym (ap (λ (t : State). t.pc) at) ∙ call_goes_behind request s (ap (λ (t : State). t.stop) at)

never : (b : Bool) (x y : Option ℕ) → (if b && not true then x else y) ≡ y
never true x y = refl
never false x y = refl

behind_stays : (floor pc : ℕ) (place : Option ℕ) → departed_by floor Going pc (add pc 4) place ≡ place
behind_stays floor pc place = ap (λ (same : Bool). if nat_le floor pc && not same then Some pc else place) (eq-eqb (add pc 4) (add pc 4) refl) ∙ never (nat_le floor pc) (Some pc) place

behind_notes : (wanted : Bool) (place : Option ℕ) (y z : Seen) → z.pc ≡ add y.pc 4 → Notes wanted place place y z Going
behind_notes true place y z behind = sym (ap (λ (to : ℕ). departed_by (floor y.image) Going y.pc to place) behind ∙ behind_stays (floor y.image) y.pc place)
behind_notes false place y z behind = refl

pub call_notes : (wanted : Bool) (place : Option ℕ) (request : Request) (y x z : Seen) (Told : List Event → Type 0) → x.pc ≡ y.pc → Moves (environment_call request) x z Going Told →
    Notes wanted place place y z Going
call_notes wanted place request y x z Told same m = behind_notes wanted place y z (moves_behind request x z Told m ∙ ap (λ (pc : ℕ). add pc 4) same)
