-- A run that begins at the start stub comes to main.
use Rattle.std.proofs.Common.{◌≡◌, ℕ, Bool, true, false, cond, eqb, List, replicate, refl, sym, ap, ◌∙◌, subst, arith}
use Rattle.mv_machine.specs.Acts.{PollActs}
use Rattle.mv_bindings.specs.Traps.{depth_limit}
use Rattle.mv_isa.specs.Execution.{reg}
use Rattle.mv_isa.specs.Registers.{ra as link_register, s11 as left_register, s10 as live_register, sp as stack_register}
use Rattle.mv_fetch.specs.Held.{first as first_memory}
use Rattle.mv_image.specs.Spelling.{Fields}
use Rattle.mv_ir.specs.World.{World}
use Rattle.mv_machine.specs.Runs.{State, bytes_to_come, first, runs}
use Rattle.mv_machine.proofs.Turns.{runs_none}
use Rattle.mv_select_code.specs.Trees.View.{AreRegisters}
use Rattle.mv_select_code.specs.Control.Placed.{Placed}
use Rattle.mv_select_code.specs.Control.Runs.{Spot, Machine, outside, IsRun}
use Rattle.mv_select.specs.Calls.Convention.{Layout, HoldsGlobals, Stands}
use Rattle.mv_refine_machine.specs.Calm.{Rest, is_calm}
use Rattle.mv_refine_machine.specs.Laws.{CalmIsTested, RunsAreRuns, RunsBeginInCalm, IsFirst}
use Rattle.mv_refine_machine.specs.MachineRuns.{access, machine_of, machine_text}
use Rattle.mv_refine_machine.specs.Stubs.Stubs.{stack_end, start_address, return_address, start_steps, start_lines}
use Rattle.mv_refine_machine.specs.Stubs.Laws.{HoldsData, EntersMain}
use Rattle.mv_refine_machine.proofs.OfStubs.Data.{data_held}
use Rattle.mv_refine_machine.proofs.OfStubs.Walked as walked
use Rattle.mv_refine_machine.proofs.OfStubs.Walked.{no_frame, At, main_regs, are_main, link_there, stack_there, left_there, live_there}
use Rattle.mv_num.proofs.Numbers.{zeros_at}

-- ---- the first state

either_way : (b : Bool) (n : ℕ) → cond b n n ≡ n
either_way true n = refl
either_way false n = refl

zeros : (n q : ℕ) → reg (replicate n 0) q ≡ 0
unfolding reg
zeros n q = ap (cond (eqb q 0) 0) (zeros_at n q) ∙ either_way (eqb q 0) 0

first_zero : (image : Fields) (bytes : List ℕ) (polls : PollActs) (q : ℕ) → reg (first image (bytes_to_come bytes) polls).regs q ≡ 0
unfolding first
first_zero image bytes polls q = zeros 32 q

pub first_entry : (image : Fields) (bytes : List ℕ) (polls : PollActs) → (first image (bytes_to_come bytes) polls).pc ≡ image.entry
unfolding first
first_entry image bytes polls = refl

first_data : (image : Fields) (bytes : List ℕ) (polls : PollActs) → (first image (bytes_to_come bytes) polls).room.held.globals ≡ image.globals
unfolding first first_memory
first_data image bytes polls = refl

-- ---- the walk

module _ (tested : CalmIsTested) (are_runs : RunsAreRuns) (begin_in_calm : RunsBeginInCalm)
    (attributed : List ℕ) (closed : (pc address : ℕ) → Bool) (image : Fields) (bytes : List ℕ) (polls : PollActs) (picks : List ℕ) (y : Layout) (budget far : ℕ) (w : World)
    (begins : IsFirst image bytes w) (held : HoldsData y image w) (entry_is : image.entry ≡ start_address)
    (place entry : ℕ → ℕ) (main_label end : ℕ) (p : Placed (machine_text attributed image) place entry (start_lines main_label) start_address end) where
  abbrev machine : Machine Rest
  machine = machine_of attributed closed image (bytes_to_come bytes) polls picks

  ok : IsRun access (no_frame entry) machine
  ok = walked.ok tested are_runs attributed closed image (bytes_to_come bytes) polls picks place entry

  abbrev start : State
  start = first image (bytes_to_come bytes) polls

  none : runs image (bytes_to_come bytes) polls picks 0 ≡ start
  none = runs_none start picks

  open machine.run 0 use {memory as m, regs as regs0}

  zero0 : (q : ℕ) → reg regs0 q ≡ 0
  zero0 q = ap (λ (s : State). reg s.regs q) none ∙ first_zero image bytes polls q

  at0 : At access machine place entry ok w start_address regs0 m 0
  at0 = record {
    is = ap (λ (a : ℕ). record (machine.run 0) { pc = a }) (ap (λ (s : State). s.pc) none ∙ first_entry image bytes polls ∙ entry_is);
    calm = begin_in_calm attributed closed image bytes polls picks (no_frame entry) w begins;
    sound = λ t lt. absurd (omega (arith, lt));
  }

  abbrev at_main : At access machine place entry ok w (place main_label) (main_regs access machine place entry ok w main_label end p at0) m start_steps
  at_main = walked.at_main access machine place entry ok w main_label end p at0

  holds : (q v : ℕ) → reg (main_regs access machine place entry ok w main_label end p at0) q ≡ v → reg (machine.run start_steps).regs q ≡ v
  holds q v e = subst (λ (x : Spot Rest). reg x.regs q ≡ v) (sym at_main.is) e

  globals0 : HoldsGlobals access y machine budget far w m
  globals0 = data_held y image w held m (ap (λ (s : State). s.room.held.globals) none ∙ first_data image bytes polls) machine budget far

  stands : Stands access y machine budget far (place main_label) w start_steps
  stands = record {
    at = ap (λ (x : Spot Rest). x.pc) at_main.is;
    calm = subst (λ (x : Spot Rest). is_calm image (outside w) x.memory ≡ true) (sym at_main.is) at_main.calm;
    sound = at_main.sound;
    globals = subst (λ (x : Spot Rest). HoldsGlobals access y machine budget far w x.memory) (sym at_main.is) globals0;
    are = subst (λ (x : Spot Rest). AreRegisters x.regs) (sym at_main.is) (are_main access machine place entry ok w main_label end p at0 zero0);
  }

  pub enters : EntersMain y machine budget far (place main_label) w start_steps
  enters = record {
    stands = stands;
    link = holds link_register return_address (link_there access machine place entry ok w main_label end p at0 zero0);
    stack = holds stack_register stack_end (stack_there access machine place entry ok w main_label end p at0 zero0);
    left = holds left_register depth_limit (left_there access machine place entry ok w main_label end p at0 zero0);
    live = holds live_register 0 (live_there access machine place entry ok w main_label end p at0 zero0);
  }
