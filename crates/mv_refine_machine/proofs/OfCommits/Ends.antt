-- A run starts, exits and traps from sound places.
use Rattle.std.proofs.Common.{◌≡◌, ℕ, ◌+◌, ◌%◌, ◌^◌, ◌≤◌, Bool, true, List, pos, Option, refl, sym, ap, ◌∙◌, subst, arith}
use Rattle.std.proofs.lemmas.Bool.{and_parts}
use Rattle.mv_isa.specs.declared.instr.Instr.TheVariants.{Addi, Ecall}
use Rattle.mv_isa.specs.declared.labelled.Line.TheVariants.{Word}
use Rattle.mv_isa.specs.Execution.{reg, put}
use Rattle.mv_isa.specs.Standing.{InstrStands}
use Rattle.mv_isa.specs.Registers.{a0, a7 as request_register}
use Rattle.mv_image.specs.Spelling.{Fields}
use Rattle.mv_image.specs.Faults.{Rules}
use Rattle.mv_ir.specs.World.{World}
use Rattle.mv_machine.specs.Acts.{PollActs}
use Rattle.mv_machine.specs.Runs.{State, Exit, Trap, bytes_to_come, first as first_state}
use Rattle.mv_machine.proofs.Turns.{runs_none}
use Rattle.mv_select_code.specs.Statements.StatementCode.{trap_label}
use Rattle.mv_select_code.specs.Control.Placed.{Placed}
use Rattle.mv_select_code.specs.Control.Runs.{Spot, Machine, outside, IsRun}
use Rattle.mv_select_code.proofs.OfControl.Walk.{before_next}
use Rattle.mv_select.specs.Calls.Convention.{Layout, HoldsGlobals}
use Rattle.mv_refine_machine.specs.MachineRuns.{spot_of, machine_text, machine_of, unpatched_word}
use Rattle.mv_refine_machine.specs.MachineRuns as runs
use Rattle.mv_refine_machine.specs.Laws.{IsFirst}
use Rattle.mv_refine_machine.specs.Stubs.Ends.{ComesTo}
use Rattle.mv_refine_machine.specs.Stubs.Laws.{HoldsData, StartIsRight, ExitIsRight, TrapIsRight}
use Rattle.mv_refine_machine.specs.Stubs.Stubs.{start_address, return_address, start_steps, start_lines, trap_lines}
use Rattle.mv_refine_machine.proofs.OfStubs.Walked.{no_frame, none_inside, At, One, sets, number_sets, main_regs, exit_stands}
use Rattle.mv_refine_machine.proofs.OfStubs.Walked as walked
use Rattle.mv_refine_machine.proofs.OfStubs.Starting.{first_entry}
use Rattle.mv_refine_machine.specs.Commits.Watch.{texts_of, keeps_text, is_sound}
use Rattle.mv_refine_machine.specs.Commits.Watched.{Watched, access, IsQuiet, is_quiet, watched_machine}
use Rattle.mv_refine_machine.specs.Commits.Served.{at, SoundAt}
use Rattle.mv_refine_machine.specs.Commits.Ends.{EntersQuietly, ComesQuietly, EndsQuietly, WatchedStartIsRight, WatchedExitIsRight, WatchedTrapIsRight}
use Rattle.mv_refine_machine.specs.Commits.Known.{Known}
use Rattle.mv_refine_machine.proofs.OfCommits.Hosted.{watched_begins}
use Rattle.mv_refine_machine.proofs.OfCommits.Orders.{quiet_inside, quiet_outside}
use Rattle.mv_refine_machine.proofs.OfCommits.Quiet.{quiet_told, quiet_tested}
use Rattle.mv_refine_machine.proofs.OfCommits.Served.{Calmly, calm_sound}
use Rattle.mv_refine_machine.proofs.OfCommits.Watched.{watched_runs}
use Rattle.mv_refine_machine.proofs.OfCommits.WatchedRun.{watched_run}

-- ---- lines that a run walks

module _ (known : Known) (attributed : List ℕ) (closed : (pc address : ℕ) → Bool) (image : Fields) (rules : Rules image) (input : List (Option ℕ)) (polls : PollActs) (picks : List ℕ)
    (place entry : ℕ → ℕ) where
  open watched_run attributed closed image input polls picks use {machine, start, run}

  ok : IsRun access (no_frame entry) machine
  ok = watched_runs known attributed closed image rules input polls picks (no_frame entry) (none_inside entry) (λ pc a may. absurd cc)

  comes : (pc i : ℕ) (w : World) → ComesQuietly closed image start picks pc w i → At access machine place entry ok w pc (run i).regs (run i).memory i
  comes pc i w h = record {
    is = ap (λ (a : ℕ). record (run i) { pc = a }) h.here;
    calm = quiet_tested known image (outside w) (run i).memory (quiet_outside image w (run i).memory h.quiet);
    sound = h.sound;
  }

  quiet_there : (w : World) (pc t : ℕ) (regs : List ℕ) (m : Watched) → At access machine place entry ok w pc regs m t → IsQuiet image w (run t).memory
  quiet_there w pc t regs m a =
      quiet_inside image w (run t).memory (quiet_told known image (outside w) (run t).memory (subst (λ (x : Spot Watched). is_quiet image (outside w) x.memory ≡ true) (sym a.is) a.calm))

  -- ---- ends

  -- a time at an environment call is sound
  call_sound : (w : World) (pc end t : ℕ) (regs : List ℕ) (m : Watched) → One access machine place entry ok pc end (Word Ecall) → At access machine place entry ok w pc regs m t → SoundAt closed image start picks t
  call_sound w pc end t regs m p a =
      let here : (run t).pc ≡ pc = ap (λ (x : Spot Watched). x.pc) a.is in
      let calmly : Calmly known closed image rules start picks w Ecall t = record {
        quiet = quiet_there w pc t regs m a;
        stands = subst (λ b. InstrStands (unpatched_word image) b Ecall) (sym here) p.stands.0;
        sound = a.sound;
      } in
      calm_sound known closed image rules start picks w Ecall t calmly refl refl

  -- a sound place is one of the machine without a commit under way
  plainly : (t : ℕ) → SoundAt closed image start picks t → runs.is_sound closed (spot_of (at closed image start picks t)) ≡ true
  unfolding is_sound
  plainly t h =
      let s = at closed image start picks t in
      (and_parts (runs.is_sound closed (spot_of s)) (keeps_text (texts_of image) (run t).memory.under (spot_of s)) h).0

  plain_comes : (pc i : ℕ) (w : World) → ComesQuietly closed image start picks pc w i → ComesTo closed image input polls picks pc w i
  plain_comes pc i w h = record { at = h.here; calm = h.quiet.calm; sound = λ t lt. plainly t (h.sound t lt) }

  pub exits : ExitIsRight → (main_label end : ℕ) → Placed (machine_text attributed image) place entry (start_lines main_label) start_address end → (i : ℕ) (w : World)
      → ComesQuietly closed image start picks return_address w i → EndsQuietly closed image start picks w (i + 1) (Exit (reg (at closed image start picks i).regs a0 % 2 ^ 8))
  exits exit main_label end p i w h =
      let q = exit_stands (machine_text attributed image) place entry main_label end p in
      let a = comes return_address i w h in
      let regs = put (run i).regs request_register 0 in
      let b = sets access machine place entry ok (Addi request_register 0 (pos 0)) w return_address q.0 i (run i).regs regs (run i).memory
      (number_sets access entry request_register 0 (run i).regs (run i).memory (omega arith)) q.1 a in
      record {
        quiet = quiet_there w q.0 (i + 1) regs (run i).memory b;
        sound = λ t le. before_next (SoundAt closed image start picks) (i + 1) b.sound (call_sound w q.0 q.2.0 (i + 1) regs (run i).memory q.2.1 b) t (omega (arith, le));
        stopped = (exit attributed closed image input polls picks place entry main_label end p i w (plain_comes return_address i w h)).stopped;
      }

  pub traps : TrapIsRight → (code : ℕ) → 1 ≤ code → code ≤ 4 → (stub end : ℕ) → Placed (machine_text attributed image) place entry (trap_lines code) stub end → (i : ℕ) (w : World)
      → ComesQuietly closed image start picks (place (trap_label code)) w i → EndsQuietly closed image start picks w (i + 2) (Trap code)
  traps trap code ge le stub end p i w h =
      let q = p.2.2 in
      let m = (run i).memory in
      let a = comes p.0 i w (record { here = h.here ∙ p.1.label ∙ sym p.1.stands; quiet = h.quiet; sound = h.sound }) in
      let regs1 = put (run i).regs a0 code in
      let b = sets access machine place entry ok (Addi a0 0 (pos code)) w p.0 p.2.0 i (run i).regs regs1 m (number_sets access entry a0 code (run i).regs m (omega (arith, le))) p.2.1 a in
      let regs2 = put regs1 request_register 3 in
      let c = sets access machine place entry ok (Addi request_register 0 (pos 3)) w p.2.0 q.0 (i + 1) regs1 regs2 m (number_sets access entry request_register 3 regs1 m (omega arith)) q.1 b in
      let two : i + 1 + 1 ≡ i + 2 = omega arith in
      let d : At access machine place entry ok w q.0 regs2 m (i + 2) = subst (At access machine place entry ok w q.0 regs2 m) two c in
      record {
        quiet = quiet_there w q.0 (i + 2) regs2 m d;
        sound = λ t lt. before_next (SoundAt closed image start picks) (i + 2) d.sound (call_sound w q.0 q.2.0 (i + 2) regs2 m q.2.1 d) t (omega (arith, lt));
        stopped = (trap attributed closed image input polls picks code ge le place entry stub end p i w (plain_comes (place (trap_label code)) i w h)).stopped;
      }

pub exit_is_right : Known → ExitIsRight → WatchedExitIsRight
exit_is_right known exit attributed closed image rules input polls picks place entry main_label end p i w h =
    exits known attributed closed image rules input polls picks place entry exit main_label end p i w h

pub trap_is_right : Known → TrapIsRight → WatchedTrapIsRight
trap_is_right known trap attributed closed image rules input polls picks code ge le place entry stub end p i w h =
    traps known attributed closed image rules input polls picks place entry trap code ge le stub end p i w h

-- ---- the start

module _ (known : Known) (plain : StartIsRight) (attributed : List ℕ) (closed : (pc address : ℕ) → Bool) (image : Fields) (rules : Rules image) (bytes : List ℕ) (polls : PollActs) (picks : List ℕ)
    (y : Layout) (budget far : ℕ) (w : World) (begins : IsFirst image bytes w) (hart : w.hart ≡ polls.hart) (acts : w.actions ≡ polls.acts) (held : HoldsData y image w) (entry_is : image.entry ≡ start_address)
    (place entry : ℕ → ℕ) (main_label end : ℕ) (p : Placed (machine_text attributed image) place entry (start_lines main_label) start_address end) where
  abbrev host : Machine Watched
  host = watched_machine attributed closed image (bytes_to_come bytes) polls picks

  abbrev is_run : IsRun access (no_frame entry) host
  is_run = ok known attributed closed image rules (bytes_to_come bytes) polls picks place entry

  open host.run 0 use {memory as m, regs as regs0}

  at0 : At access host place entry is_run w start_address regs0 m 0
  at0 = record {
    is = ap (λ (a : ℕ). record (host.run 0) { pc = a }) (ap (λ (s : State). s.pc) (runs_none (first_state image (bytes_to_come bytes) polls) picks) ∙ first_entry image bytes polls ∙ entry_is);
    calm = watched_begins known image bytes polls picks w begins hart acts;
    sound = λ t lt. absurd (omega (arith, lt));
  }

  abbrev at_main : At access host place entry is_run w (place main_label) (main_regs access host place entry is_run w main_label end p at0) m start_steps
  at_main = walked.at_main access host place entry is_run w main_label end p at0

  globals_beside : (n : ℕ) → HoldsGlobals runs.access y (machine_of attributed closed image (bytes_to_come bytes) polls picks) budget far w (host.run n).memory.rest
      → HoldsGlobals access y host budget far w (host.run n).memory
  unfolding access runs.access
  globals_beside n h = record { sizes = h.sizes; words = h.words; loads = h.loads }

  pub enters : EntersQuietly y host budget far (place main_label) w start_steps
  enters =
      let x = plain attributed closed image bytes polls picks y budget far w begins held entry_is place entry main_label end p in record {
        stands = record {
          at = x.stands.at;
          calm = subst (λ (z : Spot Watched). is_quiet image (outside w) z.memory ≡ true) (sym at_main.is) at_main.calm;
          sound = at_main.sound;
          globals = globals_beside start_steps x.stands.globals;
          are = x.stands.are;
        };
        link = x.link;
        stack = x.stack;
        left = x.left;
        live = x.live;
      }

pub start_is_right : Known → StartIsRight → WatchedStartIsRight
start_is_right known plain attributed closed image rules bytes polls picks y budget far w begins hart acts held entry_is place entry main_label end p =
    enters known plain attributed closed image rules bytes polls picks y budget far w begins hart acts held entry_is place entry main_label end p
