-- How runs start and end, with each place sound.
use Rattle.std.specs.Prelude.{ℕ, ◌≡◌, ◌+◌, ◌%◌, ◌^◌, ◌<◌, ◌≤◌, Bool, List, Option}
use Rattle.mv_bindings.specs.Traps.{depth_limit}
use Rattle.mv_isa.specs.Execution.{reg}
use Rattle.mv_isa.specs.Registers.{ra, sp, a0, s10, s11}
use Rattle.mv_image.specs.Spelling.{Fields}
use Rattle.mv_image.specs.Faults.{Rules}
use Rattle.mv_ir.specs.World.{World}
use Rattle.mv_machine.specs.Acts.{PollActs}
use Rattle.mv_machine.specs.Runs.{State, Stop, Exit, Trap, bytes_to_come, first as first_state}
use Rattle.mv_select_code.specs.Statements.StatementCode.{trap_label}
use Rattle.mv_select_code.specs.Control.Placed.{Placed}
use Rattle.mv_select_code.specs.Control.Runs.{Machine}
use Rattle.mv_select.specs.Calls.Convention.{Layout, Stands}
use Rattle.mv_refine_machine.specs.Laws.{IsFirst}
use Rattle.mv_refine_machine.specs.MachineRuns.{rest_of, machine_text}
use Rattle.mv_refine_machine.specs.Stubs.Ends.{HasStopped}
use Rattle.mv_refine_machine.specs.Stubs.Laws.{HoldsData}
use Rattle.mv_refine_machine.specs.Stubs.Stubs.{stack_end, start_address, return_address, start_steps, start_lines, trap_lines}
use Rattle.mv_refine_machine.specs.Commits.Watched.{Watched, access, watched_machine}
use Rattle.mv_refine_machine.specs.Commits.Served.{at, SoundAt, QuietAt}

-- A time stands at a place in a world, as a call of main finds it.
pub record EntersQuietly (y : Layout) (machine : Machine Watched) (budget far place : ℕ) (w : World) (i : ℕ) : Type 0 where
  pub stands : Stands access y machine budget far place w i
  pub link : reg (machine.run i).regs ra ≡ return_address
  pub stack : reg (machine.run i).regs sp ≡ stack_end
  pub left : reg (machine.run i).regs s11 ≡ depth_limit
  pub live : reg (machine.run i).regs s10 ≡ 0

module _ (closed : (pc address : ℕ) → Bool) (image : Fields) (start : State) (picks : List ℕ) where
  abbrev pub state : ℕ → State
  state = at closed image start picks

  -- a time of the run stands at a place and is calm, and so far each place was sound
  pub record ComesQuietly (pc : ℕ) (w : World) (i : ℕ) : Type 0 where
    pub here : (state i).pc ≡ pc
    pub quiet : QuietAt closed image start picks w i
    pub sound : (t : ℕ) → t < i → SoundAt closed image start picks t

  -- up to a time, which is calm, each place is sound; and behind it the run has stopped
  pub record EndsQuietly (w : World) (last : ℕ) (stop : Stop) : Type 0 where
    pub quiet : QuietAt closed image start picks w last
    pub sound : (t : ℕ) → t ≤ last → SoundAt closed image start picks t
    pub stopped : (t : ℕ) → last < t → HasStopped w stop (rest_of (state t))

-- Where the start stub stands at an image's entry, the run is at main after seven instructions.
abbrev pub WatchedStartIsRight : Type 0
WatchedStartIsRight =
    (attributed : List ℕ) (closed : (pc address : ℕ) → Bool) (image : Fields) → Rules image → (bytes : List ℕ) (polls : PollActs) (picks : List ℕ) (y : Layout) (budget far : ℕ) (w : World) →
    IsFirst image bytes w → w.hart ≡ polls.hart → w.actions ≡ polls.acts → HoldsData y image w → image.entry ≡ start_address →
    (place entry : ℕ → ℕ) (main_label end : ℕ) → Placed (machine_text attributed image) place entry (start_lines main_label) start_address end →
    EntersQuietly y (watched_machine attributed closed image (bytes_to_come bytes) polls picks) budget far (place main_label) w start_steps

-- Behind it, where main returns to, two instructions end the run with what main returned, modulo 256.
abbrev pub WatchedExitIsRight : Type 0
WatchedExitIsRight =
    (attributed : List ℕ) (closed : (pc address : ℕ) → Bool) (image : Fields) → Rules image → (input : List (Option ℕ)) (polls : PollActs) (picks : List ℕ) →
    (place entry : ℕ → ℕ) (main_label end : ℕ) → Placed (machine_text attributed image) place entry (start_lines main_label) start_address end →
    (i : ℕ) (w : World) → let start = first_state image input polls in ComesQuietly closed image start picks return_address w i →
    EndsQuietly closed image start picks w (i + 1) (Exit (reg (state closed image start picks i).regs a0 % 2 ^ 8))

-- Where the stub of a trap stands, three instructions end the run with its code.
abbrev pub WatchedTrapIsRight : Type 0
WatchedTrapIsRight =
    (attributed : List ℕ) (closed : (pc address : ℕ) → Bool) (image : Fields) → Rules image → (input : List (Option ℕ)) (polls : PollActs) (picks : List ℕ) (code : ℕ) → 1 ≤ code → code ≤ 4 →
    (place entry : ℕ → ℕ) (stub end : ℕ) → Placed (machine_text attributed image) place entry (trap_lines code) stub end →
    (i : ℕ) (w : World) → let start = first_state image input polls in ComesQuietly closed image start picks (place (trap_label code)) w i →
    EndsQuietly closed image start picks w (i + 2) (Trap code)
