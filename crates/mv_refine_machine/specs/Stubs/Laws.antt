-- What is proved of stubs that stand in the text of an image.
use Rattle.std.specs.Prelude.{ℕ, ◌≡◌, ◌+◌, ◌*◌, ◌%◌, ◌^◌, ◌<◌, ◌≤◌, Bool, List, length, map, sum, take, slice_index_or, [], Option}
use Rattle.std.specs.List.{All, flat_map}
use Rattle.mv_num.specs.Regions.{data_start, data_limit}
use Rattle.mv_machine.specs.Acts.{PollActs}
use Rattle.mv_bindings.specs.Traps.{depth_limit}
use Rattle.mv_isa.specs.Execution.{reg}
use Rattle.mv_isa.specs.Registers.{ra, sp, a0, s10, s11}
use Rattle.mv_image.specs.Spelling.{Fields}
use Rattle.mv_ir.specs.World.{World}
use Rattle.mv_machine.specs.Runs.{Exit, Trap, bytes_to_come}
use Rattle.mv_select_code.specs.Statements.StatementCode.{trap_label}
use Rattle.mv_select_code.specs.Control.Placed.{Text, Placed}
use Rattle.mv_select_code.specs.Control.Runs.{Machine}
use Rattle.mv_select.specs.Calls.Convention.{Layout, Stands}
use Rattle.mv_linker.specs.Linked.{check_lines}
use Rattle.mv_refine_machine.specs.Calm.{Rest}
use Rattle.mv_refine_machine.specs.Laws.{IsFirst}
use Rattle.mv_refine_machine.specs.MachineRuns.{access, machine_of, machine_text, run_of}
use Rattle.mv_refine_machine.specs.Stubs.Stubs.{stack_end, start_address, return_address, start_steps, start_lines, trap_lines, HasCheck}
use Rattle.mv_refine_machine.specs.Stubs.Ends.{ComesTo, EndsAfter}

-- The data of an image are the globals of a world, one behind the other from the start of the data on. They are words, and there is room for them.
pub record HoldsData (y : Layout) (image : Fields) (w : World) : Type 0 where
  pub are : image.globals ≡ flat_map (λ words. words) w.globals
  pub sizes : (g : ℕ) → y.size g ≡ length (slice_index_or w.globals g [])
  pub places : (g : ℕ) → g < length w.globals → y.place g ≡ data_start + 4 * sum (take g (map length w.globals))
  pub words : All (λ word. word < 2 ^ 32) image.globals
  pub room : 4 * length image.globals ≤ 4 * data_limit

-- A time stands at a place in a world, as a call of main finds it: it returns into the stub, the stack is empty, all calls are left and no attributed
-- frame is live.
pub record EntersMain (y : Layout) (machine : Machine Rest) (budget far place : ℕ) (w : World) (i : ℕ) : Type 0 where
  pub stands : Stands access y machine budget far place w i
  pub link : reg (machine.run i).regs ra ≡ return_address
  pub stack : reg (machine.run i).regs sp ≡ stack_end
  pub left : reg (machine.run i).regs s11 ≡ depth_limit
  pub live : reg (machine.run i).regs s10 ≡ 0

-- Where the start stub stands at an image's entry, the run is at main after seven instructions.
abbrev pub StartIsRight : Type 0
StartIsRight =
    (attributed : List ℕ) (closed : (pc address : ℕ) → Bool) (image : Fields) (bytes : List ℕ) (polls : PollActs) (picks : List ℕ) (y : Layout) (budget far : ℕ) (w : World) →
    IsFirst image bytes w → HoldsData y image w → image.entry ≡ start_address →
    (place entry : ℕ → ℕ) (main_label end : ℕ) → Placed (machine_text attributed image) place entry (start_lines main_label) start_address end →
    EntersMain y (machine_of attributed closed image (bytes_to_come bytes) polls picks) budget far (place main_label) w start_steps

-- Behind it, where main returns to, two instructions end the run with what main returned, modulo 256.
abbrev pub ExitIsRight : Type 0
ExitIsRight =
    (attributed : List ℕ) (closed : (pc address : ℕ) → Bool) (image : Fields) (input : List (Option ℕ)) (polls : PollActs) (picks : List ℕ) →
    (place entry : ℕ → ℕ) (main_label end : ℕ) → Placed (machine_text attributed image) place entry (start_lines main_label) start_address end →
    (i : ℕ) (w : World) → ComesTo closed image input polls picks return_address w i →
    EndsAfter closed image input polls picks w (i + 1) (Exit (reg (run_of image input polls picks i).regs a0 % 2 ^ 8))

-- Where the stub of a trap stands, three instructions end the run with its code.
abbrev pub TrapIsRight : Type 0
TrapIsRight =
    (attributed : List ℕ) (closed : (pc address : ℕ) → Bool) (image : Fields) (input : List (Option ℕ)) (polls : PollActs) (picks : List ℕ) (code : ℕ) → 1 ≤ code → code ≤ 4 →
    (place entry : ℕ → ℕ) (at end : ℕ) → Placed (machine_text attributed image) place entry (trap_lines code) at end →
    (i : ℕ) (w : World) → ComesTo closed image input polls picks (place (trap_label code)) w i →
    EndsAfter closed image input polls picks w (i + 2) (Trap code)

-- Where the lines of the stub of calls through pointer switches are placed, it stands.
abbrev pub ChecksStand : Type 0
ChecksStand = (text : Text) (place entry : ℕ → ℕ) (check end : ℕ) → Placed text place entry check_lines check end → HasCheck text place check
