-- What the machine does at environment calls from a calm time.
use Rattle.std.specs.Prelude.{ℕ, ◌≡◌, ◌+◌, ◌%◌, ◌^◌, ◌<◌, ◌≤◌, Bool, true, List, Option}
use Rattle.mv_machine.specs.Acts.{PollActs}
use Rattle.mv_num.specs.Words.{add}
use Rattle.mv_isa.specs.Execution.{Calls, reg, put, step}
use Rattle.mv_isa.specs.Requests as requests
use Rattle.mv_isa.specs.Registers.{a0, a7}
use Rattle.mv_image.specs.Spelling.{Fields}
use Rattle.mv_ir.specs.World.{World, Answer}
use Rattle.mv_ir.specs.KnownFunctions.{next_byte, written}
use Rattle.mv_machine.specs.Runs.{Stop, Exit, Trap}
use Rattle.mv_select_code.specs.Control.Runs.{Spot}
use Rattle.mv_refine_machine.specs.Calm.{Rest, IsCalm}
use Rattle.mv_refine_machine.specs.MachineRuns.{access, is_sound, run_of, unpatched_word}

-- The next instruction stands behind the call, with the answer in a0. Memory is as it was, and all else is as the world that the answer leaves.
pub record IsAnswered (image : Fields) (answer : Answer) (now next : Spot Rest) : Type 0 where
  pub regs : next.regs ≡ put now.regs a0 answer.value
  pub pc : next.pc ≡ add now.pc 4
  pub room : next.memory.room ≡ now.memory.room
  pub calm : IsCalm image answer.world next.memory

-- nothing changes but how the run stands
abbrev pub stopped_at : Spot Rest → Stop → Spot Rest
stopped_at now stop = record now { memory = record now.memory { stop = stop } }

module _ (image : Fields) (input : List (Option ℕ)) (polls : PollActs) (picks : List ℕ) where
  abbrev pub run : ℕ → Spot Rest
  run = run_of image input polls picks

  -- a calm time of the run stands at an environment call that is never patched, with its number in a7
  pub record AtCall (number i : ℕ) (w : World) : Type 0 where
    pub calm : IsCalm image w (run i).memory
    pub calls : step access (unpatched_word image (run i).pc) (run i).regs (run i).pc (run i).memory ≡ Calls
    pub asks : reg (run i).regs a7 ≡ number

  abbrev pub argument : ℕ → ℕ
  argument i = reg (run i).regs a0

  -- A read and a write do what `getchar` and `putchar` do. An exit and a trap end the run.
  pub record CallsAreAnswered (closed : (pc address : ℕ) → Bool) : Type 0 where
    pub sound : (number i : ℕ) (w : World) → AtCall number i w → is_sound closed (run i) ≡ true
    pub exits : (i j : ℕ) (w : World) → AtCall requests.exit i w → i < j → run j ≡ stopped_at (run i) (Exit (argument i % 2 ^ 8))
    pub reads : (i : ℕ) (w : World) → AtCall requests.read i w → IsAnswered image (next_byte w.input w) (run i) (run (i + 1))
    pub writes : (i : ℕ) (w : World) → AtCall requests.write i w → IsAnswered image (written (argument i) w) (run i) (run (i + 1))
    pub traps : (i j : ℕ) (w : World) → AtCall requests.trap i w → 1 ≤ argument i → argument i ≤ 4 → i < j → run j ≡ stopped_at (run i) (Trap (argument i))
