-- Which run of an image was made, and what it left in its environment, in the machine and with the probes.
use Rattle.std.specs.Prelude.{ℕ, ◌≡◌, ◌+◌, ◌-◌, ◌<◌, List, ◌++◌, length, option_map, slice_index}
use Rattle.mv_isa.specs.declared.instr.Cause.{Cause}
use Rattle.mv_bindings.specs.declared.binding.Event.{Event}
use Rattle.mv_image.specs.Spelling.{Fields}
use Rattle.mv_machine.specs.Acts.{PollActs}
use Rattle.mv_machine.specs.declared.machine.Stopped.{Stopped}
use Rattle.mv_machine.specs.declared.machine.Stopped.TheVariants.{Ended, Trapped, Steps, InputFault, OutputFault, Fault, Memory}
use Rattle.mv_machine.specs.Runs.{State, Stop, Going, Exit, Trap, Reads, Writes, bytes_to_come, choices_at, first, runs, executed}
use Rattle.mv_machine.specs.Runs as run
use Rattle.mv_machine.specs.Snapshots.{Snapshot, kept, Under, CallsFor, WantsMemory}
use Rattle.mv_probe.specs.Ways.{way_after}
use Rattle.mv_refine.specs.Environment.{Environment, Wrote, ReadFailed, WriteFailed}

-- `Heard events`: the probes were told these events. The bytes that were taken of the input stand before those that may come behind them.
module _ (image : Fields) (polls : PollActs) (before after : Environment) (Heard : List Event → Type 0) (machine : Snapshot) (picks taken later : List ℕ) where
  -- the run of the image with these picks on both
  abbrev pub begun : State
  begun = first image (bytes_to_come (taken ++ later)) polls

  abbrev pub state : (n : ℕ) → State
  state n = runs image (bytes_to_come (taken ++ later)) polls picks n

  -- So many instructions of it are what was done: the picks are those of the oracle's way, which went on by as many; the output grew by exactly what the run
  -- wrote, it took exactly what was taken, the probes were told exactly its log, and the machine is as the run left it.
  pub record IsDone (n : ℕ) : Type 0 where
    pub picked : Under before.way begun picks
    pub way : after.way ≡ option_map (λ w. way_after w (length picks)) before.way
    pub output : Wrote before after (state n).output
    pub left : (state n).input ≡ bytes_to_come later
    pub heard : Heard (state n).log
    pub machine_is : machine ≡ kept (state n) machine.last

  -- It stands so after that number of instructions, or after the one that ended it.
  pub record StandsAfter (stop : Stop) (n : ℕ) : Type 0 where
    pub done : IsDone n
    pub stops : (state n).stop ≡ stop

  -- And there was one pick for each instruction that was executed.
  pub record RanTo (stop : Stop) (n : ℕ) : Type 0 where
    pub stands : StandsAfter stop n
    pub each : executed begun picks n ≡ length picks

  -- It stands at a fault at this pc, with one pick for each instruction that was executed, but for one at an address where no word can be fetched.
  pub record FaultedAt (pc : ℕ) (why : Cause) (n : ℕ) : Type 0 where
    pub stands : StandsAfter (run.Fault why) n
    pub place : machine.pc ≡ pc
    pub each : executed begun picks n ≡ length picks + (1 - choices_at (state n))

  -- It stands before an instruction that was not carried out, after fewer than that number. There was one pick for each, and one for it.
  pub record StandsBefore (Next : State → (pick : ℕ) → Type 0) (n : ℕ) : Type 0 where
    pub count : ℕ
    pub fewer : count < n
    pub done : IsDone count
    pub each : count + 1 ≡ length picks
    pub going : (state count).stop ≡ Going
    pub next : Next (state count) (slice_index picks count)

  -- An answer tells how the run stands after at most so many instructions: the answer is its stop, `Steps` where it goes on; or its next
  -- instruction is a getchar and a read failed, a putchar and a write failed, or a store into text for which there is no memory.
  abbrev pub Runs : (steps : ℕ) → Stopped → Type 0
  Runs steps (Ended status) = RanTo (Exit status) steps
  Runs steps (Trapped code) = RanTo (Trap code) steps
  Runs steps Steps = RanTo Going steps
  Runs steps (Fault pc why) = FaultedAt pc why steps
  Runs steps InputFault = StandsBefore (λ s pick. CallsFor s pick Reads) steps × ReadFailed before after
  Runs steps OutputFault = StandsBefore (λ s pick. CallsFor s pick Writes) steps × WriteFailed before after
  Runs steps Memory = StandsBefore WantsMemory steps
