-- What is proved of narrowed machines.
use Rattle.std.specs.Prelude.{ℕ, ◌≡◌, ◌↔◌, ◌+◌, ◌<◌, ◌≤◌, Bool, true, false, List, pos, ◌-ℤ◌}
use Rattle.mv_bindings.specs.declared.binding.Binding.{Binding}
use Rattle.mv_isa.specs.declared.instr.Instr.TheVariants.{Addi, Jal}
use Rattle.mv_isa.specs.Code.{IsPlace, distance}
use Rattle.mv_isa.specs.Execution.{Access, reg}
use Rattle.mv_isa.specs.Standing.{InstrStands, SlotStands}
use Rattle.mv_isa.specs.Registers.{x0, ra, sp}
use Rattle.mv_ir.specs.World.{World}
use Rattle.mv_ir.specs.Outcome.{End, Call}
use Rattle.mv_select_code.specs.Statements.Frames.{Reach, Site}
use Rattle.mv_select_code.specs.Control.Placed.{Text}
use Rattle.mv_select_code.specs.Control.Runs.{Machine, outside, IsRun}
use Rattle.mv_select.specs.Calls.Convention.{Layout, IsTarget, Stands, Enters, FollowsCall, entry_cost, slot_cost}
use Rattle.mv_select.specs.Functions.Functions.{IsLaid, IsMemory, RunsWithin, LowersStack}
use Rattle.mv_select.specs.Slots.Narrowed.{narrowed, same_bindings, LeavesTrue}

abbrev pub BindingsAreTold : Type 0
BindingsAreTold = (xs ys : List Binding) → (same_bindings xs ys ≡ true) ↔ (xs ≡ ys)

-- code that uses no global and loads nothing
abbrev pub nothing : Reach
nothing = record { is_read = λ g. false; is_written = λ g. false; may_load = λ a. false }

-- such code runs on a machine, of frames that stand in words
abbrev pub Runs : {M : Type 0} → Access M → Layout → Machine M → Type 0
Runs access y machine = RunsWithin access y machine nothing

-- ---- between a machine and a narrowed one

-- What stands, enters and follows on the narrowed machine does so on the other; and it does so on the narrowed one where the test holds.
abbrev pub NarrowedAreAlike : Type 0 → Type 0
NarrowedAreAlike M =
    (access : Access M) (y : Layout) (machine : Machine M) (test : World → Bool) (text : Text) (budget far : ℕ) →
    ((pc : ℕ) (w : World) (i : ℕ) → test (outside w) ≡ true → Stands access y machine budget far pc w i ↔ Stands access y (narrowed machine test text) budget far pc w i)
    × ((depth frames : ℕ) (args : List ℕ) (i : ℕ) → Enters access y machine budget far depth frames args i ↔ Enters access y (narrowed machine test text) budget far depth frames args i)
    × ((spare k i back : ℕ) (e : End) → FollowsCall access y (narrowed machine test text) budget far spare k i back e → FollowsCall access y machine budget far spare k i back e)
    × ((spare k i back : ℕ) (e : End) → LeavesTrue test e → FollowsCall access y machine budget far spare k i back e → FollowsCall access y (narrowed machine test text) budget far spare k i back e)

-- A narrowed machine over the same text runs what the machine runs; what a narrowed machine runs, it runs where the machine was narrowed before; and it has
-- the same memory.
abbrev pub NarrowedRuns : Type 0 → Type 0
NarrowedRuns M =
    (access : Access M) (y : Layout) (machine : Machine M) (test : World → Bool) →
    ((s : Site) → IsRun access s machine → IsRun access s (narrowed machine test machine.text))
    × ((inner : World → Bool) (text other : Text) (s : Site) → IsRun access s (narrowed machine test text) → IsRun access s (narrowed (narrowed machine inner other) test text))
    × ((text : Text) → IsMemory access y machine → IsMemory access y (narrowed machine test text))

-- ---- words that stand in the text of the narrowed machine

-- A slot does what is called at its target, in worlds of the test, if the call leaves the test true.
abbrev pub SlotsUnder : Type 0 → Type 0
SlotsUnder M =
    (access : Access M) (y : Layout) → IsLaid y → (machine : Machine M) (test : World → Bool) (text : Text) → Runs access y (narrowed machine test text) → (budget far to at : ℕ) →
    SlotStands text.word at (at + 8) to → IsPlace at → IsPlace to → (k depth frames : ℕ) (args : List ℕ) (call : World → Call) →
    ((w : World) → test (outside w) ≡ true → LeavesTrue test (call w).end) →
    ((back j : ℕ) → IsTarget back → reg (machine.run j).regs ra ≡ back → (spare : ℕ) (w : World) → test (outside w) ≡ true →
    Stands access y machine budget far to w j → Enters access y machine budget far depth frames args j → j + (spare + entry_cost + (call w).cost) ≤ budget → far ≤ j + k →
    FollowsCall access y machine budget far spare k j back (call w).end) →
    (i spare : ℕ) (w : World) → test (outside w) ≡ true → Stands access y machine budget far at w i → Enters access y machine budget far depth frames args i →
    i + (spare + slot_cost + (call w).cost) ≤ budget → far ≤ i + k → FollowsCall access y machine budget far spare k i (at + 8) (call w).end

module _ {M : Type 0} (access : Access M) (y : Layout) (machine : Machine M) (budget far : ℕ) where
  -- One instruction goes from time i to a place, with the same registers and memory: what follows there follows at time i.
  pub record Jumps (to depth frames : ℕ) (args : List ℕ) (w : World) (i : ℕ) : Type 0 where
    pub registers : (machine.run (i + 1)).regs ≡ (machine.run i).regs
    pub stands : Stands access y machine budget far to w (i + 1)
    pub enters : Enters access y machine budget far depth frames args (i + 1)
    pub follows : (spare k back : ℕ) (e : End) → FollowsCall access y machine budget far spare k (i + 1) back e → FollowsCall access y machine budget far spare k i back e

-- A jump that saves no address goes to its target.
abbrev pub JumpsUnder : Type 0 → Type 0
JumpsUnder M =
    (access : Access M) (y : Layout) → IsLaid y → (machine : Machine M) (test : World → Bool) (text : Text) → Runs access y (narrowed machine test text) → (budget far to at : ℕ) →
    InstrStands text.word at (Jal x0 (distance at to)) → IsPlace at → IsPlace to → (depth frames : ℕ) (args : List ℕ) (w : World) (i : ℕ) → test (outside w) ≡ true →
    Stands access y machine budget far at w i → Enters access y machine budget far depth frames args i → Jumps access y machine budget far to depth frames args w i

-- The first instruction of a function moves sp down.
abbrev pub FirstsUnder : Type 0 → Type 0
FirstsUnder M =
    (access : Access M) (y : Layout) → IsLaid y → (machine : Machine M) (test : World → Bool) (text : Text) → Runs access y (narrowed machine test text) →
    (budget far bytes at : ℕ) → InstrStands text.word at (Addi sp sp (pos 0 -ℤ pos bytes)) → IsPlace at → (w : World) (i : ℕ) → 0 < bytes → bytes ≤ reg (machine.run i).regs sp →
    test (outside w) ≡ true → Stands access y machine budget far at w i → LowersStack machine bytes (at + 4) i
