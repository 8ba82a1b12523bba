-- Calls through pointer switches: what stands in their slots of four words and in the stub that tests them, and what these do.
use Rattle.std.specs.Prelude.{ℕ, ◌≡◌, ◌≢◌, ◌+◌, ◌^◌, ◌<◌, ◌≤◌, Bool, true, false, eqb, List, length, Option, Some, pos}
use Rattle.mv_bindings.specs.Traps.{null_call, call_too_deep}
use Rattle.mv_isa.specs.declared.instr.Instr.TheVariants.{Addi, Bne, Jal, Jalr, Lw}
use Rattle.mv_isa.specs.Code.{IsPlace, distance, lower_part, nop}
use Rattle.mv_isa.specs.Execution.{Access, reg}
use Rattle.mv_isa.specs.Standing.{InstrStands, PointStands}
use Rattle.mv_isa.specs.Registers.{x0, ra, t0, t1, s11}
use Rattle.mv_ir.specs.World.{World}
use Rattle.mv_ir.specs.Outcome.{End}
use Rattle.mv_select_code.specs.Trees.TreeCode.{minus_one}
use Rattle.mv_select_code.specs.Statements.Frames.{Reach}
use Rattle.mv_select_code.specs.Control.Placed.{Text}
use Rattle.mv_select_code.specs.Control.Runs.{Machine, outside}
use Rattle.mv_select.specs.Calls.Convention.{Layout, Stands, Enters, FollowsCall, Stops, Comes, FollowsCounted}
use Rattle.mv_select.specs.Functions.Functions.{IsLaid, RunsWithin}
use Rattle.mv_select.specs.Slots.Narrowed.{narrowed}
use Rattle.mv_select.specs.Slots.Laws.{Runs}

-- ---- what stands

-- The stub that tests calls through pointer switches: t0 has the pointer, and t1 the way back. Null is a trap, and so is a call too many; else the call is
-- counted.
pub record CheckStands (text : ℕ → Option ℕ) (check null deep : ℕ) : Type 0 where
  pub null_test : InstrStands text check (Bne t0 x0 (pos 8))
  pub null_trap : InstrStands text (check + 4) (Jal x0 (distance (check + 4) null))
  pub depth_test : InstrStands text (check + 8) (Bne s11 x0 (pos 8))
  pub depth_trap : InstrStands text (check + 12) (Jal x0 (distance (check + 12) deep))
  pub count : InstrStands text (check + 16) (Addi s11 s11 minus_one)
  pub back : InstrStands text (check + 20) (Jalr x0 t1 (pos 0))

-- The slot of a pointer switch that is bound to a target: it goes to the stub behind its test of the pointer, and calls the target.
pub record CallsBound (text : ℕ → Option ℕ) (a check target : ℕ) : Type 0 where
  pub test : InstrStands text a (Jal t1 (distance a (check + 8)))
  pub first_pad : InstrStands text (a + 4) nop
  pub second_pad : InstrStands text (a + 8) nop
  pub call : InstrStands text (a + 12) (Jal ra (distance (a + 12) target))

-- code that loads the word at an address, and nothing else
abbrev pub loading : ℕ → Reach
loading pointer = record { is_read = λ g. false; is_written = λ g. false; may_load = eqb pointer }

-- ---- what it does

module _ {M : Type 0} (access : Access M) (y : Layout) (machine : Machine M) (budget far : ℕ) where
  -- From a slot at time i the run has come to a target, at most 8 instructions later: the call is counted, and a return address stands in ra.
  pub record Arrives (target back : ℕ) (w : World) (i j : ℕ) : Type 0 where
    pub late : i < j
    pub soon : j ≤ i + 8
    pub stands : Stands access y machine budget far target w j
    pub link : reg (machine.run j).regs ra ≡ back
    pub registers : (q : ℕ) → q ≢ ra → q ≢ t0 → q ≢ t1 → q ≢ s11 → reg (machine.run j).regs q ≡ reg (machine.run i).regs q
    pub counted : reg (machine.run j).regs s11 + 1 ≡ reg (machine.run i).regs s11
    pub memory : (machine.run j).memory ≡ (machine.run i).memory

  -- a call to a target, where one is left, and else a trap
  abbrev pub Calls : (target back : ℕ) → World → ℕ → Type 0
  Calls target back w i =
      (reg (machine.run i).regs s11 ≡ 0 → i + 8 ≤ budget → (j : ℕ) × Stops access y machine budget far call_too_deep w j)
      × (reg (machine.run i).regs s11 ≢ 0 → IsPlace target → (j : ℕ) × Arrives target back w i j)

-- What follows at the target follows for the slot.
abbrev pub ArrivalsFollow : Type 0 → Type 0
ArrivalsFollow M =
    (access : Access M) (y : Layout) (machine : Machine M) (budget far target back : ℕ) (w : World) (i j : ℕ) → Arrives access y machine budget far target back w i j →
    ((depth frames : ℕ) (args : List ℕ) → length args < 9 → Comes access y machine budget far depth frames args i → Enters access y machine budget far depth frames args j)
    × ((spare k : ℕ) (e : End) → FollowsCall access y machine budget far spare k j back e → FollowsCounted access y machine budget far spare k i back e)

-- In worlds in which the words of a slot of four words stand, and those of the stub: while it is free it goes where its pointer says, or traps where that is
-- null; while it is bound it goes to its target. What loads the pointer runs where that may be loaded.
abbrev pub PointsUnder : Type 0 → Type 0
PointsUnder M =
    (access : Access M) (y : Layout) → IsLaid y → (machine : Machine M) (budget far : ℕ) →
    (pass : World → Bool) (stub : Text) → Runs access y (narrowed machine pass stub) → (test : World → Bool) (shown : Text) → Runs access y (narrowed machine test shown) →
    (check at : ℕ) → CheckStands stub.word check (y.trap null_call) (y.trap call_too_deep) → IsPlace check → IsPlace (check + 20) → IsPlace (y.trap null_call) →
    IsPlace (y.trap call_too_deep) → IsPlace at → (w : World) (i : ℕ) → pass (outside w) ≡ true → test (outside w) ≡ true → Stands access y machine budget far at w i →
    ((load : Text) (pointer v : ℕ) → RunsWithin access y (narrowed machine test load) (loading pointer) → PointStands shown.word at (at + 16) check pointer →
    InstrStands load.word (at + 4) (Lw t0 t0 (lower_part pointer)) → pointer < 2 ^ 32 → access.load (machine.run i).memory pointer 4 ≡ Some v → v < 2 ^ 32 →
    (v ≡ 0 → i + 8 ≤ budget → (j : ℕ) × Stops access y machine budget far null_call w j) × (v ≢ 0 → Calls access y machine budget far v (at + 16) w i))
    × ((target : ℕ) → CallsBound shown.word at check target → Calls access y machine budget far target (at + 16) w i)
