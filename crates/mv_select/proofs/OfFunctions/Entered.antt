-- What stands where the body of a function begins, and what it is to have come back, however the function keeps its temporaries.
use Rattle.std.proofs.Common.{◌≡◌, ◌≢◌, ℕ, ◌+◌, ◌*◌, ◌<◌, ◌≤◌, cond, List, slice_index, Some}
use Rattle.mv_isa.specs.Execution.{Access, reg}
use Rattle.mv_isa.specs.Registers.{a0, s11 as left_register, s10 as live_register}
use Rattle.mv_ir.specs.World.{World}
use Rattle.mv_select_code.specs.Trees.TreeCode.{register_of, pinned_in}
use Rattle.mv_select_code.specs.Trees.View.{AreRegisters}
use Rattle.mv_select_code.specs.Statements.Frames.{Reach}
use Rattle.mv_select_code.specs.Control.Runs.{Machine}
use Rattle.mv_select.specs.Calls.Convention.{Layout, IsSaved, IsAbove}
use Rattle.mv_select.specs.Functions.FunctionCode.{Shape}
use Rattle.mv_select.specs.Functions.Functions.{IsStack, IsLaid, IsMemory, IsAmple, RunsWithin}
use Rattle.mv_select.proofs.OfFunctions.FrameWords.{frame_course}

module _ {M : Type 0} (access : Access M) (y : Layout) (laid : IsLaid y) (machine : Machine M) (memory : IsMemory access y machine)
    (reach : Reach) (ample : IsAmple y reach) (runs : RunsWithin access y machine reach) (budget far : ℕ) (place : ℕ → ℕ) where
  open frame_course access y laid machine memory reach ample runs budget far place use {Stands as Ws}

  -- Entry began at time i with other registers and another memory. sp is where it is to be, parameters have their arguments and pins their numbers, and the
  -- other temporaries are as before; so are the words of globals, and those of the stack but the first ten of the frame.
  pub record Entered (shape : Shape) (args : List ℕ) (live sp : ℕ) (before : List ℕ) (m0 : M) (w : World) (next i : ℕ) : Type 0 where
    pub regs : List ℕ
    pub mem : M
    pub time : ℕ
    pub late : i ≤ time
    pub soon : time ≤ i + 20
    pub stands : Ws w next regs mem time
    pub are : AreRegisters regs
    pub sp_is : reg regs 2 ≡ sp
    pub live_is : reg regs live_register ≡ live + cond shape.attributed 1 0
    pub left_is : reg regs left_register ≡ reg before left_register
    pub held : (j q : ℕ) → j < shape.params → register_of shape.keeping j ≡ Some q → reg regs q ≡ slice_index args j
    pub others : (t q : ℕ) → shape.params ≤ t → t < shape.temps → register_of shape.keeping t ≡ Some q → reg regs q ≡ reg before q
    pub pinned : (n q : ℕ) → pinned_in shape.pins n ≡ Some q → reg regs q ≡ n
    pub globals : (g n : ℕ) → n < y.size g → access.load mem (y.place g + 4 * n) 4 ≡ access.load m0 (y.place g + 4 * n) 4
    pub words : (b : ℕ) → IsStack y b → ((j : ℕ) → j < 10 → b ≢ sp + 4 * j) → access.load mem b 4 ≡ access.load m0 b 4

  -- what is as it was before entry
  pub record Unwound (before : List ℕ) (m0 : M) (back_to : ℕ) (w : World) (regs : List ℕ) (m : M) (i : ℕ) : Type 0 where
    pub after : List ℕ
    pub time : ℕ
    pub late : i ≤ time
    pub soon : time ≤ i + 13
    pub stands : Ws w back_to after m time
    pub are : AreRegisters after
    pub result : reg after a0 ≡ reg regs a0
    pub registers : (q : ℕ) → IsSaved q → reg after q ≡ reg before q
    pub stack : (b : ℕ) → IsAbove y (reg before 2) b → access.load m b 4 ≡ access.load m0 b 4
