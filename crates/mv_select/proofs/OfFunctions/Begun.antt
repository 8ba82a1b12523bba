-- What a function finds where it begins, told by the numbers of its own frame.
use Rattle.std.proofs.Common.{◌≡◌, ℕ, ◌+◌, ◌*◌, ◌%◌, ◌<◌, ◌≤◌, Bool, false, cond, List, [], length, slice_index, arith}
use Rattle.mv_bindings.specs.Traps.{depth_limit}
use Rattle.mv_isa.specs.Execution.{Access, reg}
use Rattle.mv_isa.specs.Registers.{a0, s11 as left_register, s10 as live_register}
use Rattle.mv_ir.specs.World as ir
use Rattle.mv_select_code.specs.Control.Runs.{Machine}
use Rattle.mv_select.specs.Calls.Convention.{Layout, Enters, frame_limit}
use Rattle.mv_select.specs.Functions.Functions.{Begins}
use Rattle.mv_num.proofs.Booleans.{one_or_none}

-- a frame with so many above that of main, where so many others of attributed functions are live
abbrev pub frame_at : Bool → List (ℕ × ℕ) → (depth live : ℕ) → ir.Frame
frame_at attributed bound depth live = record { depth = depth; live = live + cond attributed 1 0; bound = bound }

-- what time i has for a function whose frame gets these numbers, before it counts as live
pub record Begun {M : Type 0} (y : Layout) (machine : Machine M) (attributed : Bool) (depth live : ℕ) (args : List ℕ) (i : ℕ) : Type 0 where
  pub arguments : (j : ℕ) → j < length args → reg (machine.run i).regs (a0 + j) ≡ slice_index args j
  pub live_is : reg (machine.run i).regs live_register ≡ live
  pub counts : live + cond attributed 1 0 ≤ depth
  pub left : reg (machine.run i).regs left_register + depth ≡ depth_limit
  pub even : reg (machine.run i).regs 2 % 4 ≡ 0
  pub room : y.bottom + (reg (machine.run i).regs left_register + 1) * frame_limit ≤ reg (machine.run i).regs 2
  pub within : reg (machine.run i).regs 2 ≤ y.top

module _ {M : Type 0} (access : Access M) (y : Layout) (machine : Machine M) (i : ℕ) where
  -- one that is called
  pub begun_called : (budget far : ℕ) (attributed : Bool) (depth live : ℕ) (args : List ℕ) → Enters access y machine budget far depth live args i
      → Begun y machine attributed (depth + 1) live args i
  begun_called budget far attributed depth live args e = record {
    arguments = e.arguments;
    live_is = e.live;
    counts = omega (arith, e.counts, one_or_none attributed);
    left = omega (arith, e.left);
    even = e.even;
    room = e.room;
    within = e.within;
  }

  -- the main function
  pub begun_main : Begins access y machine i → Begun y machine false 0 0 [] i
  begun_main b = record {
    arguments = λ j lt. absurd (omega (arith, lt));
    live_is = b.live;
    counts = omega arith;
    left = omega (arith, b.left);
    even = b.even;
    room = omega (arith, b.left, b.room);
    within = b.within;
  }
