-- What is the same of every end of a program in intermediate code, whatever its code is.
use Rattle.std.specs.Prelude.{ℕ, ◌≡◌, ◌+◌, ◌≤◌, List, length}
use Rattle.mv_ast.specs.declared.program.Program.{Program}
use Rattle.mv_ir.specs.World.{World}
use Rattle.mv_ir.specs.Outcome.{End, Returned, Trapped, More, Stuck}
use Rattle.mv_ir.specs.Levels.{Code, program_meaning}
use Rattle.mv_ir.specs.Programs.{setting_of}

-- from one world to another, the bytes taken are more by as many as the input is shorter
abbrev pub TakesInput : (before after : World) → Type 0
TakesInput before after = after.taken + length after.input ≡ before.taken + length before.input

-- an end that is reached from a world, where a trap has a code of 1 to 4
abbrev pub IsReached : World → End → Type 0
IsReached w (Returned v u) = TakesInput w u
IsReached w (Trapped code u) = (1 ≤ code) × (code ≤ 4) × TakesInput w u
IsReached w (More u) = TakesInput w u
IsReached w Stuck = Unit {0}

-- Each program, under each numbering and at each bound, comes to such an end.
abbrev pub EndsAreReached : Type 0
EndsAreReached =
    (p : Program) (numbers : List ℕ) (program : List Code) (main : Code) (bound : ℕ) (w : World) →
    IsReached w (program_meaning (setting_of numbers p) program main bound w).end
