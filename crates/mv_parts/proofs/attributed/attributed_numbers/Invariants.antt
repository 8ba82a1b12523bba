use Rattle.std.proofs.Common.{◌≡◌, take}
use Rattle.mv_parts.specs.Numbers.{attributed_from}
use Rattle.mv_parts.proofs.attributed.attributed_numbers.Given as goal

abbrev pub invariant-loop-function : goal.invariant-loop-function
invariant-loop-function l = record { place : l.number ≡ l.function-index; numbers : l.numbers ≡ attributed_from 0 (take l.function-index l.function-items) }
