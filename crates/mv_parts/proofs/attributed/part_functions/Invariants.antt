use Rattle.std.proofs.Common.{◌≡◌, map, take}
use Rattle.mv_linker.specs.declared.parts.PartFunction.{PartFunction}
use Rattle.mv_parts.proofs.Tables.{EachPart}
use Rattle.mv_parts.proofs.attributed.part_functions.Given as goal

abbrev pub invariant-loop-place : goal.invariant-loop-place
invariant-loop-place l = record { numbers : map (λ (a : PartFunction). a.function) l.parts ≡ take l.place l.numbers; each : EachPart l.program l.tables l.parts }
