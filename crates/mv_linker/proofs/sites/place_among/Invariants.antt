use Rattle.std.proofs.Common.{◌≡◌, ◌+◌, drop}
use Rattle.mv_linker.specs.Tables.{attributed_numbers, place_among}
use Rattle.mv_linker.proofs.sites.place_among.Given as goal

abbrev pub invariant-loop-place : goal.invariant-loop-place
invariant-loop-place l = l.place + place_among (attributed_numbers (drop l.place l.attributed)) l.function ≡ place_among (attributed_numbers l.attributed) l.function
