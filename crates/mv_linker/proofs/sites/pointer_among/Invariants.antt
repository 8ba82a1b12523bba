use Rattle.std.proofs.Common.{◌≡◌, ◌+◌, drop}
use Rattle.mv_linker.specs.Tables.{pointer_addresses, place_among}
use Rattle.mv_linker.proofs.sites.pointer_among.Given as goal

abbrev pub invariant-loop-place : goal.invariant-loop-place
invariant-loop-place l = l.place + place_among (pointer_addresses (drop l.place l.pointers)) l.address ≡ place_among (pointer_addresses l.pointers) l.address
