use Rattle.std.proofs.Common.{◌≡◌, drop}
use Rattle.mv_select_code.specs.Trees.Rooms.{place_in}
use Rattle.mv_select_code.proofs.trees.leaves.place_of.Given as goal

abbrev pub invariant-loop-room : goal.invariant-loop-room
invariant-loop-room l = place_in (drop l.room-index l.rooms) l.global ≡ place_in l.rooms l.global
