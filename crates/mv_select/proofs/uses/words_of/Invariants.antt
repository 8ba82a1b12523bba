use Rattle.std.proofs.Common.{◌≡◌, drop}
use Rattle.mv_select_code.specs.Control.Layouts.{size_in}
use Rattle.mv_select.proofs.uses.words_of.Given as goal

abbrev pub invariant-loop-room : goal.invariant-loop-room
invariant-loop-room l = size_in (drop l.room-index l.rooms) l.global ≡ size_in l.rooms l.global
