use Rattle.std.proofs.Common.{◌≡◌, length, map, take}
use Rattle.mv_image.specs.Patched.{kind_of}
use Rattle.mv_patch.proofs.groups.kinds_of.Given as goal

abbrev pub invariant-loop-i : goal.invariant-loop-i
invariant-loop-i l = record { count : length l.kinds ≡ 6; done : take l.i l.kinds ≡ map (kind_of l.image) (take l.i l.row.switches) }
