use Rattle.std.proofs.Common.{◌≡◌, take}
use Rattle.mv_image.proofs.copying.names_copied.Given as goal

abbrev pub invariant-loop-name : goal.invariant-loop-name
invariant-loop-name l = l.copy ≡ take l.name-index l.names
