use Rattle.std.proofs.Common.{◌≡◌, ◌∷◌, map}
use Rattle.mv_harts.specs.Ends.{end_of}
use Rattle.mv_harts.proofs.ends.ends_of.Given as goal

abbrev pub invariant-loop-seat : goal.invariant-loop-seat
invariant-loop-seat l = l.harts.items ≡ end_of l.fn.group.leader ∷ map end_of l.yielded
