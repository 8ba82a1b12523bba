use Rattle.std.proofs.Common.{◌≡◌, ◌+◌, drop}
use Rattle.mv_ast.specs.Numbering.{place_from}
use Rattle.mv_interpret.proofs.reads.place_from.Given as goal

abbrev pub invariant-loop-i : goal.invariant-loop-i
invariant-loop-i l = place_from (l.first + l.i) (drop l.i l.numbers) l.number ≡ place_from l.first l.numbers l.number
