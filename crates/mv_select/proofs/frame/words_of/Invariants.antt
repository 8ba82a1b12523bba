use Rattle.std.proofs.Common.{◌≡◌, ◌*◌, ◌≤◌, take}
use Rattle.mv_ir.specs.Measures.{total}
use Rattle.mv_select.proofs.frame.words_of.Given as goal

abbrev pub invariant-loop-size : goal.invariant-loop-size
invariant-loop-size l = (l.words ≡ total (take l.size-index l.arrays)) × (l.words ≤ 4294967296 * l.size-index)
