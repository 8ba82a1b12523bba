use Rattle.std.proofs.Common.{◌≡◌, ◌+◌, ◌++◌, drop}
use Rattle.mv_ir.specs.Measures.{total}
use Rattle.mv_select.specs.Functions.FunctionCode.{arrays_start}
use Rattle.mv_select.specs.Selected.{spaces_behind}
use Rattle.mv_select.proofs.frame.spaces.Given as goal

abbrev pub invariant-loop-size : goal.invariant-loop-size
invariant-loop-size l =
    (l.spaces ++ spaces_behind l.word (drop l.size-index l.arrays) ≡ spaces_behind (arrays_start l.fn.temps) l.arrays)
    × (l.word + total (drop l.size-index l.arrays) ≡ arrays_start l.fn.temps + total l.arrays)
