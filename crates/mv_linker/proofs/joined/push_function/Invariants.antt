use Rattle.std.proofs.Common.{◌≡◌, ◌∷◌, ◌++◌, map, take}
use Rattle.mv_isa.specs.declared.labelled.Line.TheVariants.{Label}
use Rattle.mv_linker.specs.Linked.{relabelled}
use Rattle.mv_linker.proofs.joined.push_function.Given as goal

abbrev pub invariant-loop-line : goal.invariant-loop-line
invariant-loop-line l = l.items ≡ l.fn.items ++ (Label l.number ∷ map (relabelled l.first l.code.labels) (take l.line-index l.code.items))
