use Rattle.std.proofs.Common.{◌≡◌, ◌∷◌, take}
use Rattle.mv_isa.specs.declared.labelled.Line.TheVariants.{Word}
use Rattle.mv_isa.specs.Code.{nop}
use Rattle.mv_select.proofs.selection.led.Given as goal

abbrev pub invariant-loop-line : goal.invariant-loop-line
invariant-loop-line l = l.all ≡ Word nop ∷ take l.line-index l.line-items
