use Rattle.std.proofs.Common.{◌≡◌, ◌+◌, take}
use Rattle.mv_ir.specs.Measures.{total}
use Rattle.mv_variants.proofs.general.fits_frame.Given as goal

abbrev pub invariant-loop-size : goal.invariant-loop-size
invariant-loop-size l = l.left + l.body.temps + total (take l.size-index l.body.arrays) ≡ 480
