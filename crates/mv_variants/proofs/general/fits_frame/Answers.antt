use Rattle.std.proofs.Common.{arith, ◌≡◌, ◌+◌, List, get_or, subst, take, ℕ}
use Rattle.mv_ir.specs.Measures.{total}
use Rattle.mv_select.proofs.Totals.{total_more}
use Rattle.mv_variants.proofs.general.fits_frame.Goals as goal

pub loop-size-preserved : goal.loop-size-preserved
loop-size-preserved c =
    let i = c.loop-size.size-index in
    let items = c.as_slice-size-items.result.now in
    let more = total_more items i c.loop-size-test.true in
    let e = subst (λ (xs : List ℕ). total (take (i + 1) xs) ≡ total (take i xs) + get_or items i 0) c.as_slice-size-items.ensures more in
    omega (arith, e)
