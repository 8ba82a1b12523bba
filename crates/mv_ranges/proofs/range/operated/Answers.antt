use Rattle.std.proofs.Common.{◌≡◌, arith}
use Rattle.mv_ranges.proofs.range.operated.Goals as goal

-- a range of one number has that number alone
pub returns-in_default : goal.returns-in_default
returns-in_default c = λ x y h k.
    let e : y ≡ c.args.b.low = omega arith in
    rw e (c.shifted.ensures x h)
