use Rattle.std.proofs.Common.{refl}
use Rattle.mv_ir.specs.Trees.{divide}
use Rattle.mv_ranges.proofs.Arithmetic.{div_s_plain, rem_s_plain}
use Rattle.mv_ranges.proofs.range.divided.Goals as goal

pub returns-in-0 : goal.returns-in-0
unfolding divide
returns-in-0 c = λ x h.
    let p = c.if-is_plain.ensures refl x h in
    rw (c.in-0.is, div_s_plain x c.args.n p.0 p.1) (c.of_quotient-in-0.ensures x h)

pub returns-in-2 : goal.returns-in-2
unfolding divide
returns-in-2 c = λ x h.
    let p = c.if-is_plain-2.ensures refl x h in
    rw (c.in-2.is, rem_s_plain x c.args.n p.0 p.1) (c.remainders-in-2.ensures x h)
