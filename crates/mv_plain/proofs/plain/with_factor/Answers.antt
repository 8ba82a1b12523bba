use Rattle.mv_ir.specs.Operators as operator
use Rattle.mv_plain.proofs.PlainTrees.{keeps_right, as_shift}
use Rattle.mv_plain.proofs.plain.with_factor.Goals as goal

pub returns-in_ok-new-in-Some-2 : goal.returns-in_ok-new-in-Some-2
returns-in_ok-new-in-Some-2 c =
    let power = c.in-Some.ensures in
    as_shift c.args.a c.in_ok-new-in-Some.field-0 c.in_ok-new-in-Some-2.field-0 c.args.n c.in-Some.k power.0 power.1 c.in_ok-new-in-Some.ensures
    c.in_ok-new-in-Some-2.ensures

pub returns-in_ok-new-in-None-2 : goal.returns-in_ok-new-in-None-2
returns-in_ok-new-in-None-2 c =
    let a = c.in_ok-new-in-None in
    let b = c.in_ok-new-in-None-2 in
    keeps_right operator.mul c.args.n c.args.a a.field-0 b.field-0 a.ensures b.ensures
