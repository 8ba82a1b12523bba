use Rattle.std.proofs.Common.{sym}
use Rattle.std.proofs.lemmas.Result.{IfOk-weaker}
use Rattle.mv_plain.proofs.PlainTrees.{stays_binary, binary_number, right_number, left_number}
use Rattle.mv_plain.proofs.plain.plain_binary.Goals as goal

pub returns-in-Some-constant : goal.returns-in-Some-constant
returns-in-Some-constant c =
    let left = sym c.in-Some-constant.ensures in
    binary_number c.args.operator c.args.a c.args.b c.in-Some-constant.n c.in-Some.m c.binary.result left (sym c.in-Some.ensures) c.binary.ensures

pub returns-in-None-constant : goal.returns-in-None-constant
returns-in-None-constant c =
    let right = sym c.in-Some.ensures in
    IfOk-weaker c.with_number.result _ _ (λ t h. right_number c.args.operator c.args.a c.args.b t c.in-Some.m right h) c.with_number.ensures

pub returns-in-Some-constant-2 : goal.returns-in-Some-constant-2
returns-in-Some-constant-2 c =
    let left = sym c.in-Some-constant-2.ensures in
    IfOk-weaker c.from_number.result _ _ (λ t h. left_number c.args.operator c.args.a c.args.b t c.in-Some-constant-2.n left h) c.from_number.ensures

pub returns-in_ok-new-in-None-constant-2-2 : goal.returns-in_ok-new-in-None-constant-2-2
returns-in_ok-new-in-None-constant-2-2 c =
    let a = c.in_ok-new-in-None-constant-2 in
    let b = c.in_ok-new-in-None-constant-2-2 in
    stays_binary c.args.operator c.args.a a.field-0 c.args.b b.field-0 a.ensures b.ensures
