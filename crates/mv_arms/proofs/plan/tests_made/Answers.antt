use Rattle.std.proofs.Common.{◌≡◌, take, arith}
use Rattle.std.specs.Prelude.{IfSome}
use Rattle.std.proofs.Common.{subst}
use Rattle.std.proofs.lemmas.List.{take_all}
use Rattle.mv_arms.specs.Walking.{IsTest}
use Rattle.mv_arms.proofs.Walked.{steers_next, steers_end}
use Rattle.mv_arms.proofs.plan.tests_made.Goals as goal

pub loop-stm-preserved : goal.loop-stm-preserved
loop-stm-preserved c =
    let s = c.stm-item.result in
    let places = c.args.places.now in
    let k : IsTest c.args.temp places s c.in-Some.test = subst (λ o. IfSome o (IsTest c.args.temp places s)) c.in-Some.is c.in_ok-test.ensures in
    steers_next c.args.temp places c.args.tests.now c.loop-stm.made c.push.new.self c.loop-stm.stm-index s s c.in-Some.test c.loop-stm-test.true c.stm-item.is c.loop-stm.invariant k
    c.in_ok-push.ensures.ok

pub returns : goal.returns
returns c =
    let tests = c.args.tests.now in
    let i = c.loop-stm.stm-index in
    let all : take i tests ≡ tests = take_all i tests (omega (arith, c.loop-stm-test.false)) in
    steers_end c.args.temp c.args.places.now tests (take i tests) c.loop-stm.made c.append.new.self c.in_ok-leaving.field-0 c.args.other c.in-Some-passed.k all c.loop-stm.invariant
    c.in-Some-passed.ensures c.in_ok-leaving.ensures c.in_ok-append.ensures.ok
