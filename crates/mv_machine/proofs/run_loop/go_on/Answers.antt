use Rattle.std.proofs.Common.{◌-◌, refl, arith, false}
use Rattle.mv_machine.proofs.Walks.{one_more_goes, ends_with_one, goes_all, unnoted}
use Rattle.mv_machine.proofs.run_loop.go_on.Goals as goal

pub loop-left-preserved : goal.loop-left-preserved
loop-left-preserved g c =
    let i = c.loop-left.invariant in
    let few = i.few in
    let some = c.loop-left-test.true in
    record {
      few = omega (arith, few);
      goes = λ floor place. one_more_goes false floor (c.args.steps - c.loop-left.left)
          (c.args.steps - (c.loop-left.left - 1)) c.step-stepped.result _ c.loop-left.hart _ _ c.loop-left.memory _ _ _ _ place place place
          (omega (arith, few, some)) c.in-Next.is (i.goes floor place) c.step-stepped.ensures refl;
    }

pub returns-in_default : goal.returns-in_default
returns-in_default g c =
    let i = c.loop-left.invariant in
    let few = i.few in
    let some = c.loop-left-test.true in
    λ floor place. (c.args.steps - c.loop-left.left, c.loop-left.hart, c.loop-left.memory, _, place, omega (arith, few, some), i.goes floor place, c.step-stepped.ensures, unnoted floor c.step-stepped.result _ _ place)

pub returns : goal.returns
returns g c =
    let i = c.loop-left.invariant in
    let few = i.few in
    let none = c.loop-left-test.false in
    λ floor place. ends_with_one false floor c.args.steps _ c.loop-left.hart _ c.loop-left.memory _ _ place place c.requires
    (goes_all false floor (c.args.steps - c.loop-left.left) c.args.steps _ _ _ _ _ _ place place (omega (arith, few, none)) (i.goes floor place))
