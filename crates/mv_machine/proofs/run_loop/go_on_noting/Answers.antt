use Rattle.std.proofs.Common.{◌-◌, arith, true}
use Rattle.mv_machine.proofs.Walks.{one_more_goes, ends_with_one, goes_all, others_unnoted}
use Rattle.mv_machine.proofs.run_loop.go_on_noting.Goals as goal

pub loop-left-preserved : goal.loop-left-preserved
loop-left-preserved g c =
    let i = c.loop-left.invariant in
    let few = i.few in
    let some = c.loop-left-test.true in
    record {
      few = omega (arith, few);
      goes = one_more_goes true c.args.floor (c.args.steps - c.loop-left.left)
          (c.args.steps - (c.loop-left.left - 1)) c.step-stepped.result _ c.loop-left.hart _ _ c.loop-left.memory _ _ _ _ _ c.loop-left.place _
          (omega (arith, few, some)) c.in-Next.is i.goes c.step-stepped.ensures c.note_departure.ensures;
    }

pub returns-in_default : goal.returns-in_default
returns-in_default g c =
    let i = c.loop-left.invariant in
    let few = i.few in
    let some = c.loop-left-test.true in (
      c.args.steps - c.loop-left.left,
      c.loop-left.hart,
      c.loop-left.memory,
      _,
      c.loop-left.place,
      omega (arith, few, some),
      i.goes,
      c.step-stepped.ensures,
      others_unnoted true c.args.floor c.step-stepped.result _ _ c.loop-left.place c.in_default.not-Next,
    )

pub returns : goal.returns
returns g c =
    let i = c.loop-left.invariant in
    let few = i.few in
    let none = c.loop-left-test.false in
    ends_with_one true c.args.floor c.args.steps _ c.loop-left.hart _ c.loop-left.memory _ _ _ _ c.requires (goes_all true c.args.floor (c.args.steps - c.loop-left.left) c.args.steps _ _ _ _ _ _ _ _ (omega (arith, few, none)) i.goes)
