use Rattle.std.proofs.Common.{length, All, sym, subst, ap, arith}
use Rattle.mv_select_code.specs.Statements.Encoded.{IsSmall}
use Rattle.mv_select.proofs.OfCalls.Small.{call_callee, call_parts}
use Rattle.mv_select.proofs.calls.emitter.CallsCallCode.push_call.Goals as goal

pub push_call-requires-clause-temp : goal.push_call-requires-clause-temp
push_call-requires-clause-temp c = (call_parts c.args.temp c.args.callee.now c.args.arguments.now c.requires).room

pub push_call-requires-clause-few : goal.push_call-requires-clause-few
push_call-requires-clause-few c =
    let few = (call_parts c.args.temp c.args.callee.now c.args.arguments.now c.requires).few in
    omega (arith, few, ap (λ l. length l) c.as_slice-arguments.ensures)

pub push_call-requires-clause-small : goal.push_call-requires-clause-small
push_call-requires-clause-small c =
    subst (All IsSmall) (sym c.as_slice-arguments.ensures) (call_parts c.args.temp c.args.callee.now c.args.arguments.now c.requires).trees

pub push_call-requires-clause-small_callee : goal.push_call-requires-clause-small_callee
push_call-requires-clause-small_callee c = call_callee c.args.temp c.args.callee.now c.args.arguments.now c.requires
