use Rattle.std.proofs.Common.{length, All, sym, subst, ap, arith}
use Rattle.mv_select_code.specs.Statements.Encoded.{IsSmall}
use Rattle.mv_select.proofs.OfCalls.Small.{known_parts}
use Rattle.mv_select.proofs.calls.emitter.CallsCallCode.push_known.Goals as goal

pub push_known-requires-clause-temp : goal.push_known-requires-clause-temp
push_known-requires-clause-temp c = (known_parts c.args.temp c.args.known c.args.arguments.now c.requires).room

pub push_known-requires-clause-few : goal.push_known-requires-clause-few
push_known-requires-clause-few c =
    let few = (known_parts c.args.temp c.args.known c.args.arguments.now c.requires).few in
    omega (arith, few, ap (λ l. length l) c.as_slice-arguments.ensures)

pub push_known-requires-clause-small : goal.push_known-requires-clause-small
push_known-requires-clause-small c =
    subst (All IsSmall) (sym c.as_slice-arguments.ensures) (known_parts c.args.temp c.args.known c.args.arguments.now c.requires).trees
