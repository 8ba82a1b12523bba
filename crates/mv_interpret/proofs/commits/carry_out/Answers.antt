use Rattle.std.proofs.Common.{arith}
use Rattle.mv_interpret.proofs.Committing.{length-bindings_after}
use Rattle.mv_interpret.proofs.commits.carry_out.Goals as goal

pub push_events-requires : goal.push_events-requires
push_events-requires c =
    let s = c.args.state.now in
    rw (c.as_slice-3.ensures, c.in_ok-after.ensures)
    (omega (arith, length-bindings_after c.args.program.now c.args.order.code c.args.order.index s.globals c.as_slice.result.now, c.requires))
