use Rattle.mv_bindings.specs.Bindings.{events_from}
use Rattle.mv_machine.proofs.Orders.{flips, was_planned}
use Rattle.mv_machine.proofs.Opening.{opens_by}
use Rattle.mv_machine.proofs.patching.flip.Goals as goal

pub carry_out-requires-clause-few : goal.carry_out-requires-clause-few
carry_out-requires-clause-few g c = was_planned c.plan-planned.result c.plan-planned.ensures.few c.plan-planned.ensures.some_live

pub returns-clause-moves : goal.returns-clause-moves
returns-clause-moves g c = λ actions left written.
    let e = c.args.engine.now in
    let plan = c.plan-planned.new.into.planned in
    flips e c.carry_out.new.engine c.args.switch c.args.value c.set_switch.new.memory plan (events_from 0 e.bindings plan.bound) _ c.set_switch.ensures
    (was_planned c.plan-planned.result c.plan-planned.ensures.planned c.plan-planned.ensures.some_live) c.carry_out.ensures.told actions left written (λ input output log. c.carry_out.ensures.does actions left written input output log)

pub returns-clause-opened : goal.returns-clause-opened
returns-clause-opened g c =
    let e = c.args.engine.now in
    opens_by e.image c.set_switch.new.memory.held e.bindings _ 0 0 c.plan-planned.new.into.planned _
    (was_planned c.plan-planned.result c.plan-planned.ensures.planned c.plan-planned.ensures.some_live) c.carry_out.ensures.opened c.carry_out.ensures.bindings
