use Rattle.std.proofs.Common.{[]}
use Rattle.mv_machine.proofs.Orders.{takes_on}
use Rattle.mv_machine.proofs.patching.adopt.Goals as goal

pub returns-clause-adopts : goal.returns-clause-adopts
returns-clause-adopts c = λ left written input output log.
    takes_on c.args.engine.now c.args.bindings.now c.answer.new.hart.regs c.answer.new.hart.pc c.write_plan.new.memory c.take_on.new.bindings
    c.answer.ensures.regs c.answer.ensures.pc c.write_plan.ensures c.take_on.ensures [] left written input output log
