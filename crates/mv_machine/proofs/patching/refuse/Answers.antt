use Rattle.std.proofs.Common.{refl}
use Rattle.mv_machine.proofs.Orders.{refuses}
use Rattle.mv_machine.proofs.Opening.{stays_closed}
use Rattle.mv_machine.proofs.patching.refuse.Goals as goal

pub returns-clause-does : goal.returns-clause-does
returns-clause-does c = λ actions left written input output log.
    refuses c.args.engine.now c.args.value c.answer.new.hart.regs c.answer.new.hart.pc c.write_plan.new.memory c.answer.ensures.regs c.answer.ensures.pc c.write_plan.ensures actions left written input output log

pub returns-clause-opened : goal.returns-clause-opened
returns-clause-opened c = stays_closed c.args.engine.now.image c.args.engine.now.bindings _ refl
