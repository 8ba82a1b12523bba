use Rattle.mv_machine.proofs.Walks.{stepped_by}
use Rattle.mv_machine.proofs.run_loop.step.Goals as goal

pub returns-in-Some : goal.returns-in-Some
returns-in-Some g c =
    let e = c.step_word.ensures in
    stepped_by c.step_word.result c.args.hart.now c.step_word.new.hart c.args.memory.now c.step_word.new.memory _ _ c.in-Some.word c.in-Some.ensures e.gives e.stays e.wants
