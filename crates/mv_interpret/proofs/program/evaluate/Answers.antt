use Rattle.mv_interpret.proofs.Ends.{is_meaning, goes_on}
use Rattle.mv_interpret.proofs.program.evaluate.Goals as goal

pub returns-clause-meaning : goal.returns-clause-meaning
returns-clause-meaning c =
    let a = c.args in
    is_meaning a.program.now a.input.now a.actions.now a.bound c.plan_work.result c.in_ok-state.state c.run_main-flow.new.state c.run_main-flow.result c.in_ok-end.end
    c.in_ok-state.ensures c.run_main-flow.ensures c.in_ok-end.ensures

pub returns-clause-goes_on : goal.returns-clause-goes_on
returns-clause-goes_on c greater le =
    let a = c.args in
    goes_on a.program.now a.input.now a.actions.now a.bound c.plan_work.result _
    (is_meaning a.program.now a.input.now a.actions.now a.bound c.plan_work.result c.in_ok-state.state c.run_main-flow.new.state c.run_main-flow.result c.in_ok-end.end
    c.in_ok-state.ensures c.run_main-flow.ensures c.in_ok-end.ensures) greater le
