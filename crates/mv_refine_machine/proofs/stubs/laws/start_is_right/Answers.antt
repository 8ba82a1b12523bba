use Rattle.mv_refine_machine.proofs.OfStubs.Starting.{enters}
use Rattle.mv_refine_machine.proofs.stubs.laws.start_is_right.Goals as goal

pub returns : goal.returns
returns c attributed closed image bytes polls picks y budget far w begins held entry_is place entry main_label end p =
    enters c.calm_is_tested.ensures c.runs_are_runs.ensures c.runs_begin_in_calm.ensures attributed closed image bytes polls picks y budget far w begins held entry_is place entry
    main_label end p
