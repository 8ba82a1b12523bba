use Rattle.mv_select_code.proofs.OfControl.LabelsOwn.{labels_own, labels_few}
use Rattle.mv_select_code.proofs.OfControl.FlowEncoded.{flow_encoded}
use Rattle.mv_select_code.proofs.OfControl.StatementsDo.{flow_done}
use Rattle.mv_select_code.proofs.OfControl.TargetsStand.{targets_stand}
use Rattle.mv_select_code.proofs.control.laws.flow_code_law.Goals as goal

pub returns-clause-done : goal.returns-clause-done
returns-clause-done g c access s setting frame fit machine ok is_fine fine_trees place end budget far top calls calls_do code fine =
    flow_done access s setting frame fit machine ok is_fine fine_trees place end budget far top calls calls_do code fine

pub returns-clause-encoded : goal.returns-clause-encoded
returns-clause-encoded g c = flow_encoded

pub returns-clause-labels : goal.returns-clause-labels
returns-clause-labels g c = labels_own

pub returns-clause-targets : goal.returns-clause-targets
returns-clause-targets g c = targets_stand

pub returns-clause-few : goal.returns-clause-few
returns-clause-few g c = labels_few
