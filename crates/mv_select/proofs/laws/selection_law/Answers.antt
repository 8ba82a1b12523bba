use Rattle.mv_select.proofs.SelectedLines.{selected_encoded, selected_labels_own, selected_targets_stand, selected_opens, selected_begins}
use Rattle.mv_select.proofs.laws.selection_law.Goals as goal

pub returns-clause-encoded : goal.returns-clause-encoded
returns-clause-encoded c = selected_encoded

pub returns-clause-labels : goal.returns-clause-labels
returns-clause-labels c = selected_labels_own

pub returns-clause-targets : goal.returns-clause-targets
returns-clause-targets c = selected_targets_stand

pub returns-clause-opens : goal.returns-clause-opens
returns-clause-opens c = selected_opens

pub returns-clause-begins : goal.returns-clause-begins
returns-clause-begins c = selected_begins
