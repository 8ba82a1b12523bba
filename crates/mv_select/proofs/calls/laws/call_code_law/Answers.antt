use Rattle.mv_select.proofs.OfCalls.CallsEncoded.{calls_encoded}
use Rattle.mv_select.proofs.OfCalls.CallsName.{calls_have_no_labels, call_targets_stand}
use Rattle.mv_select.proofs.OfCalls.FunctionCalls.{call_done}
use Rattle.mv_select.proofs.OfCalls.KnownCalls.{known_done}
use Rattle.mv_select.proofs.calls.laws.call_code_law.Goals as goal

pub returns-clause-done : goal.returns-clause-done
returns-clause-done g c access y s setting frame fit caller machine ok budget far serves top keep is_fine fine_trees place end linked is_attributed = record {
  call = call_done access y s setting frame fit caller machine ok budget far place end linked is_fine fine_trees is_attributed top keep;
  known = known_done access y s setting frame fit caller machine ok budget far place end linked is_fine fine_trees serves top;
}

pub returns-clause-encoded : goal.returns-clause-encoded
returns-clause-encoded g c = calls_encoded

pub returns-clause-labels : goal.returns-clause-labels
returns-clause-labels g c = calls_have_no_labels

pub returns-clause-targets : goal.returns-clause-targets
returns-clause-targets g c = call_targets_stand
