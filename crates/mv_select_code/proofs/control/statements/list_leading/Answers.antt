use Rattle.std.proofs.Common.{sym, ap, ◌∙◌}
use Rattle.mv_select_code.specs.Control.FlowCode.{code_of}
use Rattle.mv_select_code.proofs.OfControl.Emitting.{unled_list}
use Rattle.mv_select_code.proofs.control.statements.list_leading.Goals as goal

pub returns-in_default : goal.returns-in_default
returns-in_default c plan = sym (ap (λ l. (code_of plan l).alone) (sym c.as_slice.ensures) ∙ unled_list plan c.as_slice.result.now c.in_default.len_at_least)
