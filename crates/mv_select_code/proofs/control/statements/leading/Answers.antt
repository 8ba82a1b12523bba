use Rattle.std.proofs.Common.{sym, ap, ◌∙◌}
use Rattle.mv_select_code.specs.Control.FlowCode.{Emitted, statement_code}
use Rattle.mv_select_code.proofs.OfControl.Emitting.{unled}
use Rattle.mv_select_code.proofs.OfControl.Equations.{code_break, code_back}
use Rattle.mv_select_code.proofs.control.statements.leading.Goals as goal

pub returns-in-Break : goal.returns-in-Break
returns-in-Break c plan = ap (λ (x : Emitted). x.alone) (sym (ap (statement_code plan) c.in-Break.is ∙ code_break plan c.in-Break.n))

pub returns-in-Back : goal.returns-in-Back
returns-in-Back c plan = ap (λ (x : Emitted). x.alone) (sym (ap (statement_code plan) c.in-Back.is ∙ code_back plan c.in-Back.n))

pub returns-in_default : goal.returns-in_default
returns-in_default c plan = sym (unled plan c.args.statement.now c.in_default.not-Break c.in_default.not-Back)
