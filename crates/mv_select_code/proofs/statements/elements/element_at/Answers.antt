use Rattle.std.proofs.Common.{ap}
use Rattle.mv_select_code.specs.declared.statements.elements.Home.TheVariants.{Data}
use Rattle.mv_select_code.proofs.OfStatements.Equations.{element_sum}
use Rattle.mv_select_code.proofs.statements.elements.element_at.Goals as goal

pub returns-in-Data-clause-value : goal.returns-in-Data-clause-value
returns-in-Data-clause-value c = rw c.in-Data.is (ap Data (element_sum c.in-Data.at c.args.index))
