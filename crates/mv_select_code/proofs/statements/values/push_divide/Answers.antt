use Rattle.std.proofs.Common.{sym, ◌∙◌}
use Rattle.mv_select_code.proofs.OfStatements.Powers.{power_low}
use Rattle.mv_select_code.proofs.statements.values.push_divide.Goals as goal

pub power_division-requires : goal.power_division-requires
power_division-requires c = power_low c.args.operator c.in-Some.k _ (sym c.power_of.ensures ∙ c.in-Some.is)
