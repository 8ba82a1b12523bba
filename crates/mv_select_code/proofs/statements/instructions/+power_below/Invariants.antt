use Rattle.mv_select_code.proofs.statements.instructions.+power_below.Given as goal

abbrev pub decreases-power_below : goal.decreases-power_below
decreases-power_below l = l.bound
