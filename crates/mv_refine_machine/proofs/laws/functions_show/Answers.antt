use Rattle.mv_refine_machine.proofs.Shown.{bindings_have_values, free_functions_show, bound_functions_show, bound_points_show}
use Rattle.mv_refine_machine.proofs.laws.functions_show.Goals as goal

pub returns-clause-values : goal.returns-clause-values
returns-clause-values c = bindings_have_values

pub returns-clause-free : goal.returns-clause-free
returns-clause-free c = free_functions_show

pub returns-clause-bound : goal.returns-clause-bound
returns-clause-bound c = bound_functions_show

pub returns-clause-points : goal.returns-clause-points
returns-clause-points c = bound_points_show
