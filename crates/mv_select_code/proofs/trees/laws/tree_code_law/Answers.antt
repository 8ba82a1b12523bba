use Rattle.mv_select_code.proofs.OfTrees.TreesAreShort.{trees_are_short}
use Rattle.mv_select_code.proofs.OfTrees.TreesFit.{trees_fit}
use Rattle.mv_select_code.proofs.OfTrees.TreesRun.{trees_run, trees_leave, operands_stand}
use Rattle.mv_select_code.proofs.trees.laws.tree_code_law.Goals as goal

pub returns-clause-runs : goal.returns-clause-runs
returns-clause-runs g c = trees_run _

pub returns-clause-leave : goal.returns-clause-leave
returns-clause-leave g c = trees_leave _

pub returns-clause-stand : goal.returns-clause-stand
returns-clause-stand g c = operands_stand _

pub returns-clause-short : goal.returns-clause-short
returns-clause-short g c = trees_are_short

pub returns-clause-fits : goal.returns-clause-fits
returns-clause-fits g c = trees_fit
