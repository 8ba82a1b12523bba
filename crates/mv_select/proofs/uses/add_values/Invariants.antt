use Rattle.std.proofs.Common.{◌≡◌, ◌++◌, take}
use Rattle.mv_select.specs.Functions.Uses.{values_uses}
use Rattle.mv_select.proofs.uses.add_values.Given as goal

abbrev pub invariant-loop-tree : goal.invariant-loop-tree
invariant-loop-tree l = l.uses ≡ l.initial.uses ++ values_uses l.w (take l.tree-index l.trees)
