use Rattle.std.proofs.Common.{◌≡◌, ◌++◌, take}
use Rattle.mv_lower_spec.specs.Statements.{test_labels}
use Rattle.mv_lower.proofs.switch.test_labels.Given as goal

abbrev pub invariant-loop-label : goal.invariant-loop-label
invariant-loop-label l = l.code ≡ l.initial.code ++ test_labels l.n l.i (take l.label-index l.labels)
