use Rattle.std.proofs.Common.{◌≡◌, ◌-◌, ◌^◌, ◌≤◌, drop}
use Rattle.mv_meaning.specs.Meaning.{tried_labels}
use Rattle.mv_interpret.proofs.LabelTests.{with_work}
use Rattle.mv_interpret.proofs.arms.try_labels.Given as goal

abbrev pub invariant-loop-label : goal.invariant-loop-label
invariant-loop-label l = record {
  in_range : l.state.work ≤ 2 ^ 64 - 1;
  found : (tried_labels l.value (drop l.label-index l.labels)).found ≡ (tried_labels l.value l.labels).found;
  counted : with_work l.state (tried_labels l.value (drop l.label-index l.labels)).labels ≡ with_work l.fn.state (tried_labels l.value l.labels).labels;
}
