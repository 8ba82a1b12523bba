use Rattle.std.proofs.Common.{◌≡◌, ◌+◌, ◌-◌, ◌^◌, ◌≤◌, drop}
use Rattle.mv_meaning.specs.Meaning.{tried_labels}
use Rattle.mv_meaning.specs.Arms.{index_of, has_label, all_labels}
use Rattle.mv_interpret.proofs.LabelTests.{with_work}
use Rattle.mv_interpret.proofs.arms.first_arm.Given as goal

abbrev pub invariant-loop-i : goal.invariant-loop-i
invariant-loop-i l = record {
  in_range : l.state.work ≤ 2 ^ 64 - 1;
  index : l.i + index_of (has_label l.value) (drop l.i l.arm-items) ≡ index_of (has_label l.value) l.arm-items;
  found : (tried_labels l.value (all_labels (drop l.i l.arm-items))).found ≡ (tried_labels l.value (all_labels l.arm-items)).found;
  counted : with_work l.state (tried_labels l.value (all_labels (drop l.i l.arm-items))).labels ≡ with_work l.fn.state (tried_labels l.value (all_labels l.arm-items)).labels;
}
