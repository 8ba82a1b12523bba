use Rattle.std.proofs.Common.{◌≡◌, ◌*◌, ◌≤◌, take}
use Rattle.std.specs.List.{sum_by}
use Rattle.mv_descriptors.specs.declared.rows.VariantRow.{VariantRow}
use Rattle.mv_patch.proofs.groups.count_guards.Given as goal

abbrev pub invariant-loop-variant : goal.invariant-loop-variant
invariant-loop-variant l = record {
  sum : l.total ≡ sum_by (λ (row : VariantRow). row.guards) (take l.variant-index l.variants);
  small : l.total ≤ 4294967295 * l.variant-index;
}
