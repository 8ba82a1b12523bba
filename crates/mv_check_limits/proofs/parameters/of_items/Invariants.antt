use Rattle.std.proofs.Common.{◌≡◌, map, drop}
use Rattle.std.specs.List.{concat}
use Rattle.mv_check_limits.specs.Limits.{first_above}
use Rattle.mv_check_limits.specs.Ordered.{item_parameters}
use Rattle.mv_check_limits.proofs.parameters.of_items.Given as goal

abbrev pub invariant-loop-item : goal.invariant-loop-item
invariant-loop-item l = record {
  rest : first_above 8 (concat (map item_parameters l.items)) ≡ first_above 8 (concat (map item_parameters (drop l.item-index l.items)));
}
