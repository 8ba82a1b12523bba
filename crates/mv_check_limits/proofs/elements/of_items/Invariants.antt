use Rattle.std.proofs.Common.{◌≡◌, map, drop}
use Rattle.std.specs.List.{concat}
use Rattle.mv_check_limits.specs.Limits.{first_above}
use Rattle.mv_check_limits.specs.Ordered.{item_elements}
use Rattle.mv_check_limits.proofs.elements.of_items.Given as goal

abbrev pub invariant-loop-item : goal.invariant-loop-item
invariant-loop-item l = record {
  rest : first_above 262144 (concat (map (item_elements l.program) l.items)) ≡ first_above 262144 (concat (map (item_elements l.program) (drop l.item-index l.items)));
}
