use Rattle.std.proofs.Common.{◌≡◌, take}
use Rattle.mv_check_outline.specs.Names.{each_once}
use Rattle.mv_check_outline.specs.Outlined.{all_names}
use Rattle.mv_check_outline.proofs.outline.all_names.Given as goal

abbrev pub invariant-loop-item : goal.invariant-loop-item
invariant-loop-item l = l.names ≡ each_once (all_names l.wanted (take l.item-index l.items))
