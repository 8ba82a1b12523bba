use Rattle.std.proofs.Common.{◌≡◌, take}
use Rattle.mv_check_outline.specs.Names.{each_once}
use Rattle.mv_types.specs.Foreknown.{all_names}
use Rattle.mv_types.proofs.foreknown.all_names.Given as goal

abbrev pub invariant-loop-item : goal.invariant-loop-item
invariant-loop-item l = l.names ≡ each_once (all_names l.said (take l.item-index l.items))
