use Rattle.std.proofs.Common.{◌≡◌, take, filter, map}
use Rattle.mv_check_outline.specs.Names.{with_names}
use Rattle.mv_check_outline.specs.Outlined.{name_of}
use Rattle.mv_types.specs.Foreknown.{is_said}
use Rattle.mv_types.proofs.foreknown.add_names.Given as goal

abbrev pub invariant-loop-declarator : goal.invariant-loop-declarator
invariant-loop-declarator l =
    l.names ≡ with_names l.fn.names (map name_of (filter (is_said l.said l.fn.item) (take l.declarator-index l.declarator-items)))
