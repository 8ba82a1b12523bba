use Rattle.std.proofs.Common.{◌≡◌, take, filter, map}
use Rattle.mv_check_outline.specs.Names.{with_names}
use Rattle.mv_check_outline.specs.Outlined.{name_of, is_wanted}
use Rattle.mv_check_outline.proofs.outline.add_names.Given as goal

abbrev pub invariant-loop-declarator : goal.invariant-loop-declarator
invariant-loop-declarator l =
    l.names ≡ with_names l.fn.names (map name_of (filter (is_wanted l.wanted l.fn.item) (take l.declarator-index l.declarator-items)))
