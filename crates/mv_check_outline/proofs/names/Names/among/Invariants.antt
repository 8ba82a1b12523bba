use Rattle.std.proofs.Common.{◌≡◌, take, filter, map}
use Rattle.mv_check_outline.specs.Names.{is_among, each_once}
use Rattle.mv_check_outline.proofs.names.Names.among.Given as goal

abbrev pub invariant-loop-name : goal.invariant-loop-name
invariant-loop-name l =
    l.names ≡ each_once (filter (λ n. is_among n l.others) (take l.name-index (map (λ k. k.items) l.name-items)))
