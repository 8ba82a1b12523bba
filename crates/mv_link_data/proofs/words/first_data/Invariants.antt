use Rattle.std.proofs.Common.{◌≡◌, take}
use Rattle.std.specs.List.{flat_map}
use Rattle.mv_link_data.specs.FirstData.{global_data}
use Rattle.mv_link_data.proofs.words.first_data.Given as goal

abbrev pub invariant-loop-global : goal.invariant-loop-global
invariant-loop-global l = l.words ≡ flat_map global_data (take l.global-index l.global-items)
