use Rattle.std.proofs.Common.{◌≡◌}
use Rattle.mv_harts.specs.Devices.{first_sources}
use Rattle.mv_harts.proofs.devices.sources_of.Given as goal

abbrev pub invariant-loop-hart : goal.invariant-loop-hart
invariant-loop-hart l = l.sources.items ≡ first_sources l.hart
