use Rattle.std.proofs.Common.{◌≡◌, take}
use Rattle.mv_carry.specs.Facts.{without}
use Rattle.mv_carry.proofs.facts.without.Given as goal

abbrev pub invariant-loop-fact : goal.invariant-loop-fact
invariant-loop-fact l = l.kept ≡ without l.temp (take l.fact-index l.facts)
