use Rattle.std.proofs.Common.{◌≡◌, take}
use Rattle.mv_carry.specs.Facts.{shared}
use Rattle.mv_carry.proofs.facts.shared.Given as goal

abbrev pub invariant-loop-fact : goal.invariant-loop-fact
invariant-loop-fact l = l.kept ≡ shared (take l.fact-index l.facts) l.others
