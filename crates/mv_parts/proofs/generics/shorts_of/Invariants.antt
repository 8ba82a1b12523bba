use Rattle.std.proofs.Common.{◌≡◌, length}
use Rattle.mv_variants.specs.Bound.Shorts.{AreShortsOf}
use Rattle.mv_parts.proofs.generics.shorts_of.Given as goal

abbrev pub invariant-loop-number : goal.invariant-loop-number
invariant-loop-number l = record { one_each : length l.shorts ≡ l.number; known : AreShortsOf l.program l.shorts }
