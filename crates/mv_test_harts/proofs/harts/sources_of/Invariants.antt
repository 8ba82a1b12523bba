use Rattle.std.proofs.Common.{All, Some}
use Rattle.mv_harts.specs.HartsRan.{TellsBytes}
use Rattle.mv_test_harts.proofs.harts.sources_of.Given as goal

abbrev pub invariant-loop-input : goal.invariant-loop-input
invariant-loop-input l =
    (goal.iterator-loop-input).can_next l.input-iterator ×
    (goal.iterator-loop-input).is_finite l.input-iterator ×
    All (λ source. TellsBytes (Some source.left)) l.sources.items
