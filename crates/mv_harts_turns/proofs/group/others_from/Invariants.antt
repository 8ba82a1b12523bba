use Rattle.std.proofs.Common.{ℕ, List}
use Rattle.mv_harts_turns.specs.Groups.{AreFirst}
use Rattle.mv_harts_turns.proofs.group.others_from.Given as goal

abbrev pub invariant-loop-before : goal.invariant-loop-before
invariant-loop-before l = (bytes : ℕ → List ℕ) → AreFirst l.image bytes l.before l.others.items
