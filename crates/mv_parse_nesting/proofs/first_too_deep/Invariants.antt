-- What is still to be told of all tokens is told by those that are left.
use Rattle.std.proofs.Common.{◌≤◌, All, length}
use Rattle.mv_syntax.specs.declared.place.Place.{Place}
use Rattle.mv_parse_nesting.specs.Nesting.{IsFirstAbove, levels, levels_from, level_of}
use Rattle.mv_parse_nesting.proofs.first_too_deep.Given as goal

abbrev pub invariant-loop-token : goal.invariant-loop-token
invariant-loop-token l = record {
  shallow : All (λ level. level ≤ 255) (levels_from l.stack l.rest) → All (λ level. level ≤ 255) (levels l.tokens);
  deep : (place : Place) → IsFirstAbove 255 (levels_from l.stack l.rest) l.rest place → IsFirstAbove 255 (levels l.tokens) l.tokens place;
  low : level_of l.stack ≤ 255;
}

abbrev pub decreases-loop-token : goal.decreases-loop-token
decreases-loop-token l = length l.rest
