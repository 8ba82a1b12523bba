use Rattle.std.proofs.Common.{◌≡◌, ◌≤◌, ◌+◌, ◌-◌, drop, length}
use Rattle.mv_lexer.specs.Characters.{leading_digits}
use Rattle.mv_lexer.proofs.character.leading_digits.Given as goal

abbrev pub invariant-loop-count : goal.invariant-loop-count
invariant-loop-count l = record {
  in_range : l.count ≤ length l.text;
  value : leading_digits l.base l.text ≡ l.count + leading_digits l.base (drop l.count l.text);
}

abbrev pub decreases-loop-count : goal.decreases-loop-count
decreases-loop-count l = length l.text - l.count
