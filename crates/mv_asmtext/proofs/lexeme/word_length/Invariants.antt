use Rattle.std.proofs.Common.{◌≡◌, ◌+◌, ◌-◌, ◌≤◌, length, drop}
use Rattle.std.specs.List.{prefix_len}
use Rattle.mv_asmtext.specs.Lexemes.{is_word_byte}
use Rattle.mv_asmtext.proofs.lexeme.word_length.Given as goal

abbrev pub invariant-loop-at : goal.invariant-loop-at
invariant-loop-at l = (l.at ≤ length l.line) × (l.at + prefix_len is_word_byte (drop l.at l.line) ≡ prefix_len is_word_byte l.line)

abbrev pub decreases-loop-at : goal.decreases-loop-at
decreases-loop-at l = length l.line - l.at
