use Rattle.std.proofs.Common.{◌≡◌, ◌++◌, drop}
use Rattle.mv_asmtext.specs.Printing.{word_lines}
use Rattle.mv_asmtext.proofs.printing.push_text.Given as goal

abbrev pub invariant-loop-word : goal.invariant-loop-word
invariant-loop-word l = l.out.items ++ word_lines (drop l.word-index l.words) ≡ l.initial.out.items ++ word_lines l.words
