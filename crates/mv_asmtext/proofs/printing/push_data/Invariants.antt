use Rattle.std.proofs.Common.{◌≡◌, ◌++◌, drop}
use Rattle.mv_asmtext.specs.Printing.{raw_lines}
use Rattle.mv_asmtext.proofs.printing.push_data.Given as goal

abbrev pub invariant-loop-word : goal.invariant-loop-word
invariant-loop-word l = l.out.items ++ raw_lines (drop l.word-index l.words) ≡ l.initial.out.items ++ raw_lines l.words
