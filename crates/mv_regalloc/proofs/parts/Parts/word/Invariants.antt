use Rattle.std.proofs.Common.{◌≡◌}
use Rattle.mv_regalloc.specs.Parts.{word_of}
use Rattle.mv_regalloc.proofs.parts.Parts.word.Given as goal

abbrev pub invariant-loop-place : goal.invariant-loop-place
invariant-loop-place l = word_of l.self l.number l.place ≡ word_of l.self l.fn.number l.fn.place

abbrev pub decreases-loop-place : goal.decreases-loop-place
decreases-loop-place l = l.place
