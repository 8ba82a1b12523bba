use Rattle.mv_regalloc.proofs.parts.Parts.+with_word.Given as goal

abbrev pub decreases-with_word : goal.decreases-with_word
decreases-with_word l = l.place
