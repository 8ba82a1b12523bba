use Rattle.mv_regalloc.proofs.told.Firsts.+tell_part.Given as goal

abbrev pub decreases-tell_part : goal.decreases-tell_part
decreases-tell_part l = l.number
