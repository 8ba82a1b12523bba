use Rattle.mv_elf.proofs.writing.second_spelling.Goals as goal

pub returns : goal.returns
returns c = rw c.in_ok-second.ensures at c.write-bytes.ensures
