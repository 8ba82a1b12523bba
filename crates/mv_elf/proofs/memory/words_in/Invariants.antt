use Rattle.std.proofs.Common.{◌≡◌}
use Rattle.mv_elf.specs.Segments.{lies_in, reach}
use Rattle.mv_elf.proofs.memory.words_in.Given as goal

abbrev pub invariant-loop-i : goal.invariant-loop-i
invariant-loop-i l = l.reached ≡ reach (lies_in l.region) l.bytes l.i
