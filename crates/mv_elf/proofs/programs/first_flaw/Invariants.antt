use Rattle.std.proofs.Common.{◌≡◌}
use Rattle.mv_elf.specs.Segments.{is_loaded, reach, AreRight}
use Rattle.mv_elf.proofs.programs.first_flaw.Given as goal

abbrev pub invariant-loop-i : goal.invariant-loop-i
invariant-loop-i l = record { right : AreRight l.bytes l.i; reached : l.reached ≡ reach is_loaded l.bytes l.i }
