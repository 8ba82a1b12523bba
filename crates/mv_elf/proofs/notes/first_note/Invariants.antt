use Rattle.std.proofs.Common.{◌≡◌, ℕ, ◌<◌, false}
use Rattle.mv_elf.specs.Segments.{segment_of}
use Rattle.mv_elf.specs.Notes.{is_ours}
use Rattle.mv_elf.proofs.notes.first_note.Given as goal

abbrev pub invariant-loop-i : goal.invariant-loop-i
invariant-loop-i l = (k : ℕ) → k < l.i → is_ours l.bytes (segment_of l.bytes k) ≡ false
