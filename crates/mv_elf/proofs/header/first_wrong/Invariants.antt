use Rattle.std.proofs.Common.{◌≡◌, ℕ, ◌<◌, true}
use Rattle.mv_elf.specs.Header.{field_fits}
use Rattle.mv_elf.proofs.header.first_wrong.Given as goal

abbrev pub invariant-loop-at : goal.invariant-loop-at
invariant-loop-at l = (k : ℕ) → k < l.at → field_fits l.bytes k ≡ true
