use Rattle.std.proofs.Common.{◌≡◌, ◌<◌, ◌+◌, ◌*◌, ℕ, length, slice_index}
use Rattle.mv_elf.specs.Segments.{region_start}
use Rattle.mv_elf.specs.Memory.{words_in, byte_of}
use Rattle.mv_elf.proofs.memory.bytes_in.Given as goal

abbrev pub invariant-loop-i : goal.invariant-loop-i
invariant-loop-i l = record {
  size : length l.memory.items ≡ 4 * words_in l.bytes l.region;
  cells : (k : ℕ) → k < 4 * words_in l.bytes l.region → slice_index l.memory.items k ≡ byte_of l.bytes l.i (region_start l.region + k);
}
