use Rattle.std.proofs.Common.{ap, length, arith}
use Rattle.mv_elf.proofs.MemoryLaws.{bytes_length}
use Rattle.mv_elf.proofs.memory.load.Goals as goal

pub words_of_bytes-requires : goal.words_of_bytes-requires
words_of_bytes-requires c = omega (arith, ap length c.as_slice.ensures.value, ap length c.in_ok-memory.ensures, bytes_length c.args.region c.args.bytes.now)
