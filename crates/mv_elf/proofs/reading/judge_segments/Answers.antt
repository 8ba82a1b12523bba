use Rattle.std.proofs.Common.{arith}
use Rattle.mv_elf.proofs.SegmentLaws.{count_small}
use Rattle.mv_elf.proofs.reading.judge_segments.Goals as goal

pub program_at-requires-clause-i : goal.program_at-requires-clause-i
program_at-requires-clause-i c =
    let wrong = rw c.in-Some-Wrong.field-0-is at c.in-Some-Wrong.ensures.some in
    omega (arith, wrong.within, count_small c.args.bytes.now (λ i. omega (arith, c.type_inv.bytes i)))
