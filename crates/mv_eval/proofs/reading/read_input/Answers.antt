use Rattle.std.proofs.Common.{arith, length-append, true, [], ◌∷◌}
use Rattle.mv_eval.proofs.Inputs.{full, lost_more, lost_still, part, whole}
use Rattle.mv_eval.proofs.reading.read_input.Goals as goal
use Rattle.mv_io.proofs.Common.{count_since, rose_since}

pub returns-in-Ok-None-clause-reads : goal.returns-in-Ok-None-clause-reads
returns-in-Ok-None-clause-reads g c =
    let i = c.reading.invariant in
    whole (g.S.Source.left c.args.source.now) (g.S.Source.left c.reading.source) (g.S.Source.left c.read_byte.new.self) c.reading.bytes i.lost i.few
    (rw c.in-Ok-None.field-0-is at c.in-Ok-None.ensures.bytes)

pub returns-in-Err-clause-reads : goal.returns-in-Err-clause-reads
returns-in-Err-clause-reads g c =
    let i = c.reading.invariant in
    let left = g.S.Source.left c.read_byte.new.self in
    let lost = lost_still (g.S.Source.left c.args.source.now) (g.S.Source.left c.reading.source) left c.reading.bytes i.lost c.in-Err.field-0 c.in-Err.ensures.bytes in (
      part (g.S.Source.left c.args.source.now) left c.reading.bytes lost i.few,
      rose_since (g.S.Source.faults c.args.source.now) (g.S.Source.faults c.reading.source) (g.S.Source.faults c.read_byte.new.self) i.stands c.in-Err.ensures.cause.failed,
    )

pub returns-in-Err-clause-count : goal.returns-in-Err-clause-count
returns-in-Err-clause-count g c = count_since true _ _ _ c.reading.invariant.stands c.in-Err.ensures.cause.count

pub returns-then-is_err-clause-reads : goal.returns-then-is_err-clause-reads
returns-then-is_err-clause-reads g c =
    let i = c.reading.invariant in
    let left = g.S.Source.left c.read_byte.new.self in
    let byte = c.in-Ok-Some.byte in
    let lost = lost_more (g.S.Source.left c.args.source.now) (g.S.Source.left c.reading.source) left c.reading.bytes i.lost byte (rw c.in-Ok-Some.field-0-is at c.in-Ok-Some.ensures.bytes) in
    part (g.S.Source.left c.args.source.now) left _ lost (omega (arith, c.reading-test.true, c.len.ensures, length-append c.reading.bytes (byte ∷ [])))

pub returns-clause-reads : goal.returns-clause-reads
returns-clause-reads g c =
    let i = c.reading.invariant in (
      i.lost,
      λ later may. full c.reading.bytes (omega (arith, i.few, c.len.ensures, c.reading-test.false)) later,
    )
