use Rattle.std.proofs.Common.{refl, ◌∙◌}
use Rattle.mv_io.proofs.Common.{count_kept}
use Rattle.mv_notes.specs.Lines.{unmade}
use Rattle.mv_notes.proofs.Writing.{all_written, part_written}
use Rattle.mv_notes.proofs.notes.report.Goals as goal

pub returns-in_default-clause-noted : goal.returns-in_default-clause-noted
returns-in_default-clause-noted g c = unmade refl refl

pub returns-in-Ok-write_all-clause-noted : goal.returns-in-Ok-write_all-clause-noted
returns-in-Ok-write_all-clause-noted g c =
    all_written c.args.performed.lines.items c.args.performed.status _ _ _ _ c.as_slice.result.now
    (c.as_slice.ensures.value ∙ c.in-Ok.ensures) c.in-Ok-write_all.ensures.bytes c.in-Ok-write_all.ensures.cause.count

pub returns-clause-noted : goal.returns-clause-noted
returns-clause-noted g c = part_written c.args.performed.lines.items c.args.performed.status _ _ _ _ c.as_slice.result.now (c.as_slice.ensures.value ∙ c.in-Ok.ensures) c.in-Err.ensures.bytes c.in-Err.ensures.cause.failed

pub returns-in-Ok-write_all-clause-count : goal.returns-in-Ok-write_all-clause-count
returns-in-Ok-write_all-clause-count g c = count_kept _ _ _ c.in-Ok-write_all.ensures.cause.count
