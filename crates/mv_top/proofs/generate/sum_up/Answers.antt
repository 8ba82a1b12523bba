use Rattle.std.proofs.Common.{true, refl, ◌∙◌}
use Rattle.mv_io.proofs.Common.{count_kept, count_most, count_since}
use Rattle.mv_top.specs.Generating as spec
use Rattle.mv_top.proofs.Counting.{summed_stands}
use Rattle.mv_top.proofs.Generating.{all_summed, not_summed, part_summed}
use Rattle.mv_top.proofs.generate.sum_up.Goals as goal

pub returns-then-not-is_summed_up-clause-sums : goal.returns-then-not-is_summed_up-clause-sums
returns-then-not-is_summed_up-clause-sums g c fair = not_summed c.args.number _ c.args.ran c.is_summed_up.result c.is_summed_up.ensures c.if-not-is_summed_up.true fair

pub returns-in_default-clause-sums : goal.returns-in_default-clause-sums
returns-in_default-clause-sums g c fair = spec.Sums.unmade refl

pub returns-in-Ok-write_all-clause-sums : goal.returns-in-Ok-write_all-clause-sums
returns-in-Ok-write_all-clause-sums g c fair =
    all_summed c.args.number _ c.args.ran c.is_summed_up.result c.is_summed_up.ensures _ c.as_bytes.result.now (c.as_bytes.ensures.value ∙ c.as_str.ensures.value ∙ c.in-Ok.ensures)
    c.if-not-is_summed_up.false c.in-Ok-write_all.ensures.bytes

pub returns-clause-sums : goal.returns-clause-sums
returns-clause-sums g c fair =
    part_summed c.args.number _ c.args.ran c.is_summed_up.result c.is_summed_up.ensures _ c.as_bytes.result.now (c.as_bytes.ensures.value ∙ c.as_str.ensures.value ∙ c.in-Ok.ensures)
    c.if-not-is_summed_up.false c.in-Err.ensures.bytes c.in-Err.ensures.cause.failed

pub returns-then-not-is_summed_up-clause-count : goal.returns-then-not-is_summed_up-clause-count
returns-then-not-is_summed_up-clause-count g c before h = h

pub returns-in_default-clause-count : goal.returns-in_default-clause-count
returns-in_default-clause-count g c before h = count_most _ _ _ h

pub returns-in-Ok-write_all-clause-count : goal.returns-in-Ok-write_all-clause-count
returns-in-Ok-write_all-clause-count g c before h =
    count_kept _ _ _ (c.in-Ok-write_all.ensures.cause.count ∙ summed_stands c.args.ran c.is_summed_up.result _ _ c.is_summed_up.ensures c.if-not-is_summed_up.false h)

pub returns-clause-count : goal.returns-clause-count
returns-clause-count g c before h =
    count_since true _ _ _ (summed_stands c.args.ran c.is_summed_up.result _ _ c.is_summed_up.ensures c.if-not-is_summed_up.false h) c.in-Err.ensures.cause.count
