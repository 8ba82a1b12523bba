use Rattle.mv_variants.proofs.Grouped.{all_grouped}
use Rattle.mv_variants.proofs.grouping.grouped.Goals as goal

pub returns : goal.returns
returns c = all_grouped c.args.merged c.in_ok-variants.variants _ _ c.as_slice.ensures c.into_vec.ensures c.in_ok-variants.ensures
