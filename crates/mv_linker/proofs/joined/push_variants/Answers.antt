use Rattle.std.proofs.Common.{◌+◌, [], ◌∷◌, drop}
use Rattle.mv_linker.specs.Linked.{variant_codes}
use Rattle.mv_linker.specs.Joining.{with_codes}
use Rattle.mv_linker.proofs.Joining.{same_labels, same_entries, more_codes, variants_at}
use Rattle.mv_linker.proofs.joined.push_variants.Goals as goal

pub loop-variant-preserved : goal.loop-variant-preserved
loop-variant-preserved c =
    let x = c.variant-item.result in
    let xs = c.args.variants.now in
    let i = c.loop-variant.variant-index in
    let rest = variant_codes (drop (i + 1) xs) in
    let joined = more_codes c.loop-variant.joined c.push_code.new.joined (with_codes c.args.joined.now (variant_codes xs)) (x.code ∷ []) rest (variant_codes (drop i xs)) c.in_ok-push_code.ensures
    (variants_at xs i x c.loop-variant-test.true c.variant-item.is) c.loop-variant.invariant.joined in
    record {
      joined = joined;
      labels = same_labels c.push_code.new.joined c.args.joined.now rest (variant_codes xs) joined;
      entries = same_entries c.push_code.new.joined c.args.joined.now rest (variant_codes xs) joined;
    }
