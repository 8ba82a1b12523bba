use Rattle.std.proofs.Common.{◌≡◌, ◌+◌, drop}
use Rattle.mv_linker.specs.Linked.{function_variants, variant_codes}
use Rattle.mv_linker.specs.Joining.{with_codes}
use Rattle.mv_linker.proofs.Joining.{same_labels, same_entries, more_codes, function_codes_at}
use Rattle.mv_linker.proofs.joined.push_all_variants.Goals as goal

pub loop-function-preserved : goal.loop-function-preserved
loop-function-preserved c =
    let x = c.function-item.result in
    let xs = c.args.attributed.now in
    let i = c.loop-function.function-index in
    let all = variant_codes (function_variants xs) in
    let rest = variant_codes (function_variants (drop (i + 1) xs)) in
    let pushed : c.push_variants.new.joined ≡ with_codes c.loop-function.joined (variant_codes x.variants) = rw c.as_slice.ensures at c.in_ok-push_variants.ensures in
    let joined = more_codes c.loop-function.joined c.push_variants.new.joined (with_codes c.args.joined.now all) (variant_codes x.variants) rest (variant_codes (function_variants (drop i xs))) pushed
    (function_codes_at xs i x c.loop-function-test.true c.function-item.is) c.loop-function.invariant.joined in
    record {
      joined = joined;
      labels = same_labels c.push_variants.new.joined c.args.joined.now rest all joined;
      entries = same_entries c.push_variants.new.joined c.args.joined.now rest all joined;
    }
