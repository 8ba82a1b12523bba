use Rattle.std.proofs.Common.{◌+◌, [], ◌∷◌, drop}
use Rattle.mv_linker.specs.Joining.{with_codes}
use Rattle.mv_linker.proofs.Joining.{same_labels, same_entries, more_codes, codes_at}
use Rattle.mv_linker.proofs.joined.push_functions.Goals as goal

pub loop-code-preserved : goal.loop-code-preserved
loop-code-preserved c =
    let x = c.code-item.result in
    let xs = c.args.functions.now in
    let i = c.loop-code.code-index in
    let rest = drop (i + 1) xs in
    let joined = more_codes c.loop-code.joined c.push_code.new.joined (with_codes c.args.joined.now xs) (x ∷ []) rest (drop i xs) c.in_ok-push_code.ensures
    (codes_at xs i x c.loop-code-test.true c.code-item.is) c.loop-code.invariant.joined in
    record {
      joined = joined;
      labels = same_labels c.push_code.new.joined c.args.joined.now rest xs joined;
      entries = same_entries c.push_code.new.joined c.args.joined.now rest xs joined;
    }
