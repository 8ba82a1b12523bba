use Rattle.std.proofs.Common.{◌-◌, reverse, ap, ◌∙◌}
use Rattle.std.specs.Prelude.{slice_set}
use Rattle.mv_tidy.proofs.Walked.{last_replaced}
use Rattle.mv_tidy.proofs.walk.replace_last.Goals as goal

pub returns : goal.returns
returns c = λ n rest e.
    ap reverse c.set.ensures.items ∙ ap (λ k. reverse (slice_set c.args.kept.now (k - 1) c.args.stm)) c.len-last.ensures ∙ last_replaced c.args.kept.now rest n c.args.stm e
