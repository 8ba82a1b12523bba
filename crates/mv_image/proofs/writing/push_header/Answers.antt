use Rattle.std.proofs.Common.{◌∙◌}
use Rattle.mv_image.proofs.ImageRules.{header_short}
use Rattle.mv_image.proofs.writing.push_header.Goals as goal

pub returns-else-version-eq2 : goal.returns-else-version-eq2
returns-else-version-eq2 c =
    let short = header_short c.args.image.now (λ e. c.if-version-eq2.false (c.version-2.ensures ∙ e)) in
    let pushed = c.in_ok-push_all.ensures.ok in
    cc (short, pushed)
