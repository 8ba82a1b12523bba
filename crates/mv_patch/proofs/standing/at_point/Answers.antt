use Rattle.std.proofs.Common.{◌≡◌, ◌+◌, slice_index, sym, ap, ◌∙◌}
use Rattle.mv_image.specs.Jumps.{jump, bound_words}
use Rattle.mv_patch.proofs.standing.at_point.Goals as goal

pub returns-in-0-clause-some : goal.returns-in-0-clause-some
unfolding bound_words
returns-in-0-clause-some c entry e = c.jal.ensures ∙ ap (slice_index (bound_words c.args.check c.args.at entry)) (sym c.in-0.is)

pub returns-in-3-clause-some : goal.returns-in-3-clause-some
unfolding bound_words
returns-in-3-clause-some c entry e =
    let first = c.in-Some.is in
    let same : c.in-Some.entry ≡ entry = cc in
    c.jal-in-3.ensures ∙ ap (jump 1 (c.args.at + 12)) same ∙ ap (slice_index (bound_words c.args.check c.args.at entry)) (sym c.in-3.is)
