use Rattle.std.proofs.Common.{◌≤◌, ◌<◌, ◌*◌, arith}
use Rattle.std.specs.Prelude.{slice_index}
use Rattle.mv_regalloc.proofs.Pairing.{first_of_two, second_of_two}
use Rattle.mv_regalloc.proofs.ends.first_of_pair.Goals as goal

pub returns-then-word_at-at : goal.returns-then-word_at-at
returns-then-word_at-at c = λ lesser l h.
    let low : slice_index c.args.ends.now (c.args.pair * 2) ≤ c.args.at = omega (arith, c.if-word_at-at.true, c.word_at.ensures) in
    first_of_two c.args.ends.now lesser l c.args.pair c.args.at h low

pub returns-else-word_at-at : goal.returns-else-word_at-at
returns-else-word_at-at c = λ lesser l h.
    let high : c.args.at < slice_index c.args.ends.now (c.args.pair * 2) = omega (arith, c.if-word_at-at.false, c.word_at.ensures) in
    second_of_two c.args.ends.now lesser l c.args.pair c.args.at h high
