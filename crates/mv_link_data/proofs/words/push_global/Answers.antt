use Rattle.std.proofs.lemmas.Result.{on_ok_weaker}
use Rattle.mv_link_data.proofs.Values.{pushed_are}
use Rattle.mv_link_data.proofs.words.push_global.Goals as goal

pub returns : goal.returns
returns c =
    on_ok_weaker c.push_zeros.result
    (λ e. pushed_are c.args.global.now c.words_of_size.result c.as_slice-given.result.now c.args.words.now c.push_given.new.words c.push_zeros.new.words
    c.as_slice-given.ensures c.words_of_size.ensures c.in_ok-push_given.ensures e)
    c.push_zeros.ensures
