use Rattle.std.proofs.Common.{◌/◌, ◌&&◌, eqb, not, sym, ap, ◌∙◌}
use Rattle.std.specs.Prelude.{slice_index}
use Rattle.mv_regalloc.specs.LiveBits.{in_word, word_bit}
use Rattle.mv_regalloc.proofs.Putting.{put_as}
use Rattle.mv_regalloc.proofs.Turning.{place_as}
use Rattle.mv_regalloc.proofs.told.Firsts.tell_word.Goals as goal

pub returns-clause-values : goal.returns-clause-values
returns-clause-values c =
    let s = c.args.self.now in
    let place = c.args.place in
    put_as (λ t. eqb (t / 64) place && in_word c.except.result t) (λ t. eqb (t / 64) place && (in_word c.args.word t && not (word_bit s.told t))) c.args.value s.values c.put_word.new.values
    (λ t l. place_as place t (in_word c.except.result t) (in_word c.args.word t && not (word_bit s.told t))
    (λ e. c.except.ensures t ∙ ap (λ w. in_word c.args.word t && not (in_word w t)) (c.item-told.ensures ∙ ap (slice_index s.told) (sym e)))) c.put_word.ensures
