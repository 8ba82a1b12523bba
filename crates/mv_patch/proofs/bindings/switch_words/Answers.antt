use Rattle.std.proofs.Common.{ℕ, slice_get, arith, ◌∙◌}
use Rattle.std.proofs.lemmas.List.{length-set}
use Rattle.mv_patch.specs.Orders.{word_in}
use Rattle.mv_patch.proofs.Switches.{map_more}
use Rattle.mv_patch.proofs.bindings.switch_words.Goals as goal

pub loop-i-preserved : goal.loop-i-preserved
loop-i-preserved c =
    let l = c.loop-i in
    let whole = c.has_width.ensures in
    let count = l.invariant.count in
    record {
      count = length-set l.words l.i c.switch_word.result ∙ count;
      done = map_more (λ (s : ℕ). word_in c.args.memory.now.held (slice_get c.args.image.now.switches s)) c.args.row.now.switches l.words l.i c.switch_word.result
          (omega (arith, c.loop-i-test.true, c.requires, whole)) (omega (arith, c.loop-i-test.true, c.requires, count)) c.switch_word.ensures l.invariant.done;
    }
