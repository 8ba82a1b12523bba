use Rattle.std.proofs.Common.{◌≡◌, slice_get}
use Rattle.std.proofs.lemmas.Option.{slice_get_read}
use Rattle.std.proofs.lemmas.List.{set-set}
use Rattle.mv_interpret.proofs.state.put_word.Goals as goal

pub returns-then-which-len : goal.returns-then-which-len
returns-then-which-len c =
    let old = c.args.objects.now in
    let held : slice_get old c.args.which ≡ _ =
    slice_get_read old c.len.result c.args.which _ c.len.ensures c.if-which-len.true c.set-words.ensures.value in
    rw (c.set.ensures.items, c.set-words.ensures.items, c.set_word.ensures, held) (set-set _ _ _ _)
