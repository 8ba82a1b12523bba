use Rattle.std.proofs.Common.{◌≡◌, Some, get_or, slice_get, subst, arith}
use Rattle.std.proofs.lemmas.Option.{get_or_from_slice_get, slice_get-get_or}
use borrow.Author.Count.{below_more}
use Rattle.mv_bindings.specs.declared.action.Action.{Action}
use Rattle.mv_bindings.specs.Acts.{IsOfWord}
use Rattle.mv_harts.proofs.harts.are_of_words.Goals as goal

pub loop-action-preserved : goal.loop-action-preserved
loop-action-preserved c =
    let actions = c.args.actions.now in
    let i = c.loop-action.action-index in
    below_more (λ k. (a : Action) → slice_get actions k ≡ Some a → IsOfWord a) i c.loop-action.invariant
    (λ a is. subst IsOfWord (get_or_from_slice_get actions i a _ is) c.is_of_word.ensures)

pub returns : goal.returns
returns c k d here =
    let actions = c.args.actions.now in c.loop-action.invariant k (omega (arith, here)) (get_or actions k d) (slice_get-get_or actions k d here)
