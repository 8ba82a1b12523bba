use Rattle.std.proofs.Common.{◌≡◌, Some, slice_get, subst, arith}
use Rattle.std.proofs.lemmas.Option.{slice_get_within, get_or_from_slice_get}
use borrow.Author.Count.{below_more}
use Rattle.mv_bindings.specs.declared.action.Action.{Action}
use Rattle.mv_bindings.specs.Acts.{IsOfWord}
use Rattle.mv_parts.proofs.Lists.{all_by_index}
use Rattle.mv_refine.proofs.are_of_words.Goals as goal

pub loop-action-preserved : goal.loop-action-preserved
loop-action-preserved c =
    let actions = c.args.actions.now in
    let i = c.loop-action.action-index in
    below_more (λ k. (a : Action) → slice_get actions k ≡ Some a → IsOfWord a) i c.loop-action.invariant
    (λ a is. subst IsOfWord (get_or_from_slice_get actions i a _ is) c.is_of_word.ensures)

pub returns : goal.returns
returns c =
    all_by_index IsOfWord c.args.actions.now
    (λ k a is. let within = slice_get_within c.args.actions.now k a is in c.loop-action.invariant k (omega (arith, within)) a is)
