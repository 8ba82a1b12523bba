use Rattle.std.proofs.Common.{◌≡◌, ℕ, ◌<◌, Some, slice_get}
use Rattle.mv_bindings.specs.declared.action.Action.{Action}
use Rattle.mv_bindings.specs.Acts.{IsOfWord}
use Rattle.mv_harts.proofs.harts.are_of_words.Given as goal

abbrev pub invariant-loop-action : goal.invariant-loop-action
invariant-loop-action l = (k : ℕ) → k < l.action-index → (a : Action) → slice_get l.actions k ≡ Some a → IsOfWord a
