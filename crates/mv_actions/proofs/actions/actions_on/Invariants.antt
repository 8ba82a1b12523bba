use Rattle.std.proofs.Common.{ℕ, ◌≡◌, ◌<◌, ◌++◌, false, length, get_or, drop}
use Rattle.std.specs.Prelude.{is_none}
use Rattle.mv_command.specs.declared.items.Item.{Item}
use Rattle.mv_command.specs.Items.{Ascend}
use Rattle.mv_actions.specs.Operator.{flip_of, actions_from}
use Rattle.mv_actions.proofs.actions.actions_on.Given as goal

abbrev pub invariant-loop-item : goal.invariant-loop-item
invariant-loop-item l = record {
  counted : l.number ≡ l.item-index;
  ascend : Ascend (length l.actions.items) (drop l.item-index l.item-items);
  spelled : actions_from l.switches 0 l.item-items ≡ l.actions.items ++ actions_from l.switches (length l.actions.items) (drop l.item-index l.item-items);
  right : (k : ℕ) (d : Item) → k < l.item-index → is_none (flip_of l.switches (get_or l.item-items k d)) ≡ false;
}
