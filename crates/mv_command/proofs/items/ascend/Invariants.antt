use Rattle.std.proofs.Common.{drop}
use Rattle.mv_command.specs.Items.{Ascend}
use Rattle.mv_command.proofs.items.ascend.Given as goal

abbrev pub invariant-loop-item : goal.invariant-loop-item
invariant-loop-item l = record {
  there : Ascend 0 l.item-items → Ascend l.last (drop l.item-index l.item-items);
  back : Ascend l.last (drop l.item-index l.item-items) → Ascend 0 l.item-items;
}
