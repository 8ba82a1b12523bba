use Rattle.std.proofs.Common.{◌≡◌, map, take}
use Rattle.std.specs.Prelude.{All}
use Rattle.mv_command.specs.Items.{IsItem, item_text}
use Rattle.mv_command.proofs.items.items_of.Given as goal

abbrev pub invariant-loop-text : goal.invariant-loop-text
invariant-loop-text l = record {
  each : All IsItem l.items;
  texts : map item_text l.items ≡ take l.text-index (map (λ text. text.now) l.texts);
}
