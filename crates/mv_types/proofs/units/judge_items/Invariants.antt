use Rattle.std.proofs.Common.{◌≡◌, drop}
use Rattle.mv_check_declarations.specs.Turns.{through}
use Rattle.mv_types.specs.Units.{item_judgement}
use Rattle.mv_types.proofs.units.judge_items.Given as goal

abbrev pub invariant-loop-item : goal.invariant-loop-item
invariant-loop-item l = record {
  rest : through (item_judgement l.known) l.items l.initial.contents ≡ through (item_judgement l.known) (drop l.item-index l.items) l.contents;
}
