use Rattle.std.proofs.Common.{◌≡◌, option_map, vec_len}
use Rattle.mv_harts_one.specs.Seats.{store_as}
use Rattle.mv_harts_turns.proofs.Changing.{ChangedBelow, TakesFrom}
use Rattle.mv_harts_turns.proofs.share.share.Given as goal

abbrev pub invariant-loop-place : goal.invariant-loop-place
invariant-loop-place l = record {
  count : vec_len l.others ≡ vec_len l.initial.others;
  changed : ChangedBelow (TakesFrom (option_map store_as l.store) l.from) l.place l.initial.others.items l.others.items;
}
