use Rattle.std.proofs.Common.{◌≡◌, vec_len}
use Rattle.mv_harts_turns.specs.Groups.{IsFreed}
use Rattle.mv_harts_turns.proofs.Changing.{ChangedBelow}
use Rattle.mv_harts_turns.proofs.share.free.Given as goal

abbrev pub invariant-loop-place : goal.invariant-loop-place
invariant-loop-place l = record {
  count : vec_len l.others ≡ vec_len l.initial.others;
  changed : ChangedBelow (λ n. IsFreed) l.place l.initial.others.items l.others.items;
}
