use Rattle.std.proofs.Common.{ℕ, ◌≡◌, length, map, take, slice_get}
use Rattle.mv_patch.specs.Orders.{word_in}
use Rattle.mv_patch.proofs.bindings.switch_words.Given as goal

abbrev pub invariant-loop-i : goal.invariant-loop-i
invariant-loop-i l = record {
  count : length l.words ≡ 6;
  done : take l.i l.words ≡ map (λ (s : ℕ). word_in l.memory.held (slice_get l.image.switches s)) (take l.i l.row.switches);
}
