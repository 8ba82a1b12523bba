use Rattle.std.proofs.Common.{ℕ, ◌≡◌, ◌&&◌, true}
use Rattle.mv_regalloc.specs.LiveBits.{in_word}
use Rattle.mv_regalloc.specs.Told.{IsPut}
use Rattle.mv_regalloc.proofs.Turning.{turned}
use Rattle.mv_regalloc.proofs.told.put_word.Given as goal

abbrev pub invariant-loop-left : goal.invariant-loop-left
invariant-loop-left l = record {
  values : IsPut (λ t. turned l.place l.left t && (in_word l.word t && true)) l.value l.fn.values l.values;
  within : (t : ℕ) → in_word l.left t ≡ true → in_word l.word t ≡ true;
}

abbrev pub decreases-loop-left : goal.decreases-loop-left
decreases-loop-left l = l.left
