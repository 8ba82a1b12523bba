-- Cursors go forward.
use Rattle.std.proofs.Common.{◌≡◌, ℕ, arith, sym, ap, ◌∙◌}
use Rattle.mv_image.specs.declared.places.Cursor.{Cursor}
use Rattle.mv_image.specs.Places.{sum_below}
use Rattle.mv_image.specs.Cursors.{HasReached}
use Rattle.mv_image.proofs.PlaceLaws.{sum_below-none}

pub reached_first : (count : ℕ → ℕ) (n : ℕ) (cursor : Cursor) → cursor.owner ≡ 0 → cursor.start ≡ 0 → HasReached count n 0 cursor
reached_first count n cursor o s = record {
  owner = omega (arith, o);
  start = s ∙ sym (ap (sum_below count) o ∙ sum_below-none count);
  before = omega (arith, s);
}
