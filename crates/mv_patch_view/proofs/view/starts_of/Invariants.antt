use Rattle.std.proofs.Common.{◌≡◌, ◌+◌, ◌≤◌, ℕ, length, get_or}
use Rattle.mv_image.specs.Patched.{variants_before}
use Rattle.mv_patch_view.proofs.view.starts_of.Given as goal

abbrev pub invariant-loop-row : goal.invariant-loop-row
invariant-loop-row l = record {
  count : length l.starts.items ≡ l.row-index + 1;
  sum : l.count ≡ variants_before l.image l.row-index;
  each : (function : ℕ) → function ≤ l.row-index → get_or l.starts.items function 0 ≡ variants_before l.image function;
}
