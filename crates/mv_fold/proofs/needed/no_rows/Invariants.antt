use Rattle.std.proofs.Common.{◌≡◌, ℕ, ◌<◌, length, [], slice_index_or, Vec, Global}
use Rattle.mv_fold.proofs.needed.no_rows.Given as goal

abbrev pub invariant-loop : goal.invariant-loop
invariant-loop l = (length l.rows.items ≡ l.counter) × ((k : ℕ) (d : Vec ℕ Global) → k < length l.rows.items → (slice_index_or l.rows.items k d).items ≡ [])
