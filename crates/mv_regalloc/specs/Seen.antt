-- What one temporary sees of what is live around some code.
use Rattle.std.specs.Prelude.{ℕ, ◌≡◌, false, length}
use Rattle.mv_ir.specs.Live.{mark_at, Around}
use Rattle.mv_regalloc.specs.Rows.{Sets, behind, at_start}

-- what one temporary sees of the sets
abbrev pub seen : Sets → ℕ → Around
seen r t = record { next = mark_at r.next t; leaves = λ k. mark_at (behind r k) t; restarts = λ k. mark_at (at_start r k) t }

-- a bit for each of n temporaries throughout
pub record Wide (n : ℕ) (r : Sets) : Type 0 where
  pub none : length r.none ≡ n
  pub clear : (t : ℕ) → mark_at r.none t ≡ false
  pub next : length r.next ≡ n
  pub leaves : (k : ℕ) → length (behind r k) ≡ n
  pub restarts : (k : ℕ) → length (at_start r k) ≡ n
