-- Sums of the sizes of arrays.
use Rattle.std.proofs.Common.{◌≡◌, ℕ, ◌+◌, ◌<◌, List, [], ◌∷◌, length, take, get_or, ap, arith}
use Rattle.std.proofs.lemmas.List.{take_more}
use Rattle.mv_ir.specs.Measures.{total}
use Rattle.mv_ir.proofs.Joining.{total_append}

-- one size more
pub total_more : (xs : List ℕ) (i : ℕ) → i < length xs → total (take (i + 1) xs) ≡ total (take i xs) + get_or xs i 0
total_more xs i h =
    let last = total_append (take i xs) (get_or xs i 0 ∷ []) in
    let more = ap total (take_more xs i 0 h) in
    omega (arith, last, more)
