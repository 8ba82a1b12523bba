-- Numbers of two and of four bytes, as they are read of a part of a file.
use Rattle.std.proofs.Common.{◌≡◌, ◌<◌, ◌≤◌, ◌+◌, ◌*◌, ◌-◌, ◌∙◌, ℕ, zero, suc, List, ap, refl, arith, drop, slice_index, slice_range}
use Rattle.std.proofs.lemmas.List.{get_or-take, get_or-drop}
use Rattle.byteorder.specs.Endian.{little_from}

in_part : (bytes : List ℕ) (at n j : ℕ) → j < n → slice_index (slice_range bytes at (at + n)) j ≡ slice_index bytes (at + j)
in_part bytes at n j lt = get_or-take ((at + n) - at) (drop at bytes) j 0 (omega arith) ∙ get_or-drop at bytes j 0

number_in : (bytes : List ℕ) (at n i m : ℕ) → i + m ≤ n → little_from i m (slice_range bytes at (at + n)) ≡ little_from (at + i) m bytes
number_in bytes at n i zero h = refl
number_in bytes at n i (suc m) h =
    let part : List ℕ = slice_range bytes at (at + n) in
    let next : at + suc i ≡ suc (at + i) = omega arith in
    let rest = number_in bytes at n (suc i) m (omega arith) ∙ ap (λ (k : ℕ). little_from k m bytes) next in
    ap (λ (x : ℕ). x + 256 * little_from (suc i) m part) (in_part bytes at n i (omega arith)) ∙ ap (λ (y : ℕ). slice_index bytes (at + i) + 256 * y) rest

pub number_at : (bytes : List ℕ) (at n : ℕ) → little_from 0 n (slice_range bytes at (at + n)) ≡ little_from at n bytes
number_at bytes at n = let same : at + 0 ≡ at = omega arith in number_in bytes at n 0 n (omega arith) ∙ ap (λ (k : ℕ). little_from k n bytes) same
