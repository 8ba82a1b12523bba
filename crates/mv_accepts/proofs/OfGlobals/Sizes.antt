-- What is declared has a word: an array has at least one element (C11 6.7.6.2).
use Rattle.std.proofs.Common.{◌≡◌, ℕ, zero, suc, ◌<◌, arith, false, Option, Some, None}
use Rattle.mv_ast.specs.Counts.{words_of_size}
use Rattle.mv_check_declarations.specs.Objects.{is_empty}

-- what has this size has a word
abbrev pub HasWord : Option ℕ → Type 0
HasWord size = 0 < words_of_size size

pub size_has : (size : Option ℕ) → is_empty size ≡ false → HasWord size
size_has None h = omega arith
size_has (Some zero) h = absurd (cc)
size_has (Some (suc n)) h = omega arith
