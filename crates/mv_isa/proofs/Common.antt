-- Lemmas on this crate's words that the crates above share.
use Rattle.std.proofs.Common.{◌≡◌, ℕ, suc, ◌+◌, List, ◌∷◌, take, cond, ◌++◌, count_by}
use Rattle.std.proofs.lemmas.List.Sums.{sum_by-cons, sum_by-append}
use Rattle.mv_isa.specs.Code.{offset, is_label}
use Rattle.mv_isa.specs.declared.labelled.Line.{Line}

pub offset-cons : (x : ℕ) (xs : List ℕ) (k : ℕ) → offset (x ∷ xs) (suc k) ≡ x + offset xs k
offset-cons x xs k = sum_by-cons (λ n. n) x (take k xs)

pub count_append : (l : ℕ) (xs ys : List Line) → count_by (is_label l) (xs ++ ys) ≡ count_by (is_label l) xs + count_by (is_label l) ys
count_append l xs ys = sum_by-append (λ x. cond (is_label l x) 1 0) xs ys
