-- Positions, and the marks of one temporary at them.
use Rattle.std.proofs.Common.{arith, ◌≡◌, ℕ, suc, ◌+◌, ◌-◌, ◌<◌, Bool, true, false, cond, ◌||◌, List, [], ◌∷◌, length, drop, get_or, refl, sym, ap, ◌∙◌}
use Rattle.std.specs.Prelude.{slice_set}
use Rattle.std.proofs.lemmas.List.{drop_more}
use Rattle.mv_ir.specs.Live.{marks_length}
use Rattle.mv_regalloc.specs.Rows.{Bits}
use Rattle.mv_regalloc.specs.Spanned.{column, from_first, behind_last, with_params}
use Rattle.mv_ast.specs.Names.{any_of}

-- from the end of a list, one item more
pub from_end : {A : Type 0} (code : List A) (done : ℕ) (s : A) → done < length code → s ≡ get_or code (length code - 1 - done) s → drop (length code - (done + 1)) code ≡ s ∷ drop (length code - done) code
from_end code done s h e =
    let k = length code - 1 - done in
    let here : length code - (done + 1) ≡ k = omega arith in
    let next : k + 1 ≡ length code - done = omega arith in
    let low : k < length code = omega arith in
    ap (λ i. drop i code) here ∙ drop_more code k s low ∙ ap (λ x. x ∷ drop (k + 1) code) (sym e) ∙ ap (λ i. s ∷ drop i code) next

-- ---- the marks of one temporary

pub column_long : (t : ℕ) (rows : List Bits) → marks_length (column t rows) ≡ length rows
column_long t [] = refl
column_long t (x ∷ rows) = ap suc (column_long t rows)

pub none_first : (xs : List Bool) → any_of xs ≡ false → from_first xs ≡ 0
none_first [] h = refl
none_first (true ∷ xs) h = let e : true ≡ false = h in absurd cc
none_first (false ∷ xs) h = none_first xs h

pub none_last : (xs : List Bool) → any_of xs ≡ false → behind_last xs ≡ 0
none_last [] h = refl
none_last (true ∷ xs) h = let e : true ≡ false = h in absurd cc
none_last (false ∷ xs) h = ap (λ c. cond c (behind_last xs) 0) (the xs h)
  where
    the : (xs : List Bool) → (false || any_of xs) ≡ false → any_of xs ≡ false
    the xs h = h

-- ---- parameters

pub params_more : (n : ℕ) (bits : Bits) → with_params (n + 1) bits ≡ slice_set (with_params n bits) n true
params_more n bits = let e : n + 1 ≡ suc n = omega arith in ap (λ k. with_params k bits) e
