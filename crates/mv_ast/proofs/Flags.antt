-- Flags that are set for some numbers.
use Rattle.std.proofs.Common.{◌≡◌, ℕ, ◌<◌, Bool, true, false, List, [], ◌∷◌, ◌++◌, length, replicate, refl, sym, ap, ◌∙◌, arith}
use Rattle.std.specs.Prelude.{◌||◌, nat_eq, slice_set}
use Rattle.std.proofs.lemmas.List.{get_or-replicate, length-replicate, get_or-set_other, length-set}
use Rattle.std.proofs.lemmas.Grind.{get_or-set_at}
use Rattle.std.proofs.lemmas.Bool.{eqb-true, eqb-false}
use Rattle.mv_num.proofs.Booleans.{or_false, or_taken_in}
use Rattle.mv_ast.specs.Flags.{flagged, is_set}
use Rattle.mv_num.specs.Lists.{is_among}

pub flagged_both : (xs ys : List ℕ) (flags : List Bool) → flagged (xs ++ ys) flags ≡ flagged ys (flagged xs flags)
flagged_both [] ys flags = refl
flagged_both (x ∷ xs) ys flags = flagged_both xs ys (slice_set flags x true)

is_set_flagged : (ns : List ℕ) (flags : List Bool) (k : ℕ) → k < length flags → is_set (flagged ns flags) k ≡ (is_set flags k || is_among k ns)
is_set_flagged [] flags k h = sym (or_false (is_set flags k))
is_set_flagged (n ∷ ns) flags k h =
    let long = length-set flags n true in
    is_set_flagged ns (slice_set flags n true) k (omega (arith, long)) ∙ by (nat_eq k n) refl
  where
    by : (b : Bool) → nat_eq k n ≡ b → (is_set (slice_set flags n true) k || is_among k ns) ≡ (is_set flags k || (nat_eq k n || is_among k ns))
    by true e =
        let same = eqb-true k n e in
        ap (λ b. b || is_among k ns) (get_or-set_at flags n k true false same (omega arith)) ∙
        (or_taken_in (is_set flags k) (is_among k ns) ∙ ap (λ b. is_set flags k || (b || is_among k ns)) (sym e))
    by false e = ap (λ b. b || is_among k ns) (get_or-set_other flags n k true false (eqb-false k n e)) ∙ ap (λ b. is_set flags k || (b || is_among k ns)) (sym e)

-- a flag that was not set before is set for a number among these
pub set_from_none : (n : ℕ) (ns : List ℕ) (k : ℕ) → k < n → is_set (flagged ns (replicate n false)) k ≡ is_among k ns
set_from_none n ns k h =
    let long = length-replicate n false in
    is_set_flagged ns (replicate n false) k (omega (arith, long)) ∙ ap (λ b. b || is_among k ns) (get_or-replicate n k false false h)
