-- What encloses a statement, kept with the innermost last.
use Rattle.std.proofs.Common.{◌≡◌, ℕ, zero, suc, ◌-◌, ◌<◌, ◌≤◌, get_or, List, [], ◌∷◌, ◌++◌, length, Some, None, reverse, refl, ap, ◌∙◌, arith}
use Rattle.std.specs.Prelude.{slice_get}
use Rattle.std.proofs.lemmas.List.{reverse-append, length-reverse, get_or-reverse}
use Rattle.std.proofs.lemmas.Option.{slice_get-get_or, slice_get_past}
use Rattle.mv_ranges.specs.declared.around.Claim.{Claim}
use Rattle.mv_ranges.specs.Following.{claim_at}

claim_is : (xs : List Claim) (n : ℕ) → claim_at xs n ≡ slice_get xs n
claim_is [] n = refl
claim_is (x ∷ xs) zero = refl
claim_is (x ∷ xs) (suc n) = claim_is xs n

pub reverse_pushed : (xs : List Claim) (c : Claim) → reverse (xs ++ (c ∷ [])) ≡ c ∷ reverse xs
reverse_pushed xs c = reverse-append xs (c ∷ [])

pub claimed_within : (xs : List Claim) (n : ℕ) (d : Claim) → n < length xs → claim_at (reverse xs) n ≡ Some (get_or xs (length xs - 1 - n) d)
claimed_within xs n d lt = claim_is (reverse xs) n ∙ slice_get-get_or (reverse xs) n d (omega (arith, lt, length-reverse xs)) ∙ ap Some (get_or-reverse xs n d lt)

pub claimed_past : (xs : List Claim) (n : ℕ) → length xs ≤ n → claim_at (reverse xs) n ≡ None
claimed_past xs n le = claim_is (reverse xs) n ∙ slice_get_past (reverse xs) n (omega (arith, le, length-reverse xs))

pub ruleset claimed = (claimed_within, claimed_past)
