-- What encloses a statement, kept with the innermost last.
use Rattle.std.proofs.Common.{◌≡◌, ℕ, zero, suc, ◌-◌, ◌<◌, ◌≤◌, List, [], ◌∷◌, ◌++◌, length, get_or, reverse, refl, ◌∙◌, arith}
use Rattle.std.proofs.lemmas.List.{get_or-reverse, reverse-append, length-reverse}
use Rattle.mv_select_code.specs.declared.control.enclosing.Enclosing.{Enclosing}
use Rattle.mv_select_code.specs.Control.FlowCode.{enclosing_at}

abbrev whole : ℕ → Enclosing
whole end = record { start = end; end = end }

enclosing_is : (xs : List Enclosing) (n end : ℕ) → enclosing_at xs n end ≡ get_or xs n (whole end)
enclosing_is [] n end = refl
enclosing_is (x ∷ xs) zero end = refl
enclosing_is (x ∷ xs) (suc n) end = enclosing_is xs n end

default_any : (xs : List Enclosing) (n : ℕ) (d e : Enclosing) → n < length xs → get_or xs n d ≡ get_or xs n e
default_any [] n d e lt = absurd (omega (arith, lt))
default_any (x ∷ xs) zero d e lt = refl
default_any (x ∷ xs) (suc n) d e lt = default_any xs n d e (omega (arith, lt))

past_any : (xs : List Enclosing) (n : ℕ) (d : Enclosing) → length xs ≤ n → get_or xs n d ≡ d
past_any [] n d le = refl
past_any (x ∷ xs) zero d le = absurd (omega (arith, le))
past_any (x ∷ xs) (suc n) d le = past_any xs n d (omega (arith, le))

pub enclosing_within : (xs : List Enclosing) (n end : ℕ) (d : Enclosing) → n < length xs → enclosing_at (reverse xs) n end ≡ get_or xs (length xs - 1 - n) d
enclosing_within xs n end d lt =
    enclosing_is (reverse xs) n end ∙ get_or-reverse xs n (whole end) lt ∙ default_any xs (length xs - 1 - n) (whole end) d (omega (arith, lt))

pub enclosing_past : (xs : List Enclosing) (n end : ℕ) → length xs ≤ n → enclosing_at (reverse xs) n end ≡ record { start = end; end = end }
enclosing_past xs n end le = enclosing_is (reverse xs) n end ∙ past_any (reverse xs) n (whole end) (omega (arith, le, length-reverse xs))

pub reverse_pushed : (xs : List Enclosing) (e : Enclosing) → reverse (xs ++ (e ∷ [])) ≡ e ∷ reverse xs
reverse_pushed xs e = reverse-append xs (e ∷ [])

pub ruleset enclosed = (enclosing_within, enclosing_past)
