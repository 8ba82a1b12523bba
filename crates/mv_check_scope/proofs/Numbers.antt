-- Names by their numbers.
use Rattle.std.proofs.Common.{◌≡◌, ℕ, ◌<◌, ◌∙◌, refl, sym, ap, Bool, true, false, true≢false, if◌then◌else◌, nat_eq, length, List, [], ◌∷◌, ◌++◌, Option, Some, None, eq-eqb}
use Rattle.std.specs.Option.{is_some}
use Rattle.std.specs.Map.{lookup}
use Rattle.std.specs.Cmp.Lexicographic.{pointwise, same_text}
use Rattle.std.proofs.lemmas.Cmp.{nat_list_eq_equiv}
use Rattle.std.proofs.lemmas.Bool.{eqb-true}
use Rattle.std.proofs.lemmas.List.Quantifiers.{position-Some}
use Rattle.std.proofs.lemmas.List.{get_or_append_left}
use Rattle.mv_check_outline.specs.Names.{is_among, place_of, same_name}
use Rattle.mv_check_outline.proofs.Places.{has_place, place_more}
use Rattle.mv_check_scope.specs.declared.step.Binding.{Binding}
use Rattle.mv_check_scope.specs.Bindings.{Entries, at_number, binding_among, IsBoundAt, IsBoundTo}
use Rattle.mv_check_scope.specs.Steps.{name_at}

module _ (names : List (List ℕ)) where
  pub within : (name : List ℕ) (n : ℕ) → place_of name names ≡ Some n → n < length names
  within name n e = (position-Some (same_name name) names n [] e).0

  -- the name that has a name's number is that name
  pub itself : (name : List ℕ) (n : ℕ) → place_of name names ≡ Some n → name ≡ name_at names n
  itself name n e = same_text name (name_at names n) (sym (position-Some (same_name name) names n [] e).1)

  -- two names are the same where their numbers are
  pub same_numbers : (a b : List ℕ) (m n : ℕ) → place_of a names ≡ Some m → place_of b names ≡ Some n → nat_eq n m ≡ pointwise nat_eq a b
  same_numbers a b m n at_m at_n = by (pointwise nat_eq a b) refl
    where
      number : (t : Bool) → nat_eq n m ≡ t → pointwise nat_eq a b ≡ false → nat_eq n m ≡ false
      number true e apart =
          let at : m ≡ n = sym (eqb-true n m e) in
          let same : a ≡ b = itself a m at_m ∙ (ap (name_at names) at ∙ sym (itself b n at_n)) in
          absurd (true≢false (sym (nat_list_eq_equiv.refl b) ∙ (ap (λ x. pointwise nat_eq x b) (sym same) ∙ apart)))
      number false e apart = e

      by : (t : Bool) → pointwise nat_eq a b ≡ t → nat_eq n m ≡ t
      by true e =
          let same : Some n ≡ Some m = sym at_n ∙ (ap (λ x. place_of x names) (sym (same_text a b (sym e))) ∙ at_m) in
          let at : n ≡ m = cc in
          eq-eqb n m at
      by false e = number (nat_eq n m) refl e

  -- what is bound at a name's number is bound to the name
  pub bound_to : (es fs : Entries) (name : List ℕ) (n : ℕ) (b : Option Binding) → place_of name names ≡ Some n → IsBoundAt es fs n b → IsBoundTo names es fs name b
  bound_to es fs name n b at bound other = by (place_of other names) refl
    where
      apart : (t : Bool) → pointwise nat_eq other name ≡ t → place_of other names ≡ None → pointwise nat_eq other name ≡ false
      apart true e none =
          absurd (true≢false (ap is_some (sym (ap (λ x. place_of x names) (same_text other name (sym e)) ∙ at)) ∙ ap is_some none))
      apart false e none = e

      by : (o : Option ℕ) → place_of other names ≡ o → at_number fs o ≡ (if pointwise nat_eq other name then b else at_number es o)
      by None e = ap (λ t. if t then b else None) (sym (apart (pointwise nat_eq other name) refl e))
      by (Some m) e = bound m ∙ ap (λ t. if t then b else lookup (nat_eq m) es) (same_numbers other name m n e at)

-- ---- one name more

module _ (names : List (List ℕ)) (new : List ℕ) (is_new : is_among new names ≡ false) where
  abbrev pub longer : List (List ℕ)
  longer = names ++ new ∷ []

  pub not_yet : place_of new names ≡ None
  not_yet = by (place_of new names) (has_place new names ∙ is_new)
    where
      by : (o : Option ℕ) → is_some o ≡ false → o ≡ None
      by None e = refl
      by (Some n) e = absurd (true≢false e)

  pub same_name_at : (n : ℕ) → place_of (name_at names n) names ≡ Some n → name_at longer n ≡ name_at names n
  same_name_at n at = get_or_append_left names (new ∷ []) [] n (within names (name_at names n) n at)

  pub still_numbered : (n : ℕ) → place_of (name_at names n) names ≡ Some n → place_of (name_at longer n) longer ≡ Some n
  still_numbered n at =
      ap (λ x. place_of x longer) (same_name_at n at) ∙
      (sym (place_more (name_at names n) new names is_new) ∙ by (same_name new (name_at names n)) refl)
    where
      by : (t : Bool) → same_name new (name_at names n) ≡ t → (if t then Some (length names) else place_of (name_at names n) names) ≡ Some n
      by true e =
          absurd (true≢false (ap is_some (sym (ap (λ x. place_of x names) (same_text new (name_at names n) (sym e)) ∙ at)) ∙ ap is_some not_yet))
      by false e = at

  -- a name whose number has nothing yet means nothing
  pub bound_alike : (es : Entries) → lookup (nat_eq (length names)) es ≡ None → (name : List ℕ) → binding_among longer es name ≡ binding_among names es name
  bound_alike es none name =
      ap (at_number es) (sym (place_more name new names is_new)) ∙ by (same_name new name) refl
    where
      by : (t : Bool) → same_name new name ≡ t → at_number es (if t then Some (length names) else place_of name names) ≡ at_number es (place_of name names)
      by true e = none ∙ ap (at_number es) (sym (ap (λ x. place_of x names) (sym (same_text new name (sym e))) ∙ not_yet))
      by false e = refl
