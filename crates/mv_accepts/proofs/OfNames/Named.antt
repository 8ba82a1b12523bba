-- What names mean in a list of them that grows, and their numbers.
use Rattle.std.proofs.Common.{◌≡◌, ℕ, ◌⊎◌, inl, inr, refl, sym, ◌∙◌, Bool, true, false, if◌then◌else◌, nat_eq, List, [], ◌∷◌, ◌++◌, get_or, Some, None}
use Rattle.std.specs.Cmp.Lexicographic.{pointwise, same_text, other_text}
use Rattle.std.proofs.lemmas.List.Quantifiers.{position-Some}
use Rattle.mv_check_scope.specs.declared.meaning.Meaning.{Meaning}
use Rattle.mv_check_scope.specs.Names.{Names}
use Rattle.mv_check_scope.specs.Spaces.{named}
use Rattle.mv_check_outline.specs.Names.{same_name, place_of}
use Rattle.mv_accepts.proofs.OfStatements.Names.{named_behind}

-- a name means what it meant, or is the new one
pub names_behind : (n : List ℕ) (xs : Names) (name : List ℕ) (m k : Meaning) → named n (xs ++ (name, m) ∷ []) ≡ Some k →
    (named n xs ≡ Some k) ⊎ ((n ≡ name) × (m ≡ k))
names_behind n xs name m k h = by (named_behind n xs name m k h)
  where
    by : (named n xs ≡ Some k) ⊎ ((pointwise nat_eq n name ≡ true) × (m ≡ k)) → (named n xs ≡ Some k) ⊎ ((n ≡ name) × (m ≡ k))
    by (inl q) = inl q
    by (inr q) = inr (same_text n name (sym q.0), q.1)

pub name_there : (xs : Names) (name : List ℕ) (m : Meaning) → named name xs ≡ None → named name (xs ++ (name, m) ∷ []) ≡ Some m
name_there [] name m h = by (pointwise nat_eq name name) refl
  where
    by : (b : Bool) → b ≡ pointwise nat_eq name name → (if b then Some m else None) ≡ Some m
    by true e = refl
    by false e = absurd (other_text name name e refl)
name_there (x ∷ xs) name m h = by (pointwise nat_eq name x.0) (name_there xs name m) h
  where
    by : (b : Bool) → (named name xs ≡ None → named name (xs ++ (name, m) ∷ []) ≡ Some m) → (if b then Some x.1 else named name xs) ≡ None →
        (if b then Some x.1 else named name (xs ++ (name, m) ∷ [])) ≡ Some m
    by true f q = absurd (cc)
    by false f q = f q

-- two names with one number are the same
pub same_place : (m n : List ℕ) (names : List (List ℕ)) (g : ℕ) → place_of m names ≡ Some g → place_of n names ≡ Some g → m ≡ n
same_place m n names g h k =
    let a = position-Some (same_name m) names g [] h in
    let b = position-Some (same_name n) names g [] k in
    same_text m (get_or names g []) (sym a.1) ∙ sym (same_text n (get_or names g []) (sym b.1))
