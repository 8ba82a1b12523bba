-- The names of a block in which nothing but what has no number is new.
use Rattle.std.proofs.Common.{◌≡◌, ℕ, ◌⊎◌, inl, inr, refl, sym, ◌∙◌, ap, subst, true, nat_eq, List, [], ◌∷◌, ◌++◌, Some, None}
use Rattle.std.specs.Cmp.Lexicographic.{pointwise}
use Rattle.mv_syntax.specs.declared.unit.Declarator.{Declarator}
use Rattle.mv_syntax.specs.declared.unit.Specs.{Specs}
use Rattle.mv_check_scope.specs.declared.meaning.Meaning.{Meaning}
use Rattle.mv_check_scope.specs.declared.meaning.Meaning.TheVariants as meaning
use Rattle.mv_check_scope.specs.declared.scope.Scope.{Scope}
use Rattle.mv_check_scope.specs.Names.{Names}
use Rattle.mv_check_scope.specs.Spaces.{named}
use Rattle.mv_check_scope.proofs.BoundNames.{names_kept}
use Rattle.mv_check_declarations.specs.declared.attributes.Position.{Position}
use Rattle.mv_check_declarations.specs.Specifiers.{specifiers}
use Rattle.mv_accepts.proofs.OfStatements.Judging.{IfGood, if_more}
use Rattle.mv_accepts.proofs.OfStatements.Specified.{Behind, specifiers_kept}
use Rattle.mv_accepts.proofs.OfStatements.Names.{named_behind}
use Rattle.mv_types.specs.Objects.{number_of}

-- From the names of a block to those of a later one: they mean the same, and what is new has no number.
pub record Adds (xs ys : Names) : Type 0 where
  pub kept : (n : List ℕ) (m : Meaning) → named n xs ≡ Some m → named n ys ≡ Some m
  pub new : (n : List ℕ) (m : Meaning) → named n ys ≡ Some m → (named n xs ≡ Some m) ⊎ (number_of m ≡ None)

pub adds_same : (xs : Names) → Adds xs xs
adds_same xs = record { kept = λ n m h. h; new = λ n m h. inl h }

pub adds_joined : (xs ys zs : Names) → Adds xs ys → Adds ys zs → Adds xs zs
adds_joined xs ys zs g h = record { kept = λ n m q. h.kept n m (g.kept n m q); new = λ n m q. by n m (h.new n m q) }
  where
    by : (n : List ℕ) (m : Meaning) → (named n ys ≡ Some m) ⊎ (number_of m ≡ None) → (named n xs ≡ Some m) ⊎ (number_of m ≡ None)
    by n m (inl q) = g.new n m q
    by n m (inr q) = inr q

pub adds_one : (xs : Names) (name : List ℕ) (k : Meaning) → number_of k ≡ None → Adds xs (xs ++ (name, k) ∷ [])
adds_one xs name k h = record { kept = λ n m q. names_kept n xs (name, k) m q; new = λ n m q. by n m (named_behind n xs name k m q) }
  where
    by : (n : List ℕ) (m : Meaning) → (named n xs ≡ Some m) ⊎ ((pointwise nat_eq n name ≡ true) × (k ≡ m)) → (named n xs ≡ Some m) ⊎ (number_of m ≡ None)
    by n m (inl q) = inl q
    by n m (inr q) = inr (ap number_of (sym q.1) ∙ h)

-- ---- scopes

abbrev pub here : Scope → Names
here s = s.names.here

abbrev pub AddsTo : Scope → Scope → Type 0
AddsTo s t = Adds (here s) (here t)

pub adds_nothing : (s t : Scope) → t.names ≡ s.names → AddsTo s t
adds_nothing s t q = subst (λ x. Adds (here s) x.here) (sym q) (adds_same (here s))

-- ---- specifiers

pub specifiers_add : (position : Position) (names : List Declarator) (specs : Specs) (s : Scope) → IfGood (specifiers position names specs s) (λ d. AddsTo s d.0)
specifiers_add position names specs s =
    if_more (Behind AddsTo specs s) (λ d. AddsTo s d.0) (specifiers position names specs s) (λ d h. h.0)
    (specifiers_kept AddsTo (λ s. adds_same (here s)) (λ s t u. adds_joined (here s) (here t) (here u)) (λ s name v. adds_one (here s) name (meaning.Enumerator v) refl)
    (λ s t n q l a e. adds_nothing s t n) position names specs s)
