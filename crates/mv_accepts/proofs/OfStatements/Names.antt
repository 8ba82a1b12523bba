-- How what names mean changes with declarations and blocks.
use Rattle.std.proofs.Common.{◌≡◌, ℕ, ◌⊎◌, inl, inr, refl, sym, ◌∙◌, ap, ap₂, Bool, true, false, if◌then◌else◌, nat_eq, List, [], ◌∷◌, ◌++◌, Option, Some, None}
use Rattle.std.specs.Cmp.Lexicographic.{pointwise}
use Rattle.mv_check_scope.specs.declared.meaning.Meaning.{Meaning}
use Rattle.mv_check_scope.specs.declared.scope.Scope.{Scope}
use Rattle.mv_check_scope.specs.declared.space.NameSpace.{NameSpace}
use Rattle.mv_check_scope.specs.Known.{known_function}
use Rattle.mv_check_scope.specs.Names.{Names}
use Rattle.mv_check_scope.specs.Spaces.{named, or_else, meaning_in}
use Rattle.mv_check_scope.specs.Scopes.{last_block, before_last, entered, left}
use Rattle.mv_check_scope.specs.Scoped.{unless_declared, meaning_of, declared, block_entered}
use Rattle.mv_check_scope.proofs.BoundNames.{named_last}
use Rattle.mv_check_scope.proofs.Blocks.{last_of, before}

-- ---- declarations

-- what a name means behind one more
pub named_behind : (n : List ℕ) (xs : Names) (name : List ℕ) (k m : Meaning) → named n (xs ++ (name, k) ∷ []) ≡ Some m →
    (named n xs ≡ Some m) ⊎ ((pointwise nat_eq n name ≡ true) × (k ≡ m))
named_behind n xs name k m h = by (named n xs) (pointwise nat_eq n name) refl (sym (named_last n xs (name, k)) ∙ h)
  where
    by : (o : Option Meaning) (b : Bool) → b ≡ pointwise nat_eq n name → or_else o (if b then Some k else None) ≡ Some m → (o ≡ Some m) ⊎ ((pointwise nat_eq n name ≡ true) × (k ≡ m))
    by (Some x) b e q = inl q
    by None true e q = inr (sym e, cc)
    by None false e q = absurd (cc)

-- a name means what it meant, or what is declared
pub declared_means : (s : Scope) (name : List ℕ) (m : Meaning) (n : List ℕ) (k : Meaning) → meaning_of (declared s name m) n ≡ Some k → (meaning_of s n ≡ Some k) ⊎ (m ≡ k)
declared_means s name m n k h =
    by (named n s.names.here) (pointwise nat_eq n name)
    (ap (λ o. unless_declared (or_else o (meaning_in s.names.around n)) (known_function n)) (sym (named_last n s.names.here (name, m))) ∙ h)
  where
    by : (o : Option Meaning) (b : Bool) →
        unless_declared (or_else (or_else o (if b then Some m else None)) (meaning_in s.names.around n)) (known_function n) ≡ Some k →
        (unless_declared (or_else o (meaning_in s.names.around n)) (known_function n) ≡ Some k) ⊎ (m ≡ k)
    by (Some x) b q = inl q
    by None true q = inr (cc)
    by None false q = inl q

-- ---- blocks

or_none : (o : Option Meaning) → o ≡ or_else o None
or_none None = refl
or_none (Some m) = refl

or_or : (o p q : Option Meaning) → or_else (or_else o p) q ≡ or_else o (or_else p q)
or_or None p q = refl
or_or (Some m) p q = refl

meaning_last : (bs : List Names) (b : Names) (n : List ℕ) → meaning_in (bs ++ b ∷ []) n ≡ or_else (named n b) (meaning_in bs n)
meaning_last [] b n = or_none (named n b)
meaning_last (x ∷ bs) b n = ap (λ o. or_else o (named n x)) (meaning_last bs b n) ∙ or_or (named n b) (meaning_in bs n) (named n x)

-- a block begins with what stands around it
pub entered_means : (s : Scope) (n : List ℕ) → meaning_of (block_entered s) n ≡ meaning_of s n
entered_means s n = ap (λ o. unless_declared o (known_function n)) (meaning_last s.names.around s.names.here n)

-- a block that is left leaves the names around it
pub left_is : (space inner : NameSpace) → inner.around ≡ (entered space).around → left inner ≡ space
left_is space inner h =
    let make : Names → List Names → NameSpace = λ x y. record { here = x; around = y } in
    ap₂ make (ap last_block h ∙ last_of space.around space.here) (ap before_last h ∙ before space.around space.here)
