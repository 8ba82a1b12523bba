-- A scope in which only signatures, tags and enumerators are new.
use Rattle.std.proofs.Common.{◌≡◌, ℕ, ◌⊎◌, inl, inr, refl, sym, ◌∙◌, ap, subst, List, Some}
use Rattle.mv_syntax.specs.declared.unit.Declarator.{Declarator}
use Rattle.mv_syntax.specs.declared.unit.Specs.{Specs}
use Rattle.mv_check_scope.specs.declared.meaning.Meaning.{Meaning}
use Rattle.mv_check_scope.specs.declared.meaning.Meaning.TheVariants as meaning
use Rattle.mv_check_scope.specs.declared.scope.Scope.{Scope}
use Rattle.mv_check_scope.specs.declared.space.NameSpace.{NameSpace}
use Rattle.mv_check_scope.specs.Spaces.{named}
use Rattle.mv_check_scope.specs.Scoped.{declared}
use Rattle.mv_check_scope.proofs.BoundNames.{names_kept}
use Rattle.mv_check_declarations.specs.declared.attributes.Position.{Position}
use Rattle.mv_check_declarations.specs.Specifiers.{specifiers}
use Rattle.mv_accepts.proofs.OfStatements.Judging.{IfGood, if_more, if_both}
use Rattle.mv_accepts.proofs.OfStatements.Growing.{Declares}
use Rattle.mv_accepts.proofs.OfStatements.Specified.{Specifies, specifiers_specify, Behind, specifiers_kept}
use Rattle.mv_types.specs.declared.contents.Contents.{Contents}
use Rattle.mv_types.specs.declared.contents.Foreknown.{Foreknown}
use Rattle.mv_types.specs.Contents.{in_scope}
use Rattle.mv_accepts.specs.Names.Declared.{Extends, IsDeclared, IsSound}
use Rattle.mv_accepts.specs.Names.Laws.{IsSoundBehind}
use Rattle.mv_accepts.proofs.OfNames.Named.{names_behind}
use Rattle.mv_accepts.proofs.OfNames.Extending.{declared_kept, definition_kept, was_kept}

-- ---- names

-- the names of the innermost block, among which only enumerators are new
pub record Names (s t : Scope) : Type 0 where
  pub kept : (name : List ℕ) (m : Meaning) → named name s.names.here ≡ Some m → named name t.names.here ≡ Some m
  pub new : (name : List ℕ) (m : Meaning) → named name t.names.here ≡ Some m → (named name s.names.here ≡ Some m) ⊎ ((v : ℕ) × (m ≡ meaning.Enumerator v))

pub names_same : (s t : Scope) → t.names ≡ s.names → Names s t
names_same s t q = record {
  kept = λ name m h. ap (λ (x : NameSpace). named name x.here) q ∙ h;
  new = λ name m h. inl (sym (ap (λ (x : NameSpace). named name x.here) q) ∙ h);
}

pub names_joined : (s t u : Scope) → Names s t → Names t u → Names s u
names_joined s t u g h = record { kept = λ name m q. h.kept name m (g.kept name m q); new = λ name m q. by name m (h.new name m q) }
  where
    by : (name : List ℕ) (m : Meaning) → (named name t.names.here ≡ Some m) ⊎ ((v : ℕ) × (m ≡ meaning.Enumerator v)) →
        (named name s.names.here ≡ Some m) ⊎ ((v : ℕ) × (m ≡ meaning.Enumerator v))
    by name m (inl q) = g.new name m q
    by name m (inr q) = inr q

names_one : (s : Scope) (name : List ℕ) (v : ℕ) → Names s (declared s name (meaning.Enumerator v))
names_one s name v = record {
  kept = λ n m h. names_kept n s.names.here (name, meaning.Enumerator v) m h;
  new = λ n m h. by n m (names_behind n s.names.here name (meaning.Enumerator v) m h);
}
  where
    by : (n : List ℕ) (m : Meaning) → (named n s.names.here ≡ Some m) ⊎ ((n ≡ name) × (meaning.Enumerator v ≡ m)) →
        (named n s.names.here ≡ Some m) ⊎ ((w : ℕ) × (m ≡ meaning.Enumerator w))
    by n m (inl q) = inl q
    by n m (inr q) = inr (v, sym q.1)

-- ---- scopes

pub record Widens (s t : Scope) : Type 0 where
  pub declares : Declares s t
  pub names : Names s t

specifiers_names : (position : Position) (names : List Declarator) (specs : Specs) (s : Scope) → IfGood (specifiers position names specs s) (λ d. Names s d.0)
specifiers_names position names specs s =
    if_more (Behind Names specs s) (λ d. Names s d.0) (specifiers position names specs s) (λ d h. h.0)
    (specifiers_kept Names (λ s. names_same s s refl) names_joined names_one (λ s t n q l a e. names_same s t n) position names specs s)

-- specifiers widen the scope, and name a type that is no pointer
pub specifiers_widen : (position : Position) (names : List Declarator) (specs : Specs) (s : Scope) → IfGood (specifiers position names specs s) (λ d. Widens s d.0 × Specifies s d)
specifiers_widen position names specs s =
    if_more (λ d. Specifies s d × Names s d.0) (λ d. Widens s d.0 × Specifies s d) (specifiers position names specs s)
    (λ d h. (record { declares = h.0.enumerates.declares; names = h.1 }, h.0))
    (if_both (Specifies s) (λ d. Names s d.0) (specifiers position names specs s) (specifiers_specify position names specs s) (specifiers_names position names specs s))

-- ---- contents in a wider scope

module _ (k : Foreknown) (c : Contents) (t : Scope) (w : Widens c.scope t) where
  abbrev d : Contents
  d = in_scope c t

  pub widens_extends : Extends c d
  widens_extends = record {
    signatures = w.declares.grows.signatures;
    objects = λ n o h. record { object = o; there = h; name = refl; ctype = refl; size = refl };
    functions = λ g f h. h;
    names = w.names.kept;
  }

  pub widens_sound : IsSound k c → IsSoundBehind k c d
  widens_sound s = record {
    extends = widens_extends;
    sound = record {
      around = w.declares.grows.around ∙ s.around;
      locals = w.declares.same ∙ s.locals;
      results = w.declares.grows.results s.results;
      count = s.count;
      names = λ name m q. by name m (w.names.new name m q);
      functions = λ g f q. definition_kept k c d widens_extends g f (s.functions g f q);
    };
    defined = λ h g f q. was_kept k c d widens_extends f (h g f q);
  }
    where
      by : (name : List ℕ) (m : Meaning) → (named name c.scope.names.here ≡ Some m) ⊎ ((v : ℕ) × (m ≡ meaning.Enumerator v)) → IsDeclared k d name m
      by name m (inl q) = declared_kept k c d widens_extends name m (s.names name m q)
      by name m (inr q) = subst (IsDeclared k d name) (sym q.1) tt
