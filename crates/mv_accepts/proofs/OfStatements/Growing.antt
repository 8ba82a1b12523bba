-- How scopes grow.
use Rattle.std.proofs.Common.{◌≡◌, ℕ, ◌⊎◌, inl, inr, refl, sym, ◌∙◌, ap, List, ◌∷◌, [], Some}
use Rattle.mv_ast.specs.declared.program.CType.{CType}
use Rattle.mv_ast.specs.declared.program.Local.{Local}
use Rattle.mv_check_scope.specs.declared.meaning.Meaning.{Meaning}
use Rattle.mv_check_scope.specs.declared.meaning.Meaning.TheVariants as meaning
use Rattle.mv_check_scope.specs.declared.scope.Scope.{Scope}
use Rattle.mv_check_scope.specs.Scoped.{meaning_of, declared, with_local, block_entered, block_left}
use Rattle.mv_check_declarations.specs.Declarators.{signature_of, numbered}
use Rattle.mv_accepts.specs.Statements.Bodies.{Grows}
use Rattle.mv_accepts.proofs.OfStatements.Names.{left_is, declared_means}
use Rattle.mv_accepts.proofs.OfStatements.Places.{keeps_same, keeps_joined, keeps_more, signature_kept, results_listed}
use Rattle.mv_accepts.proofs.OfExpressions.Plain.{IsPlain}

pub grows_same : (s : Scope) → Grows s s
grows_same s = record {
  locals = keeps_same s.locals;
  signatures = keeps_same s.signatures;
  enumerations = keeps_same s.enumerations;
  around = refl;
  tags = refl;
  results = λ h. h;
}

pub grows_joined : (s t u : Scope) → Grows s t → Grows t u → Grows s u
grows_joined s t u g h = record {
  locals = keeps_joined s.locals t.locals u.locals g.locals h.locals;
  signatures = keeps_joined s.signatures t.signatures u.signatures g.signatures h.signatures;
  enumerations = keeps_joined s.enumerations t.enumerations u.enumerations g.enumerations h.enumerations;
  around = h.around ∙ g.around;
  tags = h.tags ∙ g.tags;
  results = λ r. h.results (g.results r);
}

pub grows_declared : (s : Scope) (name : List ℕ) (m : Meaning) → Grows s (declared s name m)
grows_declared s name m = record {
  locals = keeps_same s.locals;
  signatures = keeps_same s.signatures;
  enumerations = keeps_same s.enumerations;
  around = refl;
  tags = refl;
  results = λ h. h;
}

pub grows_local : (s : Scope) (l : Local) → Grows s (with_local s l)
grows_local s l = record {
  locals = keeps_more s.locals (l ∷ []);
  signatures = keeps_same s.signatures;
  enumerations = keeps_same s.enumerations;
  around = refl;
  tags = refl;
  results = λ h. h;
}

pub grows_numbered : (result : CType) (params : List CType) (s : Scope) → IsPlain result → Grows s (numbered result params s).0
grows_numbered result params s plain = record {
  locals = keeps_same s.locals;
  signatures = signature_kept (signature_of result params) s.signatures;
  enumerations = keeps_same s.enumerations;
  around = refl;
  tags = refl;
  results = results_listed (signature_of result params) s.signatures plain;
}

-- ---- blocks

pub names_back : (s t : Scope) → Grows (block_entered s) t → (block_left t).names ≡ s.names
names_back s t g = left_is s.names t.names g.around

pub tags_back : (s t : Scope) → Grows (block_entered s) t → (block_left t).tags ≡ s.tags
tags_back s t g = left_is s.tags t.tags g.tags

pub grows_block : (s t : Scope) → Grows (block_entered s) t → Grows s (block_left t)
grows_block s t g = record {
  locals = g.locals;
  signatures = g.signatures;
  enumerations = g.enumerations;
  around = ap (λ n. n.around) (names_back s t g);
  tags = ap (λ n. n.around) (tags_back s t g);
  results = g.results;
}

-- ---- a scope that has no more locals

pub record Declares (s t : Scope) : Type 0 where
  pub grows : Grows s t
  pub same : t.locals ≡ s.locals

pub declares_same : (s : Scope) → Declares s s
declares_same s = record { grows = grows_same s; same = refl }

pub declares_joined : (s t u : Scope) → Declares s t → Declares t u → Declares s u
declares_joined s t u g h = record { grows = grows_joined s t u g.grows h.grows; same = h.same ∙ g.same }

pub declares_declared : (s : Scope) (name : List ℕ) (m : Meaning) → Declares s (declared s name m)
declares_declared s name m = record { grows = grows_declared s name m; same = refl }

pub declares_numbered : (result : CType) (params : List CType) (s : Scope) → IsPlain result → Declares s (numbered result params s).0
declares_numbered result params s plain = record { grows = grows_numbered result params s plain; same = refl }

pub declares_block : (s t : Scope) → Declares (block_entered s) t → Declares s (block_left t)
declares_block s t g = record { grows = grows_block s t g.grows; same = g.same }

-- ---- a scope in which only enumerators are new

pub record Enumerates (s t : Scope) : Type 0 where
  pub declares : Declares s t
  pub names : (name : List ℕ) (m : Meaning) → meaning_of t name ≡ Some m → (meaning_of s name ≡ Some m) ⊎ ((v : ℕ) × (m ≡ meaning.Enumerator v))

pub enumerates_same : (s : Scope) → Enumerates s s
enumerates_same s = record { declares = declares_same s; names = λ name m h. inl h }

pub enumerates_joined : (s t u : Scope) → Enumerates s t → Enumerates t u → Enumerates s u
enumerates_joined s t u g h = record { declares = declares_joined s t u g.declares h.declares; names = λ name m q. by name m (h.names name m q) }
  where
    by : (name : List ℕ) (m : Meaning) → (meaning_of t name ≡ Some m) ⊎ ((v : ℕ) × (m ≡ meaning.Enumerator v)) →
        (meaning_of s name ≡ Some m) ⊎ ((v : ℕ) × (m ≡ meaning.Enumerator v))
    by name m (inl q) = g.names name m q
    by name m (inr q) = inr q

pub enumerates_one : (s : Scope) (name : List ℕ) (v : ℕ) → Enumerates s (declared s name (meaning.Enumerator v))
enumerates_one s name v = record { declares = declares_declared s name (meaning.Enumerator v); names = λ n m h. by n m (declared_means s name (meaning.Enumerator v) n m h) }
  where
    by : (n : List ℕ) (m : Meaning) → (meaning_of s n ≡ Some m) ⊎ (meaning.Enumerator v ≡ m) → (meaning_of s n ≡ Some m) ⊎ ((w : ℕ) × (m ≡ meaning.Enumerator w))
    by n m (inl q) = inl q
    by n m (inr q) = inr (v, sym q)
