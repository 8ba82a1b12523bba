-- What leads from one scope of a function to a later one.
use Rattle.std.proofs.Common.{◌≡◌, ℕ, ◌⊎◌, inl, inr, sym, ◌∙◌, ap, subst, List, Some}
use Rattle.mv_ast.specs.declared.program.CType.TheVariants.{Pointer}
use Rattle.mv_ast.specs.declared.program.Signature.{Signature}
use Rattle.mv_check_scope.specs.declared.meaning.Meaning.{Meaning}
use Rattle.mv_check_scope.specs.declared.meaning.Meaning.TheVariants as meaning
use Rattle.mv_check_scope.specs.declared.scope.Scope.{Scope}
use Rattle.mv_check_scope.specs.declared.space.NameSpace.{NameSpace}
use Rattle.mv_check_scope.specs.Known.{known_function}
use Rattle.mv_check_scope.specs.Scopes.{sought}
use Rattle.mv_check_scope.specs.Scoped.{unless_declared, meaning_of, block_entered, block_left}
use Rattle.mv_accepts.specs.Expressions.Soundness.{IsMeant}
use Rattle.mv_accepts.specs.Statements.Bodies.{Keeps, Grows}
use Rattle.mv_accepts.proofs.OfStatements.Names.{entered_means}
use Rattle.mv_accepts.proofs.OfStatements.Places.{keeps_joined, listed_kept}
use Rattle.mv_accepts.proofs.OfStatements.Property.{Passage, Holds}
use Rattle.mv_accepts.proofs.OfStatements.Growing.{Enumerates, grows_same, grows_joined, grows_block, names_back}

module _ (x : Passage) where
  open x use {program as p, function as f}

  abbrev pub Holding : Scope → Type 0
  Holding = Holds x.program x.function x.of_name

  -- a program and a function that have what a scope has
  pub record IsWithin (s : Scope) : Type 0 where
    pub signatures : Keeps s.signatures p.signatures
    pub locals : Keeps s.locals f.locals

  within_before : (s t : Scope) → Grows s t → IsWithin t → IsWithin s
  within_before s t g h = record {
    signatures = keeps_joined s.signatures t.signatures p.signatures g.signatures h.signatures;
    locals = keeps_joined s.locals t.locals f.locals g.locals h.locals;
  }

  -- A scope grows to a later one; what it says still holds there, and something else does.
  pub record Leads (s t : Scope) (C : Type 0) : Type 0 where
    pub grows : Grows s t
    pub holds : IsWithin t → Holding s → Holding t × C

  pub leads_here : (s : Scope) (C : Type 0) → (Holding s → C) → Leads s s C
  leads_here s C h = record { grows = grows_same s; holds = λ w k. (k, h k) }

  pub leads_more : (s t : Scope) (C D : Type 0) → (C → D) → Leads s t C → Leads s t D
  leads_more s t C D h l = record { grows = l.grows; holds = λ w k. let y = l.holds w k in (y.0, h y.1) }

  pub leads_joined : (s t u : Scope) (C D E : Type 0) → (C → D → E) → Leads s t C → Leads t u D → Leads s u E
  leads_joined s t u C D E h l m = record {
    grows = grows_joined s t u l.grows m.grows;
    holds = λ w k.
        let y = l.holds (within_before t u m.grows w) k in
        let z = m.holds w y.0 in
        (z.0, h y.1 z.1);
  }

  -- ---- what a scope says holds where it grows

  meant_kept : (ss ts : List Signature) → Keeps ss ts → (m : Meaning) → IsMeant p f ss m → IsMeant p f ts m
  meant_kept ss ts k (meaning.Object v) h = (h.0, listed_kept ss ts k v.ctype h.1)
  meant_kept ss ts k (meaning.Array a) h = (h.0, listed_kept ss ts k a.ctype h.1)
  meant_kept ss ts k (meaning.Function r) h = (h.0, listed_kept ss ts k (Pointer r.signature) h.1)
  meant_kept ss ts k (meaning.Enumerator v) h = tt
  meant_kept ss ts k (meaning.Tag n) h = tt
  meant_kept ss ts k (meaning.Known known) h = tt

  -- a name means what it meant, or something that the program has
  pub later : (s t : Scope) → Grows s t →
      ((name : List ℕ) (m : Meaning) → meaning_of t name ≡ Some m → (meaning_of s name ≡ Some m) ⊎ (IsMeant p f t.signatures m × x.of_name m)) →
      IsWithin t → Holding s → Holding t
  later s t g h w k = record {
    fits = record { names = λ name m q. meant name m (h name m q); signatures = w.signatures; results = g.results k.fits.results };
    names = λ name m q. named name m (h name m q);
  }
    where
      meant : (name : List ℕ) (m : Meaning) → (meaning_of s name ≡ Some m) ⊎ (IsMeant p f t.signatures m × x.of_name m) → IsMeant p f t.signatures m
      meant name m (inl q) = meant_kept s.signatures t.signatures g.signatures m (k.fits.names name m q)
      meant name m (inr q) = q.0

      named : (name : List ℕ) (m : Meaning) → (meaning_of s name ≡ Some m) ⊎ (IsMeant p f t.signatures m × x.of_name m) → x.of_name m
      named name m (inl q) = k.names name m q
      named name m (inr q) = q.1

  same_meaning : (s t : Scope) → t.names ≡ s.names → (name : List ℕ) (m : Meaning) → meaning_of t name ≡ Some m → meaning_of s name ≡ Some m
  same_meaning s t n name m h = ap (λ (x : NameSpace). unless_declared (sought x name) (known_function name)) (sym n) ∙ h

  pub leads_renamed : (s t : Scope) → Grows s t → t.names ≡ s.names → Leads s t (Unit {0})
  leads_renamed s t g n = record { grows = g; holds = λ w k. (later s t g (λ name m q. inl (same_meaning s t n name m q)) w k, tt) }

  pub leads_enumerated : (s t : Scope) → Enumerates s t → Leads s t (Unit {0})
  leads_enumerated s t e = record { grows = e.declares.grows; holds = λ w k. (later s t e.declares.grows (λ name m q. by name m (e.names name m q)) w k, tt) }
    where
      by : (name : List ℕ) (m : Meaning) → (meaning_of s name ≡ Some m) ⊎ ((v : ℕ) × (m ≡ meaning.Enumerator v)) →
          (meaning_of s name ≡ Some m) ⊎ (IsMeant p f t.signatures m × x.of_name m)
      by name m (inl q) = inl q
      by name m (inr q) = inr (subst (IsMeant p f t.signatures) (sym q.1) tt, subst x.of_name (sym q.1) (x.enumerator q.0))

  -- ---- blocks

  entered : (s : Scope) → Holding s → Holding (block_entered s)
  entered s k = record {
    fits = record { names = λ name m q. k.fits.names name m (sym (entered_means s name) ∙ q); signatures = k.fits.signatures; results = k.fits.results };
    names = λ name m q. k.names name m (sym (entered_means s name) ∙ q);
  }

  pub leads_block : (s t : Scope) (C : Type 0) → Leads (block_entered s) t C → Leads s (block_left t) C
  leads_block s t C l = record {
    grows = grows_block s t l.grows;
    holds = λ w k.
        let y = l.holds (record { signatures = w.signatures; locals = w.locals }) (entered s k) in
        let back = leads_renamed s (block_left t) (grows_block s t l.grows) (names_back s t l.grows) in
        ((back.holds w k).0, y.1);
  }
