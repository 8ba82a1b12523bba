-- Two pairs of contexts: one and the same on both sides, and the strict one, where strange calls through pointers are lost, beside the plain one.
use Rattle.std.proofs.Common.{◌≡◌, ℕ, ◌<◌, Bool, true, false, List, length, refl, ◌∙◌, ap, Option, Some, None, if◌then◌else◌}
use Rattle.std.specs.Prelude.{slice_get}
use Rattle.mv_ast.specs.declared.program.CType.{CType}
use Rattle.mv_ast.specs.declared.program.Program.{Program}
use Rattle.mv_ast.specs.declared.program.Function.{Function}
use Rattle.mv_bindings.specs.declared.stop.Stop.{Stop}
use Rattle.mv_bindings.specs.declared.stop.Stop.TheVariants.{Trapped, Unfinished}
use Rattle.mv_ast.specs.Worlds.{give, stop}
use Rattle.mv_meaning.specs.Meaning.{Evaluation, Context, context_with, call_at, call_numbered}
use Rattle.mv_lower_spec.specs.Correct.{is_astray, astray}
use Rattle.mv_lower_spec.specs.Law.{fits_call}
use Rattle.mv_source_forms.specs.Scopes.{Scope}
use Rattle.mv_source_forms.specs.WellFormed.{IsWellFormedFunction}
use Rattle.mv_lower_spec.proofs.OfPrograms.Agreement.{Agree, lost_alike, alike_either, alike_by}
use Rattle.mv_lower_spec.proofs.OfPrograms.Leaves as leaves
use Rattle.mv_lower_spec.proofs.OfPrograms.AgreedStatements.{Steady}
use Rattle.mv_lower_spec.proofs.OfPrograms.Contexts.{steady_at}

-- one of two, the left one for `true`
abbrev pub either_side : {A : Type 0} → A → A → Bool → A
either_side a b true = a
either_side a b false = b

-- nothing is lost
abbrev pub Nothing : Stop → Type 0
Nothing why = ⊥

-- what goes astray is lost
abbrev pub Astray : Stop → Type 0
Astray why = is_astray why ≡ true

module _ (p : Program) (formed : (f : ℕ) (g : Function) → slice_get p.functions f ≡ Some g → IsWellFormedFunction p f g)
    (fine : Stop → Type 0) (traps : (n : ℕ) → n < 256 → fine (Trapped n)) (more : fine Unfinished) (numbers : List ℕ) where
  -- a call in a context, by what it lets through
  abbrev through : Context → (CType → ℕ → ℕ → Bool) → Evaluation ℕ → CType → ℕ → List ℕ → Evaluation ℕ
  through context lets stray t f vs = if lets t f (length vs) then call_at context f vs else stray

  numbered_is : (context : Context) (lets : CType → ℕ → ℕ → Bool) (stray : Evaluation ℕ) (t : CType) (f : ℕ) (vs : List ℕ) → context.lets ≡ lets →
      context.stray ≡ stray → call_numbered context t (Some f) vs ≡ through context lets stray t f vs
  numbered_is context lets stray t f vs e q = ap (λ l. through context l context.stray t f vs) e ∙ ap (λ s. through context lets s t f vs) q

  -- ---- the same on both sides

  module _ (lets : CType → ℕ → ℕ → Bool) (stray : Evaluation ℕ) (keeps : (scope : Scope) → leaves.Keeps p Nothing fine traps scope {A = ℕ} (λ z. stray)) where
    numbered : (scope : Scope) (context : Bool → Context) → ((z : Bool) → (context z).lets ≡ lets) → ((z : Bool) → (context z).stray ≡ stray) →
        ((n : ℕ) (vs : List ℕ) → leaves.Keeps p Nothing fine traps scope {A = ℕ} (λ z. (context z).call n vs)) →
        (t : CType) (o : Option ℕ) (vs : List ℕ) → leaves.Keeps p Nothing fine traps scope {A = ℕ} (λ z. call_numbered (context z) t o vs)
    numbered scope context e q calls t None vs =
        alike_by Nothing fine (Agree scope) (leaves.Kept p Nothing fine traps scope {A = ℕ}) (λ z. call_numbered (context z) t None vs) (λ z. stray) (q true) (q false) (keeps scope)
    numbered scope context e q calls t (Some f) vs =
        alike_by Nothing fine (Agree scope) (leaves.Kept p Nothing fine traps scope {A = ℕ}) (λ z. call_numbered (context z) t (Some f) vs)
        (λ z. through (context z) lets stray t f vs) (numbered_is (context true) lets stray t f vs (e true) (q true))
        (numbered_is (context false) lets stray t f vs (e false) (q false))
        (alike_either Nothing fine (Agree scope) (leaves.Kept p Nothing fine traps scope {A = ℕ}) (lets t f (length vs))
        (λ z. call_at (context z) f vs) (λ z. stray) (leaves.keeps_call p Nothing fine traps scope context calls f vs) (keeps scope))

    pub steady_same : (k : ℕ) → Steady p Nothing fine traps (λ z. context_with p numbers lets stray k)
    steady_same k = steady_at p formed Nothing fine traps more numbers (λ z. lets) (λ z. stray) numbered k

  -- ---- the strict one beside the plain one

  abbrev both_lets : Bool → CType → ℕ → ℕ → Bool
  both_lets = either_side (fits_call p) (λ t f n. true)

  abbrev both_strays : Bool → Evaluation ℕ
  both_strays = either_side (stop astray) (give 0)

  abbrev pub strict_and_plain : ℕ → Bool → Context
  strict_and_plain k z = context_with p numbers (both_lets z) (both_strays z) k

  strays : (scope : Scope) (d : Evaluation ℕ) → leaves.Keeps p Astray fine traps scope {A = ℕ} (either_side (stop astray) d)
  strays scope d f g w h = lost_alike Astray fine (leaves.Kept p Astray fine traps scope {A = ℕ}) astray w 0 (d g w) refl

  numbered_both : (scope : Scope) (context : Bool → Context) → ((z : Bool) → (context z).lets ≡ both_lets z) →
      ((z : Bool) → (context z).stray ≡ both_strays z) →
      ((n : ℕ) (vs : List ℕ) → leaves.Keeps p Astray fine traps scope {A = ℕ} (λ z. (context z).call n vs)) →
      (t : CType) (o : Option ℕ) (vs : List ℕ) → leaves.Keeps p Astray fine traps scope {A = ℕ} (λ z. call_numbered (context z) t o vs)
  numbered_both scope context e q calls t None vs =
      alike_by Astray fine (Agree scope) (leaves.Kept p Astray fine traps scope {A = ℕ}) (λ z. call_numbered (context z) t None vs) (either_side (stop astray) (give 0)) (q true) (q false) (strays scope (give 0))
  numbered_both scope context e q calls t (Some f) vs =
      alike_by Astray fine (Agree scope) (leaves.Kept p Astray fine traps scope {A = ℕ}) (λ z. call_numbered (context z) t (Some f) vs) (sides (fits_call p t f (length vs)))
      (numbered_is (context true) (fits_call p) (stop astray) t f vs (e true) (q true)) (numbered_is (context false) (λ t f n. true) (give 0) t f vs (e false) (q false))
      (by (fits_call p t f (length vs)))
    where
      sides : Bool → Bool → Evaluation ℕ
      sides fits = either_side (if fits then call_at (context true) f vs else stop astray) (call_at (context false) f vs)

      by : (fits : Bool) → leaves.Keeps p Astray fine traps scope {A = ℕ} (sides fits)
      by true = leaves.keeps_call p Astray fine traps scope context calls f vs
      by false = strays scope (call_at (context false) f vs)

  pub steady_both : (k : ℕ) → Steady p Astray fine traps (strict_and_plain k)
  steady_both k = steady_at p formed Astray fine traps more numbers both_lets both_strays numbered_both k
