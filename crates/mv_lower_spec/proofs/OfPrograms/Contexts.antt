-- At each bound what is around an evaluation keeps what declared locals hold: in one context on both sides, and in the strict one beside the plain one.
use Rattle.std.proofs.Common.{◌≡◌, ℕ, zero, suc, ◌<◌, inl, inr, Bool, true, false, List, refl, Option, Some, None}
use Rattle.std.specs.Prelude.{slice_get}
use Rattle.mv_ast.specs.declared.program.CType.{CType}
use Rattle.mv_ast.specs.declared.program.Program.{Program}
use Rattle.mv_ast.specs.declared.program.Function.{Function}
use Rattle.mv_bindings.specs.declared.stop.Stop.{Stop}
use Rattle.mv_bindings.specs.declared.stop.Stop.TheVariants.{Trapped, Unfinished}
use Rattle.mv_ast.specs.Worlds.{World, Outcome, Came, Stopped}
use Rattle.mv_meaning.specs.declared.state.Frame.{Frame}
use Rattle.mv_meaning.specs.declared.state.Flow.{Flow}
use Rattle.mv_meaning.specs.Meaning.{Evaluation, Context, context_with, call_numbered, call_of, back_in, flow_of_all, frame_of, deeper}
use Rattle.mv_source_forms.specs.Scopes.{Scope, with_declared, stmt_scoped}
use Rattle.mv_source_forms.specs.WellFormed.{parameters, IsWellFormedFunction}
use Rattle.mv_lower_spec.proofs.OfPrograms.Agreement.{Agree, agree_refl, AlikeOutcome, alike_stop}
use Rattle.mv_lower_spec.proofs.OfPrograms.Leaves as leaves
use Rattle.mv_lower_spec.proofs.OfPrograms.AgreedStatements.{Leads, Flows, Steady, stmt_flows, body_flows}

module _ (p : Program) (formed : (f : ℕ) (g : Function) → slice_get p.functions f ≡ Some g → IsWellFormedFunction p f g)
    (lost fine : Stop → Type 0) (traps : (n : ℕ) → n < 256 → fine (Trapped n)) (more : fine Unfinished) where
  abbrev Keeps : Scope → (Bool → Evaluation ℕ) → Type 0
  Keeps scope d = leaves.Keeps p lost fine traps scope {A = ℕ} d

  -- the statements of a function, wherever it begins
  pub function_flows : (context : Bool → Context) → Steady p lost fine traps context → (f : ℕ) (g : Function) → IsWellFormedFunction p f g →
      Flows p lost fine traps (parameters g) (parameters g) false false (λ z. flow_of_all p (context z) g.body)
  function_flows context steady f g h = body_flows p lost fine traps context steady g.body (parameters g) false false h.declared h.jumps

  pub back_alike : (scope inner : Scope) (f g : Frame) (w : World) (o q : Outcome Frame Flow) → Agree scope f g → AlikeOutcome lost fine Flow (Leads inner inner false false) o q →
      AlikeOutcome lost fine ℕ (leaves.Kept p lost fine traps scope {A = ℕ}) (back_in f w o) (back_in g w q)
  back_alike scope inner f g w (Came a x left n) (Came b y left' m) h k = came a b left left' n m k.value k.world k.work
    where
      came : (a b : Flow) (left left' : World) (n m : ℕ) → a ≡ b → left ≡ left' → n ≡ m →
          AlikeOutcome lost fine ℕ (leaves.Kept p lost fine traps scope {A = ℕ}) (back_in f w (Came a x left n)) (back_in g w (Came b y left' m))
      came a b left left' n m e d q = record { value = cc; world = cc; work = q; frames = h }
  back_alike scope inner f g w (Came a x left n) (Stopped t left' m) h k = absurd k
  back_alike scope inner f g w (Stopped s left n) (Came b y left' m) h k = k
  back_alike scope inner f g w (Stopped s left n) (Stopped t left' m) h (inl k) = inl k
  back_alike scope inner f g w (Stopped s left n) (Stopped t left' m) h (inr k) = inr (record { why = k.why; world = cc; work = k.work; may = k.may })

  called : (context : Bool → Context) → Steady p lost fine traps context → (scope : Scope) (n : ℕ) (vs : List ℕ) (o : Option Function) → slice_get p.functions n ≡ o → Keeps scope (λ z. call_of p (context z) n o vs)
  called context steady scope n vs None e = leaves.keeps_give p lost fine traps scope 0
  called context steady scope n vs (Some g) e = λ a b w h.
      back_alike scope (parameters g) a b w (flow_of_all p (context true) g.body (frame_of n g vs) (deeper g w)) (flow_of_all p (context false) g.body (frame_of n g vs) (deeper g w)) h
      (function_flows context steady n g (formed n g e) (frame_of n g vs) (frame_of n g vs) (deeper g w) (agree_refl (parameters g) (frame_of n g vs)))

  module _ (numbers : List ℕ) (lets : Bool → CType → ℕ → ℕ → Bool) (stray : Bool → Evaluation ℕ)
      (numbered : (scope : Scope) (context : Bool → Context) → ((z : Bool) → (context z).lets ≡ lets z) → ((z : Bool) → (context z).stray ≡ stray z) → ((n : ℕ) (vs : List ℕ) → Keeps scope (λ z. (context z).call n vs)) →
      (t : CType) (o : Option ℕ) (vs : List ℕ) → Keeps scope (λ z. call_numbered (context z) t o vs)) where
    abbrev contexts : ℕ → Bool → Context
    contexts k z = context_with p numbers (lets z) (stray z) k

    pub steady_at : (k : ℕ) → Steady p lost fine traps (contexts k)
    steady_at zero = record {
      calls = λ scope. record { numbers = refl; calls = stopped scope; numbered = numbered scope (contexts zero) (λ z. refl) (λ z. refl) (stopped scope) };
      loops = λ scope s b c q j. alike_stop lost fine (Agree scope) (Leads scope (with_declared (stmt_scoped s).declares scope) b c) Unfinished more;
    } where
      stopped : (scope : Scope) (n : ℕ) (vs : List ℕ) → Keeps scope (λ z. (contexts zero z).call n vs)
      stopped scope n vs = leaves.keeps_stop p lost fine traps scope Unfinished more
    steady_at (suc k) = above (steady_at k)
      where
        above : Steady p lost fine traps (contexts k) → Steady p lost fine traps (contexts (suc k))
        above below = record {
          calls = λ scope. record { numbers = refl; calls = goes_on scope; numbered = numbered scope (contexts (suc k)) (λ z. refl) (λ z. refl) (goes_on scope) };
          loops = λ scope s b c q j. stmt_flows p lost fine traps (contexts k) below s scope b c q j;
        } where
          goes_on : (scope : Scope) (n : ℕ) (vs : List ℕ) → Keeps scope (λ z. (contexts (suc k) z).call n vs)
          goes_on scope n vs = called (contexts k) below scope n vs (slice_get p.functions n) refl
