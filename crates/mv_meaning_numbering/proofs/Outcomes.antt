-- Frames, worlds, outcomes and evaluations that differ in the numbers of functions alone.
use Rattle.std.proofs.Common.{◌≡◌, ℕ, ◌+◌, Bool, true, false, List, refl, sym, ap, subst, if◌then◌else◌, nat_eq}
use Rattle.std.specs.Prelude.{All, IsTrue}
use Rattle.mv_ast.specs.declared.program.CType.{CType}
use Rattle.mv_bindings.specs.declared.stop.Stop.{Stop}
use Rattle.mv_ast.specs.Actions.{act_fits}
use Rattle.mv_ast.specs.Worlds.{World, Outcome, Came, Stopped, after, and_then, bind, give, stop, counted}
use Rattle.mv_meaning.specs.declared.state.Frame.{Frame}
use Rattle.mv_meaning.specs.Meaning.{Evaluation, unless_zero}
use Rattle.mv_source_forms.specs.Typing.{global_types}
use Rattle.mv_meaning_numbering.proofs.Alike.{Setting, SameObjects}
use Rattle.mv_meaning_numbering.proofs.Logged.{KeepTypes}

-- two worlds, with actions that fit, in which pointer switches are bound to functions of their types, now and in all that is logged
pub record SameWorld (x : Setting) (w v : World) : Type 0 where
  pub globals : SameObjects x (global_types x.program) w.globals v.globals
  pub others : v ≡ record w { globals = v.globals }
  pub actions : All (λ a. IsTrue (act_fits x.program w.hart a)) w.actions
  pub pointers : KeepTypes x.program w.bindings w.log

-- two frames of a function, with locals of some types
pub record SameFrame (x : Setting) (ts : List CType) (f g : Frame) : Type 0 where
  pub locals : SameObjects x ts f.locals g.locals
  pub function : f.function ≡ g.function

pub record CameAlike (x : Setting) (ts : List CType) (A : Type 0) (R : A → A → Type 0) (a : A) (f : Frame) (w : World) (n : ℕ) (b : A) (g : Frame) (v : World) (m : ℕ) : Type 0 where
  pub value : R a b
  pub frame : SameFrame x ts f g
  pub world : SameWorld x w v
  pub work : n ≡ m

pub record StoppedAlike (x : Setting) (s : Stop) (w : World) (n : ℕ) (t : Stop) (v : World) (m : ℕ) : Type 0 where
  pub why : s ≡ t
  pub world : SameWorld x w v
  pub work : n ≡ m

module _ (x : Setting) (ts : List CType) where
  abbrev pub AlikeOutcome : (A : Type 0) → (A → A → Type 0) → Outcome Frame A → Outcome Frame A → Type 0
  AlikeOutcome A R (Came a f w n) (Came b g v m) = CameAlike x ts A R a f w n b g v m
  AlikeOutcome A R (Came a f w n) (Stopped t v m) = ⊥
  AlikeOutcome A R (Stopped s w n) (Came b g v m) = ⊥
  AlikeOutcome A R (Stopped s w n) (Stopped t v m) = StoppedAlike x s w n t v m

  -- in all frames and worlds that are alike they come to outcomes that are
  abbrev pub Alike : {A : Type 0} → (A → A → Type 0) → Evaluation A → Evaluation A → Type 0
  Alike {A} R d e = (f g : Frame) (w v : World) → SameFrame x ts f g → SameWorld x w v → AlikeOutcome A R (d f w) (e g v)

  module _ {A : Type 0} (R : A → A → Type 0) where
    pub alike_give : (a b : A) → R a b → Alike R (give a) (give b)
    alike_give a b r f g w v hf hw = record { value = r; frame = hf; world = hw; work = refl }

    pub alike_stop : (s : Stop) → Alike R (stop s) (stop s)
    alike_stop s f g w v hf hw = record { why = refl; world = hw; work = refl }

    after_alike : (n : ℕ) (o q : Outcome Frame A) → AlikeOutcome A R o q → AlikeOutcome A R (after n o) (after n q)
    after_alike n (Came a f w k) (Came b g v m) h = record { value = h.value; frame = h.frame; world = h.world; work = ap (λ k. n + k) h.work }
    after_alike n (Came a f w k) (Stopped t v m) h = h
    after_alike n (Stopped s w k) (Came b g v m) h = h
    after_alike n (Stopped s w k) (Stopped t v m) h = record { why = h.why; world = h.world; work = ap (λ k. n + k) h.work }

    pub alike_counted : (n : ℕ) (d e : Evaluation A) → Alike R d e → Alike R (counted n d) (counted n e)
    alike_counted n d e h f g w v hf hw = after_alike n (d f w) (e g v) (h f g w v hf hw)

    pub alike_either : (b c : Bool) (d d' e e' : Evaluation A) → b ≡ c → Alike R d d' → Alike R e e' →
        Alike R (if b then d else e) (if c then d' else e')
    alike_either true true d d' e e' q h k = h
    alike_either false false d d' e e' q h k = k
    alike_either true false d d' e e' q h k = cc
    alike_either false true d d' e e' q h k = cc

    pub alike_unless : (a b : ℕ) (d d' e e' : Evaluation A) → nat_eq a 0 ≡ nat_eq b 0 → Alike R d d' → Alike R e e' →
        Alike R (unless_zero a d e) (unless_zero b d' e')
    alike_unless a b = alike_either (nat_eq a 0) (nat_eq b 0)

  -- what is alike in one way is alike in another that follows from it
  outcome_weaken : {A : Type 0} (R Q : A → A → Type 0) → ((a b : A) → R a b → Q a b) → (o q : Outcome Frame A) → AlikeOutcome A R o q → AlikeOutcome A Q o q
  outcome_weaken R Q k (Came a f w n) (Came b g v m) h = record { value = k a b h.value; frame = h.frame; world = h.world; work = h.work }
  outcome_weaken R Q k (Came a f w n) (Stopped t v m) h = h
  outcome_weaken R Q k (Stopped s w n) (Came b g v m) h = h
  outcome_weaken R Q k (Stopped s w n) (Stopped t v m) h = h

  pub alike_weaken : {A : Type 0} (R Q : A → A → Type 0) → ((a b : A) → R a b → Q a b) → (d e : Evaluation A) → Alike R d e → Alike Q d e
  alike_weaken R Q k d e h f g w v hf hw = outcome_weaken R Q k (d f w) (e g v) (h f g w v hf hw)

  module _ {A B : Type 0} (R : A → A → Type 0) (Q : B → B → Type 0) where
    and_then_alike : (next next' : A → Evaluation B) → ((a b : A) → R a b → Alike Q (next a) (next' b)) →
        (o q : Outcome Frame A) → AlikeOutcome A R o q → AlikeOutcome B Q (and_then o next) (and_then q next')
    and_then_alike next next' k (Came a f w n) (Came b g v m) h =
        subst (λ j. AlikeOutcome B Q (after n (next a f w)) (after j (next' b g v))) h.work
        (after_alike Q n (next a f w) (next' b g v) (k a b h.value f g w v h.frame h.world))
    and_then_alike next next' k (Came a f w n) (Stopped t v m) h = absurd h
    and_then_alike next next' k (Stopped s w n) (Came b g v m) h = absurd h
    and_then_alike next next' k (Stopped s w n) (Stopped t v m) h = h

    pub alike_bind : (d e : Evaluation A) (next next' : A → Evaluation B) → Alike R d e → ((a b : A) → R a b → Alike Q (next a) (next' b)) →
        Alike Q (bind d next) (bind e next')
    alike_bind d e next next' h k f g w v hf hw = and_then_alike next next' k (d f w) (e g v) (h f g w v hf hw)

-- a fact about the second world, shown of the first with other globals
pub with_globals : (x : Setting) (w v : World) (P : World → Type 0) → SameWorld x w v →
    ((hs : List (List ℕ)) → SameObjects x (global_types x.program) w.globals hs → P (record w { globals = hs })) → P v
with_globals x w v P h k = subst P (sym h.others) (k v.globals h.globals)

-- both with other globals
pub moved : (x : Setting) (w v : World) (gs hs : List (List ℕ)) → SameWorld x w v → SameObjects x (global_types x.program) gs hs →
    SameWorld x (record w { globals = gs }) (record v { globals = hs })
moved x w v gs hs h k = record {
  globals = k;
  others = ap (λ (z : World). record z { globals = hs }) h.others;
  actions = h.actions;
  pointers = h.pointers;
}
