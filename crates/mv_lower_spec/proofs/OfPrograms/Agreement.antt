-- Evaluations in two contexts and two frames that hold the same in some locals.
use Rattle.std.proofs.Common.{◌≡◌, ℕ, ◌+◌, ◌⊎◌, inl, inr, Bool, true, false, [], length, refl, sym, ap, subst, if◌then◌else◌, nat_eq}
use Rattle.std.specs.Prelude.{slice_index_or}
use Rattle.mv_bindings.specs.declared.stop.Stop.{Stop}
use Rattle.mv_ast.specs.Worlds.{World, Outcome, Came, Stopped, after, and_then, bind, give, stop, counted}
use Rattle.mv_meaning.specs.declared.state.Frame.{Frame}
use Rattle.mv_meaning.specs.Meaning.{Evaluation, unless_zero}
use Rattle.mv_source_forms.specs.Scopes.{Scope}

-- frames of one function, with locals of the same sizes, of which those in scope hold the same
pub record Agree (scope : Scope) (f g : Frame) : Type 0 where
  pub function : f.function ≡ g.function
  pub count : length f.locals ≡ length g.locals
  pub sizes : (l : ℕ) → length (slice_index_or f.locals l []) ≡ length (slice_index_or g.locals l [])
  pub words : (l : ℕ) → scope l ≡ true → slice_index_or f.locals l [] ≡ slice_index_or g.locals l []

pub agree_refl : (scope : Scope) (f : Frame) → Agree scope f f
agree_refl scope f = record { function = refl; count = refl; sizes = λ l. refl; words = λ l e. refl }

-- what two frames are to be where a value came
abbrev pub Post : Type 0 → Type 1
Post A = A → Frame → Frame → Type 0

pub record CameAlike (A : Type 0) (Q : Post A) (a : A) (f : Frame) (w : World) (n : ℕ) (b : A) (g : Frame) (v : World) (m : ℕ) : Type 0 where
  pub value : a ≡ b
  pub world : w ≡ v
  pub work : n ≡ m
  pub frames : Q a f g

-- Of an evaluation that stops on the left in a way that is lost, nothing is said; else it stops in one of the fine ways.
module _ (lost fine : Stop → Type 0) where
  pub record StoppedAlike (s : Stop) (w : World) (n : ℕ) (t : Stop) (v : World) (m : ℕ) : Type 0 where
    pub why : s ≡ t
    pub world : w ≡ v
    pub work : n ≡ m
    pub may : fine s

  -- two outcomes that differ in their frames alone
  abbrev pub AlikeOutcome : (A : Type 0) → Post A → Outcome Frame A → Outcome Frame A → Type 0
  AlikeOutcome A Q (Came a f w n) (Came b g v m) = CameAlike A Q a f w n b g v m
  AlikeOutcome A Q (Came a f w n) (Stopped t v m) = ⊥
  AlikeOutcome A Q (Stopped s w n) (Came b g v m) = lost s
  AlikeOutcome A Q (Stopped s w n) (Stopped t v m) = lost s ⊎ StoppedAlike s w n t v m

  -- of an evaluation on the left (`true`) and one on the right
  abbrev pub Alike : {A : Type 0} → (Frame → Frame → Type 0) → Post A → (Bool → Evaluation A) → Type 0
  Alike {A} P Q d = (f g : Frame) (w : World) → P f g → AlikeOutcome A Q (d true f w) (d false g w)

  pub lost_alike : {A : Type 0} (Q : Post A) (s : Stop) (w : World) (n : ℕ) (q : Outcome Frame A) → lost s → AlikeOutcome A Q (Stopped s w n) q
  lost_alike Q s w n (Came b g v m) h = h
  lost_alike Q s w n (Stopped t v m) h = inl h

  module _ {A : Type 0} (P : Frame → Frame → Type 0) (Q : Post A) where
    pub alike_give : (a : A) → ((f g : Frame) → P f g → Q a f g) → Alike P Q (λ z. give a)
    alike_give a h f g w k = record { value = refl; world = refl; work = refl; frames = h f g k }

    pub alike_stop : (s : Stop) → fine s → Alike P Q (λ z. stop s)
    alike_stop s h f g w k = inr (record { why = refl; world = refl; work = refl; may = h })

    pub after_alike : (n : ℕ) (o q : Outcome Frame A) → AlikeOutcome A Q o q → AlikeOutcome A Q (after n o) (after n q)
    after_alike n (Came a f w k) (Came b g v m) h = record { value = h.value; world = h.world; work = ap (λ k. n + k) h.work; frames = h.frames }
    after_alike n (Came a f w k) (Stopped t v m) h = h
    after_alike n (Stopped s w k) (Came b g v m) h = h
    after_alike n (Stopped s w k) (Stopped t v m) (inl h) = inl h
    after_alike n (Stopped s w k) (Stopped t v m) (inr h) = inr (record { why = h.why; world = h.world; work = ap (λ k. n + k) h.work; may = h.may })

    pub alike_counted : (n : ℕ) (d : Bool → Evaluation A) → Alike P Q d → Alike P Q (λ z. counted n (d z))
    alike_counted n d h f g w k = after_alike n (d true f w) (d false g w) (h f g w k)

    pub alike_either : (b : Bool) (d e : Bool → Evaluation A) → Alike P Q d → Alike P Q e → Alike P Q (λ z. if b then d z else e z)
    alike_either true d e h k = h
    alike_either false d e h k = k

    pub alike_unless : (a : ℕ) (d e : Bool → Evaluation A) → Alike P Q d → Alike P Q e → Alike P Q (λ z. unless_zero a (d z) (e z))
    alike_unless a = alike_either (nat_eq a 0)

    -- evaluations that are the same on each side, or come to the same
    pub alike_by : (d e : Bool → Evaluation A) → d true ≡ e true → d false ≡ e false → Alike P Q e → Alike P Q d
    alike_by d e left right h f g w k =
        subst (λ (m : Evaluation A). AlikeOutcome A Q (m f w) (d false g w)) (sym left) (subst (λ (m : Evaluation A). AlikeOutcome A Q (e true f w) (m g w)) (sym right) (h f g w k))

    pub alike_pointwise : (d e : Bool → Evaluation A) → ((z : Bool) (f : Frame) (w : World) → d z f w ≡ e z f w) → Alike P Q e → Alike P Q d
    alike_pointwise d e same h f g w k = subst (λ o. AlikeOutcome A Q o (d false g w)) (sym (same true f w)) (subst (λ o. AlikeOutcome A Q (e true f w) o) (sym (same false g w)) (h f g w k))

  -- what two frames are to be follows from what they are
  weaken_outcome : {A : Type 0} (Q R : Post A) → ((a : A) (f g : Frame) → Q a f g → R a f g) → (o q : Outcome Frame A) → AlikeOutcome A Q o q → AlikeOutcome A R o q
  weaken_outcome Q R k (Came a f w n) (Came b g v m) h = record { value = h.value; world = h.world; work = h.work; frames = k a f g h.frames }
  weaken_outcome Q R k (Came a f w n) (Stopped t v m) h = h
  weaken_outcome Q R k (Stopped s w n) (Came b g v m) h = h
  weaken_outcome Q R k (Stopped s w n) (Stopped t v m) h = h

  pub alike_weaken : {A : Type 0} (P : Frame → Frame → Type 0) (Q R : Post A) → ((a : A) (f g : Frame) → Q a f g → R a f g) → (d : Bool → Evaluation A) → Alike P Q d → Alike P R d
  alike_weaken P Q R k d h f g w e = weaken_outcome Q R k (d true f w) (d false g w) (h f g w e)

  module _ {A B : Type 0} (Q : Post A) (R : Post B) where
    then_alike : (next : A → Bool → Evaluation B) → ((a : A) → Alike (Q a) R (next a)) → (o q : Outcome Frame A) → AlikeOutcome A Q o q → AlikeOutcome B R (and_then o (λ a. next a true)) (and_then q (λ a. next a false))
    then_alike next k (Came a f w n) (Came b g v m) h =
        subst (λ x. AlikeOutcome B R (after n (next a true f w)) (after m (next x false g v))) h.value
        (subst (λ x. AlikeOutcome B R (after n (next a true f w)) (after m (next a false g x))) h.world
        (subst (λ x. AlikeOutcome B R (after n (next a true f w)) (after x (next a false g w))) h.work
        (after_alike (Q a) R n (next a true f w) (next a false g w) (k a f g w h.frames))))
    then_alike next k (Came a f w n) (Stopped t v m) h = absurd h
    then_alike next k (Stopped s w n) (Came b g v m) h = lost_alike R s w n (after m (next b false g v)) h
    then_alike next k (Stopped s w n) (Stopped t v m) h = h

    pub alike_bind : (P : Frame → Frame → Type 0) (d : Bool → Evaluation A) (next : A → Bool → Evaluation B) → Alike P Q d → ((a : A) → Alike (Q a) R (next a)) → Alike P R (λ z. bind (d z) (λ a. next a z))
    alike_bind P d next h k f g w e = then_alike next k (d true f w) (d false g w) (h f g w e)
