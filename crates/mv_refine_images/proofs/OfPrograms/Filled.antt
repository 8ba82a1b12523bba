-- Calls that are the source's where these have a meaning, in worlds of the program; else they do what short bodies do, at a cost that no budget pays for. So of
-- them it is known in every world what the short bodies do, and functions that keep the convention by the source's calls keep it by these.
use Rattle.std.proofs.Common.{◌≡◌, ◌⊎◌, inl, inr, ℕ, zero, suc, ◌+◌, ◌<◌, ◌≤◌, Bool, true, false, not, ◌&&◌, cond, eqb, List, [], ◌∷◌, length, Option, Some, None, refl, sym, ap, subst, ◌∙◌, arith}
use Rattle.std.specs.Prelude.{slice_get, slice_index_or}
use Rattle.std.proofs.lemmas.Bool.{eqb-true, eq-eqb}
use Rattle.std.proofs.lemmas.Option.{slice_get_within}
use Rattle.mv_num.proofs.Booleans.{and_left, and_right}
use Rattle.mv_ast.specs.declared.program.Program.{Program}
use Rattle.mv_ast.specs.declared.program.Global.{Global}
use Rattle.mv_isa.specs.Execution.{Access}
use Rattle.mv_ir.specs.declared.body.Body.{Body}
use Rattle.mv_ir.specs.World as ir
use Rattle.mv_ir.specs.World.{World}
use Rattle.mv_ir.specs.KnownFunctions.{seen_from}
use Rattle.mv_ir.specs.Outcome.{End, Returned, Trapped, More, Stuck, Call, Calls, Bound}
use Rattle.mv_ir.specs.Keeps.{KeepsCall}
use Rattle.mv_ir.specs.Meaning.{cleared, body_meaning}
use Rattle.mv_ir.specs.Programs.{setting_of}
use Rattle.mv_ir.specs.Shorts.{Shorts, any_frame, DoesAs, AreShorts}
use Rattle.mv_expand.proofs.Still.{short_still}
use Rattle.mv_source_forms.specs.Names.{words_of_global}
use Rattle.mv_source_forms.specs.WellFormed.{IsWellFormed}
use Rattle.mv_lower_spec.specs.Functions.{lower_function}
use Rattle.mv_lower_spec.specs.Statements.{levels}
use Rattle.mv_lower_spec.specs.Programs.Laws.{callee_frame}
use Rattle.mv_lower_spec.specs.Calls.SourceCalls.{source_call, Promises}
use Rattle.mv_lower_spec.specs.Calls.Laws.{AreAsSource, BodiesAreRight}
use Rattle.mv_select_code.specs.Control.Runs.{Machine}
use Rattle.mv_select.specs.Calls.Convention.{Layout, FollowsCall, entry_cost, slot_cost, Convention, PointsKeep, Conventions}
use Rattle.mv_variants.specs.Bound.Shorts.{IsShortOf, AreShortsOf}

-- there are as many levels of any calls
pub same_length : (calls other : ℕ → Calls) (k : ℕ) → length (levels calls k) ≡ length (levels other k)
same_length calls other zero = refl
same_length calls other (suc k) = ap suc (same_length calls other k)

-- ---- what is said

abbrev is_stuck : End → Bool
is_stuck (Returned v w) = false
is_stuck (Trapped code w) = false
is_stuck (More w) = false
is_stuck Stuck = true

stuck_told : (e : End) → is_stuck e ≡ true → e ≡ Stuck
stuck_told (Returned v w) h = absurd cc
stuck_told (Trapped code w) h = absurd cc
stuck_told (More w) h = absurd cc
stuck_told Stuck h = refl

not_stuck : {A : Type 0} (e : End) → is_stuck e ≡ false → e ≡ Stuck → A
not_stuck (Returned v w) h k = absurd cc
not_stuck (Trapped code w) h k = absurd cc
not_stuck (More w) h k = absurd cc
not_stuck Stuck h k = absurd cc

-- whether globals have as many words as they are declared with
abbrev has_words : List (List ℕ) → List Global → Bool
has_words [] [] = true
has_words [] (g ∷ gs) = eqb 0 (words_of_global (Some g)) && has_words [] gs
has_words (x ∷ xs) [] = eqb (length x) 0 && has_words xs []
has_words (x ∷ xs) (g ∷ gs) = eqb (length x) (words_of_global (Some g)) && has_words xs gs

abbrev HaveWords : List (List ℕ) → List Global → Type 0
HaveWords xs gs = (i : ℕ) → length (slice_index_or xs i []) ≡ words_of_global (slice_get gs i)

words_told : (xs : List (List ℕ)) (gs : List Global) → has_words xs gs ≡ true → HaveWords xs gs
words_told [] [] h i = refl
words_told [] (g ∷ gs) h zero = eqb-true 0 (words_of_global (Some g)) (and_left _ _ h)
words_told [] (g ∷ gs) h (suc i) = words_told [] gs (and_right _ _ h) i
words_told (x ∷ xs) [] h zero = eqb-true (length x) 0 (and_left _ _ h)
words_told (x ∷ xs) [] h (suc i) = words_told xs [] (and_right _ _ h) i
words_told (x ∷ xs) (g ∷ gs) h zero = eqb-true (length x) (words_of_global (Some g)) (and_left _ _ h)
words_told (x ∷ xs) (g ∷ gs) h (suc i) = words_told xs gs (and_right _ _ h) i

words_hold : (xs : List (List ℕ)) (gs : List Global) → HaveWords xs gs → has_words xs gs ≡ true
words_hold [] [] h = refl
words_hold [] (g ∷ gs) h = ap (λ b. b && has_words [] gs) (eq-eqb 0 (words_of_global (Some g)) (h 0)) ∙ words_hold [] gs (λ i. h (suc i))
words_hold (x ∷ xs) [] h = ap (λ b. b && has_words xs []) (eq-eqb (length x) 0 (h 0)) ∙ words_hold xs [] (λ i. h (suc i))
words_hold (x ∷ xs) (g ∷ gs) h = ap (λ b. b && has_words xs gs) (eq-eqb (length x) (words_of_global (Some g)) (h 0)) ∙ words_hold xs gs (λ i. h (suc i))

module _ (p : Program) (numbers : List ℕ) (shorts : Shorts) (budget : ℕ) where
  abbrev setting : ir.Setting
  setting = setting_of numbers p

  -- what a short body does, if there is one
  abbrev short_call : Option (Option Body) → List ℕ → World → Call → Call
  short_call (Some (Some b)) args w c = let m = body_meaning setting any_frame b args [] w in record { cost = suc budget + m.cost; end = m.end }
  short_call (Some None) args w c = c
  short_call None args w c = c

  abbrev said : Bool → Option (Option Body) → List ℕ → World → Call → Call
  said z o args w c = cond z c (short_call o args w c)

  abbrev is_said : Call → World → Bool
  is_said c w = not (is_stuck c.end) && has_words w.globals p.globals

  abbrev pub filled_call : ℕ → Calls
  filled_call k f args depth live w = let c = source_call p numbers k f args depth live w in said (is_said c w) (slice_get shorts f) args w c

  pub filled_alike : AreAsSource p numbers filled_call
  filled_alike k f args depth live w globals = by (is_stuck c.end) refl
    where
      c : Call
      c = source_call p numbers k f args depth live w

      by : (z : Bool) → is_stuck c.end ≡ z → (c.end ≡ Stuck) ⊎ (filled_call k f args depth live w ≡ c)
      by true e = inl (stuck_told c.end e)
      by false e =
          inr (ap (λ z. said (not z && has_words w.globals p.globals) (slice_get shorts f) args w c) e ∙
          ap (λ z. said z (slice_get shorts f) args w c) (words_hold w.globals p.globals globals))

  -- ---- the convention

  -- what the budget pays for is the source's call
  paid_said : (z : Bool) (o : Option (Option Body)) (args : List ℕ) (w : World) (c : Call) (n : ℕ) → n + (said z o args w c).cost ≤ budget → said z o args w c ≡ c
  paid_said true o args w c n paid = refl
  paid_said false None args w c n paid = refl
  paid_said false (Some None) args w c n paid = refl
  paid_said false (Some (Some b)) args w c n paid = absurd (omega (arith, paid))

  stuck_said : (z : Bool) (o : Option (Option Body)) (args : List ℕ) (w : World) (c : Call) → ((b : Body) → o ≡ Some (Some b) → ⊥) → c.end ≡ Stuck → (said z o args w c).end ≡ Stuck
  stuck_said true o args w c never e = e
  stuck_said false None args w c never e = e
  stuck_said false (Some None) args w c never e = e
  stuck_said false (Some (Some b)) args w c never e = absurd (never b refl)

  module _ {M : Type 0} (access : Access M) (y : Layout) (machine : Machine M) (far count : ℕ) (within : (f : ℕ) (b : Body) → slice_get shorts f ≡ Some (Some b) → f < count) where
    paid_call : (k f : ℕ) (args : List ℕ) (depth live : ℕ) (w : World) (n : ℕ) → n + (filled_call k f args depth live w).cost ≤ budget → filled_call k f args depth live w ≡ source_call p numbers k f args depth live w
    paid_call k f args depth live w n paid = let c = source_call p numbers k f args depth live w in paid_said (is_said c w) (slice_get shorts f) args w c n paid

    filled_convention : (k n : ℕ) → Convention access y machine budget far count (source_call p numbers k) n → Convention access y machine budget far count (filled_call k) n
    filled_convention k n h = record {
      functions = λ f depth frames args back i few target ra spare w stands enters paid asked.
          let e = paid_call k f args depth frames w (i + (spare + entry_cost)) (omega (arith, paid)) in
          subst (λ (c : Call). FollowsCall access y machine budget far spare n i back c.end) (sym e)
          (h.functions f depth frames args back i few target ra spare w stands enters (subst (λ (c : Call). i + (spare + entry_cost + c.cost) ≤ budget) e paid) asked);
      slots = λ f depth frames args at i few slot spare w stands enters paid asked.
          let e = paid_call k f args depth frames w (i + (spare + slot_cost)) (omega (arith, paid)) in
          subst (λ (c : Call). FollowsCall access y machine budget far spare n i (at + 8) c.end) (sym e)
          (h.slots f depth frames args at i few slot spare w stands enters (subst (λ (c : Call). i + (spare + slot_cost + c.cost) ≤ budget) e paid) asked);
      others = λ f depth frames args w past.
          let c = source_call p numbers k f args depth frames w in
          stuck_said (is_said c w) (slice_get shorts f) args w c (λ b e. omega (arith, within f b e, past)) (h.others f depth frames args w past);
    }

  -- at each bound
  module _ {M : Type 0} (access : Access M) (y : Layout) (machine : Machine M) (far : ℕ) (within : (f : ℕ) (b : Body) → slice_get shorts f ≡ Some (Some b) → f < length numbers)
      (points : (calls : Calls) (below : Bound) → Convention access y machine budget far (length numbers) calls (length below) → PointsKeep access y machine budget far setting (calls ∷ below)) where
    pub filled_conventions : (k : ℕ) → Conventions access y machine budget far setting (levels (source_call p numbers) k) → Conventions access y machine budget far setting (levels filled_call k)
    filled_conventions zero h = h
    filled_conventions (suc k) h =
        let c =
        filled_convention access y machine far (length numbers) within k (length (levels filled_call k))
        (subst (λ n. Convention access y machine budget far (length numbers) (source_call p numbers k) n) (same_length (source_call p numbers) filled_call k) h.0) in
        (c, points (filled_call k) (levels filled_call k) c, filled_conventions k h.2)

  -- ---- what is known of them

  module _ (right : BodiesAreRight) (formed : IsWellFormed p) (known : AreShortsOf p shorts) where
    fills : (k f : ℕ) (b : Body) → slice_get shorts f ≡ Some (Some b) → DoesAs setting b (filled_call k f)
    fills k f b here args depth live w count =
        subst (λ (o : Option (Option Body)). KeepsCall (said (is_said c w) o args w c) m) (sym here) (by (is_stuck c.end) (has_words w.globals p.globals) refl refl)
      where
        s : IsShortOf p f b
        s = known f b here

        c : Call
        c = source_call p numbers k f args depth live w

        m : Call
        m = body_meaning setting any_frame b args [] w

        frame : ir.Frame
        frame = callee_frame p f s.function (seen_from depth live w)

        promised : is_stuck c.end ≡ false → Promises (body_meaning setting frame (lower_function p s.function) args (levels filled_call k) w) c → KeepsCall c m
        promised e (inl stuck) = not_stuck c.end e stuck
        promised e (inr h) =
            let kept = s.keeps setting frame cleared args (levels filled_call k) w in
            let still = short_still setting frame (levels filled_call k) b s.short args count w in
            let cost = ap (λ (x : Call). x.cost) still in
            let lower = h.1 in
            let cheaper = kept.cheaper in
            record { same = sym h.0 ∙ kept.same ∙ ap (λ (x : Call). x.end) still; cheaper = omega (arith, lower, cheaper, cost) }

        by : (z q : Bool) → is_stuck c.end ≡ z → has_words w.globals p.globals ≡ q → KeepsCall (said (not z && q) (Some (Some b)) args w c) m
        by true q e g = record { same = refl; cheaper = omega arith }
        by false false e g = record { same = refl; cheaper = omega arith }
        by false true e g =
            promised e (right p numbers filled_call filled_alike k f s.function formed s.there cleared args depth live w (count ∙ s.params) (words_told w.globals p.globals g))

    pub filled_shorts : (k : ℕ) → AreShorts setting shorts (levels filled_call k)
    filled_shorts zero = tt
    filled_shorts (suc k) = (fills k, filled_shorts k)

    pub within_numbers : length numbers ≡ length p.functions → (f : ℕ) (b : Body) → slice_get shorts f ≡ Some (Some b) → f < length numbers
    within_numbers count f b e = omega (arith, count, slice_get_within p.functions f (known f b e).function (known f b e).there)
