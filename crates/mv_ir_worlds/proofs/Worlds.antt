-- Fit worlds stay fit.
use Rattle.std.proofs.Common.{◌≡◌, ℕ, Bool, true, false, List, [], ◌∷◌, length, refl, if◌then◌else◌, nat_eq}
use Rattle.std.specs.Prelude.{All, ◌&&◌, not}
use Rattle.std.specs.List.{list_all}
use Rattle.std.proofs.lemmas.Bool.{and_parts, and_from}
use Rattle.std.proofs.lemmas.List.Elements.{All-nil, All-cons, All-head, All-tail}
use Rattle.mv_ast.specs.declared.program.Program.{Program}
use Rattle.mv_ast.specs.declared.program.Known.TheVariants.{Getchar, Putchar, Poll, Plan}
use Rattle.mv_bindings.specs.declared.binding.Binding.{Binding}
use Rattle.mv_ast.specs.Actions.{act_fits}
use Rattle.mv_ast.specs.Bindings.{are_bindings, are_typed_bindings}
use Rattle.mv_ast.specs.Orders.{Answered, may_commit, ordered, acted, polled}
use Rattle.mv_ast.specs.Switches.{with_word, switch_global}
use Rattle.mv_ast.specs.Worlds as source
use Rattle.mv_bindings.specs.Acts.{Act, Skip, Flip, Adopt}
use Rattle.mv_ir.specs.World.{World}
use Rattle.mv_ir.specs.KnownFunctions.{seen, seen_from, next_byte}
use Rattle.mv_ir_worlds.specs.Fit.{AreBindings, IsFit, is_fit}
use Rattle.mv_ir_worlds.specs.Laws.{FitIsTold, KnownsKeepFit, FirstIsFit}
use Rattle.mv_ir_worlds.proofs.Bindings.{bindings_told, first_bindings, orders_kept}

module _ (p : Program) where
  abbrev Fits : (hart : ℕ) → Act → Type 0
  Fits hart a = act_fits p hart a ≡ true

  -- ---- the test

  actions_told : (hart : ℕ) (actions : List Act) → list_all (act_fits p hart) actions ≡ true → All (Fits hart) actions
  actions_told hart [] h = All-nil (Fits hart)
  actions_told hart (a ∷ rest) h =
      let k = and_parts (act_fits p hart a) (list_all (act_fits p hart) rest) h in All-cons (Fits hart) a rest k.0 (actions_told hart rest k.1)

  actions_fit : (hart : ℕ) (actions : List Act) → All (Fits hart) actions → list_all (act_fits p hart) actions ≡ true
  actions_fit hart [] h = refl
  actions_fit hart (a ∷ rest) h =
      and_from (act_fits p hart a) (list_all (act_fits p hart) rest) (All-head (Fits hart) a rest h) (actions_fit hart rest (All-tail (Fits hart) a rest h))

  fit_from : (w : World) → is_fit p w ≡ true → IsFit p w
  fit_from w h =
      let k = and_parts (are_bindings p w.bindings) (list_all (act_fits p w.hart) w.actions) h in
      record { bindings = (bindings_told p w.bindings).0 k.0; actions = actions_told w.hart w.actions k.1 }

  fit_test : (w : World) → IsFit p w → is_fit p w ≡ true
  fit_test w h = and_from (are_bindings p w.bindings) (list_all (act_fits p w.hart) w.actions) ((bindings_told p w.bindings).1 h.bindings) (actions_fit w.hart w.actions h.actions)

  -- ---- commits, reverts and polls

  either_fit : (z : Bool) (x y : Answered) → IsFit p (seen x.world) → IsFit p (seen y.world) → IsFit p (seen (if z then x else y).world)
  either_fit true x y h k = h
  either_fit false x y h k = k

  module _ (numbers : List ℕ) (count : length numbers ≡ length p.functions) where
    pub ordered_fit : (code index : ℕ) (w : source.World) → IsFit p (seen w) → IsFit p (seen (ordered p numbers code index w).world)
    ordered_fit code index w h =
        either_fit (may_commit w) _ _ (record { bindings = orders_kept p numbers count code index w.globals w.bindings h.bindings; actions = h.actions }) h

    -- bindings that another hart may adopt are bindings that may be
    adopted_fit : (hart : ℕ) (bs : List Binding) → Fits hart (Adopt bs) → AreBindings p bs
    adopted_fit hart bs h =
        let others = and_parts (not (nat_eq hart 0)) (are_bindings p bs && are_typed_bindings p bs) h in
        let both = and_parts (are_bindings p bs) (are_typed_bindings p bs) others.1 in
        (bindings_told p bs).0 both.0

    acted_fit : (actions : List Act) (w : source.World) → All (Fits w.hart) actions → IsFit p (seen w) → IsFit p (seen (acted p numbers actions w).world)
    acted_fit [] w all h = h
    acted_fit (Skip ∷ rest) w all h = record { bindings = h.bindings; actions = All-tail (Fits w.hart) Skip rest all }
    acted_fit (Flip s v ∷ rest) w all h =
        ordered_fit 0 0 (record w { globals = with_word w.globals (switch_global p s) 0 v; actions = rest })
        (record { bindings = h.bindings; actions = All-tail (Fits w.hart) (Flip s v) rest all })
    acted_fit (Adopt bs ∷ rest) w all h =
        record { bindings = adopted_fit w.hart bs (All-head (Fits w.hart) (Adopt bs) rest all); actions = All-tail (Fits w.hart) (Adopt bs) rest all }

    pub polled_fit : (w : source.World) → IsFit p (seen w) → IsFit p (seen (polled p numbers w).world)
    polled_fit w h = either_fit (nat_eq w.live 0) _ _ (acted_fit w.actions w h.actions h) h

  byte_fit : (w : World) (bytes : List ℕ) → IsFit p w → IsFit p (next_byte bytes w).world
  byte_fit w [] h = h
  byte_fit w (byte ∷ rest) h = record { bindings = h.bindings; actions = h.actions }

pub fit_told : FitIsTold
fit_told p w = (fit_from p w, fit_test p w)

pub knowns_keep : KnownsKeepFit
knowns_keep p numbers Getchar args live w count h = byte_fit p w w.input h
knowns_keep p numbers Putchar args live w count h = record { bindings = h.bindings; actions = h.actions }
knowns_keep p numbers Poll args live w count h = polled_fit p numbers count (seen_from 0 live w) h
knowns_keep p numbers (Plan code index) args live w count h = ordered_fit p numbers count code index (seen_from 0 live w) h

pub first_fit : FirstIsFit
first_fit p numbers hart input actions fit = record { bindings = first_bindings p; actions = fit }
