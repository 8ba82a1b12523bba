-- The known functions do in the code what they do in the source.
use Rattle.std.proofs.Common.{◌≡◌, ℕ, suc, ◌+◌, ◌*◌, ◌-◌, ◌^◌, ◌<◌, ◌≤◌, Bool, true, false, cond, List, [], ◌∷◌, length, Option, Some, None, refl, sym, ◌∙◌, subst, ap, arith, if◌then◌else◌, nat_eq}
use Rattle.std.specs.Prelude.{◌&&◌, ◌||◌, unwrap_or, slice_get}
use Rattle.std.proofs.lemmas.Bool.{eqb-true, eq-eqb}
use Rattle.mv_ast.specs.declared.program.Program.{Program}
use Rattle.mv_ast.specs.declared.program.Function.{Function}
use Rattle.mv_ast.specs.declared.program.Known.{Known}
use Rattle.mv_ast.specs.declared.program.Known.TheVariants.{Getchar, Putchar, Poll, Plan}
use Rattle.mv_bindings.specs.declared.binding.Binding.{Binding}
use Rattle.mv_ast.specs.Counts.{patchable_places}
use Rattle.mv_ast.specs.Orders.{Answered, bindings_after, bound_after, rebound, may_commit, acted, polled}
use Rattle.mv_num.specs.Lists.{is_among}
use Rattle.mv_ast.specs.Switches.{attributed_functions, attributed_before, switch_global, with_word, binding_value, bound_value}
use Rattle.mv_bindings.specs.OrderNumbers.{is_commit}
use Rattle.mv_ast.specs.Numbering.{place_from}
use Rattle.mv_ast.proofs.Common.{first_has, first_has_not}
use Rattle.mv_ast.specs.Worlds.{World, Outcome}
use Rattle.mv_bindings.specs.Acts.{Act, Skip, Flip, Adopt}
use Rattle.mv_meaning.specs.declared.state.Frame.{Frame}
use Rattle.mv_meaning.specs.Meaning.{called_global, byte_of, put_byte, answered}
use Rattle.mv_ir.specs.World as code_world
use Rattle.mv_ir.specs.Programs.{setting_of}
use Rattle.mv_ir.specs.KnownFunctions.{next_byte, written, switched_at, patch_cost, at_cost, seen_from, seen}
use Rattle.mv_lower_spec.specs.Correct.{Unmoved, KnownShown, KnownAgrees, SwitchedAgrees}
use Rattle.mv_lower_spec.proofs.Forms.{with_word_lengths}
use Rattle.mv_num.proofs.Booleans.{and_right, from_falsity}

-- a frame of an attributed function is among the live ones
abbrev pub OwnIsLive : Program → code_world.Frame → ℕ → Type 0
OwnIsLive p frame own = (g : Function) → slice_get p.functions own ≡ Some g → g.attributed ≡ true → 0 < frame.live

-- where no binding changes while an attributed frame is live, a frame of any function reads its switches as before
pub same_reads : (p : Program) (frame : code_world.Frame) (own : ℕ) (before after : List Binding) → OwnIsLive p frame own → (0 < frame.live → after ≡ before) →
    (g : ℕ) → bound_value p after own (slice_get p.functions own) g ≡ bound_value p before own (slice_get p.functions own) g
same_reads p frame own before after lively pinned g = by (slice_get p.functions own) refl
  where
    read : List Binding → Bool → Function → Option ℕ
    read bs z x = cond z (binding_value p x (slice_get bs (attributed_before p.functions own)) g) None

    flagged : (x : Function) (z : Bool) → x.attributed ≡ z → slice_get p.functions own ≡ Some x → read after z x ≡ read before z x
    flagged x true q e = ap (λ bs. read bs true x) (pinned (lively x e q))
    flagged x false q e = refl

    by : (o : Option Function) → slice_get p.functions own ≡ o → bound_value p after own o g ≡ bound_value p before own o g
    by None e = refl
    by (Some x) e = flagged x x.attributed refl e

module _ (p : Program) (numbers : List ℕ) (frame : code_world.Frame) (own : ℕ) (lively : OwnIsLive p frame own) where
  -- nothing is changed
  unmoved : (f : Frame) (w : World) → Unmoved p frame own f f w w
  unmoved f w = record { globals = λ g. refl; frame_same = refl; depth = refl; live = refl; pinned = λ lt. refl; switches = λ g. refl }

  taken : (xs : List ℕ) (f : Frame) (w : World) → KnownShown p frame own (next_byte xs (seen w)) f w (byte_of xs f w)
  taken [] f w = record { value = refl; world = refl; unmoved = record { globals = λ g. refl; frame_same = refl; depth = refl; live = refl; pinned = λ lt. refl; switches = λ g. refl }; paid = omega arith }
  taken (x ∷ xs) f w = record { value = refl; world = refl; unmoved = record { globals = λ g. refl; frame_same = refl; depth = refl; live = refl; pinned = λ lt. refl; switches = λ g. refl }; paid = omega arith }

  put : (v : ℕ) (f : Frame) (w : World) → KnownShown p frame own (written v (seen w)) f w (put_byte v f w)
  put v f w = record { value = refl; world = refl; unmoved = record { globals = λ g. refl; frame_same = refl; depth = refl; live = refl; pinned = λ lt. refl; switches = λ g. refl }; paid = omega arith }

  -- ---- commits and reverts

  abbrev carried : (code index : ℕ) → Bool → World → Answered
  carried code index free w =
      let bs = bindings_after p numbers code index w.globals w.bindings in
      if free
      then record { answer = if is_commit code then bound_after p code index bs else 0; world = rebound w bs }
      else record { answer = 2 ^ 32 - 1; world = w }

  not_live : (live : ℕ) → nat_eq live 0 ≡ true → live ≡ frame.live → 0 < frame.live → ⊥
  not_live live e q lt = let z : live ≡ 0 = eqb-true live 0 e in omega (arith, z, q, lt)

  ordered_shown : (code index : ℕ) (z : Bool) (f : Frame) (w : World) → may_commit w ≡ z → w.live ≡ frame.live →
      KnownShown p frame own (at_cost (patch_cost p) (carried code index z (seen_from 0 frame.live (seen w)))) f w (answered (1 + patchable_places p) (carried code index z w) f w)
  ordered_shown code index true f w e q =
      let free : 0 < frame.live → ⊥ = not_live w.live (and_right (nat_eq w.hart 0) (nat_eq w.live 0) e) q in
      record {
        value = refl;
        world = refl;
        unmoved = record {
          globals = λ g. refl;
          frame_same = refl;
          depth = refl;
          live = refl;
          pinned = λ lt. absurd (free lt);
          switches = same_reads p frame own w.bindings (bindings_after p numbers code index w.globals w.bindings) lively (λ lt. absurd (free lt));
        };
        paid = omega arith;
      }
  ordered_shown code index false f w e q = record { value = refl; world = refl; unmoved = unmoved f w; paid = omega arith }

  -- ---- polls

  abbrev flipped_as : (switch value : ℕ) → Bool → World → World
  flipped_as s v free w = (carried 0 0 free (record w { globals = with_word w.globals (switch_global p s) 0 v })).world

  abbrev acted_as : List Act → Bool → World → Answered
  acted_as [] free w = record { answer = 0; world = w }
  acted_as (Skip ∷ rest) free w = record { answer = 0; world = record w { actions = rest } }
  acted_as (Flip s v ∷ rest) free w = record { answer = 1; world = flipped_as s v free (record w { actions = rest }) }
  acted_as (Adopt bs ∷ rest) free w = record { answer = 1; world = rebound (record w { actions = rest }) bs }

  -- in hart 0 or another one, and where no attributed frame is live or one is
  abbrev polled_as : Bool → Bool → World → Answered
  polled_as first free w = if free then acted_as w.actions (first && free) w else record { answer = 0; world = w }

  acted_is : (actions : List Act) (w : World) → acted p numbers actions w ≡ acted_as actions (may_commit w) w
  acted_is [] w = refl
  acted_is (Skip ∷ rest) w = refl
  acted_is (Flip s v ∷ rest) w = refl
  acted_is (Adopt bs ∷ rest) w = refl

  polled_is : (w : World) → polled p numbers w ≡ polled_as (nat_eq w.hart 0) (nat_eq w.live 0) w
  polled_is w = ap (λ a. if nat_eq w.live 0 then a else record { answer = 0; world = w }) (acted_is w.actions w)

  abbrev source_poll : Bool → Answered → Frame → World → Outcome Frame ℕ
  source_poll first a f w = answered (if nat_eq a.answer 1 then (if first then 1 + patchable_places p else 1) else 0) a f w

  abbrev code_poll : Bool → Answered → code_world.Answer
  code_poll first a = at_cost (if nat_eq a.answer 1 then (if first then patch_cost p else 30) else 0) a

  acted_shown : (first : Bool) (actions : List Act) (f : Frame) (w : World) → nat_eq w.live 0 ≡ true → w.live ≡ frame.live →
      KnownShown p frame own (code_poll first (acted_as actions first (seen_from 0 frame.live (seen w)))) f w (source_poll first (acted_as actions first w) f w)
  acted_shown first [] f w e q = record { value = refl; world = refl; unmoved = unmoved f w; paid = omega arith }
  acted_shown first (Skip ∷ rest) f w e q = record {
    value = refl;
    world = refl;
    unmoved = record { globals = λ g. refl; frame_same = refl; depth = refl; live = refl; pinned = λ lt. refl; switches = λ g. refl };
    paid = omega arith;
  }
  acted_shown true (Flip s v ∷ rest) f w e q =
      let free : 0 < frame.live → ⊥ = not_live w.live e q in
      let at = switch_global p s in
      record {
        value = refl;
        world = refl;
        unmoved = record {
          globals = λ g. with_word_lengths w.globals at 0 v g;
          frame_same = refl;
          depth = refl;
          live = refl;
          pinned = λ lt. absurd (free lt);
          switches = same_reads p frame own w.bindings _ lively (λ lt. absurd (free lt));
        };
        paid = omega arith;
      }
  acted_shown false (Flip s v ∷ rest) f w e q = record {
    value = refl;
    world = refl;
    unmoved = record {
      globals = λ g. with_word_lengths w.globals (switch_global p s) 0 v g;
      frame_same = refl;
      depth = refl;
      live = refl;
      pinned = λ lt. refl;
      switches = λ g. refl;
    };
    paid = omega arith;
  }
  acted_shown first (Adopt bs ∷ rest) f w e q =
      let free : 0 < frame.live → ⊥ = not_live w.live e q in
      record {
        value = refl;
        world = refl;
        unmoved = record {
          globals = λ g. refl;
          frame_same = refl;
          depth = refl;
          live = refl;
          pinned = λ lt. absurd (free lt);
          switches = same_reads p frame own w.bindings bs lively (λ lt. absurd (free lt));
        };
        paid = adopting first;
      }
    where
      adopting : (z : Bool) → (if z then patch_cost p else 30) ≤ 100 * (if z then 1 + patchable_places p else 1)
      adopting true = omega arith
      adopting false = omega arith

  polled_shown : (first free : Bool) (f : Frame) (w : World) → nat_eq w.live 0 ≡ free → w.live ≡ frame.live →
      KnownShown p frame own (code_poll first (polled_as first free (seen_from 0 frame.live (seen w)))) f w (source_poll first (polled_as first free w) f w)
  polled_shown true true f w e q = acted_shown true w.actions f w e q
  polled_shown false true f w e q = acted_shown false w.actions f w e q
  polled_shown first false f w e q = record { value = refl; world = refl; unmoved = unmoved f w; paid = omega arith }

  -- the tests of the two sides are one
  both_tests : (w : World) (R : Bool → Bool → Type 0) → w.live ≡ frame.live → R (nat_eq w.live 0) (nat_eq w.live 0) → R (nat_eq frame.live 0) (nat_eq w.live 0)
  both_tests w R q h = subst (λ n. R (nat_eq n 0) (nat_eq w.live 0)) q h

  pub known_agrees : (k : Known) → KnownAgrees p frame own (setting_of numbers p) k
  known_agrees Getchar = λ vs f w hf hl. taken w.input f w
  known_agrees Putchar = λ vs f w hf hl. put (unwrap_or (slice_get vs 0) 0) f w
  known_agrees Poll = λ vs f w hf hl.
      let there = seen_from 0 frame.live (seen w) in
      let first = nat_eq w.hart 0 in
      subst (λ a. KnownShown p frame own (code_poll first a) f w (source_poll first (polled p numbers w) f w)) (sym (polled_is there))
      (subst (λ a. KnownShown p frame own (code_poll first (polled_as first (nat_eq frame.live 0) there)) f w (source_poll first a f w)) (sym (polled_is w))
      (both_tests w (λ x y. KnownShown p frame own (code_poll first (polled_as first x there)) f w (source_poll first (polled_as first y w) f w)) hl (polled_shown first (nat_eq w.live 0) f w refl hl)))
  known_agrees (Plan code index) = λ vs f w hf hl.
      let first = nat_eq w.hart 0 in
      both_tests w
      (λ x y. KnownShown p frame own (at_cost (patch_cost p) (carried code index (first && x) (seen_from 0 frame.live (seen w)))) f w (answered (1 + patchable_places p) (carried code index (first && y) w) f w)) hl
      (ordered_shown code index (may_commit w) f w refl hl)

-- ---- calls through pointer switches

there_is : (i : ℕ) (gs : List ℕ) (g : ℕ) → is_among g gs ≡ true → (n : ℕ) × (place_from i gs g ≡ Some n)
there_is i [] g e = from_falsity e
there_is i (x ∷ gs) g e = by (nat_eq g x) refl (there_is (suc i) gs g)
  where
    by : (z : Bool) → nat_eq g x ≡ z → (is_among g gs ≡ true → (n : ℕ) × (place_from (suc i) gs g ≡ Some n)) → (n : ℕ) × (place_from i (x ∷ gs) g ≡ Some n)
    by true q later = (i, first_has g i x gs (sym (eqb-true g x q)))
    by false q later =
        let found = later (sym (ap (λ z. z || is_among g gs) q) ∙ e) in
        (found.0, first_has_not g i x gs (λ same. from_falsity (sym q ∙ eq-eqb g x (sym same))) ∙ found.1)

-- they see the same number in the code as in the source
pub switched_agrees : (p : Program) (numbers : List ℕ) → SwitchedAgrees p (setting_of numbers p)
switched_agrees p numbers g f w e =
    let found = there_is (length (attributed_functions p)) p.pointers g e in
    subst (λ (o : Option ℕ). switched_at numbers o g (seen w) ≡ called_global p numbers g 0 o f w) (sym found.1) refl
