-- All functions of a program keep the calling convention, by induction on the bound.
use Rattle.std.proofs.Common.{◌≡◌, ◌⊎◌, inl, inr, ℕ, zero, suc, ◌+◌, ◌≤◌, Bool, true, false, List, [], ◌∷◌, map, length, Option, Some, None, refl, sym, ap, subst, ◌∙◌, arith}
use Rattle.std.specs.Prelude.{slice_get, nat_eq, if◌then◌else◌}
use Rattle.std.specs.List.{zip}
use Rattle.std.proofs.lemmas.Bool.{eqb-true}
use Rattle.std.proofs.lemmas.Option.{slice_get_past}
use Rattle.mv_ast.specs.declared.program.Program.{Program}
use Rattle.mv_ast.specs.declared.program.Function.{Function}
use Rattle.mv_bindings.specs.declared.binding.Binding.{Binding}
use Rattle.mv_ast.specs.Switches.{attributed_before, switch_domain}
use Rattle.mv_meaning.specs.Meaning.{call_of}
use Rattle.mv_isa.specs.declared.instr.Instr.{Instr}
use Rattle.mv_isa.specs.Standing.{InstrStands}
use Rattle.mv_isa.specs.Execution.{Access, reg}
use Rattle.mv_isa.specs.Registers.{ra as link_register}
use Rattle.mv_ir.specs.Combinations.{IsCombination}
use Rattle.mv_ir.specs.Meaning.{cleared}
use Rattle.mv_ir.specs.Shorts.{Shorts}
use Rattle.mv_ir.specs.KnownFunctions.{seen_from}
use Rattle.mv_ir.specs.World.{World}
use Rattle.mv_ir.specs.Outcome.{Stuck, Bound, Call}
use Rattle.mv_ir.specs.Programs.{setting_of}
use Rattle.mv_ir_worlds.specs.Functions.{IsFreeIn, IsBoundIn}
use Rattle.mv_ir_worlds.specs.Laws.{FunctionsAreFreeOrBound, PointersAreFreeOrBound, FramesOfFree, FramesOfBound}
use Rattle.mv_source_forms.specs.Names.{is_void}
use Rattle.mv_lower_spec.specs.Functions.{lower_function}
use Rattle.mv_lower_spec.specs.Statements.{levels as levels_of}
use Rattle.mv_lower_spec.specs.Law.{strict_context}
use Rattle.mv_select_code.specs.Control.Runs.{Machine, outside}
use Rattle.mv_select.specs.Calls.Convention.{Layout, IsTarget, Stands, Enters, Answers, entry_cost, slot_cost, Convention, PointsKeep, Conventions}
use Rattle.mv_select.specs.Functions.Functions.{FunctionsKeep, LaterKeeps, part, alone}
use Rattle.mv_select.proofs.OfFunctions.Alone.{word_in}
use Rattle.mv_select.specs.Inline.InlineOf.{inline_of}
use Rattle.mv_select.specs.Inline.Laws.{InlineAnswers}
use Rattle.mv_select.specs.Slots.Narrowed.{has_bindings, words_alone, under, LeavesTrue}
use Rattle.mv_select.specs.Slots.Laws as narrow
use Rattle.mv_select.specs.Slots.Points.{ArrivalsFollow, PointsUnder}
use Rattle.mv_lower_spec.specs.Calls.SourceCalls.{as_call, any_frame, meaningless, call_by_source, source_call, source_levels}
use Rattle.mv_lower_spec.specs.Calls.Laws.{BodiesAreRight, CallsKeepBindings}
use Rattle.mv_variants.specs.Bound.Shorts.{AreShortsOf}
use Rattle.mv_refine_images.specs.Programs.Hosts.{IsVariant, IsPatched, IsLoaded, SlotShows}
use Rattle.mv_refine_images.proofs.OfPrograms.Called.{called}
use Rattle.mv_refine_images.proofs.OfPrograms.Filled.{filled_call, filled_conventions, within_numbers}
use Rattle.mv_refine_images.proofs.OfPrograms.Frames.{leaves_true}
use Rattle.mv_refine_images.proofs.OfPrograms.Pointed.{NextKeeps, points_keep}
use Rattle.mv_refine_images.proofs.OfPrograms.Entries.{nothing_open, slot_in, plain_answers, free_answers, variant_promises, variant_answers, bound_answers, promised}

-- the laws that the induction stands on
pub record Known (M : Type 0) : Type 0 where
  pub each : FunctionsKeep M
  pub later : LaterKeeps M
  pub right : BodiesAreRight
  pub bindings : CallsKeepBindings
  pub free_or_bound : FunctionsAreFreeOrBound
  pub frames_free : FramesOfFree
  pub frames_bound : FramesOfBound
  pub told : narrow.BindingsAreTold
  pub alike : narrow.NarrowedAreAlike M
  pub narrowed : narrow.NarrowedRuns M
  pub slots : narrow.SlotsUnder M
  pub jumps : narrow.JumpsUnder M
  pub firsts : narrow.FirstsUnder M
  pub points : PointsUnder M
  pub arrivals : ArrivalsFollow M
  pub pointers : PointersAreFreeOrBound
  pub inlines : InlineAnswers M

module _ {M : Type 0} (access : Access M) (y : Layout) (machine : Machine M) (words : List Binding → ℕ → Option ℕ) (closed : (pc address : ℕ) → Bool) (budget far : ℕ) (p : Program) (numbers : List ℕ)
    (loaded : IsLoaded access y machine words closed budget far p numbers) (known : Known M) where
  open loaded use {host}

  points : (bound : Bound) → NextKeeps access y machine budget far (length numbers) bound → PointsKeep access y machine budget far (setting_of numbers p) bound
  points = points_keep access y machine words closed budget far p numbers loaded known.points known.arrivals known.told known.pointers

  -- at calls that do what short bodies do
  abbrev pub Filled : ℕ → Type 0
  Filled k = (shorts : Shorts) → AreShortsOf p shorts → Conventions access y machine budget far (setting_of numbers p) (levels_of (filled_call p numbers shorts budget) k)

  below_filled : (k : ℕ) → Conventions access y machine budget far (setting_of numbers p) (source_levels p numbers k) → Filled k
  below_filled k below shorts are =
      filled_conventions p numbers shorts budget access y machine far (within_numbers p numbers shorts budget known.right loaded.formed are host.count) (λ calls lower keeps. points (calls ∷ lower) keeps) k below

  module _ (k : ℕ) (filled : Filled k) where
    open called access y machine budget far p numbers k use {setting, levels, FC}

    abbrev Source : ℕ → (depth frames : ℕ) → List ℕ → World → Call
    Source f depth frames args w = source_call p numbers k f args depth frames w

    module _ (f depth frames : ℕ) (args : List ℕ) where
      -- where there is no such function, or it has another number of parameters, nothing is promised
      no_function : slice_get p.functions f ≡ None → (w : World) → (Source f depth frames args w).end ≡ Stuck
      no_function e w = ap (λ o. (call_by_source p numbers k f o args (seen_from depth frames w)).end) e

      misfit : (g : Function) → slice_get p.functions f ≡ Some g → nat_eq g.params (length args) ≡ false → (w : World) → (Source f depth frames args w).end ≡ Stuck
      misfit g e wrong w =
          ap (λ o. (call_by_source p numbers k f o args (seen_from depth frames w)).end) e ∙
          ap (λ b. (if b then as_call (is_void g.result) (call_of p (strict_context p numbers k) f (Some g) args any_frame (seen_from depth frames w)) else meaningless).end) wrong

      -- what an attributed function is bound to
      abbrev Bindings : Function → World → Type 0
      Bindings g w =
          IsFreeIn w.bindings (attributed_before p.functions f) ⊎
          ((vs : List ℕ) × IsBoundIn w.bindings (attributed_before p.functions f) vs × IsCombination (map (switch_domain p) g.switches) vs × (length vs ≡ length g.switches))

      bindings_of : (g : Function) → slice_get p.functions f ≡ Some g → g.attributed ≡ true → (pc i : ℕ) (w : World) → Stands access y machine budget far pc w i → Bindings g w
      bindings_of g here is pc i w stands = known.free_or_bound p w.bindings f g (host.fit (outside w) (machine.run i).memory stands.calm).bindings here is

      -- ---- a function called at its entry

      at_entry : (back i : ℕ) → IsTarget back → reg (machine.run i).regs link_register ≡ back →
          Answers access y machine budget far entry_cost (length levels) (y.entry f) back depth frames args (Source f depth frames args) i
      at_entry back i target ra spare w stands enters paid asked = by (slice_get p.functions f) refl
        where
          attributed : (g : Function) (here : slice_get p.functions f ≡ Some g) (count : length args ≡ g.params) → g.attributed ≡ true → Bindings g w → FC spare i back (Source f depth frames args w).end
          attributed g here count is (inl free) =
              free_answers access y machine words closed budget far p numbers loaded known.right k filled f depth frames args g here count is known.later known.firsts known.told known.frames_free back i target ra spare w free
              stands enters paid asked
          attributed g here count is (inr b) =
              bound_answers access y machine words closed budget far p numbers loaded known.right k filled f depth frames args g here count is b.0 b.2 b.3 known.each known.jumps known.told known.frames_bound
              back i target ra spare w b.1 stands enters paid asked

          fitted : (g : Function) (here : slice_get p.functions f ≡ Some g) (count : length args ≡ g.params) (z : Bool) → g.attributed ≡ z → FC spare i back (Source f depth frames args w).end
          fitted g here count true is = attributed g here count is (bindings_of g here is (y.entry f) i w stands)
          fitted g here count false not =
              plain_answers access y machine words closed budget far p numbers loaded known.right k filled f depth frames args g here count not known.each back i target ra spare w stands enters paid asked

          by_count : (g : Function) → slice_get p.functions f ≡ Some g → (b : Bool) → nat_eq g.params (length args) ≡ b → FC spare i back (Source f depth frames args w).end
          by_count g e true q = fitted g e (sym (eqb-true g.params (length args) q)) g.attributed refl
          by_count g e false q = subst (FC spare i back) (sym (misfit g e q w)) tt

          by : (o : Option Function) → slice_get p.functions f ≡ o → FC spare i back (Source f depth frames args w).end
          by None e = subst (FC spare i back) (sym (no_function e w)) tt
          by (Some g) e = by_count g e (nat_eq g.params (length args)) refl

      -- ---- and at a slot

      module _ (g : Function) (here : slice_get p.functions f ≡ Some g) (count : length args ≡ g.params) (at i : ℕ) (slot : machine.text.slot at ≡ Some f)
          (spare : ℕ) (w : World) (stands : Stands access y machine budget far at w i) (enters : Enters access y machine budget far depth frames args i)
          (paid : i + (spare + slot_cost + (Source f depth frames args w).cost) ≤ budget) (asked : far ≤ i + length levels) where
        abbrev is : g.attributed ≡ true
        is = (host.slots at f slot).1 g here

        abbrev s : IsPatched y machine.text words closed p numbers f g
        s = (loaded.functions f g here).patched is

        abbrev bs : List Binding
        bs = w.bindings

        holds : has_bindings bs (outside w) ≡ true
        holds = (known.told bs bs).1 refl

        -- the call leaves the bindings as they are
        keeps : (u : World) → has_bindings bs (outside u) ≡ true → LeavesTrue (has_bindings bs) (Source f depth frames args u).end
        keeps u t =
            leaves_true (has_bindings bs) u (λ v e. (known.told bs v.bindings).1 ((known.told bs u.bindings).0 t ∙ sym e)) (Source f depth frames args u).end
            (known.bindings p numbers k f g here is args depth frames u)

        slot_is_free : IsFreeIn bs (attributed_before p.functions f) → FC spare i (at + 8) (Source f depth frames args w).end
        slot_is_free free =
            known.slots access y host.laid machine (has_bindings bs) (part at (at + 8) (words_alone (words bs))) (host.runs_under bs at (at + 8) narrow.nothing (nothing_open closed at (at + 8))) budget far (y.entry f) at
            (slot_in (words_alone (words bs)) at (y.entry f) (s.slot_free bs at slot free)) (host.slots at f slot).0 s.here
            (length levels) depth frames args (Source f depth frames args) keeps (λ back j target ra spare u t. at_entry back j target ra spare u) i spare w holds stands enters paid asked

        slot_is_bound : (vs : List ℕ) → IsBoundIn bs (attributed_before p.functions f) vs → (combination : IsCombination (map (switch_domain p) g.switches) vs) → length vs ≡ length g.switches →
            FC spare i (at + 8) (Source f depth frames args w).end
        slot_is_bound vs bound combination fitting = by (inline_of y.place v.body) refl
          where
            v : IsVariant y machine.text words closed p numbers f g vs
            v = s.variants vs combination

            called : (back j : ℕ) → IsTarget back → reg (machine.run j).regs link_register ≡ back → (spare : ℕ) (u : World) → has_bindings bs (outside u) ≡ true →
                Stands access y machine budget far v.address u j → Enters access y machine budget far depth frames args j → j + (spare + entry_cost + (Source f depth frames args u).cost) ≤ budget → far ≤ j + length levels →
                FC spare j back (Source f depth frames args u).end
            called back j target ra spare u t stands enters paid asked =
                variant_answers access y machine words closed budget far p numbers loaded known.right k filled f depth frames args g here count is vs combination fitting known.each known.frames_bound back j target ra spare u
                (subst (λ (xs : List Binding). IsBoundIn xs (attributed_before p.functions f) vs) ((known.told bs u.bindings).0 t) bound) stands enters (omega (arith, paid)) asked

            -- by two instructions
            inlined : (both : Instr × Instr) → inline_of y.place v.body ≡ Some both → InstrStands (words bs) at both.0 × InstrStands (words bs) (at + 4) both.1 → FC spare i (at + 8) (Source f depth frames args w).end
            inlined both e stand =
                let shown = part at (at + 8) (words_alone (words bs)) in
                let a = known.alike access y machine (has_bindings bs) shown budget far in
                let done =
                known.inlines access y host.laid (alone (under machine words bs) at (at + 8)) ((known.narrowed access y machine (has_bindings bs)).2 shown host.memory) v.reach v.ample
                (host.runs_under bs at (at + 8) v.reach (s.slot_open at vs combination slot)) setting budget far (levels_of (filled_call p numbers v.shorts budget) k)
                true (zip (lower_function p g).switches vs) v.is_fine v.body v.fits both.0 both.1 e at (host.slots at f slot).0
                (word_in (words_alone (words bs)) at (at + 8) at (omega arith) (omega arith) stand.0)
                (word_in (words_alone (words bs)) at (at + 8) (at + 4) (omega arith) (omega arith) stand.1) depth frames args (count ∙ sym v.params) cleared (length levels) i in
                promised access y machine words closed budget far p numbers loaded known.right k filled f depth frames args g here count slot_cost slot_cost spare i (at + 8) _ (Source f depth frames args w) (omega arith)
                (variant_promises access y machine words closed budget far p numbers loaded known.right k filled f depth frames args g here count is vs combination fitting known.frames_bound cleared w at i bound stands) paid
                (λ enough. a.2 spare (length levels) i (at + 8) _ (done spare w ((a.0 at w i holds).0 stands) ((a.1 depth frames args i).0 enters) enough asked))

            by : (o : Option (Instr × Instr)) → inline_of y.place v.body ≡ o → FC spare i (at + 8) (Source f depth frames args w).end
            by None e =
                known.slots access y host.laid machine (has_bindings bs) (part at (at + 8) (words_alone (words bs))) (host.runs_under bs at (at + 8) narrow.nothing (nothing_open closed at (at + 8))) budget far v.address at
                (slot_in (words_alone (words bs)) at v.address (subst (SlotShows y machine.text words closed p numbers f g (words bs) at v.address) e (s.slot_bound bs at vs combination slot bound))) (host.slots at f slot).0 v.placed.1.here
                (length levels) depth frames args (Source f depth frames args) keeps called i spare w holds stands enters paid asked
            by (Some both) e = inlined both e (subst (SlotShows y machine.text words closed p numbers f g (words bs) at v.address) e (s.slot_bound bs at vs combination slot bound))

        slot_fitted : FC spare i (at + 8) (Source f depth frames args w).end
        slot_fitted = by (bindings_of g here is at i w stands)
          where
            by : Bindings g w → FC spare i (at + 8) (Source f depth frames args w).end
            by (inl free) = slot_is_free free
            by (inr b) = slot_is_bound b.0 b.1 b.2 b.3

      at_slot : (at i : ℕ) → machine.text.slot at ≡ Some f →
          Answers access y machine budget far slot_cost (length levels) at (at + 8) depth frames args (Source f depth frames args) i
      at_slot at i slot spare w stands enters paid asked = by (slice_get p.functions f) refl
        where
          by_count : (g : Function) → slice_get p.functions f ≡ Some g → (b : Bool) → nat_eq g.params (length args) ≡ b → FC spare i (at + 8) (Source f depth frames args w).end
          by_count g e true q = slot_fitted g e (sym (eqb-true g.params (length args) q)) at i slot spare w stands enters paid asked
          by_count g e false q = subst (FC spare i (at + 8)) (sym (misfit g e q w)) tt

          by : (o : Option Function) → slice_get p.functions f ≡ o → FC spare i (at + 8) (Source f depth frames args w).end
          by None e = subst (FC spare i (at + 8)) (sym (no_function e w)) tt
          by (Some g) e = by_count g e (nat_eq g.params (length args)) refl

    level_keeps : Convention access y machine budget far (length numbers) (source_call p numbers k) (length (source_levels p numbers k))
    level_keeps = record {
      functions = λ f depth frames args back i few target ra. at_entry f depth frames args back i target ra;
      slots = λ f depth frames args at i few slot. at_slot f depth frames args at i slot;
      others = λ f depth frames args w past. no_function f depth frames args (slice_get_past p.functions f (let count = host.count in omega (arith, count, past))) w;
    }

  pub all_keep : (k : ℕ) → Conventions access y machine budget far (setting_of numbers p) (source_levels p numbers k)
  all_keep zero = points [] tt
  all_keep (suc k) = let below = all_keep k in let level = level_keeps k (below_filled k below) in (level, points (source_levels p numbers (suc k)) level, below)

  pub filled_keep : (k : ℕ) → Filled k
  filled_keep k = below_filled k (all_keep k)
