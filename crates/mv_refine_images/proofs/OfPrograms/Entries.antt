-- A function where its code stands: at the entry of one that isn't attributed, behind the entry of one that is free, and at a variant.
use Rattle.std.proofs.Common.{◌≡◌, inl, inr, ℕ, ◌+◌, ◌≤◌, Bool, true, false, List, [], map, length, Option, Some, refl, sym, subst, ◌∙◌, arith}
use Rattle.std.specs.Prelude.{slice_get}
use Rattle.std.specs.List.{zip}
use Rattle.mv_ast.specs.declared.program.Program.{Program}
use Rattle.mv_ast.specs.declared.program.Function.{Function}
use Rattle.mv_bindings.specs.declared.binding.Binding.{Binding}
use Rattle.mv_ast.specs.Switches.{attributed_before, switch_domain}
use Rattle.mv_isa.specs.Execution.{Access, reg}
use Rattle.mv_isa.specs.Standing.{SlotStands}
use Rattle.mv_isa.specs.Registers.{ra as link_register}
use Rattle.mv_ir.specs.Combinations.{IsCombination}
use Rattle.mv_ir.specs.KnownFunctions.{seen_from}
use Rattle.mv_ir.specs.World as ir
use Rattle.mv_ir.specs.World.{World}
use Rattle.mv_ir.specs.Outcome.{Call, Bound}
use Rattle.mv_ir.specs.Programs.{setting_of}
use Rattle.mv_ir.specs.Meaning.{Contents, body_from}
use Rattle.mv_ir.specs.Shorts.{Shorts, AreShorts}
use Rattle.mv_ir_worlds.specs.Functions.{IsFreeIn, IsBoundIn}
use Rattle.mv_ir_worlds.specs.Laws.{FramesOfFree, FramesOfBound}
use Rattle.mv_lower_spec.specs.Functions.{lower_function}
use Rattle.mv_lower_spec.specs.Statements.{levels as levels_of}
use Rattle.mv_lower_spec.specs.Programs.Laws.{callee_frame}
use Rattle.mv_select_code.specs.Control.Placed.{Text}
use Rattle.mv_select_code.specs.Control.Runs.{Machine}
use Rattle.mv_select.specs.Calls.Convention.{Layout, IsTarget, Stands, Enters, Answers, Conventions}
use Rattle.mv_select.specs.Functions.FunctionCode.{bytes_of}
use Rattle.mv_select.specs.Functions.Functions.{FunctionsKeep, LaterKeeps, LowersStack, IsOpen, frame_in, part, shape_of}
use Rattle.mv_select.proofs.OfFunctions.Alone.{word_in}
use Rattle.mv_select.proofs.OfFunctions.Frame.{room_for_saved}
use Rattle.mv_select.specs.Slots.Narrowed.{has_bindings, words_alone}
use Rattle.mv_select.specs.Slots.Laws as narrow
use Rattle.mv_lower_spec.specs.Calls.SourceCalls.{source_call, Promises}
use Rattle.mv_lower_spec.specs.Calls.Laws.{BodiesAreRight}
use Rattle.mv_variants.specs.Bound.Shorts.{AreShortsOf}
use Rattle.mv_refine_images.specs.Programs.Hosts.{IsPlain, IsVariant, IsPatched, IsLoaded}
use Rattle.mv_refine_images.proofs.OfPrograms.Called.{called}
use Rattle.mv_refine_images.proofs.OfPrograms.Filled.{same_length, filled_call, filled_alike, filled_shorts}
use Rattle.mv_refine_images.proofs.OfPrograms.Frames.{promises_kept, plain_frame, free_frame, bound_frame}

-- ---- words that load nothing

pub nothing_open : (closed : (pc address : ℕ) → Bool) (from to : ℕ) → IsOpen closed from to narrow.nothing
nothing_open closed from to pc a le lt loads = absurd cc

pub slot_in : (text : Text) (at to : ℕ) → SlotStands text.word at (at + 8) to → SlotStands (part at (at + 8) text).word at (at + 8) to
slot_in text at to h = record {
  call = word_in text at (at + 8) at (omega arith) (omega arith) h.call;
  rest = word_in text at (at + 8) (at + 4) (omega arith) (omega arith) h.rest;
  end_is = h.end_is;
}

module _ {M : Type 0} (access : Access M) (y : Layout) (machine : Machine M) (words : List Binding → ℕ → Option ℕ) (closed : (pc address : ℕ) → Bool) (budget far : ℕ) (p : Program) (numbers : List ℕ)
    (loaded : IsLoaded access y machine words closed budget far p numbers) (right : BodiesAreRight) (k : ℕ)
    (filled : (shorts : Shorts) → AreShortsOf p shorts → Conventions access y machine budget far (setting_of numbers p) (levels_of (filled_call p numbers shorts budget) k))
    (f depth frames : ℕ) (args : List ℕ) (g : Function) (here : slice_get p.functions f ≡ Some g) (count : length args ≡ g.params) where
  open loaded use {host}
  open called access y machine budget far p numbers k use {setting, levels, FC}

  abbrev place : ℕ
  place = attributed_before p.functions f

  abbrev switches : List ℕ
  switches = (lower_function p g).switches

  abbrev Source : World → Call
  Source w = source_call p numbers k f args depth frames w

  -- calls that do what short bodies do
  abbrev pub over : Shorts → Bound
  over shorts = levels_of (filled_call p numbers shorts budget) k

  knows : (shorts : Shorts) → AreShortsOf p shorts → AreShorts setting shorts (over shorts)
  knows shorts known = filled_shorts p numbers shorts budget right loaded.formed known k

  -- there are as many of them
  as_many : (shorts : Shorts) (pc back i : ℕ) (call : World → Call) → Answers access y machine budget far 44 (length (over shorts)) pc back depth frames args call i →
      Answers access y machine budget far 44 (length levels) pc back depth frames args call i
  as_many shorts pc back i call = subst (λ n. Answers access y machine budget far 44 n pc back depth frames args call i) (same_length (filled_call p numbers shorts budget) (source_call p numbers) k)

  -- what follows a call that promises another follows the other
  pub promised : (extra more spare i back : ℕ) (c other : Call) → extra ≤ more → Promises c other → i + (spare + more + other.cost) ≤ budget → (i + (spare + extra + c.cost) ≤ budget → FC spare i back c.end) →
      FC spare i back other.end
  promised extra more spare i back c other le (inl stuck) paid h = subst (FC spare i back) (sym stuck) tt
  promised extra more spare i back c other le (inr e) paid h = let cheaper = e.1 in subst (FC spare i back) e.0 (h (omega (arith, paid, cheaper, le)))

  -- the lowered body does what the source does, in the frame of the call
  lowered_promises : (shorts : Shorts) (frame : ir.Frame) (contents : Contents) (w : World) (pc i : ℕ) → callee_frame p f g (seen_from depth frames w) ≡ frame → Stands access y machine budget far pc w i →
      Promises (body_from setting frame contents (lower_function p g) args (over shorts) w) (Source w)
  lowered_promises shorts frame contents w pc i e stands =
      subst (λ (x : ir.Frame). Promises (body_from setting x contents (lower_function p g) args (over shorts) w) (Source w)) e
      (right p numbers (filled_call p numbers shorts budget) (filled_alike p numbers shorts budget) k f g loaded.formed here contents args depth frames w count (λ x. stands.globals.sizes x ∙ host.sizes x))

  -- ---- one that isn't attributed

  pub plain_answers : g.attributed ≡ false → FunctionsKeep M → (back i : ℕ) → IsTarget back → reg (machine.run i).regs link_register ≡ back → (spare : ℕ) (w : World) →
      Stands access y machine budget far (y.entry f) w i → Enters access y machine budget far depth frames args i → i + (spare + 45 + (Source w).cost) ≤ budget → far ≤ i + length levels →
      FC spare i back (Source w).end
  plain_answers not keep back i target ra spare w stands enters paid asked =
      let s : IsPlain y machine.text words closed p numbers f g = (loaded.functions f g here).plain not in
      let kept =
      keep access y host.laid machine host.memory setting host.entries budget far host.serves (over s.shorts) (filled s.shorts s.known) false [] s.reach s.is_fine s.body s.ample s.fits s.place s.linked s.is_attributed
      (y.entry f) s.next (host.runs (y.entry f) s.next s.reach s.open_there) s.placed depth frames args back i (count ∙ sym s.params) target ra in
      let frame = frame_in false [] depth frames in
      promised 44 45 spare i back (body_from setting frame kept.0 s.body args (over s.shorts) w) (Source w) (omega arith)
      (promises_kept (body_from setting frame kept.0 (lower_function p g) args (over s.shorts) w) (body_from setting frame kept.0 s.body args (over s.shorts) w) (Source w)
      (s.keeps setting frame kept.0 args (over s.shorts) w (knows s.shorts s.known))
      (lowered_promises s.shorts frame kept.0 w (y.entry f) i (plain_frame g.attributed place switches depth frames w not) stands)) paid
      (λ enough. as_many s.shorts (y.entry f) back i (body_from setting frame kept.0 s.body args (over s.shorts)) kept.1 spare w stands enters enough asked)

  -- ---- attributed ones

  module _ (is : g.attributed ≡ true) where
    abbrev s : IsPatched y machine.text words closed p numbers f g
    s = (loaded.functions f g here).patched is

    -- the first word of a free one
    pub free_answers : LaterKeeps M → narrow.FirstsUnder M → narrow.BindingsAreTold → FramesOfFree → (back i : ℕ) → IsTarget back → reg (machine.run i).regs link_register ≡ back →
        (spare : ℕ) (w : World) → IsFreeIn w.bindings place →
        Stands access y machine budget far (y.entry f) w i → Enters access y machine budget far depth frames args i → i + (spare + 45 + (Source w).cost) ≤ budget → far ≤ i + length levels →
        FC spare i back (Source w).end
    free_answers keep firsts told frames_free back i target ra spare w free stands enters paid asked =
        promised 44 45 spare i back (body_from setting frame kept.0 s.body args (over s.shorts) w) (Source w) (omega arith)
        (promises_kept (body_from setting frame kept.0 (lower_function p g) args (over s.shorts) w) (body_from setting frame kept.0 s.body args (over s.shorts) w) (Source w)
        (s.keeps setting frame kept.0 args (over s.shorts) w (knows s.shorts s.known))
        (lowered_promises s.shorts frame kept.0 w (y.entry f) i (free_frame frames_free g.attributed place switches depth frames w is free) stands)) paid
        (λ enough. as_many s.shorts (y.entry f) back i (body_from setting frame kept.0 s.body args (over s.shorts)) kept.1 spare w stands enters enough asked)
      where
        frame : ir.Frame
        frame = frame_in true [] depth frames

        lowers : LowersStack machine (bytes_of (shape_of true s.body)) (y.entry f + 4) i
        lowers =
            let small = s.fits.small in
            let some = room_for_saved (shape_of true s.body) in
            firsts access y host.laid machine (has_bindings w.bindings) (part (y.entry f) (y.entry f + 4) (words_alone (words w.bindings)))
            (host.runs_under w.bindings (y.entry f) (y.entry f + 4) narrow.nothing (nothing_open closed (y.entry f) (y.entry f + 4))) budget far (bytes_of (shape_of true s.body)) (y.entry f)
            (word_in (words_alone (words w.bindings)) (y.entry f) (y.entry f + 4) (y.entry f) (omega arith) (omega arith)
            (s.entry_free w.bindings free)) s.here w i (omega (arith, some)) (omega (arith, enters.room, small))
            ((told w.bindings w.bindings).1 refl) stands

        kept : (contents : Contents) × Answers access y machine budget far 44 (length (over s.shorts)) (y.entry f) back depth frames args (body_from setting frame contents s.body args (over s.shorts)) i
        kept =
            keep access y host.laid machine host.memory setting host.entries budget far host.serves (over s.shorts) (filled s.shorts s.known) [] s.reach s.is_fine s.body s.ample s.fits s.place s.linked s.is_attributed
            (y.entry f) (y.entry f + 4) s.next (host.runs (y.entry f + 4) s.next s.reach s.open_there) s.later depth frames args back i (count ∙ sym s.params) target ra lowers

    module _ (vs : List ℕ) (combination : IsCombination (map (switch_domain p) g.switches) vs) (fitting : length vs ≡ length g.switches) where
      abbrev v : IsVariant y machine.text words closed p numbers f g vs
      v = s.variants vs combination

      abbrev within : ir.Frame
      within = frame_in true (zip switches vs) depth frames

      -- a body that means in this frame what the lowered one does
      pub variant_promises : FramesOfBound → (contents : Contents) (w : World) (pc i : ℕ) → IsBoundIn w.bindings place vs → Stands access y machine budget far pc w i →
          Promises (body_from setting within contents v.body args (over v.shorts) w) (Source w)
      variant_promises frames_bound contents w pc i bound stands =
          promises_kept (body_from setting within contents (lower_function p g) args (over v.shorts) w) (body_from setting within contents v.body args (over v.shorts) w) (Source w)
          (v.keeps setting (depth + 1) (frames + 1) contents args (over v.shorts) w (knows v.shorts v.known))
          (lowered_promises v.shorts within contents w pc i (bound_frame frames_bound p f g vs depth frames w loaded.formed here is bound fitting) stands)

      -- a variant, called where the function is bound to it
      pub variant_answers : FunctionsKeep M → FramesOfBound → (back i : ℕ) → IsTarget back → reg (machine.run i).regs link_register ≡ back → (spare : ℕ) (w : World) → IsBoundIn w.bindings place vs →
          Stands access y machine budget far v.address w i → Enters access y machine budget far depth frames args i → i + (spare + 44 + (Source w).cost) ≤ budget → far ≤ i + length levels →
          FC spare i back (Source w).end
      variant_answers keep frames_bound back i target ra spare w bound stands enters paid asked =
          let kept =
          keep access y host.laid machine host.memory setting host.entries budget far host.serves (over v.shorts) (filled v.shorts v.known) true (zip switches vs) v.reach v.is_fine v.body v.ample v.fits v.place v.linked
          v.is_attributed v.address v.next (host.runs v.address v.next v.reach v.open_there) v.placed depth frames args back i (count ∙ sym v.params) target ra in
          promised 44 44 spare i back (body_from setting within kept.0 v.body args (over v.shorts) w) (Source w) (omega arith) (variant_promises frames_bound kept.0 w v.address i bound stands) paid
          (λ enough. as_many v.shorts v.address back i (body_from setting within kept.0 v.body args (over v.shorts)) kept.1 spare w stands enters enough asked)

      -- the first word of the function where it is bound
      pub bound_answers : FunctionsKeep M → narrow.JumpsUnder M → narrow.BindingsAreTold → FramesOfBound → (back i : ℕ) → IsTarget back → reg (machine.run i).regs link_register ≡ back →
          (spare : ℕ) (w : World) → IsBoundIn w.bindings place vs →
          Stands access y machine budget far (y.entry f) w i → Enters access y machine budget far depth frames args i → i + (spare + 45 + (Source w).cost) ≤ budget → far ≤ i + length levels →
          FC spare i back (Source w).end
      bound_answers keep jumps told frames_bound back i target ra spare w bound stands enters paid asked =
          let j =
          jumps access y host.laid machine (has_bindings w.bindings) (part (y.entry f) (y.entry f + 4) (words_alone (words w.bindings)))
          (host.runs_under w.bindings (y.entry f) (y.entry f + 4) narrow.nothing (nothing_open closed (y.entry f) (y.entry f + 4))) budget far v.address (y.entry f)
          (word_in (words_alone (words w.bindings)) (y.entry f) (y.entry f + 4) (y.entry f) (omega arith) (omega arith)
          (s.entry_bound w.bindings vs combination bound)) s.here v.placed.1.here depth frames args w i
          ((told w.bindings w.bindings).1 refl) stands enters in
          j.follows spare (length levels) back (Source w).end
          (variant_answers keep frames_bound back (i + 1) target (subst (λ (r : List ℕ). reg r link_register ≡ back) (sym j.registers) ra) spare w bound j.stands j.enters (omega (arith, paid)) (omega (arith, asked)))
