-- The frames of calls, and what keeps the meaning of a call.
use Rattle.std.proofs.Common.{◌≡◌, inl, inr, ℕ, ◌≤◌, Bool, true, false, All, List, [], length, Some, sym, ap, subst, ◌∙◌, arith}
use Rattle.std.specs.Prelude.{slice_get}
use Rattle.std.specs.List.{zip}
use Rattle.std.proofs.lemmas.List.{length-map}
use Rattle.std.proofs.lemmas.Option.{slice_get_within, get_or_from_slice_get}
use Rattle.mv_ast.specs.declared.program.Program.{Program}
use Rattle.mv_ast.specs.declared.program.Function.{Function}
use Rattle.mv_ast.specs.Switches.{attributed_functions, attributed_before, switch_global}
use Rattle.mv_ir.specs.World.{World}
use Rattle.mv_ir.specs.Outcome.{End, Returned, Trapped, More, Stuck, Call}
use Rattle.mv_ir.specs.Keeps.{KeepsCall}
use Rattle.mv_ir.specs.Levels.{frame_of_call}
use Rattle.mv_ir.specs.Programs.{place_if}
use Rattle.mv_select_code.specs.Control.Runs.{outside}
use Rattle.mv_ir_worlds.specs.Functions.{IsFreeIn, IsBoundIn}
use Rattle.mv_ir_worlds.specs.Laws.{FramesOfFree, FramesOfBound}
use Rattle.mv_ir_worlds.proofs.Functions.{attributed_at}
use Rattle.mv_lower_spec.specs.Functions.{lower_function}
use Rattle.mv_source_forms.specs.WellFormed.{IsWellFormed}
use Rattle.mv_select.specs.Functions.Functions.{frame_in}
use Rattle.mv_select.specs.Slots.Narrowed.{LeavesTrue}
use Rattle.mv_lower_spec.specs.Calls.Bindings.{EndsIn}
use Rattle.mv_lower_spec.specs.Calls.SourceCalls.{Promises}

-- what keeps the meaning of a call promises what the call does
pub promises_kept : (c kept promised : Call) → KeepsCall c kept → Promises c promised → Promises kept promised
promises_kept c kept promised k (inl stuck) = inl stuck
promises_kept c kept promised k (inr h) = let cheaper = k.cheaper in let paid = h.1 in inr (sym k.same ∙ h.0, omega (arith, cheaper, paid))

-- ---- frames

-- of a function that isn't attributed
pub plain_frame : (attributed : Bool) (n : ℕ) (switches : List ℕ) (depth live : ℕ) (w : World) → attributed ≡ false →
    frame_of_call (place_if attributed n) switches depth live w ≡ frame_in false [] depth live
plain_frame attributed n switches depth live w e = ap (λ z. frame_of_call (place_if z n) switches depth live w) e

attributed_frame : (attributed : Bool) (n : ℕ) (switches : List ℕ) (depth live : ℕ) (w : World) → attributed ≡ true →
    frame_of_call (place_if attributed n) switches depth live w ≡ frame_of_call (Some n) switches depth live w
attributed_frame attributed n switches depth live w e = ap (λ z. frame_of_call (place_if z n) switches depth live w) e

-- of one that is free
pub free_frame : FramesOfFree → (attributed : Bool) (n : ℕ) (switches : List ℕ) (depth live : ℕ) (w : World) → attributed ≡ true → IsFreeIn w.bindings n →
    frame_of_call (place_if attributed n) switches depth live w ≡ frame_in true [] depth live
free_frame law attributed n switches depth live w e free = attributed_frame attributed n switches depth live w e ∙ law n switches depth live w free

-- and of one that is bound
pub bound_frame : FramesOfBound → (p : Program) (f : ℕ) (g : Function) (vs : List ℕ) (depth live : ℕ) (w : World) → IsWellFormed p → slice_get p.functions f ≡ Some g → g.attributed ≡ true →
    IsBoundIn w.bindings (attributed_before p.functions f) vs → length vs ≡ length g.switches →
    frame_of_call (place_if g.attributed (attributed_before p.functions f)) (lower_function p g).switches depth live w ≡ frame_in true (zip (lower_function p g).switches vs) depth live
bound_frame law p f g vs depth live w formed here e bound count =
    attributed_frame g.attributed (attributed_before p.functions f) (lower_function p g).switches depth live w e ∙
    law (attributed_before p.functions f) (lower_function p g).switches vs depth live w bound (count ∙ sym (length-map g.switches (switch_global p)))
    (omega (arith, count, few (attributed_functions p) (attributed_before p.functions f) (attributed_at p.functions f g here e) formed.limits.own_switches))
  where
    few : (gs : List Function) (n : ℕ) → slice_get gs n ≡ Some g → All (λ (x : Function). length x.switches ≤ 6) gs → length g.switches ≤ 6
    few gs n e h = subst (λ (z : Function). length z.switches ≤ 6) (get_or_from_slice_get gs n g g e) (h n g (slice_get_within gs n g e))

-- ---- ends

-- a call that keeps bindings leaves a test of them true
pub leaves_true : (test : World → Bool) (w : World) → ((u : World) → u.bindings ≡ w.bindings → test (outside u) ≡ true) → (e : End) → EndsIn (λ u. u.bindings ≡ w.bindings) e → LeavesTrue test e
leaves_true test w h (Returned v u) k = h u k
leaves_true test w h (Trapped code u) k = h u k
leaves_true test w h (More u) k = h u k
leaves_true test w h Stuck k = tt
