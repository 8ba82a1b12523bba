-- A body that is made of another counts no more calls and names no more, and is one that code can be selected for.
use Rattle.std.proofs.Common.{arith, ◌≡◌, ℕ, ◌+◌, ◌*◌, ◌/◌, ◌<◌, ◌≤◌, true, false, None, List, length, map, sym, ◌∙◌, ap, subst, ◌⊎◌, inl, inr}
use Rattle.mv_ir.specs.declared.stm.Stm.{Stm}
use Rattle.mv_ir.specs.declared.stm.Stm.TheOpen.{Stm-F}
use Rattle.mv_ir.specs.declared.body.Body.{Body}
use Rattle.mv_ir.specs.Measures.{total, arrays_read}
use Rattle.mv_ir.specs.Trees.{found}
use Rattle.mv_ir.specs.Live.{most_intervals}
use Rattle.mv_select_code.specs.Control.Labels.{functions}
use Rattle.mv_select.specs.Functions.FunctionCode.{arrays_start, frame_bytes}
use Rattle.mv_select.specs.Bodies.SelectedBodies.{AreRooms, knowns}
use Rattle.mv_fold.specs.Folded.{IsFolded}
use Rattle.mv_regalloc.specs.Intervals.{IsRenamed}
use Rattle.mv_num.specs.Limits.{slot_limit}
use Rattle.mv_ir.specs.Shorts.{Shorts}
use Rattle.mv_select.specs.Calls.Convention.{frame_limit}
use Rattle.mv_select.specs.Selected.{FitsFrame}
use Rattle.mv_variants.specs.Bound.Shorts as way
use Rattle.mv_arms.specs.Armed.{IsArmed}
use Rattle.mv_variants.specs.Bound.Shorts.{IsCleaned, IsFinished, IsReady, HasRoom, ShortsHaveWords}
use Rattle.mv_variants.specs.Bound.Meant.{IsMadeUnder}
use Rattle.mv_variants.specs.Sizes.{HasSmallFrame}
use Rattle.mv_variants.specs.Bound.Names.{NamesNoMore}
use Rattle.mv_variants.specs.Bound.Variants.{MadeNameNoMore, MadeCallNoMore, MadeAreInProgram, MadeFramesFit}
use Rattle.mv_variants.proofs.OfBound.Meant.{reads_array, made}
use Rattle.mv_variants.proofs.OfBound.NamesKept.{binding_names, carrying_names, expanding_names, arming_names, tidying_names, propagating_names, marking_names, folding_names, renaming_names}
use Rattle.mv_variants.proofs.OfBound.Measures.{Measure, bound_no_more, carried_no_more, folded_no_more, renamed_no_more}
use Rattle.mv_variants.proofs.OfBound.TidiedMeasures.{CountsCalls}
use Rattle.mv_variants.proofs.OfBound.FinishedMeasures.{finished_same}
use Rattle.mv_variants.proofs.OfBound.ExpandedMeasures.{ShortsCountNothing, expanded_no_more, expanded_same}
use Rattle.mv_variants.proofs.OfBound.Weights.{weights, weights_of_calls}
use Rattle.mv_num.proofs.Lists.{contains_all}

-- ---- names

pub names_after : (a b c : List Stm) → NamesNoMore a b → NamesNoMore b c → NamesNoMore a c
names_after a b c h k = record {
  functions = λ f e. h.functions f (k.functions f e);
  knowns = λ f e. h.knowns f (k.knowns f e);
  words = λ w. k.words (h.words w);
}

names_stay : (code : List Stm) → NamesNoMore code code
names_stay code = record { functions = λ f c. c; knowns = λ k c. c; words = λ w. w }

armed_or_not : (body arms : Body) → IsArmed body arms ⊎ (arms ≡ body) → NamesNoMore body.code arms.code
armed_or_not body arms (inl is) = arming_names body.temps body.code arms.code is.code
armed_or_not body arms (inr is) = subst (λ (b : Body). NamesNoMore body.code b.code) (sym is) (names_stay body.code)

cleaned_names : (body result : Body) → IsCleaned body result → NamesNoMore body.code result.code
cleaned_names body result h =
    let tidied = tidying_names body.temps body.code h.tidied.code h.is_tidied.code in
    let propagated = propagating_names h.tidied.temps h.tidied.code h.propagated.code h.is_propagated.last h.is_propagated.code in
    names_after body.code h.propagated.code result.code (names_after body.code h.tidied.code h.propagated.code tidied propagated)
    (tidying_names h.propagated.temps h.propagated.code result.code h.again.code)

finished_names : (body result : Body) → IsFinished body result → NamesNoMore body.code result.code
finished_names body result h =
    names_after body.code h.cleaned.code result.code
    (names_after body.code h.arms.code h.cleaned.code (armed_or_not body h.arms h.are_arms) (cleaned_names h.arms h.cleaned h.is_cleaned))
    (marking_names h.cleaned.code result.code h.is_marked.code)

pub ready_names : (shorts : Shorts) (body ready : Body) → ShortsHaveWords shorts → IsReady shorts body ready → NamesNoMore body.code ready.code
ready_names shorts body ready all (way.expanded e x t words) =
    names_after body.code e.code ready.code (expanding_names shorts all body.temps body.code e.code x.code) (finished_names e ready t)
ready_names shorts body ready all (way.finished t) = finished_names body ready t
ready_names shorts body ready all (way.same is) = subst (λ (b : Body). NamesNoMore body.code b.code) (sym is) (names_stay body.code)

pub made_names : MadeNameNoMore
made_names shorts ps body result all words m =
    let w = m.worked in
    let first = ready_names shorts body m.ready all m.is_ready in
    let second : NamesNoMore m.ready.code w.bound.code = subst (NamesNoMore m.ready.code) (sym w.is_bound.code) (binding_names ps words m.ready.code) in
    let third : NamesNoMore w.bound.code w.carried.code = subst (NamesNoMore w.bound.code) (sym w.is_carried.code) (carrying_names w.bound.temps w.bound.code) in
    let fourth = folding_names w.carried.temps w.carried.code w.folded.code w.is_folded.code in
    let fifth : NamesNoMore w.folded.code result.code = subst (NamesNoMore w.folded.code) (sym (ap (λ (b : Body). b.code) w.is_renamed.changes)) (renaming_names w.is_renamed.numbers w.folded.code) in
    let and_bound = names_after body.code m.ready.code w.bound.code first second in
    let and_carried = names_after body.code w.bound.code w.carried.code and_bound third in
    names_after body.code w.folded.code result.code (names_after body.code w.carried.code w.folded.code and_carried fourth) fifth

-- ---- what a measure counts

-- each measure of calls counts no more in a body than in another
abbrev pub CountsNoMore : (body result : Body) → Type 0
CountsNoMore body result = (layer : Stm-F ℕ → ℕ) (m : Stm → ℕ) → Measure layer m → CountsCalls layer → total (map m result.code) ≤ total (map m body.code)

module _ {layer : Stm-F ℕ → ℕ} {m : Stm → ℕ} (of : Measure layer m) where
  abbrev all : List Stm → ℕ
  all code = total (map m code)

  pub renamed_counts_no_more : (body result : Body) → IsRenamed body result → all result.code ≤ all body.code
  renamed_counts_no_more body result r = subst (λ c. all c ≤ all body.code) (sym (ap (λ (b : Body). b.code) r.changes)) (renamed_no_more of r.numbers body.code)

  pub worked_no_more : (bound folded result : Body) → IsFolded bound folded → IsRenamed folded result → all result.code ≤ all bound.code
  worked_no_more bound folded result is_folded is_renamed =
      let first : all folded.code ≤ all bound.code = subst (λ c. all c ≤ all bound.code) (sym is_folded.code.2) (folded_no_more of is_folded.code.0 bound.temps bound.code) in
      omega (arith, first, renamed_counts_no_more folded result is_renamed)

  module _ (calls : CountsCalls layer) (shorts : Shorts) where
    pub ready_no_more : (body ready : Body) → IsReady shorts body ready → all ready.code ≤ all body.code
    ready_no_more body ready (way.expanded e x t words) =
        omega (arith, expanded_no_more of calls shorts body.temps false body.code e.code x.code, finished_same of calls e ready t)
    ready_no_more body ready (way.finished t) = omega (arith, finished_same of calls body ready t)
    ready_no_more body ready (way.same is) = subst (λ (b : Body). all b.code ≤ all body.code) (sym is) (omega arith)

    -- it is the same where calls of functions with short bodies count nothing
    pub ready_same : ShortsCountNothing layer shorts → (body ready : Body) → IsReady shorts body ready → all ready.code ≡ all body.code
    ready_same free body ready (way.expanded e x t words) =
        finished_same of calls e ready t ∙ expanded_same of calls shorts free body.temps false body.code e.code x.code
    ready_same free body ready (way.finished t) = finished_same of calls body ready t
    ready_same free body ready (way.same is) = ap (λ (b : Body). all b.code) is

    pub made_no_more : (ps : List (ℕ × ℕ)) (body result : Body) → IsMadeUnder shorts ps body result → all result.code ≤ all body.code
    made_no_more ps body result h =
        let w = h.worked in
        let first : all w.bound.code ≤ all h.ready.code = subst (λ c. all c ≤ all h.ready.code) (sym w.is_bound.code) (bound_no_more of ps h.ready.code) in
        let second : all w.carried.code ≤ all w.bound.code =
        subst (λ c. all c ≤ all w.bound.code) (sym w.is_carried.code) (carried_no_more of w.bound.temps w.bound.code)
        in
        omega (arith, ready_no_more body h.ready h.is_ready, first, second, worked_no_more w.carried w.folded result w.is_folded w.is_renamed)

pub made_calls : MadeCallNoMore
made_calls direct through = made_no_more (weights direct through) (weights_of_calls direct through)

-- ---- frames

pub frame_less : (n m size : ℕ) → n ≤ m → 16 * ((arrays_start n + size + 3) / 4) ≤ 16 * ((arrays_start m + size + 3) / 4)
frame_less n m size le = omega arith

-- temporaries and words of arrays that fit a frame in any case
pub few_fit : (temps : ℕ) (sizes : List ℕ) → temps + total sizes ≤ slot_limit → frame_bytes temps sizes ≤ frame_limit
few_fit temps sizes few = omega (arith, few)

-- a frame that has room is small enough where the first body's with its temporaries renamed alone is
pub room_fits : (body result : Body) → result.arrays ≡ body.arrays → HasRoom body result → HasSmallFrame body → FitsFrame result
room_fits body result sizes (inl fewer) small =
    let less = frame_less result.temps (most_intervals body) (total body.arrays) fewer in
    let same : frame_bytes result.temps result.arrays ≡ frame_bytes result.temps body.arrays = ap (frame_bytes result.temps) sizes in
    omega (arith, less, same, small)
room_fits body result sizes (inr few) small = few_fit result.temps result.arrays few

pub made_frames : MadeFramesFit
made_frames shorts ps body own result is_own fits m =
    let variant = made shorts ps body result m in
    let temps = ap (λ t. frame_bytes t body.arrays) is_own.temps in
    let own_sizes = ap (λ (b : Body). frame_bytes own.temps b.arrays) is_own.changes in
    room_fits body result variant.sizes variant.room (omega (arith, fits, temps, own_sizes))

-- ---- in a program

pub made_in_program : MadeAreInProgram
made_in_program y setting shorts ps body result all of no_elements words m =
    let variant = made shorts ps body result m in
    let names = made_names shorts ps body result all words m in
    let has = names.words of.words in
    record {
      within = record {
        formed = variant.well_formed of.formed;
        shallow = variant.deepest of.shallow;
        frame = room_fits body result variant.sizes variant.room of.frame;
        orders = has.orders;
      };
      rooms = subst (AreRooms y) (sym variant.rooms) of.rooms;
      constants = has.constants;
      knowns = contains_all (λ k. y.may_ask k ≡ true) (knowns body.code) (knowns result.code) names.knowns of.knowns;
      functions = contains_all (λ f. f < length setting.numbers) (functions body.code) (functions result.code) names.functions of.functions;
      free = variant.free;
      arrays = contains_all (λ g. found ps g ≡ None) (arrays_read body.code) (arrays_read result.code) (reads_array shorts ps body result m) no_elements;
    }
