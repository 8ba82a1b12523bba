-- What a function's own code is made of, made ready or not, and what is short.
use Rattle.std.proofs.Common.{arith, ◌≡◌, ◌+◌, ◌≤◌, [], ◌∷◌, inl, inr, refl, ap, subst}
use Rattle.mv_num.specs.Limits.{slot_limit}
use Rattle.mv_ir.specs.declared.body.Body.{Body}
use Rattle.mv_ir.specs.Live.{most_intervals}
use Rattle.mv_ir.specs.Measures.{total}
use Rattle.mv_ir.specs.Shorts.{Shorts, AreShorts}
use Rattle.mv_ir.specs.World.{Setting}
use Rattle.mv_ir.specs.Outcome as outcome
use Rattle.mv_select.specs.Bodies.SelectedBodies.{HasWords}
use Rattle.mv_select_code.specs.Control.Encoded.{most_words}
use Rattle.mv_expand.specs.Straight.{AllShort, IsShort}
use Rattle.mv_expand.specs.Expanded.{IsExpanded}
use Rattle.mv_arms.specs.Armed.{IsArmed}
use Rattle.mv_tidy.specs.Tidied.{IsTidied}
use Rattle.mv_propagate.specs.Propagated.{IsPropagated}
use Rattle.mv_ranges.specs.Marked.{IsMarkedBody}
use Rattle.mv_regalloc.specs.Intervals.{IsRenamed}
use Rattle.mv_regalloc.proofs.Whole.{few_intervals}
use Rattle.mv_variants.specs.Bound.General.{IsGeneral}
use Rattle.mv_variants.specs.Bound.Shorts as way
use Rattle.mv_variants.specs.Bound.Shorts.{IsCleaned, IsFinished, IsReady, IsShortened}
use Rattle.mv_variants.specs.Sizes.{HasSmallFrame}
use Rattle.mv_variants.proofs.OfBound.Generals.{IsKept, kept}
use Rattle.mv_variants.proofs.OfBound.Variants.{few_fit}

pub expanded_ready : (shorts : Shorts) (body expanded made : Body) → IsExpanded shorts body expanded → IsFinished expanded made → most_words made.code ≤ most_words body.code →
    IsReady shorts body made
expanded_ready shorts body expanded made e h fewer = way.expanded expanded e h fewer

pub finished_ready : (shorts : Shorts) (body made : Body) → IsFinished body made → IsReady shorts body made
finished_ready shorts body made h = way.finished h

pub steps_cleaned : (body tidied propagated result : Body) → IsTidied body tidied → IsPropagated tidied propagated → IsTidied propagated result → IsCleaned body result
steps_cleaned body tidied propagated result t p again = record { tidied = tidied; is_tidied = t; propagated = propagated; is_propagated = p; again = again }

pub arms_finished : (body arms cleaned result : Body) → IsArmed body arms → IsCleaned arms cleaned → IsMarkedBody cleaned result → IsFinished body result
arms_finished body arms cleaned result a c m = record { arms = arms; are_arms = inl a; cleaned = cleaned; is_cleaned = c; is_marked = m }

pub plain_finished : (body cleaned result : Body) → IsCleaned body cleaned → IsMarkedBody cleaned result → IsFinished body result
plain_finished body cleaned result c m = record { arms = body; are_arms = inr refl; cleaned = cleaned; is_cleaned = c; is_marked = m }

pub plain_general : (shorts : Shorts) (body plain : Body) → HasWords body.code → IsRenamed body plain → IsGeneral shorts body plain
plain_general shorts body plain words renamed = record {
  words = words;
  ready = body;
  is_ready = inr refl;
  is_renamed = renamed;
  room = inl (omega (arith, renamed.temps));
}

pub ready_general : (shorts : Shorts) (body ready made : Body) → HasWords body.code → HasSmallFrame body → IsReady shorts body ready → IsRenamed ready made →
    made.temps + total made.arrays ≤ slot_limit → IsGeneral shorts body made
ready_general shorts body ready made words small is_ready renamed fits = record {
  words = words;
  ready = ready;
  is_ready = inl (is_ready, small);
  is_renamed = renamed;
  room = inr fits;
}

-- the frame is small enough where the body fits as it is, or renamed
pub fits_small : (body : Body) → body.temps + total body.arrays ≤ slot_limit → HasSmallFrame body
fits_small body fits = few_fit (most_intervals body) body.arrays (omega (arith, fits, few_intervals body))

pub plain_small : (body plain : Body) → IsRenamed body plain → plain.temps + total plain.arrays ≤ slot_limit → HasSmallFrame body
plain_small body plain renamed fits =
    let sizes = ap (λ (b : Body). total b.arrays) renamed.changes in
    few_fit (most_intervals body) body.arrays (omega (arith, fits, renamed.temps, sizes))

-- ---- short bodies

-- of none nothing is to be known
pub none_short : (shorts : Shorts) → shorts ≡ [] → AllShort shorts
none_short shorts e f b there = cc

none_known : (setting : Setting) (bound : outcome.Bound) → AreShorts setting [] bound
none_known setting [] = tt
none_known setting (calls ∷ below) = (λ f b there. absurd cc, none_known setting below)

pub is_shortened : (shorts : Shorts) (body b : Body) → shorts ≡ [] → IsGeneral shorts body b → IsShort b → HasWords b.code → IsShortened body b
is_shortened shorts body b e general short words = record {
  params = same.params;
  keeps = λ setting frame contents args bound w. same.keeps setting frame contents args bound w (none_known setting bound);
  short = short;
  words = words;
}
  where
    same : IsKept [] body b
    same = kept [] body b (subst (λ ss. IsGeneral ss body b) e general)
