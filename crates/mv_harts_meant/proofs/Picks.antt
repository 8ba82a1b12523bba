-- As each fetch has one choice, the picks of a run of harts don't matter.
use Rattle.std.proofs.Common.{◌≡◌, ℕ, zero, suc, Bool, true, false, if◌then◌else◌, List, [], ◌∷◌, ◌++◌, slice_get, Option, Some, None, refl, sym, ap, ◌∙◌}
use Rattle.std.specs.List.{All}
use Rattle.mv_bindings.specs.Acts.{Act, Skip}
use Rattle.mv_image.specs.Spelling.{Fields}
use Rattle.mv_harts_runs.specs.Harts.{Hart, Harts, Turn, first_harts, harts_after, is_on, leader_by, leader_turn, next_act, other_at, other_by, other_turn, turn_of}
use Rattle.mv_harts_runs.specs.Alone.{Fitting, HartsAreRight, IsWell, Passes}
use Rattle.mv_harts_runs.proofs.Acts.{move_pick}
use Rattle.mv_harts_meant.specs.Laws.{FittingLaw, PicksDontMatter, inputs_of, unpicked}
use Rattle.mv_harts_meant.specs.Runnable.{fits_in}

-- turns one after the other
after_both : (hs : Harts) (ts us : List Turn) → harts_after hs (ts ++ us) ≡ harts_after (harts_after hs ts) us
unfolding harts_after
after_both hs [] us = refl
after_both hs (t ∷ ts) us = after_both (turn_of hs t.hart t.pick t.failing) ts us

module _ (image : Fields) (input : ℕ → List (Option ℕ)) where
  -- a turn of harts of which all is well
  turn_same : (hs : Harts) → IsWell image input hs → (hart pick : ℕ) (failing : Bool) → turn_of hs hart pick failing ≡ turn_of hs hart 0 failing
  unfolding turn_of
  turn_same hs well zero pick failing = by_on (is_on hs.leader) refl
    where
      by_on : (g : Bool) → is_on hs.leader ≡ g → (if g then leader_turn hs pick failing else hs) ≡ (if g then leader_turn hs 0 failing else hs)
      by_on true e = let a = next_act hs.actions in ap (λ m. leader_by hs a m failing) (move_pick hs.leader.state a hs.under pick (well.leader_fetches e))
      by_on false e = refl
  turn_same hs well (suc n) pick failing = by_there (slice_get hs.others n) refl
    where
      by_on : (o : Hart) → slice_get hs.others n ≡ Some o → (g : Bool) → is_on o ≡ g → (if g then other_at hs n o pick failing else hs) ≡ (if g then other_at hs n o 0 failing else hs)
      by_on o there true e = ap (λ m. other_by m.place hs n o m failing) (move_pick o.state Skip None pick (well.fetches n o there e))
      by_on o there false e = refl

      by_there : (x : Option Hart) → slice_get hs.others n ≡ x → other_turn hs n x pick failing ≡ other_turn hs n x 0 failing
      by_there None e = refl
      by_there (Some o) e = by_on o e (is_on o) refl

  module _ (fits : ℕ → Act → Bool) (right : HartsAreRight) (fitting : Fitting image input (Passes fits)) (count : ℕ) (acts : List Act) (all : All (Passes fits 0) acts) where
    abbrev begun : List Turn → Harts
    begun before = harts_after (first_harts image input count acts) before

    -- what follows some turns
    rest_same : (before turns : List Turn) → harts_after (begun before) turns ≡ harts_after (begun before) (unpicked turns)
    unfolding harts_after
    rest_same before [] = refl
    rest_same before (t ∷ turns) =
        let hs = begun before in
        let first : Turn = record t { pick = 0 } in
        let one = turn_same hs (right image input fits fitting count acts all before).1 t.hart t.pick t.failing in
        let next : begun (before ++ first ∷ []) ≡ turn_of hs t.hart 0 t.failing = after_both (first_harts image input count acts) before (first ∷ []) in
        ap (λ (x : Harts). harts_after x turns) (one ∙ sym next) ∙ rest_same (before ++ first ∷ []) turns ∙ ap (λ (x : Harts). harts_after x (unpicked turns)) next

pub picks_same : FittingLaw → HartsAreRight → PicksDontMatter
unfolding harts_after
picks_same fitting right p image runs bytes are count acts all turns =
    rest_same image (inputs_of bytes) (fits_in p) right (fitting p image runs bytes are) count acts all [] turns
