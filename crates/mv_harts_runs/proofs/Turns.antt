-- What holds of a run of harts holds behind each turn.
use Rattle.std.proofs.Common.{◌≡◌, ◌⊎◌, inl, inr, ℕ, zero, suc, ◌+◌, Bool, true, false, ◌&&◌, if◌then◌else◌, List, [], ◌∷◌, ◌++◌, append-nil, map, slice_get, Option, Some, None, option_map, refl, sym, ap, ap₂, ◌∙◌, subst, arith}
use Rattle.std.specs.List.{All}
use Rattle.std.specs.Prelude.{slice_set}
use Rattle.std.proofs.lemmas.List.Elements.{All-append, All-nil, All-cons}
use Rattle.std.proofs.lemmas.Bool.{ne_eqb}
use Rattle.std.proofs.lemmas.Option.{slice_get-map}
use Rattle.mv_bindings.specs.declared.binding.Binding.{Binding}
use Rattle.mv_fetch.specs.Held.{choices}
use Rattle.mv_image.specs.Spelling.{Fields}
use Rattle.mv_patch.specs.Stores.{stored_all}
use Rattle.mv_refine_machine.specs.Stores.Between.{IsBetween}
use Rattle.mv_refine_machine.specs.Commits.Watch.{texts_of}
use Rattle.mv_patch.specs.Plans.{plan_between}
use Rattle.mv_bindings.specs.Acts.{Act, Skip, Adopt}
use Rattle.mv_machine.specs.Runs.{State, Going, adopts, answered, choices_at, turn, spelled_pairs, is_going}
use Rattle.mv_harts_runs.specs.Harts.{Mode, Runs, Parked, Freed, Hart, Harts, Place, AtOrder, AtPoll, Elsewhere, place, Store, told, is_in_text, shared, is_on, fails, is_outside, other_fails, took, handed, move, leader_turn, other_goes, other_waits, at_poll, other_by, other_at, other_turn, turn_of, last_of}
use Rattle.mv_harts_runs.specs.Alone.{IsPlain, alone, Fitting, Known, adopts_of, IsAlone, IsUpToDate, IsBehind, StandsBy, Stands, IsOther, IsRight}
use Rattle.mv_harts_runs.proofs.Rooms.{no_store}
use Rattle.mv_harts_runs.proofs.Acts.{with_acts, move_pick}
use Rattle.mv_harts_runs.proofs.Calls.{plan_kept}
use Rattle.mv_harts_runs.proofs.Moves.{IsElsewhere, stays, stores, binds, alone_more}
use Rattle.mv_harts_runs.proofs.Adopting.{adopted_room, same_choices, same_place, same_count, adopting, adopts_same}
use Rattle.mv_harts_runs.proofs.Lists.{set_cases, map_there, adopts_append, last_append}
use Rattle.mv_harts_runs.proofs.Facts.{Facts, facts, facts_settled, between_text, took_fits}
use Rattle.mv_harts_runs.proofs.Leader.{shared_none, shared_out, on_going, leader_right}

module _ (known : Known) (image : Fields) (input : ℕ → List (Option ℕ)) (Fits : ℕ → Act → Type 0) (fitting : Fitting image input Fits) where
  abbrev Right : Harts → Type 0
  Right = IsRight image input Fits

  abbrev Other : ℕ → Hart → State → Option (List Binding) → List (List Binding) → Type 0
  Other = IsOther image input Fits

  -- ---- another hart

  module _ (hs : Harts) (right : Right hs) (n : ℕ) (o : Hart) (there : slice_get hs.others n ≡ Some o) (on : is_on o ≡ true) where
    going : o.state.stop ≡ Going
    going = on_going o on

    abbrev lead : State
    lead = hs.leader.state

    it : Other (suc n) o lead hs.under hs.commits
    it = right.others n o there

    stands : StandsBy image input o.mode (suc n) o lead hs.under hs.commits
    stands = subst (λ g. Stands image input g (suc n) o lead hs.under hs.commits) on it.stands

    lead_text : hs.under ≡ None → lead.room.held.text ≡ texts_of image lead.bindings
    lead_text e = between_text known.rooms (texts_of image lead.bindings) lead.room.held (facts_settled image input Fits fitting 0 lead hs.leader.taken hs.leader.count right.fits right.leader hs.under right.under e)

    -- the others are as they were but for this one
    with_other : (o' : Hart) → Other (suc n) o' lead hs.under hs.commits → Right (record hs { others = slice_set hs.others n o' })
    with_other o' is = record {
      fits = right.fits;
      coming = right.coming;
      leader = right.leader;
      under = right.under;
      others = λ k z e. by_case k z (set_cases hs.others n k o z o' there e);
    }
      where
        by_case : (k : ℕ) (z : Hart) → ((k ≡ n) × (z ≡ o')) ⊎ (slice_get hs.others k ≡ Some z) → Other (suc k) z lead hs.under hs.commits
        by_case k z (inl p) = subst (λ (y : Hart). Other (suc k) y lead hs.under hs.commits) (sym p.1) (subst (λ (i : ℕ). Other (suc i) o' lead hs.under hs.commits) (sym p.0) is)
        by_case k z (inr e) = right.others k z e

    other_waits_right : (mode : Mode) → StandsBy image input mode (suc n) o lead hs.under hs.commits → Right (other_waits hs n o mode)
    other_waits_right mode y = with_other (record o { mode = mode; waited = true }) (record {
      fits = it.fits;
      stands = subst (λ g. Stands image input g (suc n) (record o { mode = mode; waited = true }) lead hs.under hs.commits) (sym on) (by_mode mode y);
    })
      where
        by_mode : (m : Mode) → StandsBy image input m (suc n) o lead hs.under hs.commits → StandsBy image input m (suc n) (record o { mode = mode; waited = true }) lead hs.under hs.commits
        by_mode Runs y = record { is_alone = y.is_alone; calm = y.calm; bindings = y.bindings; text = y.text; whole = y.whole; adopted = y.adopted }
        by_mode Parked y = (record { is_alone = y.0.is_alone; calm = y.0.calm; bindings = y.0.bindings; text = y.0.text; whole = y.0.whole; adopted = y.0.adopted }, y.1)
        by_mode Freed y = record {
          before = y.before;
          is_alone = y.is_alone;
          polls = y.polls;
          same = y.same;
          text = y.text;
          between = y.between;
          began = y.began;
          whole = y.whole;
          globals = y.globals;
          stack = y.stack;
          plan = y.plan;
          reserve = y.reserve;
          settled = y.settled;
          adopted = y.adopted;
        }

    other_fails_right : IsUpToDate image input (suc n) o lead hs.under hs.commits → Right (other_fails hs n o)
    other_fails_right y = with_other (fails o) (record {
      fits = it.fits;
      stands = subst (λ g. Stands image input g (suc n) (fails o) lead hs.under hs.commits) (sym (ended (is_going o.state.stop)))
          (record { is_alone = y.is_alone; missed = []; adopted = append-nil (adopts_of o.taken) ∙ y.adopted });
    })
      where
        ended : (g : Bool) → (g && false) ≡ false
        ended true = refl
        ended false = refl

    -- ---- it executes an instruction

    module _ (up : IsUpToDate image input (suc n) o lead hs.under hs.commits) (runs : o.mode ≡ Runs) where
      abbrev s : State
      s = o.state

      abbrev t : State
      t = turn (handed s Skip) 0

      fo : Facts (suc n) image s
      fo = facts image input Fits fitting (suc n) s o.taken o.count it.fits up.is_alone

      fits' : All (Fits (suc n)) (took (place s 0) Skip o.taken)
      fits' = took_fits (Fits (suc n)) (place s 0) Skip o.taken it.fits (fitting.skips (suc n))

      alone' : IsAlone image input (suc n) (with_acts t []) (took (place s 0) Skip o.taken) (o.count + 1)
      unfolding move
      alone' = alone_more image input (suc n) s Skip o.taken o.count up.is_alone going None

      fo' : Facts (suc n) image (with_acts t [])
      fo' = facts image input Fits fitting (suc n) (with_acts t []) (took (place s 0) Skip o.taken) (o.count + 1) fits' alone'

      same_b : t.bindings ≡ s.bindings
      same_b = binds known.rooms image fitting.in_data s Skip 0 fo.image_is going (λ e. ne_eqb s.hart 0 (λ q. omega (arith, fo.hart_is, q))) (λ e. refl)

      -- it stores nothing into text
      pub quiet : IsElsewhere (told s 0)
      quiet st e = by_text (is_in_text st.address) refl
        where
          by_text : (b : Bool) → is_in_text st.address ≡ b → is_in_text st.address ≡ false
          by_text false out = out
          by_text true here =
              absurd (no_store st.address st.width st.value (texts_of image fo'.old) (texts_of image t.bindings) s.room t.room here
              (stores known.rooms image fitting.in_data s Skip 0 fo.image_is going st e fo'.sane)
              (up.text ∙ lead_text up.calm ∙ ap (texts_of image) (sym up.bindings ∙ sym same_b)) fo'.between)

      unshared : (x : Hart) → shared (told s 0) x ≡ x
      unshared x = by_store (told s 0) quiet
        where
          by_store : (st : Option Store) → IsElsewhere st → shared st x ≡ x
          by_store None out = shared_none x
          by_store (Some st) out = shared_out st x (out st refl)

      took_skip : (p : Place) → adopts_of (took p Skip o.taken) ≡ adopts_of o.taken
      took_skip AtPoll = adopts_append o.taken (Skip ∷ []) ∙ append-nil (adopts_of o.taken)
      took_skip AtOrder = refl
      took_skip Elsewhere = refl

      abbrev next : Hart
      next = record o { state = with_acts t []; waited = false; count = o.count + 1; taken = took (place s 0) Skip o.taken }

      next_is : Other (suc n) next lead hs.under hs.commits
      next_is =
          let k = stays known.rooms image fitting.in_data s Skip 0 fo.image_is going (λ p. tt) quiet in
          let date : IsUpToDate image input (suc n) next lead hs.under hs.commits = record {
            is_alone = alone';
            calm = up.calm;
            bindings = same_b ∙ up.bindings;
            text = k.text ∙ up.text;
            whole = k.whole up.whole;
            adopted = took_skip (place s 0) ∙ up.adopted;
          } in
          record { fits = fits'; stands = by_going (is_on next) date }
        where
          by_going : (g : Bool) → IsUpToDate image input (suc n) next lead hs.under hs.commits → Stands image input g (suc n) next lead hs.under hs.commits
          by_going true y = subst (λ m. StandsBy image input m (suc n) next lead hs.under hs.commits) (sym runs) y
          by_going false y = record { is_alone = y.is_alone; missed = []; adopted = append-nil (adopts_of next.taken) ∙ y.adopted }

      other_goes_right : Right (other_goes hs n o (move s Skip None 0))
      unfolding move
      other_goes_right =
          subst (λ (l : Hart). Right (record hs { leader = l; others = slice_set (map (shared (told s 0)) hs.others) n next })) (sym (unshared hs.leader))
          (record {
            fits = right.fits;
            coming = right.coming;
            leader = right.leader;
            under = right.under;
            others = λ k z e. by_case k z (set_cases (map (shared (told s 0)) hs.others) n k (shared (told s 0) o) z next (slice_get-map (shared (told s 0)) hs.others n ∙ ap (option_map (shared (told s 0))) there) e);
          })
        where
          by_case : (k : ℕ) (z : Hart) → ((k ≡ n) × (z ≡ next)) ⊎ (slice_get (map (shared (told s 0)) hs.others) k ≡ Some z) → Other (suc k) z lead hs.under hs.commits
          by_case k z (inl p) = subst (λ (y : Hart). Other (suc k) y lead hs.under hs.commits) (sym p.1) (subst (λ (i : ℕ). Other (suc i) next lead hs.under hs.commits) (sym p.0) next_is)
          by_case k z (inr e) =
              let x = map_there (shared (told s 0)) hs.others k z e in
              subst (λ (y : Hart). Other (suc k) y lead hs.under hs.commits) (sym (x.2 ∙ unshared x.0)) (right.others k x.0 x.1)

      runs_right : (pick : ℕ) (failing : Bool) → Right (other_at hs n o pick failing)
      unfolding move
      runs_right pick failing = subst Right (sym (ap (λ m. other_by m.place hs n o m failing) (move_pick s Skip None pick (fo.one going)))) (by_place (place s 0) refl)
        where
          by_wanted : place s 0 ≡ AtPoll → (w : Bool) → Right (at_poll Runs w hs.under hs n o (move s Skip None 0))
          by_wanted e true = other_waits_right Parked (up, e)
          by_wanted e false = other_goes_right

          by_fail : (b : Bool) → Right (if b then other_fails hs n o else other_goes hs n o (move s Skip None 0))
          by_fail true = other_fails_right up
          by_fail false = other_goes_right

          by_place : (p : Place) → place s 0 ≡ p → Right (other_by p hs n o (move s Skip None 0) failing)
          by_place AtPoll e = subst (λ m. Right (at_poll m hs.wanted hs.under hs n o (move s Skip None 0))) (sym runs) (by_wanted e hs.wanted)
          by_place AtOrder e = other_goes_right
          by_place Elsewhere e = by_fail (failing && is_outside s 0)

    -- ---- it is parked

    module _ (parked : o.mode ≡ Parked) (y : IsUpToDate image input (suc n) o lead hs.under hs.commits × (place o.state 0 ≡ AtPoll)) where
      parked_right : (pick : ℕ) (failing : Bool) → Right (other_at hs n o pick failing)
      unfolding move
      parked_right pick failing =
          let fo = facts image input Fits fitting (suc n) o.state o.taken o.count it.fits y.0.is_alone in
          subst Right (sym (ap (λ m. other_by m.place hs n o m failing) (move_pick o.state Skip None pick (fo.one going))))
          (subst (λ p. Right (other_by p hs n o (move o.state Skip None 0) failing)) (sym y.1)
          (subst (λ m. Right (at_poll m hs.wanted hs.under hs n o (move o.state Skip None 0))) (sym parked) (other_waits_right Parked y)))

    -- ---- it is freed

    module _ (is_freed : o.mode ≡ Freed) (y : IsBehind image input (suc n) o lead hs.under hs.commits) where
      abbrev old : State
      old = y.before

      old_going : old.stop ≡ Going
      old_going = sym (ap (λ (x : State). x.stop) y.same) ∙ going

      fb : Facts (suc n) image old
      fb = facts image input Fits fitting (suc n) old o.taken o.count it.fits y.is_alone

      still : IsBetween (texts_of image old.bindings) (texts_of image old.bindings) old.room.held × IsPlain image old.pc
      still = fb.calm (λ e. (let no = sym y.polls ∙ e in cc))

      fetch_same : choices o.state.room.held old.pc ≡ choices old.room.held old.pc
      fetch_same = same_choices (texts_of image old.bindings) (texts_of image lead.bindings) o.state.room.held old.room.held old.pc (still.1 old.bindings lead.bindings) y.between still.0

      pub freed_one : choices_at o.state ≡ 1
      freed_one = ap choices_at y.same ∙ same_count old o.state.room fetch_same ∙ fb.one old_going

      pub at_poll_still : place o.state 0 ≡ AtPoll
      at_poll_still = ap (λ (x : State). place x 0) y.same ∙ same_place old o.state.room 0 fetch_same ∙ y.polls

      abbrev bs : List Binding
      bs = last_of hs.commits

      last_is : bs ≡ lead.bindings
      last_is = ap last_of (sym y.adopted) ∙ last_append (adopts_of o.taken) lead.bindings

      fits_bs : Fits (suc n) (Adopt bs)
      fits_bs =
          let is : alone 0 image (input 0) (hs.leader.taken ++ []) hs.leader.count ≡ with_acts lead [] = right.leader [] in
          subst (λ (b : List Binding). Fits (suc n) (Adopt b)) (ap (λ (x : State). x.bindings) is ∙ sym last_is)
          (fitting.adopts n hs.leader.count (hs.leader.taken ++ []) (All-append (Fits 0) hs.leader.taken [] right.fits (All-nil (Fits 0))))

      abbrev adopting_hart : Hart
      adopting_hart = record { state = adopts o.state bs; mode = Runs; waited = false; failed = o.failed; count = o.count + 1; taken = o.taken ++ Adopt bs ∷ [] }

      module _ (calm : hs.under ≡ None) where
        the_room : o.state.room ≡ stored_all old.room (plan_between old.image old.bindings bs)
        the_room =
            let e = adopted_room known (texts_of image old.bindings) (texts_of image lead.bindings) (fitting.texts old.bindings lead.bindings) old.room o.state.room y.settled y.between
            (y.text ∙ lead_text calm) y.whole y.globals y.stack y.plan y.reserve in
            e ∙ ap₂ (λ (i : Fields) (b : List Binding). stored_all old.room (plan_between i old.bindings b)) (sym fb.image_is) (sym last_is)

        adopts_alone : IsAlone image input (suc n) (adopts o.state bs) (o.taken ++ Adopt bs ∷ []) (o.count + 1)
        unfolding move
        adopts_alone more =
            let turned : with_acts (turn (handed old (Adopt bs)) 0) [] ≡ with_acts (adopts o.state bs) [] =
            ap (λ (x : State). with_acts x []) (adopting old y.polls old_going bs) ∙ adopts_same old o.state bs y.same the_room in
            ap (λ p. alone (suc n) image (input (suc n)) (took p (Adopt bs) o.taken ++ more) (o.count + 1)) (sym y.polls)
            ∙ alone_more image input (suc n) old (Adopt bs) o.taken o.count y.is_alone old_going None more
            ∙ ap (λ (x : State). with_acts x more) turned

        adopts_is : Other (suc n) adopting_hart lead hs.under hs.commits
        unfolding answered
        adopts_is =
            let k = plan_kept known.rooms o.state.room (0 ∷ spelled_pairs []) in
            record {
              fits = All-append (Fits (suc n)) o.taken (Adopt bs ∷ []) it.fits (All-cons (Fits (suc n)) (Adopt bs) [] fits_bs (All-nil (Fits (suc n))));
              stands = subst (λ g. Stands image input g (suc n) adopting_hart lead hs.under hs.commits) (sym on) (record {
                is_alone = adopts_alone;
                calm = calm;
                bindings = last_is;
                text = k.text ∙ y.text;
                whole = k.whole y.whole;
                adopted = adopts_append o.taken (Adopt bs ∷ []) ∙ ap (λ (b : List Binding). adopts_of o.taken ++ b ∷ []) last_is ∙ y.adopted;
              });
            }

      freed_right : (pick : ℕ) (failing : Bool) → Right (other_at hs n o pick failing)
      unfolding move
      freed_right pick failing =
          subst Right (sym (ap (λ m. other_by m.place hs n o m failing) (move_pick o.state Skip None pick freed_one)))
          (subst (λ p. Right (other_by p hs n o (move o.state Skip None 0) failing)) (sym at_poll_still)
          (subst (λ m. Right (at_poll m hs.wanted hs.under hs n o (move o.state Skip None 0))) (sym is_freed) (by_under hs.under refl)))
        where
          by_under : (u : Option (List Binding)) → hs.under ≡ u → Right (at_poll Freed hs.wanted u hs n o (move o.state Skip None 0))
          by_under None e = with_other adopting_hart (adopts_is e)
          by_under (Some b) e = other_waits_right Freed y

    other_right : (pick : ℕ) (failing : Bool) → Right (other_at hs n o pick failing)
    other_right pick failing = by_mode o.mode refl stands
      where
        by_mode : (m : Mode) → o.mode ≡ m → StandsBy image input m (suc n) o lead hs.under hs.commits → Right (other_at hs n o pick failing)
        by_mode Runs e y = runs_right y e pick failing
        by_mode Parked e y = parked_right e y pick failing
        by_mode Freed e y = freed_right e y pick failing

  -- ---- a turn

  pub turn_right : (hs : Harts) (hart pick : ℕ) (failing : Bool) → Right hs → Right (turn_of hs hart pick failing)
  unfolding turn_of
  turn_right hs zero pick failing right = by_on (is_on hs.leader) refl
    where
      by_on : (g : Bool) → is_on hs.leader ≡ g → Right (if g then leader_turn hs pick failing else hs)
      by_on true e = leader_right known image input Fits fitting hs right (on_going hs.leader e) pick failing
      by_on false e = right
  turn_right hs (suc n) pick failing right = by_there (slice_get hs.others n) refl
    where
      by_on : (o : Hart) → slice_get hs.others n ≡ Some o → (g : Bool) → is_on o ≡ g → Right (if g then other_at hs n o pick failing else hs)
      by_on o there true e = other_right hs right n o there e pick failing
      by_on o there false e = right

      by_there : (x : Option Hart) → slice_get hs.others n ≡ x → Right (other_turn hs n x pick failing)
      by_there None e = right
      by_there (Some o) e = by_on o e (is_on o) refl
