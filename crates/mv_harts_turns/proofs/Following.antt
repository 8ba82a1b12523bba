-- A turn of another hart.
use Rattle.std.proofs.Common.{◌≡◌, ◌≢◌, ◌⊎◌, inl, inr, ℕ, zero, suc, ◌+◌, ◌≤◌, Bool, true, false, if◌then◌else◌, List, [], ◌++◌, map, drop, slice_get, Option, Some, None, option_map, refl, sym, ap, ◌∙◌, arith, subst}
use Rattle.std.specs.Prelude.{slice_set}
use Rattle.std.proofs.lemmas.Bool.{cases_eq}
use Rattle.std.proofs.lemmas.Option.{slice_get-map}
use Rattle.mv_num.proofs.Lists.{set_there}
use Rattle.mv_bindings.specs.declared.binding.Binding.{Binding}
use Rattle.mv_bindings.specs.declared.action.Action.{Action}
use Rattle.mv_bindings.specs.Acts.{Skip, act_of}
use Rattle.mv_image.specs.Spelling.{Fields}
use Rattle.mv_machine.specs.Runs.{answered}
use Rattle.mv_harts_runs.specs.Harts as harts
use Rattle.mv_harts_runs.specs.Harts.{Hart, Harts, Move, AtOrder, AtPoll, Elsewhere, shared, executes, other_goes, other_fails, other_waits, other_adopts, other_by, at_poll, last_of, move, is_on}
use Rattle.mv_harts_runs.proofs.Lists.{set_other}
use Rattle.mv_harts_one.specs.declared.seat.Seat.{Seat}
use Rattle.mv_harts_one.specs.declared.seat.Mode.{Mode}
use Rattle.mv_harts_one.specs.declared.seat.Mode.TheVariants as mode
use Rattle.mv_harts_one.specs.declared.glance.Place.{Place}
use Rattle.mv_harts_one.specs.declared.glance.Place.TheVariants as place
use Rattle.mv_harts_one.specs.declared.glance.Glance.{Glance}
use Rattle.mv_harts_one.specs.Seats.{is_under, place_as, mode_of, store_as}
use Rattle.mv_harts_turns.specs.Pairs.{Both, Pairs}
use Rattle.mv_harts_turns.specs.declared.group.Group.{Group}
use Rattle.mv_harts_turns.specs.declared.group.Committed.{Committed}
use Rattle.mv_harts_turns.specs.declared.poll.PollAnswer.TheVariants.{Waits, Adopts, Goes}
use Rattle.mv_harts_turns.specs.Polls.{answer_at, answer_by}
use Rattle.mv_harts_turns.specs.Groups.{IsSeat, IsGlance, Shared, Shows, Beside, WasAsked, IsDevice, TookStore, SameStop, SameStops, SameCounts, Fares, FaresBy, StandsAs, IsOnAt, Wrote, WroteIn, Stepped, StepRefused, Reaches, Refused, acted, asked, asked_by, hart_at, seat_at, output_of, output, other_acts, held, adopts_last, bindings_of}
use Rattle.mv_harts_turns.proofs.Places.{both_weaker, both_moved, both_here, both_left, both_after, pairs_one, map_set_other, map_set_there, sum_same, sum_one}
use Rattle.mv_harts_turns.proofs.Seats.{not_failed, shared_asked, shared_output}
use Rattle.mv_harts_turns.proofs.Standing.{shared_stands, option_shared, fares_none, fares_by}
use Rattle.mv_harts_turns.proofs.Reaching.{reaches_quiet, other_any, other_any_is, output_shared, seat_took, seat_bytes, move_store, outside_silent}

-- ---- what it writes

pub on_wrote : (hs : Harts) (n : ℕ) (o : Hart) (m : Move) (f : Bool) (more : List ℕ) → slice_get hs.others n ≡ Some o → (acted f o Skip m).state.output ≡ o.state.output ++ more → Wrote (suc n) hs (other_any f hs n o m) more
on_wrote hs n o m f more there e = record { own = own; rest = rest }
  where
    own : output (suc n) (other_any f hs n o m) ≡ output (suc n) hs ++ more
    own = ap output_of (map_set_there (shared m.store) hs.others n o (acted f o Skip m) there) ∙ e ∙ ap (λ p. output_of p ++ more) (sym there)

    rest : (h : ℕ) → h ≢ suc n → output h (other_any f hs n o m) ≡ output h hs
    rest zero ne = shared_output m.store hs.leader
    rest (suc k) ne = ap output_of (map_set_other (shared m.store) hs.others n k (acted f o Skip m) (λ e. ne (ap suc e))) ∙ output_shared m.store (slice_get hs.others k)

-- and how the harts stand behind it
others_stand : (hs : Harts) (n : ℕ) (o : Hart) (m : Move) (f : Bool) (h : ℕ) → h ≢ suc n → Both StandsAs (hart_at h hs) (hart_at h (other_any f hs n o m))
others_stand hs n o m f zero ne = shared_stands m.store hs.leader
others_stand hs n o m f (suc k) ne =
    subst (λ p. Both StandsAs (slice_get hs.others k) p) (sym (map_set_other (shared m.store) hs.others n k (acted f o Skip m) (λ e. ne (ap suc e)))) (option_shared m.store (slice_get hs.others k))

wrote_in : (x : Beside) (hs : Harts) (n : ℕ) (o : Hart) (m : Move) (f : Bool) (more : List ℕ) → IsDevice m f → (m.outside ≡ true → m.store ≡ None) → slice_get hs.others n ≡ Some o → (acted f o Skip m).state.output ≡ o.state.output ++ more →
    FaresBy x o (acted f o Skip m) → WroteIn (suc n) x hs (other_acts hs n o m f) more
wrote_in x hs n o m f more d silent there e fares = subst (λ hs'. WroteIn (suc n) x hs hs' more) (sym (other_any_is f hs n o m d silent)) (record {
  wrote = on_wrote hs n o m f more there e;
  own = both_here (FaresBy x) (slice_get hs.others n) (hart_at (suc n) (other_any f hs n o m)) o (acted f o Skip m) there (map_set_there (shared m.store) hs.others n o (acted f o Skip m) there) fares;
  others = others_stand hs n o m f;
})

pub on_refused : (x : Beside) (hs : Harts) (n : ℕ) (o : Hart) (m : Move) → (m.outside ≡ true → m.store ≡ None) → slice_get hs.others n ≡ Some o → StepRefused o Skip m x → Refused (suc n) x hs (other_acts hs n o m false)
on_refused x hs n o m silent there r = record { more = r.more; written = r.written; either = by_either r.either }
  where
    by_either : (r.more ≡ []) ⊎ (m.state.output ≡ o.state.output ++ r.more) → ((r.more ≡ []) × SameCounts x) ⊎ WroteIn (suc n) x hs (other_acts hs n o m false) r.more
    by_either (inl e) = inl (e, r.same_counts)
    by_either (inr e) = inr (wrote_in x hs n o m false r.more (λ t. absurd (cc)) silent there e (fares_none x o (executes o Skip m) r.on r.on r.same_counts))

pub on_share_refused : (image : Fields) (x : Beside) (hs : Harts) (n : ℕ) (o : Hart) (m : Move) (seat : Seat) (b : Bool) → (m.outside ≡ true → m.store ≡ None) → slice_get hs.others n ≡ Some o → o.failed ≡ false →
    (s : Stepped image hs.commits (suc n) o Skip m None x seat b) → Refused (suc n) x hs (other_acts hs n o m s.failing)
on_share_refused image x hs n o m seat b silent there on s = record {
  more = s.more;
  written = s.written;
  either = inr (wrote_in x hs n o m s.failing s.more s.outside silent there s.output_is (fares_by image hs.commits (suc n) s.rest x seat o (acted s.failing o Skip m) on s.is_seat s.counts));
}

-- ---- an instruction

module _ (image : Fields) (actions : List Action) (bytes : ℕ → List ℕ) (x : Beside) (was is : Group) (hs : Harts) (n : ℕ) (o : Hart) (m : Move) where
  -- what the code has done
  pub record WentOn (seat : Seat) (b : Bool) : Type 0 where
    pub shown : Shows image actions bytes was hs
    pub there : slice_get hs.others n ≡ Some o
    pub on : IsOnAt was.others.items n
    pub stepped : Stepped image hs.commits (suc n) o Skip m None x seat b
    pub silent : m.outside ≡ true → m.store ≡ None
    pub leads : TookStore m.store was.leader is.leader
    pub own : slice_get is.others.items n ≡ Some seat
    pub rest : (k : ℕ) → k ≢ n → Both (TookStore m.store) (slice_get was.others.items k) (slice_get is.others.items k)
    pub same_played : is.played ≡ was.played
    pub same_wanted : is.wanted ≡ was.wanted
    pub same_under : is.under ≡ was.under
    pub same_commits : is.commits ≡ was.commits

  module _ (seat : Seat) (b : Bool) (w : WentOn seat b) where
    abbrev next : Hart
    next = acted w.stepped.failing o Skip m

    abbrev now : Harts
    now = other_any w.stepped.failing hs n o m

    other_took : (after : ℕ → List ℕ) → after (suc n) ≡ w.stepped.rest → ((h : ℕ) → h ≢ suc n → after h ≡ bytes h) → Pairs (λ k. IsSeat image hs.commits (suc k) (after (suc k))) is.others.items now.others
    other_took after own rest = pairs_one (λ k. IsSeat image hs.commits (suc k) (after (suc k))) is.others.items now.others n seat next w.own
        (map_set_there (shared m.store) hs.others n o next w.there)
        (seat_bytes image hs.commits (suc n) w.stepped.rest (after (suc n)) seat next own w.stepped.is_seat)
        (λ k ne. both_moved (IsSeat image hs.commits (suc k) (after (suc k))) (slice_get is.others.items k) (slice_get is.others.items k)
        (option_map (shared m.store) (slice_get hs.others k)) (slice_get now.others k) refl (map_set_other (shared m.store) hs.others n k next ne)
        (both_after (TookStore m.store) (IsSeat image hs.commits (suc k) (bytes (suc k))) (IsSeat image hs.commits (suc k) (after (suc k))) (shared m.store)
        (λ s s' p q r. seat_took image hs.commits (suc k) (bytes (suc k)) (after (suc k)) m.store s s' p (rest (suc k) (λ e. ne (let d : k ≡ n = cc in d))) q r)
        (slice_get was.others.items k) (slice_get is.others.items k) (slice_get hs.others k) (w.rest k ne) (w.shown.others k)))

    on_shows : (after : ℕ → List ℕ) → after (suc n) ≡ w.stepped.rest → ((h : ℕ) → h ≢ suc n → after h ≡ bytes h) → Shows image actions after is now
    on_shows after own rest = record {
      leader = seat_took image hs.commits 0 (bytes 0) (after 0) m.store was.leader is.leader hs.leader (rest 0 (λ e. absurd (cc))) w.leads w.shown.leader;
      others = other_took after own rest;
      actions_are = w.shown.actions_are ∙ ap (λ k. map act_of (drop k actions)) (sym w.same_played);
      wanted = w.shown.wanted ∙ sym w.same_wanted;
      under = w.shown.under ∙ sym w.same_under;
      commits = w.shown.commits ∙ ap bindings_of (sym w.same_commits);
    }

    on_asked : asked now ≡ asked hs + 1
    on_asked =
        let up : asked_by next ≡ asked_by (shared m.store o) + 1 = w.stepped.counted ∙ ap (λ k. k + 1) (sym (shared_asked m.store o)) in
        let at : slice_get (map (shared m.store) hs.others) n ≡ Some (shared m.store o) = slice_get-map (shared m.store) hs.others n ∙ ap (option_map (shared m.store)) w.there in
        omega (arith, shared_asked m.store hs.leader, sum_one asked_by (map (shared m.store) hs.others) n 1 (shared m.store o) next at up, sum_same asked_by (shared m.store) (shared_asked m.store) hs.others)

    on_any : Reaches image actions (suc n) bytes x was is hs now
    on_any = record {
      rest = w.stepped.rest;
      left_is = w.stepped.left_is;
      shows = on_shows;
      more = w.stepped.more;
      wrote = on_wrote hs n o m w.stepped.failing w.stepped.more w.there w.stepped.output_is;
      written = w.stepped.written;
      steps = 1;
      few = omega arith;
      counted = on_asked;
      way_is = w.stepped.way_is;
      own = let was_there = both_left (IsSeat image hs.commits (suc n) (bytes (suc n))) (slice_get was.others.items n) (slice_get hs.others n) o w.there (w.shown.others n) in
          both_here (Fares x) (slice_get was.others.items n) (slice_get is.others.items n) was_there.0 seat was_there.1 w.own (inr (w.on was_there.0 was_there.1, w.stepped.counts));
      others = others;
    }
      where
        others : (h : ℕ) → h ≢ suc n → Both SameStop (seat_at h was) (seat_at h is)
        others zero ne = w.leads.stop
        others (suc k) ne = both_weaker (TookStore m.store) SameStop (λ s s' q. q.stop) (slice_get was.others.items k) (slice_get is.others.items k) (w.rest k (λ e. ne (ap suc e)))

    pub went_on : Reaches image actions (suc n) bytes x was is hs (other_acts hs n o m w.stepped.failing)
    went_on = subst (λ hs'. Reaches image actions (suc n) bytes x was is hs hs') (sym (other_any_is w.stepped.failing hs n o m w.stepped.outside w.silent)) on_any

-- by what the code has seen and done

module _ (image : Fields) (actions : List Action) (bytes : ℕ → List ℕ) (x : Beside) (was is : Group) (hs : Harts) (n : ℕ) (o : Hart) (glance : Glance)
    (shown : Shows image actions bytes was hs) (there : slice_get hs.others n ≡ Some o) (seen : IsGlance glance o) where
  abbrev moved : Move
  moved = move o.state Skip None 0

  pub on_ok : (mid : List Seat) (seat : Seat) (b : Bool) → IsOnAt was.others.items n → Stepped image hs.commits (suc n) o Skip moved None x seat b → TookStore (option_map store_as glance.store) was.leader is.leader →
      slice_get mid n ≡ Some seat → ((k : ℕ) → k ≢ n → slice_get mid k ≡ slice_get was.others.items k) → Shared (option_map store_as glance.store) (suc n) mid is.others.items →
      is.played ≡ was.played → is.wanted ≡ was.wanted → is.under ≡ was.under → is.commits ≡ was.commits →
      (f : Bool) × IsDevice moved f × Reaches image actions (suc n) bytes x was is hs (other_acts hs n o moved f)
  on_ok mid seat b on s leads own rest shares played wanted under commits =
      let st : option_map store_as glance.store ≡ moved.store = seen.store ∙ sym (move_store o.state Skip None) in
      let shares' : Shared moved.store (suc n) mid is.others.items = subst (λ st. Shared st (suc n) mid is.others.items) st shares in (
        s.failing,
        s.outside,
        went_on image actions bytes x was is hs n o moved seat b (record {
          shown = shown;
          there = there;
          on = on;
          stepped = s;
          silent = outside_silent o.state Skip None;
          leads = subst (λ st. TookStore st was.leader is.leader) st leads;
          own = shares'.own n refl ∙ own;
          rest = λ k ne. both_moved (TookStore moved.store) (slice_get mid k) (slice_get was.others.items k) (slice_get is.others.items k)
              (slice_get is.others.items k) (sym (rest k ne)) refl (shares'.rest k (λ e. ne (let d : k ≡ n = cc in d)));
          same_played = played;
          same_wanted = wanted;
          same_under = under;
          same_commits = commits;
        }),
      )

  pub on_step_refused : StepRefused o Skip moved x → Refused (suc n) x hs (other_acts hs n o moved false)
  on_step_refused r = on_refused x hs n o moved (outside_silent o.state Skip None) there r

  pub on_store_refused : (seat : Seat) (b : Bool) → IsOnAt was.others.items n → Stepped image hs.commits (suc n) o Skip moved None x seat b → (f : Bool) × IsDevice moved f × Refused (suc n) x hs (other_acts hs n o moved f)
  on_store_refused seat b on s =
      let old = both_left (IsSeat image hs.commits (suc n) (bytes (suc n))) (slice_get was.others.items n) (slice_get hs.others n) o there (shown.others n) in
      (s.failing, s.outside, on_share_refused image x hs n o moved seat b (outside_silent o.state Skip None) there (not_failed (suc n) old.0 (bytes (suc n)) o old.2.sits (on old.0 old.1)) s)

-- ---- a poll at which it waits or adopts

module _ (image : Fields) (actions : List Action) (bytes : ℕ → List ℕ) (x : Beside) (was is : Group) (hs : Harts) (n : ℕ) (o o' : Hart) (steps : ℕ) where
  -- what the code has done
  pub record Stayed (old seat : Seat) : Type 0 where
    pub few : steps ≤ 1
    pub left_is : x.left ≡ Some (bytes (suc n))
    pub same_written : x.new_written ≡ x.old_written
    pub same_counts : SameCounts x
    pub way_is : WasAsked x steps
    pub shown : Shows image actions bytes was hs
    pub there : slice_get hs.others n ≡ Some o
    pub counted : asked_by o' ≡ asked_by o + steps
    pub same_output : o'.state.output ≡ o.state.output
    pub is_seat : IsSeat image hs.commits (suc n) (bytes (suc n)) seat o'
    pub same_leader : is.leader ≡ was.leader
    pub old_there : slice_get was.others.items n ≡ Some old
    pub own : slice_get is.others.items n ≡ Some seat
    pub rest : (k : ℕ) → k ≢ n → slice_get is.others.items k ≡ slice_get was.others.items k
    pub same_stop : seat.stop ≡ old.stop
    pub same_played : is.played ≡ was.played
    pub same_wanted : is.wanted ≡ was.wanted
    pub same_under : is.under ≡ was.under
    pub same_commits : is.commits ≡ was.commits

  module _ (old seat : Seat) (w : Stayed old seat) where
    abbrev set_now : Harts
    set_now = record hs { others = slice_set hs.others n o' }

    stayed_shows : Shows image actions bytes is set_now
    stayed_shows = record {
      leader = subst (λ s. IsSeat image hs.commits 0 (bytes 0) s hs.leader) (sym w.same_leader) w.shown.leader;
      others = pairs_one (λ k. IsSeat image hs.commits (suc k) (bytes (suc k))) is.others.items (slice_set hs.others n o') n seat o' w.own (set_there hs.others n o o' w.there) w.is_seat
          (λ k ne. both_moved (IsSeat image hs.commits (suc k) (bytes (suc k))) (slice_get was.others.items k) (slice_get is.others.items k)
          (slice_get hs.others k) (slice_get (slice_set hs.others n o') k) (w.rest k ne) (set_other hs.others n k o' ne) (w.shown.others k));
      actions_are = w.shown.actions_are ∙ ap (λ k. map act_of (drop k actions)) (sym w.same_played);
      wanted = w.shown.wanted ∙ sym w.same_wanted;
      under = w.shown.under ∙ sym w.same_under;
      commits = w.shown.commits ∙ ap bindings_of (sym w.same_commits);
    }

    stayed_stops : SameStops was is
    stayed_stops zero = ap (λ (s : Seat). s.stop) w.same_leader
    stayed_stops (suc k) = by_eq (cases_eq k n)
      where
        same : (p : Option Seat) → Both (λ (s s' : Seat). s'.stop ≡ s.stop) p p
        same None = tt
        same (Some s) = refl

        by_eq : (k ≡ n) ⊎ (k ≢ n) → Both (λ (s s' : Seat). s'.stop ≡ s.stop) (slice_get was.others.items k) (slice_get is.others.items k)
        by_eq (inl e) =
            both_here (λ (s s' : Seat). s'.stop ≡ s.stop) (slice_get was.others.items k) (slice_get is.others.items k) old seat
            (ap (slice_get was.others.items) e ∙ w.old_there) (ap (slice_get is.others.items) e ∙ w.own) w.same_stop
        by_eq (inr ne) = subst (λ p. Both (λ (s s' : Seat). s'.stop ≡ s.stop) (slice_get was.others.items k) p) (sym (w.rest k ne)) (same (slice_get was.others.items k))

    stayed_output : (h : ℕ) → output h set_now ≡ output h hs
    stayed_output zero = refl
    stayed_output (suc k) = by_eq (cases_eq k n)
      where
        by_eq : (k ≡ n) ⊎ (k ≢ n) → output_of (slice_get (slice_set hs.others n o') k) ≡ output_of (slice_get hs.others k)
        by_eq (inl e) = ap output_of (ap (slice_get (slice_set hs.others n o')) e ∙ set_there hs.others n o o' w.there) ∙ w.same_output ∙ ap output_of (sym (ap (slice_get hs.others) e ∙ w.there))
        by_eq (inr ne) = ap output_of (set_other hs.others n k o' ne)

    pub stayed : Reaches image actions (suc n) bytes x was is hs (record hs { others = slice_set hs.others n o' })
    stayed = reaches_quiet image actions (suc n) bytes x was is hs set_now steps (record {
      few = w.few;
      left_is = w.left_is;
      same_written = w.same_written;
      same_counts = w.same_counts;
      way_is = w.way_is;
      counted = omega (arith, sum_one asked_by hs.others n steps o o' w.there w.counted);
      same_output = stayed_output;
      shows = stayed_shows;
      stops = stayed_stops;
    })

-- ---- which of them

by_place : (hs : Harts) (n : ℕ) (o : Hart) (m : Move) (f : Bool) (q : harts.Place) → (q ≡ AtPoll → ⊥) → m.place ≡ q → IsDevice m f → other_by q hs n o m f ≡ other_acts hs n o m f
by_place hs n o m false AtOrder ne at d = refl
by_place hs n o m true AtOrder ne at d = absurd (let e : AtOrder ≡ Elsewhere = sym at ∙ (d refl).1 in cc)
by_place hs n o m f AtPoll ne at d = absurd (ne refl)
by_place hs n o m false Elsewhere ne at d = refl
by_place hs n o m true Elsewhere ne at d = ap (λ c. if c then other_fails hs n o else other_goes hs n o m) (d refl).0

code_place : (p : Place) → (p ≡ place.AtPoll → ⊥) → place_as p ≡ AtPoll → ⊥
code_place place.AtOrder ne e = cc
code_place place.AtPoll ne e = ne refl
code_place place.Elsewhere ne e = cc

pub follow_plain : (hs : Harts) (n : ℕ) (o : Hart) (m : Move) (f : Bool) (p : Place) → (p ≡ place.AtPoll → ⊥) → place_as p ≡ m.place → IsDevice m f → other_by m.place hs n o m f ≡ other_acts hs n o m f
follow_plain hs n o m f p ne at d = by_place hs n o m f m.place (λ e. code_place p ne (at ∙ e)) refl d

-- at a poll no read or write fails
only_goes : (hs : Harts) (n : ℕ) (o : Hart) (m : Move) (f : Bool) → m.place ≡ AtPoll → IsDevice m f → other_goes hs n o m ≡ other_acts hs n o m f
only_goes hs n o m false at d = refl
only_goes hs n o m true at d = absurd (let e : AtPoll ≡ Elsewhere = sym at ∙ (d refl).1 in cc)

module _ (hs : Harts) (n : ℕ) (o : Hart) (m : Move) where
  poll_goes : (md : Mode) (w b : Bool) (u : Option (List Binding)) → is_under u ≡ b → answer_by md w b ≡ Goes → at_poll (mode_of md) w u hs n o m ≡ other_goes hs n o m
  poll_goes mode.Runs true b u e a = absurd (cc)
  poll_goes mode.Runs false b u e a = refl
  poll_goes mode.Parked w b u e a = absurd (cc)
  poll_goes mode.Freed w true u e a = absurd (cc)
  poll_goes mode.Freed w false u e a = absurd (cc)

  poll_waits : (md md' : Mode) (w b : Bool) (u : Option (List Binding)) → is_under u ≡ b → answer_by md w b ≡ Waits md' → at_poll (mode_of md) w u hs n o m ≡ other_waits hs n o (mode_of md')
  poll_waits mode.Runs md' true b u e a = let s : mode.Parked ≡ md' = cc in ap (λ k. other_waits hs n o (mode_of k)) s
  poll_waits mode.Runs md' false b u e a = absurd (cc)
  poll_waits mode.Parked md' w b u e a = let s : mode.Parked ≡ md' = cc in ap (λ k. other_waits hs n o (mode_of k)) s
  poll_waits mode.Freed md' w true (Some old) e a = let s : mode.Freed ≡ md' = cc in ap (λ k. other_waits hs n o (mode_of k)) s
  poll_waits mode.Freed md' w true None e a = absurd (cc)
  poll_waits mode.Freed md' w false u e a = absurd (cc)

  poll_adopts : (md : Mode) (w b : Bool) (u : Option (List Binding)) → is_under u ≡ b → answer_by md w b ≡ Adopts → at_poll (mode_of md) w u hs n o m ≡ other_adopts hs n o
  poll_adopts mode.Runs true b u e a = absurd (cc)
  poll_adopts mode.Runs false b u e a = absurd (cc)
  poll_adopts mode.Parked w b u e a = absurd (cc)
  poll_adopts mode.Freed w true u e a = absurd (cc)
  poll_adopts mode.Freed w false (Some old) e a = absurd (cc)
  poll_adopts mode.Freed w false None e a = refl

  -- how the hart stands at its poll, in code
  pub record Polls (seat : Seat) (group : Group) : Type 0 where
    pub mode : o.mode ≡ mode_of seat.mode
    pub wanted : hs.wanted ≡ group.wanted
    pub under : is_under hs.under ≡ group.under
    pub at : place_as place.AtPoll ≡ m.place

  as_code : (seat : Seat) (group : Group) (f : Bool) → Polls seat group → other_by m.place hs n o m f ≡ at_poll (mode_of seat.mode) group.wanted hs.under hs n o m
  as_code seat group f p =
      ap (λ q. other_by q hs n o m f) (sym p.at)
      ∙ ap (λ q. at_poll q hs.wanted hs.under hs n o m) p.mode
      ∙ ap (λ w. at_poll (mode_of seat.mode) w hs.under hs n o m) p.wanted

  pub follow_goes : (seat : Seat) (group : Group) (f : Bool) → Polls seat group → answer_by seat.mode group.wanted group.under ≡ Goes → IsDevice m f → other_by m.place hs n o m f ≡ other_acts hs n o m f
  follow_goes seat group f p a d = as_code seat group f p ∙ poll_goes seat.mode group.wanted group.under hs.under p.under a ∙ only_goes hs n o m f (sym p.at) d

  pub follow_waits : (seat : Seat) (group : Group) (f : Bool) (md : Mode) → Polls seat group → answer_by seat.mode group.wanted group.under ≡ Waits md → other_by m.place hs n o m f ≡ other_waits hs n o (mode_of md)
  follow_waits seat group f md p a = as_code seat group f p ∙ poll_waits seat.mode md group.wanted group.under hs.under p.under a

  pub follow_adopts : (seat : Seat) (group : Group) (f : Bool) → Polls seat group → answer_by seat.mode group.wanted group.under ≡ Adopts → other_by m.place hs n o m f ≡ other_adopts hs n o
  follow_adopts seat group f p a = as_code seat group f p ∙ poll_adopts seat.mode group.wanted group.under hs.under p.under a

adopts_freed : (md : Mode) (w b : Bool) → answer_by md w b ≡ Adopts → md ≡ mode.Freed
adopts_freed mode.Runs true b a = absurd (cc)
adopts_freed mode.Runs false b a = absurd (cc)
adopts_freed mode.Parked w b a = absurd (cc)
adopts_freed mode.Freed w true a = absurd (cc)
adopts_freed mode.Freed w false a = refl

pub freed_by : (p : Place) (md : Mode) (w b : Bool) → answer_at p md w b ≡ Adopts → md ≡ mode.Freed
freed_by place.AtOrder md w b a = absurd (cc)
freed_by place.AtPoll md w b a = adopts_freed md w b a
freed_by place.Elsewhere md w b a = absurd (cc)

-- what the code has tested is what the definition tests
module _ (hs : Harts) (n : ℕ) (o : Hart) (m : Move) (seat : Seat) (group : Group) where
  pub record Tested (p : Place) : Type 0 where
    pub mode : o.mode ≡ mode_of seat.mode
    pub wanted : hs.wanted ≡ group.wanted
    pub under : is_under hs.under ≡ group.under
    pub at : place_as p ≡ m.place

  polls_at : Tested place.AtPoll → Polls hs n o m seat group
  polls_at t = record { mode = t.mode; wanted = t.wanted; under = t.under; at = t.at }

  pub tested_goes : (p : Place) (f : Bool) → Tested p → answer_at p seat.mode group.wanted group.under ≡ Goes → IsDevice m f → other_by m.place hs n o m f ≡ other_acts hs n o m f
  tested_goes place.AtOrder f t a d = follow_plain hs n o m f place.AtOrder (λ e. cc) t.at d
  tested_goes place.AtPoll f t a d = follow_goes hs n o m seat group f (polls_at t) a d
  tested_goes place.Elsewhere f t a d = follow_plain hs n o m f place.Elsewhere (λ e. cc) t.at d

  pub tested_waits : (p : Place) (f : Bool) (md : Mode) → Tested p → answer_at p seat.mode group.wanted group.under ≡ Waits md → other_by m.place hs n o m f ≡ other_waits hs n o (mode_of md)
  tested_waits place.AtOrder f md t a = absurd (cc)
  tested_waits place.AtPoll f md t a = follow_waits hs n o m seat group f md (polls_at t) a
  tested_waits place.Elsewhere f md t a = absurd (cc)

  pub tested_adopts : (p : Place) (f : Bool) → Tested p → answer_at p seat.mode group.wanted group.under ≡ Adopts → other_by m.place hs n o m f ≡ other_adopts hs n o
  tested_adopts place.AtOrder f t a = absurd (cc)
  tested_adopts place.AtPoll f t a = follow_adopts hs n o m seat group f (polls_at t) a
  tested_adopts place.Elsewhere f t a = absurd (cc)

-- ---- what the code has done at a poll

pub held_ok : (image : Fields) (actions : List Action) (bytes : ℕ → List ℕ) (x : Beside) (was is : Group) (hs : Harts) (n : ℕ) (o : Hart) (m : Move)
    (md : harts.Mode) (f : Bool) (old seat : Seat) → other_by m.place hs n o m f ≡ other_waits hs n o md
    → Stayed image actions bytes x was is hs n o (held o md) 0 old seat →
    Reaches image actions (suc n) bytes x was is hs (other_by m.place hs n o m f)
held_ok image actions bytes x was is hs n o m md f old seat e w = subst (λ hs'. Reaches image actions (suc n) bytes x was is hs hs') (sym e) (stayed image actions bytes x was is hs n o (held o md) 0 old seat w)

pub adopted_ok : (image : Fields) (actions : List Action) (bytes : ℕ → List ℕ) (x : Beside) (was is : Group) (hs : Harts) (n : ℕ) (o : Hart)
    (m : Move) (f : Bool) (old seat : Seat) → other_by m.place hs n o m f ≡ other_adopts hs n o
    → Stayed image actions bytes x was is hs n o (adopts_last o (last_of hs.commits)) 1 old seat →
    Reaches image actions (suc n) bytes x was is hs (other_by m.place hs n o m f)
adopted_ok image actions bytes x was is hs n o m f old seat e w = subst (λ hs'. Reaches image actions (suc n) bytes x was is hs hs') (sym e) (stayed image actions bytes x was is hs n o (adopts_last o (last_of hs.commits)) 1 old seat w)

-- a seat by the commits that the group holds, and by those of the harts
pub seat_by_code : (image : Fields) (commits : List (List Binding)) (held_commits : List Committed) (n : ℕ) (bytes : List ℕ) (seat : Seat) (o : Hart)
    → commits ≡ bindings_of held_commits → IsSeat image commits n bytes seat o → IsSeat image (bindings_of held_commits) n bytes seat o
seat_by_code image commits held_commits n bytes seat o e h = subst (λ l. IsSeat image l n bytes seat o) e h

pub seat_adopted : (image : Fields) (commits : List (List Binding)) (held_commits : List Committed) (n : ℕ) (bytes : List ℕ) (seat : Seat) (o : Hart)
    → commits ≡ bindings_of held_commits → IsSeat image (bindings_of held_commits) n bytes seat (adopts_last o (last_of (bindings_of held_commits)))
    → IsSeat image commits n bytes seat (adopts_last o (last_of commits))
seat_adopted image commits held_commits n bytes seat o e h = subst (λ l. IsSeat image l n bytes seat (adopts_last o (last_of l))) (sym e) h

pub adopts_output : (o : Hart) (bs : List Binding) → (adopts_last o bs).state.output ≡ o.state.output
unfolding answered
adopts_output o bs = refl

pub adopts_asked : (o : Hart) (bs : List Binding) → asked_by (adopts_last o bs) ≡ asked_by o + 1
adopts_asked o bs = omega arith

pub adopts_on : (o : Hart) (bs : List Binding) → is_on (adopts_last o bs) ≡ is_on o
unfolding answered
adopts_on o bs = refl
