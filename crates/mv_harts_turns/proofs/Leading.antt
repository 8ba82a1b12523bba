-- A turn of hart 0.
use Rattle.std.proofs.Common.{◌≡◌, ◌≢◌, ◌⊎◌, inl, inr, ℕ, zero, suc, ◌+◌, Bool, true, false, ◌&&◌, if◌then◌else◌, List, [], ◌∷◌, ◌++◌, map, drop, slice_get, Option, Some, None, option_map, Result, Ok, Err, OnOk, refl, sym, ap, ◌∙◌, arith, subst}
use Rattle.std.proofs.lemmas.Option.{slice_get-map}
use Rattle.mv_bindings.specs.declared.binding.Binding.{Binding}
use Rattle.mv_bindings.specs.declared.action.Action.{Action}
use Rattle.mv_bindings.specs.Acts.{Act, act_of}
use Rattle.mv_image.specs.Spelling.{Fields}
use Rattle.mv_machine.specs.Runs.{State}
use Rattle.mv_harts_runs.specs.Harts as harts
use Rattle.mv_harts_runs.specs.Harts.{Hart, Harts, Move, is_commit, all_away, shared, freed, later_acts, left_behind, executes, fails, leader_goes, leader_commits, leader_waits, leader_by, next_act, move}
use Rattle.mv_harts_one.specs.declared.seat.Seat.{Seat}
use Rattle.mv_harts_one.specs.declared.glance.Place.{Place}
use Rattle.mv_harts_one.specs.declared.glance.Place.TheVariants as place
use Rattle.mv_harts_one.specs.declared.glance.Glance.{Glance}
use Rattle.mv_harts_one.specs.Seats.{place_as, store_as}
use Rattle.mv_harts_turns.specs.Pairs.{Both, Pairs}
use Rattle.mv_harts_turns.specs.declared.group.Group.{Group}
use Rattle.mv_harts_turns.specs.declared.group.Committed.{Committed}
use Rattle.mv_harts_turns.specs.Groups.{AreTaken, IsSeat, IsGlance, Shows, Beside, IsDevice, TookStore, Shared, IsFreed, SameStop, SameStops, SameCounts, Fares, FaresBy, StandsAs, Wrote, WroteIn, Stepped, StepRefused, Reaches, Refused, Turned, MayFail, acted, asked, asked_by, hart_at, seat_at, output_of, output, leader_acts, committed, bindings_of}
use Rattle.mv_harts_turns.proofs.Places.{both_after, both_weaker, both_moved, both_then, sum_same}
use Rattle.mv_harts_turns.proofs.Seats.{not_failed, shared_asked, seat_more}
use Rattle.mv_harts_turns.proofs.Standing.{all_shared, all_freed, all_stay, fares_none, fares_by}
use Rattle.mv_harts_turns.proofs.Reaching.{leader_any, leader_any_is, output_shared, seat_took, seat_bytes, reaches_quiet, way_none, move_place, move_store, outside_silent}

-- ---- actions

later_drop : (actions : List Action) (k : ℕ) → later_acts (map act_of (drop k actions)) ≡ map act_of (drop (suc k) actions)
later_drop [] zero = refl
later_drop [] (suc k) = refl
later_drop (a ∷ actions) zero = refl
later_drop (a ∷ actions) (suc k) = later_drop actions k

not_poll : (p : Place) (acts : List Act) → (p ≡ place.AtPoll → ⊥) → left_behind (place_as p) acts ≡ acts
not_poll place.AtOrder acts ne = refl
not_poll place.AtPoll acts ne = absurd (ne refl)
not_poll place.Elsewhere acts ne = refl

-- the actions behind an instruction, by what is played
pub played_more : (p : Place) (actions : List Action) (k : ℕ) → p ≡ place.AtPoll → left_behind (place_as p) (map act_of (drop k actions)) ≡ map act_of (drop (k + 1) actions)
played_more p actions k e = ap (λ q. left_behind (place_as q) (map act_of (drop k actions))) e ∙ later_drop actions k ∙ (let one : suc k ≡ k + 1 = omega arith in ap (λ j. map act_of (drop j actions)) one)

pub played_other : (p : Place) (actions : List Action) (k : ℕ) → (p ≡ place.AtPoll → ⊥) → left_behind (place_as p) (map act_of (drop k actions)) ≡ map act_of (drop k actions)
played_other p actions k ne = not_poll p (map act_of (drop k actions)) ne

-- ---- an instruction

module _ (image : Fields) (actions : List Action) (bytes : ℕ → List ℕ) (x : Beside) (was is : Group) (hs : Harts) (a : Act) (m : Move) where
  -- what the code has done
  pub record Went (b : Bool) : Type 0 where
    pub shown : Shows image actions bytes was hs
    pub on : was.leader.stop ≡ None
    pub stepped : Stepped image hs.commits 0 hs.leader a m hs.under x is.leader b
    pub silent : m.outside ≡ true → m.store ≡ None
    pub shares : Shared m.store 0 was.others.items is.others.items
    pub left : left_behind m.place hs.actions ≡ map act_of (drop is.played actions)
    pub same_wanted : is.wanted ≡ was.wanted
    pub new_under : is.under ≡ b
    pub same_commits : is.commits ≡ was.commits

  others_took : (b : Bool) → Went b → (after : ℕ → List ℕ) → ((h : ℕ) → h ≢ 0 → after h ≡ bytes h) → Pairs (λ n. IsSeat image hs.commits (suc n) (after (suc n))) is.others.items (map (shared m.store) hs.others)
  others_took b w after rest n =
      let ne : suc n ≢ 0 = λ e. absurd (cc) in
      both_moved (IsSeat image hs.commits (suc n) (after (suc n))) (slice_get is.others.items n) (slice_get is.others.items n)
      (option_map (shared m.store) (slice_get hs.others n)) (slice_get (map (shared m.store) hs.others) n) refl (slice_get-map (shared m.store) hs.others n)
      (both_after (TookStore m.store) (IsSeat image hs.commits (suc n) (bytes (suc n))) (IsSeat image hs.commits (suc n) (after (suc n))) (shared m.store)
      (λ s s' o q r. seat_took image hs.commits (suc n) (bytes (suc n)) (after (suc n)) m.store s s' o (rest (suc n) ne) q r)
      (slice_get was.others.items n) (slice_get is.others.items n) (slice_get hs.others n) (w.shares.rest n ne) (w.shown.others n))

  went_shows : (b : Bool) → (w : Went b) → (after : ℕ → List ℕ) → after 0 ≡ w.stepped.rest → ((h : ℕ) → h ≢ 0 → after h ≡ bytes h) → Shows image actions after is (leader_any w.stepped.failing hs a m)
  went_shows b w after own rest = record {
    leader = seat_bytes image hs.commits 0 w.stepped.rest (after 0) is.leader (acted w.stepped.failing hs.leader a m) own w.stepped.is_seat;
    others = others_took b w after rest;
    actions_are = w.left;
    wanted = w.shown.wanted ∙ sym w.same_wanted;
    under = sym w.stepped.under_is ∙ sym w.new_under;
    commits = w.shown.commits ∙ ap bindings_of (sym w.same_commits);
  }

  went_wrote : (b : Bool) → (w : Went b) → Wrote 0 hs (leader_any w.stepped.failing hs a m) w.stepped.more
  went_wrote b w = record { own = w.stepped.output_is; rest = rest }
    where
      rest : (h : ℕ) → h ≢ 0 → output h (leader_any w.stepped.failing hs a m) ≡ output h hs
      rest zero ne = absurd (ne refl)
      rest (suc n) ne = ap output_of (slice_get-map (shared m.store) hs.others n) ∙ output_shared m.store (slice_get hs.others n)

  went_asked : (b : Bool) → (w : Went b) → asked (leader_any w.stepped.failing hs a m) ≡ asked hs + 1
  went_asked b w = omega (arith, w.stepped.counted, sum_same asked_by (shared m.store) (shared_asked m.store) hs.others)

  went_any : (b : Bool) → (w : Went b) → Reaches image actions 0 bytes x was is hs (leader_any w.stepped.failing hs a m)
  went_any b w = record {
    rest = w.stepped.rest;
    left_is = w.stepped.left_is;
    shows = went_shows b w;
    more = w.stepped.more;
    wrote = went_wrote b w;
    written = w.stepped.written;
    steps = 1;
    few = omega arith;
    counted = went_asked b w;
    way_is = w.stepped.way_is;
    own = inr (w.on, w.stepped.counts);
    others = others;
  }
    where
      others : (h : ℕ) → h ≢ 0 → Both SameStop (seat_at h was) (seat_at h is)
      others zero ne = absurd (ne refl)
      others (suc n) ne = both_weaker (TookStore m.store) SameStop (λ s s' q. q.stop) (slice_get was.others.items n) (slice_get is.others.items n) (w.shares.rest n ne)

  pub went : (b : Bool) → (w : Went b) → Reaches image actions 0 bytes x was is hs (leader_acts hs a m w.stepped.failing)
  went b w = subst (λ hs'. Reaches image actions 0 bytes x was is hs hs') (sym (leader_any_is w.stepped.failing hs a m w.stepped.outside w.silent)) (went_any b w)

  -- without memory
  wrote_by : (f : Bool) (more : List ℕ) → IsDevice m f → (m.outside ≡ true → m.store ≡ None)
      → (acted f hs.leader a m).state.output ≡ hs.leader.state.output ++ more → FaresBy x hs.leader (acted f hs.leader a m)
      → WroteIn 0 x hs (leader_acts hs a m f) more
  wrote_by f more d silent e fares = subst (λ hs'. WroteIn 0 x hs hs' more) (sym (leader_any_is f hs a m d silent)) (record { wrote = record { own = e; rest = rest }; own = fares; others = stand })
    where
      stand : (h : ℕ) → h ≢ 0 → Both StandsAs (hart_at h hs) (hart_at h (leader_any f hs a m))
      stand zero ne = absurd (ne refl)
      stand (suc n) ne = all_shared m.store hs.others n

      rest : (h : ℕ) → h ≢ 0 → output h (leader_any f hs a m) ≡ output h hs
      rest zero ne = absurd (ne refl)
      rest (suc n) ne = ap output_of (slice_get-map (shared m.store) hs.others n) ∙ output_shared m.store (slice_get hs.others n)

  pub went_refused : (m.outside ≡ true → m.store ≡ None) → StepRefused hs.leader a m x → Refused 0 x hs (leader_acts hs a m false)
  went_refused silent r = record { more = r.more; written = r.written; either = by_either r.either }
    where
      by_either : (r.more ≡ []) ⊎ (m.state.output ≡ hs.leader.state.output ++ r.more) → ((r.more ≡ []) × SameCounts x) ⊎ WroteIn 0 x hs (leader_acts hs a m false) r.more
      by_either (inl e) = inl (e, r.same_counts)
      by_either (inr e) = inr (wrote_by false r.more (λ t. absurd (cc)) silent e (fares_none x hs.leader (executes hs.leader a m) r.on r.on r.same_counts))

  pub share_refused : (seat : Seat) (b : Bool) → hs.leader.failed ≡ false → (m.outside ≡ true → m.store ≡ None) → (s : Stepped image hs.commits 0 hs.leader a m hs.under x seat b) → Refused 0 x hs (leader_acts hs a m s.failing)
  share_refused seat b on silent s = record {
    more = s.more;
    written = s.written;
    either = inr (wrote_by s.failing s.more s.outside silent s.output_is (fares_by image hs.commits 0 s.rest x seat hs.leader (acted s.failing hs.leader a m) on s.is_seat s.counts));
  }

-- by what the code has seen and done

module _ (image : Fields) (actions : List Action) (bytes : ℕ → List ℕ) (x : Beside) (was is : Group) (hs : Harts) (act : Act) (glance : Glance)
    (shown : Shows image actions bytes was hs) (seen : IsGlance glance hs.leader) (handed : next_act hs.actions ≡ act) where
  abbrev taken : Act
  taken = next_act hs.actions

  abbrev moved : Move
  moved = move hs.leader.state taken hs.under 0

  stepped_as : (seat : Seat) (b : Bool) → Stepped image hs.commits 0 hs.leader act (move hs.leader.state act hs.under 0) hs.under x seat b → Stepped image hs.commits 0 hs.leader taken moved hs.under x seat b
  stepped_as seat b s = subst (λ (a : Act). Stepped image hs.commits 0 hs.leader a (move hs.leader.state a hs.under 0) hs.under x seat b) (sym handed) s

  pub go_ok : (b : Bool) → was.leader.stop ≡ None → Stepped image hs.commits 0 hs.leader act (move hs.leader.state act hs.under 0) hs.under x is.leader b → Shared (option_map store_as glance.store) 0 was.others.items is.others.items →
      left_behind (place_as glance.place) (map act_of (drop was.played actions)) ≡ map act_of (drop is.played actions) → is.wanted ≡ was.wanted → is.under ≡ b → is.commits ≡ was.commits →
      (f : Bool) × IsDevice moved f × Reaches image actions 0 bytes x was is hs (leader_acts hs taken moved f)
  go_ok b on s shares played wanted under commits =
      let s' = stepped_as is.leader b s in
      let at : moved.place ≡ place_as glance.place = move_place hs.leader.state taken hs.under ∙ sym seen.place in (
        s'.failing,
        s'.outside,
        went image actions bytes x was is hs taken moved b (record {
          shown = shown;
          on = on;
          stepped = s';
          silent = outside_silent hs.leader.state taken hs.under;
          shares = subst (λ st. Shared st 0 was.others.items is.others.items) (seen.store ∙ sym (move_store hs.leader.state taken hs.under)) shares;
          left = ap (λ q. left_behind q hs.actions) at ∙ ap (left_behind (place_as glance.place)) shown.actions_are ∙ played;
          same_wanted = wanted;
          new_under = under;
          same_commits = commits;
        }),
      )

  pub go_step_refused : StepRefused hs.leader act (move hs.leader.state act hs.under 0) x → Refused 0 x hs (leader_acts hs taken moved false)
  go_step_refused r = went_refused image actions bytes x was is hs taken moved (outside_silent hs.leader.state taken hs.under) (subst (λ (a : Act). StepRefused hs.leader a (move hs.leader.state a hs.under 0) x) (sym handed) r)

  pub go_share_refused : (seat : Seat) (b : Bool) → was.leader.stop ≡ None
      → Stepped image hs.commits 0 hs.leader act (move hs.leader.state act hs.under 0) hs.under x seat b
      → (f : Bool) × IsDevice moved f × Refused 0 x hs (leader_acts hs taken moved f)
  go_share_refused seat b on s =
      let s' = stepped_as seat b s in
      (s'.failing, s'.outside, share_refused image actions bytes x was is hs taken moved seat b (not_failed 0 was.leader (bytes 0) hs.leader shown.leader.sits on) (outside_silent hs.leader.state taken hs.under) s')

-- ---- a commit

seat_freed : (image : Fields) (commits more : List (List Binding)) (n : ℕ) (bytes : List ℕ) (was is : Seat) (o : Hart) → IsFreed was is → IsSeat image commits n bytes was o → IsSeat image (commits ++ more) n bytes is (freed o)
seat_freed image commits more n bytes was is o q r = seat_more image commits more n bytes is (freed o) (record {
  same_image = q.image ∙ r.same_image;
  sits = q.sits n bytes o r.sits;
  took = subst (λ ts. AreTaken commits ts o.taken) (sym q.taken) r.took;
})

map_append : {A B : Type 0} (f : A → B) (xs : List A) (y : A) → map f (xs ++ y ∷ []) ≡ map f xs ++ f y ∷ []
map_append f [] y = refl
map_append f (x ∷ xs) y = ap (λ l. f x ∷ l) (map_append f xs y)

pub shows_committed : (image : Fields) (actions : List Action) (bytes : ℕ → List ℕ) (was is : Group) (c : Committed) (hs : Harts)
    → is.leader ≡ was.leader → Pairs (λ n. IsFreed) was.others.items is.others.items → is.played ≡ was.played → is.wanted ≡ false → is.under ≡ was.under →
    is.commits ≡ was.commits ++ c ∷ [] → c.all ≡ was.leader.engine.bindings → Shows image actions bytes was hs → Shows image actions bytes is (committed hs)
shows_committed image actions bytes was is c hs same frees played wanted under commits all h =
    let bs = hs.leader.state.bindings in
    let left : bs ≡ c.all = ap (λ (s : State). s.bindings) h.leader.sits.state ∙ sym all in
    record {
      leader = subst (λ seat. IsSeat image (hs.commits ++ bs ∷ []) 0 (bytes 0) seat hs.leader) (sym same) (seat_more image hs.commits (bs ∷ []) 0 (bytes 0) was.leader hs.leader h.leader);
      others = λ n. both_moved (IsSeat image (hs.commits ++ bs ∷ []) (suc n) (bytes (suc n))) (slice_get is.others.items n)
          (slice_get is.others.items n) (option_map freed (slice_get hs.others n)) (slice_get (map freed hs.others) n) refl (slice_get-map freed hs.others n)
          (both_after IsFreed (IsSeat image hs.commits (suc n) (bytes (suc n))) (IsSeat image (hs.commits ++ bs ∷ []) (suc n) (bytes (suc n))) freed (λ s s' o q r. seat_freed image hs.commits (bs ∷ []) (suc n) (bytes (suc n)) s s' o q r)
          (slice_get was.others.items n) (slice_get is.others.items n) (slice_get hs.others n) (frees n) (h.others n));
      actions_are = h.actions_are ∙ ap (λ k. map act_of (drop k actions)) (sym played);
      wanted = sym wanted;
      under = h.under ∙ sym under;
      commits = ap (λ l. l ++ bs ∷ []) h.commits ∙ ap (λ b. bindings_of was.commits ++ b ∷ []) left ∙ sym (map_append (λ (d : Committed). d.all) was.commits c) ∙ ap bindings_of (sym commits);
    }

output_freed : (p : Option Hart) → output_of (option_map freed p) ≡ output_of p
output_freed None = refl
output_freed (Some o) = refl

output_committed : (h : ℕ) (hs : Harts) → output h (committed hs) ≡ output h hs
output_committed zero hs = refl
output_committed (suc n) hs = ap output_of (slice_get-map freed hs.others n) ∙ output_freed (slice_get hs.others n)

wrote_committed : (hs hs' : Harts) (more : List ℕ) → Wrote 0 hs hs' more → Wrote 0 hs (committed hs') more
wrote_committed hs hs' more w = record { own = output_committed 0 hs' ∙ w.own; rest = λ h ne. output_committed h hs' ∙ w.rest h ne }

-- and how the harts stand behind it
freed_stand : (hs hs' : Harts) → ((n : ℕ) → Both StandsAs (slice_get hs.others n) (slice_get hs'.others n)) → (h : ℕ) → h ≢ 0 → Both StandsAs (hart_at h hs) (hart_at h (committed hs'))
freed_stand hs hs' s zero ne = absurd (ne refl)
freed_stand hs hs' s (suc n) ne =
    both_then StandsAs StandsAs StandsAs (λ o p q f g stop h. g stop (f stop h)) (slice_get hs.others n) (slice_get hs'.others n) (slice_get (map freed hs'.others) n) (s n) (all_freed hs'.others n)

pub refused_committed : (x : Beside) (hs hs' : Harts) → Refused 0 x hs hs' → Refused 0 x hs (committed hs')
refused_committed x hs hs' r = record { more = r.more; written = r.written; either = by_either r.either }
  where
    by_either : ((r.more ≡ []) × SameCounts x) ⊎ WroteIn 0 x hs hs' r.more → ((r.more ≡ []) × SameCounts x) ⊎ WroteIn 0 x hs (committed hs') r.more
    by_either (inl e) = inl e
    by_either (inr w) = inr (record { wrote = wrote_committed hs hs' r.more w.wrote; own = w.own; others = freed_stand hs hs' (λ n. w.others (suc n) (λ e. absurd (cc))) })

pub reaches_committed : (image : Fields) (actions : List Action) (bytes : ℕ → List ℕ) (x : Beside) (was mid is : Group) (hs hs' : Harts) → Reaches image actions 0 bytes x was mid hs hs' →
    ((after : ℕ → List ℕ) → Shows image actions after mid hs' → Shows image actions after is (committed hs')) → is.leader ≡ mid.leader → Pairs (λ n. IsFreed) mid.others.items is.others.items →
    Reaches image actions 0 bytes x was is hs (committed hs')
reaches_committed image actions bytes x was mid is hs hs' r shows same frees = record {
  rest = r.rest;
  left_is = r.left_is;
  shows = λ after own rest. shows after (r.shows after own rest);
  more = r.more;
  wrote = wrote_committed hs hs' r.more r.wrote;
  written = r.written;
  steps = r.steps;
  few = r.few;
  counted = (let s = sum_same asked_by freed (λ o. refl) hs'.others in ap (λ k. asked_by hs'.leader + k) s) ∙ r.counted;
  way_is = r.way_is;
  own = subst (λ seat. Fares x was.leader seat) (sym same) r.own;
  others = others;
}
  where
    others : (h : ℕ) → h ≢ 0 → Both SameStop (seat_at h was) (seat_at h is)
    others zero ne = absurd (ne refl)
    others (suc n) ne = both_then SameStop IsFreed SameStop (λ s t u p q. q.stop ∙ p) (slice_get was.others.items n) (slice_get mid.others.items n) (slice_get is.others.items n) (r.others (suc n) ne) (frees n)

-- the bytes that are left behind a turn of hart 0
abbrev left_now : (rest : List ℕ) (bytes : ℕ → List ℕ) → ℕ → List ℕ
left_now rest bytes zero = rest
left_now rest bytes (suc n) = bytes (suc n)

acts_stand : (hs : Harts) (a : Act) (m : Move) (f : Bool) (n : ℕ) → Both StandsAs (slice_get hs.others n) (slice_get (leader_acts hs a m f).others n)
acts_stand hs a m false n = all_shared m.store hs.others n
acts_stand hs a m true n = all_stay (slice_get hs.others n)

pub note_refused : (image : Fields) (actions : List Action) (bytes : ℕ → List ℕ) (x : Beside) (was mid : Group) (hs : Harts) (a : Act) (m : Move)
    (f : Bool) → Shows image actions bytes was hs → was.leader.stop ≡ None → Reaches image actions 0 bytes x was mid hs (leader_acts hs a m f) →
    Refused 0 x hs (committed (leader_acts hs a m f))
note_refused image actions bytes x was mid hs a m f shown on r = record {
  more = r.more;
  written = r.written;
  either = inr (record { wrote = wrote_committed hs (leader_acts hs a m f) r.more r.wrote; own = fares r.own; others = freed_stand hs (leader_acts hs a m f) (acts_stand hs a m f) });
}
  where
    kept : (h : ℕ) → h ≢ 0 → left_now r.rest bytes h ≡ bytes h
    kept zero ne = absurd (ne refl)
    kept (suc n) ne = refl

    seat : IsSeat image (leader_acts hs a m f).commits 0 r.rest mid.leader (leader_acts hs a m f).leader
    seat = (r.shows (left_now r.rest bytes) refl kept).leader

    unfailed : hs.leader.failed ≡ false
    unfailed = not_failed 0 was.leader (bytes 0) hs.leader shown.leader.sits on

    fares : Fares x was.leader mid.leader → FaresBy x hs.leader (leader_acts hs a m f).leader
    fares (inl same) = fares_none x hs.leader (leader_acts hs a m f).leader unfailed (not_failed 0 mid.leader r.rest (leader_acts hs a m f).leader seat.sits (same.0 ∙ on)) same.1
    fares (inr went) = fares_by image (leader_acts hs a m f).commits 0 r.rest x mid.leader hs.leader (leader_acts hs a m f).leader unfailed seat went.1

-- ---- hart 0 waits

pub shows_waits : (image : Fields) (actions : List Action) (bytes : ℕ → List ℕ) (group : Group) (hs : Harts) → Shows image actions bytes group hs
    → Shows image actions bytes (record group { leader = record group.leader { waited = true }; wanted = true }) (leader_waits hs)
shows_waits image actions bytes group hs h = record {
  leader = record {
    same_image = h.leader.same_image;
    sits = let s = h.leader.sits in record { engine = s.engine; state = s.state; mode = s.mode; waited = refl; failed = s.failed; count = s.count; halts = s.halts; before = s.before };
    took = h.leader.took;
  };
  others = h.others;
  actions_are = h.actions_are;
  wanted = refl;
  under = h.under;
  commits = h.commits;
}

output_waits : (h : ℕ) (hs : Harts) → output h (leader_waits hs) ≡ output h hs
output_waits zero hs = refl
output_waits (suc n) hs = refl

pub reaches_waits : (image : Fields) (actions : List Action) (bytes : ℕ → List ℕ) (x : Beside) (was is : Group) (hs : Harts) → x.left ≡ Some (bytes 0)
    → x.new_written ≡ x.old_written → x.new_way ≡ x.old_way → SameCounts x → Shows image actions bytes is (leader_waits hs) →
    is.leader.stop ≡ was.leader.stop → is.others ≡ was.others → Reaches image actions 0 bytes x was is hs (leader_waits hs)
reaches_waits image actions bytes x was is hs left written way counts shows stop others = reaches_quiet image actions 0 bytes x was is hs (leader_waits hs) 0 (record {
  few = omega arith;
  left_is = left;
  same_written = written;
  same_counts = counts;
  way_is = way ∙ way_none x.old_way 0 refl;
  counted = omega arith;
  same_output = λ h. output_waits h hs;
  shows = shows;
  stops = stops;
})
  where
    same : (p : Option Seat) → Both (λ (s s' : Seat). s'.stop ≡ s.stop) p p
    same None = tt
    same (Some s) = refl

    stops : SameStops was is
    stops zero = stop
    stops (suc n) = subst (λ v. Both (λ (s s' : Seat). s'.stop ≡ s.stop) (slice_get was.others.items n) (slice_get v.items n)) (sym others) (same (slice_get was.others.items n))

-- ---- which of them

-- what the code has tested is what the definition tests
pub commit_is : (p : Place) (action : Action) (actions : List Action) (k : ℕ) (hs : Harts) (b : Bool) → is_commit (place_as p) (act_of action) ≡ b
    → place_as p ≡ harts.place hs.leader.state 0 → act_of action ≡ next_act (map act_of (drop k actions)) → hs.actions ≡ map act_of (drop k actions) →
    is_commit (move hs.leader.state (next_act hs.actions) hs.under 0).place (next_act hs.actions) ≡ b
commit_is p action actions k hs b e at act are =
    ap (λ q. is_commit q (next_act hs.actions)) (move_place hs.leader.state (next_act hs.actions) hs.under ∙ sym at) ∙ ap (is_commit (place_as p)) (ap next_act are ∙ sym act) ∙ e

pub lead_plain : (hs : Harts) (a : Act) (m : Move) (f : Bool) → is_commit m.place a ≡ false → IsDevice m f → leader_by hs a m f ≡ leader_acts hs a m f
lead_plain hs a m false e d = ap (λ c. if c then (if all_away hs.others then leader_commits hs a m else leader_waits hs) else leader_goes hs a m) e
lead_plain hs a m true e d =
    ap (λ c. if c then (if all_away hs.others then leader_commits hs a m else leader_waits hs) else (if m.outside then record hs { leader = fails hs.leader } else leader_goes hs a m)) e
    ∙ ap (λ c. if c then record hs { leader = fails hs.leader } else leader_goes hs a m) (d refl).0

pub lead_waits : (hs : Harts) (a : Act) (m : Move) (f : Bool) → is_commit m.place a ≡ true → all_away hs.others ≡ false → leader_by hs a m f ≡ leader_waits hs
lead_waits hs a m f e away =
    ap (λ c. if c then (if all_away hs.others then leader_commits hs a m else leader_waits hs) else (if f && m.outside then record hs { leader = fails hs.leader } else leader_goes hs a m)) e
    ∙ ap (λ c. if c then leader_commits hs a m else leader_waits hs) away

pub lead_commits : (hs : Harts) (a : Act) (m : Move) (f : Bool) → is_commit m.place a ≡ true → all_away hs.others ≡ true → IsDevice m f → leader_by hs a m f ≡ committed (leader_acts hs a m f)
lead_commits hs a m true e away d = absurd (let c : false ≡ true = sym (ap (λ p. is_commit p a) (d refl).1) ∙ e in cc)
lead_commits hs a m false e away d =
    ap (λ c. if c then (if all_away hs.others then leader_commits hs a m else leader_waits hs) else leader_goes hs a m) e
    ∙ ap (λ c. if c then leader_commits hs a m else leader_waits hs) away

-- the commit is noted, or there is no memory for that
pub lead_noted : {T E : Type 0} (image : Fields) (actions : List Action) (bytes : ℕ → List ℕ) (x : Beside) (was mid is : Group) (hs : Harts) (a : Act)
    (m : Move) → Shows image actions bytes was hs → was.leader.stop ≡ None
    → ((f : Bool) × IsDevice m f × Reaches image actions 0 bytes x was mid hs (leader_acts hs a m f)) → is_commit m.place a ≡ true → all_away hs.others ≡ true →
    (r : Result T E) → OnOk r ((image : Fields) (actions : List Action) (bytes : ℕ → List ℕ) (hs : Harts) → Shows image actions bytes mid hs
    → Shows image actions bytes is (committed hs)) → is.leader ≡ mid.leader → OnOk r (Pairs (λ n. IsFreed) mid.others.items is.others.items) →
    Turned image actions 0 bytes x was is hs MayFail (leader_by hs a m) r
lead_noted image actions bytes x was mid is hs a m shown on go commits away (Ok done) shows same frees =
    let hs1 = leader_acts hs a m go.0 in (
      go.0,
      tt,
      subst (λ hs'. Reaches image actions 0 bytes x was is hs hs') (sym (lead_commits hs a m go.0 commits away go.1))
          (reaches_committed image actions bytes x was mid is hs hs1 go.2 (λ after h. shows image actions after hs1 h) same frees),
    )
lead_noted image actions bytes x was mid is hs a m shown on go commits away (Err error) shows same frees =
    (go.0, tt, subst (λ hs'. Refused 0 x hs hs') (sym (lead_commits hs a m go.0 commits away go.1)) (note_refused image actions bytes x was mid hs a m go.0 shown on go.2))

pub lead_refused : (x : Beside) (hs : Harts) (a : Act) (m : Move) → ((f : Bool) × IsDevice m f × Refused 0 x hs (leader_acts hs a m f))
    → is_commit m.place a ≡ true → all_away hs.others ≡ true → (f : Bool) × MayFail f × Refused 0 x hs (leader_by hs a m f)
lead_refused x hs a m go commits away = (go.0, tt, subst (λ hs'. Refused 0 x hs hs') (sym (lead_commits hs a m go.0 commits away go.1)) (refused_committed x hs (leader_acts hs a m go.0) go.2))

pub waits_ok : (image : Fields) (actions : List Action) (bytes : ℕ → List ℕ) (x : Beside) (was is : Group) (hs : Harts) (a : Act) (m : Move)
    → is_commit m.place a ≡ true → all_away hs.others ≡ false → x.left ≡ Some (bytes 0) → x.new_written ≡ x.old_written → x.new_way ≡ x.old_way
    → SameCounts x → Shows image actions bytes is (leader_waits hs) →
    is.leader.stop ≡ was.leader.stop → is.others ≡ was.others → (f : Bool) × MayFail f × Reaches image actions 0 bytes x was is hs (leader_by hs a m f)
waits_ok image actions bytes x was is hs a m test away left written way counts shows stop others =
    (false, tt, subst (λ hs'. Reaches image actions 0 bytes x was is hs hs') (sym (lead_waits hs a m false test away)) (reaches_waits image actions bytes x was is hs left written way counts shows stop others))
