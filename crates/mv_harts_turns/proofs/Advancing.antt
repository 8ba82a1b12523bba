-- A turn that just goes on.
use Rattle.std.proofs.Common.{◌≡◌, ◌≢◌, ◌⊎◌, inl, inr, ℕ, zero, suc, ◌+◌, ◌≤◌, true, false, List, map, drop, slice_get, Option, Some, None, option_map, refl, sym, ap, ◌∙◌, arith, subst}
use Rattle.std.specs.Prelude.{slice_set}
use Rattle.std.proofs.lemmas.Bool.{cases_eq}
use Rattle.mv_bindings.specs.declared.binding.Binding.{Binding}
use Rattle.mv_bindings.specs.declared.action.Action.{Action}
use Rattle.mv_bindings.specs.Acts.{Act, Skip, act_of}
use Rattle.mv_image.specs.Spelling.{Fields}
use Rattle.mv_probe.specs.Ways.{Way, way_after}
use Rattle.mv_harts_runs.specs.Harts as harts
use Rattle.mv_harts_runs.specs.Harts.{Hart, Harts, Move, is_commit, next_act, left_behind, executes, shared, leader_by, other_by, turn_of, move, is_on}
use Rattle.mv_harts_one.specs.declared.seat.Seat.{Seat}
use Rattle.mv_harts_one.specs.Seats.{Sits, is_under}
use Rattle.mv_harts_one.specs.Executions.{HasAdvanced}
use Rattle.mv_harts_one.proofs.Advancing.{unshared}
use Rattle.mv_harts_turns.specs.Pairs.{Both}
use Rattle.mv_harts_turns.specs.declared.group.Group.{Group}
use Rattle.mv_harts_turns.specs.Groups.{AreTaken, IsSeat, Shows, HaveExecuted, Beside, Advanced, Stands, SameStops, Reaches, asked_by, output, bindings_of}
use Rattle.mv_harts_turns.proofs.Places.{both_same, both_right, both_moved, both_here, pairs_one}
use Rattle.mv_harts_turns.proofs.Seats.{on_none}
use Rattle.mv_harts_turns.proofs.Reaching.{map_same, reaches_quiet}
use Rattle.mv_harts_turns.proofs.Leading.{lead_plain}
use Rattle.mv_harts_turns.proofs.Following.{stayed}
use Rattle.mv_harts_turns.proofs.Turning.{leader_on, other_on}

seat_advanced : (image : Fields) (commits : List (List Binding)) (n : ℕ) (bytes : List ℕ) (was is : Seat) (o : Hart) (act : Act) (m : Move) → is.engine.image ≡ was.engine.image → is.taken ≡ was.taken
    → HasAdvanced n o act m is bytes → IsSeat image commits n bytes was o → IsSeat image commits n bytes is (executes o act m)
seat_advanced image commits n bytes was is o act m same taken h s = record {
  same_image = same ∙ s.same_image;
  sits = h.sits;
  took = subst (λ acts. AreTaken commits is.taken acts) (sym (ap (λ p. harts.took p act o.taken) h.place)) (subst (λ ts. AreTaken commits ts o.taken) (sym taken) s.took);
}

asked_more : (o : Hart) (act : Act) (m : Move) → asked_by (executes o act m) ≡ asked_by o + 1
asked_more o act m = omega arith

way_once : (w w' : Option Way) (x : Beside) → w' ≡ option_map (λ v. way_after v 1) w → x.old_way ≡ w → x.new_way ≡ w' → x.new_way ≡ option_map (λ v. way_after v 1) x.old_way
way_once w w' x asks old new = new ∙ asks ∙ ap (option_map (λ v. way_after v 1)) (sym old)

same_seats : (p : Option Seat) → Both (λ (s s' : Seat). s'.stop ≡ s.stop) p p
same_seats p = both_same (λ (s s' : Seat). s'.stop ≡ s.stop) (λ s. refl) p

-- ---- hart 0

pub not_under : (u : Option (List Binding)) → is_under u ≡ false → u ≡ None
not_under None e = refl
not_under (Some old) e = absurd (cc)

module _ (image : Fields) (actions : List Action) (bytes : ℕ → List ℕ) (was : Group) (seat : Seat) (hs : Harts) (shown : Shows image actions bytes was hs) (stop : was.leader.stop ≡ None) (calm : was.under ≡ false) where
  abbrev act : Act
  act = next_act hs.actions

  abbrev m : Move
  m = move hs.leader.state act None 0

  abbrev goes : Harts
  goes = record hs { leader = executes hs.leader act m }

  abbrev led : Group
  led = record was { leader = seat }

  none_under : hs.under ≡ None
  none_under = not_under hs.under (shown.under ∙ calm)

  leader_is : HasAdvanced 0 hs.leader act m seat (bytes 0) → turn_of hs 0 0 false ≡ goes
  leader_is h =
      sym (leader_on hs false (on_none 0 was.leader (bytes 0) hs.leader shown.leader.sits stop))
      ∙ ap (λ u. leader_by hs act (move hs.leader.state act u 0) false) none_under
      ∙ lead_plain hs act m false (ap (λ p. is_commit p act) h.place) (λ t. absurd (cc))
      ∙ ap (λ (os : List Hart). record hs { leader = executes hs.leader act m; others = os; actions = left_behind m.place hs.actions; under = m.under }) (map_same (shared m.store) (unshared m.store h.store) hs.others)
      ∙ ap (λ p. record hs { leader = executes hs.leader act m; actions = left_behind p hs.actions; under = m.under }) h.place
      ∙ ap (λ (u : Option (List Binding)). record hs { leader = executes hs.leader act m; under = u }) (h.under ∙ sym none_under)

  same_output : HasAdvanced 0 hs.leader act m seat (bytes 0) → (h : ℕ) → output h goes ≡ output h hs
  same_output h zero = h.output
  same_output h (suc n) = refl

  same_stops : seat.stop ≡ was.leader.stop → SameStops was led
  same_stops e zero = e
  same_stops e (suc n) = same_seats (slice_get was.others.items n)

  pub leads : (hart : ℕ) → hart ≡ 0 → (w w' : Option Way) → w' ≡ option_map (λ v. way_after v 1) w → seat.engine.image ≡ was.leader.engine.image → seat.taken ≡ was.leader.taken → seat.stop ≡ was.leader.stop
      → HasAdvanced 0 hs.leader act m seat (bytes 0) → Advanced image actions hart bytes w w' was led hs
  leads hart first w w' asks same taken stops h = subst (λ k. Advanced image actions k bytes w w' was led hs) (sym first) (λ x left written old new counts.
      subst (λ hs'. Reaches image actions 0 bytes x was led hs hs') (sym (leader_is h)) (reaches_quiet image actions 0 bytes x was led hs goes 1 (record {
        few = omega arith;
        left_is = left;
        same_written = written;
        same_counts = counts;
        way_is = way_once w w' x asks old new;
        counted = let one = asked_more hs.leader act m in omega (arith, one);
        same_output = same_output h;
        shows = record {
          leader = seat_advanced image hs.commits 0 (bytes 0) was.leader seat hs.leader act m same taken h shown.leader;
          others = shown.others;
          actions_are = shown.actions_are;
          wanted = shown.wanted;
          under = shown.under;
          commits = shown.commits;
        };
        stops = same_stops stops;
      })))

-- ---- another hart

-- the seat at a place is another, and all else is the same
pub record AreBut (was is : Group) (n : ℕ) (old seat : Seat) : Type 0 where
  pub leader : is.leader ≡ was.leader
  pub at : slice_get was.others.items n ≡ Some old
  pub own : slice_get is.others.items n ≡ Some seat
  pub rest : (k : ℕ) → k ≢ n → slice_get is.others.items k ≡ slice_get was.others.items k
  pub played : is.played ≡ was.played
  pub wanted : is.wanted ≡ was.wanted
  pub under : is.under ≡ was.under
  pub commits : is.commits ≡ was.commits

module _ (image : Fields) (actions : List Action) (bytes : ℕ → List ℕ) (was is : Group) (hs : Harts) (n : ℕ) (old seat : Seat)
    (shown : Shows image actions bytes was hs) (stop : old.stop ≡ None) (b : AreBut was is n old seat) (o : Hart)
    (there : slice_get hs.others n ≡ Some o) (is_seat : IsSeat image hs.commits (suc n) (bytes (suc n)) old o) where
  is_on_now : is_on o ≡ true
  is_on_now = on_none (suc n) old (bytes (suc n)) o is_seat.sits stop

  abbrev moved : Move
  moved = move o.state Skip None 0

  abbrev next : Hart
  next = executes o Skip moved

  other_is : HasAdvanced (suc n) o Skip moved seat (bytes (suc n)) → turn_of hs (suc n) 0 false ≡ record hs { others = slice_set hs.others n next }
  other_is h =
      sym (other_on hs n o false there is_on_now)
      ∙ ap (λ p. other_by p hs n o moved false) h.place
      ∙ ap (λ (l : Hart). record hs { leader = l; others = slice_set (map (shared moved.store) hs.others) n next }) (unshared moved.store h.store hs.leader)
      ∙ ap (λ (os : List Hart). record hs { others = slice_set os n next }) (map_same (shared moved.store) (unshared moved.store h.store) hs.others)

  pub follows : (hart : ℕ) → hart ≡ suc n → (w w' : Option Way) → w' ≡ option_map (λ v. way_after v 1) w → seat.engine.image ≡ old.engine.image → seat.taken ≡ old.taken → seat.stop ≡ old.stop
      → HasAdvanced (suc n) o Skip moved seat (bytes (suc n)) → Advanced image actions hart bytes w w' was is hs
  follows hart place w w' asks same taken stops h = subst (λ k. Advanced image actions k bytes w w' was is hs) (sym place) (λ x left written old_way new_way counts.
      subst (λ hs'. Reaches image actions (suc n) bytes x was is hs hs') (sym (other_is h)) (stayed image actions bytes x was is hs n o next 1 old seat (record {
        few = omega arith;
        left_is = left;
        same_written = written;
        same_counts = counts;
        way_is = way_once w w' x asks old_way new_way;
        shown = shown;
        there = there;
        counted = asked_more o Skip moved;
        same_output = h.output;
        is_seat = seat_advanced image hs.commits (suc n) (bytes (suc n)) old seat o Skip moved same taken h is_seat;
        same_leader = b.leader;
        old_there = b.at;
        own = b.own;
        rest = b.rest;
        same_stop = stops;
        same_played = b.played;
        same_wanted = b.wanted;
        same_under = b.under;
        same_commits = b.commits;
      })))

-- ---- a group that is as it was

seat_stands : (image : Fields) (commits : List (List Binding)) (n : ℕ) (bytes : List ℕ) (was is : Seat) (o : Hart) → is.engine.image ≡ was.engine.image → is.taken ≡ was.taken
    → ((number : ℕ) (bytes : List ℕ) (o : Hart) → Sits number was bytes o → Sits number is bytes o) → IsSeat image commits n bytes was o → IsSeat image commits n bytes is o
seat_stands image commits n bytes was is o same taken sits s = record {
  same_image = same ∙ s.same_image;
  sits = sits n bytes o s.sits;
  took = subst (λ ts. AreTaken commits ts o.taken) (sym taken) s.took;
}

pub leader_stands : (was : Group) (seat : Seat) → seat.engine.image ≡ was.leader.engine.image → seat.taken ≡ was.leader.taken → seat.stop ≡ was.leader.stop
    → ((number : ℕ) (bytes : List ℕ) (o : Hart) → Sits number was.leader bytes o → Sits number seat bytes o) → Stands was (record was { leader = seat })
leader_stands was seat same taken stop sits = record { shows = shows; stops = stops }
  where
    shows : (image : Fields) (actions : List Action) (bytes : ℕ → List ℕ) (hs : Harts) → Shows image actions bytes was hs → Shows image actions bytes (record was { leader = seat }) hs
    shows image actions bytes hs h = record {
      leader = seat_stands image hs.commits 0 (bytes 0) was.leader seat hs.leader same taken sits h.leader;
      others = h.others;
      actions_are = h.actions_are;
      wanted = h.wanted;
      under = h.under;
      commits = h.commits;
    }

    stops : SameStops was (record was { leader = seat })
    stops zero = stop
    stops (suc n) = same_seats (slice_get was.others.items n)

pub other_stands : (was is : Group) (n : ℕ) (old seat : Seat) → AreBut was is n old seat → seat.engine.image ≡ old.engine.image → seat.taken ≡ old.taken → seat.stop ≡ old.stop
    → ((number : ℕ) (bytes : List ℕ) (o : Hart) → Sits number old bytes o → Sits number seat bytes o) → Stands was is
other_stands was is n old seat b same taken stop sits = record { shows = shows; stops = stops }
  where
    shows : (image : Fields) (actions : List Action) (bytes : ℕ → List ℕ) (hs : Harts) → Shows image actions bytes was hs → Shows image actions bytes is hs
    shows image actions bytes hs h =
        let o = both_right (IsSeat image hs.commits (suc n) (bytes (suc n))) (slice_get was.others.items n) (slice_get hs.others n) old b.at (h.others n) in
        record {
          leader = subst (λ s. IsSeat image hs.commits 0 (bytes 0) s hs.leader) (sym b.leader) h.leader;
          others = pairs_one (λ k. IsSeat image hs.commits (suc k) (bytes (suc k))) is.others.items hs.others n seat o.0 b.own o.1 (seat_stands image hs.commits (suc n) (bytes (suc n)) old seat o.0 same taken sits o.2)
              (λ k ne. both_moved (IsSeat image hs.commits (suc k) (bytes (suc k))) (slice_get was.others.items k) (slice_get is.others.items k) (slice_get hs.others k) (slice_get hs.others k) (b.rest k ne) refl (h.others k));
          actions_are = h.actions_are ∙ ap (λ k. map act_of (drop k actions)) (sym b.played);
          wanted = h.wanted ∙ sym b.wanted;
          under = h.under ∙ sym b.under;
          commits = h.commits ∙ ap bindings_of (sym b.commits);
        }

    stops : SameStops was is
    stops zero = ap (λ (s : Seat). s.stop) b.leader
    stops (suc k) = by_eq (cases_eq k n)
      where
        by_eq : (k ≡ n) ⊎ (k ≢ n) → Both (λ (s s' : Seat). s'.stop ≡ s.stop) (slice_get was.others.items k) (slice_get is.others.items k)
        by_eq (inl e) = both_here (λ (s s' : Seat). s'.stop ≡ s.stop) (slice_get was.others.items k) (slice_get is.others.items k) old seat (ap (slice_get was.others.items) e ∙ b.at) (ap (slice_get is.others.items) e ∙ b.own) stop
        by_eq (inr ne) = subst (λ p. Both (λ (s s' : Seat). s'.stop ≡ s.stop) (slice_get was.others.items k) p) (sym (b.rest k ne)) (same_seats (slice_get was.others.items k))

-- ---- how many instructions are executed

pub executed_leader : (was : Group) (seat : Seat) (most : ℕ) → seat.instructions ≤ was.leader.instructions + 1 → HaveExecuted was most → HaveExecuted (record was { leader = seat }) (most + 1)
executed_leader was seat most le h = record {
  leader = (let l = h.leader in omega (arith, l, le));
  others = λ k s at. (let l = h.others k s at in omega (arith, l));
}

pub executed_other : (was is : Group) (n most : ℕ) (old seat : Seat) → AreBut was is n old seat → seat.instructions ≤ old.instructions + 1 → HaveExecuted was most → HaveExecuted is (most + 1)
executed_other was is n most old seat b le h = record {
  leader = subst (λ (s : Seat). s.instructions ≤ most + 1) (sym b.leader) (let l = h.leader in omega (arith, l));
  others = λ k s at. by_eq k s at (cases_eq k n);
}
  where
    by_eq : (k : ℕ) (s : Seat) → slice_get is.others.items k ≡ Some s → (k ≡ n) ⊎ (k ≢ n) → s.instructions ≤ most + 1
    by_eq k s at (inl e) =
        let there : Some seat ≡ Some s = sym b.own ∙ ap (slice_get is.others.items) (sym e) ∙ at in
        let same : seat ≡ s = cc in
        let l = h.others n old b.at in
        subst (λ (x : Seat). x.instructions ≤ most + 1) same (omega (arith, l, le))
    by_eq k s at (inr ne) = let l = h.others k s (sym (b.rest k ne) ∙ at) in omega (arith, l)
