-- A turn of any hart.
use Rattle.std.proofs.Common.{◌≡◌, ℕ, suc, Bool, true, false, not, if◌then◌else◌, List, slice_get, Option, Some, None, is_some, Result, refl, sym, ap, ◌∙◌, arith, subst}
use Rattle.mv_bindings.specs.declared.action.Action.{Action}
use Rattle.mv_image.specs.Spelling.{Fields}
use Rattle.mv_machine.specs.declared.machine.Stopped.{Stopped}
use Rattle.mv_machine.specs.Runs.{choices_at}
use Rattle.mv_harts_runs.specs.Harts.{Hart, Harts, is_on, turn_of, leader_turn, other_turn, other_at}
use Rattle.mv_harts_one.specs.declared.seat.Seat.{Seat}
use Rattle.mv_harts_turns.specs.declared.group.Group.{Group}
use Rattle.mv_harts_turns.specs.Groups.{IsSeat, Shows, Beside, SameCounts, Reaches, MayFail, FetchesAre, Turned, seat_at}
use Rattle.mv_harts_turns.proofs.Places.{both_same, both_right}
use Rattle.mv_harts_turns.proofs.Seats.{on_is, on_none}
use Rattle.mv_harts_turns.proofs.Reaching.{reaches_quiet, turned_map, way_none}

pub leader_on : (hs : Harts) (f : Bool) → is_on hs.leader ≡ true → leader_turn hs 0 f ≡ turn_of hs 0 0 f
unfolding turn_of
leader_on hs f e = sym (ap (λ b. if b then leader_turn hs 0 f else hs) e)

pub leader_off : (hs : Harts) (f : Bool) → is_on hs.leader ≡ false → hs ≡ turn_of hs 0 0 f
unfolding turn_of
leader_off hs f e = sym (ap (λ b. if b then leader_turn hs 0 f else hs) e)

pub other_on : (hs : Harts) (n : ℕ) (o : Hart) (f : Bool) → slice_get hs.others n ≡ Some o → is_on o ≡ true → other_at hs n o 0 f ≡ turn_of hs (suc n) 0 f
unfolding turn_of
other_on hs n o f there e = sym (ap (λ p. other_turn hs n p 0 f) there ∙ ap (λ b. if b then other_at hs n o 0 f else hs) e)

pub other_off : (hs : Harts) (n : ℕ) (o : Hart) (f : Bool) → slice_get hs.others n ≡ Some o → is_on o ≡ false → hs ≡ turn_of hs (suc n) 0 f
unfolding turn_of
other_off hs n o f there e = sym (ap (λ p. other_turn hs n p 0 f) there ∙ ap (λ b. if b then other_at hs n o 0 f else hs) e)

-- the turn of a hart that has ended
pub reaches_off : (image : Fields) (actions : List Action) (hart : ℕ) (bytes : ℕ → List ℕ) (x : Beside) (group : Group) (hs : Harts)
    → x.left ≡ Some (bytes hart) → x.new_written ≡ x.old_written → x.new_way ≡ x.old_way → SameCounts x → Shows image actions bytes group hs
    → Reaches image actions hart bytes x group group hs hs
reaches_off image actions hart bytes x group hs left written way counts h = reaches_quiet image actions hart bytes x group group hs hs 0 (record {
  few = omega arith;
  left_is = left;
  same_written = written;
  same_counts = counts;
  way_is = way ∙ way_none x.old_way 0 refl;
  counted = omega arith;
  same_output = λ j. refl;
  shows = h;
  stops = λ j. both_same (λ (s s' : Seat). s'.stop ≡ s.stop) (λ s. refl) (seat_at j group);
})

-- ---- by the number of the hart

none_by : (stop : Option Stopped) → is_some stop ≡ false → stop ≡ None
none_by None e = refl
none_by (Some stopped) e = absurd (cc)

pub stop_none : (seat : Seat) (b : Bool) → b ≡ is_some seat.stop → b ≡ false → seat.stop ≡ None
stop_none seat b e f = none_by seat.stop (sym e ∙ f)

module _ (image : Fields) (actions : List Action) (bytes : ℕ → List ℕ) (x : Beside) (was : Group) (hs : Harts) (hart : ℕ) (shown : Shows image actions bytes was hs) where
  pub off_zero : hart ≡ 0 → x.left ≡ Some (bytes hart) → x.new_written ≡ x.old_written → x.new_way ≡ x.old_way → SameCounts x
      → is_some was.leader.stop ≡ true → (f : Bool) × MayFail f × Reaches image actions hart bytes x was was hs (turn_of hs hart 0 f)
  off_zero e left written way counts ended =
      let off : is_on hs.leader ≡ false = on_is 0 was.leader (bytes 0) hs.leader shown.leader.sits ∙ ap not ended in (
        false,
        tt,
        subst (λ h. Reaches image actions h bytes x was was hs (turn_of hs h 0 false)) (sym e)
            (subst (λ hs'. Reaches image actions 0 bytes x was was hs hs') (leader_off hs false off) (reaches_off image actions 0 bytes x was hs (left ∙ ap (λ h. Some (bytes h)) e) written way counts shown)),
      )

  pub on_zero : {T E : Type 0} (is : Group) (r : Result T E) → hart ≡ 0 → was.leader.stop ≡ None → FetchesAre hs
      → (choices_at hs.leader.state ≡ 1 → Turned image actions 0 bytes x was is hs MayFail (leader_turn hs 0) r)
      → Turned image actions hart bytes x was is hs MayFail (turn_of hs hart 0) r
  on_zero is r e stop fetches lead =
      let on : is_on hs.leader ≡ true = on_none 0 was.leader (bytes 0) hs.leader shown.leader.sits stop in
      subst (λ h. Turned image actions h bytes x was is hs MayFail (turn_of hs h 0) r) (sym e)
      (turned_map image actions 0 bytes x was is hs MayFail MayFail (leader_turn hs 0) (turn_of hs 0 0) (λ f d. (tt, leader_on hs f on)) r (lead (fetches.leader on)))

  module _ (n : ℕ) (seat : Seat) (is_hart : hart ≡ suc n) (at : slice_get was.others.items n ≡ Some seat) where
    found : (o : Hart) × (slice_get hs.others n ≡ Some o) × IsSeat image hs.commits (suc n) (bytes (suc n)) seat o
    found = both_right (IsSeat image hs.commits (suc n) (bytes (suc n))) (slice_get was.others.items n) (slice_get hs.others n) seat at (shown.others n)

    pub off_suc : x.left ≡ Some (bytes hart) → x.new_written ≡ x.old_written → x.new_way ≡ x.old_way → SameCounts x → is_some seat.stop ≡ true → (f : Bool) × MayFail f × Reaches image actions hart bytes x was was hs (turn_of hs hart 0 f)
    off_suc left written way counts ended =
        let off : is_on found.0 ≡ false = on_is (suc n) seat (bytes (suc n)) found.0 found.2.sits ∙ ap not ended in (
          false,
          tt,
          subst (λ h. Reaches image actions h bytes x was was hs (turn_of hs h 0 false)) (sym is_hart)
              (subst (λ hs'. Reaches image actions (suc n) bytes x was was hs hs') (other_off hs n found.0 false found.1 off)
              (reaches_off image actions (suc n) bytes x was hs (left ∙ ap (λ h. Some (bytes h)) is_hart) written way counts shown)),
        )

    pub on_suc : {T E : Type 0} (is : Group) (r : Result T E) → seat.stop ≡ None → FetchesAre hs
        → ((o : Hart) → slice_get hs.others n ≡ Some o → choices_at o.state ≡ 1
        → Turned image actions (suc n) bytes x was is hs MayFail (other_at hs n o 0) r)
        → Turned image actions hart bytes x was is hs MayFail (turn_of hs hart 0) r
    on_suc is r stop fetches follow =
        let on : is_on found.0 ≡ true = on_none (suc n) seat (bytes (suc n)) found.0 found.2.sits stop in
        subst (λ h. Turned image actions h bytes x was is hs MayFail (turn_of hs h 0) r) (sym is_hart)
        (turned_map image actions (suc n) bytes x was is hs MayFail MayFail (other_at hs n found.0 0) (turn_of hs (suc n) 0) (λ f d. (tt, other_on hs n found.0 f found.1 on)) r (follow found.0 found.1 (fetches.others n found.0 found.1 on)))
