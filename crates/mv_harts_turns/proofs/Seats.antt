-- Seats and harts.
use Rattle.std.proofs.Common.{◌≡◌, ℕ, suc, Bool, true, false, not, ◌&&◌, ◌||◌, if◌then◌else◌, List, [], ◌∷◌, ◌++◌, Option, Some, None, is_some, refl, sym, ap, ◌∙◌, subst}
use Rattle.std.proofs.Math.Bool.{not-not}
use Rattle.mv_bindings.specs.declared.binding.Binding.{Binding}
use Rattle.mv_bindings.specs.Acts.{Act}
use Rattle.mv_image.specs.Spelling.{Fields}
use Rattle.mv_num.proofs.Lists.{slice_get_left}
use Rattle.mv_machine.specs.declared.machine.Stopped.{Stopped}
use Rattle.mv_machine.specs.declared.machine.Stopped.TheVariants as answer
use Rattle.mv_machine.specs.Runs.{State, is_going}
use Rattle.mv_harts_runs.specs.Harts as harts
use Rattle.mv_harts_runs.specs.Harts.{Hart, Store, is_on, is_away, all_away, shared, shared_room}
use Rattle.mv_harts_one.specs.declared.seat.Seat.{Seat}
use Rattle.mv_harts_one.specs.declared.seat.Mode.{Mode}
use Rattle.mv_harts_one.specs.declared.seat.Mode.TheVariants as mode
use Rattle.mv_harts_one.specs.declared.seat.Taken.{Taken}
use Rattle.mv_harts_one.specs.declared.seat.Taken.TheVariants as taken
use Rattle.mv_harts_one.specs.Seats.{Sits, IsTaken, IsHalt, stop_of, has_failed, mode_of}
use Rattle.std.specs.List.{list_all}
use Rattle.mv_harts_turns.specs.Pairs.{Pairs}
use Rattle.mv_harts_turns.specs.Groups.{AreTaken, IsSeat, asked_by, is_seat_away, is_parked}
use Rattle.mv_harts_turns.specs.Polls.{IsNoted}

-- ---- what was taken

taken_by_more : (commits more : List (List Binding)) (t : Taken) (a : Act) → IsTaken commits t a → IsTaken (commits ++ more) t a
taken_by_more commits more taken.Skip a h = h
taken_by_more commits more (taken.Flip s v) a h = h
taken_by_more commits more (taken.Adopt c) a h = (h.0, slice_get_left commits more c h.0 h.1, h.2)

pub taken_more : (commits more : List (List Binding)) (ts : List Taken) (acts : List Act) → AreTaken commits ts acts → AreTaken (commits ++ more) ts acts
taken_more commits more [] acts h = h
taken_more commits more (t ∷ ts) [] h = h
taken_more commits more (t ∷ ts) (a ∷ acts) h = (taken_by_more commits more t a h.0, taken_more commits more ts acts h.1)

pub taken_append : (commits : List (List Binding)) (ts : List Taken) (acts : List Act) (t : Taken) (a : Act) → AreTaken commits ts acts → IsTaken commits t a → AreTaken commits (ts ++ t ∷ []) (acts ++ a ∷ [])
taken_append commits [] acts t a h one = subst (λ l. AreTaken commits (t ∷ []) (l ++ a ∷ [])) (sym h) (one, refl)
taken_append commits (u ∷ ts) [] t a h one = absurd h
taken_append commits (u ∷ ts) (b ∷ acts) t a h one = (h.0, taken_append commits ts acts t a h.1 one)

pub noted : (commits : List (List Binding)) (t : Taken) (a : Act) → IsNoted t a → IsTaken commits t a
noted commits taken.Skip a h = h
noted commits (taken.Flip s v) a h = h
noted commits (taken.Adopt c) a h = absurd h

-- ---- whether a hart has ended

on_by : (stop : Option Stopped) → IsHalt stop → (is_going (stop_of stop) && not (has_failed stop)) ≡ not (is_some stop)
on_by None h = refl
on_by (Some (answer.Ended status)) h = refl
on_by (Some (answer.Trapped code)) h = refl
on_by (Some answer.Steps) h = absurd h
on_by (Some answer.InputFault) h = refl
on_by (Some answer.OutputFault) h = refl
on_by (Some (answer.Fault pc why)) h = refl
on_by (Some answer.Memory) h = absurd h

stop_is : (n : ℕ) (seat : Seat) (bytes : List ℕ) (o : Hart) → Sits n seat bytes o → o.state.stop ≡ stop_of seat.stop
stop_is n seat bytes o h = ap (λ (s : State). s.stop) h.state

pub on_is : (n : ℕ) (seat : Seat) (bytes : List ℕ) (o : Hart) → Sits n seat bytes o → is_on o ≡ not (is_some seat.stop)
on_is n seat bytes o h = ap (λ stop. is_going stop && not o.failed) (stop_is n seat bytes o h) ∙ ap (λ b. is_going (stop_of seat.stop) && not b) h.failed ∙ on_by seat.stop h.halts

pub on_none : (n : ℕ) (seat : Seat) (bytes : List ℕ) (o : Hart) → Sits n seat bytes o → seat.stop ≡ None → is_on o ≡ true
on_none n seat bytes o h e = on_is n seat bytes o h ∙ ap (λ stop. not (is_some stop)) e

none_by : (stop : Option Stopped) → not (is_some stop) ≡ true → stop ≡ None
none_by None e = refl
none_by (Some stopped) e = absurd (cc)

pub none_on : (n : ℕ) (seat : Seat) (bytes : List ℕ) (o : Hart) → Sits n seat bytes o → is_on o ≡ true → seat.stop ≡ None
none_on n seat bytes o h e = none_by seat.stop (sym (on_is n seat bytes o h) ∙ e)

pub not_failed : (n : ℕ) (seat : Seat) (bytes : List ℕ) (o : Hart) → Sits n seat bytes o → seat.stop ≡ None → o.failed ≡ false
not_failed n seat bytes o h e = h.failed ∙ ap has_failed e

parked_is : (m : Mode) → harts.is_parked (mode_of m) ≡ is_parked m
parked_is mode.Runs = refl
parked_is mode.Parked = refl
parked_is mode.Freed = refl

pub away_is : (n : ℕ) (seat : Seat) (bytes : List ℕ) (o : Hart) → Sits n seat bytes o → is_seat_away seat ≡ is_away o
away_is n seat bytes o h =
    let on : not (is_on o) ≡ is_some seat.stop = ap not (on_is n seat bytes o h) ∙ not-not (is_some seat.stop) in
    let parked : harts.is_parked o.mode ≡ is_parked seat.mode = ap harts.is_parked h.mode ∙ parked_is seat.mode in
    sym (ap (λ b. b || harts.is_parked o.mode) on ∙ ap (λ b. is_some seat.stop || b) parked)

pub all_away_is : (image : Fields) (commits : List (List Binding)) (number : ℕ → ℕ) (bytes : ℕ → List ℕ) (seats : List Seat) (os : List Hart) →
    Pairs (λ n. IsSeat image commits (number n) (bytes n)) seats os → list_all is_seat_away seats ≡ all_away os
all_away_is image commits number bytes [] [] h = refl
all_away_is image commits number bytes [] (o ∷ os) h = absurd (h 0)
all_away_is image commits number bytes (seat ∷ seats) [] h = absurd (h 0)
all_away_is image commits number bytes (seat ∷ seats) (o ∷ os) h =
    ap (λ b. b && list_all is_seat_away seats) (away_is (number 0) seat (bytes 0) o (h 0).sits)
    ∙ ap (λ b. is_away o && b) (all_away_is image commits (λ n. number (suc n)) (λ n. bytes (suc n)) seats os (λ n. h (suc n)))

-- ---- what a store of another hart, and a commit, leave as it was

pub shared_taken : (st : Option Store) (o : Hart) → (shared st o).taken ≡ o.taken
shared_taken st o = by_on (is_on o)
  where
    by_on : (b : Bool) → (if b then record o { state = record o.state { room = shared_room st o.state.room } } else o).taken ≡ o.taken
    by_on true = refl
    by_on false = refl

pub shared_output : (st : Option Store) (o : Hart) → (shared st o).state.output ≡ o.state.output
shared_output st o = by_on (is_on o)
  where
    by_on : (b : Bool) → (if b then record o { state = record o.state { room = shared_room st o.state.room } } else o).state.output ≡ o.state.output
    by_on true = refl
    by_on false = refl

pub shared_asked : (st : Option Store) (o : Hart) → asked_by (shared st o) ≡ asked_by o
shared_asked st o = by_on (is_on o)
  where
    by_on : (b : Bool) → asked_by (if b then record o { state = record o.state { room = shared_room st o.state.room } } else o) ≡ asked_by o
    by_on true = refl
    by_on false = refl

-- ---- seats that changed in part

pub seat_noted : (image : Fields) (commits : List (List Binding)) (n : ℕ) (bytes : List ℕ) (seat : Seat) (o : Hart) (ts : List Taken) (acts : List Act) → IsSeat image commits n bytes seat o → AreTaken commits ts acts →
    IsSeat image commits n bytes (record seat { taken = ts }) (record o { taken = acts })
seat_noted image commits n bytes seat o ts acts h took = record {
  same_image = h.same_image;
  sits = let s = h.sits in record { engine = s.engine; state = s.state; mode = s.mode; waited = s.waited; failed = s.failed; count = s.count; halts = s.halts; before = s.before };
  took = took;
}

pub seat_more : (image : Fields) (commits more : List (List Binding)) (n : ℕ) (bytes : List ℕ) (seat : Seat) (o : Hart) → IsSeat image commits n bytes seat o → IsSeat image (commits ++ more) n bytes seat o
seat_more image commits more n bytes seat o h = record { same_image = h.same_image; sits = h.sits; took = taken_more commits more seat.taken o.taken h.took }
