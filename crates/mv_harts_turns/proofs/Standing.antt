-- How harts stand to their devices.
use Rattle.std.proofs.Common.{◌≡◌, ℕ, zero, suc, Bool, true, false, not, ◌&&◌, if◌then◌else◌, List, map, slice_get, Option, Some, None, option_map, refl, sym, ap, ◌∙◌, subst}
use Rattle.std.proofs.lemmas.Option.{slice_get-map}
use Rattle.std.proofs.Math.Bool.{and-false}
use Rattle.mv_bindings.specs.declared.action.Action.{Action}
use Rattle.mv_bindings.specs.declared.binding.Binding.{Binding}
use Rattle.mv_image.specs.Spelling.{Fields}
use Rattle.mv_machine.specs.declared.machine.Stopped.{Stopped}
use Rattle.mv_machine.specs.declared.machine.Stopped.TheVariants as answer
use Rattle.mv_machine.specs.Runs.{is_going}
use Rattle.mv_harts_runs.specs.Harts.{Hart, Harts, Store, is_on, shared, shared_room, freed}
use Rattle.mv_harts_one.specs.declared.seat.Seat.{Seat}
use Rattle.mv_harts_one.specs.Seats.{has_failed}
use Rattle.mv_harts_turns.specs.Pairs.{Both}
use Rattle.mv_harts_turns.specs.declared.group.Group.{Group}
use Rattle.mv_harts_turns.specs.Groups.{IsSeat, Shows, Beside, SameCounts, Counts, CountsBy, Counted, FaresBy, HasStop, StandsAs, hart_at, seat_at}
use Rattle.mv_harts_turns.specs.Runs.{Outside, FaultsOf, stands, read_failed, write_failed, FaultsOfAll, Ran, bytes_of, harts_of}
use Rattle.mv_harts_turns.proofs.Places.{both_left, both_same}

-- ---- what leaves a hart as it stands

stays : (o : Hart) → StandsAs o o
stays o stop h = h

pub all_stay : (p : Option Hart) → Both StandsAs p p
all_stay p = both_same StandsAs stays p

pub shared_failed : (st : Option Store) (o : Hart) → (shared st o).failed ≡ o.failed
shared_failed st o = by_on (is_on o)
  where
    by_on : (b : Bool) → (if b then record o { state = record o.state { room = shared_room st o.state.room } } else o).failed ≡ o.failed
    by_on true = refl
    by_on false = refl

-- a hart of which a read or a write failed takes no store
pub shared_stands : (st : Option Store) (o : Hart) → StandsAs o (shared st o)
shared_stands st o = by_stop
  where
    kept : (stop : Option Stopped) → o.failed ≡ true → HasStop stop o → HasStop stop (shared st o)
    kept stop e h =
        let off : is_on o ≡ false = ap (λ b. is_going o.state.stop && not b) e ∙ and-false (is_going o.state.stop) in
        subst (HasStop stop) (sym (ap (λ b. if b then record o { state = record o.state { room = shared_room st o.state.room } } else o) off)) h

    by_stop : (stop : Option Stopped) → HasStop stop o → HasStop stop (shared st o)
    by_stop None h = (shared_failed st o ∙ h.0, tt)
    by_stop (Some (answer.Ended status)) h = (shared_failed st o ∙ h.0, tt)
    by_stop (Some (answer.Trapped code)) h = (shared_failed st o ∙ h.0, tt)
    by_stop (Some answer.Steps) h = (shared_failed st o ∙ h.0, tt)
    by_stop (Some answer.InputFault) h = kept (Some answer.InputFault) h.0 h
    by_stop (Some answer.OutputFault) h = kept (Some answer.OutputFault) h.0 h
    by_stop (Some (answer.Fault pc why)) h = (shared_failed st o ∙ h.0, tt)
    by_stop (Some answer.Memory) h = (shared_failed st o ∙ h.0, tt)

by_map : (f : Hart → Hart) → ((o : Hart) → StandsAs o (f o)) → (p : Option Hart) → Both StandsAs p (option_map f p)
by_map f h None = tt
by_map f h (Some o) = h o

map_stands : (f : Hart → Hart) → ((o : Hart) → StandsAs o (f o)) → (os : List Hart) (n : ℕ) → Both StandsAs (slice_get os n) (slice_get (map f os) n)
map_stands f h os n = subst (λ p. Both StandsAs (slice_get os n) p) (sym (slice_get-map f os n)) (by_map f h (slice_get os n))

pub option_shared : (st : Option Store) (p : Option Hart) → Both StandsAs p (option_map (shared st) p)
option_shared st p = by_map (shared st) (shared_stands st) p

pub all_shared : (st : Option Store) (os : List Hart) (n : ℕ) → Both StandsAs (slice_get os n) (slice_get (map (shared st) os) n)
all_shared st os n = map_stands (shared st) (shared_stands st) os n

pub all_freed : (os : List Hart) (n : ℕ) → Both StandsAs (slice_get os n) (slice_get (map freed os) n)
all_freed os n = map_stands freed (λ o stop h. h) os n

-- ---- the counts of a hart that stands so

-- no device of it has failed
pub counts_unfailed : (stop : Option Stopped) (a b a' b' : ℕ) → has_failed stop ≡ false → Counts stop a b a' b' → (b ≡ a) × (b' ≡ a')
counts_unfailed None a b a' b' e h = (h.reading, h.writing)
counts_unfailed (Some (answer.Ended status)) a b a' b' e h = (h.reading, h.writing)
counts_unfailed (Some (answer.Trapped code)) a b a' b' e h = (h.reading, h.writing)
counts_unfailed (Some answer.Steps) a b a' b' e h = (h.reading, h.writing)
counts_unfailed (Some answer.InputFault) a b a' b' e h = absurd (cc)
counts_unfailed (Some answer.OutputFault) a b a' b' e h = absurd (cc)
counts_unfailed (Some (answer.Fault pc why)) a b a' b' e h = (h.reading, h.writing)
counts_unfailed (Some answer.Memory) a b a' b' e h = (h.reading, h.writing)

-- and none failed in its turn
pub counts_none : (a b a' b' : ℕ) → b ≡ a → b' ≡ a' → Counts None a b a' b'
counts_none a b a' b' e f = record { input = λ s. absurd (cc); output = λ s. absurd (cc); reading = e; writing = f }

-- so it fares in a turn at which no device failed
pub fares_none : (x : Beside) (was is : Hart) → was.failed ≡ false → is.failed ≡ false → SameCounts x → FaresBy x was is
fares_none x was is on still same = (on, record { stop = None; has_stop = (still, tt); counts = counts_none x.old_inputs x.new_inputs x.old_outputs x.new_outputs same.0 same.1 })

-- and in one behind which it is that seat
pub fares_by : (image : Fields) (commits : List (List Binding)) (number : ℕ) (bytes : List ℕ) (x : Beside) (seat : Seat) (was is : Hart)
    → was.failed ≡ false → IsSeat image commits number bytes seat is → Counted x seat.stop → FaresBy x was is
fares_by image commits number bytes x seat was is on s counts = (on, record { stop = seat.stop; has_stop = (s.sits.failed, s.sits.before); counts = counts })

-- in terms of the hart alone
told : (h : ℕ) (was is : Outside) (o : Hart) (stop : Option Stopped) → HasStop stop o → Counts stop (was.inputs h) (is.inputs h) (was.outputs h) (is.outputs h) → FaultsOf h was is o
told h was is o None s c = stands s.0 c.reading c.writing
told h was is o (Some (answer.Ended status)) s c = stands s.0 c.reading c.writing
told h was is o (Some (answer.Trapped code)) s c = stands s.0 c.reading c.writing
told h was is o (Some answer.Steps) s c = stands s.0 c.reading c.writing
told h was is o (Some answer.InputFault) s c = read_failed s.0 s.1 (c.input refl) c.reading c.writing
told h was is o (Some answer.OutputFault) s c = write_failed s.0 s.1 (c.output refl) c.writing c.reading
told h was is o (Some (answer.Fault pc why)) s c = stands s.0 c.reading c.writing
told h was is o (Some answer.Memory) s c = stands s.0 c.reading c.writing

-- the counts of all harts of a run
abbrev pub CountsOfHart : (h : ℕ) (was is : Outside) → Hart → Type 0
CountsOfHart h was is o = CountsBy o (was.inputs h) (is.inputs h) (was.outputs h) (is.outputs h)

abbrev pub CountsOfAll : (was is : Outside) → Harts → Type 0
CountsOfAll was is hs = (h : ℕ) (o : Hart) → hart_at h hs ≡ Some o → CountsOfHart h was is o

pub faults_told : (was is : Outside) (hs : Harts) → CountsOfAll was is hs → FaultsOfAll was is hs
faults_told was is hs c h o at = let k = c h o at in told h was is o k.stop k.has_stop k.counts

-- a hart of a group stands as its seat says
stands_at : (image : Fields) (actions : List Action) (bytes : ℕ → List ℕ) (group : Group) (hs : Harts) → Shows image actions bytes group hs
    → (h : ℕ) (o : Hart) → hart_at h hs ≡ Some o → (seat : Seat) × (seat_at h group ≡ Some seat) × HasStop seat.stop o
stands_at image actions bytes group hs s zero o e =
    let same : hs.leader ≡ o = cc in
    (group.leader, refl, subst (HasStop group.leader.stop) same (s.leader.sits.failed, s.leader.sits.before))
stands_at image actions bytes group hs s (suc n) o e =
    let at = both_left (IsSeat image hs.commits (suc n) (bytes (suc n))) (slice_get group.others.items n) (slice_get hs.others n) o e (s.others n) in
    (at.0, at.1, (at.2.sits.failed, at.2.sits.before))

-- so the counts are by how each hart stands
pub ran_counts : (image : Fields) (actions : List Action) (count : ℕ) (schedule : List ℕ) (was is : Outside) (group : Group)
    → (r : Ran image actions count schedule was is group) → CountsOfAll was is (harts_of image actions count was schedule r.failing)
ran_counts image actions count schedule was is group r h o at =
    let s = stands_at image actions (bytes_of is) group (harts_of image actions count was schedule r.failing) r.shows h o at in
    record { stop = s.0.stop; has_stop = s.2; counts = r.counts h s.0 s.1 }
