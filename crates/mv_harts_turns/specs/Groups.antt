-- What a group holds of a run of harts, and what a turn of it has done.
use Rattle.std.specs.Prelude.{ℕ, zero, suc, ◌≡◌, ◌≢◌, ◌⊎◌, ◌+◌, ◌<◌, ◌≤◌, ◌^◌, ◌-◌, Bool, true, false, List, [], ◌∷◌, ◌++◌, map, drop, length, slice_get, Option, Some, None, option_map, is_some, ◌||◌, Result, Ok, Err, if◌then◌else◌}
use Rattle.std.specs.List.{sum_by}
use Rattle.mv_bindings.specs.declared.binding.Binding.{Binding}
use Rattle.mv_bindings.specs.declared.action.Action.{Action}
use Rattle.mv_bindings.specs.Acts.{Act, Adopt, act_of}
use Rattle.mv_image.specs.Spelling.{Fields}
use Rattle.mv_io.specs.Outside.{CountAfter, Rose}
use Rattle.mv_patch.specs.Orders.{binding_count}
use Rattle.mv_probe.specs.Ways.{Way, way_after}
use Rattle.mv_machine.specs.declared.machine.Stopped.{Stopped}
use Rattle.mv_machine.specs.declared.machine.Stopped.TheVariants as answer
use Rattle.mv_machine.specs.Moves.{input_failed, output_failed}
use Rattle.mv_machine.specs.Runs.{choices_at, bytes_to_come}
use Rattle.mv_harts_runs.specs.Harts as harts
use Rattle.mv_harts_runs.specs.Harts.{Hart, Harts, Move, Elsewhere, is_on, told, executes, fails, leader_goes, other_goes, other_fails, others_from, shared, freed, turn_of}
use Rattle.mv_harts_one.specs.declared.seat.Seat.{Seat}
use Rattle.mv_harts_one.specs.declared.seat.Mode.{Mode}
use Rattle.mv_harts_one.specs.declared.seat.Mode.TheVariants as mode
use Rattle.mv_harts_one.specs.declared.seat.Taken.{Taken}
use Rattle.mv_harts_one.specs.declared.glance.Glance.{Glance}
use Rattle.mv_harts_one.specs.Seats.{Sits, IsTaken, IsBefore, has_failed, adopted, is_under, place_as, store_as}
use Rattle.mv_harts_one.specs.Executions.{is_into_text}
use Rattle.mv_harts_turns.specs.Pairs.{Both, Pairs}
use Rattle.mv_harts_turns.specs.declared.group.Group.{Group}
use Rattle.mv_harts_turns.specs.declared.group.Committed.{Committed}

-- what the polls of a hart took, in order
abbrev pub AreTaken : (commits : List (List Binding)) → List Taken → List Act → Type 0
AreTaken commits [] acts = acts ≡ []
AreTaken commits (t ∷ ts) [] = ⊥
AreTaken commits (t ∷ ts) (a ∷ acts) = IsTaken commits t a × AreTaken commits ts acts

-- a seat is this hart, of this image, and its source has these bytes left
pub record IsSeat (image : Fields) (commits : List (List Binding)) (number : ℕ) (bytes : List ℕ) (seat : Seat) (o : Hart) : Type 0 where
  pub same_image : seat.engine.image ≡ image
  pub sits : Sits number seat bytes o
  pub took : AreTaken commits seat.taken o.taken

-- the bindings behind each commit
abbrev pub bindings_of : List Committed → List (List Binding)
bindings_of commits = map (λ c. c.all) commits

-- a group is these harts of an image, whose sources have these bytes left; the actions that are not played are to come
pub record Shows (image : Fields) (actions : List Action) (bytes : ℕ → List ℕ) (group : Group) (hs : Harts) : Type 0 where
  pub leader : IsSeat image hs.commits 0 (bytes 0) group.leader hs.leader
  pub others : Pairs (λ n. IsSeat image hs.commits (suc n) (bytes (suc n))) group.others.items hs.others
  pub actions_are : hs.actions ≡ map act_of (drop group.played actions)
  pub wanted : hs.wanted ≡ group.wanted
  pub under : is_under hs.under ≡ group.under
  pub commits : hs.commits ≡ bindings_of group.commits

-- harts 1, 2 and so on before their first instruction
abbrev pub AreFirst : Fields → (bytes : ℕ → List ℕ) → (count : ℕ) → List Seat → Type 0
AreFirst image bytes count seats = Pairs (λ n. IsSeat image [] (suc n) (bytes (suc n))) seats (others_from 1 image (λ h. bytes_to_come (bytes h)) count)

-- ---- what a turn needs

-- Each fetch of a hart that has not ended has one choice, and what it fetches stores nothing into text but in hart 0 while its commit is under way.
pub record FetchesAre (hs : Harts) : Type 0 where
  pub leader : is_on hs.leader ≡ true → choices_at hs.leader.state ≡ 1
  pub others : (n : ℕ) (o : Hart) → slice_get hs.others n ≡ Some o → is_on o ≡ true → choices_at o.state ≡ 1
  pub leader_stores : is_on hs.leader ≡ true → hs.under ≡ None → is_into_text (told hs.leader.state 0) ≡ false
  pub stores : (n : ℕ) (o : Hart) → slice_get hs.others n ≡ Some o → is_on o ≡ true → is_into_text (told o.state 0) ≡ false

-- a hart can execute one more instruction
abbrev pub CanCount : Seat → Type 0
CanCount seat = seat.instructions + 1 < 2 ^ 64

-- each hart can
pub record CanAllCount (group : Group) : Type 0 where
  pub leader : CanCount group.leader
  pub others : (n : ℕ) (seat : Seat) → slice_get group.others.items n ≡ Some seat → CanCount seat

-- each hart has executed so many instructions at most
pub record HaveExecuted (group : Group) (most : ℕ) : Type 0 where
  pub leader : group.leader.instructions ≤ most
  pub others : (n : ℕ) (seat : Seat) → slice_get group.others.items n ≡ Some seat → seat.instructions ≤ most

-- there is a last commit, which has so many bindings
pub record IsLast (commits : List Committed) (count : ℕ) : Type 0 where
  pub some : 0 < length commits
  pub complete : (c : Committed) → slice_get commits (length commits - 1) ≡ Some c → length c.all ≡ count

-- a freed hart has bindings to adopt, one for each function and pointer switch
abbrev pub CanAdopt : List Committed → Seat → Type 0
CanAdopt commits seat = seat.stop ≡ None → seat.mode ≡ mode.Freed → IsLast commits (binding_count seat.engine.image)

-- each hart can have a turn
pub record IsReady (group : Group) : Type 0 where
  pub leader : CanCount group.leader
  pub others : (n : ℕ) (seat : Seat) → slice_get group.others.items n ≡ Some seat → CanCount seat × CanAdopt group.commits seat

-- the seat at a place has not stopped
abbrev pub IsOnAt : List Seat → (place : ℕ) → Type 0
IsOnAt seats place = (seat : Seat) → slice_get seats place ≡ Some seat → seat.stop ≡ None

-- what was seen of a hart's next instruction
pub record IsGlance (glance : Glance) (o : Hart) : Type 0 where
  pub one : choices_at o.state ≡ 1
  pub place : place_as glance.place ≡ harts.place o.state 0
  pub store : option_map store_as glance.store ≡ told o.state 0

-- a hart by its number
abbrev pub hart_at : ℕ → Harts → Option Hart
hart_at zero hs = Some hs.leader
hart_at (suc n) hs = slice_get hs.others n

-- a seat by the number of its hart
abbrev pub seat_at : ℕ → Group → Option Seat
seat_at zero group = Some group.leader
seat_at (suc n) group = slice_get group.others.items n

-- ---- what a turn does to the seats

-- a hart waits at its poll for a commit
abbrev pub is_parked : Mode → Bool
is_parked mode.Runs = false
is_parked mode.Parked = true
is_parked mode.Freed = false

-- a seat's hart has ended or is parked
abbrev pub is_seat_away : Seat → Bool
is_seat_away seat = is_some seat.stop || is_parked seat.mode

-- another hart's store
pub record TookStore (st : Option harts.Store) (was is : Seat) : Type 0 where
  pub sits : (number : ℕ) (bytes : List ℕ) (o : Hart) → Sits number was bytes o → Sits number is bytes (shared st o)
  pub image : is.engine.image ≡ was.engine.image
  pub taken : is.taken ≡ was.taken
  pub stop : is.stop ≡ was.stop

-- a store in the memories of the harts beside hart 0, but of the hart with that number
pub record Shared (st : Option harts.Store) (from : ℕ) (was is : List Seat) : Type 0 where
  pub own : (n : ℕ) → suc n ≡ from → slice_get is n ≡ slice_get was n
  pub rest : (n : ℕ) → suc n ≢ from → Both (TookStore st) (slice_get was n) (slice_get is n)

-- a commit
pub record IsFreed (was is : Seat) : Type 0 where
  pub sits : (number : ℕ) (bytes : List ℕ) (o : Hart) → Sits number was bytes o → Sits number is bytes (freed o)
  pub image : is.engine.image ≡ was.engine.image
  pub taken : is.taken ≡ was.taken
  pub stop : is.stop ≡ was.stop

-- a hart that waits at its poll
abbrev pub held : Hart → harts.Mode → Hart
held o mode = record o { mode = mode; waited = true }

-- a hart behind its poll at which it adopts, as `other_adopts` says it
abbrev pub adopts_last : Hart → List Binding → Hart
adopts_last o bs = adopted o bs (o.taken ++ Adopt bs ∷ [])

-- hart 0 has committed, by its last instruction
abbrev pub committed : Harts → Harts
committed hs = record hs { others = map freed hs.others; wanted = false; commits = hs.commits ++ hs.leader.state.bindings ∷ [] }

-- a seat doesn't stop or go on
abbrev pub SameStop : (was is : Seat) → Type 0
SameStop was is = is.stop ≡ was.stop

-- no seat does
abbrev pub SameStops : (was is : Group) → Type 0
SameStops was is = (h : ℕ) → Both SameStop (seat_at h was) (seat_at h is)

-- ---- what a turn has done

-- what a hart has written, nothing where there is none
abbrev pub output_of : Option Hart → List ℕ
output_of None = []
output_of (Some o) = o.state.output

-- what a hart has written
abbrev pub output : ℕ → Harts → List ℕ
output h hs = output_of (hart_at h hs)

-- how often a hart has asked the oracle: for each instruction, and for a read or a write that failed
abbrev pub asked_by : Hart → ℕ
asked_by o = o.count + (if o.failed then 1 else 0)

abbrev pub asked : Harts → ℕ
asked hs = asked_by hs.leader + sum_by asked_by hs.others

-- one hart has written these bytes, and the others nothing
pub record Wrote (hart : ℕ) (was is : Harts) (more : List ℕ) : Type 0 where
  pub own : output hart is ≡ output hart was ++ more
  pub rest : (h : ℕ) → h ≢ hart → output h is ≡ output h was

-- What the source, the sink and the oracle of a turn tell: what the source has left behind it, what the sink got before and behind it, the ways, and
-- the counts of faults.
pub record Beside : Type 0 where
  pub left : Option (List ℕ)
  pub old_written : Option (List ℕ)
  pub new_written : Option (List ℕ)
  pub old_way : Option Way
  pub new_way : Option Way
  pub old_inputs : ℕ
  pub new_inputs : ℕ
  pub old_outputs : ℕ
  pub new_outputs : ℕ

-- by its parts in their order
abbrev pub beside : (left old_written new_written : Option (List ℕ)) (old_way new_way : Option Way) (old_inputs new_inputs old_outputs new_outputs : ℕ) → Beside
beside left old_written new_written old_way new_way old_inputs new_inputs old_outputs new_outputs = record {
  left = left;
  old_written = old_written;
  new_written = new_written;
  old_way = old_way;
  new_way = new_way;
  old_inputs = old_inputs;
  new_inputs = new_inputs;
  old_outputs = old_outputs;
  new_outputs = new_outputs;
}

-- the count of faults of the source rose
abbrev pub input_rose : Beside → Type 0
input_rose x = Rose x.old_inputs x.new_inputs

-- the count of faults of the sink rose
abbrev pub output_rose : Beside → Type 0
output_rose x = Rose x.old_outputs x.new_outputs

-- no device failed
abbrev pub SameCounts : Beside → Type 0
SameCounts x = (x.new_inputs ≡ x.old_inputs) × (x.new_outputs ≡ x.old_outputs)

-- The counts of faults of a hart's source and sink before, while it went on, and behind: that of the device at which it failed rose, by one at most, and the
-- other stands.
pub record Counts (stop : Option Stopped) (inputs inputs' outputs outputs' : ℕ) : Type 0 where
  pub input : stop ≡ Some answer.InputFault → Rose inputs inputs'
  pub output : stop ≡ Some answer.OutputFault → Rose outputs outputs'
  pub reading : CountAfter (input_failed stop) inputs inputs'
  pub writing : CountAfter (output_failed stop) outputs outputs'

-- a hart's read or write failed as a stop tells, and it stands before that call; or none did
abbrev pub HasStop : Option Stopped → Hart → Type 0
HasStop stop o = (o.failed ≡ has_failed stop) × IsBefore stop o.state

-- those counts, by how the hart stands
pub record CountsBy (o : Hart) (inputs inputs' outputs outputs' : ℕ) : Type 0 where
  pub stop : Option Stopped
  pub has_stop : HasStop stop o
  pub counts : Counts stop inputs inputs' outputs outputs'

-- those of a turn
abbrev pub Counted : Beside → Option Stopped → Type 0
Counted x stop = Counts stop x.old_inputs x.new_inputs x.old_outputs x.new_outputs

-- the hart whose turn it is stands as before and no device failed, or it went on before and its devices' counts are by how it stands
abbrev pub Fares : Beside → (was is : Seat) → Type 0
Fares x was is = (SameStop was is × SameCounts x) ⊎ ((was.stop ≡ None) × Counted x is.stop)

-- what is known of how a hart stood holds of how it stands
abbrev pub StandsAs : (was is : Hart) → Type 0
StandsAs was is = (stop : Option Stopped) → HasStop stop was → HasStop stop is

-- no read or write of a hart had failed, and the counts of a turn are by how it stands now
abbrev pub FaresBy : Beside → (was is : Hart) → Type 0
FaresBy x was is = (was.failed ≡ false) × CountsBy is x.old_inputs x.new_inputs x.old_outputs x.new_outputs

-- these bytes were written
abbrev pub Grew : Beside → List ℕ → Type 0
Grew x more = x.new_written ≡ option_map (λ before. before ++ more) x.old_written

-- the oracle was asked so often
abbrev pub WasAsked : Beside → ℕ → Type 0
WasAsked x steps = x.new_way ≡ option_map (λ w. way_after w steps) x.old_way

-- a hart behind its instruction, or behind its read or write that failed
abbrev pub acted : (failing : Bool) → Hart → Act → Move → Hart
acted true o a m = fails o
acted false o a m = executes o a m

-- the commit that is under way behind it
abbrev pub under_behind : (failing : Bool) → Option (List Binding) → Move → Option (List Binding)
under_behind true under m = under
under_behind false under m = m.under

-- only a read or a write may fail
abbrev pub IsDevice : Move → (failing : Bool) → Type 0
IsDevice m failing = failing ≡ true → (m.outside ≡ true) × (m.place ≡ Elsewhere)

-- one instruction of a seat, with what its poll took
pub record Stepped (image : Fields) (commits : List (List Binding)) (number : ℕ) (o : Hart) (a : Act) (m : Move) (old_under : Option (List Binding)) (x : Beside) (seat : Seat) (under : Bool) : Type 0 where
  pub failing : Bool
  pub outside : IsDevice m failing
  pub rest : List ℕ
  pub left_is : x.left ≡ Some rest
  pub is_seat : IsSeat image commits number rest seat (acted failing o a m)
  pub under_is : under ≡ is_under (under_behind failing old_under m)
  pub more : List ℕ
  pub output_is : (acted failing o a m).state.output ≡ o.state.output ++ more
  pub written : Grew x more
  pub counted : asked_by (acted failing o a m) ≡ asked_by o + 1
  pub way_is : WasAsked x 1
  pub counts : Counted x seat.stop

-- without memory for the step: no device failed, and nothing is written, or what the instruction writes
pub record StepRefused (o : Hart) (a : Act) (m : Move) (x : Beside) : Type 0 where
  pub on : o.failed ≡ false
  pub same_counts : SameCounts x
  pub more : List ℕ
  pub written : Grew x more
  pub either : (more ≡ []) ⊎ (m.state.output ≡ o.state.output ++ more)

-- A turn of a hart as code did it: these harts became those, of which the group is the latter; what was read and written, and how often the oracle was
-- asked. The other harts' sources have left what they had.
pub record Reaches (image : Fields) (actions : List Action) (hart : ℕ) (bytes : ℕ → List ℕ) (x : Beside) (was is : Group) (hs hs' : Harts) : Type 0 where
  pub rest : List ℕ
  pub left_is : x.left ≡ Some rest
  pub shows : (after : ℕ → List ℕ) → after hart ≡ rest → ((h : ℕ) → h ≢ hart → after h ≡ bytes h) → Shows image actions after is hs'
  pub more : List ℕ
  pub wrote : Wrote hart hs hs' more
  pub written : Grew x more
  pub steps : ℕ
  pub few : steps ≤ 1
  pub counted : asked hs' ≡ asked hs + steps
  pub way_is : WasAsked x steps
  pub own : Both (Fares x) (seat_at hart was) (seat_at hart is)
  pub others : (h : ℕ) → h ≢ hart → Both SameStop (seat_at h was) (seat_at h is)

-- a turn of a hart brought it from those harts to these and wrote these bytes, by what is known of its devices
pub record WroteIn (hart : ℕ) (x : Beside) (was is : Harts) (more : List ℕ) : Type 0 where
  pub wrote : Wrote hart was is more
  pub own : Both (FaresBy x) (hart_at hart was) (hart_at hart is)
  pub others : (h : ℕ) → h ≢ hart → Both StandsAs (hart_at h was) (hart_at h is)

-- without memory for a turn: nothing is written and no device failed, or it is as behind the turn to those harts
pub record Refused (hart : ℕ) (x : Beside) (hs hs' : Harts) : Type 0 where
  pub more : List ℕ
  pub written : Grew x more
  pub either : ((more ≡ []) × SameCounts x) ⊎ WroteIn hart x hs hs' more

-- a turn, by whether its read or write failed, which `Fits` allows
abbrev pub Turned : {T E : Type 0} → (image : Fields) (actions : List Action) (hart : ℕ) (bytes : ℕ → List ℕ) (x : Beside) (was is : Group) (hs : Harts) (Fits : Bool → Type 0) (turned : Bool → Harts) → Result T E → Type 0
Turned image actions hart bytes x was is hs Fits turned (Ok done) = (failing : Bool) × Fits failing × Reaches image actions hart bytes x was is hs (turned failing)
Turned image actions hart bytes x was is hs Fits turned (Err error) = (failing : Bool) × Fits failing × Refused hart x hs (turned failing)

-- A turn that just went on: the oracle was asked once, and nothing was read or written, whatever the source and the sink tell.
abbrev pub Advanced : (image : Fields) (actions : List Action) (hart : ℕ) (bytes : ℕ → List ℕ) (way way' : Option Way) (was is : Group) (hs : Harts) → Type 0
Advanced image actions hart bytes way way' was is hs =
    (x : Beside) → x.left ≡ Some (bytes hart) → x.new_written ≡ x.old_written → x.old_way ≡ way → x.new_way ≡ way' → SameCounts x → Reaches image actions hart bytes x was is hs (turn_of hs hart 0 false)

-- a group that is as it was
pub record Stands (was is : Group) : Type 0 where
  pub shows : (image : Fields) (actions : List Action) (bytes : ℕ → List ℕ) (hs : Harts) → Shows image actions bytes was hs → Shows image actions bytes is hs
  pub stops : SameStops was is

-- a turn may fail or not
abbrev pub MayFail : (failing : Bool) → Type 0
MayFail failing = Unit {0}

-- the harts behind an instruction of hart 0, or of another
abbrev pub leader_acts : Harts → Act → Move → (failing : Bool) → Harts
leader_acts h a m true = record h { leader = fails h.leader }
leader_acts h a m false = leader_goes h a m

abbrev pub other_acts : Harts → (n : ℕ) → Hart → Move → (failing : Bool) → Harts
other_acts h n o m true = other_fails h n o
other_acts h n o m false = other_goes h n o m
