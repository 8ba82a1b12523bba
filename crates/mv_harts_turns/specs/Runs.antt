-- What a run of a group is, and what it has done.
use Rattle.std.specs.Prelude.{ℕ, suc, ◌≡◌, ◌+◌, ◌-◌, ◌<◌, ◌≤◌, Bool, true, false, List, [], ◌∷◌, ◌++◌, map, take, length, slice_get, Option, Some, option_map, option_and_then, unwrap_or}
use Rattle.std.specs.List.{All}
use Rattle.mv_bindings.specs.declared.action.Action.{Action}
use Rattle.mv_bindings.specs.Acts.{Act, act_of}
use Rattle.mv_image.specs.Spelling.{Fields}
use Rattle.mv_probe.specs.Ways.{Way, way_after}
use Rattle.mv_io.specs.Outside.{Rose}
use Rattle.mv_machine.specs.Runs.{Reads, Writes, bytes_to_come}
use Rattle.mv_harts_runs.specs.Harts.{Hart, Harts, Turn, first_harts, harts_after}
use Rattle.mv_harts_runs.specs.Alone.{Fitting, Passes}
use Rattle.mv_harts_one.specs.declared.seat.Seat.{Seat}
use Rattle.mv_harts_one.specs.Seats.{IsAt}
use Rattle.mv_harts_turns.specs.declared.group.Group.{Group}
use Rattle.mv_harts_turns.specs.Groups.{Shows, FetchesAre, Counts, hart_at, seat_at, output, asked}

-- the turns of a schedule, of which some reads and writes fail; each fetch is by the pick 0
abbrev pub turns_by : (schedule : List ℕ) → (failing : List Bool) → List Turn
turns_by [] failing = []
turns_by (hart ∷ schedule) [] = record { hart = hart; pick = 0; failing = false } ∷ turns_by schedule []
turns_by (hart ∷ schedule) (fails ∷ failing) = record { hart = hart; pick = 0; failing = fails } ∷ turns_by schedule failing

-- an image on which the run of each hart alone is right, with acts of the operator that fit hart 0
abbrev pub IsReadyFor : Fields → (ℕ → List (Option ℕ)) → List Act → Type 0
IsReadyFor image inputs acts = (fits : ℕ → Act → Bool) × Fitting image inputs (Passes fits) × All (Passes fits 0) acts

-- what the sources and the sinks of the harts tell, each with its count of faults, and the oracle
pub record Outside : Type 0 where
  pub left : ℕ → Option (List ℕ)
  pub written : ℕ → Option (List ℕ)
  pub inputs : ℕ → ℕ
  pub outputs : ℕ → ℕ
  pub way : Option Way

-- what the object of a hart tells, where there is one
abbrev pub at : {S A : Type 0} → (S → A) → List S → ℕ → Option A
at tells items h = option_map tells (slice_get items h)

-- by what each source and each sink tells
abbrev pub outside : {S K : Type 0} → (left : S → Option (List ℕ)) (written : K → Option (List ℕ)) (inputs : S → ℕ) (outputs : K → ℕ) (sources : List S) (sinks : List K) (way : Option Way) → Outside
outside left written inputs outputs sources sinks way = record {
  left = λ h. option_and_then left (slice_get sources h);
  written = λ h. option_and_then written (slice_get sinks h);
  inputs = λ h. unwrap_or (at inputs sources h) 0;
  outputs = λ h. unwrap_or (at outputs sinks h) 0;
  way = way;
}

-- the bytes that the source of a hart has left, and the input that they are
abbrev pub bytes_of : Outside → ℕ → List ℕ
bytes_of x h = unwrap_or (x.left h) []

-- the inputs of all harts
abbrev pub inputs_of : Outside → ℕ → List (Option ℕ)
inputs_of x h = bytes_to_come (bytes_of x h)

-- the harts behind the turns of a schedule, so many in all
abbrev pub harts_of : Fields → List Action → (count : ℕ) → Outside → (schedule : List ℕ) → (failing : List Bool) → Harts
harts_of image actions count x schedule failing = harts_after (first_harts image (inputs_of x) (count - 1) (map act_of actions)) (turns_by schedule failing)

-- the counts of faults of a hart's source and sink, by how it stands
abbrev pub CountsOf : (h : ℕ) (was is : Outside) → Seat → Type 0
CountsOf h was is seat = Counts seat.stop (was.inputs h) (is.inputs h) (was.outputs h) (is.outputs h)

-- the harts of each time of a schedule fetch so, whatever failed by then
abbrev pub AlwaysFetch : Fields → List Action → (count : ℕ) → Outside → (schedule : List ℕ) → Type 0
AlwaysFetch image actions count was schedule = (time : ℕ) (failing : List Bool) → FetchesAre (harts_of image actions count was (take time schedule) failing)

-- The counts of faults of a hart's source and sink, by how it stands: both are as before, or it stands before a read or a write that failed, and that device's
-- count rose, by one at most.
pub data FaultsOf (h : ℕ) (was is : Outside) (o : Hart) : Type 0 where
  stands : o.failed ≡ false → is.inputs h ≡ was.inputs h → is.outputs h ≡ was.outputs h → FaultsOf h was is o
  read_failed : o.failed ≡ true → IsAt o.state Reads → Rose (was.inputs h) (is.inputs h) → is.inputs h ≤ was.inputs h + 1 → is.outputs h ≡ was.outputs h → FaultsOf h was is o
  write_failed : o.failed ≡ true → IsAt o.state Writes → Rose (was.outputs h) (is.outputs h) → is.outputs h ≤ was.outputs h + 1 → is.inputs h ≡ was.inputs h → FaultsOf h was is o

-- so it is of each of them
abbrev pub FaultsOfAll : (was is : Outside) → Harts → Type 0
FaultsOfAll was is hs = (h : ℕ) (o : Hart) → hart_at h hs ≡ Some o → FaultsOf h was is o

-- each sink got what its hart has written
abbrev pub GotAll : (was is : Outside) → Harts → Type 0
GotAll was is hs = (h : ℕ) → is.written h ≡ option_map (λ before. before ++ output h hs) (was.written h)

-- The turns of a schedule as code did them: the group is the harts of the run, each source lost what its hart has read, each sink got what it has
-- written, the oracle was asked for each instruction and each read or write that failed, and a device that failed was asked nothing more.
pub record Ran (image : Fields) (actions : List Action) (count : ℕ) (schedule : List ℕ) (was is : Outside) (group : Group) : Type 0 where
  pub failing : List Bool
  pub paired : length failing ≡ length schedule
  pub seats : suc (length group.others.items) ≡ count
  pub told : (h : ℕ) → h < count → is.left h ≡ Some (bytes_of is h)
  pub shows : Shows image actions (bytes_of is) group (harts_of image actions count was schedule failing)
  pub written : GotAll was is (harts_of image actions count was schedule failing)
  pub way_is : is.way ≡ option_map (λ w. way_after w (asked (harts_of image actions count was schedule failing))) was.way
  pub few : asked (harts_of image actions count was schedule failing) ≤ length schedule
  pub counts : (h : ℕ) (seat : Seat) → seat_at h group ≡ Some seat → CountsOf h was is seat
  pub later_inputs : (h : ℕ) → was.inputs h ≤ is.inputs h
  pub later_outputs : (h : ℕ) → was.outputs h ≤ is.outputs h

-- Without memory: each sink got what its hart has written by some turn, and each count of faults is as before, but that of a device that failed by then.
pub record Broken (image : Fields) (actions : List Action) (count : ℕ) (schedule : List ℕ) (was is : Outside) : Type 0 where
  pub turns : ℕ
  pub within : turns ≤ length schedule
  pub failing : List Bool
  pub paired : length failing ≡ turns
  pub written : GotAll was is (harts_of image actions count was (take turns schedule) failing)
  pub faults : FaultsOfAll was is (harts_of image actions count was (take turns schedule) failing)
  pub later_inputs : (h : ℕ) → was.inputs h ≤ is.inputs h
  pub later_outputs : (h : ℕ) → was.outputs h ≤ is.outputs h
