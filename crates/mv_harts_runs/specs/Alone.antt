-- What is known of the run of a hart alone, and what follows for the harts of a run.
use Rattle.std.specs.Prelude.{ℕ, suc, ◌≡◌, ◌≤◌, Bool, true, false, List, [], ◌∷◌, ◌++◌, slice_get, Option, Some, None}
use Rattle.std.specs.List.{All}
use Rattle.mv_num.specs.Regions.{data_start}
use Rattle.mv_bindings.specs.declared.binding.Binding.{Binding}
use Rattle.mv_descriptors.specs.declared.rows.SwitchRow.{SwitchRow}
use Rattle.mv_fetch.specs.Held.{index_of}
use Rattle.mv_isa.specs.declared.instr.Cause.{Cause}
use Rattle.mv_image.specs.Faults.{Rules}
use Rattle.mv_image.specs.Spelling.{Fields}
use Rattle.mv_refine_machine.specs.Stores.Between.{IsWhole, IsSettled, IsBetween}
use Rattle.mv_refine_machine.specs.Stores.Laws.{TextIsBetween, BetweenIsTested, RoomsAreWhole, StoresFindRoom}
use Rattle.mv_refine_machine.specs.Stores.Stores.{AreTexts}
use Rattle.mv_refine_machine.specs.Commits.Watch.{texts_of}
use Rattle.mv_bindings.specs.Acts.{Act, Skip, Flip, Adopt}
use Rattle.mv_machine.specs.Runs.{State, Going, Fault, choices_at, runs_from}
use Rattle.mv_machine.specs.Commits.{commit_from}
use Rattle.mv_harts_runs.specs.Harts.{first_of, AtPoll, Elsewhere, place, is_on, Mode, Runs, Parked, Freed, Hart, Harts, Turn, first_harts, harts_after, Store, told, is_in_text}

-- no binding shows at an address
abbrev pub IsPlain : Fields → ℕ → Type 0
IsPlain image a = (some other : List Binding) → slice_get (texts_of image some) (index_of a) ≡ slice_get (texts_of image other) (index_of a)

-- as in `Behaves`, of a hart's run alone on an input, with what its polls take
module _ (hart : ℕ) (image : Fields) (input : List (Option ℕ)) (acts : List Act) where
  -- as each fetch has one choice, the picks don't matter
  abbrev pub alone : ℕ → State
  alone n = runs_from (first_of hart image input acts) [] n

  abbrev pub under_alone : ℕ → Option (List Binding)
  under_alone n = commit_from (first_of hart image input acts) [] n

  pub record BehavesAlone : Type 0 where
    pub fetches : (n : ℕ) → (alone n).stop ≡ Going → choices_at (alone n) ≡ 1
    pub settled : (n : ℕ) → under_alone n ≡ None → IsBetween (texts_of image (alone n).bindings) (texts_of image (alone n).bindings) (alone n).room.held
    pub between : (n : ℕ) (old : List Binding) → under_alone n ≡ Some old → IsBetween (texts_of image old) (texts_of image (alone n).bindings) (alone n).room.held
    -- an order or a poll is made while no commit is under way, at a word that no binding changes
    pub calls : (n : ℕ) → (place (alone n) 0 ≡ Elsewhere → ⊥) → (under_alone n ≡ None) × IsPlain image (alone n).pc
    pub faults : (n : ℕ) (why : Cause) → (alone n).stop ≡ Fault why → ⊥

-- An image, and which acts fit each hart. What hart 0 is bound to at any time, another hart may adopt.
pub record Fitting (image : Fields) (input : ℕ → List (Option ℕ)) (Fits : ℕ → Act → Type 0) : Type 0 where
  pub skips : (h : ℕ) → Fits h Skip
  pub adopts : (h n : ℕ) (acts : List Act) → All (Fits 0) acts → Fits (suc h) (Adopt (alone 0 image (input 0) acts n).bindings)
  pub behaves : (h : ℕ) (acts : List Act) → All (Fits h) acts → BehavesAlone h image (input h) acts
  pub texts : (some other : List Binding) → AreTexts (texts_of image some) (texts_of image other)
  pub leads : (bs : List Binding) → Fits 0 (Adopt bs) → ⊥
  pub rules : Rules image
  pub in_data : (k : ℕ) (row : SwitchRow) → slice_get image.switches k ≡ Some row → data_start ≤ row.address

-- the laws of `mv_refine_machine::stores`
pub record Known : Type 0 where
  pub between : TextIsBetween
  pub tested : BetweenIsTested
  pub rooms : RoomsAreWhole
  pub finds : StoresFindRoom

-- what a hart took are adopts of some commits in order, apart from skips
abbrev pub adopts_of : List Act → List (List Binding)
adopts_of [] = []
adopts_of (Skip ∷ acts) = adopts_of acts
adopts_of (Flip switch value ∷ acts) = adopts_of acts
adopts_of (Adopt bs ∷ acts) = bs ∷ adopts_of acts

module _ (image : Fields) (input : ℕ → List (Option ℕ)) where
  -- The hart is its own run alone, with what its polls took, after as many instructions as it has executed; whatever it took later.
  abbrev pub IsAlone : (h : ℕ) → State → (taken : List Act) → (count : ℕ) → Type 0
  IsAlone h s taken count = (more : List Act) → alone h image (input h) (taken ++ more) count ≡ record s { actions = more }

  -- A hart that hasn't a commit to adopt: no commit is under way, and its bindings, its text and the commits that it adopted are the leader's.
  pub record IsUpToDate (h : ℕ) (o : Hart) (leader : State) (under : Option (List Binding)) (commits : List (List Binding)) : Type 0 where
    pub is_alone : IsAlone h o.state o.taken o.count
    pub calm : under ≡ None
    pub bindings : o.state.bindings ≡ leader.bindings
    pub text : o.state.room.held.text ≡ leader.room.held.text
    pub whole : IsWhole o.state.room
    pub adopted : adopts_of o.taken ≡ commits

  -- A freed hart: its own run alone but for the words that the commit which it is yet to adopt has stored. It stands at its poll, in calm.
  pub record IsBehind (h : ℕ) (o : Hart) (leader : State) (under : Option (List Binding)) (commits : List (List Binding)) : Type 0 where
    -- as it was before the commit
    pub before : State
    pub is_alone : IsAlone h before o.taken o.count
    pub polls : place before 0 ≡ AtPoll
    pub same : o.state ≡ record before { room = o.state.room }
    pub text : o.state.room.held.text ≡ leader.room.held.text
    pub between : IsBetween (texts_of image before.bindings) (texts_of image leader.bindings) o.state.room.held
    pub began : (old : List Binding) → under ≡ Some old → old ≡ before.bindings
    pub whole : IsWhole o.state.room
    pub globals : o.state.room.held.globals ≡ before.room.held.globals
    pub stack : o.state.room.held.stack ≡ before.room.held.stack
    pub plan : o.state.room.held.plan ≡ before.room.held.plan
    pub reserve : o.state.room.reserve ≡ before.room.reserve
    pub settled : IsSettled (texts_of image before.bindings) before.room
    pub adopted : adopts_of o.taken ++ leader.bindings ∷ [] ≡ commits

  -- a hart that has ended
  pub record HasEnded (h : ℕ) (o : Hart) (commits : List (List Binding)) : Type 0 where
    pub is_alone : IsAlone h o.state o.taken o.count
    pub missed : List (List Binding)
    pub adopted : adopts_of o.taken ++ missed ≡ commits

  abbrev pub StandsBy : Mode → (h : ℕ) → Hart → State → Option (List Binding) → List (List Binding) → Type 0
  StandsBy Runs h o leader under commits = IsUpToDate h o leader under commits
  StandsBy Parked h o leader under commits = IsUpToDate h o leader under commits × (place o.state 0 ≡ AtPoll)
  StandsBy Freed h o leader under commits = IsBehind h o leader under commits

  abbrev pub Stands : (going : Bool) → (h : ℕ) → Hart → State → Option (List Binding) → List (List Binding) → Type 0
  Stands true h o leader under commits = StandsBy o.mode h o leader under commits
  Stands false h o leader under commits = HasEnded h o commits

  module _ (Fits : ℕ → Act → Type 0) where
    pub record IsOther (h : ℕ) (o : Hart) (leader : State) (under : Option (List Binding)) (commits : List (List Binding)) : Type 0 where
      pub fits : All (Fits h) o.taken
      pub stands : Stands (is_on o) h o leader under commits

    -- what holds of a run of harts at each time
    pub record IsRight (hs : Harts) : Type 0 where
      pub fits : All (Fits 0) hs.leader.taken
      pub coming : All (Fits 0) hs.actions
      pub leader : IsAlone 0 hs.leader.state hs.leader.taken hs.leader.count
      pub under : (more : List Act) → under_alone 0 image (input 0) (hs.leader.taken ++ more) hs.leader.count ≡ hs.under
      pub others : (n : ℕ) (o : Hart) → slice_get hs.others n ≡ Some o → IsOther (suc n) o hs.leader.state hs.under hs.commits

-- ---- what follows

-- the registers, and what the outside sees, are the same
pub record IsOutside (s o : State) : Type 0 where
  pub regs : s.regs ≡ o.regs
  pub pc : s.pc ≡ o.pc
  pub bindings : s.bindings ≡ o.bindings
  pub input : s.input ≡ o.input
  pub output : s.output ≡ o.output
  pub log : s.log ≡ o.log
  pub stop : s.stop ≡ o.stop

-- What is promised of each time of a run of harts: no fetch has two choices; text is that of the leader's bindings, in the memories of all that haven't ended,
-- and while a commit is under way between that of the bindings before and that; each hart adopts the leader's commits in order, none skipped.
pub record IsWell (image : Fields) (input : ℕ → List (Option ℕ)) (hs : Harts) : Type 0 where
  pub leader_fetches : is_on hs.leader ≡ true → choices_at hs.leader.state ≡ 1
  pub fetches : (n : ℕ) (o : Hart) → slice_get hs.others n ≡ Some o → is_on o ≡ true → choices_at o.state ≡ 1
  pub settled : hs.under ≡ None → hs.leader.state.room.held.text ≡ texts_of image hs.leader.state.bindings
  pub between : (old : List Binding) → hs.under ≡ Some old → IsBetween (texts_of image old) (texts_of image hs.leader.state.bindings) hs.leader.state.room.held
  pub shared : (n : ℕ) (o : Hart) → slice_get hs.others n ≡ Some o → is_on o ≡ true → o.state.room.held.text ≡ hs.leader.state.room.held.text
  -- nobody stores into text but the leader, and it only while its commit is under way
  pub leader_stores : hs.under ≡ None → is_on hs.leader ≡ true → (st : Store) → told hs.leader.state 0 ≡ Some st → is_in_text st.address ≡ false
  pub stores : (n : ℕ) (o : Hart) → slice_get hs.others n ≡ Some o → is_on o ≡ true → (st : Store) → told o.state 0 ≡ Some st → is_in_text st.address ≡ false
  -- the leader's next store into text finds room in each memory
  pub roomy : is_on hs.leader ≡ true → (st : Store) → told hs.leader.state 0 ≡ Some st → is_in_text st.address ≡ true → (n : ℕ) (o : Hart) → slice_get hs.others n ≡ Some o → is_on o ≡ true → 1 ≤ o.state.room.spare
  pub adopts : (n : ℕ) (o : Hart) → slice_get hs.others n ≡ Some o → (missed : List (List Binding)) × (adopts_of o.taken ++ missed ≡ hs.commits)
  -- what it has written, read and logged is what its run alone has, with the acts that its polls took
  pub leader_alone : IsOutside (alone 0 image (input 0) hs.leader.taken hs.leader.count) hs.leader.state
  pub others_alone : (n : ℕ) (o : Hart) → slice_get hs.others n ≡ Some o → IsOutside (alone (suc n) image (input (suc n)) o.taken o.count) o.state

-- The acts that pass a test fit.
abbrev pub Passes : (fits : ℕ → Act → Bool) → ℕ → Act → Type 0
Passes fits h act = fits h act ≡ true

-- For every image, inputs and operator's acts, by each schedule and with all picks.
abbrev pub HartsAreRight : Type 0
HartsAreRight =
    (image : Fields) (input : ℕ → List (Option ℕ)) (fits : ℕ → Act → Bool) → Fitting image input (Passes fits) →
    (count : ℕ) (actions : List Act) → All (Passes fits 0) actions → (turns : List Turn) →
    let hs = harts_after (first_harts image input count actions) turns in IsRight image input (Passes fits) hs × IsWell image input hs
