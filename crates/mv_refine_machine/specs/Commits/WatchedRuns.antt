-- The machine whose memory tells the commit that is under way is one on which code runs.
use Rattle.std.specs.Prelude.{ℕ, ◌≡◌, ◌+◌, Bool, true, false, List, Option}
use Rattle.mv_bindings.specs.declared.binding.Binding.{Binding}
use Rattle.mv_isa.specs.Execution.{Goes, step}
use Rattle.mv_image.specs.Spelling.{Fields}
use Rattle.mv_image.specs.Faults.{Rules}
use Rattle.mv_ir.specs.World.{World}
use Rattle.mv_machine.specs.Acts.{PollActs}
use Rattle.mv_machine.specs.Runs.{first}
use Rattle.mv_select_code.specs.Statements.Frames.{Site}
use Rattle.mv_select_code.specs.Statements.Leads.{Writes}
use Rattle.mv_select_code.specs.Control.Runs.{Spot, IsRun}
use Rattle.mv_select.specs.Functions.Functions.{IsOpen, alone}
use Rattle.mv_select.specs.Slots.Narrowed as narrow
use Rattle.mv_refine_machine.specs.Layout.{OwnOutsideText}
use Rattle.mv_refine_machine.specs.MachineRuns.{bound_word, has_one_choice}
use Rattle.mv_refine_machine.specs.Under.{words_under}
use Rattle.mv_refine_machine.specs.Commits.Watch.{texts_of, keeps_text}
use Rattle.mv_refine_machine.specs.Commits.Watched.{Watched, access, IsQuiet, plain_spot, spot_at, watched_machine}

module _ (image : Fields) (input : List (Option ℕ)) (polls : PollActs) (picks : List ℕ) (s : Site) where
  abbrev pub run : ℕ → Spot Watched
  run = spot_at (first image input polls) picks

  -- a calm time of the run, from which the word that stands there under the bindings leads to a place, storing at most to a cell of the frame's own
  pub record LeadsBound (i : ℕ) (w : World) (next : Spot Watched) : Type 0 where
    pub quiet : IsQuiet image w (run i).memory
    pub steps : step access (bound_word image w (run i).pc) (run i).regs (run i).pc (run i).memory ≡ Goes next.regs next.pc next.memory
    pub writes : Writes access s (run i).memory next.memory

  -- whatever is picked, the run takes the step, from a place with one choice, settled text and room for its store, and stays calm
  pub record WatchedStepsTaken : Type 0 where
    pub goes : (i : ℕ) (w : World) (next : Spot Watched) → LeadsBound i w next → run (i + 1) ≡ next
    pub one : (i : ℕ) (w : World) (next : Spot Watched) → LeadsBound i w next → has_one_choice (plain_spot (run i)) ≡ true
    pub keeps : (i : ℕ) (w : World) (next : Spot Watched) → LeadsBound i w next → keeps_text (texts_of image) (run i).memory.under (plain_spot (run i)) ≡ true
    pub stays : (i : ℕ) (w : World) (next : Spot Watched) → LeadsBound i w next → IsQuiet image w next.memory

abbrev pub WatchedStepsAreTaken : Type 0
WatchedStepsAreTaken =
    (image : Fields) → Rules image → (input : List (Option ℕ)) (polls : PollActs) (picks : List ℕ) (s : Site) → OwnOutsideText s → WatchedStepsTaken image input polls picks s

-- For every image that keeps the rules, input, hart with what its polls take, and picks, the run is one of a machine on which code runs, at each site whose own cells lie outside
-- text, and that loads from no address that is closed anywhere.
abbrev pub WatchedRunsAreRuns : Type 0
WatchedRunsAreRuns =
    (attributed : List ℕ) (closed : (pc address : ℕ) → Bool) (image : Fields) → Rules image → (input : List (Option ℕ)) (polls : PollActs) (picks : List ℕ) (s : Site) → OwnOutsideText s →
    ((pc a : ℕ) → s.reach.may_load a ≡ true → closed pc a ≡ false) → IsRun access s (watched_machine attributed closed image input polls picks)

-- And so it is where only a part of text stands, at each that loads from no address that is closed there.
abbrev pub WatchedRunsAreRunsAlone : Type 0
WatchedRunsAreRunsAlone =
    (attributed : List ℕ) (closed : (pc address : ℕ) → Bool) (image : Fields) → Rules image → (input : List (Option ℕ)) (polls : PollActs) (picks : List ℕ) (from to : ℕ) (s : Site) →
    OwnOutsideText s → IsOpen closed from to s.reach → IsRun access s (alone (watched_machine attributed closed image input polls picks) from to)

-- So is the machine under some bindings, over a part of the words that stand under these.
abbrev pub WatchedRunsAreRunsUnder : Type 0
WatchedRunsAreRunsUnder =
    (attributed : List ℕ) (closed : (pc address : ℕ) → Bool) (image : Fields) → Rules image → (input : List (Option ℕ)) (polls : PollActs) (picks : List ℕ) (bs : List Binding) (from to : ℕ)
    (s : Site) → OwnOutsideText s → IsOpen closed from to s.reach →
    IsRun access s (alone (narrow.under (watched_machine attributed closed image input polls picks) (words_under image) bs) from to)
