-- What the run of an image does that behaves as a program means.
use Rattle.std.proofs.Common.{◌≡◌, ⊎_elim, ℕ, Bool, ◌^◌, ◌<◌, ◌≤◌, List, ◌++◌, length, map, Some, refl, sym, ap, ◌∙◌, subst, arith}
use Rattle.std.specs.Prelude.{slice_index, All, IsTrue, Result, Ok, Err}
use Rattle.std.specs.declared.alloc.AllocError.{AllocError}
use Rattle.std.proofs.lemmas.Bool.{cases_lt}
use Rattle.std.proofs.lemmas.List.{length-append, length-map}
use Rattle.std.proofs.lemmas.List.Elements.{All-map, All-weaker}
use Rattle.mv_ast.specs.Actions.{fits, act_fits}
use Rattle.mv_bindings.specs.Acts.{IsOfWord, IsActOfWord, act_of}
use Rattle.mv_bindings.specs.declared.action.Action.{Action}
use Rattle.mv_bindings.specs.declared.action.Action.TheVariants.{Skip, Flip}
use Rattle.mv_bindings.specs.declared.binding.Event.{Event}
use Rattle.mv_ast.specs.declared.program.Program.{Program}
use Rattle.mv_fetch.specs.Held.{Room}
use Rattle.mv_image.specs.Patched.{text_of}
use Rattle.mv_image.specs.Spelling.{Fields}
use Rattle.mv_patch.specs.Orders.{values_of}
use Rattle.mv_refine_machine.specs.Runs.Behaves.{IsWhole, EndsRight, Behaves, BehavesAlways, taken_of}
use Rattle.mv_machine.specs.declared.machine.Stopped.{Stopped}
use Rattle.mv_machine.specs.declared.machine.Stopped.TheVariants as answer
use Rattle.mv_machine.specs.Actions as image_actions
use Rattle.mv_machine.specs.Acts.{polls_of}
use Rattle.mv_machine.specs.Runs.{State, Stop, Going, Exit, Trap, Reads, Writes, bytes_to_come, runs}
use Rattle.mv_io.specs.Outside.{AreToldBytes}
use Rattle.mv_io.proofs.Common.{are_bytes, may_come}
use Rattle.mv_machine.specs.Snapshots.{Snapshot, CallsFor, WantsMemory, kept}
use Rattle.mv_meaning.specs.declared.meant.End.{End}
use Rattle.mv_meaning.specs.declared.meant.End.TheVariants as source
use Rattle.mv_meaning.specs.declared.meant.Meant.{Meant}
use Rattle.mv_meaning.specs.Meaning.{mean}
use Rattle.mv_meaning.proofs.Bounds.{bound_extends}
use Rattle.mv_meaning.proofs.Growing.{Begins-trans}
use Rattle.mv_refine.specs.Environment.{Environment, Wrote}
use Rattle.mv_build.specs.declared.built.Built.{Built}
use Rattle.mv_refine.specs.declared.execution.Execution.{Execution}
use Rattle.mv_refine.specs.Execution.{SameFit, HeardAs, RunsImage, Executes}
use Rattle.mv_refine.specs.Run.{IsDone, StandsAfter, StandsBefore, Runs}
use Rattle.mv_refine.proofs.Cut.{takes_more, outputs_more}
use Rattle.mv_refine.specs.Meant.{DoesAll, DoesPart, KeepsUp, WroteAndTook, IsAnswer, EndsInTime}

-- ---- ends

is_more : (e : End) → ((e ≡ source.More → ⊥) → ⊥) → e ≡ source.More
is_more (source.Exit status) h = absurd (h (λ e. cc))
is_more (source.Trap code) h = absurd (h (λ e. cc))
is_more source.More h = refl

module _ (p : Program) (actions : List Action) (bytes : List ℕ) where
  abbrev end_at : ℕ → End
  end_at k = (mean p bytes actions k).«end»

  later_end : (j k : ℕ) → j ≤ k → (end_at j ≡ source.More → ⊥) → end_at j ≡ end_at k
  later_end j k le ended = ap (λ (m : Meant). m.«end») ((bound_extends p 0 bytes (map act_of actions) j k le).ended ended)

  -- a meaning has one end
  one_end : (j k : ℕ) → (end_at j ≡ source.More → ⊥) → (end_at k ≡ source.More → ⊥) → end_at j ≡ end_at k
  one_end j k ended ended' = ⊎_elim
      (λ (lt : j < k). later_end j k (omega (arith, lt)) ended)
      (λ (le : k ≤ j). sym (later_end k j le ended'))
      (cases_lt j k)

module _ (p : Program) (image : Fields) (before after : Environment) (Heard : List Event → Type 0) (machine : Snapshot) (taken later : List ℕ) (actions : List Action) (picks : List ℕ) (steps : ℕ)
    (behaves : Behaves p image (taken ++ later) (polls_of actions) picks) where
  abbrev bytes : List ℕ
  bytes = taken ++ later

  abbrev state : ℕ → State
  state n = runs image (bytes_to_come bytes) (polls_of actions) picks n

  abbrev meant : Meant
  meant = mean p bytes actions steps

  -- what the run wrote and logged in its first n instructions is what was written and told, it took as much as was taken, and its bindings are the machine's
  record Leaves (n : ℕ) : Type 0 where
    output : Wrote before after (state n).output
    count : taken_of bytes (state n) ≡ length taken
    heard : Heard (state n).log
    bindings : machine.bindings ≡ (state n).bindings
    room : machine.room ≡ (state n).room

  abbrev part : (n : ℕ) → n ≤ steps → Leaves n → DoesPart before after Heard machine taken meant (state n).output
  part n le leaves =
      let within = behaves.within n in
      let extends = bound_extends p 0 bytes (map act_of actions) n steps le in
      let fewer = within.taken in
      let more = extends.taken in
      let count = leaves.count in record {
        begins = Begins-trans (state n).output (mean p bytes actions n).output meant.output within.output extends.output;
        output = leaves.output;
        few = omega (arith, count, fewer, more);
        events = (state n).log;
        logged = Begins-trans (state n).log (mean p bytes actions n).log meant.log within.log extends.log;
        heard = leaves.heard;
      }

  -- a run that has ended is in no commit, so its text is that of its bindings
  all : (e : End) → Leaves steps → ((state steps).stop ≡ Going → ⊥) → IsWhole bytes (state steps) meant e → DoesAll before after Heard machine taken meant image e
  all e leaves over whole = record {
    ending = whole.ending;
    output = subst (Wrote before after) (sym whole.output) leaves.output;
    input = whole.taken ∙ leaves.count;
    bindings = leaves.bindings ∙ sym whole.bindings;
    text = ap (λ (r : Room). r.held.text) leaves.room ∙ (behaves.settled steps (behaves.over steps over)).words ∙ ap (λ bs. text_of image (values_of bs)) (sym whole.bindings);
    heard = subst Heard (sym whole.log) leaves.heard;
  }

  keeps_up : (state steps).stop ≡ Going → KeepsUp p actions bytes steps (state steps).output
  keeps_up going k enough =
      let done = behaves.does steps k enough in
      (is_more (mean p bytes actions k).«end» (λ over. done.ended over going), done.output)

-- ---- which answer comes

module _ (p : Program) (image : Fields) (actions : List Action) (steps : ℕ) (before after : Environment) (Heard : List Event → Type 0) (machine : Snapshot) (taken later : List ℕ) where
  abbrev input : List ℕ
  input = taken ++ later

  same_end : (k : ℕ) (e : End) (stopped : Stopped) → (e ≡ source.More → ⊥) → IsAnswer e stopped → (mean p input actions steps).«end» ≡ e → ((mean p input actions k).«end» ≡ source.More → ⊥) →
      IsAnswer (mean p input actions k).«end» stopped
  same_end k e stopped finished is ending over =
      let same : (mean p input actions steps).«end» ≡ (mean p input actions k).«end» = one_end p actions input steps k (λ more. finished (sym ending ∙ more)) over in
      subst (λ (x : End). IsAnswer x stopped) (sym ending ∙ same) is

  decides : (stopped : Stopped) → WroteAndTook p image actions steps before after Heard machine taken later stopped → EndsInTime p actions steps before after input stopped
  decides (answer.Ended status) d calm_in calm_out k enough over = same_end k (source.Exit status) (answer.Ended status) (λ e. cc) refl d.ending over
  decides (answer.Trapped code) d calm_in calm_out k enough over = same_end k (source.Trap code) (answer.Trapped code) (λ e. cc) refl d.ending over
  decides answer.Steps d calm_in calm_out k enough over = absurd (over (d.2 k enough).0)
  decides answer.InputFault d calm_in calm_out k enough over = absurd (calm_in d.2)
  decides answer.OutputFault d calm_in calm_out k enough over = absurd (calm_out d.2)
  decides (answer.Fault pc why) d calm_in calm_out k enough over = absurd d
  decides answer.Memory d calm_in calm_out k enough over = absurd d

-- ---- what a run of an image does that behaves as a program means

-- the operator's actions that fit the image are what may be taken in hart 0 of the program
fit_act : (p : Program) (a : Action) → act_fits p 0 (act_of a) ≡ fits p a
fit_act p Skip = refl
fit_act p (Flip switch value) = refl

fit_program : (p : Program) (image : Fields) → SameFit p image → (actions : List Action) → All (λ a. IsTrue (image_actions.fits_rows image.switches a)) actions →
    All (λ a. IsTrue (act_fits p 0 a)) (map act_of actions)
fit_program p image same actions fit =
    All-map (λ a. IsTrue (act_fits p 0 a)) act_of actions
    (All-weaker (λ a. IsTrue (image_actions.fits_rows image.switches a)) (λ a. IsTrue (act_fits p 0 (act_of a))) (λ a h. subst IsTrue (same a ∙ sym (fit_act p a)) h) actions fit)

word_act : (a : Action) → IsOfWord a → IsActOfWord (act_of a)
word_act Skip h = h
word_act (Flip switch value) h = h

words_acts : (actions : List Action) → All IsOfWord actions → All IsActOfWord (map act_of actions)
words_acts actions words = All-map IsActOfWord act_of actions (All-weaker IsOfWord (λ a. IsActOfWord (act_of a)) word_act actions words)

-- a snapshot has the bindings of the state that it is kept of
pub kept_bindings : (machine : Snapshot) (s : State) → machine ≡ kept s machine.last → machine.bindings ≡ s.bindings
unfolding kept
kept_bindings machine s is = ap (λ (m : Snapshot). m.bindings) is

kept_room : (machine : Snapshot) (s : State) → machine ≡ kept s machine.last → machine.room ≡ s.room
unfolding kept
kept_room machine s is = ap (λ (m : Snapshot). m.room) is

module _ (p : Program) (image : Fields) (behaves : BehavesAlways p image) (actions : List Action) (words : All IsActOfWord (map act_of actions))
    (fit : All (λ a. IsTrue (act_fits p 0 a)) (map act_of actions)) (steps : ℕ) (before after : Environment) (Heard : List Event → Type 0) (machine : Snapshot)
    (picks taken later : List ℕ) (are : All (λ b. b < 2 ^ 8) (taken ++ later)) where
  abbrev b : Behaves p image (taken ++ later) (polls_of actions) picks
  b = behaves (taken ++ later) (polls_of actions) picks are words fit

  abbrev here : ℕ → State
  here n = runs image (bytes_to_come (taken ++ later)) (polls_of actions) picks n

  leaves : (n : ℕ) → IsDone image (polls_of actions) before after Heard machine picks taken later n → Leaves p image before after Heard machine taken later actions picks steps b n
  leaves n done =
      let left : length (here n).input ≡ length later = ap length done.left ∙ length-map later Some in
      let all = length-append taken later in record {
        output = done.output;
        count = omega (arith, left, all);
        heard = done.heard;
        bindings = kept_bindings machine (here n) done.machine_is;
        room = kept_room machine (here n) done.machine_is;
      }

  ends : EndsRight (taken ++ later) (here steps) (mean p (taken ++ later) actions steps)
  ends = b.ends steps

  over : (stop : Stop) → (stop ≡ Going → ⊥) → StandsAfter image (polls_of actions) before after Heard machine picks taken later stop steps → (here steps).stop ≡ Going → ⊥
  over stop other s going = other (sym s.stops ∙ going)

  -- before a call that failed it is so far
  stuck : (Next : State → ℕ → Type 0) (s : StandsBefore image (polls_of actions) before after Heard machine picks taken later Next steps) →
      DoesPart before after Heard machine taken (mean p (taken ++ later) actions steps) (here s.count).output
  stuck Next s =
      let fewer = s.fewer in
      part p image before after Heard machine taken later actions picks steps b s.count (omega (arith, fewer)) (leaves s.count s.done)

  -- no instruction wants memory
  roomy : StandsBefore image (polls_of actions) before after Heard machine picks taken later WantsMemory steps → ⊥
  roomy s = b.roomy s.count (slice_index picks s.count) s.next

  does : (stopped : Stopped) → Runs image (polls_of actions) before after Heard machine picks taken later steps stopped → WroteAndTook p image actions steps before after Heard machine taken later stopped
  does (answer.Ended status) r =
      let s = r.stands in
      all p image before after Heard machine taken later actions picks steps b (source.Exit status) (leaves steps s.done) (over (Exit status) (λ e. cc) s) (ends.exits status s.stops)
  does (answer.Trapped code) r =
      let s = r.stands in
      all p image before after Heard machine taken later actions picks steps b (source.Trap code) (leaves steps s.done) (over (Trap code) (λ e. cc) s) (ends.traps code s.stops)
  does answer.Steps r =
      let s = r.stands in (
        _,
        part p image before after Heard machine taken later actions picks steps b steps (omega arith) (leaves steps s.done),
        keeps_up p image before after Heard machine taken later actions picks steps b s.stops,
      )
  does answer.InputFault r =
      let s = r.0 in
      (_, stuck (λ s pick. CallsFor s pick Reads) s, r.1, takes_more p image behaves actions words fit taken later are picks s.count steps s.fewer s.done.left s.going s.next)
  does answer.OutputFault r =
      let s = r.0 in
      (_, stuck (λ s pick. CallsFor s pick Writes) s, r.1, outputs_more p image behaves actions words fit taken later are picks s.count steps s.fewer s.going s.next)
  does (answer.Fault pc why) r = ends.faults why r.stands.stops
  does answer.Memory r = roomy r

-- ---- what a run of the image of a program that was built is

pub executes : (built : Built) (actions : List Action) (words : All IsOfWord actions)
    (fit : All (λ a. IsTrue (image_actions.fits_rows built.image.switches a)) actions) (places : Bool) (steps : ℕ) (before after : Environment)
    (Heard : List Event → Type 0) →
    (result : Result Execution AllocError) → RunsImage built.image actions places steps before after Heard result → Executes built actions places steps before after Heard result
executes built actions words fit places steps before after Heard (Ok e) (log, logs, (picks, (taken, lost, each))) = (
  log,
  logs,
  (
    picks,
    (
      taken,
      lost,
      λ later may.
          let p = built.program in
          let image = built.image in
          let runs = each later may in
          let stopped = e.report.stopped in
          let are : AreToldBytes before.input.left → All (λ b. b < 2 ^ 8) (taken ++ later) =
          (λ told. are_bytes before.input.left (taken ++ later) told (may_come before.input.left after.input.left taken later lost may)) in
          let is : BehavesAlways p image → SameFit p image → AreToldBytes before.input.left → WroteAndTook p image actions steps before after (HeardAs Heard log) e.machine taken later stopped =
          (λ behaves same told. does p image behaves actions (words_acts actions words) (fit_program p image same actions fit) steps before after (HeardAs Heard log) e.machine picks taken later (are told) stopped runs.0) in
          record {
            runs = runs.0;
            count = runs.1;
            place = runs.2;
            does = is;
            decides = λ behaves same told. decides p image actions steps before after (HeardAs Heard log) e.machine taken later stopped (is behaves same told);
          },
    ),
  ),
)
executes built actions words fit places steps before after Heard (Err why) none = none
