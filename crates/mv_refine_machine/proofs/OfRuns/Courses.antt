-- The course of a run through main: it ends in a stub, or goes on at least as long as was asked for.
use Rattle.std.proofs.Common.{◌≡◌, ◌⊎◌, inl, inr, ⊎_elim, ℕ, ◌+◌, ◌-◌, ◌*◌, ◌%◌, ◌^◌, ◌<◌, ◌≤◌, zero, suc, Bool, true, false, not, List, [], ◌∷◌, length, Contains, replicate, slice_index_or, Option, Some, None, refl, sym, ap, ◌∙◌, subst, arith}
use Rattle.std.proofs.lemmas.Bool.{cases_lt, and_parts}
use Rattle.std.proofs.lemmas.List.{length-map}
use Rattle.mv_bindings.specs.declared.binding.Binding.{Binding}
use Rattle.mv_ast.specs.declared.program.Program.{Program}
use Rattle.mv_fetch.specs.Held.{choices}
use Rattle.mv_image.specs.Faults.{Rules}
use Rattle.mv_image.specs.Spelling.{Fields}
use Rattle.mv_ir.specs.World.{World}
use Rattle.mv_ir.specs.Outcome.{End, Returned, Trapped, More, Stuck}
use Rattle.mv_ir.specs.Programs as code
use Rattle.mv_ir.specs.Programs.{Ending, executed, execution_of}
use Rattle.mv_ir.specs.Reached.{IsReached}
use Rattle.mv_lower_spec.specs.Programs.Laws.{IsExecution, ending_of}
use Rattle.mv_machine.specs.Acts.{PollActs}
use Rattle.mv_machine.specs.Runs.{State, Stop, Going, Exit, Trap, Fault, bytes_to_come, first as first_state, runs}
use Rattle.mv_meaning.specs.declared.meant.End as meant
use Rattle.mv_meaning.specs.declared.meant.End.TheVariants as source
use Rattle.mv_meaning.specs.declared.meant.Meant.{Meant}
use Rattle.mv_meaning.specs.Growth.{Begins}
use Rattle.mv_meaning.specs.Meaning.{hart_mean}
use Rattle.mv_meaning.proofs.Growing.{Begins-refl}
use Rattle.mv_select_code.specs.Control.Runs.{Machine, outside}
use Rattle.mv_select.specs.Calls.Convention.{Layout, FollowsCall}
use Rattle.mv_refine_machine.specs.MachineRuns.{rest_of, spot_of, has_one_choice, opens, are_open, is_sound}
use Rattle.mv_refine_machine.specs.Stubs.Ends.{HasStopped}
use Rattle.mv_refine_machine.specs.Stubs.Stubs.{return_address, start_steps}
use Rattle.mv_refine_machine.specs.Stores.Laws.{BetweenIsTested, RoomsAreWhole}
use Rattle.mv_refine_machine.specs.Commits.Ends.{EndsQuietly, WatchedExitIsRight, WatchedTrapIsRight}
use Rattle.mv_refine_machine.specs.Commits.Laws.{QuietIsTested}
use Rattle.mv_refine_machine.specs.Commits.Served.{SoundAt, QuietAt}
use Rattle.mv_refine_machine.specs.Commits.Tells.{SoundTells, SoundPlacesTell}
use Rattle.mv_refine_machine.specs.Commits.Watch.{texts_of}
use Rattle.mv_refine_machine.specs.Commits.Watched.{Watched, access, is_quiet, watched_machine}
use Rattle.mv_refine_machine.proofs.OfCommits.Orders.{quiet_inside}
use Rattle.mv_refine_machine.specs.Runs.Behaves.{IsWithin, IsWhole, EndsRight, HasDone, IsTextSettled, IsTextChanging, commit_at, CallsArePlain, Behaves, word_loads, LoadsWhatIsOpen}
use Rattle.mv_refine_machine.specs.Runs.Main.{HasStubs, main_cost, RunsMain}
use Rattle.mv_refine_machine.proofs.OfRuns.Calls.{call_is_plain}
use Rattle.mv_refine_machine.proofs.OfRuns.Growing.{run_grew, going_before}
use Rattle.mv_refine_machine.proofs.OfRuns.Stopping.{none_behind, sound_behind}

-- ---- how the meaning ends where code does

exit_told : (e : meant.End) (status : ℕ) → code.Exited status ≡ ending_of e → e ≡ source.Exit status
exit_told (source.Exit s) status h = let same : status ≡ s = cc in ap source.Exit (sym same)
exit_told (source.Trap c) status h = absurd (cc)
exit_told source.More status h = absurd (cc)

trap_told : (e : meant.End) (c : ℕ) → code.Trapped c ≡ ending_of e → e ≡ source.Trap c
trap_told (source.Exit s) c h = absurd (cc)
trap_told (source.Trap d) c h = let same : c ≡ d = cc in ap source.Trap (sym same)
trap_told source.More c h = absurd (cc)

more_told : (e : meant.End) → code.Unfinished ≡ ending_of e → e ≡ source.More
more_told (source.Exit s) h = absurd (cc)
more_told (source.Trap d) h = absurd (cc)
more_told source.More h = refl

never_stuck : (e : meant.End) → code.Meaningless ≡ ending_of e → ⊥
never_stuck (source.Exit s) h = cc
never_stuck (source.Trap d) h = cc
never_stuck source.More h = cc

-- a state with this stop has ended right
abbrev EndsWith : (bytes : List ℕ) → State → Meant → Stop → Type 0
EndsWith bytes s m Going = Unit {0}
EndsWith bytes s m (Exit status) = IsWhole bytes s m (source.Exit status)
EndsWith bytes s m (Trap code) = IsWhole bytes s m (source.Trap code)
EndsWith bytes s m (Fault why) = ⊥

ends_right : (bytes : List ℕ) (s : State) (m : Meant) → EndsWith bytes s m s.stop → EndsRight bytes s m
ends_right bytes s m right = record {
  exits = λ status e. subst (EndsWith bytes s m) e right;
  traps = λ code e. subst (EndsWith bytes s m) e right;
  faults = λ why e. subst (EndsWith bytes s m) e right;
}

cost_is : (w : World) (cost : ℕ) (e : End) → (execution_of w cost e).cost ≡ cost
cost_is w cost (Returned v u) = refl
cost_is w cost (Trapped c u) = refl
cost_is w cost (More u) = refl
cost_is w cost Stuck = refl

module _ (closed : (pc address : ℕ) → Bool) (s : State) (h : is_sound closed (spot_of s) ≡ true) where
  parts : (has_one_choice (spot_of s) ≡ true) × (are_open (closed s.pc) s.regs (choices s.room.held s.pc) ≡ true)
  parts = and_parts (has_one_choice (spot_of s)) (are_open (closed s.pc) s.regs (choices s.room.held s.pc)) h

  -- a load is from an open address
  opened : (o : Option ℕ) → opens (closed s.pc) o ≡ true → (a : ℕ) → o ≡ Some a → closed s.pc a ≡ false
  opened None e a is = absurd cc
  opened (Some b) e a is = let same : b ≡ a = cc in subst (λ z. closed s.pc z ≡ false) same (shut (closed s.pc b) e)
    where
      shut : (b : Bool) → not b ≡ true → b ≡ false
      shut true e = absurd cc
      shut false e = refl

  loads_open : (words : List ℕ) → are_open (closed s.pc) s.regs words ≡ true → (word : ℕ) → Contains words word → (a : ℕ) → word_loads s.regs word ≡ Some a → closed s.pc a ≡ false
  loads_open [] e word c a is = let few = c.1 in absurd (omega (arith, few))
  loads_open (w ∷ words) e word c a is = at (λ rest. loads_open words p.1 word rest a is) c.0 c.1 c.2
    where
      p : (opens (closed s.pc) (word_loads s.regs w) ≡ true) × (are_open (closed s.pc) s.regs words ≡ true)
      p = and_parts (opens (closed s.pc) (word_loads s.regs w)) (are_open (closed s.pc) s.regs words) e

      at : (Contains words word → closed s.pc a ≡ false) → (k : ℕ) → k < length (w ∷ words) → slice_index_or (w ∷ words) k word ≡ word → closed s.pc a ≡ false
      at others zero lt there = opened (word_loads s.regs w) p.0 a (ap (word_loads s.regs) there ∙ is)
      at others (suc k) lt there = others (k, omega (arith, lt), there)

module _ (bytes : List ℕ) where
  -- a world has taken what is missing of the input
  abbrev Counts : World → Type 0
  Counts w = w.taken + length w.input ≡ length bytes

  -- a meaning did what a world says
  record Says (m : Meant) (w : World) : Type 0 where
    output : m.output ≡ w.output
    taken : m.taken + length w.input ≡ length bytes
    bindings : m.bindings ≡ w.bindings
    log : m.log ≡ w.log

  said : (m : Meant) (ending : Ending) (cost : ℕ) (w : World) → IsExecution m (executed ending cost w) → Counts w → Says m w
  said m ending cost w x counts =
      let taken = x.taken in record { output = sym x.output; taken = omega (arith, taken, counts); bindings = sym x.bindings; log = sym x.log }

  left_over : (input : List (Option ℕ)) (w : World) → input ≡ bytes_to_come w.input → length input ≡ length w.input
  left_over input w e = ap length e ∙ length-map w.input Some

  -- a state that has stopped in the world of a meaning
  module _ (m : Meant) (w : World) (stop : Stop) (s : State) (h : HasStopped w stop (rest_of s)) (says : Says m w) where
    stopped_whole : (ending : meant.End) → m.«end» ≡ ending → IsWhole bytes s m ending
    stopped_whole ending e =
        let taken = says.taken in
        let left = left_over s.input w h.input in
        record { ending = e; output = says.output ∙ sym h.output; taken = omega (arith, taken, left); bindings = says.bindings ∙ sym h.bindings; log = says.log ∙ sym h.log }

    stopped_within : IsWithin bytes s m
    stopped_within =
        let taken = says.taken in
        let left = left_over s.input w h.input in record {
          output = subst (Begins s.output) (h.output ∙ sym says.output) (Begins-refl s.output);
          log = subst (Begins s.log) (h.log ∙ sym says.log) (Begins-refl s.log);
          taken = omega (arith, taken, left);
        }

    stopped_done : (stop ≡ Going → ⊥) → HasDone s m
    stopped_done over = record {
      output = subst (Begins m.output) (says.output ∙ sym h.output) (Begins-refl m.output);
      log = subst (Begins m.log) (says.log ∙ sym h.log) (Begins-refl m.log);
      ended = λ more going. over (sym h.is ∙ going);
    }

-- ---- what a sound place tells of the text of an image

module _ (tested : BetweenIsTested) (rooms : RoomsAreWhole) (closed : (pc address : ℕ) → Bool) (image : Fields) (s : State) where
  settled_told : SoundTells closed (texts_of image) None s → IsTextSettled image s
  settled_told told =
      let text = texts_of image s.bindings in
      let same = (rooms.same text s.room.held).0 ((tested text text s.room.held).0 told.settled) in
      record { words = same.0; older = same.1 ∙ ap (λ (words : List ℕ). replicate (length words) []) (sym same.0) }

  changing_told : (old : List Binding) → SoundTells closed (texts_of image) (Some old) s → IsTextChanging image old s
  changing_told old told = record { words = (tested (texts_of image old) (texts_of image s.bindings) s.room.held).0 told.settled; apart = told.apart old refl }

-- where none can be, none is
none_calls : (under : Option (List Binding)) → ((old : List Binding) → under ≡ Some old → ⊥) → under ≡ None
none_calls None never = refl
none_calls (Some old) never = absurd (never old refl)

-- ---- the run of an image

module _ (quiet_tested : QuietIsTested) (tells : SoundPlacesTell) (tested : BetweenIsTested) (rooms : RoomsAreWhole) (exit_right : WatchedExitIsRight) (trap_right : WatchedTrapIsRight)
    (attributed : List ℕ) (closed : (pc address : ℕ) → Bool) (p : Program) (image : Fields) (bytes : List ℕ) (polls : PollActs) (picks : List ℕ) (y : Layout)
    (rules : Rules image) (plain : CallsArePlain image) (stubs : HasStubs attributed image y) (main : RunsMain attributed closed p image bytes polls picks y) where
  abbrev input : List (Option ℕ)
  input = bytes_to_come bytes

  abbrev start : State
  start = first_state image input polls

  abbrev machine : Machine Watched
  machine = watched_machine attributed closed image input polls picks

  abbrev state : ℕ → State
  state n = runs image input polls picks n

  abbrev under : ℕ → Option (List Binding)
  under n = commit_at image bytes polls picks n

  abbrev IsSound : ℕ → Type 0
  IsSound t = SoundAt closed image start picks t

  abbrev IsQuietAt : World → ℕ → Type 0
  IsQuietAt w t = QuietAt closed image start picks w t

  -- the run ends in a stub as a meaning does
  record Ended (m : Meant) (budget : ℕ) : Type 0 where
    world : World
    last : ℕ
    stop : Stop
    ends : EndsQuietly closed image start picks world last stop
    soon : last ≤ budget + 2
    says : Says bytes m world
    over : stop ≡ Going → ⊥
    right : (s : State) → HasStopped world stop (rest_of s) → EndsWith bytes s m stop

  -- the run goes on at least as long as was asked for, and the meaning is unfinished
  record Late (m : Meant) (budget far : ℕ) : Type 0 where
    world : World
    time : ℕ
    quiet : IsQuietAt world time
    sound : (t : ℕ) → t < time → IsSound t
    soon : time ≤ budget
    asked : far ≤ time
    says : Says bytes m world
    unfinished : m.«end» ≡ source.More

  inside : (w : World) (t : ℕ) → is_quiet image (outside w) (machine.run t).memory ≡ true → IsQuietAt w t
  inside w t calm = quiet_inside image w (machine.run t).memory ((quiet_tested image (outside w) (machine.run t).memory).0 calm)

  -- ---- what follows the call of main

  module _ (budget far spare k : ℕ) (m : Meant) (cost : ℕ) where
    returned : (v : ℕ) (w : World) → IsExecution m (executed (code.Exited (v % 256)) cost w) → Counts bytes w
        → FollowsCall access y machine budget far spare k start_steps return_address (Returned (Some v) w) → Ended m budget
    returned v w x counts f =
        let stands = f.1.stands in
        let paid = f.1.paid in
        let says = said bytes m (code.Exited (v % 256)) cost w x counts in
        let ends = exit_right attributed closed image rules input polls picks stubs.place stubs.entry stubs.main_label stubs.start_ends stubs.start f.0 w
        (record { here = stands.at; quiet = inside w f.0 stands.calm; sound = stands.sound }) in record {
          world = w;
          last = f.0 + 1;
          stop = Exit (v % 2 ^ 8);
          ends = subst (λ (z : ℕ). EndsQuietly closed image start picks w (f.0 + 1) (Exit (z % 2 ^ 8))) f.2 ends;
          soon = omega (arith, paid);
          says = says;
          over = λ e. cc;
          right = λ s h. stopped_whole bytes m w (Exit (v % 2 ^ 8)) s h says (source.Exit (v % 2 ^ 8)) (exit_told m.«end» (v % 256) x.ending);
        }

    trapped : (c : ℕ) (w : World) → IsExecution m (executed (code.Trapped c) cost w) → 1 ≤ c → c ≤ 4 → Counts bytes w
        → FollowsCall access y machine budget far spare k start_steps return_address (Trapped c w) → Ended m budget
    trapped c w x ge le counts f =
        let paid = f.1.paid in
        let placed = stubs.traps c ge le in
        let says = said bytes m (code.Trapped c) cost w x counts in record {
          world = w;
          last = f.0 + 2;
          stop = Trap c;
          ends = trap_right attributed closed image rules input polls picks c ge le stubs.place stubs.entry (y.trap c) (stubs.trap_ends c) placed f.0 w
              (record { here = f.1.at ∙ sym placed.1.label; quiet = inside w f.0 f.1.calm; sound = f.1.sound });
          soon = omega (arith, paid);
          says = says;
          over = λ e. cc;
          right = λ s h. stopped_whole bytes m w (Trap c) s h says (source.Trap c) (trap_told m.«end» c x.ending);
        }

    late : (w : World) → IsExecution m (executed code.Unfinished cost w) → Counts bytes w
        → FollowsCall access y machine budget far spare k start_steps return_address (More w) → Late m budget far
    late w x counts f = record {
      world = w;
      time = f.0;
      quiet = inside w f.0 f.1.calm;
      sound = f.1.sound;
      soon = f.1.paid;
      asked = f.1.asked;
      says = said bytes m code.Unfinished cost w x counts;
      unfinished = more_told m.«end» x.ending;
    }

    goes : (e : End) → IsExecution m (execution_of main.first cost e) → IsReached main.first e → ((w : World) → e ≡ Returned None w → ⊥)
        → FollowsCall access y machine budget far spare k start_steps return_address e → Ended m budget ⊎ Late m budget far
    goes (Returned None w) x reached valued f = absurd (valued w refl)
    goes (Returned (Some v) w) x reached valued f = inl (returned v w x (reached ∙ main.input) f)
    goes (Trapped c w) x reached valued f = inl (trapped c w x reached.0 reached.1 (reached.2 ∙ main.input) f)
    goes (More w) x reached valued f = inr (late w x (reached ∙ main.input) f)
    goes Stuck x reached valued f = absurd (never_stuck m.«end» x.ending)

  abbrev meaning : ℕ → Meant
  meaning k = hart_mean p polls.hart bytes polls.acts k

  -- what is left for main is enough for what its call costs
  abbrev main_budget : ℕ → ℕ
  main_budget k = main_cost + (20 + 100 * (meaning k).work)

  course : (budget far k : ℕ) → start_steps + main_budget k ≤ budget → far ≤ start_steps + k → Ended (meaning k) budget ⊎ Late (meaning k) budget far
  course budget far k paid asked =
      let c = main.calls budget far k in
      let is = cost_is main.first c.call.cost c.call.end in
      let dear = c.means.paid in
      goes budget far 0 k (meaning k) c.call.cost c.call.end c.means c.reached c.returns (c.follows 0 (omega (arith, paid, is, dear)) asked)

  -- ---- before a calm time and at it

  module _ (m : Meant) (w : World) (t : ℕ) (quiet : IsQuietAt w t) (says : Says bytes m w) where
    calm_within : (n : ℕ) → n ≤ t → IsWithin bytes (state n) m
    calm_within n le =
        let calm = quiet.calm in
        let g = run_grew (first_state image input polls) picks n t le in
        let fewer = g.input in
        let taken = says.taken in
        let left = left_over bytes (state t).input w calm.input in record {
          output = subst (Begins (state n).output) (calm.output ∙ sym says.output) g.output;
          log = subst (Begins (state n).log) (calm.log ∙ sym says.log) g.log;
          taken = omega (arith, fewer, taken, left);
        }

    calm_going : (n : ℕ) → n ≤ t → (state n).stop ≡ Going
    calm_going n le = going_before (first_state image input polls) picks n t le quiet.calm.goes_on

    calm_done : (n : ℕ) → t ≤ n → m.«end» ≡ source.More → HasDone (state n) m
    calm_done n le more =
        let calm = quiet.calm in
        let g = run_grew (first_state image input polls) picks t n le in record {
          output = subst (λ o. Begins o (state n).output) (calm.output ∙ sym says.output) g.output;
          log = subst (λ o. Begins o (state n).log) (calm.log ∙ sym says.log) g.log;
          ended = λ finished going. finished more;
        }

  -- ---- at the bound n, after n instructions

  module _ (n : ℕ) where
    abbrev budget : ℕ
    budget = start_steps + main_budget n

    run_goes : Ended (meaning n) budget ⊎ Late (meaning n) budget (n + 1)
    run_goes = course budget (n + 1) n (omega arith) (omega arith)

    ended_within : Ended (meaning n) budget → IsWithin bytes (state n) (meaning n)
    ended_within e = ⊎_elim
        (λ (lt : e.last < n). stopped_within bytes (meaning n) e.world e.stop (state n) (e.ends.stopped n lt) e.says)
        (λ (le : n ≤ e.last). calm_within (meaning n) e.world e.last e.ends.quiet e.says n le)
        (cases_lt e.last n)

    late_within : Late (meaning n) budget (n + 1) → IsWithin bytes (state n) (meaning n)
    late_within l = let asked = l.asked in calm_within (meaning n) l.world l.time l.quiet l.says n (omega (arith, asked))

    within : IsWithin bytes (state n) (meaning n)
    within = ⊎_elim ended_within late_within run_goes

    abbrev Right : Stop → Type 0
    Right = EndsWith bytes (state n) (meaning n)

    -- behind its end it doesn't go on
    stops_behind : (e : Ended (meaning n) budget) → (state (e.last + 1)).stop ≡ Going → ⊥
    stops_behind e going = e.over (sym (e.ends.stopped (e.last + 1) (omega arith)).is ∙ going)

    ended_right : Ended (meaning n) budget → Right (state n).stop
    ended_right e = ⊎_elim
        (λ (lt : e.last < n). let h = e.ends.stopped n lt in subst Right (sym h.is) (e.right (state n) h))
        (λ (le : n ≤ e.last). subst Right (sym (calm_going (meaning n) e.world e.last e.ends.quiet e.says n le)) tt)
        (cases_lt e.last n)

    late_right : Late (meaning n) budget (n + 1) → Right (state n).stop
    late_right l = let asked = l.asked in subst Right (sym (calm_going (meaning n) l.world l.time l.quiet l.says n (omega (arith, asked)))) tt

    right : Right (state n).stop
    right = ⊎_elim ended_right late_right run_goes

    ended_sound : Ended (meaning n) budget → IsSound n
    ended_sound e = ⊎_elim
        (λ (lt : e.last < n).
        sound_behind start picks e.last e.ends.quiet.calm.goes_on e.ends.quiet.under (stops_behind e) closed image (e.ends.sound e.last (omega arith)) n lt)
        (λ (le : n ≤ e.last). e.ends.sound n le)
        (cases_lt e.last n)

    late_sound : Late (meaning n) budget (n + 1) → IsSound n
    late_sound l = let asked = l.asked in l.sound n (omega (arith, asked))

    sound : IsSound n
    sound = ⊎_elim ended_sound late_sound run_goes

    told : SoundTells closed (texts_of image) (under n) (state n)
    told = tells closed (texts_of image) (under n) (state n) sound

    -- a run that has ended has no commit under way
    ended_none : Ended (meaning n) budget → ((state n).stop ≡ Going → ⊥) → under n ≡ None
    ended_none e over = ⊎_elim
        (λ (lt : e.last < n). none_behind start picks e.last e.ends.quiet.calm.goes_on e.ends.quiet.under (stops_behind e) n lt)
        (λ (le : n ≤ e.last). absurd (over (calm_going (meaning n) e.world e.last e.ends.quiet e.says n le)))
        (cases_lt e.last n)

    late_none : Late (meaning n) budget (n + 1) → ((state n).stop ≡ Going → ⊥) → under n ≡ None
    late_none l over = let asked = l.asked in absurd (over (calm_going (meaning n) l.world l.time l.quiet l.says n (omega (arith, asked))))

    none : ((state n).stop ≡ Going → ⊥) → under n ≡ None
    none = ⊎_elim ended_none late_none run_goes

  -- ---- all that is meant is done in time

  done : (n k : ℕ) → 100 * (1 + (meaning k).work) ≤ n → HasDone (state n) (meaning k)
  done n k le = ⊎_elim ended late' (course (n - start_steps) 0 k (omega (arith, le)) (omega arith))
    where
      ended : Ended (meaning k) (n - start_steps) → HasDone (state n) (meaning k)
      ended e =
          let soon = e.soon in stopped_done bytes (meaning k) e.world e.stop (state n) (e.ends.stopped n (omega (arith, soon, le))) e.says e.over

      late' : Late (meaning k) (n - start_steps) 0 → HasDone (state n) (meaning k)
      late' l = let soon = l.soon in calm_done (meaning k) l.world l.time l.quiet l.says n (omega (arith, soon)) l.unfinished

  -- a sound place with the commit that is under way there
  told_under : (n : ℕ) (u : Option (List Binding)) → under n ≡ u → SoundTells closed (texts_of image) u (state n)
  told_under n u e = subst (λ v. SoundTells closed (texts_of image) v (state n)) e (told n)

  pub behaves : Behaves p image bytes polls picks × LoadsWhatIsOpen image closed bytes polls picks
  behaves = (
    record {
      within = within;
      ends = λ n. ends_right bytes (state n) (meaning n) (right n);
      does = done;
      fetches = λ n going. (told n).one;
      settled = λ n e. settled_told tested rooms closed image (state n) (told_under n None e);
      between = λ n old e. changing_told tested rooms closed image (state n) old (told_under n (Some old) e);
      over = none;
      calls = λ n e.
          let none = none_calls (under n) (λ old is. (told n).calls old is e) in
          (none, call_is_plain image plain (state n) (settled_told tested rooms closed image (state n) (told_under n None none)) (told n).one e);
      roomy = λ n pick. (told n).roomy pick;
    },
    λ n a going word c is.
        let open_there = (told n).unbarred in
        loads_open closed (state n) open_there (choices (state n).room.held (state n).pc) (parts closed (state n) open_there).1 word c a is,
  )
