-- The machine's run is one on which code runs.
use Rattle.std.proofs.Common.{◌≡◌, inl, inr, ℕ, ◌+◌, Bool, true, false, ◌&&◌, cond, eqb, leb, ltb, List, [], ◌∷◌, length, slice_index, Option, Some, None, refl, sym, ap, subst, ◌∙◌}
use Rattle.std.proofs.lemmas.Bool.{leb-true, ltb-true}
use Rattle.mv_machine.specs.Acts.{PollActs}
use Rattle.mv_fetch.specs.Held.{Room, choices}
use Rattle.mv_image.specs.Spelling.{Fields}
use Rattle.mv_ir.specs.World.{World}
use Rattle.mv_isa.specs.Execution.{Goes, Outcome, step}
use Rattle.mv_rv32.specs.Stepping.{access as room_access}
use Rattle.mv_machine.specs.Runs.{State, fetched_step, first, runs}
use Rattle.mv_machine.proofs.Turns.{runs_more, turn_by}
use Rattle.mv_select_code.specs.Statements.Frames.{Site, address}
use Rattle.mv_select_code.specs.Statements.Leads.{limited, Writes}
use Rattle.mv_select_code.specs.Control.Placed.{Text}
use Rattle.mv_select_code.specs.Control.Runs.{Spot, Machine, outside, LeadsOn, IsRun}
use Rattle.mv_select.specs.Functions.Functions.{part}
use Rattle.mv_refine_machine.specs.Calm.{Rest, IsCalm}
use Rattle.mv_refine_machine.specs.MachineRuns.{access, rest_of, spot_of, unpatched_word, bound_word, has_one_choice, is_sound, machine_of, machine_text}
use Rattle.mv_refine_machine.specs.Steps.{LeadsUnder, StepsAreTaken}
use Rattle.mv_refine_machine.specs.Layout.{OwnOutsideText}
use Rattle.mv_refine_machine.specs.Laws.{RunsAreRuns, RunsAreRunsAlone}
use Rattle.mv_refine_machine.proofs.Steps.{Went, step_beside, goes_beside}
use Rattle.mv_refine_machine.proofs.Registers.{run_registers}
use Rattle.mv_refine_machine.proofs.Memory.{store_keeps}
use Rattle.mv_refine_machine.proofs.Calming.{calm_told, calm_tested, calm_kept}
use Rattle.mv_refine_machine.proofs.Fetches.{unpatched_stands, calm_choice, fetches_one}
use Rattle.mv_refine_machine.proofs.Open.{steps_sound}
use Rattle.mv_select_code.proofs.OfControl.Reading.{step_over}

-- a step that goes on has a word
pub has_word : (word : Option ℕ) (regs : List ℕ) (pc : ℕ) (m : Rest) (next : Spot Rest) → step access word regs pc m ≡ Goes next.regs next.pc next.memory → (w : ℕ) × (word ≡ Some w)
has_word None regs pc m next e = absurd (cc)
has_word (Some w) regs pc m next e = (w, refl)

module _ (image : Fields) (input : List (Option ℕ)) (polls : PollActs) (picks : List ℕ) (s : Site) where
  abbrev Leads : ℕ → World → Spot Rest → Type 0
  Leads = LeadsUnder image input polls picks s

  abbrev at : ℕ → State
  at i = runs image input polls picks i

  -- the one word that is fetched, and where its step leads
  record Led (i : ℕ) (next : Spot Rest) : Type 0 where
    word : ℕ
    one : choices (at i).room.held (at i).pc ≡ word ∷ []
    went : Went (rest_of (at i)) (step room_access (Some word) (at i).regs (at i).pc (at i).room) next.regs next.pc next.memory

  led : (i : ℕ) (w : World) (next : Spot Rest) → Leads i w next → Led i next
  led i w next h =
      let found = has_word (bound_word image w (at i).pc) (at i).regs (at i).pc (rest_of (at i)) next h.steps in
      let steps = ap (λ x. step access x (at i).regs (at i).pc (rest_of (at i))) (sym found.1) ∙ h.steps in record {
        word = found.0;
        one = calm_choice image w (rest_of (at i)) (at i).pc found.0 h.calm found.1;
        went = goes_beside (rest_of (at i)) (step room_access (Some found.0) (at i).regs (at i).pc (at i).room) next.regs next.pc next.memory
            (sym (step_beside (Some found.0) (at i).regs (at i).pc (rest_of (at i))) ∙ steps);
      }

  goes : (i : ℕ) (w : World) (next : Spot Rest) → Leads i w next → spot_of (at (i + 1)) ≡ next
  goes i w next h =
      let l = led i w next h in
      let outcome : Outcome Room = Goes next.regs next.pc l.went.room in
      let fetched : fetched_step (at i) (slice_index picks i) ≡ outcome = fetches_one (at i) (slice_index picks i) l.word l.one ∙ l.went.goes in
      ap spot_of (runs_more (first image input polls) picks i ∙ turn_by (at i) (slice_index picks i) outcome h.calm.goes_on fetched)
      ∙ ap (λ (m : Rest). record next { memory = m }) (sym l.went.rest)

  sound : (i : ℕ) (w : World) (next : Spot Rest) → Leads i w next → has_one_choice (spot_of (at i)) ≡ true
  sound i w next h = let l = led i w next h in ap (λ (words : List ℕ). eqb (length words) 1) l.one

  module _ (out : OwnOutsideText s) where
    written : (w : World) (m m' : Rest) → Writes access s m m' → IsCalm image w m → IsCalm image w m'
    written w m m' (inl same) calm = subst (λ x. IsCalm image w x) (sym same) calm
    written w m m' (inr x) calm = calm_kept image w m m' (store_keeps m m' (address s x.0) x.1 (out x.0 x.2 x.3) x.5) calm

    pub steps_are_taken : StepsAreTaken image input polls picks s
    steps_are_taken = record { goes = goes; sound = sound; stays = λ i w next h. written w (rest_of (at i)) next.memory h.writes h.calm }

-- ---- a machine whose text has words that are never patched

module _ (attributed : List ℕ) (closed : (pc address : ℕ) → Bool) (image : Fields) (input : List (Option ℕ)) (polls : PollActs) (picks : List ℕ) (s : Site) (out : OwnOutsideText s) (text : Text)
    (inside : (a word : ℕ) → text.word a ≡ Some word → unpatched_word image a ≡ Some word)
    (free : (pc word a : ℕ) → text.word pc ≡ Some word → s.reach.may_load a ≡ true → closed pc a ≡ false) where
  abbrev machine : Machine Rest
  machine = record (machine_of attributed closed image input polls picks) { text = text }

  abbrev now : ℕ → State
  now i = runs image input polls picks i

  -- the word of the text, which stands there under the bindings, and its step
  record Shown (i : ℕ) (w : World) (next : Spot Rest) : Type 0 where
    word : ℕ
    there : text.word (now i).pc ≡ Some word
    step_on : step (limited access s) (Some word) (now i).regs (now i).pc (rest_of (now i)) ≡ Goes next.regs next.pc next.memory
    leads : Leads image input polls picks s i (outside w) next

  shown : (i : ℕ) (w : World) (next : Spot Rest) → LeadsOn access s machine i w next → Shown i w next
  shown i w next h =
      let whole = step_over access s.reach.may_load (now i).regs (now i).pc (rest_of (now i)) next.regs next.pc next.memory (text.word (now i).pc) h.steps in
      let found = has_word (text.word (now i).pc) (now i).regs (now i).pc (rest_of (now i)) next whole in
      let same = unpatched_stands image (outside w) (now i).pc found.0 (inside (now i).pc found.0 found.1) ∙ sym found.1 in record {
        word = found.0;
        there = found.1;
        step_on = ap (λ x. step (limited access s) x (now i).regs (now i).pc (rest_of (now i))) (sym found.1) ∙ h.steps;
        leads = record {
          calm = calm_told image (outside w) (rest_of (now i)) h.calm;
          steps = ap (λ x. step access x (now i).regs (now i).pc (rest_of (now i))) same ∙ whole;
          writes = h.writes;
        };
      }

  sound_there : (i : ℕ) (w : World) (next : Spot Rest) → LeadsOn access s machine i w next → is_sound closed (spot_of (now i)) ≡ true
  sound_there i w next h =
      let r = shown i w next h in
      let stands = unpatched_stands image (outside w) (now i).pc r.word (inside (now i).pc r.word r.there) in
      let one = calm_choice image (outside w) (rest_of (now i)) (now i).pc r.word r.leads.calm stands in
      steps_sound access (rest_of (now i)) s.reach.may_load closed (spot_of (now i)) r.word next.regs next.pc next.memory one r.step_on (λ a may. free (now i).pc r.word a r.there may)

  pub runs_in : IsRun access s machine
  runs_in = record {
    registers = run_registers image input polls picks;
    goes = λ i w next h. goes image input polls picks s i (outside w) next (shown i w next h).leads;
    sound = sound_there;
    stays = λ i w next h.
        let r = (shown i w next h).leads in calm_tested image (outside w) next.memory (written image input polls picks s out (outside w) (rest_of (now i)) next.memory r.writes r.calm);
  }

-- what stands in a part of a text stands there, and lies within
pub in_part : (b c : Bool) (o : Option ℕ) (word : ℕ) → cond (b && c) o None ≡ Some word → (b ≡ true) × (c ≡ true) × (o ≡ Some word)
in_part true true o word h = (refl, refl, h)
in_part true false o word h = absurd cc
in_part false c o word h = absurd cc

pub runs_are : RunsAreRuns
runs_are attributed closed image input polls picks s out free =
    runs_in attributed closed image input polls picks s out (machine_text attributed image) (λ a word h. h) (λ pc word a there may. free pc a may)

pub runs_are_alone : RunsAreRunsAlone
runs_are_alone attributed closed image input polls picks from to s out free =
    runs_in attributed closed image input polls picks s out (part from to (machine_text attributed image)) (λ a word h. (in_part (leb from a) (ltb a to) (unpatched_word image a) word h).2)
    (λ pc word a there may.
    let p = in_part (leb from pc) (ltb pc to) (unpatched_word image pc) word there in
    free pc a (leb-true from pc p.0) (ltb-true pc to p.1) may)
