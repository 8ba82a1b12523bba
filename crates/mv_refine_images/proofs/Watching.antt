-- On the machine that tells which commit is under way, code runs that may load what is open at the words that are never patched.
use Rattle.std.proofs.Common.{◌≡◌, ℕ, Bool, true, false, ◌&&◌, not, cond, leb, ltb, List, [], ◌∷◌, Option, Some, None, is_some, option_and_then, refl, sym, ap, ap₂, ◌∙◌, subst}
use Rattle.mv_bindings.specs.declared.binding.Binding.{Binding}
use Rattle.mv_isa.specs.Encoding.{decode}
use Rattle.mv_isa.specs.Execution.{Access, Goes, step}
use Rattle.mv_fetch.specs.Held.{choices}
use Rattle.mv_image.specs.Spelling.{Fields}
use Rattle.mv_image.specs.Faults.{Rules}
use Rattle.mv_ir.specs.World.{World}
use Rattle.mv_machine.specs.Acts.{PollActs}
use Rattle.mv_machine.specs.Runs.{first}
use Rattle.mv_select_code.specs.Statements.Frames.{Site}
use Rattle.mv_select_code.specs.Statements.Leads.{limited}
use Rattle.mv_select_code.specs.Control.Runs.{Spot, Machine, LeadsOn, IsRun}
use Rattle.mv_select.specs.Functions.Functions.{IsOpen, alone}
use Rattle.mv_select.specs.Functions.Loads.{loads_from}
use Rattle.mv_refine_machine.specs.Calm.{Rest}
use Rattle.mv_refine_machine.specs.Layout.{OwnOutsideText}
use Rattle.mv_refine_machine.specs.MachineRuns.{has_one_choice, opens, are_open, unpatched_word, machine_text}
use Rattle.mv_refine_machine.proofs.OnRuns.{in_part}
use Rattle.mv_refine_machine.specs.Commits.Watch.{texts_of, keeps_text, is_sound}
use Rattle.mv_refine_machine.specs.Commits.Watched.{Watched, access, plain_spot, spot_at, watched_machine}
use Rattle.mv_refine_machine.specs.Commits.WatchedRuns.{WatchedRunsAreRunsAlone}
use Rattle.mv_refine_images.specs.Programs.Hosts.{IsOpenIn}

-- what is closed to words that are never patched
abbrev unpatched : Fields → (closed : (pc address : ℕ) → Bool) → (pc address : ℕ) → Bool
unpatched image closed pc a = is_some (unpatched_word image pc) && closed pc a

-- a step that goes on has a word
has_word : {M : Type 0} (access : Access M) (word : Option ℕ) (regs : List ℕ) (pc : ℕ) (m : M) (next : Spot M) → step access word regs pc m ≡ Goes next.regs next.pc next.memory → (w : ℕ) × (word ≡ Some w)
has_word access None regs pc m next e = absurd (cc)
has_word access (Some w) regs pc m next e = (w, refl)

module _ (image : Fields) (closed : (pc address : ℕ) → Bool) (pc word : ℕ) (stands : unpatched_word image pc ≡ Some word) where
  same_closed : (a : ℕ) → unpatched image closed pc a ≡ closed pc a
  same_closed a = ap (λ (o : Option ℕ). is_some o && closed pc a) stands

  same_opens : (o : Option ℕ) → opens (unpatched image closed pc) o ≡ opens (closed pc) o
  same_opens None = refl
  same_opens (Some a) = ap not (same_closed a)

  same_open : (regs words : List ℕ) → are_open (unpatched image closed pc) regs words ≡ are_open (closed pc) regs words
  same_open regs [] = refl
  same_open regs (w ∷ words) = ap₂ ◌&&◌ (same_opens (option_and_then (λ i. loads_from i regs) (decode w))) (same_open regs words)

  same_sound : (texts : List Binding → List ℕ) (under : Option (List Binding)) (spot : Spot Rest) → spot.pc ≡ pc → is_sound (unpatched image closed) texts under spot ≡ is_sound closed texts under spot
  unfolding is_sound
  same_sound texts under spot here =
      ap (λ (b : Bool). (has_one_choice spot && b) && keeps_text texts under spot)
      (subst (λ z. are_open (unpatched image closed z) spot.regs (choices spot.memory.room.held spot.pc) ≡ are_open (closed z) spot.regs (choices spot.memory.room.held spot.pc)) (sym here)
      (same_open spot.regs (choices spot.memory.room.held spot.pc)))

module _ (runs_alone : WatchedRunsAreRunsAlone) (attributed : List ℕ) (closed : (pc address : ℕ) → Bool) (image : Fields) (rules : Rules image) (input : List (Option ℕ)) (polls : PollActs)
    (picks : List ℕ) (from to : ℕ) (s : Site) (out : OwnOutsideText s) (free : IsOpenIn (machine_text attributed image) closed from to s.reach) where
  abbrev machine : ((pc address : ℕ) → Bool) → Machine Watched
  machine c = alone (watched_machine attributed c image input polls picks) from to

  open_there : IsOpen (unpatched image closed) from to s.reach
  open_there pc a le lt may = by (unpatched_word image pc) refl
    where
      by : (o : Option ℕ) → unpatched_word image pc ≡ o → (is_some o && closed pc a) ≡ false
      by None e = refl
      by (Some word) e = free pc a word le lt e may

  run : IsRun access s (machine (unpatched image closed))
  run = runs_alone attributed (unpatched image closed) image rules input polls picks from to s out open_there

  led : (i : ℕ) (w : World) (next : Spot Watched) → LeadsOn access s (machine closed) i w next → LeadsOn access s (machine (unpatched image closed)) i w next
  led i w next h = record { calm = h.calm; steps = h.steps; writes = h.writes }

  sound : (i : ℕ) (w : World) (next : Spot Watched) → LeadsOn access s (machine closed) i w next → (machine closed).is_sound ((machine closed).run i) ≡ true
  sound i w next h =
      let now = spot_at (first image input polls) picks i in
      let found = has_word (limited access s) (cond (leb from now.pc && ltb now.pc to) (unpatched_word image now.pc) None) now.regs now.pc now.memory next h.steps in
      let stands = (in_part (leb from now.pc) (ltb now.pc to) (unpatched_word image now.pc) found.0 found.1).2 in
      sym (same_sound image closed now.pc found.0 stands (texts_of image) now.memory.under (plain_spot now) refl) ∙ run.sound i w next (led i w next h)

  pub runs_openly : IsRun access s (machine closed)
  runs_openly = record { registers = run.registers; goes = λ i w next h. run.goes i w next (led i w next h); sound = sound; stays = λ i w next h. run.stays i w next (led i w next h) }
