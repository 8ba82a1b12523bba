-- The run whose memory tells the commit that is under way is one on which code runs.
use Rattle.std.proofs.Common.{◌≡◌, ⊎_elim, ◌⊎◌, inl, inr, ℕ, add-one, ◌+◌, ◌-◌, ◌*◌, ◌/◌, ◌%◌, ◌<◌, ◌≤◌, Bool, true, false, ◌&&◌, not, cond, eqb, leb, ltb, List, [], ◌∷◌, length, slice_get, slice_index, Option, Some, None, option_map, Err, refl, sym, ap, ap₂, ◌∙◌, subst, arith, length-set}
use Rattle.std.specs.Prelude.{option_and_then, if◌then◌else◌}
use Rattle.std.specs.Result.{result_ok}
use Rattle.std.proofs.lemmas.Bool.{and_parts, and_from, ltb-true, ltb-false, leb-true, ne_eqb, cases_lt, lt-ltb, le-ltb}
use Rattle.std.proofs.lemmas.Option.{slice_get_within, get_or_from_slice_get, slice_get-get_or}
use Rattle.mv_num.specs.Words.{add, word_of}
use Rattle.mv_bindings.specs.declared.binding.Binding.{Binding}
use Rattle.mv_isa.specs.declared.instr.Instr.{Instr}
use Rattle.mv_isa.specs.declared.instr.Instr.TheVariants.{Sb, Sh, Sw, FenceI, Ecall}
use Rattle.mv_isa.specs.Encoding.{decode}
use Rattle.mv_isa.specs.Execution.{Outcome, Goes, reg, stored, stores, decoded, execute, step}
use Rattle.mv_fetch.specs.declared.memory.AccessError.TheVariants.{Misaligned}
use Rattle.mv_fetch.specs.Held.{Room, IsInText, region_of, index_of, present, joined, with_word, found, store, older_at, choices}
use Rattle.mv_fetch.specs.Stores.{spared}
use Rattle.mv_rv32.specs.Stepping.{access as room_access, with_held, target, picked_target, word_target, picked_step}
use Rattle.mv_image.specs.Spelling.{Fields}
use Rattle.mv_image.specs.Faults.{Rules}
use Rattle.mv_image.specs.Patched.{word_under}
use Rattle.mv_image.proofs.PatchLaws.{text_size, text_at}
use Rattle.mv_patch.specs.Orders.{values_of}
use Rattle.mv_ir.specs.World.{World}
use Rattle.mv_machine.specs.Acts.{PollActs}
use Rattle.mv_machine.specs.Runs.{State, first, runs_from, choices_at, fetched_step, is_going}
use Rattle.mv_machine.specs.Commits.{after_instr, commit_from}
use Rattle.mv_machine.proofs.Turns.{runs_more, turn_by}
use Rattle.mv_select_code.specs.Statements.Frames.{Site, address}
use Rattle.mv_select_code.specs.Statements.Leads.{Writes, limited}
use Rattle.mv_select_code.specs.Control.Placed.{Text}
use Rattle.mv_select_code.specs.Control.Runs.{Spot, Machine, outside, LeadsOn, IsRun}
use Rattle.mv_select_code.proofs.OfControl.Reading.{step_over}
use Rattle.mv_select.specs.Functions.Functions.{part}
use Rattle.mv_select.specs.Slots.Narrowed.{narrowed, has_bindings, words_alone}
use Rattle.mv_select.proofs.OfSlots.Bindings.{bindings_are_told}
use Rattle.mv_refine_machine.specs.Layout.{IsOutsideText, OwnOutsideText}
use Rattle.mv_refine_machine.specs.MachineRuns.{machine_text, unpatched_word, image_word, bound_word}
use Rattle.mv_refine_machine.specs.MachineRuns as runs
use Rattle.mv_refine_machine.specs.Under.{words_under}
use Rattle.mv_refine_machine.proofs.Fetches.{standing}
use Rattle.mv_refine_machine.proofs.OnRuns.{in_part}
use Rattle.mv_refine_machine.proofs.Open.{executes_allowed}
use Rattle.mv_refine_machine.proofs.Under.{same_words}
use Rattle.mv_refine_machine.specs.Stores.Between.{IsBetween, IsSettled, is_between}
use Rattle.mv_refine_machine.specs.Commits.Watch.{texts_of, into_text, keeps_text, is_sound}
use Rattle.mv_refine_machine.specs.Commits.Watched.{Watched, access, watched, put_room, IsQuiet, is_quiet, plain_spot, spot_at, watched_machine}
use Rattle.mv_refine_machine.specs.Commits.WatchedRuns.{LeadsBound, WatchedStepsTaken, WatchedStepsAreTaken, WatchedRunsAreRuns, WatchedRunsAreRunsAlone, WatchedRunsAreRunsUnder}
use Rattle.mv_refine_machine.specs.Commits.Known.{Known}
use Rattle.mv_refine_machine.proofs.OfCommits.Beside.{step_beside, goes_beside}
use Rattle.mv_refine_machine.proofs.OfCommits.Quiet.{quiet_told, quiet_tested}
use Rattle.mv_refine_machine.proofs.OfCommits.Served.{in_globals, in_stack}
use Rattle.mv_refine_machine.proofs.OfCommits.Unbarred.{unbarred}
use Rattle.mv_refine_machine.proofs.OfCommits.WatchedRun.{watched_run}

-- ---- stores

-- what a store outside text leaves of the rest
record KeepsText (r r' : Room) : Type 0 where
  text : r'.held.text ≡ r.held.text
  older : r'.held.older ≡ r.held.older
  stack : length r'.held.stack ≡ length r.held.stack
  plan : r'.held.plan ≡ r.held.plan
  spare : r'.spare ≡ r.spare
  reserve : r'.reserve ≡ r.reserve

globals_keep : (r : Room) (k old new : ℕ) → KeepsText r (with_held 0x0010_0000 r (with_word r.held (region_of 0x0010_0000) k old new))
unfolding region_of
globals_keep r k old new = record { text = refl; older = refl; stack = refl; plan = refl; spare = refl; reserve = refl }

stack_keeps : (r : Room) (k old new : ℕ) → KeepsText r (with_held 0x0020_0000 r (with_word r.held (region_of 0x0020_0000) k old new))
unfolding region_of
stack_keeps r k old new = record { text = refl; older = refl; stack = length-set r.held.stack k new; plan = refl; spare = refl; reserve = refl }

put_keeps : (r : Room) (a k old new : ℕ) → IsOutsideText a → KeepsText r (with_held a r (with_word r.held (region_of a) k old new))
put_keeps r a k old new out = ⊎_elim
    (λ (lt : a < 0x0020_0000). subst (λ g. KeepsText r (record { held = with_word r.held g k old new; spare = spared g r.spare; reserve = r.reserve })) (sym (in_globals a out.0 lt)) (globals_keep r k old new))
    (λ (ge : 0x0020_0000 ≤ a). subst (λ g. KeepsText r (record { held = with_word r.held g k old new; spare = spared g r.spare; reserve = r.reserve })) (sym (in_stack a ge out.1)) (stack_keeps r k old new))
    (cases_lt a 0x0020_0000)

store_parts : (r r' : Room) (a v : ℕ) (b : Bool) (o : Option ℕ) → IsOutsideText a
    → option_map (with_held a r) (result_ok (cond b (found a o (λ w. with_word r.held (region_of a) (index_of a) w (joined a 4 w v))) (Err (Misaligned a)))) ≡ Some r' → KeepsText r r'
store_parts r r' a v true (Some w) out e =
    let same : with_held a r (with_word r.held (region_of a) (index_of a) w (joined a 4 w v)) ≡ r' = cc in
    subst (KeepsText r) same (put_keeps r a (index_of a) w (joined a 4 w v) out)
store_parts r r' a v true None out e = absurd (cc)
store_parts r r' a v false o out e = absurd (cc)

store_keeps : (r r' : Room) (a v : ℕ) → IsOutsideText a → room_access.store r a 4 v ≡ Some r' → KeepsText r r'
unfolding room_access store
store_keeps r r' a v out e = store_parts r r' a v (eqb (a % 4) 0) (present r.held a) out e

-- where text was kept, calm stays
quiet_kept : (image : Fields) (w : World) (m : Watched) (r : Room) → KeepsText m.rest.room r → IsQuiet image w m → IsQuiet image w (put_room m r)
quiet_kept image w m r k h = record {
  calm = record {
    goes_on = h.calm.goes_on;
    text = k.text ∙ h.calm.text;
    no_older = λ i. ap (λ older. older_at older i) k.older ∙ h.calm.no_older i;
    stack = k.stack ∙ h.calm.stack;
    input = h.calm.input;
    output = h.calm.output;
    bindings = h.calm.bindings;
    log = h.calm.log;
  };
  settled = record { text = k.text ∙ h.settled.text; older = k.older ∙ h.settled.older; spare = k.spare ∙ h.settled.spare ∙ sym k.reserve };
  reserve = k.reserve ∙ h.reserve;
  plan = ap (λ (xs : List ℕ). length xs) k.plan ∙ h.plan;
  under = h.under;
  hart = h.hart;
  actions = h.actions;
}

-- the store of the whole memory is one of the room
stored_room : (m m' : Watched) (o : Option Room) → option_map (put_room m) o ≡ Some m' → (r : Room) × (o ≡ Some r) × (m' ≡ put_room m r)
stored_room m m' None e = absurd (cc)
stored_room m m' (Some r) e = (r, refl, cc)

-- ---- which instructions store

-- a step that goes on with an instruction that stores did store
stores_into : (i : Instr) (regs : List ℕ) (pc : ℕ) (r : Room) (regs' : List ℕ) (pc' : ℕ) (r' : Room) (a : ℕ) → target i regs ≡ Some a → execute room_access i regs pc r ≡ Goes regs' pc' r'
    → (n : ℕ) × (v : ℕ) × (room_access.store r a n v ≡ Some r')
unfolding execute stores
stores_into (Sb rs1 rs2 imm) regs pc r regs' pc' r' a e h =
    let same : add (reg regs rs1) (word_of imm) ≡ a = cc in
    (1, reg regs rs2, did (room_access.store r a 1 (reg regs rs2)) (ap (λ b. stored regs pc (room_access.store r b 1 (reg regs rs2))) (sym same) ∙ h))
  where
    did : (o : Option Room) → stored regs pc o ≡ Goes regs' pc' r' → o ≡ Some r'
    did None k = absurd (cc)
    did (Some x) k = cc
stores_into (Sh rs1 rs2 imm) regs pc r regs' pc' r' a e h =
    let same : add (reg regs rs1) (word_of imm) ≡ a = cc in
    (2, reg regs rs2, did (room_access.store r a 2 (reg regs rs2)) (ap (λ b. stored regs pc (room_access.store r b 2 (reg regs rs2))) (sym same) ∙ h))
  where
    did : (o : Option Room) → stored regs pc o ≡ Goes regs' pc' r' → o ≡ Some r'
    did None k = absurd (cc)
    did (Some x) k = cc
stores_into (Sw rs1 rs2 imm) regs pc r regs' pc' r' a e h =
    let same : add (reg regs rs1) (word_of imm) ≡ a = cc in
    (4, reg regs rs2, did (room_access.store r a 4 (reg regs rs2)) (ap (λ b. stored regs pc (room_access.store r b 4 (reg regs rs2))) (sym same) ∙ h))
  where
    did : (o : Option Room) → stored regs pc o ≡ Goes regs' pc' r' → o ≡ Some r'
    did None k = absurd (cc)
    did (Some x) k = cc
stores_into _ regs pc r regs' pc' r' a e h = absurd (cc)

-- no commit begins or ends by a step that goes on
quiet_instr : (s : State) (i : Instr) (regs : List ℕ) (pc : ℕ) (r : Room) (regs' : List ℕ) (pc' : ℕ) (r' : Room) → execute room_access i regs pc r ≡ Goes regs' pc' r'
    → after_instr s (Some i) None ≡ None
unfolding execute
quiet_instr s Ecall regs pc r regs' pc' r' h = absurd (cc)
quiet_instr s FenceI regs pc r regs' pc' r' h = refl
quiet_instr s _ regs pc r regs' pc' r' h = refl

-- ---- the run

-- a step that goes on has a word
has_word : (word : Option ℕ) (regs : List ℕ) (pc : ℕ) (m : Watched) (next : Spot Watched) → step access word regs pc m ≡ Goes next.regs next.pc next.memory → (w : ℕ) × (word ≡ Some w)
has_word None regs pc m next e = absurd (cc)
has_word (Some w) regs pc m next e = (w, refl)

-- and the word is an instruction's
has_instr : (o : Option Instr) (regs : List ℕ) (pc : ℕ) (r : Room) (regs' : List ℕ) (pc' : ℕ) (r' : Room) → decoded room_access o regs pc r ≡ Goes regs' pc' r'
    → (i : Instr) × (o ≡ Some i) × (execute room_access i regs pc r ≡ Goes regs' pc' r')
has_instr None regs pc r regs' pc' r' e = absurd (cc)
has_instr (Some i) regs pc r regs' pc' r' e = (i, refl, e)

-- ---- the one word that stands under the bindings

module _ (known : Known) (image : Fields) (rules : Rules image) where
  bound_one : (w : World) (room : Room) → IsSettled (texts_of image w.bindings) room → (a word : ℕ) → bound_word image w a ≡ Some word → choices room.held a ≡ word ∷ []
  unfolding bound_word
  bound_one w room settled a word e = of_word (image_word image a) refl e
    where
      vs : ℕ → Option (List ℕ)
      vs = values_of w.bindings

      of_word : (o : Option ℕ) → image_word image a ≡ o → option_map (word_under image (values_of w.bindings) a) o ≡ Some word → choices room.held a ≡ word ∷ []
      of_word None p q = absurd (cc)
      of_word (Some x) p q =
          let h = standing image a x p in
          let aligned = h.aligned in let from = h.text.after in let to = h.below in
          let k = (a - 0x1000) / 4 in
          let there : slice_get image.text k ≡ Some x = ap (slice_get image.text) (sym h.text.index) ∙ h.there in
          let at : 4096 + 4 * k ≡ a = omega (arith, aligned, from, to) in
          let within : k < length image.text = slice_get_within image.text k x there in
          let size = text_size image (values_of w.bindings) in
          let here : slice_index image.text k ≡ x = get_or_from_slice_get image.text k x 0 there in
          let stands : slice_get (texts_of image w.bindings) k ≡ Some word =
          slice_get-get_or (texts_of image w.bindings) k 0 (omega (arith, within, size))
          ∙ ap Some (text_at image (values_of w.bindings) k within ∙ ap₂ (λ c y. word_under image (values_of w.bindings) c y) at here) ∙ q in
          ap (choices room.held) (sym at) ∙ known.rooms.one (texts_of image w.bindings) room settled (known.images image rules (values_of w.bindings) (values_of w.bindings)).texts.lies k word stands

module _ (known : Known) (image : Fields) (rules : Rules image) (input : List (Option ℕ)) (polls : PollActs) (picks : List ℕ) (s : Site) (out : OwnOutsideText s) where
  abbrev S : ℕ → State
  S i = runs_from (first image input polls) picks i

  abbrev at : ℕ → Spot Watched
  at = spot_at (first image input polls) picks

  abbrev On : ℕ → World → Spot Watched → Type 0
  On = LeadsBound image input polls picks s

  -- the one word that is fetched, its instruction, and where that leads
  record Led (i : ℕ) (w : World) (next : Spot Watched) : Type 0 where
    quiet : IsQuiet image w (at i).memory
    word : ℕ
    stands : bound_word image w (S i).pc ≡ Some word
    one : choices (S i).room.held (S i).pc ≡ word ∷ []
    instr : Instr
    says : decode word ≡ Some instr
    room : Room
    goes : execute room_access instr (S i).regs (S i).pc (S i).room ≡ Goes next.regs next.pc room
    rest : next.memory ≡ put_room (at i).memory room

  led : (i : ℕ) (w : World) (next : Spot Watched) → On i w next → Led i w next
  led i w next h =
      let m = (at i).memory in
      let found = has_word (bound_word image w (S i).pc) (S i).regs (S i).pc m next h.steps in
      let steps = ap (λ x. step access x (S i).regs (S i).pc m) (sym found.1) ∙ h.steps in
      let went = goes_beside m (step room_access (Some found.0) (S i).regs (S i).pc (S i).room) next.regs next.pc next.memory (sym (step_beside (Some found.0) (S i).regs (S i).pc m) ∙ steps) in
      let d = has_instr (decode found.0) (S i).regs (S i).pc (S i).room next.regs next.pc went.room went.goes in
      record {
        quiet = h.quiet;
        word = found.0;
        stands = found.1;
        one = bound_one known image rules w (S i).room h.quiet.settled (S i).pc found.0 found.1;
        instr = d.0;
        says = d.1;
        room = went.room;
        goes = d.2;
        rest = went.rest;
      }

  -- what is picked of one choice
  one_picked : (w pick : ℕ) (l : List ℕ) → l ≡ w ∷ [] → slice_get l (pick % length l) ≡ Some w
  one_picked w pick l e = let z : pick % 1 ≡ 0 = omega arith in ap (λ (k : List ℕ). slice_get k (pick % length k)) e ∙ ap (slice_get (w ∷ [])) z

  fetched : (i : ℕ) (w : World) (next : Spot Watched) (l : Led i w next) → fetched_step (S i) (slice_index picks i) ≡ Goes next.regs next.pc l.room
  unfolding fetched_step choices_at picked_step
  fetched i w next l =
      ap (λ (o : Option ℕ). step room_access o (S i).regs (S i).pc (S i).room) (one_picked l.word (slice_index picks i) (choices (S i).room.held (S i).pc) l.one)
      ∙ ap (λ o. decoded room_access o (S i).regs (S i).pc (S i).room) l.says ∙ l.goes

  next_state : (i : ℕ) (w : World) (next : Spot Watched) (l : Led i w next) → S (i + 1) ≡ record (S i) { regs = next.regs; pc = next.pc; room = l.room }
  next_state i w next l =
      let outcome : Outcome Room = Goes next.regs next.pc l.room in
      runs_more (first image input polls) picks i ∙ turn_by (S i) (slice_index picks i) outcome l.quiet.calm.goes_on (fetched i w next l)

  next_under : (i : ℕ) (w : World) (next : Spot Watched) (l : Led i w next) → (at (i + 1)).memory.under ≡ None
  unfolding commit_from choices_at
  next_under i w next l =
      ap (commit_from (first image input polls) picks) (add-one i)
      ∙ ap₂ (λ stop o. if is_going stop then after_instr (S i) o (at i).memory.under else (at i).memory.under) l.quiet.calm.goes_on
      (ap (option_and_then decode) (one_picked l.word (slice_index picks i) (choices (S i).room.held (S i).pc) l.one) ∙ l.says)
      ∙ ap (after_instr (S i) (Some l.instr)) l.quiet.under
      ∙ quiet_instr (S i) l.instr (S i).regs (S i).pc (S i).room next.regs next.pc l.room l.goes

  goes : (i : ℕ) (w : World) (next : Spot Watched) → On i w next → at (i + 1) ≡ next
  goes i w next h =
      let l = led i w next h in
      ap₂ (λ (x : State) (u : Option (List Binding)). record { regs = x.regs; pc = x.pc; memory = watched x u }) (next_state i w next l) (next_under i w next l ∙ sym l.quiet.under)
      ∙ ap (λ (m : Watched). record next { memory = m }) (sym l.rest)

  -- the writes of the step
  kept : (m m' : Watched) (r : Room) → m' ≡ put_room m r → Writes access s m m' → (r ≡ m.rest.room) ⊎ KeepsText m.rest.room r
  unfolding access
  kept m m' r e (inl same) = inl (ap (λ (x : Watched). x.rest.room) (sym e ∙ same))
  kept m m' r e (inr x) =
      let a = address s x.0 in
      let did = stored_room m m' (room_access.store m.rest.room a 4 x.1) x.5 in
      let same : did.0 ≡ r = ap (λ (y : Watched). y.rest.room) (sym did.2 ∙ e) in
      inr (subst (KeepsText m.rest.room) same (store_keeps m.rest.room did.0 a x.1 (out x.0 x.2 x.3) did.1))

  written : (w : World) (m m' : Watched) (r : Room) → m' ≡ put_room m r → Writes access s m m' → IsQuiet image w m → IsQuiet image w m'
  written w m m' r e writes h =
      subst (λ (x : Watched). IsQuiet image w x) (sym e)
      (⊎_elim (λ (same : r ≡ m.rest.room). subst (λ x. IsQuiet image w (put_room m x)) (sym same) h) (λ (k : KeepsText m.rest.room r). quiet_kept image w m r k h) (kept m m' r e writes))

  stays_quiet : (i : ℕ) (w : World) (next : Spot Watched) → On i w next → IsQuiet image w next.memory
  stays_quiet i w next h = let l = led i w next h in written w (at i).memory next.memory l.room l.rest h.writes l.quiet

  -- ---- each such step is from a sound place

  is_in_text : (a : ℕ) → 0x1000 ≤ a → a < 0x0010_0000 → IsInText a
  unfolding region_of
  is_in_text a ge lt =
      let e : ltb a 0x1000 ≡ false = le-ltb a 0x1000 ge in
      let f : ltb a 0x0010_0000 ≡ true = lt-ltb a 0x0010_0000 lt in rw (e, f) refl

  into_told : (a : ℕ) → into_text (Some a) ≡ true → IsInText a
  into_told a h =
      let p = and_parts _ _ h in
      is_in_text a (ltb-false a 0x1000 (flipped (ltb a 0x1000) p.0)) (ltb-true a 0x0010_0000 p.1)
    where
      flipped : (b : Bool) → not b ≡ true → b ≡ false
      flipped true k = absurd (cc)
      flipped false k = refl

  finds_room : (i : ℕ) (w : World) (next : Spot Watched) → On i w next → (l : Led i w next) → not (into_text (target l.instr (S i).regs) && eqb (S i).room.spare 0) ≡ true
  finds_room i w next h l = by_target (target l.instr (S i).regs) refl
    where
      by_test : (a : ℕ) → target l.instr (S i).regs ≡ Some a → (b : Bool) → into_text (Some a) ≡ b → not (b && eqb (S i).room.spare 0) ≡ true
      by_test a e false f = refl
      by_test a e true f =
          let vs = values_of w.bindings in
          let after = stays_quiet i w next h in
          let room_is : next.memory.rest.room ≡ l.room = ap (λ (x : Watched). x.rest.room) l.rest in
          let did = stores_into l.instr (S i).regs (S i).pc (S i).room next.regs next.pc l.room a e l.goes in
          let still : IsBetween (texts_of image w.bindings) (texts_of image w.bindings) l.room.held =
          subst (λ (r : Room). IsBetween (texts_of image w.bindings) (texts_of image w.bindings) r.held) room_is ((known.rooms.same (texts_of image w.bindings) next.memory.rest.room.held).1 (after.settled.text, after.settled.older)) in
          let some = known.finds image rules vs vs (S i).room l.room a did.0 did.1 (into_told a f) did.2 (known.rooms.settled (texts_of image w.bindings) (S i).room l.quiet.settled) l.quiet.reserve still in
          let z : eqb (S i).room.spare 0 ≡ false = ne_eqb (S i).room.spare 0 (λ q. omega (arith, q, some)) in
          ap not z

      by_target : (o : Option ℕ) → target l.instr (S i).regs ≡ o → not (into_text o && eqb (S i).room.spare 0) ≡ true
      by_target None e = refl
      by_target (Some a) e = by_test a e (into_text (Some a)) refl

  target_is : (i : ℕ) (w : World) (next : Spot Watched) (l : Led i w next) → picked_target (S i).room 0 (S i).regs (S i).pc ≡ target l.instr (S i).regs
  unfolding picked_target word_target
  target_is i w next l =
      ap (λ (k : List ℕ). option_and_then (λ word. option_and_then (λ j. target j (S i).regs) (decode word)) (slice_get k 0)) l.one
      ∙ ap (option_and_then (λ j. target j (S i).regs)) l.says

  one : (i : ℕ) (w : World) (next : Spot Watched) → On i w next → runs.has_one_choice (plain_spot (at i)) ≡ true
  one i w next h = ap (λ (k : List ℕ). eqb (length k) 1) (led i w next h).one

  keeps : (i : ℕ) (w : World) (next : Spot Watched) → On i w next → keeps_text (texts_of image) (at i).memory.under (plain_spot (at i)) ≡ true
  keeps i w next h =
      let l = led i w next h in
      let t = texts_of image w.bindings in
      ap (λ u. keeps_text (texts_of image) u (plain_spot (at i))) l.quiet.under
      ∙ and_from _ _ (ap (λ b. is_between (texts_of image b) (texts_of image b) (S i).room.held) l.quiet.calm.bindings
      ∙ (known.tested t t (S i).room.held).1 ((known.rooms.same t (S i).room.held).1 (l.quiet.settled.text, l.quiet.settled.older)))
      (and_from _ _ (ap (λ a. not (into_text a && eqb (S i).room.spare 0)) (target_is i w next l) ∙ finds_room i w next h l) refl)

  pub taken : WatchedStepsTaken image input polls picks s
  taken = record { goes = goes; one = one; keeps = keeps; stays = stays_quiet }

  -- a step that loads only what the code may load loads nothing that is closed to what stands there
  pub loads_open : (closed : (pc address : ℕ) → Bool) (i : ℕ) (w : World) (next : Spot Watched) → On i w next → (word : ℕ) → bound_word image w (at i).pc ≡ Some word
      → step (limited access s) (Some word) (at i).regs (at i).pc (at i).memory ≡ Goes next.regs next.pc next.memory
      → ((a : ℕ) → s.reach.may_load a ≡ true → closed (at i).pc a ≡ false) → runs.is_sound closed (plain_spot (at i)) ≡ true
  loads_open closed i w next h word stands steps free =
      let l = led i w next h in
      let same : l.word ≡ word = some_same (sym l.stands ∙ stands) in
      let goes_on = ap (λ d. decoded (limited access s) d (at i).regs (at i).pc (at i).memory) (sym (ap decode (sym same) ∙ l.says)) ∙ steps in
      unbarred closed (plain_spot (at i)) l.word l.instr l.one l.says
      (λ a e. free a (executes_allowed access s.reach.may_load (at i).regs (at i).pc (at i).memory next.regs next.pc next.memory l.instr a goes_on e))
    where
      some_same : {a b : ℕ} → Some a ≡ Some b → a ≡ b
      some_same e = cc

pub watched_steps : Known → WatchedStepsAreTaken
watched_steps known image rules input polls picks s out = taken known image rules input polls picks s out

-- ---- machines that are calm in some worlds, over words that stand there under the bindings

module _ (known : Known) (attributed : List ℕ) (closed : (pc address : ℕ) → Bool) (image : Fields) (rules : Rules image) (input : List (Option ℕ)) (polls : PollActs) (picks : List ℕ) (s : Site)
    (out : OwnOutsideText s) (test : World → Bool) (text : Text) (inside : (w : World) (a word : ℕ) → test w ≡ true → text.word a ≡ Some word → bound_word image w a ≡ Some word)
    (free : (pc word a : ℕ) → text.word pc ≡ Some word → s.reach.may_load a ≡ true → closed pc a ≡ false) where
  abbrev machine : Machine Watched
  machine = narrowed (watched_machine attributed closed image input polls picks) test text

  open watched_run attributed closed image input polls picks use {run as now}

  -- the word of the text, which stands there under the bindings, and its step
  record Shown (i : ℕ) (w : World) (next : Spot Watched) : Type 0 where
    passes : test (outside w) ≡ true
    word : ℕ
    there : text.word (now i).pc ≡ Some word
    stands : bound_word image (outside w) (now i).pc ≡ Some word
    step_on : step (limited access s) (Some word) (now i).regs (now i).pc (now i).memory ≡ Goes next.regs next.pc next.memory
    leads : LeadsBound image input polls picks s i (outside w) next

  shown : (i : ℕ) (w : World) (next : Spot Watched) → LeadsOn access s machine i w next → Shown i w next
  shown i w next h =
      let c = and_parts (test (outside w)) (is_quiet image (outside w) (now i).memory) h.calm in
      let whole = step_over access s.reach.may_load (now i).regs (now i).pc (now i).memory next.regs next.pc next.memory (text.word (now i).pc) h.steps in
      let found = has_word (text.word (now i).pc) (now i).regs (now i).pc (now i).memory next whole in
      let stands = inside (outside w) (now i).pc found.0 c.0 found.1 in record {
        passes = c.0;
        word = found.0;
        there = found.1;
        stands = stands;
        step_on = ap (λ x. step (limited access s) x (now i).regs (now i).pc (now i).memory) (sym found.1) ∙ h.steps;
        leads = record {
          quiet = quiet_told known image (outside w) (now i).memory c.1;
          steps = ap (λ x. step access x (now i).regs (now i).pc (now i).memory) (stands ∙ sym found.1) ∙ whole;
          writes = h.writes;
        };
      }

  sound_there : (i : ℕ) (w : World) (next : Spot Watched) → LeadsOn access s machine i w next → is_sound closed (texts_of image) (now i).memory.under (plain_spot (now i)) ≡ true
  unfolding is_sound
  sound_there i w next h =
      let r = shown i w next h in
      and_from (runs.is_sound closed (plain_spot (now i))) (keeps_text (texts_of image) (now i).memory.under (plain_spot (now i)))
      (loads_open known image rules input polls picks s out closed i (outside w) next r.leads r.word r.stands r.step_on
      (λ a may. free (now i).pc r.word a r.there may)) ((taken known image rules input polls picks s out).keeps i (outside w) next r.leads)

  pub runs_in : IsRun access s machine
  runs_in = record {
    registers = (known.runs attributed (λ pc a. false) image input polls picks s out (λ pc a may. refl)).registers;
    goes = λ i w next h. (taken known image rules input polls picks s out).goes i (outside w) next (shown i w next h).leads;
    sound = sound_there;
    stays = λ i w next h.
        let r = shown i w next h in
        and_from (test (outside w)) (is_quiet image (outside w) next.memory) r.passes (quiet_tested known image (outside w) next.memory ((taken known image rules input polls picks s out).stays i (outside w) next r.leads));
  }

pub watched_runs : Known → WatchedRunsAreRuns
watched_runs known attributed closed image rules input polls picks s out free =
    runs_in known attributed closed image rules input polls picks s out (λ w. true) (machine_text attributed image) (λ w a word passes e. (known.found image).stands w a word e) (λ pc word a there may. free pc a may)

pub watched_alone : Known → WatchedRunsAreRunsAlone
watched_alone known attributed closed image rules input polls picks from to s out free =
    runs_in known attributed closed image rules input polls picks s out (λ w. true) (part from to (machine_text attributed image))
    (λ w a word passes e. (known.found image).stands w a word (in_part (leb from a) (ltb a to) (unpatched_word image a) word e).2)
    (λ pc word a there may. let p = in_part (leb from pc) (ltb pc to) (unpatched_word image pc) word there in free pc a (leb-true from pc p.0) (ltb-true pc to p.1) may)

pub watched_under : Known → WatchedRunsAreRunsUnder
watched_under known attributed closed image rules input polls picks bs from to s out free =
    runs_in known attributed closed image rules input polls picks s out (has_bindings bs) (part from to (words_alone (words_under image bs)))
    (λ w a word passes e.
    same_words image w a ∙ ap (λ (xs : List Binding). words_under image xs a) (sym ((bindings_are_told bs w.bindings).0 passes)) ∙ (in_part (leb from a) (ltb a to) (words_under image bs a) word e).2)
    (λ pc word a there may. let p = in_part (leb from pc) (ltb pc to) (words_under image bs pc) word there in free pc a (leb-true from pc p.0) (ltb-true pc to p.1) may)
