-- One instruction of the stub, in mid-commit.
use Rattle.std.proofs.Common.{◌≡◌, ℕ, add-one, ◌+◌, Bool, true, false, ◌&&◌, not, eqb, List, [], ◌∷◌, ◌++◌, slice_index, Option, Some, refl, sym, ap, ap₂, ◌∙◌, append_assoc, if◌then◌else◌}
use Rattle.std.proofs.lemmas.Bool.{and_from}
use Rattle.mv_bindings.specs.declared.binding.Binding.{Binding}
use Rattle.mv_isa.specs.declared.instr.Instr.{Instr}
use Rattle.mv_isa.specs.Encoding.{encode}
use Rattle.mv_isa.specs.Execution.{Outcome, Goes, reg, execute}
use Rattle.mv_isa.specs.Standing.{InstrStands}
use Rattle.mv_fetch.specs.Held.{Room, choices}
use Rattle.mv_rv32.specs.Stepping.{access, target}
use Rattle.mv_patch.specs.declared.prepared.Pair.{Pair}
use Rattle.mv_patch.specs.Laws.{PairsAreDifferences}
use Rattle.mv_patch.specs.Pairs.{pairs_between}
use Rattle.mv_machine.specs.Runs.{State, turn, is_going}
use Rattle.mv_machine.specs.Commits.{after_instr, commit_after, commit_from}
use Rattle.mv_machine.proofs.Turns.{runs_more, turn_by}
use Rattle.mv_select_code.specs.Trees.View.{AreRegisters}
use Rattle.mv_select_code.proofs.OfControl.Walk.{before_next}
use Rattle.mv_select.specs.Functions.Loads.{loads_from}
use Rattle.mv_refine_machine.specs.MachineRuns.{spot_of, rest_of, opens}
use Rattle.mv_patch.specs.Stores.{stored_all}
use Rattle.mv_refine_machine.specs.Stores.Stores.{AreTexts}
use Rattle.mv_refine_machine.specs.Stores.Between.{is_between, IsStored}
use Rattle.mv_refine_machine.specs.Stores.Laws.{TextIsBetween, BetweenIsTested}
use Rattle.mv_refine_machine.specs.Commits.Watch.{is_call, instr_at, into_text, is_settled, are_elsewhere, is_apart, is_sound}
use Rattle.mv_refine_machine.specs.Commits.Storing.{IsOther, run, under_way, Sound, pairs, opened, Planned, Storing}
use Rattle.mv_refine_machine.proofs.OfCommits.Fetched.{executes, instr_first, instr_is, plainly_sound, target_is}

module _ (between : TextIsBetween) (tested : BetweenIsTested) (differ : PairsAreDifferences)
    (closed : (pc address : ℕ) → Bool) (texts : List Binding → List ℕ) (first : State) (picks : List ℕ) (word : ℕ → Option ℕ) (old new : List Binding) (start : ℕ)
    (begun : Room) (before coming : List Pair) (are : AreTexts (texts old) (texts new)) (planned : Planned closed texts first picks old new start begun before coming) where
  abbrev R : ℕ → State
  R = run closed texts first picks

  abbrev U : ℕ → Option (List Binding)
  U = under_way closed texts first picks

  abbrev the_pairs : List Pair
  the_pairs = pairs closed texts first picks old new start begun before coming

  abbrev begins : List Pair → Option (List Binding)
  begins = opened closed texts first picks old new start begun before coming

  -- the room with so many pairs of the plan stored
  abbrev room : List Pair → Room
  room done = stored_all begun (before ++ done)

  abbrev In : ℕ → List Pair → List Pair → List ℕ → ℕ → Type 0
  In = Storing closed texts first picks old new start begun before coming

  -- the state in mid-commit
  abbrev mid : ℕ → List Pair → List ℕ → State
  mid pc done regs = record (R start) { regs = regs; pc = pc; room = room done }

  pub stored : (done left : List Pair) → done ++ left ≡ coming → IsStored (texts old) (texts new) begun (before ++ done) left
  stored done left q = between (texts old) (texts new) are begun planned.settled (before ++ done) left (append_assoc before done left ∙ ap (λ ps. before ++ ps) q ∙ planned.joined)

  -- ---- it is sound

  mid_between : (done left : List Pair) → done ++ left ≡ coming → is_between (texts old) (texts new) (room done).held ≡ true
  mid_between done left q = (tested (texts old) (texts new) (room done).held).1 (stored done left q).between

  mid_settled : (pc : ℕ) (done left : List Pair) (regs : List ℕ) → done ++ left ≡ coming → is_settled texts (begins the_pairs) (rest_of (mid pc done regs)) ≡ true
  mid_settled pc done left regs q = by_pairs the_pairs refl
    where
      by_pairs : (ps : List Pair) → the_pairs ≡ ps → is_settled texts (begins ps) (rest_of (mid pc done regs)) ≡ true
      by_pairs [] e =
          let same : texts old ≡ texts new = (differ (texts old) (texts new)).none are.size e in
          ap₂ (λ (a b : List ℕ). is_between a b (room done).held) (ap texts planned.bound ∙ sym same) (ap texts planned.bound) ∙ mid_between done left q
      by_pairs (p ∷ ps) e = ap (λ b. is_between (texts old) (texts b) (room done).held) planned.bound ∙ mid_between done left q

  module _ (plain : (done left : List Pair) → done ++ left ≡ coming → (a w : ℕ) → word a ≡ Some w → choices (room done).held a ≡ w ∷ [])
      (apart : (a w : ℕ) → word a ≡ Some w → are_elsewhere a the_pairs ≡ true) where
    mid_apart : (pc w : ℕ) (done : List Pair) (regs : List ℕ) → word pc ≡ Some w → not (is_call (instr_at (spot_of (mid pc done regs)))) ≡ true → is_apart texts (begins the_pairs) (spot_of (mid pc done regs)) ≡ true
    mid_apart pc w done regs there silent = by_pairs the_pairs refl
      where
        by_pairs : (ps : List Pair) → the_pairs ≡ ps → is_apart texts (begins ps) (spot_of (mid pc done regs)) ≡ true
        by_pairs [] e = refl
        by_pairs (p ∷ ps) e = and_from _ _ silent (ap (λ b. are_elsewhere pc (pairs_between (texts old) (texts b))) planned.bound ∙ apart pc w there)

    pub mid_sound : (pc : ℕ) (i : Instr) (done left : List Pair) (regs : List ℕ) → InstrStands word pc i → done ++ left ≡ coming
        → opens (closed pc) (loads_from i regs) ≡ true → not (into_text (target i regs) && eqb (room done).spare 0) ≡ true → is_call (Some i) ≡ false → is_sound closed texts (begins the_pairs) (spot_of (mid pc done regs)) ≡ true
    unfolding is_sound
    mid_sound pc i done left regs at q unbarred wants silent =
        let one = plain done left q pc (encode i) at.word in
        let x = mid pc done regs in
        and_from _ _ (plainly_sound x i at.fields one closed unbarred) (and_from _ _ (mid_settled pc done left regs q)
        (and_from _ _ (ap (λ t. not (into_text t && eqb (room done).spare 0)) (target_is x i at.fields one) ∙ wants) (mid_apart pc (encode i) done regs at.word (ap not (ap is_call (instr_first x i at.fields one) ∙ silent)))))

    -- ---- it goes on

    -- what an instruction of the stub other than FENCE.I leaves
    pub record Does (pc pc' : ℕ) (i : Instr) (done done' : List Pair) (regs regs' : List ℕ) : Type 0 where
      pub at : InstrStands word pc i
      pub goes : execute access i regs pc (room done) ≡ Goes regs' pc' (room done')
      pub unbarred : opens (closed pc) (loads_from i regs) ≡ true
      pub wants : not (into_text (target i regs) && eqb (room done).spare 0) ≡ true
      pub quiet : (s : State) (u : Option (List Binding)) → (after_instr s (Some i) u ≡ u) × (is_call (Some i) ≡ false)

    -- the one word is fetched at a time in mid-commit
    mid_one : (pc : ℕ) (i : Instr) (done left : List Pair) (regs : List ℕ) → InstrStands word pc i → done ++ left ≡ coming
        → choices (mid pc done regs).room.held (mid pc done regs).pc ≡ encode i ∷ []
    mid_one pc i done left regs at q = plain done left q pc (encode i) at.word

    -- so the run goes where its instruction leads
    pub mid_goes : (pc pc' : ℕ) (i : Instr) (done left : List Pair) (regs regs' : List ℕ) (room' : Room) (t : ℕ) → InstrStands word pc i → done ++ left ≡ coming
        → execute access i regs pc (room done) ≡ Goes regs' pc' room' → R t ≡ mid pc done regs → R (t + 1) ≡ record (R start) { regs = regs'; pc = pc'; room = room' }
    mid_goes pc pc' i done left regs regs' room' t at q goes is =
        let x = mid pc done regs in
        let one = mid_one pc i done left regs at q in
        let outcome : Outcome Room = Goes regs' pc' room' in
        runs_more first picks t ∙ ap (λ (s : State). turn s (slice_index picks t)) is
        ∙ turn_by x (slice_index picks t) outcome planned.going (executes x i at.fields one (slice_index picks t) ∙ goes)

    pub mid_under : (pc : ℕ) (i : Instr) (done left : List Pair) (regs : List ℕ) (t : ℕ) → InstrStands word pc i → done ++ left ≡ coming
        → R t ≡ mid pc done regs → U (t + 1) ≡ after_instr (mid pc done regs) (Some i) (U t)
    unfolding commit_from
    mid_under pc i done left regs t at q is =
        let x = mid pc done regs in
        let one = mid_one pc i done left regs at q in
        ap (commit_from first picks) (add-one t)
        ∙ ap (λ (s : State). commit_after s (slice_index picks t) (U t)) is
        ∙ ap₂ (λ stop o. if is_going stop then after_instr x o (U t) else U t) planned.going (instr_is x i at.fields one (slice_index picks t))

    pub steps : (pc pc' : ℕ) (i : Instr) (done left done' left' : List Pair) (regs regs' : List ℕ) (t : ℕ) → Does pc pc' i done done' regs regs' → done' ++ left' ≡ coming
        → AreRegisters regs' → ((q : ℕ) → IsOther q → reg regs' q ≡ reg regs q) → In pc done left regs t → In pc' done' left' regs' (t + 1)
    steps pc pc' i done left done' left' regs regs' t d joined registers others h = record {
      is = mid_goes pc pc' i done left regs regs' (room done') t d.at h.joined d.goes h.is;
      under = mid_under pc i done left regs t d.at h.joined h.is ∙ (d.quiet (mid pc done regs) (U t)).0 ∙ h.under;
      joined = joined;
      registers = registers;
      others = λ q o. others q o ∙ h.others q o;
      sound = before_next (Sound closed texts first picks) t h.sound
          (ap₂ (λ u s. is_sound closed texts u (spot_of s)) h.under h.is ∙ mid_sound pc i done left regs d.at h.joined d.unbarred d.wants (d.quiet (mid pc done regs) (U t)).1);
    }
