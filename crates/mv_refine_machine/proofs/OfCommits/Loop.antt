-- The loop of the stub: it stores each pair of the plan.
use Rattle.std.proofs.Common.{◌≡◌, ◌≢◌, ◌⊎◌, inl, inr, ℕ, suc, ◌+◌, ◌*◌, ◌^◌, ◌<◌, ◌≤◌, Bool, true, false, ◌&&◌, not, eqb, List, [], ◌∷◌, ◌++◌, length, slice_get, Option, Some, pos, negsuc, refl, sym, ap, ap₂, ◌∙◌, subst, arith, append_assoc, length-append}
use Rattle.std.proofs.lemmas.Bool.{ne_eqb}
use Rattle.std.proofs.lemmas.List.{append-nil}
use Rattle.std.proofs.lemmas.List.Elements.{All-head, All-tail}
use Rattle.std.specs.List.{All}
use Rattle.mv_bindings.specs.declared.binding.Binding.{Binding}
use Rattle.mv_num.specs.Words.{add, word_of}
use Rattle.mv_isa.specs.declared.instr.Instr.{Instr}
use Rattle.mv_isa.specs.declared.instr.Instr.TheVariants.{Lui, Jal, Beq, Lw, Sw, Addi, FenceI}
use Rattle.mv_isa.specs.Execution.{Goes, reg, put, execute}
use Rattle.mv_fetch.specs.Held.{Room, choices}
use Rattle.mv_rv32.specs.Stepping.{access, target}
use Rattle.mv_patch.specs.declared.prepared.Pair.{Pair}
use Rattle.mv_patch.specs.Laws.{PairsAreDifferences}
use Rattle.mv_linker.specs.Linked.{commit_instrs}
use Rattle.mv_machine.specs.Runs.{State, plan_area}
use Rattle.mv_machine.specs.Commits.{after_instr}
use Rattle.mv_select_code.specs.Trees.View.{AreRegisters}
use Rattle.mv_select_code.proofs.OfTrees.Registers.{free_above, put_same, put_other, put_registers}
use Rattle.mv_select_code.proofs.OfControl.Walk.{before_next}
use Rattle.mv_select.specs.Functions.Loads.{loads_from}
use Rattle.mv_refine_machine.specs.MachineRuns.{spot_of, opens}
use Rattle.mv_patch.specs.Stores.{stored_all}
use Rattle.mv_refine_machine.specs.Stores.Stores.{AreTexts, IsInRange}
use Rattle.mv_refine_machine.specs.Stores.Between.{IsSettled, IsStored}
use Rattle.mv_refine_machine.specs.Stores.Laws.{TextIsBetween, BetweenIsTested, PairsAreInRange}
use Rattle.mv_refine_machine.specs.Commits.Watch.{is_call, into_text, are_elsewhere, is_sound}
use Rattle.mv_refine_machine.specs.Commits.Served.{IsPlanOpen}
use Rattle.mv_refine_machine.specs.Commits.Storing.{HasPlan, IsOther, run, Sound, pairs, Planned, Storing, AtLoop, Committed}
use Rattle.mv_refine_machine.proofs.OfCommits.PlanWords.{plan_address, plan_word}
use Rattle.mv_refine_machine.proofs.OfCommits.Instrs.{add_pos, lui_goes, lw_goes, sw_goes, addi_goes, less_goes, stays_goes, leaves_goes, back_goes, fence_goes}
use Rattle.mv_refine_machine.proofs.OfCommits.Stands.{StubStands}
use Rattle.mv_refine_machine.proofs.OfCommits.Steps.{stored, mid_sound, mid_goes, mid_under, steps}
use Rattle.mv_num.proofs.Booleans.{not_and_false}

-- an element in the middle
middle : (P : Pair → Type 0) (done later : List Pair) (pair : Pair) → All P (done ++ pair ∷ later) → P pair
middle P [] later pair h = All-head P pair later h
middle P (q ∷ done) later pair h = middle P done later pair (All-tail P q (done ++ pair ∷ later) h)

module _ (between : TextIsBetween) (tested : BetweenIsTested) (differ : PairsAreDifferences) (ranges : PairsAreInRange)
    (closed : (pc address : ℕ) → Bool) (texts : List Binding → List ℕ) (first : State) (picks : List ℕ) (word : ℕ → Option ℕ) (old new : List Binding) (start : ℕ)
    (begun : Room) (before coming : List Pair) (are : AreTexts (texts old) (texts new)) (planned : Planned closed texts first picks old new start begun before coming)
    (plain : (done left : List Pair) → done ++ left ≡ coming → (a w : ℕ) → word a ≡ Some w → choices (stored_all begun (before ++ done)).held a ≡ w ∷ [])
    (apart : (a w : ℕ) → word a ≡ Some w → are_elsewhere a (pairs closed texts first picks old new start begun before coming) ≡ true)
    (b : ℕ) (stub : StubStands word b) (free : IsPlanOpen closed b) where
  -- the room with so many pairs of the plan stored
  abbrev room : List Pair → Room
  room done = stored_all begun (before ++ done)

  abbrev the_pairs : List Pair
  the_pairs = pairs closed texts first picks old new start begun before coming

  abbrev In : ℕ → List Pair → List Pair → List ℕ → ℕ → Type 0
  In = Storing closed texts first picks old new start begun before coming

  abbrev Loop : ℕ → List Pair → List Pair → ℕ → Type 0
  Loop = AtLoop closed texts first picks old new start begun before coming

  is_stored : (done left : List Pair) → done ++ left ≡ coming → IsStored (texts old) (texts new) begun (before ++ done) left
  is_stored = stored between tested differ closed texts first picks word old new start begun before coming are planned

  few_coming : length coming < 65536
  few_coming = omega (arith, ap length planned.joined, length-append before coming, planned.few)

  -- ---- one instruction

  line : (k k' to : ℕ) (i : Instr) (done left done' left' : List Pair) (regs regs' : List ℕ) (t : ℕ)
      → slice_get commit_instrs k ≡ Some i → to ≡ b + 4 * k'
      → execute access i regs (b + 4 * k) (room done) ≡ Goes regs' to (room done')
      → opens (closed (b + 4 * k)) (loads_from i regs) ≡ true → not (into_text (target i regs) && eqb (room done).spare 0) ≡ true → ((s : State) (u : Option (List Binding)) → (after_instr s (Some i) u ≡ u) × (is_call (Some i) ≡ false))
      → done' ++ left' ≡ coming → AreRegisters regs' → ((q : ℕ) → IsOther q → reg regs' q ≡ reg regs q)
      → In (b + 4 * k) done left regs t → In (b + 4 * k') done' left' regs' (t + 1)
  line k k' to i done left done' left' regs regs' t here on goes unbarred wants quiet joined registers others h =
      steps between tested differ closed texts first picks word old new start begun before coming are planned plain apart (b + 4 * k) (b + 4 * k') i done left done' left' regs regs' t
      (record { at = stub.each k i here; goes = goes ∙ ap (λ a. Goes regs' a (room done')) on; unbarred = unbarred; wants = wants; quiet = quiet })
      joined registers others h

  small : (k : ℕ) → k < 12 → b + 4 * k < 2 ^ 31
  small k lt = let e = stub.here in omega (arith, e.1, lt)

  -- a load from the plan area isn't closed
  load_open : (k rd rs1 n : ℕ) (regs : List ℕ) → k < 12 → 0x0040_0000 ≤ reg regs rs1 + n → reg regs rs1 + n < 2 ^ 32 → opens (closed (b + 4 * k)) (loads_from (Lw rd rs1 (pos n)) regs) ≡ true
  load_open k rd rs1 n regs lt from to =
      ap not (free (b + 4 * k) (add (reg regs rs1) (word_of (pos n))) (omega arith) (omega (arith, lt)) (let e = add_pos (reg regs rs1) n to in omega (arith, e, from)))

  -- into one of the stub's registers
  sets : (k r v : ℕ) (i : Instr) (done left : List Pair) (regs : List ℕ) (t : ℕ) → k < 12 → slice_get commit_instrs k ≡ Some i
      → (r ≡ 5) ⊎ ((r ≡ 6) ⊎ ((r ≡ 7) ⊎ (r ≡ 28))) → v < 2 ^ 32
      → execute access i regs (b + 4 * k) (room done) ≡ Goes (put regs r v) (b + 4 * k + 4) (room done)
      → opens (closed (b + 4 * k)) (loads_from i regs) ≡ true → not (into_text (target i regs) && eqb (room done).spare 0) ≡ true → ((s : State) (u : Option (List Binding)) → (after_instr s (Some i) u ≡ u) × (is_call (Some i) ≡ false))
      → In (b + 4 * k) done left regs t → In (b + 4 * (suc k)) done left (put regs r v) (t + 1)
  sets k r v i done left regs t lt here which word goes unbarred wants quiet h =
      line k (suc k) (b + 4 * k + 4) i done left done left regs (put regs r v) t here (omega arith) goes unbarred wants quiet h.joined
      (put_registers regs r v h.registers (free_above r (omega (arith, which)) (omega (arith, which))) word)
      (λ q o. put_other regs r q v (omega (arith, which)) (other q o which)) h
    where
      other : (q : ℕ) → IsOther q → (r ≡ 5) ⊎ ((r ≡ 6) ⊎ ((r ≡ 7) ⊎ (r ≡ 28))) → q ≢ r
      other q o (inl e) f = o.0 (f ∙ e)
      other q o (inr (inl e)) f = o.1 (f ∙ e)
      other q o (inr (inr (inl e))) f = o.2 (f ∙ e)
      other q o (inr (inr (inr e))) f = o.3 (f ∙ e)

  -- ---- once around

  pair_fits : (done later : List Pair) (pair : Pair) → done ++ pair ∷ later ≡ coming → IsInRange pair
  pair_fits done later pair q =
      middle IsInRange (before ++ done) later pair
      (subst (All IsInRange) (sym (append_assoc before done (pair ∷ later) ∙ ap (λ ps. before ++ ps) q ∙ planned.joined)) (ranges (texts old) (texts new) are))

  -- what is still there of the plan area
  plan_is : (done left : List Pair) → done ++ left ≡ coming → HasPlan (room done) coming
  plan_is done left q k word there = (is_stored done left q).loads (plan_area + 4 * k) 4 (omega arith) ∙ planned.plan k word there

  few_done : (done later : List Pair) (pair : Pair) → done ++ pair ∷ later ≡ coming → length done < 65535
  few_done done later pair q = omega (arith, ap length q, length-append done (pair ∷ later), few_coming)

  address_loads : (done later : List Pair) (pair : Pair) → done ++ pair ∷ later ≡ coming → access.load (room done) (0x0040_0000 + 8 * length done + 4) 4 ≡ Some pair.address
  address_loads done later pair q =
      let at : 0x0040_0000 + 8 * length done + 4 ≡ 0x0040_0000 + 4 * (1 + 2 * length done) = omega arith in
      ap (λ a. access.load (room done) a 4) at ∙ plan_is done (pair ∷ later) q (1 + 2 * length done) pair.address (plan_address coming done later pair q)

  word_loads : (done later : List Pair) (pair : Pair) → done ++ pair ∷ later ≡ coming → access.load (room done) (0x0040_0000 + 8 * length done + 8) 4 ≡ Some pair.word
  word_loads done later pair q =
      let at : 0x0040_0000 + 8 * length done + 8 ≡ 0x0040_0000 + 4 * (2 + 2 * length done) = omega arith in
      ap (λ a. access.load (room done) a 4) at ∙ plan_is done (pair ∷ later) q (2 + 2 * length done) pair.word (plan_word coming done later pair q)

  around : (done left : List Pair) (pair : Pair) (i : ℕ) → Loop (b + 4 * 3) done (pair ∷ left) i → Loop (b + 4 * 3) (done ++ pair ∷ []) left (i + 7)
  around done left pair i h =
      let r0 = h.regs in
      let q = h.stands.joined in
      let many = h.stands.registers.count in
      let fits = pair_fits done left pair q in
      let few = few_done done left pair q in
      let r1 = put r0 7 pair.address in
      let r2 = put r1 28 pair.word in
      let r3 = put r2 5 (0x0040_0000 + 8 * length done + 8) in
      let r4 = put r3 6 (length left) in
      let c1 : In (b + 4 * 4) done (pair ∷ left) r0 (i + 1) =
      line 3 4 (b + 4 * 3 + 4) (Beq 6 0 (pos 28)) done (pair ∷ left) done (pair ∷ left) r0 r0 i refl (omega arith)
      (stays_goes access (room done) r0 (b + 4 * 3) (small 3 (omega arith)) 6 (length left) h.count) refl refl (λ s u. (refl, refl)) q h.stands.registers (λ n o. refl) h.stands in
      let p1 : reg r0 5 + 4 ≡ 0x0040_0000 + 8 * length done + 4 = omega (arith, h.pointer) in
      let c2 : In (b + 4 * 5) done (pair ∷ left) r1 (i + 1 + 1) =
      sets 4 7 pair.address (Lw 7 5 (pos 4)) done (pair ∷ left) r0 (i + 1) (omega arith) refl (inr (inr (inl refl))) fits.address
      (lw_goes access (room done) r0 (b + 4 * 4) (small 4 (omega arith)) 7 5 4 (0x0040_0000 + 8 * length done + 4) pair.address p1
      (omega (arith, few)) (address_loads done left pair q)) (load_open 4 7 5 4 r0 (omega arith) (omega (arith, p1)) (omega (arith, p1, few))) refl
      (λ s u. (refl, refl)) c1 in
      let n1 = c2.registers.count in
      let p2 : reg r1 5 + 8 ≡ 0x0040_0000 + 8 * length done + 8 = omega (arith, h.pointer, put_other r0 7 5 pair.address (omega arith) (λ e. omega (arith, e))) in
      let c3 : In (b + 4 * 6) done (pair ∷ left) r2 (i + 1 + 1 + 1) =
      sets 5 28 pair.word (Lw 28 5 (pos 8)) done (pair ∷ left) r1 (i + 1 + 1) (omega arith) refl (inr (inr (inr refl))) fits.word
      (lw_goes access (room done) r1 (b + 4 * 5) (small 5 (omega arith)) 28 5 8 (0x0040_0000 + 8 * length done + 8) pair.word p2 (omega (arith, few))
      (word_loads done left pair q)) (load_open 5 28 5 8 r1 (omega arith) (omega (arith, p2)) (omega (arith, p2, few))) refl (λ s u. (refl, refl)) c2 in
      let n2 = c3.registers.count in
      let to : reg r2 7 ≡ pair.address = put_other r1 28 7 pair.word (omega arith) (λ e. omega (arith, e)) ∙ put_same r0 7 pair.address (omega arith) (omega (arith, many)) in
      let what : reg r2 28 ≡ pair.word = put_same r1 28 pair.word (omega arith) (omega (arith, n1)) in
      let facts = is_stored done (pair ∷ left) q in
      let some : 1 ≤ (room done).spare = facts.roomy pair left refl planned.reserved in
      let spare : eqb (room done).spare 0 ≡ false = ne_eqb (room done).spare 0 (λ e. omega (arith, e, some)) in
      let q' : (done ++ pair ∷ []) ++ left ≡ coming = append_assoc done (pair ∷ []) left ∙ q in
      let c4 : In (b + 4 * 7) (done ++ pair ∷ []) left r2 (i + 1 + 1 + 1 + 1) =
      line 6 7 (b + 4 * 6 + 4) (Sw 7 28 (pos 0)) done (pair ∷ left) (done ++ pair ∷ []) left r2 r2 (i + 1 + 1 + 1) refl (omega arith)
      (sw_goes access (room done) r2 (b + 4 * 6) (small 6 (omega arith)) 7 28 pair.address pair.word (room (done ++ pair ∷ [])) to what fits.address
      (facts.next pair left refl ∙ ap (λ ps. Some (stored_all begun ps)) (append_assoc before done (pair ∷ [])))) refl
      (ap (λ z. not (into_text (Some (add (reg r2 7) (word_of (pos 0)))) && z)) spare ∙ not_and_false (into_text (Some (add (reg r2 7) (word_of (pos 0)))))) (λ s u. (refl, refl)) q' c3.registers (λ n o. refl) c3 in
      let p5 : reg r2 5 ≡ 0x0040_0000 + 8 * length done = put_other r1 28 5 pair.word (omega arith) (λ e. omega (arith, e)) ∙ put_other r0 7 5 pair.address (omega arith) (λ e. omega (arith, e)) ∙ h.pointer in
      let c5 : In (b + 4 * 8) (done ++ pair ∷ []) left r3 (i + 1 + 1 + 1 + 1 + 1) =
      sets 7 5 (0x0040_0000 + 8 * length done + 8) (Addi 5 5 (pos 8)) (done ++ pair ∷ []) left r2 (i + 1 + 1 + 1 + 1) (omega arith) refl (inl refl) (omega (arith, few))
      (addi_goes access (room (done ++ pair ∷ [])) r2 (b + 4 * 7) (small 7 (omega arith)) 5 5 8 (0x0040_0000 + 8 * length done + 8) (omega (arith, p5)) (omega (arith, few))) refl refl (λ s u. (refl, refl)) c4 in
      let n3 = c5.registers.count in
      let left_many : length left < 2 ^ 32 = omega (arith, ap length q, length-append done (pair ∷ left), few_coming) in
      let p6 : reg r3 6 ≡ suc (length left) =
      put_other r2 5 6 (0x0040_0000 + 8 * length done + 8) (omega arith) (λ e. omega (arith, e)) ∙ put_other r1 28 6 pair.word (omega arith) (λ e. omega (arith, e))
      ∙ put_other r0 7 6 pair.address (omega arith) (λ e. omega (arith, e)) ∙ h.count in
      let c6 : In (b + 4 * 9) (done ++ pair ∷ []) left r4 (i + 1 + 1 + 1 + 1 + 1 + 1) =
      sets 8 6 (length left) (Addi 6 6 (negsuc 0)) (done ++ pair ∷ []) left r3 (i + 1 + 1 + 1 + 1 + 1) (omega arith) refl (inr (inl refl)) left_many
      (less_goes access (room (done ++ pair ∷ [])) r3 (b + 4 * 8) (small 8 (omega arith)) 6 6 (length left) p6 left_many) refl refl (λ s u. (refl, refl)) c5 in
      let even = stub.here.2 in
      let c7 : In (b + 4 * 3) (done ++ pair ∷ []) left r4 (i + 1 + 1 + 1 + 1 + 1 + 1 + 1) =
      line 9 3 (b + 4 * 3) (Jal 0 (negsuc 23)) (done ++ pair ∷ []) left (done ++ pair ∷ []) left r4 r4 (i + 1 + 1 + 1 + 1 + 1 + 1) refl refl
      (back_goes access (room (done ++ pair ∷ [])) r4 (b + 4 * 9) (small 9 (omega arith)) (b + 4 * 3) (omega arith) (omega (arith, even))) refl refl (λ s u. (refl, refl)) q' c6.registers (λ n o. refl) c6 in
      let seven : i + 1 + 1 + 1 + 1 + 1 + 1 + 1 ≡ i + 7 = omega arith in
      let p8 : reg r4 5 ≡ 0x0040_0000 + 8 * length done + 8 =
      put_other r3 6 5 (length left) (omega arith) (λ e. omega (arith, e)) ∙ put_same r2 5 (0x0040_0000 + 8 * length done + 8) (omega arith) (omega (arith, n2)) in
      record {
        regs = r4;
        stands = subst (In (b + 4 * 3) (done ++ pair ∷ []) left r4) seven c7;
        pointer = omega (arith, p8, length-append done (pair ∷ []));
        count = put_same r3 6 (length left) (omega arith) (omega (arith, n3));
      }

  -- ---- the loop

  -- the loop is left at FENCE.I, with all pairs stored
  pub record Left (i : ℕ) (left : List Pair) : Type 0 where
    pub time : ℕ
    pub regs : List ℕ
    pub stands : In (b + 4 * 10) coming [] regs time
    pub count : time ≡ i + 7 * length left + 1

  pub store_loop : (left done : List Pair) (i : ℕ) → Loop (b + 4 * 3) done left i → Left i left
  store_loop [] done i h =
      let even = stub.here.2 in
      let c = line 3 10 (b + 4 * 3 + 28) (Beq 6 0 (pos 28)) done [] done [] h.regs h.regs i refl (omega arith)
      (leaves_goes access (room done) h.regs (b + 4 * 3) (small 3 (omega arith)) 6 (omega (arith, even)) h.count) refl refl (λ s u. (refl, refl)) h.stands.joined h.stands.registers (λ n o. refl) h.stands in
      record {
        time = i + 1;
        regs = h.regs;
        stands = subst (λ d. In (b + 4 * 10) d [] h.regs (i + 1)) (sym (append-nil done) ∙ h.stands.joined) c;
        count = omega arith;
      }
  store_loop (pair ∷ left) done i h =
      let x = store_loop left (done ++ pair ∷ []) (i + 7) (around done left pair i h) in
      let n = x.count in
      record { time = x.time; regs = x.regs; stands = x.stands; count = omega (arith, n) }

  -- ---- behind the call: t0 to the plan area, t1 to the count

  begins : (run closed texts first picks start).pc ≡ b + 4 * 1
      → run closed texts first picks start ≡ record (run closed texts first picks start) { regs = (run closed texts first picks start).regs; pc = b + 4 * 1; room = room [] }
  begins at =
      ap₂ (λ pc r. record (run closed texts first picks start) { pc = pc; room = r }) at
      (planned.room ∙ ap (stored_all begun) (sym (append-nil before)))

  pub enters : (run closed texts first picks start).pc ≡ b + 4 * 1 → Loop (b + 4 * 3) [] coming (start + 2)
  enters at =
      let r0 = (run closed texts first picks start).regs in
      let r1 = put r0 5 0x0040_0000 in
      let r2 = put r1 6 (length coming) in
      let many = planned.registers.count in
      let few = few_coming in
      let c0 : In (b + 4 * 1) [] coming r0 start = record {
        is = begins at;
        under = planned.under;
        joined = refl;
        registers = planned.registers;
        others = λ q o. refl;
        sound = planned.sound;
      } in
      let c1 : In (b + 4 * 2) [] coming r1 (start + 1) =
      sets 1 5 0x0040_0000 (Lui 5 (pos 0x400)) [] coming r0 start (omega arith) refl (inl refl) (omega arith)
      (lui_goes access (room []) r0 (b + 4 * 1) (small 1 (omega arith))) refl refl (λ s u. (refl, refl)) c0 in
      let n1 = c1.registers.count in
      let p1 : reg r1 5 ≡ 0x0040_0000 = put_same r0 5 0x0040_0000 (omega arith) (omega (arith, many)) in
      let counted : access.load (room []) (0x0040_0000 + 4 * 0) 4 ≡ Some (length coming) =
      plan_is [] coming refl 0 (length coming) refl in
      let c2 : In (b + 4 * 3) [] coming r2 (start + 1 + 1) =
      sets 2 6 (length coming) (Lw 6 5 (pos 0)) [] coming r1 (start + 1) (omega arith) refl (inr (inl refl)) (omega (arith, few))
      (lw_goes access (room []) r1 (b + 4 * 2) (small 2 (omega arith)) 6 5 0 (0x0040_0000 + 4 * 0) (length coming) (omega (arith, p1))
      (omega arith) counted) (load_open 2 6 5 0 r1 (omega arith) (omega (arith, p1)) (omega (arith, p1))) refl (λ s u. (refl, refl)) c1 in
      let two : start + 1 + 1 ≡ start + 2 = omega arith in
      record {
        regs = r2;
        stands = subst (In (b + 4 * 3) [] coming r2) two c2;
        pointer = put_other r1 6 5 (length coming) (omega arith) (λ e. omega (arith, e)) ∙ p1;
        count = put_same r1 6 (length coming) (omega arith) (omega (arith, n1));
      }

  -- ---- FENCE.I

  all_stored : room coming ≡ stored_all begun the_pairs
  all_stored = ap (stored_all begun) planned.joined

  pub fences : (regs : List ℕ) (i : ℕ) → In (b + 4 * 10) coming [] regs i → Committed closed texts first picks old new start begun before coming (b + 4 * 11) (i + 1)
  fences regs i h =
      let at = stub.each 10 FenceI refl in
      let on : b + 4 * 10 + 4 ≡ b + 4 * 11 = omega arith in
      let goes : execute access FenceI regs (b + 4 * 10) (room coming) ≡ Goes regs (b + 4 * 11) (access.fence (room coming)) =
      fence_goes access (room coming) regs (b + 4 * 10) (small 10 (omega arith)) ∙ ap (λ a. Goes regs a (access.fence (room coming))) on in
      let is = mid_goes between tested differ closed texts first picks word old new start begun before coming are planned plain apart (b + 4 * 10)
      (b + 4 * 11) FenceI coming [] regs regs (access.fence (room coming)) i at h.joined goes h.is in
      record {
        regs = regs;
        is = is ∙ ap (λ r. record (run closed texts first picks start) { regs = regs; pc = b + 4 * 11; room = access.fence r }) all_stored;
        under = mid_under between tested differ closed texts first picks word old new start begun before coming are planned plain apart (b + 4 * 10) FenceI coming [] regs i at h.joined h.is;
        settled = subst (λ (s : State). IsSettled (texts new) s.room) (sym is) ((is_stored coming [] h.joined).fenced refl);
        registers = h.registers;
        others = h.others;
        sound = before_next (Sound closed texts first picks) i h.sound
            (ap₂ (λ u s. is_sound closed texts u (spot_of s)) h.under h.is
            ∙ mid_sound between tested differ closed texts first picks word old new start begun before coming are planned plain apart
            (b + 4 * 10) FenceI coming [] regs at h.joined refl refl refl);
      }

  -- from behind the call to behind FENCE.I
  pub record Commits : Type 0 where
    pub time : ℕ
    pub done : Committed closed texts first picks old new start begun before coming (b + 4 * 11) time
    pub count : time ≡ start + 4 + 7 * length coming

  pub commits : (run closed texts first picks start).pc ≡ b + 4 * 1 → Commits
  commits at =
      let x = store_loop coming [] (start + 2) (enters at) in
      let n = x.count in
      record { time = x.time + 1; done = fences x.regs x.time x.stands; count = omega (arith, n) }
