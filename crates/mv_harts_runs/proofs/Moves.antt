-- What one instruction of a hart leaves, and that it is the next one of its run alone.
use Rattle.std.proofs.Common.{◌≡◌, ◌⊎◌, inl, inr, ℕ, ◌+◌, ◌≤◌, Bool, true, false, cond, nat_eq, List, [], ◌∷◌, ◌++◌, append_assoc, slice_get, slice_index, Option, Some, None, refl, sym, ap, ap₂, ◌∙◌, subst}
use Rattle.std.specs.Prelude.{option_and_then, if◌then◌else◌}
use Rattle.mv_num.specs.Regions.{data_start}
use Rattle.mv_bindings.specs.declared.binding.Binding.{Binding}
use Rattle.mv_descriptors.specs.declared.rows.SwitchRow.{SwitchRow}
use Rattle.mv_isa.specs.declared.instr.Instr.{Instr}
use Rattle.mv_isa.specs.declared.instr.Cause.{Cause}
use Rattle.mv_isa.specs.declared.instr.Instr.TheVariants.{Ecall}
use Rattle.mv_isa.specs.Execution.{Outcome, Goes, Calls, Faults, reg}
use Rattle.mv_isa.specs.Registers.{a7}
use Rattle.mv_fetch.specs.Held.{Room, fence}
use Rattle.mv_image.specs.Spelling.{Fields}
use Rattle.mv_rv32.specs.Stepping.{access}
use Rattle.mv_refine_machine.specs.Stores.Between.{IsWhole}
use Rattle.mv_refine_machine.specs.Stores.Laws.{RoomsAreWhole}
use Rattle.mv_refine_machine.proofs.OfCommits.Planned.{no_pairs}
use Rattle.mv_refine_machine.proofs.OfRuns.Stopping.{calls_where, commit_more}
use Rattle.mv_patch.specs.Plans.{plan_between}
use Rattle.mv_bindings.specs.Acts.{Act, Skip}
use Rattle.mv_machine.specs.Runs.{State, Going, Fault, request_of, environment_call, fetched_step, after, turn, is_going}
use Rattle.mv_machine.specs.Commits.{fetched_instr, is_some_pair, after_instr, commit_after}
use Rattle.mv_machine.proofs.Turns.{turn_by, runs_more}
use Rattle.mv_harts_runs.specs.Harts.{first_of, Place, AtOrder, AtPoll, Elsewhere, place, handed, Store, store_of, told, took, move, is_in_text}
use Rattle.mv_harts_runs.specs.Alone.{alone, under_alone, IsAlone}
use Rattle.mv_harts_runs.proofs.Steps.{Effect, is_fence, FetchedLed, fetched_led}
use Rattle.mv_harts_runs.proofs.Acts.{IsNoCall, ecall_or, where_calls, coming, with_acts, step_acts, instr_acts, place_at_call, turn_acts, under_acts}
use Rattle.mv_harts_runs.proofs.Calls.{store_kept, IsOwn, call_kept, call_binds}

-- text stays, and memory stays whole
pub record Stays (r r' : Room) : Type 0 where
  pub text : r'.held.text ≡ r.held.text
  pub whole : IsWhole r → IsWhole r'

-- no store into text
abbrev pub IsElsewhere : Option Store → Type 0
IsElsewhere st = (x : Store) → st ≡ Some x → is_in_text x.address ≡ false

fence_text : (r : Room) → (access.fence r).held.text ≡ r.held.text
unfolding access fence
fence_text r = refl

effect_stays : RoomsAreWhole → (st : Option Store) (f : Bool) (m m' : Room) → Effect st f m m' → IsElsewhere st → Stays m m'
effect_stays rooms (Some x) f m m' e out = let k = store_kept rooms m m' x.address x.width x.value (out x refl) e in record { text = k.text; whole = k.whole }
effect_stays rooms None true m m' e out = record { text = ap (λ (r : Room). r.held.text) e ∙ fence_text m; whole = λ w. subst (λ (r : Room). IsWhole r) (sym e) (rooms.fence m) }
effect_stays rooms None false m m' e out = record { text = ap (λ (r : Room). r.held.text) e; whole = λ w. subst (λ (r : Room). IsWhole r) (sym e) w }

led_stays : RoomsAreWhole → (i : Option Instr) (regs r : List ℕ) (pc : ℕ) (m m' : Room) → FetchedLed i regs m (Goes r pc m') → IsElsewhere (option_and_then (λ j. store_of j regs) i) → Stays m m'
led_stays rooms None regs r pc m m' h out = absurd h
led_stays rooms (Some i) regs r pc m m' h out = effect_stays rooms (store_of i regs) (is_fence i) m m' h out

led_stores : (i : Option Instr) (regs r : List ℕ) (pc : ℕ) (m m' : Room) (st : Store) → FetchedLed i regs m (Goes r pc m') → option_and_then (λ j. store_of j regs) i ≡ Some st → access.store m st.address st.width st.value ≡ Some m'
led_stores None regs r pc m m' st h e = absurd h
led_stores (Some i) regs r pc m m' st h e = subst (λ o. Effect o (is_fence i) m m') e h

-- at an environment call there is no store
pub call_told : (s : State) (pick : ℕ) → fetched_instr s pick ≡ Some Ecall → told s pick ≡ None
unfolding told
call_told s pick e = ap (λ i. option_and_then (λ j. store_of j s.regs) i) e

module _ (rooms : RoomsAreWhole) (image : Fields) (in_data : (k : ℕ) (row : SwitchRow) → slice_get image.switches k ≡ Some row → data_start ≤ row.address)
    (s : State) (a : Act) (pick : ℕ) (of : s.image ≡ image) (going : s.stop ≡ Going) where
  abbrev t : State
  t = turn (handed s a) pick

  called : fetched_instr s pick ≡ Some Ecall → t ≡ environment_call (request_of (reg s.regs a7)) (handed s a)
  called e = turn_by (handed s a) pick Calls going (step_acts s (a ∷ []) pick ∙ calls_where s pick e)

  went : (o : Outcome Room) → fetched_step s pick ≡ o → t ≡ after o (handed s a)
  went o e = turn_by (handed s a) pick o going (step_acts s (a ∷ []) pick ∙ e)

  -- nothing but an environment call and a store changes text
  pub stays : (place s pick ≡ AtPoll → IsOwn a) → IsElsewhere (told s pick) → Stays s.room t.room
  unfolding told
  stays own out = by_call (ecall_or (fetched_instr s pick))
    where
      by_call : (fetched_instr s pick ≡ Some Ecall) ⊎ IsNoCall (fetched_instr s pick) → Stays s.room t.room
      by_call (inl e) =
          let k = call_kept rooms image in_data (request_of (reg s.regs a7)) s a of (λ p. own (place_at_call s pick e ∙ p)) in
          subst (λ (x : State). Stays s.room x.room) (sym (called e)) (record { text = k.text; whole = k.whole })
      by_call (inr q) = by_outcome (fetched_step s pick) refl
        where
          by_outcome : (o : Outcome Room) → fetched_step s pick ≡ o → Stays s.room t.room
          by_outcome (Goes regs pc room) e =
              subst (λ (x : State). Stays s.room x.room) (sym (went (Goes regs pc room) e))
              (led_stays rooms (fetched_instr s pick) s.regs regs pc s.room room (subst (λ o. FetchedLed (fetched_instr s pick) s.regs s.room o) e (fetched_led s pick)) out)
          by_outcome Calls e = absurd (q.no (where_calls s pick e))
          by_outcome (Faults why) e = subst (λ (x : State). Stays s.room x.room) (sym (went (Faults why) e)) (record { text = refl; whole = λ w. w })

  -- a store is carried out, or the instruction faults
  pub stores : (st : Store) → told s pick ≡ Some st → ((why : Cause) → t.stop ≡ Fault why → ⊥) → access.store s.room st.address st.width st.value ≡ Some t.room
  unfolding told
  stores st e sane = by_outcome (fetched_step s pick) refl
    where
      by_outcome : (o : Outcome Room) → fetched_step s pick ≡ o → access.store s.room st.address st.width st.value ≡ Some t.room
      by_outcome (Goes regs pc room) q =
          led_stores (fetched_instr s pick) s.regs regs pc s.room room st (subst (λ o. FetchedLed (fetched_instr s pick) s.regs s.room o) q (fetched_led s pick)) e
          ∙ ap (λ (x : State). Some x.room) (sym (went (Goes regs pc room) q))
      by_outcome Calls q = absurd (let none = call_told s pick (where_calls s pick q) in cc)
      by_outcome (Faults why) q = absurd (sane why (ap (λ (x : State). x.stop) (went (Faults why) q)))

  -- no order is carried out and nothing is taken: the bindings stay
  pub binds : (place s pick ≡ AtOrder → nat_eq s.hart 0 ≡ false) → (place s pick ≡ AtPoll → a ≡ Skip) → t.bindings ≡ s.bindings
  binds never skips = by_call (ecall_or (fetched_instr s pick))
    where
      by_outcome : IsNoCall (fetched_instr s pick) → (o : Outcome Room) → fetched_step s pick ≡ o → t.bindings ≡ s.bindings
      by_outcome q (Goes regs pc room) e = ap (λ (x : State). x.bindings) (went (Goes regs pc room) e)
      by_outcome q Calls e = absurd (q.no (where_calls s pick e))
      by_outcome q (Faults why) e = ap (λ (x : State). x.bindings) (went (Faults why) e)

      by_call : (fetched_instr s pick ≡ Some Ecall) ⊎ IsNoCall (fetched_instr s pick) → t.bindings ≡ s.bindings
      by_call (inl e) = ap (λ (x : State). x.bindings) (called e) ∙ call_binds (request_of (reg s.regs a7)) s a (λ p. never (place_at_call s pick e ∙ p)) (λ p. skips (place_at_call s pick e ∙ p))
      by_call (inr q) = by_outcome q (fetched_step s pick) refl

  -- then no commit begins; one that is under way may end
  pub under_stays : (u : Option (List Binding)) (old : List Binding) → t.bindings ≡ s.bindings → commit_after (handed s a) pick u ≡ Some old → u ≡ Some old
  under_stays u old same e = by_call (ecall_or (fetched_instr s pick))
    where
      at : after_instr (handed s a) (fetched_instr s pick) u ≡ Some old
      at = sym (ap (λ stop. if is_going stop then after_instr (handed s a) (fetched_instr s pick) u else u) going) ∙ ap (λ i. if is_going s.stop then after_instr (handed s a) i u else u) (sym (instr_acts s (a ∷ []) pick)) ∙ e

      by_call : (fetched_instr s pick ≡ Some Ecall) ⊎ IsNoCall (fetched_instr s pick) → u ≡ Some old
      by_call (inl q) =
          let none : plan_between s.image s.bindings (environment_call (request_of (reg s.regs a7)) (handed s a)).bindings ≡ [] =
          ap (λ bs. plan_between s.image s.bindings bs) (ap (λ (x : State). x.bindings) (sym (called q)) ∙ same) ∙ no_pairs s.image s.bindings in
          sym (ap (λ ps. cond (is_some_pair ps) (Some s.bindings) u) none) ∙ sym (ap (λ i. after_instr (handed s a) i u) q) ∙ at
      by_call (inr q) = q.stays (handed s a) u old at

  -- a commit that begins with an instruction at which none is under way is from the bindings that are
  pub under_begins : (old : List Binding) → commit_after (handed s a) pick None ≡ Some old → old ≡ s.bindings
  under_begins old e = by_call (ecall_or (fetched_instr s pick))
    where
      at : after_instr (handed s a) (fetched_instr s pick) None ≡ Some old
      at = sym (ap (λ stop. if is_going stop then after_instr (handed s a) (fetched_instr s pick) None else None) going) ∙ ap (λ i. if is_going s.stop then after_instr (handed s a) i None else None) (sym (instr_acts s (a ∷ []) pick)) ∙ e

      by_cond : (b : Bool) → cond b (Some s.bindings) None ≡ Some old → old ≡ s.bindings
      by_cond true q = cc
      by_cond false q = absurd (cc)

      by_call : (fetched_instr s pick ≡ Some Ecall) ⊎ IsNoCall (fetched_instr s pick) → old ≡ s.bindings
      by_call (inl q) = by_cond _ (sym (ap (λ i. after_instr (handed s a) i None) q) ∙ at)
      by_call (inr q) = absurd (let none = q.stays (handed s a) None old at in cc)

-- ---- the next instruction of its run alone

no_pick : (n : ℕ) → slice_index [] n ≡ 0
no_pick n = refl

took_more : (p : Place) (a : Act) (taken more : List Act) → took p a taken ++ more ≡ taken ++ coming p a more
took_more AtPoll a taken more = append_assoc taken (a ∷ []) more
took_more AtOrder a taken more = refl
took_more Elsewhere a taken more = refl

module _ (image : Fields) (input : ℕ → List (Option ℕ)) (h : ℕ) (s : State) (a : Act) (taken : List Act) (count : ℕ) (is : IsAlone image input h s taken count) (going : s.stop ≡ Going) where
  pub alone_more : (u : Option (List Binding)) → IsAlone image input h (move s a u 0).state (took (place s 0) a taken) (count + 1)
  unfolding move
  alone_more u more =
      let acts = coming (place s 0) a more in
      ap (λ l. alone h image (input h) l (count + 1)) (took_more (place s 0) a taken more)
      ∙ runs_more (first_of h image (input h) (taken ++ acts)) [] count
      ∙ ap₂ (λ (x : State) (k : ℕ). turn x k) (is acts) (no_pick count)
      ∙ turn_acts s a more 0 going

  pub under_alone_more : (u : Option (List Binding)) → ((more : List Act) → under_alone h image (input h) (taken ++ more) count ≡ u)
      → (more : List Act) → under_alone h image (input h) (took (place s 0) a taken ++ more) (count + 1) ≡ (move s a u 0).under
  unfolding move
  under_alone_more u under more =
      let acts = coming (place s 0) a more in
      ap (λ l. under_alone h image (input h) l (count + 1)) (took_more (place s 0) a taken more)
      ∙ commit_more (first_of h image (input h) (taken ++ acts)) [] count
      ∙ ap₂ (λ (x : State) (v : Option (List Binding)). commit_after x (slice_index [] count) v) (is acts) (under acts)
      ∙ ap (λ (k : ℕ). commit_after (with_acts s acts) k u) (no_pick count)
      ∙ under_acts s a more 0 going u
