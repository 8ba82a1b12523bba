-- The stub on an image, from its call to its return.
use Rattle.std.proofs.Common.{◌≡◌, ◌≢◌, inl, inr, ⊎_elim, ℕ, add-one, ◌+◌, ◌-◌, ◌*◌, ◌/◌, ◌%◌, ◌<◌, ◌≤◌, Bool, true, false, ◌&&◌, ◌||◌, not, cond, eqb, ltb, List, [], ◌∷◌, ◌++◌, length, slice_get, slice_index, is_some, Option, Some, None, pos, refl, sym, ap, ap₂, ◌∙◌, subst, arith, if◌then◌else◌}
use Rattle.std.proofs.lemmas.List.{append-nil, append_assoc}
use Rattle.std.specs.List.{All}
use Rattle.std.proofs.lemmas.List.Elements.{All-head, All-tail}
use Rattle.std.proofs.lemmas.Bool.{and_from, ne_eqb, cases_lt, lt-ltb, le-ltb, or_parts, eqb-true, ltb-true, ltb-false}
use Rattle.mv_num.specs.Words.{add}
use Rattle.mv_bindings.specs.declared.binding.Binding.{Binding}
use Rattle.mv_isa.specs.declared.instr.Instr.{Instr}
use Rattle.mv_isa.specs.declared.instr.Instr.TheVariants.{Jalr, Ecall}
use Rattle.mv_isa.specs.Encoding.{encode}
use Rattle.mv_isa.specs.Execution.{Outcome, Goes, Calls, reg, execute}
use Rattle.mv_isa.specs.Standing.{InstrStands}
use Rattle.mv_fetch.specs.Held.{Held, Room, region_of, words_of, present, older_at, load, fence, choices}
use Rattle.mv_rv32.specs.Stepping.{access, target}
use Rattle.mv_image.specs.Spelling.{Fields}
use Rattle.mv_image.specs.Faults.{Rules}
use Rattle.mv_image.specs.Patched.{Bindings, ShowsAt, entry_at, site_at, site_before, point_at}
use Rattle.mv_image.proofs.Limits.{is_within}
use Rattle.mv_patch.specs.declared.prepared.Pair.{Pair}
use Rattle.mv_patch.specs.Orders.{values_of}
use Rattle.mv_patch.specs.Plans.{plan_between}
use Rattle.mv_patch.specs.Pairs.{place}
use Rattle.mv_patch.specs.Tables.{patchable}
use Rattle.mv_ir.specs.World.{World}
use Rattle.mv_machine.specs.Runs.{State, request_of, environment_call, is_going}
use Rattle.mv_machine.specs.Commits.{opens, is_some_pair, after_instr, commit_from}
use Rattle.mv_machine.proofs.Turns.{runs_more, turn_by}
use Rattle.mv_select_code.specs.Trees.View.{AreRegisters}
use Rattle.mv_select_code.proofs.OfTrees.Registers.{free_above, put_same, put_other, put_registers}
use Rattle.mv_select_code.proofs.OfControl.Walk.{before_next}
use Rattle.mv_select.specs.Functions.Loads.{loads_from}
use Rattle.mv_refine_machine.specs.Layout.{IsOutsideText}
use Rattle.mv_refine_machine.specs.MachineRuns.{spot_of, machine_text, may_be_patched, image_word, unpatched_word}
use Rattle.mv_refine_machine.specs.MachineRuns as runs
use Rattle.mv_patch.specs.Stores.{stored_all}
use Rattle.mv_refine_machine.specs.Stores.Stores.{AreTexts}
use Rattle.mv_refine_machine.specs.Stores.Between.{IsSettled, is_between, IsStored}
use Rattle.mv_refine_machine.specs.Stores.Laws.{IsNeverPatched}
use Rattle.mv_refine_machine.specs.Commits.Watch.{texts_of, into_text, are_elsewhere, is_sound}
use Rattle.mv_refine_machine.specs.Commits.Storing.{Planned, opened, Committed}
use Rattle.mv_refine_machine.specs.Commits.Watched.{watched, IsQuiet}
use Rattle.mv_refine_machine.specs.Commits.Served.{at, under, SoundAt, QuietAt, IsPlanOpen, AtStub, IsBack}
use Rattle.mv_refine_machine.specs.Commits.Laws.{StubServes}
use Rattle.mv_refine_machine.specs.Commits.Known.{Known}
use Rattle.mv_refine_machine.proofs.OfCommits.Stands.{StubStands, stub_stands}
use Rattle.mv_refine_machine.proofs.OfCommits.Fetched.{executes, instr_is, plainly_sound, target_is}
use Rattle.mv_refine_machine.proofs.OfCommits.Instrs.{return_goes}
use Rattle.mv_refine_machine.proofs.OfCommits.Loop.{Commits, commits}
use Rattle.mv_refine_machine.proofs.Starts.{none_older}
use Rattle.mv_refine_machine.proofs.Fetches.{none_of}
use Rattle.mv_isa.proofs.LineSteps.{add_four}

-- ---- memory outside text

globals_words : (h : Held) → words_of h (region_of 0x0010_0000) ≡ h.globals
unfolding region_of
globals_words h = refl

stack_words_of : (h : Held) → words_of h (region_of 0x0020_0000) ≡ h.stack
unfolding region_of
stack_words_of h = refl

pub in_globals : (a : ℕ) → 0x0010_0000 ≤ a → a < 0x0020_0000 → region_of a ≡ region_of 0x0010_0000
unfolding region_of
in_globals a ge lt =
    let e : ltb a 0x1000 ≡ false = le-ltb a 0x1000 (omega (arith, ge)) in
    let f : ltb a 0x0010_0000 ≡ false = le-ltb a 0x0010_0000 ge in
    let g : ltb a 0x0020_0000 ≡ true = lt-ltb a 0x0020_0000 lt in rw (e, f, g) refl

pub in_stack : (a : ℕ) → 0x0020_0000 ≤ a → a < 0x0040_0000 → region_of a ≡ region_of 0x0020_0000
unfolding region_of
in_stack a ge lt =
    let e : ltb a 0x1000 ≡ false = le-ltb a 0x1000 (omega (arith, ge)) in
    let f : ltb a 0x0010_0000 ≡ false = le-ltb a 0x0010_0000 (omega (arith, ge)) in
    let g : ltb a 0x0020_0000 ≡ false = le-ltb a 0x0020_0000 ge in
    let k : ltb a 0x0040_0000 ≡ true = lt-ltb a 0x0040_0000 lt in rw (e, f, g, k) refl

same_words_outside : (h h' : Held) (a : ℕ) → IsOutsideText a → h'.globals ≡ h.globals → h'.stack ≡ h.stack → words_of h' (region_of a) ≡ words_of h (region_of a)
same_words_outside h h' a out g s = ⊎_elim
    (λ (lt : a < 0x0020_0000). let r = in_globals a out.0 lt in ap (words_of h') r ∙ globals_words h' ∙ g ∙ sym (globals_words h) ∙ sym (ap (words_of h) r))
    (λ (ge : 0x0020_0000 ≤ a). let r = in_stack a ge out.1 in ap (words_of h') r ∙ stack_words_of h' ∙ s ∙ sym (stack_words_of h) ∙ sym (ap (words_of h) r))
    (cases_lt a 0x0020_0000)

-- loads outside text go by the words of data and stack
pub loads_outside : (r r' : Room) (a : ℕ) → IsOutsideText a → r'.held.globals ≡ r.held.globals → r'.held.stack ≡ r.held.stack → access.load r' a 4 ≡ access.load r a 4
unfolding access load present
loads_outside r r' a out g s = rw (same_words_outside r.held r'.held a out g s) refl

-- loads from the stack go by its words
pub loads_stack : (r r' : Room) (a : ℕ) → 0x0020_0000 ≤ a → a < 0x0040_0000 → r'.held.stack ≡ r.held.stack → access.load r' a 4 ≡ access.load r a 4
unfolding access load present
loads_stack r r' a ge lt s =
    let q = in_stack a ge lt in
    let same : words_of r'.held (region_of a) ≡ words_of r.held (region_of a) = ap (words_of r'.held) q ∙ stack_words_of r'.held ∙ s ∙ sym (stack_words_of r.held) ∙ sym (ap (words_of r.held) q) in
    rw same refl

fence_keeps : (r : Room) → (((access.fence r).held.globals ≡ r.held.globals) × ((access.fence r).held.stack ≡ r.held.stack) × ((access.fence r).held.plan ≡ r.held.plan)) × ((access.fence r).reserve ≡ r.reserve)
unfolding access fence
fence_keeps r = ((refl, refl, refl), refl)

-- ---- words that are never patched

-- an address of text at which nothing is patched, and its word
pub record Unpatched (image : Fields) (a word : ℕ) : Type 0 where
  pub index : ℕ
  pub at : place index ≡ a
  pub below : a < 0x0010_0000
  pub there : slice_get image.text index ≡ Some word
  pub never : IsNeverPatched image a

none_some : {A : Type 0} {x : A} → None ≡ Some x → ⊥
none_some e = cc

pub unpatched_told : (image : Fields) (a word : ℕ) → unpatched_word image a ≡ Some word → Unpatched image a word
unfolding unpatched_word image_word
unpatched_told image a word e = by_tests (may_be_patched image a) (eqb (a % 4) 0) (ltb a 0x1000) (ltb a 0x0010_0000) refl refl refl refl e
  where
    by_tests : (patched aligned low below : Bool) → may_be_patched image a ≡ patched → eqb (a % 4) 0 ≡ aligned → ltb a 0x1000 ≡ low → ltb a 0x0010_0000 ≡ below
        → cond patched None (cond aligned (cond low None (cond below (slice_get image.text ((a - 0x1000) / 4)) None)) None) ≡ Some word → Unpatched image a word
    by_tests true aligned low below m q l u k = absurd (cc)
    by_tests false false low below m q l u k = absurd (cc)
    by_tests false true true below m q l u k = absurd (cc)
    by_tests false true false false m q l u k = absurd (cc)
    by_tests false true false true m q l u k =
        let p = or_parts (is_some (entry_at image a)) (is_some (site_at image a) || (is_some (site_before image a) || is_some (point_at image a))) m in
        let r = or_parts (is_some (site_at image a)) (is_some (site_before image a) || is_some (point_at image a)) p.1 in
        let s = or_parts (is_some (site_before image a)) (is_some (point_at image a)) r.1 in
        let even = eqb-true (a % 4) 0 q in
        let from = ltb-false a 0x1000 l in
        record {
          index = (a - 0x1000) / 4;
          at = omega (arith, even, from);
          below = ltb-true a 0x0010_0000 u;
          there = k;
          never = record {
            no_entry = none_of (entry_at image a) p.0;
            no_site = none_of (site_at image a) r.0;
            no_site_before = none_of (site_before image a) s.0;
            no_point = none_of (point_at image a) s.1;
          };
        }

-- nothing shows there
never_shown : (image : Fields) (f a : ℕ) → IsNeverPatched image a → ShowsAt image f a → ⊥
never_shown image f a never (inl e) = none_some (sym never.no_entry ∙ e)
never_shown image f a never (inr (inl e)) = none_some (sym never.no_site ∙ e.1)
never_shown image f a never (inr (inr (inl e))) = none_some (sym never.no_site_before ∙ e.1)
never_shown image f a never (inr (inr (inr e))) = none_some (sym never.no_point ∙ e.1)

all_elsewhere : (image : Fields) (some other : Bindings) (a : ℕ) → IsNeverPatched image a → (pairs : List Pair)
    → All (λ (pair : Pair). (f : ℕ) × (some f ≢ other f) × ShowsAt image f pair.address) pairs → are_elsewhere a pairs ≡ true
all_elsewhere image some other a never [] h = refl
all_elsewhere image some other a never (pair ∷ pairs) h =
    let Shown : Pair → Type 0 = λ (pair : Pair). (f : ℕ) × (some f ≢ other f) × ShowsAt image f pair.address in
    let here = All-head Shown pair pairs h in
    and_from (not (eqb pair.address a)) (are_elsewhere a pairs)
    (ap not (ne_eqb pair.address a (λ e. never_shown image here.0 a never (subst (ShowsAt image here.0) e here.2))))
    (all_elsewhere image some other a never pairs (All-tail Shown pair pairs h))

few_patchable : (image : Fields) → Rules image → patchable image < 65536
unfolding patchable
few_patchable image rules = let x = is_within image rules in omega (arith, x.functions, x.places)

module _ (known : Known) (closed : (pc address : ℕ) → Bool) (image : Fields) (rules : Rules image) (first : State) (picks : List ℕ) where
  abbrev W : ℕ → Option ℕ
  W = unpatched_word image

  abbrev S : ℕ → State
  S = at closed image first picks

  abbrev U : ℕ → Option (List Binding)
  U = under closed image first picks

  are_texts : (old new : List Binding) → AreTexts (texts_of image old) (texts_of image new)
  are_texts old new = (known.images image rules (values_of old) (values_of new)).texts

  few_pairs : (old new : List Binding) → length (plan_between image old new) ≤ patchable image
  few_pairs old new = (known.tells image rules (values_of old) (values_of new)).few

  -- ---- calm times

  -- a word that is never patched has one choice, whatever is stored so far
  pub stays : (old new : List Binding) (room : Room) → IsSettled (texts_of image old) room → (done left : List Pair) → done ++ left ≡ plan_between image old new
      → (a w : ℕ) → W a ≡ Some w → choices (stored_all room done).held a ≡ w ∷ []
  stays old new room settled done left q a w h =
      let u = unpatched_told image a w h in
      subst (λ b. choices (stored_all room done).held b ≡ w ∷ []) u.at
      ((known.images image rules (values_of old) (values_of new)).plain room settled done left q u.index w (subst (IsNeverPatched image) (sym u.at) u.never) u.there)

  -- and a commit changes none of them
  apart : (old new : List Binding) (a w : ℕ) → W a ≡ Some w → are_elsewhere a (plan_between image old new) ≡ true
  apart old new a w h =
      let u = unpatched_told image a w h in
      all_elsewhere image (values_of old) (values_of new) a u.never (plan_between image old new) (known.images image rules (values_of old) (values_of new)).show

  quiet_one : (bs : List Binding) (room : Room) → IsSettled (texts_of image bs) room → (a w : ℕ) → W a ≡ Some w → choices room.held a ≡ w ∷ []
  unfolding stored_all
  quiet_one bs room settled a w h = stays bs bs room settled [] (plan_between image bs bs) refl a w h

  quiet_between : (bs : List Binding) (room : Room) → IsSettled (texts_of image bs) room → is_between (texts_of image bs) (texts_of image bs) room.held ≡ true
  quiet_between bs room h = (known.tested (texts_of image bs) (texts_of image bs) room.held).1 ((known.rooms.same (texts_of image bs) room.held).1 (h.text, h.older))

  -- an instruction that stands where nothing is patched, at a calm time
  pub record Calmly (w : World) (i : Instr) (t : ℕ) : Type 0 where
    pub quiet : QuietAt closed image first picks w t
    pub stands : InstrStands W (S t).pc i
    pub sound : (j : ℕ) → j < t → SoundAt closed image first picks j

  calm_one : (w : World) (i : Instr) (t : ℕ) → Calmly w i t → choices (S t).room.held (S t).pc ≡ encode i ∷ []
  calm_one w i t h = quiet_one w.bindings (S t).room h.quiet.settled (S t).pc (encode i) h.stands.word

  pub calm_sound : (w : World) (i : Instr) (t : ℕ) → Calmly w i t → runs.opens (closed (S t).pc) (loads_from i (S t).regs) ≡ true → not (into_text (target i (S t).regs) && eqb (S t).room.spare 0) ≡ true → SoundAt closed image first picks t
  unfolding is_sound
  calm_sound w i t h unbarred wants =
      let one = calm_one w i t h in
      let bs = h.quiet.calm.bindings in
      ap (λ u. is_sound closed (texts_of image) u (spot_of (S t))) h.quiet.under
      ∙ and_from _ _ (plainly_sound (S t) i h.stands.fields one closed unbarred)
      (and_from _ _ (ap (λ b. is_between (texts_of image b) (texts_of image b) (S t).room.held) bs ∙ quiet_between w.bindings (S t).room h.quiet.settled)
      (and_from _ _ (ap (λ a. not (into_text a && eqb (S t).room.spare 0)) (target_is (S t) i h.stands.fields one) ∙ wants) refl))

  calm_goes : (w : World) (i : Instr) (t : ℕ) (regs' : List ℕ) (pc' : ℕ) (room' : Room) → Calmly w i t → execute access i (S t).regs (S t).pc (S t).room ≡ Goes regs' pc' room'
      → S (t + 1) ≡ record (S t) { regs = regs'; pc = pc'; room = room' }
  calm_goes w i t regs' pc' room' h goes =
      let outcome : Outcome Room = Goes regs' pc' room' in
      runs_more first picks t ∙ turn_by (S t) (slice_index picks t) outcome h.quiet.calm.goes_on (executes (S t) i h.stands.fields (calm_one w i t h) (slice_index picks t) ∙ goes)

  pub calm_under : (w : World) (i : Instr) (t : ℕ) → Calmly w i t → U (t + 1) ≡ after_instr (S t) (Some i) None
  unfolding commit_from
  calm_under w i t h =
      ap (commit_from first picks) (add-one t)
      ∙ ap₂ (λ stop o. if is_going stop then after_instr (S t) o (U t) else U t) h.quiet.calm.goes_on (instr_is (S t) i h.stands.fields (calm_one w i t h) (slice_index picks t))
      ∙ ap (after_instr (S t) (Some i)) h.quiet.under

  call_is : (regs : List ℕ) (pc : ℕ) (room : Room) → execute access Ecall regs pc room ≡ Calls
  unfolding execute
  call_is regs pc room = refl

  pub calm_calls : (w : World) (t : ℕ) → Calmly w Ecall t → S (t + 1) ≡ environment_call (request_of (reg (S t).regs 17)) (S t)
  calm_calls w t h =
      let outcome : Outcome Room = Calls in
      runs_more first picks t
      ∙ turn_by (S t) (slice_index picks t) outcome h.quiet.calm.goes_on (executes (S t) Ecall h.stands.fields (calm_one w Ecall t h) (slice_index picks t) ∙ call_is (S t).regs (S t).pc (S t).room)

  -- ---- the stub

  module _ (pc : ℕ) (stub : StubStands W pc) (free : IsPlanOpen closed pc) (back : ℕ) (w after : World) (answer i : ℕ) (h : AtStub closed image first picks pc back w after answer i) where
    abbrev the_pairs : List Pair
    the_pairs = plan_between image w.bindings after.bindings

    abbrev begun : List Pair → Option (List Binding)
    begun = opened closed (texts_of image) first picks w.bindings after.bindings (i + 1) h.planned.begun h.planned.before h.planned.coming

    -- the call
    calls : Calmly w Ecall i
    calls =
        let e : pc + 4 * 0 ≡ pc = omega arith in record {
          quiet = h.quiet;
          stands = subst (λ a. InstrStands W a Ecall) (e ∙ sym h.here) (stub.each 0 Ecall refl);
          sound = h.sound;
        }

    begins : (ps : List Pair) → the_pairs ≡ ps → cond (is_some_pair ps) (Some (S i).bindings) None ≡ begun ps
    begins [] e = refl
    begins (p ∷ ps) e = ap Some h.quiet.calm.bindings

    -- the call begins a commit where it gives a pair
    opens_is : opens (S i) ≡ is_some_pair the_pairs
    opens_is =
        ap₂ (λ f bs. is_some_pair (plan_between f (S i).bindings bs)) h.of (ap (λ (s : State). s.bindings) (sym (calm_calls w i calls)) ∙ h.planned.bindings)
        ∙ ap (λ bs. is_some_pair (plan_between image bs after.bindings)) h.quiet.calm.bindings

    under_call : U (i + 1) ≡ begun the_pairs
    under_call = calm_under w Ecall i calls ∙ ap (λ b. cond b (Some (S i).bindings) None) opens_is ∙ begins the_pairs refl

    sound_call : (t : ℕ) → t < i + 1 → SoundAt closed image first picks t
    sound_call = before_next (SoundAt closed image first picks) i h.sound (calm_sound w Ecall i calls refl refl)

    joined : h.planned.before ++ h.planned.coming ≡ the_pairs
    joined = h.planned.joined ∙ ap (λ bs. plan_between image bs after.bindings) h.quiet.calm.bindings

    behind : Planned closed (texts_of image) first picks w.bindings after.bindings (i + 1) h.planned.begun h.planned.before h.planned.coming
    unfolding stored_all
    behind =
        let p = h.planned in
        let s = h.quiet.settled in
        let few = few_pairs w.bindings after.bindings in record {
          going = p.going;
          bound = p.bindings;
          under = under_call;
          settled = record { text = p.text ∙ s.text; older = p.older ∙ s.older; spare = p.spare ∙ s.spare ∙ sym p.reserve };
          joined = joined;
          room = p.room;
          plan = p.plan;
          few = omega (arith, few, few_patchable image rules);
          reserved = omega (arith, few, p.reserve, h.quiet.reserve);
          registers = subst AreRegisters (sym p.regs) (put_registers (S i).regs 10 answer h.registers (free_above 10 (omega arith) (omega arith)) h.word);
          sound = sound_call;
        }

    -- whatever is stored of the pairs to come
    plain : (done left : List Pair) → done ++ left ≡ h.planned.coming → (a word : ℕ) → W a ≡ Some word → choices (stored_all h.planned.begun (h.planned.before ++ done)).held a ≡ word ∷ []
    plain done left q a word e =
        stays w.bindings after.bindings h.planned.begun behind.settled (h.planned.before ++ done) left (append_assoc h.planned.before done left ∙ ap (λ (ps : List Pair). h.planned.before ++ ps) q ∙ joined) a word e

    behind_at : (S (i + 1)).pc ≡ pc + 4 * 1
    behind_at =
        let small = stub.here in
        h.planned.pc ∙ ap (λ a. add a 4) h.here ∙ add_four pc (omega (arith, small.1))

    stored_on : Commits known.between known.tested known.differ known.ranges closed (texts_of image) first picks W w.bindings after.bindings (i + 1) h.planned.begun h.planned.before h.planned.coming (are_texts w.bindings after.bindings)
        behind plain (apart w.bindings after.bindings) pc stub free
    stored_on =
        commits known.between known.tested known.differ known.ranges closed (texts_of image) first picks W w.bindings after.bindings (i + 1) h.planned.begun h.planned.before h.planned.coming (are_texts w.bindings after.bindings)
        behind plain (apart w.bindings after.bindings) pc stub free behind_at

    abbrev j : ℕ
    j = stored_on.time

    abbrev done : Committed closed (texts_of image) first picks w.bindings after.bindings (i + 1) h.planned.begun h.planned.before h.planned.coming (pc + 4 * 11) j
    done = stored_on.done

    stores : IsStored (texts_of image w.bindings) (texts_of image after.bindings) h.planned.begun the_pairs []
    stores = known.between (texts_of image w.bindings) (texts_of image after.bindings) (are_texts w.bindings after.bindings) h.planned.begun behind.settled the_pairs [] (append-nil the_pairs)

    -- of them those that the call found there
    found : IsStored (texts_of image w.bindings) (texts_of image after.bindings) h.planned.begun h.planned.before h.planned.coming
    found = known.between (texts_of image w.bindings) (texts_of image after.bindings) (are_texts w.bindings after.bindings) h.planned.begun behind.settled h.planned.before h.planned.coming joined

    -- calm again
    quiet_again : QuietAt closed image first picks after j
    quiet_again =
        let p = h.planned in
        let is = done.is in
        let f = fence_keeps (stored_all h.planned.begun the_pairs) in
        let bindings : (S j).bindings ≡ after.bindings = ap (λ (s : State). s.bindings) is ∙ p.bindings in record {
          calm = record {
            goes_on = ap (λ (s : State). s.stop) is ∙ p.going;
            text = done.settled.text ∙ ap (texts_of image) (sym bindings);
            no_older = λ k. ap (λ older. older_at older k) done.settled.older ∙ none_older (length (texts_of image after.bindings)) k;
            stack = ap (λ (s : State). length s.room.held.stack) is ∙ ap length (f.0.1 ∙ stores.stack ∙ p.stack) ∙ h.quiet.calm.stack;
            input = ap (λ (s : State). s.input) is ∙ p.input;
            output = ap (λ (s : State). s.output) is ∙ p.output;
            bindings = bindings;
            log = ap (λ (s : State). s.log) is ∙ p.log;
          };
          settled = done.settled;
          reserve = ap (λ (s : State). s.room.reserve) is ∙ f.1 ∙ stores.reserve ∙ p.reserve ∙ h.quiet.reserve;
          under = done.under;
          plan = ap (λ (s : State). length s.room.held.plan) is ∙ ap length (f.0.2 ∙ stores.plan) ∙ p.size ∙ h.quiet.plan;
          hart = ap (λ (s : State). s.hart) is ∙ p.hart;
          actions = ap (λ (s : State). s.actions) is ∙ p.actions;
        }

    -- the return
    returns : Calmly after (Jalr 0 1 (pos 0)) j
    returns = record {
      quiet = quiet_again;
      stands = subst (λ a. InstrStands W a (Jalr 0 1 (pos 0))) (sym (ap (λ (s : State). s.pc) done.is)) (stub.each 11 (Jalr 0 1 (pos 0)) refl);
      sound = done.sound;
    }

    other_call : (q : ℕ) → q ≢ 10 → reg (S (i + 1)).regs q ≡ reg (S i).regs q
    other_call q ne = ap (λ rs. reg rs q) h.planned.regs ∙ put_other (S i).regs 10 q answer (omega arith) ne

    link : reg (S j).regs 1 ≡ back
    link =
        ap (λ (s : State). reg s.regs 1) done.is
        ∙ done.others 1 ((λ e. omega (arith, e)), (λ e. omega (arith, e)), (λ e. omega (arith, e)), (λ e. omega (arith, e)))
        ∙ other_call 1 (λ e. omega (arith, e)) ∙ h.link

    gone : S (j + 1) ≡ record (S j) { pc = back }
    gone =
        let small = stub.here in
        let at : (S j).pc ≡ pc + 4 * 11 = ap (λ (s : State). s.pc) done.is in
        calm_goes after (Jalr 0 1 (pos 0)) j (S j).regs back (S j).room returns
        (return_goes access (S j).room (S j).regs (S j).pc (omega (arith, at, small.1)) back link h.target.0 h.target.1)

    served : (k : ℕ) × IsBack closed image first picks back w after answer h.planned.coming i k
    served =
        let n = stored_on.count in
        let value : reg (S j).regs 10 ≡ answer =
        ap (λ (s : State). reg s.regs 10) done.is
        ∙ done.others 10 ((λ e. omega (arith, e)), (λ e. omega (arith, e)), (λ e. omega (arith, e)), (λ e. omega (arith, e)))
        ∙ ap (λ rs. reg rs 10) h.planned.regs ∙ put_same (S i).regs 10 answer (omega arith) (omega (arith, h.registers.count)) in
        let f = fence_keeps (stored_all h.planned.begun the_pairs) in (
          j + 1,
          record {
            here = ap (λ (s : State). s.pc) gone;
            quiet = subst (λ u. IsQuiet image after (watched (S (j + 1)) u)) (sym (calm_under after (Jalr 0 1 (pos 0)) j returns))
                (subst (λ (s : State). IsQuiet image after (watched s None)) (sym gone) (subst (λ u. IsQuiet image after (watched (S j) u)) quiet_again.under quiet_again));
            registers = subst (λ (s : State). AreRegisters s.regs) (sym gone) (subst (λ (s : State). AreRegisters s.regs) (sym done.is) done.registers);
            value = ap (λ (s : State). reg s.regs 10) gone ∙ value;
            others = λ q a b c d e. ap (λ (s : State). reg s.regs q) gone ∙ ap (λ (s : State). reg s.regs q) done.is ∙ done.others q (a, b, c, d) ∙ other_call q e;
            loads = λ a out. ap (λ (s : State). access.load s.room a 4) (gone ∙ ap (λ (s : State). record s { pc = back }) done.is)
                ∙ loads_outside (S (i + 1)).room (access.fence (stored_all h.planned.begun the_pairs)) a out
                (f.0.0 ∙ stores.globals ∙ sym (ap (λ (r : Room). r.held.globals) h.planned.room ∙ found.globals)) (f.0.1 ∙ stores.stack ∙ sym (ap (λ (r : Room). r.held.stack) h.planned.room ∙ found.stack));
            sound = before_next (SoundAt closed image first picks) j done.sound (calm_sound after (Jalr 0 1 (pos 0)) j returns refl refl);
            count = omega (arith, n);
          },
        )

pub stub_serves : Known → StubServes
stub_serves known attributed closed image rules place entry pc end placed free first picks back w after answer i h =
    served known closed image rules first picks pc (stub_stands (machine_text attributed image) place entry pc end placed) free back w after answer i h
