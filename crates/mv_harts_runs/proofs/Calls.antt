-- What environment calls leave as it is.
use Rattle.std.specs.Option.{option_map_or}
use Rattle.std.proofs.Common.{◌≡◌, ℕ, ◌+◌, ◌%◌, ◌^◌, ◌-◌, ◌≤◌, Bool, true, false, ◌&&◌, not, cond, eqb, ltb, nat_eq, if◌then◌else◌, List, [], ◌∷◌, slice_get, Option, Some, None, option_map, unwrap_or, Err, refl, sym, ap, ◌∙◌, subst, arith}
use Rattle.std.specs.Result.{result_ok}
use Rattle.std.proofs.lemmas.Bool.{le-ltb}
use Rattle.std.proofs.Math.Bool.{and-false}
use Rattle.mv_num.specs.Regions.{data_start}
use Rattle.mv_bindings.specs.OrderNumbers as orders
use Rattle.mv_descriptors.specs.declared.rows.SwitchRow.{SwitchRow}
use Rattle.mv_isa.specs.declared.instr.Cause.TheVariants as cause
use Rattle.mv_isa.specs.Execution.{reg}
use Rattle.mv_isa.specs.Registers.{a1}
use Rattle.mv_fetch.specs.declared.memory.AccessError.TheVariants.{Misaligned}
use Rattle.mv_fetch.specs.Held.{Room, region_of, index_of, words_of, present, joined, with_word, found, store}
use Rattle.mv_fetch.specs.Stores.{spared}
use Rattle.mv_image.specs.Spelling.{Fields}
use Rattle.mv_rv32.specs.Stepping.{access, with_held}
use Rattle.mv_refine_machine.specs.Stores.Between.{IsWhole}
use Rattle.mv_refine_machine.specs.Stores.Laws.{RoomsAreWhole}
pub use Rattle.mv_refine_machine.proofs.OfCommits.Planned.{no_pairs}
use Rattle.mv_patch.specs.Orders.{is_known_order}
use Rattle.mv_patch.specs.Plans.{plan_of}
use Rattle.mv_bindings.specs.Acts.{Act, Skip, Flip, Adopt}
use Rattle.mv_machine.specs.Runs.{State, Fault, Request, Exits, Reads, Writes, Traps, Plans, Polls, Unknown, plan_area, stored_word, stored_words, with_plan, spelled_pairs, with_value, argument, answered, stopped, live_frames, refused, ordered, planned, act, acted, polled, environment_call}
use Rattle.mv_harts_runs.specs.Harts.{AtOrder, AtPoll, place_by, handed, is_in_text}

-- text and older words stay, and memory stays whole
pub record Kept (r r' : Room) : Type 0 where
  pub text : r'.held.text ≡ r.held.text
  pub older : r'.held.older ≡ r.held.older
  pub whole : IsWhole r → IsWhole r'

pub kept_none : (r : Room) → Kept r r
kept_none r = record { text = refl; older = refl; whole = λ h. h }

pub kept_both : (r s t : Room) → Kept r s → Kept s t → Kept r t
kept_both r s t g h = record { text = h.text ∙ g.text; older = h.older ∙ g.older; whole = λ w. h.whole (g.whole w) }

-- what holds of each region but text holds of that of an address outside text
by_region : {R : Type 0} (P : R → Type 0) (b c d e f : Bool) (nowhere text globals stack plan : R) → (not b && c) ≡ false → P nowhere → P globals
    → P stack → P plan → P (cond b nowhere (cond c text (cond d globals (cond e stack (cond f plan nowhere)))))
by_region P true c d e f nowhere text globals stack plan h pn pg ps pp = pn
by_region P false true d e f nowhere text globals stack plan h pn pg ps pp = absurd (cc)
by_region P false false true e f nowhere text globals stack plan h pn pg ps pp = pg
by_region P false false false true f nowhere text globals stack plan h pn pg ps pp = ps
by_region P false false false false true nowhere text globals stack plan h pn pg ps pp = pp
by_region P false false false false false nowhere text globals stack plan h pn pg ps pp = pn

abbrev Same : Room → Room → Type 0
Same r r' = (r'.held.text ≡ r.held.text) × (r'.held.older ≡ r.held.older)

pub store_same : (r r' : Room) (a n v : ℕ) → is_in_text a ≡ false → access.store r a n v ≡ Some r' → Same r r'
unfolding access store present region_of
store_same r r' a n v outside e = by_test (eqb (a % n) 0) (slice_get (words_of r.held (region_of a)) (index_of a)) e
  where
    in_region : (w j : ℕ) → Same r (with_held a r (with_word r.held (region_of a) (index_of a) w j))
    in_region w j =
        by_region (λ x. Same r (record { held = with_word r.held x (index_of a) w j; spare = spared x r.spare; reserve = r.reserve }))
        (ltb a 0x0000_1000) (ltb a 0x0010_0000) (ltb a 0x0020_0000) (ltb a 0x0040_0000) (ltb a 0x0048_0000) _ _ _ _ _
        outside (refl, refl) (refl, refl) (refl, refl) (refl, refl)

    by_test : (b : Bool) (o : Option ℕ) → option_map (with_held a r) (result_ok (cond b (found a o (λ w. with_word r.held (region_of a) (index_of a) w (joined a n w v))) (Err (Misaligned a)))) ≡ Some r' → Same r r'
    by_test true (Some w) q =
        let s : with_held a r (with_word r.held (region_of a) (index_of a) w (joined a n w v)) ≡ r' = cc in
        subst (λ (x : Room). Same r x) s (in_region w (joined a n w v))
    by_test true None q = absurd (cc)
    by_test false o q = absurd (cc)

pub outside_text : (a : ℕ) → data_start ≤ a → is_in_text a ≡ false
outside_text a le =
    let e : ltb a 0x0010_0000 ≡ false = le-ltb a 0x0010_0000 (omega (arith, le)) in
    ap (λ b. not (ltb a 0x1000) && b) e ∙ and-false (not (ltb a 0x1000))

-- no adopt
abbrev pub IsOwn : Act → Type 0
IsOwn Skip = Unit {0}
IsOwn (Flip switch value) = Unit {0}
IsOwn (Adopt bs) = ⊥

module _ (rooms : RoomsAreWhole) where
  pub store_kept : (r r' : Room) (a n v : ℕ) → is_in_text a ≡ false → access.store r a n v ≡ Some r' → Kept r r'
  store_kept r r' a n v outside e =
      let same = store_same r r' a n v outside e in
      record { text = same.0; older = same.1; whole = λ w. rooms.store r r' a n v e w }

  word_kept : (r : Room) (a w : ℕ) → data_start ≤ a → Kept r (stored_word r a w)
  word_kept r a w le = by_store (access.store r a 4 w) refl
    where
      by_store : (o : Option Room) → access.store r a 4 w ≡ o → Kept r (unwrap_or o r)
      by_store None e = kept_none r
      by_store (Some r') e = store_kept r r' a 4 w (outside_text a le) e

  words_kept : (words : List ℕ) (r : Room) (a : ℕ) → data_start ≤ a → Kept r (stored_words r a words)
  unfolding stored_words
  words_kept [] r a le = kept_none r
  words_kept (w ∷ words) r a le =
      kept_both r (stored_word r a w) (stored_words (stored_word r a w) (a + 4) words) (word_kept r a w le) (words_kept words (stored_word r a w) (a + 4) (omega (arith, le)))

  pub plan_kept : (r : Room) (words : List ℕ) → Kept r (stored_words r plan_area words)
  plan_kept r words = words_kept words r plan_area (omega arith)

  module _ (image : Fields) (in_data : (k : ℕ) (row : SwitchRow) → slice_get image.switches k ≡ Some row → data_start ≤ row.address) where
    value_kept : (r : Room) (switch value : ℕ) → Kept r (with_value image r switch value)
    value_kept r switch value = by_row (slice_get image.switches switch) refl
      where
        by_row : (row : Option SwitchRow) → slice_get image.switches switch ≡ row → Kept r (option_map_or (λ (x : SwitchRow). stored_word r x.address value) row r)
        by_row None e = kept_none r
        by_row (Some row) e = word_kept r row.address value (in_data switch row e)

    act_kept : (a : Act) (s : State) → s.image ≡ image → IsOwn a → Kept s.room (act a s).room
    unfolding answered
    act_kept Skip s of own = plan_kept s.room (0 ∷ spelled_pairs [])
    act_kept (Flip switch value) s of own =
        let room = with_value s.image s.room switch value in
        kept_both s.room room (with_plan room (plan_of s.image room.held s.bindings orders.commit 0).pairs)
        (subst (λ i. Kept s.room (with_value i s.room switch value)) (sym of) (value_kept s.room switch value)) (plan_kept room _)
    act_kept (Adopt bs) s of own = absurd own

    either_kept : (b : Bool) (s x y : State) → Kept s.room x.room → Kept s.room y.room → Kept s.room (if b then x else y).room
    either_kept true s x y h k = h
    either_kept false s x y h k = k

    idle_kept : (idle : Bool) (s : State) (a : Act) → s.image ≡ image → ((known : Bool) → place_by Polls known idle ≡ AtPoll → IsOwn a) → Kept s.room (if idle then acted (handed s a) (a ∷ []) else refused (handed s a) 0).room
    unfolding answered
    idle_kept true s a of own = act_kept a (record s { actions = [] }) of (own true refl)
    idle_kept false s a of own = plan_kept s.room (0 ∷ spelled_pairs [])

    pub call_kept : (request : Request) (s : State) (a : Act) → s.image ≡ image → (place_by request (is_known_order s.image (argument s) (reg s.regs a1)) (nat_eq (live_frames s) 0) ≡ AtPoll → IsOwn a)
        → Kept s.room (environment_call request (handed s a)).room
    unfolding answered planned polled
    call_kept Exits s a of own = kept_none s.room
    call_kept Reads s a of own = kept_none s.room
    call_kept Writes s a of own = kept_none s.room
    call_kept Traps s a of own = kept_none s.room
    call_kept Plans s a of own =
        let h = handed s a in
        let code = argument s in
        let index = reg s.regs a1 in
        either_kept (is_known_order s.image code index) s (if nat_eq s.hart 0 && nat_eq (live_frames s) 0 then ordered h code index else refused h (2 ^ 32 - 1)) (stopped h (Fault cause.Call))
        (either_kept (nat_eq s.hart 0 && nat_eq (live_frames s) 0) s (ordered h code index) (refused h (2 ^ 32 - 1)) (plan_kept s.room _) (plan_kept s.room (0 ∷ spelled_pairs []))) (kept_none s.room)
    call_kept Polls s a of own = idle_kept (nat_eq (live_frames s) 0) s a of (λ known e. own (by_known known (is_known_order s.image (argument s) (reg s.regs a1)) (nat_eq (live_frames s) 0) e))
      where
        by_known : (j k idle : Bool) → place_by Polls j idle ≡ AtPoll → place_by Polls k idle ≡ AtPoll
        by_known j k true e = refl
        by_known true k false e = absurd (cc)
        by_known false k false e = absurd (cc)
    call_kept Unknown s a of own = kept_none s.room

-- ---- bindings

-- where no commit is made and nothing is adopted, the bindings stay
idle_binds : (idle : Bool) (s : State) (a : Act) → ((known : Bool) → place_by Polls known idle ≡ AtPoll → a ≡ Skip) → (if idle then acted (handed s a) (a ∷ []) else refused (handed s a) 0).bindings ≡ s.bindings
unfolding answered
idle_binds true s a skips = ap (λ (x : Act). (act x (record s { actions = [] })).bindings) (skips true refl)
idle_binds false s a skips = refl

orders_bind : (known idle leads : Bool) (s : State) (a : Act) (code index : ℕ) → (place_by Plans known idle ≡ AtOrder → leads ≡ false)
    → (if known then (if leads && idle then ordered (handed s a) code index else refused (handed s a) (2 ^ 32 - 1)) else stopped (handed s a) (Fault cause.Call)).bindings ≡ s.bindings
unfolding answered
orders_bind true true true s a code index never = absurd (let e = never refl in cc)
orders_bind true true false s a code index never = refl
orders_bind true false true s a code index never = refl
orders_bind true false false s a code index never = refl
orders_bind false idle leads s a code index never = refl

pub call_binds : (request : Request) (s : State) (a : Act)
    → (place_by request (is_known_order s.image (argument s) (reg s.regs a1)) (nat_eq (live_frames s) 0) ≡ AtOrder → nat_eq s.hart 0 ≡ false)
    → (place_by request (is_known_order s.image (argument s) (reg s.regs a1)) (nat_eq (live_frames s) 0) ≡ AtPoll → a ≡ Skip)
    → (environment_call request (handed s a)).bindings ≡ s.bindings
unfolding answered planned polled
call_binds Exits s a never skips = refl
call_binds Reads s a never skips = refl
call_binds Writes s a never skips = refl
call_binds Traps s a never skips = refl
call_binds Plans s a never skips = orders_bind (is_known_order s.image (argument s) (reg s.regs a1)) (nat_eq (live_frames s) 0) (nat_eq s.hart 0) s a (argument s) (reg s.regs a1) never
call_binds Polls s a never skips = idle_binds (nat_eq (live_frames s) 0) s a (λ known e. skips (by_known known (is_known_order s.image (argument s) (reg s.regs a1)) (nat_eq (live_frames s) 0) e))
  where
    by_known : (j k idle : Bool) → place_by Polls j idle ≡ AtPoll → place_by Polls k idle ≡ AtPoll
    by_known j k true e = refl
    by_known true k false e = absurd (cc)
    by_known false k false e = absurd (cc)
call_binds Unknown s a never skips = refl
