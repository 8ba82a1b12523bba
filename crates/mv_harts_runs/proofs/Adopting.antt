-- A hart that adopts a commit whose words it has already is as one that gets them at once.
use Rattle.std.proofs.Common.{◌≡◌, ◌⊎◌, inl, inr, ℕ, ◌%◌, ◌<◌, ◌≤◌, Bool, true, false, cond, eqb, ltb, nat_eq, if◌then◌else◌, List, [], ◌∷◌, append-nil, length, slice_get, Some, refl, sym, ap, ◌∙◌, arith}
use Rattle.std.specs.Prelude.{option_and_then}
use Rattle.std.proofs.lemmas.Bool.{cases_lt}
use Rattle.std.proofs.lemmas.Option.{slice_get_past}
use Rattle.mv_num.proofs.Lists.{there_at}
use Rattle.mv_isa.specs.declared.instr.Instr.TheVariants.{Ecall}
use Rattle.mv_isa.specs.Encoding.{decode}
use Rattle.mv_isa.specs.Execution.{Calls, reg}
use Rattle.mv_bindings.specs.declared.binding.Binding.{Binding}
use Rattle.mv_fetch.specs.Held.{Held, Room, region_of, index_of, choices, choices_in, choices_of, older_at}
use Rattle.mv_patch.specs.Pairs.{pairs_between}
use Rattle.mv_patch.specs.Stores.{stored_all}
use Rattle.mv_refine_machine.specs.Stores.Stores.{AreTexts}
use Rattle.mv_refine_machine.specs.Stores.Between.{IsWhole, IsSettled, IsWordBetween, IsBetween, count_older}
use Rattle.mv_refine_machine.proofs.OfStores.Places.{by_region}
use Rattle.mv_refine_machine.proofs.OfRuns.Stopping.{calls_where}
use Rattle.mv_patch.specs.Orders.{is_known_order}
use Rattle.mv_patch.specs.Plans.{plan_between}
use Rattle.mv_bindings.specs.Acts.{Skip, Adopt}
use Rattle.mv_machine.specs.Runs.{State, Going, Request, Exits, Reads, Writes, Traps, Plans, Polls, Unknown, request_of, argument, answered, live_frames, acted, refused, polled, adopts, adopted, environment_call, choices_at, turn}
use Rattle.mv_machine.specs.Commits.{fetched_instr}
use Rattle.mv_machine.proofs.Turns.{turn_by}
use Rattle.mv_harts_runs.specs.Harts.{AtPoll, place_by, place_of, called_place, place, handed}
use Rattle.mv_harts_runs.specs.Alone.{Known}
use Rattle.mv_harts_runs.proofs.Rooms.{older_same}
use Rattle.mv_harts_runs.proofs.Acts.{IsNoCall, ecall_or, step_acts, place_at_call, place_elsewhere, with_acts}

-- ---- memory

room_of : (text : List ℕ) (older : List (List ℕ)) (globals stack plan : List ℕ) (spare reserve : ℕ) → Room
room_of text older globals stack plan spare reserve =
    record { held = record { text = text; older = older; globals = globals; stack = stack; plan = plan }; spare = spare; reserve = reserve }

same_room : (r q : Room) → r.held.text ≡ q.held.text → r.held.older ≡ q.held.older → r.held.globals ≡ q.held.globals → r.held.stack ≡ q.held.stack → r.held.plan ≡ q.held.plan → r.spare ≡ q.spare → r.reserve ≡ q.reserve → r ≡ q
unfolding room_of
same_room r q a b c d e f g =
    ap (λ x. room_of x r.held.older r.held.globals r.held.stack r.held.plan r.spare r.reserve) a
    ∙ ap (λ x. room_of q.held.text x r.held.globals r.held.stack r.held.plan r.spare r.reserve) b
    ∙ ap (λ x. room_of q.held.text q.held.older x r.held.stack r.held.plan r.spare r.reserve) c
    ∙ ap (λ x. room_of q.held.text q.held.older q.held.globals x r.held.plan r.spare r.reserve) d
    ∙ ap (λ x. room_of q.held.text q.held.older q.held.globals q.held.stack x r.spare r.reserve) e
    ∙ ap (λ x. room_of q.held.text q.held.older q.held.globals q.held.stack q.held.plan x r.reserve) f
    ∙ ap (λ x. room_of q.held.text q.held.older q.held.globals q.held.stack q.held.plan q.spare x) g

pub adopted_room : Known → (old new : List ℕ) → AreTexts old new → (before r : Room) → IsSettled old before → IsBetween old new r.held → r.held.text ≡ new → IsWhole r
    → r.held.globals ≡ before.held.globals → r.held.stack ≡ before.held.stack → r.held.plan ≡ before.held.plan → r.reserve ≡ before.reserve → r ≡ stored_all before (pairs_between old new)
adopted_room known old new texts before r settled between text whole globals stack plan reserve =
    let pairs = pairs_between old new in
    let s = known.between old new texts before settled pairs [] (append-nil pairs) in
    let there : (stored_all before pairs).held.text ≡ new = s.all refl in
    let older = older_same known.tested old new r.held (stored_all before pairs).held between s.between (text ∙ sym there) in
    let count : count_older r.held.older ≡ count_older (stored_all before pairs).held.older = ap count_older older in
    let spare = whole.spare in
    let spare' = s.whole.spare in
    let reserves = s.reserve in
    same_room r (stored_all before pairs) (text ∙ sym there) older (globals ∙ sym s.globals) (stack ∙ sym s.stack) (plan ∙ sym s.plan) (omega (arith, count, spare, spare', reserves, reserve)) (reserve ∙ sym s.reserve)

-- ---- a word that no binding changes has one choice, the same in both

word_plain : (o n : ℕ) (choices : List ℕ) → o ≡ n → IsWordBetween o n choices → choices ≡ o ∷ []
word_plain o n choices e (inl q) = q
word_plain o n choices e (inr q) = absurd (q.0 e)

plain_at : (old new : List ℕ) (h g : Held) (k : ℕ) → slice_get old k ≡ slice_get new k → IsBetween old new h → IsBetween old old g
    → choices_of (slice_get h.text k) (older_at h.older k) ≡ choices_of (slice_get g.text k) (older_at g.older k)
plain_at old new h g k plain b c = ⊎_by (cases_lt k (length old))
  where
    ⊎_by : (k < length old) ⊎ (length old ≤ k) → choices_of (slice_get h.text k) (older_at h.older k) ≡ choices_of (slice_get g.text k) (older_at g.older k)
    ⊎_by (inl lt) =
        let o = there_at old k lt in
        word_plain o.0 o.0 _ refl (b.words k o.0 o.0 o.1 (sym plain ∙ o.1)) ∙ sym (word_plain o.0 o.0 _ refl (c.words k o.0 o.0 o.1 o.1))
    ⊎_by (inr le) =
        let x = b.text in
        let y = c.text in
        ap (λ o. choices_of o (older_at h.older k)) (slice_get_past h.text k (omega (arith, le, x))) ∙ sym (ap (λ o. choices_of o (older_at g.older k)) (slice_get_past g.text k (omega (arith, le, y))))

pub same_choices : (old new : List ℕ) (h g : Held) (a : ℕ) → slice_get old (index_of a) ≡ slice_get new (index_of a) → IsBetween old new h → IsBetween old old g → choices h a ≡ choices g a
unfolding choices region_of
same_choices old new h g a plain b c =
    ap (λ xs. cond (eqb (a % 4) 0) xs [])
    (by_region (λ x. choices_in h x (index_of a) ≡ choices_in g x (index_of a))
    (ltb a 0x0000_1000) (ltb a 0x0010_0000) (ltb a 0x0020_0000) (ltb a 0x0040_0000) (ltb a 0x0048_0000) _ _ _ _ _
    refl (plain_at old new h g (index_of a) plain b c) refl refl refl)

pub same_place : (s : State) (r : Room) (pick : ℕ) → choices r.held s.pc ≡ choices s.room.held s.pc → place (record s { room = r }) pick ≡ place s pick
unfolding place choices_at
same_place s r pick e = ap (λ cs. place_of (option_and_then decode (slice_get cs (pick % length cs))) (called_place s)) e

pub same_count : (s : State) (r : Room) → choices r.held s.pc ≡ choices s.room.held s.pc → choices_at (record s { room = r }) ≡ choices_at s
unfolding choices_at
same_count s r e = ap (λ cs. length cs) e

-- ---- at a poll

polls_told : (r : Request) (known idle : Bool) → place_by r known idle ≡ AtPoll → (r ≡ Polls) × (idle ≡ true)
polls_told Exits known idle e = absurd (cc)
polls_told Reads known idle e = absurd (cc)
polls_told Writes known idle e = absurd (cc)
polls_told Traps known idle e = absurd (cc)
polls_told Plans true true e = absurd (cc)
polls_told Plans true false e = absurd (cc)
polls_told Plans false idle e = absurd (cc)
polls_told Polls known true e = (refl, refl)
polls_told Polls true false e = absurd (cc)
polls_told Polls false false e = absurd (cc)
polls_told Unknown known idle e = absurd (cc)

module _ (s : State) (polls : place s 0 ≡ AtPoll) (going : s.stop ≡ Going) where
  pub at_call : fetched_instr s 0 ≡ Some Ecall
  at_call = by_call (ecall_or (fetched_instr s 0))
    where
      by_call : (fetched_instr s 0 ≡ Some Ecall) ⊎ IsNoCall (fetched_instr s 0) → fetched_instr s 0 ≡ Some Ecall
      by_call (inl e) = e
      by_call (inr q) = absurd (let none = place_elsewhere s 0 q in cc)

  told : (request_of (reg s.regs 17) ≡ Polls) × (nat_eq (live_frames s) 0 ≡ true)
  told = polls_told (request_of (reg s.regs 17)) (is_known_order s.image (argument s) (reg s.regs 11)) (nat_eq (live_frames s) 0) (sym (place_at_call s 0 at_call) ∙ polls)

  pub adopting : (bs : List Binding) → turn (handed s (Adopt bs)) 0 ≡ adopted (with_acts s []) bs
  unfolding polled
  adopting bs =
      turn_by (handed s (Adopt bs)) 0 Calls going (step_acts s (Adopt bs ∷ []) 0 ∙ calls_where s 0 at_call)
      ∙ ap (λ r. environment_call r (handed s (Adopt bs))) told.0
      ∙ ap (λ (b : Bool). if b then acted (handed s (Adopt bs)) (Adopt bs ∷ []) else refused (handed s (Adopt bs)) 0) told.1

  -- a poll that takes nothing
  pub skipping : turn (handed s Skip) 0 ≡ refused (with_acts s []) 0
  unfolding polled
  skipping =
      turn_by (handed s Skip) 0 Calls going (step_acts s (Skip ∷ []) 0 ∙ calls_where s 0 at_call)
      ∙ ap (λ r. environment_call r (handed s Skip)) told.0
      ∙ ap (λ (b : Bool). if b then acted (handed s Skip) (Skip ∷ []) else refused (handed s Skip) 0) told.1

-- behind it, with the words there already
pub adopts_same : (before s : State) (bs : List Binding) → s ≡ record before { room = s.room } → s.room ≡ stored_all before.room (plan_between before.image before.bindings bs)
    → with_acts (adopted (with_acts before []) bs) [] ≡ with_acts (adopts s bs) []
unfolding answered
adopts_same before s bs same e =
    ap (λ (r : Room). with_acts (adopts (record before { room = r }) bs) []) (sym e) ∙ sym (ap (λ (x : State). with_acts (adopts x bs) []) same)
