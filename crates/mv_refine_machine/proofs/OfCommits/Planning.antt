-- The call for a plan is answered by the plan of its order, and a poll by that of its act.
use Rattle.std.proofs.Common.{◌≡◌, ℕ, ◌+◌, ◌-◌, ◌*◌, ◌^◌, ◌<◌, ◌≤◌, Bool, true, false, ◌&&◌, cond, eqb, List, [], ◌∷◌, ◌++◌, length, slice_index, slice_index_or, Option, Some, refl, sym, ap, ap₂, ◌∙◌, subst, arith}
use Rattle.std.proofs.lemmas.Bool.{and_from}
use Rattle.mv_ast.specs.declared.program.Program.{Program}
use Rattle.mv_bindings.specs.declared.binding.Binding.{Binding}
use Rattle.mv_ast.specs.Counts as counts
use Rattle.mv_ast.specs.Switches as source
use Rattle.mv_ast.specs.Orders as source_orders
use Rattle.mv_ast.specs.Orders.{Answered, rebound, bound_after}
use Rattle.mv_bindings.specs.Bindings.{events_from}
use Rattle.mv_bindings.specs.OrderNumbers.{is_commit}
use Rattle.mv_ast.specs.Worlds as source_world
use Rattle.mv_bindings.specs.Acts.{Act, Skip, Flip, Adopt}
use Rattle.mv_isa.specs.declared.instr.Cause.TheVariants as cause
use Rattle.mv_isa.specs.Execution.{reg}
use Rattle.mv_fetch.specs.Held.{Held, Room}
use Rattle.mv_image.specs.Spelling.{Fields}
use Rattle.mv_image.specs.Faults.{Rules}
use Rattle.mv_patch.specs.declared.prepared.Pair.{Pair}
use Rattle.mv_patch.specs.Orders.{values_of, bindings_ordered, answer_after, is_known_order}
use Rattle.mv_patch.specs.Plans.{plan_between, plan_of}
use Rattle.mv_patch.specs.Tables.{patchable}
use Rattle.mv_ir.specs.World.{World}
use Rattle.mv_ir.specs.KnownFunctions.{seen, seen_from, patch_cost, poll_cost}
use Rattle.mv_machine.specs.Runs.{State, Fault, answered, stopped, with_plan, refused, carried_out, ordered, planned, adopted, act, acted, polled, with_value}
use Rattle.mv_select_code.specs.Control.Runs.{Machine}
use Rattle.mv_select.specs.Calls.Convention.{Layout, HoldsGlobals}
use Rattle.mv_select.specs.Calls.Environment.{stub_cost}
use Rattle.mv_refine_machine.specs.Layout.{IsSetOut}
use Rattle.mv_refine_machine.specs.Commits.Watched.{Watched, access, watched, put_room, IsQuiet}
use Rattle.mv_refine_machine.specs.Commits.Served.{IsPlanned}
use Rattle.mv_refine_machine.specs.Commits.Known.{Known}
use Rattle.mv_refine_machine.proofs.OfCommits.Flips.{with_switch}
use Rattle.mv_refine_machine.proofs.OfCommits.Planned.{no_pairs, KeepsAll, keeps_all, Leaves, IsWorld, Splits, all_before, all_coming, planned_by, globals_stay}
use Rattle.mv_refine_machine.proofs.OfCommits.Served.{loads_outside}

-- ---- what is to be shown of tables

-- An order does by the tables, of a world that stands in memory, what it does in the source.
pub record OrderAgrees (p : Program) (numbers : List ℕ) (image : Fields) (w : World) (held : Held) (code index : ℕ) : Type 0 where
  pub known : is_known_order image code index ≡ true
  pub bindings : bindings_ordered image held code index w.bindings ≡ source_orders.bindings_after p numbers code index w.globals w.bindings
  pub answers : answer_after image code index (bindings_ordered image held code index w.bindings) ≡ cond (is_commit code) (bound_after p code index (bindings_ordered image held code index w.bindings)) 0
  pub small : answer_after image code index (bindings_ordered image held code index w.bindings) < 2 ^ 32

-- A flip's value in the word of its switch changes data alone; memory then holds the world with it, of which a commit of all does by the tables what it does
-- in the source.
pub record FlipAgrees (y : Layout) (machine : Machine Watched) (budget far : ℕ) (p : Program) (numbers : List ℕ) (image : Fields) (w : World) (m : Watched) (switch value : ℕ) : Type 0 where
  pub keeps : KeepsAll m.rest.room (with_value image m.rest.room switch value)
  pub holds : HoldsGlobals access y machine budget far (with_switch w (source.switch_global p switch) value) (put_room m (with_value image m.rest.room switch value))
  pub agrees : OrderAgrees p numbers image (with_switch w (source.switch_global p switch) value) (with_value image m.rest.room switch value).held 0 0

-- ---- globals

-- loads of data go by its words
pub globals_by : (y : Layout) (m m' : Watched) (machine : Machine Watched) (budget far : ℕ) (w : World) → IsSetOut y → m'.rest.room.held.globals ≡ m.rest.room.held.globals → m'.rest.room.held.stack ≡ m.rest.room.held.stack
    → HoldsGlobals access y machine budget far w m → HoldsGlobals access y machine budget far w m'
unfolding access
globals_by y m m' machine budget far w laid g k h = record {
  sizes = h.sizes;
  words = h.words;
  loads = λ j n lt.
      let begins = laid.data_begins j (omega (arith, lt)) in let ends = laid.data_ends j (omega (arith, lt)) in
      loads_outside m.rest.room m'.rest.room (y.place j + 4 * n) (omega (arith, begins), omega (arith, ends, lt)) g k ∙ h.loads j n lt;
}

-- the same of another world with these globals
globals_as : (y : Layout) (m : Watched) (host : Machine Watched) (budget far : ℕ) (w w' : World) → w'.globals ≡ w.globals → HoldsGlobals access y host budget far w m → HoldsGlobals access y host budget far w' m
globals_as y m host budget far w w' e h = record {
  sizes = λ g. ap (λ (gs : List (List ℕ)). length (slice_index_or gs g [])) e ∙ h.sizes g;
  words = λ g n lt. subst (λ (gs : List (List ℕ)). slice_index (slice_index_or gs g []) n < 2 ^ 32) (sym e) (h.words g n lt);
  loads = λ g n lt. h.loads g n lt ∙ ap (λ (gs : List (List ℕ)). Some (slice_index (slice_index_or gs g []) n)) (sym e);
}

module _ (known : Known) (y : Layout) (laid : IsSetOut y) (machine : Machine Watched) (budget far : ℕ) (numbers : List ℕ) (p : Program) (image : Fields) (rules : Rules image)
    (few : patchable image ≤ counts.patchable_places p) (s : State) (of : s.image ≡ image) (under : Option (List Binding)) (w : World) (quiet : IsQuiet image w (watched s under)) where
  abbrev m : Watched
  m = watched s under

  abbrev live : ℕ
  live = reg s.regs 26

  -- the world of the source, with some acts left
  abbrev ws : List Act → source_world.World
  ws left = record (seen_from 0 live w) { actions = left }

  -- What an answered call is to be: a plan of what it does. `cost` is what it costs beside the stub.
  pub record Gives (after : Answered) (cost : ℕ) (next : State) : Type 0 where
    pub planned : IsPlanned image (seen after.world) after.answer s next
    pub word : after.answer < 2 ^ 32
    pub globals : (u : Option (List Binding)) → HoldsGlobals access y machine budget far (seen after.world) (watched next u)
    pub paid : 6 + 7 * length planned.coming ≤ stub_cost + cost

  same_bindings : s.bindings ≡ w.bindings
  same_bindings = quiet.calm.bindings

  few_pairs : (old new : List Binding) → length (plan_between image old new) ≤ counts.patchable_places p
  few_pairs old new = let n = (known.tells image rules (values_of old) (values_of new)).few in omega (arith, n, few)

  -- From a room with the globals of a world a call goes on to another world with these, and splits the pairs.
  gives : (held : World) (after : Answered) (from : Room) (before coming : List Pair) (cost : ℕ) (next : State) → after.world.globals ≡ held.globals → KeepsAll s.room from
      → HoldsGlobals access y machine budget far held (put_room m from) → Leaves s next after.answer → IsWorld next w (seen after.world) → Splits image s.bindings after.world.bindings from next.room before coming
      → after.answer < 2 ^ 32 → 6 + 7 * length coming ≤ stub_cost + cost → Gives after cost next
  gives held after from before coming cost next same keeps holds leaves world splits word paid =
      let x = planned_by image s next under w (seen after.world) after.answer from before coming quiet keeps leaves world splits in record {
        planned = x.0;
        word = word;
        globals = λ u.
            globals_as y (watched next u) machine budget far held (seen after.world) same
            (globals_by y (put_room m from) (watched next u) machine budget far held laid (globals_stay image s.bindings after.world.bindings from next.room before coming splits) (x.0.stack_stays ∙ sym keeps.stack) holds);
        paid = subst (λ (pairs : List Pair). 6 + 7 * length pairs ≤ stub_cost + cost) (sym x.1) paid;
      }

  -- ---- nothing is changed

  refuses : (left : List Act) (answer : ℕ) → Leaves s (refused (record s { actions = left }) answer) answer
  unfolding answered
  refuses left answer = record { regs = refl; pc = refl; stop = refl; input = refl; output = refl }

  refused_world : (left : List Act) (answer : ℕ) → IsWorld (refused (record s { actions = left }) answer) w (seen (ws left))
  unfolding answered
  refused_world left answer = record { bindings = same_bindings; hart = quiet.hart; actions = refl; log = quiet.calm.log; input = refl; output = refl }

  idle : HoldsGlobals access y machine budget far w m → (left : List Act) (answer cost : ℕ) → answer < 2 ^ 32
      → Gives (record { answer = answer; world = ws left }) cost (refused (record s { actions = left }) answer)
  idle holds left answer cost word =
      let next = refused (record s { actions = left }) answer in
      let none : [] ≡ plan_between image s.bindings w.bindings = sym (ap (λ bs. plan_between image bs w.bindings) same_bindings ∙ no_pairs image w.bindings) in
      let few : 6 + 7 * length (plan_between image s.bindings w.bindings) ≤ stub_cost + cost = (let z = ap length none in omega (arith, z)) in
      gives w (record { answer = answer; world = ws left }) s.room [] (plan_between image s.bindings w.bindings) cost next refl (keeps_all s.room) holds (refuses left answer) (refused_world left answer)
      (all_coming known image rules s.bindings w.bindings s.room next.room [] quiet.plan refl none) word few

  -- ---- bindings are adopted

  adopts_leaves : (bs : List Binding) (left : List Act) → Leaves s (adopted (record s { actions = left }) bs) 1
  unfolding answered
  adopts_leaves bs left = record { regs = refl; pc = refl; stop = refl; input = refl; output = refl }

  adopted_world : (bs : List Binding) (left : List Act) → IsWorld (adopted (record s { actions = left }) bs) w (seen (rebound (ws left) bs))
  unfolding answered
  adopted_world bs left = record {
    bindings = refl;
    hart = quiet.hart;
    actions = refl;
    log = ap₂ (λ l cs. l ++ events_from 0 cs bs) quiet.calm.log same_bindings;
    input = refl;
    output = refl;
  }

  adopts_gives : HoldsGlobals access y machine budget far w m → (bs : List Binding) (left : List Act) (cost : ℕ) → Gives (record { answer = 1; world = rebound (ws left) bs }) cost (adopted (record s { actions = left }) bs)
  adopts_gives holds bs left cost =
      let next = adopted (record s { actions = left }) bs in
      let pairs = plan_between s.image s.bindings bs in
      gives w (record { answer = 1; world = rebound (ws left) bs }) s.room pairs [] cost next refl (keeps_all s.room) holds (adopts_leaves bs left) (adopted_world bs left)
      (all_before image s.bindings bs s.room next.room pairs quiet.plan refl (ap (λ f. plan_between f s.bindings bs) of)) (omega arith) (omega arith)

  -- ---- an order is carried out, of a room with the words of the data

  module _ (code index : ℕ) (room : Room) (left : List Act) (globals : List (List ℕ)) (answer : ℕ) (keeps : KeepsAll s.room room)
      (agrees : OrderAgrees p numbers image (record w { globals = globals }) room.held code index) where
    -- the source's world before
    abbrev before : source_world.World
    before = record (ws left) { globals = globals }

    abbrev bound : List Binding
    bound = source_orders.bindings_after p numbers code index globals w.bindings

    abbrev next : State
    next = carried_out (record s { room = room; actions = left }) (plan_of s.image room.held s.bindings code index) answer

    pub bound_is : bindings_ordered s.image room.held code index s.bindings ≡ bound
    bound_is = ap₂ (λ f bs. bindings_ordered f room.held code index bs) of same_bindings ∙ agrees.bindings

    leaves : Leaves s next answer
    unfolding answered
    leaves = record { regs = refl; pc = refl; stop = refl; input = refl; output = refl }

    world : IsWorld next w (seen (rebound before bound))
    unfolding answered plan_of
    world = record {
      bindings = bound_is;
      hart = quiet.hart;
      actions = refl;
      log = ap₂ (λ l bs. l ++ bs) quiet.calm.log (ap₂ (events_from 0) same_bindings bound_is);
      input = refl;
      output = refl;
    }

    room_is : next.room ≡ with_plan room (plan_between s.image s.bindings (bindings_ordered s.image room.held code index s.bindings))
    unfolding plan_of
    room_is = refl

    same : plan_between s.image s.bindings (bindings_ordered s.image room.held code index s.bindings) ≡ plan_between image s.bindings bound
    same = ap₂ (λ f bs. plan_between f s.bindings bs) of bound_is

    pub carries : HoldsGlobals access y machine budget far (record w { globals = globals }) (put_room m room) → answer < 2 ^ 32
        → Gives (record { answer = answer; world = rebound before bound }) (patch_cost p) next
    carries holds word =
        let pairs = plan_between s.image s.bindings (bindings_ordered s.image room.held code index s.bindings) in
        let paid : 6 + 7 * length (plan_between image s.bindings bound) ≤ stub_cost + patch_cost p = (let n = few_pairs s.bindings bound in omega (arith, n)) in
        gives (record w { globals = globals }) (record { answer = answer; world = rebound before bound }) room [] (plan_between image s.bindings bound) (patch_cost p) next refl keeps holds leaves world
        (all_coming known image rules s.bindings bound room next.room pairs (ap (λ (xs : List ℕ). length xs) keeps.plan ∙ quiet.plan) room_is same) word paid

  -- ---- orders

  abbrev order_gives : (code index : ℕ) → Bool → Answered
  order_gives code index b =
      let bs = source_orders.bindings_after p numbers code index w.globals w.bindings in
      cond b (record { answer = cond (is_commit code) (bound_after p code index bs) 0; world = rebound (seen_from 0 live w) bs }) (record { answer = 2 ^ 32 - 1; world = seen_from 0 live w })

  module _ (code index : ℕ) (holds : HoldsGlobals access y machine budget far w m) (agrees : OrderAgrees p numbers image w s.room.held code index) where
    abbrev counted : ℕ
    counted = (plan_of s.image s.room.held s.bindings code index).answer

    counted_is : counted ≡ answer_after image code index (bindings_ordered image s.room.held code index w.bindings)
    unfolding plan_of
    counted_is = ap₂ (λ f bs. answer_after f code index (bindings_ordered f s.room.held code index bs)) of same_bindings

    answer_is : counted ≡ cond (is_commit code) (bound_after p code index (source_orders.bindings_after p numbers code index w.globals w.bindings)) 0
    answer_is = counted_is ∙ agrees.answers ∙ ap (λ bs. cond (is_commit code) (bound_after p code index bs) 0) agrees.bindings

    by_test : (b : Bool) → Gives (order_gives code index b) (patch_cost p) (cond b (ordered s code index) (refused s (2 ^ 32 - 1)))
    by_test true =
        subst (λ n. Gives (record { answer = n; world = rebound (seen_from 0 live w) (source_orders.bindings_after p numbers code index w.globals w.bindings) }) (patch_cost p) (ordered s code index)) answer_is
        (subst (λ (left : List Act). Gives (record {
          answer = counted;
          world = record (rebound (seen_from 0 live w) (source_orders.bindings_after p numbers code index w.globals w.bindings)) { actions = left };
        })
        (patch_cost p) (ordered s code index)) quiet.actions
        (carries code index s.room s.actions w.globals counted (keeps_all s.room) agrees holds (subst (λ n. n < 2 ^ 32) (sym counted_is) agrees.small)))
    by_test false =
        subst (λ (left : List Act). Gives (record { answer = 2 ^ 32 - 1; world = ws left }) (patch_cost p) (refused s (2 ^ 32 - 1))) quiet.actions
        (idle holds s.actions (2 ^ 32 - 1) (patch_cost p) (omega arith))

    planned_is : planned s code index ≡ cond (eqb w.hart 0 && eqb live 0) (ordered s code index) (refused s (2 ^ 32 - 1))
    unfolding planned
    planned_is =
        ap₂ (λ (b : Bool) (hart : ℕ). cond b (cond (eqb hart 0 && eqb live 0) (ordered s code index) (refused s (2 ^ 32 - 1))) (stopped s (Fault cause.Call)))
        (ap (λ f. is_known_order f code index) of ∙ agrees.known) quiet.hart

    -- in another hart than 0 it is refused, as in the source
    pub plan_gives : Gives (source_orders.ordered p numbers code index (seen_from 0 live w)) (patch_cost p) (planned s code index)
    plan_gives = subst (Gives (order_gives code index (eqb w.hart 0 && eqb live 0)) (patch_cost p)) (sym planned_is) (by_test (eqb w.hart 0 && eqb live 0))

  -- ---- polls

  module _ (holds : HoldsGlobals access y machine budget far w m) where
    -- what is asked of the act that comes next
    abbrev pub FlipsAgree : Type 0
    FlipsAgree = (switch value : ℕ) (rest : List Act) → w.actions ≡ Flip switch value ∷ rest → (eqb w.hart 0 ≡ true) × FlipAgrees y machine budget far p numbers image w m switch value

    -- a flip
    flips : (switch value : ℕ) (rest : List Act) → (eqb w.hart 0 && eqb live 0) ≡ true → FlipAgrees y machine budget far p numbers image w m switch value
        → Gives (record { answer = 1; world = source_orders.flipped p numbers switch value (ws rest) }) (patch_cost p) (act (Flip switch value) (record s { actions = rest }))
    flips switch value rest may flip =
        let g = source.switch_global p switch in
        let globals = source.with_word w.globals g 0 value in
        let bound = source_orders.bindings_after p numbers 0 0 globals w.bindings in
        let before : source_world.World = record (ws rest) { globals = globals } in
        let either : Bool → Answered = λ (b : Bool).
        cond b (record { answer = cond (is_commit 0) (bound_after p 0 0 bound) 0; world = rebound before bound }) (record { answer = 2 ^ 32 - 1; world = before }) in
        let flipped_is : source_orders.flipped p numbers switch value (ws rest) ≡ rebound before bound = ap (λ b. (either b).world) may in
        let room_is : with_value s.image s.room switch value ≡ with_value image s.room switch value = ap (λ f. with_value f s.room switch value) of in
        subst (λ (x : source_world.World). Gives (record { answer = 1; world = x }) (patch_cost p) (act (Flip switch value) (record s { actions = rest }))) (sym flipped_is)
        (subst (λ (r : Room). Gives (record { answer = 1; world = rebound before bound }) (patch_cost p) (carried_out (record s { room = r; actions = rest }) (plan_of s.image r.held s.bindings 0 0) 1)) (sym room_is)
        (carries 0 0 (with_value image s.room switch value) rest globals 1 flip.keeps flip.agrees flip.holds (omega arith)))

    by_acts : eqb live 0 ≡ true → FlipsAgree → (left : List Act) → w.actions ≡ left
        → Gives (source_orders.acted p numbers left (ws left)) (poll_cost p w.hart (source_orders.acted p numbers left (ws left)).answer) (acted (record s { actions = left }) left)
    by_acts none flip [] e = idle holds [] 0 0 (omega arith)
    by_acts none flip (Skip ∷ rest) e = idle holds rest 0 0 (omega arith)
    by_acts none flip (Flip k v ∷ rest) e =
        let agrees = flip k v rest e in
        subst (λ (b : Bool). Gives (record { answer = 1; world = source_orders.flipped p numbers k v (ws rest) }) (cond b (patch_cost p) 30) (act (Flip k v) (record s { actions = rest }))) (sym agrees.0)
        (flips k v rest (and_from (eqb w.hart 0) (eqb live 0) agrees.0 none) agrees.1)
    by_acts none flip (Adopt bs ∷ rest) e = adopts_gives holds bs rest (poll_cost p w.hart 1)

    pub poll_gives : FlipsAgree → Gives (source_orders.polled p numbers (seen_from 0 live w)) (poll_cost p w.hart (source_orders.polled p numbers (seen_from 0 live w)).answer) (polled s)
    unfolding polled
    poll_gives flip = by_live (eqb live 0) refl
      where
        result : Bool → Answered
        result b = cond b (source_orders.acted p numbers w.actions (ws w.actions)) (record { answer = 0; world = ws w.actions })

        by_live : (b : Bool) → eqb live 0 ≡ b → Gives (result b) (poll_cost p w.hart (result b).answer) (cond b (acted s s.actions) (refused s 0))
        by_live false e =
            subst (λ (left : List Act). Gives (record { answer = 0; world = ws left }) 0 (refused s 0)) quiet.actions (idle holds s.actions 0 0 (omega arith))
        by_live true e =
            subst (λ (left : List Act). Gives (source_orders.acted p numbers w.actions (ws w.actions))
            (poll_cost p w.hart (source_orders.acted p numbers w.actions (ws w.actions)).answer) (acted (record s { actions = left }) left)) (sym quiet.actions)
            (by_acts e flip w.actions refl)
