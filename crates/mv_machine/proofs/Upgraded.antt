-- A run of an image in version 2 is the run of the image, but for the image itself.
use Rattle.std.proofs.Common.{◌≡◌, ℕ, zero, suc, ◌+◌, ◌-◌, ◌^◌, Bool, true, false, ◌&&◌, nat_eq, if◌then◌else◌, List, [], ◌∷◌, slice_index, Option, Some, None, refl, ap, ap₂, ◌∙◌}
use Rattle.mv_num.specs.Regions.{text_start}
use Rattle.mv_bindings.specs.declared.binding.Binding.{Binding}
use Rattle.mv_bindings.specs.OrderNumbers as orders
use Rattle.mv_bindings.specs.Acts.{Act, Skip, Flip, Adopt}
use Rattle.mv_isa.specs.declared.instr.Cause.TheVariants as cause
use Rattle.mv_isa.specs.Execution.{Outcome, Goes, Calls, Faults, reg}
use Rattle.mv_isa.specs.Registers.{a1, a7}
use Rattle.mv_fetch.specs.Held.{Held, Room}
use Rattle.mv_descriptors.specs.declared.rows.SiteRow.{SiteRow}
use Rattle.mv_descriptors.specs.declared.rows.PointRow.{PointRow}
use Rattle.mv_image.specs.Spelling.{Fields}
use Rattle.mv_image.specs.Versions.{upgraded}
use Rattle.mv_image.specs.Patched.{Bindings, word_by, word_through, word_under, words_under, text_of, entry_at, site_at, site_before, point_at, target_under, variant_under, fitting_variant}
use Rattle.mv_patch.specs.Pairs.{pairs_between}
use Rattle.mv_patch.specs.declared.prepared.Pair.{Pair}
use Rattle.mv_patch.specs.Tables.{patchable}
use Rattle.mv_patch.specs.Orders.{is_known_order, values_of, bindings_ordered, answer_after}
use Rattle.mv_patch.specs.Plans.{Planned, plan_between, plan_of}
use Rattle.mv_patch.specs.Stores.{stored_all}
use Rattle.mv_machine.specs.Acts.{PollActs}
use Rattle.mv_machine.specs.Runs.{State, Fault, Request, Exits, Reads, Writes, Traps, Plans, Polls, Unknown, request_of, argument, answered, stopped, live_frames, refused, carried_out, ordered, planned, with_value, flipped, adopts, adopted, acted, polled, environment_call, is_going, choices_at, fetched_step, after, turn, runs_from, first}
use Rattle.mv_machine.specs.Upgrades.{with_upgraded, UpgradesRunAlike}

-- ---- plans

by_alike : (image : Fields) (bound : Bindings) (a word : ℕ) (entry : Option ℕ) (here before : Option SiteRow) → word_by (upgraded image) bound a word entry here before ≡ word_by image bound a word entry here before
unfolding variant_under fitting_variant
by_alike image bound a word (Some function) here before = refl
by_alike image bound a word None (Some site) before = refl
by_alike image bound a word None None (Some site) = refl
by_alike image bound a word None None None = refl

through_alike : (image : Fields) (bound : Bindings) (a word : ℕ) (point : Option PointRow) → word_through (upgraded image) bound a word point ≡ word_through image bound a word point
unfolding target_under entry_at site_at site_before
through_alike image bound a word (Some point) = refl
through_alike image bound a word None = by_alike image bound a word (entry_at image a) (site_at image a) (site_before image a)

word_alike : (image : Fields) (bound : Bindings) (a word : ℕ) → word_under (upgraded image) bound a word ≡ word_under image bound a word
unfolding word_under point_at
word_alike image bound a word = through_alike image bound a word (point_at image a)

words_alike : (image : Fields) (bound : Bindings) (a : ℕ) (words : List ℕ) → words_under (upgraded image) bound a words ≡ words_under image bound a words
unfolding words_under
words_alike image bound a [] = refl
words_alike image bound a (word ∷ words) = ap₂ (λ (x : ℕ) (xs : List ℕ). x ∷ xs) (word_alike image bound a word) (words_alike image bound (a + 4) words)

text_alike : (image : Fields) (bound : Bindings) → text_of (upgraded image) bound ≡ text_of image bound
unfolding text_of
text_alike image bound = words_alike image bound text_start image.text

pub plan_between_alike : (image : Fields) (old new : List Binding) → plan_between (upgraded image) old new ≡ plan_between image old new
plan_between_alike image old new = ap₂ (λ (x y : List ℕ). pairs_between x y) (text_alike image (values_of old)) (text_alike image (values_of new))

bindings_alike : (image : Fields) (held : Held) (code index : ℕ) (old : List Binding) → bindings_ordered (upgraded image) held code index old ≡ bindings_ordered image held code index old
unfolding bindings_ordered fitting_variant
bindings_alike image held code index old = refl

answer_alike : (image : Fields) (code index : ℕ) (bound : List Binding) → answer_after (upgraded image) code index bound ≡ answer_after image code index bound
unfolding answer_after
answer_alike image code index bound = refl

known_alike : (image : Fields) (code index : ℕ) → is_known_order (upgraded image) code index ≡ is_known_order image code index
unfolding is_known_order
known_alike image code index = refl

pub plan_alike : (image : Fields) (held : Held) (old : List Binding) (code index : ℕ) → plan_of (upgraded image) held old code index ≡ plan_of image held old code index
unfolding plan_of
plan_alike image held old code index =
    let new = bindings_ordered image held code index old in
    ap (λ (bound : List Binding). record { pairs = plan_between (upgraded image) old bound; bound = bound; answer = answer_after (upgraded image) code index bound }) (bindings_alike image held code index old)
    ∙ ap₂ (λ (pairs : List Pair) (answer : ℕ). record { pairs = pairs; bound = new; answer = answer }) (plan_between_alike image old new) (answer_alike image code index new)

-- ---- environment calls

by_test : (test : Bool) (x y x' y' : State) → x' ≡ with_upgraded x → y' ≡ with_upgraded y → (if test then x' else y') ≡ with_upgraded (if test then x else y)
by_test true x y x' y' ex ey = ex
by_test false x y x' y' ex ey = ey

refused_alike : (s : State) (answer : ℕ) → refused (with_upgraded s) answer ≡ with_upgraded (refused s answer)
unfolding answered
refused_alike s answer = refl

carried_alike : (s : State) (plan : Planned) (answer : ℕ) → carried_out (with_upgraded s) plan answer ≡ with_upgraded (carried_out s plan answer)
unfolding answered
carried_alike s plan answer = refl

ordered_alike : (s : State) (code index : ℕ) → ordered (with_upgraded s) code index ≡ with_upgraded (ordered s code index)
ordered_alike s code index =
    ap (λ (plan : Planned). carried_out (with_upgraded s) plan plan.answer) (plan_alike s.image s.room.held s.bindings code index)
    ∙ (let plan = plan_of s.image s.room.held s.bindings code index in carried_alike s plan plan.answer)

planned_alike : (s : State) (code index : ℕ) → planned (with_upgraded s) code index ≡ with_upgraded (planned s code index)
unfolding planned
planned_alike s code index =
    ap (λ (known : Bool). if known then (if nat_eq s.hart 0 && nat_eq (live_frames s) 0 then ordered (with_upgraded s) code index
    else refused (with_upgraded s) (2 ^ 32 - 1)) else stopped (with_upgraded s) (Fault cause.Call)) (known_alike s.image code index)
    ∙ by_test (is_known_order s.image code index) (if nat_eq s.hart 0 && nat_eq (live_frames s) 0 then ordered s code index else refused s (2 ^ 32 - 1)) (stopped s (Fault cause.Call))
    (if nat_eq s.hart 0 && nat_eq (live_frames s) 0 then ordered (with_upgraded s) code index else refused (with_upgraded s) (2 ^ 32 - 1)) (stopped (with_upgraded s) (Fault cause.Call))
    (by_test (nat_eq s.hart 0 && nat_eq (live_frames s) 0) (ordered s code index) (refused s (2 ^ 32 - 1)) (ordered (with_upgraded s) code index) (refused (with_upgraded s) (2 ^ 32 - 1))
    (ordered_alike s code index) (refused_alike s (2 ^ 32 - 1)))
    refl

flipped_alike : (s : State) (switch value : ℕ) → flipped (with_upgraded s) switch value ≡ with_upgraded (flipped s switch value)
flipped_alike s switch value =
    let room = with_value s.image s.room switch value in
    ap (λ (plan : Planned). carried_out (record (with_upgraded s) { room = room }) plan 1) (plan_alike s.image room.held s.bindings orders.commit 0)
    ∙ carried_alike (record s { room = room }) (plan_of s.image room.held s.bindings orders.commit 0) 1

adopts_alike : (s : State) (bs : List Binding) → adopts (with_upgraded s) bs ≡ with_upgraded (adopts s bs)
unfolding answered
adopts_alike s bs = refl

adopted_alike : (s : State) (bs : List Binding) → adopted (with_upgraded s) bs ≡ with_upgraded (adopted s bs)
adopted_alike s bs =
    ap (λ (pairs : List Pair). adopts (record (with_upgraded s) { room = stored_all s.room pairs }) bs) (plan_between_alike s.image s.bindings bs)
    ∙ adopts_alike (record s { room = stored_all s.room (plan_between s.image s.bindings bs) }) bs

acted_alike : (s : State) (acts : List Act) → acted (with_upgraded s) acts ≡ with_upgraded (acted s acts)
acted_alike s [] = refused_alike s 0
acted_alike s (Skip ∷ later) = refused_alike (record s { actions = later }) 0
acted_alike s (Flip switch value ∷ later) = flipped_alike (record s { actions = later }) switch value
acted_alike s (Adopt bs ∷ later) = adopted_alike (record s { actions = later }) bs

polled_alike : (s : State) → polled (with_upgraded s) ≡ with_upgraded (polled s)
unfolding polled
polled_alike s =
    by_test (nat_eq (live_frames s) 0) (acted s s.actions) (refused s 0) (acted (with_upgraded s) s.actions) (refused (with_upgraded s) 0) (acted_alike s s.actions) (refused_alike s 0)

call_alike : (request : Request) (s : State) → environment_call request (with_upgraded s) ≡ with_upgraded (environment_call request s)
unfolding answered
call_alike Exits s = refl
call_alike Reads s = refl
call_alike Writes s = refl
call_alike Traps s = refl
call_alike Plans s = planned_alike s (argument s) (reg s.regs a1)
call_alike Polls s = polled_alike s
call_alike Unknown s = refl

-- ---- runs

after_alike : (outcome : Outcome Room) (s : State) → after outcome (with_upgraded s) ≡ with_upgraded (after outcome s)
after_alike (Goes regs pc room) s = refl
after_alike Calls s = call_alike (request_of (reg s.regs a7)) s
after_alike (Faults why) s = refl

pub turn_alike : (s : State) (pick : ℕ) → turn (with_upgraded s) pick ≡ with_upgraded (turn s pick)
unfolding turn fetched_step choices_at
turn_alike s pick = by_test (is_going s.stop) (after (fetched_step s pick) s) s (after (fetched_step s pick) (with_upgraded s)) (with_upgraded s) (after_alike (fetched_step s pick) s) refl

runs_alike : (s : State) (picks : List ℕ) (n : ℕ) → runs_from (with_upgraded s) picks n ≡ with_upgraded (runs_from s picks n)
unfolding runs_from
runs_alike s picks zero = refl
runs_alike s picks (suc n) = ap (λ (t : State). turn t (slice_index picks n)) (runs_alike s picks n) ∙ turn_alike (runs_from s picks n) (slice_index picks n)

first_alike : (image : Fields) (input : List (Option ℕ)) (polls : PollActs) → first (upgraded image) input polls ≡ with_upgraded (first image input polls)
unfolding first patchable
first_alike image input polls = refl

pub upgraded_runs : UpgradesRunAlike
upgraded_runs image input polls picks n = ap (λ (s : State). runs_from s picks n) (first_alike image input polls) ∙ runs_alike (first image input polls) picks n
