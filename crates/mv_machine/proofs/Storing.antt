-- Words that the environment stores.
use Rattle.std.proofs.Common.{◌≡◌, ℕ, ◌+◌, ◌*◌, ◌<◌, ◌≤◌, Bool, true, false, cond, ltb, List, ◌∷◌, length, drop, get_or, option_map, unwrap_or, Result, Ok, Err, OnOk, OnErr, IfErr, refl, sym, ap, ap₂, ◌∙◌, arith}
use Rattle.std.proofs.lemmas.Bool.{le-ltb}
use Rattle.std.proofs.lemmas.List.{drop_more, drop_all}
use Rattle.std.specs.Result.{result_ok}
use Rattle.mv_fetch.specs.Held.{Held, Room, IsInText, region_of, store}
use Rattle.mv_fetch.specs.Stores.{StoreFails, spared}
use Rattle.mv_fetch.specs.declared.memory.AccessError.{AccessError}
use Rattle.mv_fetch.specs.declared.memory.StoreError.{StoreError}
use Rattle.mv_fetch.specs.declared.memory.StoreError.TheVariants as refusal
use Rattle.mv_rv32.specs.Stepping.{access, with_held}
use Rattle.mv_image.specs.Spelling.{Fields}
use Rattle.mv_patch.specs.Tables.{patchable}
use Rattle.mv_patch.specs.declared.prepared.Pair.{Pair}
use Rattle.mv_machine.specs.Runs.{stored_word, stored_words, spelled_pairs, plan_area}

-- text ends before the data
pub not_in_text : (a : ℕ) → 0x0010_0000 ≤ a → IsInText a → ⊥
unfolding region_of
not_in_text a ge h =
    let e : ltb a 0x1000 ≡ false = le-ltb a 0x1000 (omega (arith, ge)) in
    let f : ltb a 0x0010_0000 ≡ false = le-ltb a 0x0010_0000 ge in
    by_tests (ltb a 0x0020_0000) (ltb a 0x0040_0000) (ltb a 0x0048_0000) (rw (e, f) at h)
  where
    by_tests : (x y z : Bool) → cond x (region_of 0x0010_0000) (cond y (region_of 0x0020_0000) (cond z (region_of 0x0040_0000) (region_of 0))) ≡ region_of 0x1000 → ⊥
    by_tests true y z k = absurd (cc)
    by_tests false true z k = absurd (cc)
    by_tests false false true k = absurd (cc)
    by_tests false false false k = absurd (cc)

-- what the definition stores
abbrev stored_by : Room → (a : ℕ) → Result Held AccessError → Room
stored_by room a r = unwrap_or (option_map (with_held a room) (result_ok r)) room

stored_is : (room : Room) (a w : ℕ) → stored_word room a w ≡ stored_by room a (store room.held a 4 w)
unfolding access
stored_is room a w = refl

-- a store outside text, carried out or refused
pub stores : {T : Type 0} (old new : Room) (a w : ℕ) (result : Result T StoreError) → 0x0010_0000 ≤ a
    → OnOk result (store old.held a 4 w ≡ Ok new.held) → OnOk result (new.spare ≡ spared (region_of a) old.spare) → new.reserve ≡ old.reserve
    → OnErr result (new ≡ old)
    → IfErr result (λ e. StoreFails e a old.spare (store old.held a 4 w)) → new ≡ stored_word old a w
stores old new a w (Ok done) ge held spare reserve err cause =
    ap₂ (λ (s r : ℕ). record { held = new.held; spare = s; reserve = r }) spare reserve ∙ sym (stored_is old a w ∙ ap (λ r. stored_by old a r) held)
stores old new a w (Err (refusal.Misaligned x)) ge held spare reserve err cause = err ∙ sym (stored_is old a w ∙ ap (λ r. stored_by old a r) cause)
stores old new a w (Err (refusal.Outside x)) ge held spare reserve err cause = err ∙ sym (stored_is old a w ∙ ap (λ r. stored_by old a r) cause)
stores old new a w (Err (refusal.Memory e)) ge held spare reserve err cause = absurd (not_in_text a ge cause.0)

-- ---- pairs

-- the words of the pairs from a place on come behind one another
pub next_pair : (room : Room) (address place : ℕ) (pairs : List Pair) (other : Pair) → place < length pairs
    → stored_words (stored_word (stored_word room address (get_or pairs place other).address) (address + 4) (get_or pairs place other).word) (address + 8) (spelled_pairs (drop (place + 1) pairs))
    ≡ stored_words room address (spelled_pairs (drop place pairs))
unfolding stored_words spelled_pairs
next_pair room address place pairs other lt =
    let more = drop_more pairs place other lt in
    let e : address + 4 + 4 ≡ address + 8 = omega arith in
    let pair = get_or pairs place other in
    ap (λ (a : ℕ). stored_words (stored_word (stored_word room address pair.address) (address + 4) pair.word) a (spelled_pairs (drop (place + 1) pairs))) (sym e)
    ∙ ap (λ (ps : List Pair). stored_words room address (spelled_pairs ps)) (sym more)

-- and so behind two stores
pub next_stored : (room first second : Room) (address place : ℕ) (pairs : List Pair) (other : Pair) → place < length pairs
    → first ≡ stored_word room address (get_or pairs place other).address → second ≡ stored_word first (address + 4) (get_or pairs place other).word
    → stored_words second (address + 8) (spelled_pairs (drop (place + 1) pairs)) ≡ stored_words room address (spelled_pairs (drop place pairs))
next_stored room first second address place pairs other lt e f =
    ap (λ (m : Room). stored_words m (address + 8) (spelled_pairs (drop (place + 1) pairs))) (f ∙ ap (λ (m : Room). stored_word m (address + 4) (get_or pairs place other).word) e)
    ∙ next_pair room address place pairs other lt

pub no_pair : (room : Room) (address place : ℕ) (pairs : List Pair) → length pairs ≤ place → stored_words room address (spelled_pairs (drop place pairs)) ≡ room
unfolding stored_words spelled_pairs
no_pair room address place pairs le = ap (λ (ps : List Pair). stored_words room address (spelled_pairs ps)) (drop_all place pairs le)

-- the first word of a plan is its length
pub plan_begins : (room : Room) (pairs : List Pair) → stored_words (stored_word room plan_area (length pairs)) (plan_area + 4) (spelled_pairs pairs) ≡ stored_words room plan_area (length pairs ∷ spelled_pairs pairs)
unfolding stored_words
plan_begins room pairs = refl

-- there is room in the plan area for each plan of an image
pub few_pairs : (image : Fields) (count : ℕ) → count ≤ patchable image → length image.functions ≤ 1000 → length image.sites + 2 * length image.points ≤ 16384 → count ≤ 0x0001_0000
unfolding patchable
few_pairs image count le functions places = omega (arith, le, functions, places)
