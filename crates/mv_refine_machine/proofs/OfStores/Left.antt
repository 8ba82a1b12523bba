-- How much of the reserve is spare between two texts.
use Rattle.std.proofs.Common.{◌≡◌, ℕ, suc, ◌+◌, ◌%◌, ◌≤◌, Bool, true, false, ◌&&◌, not, cond, eqb, List, [], ◌∷◌, length, slice_get, Option, Some, None, option_map, Err, refl, sym, ap, ◌∙◌, arith}
use Rattle.std.specs.Result.{result_ok}
use Rattle.std.proofs.lemmas.Bool.{and_parts, cond_both, not-true}
use Rattle.std.proofs.lemmas.List.Sums.{sum_by-cons}
use Rattle.std.proofs.lemmas.Option.{slice_get_within}
use Rattle.mv_fetch.specs.declared.memory.AccessError.TheVariants.{Misaligned}
use Rattle.mv_fetch.specs.Held.{Held, Room, IsInText, region_of, index_of, words_of, present, joined, with_word, found, store}
use Rattle.mv_rv32.specs.Stepping.{access, with_held}
use Rattle.mv_image.specs.Spelling.{Fields}
use Rattle.mv_image.specs.Patched.{Bindings, text_of}
use Rattle.mv_image.specs.Faults.{Rules}
use Rattle.mv_patch.specs.declared.prepared.Pair.{Pair}
use Rattle.mv_patch.specs.Pairs.{text_start, differing}
use Rattle.mv_patch.specs.Tables.{patchable}
use Rattle.mv_refine_machine.specs.Stores.Between.{count_older, IsWhole, IsBetween, is_word_between, are_between}
use Rattle.mv_refine_machine.proofs.OfStores.Whole.{remembered}
use Rattle.mv_refine_machine.proofs.OfStores.Tested.{between_tested}
use Rattle.mv_patch.proofs.TablePairs.{few_pairs}

-- ---- no more older words than pairs

count_cons : (ws : List ℕ) (older : List (List ℕ)) → count_older (ws ∷ older) ≡ length ws + count_older older
count_cons ws older = sum_by-cons (λ (words : List ℕ). length words) ws older

older_few : (at : ℕ) (old new text : List ℕ) (older : List (List ℕ)) → are_between old new text older ≡ true → count_older older ≤ length (differing at old new)
unfolding are_between differing
older_few at [] [] [] [] h = omega arith
older_few at (o ∷ old) (n ∷ new) (w ∷ text) ([] ∷ older) h =
    let p = and_parts (is_word_between o n w []) (are_between old new text older) h in
    let rest = older_few (at + 4) old new text older p.1 in
    let count = count_cons [] older in
    cond_both (eqb o n) _ _ (λ (ps : List Pair). count_older ([] ∷ older) ≤ length ps) (λ same. omega (arith, rest, count)) (λ differ. omega (arith, rest, count))
older_few at (o ∷ old) (n ∷ new) (w ∷ text) ((v ∷ []) ∷ older) h =
    let p = and_parts (is_word_between o n w (v ∷ [])) (are_between old new text older) h in
    let q = and_parts (eqb w n) (eqb v o && not (eqb o n)) p.0 in
    let differ : eqb o n ≡ false = not-true (eqb o n) (and_parts (eqb v o) (not (eqb o n)) q.1).1 in
    let rest = older_few (at + 4) old new text older p.1 in
    let count = count_cons (v ∷ []) older in
    rw differ (omega (arith, rest, count))
older_few at (o ∷ old) (n ∷ new) (w ∷ text) ((v ∷ u ∷ ws) ∷ older) h = absurd (let p = and_parts false (are_between old new text older) h in let q = p.0 in cc)
older_few at _ _ _ _ h = absurd (cc)

between_few : (image : Fields) → Rules image → (some other : Bindings) (h : Held) → IsBetween (text_of image some) (text_of image other) h → count_older h.older ≤ patchable image
between_few image r some other h b =
    let few = older_few text_start (text_of image some) (text_of image other) h.text h.older (between_tested (text_of image some) (text_of image other) h b) in
    let pairs = few_pairs image r some other in
    omega (arith, few, pairs)

pub is_left : (image : Fields) → Rules image → (some other : Bindings) (room : Room) → IsWhole room → room.reserve ≡ patchable image
    → IsBetween (text_of image some) (text_of image other) room.held → room.spare + count_older room.held.older ≡ patchable image
is_left image r some other room whole reserve between =
    let few = between_few image r some other room.held between in
    let spare = whole.spare in
    omega (arith, few, spare, reserve)

-- ---- a store into text

store_remembers : (room room' : Room) (a n v : ℕ) → IsInText a → access.store room a n v ≡ Some room' → IsWhole room → count_older room'.held.older ≡ suc (count_older room.held.older)
unfolding access store present
store_remembers room room' a n v text e whole = by_test (eqb (a % n) 0) (slice_get (words_of room.held (region_of a)) (index_of a)) refl e
  where
    in_text : (w j : ℕ) → slice_get (words_of room.held (region_of a)) (index_of a) ≡ Some w → count_older (with_held a room (with_word room.held (region_of a) (index_of a) w j)).held.older ≡ suc (count_older room.held.older)
    in_text w j there =
        let here : slice_get room.held.text (index_of a) ≡ Some w = ap (λ r. slice_get (words_of room.held r) (index_of a)) (sym text) ∙ there in
        let within = slice_get_within room.held.text (index_of a) w here in
        let size = whole.size in
        ap (λ r. count_older (with_word room.held r (index_of a) w j).older) text ∙ remembered room.held.older (index_of a) w (omega (arith, within, size))

    by_test : (b : Bool) (o : Option ℕ) → slice_get (words_of room.held (region_of a)) (index_of a) ≡ o
        → option_map (with_held a room) (result_ok
        (cond b (found a o (λ w. with_word room.held (region_of a) (index_of a) w (joined a n w v))) (Err (Misaligned a)))) ≡ Some room'
        → count_older room'.held.older ≡ suc (count_older room.held.older)
    by_test true (Some w) there q =
        let s : with_held a room (with_word room.held (region_of a) (index_of a) w (joined a n w v)) ≡ room' = cc in
        ap (λ (x : Room). count_older x.held.older) (sym s) ∙ in_text w (joined a n w v) there
    by_test true None there q = absurd (cc)
    by_test false o there q = absurd (cc)

pub finds_room : (image : Fields) → Rules image → (some other : Bindings) (room room' : Room) (a n v : ℕ) → IsInText a → access.store room a n v ≡ Some room' → IsWhole room → room.reserve ≡ patchable image
    → IsBetween (text_of image some) (text_of image other) room'.held → 1 ≤ room.spare
finds_room image r some other room room' a n v text e whole reserve between =
    let few = between_few image r some other room'.held between in
    let more = store_remembers room room' a n v text e whole in
    let spare = whole.spare in
    omega (arith, few, more, spare, reserve)
