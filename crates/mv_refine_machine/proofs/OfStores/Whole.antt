-- What each memory keeps of its text.
use Rattle.std.proofs.Common.{◌≡◌, ℕ, suc, ◌-◌, ◌%◌, ◌<◌, Bool, true, false, cond, eqb, ltb, List, [], ◌∷◌, length, replicate, set, slice_get, Option, Some, None, option_map, Err, refl, sym, ap, ◌∙◌, subst, arith, length-set}
use Rattle.std.specs.Result.{result_ok}
use Rattle.std.proofs.lemmas.List.{length-replicate, get_or-replicate, same_lists, get_or_default}
use Rattle.std.proofs.lemmas.List.Sums.{sum_by-set}
use Rattle.std.proofs.lemmas.List.Folds.{sum_by-replicate}
use Rattle.std.proofs.lemmas.Option.{slice_get_within}
use Rattle.mv_fetch.specs.declared.memory.AccessError.TheVariants.{Misaligned}
use Rattle.mv_fetch.specs.Held.{Room, region_of, index_of, words_of, present, joined, with_word, found, store, remember, older_at, fence}
use Rattle.mv_fetch.specs.Stores.{spared}
use Rattle.mv_rv32.specs.Stepping.{access, with_held}
use Rattle.mv_refine_machine.proofs.OfStores.Places.{by_region}
use Rattle.mv_refine_machine.specs.Stores.Between.{IsWhole, IsSettled, count_older}

none_older : (n : ℕ) → count_older (replicate n []) ≡ 0
none_older n = sum_by-replicate (λ (words : List ℕ). length words) n [] ∙ omega arith

pub settled_whole : (words : List ℕ) (room : Room) → IsSettled words room → IsWhole room
settled_whole words room h =
    let older = h.older in
    let spare = h.spare in
    let none : count_older room.held.older ≡ 0 = ap count_older older ∙ none_older (length words) in
    record {
      size = ap (λ (l : List (List ℕ)). length l) older ∙ length-replicate {A = List ℕ} (length words) [] ∙ ap (λ (l : List ℕ). length l) (sym h.text);
      spare = omega (arith, none, spare);
    }

pub fenced_whole : (room : Room) → IsWhole (access.fence room)
unfolding access fence
fenced_whole room = record {
  size = length-replicate {A = List ℕ} (length room.held.text) [];
  spare = (let none = none_older (length room.held.text) in omega (arith, none));
}

pub whole_settles : (words : List ℕ) (room : Room) → IsWhole room → room.held.text ≡ words → ((k : ℕ) → older_at room.held.older k ≡ []) → IsSettled words room
whole_settles words room h e none =
    let size : length room.held.older ≡ length words = h.size ∙ ap (λ (l : List ℕ). length l) e in
    let same : room.held.older ≡ replicate (length words) [] =
    same_lists room.held.older (replicate (length words) []) (size ∙ sym (length-replicate {A = List ℕ} (length words) []))
    (λ k d lt. get_or_default room.held.older k d [] lt ∙ none k ∙ sym (get_or-replicate (length words) k [] d (omega (arith, size, lt)))) in
    let count : count_older room.held.older ≡ 0 = ap count_older same ∙ none_older (length words) in
    let spare = h.spare in
    record { text = e; older = same; spare = omega (arith, count, spare) }

-- ---- a store

-- one word more is older
pub remembered : (older : List (List ℕ)) (k w : ℕ) → k < length older → count_older (remember older k w) ≡ suc (count_older older)
unfolding remember
remembered older k w lt =
    let e = sum_by-set (λ (words : List ℕ). length words) older k (w ∷ older_at older k) [] lt in
    omega (arith, e)

-- a word is put into text
pub put_whole : (room : Room) (k w v : ℕ) → IsWhole room → k < length room.held.text
    → IsWhole (record {
      held = record room.held { text = set room.held.text k v; older = remember room.held.older k w };
      spare = room.spare - 1;
      reserve = room.reserve;
    })
unfolding remember
put_whole room k w v h lt =
    let size = h.size in
    let spare = h.spare in
    let more = remembered room.held.older k w (omega (arith, size, lt)) in
    record {
      size = length-set room.held.older k (w ∷ older_at room.held.older k) ∙ size ∙ sym (length-set room.held.text k v);
      spare = omega (arith, more, spare);
    }

pub store_whole : (room room' : Room) (a n v : ℕ) → access.store room a n v ≡ Some room' → IsWhole room → IsWhole room'
unfolding access store present region_of
store_whole room room' a n v e h = by_test (eqb (a % n) 0) (slice_get (words_of room.held (region_of a)) (index_of a)) refl e
  where
    in_region : (w j : ℕ) → slice_get (words_of room.held (region_of a)) (index_of a) ≡ Some w → IsWhole (with_held a room (with_word room.held (region_of a) (index_of a) w j))
    in_region w j there =
        by_region (λ r. slice_get (words_of room.held r) (index_of a) ≡ Some w → IsWhole (record { held = with_word room.held r (index_of a) w j; spare = spared r room.spare; reserve = room.reserve }))
        (ltb a 0x0000_1000) (ltb a 0x0010_0000) (ltb a 0x0020_0000) (ltb a 0x0040_0000) (ltb a 0x0048_0000) _ _ _ _ _
        (λ g. record { size = h.size; spare = h.spare })
        (λ g. put_whole room (index_of a) w j h (slice_get_within room.held.text (index_of a) w g))
        (λ g. record { size = h.size; spare = h.spare })
        (λ g. record { size = h.size; spare = h.spare })
        (λ g. record { size = h.size; spare = h.spare })
        there

    by_test : (b : Bool) (o : Option ℕ) → slice_get (words_of room.held (region_of a)) (index_of a) ≡ o
        → option_map (with_held a room) (result_ok (cond b (found a o (λ w. with_word room.held (region_of a) (index_of a) w (joined a n w v))) (Err (Misaligned a)))) ≡ Some room' → IsWhole room'
    by_test true (Some w) there q = subst (λ (x : Room). IsWhole x) (cc) (in_region w (joined a n w v) there)
    by_test true None there q = absurd (cc)
    by_test false o there q = absurd (cc)
