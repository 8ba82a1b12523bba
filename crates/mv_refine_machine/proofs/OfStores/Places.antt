-- Where words of text lie, and what stands there.
use Rattle.std.proofs.Common.{◌≡◌, ℕ, ◌%◌, ◌^◌, ◌<◌, Bool, true, false, cond, ltb, set, slice_get, slice_index, Some, refl, ap, arith}
use Rattle.std.proofs.lemmas.Bool.{lt-ltb, le-ltb}
use Rattle.std.proofs.lemmas.Option.{get_or_from_slice_get}
use Rattle.mv_fetch.specs.Held.{Held, Room, IsInText, region_of, index_of, present, joined, store, remember, older_at, choices, choices_of}
use Rattle.mv_fetch.specs.Stores.{spared}
use Rattle.mv_fetch.proofs.Parts.{joined_4}
use Rattle.mv_rv32.specs.Stepping.{access}
use Rattle.mv_patch.specs.Pairs.{place, pair_of}
use Rattle.mv_patch.specs.Stores.{stored}

-- ---- addresses

pub in_text : (k : ℕ) → place k < 0x0010_0000 → IsInText (place k)
unfolding region_of
in_text k lt =
    let e : ltb (place k) 0x1000 ≡ false = le-ltb (place k) 0x1000 (omega arith) in
    let f : ltb (place k) 0x0010_0000 ≡ true = lt-ltb (place k) 0x0010_0000 lt in
    rw (e, f) refl

pub index_at : (k : ℕ) → place k < 0x0010_0000 → index_of (place k) ≡ k
unfolding index_of
index_at k lt =
    let f : ltb (place k) 0x0010_0000 ≡ true = lt-ltb (place k) 0x0010_0000 lt in
    rw f (omega arith)

pub aligned : (k : ℕ) → place k % 4 ≡ 0
aligned k = omega arith

-- what holds of each region holds of that of an address
pub by_region : {R : Type 0} (P : R → Type 0) (b c d e f : Bool) (nowhere text globals stack plan : R) → P nowhere → P text → P globals → P stack
    → P plan → P (cond b nowhere (cond c text (cond d globals (cond e stack (cond f plan nowhere)))))
by_region P true c d e f nowhere text globals stack plan pn pt pg ps pp = pn
by_region P false true d e f nowhere text globals stack plan pn pt pg ps pp = pt
by_region P false false true e f nowhere text globals stack plan pn pt pg ps pp = pg
by_region P false false false true f nowhere text globals stack plan pn pt pg ps pp = ps
by_region P false false false false true nowhere text globals stack plan pn pt pg ps pp = pp
by_region P false false false false false nowhere text globals stack plan pn pt pg ps pp = pn

-- ---- what a fetch gives there

pub choices_at : (h : Held) (k : ℕ) → place k < 0x0010_0000 → choices h (place k) ≡ choices_of (slice_get h.text k) (older_at h.older k)
unfolding choices
choices_at h k lt =
    rw (aligned k, in_text k lt, index_at k lt) refl

-- ---- a store there

pub store_is : (room : Room) (k word v : ℕ) → place k < 0x0010_0000 → slice_get room.held.text k ≡ Some word → word < 2 ^ 32 → v < 2 ^ 32 → access.store room (place k) 4 v ≡ Some (stored room (pair_of (place k) v))
unfolding access store present stored
store_is room k word v lt there small fits =
    let j : joined (place k) 4 word v ≡ v = joined_4 (place k) 4 word v refl (aligned k) small fits in
    let g : slice_index room.held.text k ≡ word = get_or_from_slice_get room.held.text k word 0 there in
    rw (aligned k, in_text k lt, index_at k lt, there, j, g)
    (ap (λ r. Some (record { held = record room.held { text = set room.held.text k v; older = remember room.held.older k word }; spare = spared r room.spare; reserve = room.reserve })) (in_text k lt))
