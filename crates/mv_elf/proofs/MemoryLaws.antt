-- Loading segments into the memory of a region.
use Rattle.std.proofs.Common.{◌≡◌, ◌<◌, ◌≤◌, ◌+◌, ◌*◌, ◌-◌, ◌∙◌, ℕ, suc, List, length, slice_index, slice_range, take, drop, ◌++◌, subst, true, false, sym, ap, refl, arith, inl, inr, map}
use Rattle.std.specs.List.{range_with_len}
use Rattle.std.proofs.lemmas.Bool.{cases_lt, cases_Bool, and_right, and_left, and_from, or_cases, both_ways, cond-false, cond-true, lt-leb, le-ltb, le-leb, lt-ltb}
use Rattle.std.proofs.lemmas.List.{get_or_append_left, get_or-append_right, get_or-take, get_or-drop, length-take-le}
use Rattle.std.proofs.lemmas.List.FromFn.{length-map-range_with_len, get_or-map-range_with_len}
use borrow.Rule.Slice.PartMut.{put_mid}
use Rattle.mv_num.proofs.Lists.{same_lists}
use Rattle.mv_elf.specs.declared.segment.Region.{Region}
use Rattle.mv_elf.specs.declared.segment.Region.TheVariants.{Text, Data}
use Rattle.mv_elf.specs.declared.segment.Segment.{Segment}
use Rattle.mv_elf.specs.Segments.{region_start, region_end, count_of, segment_of, is_loaded, lies_in, reach, is_right, AreRight}
use Rattle.mv_elf.specs.Memory.{words_in, covers, loaded_over, byte_of, bytes_in}
use Rattle.mv_elf.proofs.SegmentLaws.{lies, placed, there, loaded_bytes, reach-holds, reach-most}
use Rattle.mv_image.proofs.Parts.{range_length}

-- a segment covers the addresses of its bytes of the file

pub covered : (s : Segment) (a : ℕ) → is_loaded s ≡ true → s.address ≤ a → a < s.address + s.file_size → covers s a ≡ true
unfolding covers
covered s a loaded from to = and_from _ _ (and_from _ _ loaded (le-leb _ _ from)) (lt-ltb _ _ to)

pub before : (s : Segment) (a : ℕ) → a < s.address → covers s a ≡ false
unfolding covers
before s a lt = and_left _ _ (and_right _ _ (lt-leb _ _ lt))

pub behind : (s : Segment) (a : ℕ) → s.address + s.file_size ≤ a → covers s a ≡ false
unfolding covers
behind s a le = and_right _ _ (le-ltb _ _ le)

pub not_loaded : (s : Segment) (a : ℕ) → is_loaded s ≡ false → covers s a ≡ false
unfolding covers
not_loaded s a fails = and_left _ _ (and_left _ _ fails)

-- and none of the other region
not_covered : (region : Region) (reached : ℕ) (s : Segment) (a : ℕ) → is_right reached s ≡ true → lies_in region s ≡ false → region_start region ≤ a → a < region_end region → covers s a ≡ false
not_covered Text reached s a right fails from to =
    elim (cases_Bool (is_loaded s)) [
      | inr none ↦ not_loaded s a none
      | inl loaded ↦ elim (or_cases _ _ (placed reached s right loaded).region) [
        | inl text ↦ absurd (both_ways _ fails text)
        | inr data_ ↦ before s a (omega (arith, (lies Data s data_).start, to))
      ]
    ]
not_covered Data reached s a right fails from to =
    elim (cases_Bool (is_loaded s)) [
      | inr none ↦ not_loaded s a none
      | inl loaded ↦
          let p = placed reached s right loaded in
          elim (or_cases _ _ p.region) [
            | inl text ↦ behind s a (omega (arith, (lies Text s text).end, p.bytes, from))
            | inr data_ ↦ absurd (both_ways _ fails data_)
          ]
    ]

pub loaded_byte : (bytes : List ℕ) (s : Segment) (a under : ℕ) → covers s a ≡ true → loaded_over bytes s a under ≡ slice_index bytes (s.offset + (a - s.address))
unfolding loaded_over
loaded_byte bytes s a under e = cond-true _ _ _ e

pub left_alone : (bytes : List ℕ) (s : Segment) (a under : ℕ) → covers s a ≡ false → loaded_over bytes s a under ≡ under
unfolding loaded_over
left_alone bytes s a under e = cond-false _ _ _ e

pub byte_of-none : (bytes : List ℕ) (a : ℕ) → byte_of bytes 0 a ≡ 0
unfolding byte_of
byte_of-none bytes a = refl

pub byte_of-more : (bytes : List ℕ) (i a : ℕ) → byte_of bytes (i + 1) a ≡ loaded_over bytes (segment_of bytes i) a (byte_of bytes i a)
unfolding byte_of
byte_of-more bytes i a = let n : i + 1 ≡ suc i = omega arith in rw n refl

-- ---- the words of a region

pub words_room : (region : Region) (bytes : List ℕ) → region_start region + 4 * words_in bytes region ≤ region_end region
unfolding words_in
words_room Text bytes = omega (arith, reach-most Text bytes (count_of bytes))
words_room Data bytes = omega (arith, reach-most Data bytes (count_of bytes))

pub words_hold : (region : Region) (bytes : List ℕ) (i : ℕ) → i < count_of bytes → lies_in region (segment_of bytes i) ≡ true
    → (segment_of bytes i).address + (segment_of bytes i).memory_size ≤ region_start region + 4 * words_in bytes region
unfolding words_in
words_hold region bytes i lt e = omega (arith, reach-holds (lies_in region) bytes (count_of bytes) i lt e)

-- ---- steps

pub step_loaded : (region : Region) (bytes items old new : List ℕ) (s : Segment) (i k : ℕ) → s ≡ segment_of bytes i → old ≡ items
    → ((j : ℕ) → j < length old → slice_index new j ≡ loaded_over bytes s (region_start region + j) (slice_index old j)) → k < length items → slice_index items k ≡ byte_of bytes i (region_start region + k)
    → slice_index new k ≡ byte_of bytes (i + 1) (region_start region + k)
step_loaded region bytes items old new s i k is same new_is lt was =
    let a : ℕ = region_start region + k in
    new_is k (omega (arith, lt, ap length same)) ∙ ap (λ (z : Segment). loaded_over bytes z a (slice_index old k)) is
    ∙ ap (loaded_over bytes (segment_of bytes i) a) (ap (λ (x : List ℕ). slice_index x k) same ∙ was) ∙ sym (byte_of-more bytes i a)

pub step_skipped : (region : Region) (bytes : List ℕ) (reached i k : ℕ) → is_right reached (segment_of bytes i) ≡ true → lies_in region (segment_of bytes i) ≡ false → k < 4 * words_in bytes region
    → byte_of bytes i (region_start region + k) ≡ byte_of bytes (i + 1) (region_start region + k)
step_skipped region bytes reached i k right fails lt =
    let room = words_room region bytes in
    let out = not_covered region reached (segment_of bytes i) (region_start region + k) right fails (omega arith) (omega (arith, room, lt)) in
    sym (byte_of-more bytes i (region_start region + k) ∙ left_alone bytes (segment_of bytes i) (region_start region + k) (byte_of bytes i (region_start region + k)) out)

pub all_loaded : (region : Region) (bytes memory : List ℕ) (n : ℕ) → n ≡ count_of bytes → length memory ≡ 4 * words_in bytes region
    → ((k : ℕ) → k < 4 * words_in bytes region → slice_index memory k ≡ byte_of bytes n (region_start region + k)) → memory ≡ bytes_in bytes region
unfolding bytes_in
all_loaded region bytes memory n e len each =
    let f : ℕ → ℕ = byte_of bytes (count_of bytes) in
    let size = length-map-range_with_len f (region_start region) (4 * words_in bytes region) in
    same_lists memory (map f (range_with_len (region_start region) (4 * words_in bytes region))) (len ∙ sym size)
    (λ k lt. (
    let there : k < 4 * words_in bytes region = omega (arith, lt, len) in
    each k there ∙ ap (λ (m : ℕ). byte_of bytes m (region_start region + k)) e ∙ sym (get_or-map-range_with_len f (region_start region) (4 * words_in bytes region) k (region_start region + k) 0 there refl)))

-- ---- one segment

pub in_front : (bytes : List ℕ) (s : Segment) (start k under : ℕ) → start + k < s.address → loaded_over bytes s (start + k) under ≡ under
in_front bytes s start k under lt = left_alone bytes s (start + k) under (before s (start + k) lt)

pub at_end : (bytes : List ℕ) (s : Segment) (start k under : ℕ) → s.address + s.file_size ≤ start + k → loaded_over bytes s (start + k) under ≡ under
at_end bytes s start k under le = left_alone bytes s (start + k) under (behind s (start + k) le)

pub inside : (bytes : List ℕ) (s : Segment) (start k under : ℕ) → is_loaded s ≡ true → s.address ≤ start + k → start + k < s.address + s.file_size
    → loaded_over bytes s (start + k) under ≡ slice_index bytes (s.offset + (start + k - s.address))
inside bytes s start k under loaded from to = loaded_byte bytes s (start + k) under (covered s (start + k) loaded from to)

pub room_for : (region : Region) (bytes : List ℕ) (i : ℕ) (s : Segment) → AreRight bytes (count_of bytes) → i < count_of bytes
    → s ≡ segment_of bytes i → lies_in region s ≡ true → s.address + s.file_size ≤ region_start region + 4 * words_in bytes region
room_for region bytes i s right lt is in_region =
    let loaded : lies_in region (segment_of bytes i) ≡ true = subst (λ (z : Segment). lies_in region z ≡ true) is in_region in
    let place = placed (reach is_loaded bytes i) (segment_of bytes i) (right.right i lt) (lies region (segment_of bytes i) loaded).loaded in
    let hold = words_hold region bytes i lt loaded in
    let same : s.address + s.file_size ≡ (segment_of bytes i).address + (segment_of bytes i).file_size = ap (λ (z : Segment). z.address + z.file_size) is in
    omega (arith, place.bytes, hold, same)

pub bytes_for : (region : Region) (bytes : List ℕ) (i : ℕ) (s : Segment) → AreRight bytes (count_of bytes) → i < count_of bytes → s ≡ segment_of bytes i → lies_in region s ≡ true → s.offset + s.file_size ≤ length bytes
bytes_for region bytes i s right lt is in_region =
    let loaded : lies_in region (segment_of bytes i) ≡ true = subst (λ (z : Segment). lies_in region z ≡ true) is in_region in
    let file = loaded_bytes bytes (segment_of bytes i) (there bytes i (right.there i lt)).file (lies region (segment_of bytes i) loaded).loaded in
    let same : s.offset + s.file_size ≡ (segment_of bytes i).offset + (segment_of bytes i).file_size = ap (λ (z : Segment). z.offset + z.file_size) is in
    omega (arith, file, same)

-- the bytes of a part that is written over
pub put_over : (region : Region) (bytes old cells : List ℕ) (s : Segment) (at n : ℕ) → lies_in region s ≡ true → at ≡ s.address - region_start region → n ≡ s.file_size → cells ≡ slice_range bytes s.offset (s.offset + s.file_size)
    → s.address + s.file_size ≤ region_start region + length old → s.offset + s.file_size ≤ length bytes → (k : ℕ) → k < length old → slice_index (put_mid at n old cells) k ≡ loaded_over bytes s (region_start region + k) (slice_index old k)
put_over region bytes old cells s at n in_region at_is n_is cells_is room file k lt =
    let l = lies region s in_region in
    let part = range_length bytes s.offset (s.offset + s.file_size) (omega arith) file in
    let size : length cells ≡ n = ap length cells_is ∙ omega (arith, part, n_is) in
    let front : length (take at old) ≡ at = length-take-le at old (omega (arith, at_is, room, l.start)) in
    let tail : List ℕ = drop n (drop at old) in
    elim (cases_lt k at) [
      | inl before_it ↦
          get_or_append_left (take at old) (cells ++ tail) 0 k (omega (arith, front, before_it)) ∙ get_or-take at old k 0 before_it
          ∙ sym (in_front bytes s (region_start region) k (slice_index old k) (omega (arith, at_is, before_it)))
      | inr from ↦ elim (cases_lt k (at + n)) [
        | inl in_it ↦
            let place : s.offset + (region_start region + k - s.address) ≡ s.offset + (k - at) = omega (arith, at_is, from, l.start) in
            get_or-append_right (take at old) (cells ++ tail) at k 0 front from
            ∙ get_or_append_left cells tail 0 (k - at) (omega (arith, size, in_it, from))
            ∙ ap (λ (x : List ℕ). slice_index x (k - at)) cells_is
            ∙ get_or-take ((s.offset + s.file_size) - s.offset) (drop s.offset bytes) (k - at) 0 (omega (arith, in_it, from, n_is))
            ∙ get_or-drop s.offset bytes (k - at) 0
            ∙ ap (slice_index bytes) (sym place)
            ∙ sym (inside bytes s (region_start region) k (slice_index old k) l.loaded (omega (arith, at_is, from)) (omega (arith, at_is, in_it, n_is, l.start)))
        | inr behind_it ↦
            let place : at + (n + (k - at - n)) ≡ k = omega (arith, behind_it) in
            get_or-append_right (take at old) (cells ++ tail) at k 0 front (omega (arith, behind_it))
            ∙ get_or-append_right cells tail n (k - at) 0 size (omega (arith, behind_it))
            ∙ get_or-drop n (drop at old) (k - at - n) 0 ∙ get_or-drop at old (n + (k - at - n)) 0
            ∙ ap (slice_index old) place
            ∙ sym (at_end bytes s (region_start region) k (slice_index old k) (omega (arith, at_is, behind_it, n_is, l.start)))
      ]
    ]

pub bytes_length : (region : Region) (bytes : List ℕ) → length (bytes_in bytes region) ≡ 4 * words_in bytes region
unfolding bytes_in
bytes_length region bytes = length-map-range_with_len (byte_of bytes (count_of bytes)) (region_start region) (4 * words_in bytes region)
