-- Where the names of an image stand among the bytes of its spelling, and what each byte of them keeps.
use Rattle.std.proofs.Common.{◌≡◌, ℕ, ◌+◌, ◌-◌, ◌*◌, ◌<◌, ◌≤◌, true, List, [], ◌++◌, length, take, drop, map, slice_index, slice_range, get_or, All, ap, ◌∙◌, append_assoc, arith, inl, inr}
use Rattle.std.specs.Prelude.{replicate}
use Rattle.std.proofs.lemmas.Bool.{cases_lt}
use Rattle.std.proofs.lemmas.List.{length-append, length-replicate, get_or-replicate}
use Rattle.std.proofs.lemmas.List.Concat.{get_or-flat_map}
use Rattle.mv_num.specs.Bytes.{words_of, bytes_of, AreWords}
use Rattle.mv_num.proofs.ByteLaws.{length-bytes_of}
use Rattle.mv_image.specs.Places.{words_end, name_bytes, sum_below, owner, name_length, names}
use Rattle.mv_image.specs.Rules.{name_fits}
use Rattle.mv_image.specs.Spelling.{Fields, joined, filled, words_in, names_in, spelling}
use Rattle.mv_image.specs.Faults.{image_words, lengths_in}
use Rattle.mv_image.specs.Format.{AreNamed, IsIdentifier}
use Rattle.mv_image.proofs.PlaceLaws.{sum_below-more, sum_below-grows, owner-is, IsOwner, has_owner}
use Rattle.mv_image.proofs.WhatIsRead.{filled_from}
use Rattle.mv_image.proofs.RowsStand.{IsWhole, StandIn, behind, part_is, words_length, image_words_are}
use Rattle.mv_image.proofs.NameRules.{StandsInName, names_count, length_stands, starts_are, names_add_up, joined_split, name_byte_fits, fill_byte_fits, name_says, is_identifier}
use Rattle.mv_num.proofs.Lists.{index_left}

-- the names begin behind the words
names_from : (a : Fields) → AreWords (words_in a) → IsWhole a → 4 * words_end (image_words a) ≡ length (bytes_of (words_in a))
names_from a words w =
    let size : words_end (image_words a) ≡ length (words_in a) = ap words_end (image_words_are a words) ∙ words_length a (words_of (names_in a)) w in
    omega (arith, size, length-bytes_of (words_in a))

-- how many zeros fill up the names
abbrev fill : Fields → ℕ
fill a = filled (length (joined a.names)) - length (joined a.names)

pub spelling_length : (a : Fields) → AreWords (words_in a) → IsWhole a → name_bytes (image_words a) ≡ length (joined a.names) → length (spelling a) ≡ 4 * words_end (image_words a) + filled (name_bytes (image_words a))
unfolding spelling
spelling_length a words w n =
    let whole : filled (name_bytes (image_words a)) ≡ filled (length (joined a.names)) = ap filled n in
    omega (arith, whole, filled_from (length (joined a.names)), names_from a words w, length-append (bytes_of (words_in a)) (names_in a), length-append (joined a.names) (replicate (fill a) 0), length-replicate {A = ℕ} (fill a) 0)

-- a byte behind the words
byte_is : (a : Fields) (base j : ℕ) → base ≡ length (bytes_of (words_in a)) → slice_index (spelling a) (base + j) ≡ slice_index (names_in a) j
unfolding spelling
byte_is a base j e = behind (bytes_of (words_in a)) (names_in a) (base + j) j (omega (arith, e))

name_byte_is : (a : Fields) (base start j k : ℕ) (d : List ℕ) → base ≡ length (bytes_of (words_in a)) → start ≡ length (joined (take k a.names))
    → k < length a.names → start ≤ j → j < start + length (get_or a.names k d) → j < length (joined a.names)
    → slice_index (spelling a) (base + j) ≡ slice_index (get_or a.names k d) (j - start)
name_byte_is a base start j k d eb es hk from to within =
    let e : j ≡ length (joined (take k a.names)) + (j - start) = omega (arith, es, from) in
    byte_is a base j eb ∙ index_left (joined a.names) (replicate (fill a) 0) j within ∙ ap (slice_index (joined a.names)) e
    ∙ get_or-flat_map (λ (name : List ℕ). name) a.names k (j - start) d 0 hk (omega (arith, from, to))

name_is : (a : Fields) (base start k : ℕ) (d : List ℕ) → base ≡ length (bytes_of (words_in a)) → start ≡ length (joined (take k a.names)) → k < length a.names
    → slice_range (spelling a) (base + start) (base + (start + length (get_or a.names k d))) ≡ get_or a.names k d
unfolding spelling
name_is a base start k d eb es hk =
    let bytes : List ℕ = bytes_of (words_in a) in
    let first : List ℕ = joined (take k a.names) in
    let name : List ℕ = get_or a.names k d in
    let last : List ℕ = joined (drop (k + 1) a.names) in
    let zeros : List ℕ = replicate (fill a) 0 in
    let split : bytes ++ (joined a.names ++ zeros) ≡ (bytes ++ first) ++ (name ++ (last ++ zeros)) =
    ap (λ (x : List ℕ). bytes ++ (x ++ zeros)) (joined_split a.names k d hk) ∙ simp append_assoc in
    let front = length-append bytes first in
    ap (λ (x : List ℕ). slice_range x (base + start) (base + (start + length name))) split
    ∙ part_is (bytes ++ first) name (last ++ zeros) (base + start) (base + (start + length name)) (omega (arith, front, eb, es)) (omega (arith, front, eb, es))

fill_is : (a : Fields) (base j : ℕ) → base ≡ length (bytes_of (words_in a)) → length (joined a.names) ≤ j → j < filled (length (joined a.names)) → slice_index (spelling a) (base + j) ≡ 0
fill_is a base j eb from to =
    byte_is a base j eb ∙ behind (joined a.names) (replicate (fill a) 0) j (j - length (joined a.names)) (omega (arith, from))
    ∙ get_or-replicate (fill a) (j - length (joined a.names)) 0 0 (omega (arith, from, to))

-- a byte of a name, and the name that it is of
name_stands : (a : Fields) → AreWords (words_in a) → map length a.names ≡ lengths_in a → StandIn (image_words a) a → (j k : ℕ) (d : List ℕ) → k < length a.names
    → sum_below (name_length (image_words a)) k ≤ j → j < sum_below (name_length (image_words a)) k + length (get_or a.names k d) → StandsInName (image_words a) (spelling a) j k (get_or a.names k d)
name_stands a words n s j k d there from to =
    let ws : List ℕ = image_words a in
    let count : ℕ → ℕ = name_length ws in
    let c = s.counts in
    let size = length_stands ws a s n k d there in
    let all : names ws ≡ length a.names = omega (arith, c.switches, c.functions, c.pointers, c.targets, names_count a n) in
    let next = sum_below-more count k in
    let sum = names_add_up ws a s n in
    let grows = sum_below-grows count (k + 1) (names ws) (omega (arith, all, there)) in
    let within : j < name_bytes ws = omega (arith, to, size, next, grows, sum) in
    let base = names_from a words s.whole in
    let start = starts_are ws a s n k (omega (arith, there)) in
    record {
      within = within;
      own = owner-is count (names ws) k j (omega (arith, all, there)) from (λ lt. omega (arith, to, size, next));
      size = size;
      from = from;
      to = to;
      byte = name_byte_is a (4 * words_end ws) (sum_below count k) j k d base start there from to (omega (arith, within, c.names));
      whole = name_is a (4 * words_end ws) (sum_below count k) k d base start there;
    }

pub names_keep : (a : Fields) → AreWords (words_in a) → AreNamed a → StandIn (image_words a) a → (j : ℕ) → j < filled (name_bytes (image_words a)) → name_fits (image_words a) (spelling a) j ≡ true
names_keep a words named s j lt =
    let ws : List ℕ = image_words a in
    let n = named.lengths in
    let c = s.counts in
    let sum = names_add_up ws a s n in
    elim (cases_lt j (name_bytes ws)) [
      | inl within ↦
          let k : ℕ = owner (name_length ws) (names ws) j in
          let own : IsOwner (name_length ws) (names ws) k j = has_owner (name_length ws) (names ws) j (omega (arith, sum, within)) in
          let there : k < length a.names = omega (arith, own.there, c.switches, c.functions, c.pointers, c.targets, names_count a n) in
          let next : j < sum_below (name_length ws) k + length (get_or a.names k []) = omega (arith, own.next, sum_below-more (name_length ws) k, length_stands ws a s n k [] there) in
          name_byte_fits ws (spelling a) j k (get_or a.names k []) (name_stands a words n s j k [] there own.start next) (named.identifiers k [] there)
      | inr past ↦
          let full : filled (name_bytes ws) ≡ filled (length (joined a.names)) = ap filled c.names in
          fill_byte_fits ws (spelling a) j past (fill_is a (4 * words_end ws) j (names_from a words s.whole) (omega (arith, past, c.names)) (omega (arith, lt, full)))
    ]

-- names whose bytes keep their rules, and of which none is empty
pub names_are : (a : Fields) → AreWords (words_in a) → map length a.names ≡ lengths_in a → StandIn (image_words a) a → All (λ (name : List ℕ). 1 ≤ length name) a.names
    → ((j : ℕ) → j < name_bytes (image_words a) → name_fits (image_words a) (spelling a) j ≡ true) → All IsIdentifier a.names
names_are a words n s some keep k d lt =
    let ws : List ℕ = image_words a in
    let start : ℕ = sum_below (name_length ws) k in
    is_identifier (get_or a.names k d) start (some k d lt) (λ i hi. (
    let stands = name_stands a words n s (start + i) k d lt (omega arith) (omega (arith, hi)) in
    name_says ws (spelling a) (start + i) k (get_or a.names k d) stands (keep (start + i) stands.within)))
