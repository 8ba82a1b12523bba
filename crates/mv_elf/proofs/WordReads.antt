-- Numbers that are read of the bytes of words.
use Rattle.std.proofs.Common.{◌≡◌, ◌<◌, ◌≤◌, ◌+◌, ◌*◌, ◌/◌, ◌%◌, ◌∙◌, ◌++◌, ◌∷◌, [], ℕ, zero, suc, List, length, slice_index, ap, refl, arith}
use Rattle.std.proofs.lemmas.List.{get_or-append-add}
use Rattle.mv_num.specs.Bytes.{bytes_of, AreWords}
use Rattle.mv_num.proofs.ByteLaws.{bytes-number}
use Rattle.mv_elf.specs.declared.segment.Segment.{Segment}
use Rattle.mv_elf.specs.Numbers.{half_at, word_at}
use Rattle.mv_elf.specs.Segments.{segment_at}

-- ---- words that are put together

pub no_words : AreWords []
no_words i = omega arith

-- ---- a byte of a word

-- the four bytes from place 4 * j on
pub record HasBytes (bytes : List ℕ) (at w : ℕ) : Type 0 where
  pub first : slice_index bytes at ≡ w % 256
  pub second : slice_index bytes (suc at) ≡ w / 256 % 256
  pub third : slice_index bytes (suc (suc at)) ≡ w / 65536 % 256
  pub fourth : slice_index bytes (suc (suc (suc at))) ≡ w / 16777216 % 256

pub bytes_are : (ws rest : List ℕ) (j at : ℕ) → at ≡ 4 * j → j < length ws → HasBytes (bytes_of ws ++ rest) at (slice_index ws j)
bytes_are [] rest j at e lt = absurd (omega arith)
bytes_are (w ∷ ws) rest zero at e lt = let none : at ≡ 0 = omega (arith, e) in rw none (record { first = refl; second = refl; third = refl; fourth = refl })
bytes_are (w ∷ ws) rest (suc j) at e lt =
    let h = bytes_are ws rest j (4 * j) refl (omega (arith, lt)) in
    let more : at ≡ suc (suc (suc (suc (4 * j)))) = omega (arith, e) in
    rw more (record { first = h.first; second = h.second; third = h.third; fourth = h.fourth })

-- ---- numbers of two and of four bytes

pub word_read : (ws rest : List ℕ) (j at w : ℕ) → at ≡ 4 * j → j < length ws → AreWords ws → slice_index ws j ≡ w → word_at (bytes_of ws ++ rest) at ≡ w
unfolding word_at
word_read ws rest j at w e lt fits is =
    let h = bytes_are ws rest j at e lt in
    omega (arith, h.first, h.second, h.third, h.fourth, bytes-number (slice_index ws j) (fits j), is)

pub low_read : (ws rest : List ℕ) (j at w : ℕ) → at ≡ 4 * j → j < length ws → slice_index ws j % 65536 ≡ w → half_at (bytes_of ws ++ rest) at ≡ w
unfolding half_at
low_read ws rest j at w e lt is =
    let h = bytes_are ws rest j at e lt in
    omega (arith, h.first, h.second, is)

pub high_read : (ws rest : List ℕ) (j at w : ℕ) → at ≡ 4 * j + 2 → j < length ws → slice_index ws j / 65536 % 65536 ≡ w → half_at (bytes_of ws ++ rest) at ≡ w
unfolding half_at
high_read ws rest j at w e lt is =
    let h = bytes_are ws rest j (4 * j) refl lt in
    let third : slice_index (bytes_of ws ++ rest) at ≡ slice_index (bytes_of ws ++ rest) (suc (suc (4 * j))) = ap (slice_index (bytes_of ws ++ rest)) (omega (arith, e)) in
    let fourth : slice_index (bytes_of ws ++ rest) (suc at) ≡ slice_index (bytes_of ws ++ rest) (suc (suc (suc (4 * j)))) = ap (slice_index (bytes_of ws ++ rest)) (omega (arith, e)) in
    omega (arith, third, fourth, h.third, h.fourth, is)

-- ---- a part of a list

pub in_part : (front part back : List ℕ) (i k : ℕ) → i ≡ length front + k → slice_index (front ++ (part ++ back)) i ≡ slice_index (part ++ back) k
in_part front part back i k e = ap (slice_index (front ++ (part ++ back))) e ∙ get_or-append-add front (part ++ back) k 0

-- ---- a program header

-- The words from place p on are those of a segment.
pub record HasProgram (ws : List ℕ) (p : ℕ) (s : Segment) : Type 0 where
  pub there : p + 8 ≤ length ws
  pub kind : slice_index ws p ≡ s.kind
  pub offset : slice_index ws (p + 1) ≡ s.offset
  pub address : slice_index ws (p + 2) ≡ s.address
  pub file_size : slice_index ws (p + 4) ≡ s.file_size
  pub memory_size : slice_index ws (p + 5) ≡ s.memory_size

pub segment_read : (ws rest : List ℕ) (at p : ℕ) (s : Segment) → at ≡ 4 * p → AreWords ws → HasProgram ws p s → segment_at (bytes_of ws ++ rest) at ≡ s
unfolding segment_at
segment_read ws rest at p s e fits has =
    let kind = word_read ws rest p at s.kind e (omega (arith, has.there)) fits has.kind in
    let offset = word_read ws rest (p + 1) (at + 4) s.offset (omega (arith, e)) (omega (arith, has.there)) fits has.offset in
    let address = word_read ws rest (p + 2) (at + 8) s.address (omega (arith, e)) (omega (arith, has.there)) fits has.address in
    let file_size = word_read ws rest (p + 4) (at + 16) s.file_size (omega (arith, e)) (omega (arith, has.there)) fits has.file_size in
    let memory_size = word_read ws rest (p + 5) (at + 20) s.memory_size (omega (arith, e)) (omega (arith, has.there)) fits has.memory_size in
    rw (kind, offset, address, file_size, memory_size) refl
