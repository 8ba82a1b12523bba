-- A slot that stands in text is a site of the function whose entry it calls, and one of four words a pointer site.
use Rattle.std.proofs.Common.{◌≡◌, ℕ, zero, suc, ◌+◌, ◌-◌, ◌*◌, ◌/◌, ◌%◌, ◌^◌, ◌<◌, ◌≤◌, List, [], ◌∷◌, length, slice_index, Some, false, ltb, pos, unsigned_abs, ◌+ℤ◌, refl, sym, ap, ◌∙◌, arith}
use Rattle.std.specs.Prelude.{slice_index_or}
use Rattle.std.proofs.lemmas.Bool.{le-ltb}
use Rattle.std.proofs.lemmas.Int.{ints, int_rem_euclid_is}
use Rattle.std.proofs.lemmas.Option.{get_or_from_slice_get}
use Rattle.mv_isa.specs.declared.instr.Instr.TheVariants.{Lui, Lw, Jalr}
use Rattle.mv_isa.specs.declared.labelled.Line.{Line}
use Rattle.mv_isa.specs.Formats.{low_in, i_word, u_word}
use Rattle.mv_isa.specs.Encoding.{encode}
use Rattle.mv_isa.specs.Code.{IsPlace, IsSizing, nop, upper_part, lower_part, text_start, line_at, least_words, offset, address}
use Rattle.mv_isa.specs.Standing.{SlotStands, PointStands, word_at}
use Rattle.mv_asm.proofs.Offsets.{offset-nil, offset-mono}
use Rattle.mv_descriptors.specs.declared.rows.FunctionRow.{FunctionRow}
use Rattle.mv_descriptors.specs.declared.rows.SiteRow.{SiteRow}
use Rattle.mv_descriptors.specs.declared.rows.PointerRow.{PointerRow}
use Rattle.mv_descriptors.specs.declared.rows.PointRow.{PointRow}
use Rattle.mv_image.specs.Spelling.{Fields}
use Rattle.mv_image.specs.WellFormed.{IsInText, FitsSite, FitsPoint}
use Rattle.mv_image.specs.Jumps as image
use Rattle.mv_isa.proofs.Common.{offset-cons}
use Rattle.mv_linker.proofs.Jumps.{jump_is}

nop_is : encode nop ≡ image.nop
unfolding encode i_word low_in
nop_is = refl

-- the word of text at an address
text_word_is : (words : List ℕ) (a w : ℕ) → text_start ≤ a → word_at text_start words a ≡ Some w → slice_index words ((a - text_start) / 4) ≡ w
text_word_is words a w from e =
    let t : ltb a text_start ≡ false = le-ltb _ _ from in
    get_or_from_slice_get words ((a - text_start) / 4) w 0 (rw t at e)

pub slot_is_site : (image : Fields) (row : SiteRow) (end to : ℕ) → IsInText image row.address → IsInText image (row.address + 4) → row.function < length image.functions → IsPlace row.address → IsPlace to
    → ((d : FunctionRow) → (slice_index_or image.functions row.function d).entry ≡ to) → SlotStands (word_at text_start image.text) row.address end to → FitsSite image row
slot_is_site a row end to first second there from place entry stands = record {
  address = first;
  next = second;
  function = there;
  call = λ d. text_word_is a.text row.address _ first.not_before stands.call.word ∙ sym (jump_is 1 row.address to from place) ∙ ap (image.jump 1 row.address) (sym (entry d));
  pad = text_word_is a.text (row.address + 4) _ second.not_before stands.rest.word ∙ nop_is;
}

-- ---- slots of four words

upper_is : (pointer : ℕ) → encode (Lui 5 (pos (upper_part pointer % 1048576))) ≡ (pointer + 2048) / 4096 % 1048576 * 4096 + 5 * 128 + 0x37
unfolding encode u_word
upper_is pointer = omega arith

low_part : (pointer : ℕ) → low_in (2 ^ 12) (lower_part pointer) ≡ pointer % 4096
unfolding low_in
low_part pointer =
    let e : lower_part pointer +ℤ pos (upper_part pointer * 2 ^ 12) ≡ pos pointer = omega (arith, ints) in
    ap unsigned_abs (int_rem_euclid_is (lower_part pointer) (pos (2 ^ 12)) (2 ^ 12) (upper_part pointer) pointer (omega arith) refl e)

load_is : (pointer : ℕ) → encode (Lw 5 5 (lower_part pointer)) ≡ pointer % 4096 * 1048576 + 5 * 32768 + 2 * 4096 + 5 * 128 + 0x03
unfolding encode i_word
load_is pointer = omega (arith, low_part pointer)

call_is : encode (Jalr 1 5 (pos 0)) ≡ 0x000280E7
unfolding encode i_word low_in
call_is = refl

module _ (a : Fields) (row : PointRow) (end pointer : ℕ) (stands : PointStands (word_at text_start a.text) row.address end a.check pointer)
    (from : text_start ≤ row.address) (test : IsPlace (row.address + 8)) (check : IsPlace a.check) where
  abbrev word : ℕ → ℕ
  word b = slice_index a.text ((b - text_start) / 4)

  point_words : (j : ℕ) → j < 4 → word (row.address + 4 * j) ≡ slice_index (image.slot_words a.check row.address pointer) j
  unfolding image.slot_words
  point_words zero lt = let at : row.address + 4 * 0 ≡ row.address = omega arith in ap word at ∙ text_word_is a.text row.address _ from stands.upper.word ∙ upper_is pointer
  point_words (suc zero) lt = text_word_is a.text (row.address + 4) _ (omega arith) stands.load.word ∙ load_is pointer
  point_words (suc (suc zero)) lt = text_word_is a.text (row.address + 8) _ (omega arith) stands.test.word ∙ sym (jump_is 6 (row.address + 8) a.check test check)
  point_words (suc (suc (suc zero))) lt = text_word_is a.text (row.address + 12) _ (omega arith) stands.call.word ∙ call_is
  point_words (suc (suc (suc (suc j)))) lt = absurd (omega arith)

pub slot_is_point : (a : Fields) (row : PointRow) (end pointer : ℕ) → IsInText a row.address → IsInText a (row.address + 12) → row.pointer < length a.pointers → IsPlace (row.address + 8) → IsPlace a.check
    → ((d : PointerRow) → (slice_index_or a.pointers row.pointer d).address ≡ pointer) → PointStands (word_at text_start a.text) row.address end a.check pointer → FitsPoint a row
slot_is_point a row end pointer first last there test check address stands = record {
  address = first;
  last = last;
  pointer = there;
  slot = λ j d lt. point_words a row end pointer stands first.not_before test check j lt ∙ ap (λ p. slice_index (image.slot_words a.check row.address p) j) (sym (address d));
}

-- ---- where slots stand

pub offset_next : (sizing : List ℕ) (k : ℕ) → offset sizing (suc k) ≡ offset sizing k + slice_index sizing k
offset_next [] k = omega (arith, offset-nil (suc k), offset-nil k)
offset_next (x ∷ xs) zero = omega (arith, offset-cons x xs 0)
offset_next (x ∷ xs) (suc k) = omega (arith, offset-cons x xs (suc k), offset-cons x xs k, offset_next xs k)

-- what stands behind a line stands as many words on as the line has, or more: sites ascend by 8, and pointer sites by 16
pub behind_line : (base : ℕ) (lines : List Line) (sizing : List ℕ) (k n j : ℕ) → IsSizing lines sizing → k < length lines → n ≤ least_words (line_at lines k) → k < j → address base sizing k + 4 * n ≤ address base sizing j
behind_line base lines sizing k n j sizes lt wide later =
    omega (arith, wide, sizes.at_least k lt, offset_next sizing k, offset-mono sizing (suc k) j (omega arith))

-- what stands before a line that has words and isn't behind a slot stands before the slot: an entry whose function begins with a word is in no site
pub before_slot : (base : ℕ) (lines : List Line) (sizing : List ℕ) (i j k : ℕ) → IsSizing lines sizing → i ≤ j → j < k → j < length lines → 1 ≤ least_words (line_at lines j) → address base sizing i < address base sizing k
before_slot base lines sizing i j k sizes le lt there some =
    omega (arith, some, sizes.at_least j there, offset_next sizing j, offset-mono sizing i j le, offset-mono sizing (suc j) k (omega arith))
