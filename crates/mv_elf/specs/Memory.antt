-- What a file puts into memory: the bytes of its loaded segments at their addresses, and 0 elsewhere.
use Rattle.std.specs.Prelude.{ℕ, zero, suc, ◌≡◌, ◌+◌, ◌*◌, ◌-◌, ◌%◌, ◌<◌, List, map, slice_index, Bool, true, ◌&&◌, ◌==◌, nat_lt, nat_le, if◌then◌else◌}
use Rattle.std.specs.Int.{div_ceil}
use Rattle.std.specs.List.{range_with_len}
use Rattle.mv_num.specs.Bytes.{words_of}
use Rattle.mv_num.specs.Regions.{text_start}
use Rattle.mv_elf.specs.declared.segment.Region.{Region}
use Rattle.mv_elf.specs.declared.segment.Region.TheVariants.{Text, Data}
use Rattle.mv_elf.specs.declared.segment.Segment.{Segment}
use Rattle.mv_elf.specs.Numbers.{word_at}
use Rattle.mv_elf.specs.Header.{HasHeader, entry_at}
use Rattle.mv_elf.specs.Segments.{region_start, count_of, segment_of, is_loaded, lies_in, reach, AreRight}

-- A region goes up to the end of its last segment, rounded up to a word.
unfoldable pub words_in : List ℕ → Region → ℕ
words_in bytes region = div_ceil (reach (lies_in region) bytes (count_of bytes) - region_start region) 4

-- A segment has a byte of the file for an address.
unfoldable pub covers : Segment → ℕ → Bool
covers s a = is_loaded s && nat_le s.address a && nat_lt a (s.address + s.file_size)

-- the byte at an address when a segment is loaded over what stands there
unfoldable pub loaded_over : List ℕ → Segment → ℕ → ℕ → ℕ
loaded_over bytes s a under = if covers s a then slice_index bytes (s.offset + (a - s.address)) else under

-- the byte at an address when the first i segments are loaded
unfoldable pub byte_of : List ℕ → ℕ → ℕ → ℕ
byte_of bytes zero a = 0
byte_of bytes (suc i) a = loaded_over bytes (segment_of bytes i) a (byte_of bytes i a)

-- the bytes of a region when all are loaded
unfoldable pub bytes_in : List ℕ → Region → List ℕ
bytes_in bytes region = map (byte_of bytes (count_of bytes)) (range_with_len (region_start region) (4 * words_in bytes region))

abbrev pub loaded_in : List ℕ → Region → List ℕ
loaded_in bytes region = words_of (bytes_in bytes region)

-- the words of text and of data that a file loads

abbrev pub text_of : List ℕ → List ℕ
text_of bytes = loaded_in bytes Text

abbrev pub data_of : List ℕ → List ℕ
data_of bytes = loaded_in bytes Data

abbrev pub entry_of : List ℕ → ℕ
entry_of bytes = word_at bytes entry_at

-- A run begins at a word of the text.
unfoldable pub enters_text : List ℕ → Bool
enters_text bytes = entry_of bytes % 4 == 0 && nat_le text_start (entry_of bytes) && nat_lt (entry_of bytes) (text_start + 4 * words_in bytes Text)

-- Header and segments are right, there is text, and a run begins in it.
pub record IsProgram (bytes : List ℕ) : Type 0 where
  pub header : HasHeader bytes
  pub segments : AreRight bytes (count_of bytes)
  pub some_text : 0 < words_in bytes Text
  pub entry : enters_text bytes ≡ true
