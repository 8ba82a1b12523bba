-- The segments of a file, each given by a program header, and which of them are right.
use Rattle.std.specs.Prelude.{ℕ, zero, suc, ◌≡◌, ◌+◌, ◌*◌, ◌<◌, max, List, length, Bool, true, false, ◌&&◌, ◌||◌, ◌==◌, not, nat_lt, nat_le, if◌then◌else◌}
use Rattle.mv_num.specs.Regions.{text_start, text_end, data_start, data_limit}
use Rattle.mv_elf.specs.declared.segment.Region.{Region}
use Rattle.mv_elf.specs.declared.segment.Region.TheVariants.{Text, Data}
use Rattle.mv_elf.specs.declared.segment.Segment.{Segment}
use Rattle.mv_elf.specs.Numbers.{half_at, word_at}
use Rattle.mv_elf.specs.Header.{program_size, programs_at, count_at}

-- where text and data may stand

abbrev pub region_start : Region → ℕ
region_start Text = text_start
region_start Data = data_start

abbrev pub region_end : Region → ℕ
region_end Text = text_end
region_end Data = data_start + 4 * data_limit

-- The program header at an offset: its type, where the bytes of its segment stand in the file and in memory, and how many there are in each.
unfoldable pub segment_at : List ℕ → ℕ → Segment
segment_at bytes at = record {
  kind = word_at bytes at;
  offset = word_at bytes (at + 4);
  address = word_at bytes (at + 8);
  file_size = word_at bytes (at + 16);
  memory_size = word_at bytes (at + 20);
}

-- the program headers of a file

abbrev pub count_of : List ℕ → ℕ
count_of bytes = half_at bytes count_at

abbrev pub program_at : List ℕ → ℕ → ℕ
program_at bytes i = word_at bytes programs_at + program_size * i

abbrev pub segment_of : List ℕ → ℕ → Segment
segment_of bytes i = segment_at bytes (program_at bytes i)

-- A segment of type 1 is loaded, where it has memory, and one of type 4 is a note.
unfoldable pub is_loaded : Segment → Bool
is_loaded s = s.kind == 1 && nat_lt 0 s.memory_size

abbrev pub is_note : Segment → Bool
is_note s = s.kind == 4

-- Those of both types have their bytes in the file.
unfoldable pub is_in_file : List ℕ → Segment → Bool
is_in_file bytes s = not (s.kind == 1 || s.kind == 4) || nat_le (s.offset + s.file_size) (length bytes)

-- A segment is loaded into a region.
unfoldable pub lies_in : Region → Segment → Bool
lies_in region s = is_loaded s && nat_le (region_start region) s.address && nat_le (s.address + s.memory_size) (region_end region)

-- how far in memory those of the first i segments reach for which a test holds
unfoldable pub reach : (Segment → Bool) → List ℕ → ℕ → ℕ
reach test bytes zero = 0
reach test bytes (suc i) =
    let s = segment_of bytes i in
    if test s then max (reach test bytes i) (s.address + s.memory_size) else reach test bytes i

-- The bytes of a program header are there, and those of its segment.
unfoldable pub is_there : List ℕ → ℕ → Bool
is_there bytes i = nat_le (program_at bytes i + program_size) (length bytes) && is_in_file bytes (segment_of bytes i)

-- A loaded segment has as much memory as it has bytes at least, lies in a region, and begins behind those before it.
unfoldable pub is_right : ℕ → Segment → Bool
is_right reached s = not (is_loaded s) || (nat_le s.file_size s.memory_size && (lies_in Text s || lies_in Data s) && nat_le reached s.address)

abbrev pub segment_fits : List ℕ → ℕ → Bool
segment_fits bytes i = is_right (reach is_loaded bytes i) (segment_of bytes i)

-- The first n segments are there and right.
pub record AreRight (bytes : List ℕ) (n : ℕ) : Type 0 where
  pub there : (i : ℕ) → i < n → is_there bytes i ≡ true
  pub right : (i : ℕ) → i < n → segment_fits bytes i ≡ true

-- A segment is the first that isn't there.
pub record IsMissing (bytes : List ℕ) (i : ℕ) : Type 0 where
  pub within : i < count_of bytes
  pub before : AreRight bytes i
  pub missing : is_there bytes i ≡ false

-- A segment is there, and is the first that isn't right.
pub record IsWrong (bytes : List ℕ) (i : ℕ) : Type 0 where
  pub within : i < count_of bytes
  pub before : AreRight bytes i
  pub there : is_there bytes i ≡ true
  pub wrong : segment_fits bytes i ≡ false
