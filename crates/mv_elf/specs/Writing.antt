-- The file of an image: text, data where there is any, and the note, each behind the program headers of all.
use Rattle.std.specs.Prelude.{ℕ, ◌+◌, ◌*◌, List, [], ◌∷◌, ◌++◌, length, ◌==◌, if◌then◌else◌}
use Rattle.mv_num.specs.Bytes.{bytes_of}
use Rattle.mv_num.specs.Regions.{text_start, data_start}
use Rattle.mv_image.specs.Spelling.{Fields}
use Rattle.mv_image.specs.Versions.{upgraded}
use Rattle.mv_elf.specs.Header.{header_size, program_size, magic, executable, riscv}
use Rattle.mv_elf.specs.Notes.{head_size, name, without_code}

-- two numbers of two bytes as a word
abbrev pub halves : ℕ → ℕ → ℕ
halves low high = low + 0x1_0000 * high

-- class, order of bytes and version are 1
abbrev pub header_words : ℕ → ℕ → List ℕ
header_words entry count =
    magic ∷ 0x0001_0101 ∷ 0 ∷ 0 ∷ halves executable riscv ∷ 1 ∷ entry ∷ header_size ∷ 0 ∷ 0 ∷ halves header_size program_size ∷ count ∷ 0 ∷ []

-- a program header: its physical address is its address, and it has as much memory as bytes
abbrev pub program_words : ℕ → ℕ → ℕ → ℕ → ℕ → List ℕ
program_words kind offset address size flags = kind ∷ offset ∷ address ∷ address ∷ size ∷ size ∷ flags ∷ 4 ∷ []

-- what stands in the note
abbrev pub note_of : Fields → List ℕ
note_of image = without_code (upgraded image)

-- how many program headers there are, and where the bytes of each part begin

abbrev pub count_in : Fields → ℕ
count_in image = if length image.globals == 0 then 2 else 3

abbrev pub text_at : Fields → ℕ
text_at image = header_size + program_size * count_in image

abbrev pub data_at : Fields → ℕ
data_at image = text_at image + 4 * length image.text

abbrev pub note_at : Fields → ℕ
note_at image = data_at image + 4 * length image.globals

-- flags 4, 2 and 1 are for what may be read, written and executed
abbrev pub text_program : Fields → List ℕ
text_program image = program_words 1 (text_at image) text_start (4 * length image.text) 7

abbrev pub data_program : Fields → List ℕ
data_program image = if length image.globals == 0 then [] else program_words 1 (data_at image) data_start (4 * length image.globals) 6

abbrev pub note_program : Fields → List ℕ
note_program image = program_words 4 (note_at image) 0 (head_size + length (note_of image)) 4

abbrev pub note_head : Fields → List ℕ
note_head image = 4 ∷ length (note_of image) ∷ 1 ∷ name ∷ []

-- all words up to what stands in the note
unfoldable pub front_words : Fields → List ℕ
front_words image =
    header_words image.entry (count_in image) ++ text_program image ++ data_program image ++ note_program image ++ image.text ++ image.globals ++ note_head image

unfoldable pub file_of : Fields → List ℕ
file_of image = bytes_of (front_words image) ++ note_of image
