-- The note of an image: what its spelling has beside text and data.
use Rattle.std.specs.Prelude.{ℕ, ◌≡◌, ◌+◌, ◌*◌, ◌<◌, ◌≤◌, ◌++◌, List, length, take, drop, slice_range, Bool, true, false, ◌&&◌, ◌==◌, nat_le}
use Rattle.mv_num.specs.Bytes.{bytes_of}
use Rattle.mv_image.specs.Spelling.{Fields, spelling}
use Rattle.mv_image.specs.Faults.{Spells}
use Rattle.mv_elf.specs.declared.segment.Segment.{Segment}
use Rattle.mv_elf.specs.Numbers.{word_at}
use Rattle.mv_elf.specs.Segments.{count_of, segment_of, is_note}
use Rattle.mv_elf.specs.Memory.{text_of, data_of, entry_of}

-- the words at which a note begins: the sizes of its name and of its content, its type, and its name
abbrev pub head_size : ℕ
head_size = 16

-- the name, the bytes "MVI" and 0
abbrev pub name : ℕ
name = 0x0049564D

-- the bytes of the header of an image of version 2, behind which text stands
abbrev pub front_size : ℕ
front_size = 64

-- The words of an image's note begin at an offset.
unfoldable pub begins : List ℕ → ℕ → Bool
begins bytes at = word_at bytes at == 4 && word_at bytes (at + 8) == 1 && word_at bytes (at + 12) == name

-- A segment begins as an image's note does.
unfoldable pub is_ours : List ℕ → Segment → Bool
is_ours bytes s = is_note s && nat_le head_size s.file_size && begins bytes s.offset

abbrev pub HasNoNote : List ℕ → Type 0
HasNoNote bytes = (i : ℕ) → i < count_of bytes → is_ours bytes (segment_of bytes i) ≡ false

-- A segment is the first that does.
pub record IsNoteOf (bytes : List ℕ) (note : Segment) (i : ℕ) : Type 0 where
  pub within : i < count_of bytes
  pub is : note ≡ segment_of bytes i
  pub ours : is_ours bytes note ≡ true
  pub before : (k : ℕ) → k < i → is_ours bytes (segment_of bytes k) ≡ false

abbrev pub content_size : List ℕ → Segment → ℕ
content_size bytes note = word_at bytes (note.offset + 4)

abbrev pub content_of : List ℕ → Segment → List ℕ
content_of bytes note = slice_range bytes (note.offset + head_size) (note.offset + head_size + content_size bytes note)

-- an image of version 2 with an entry, and with so many words of text and of data
abbrev pub is_image_of : Fields → ℕ → ℕ → ℕ → Bool
is_image_of image entry text globals = image.version == 2 && image.entry == entry && length image.text == text && length image.globals == globals

-- the bytes of an image when its text and data are put in where they were taken out
unfoldable pub put_in : List ℕ → List ℕ → List ℕ → List ℕ
put_in content text globals = take front_size content ++ bytes_of text ++ bytes_of globals ++ drop front_size content

-- what is left of the spelling of an image when its text and data are taken out
unfoldable pub without_code : Fields → List ℕ
without_code image = take front_size (spelling image) ++ drop (front_size + 4 * (length image.text + length image.globals)) (spelling image)

-- The note is whole, and with the loaded text and data in their places it spells an image of version 2 with these, which begins where the file does.
pub record Gives (bytes : List ℕ) (note : Segment) (image : Fields) : Type 0 where
  pub inside : head_size + content_size bytes note ≤ note.file_size
  pub whole : front_size ≤ content_size bytes note
  pub spelled : Spells (put_in (content_of bytes note) (text_of bytes) (data_of bytes)) image
  pub version : image.version ≡ 2
  pub entry : image.entry ≡ entry_of bytes
  pub text : image.text ≡ text_of bytes
  pub globals : image.globals ≡ data_of bytes
