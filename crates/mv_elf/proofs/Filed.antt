-- What stands where in the file of an image.
use Rattle.std.proofs.Common.{◌≡◌, ◌<◌, ◌≤◌, ◌+◌, ◌-◌, ◌*◌, ◌%◌, ◌^◌, ◌∙◌, ◌⊎◌, ◌++◌, ◌∷◌, [], ℕ, List, length, slice_index, slice_range, take, drop, true, false, ◌==◌, ap, sym, subst, refl, arith, inl, inr, append_assoc}
use Rattle.std.proofs.lemmas.Bool.{cases_Bool, cases_lt, cond-true, cond-false, cond_both, eqb-true, eqb-false, eq-eqb, and_from}
use Rattle.std.proofs.lemmas.List.{length-append, drop_at, take_all, get_or_append_left, get_or-append-add}
use Rattle.mv_num.specs.Bytes.{bytes_of, AreWords}
use Rattle.mv_num.specs.Regions.{text_start, text_limit, data_start, data_limit}
use Rattle.mv_num.proofs.ByteLaws.{bytes_of-append, length-bytes_of}
use Rattle.mv_image.specs.Spelling.{Fields}
use Rattle.mv_image.proofs.FieldWords.{word_more, words_append}
use Rattle.mv_elf.specs.declared.segment.Segment.{Segment}
use Rattle.mv_elf.specs.Numbers.{half_at, word_at}
use Rattle.mv_elf.specs.Header.{magic, header_size, program_size, executable, riscv, programs_at, entry_at, HasHeader}
use Rattle.mv_elf.specs.Segments.{count_of, program_at, segment_of}
use Rattle.mv_elf.specs.Notes.{head_size, name, begins}
use Rattle.mv_elf.specs.Writing.{halves, header_words, program_words, note_of, count_in, text_at, data_at, note_at, text_program, data_program, note_program, note_head, front_words, file_of}
use Rattle.mv_elf.proofs.WordReads.{no_words, word_read, low_read, in_part, HasProgram, segment_read}
use Rattle.mv_elf.proofs.HeaderHas.{header_has}

-- What is known of an image: its numbers and the bytes of its note aren't too large for a file.
pub record IsSmall (image : Fields) : Type 0 where
  pub entry : image.entry < 2 ^ 32
  pub some_text : 1 ≤ length image.text
  pub text : length image.text ≤ text_limit
  pub globals : length image.globals ≤ data_limit
  pub note : length (note_of image) < 2 ^ 24
  pub text_words : AreWords image.text
  pub globals_words : AreWords image.globals

-- ---- with data and without

pub record HasNoData (image : Fields) : Type 0 where
  pub none : length image.globals ≡ 0
  pub count : count_in image ≡ 2
  pub program : data_program image ≡ []

pub record HasData (image : Fields) : Type 0 where
  pub some : 0 < length image.globals
  pub count : count_in image ≡ 3
  pub program : data_program image ≡ program_words 1 (data_at image) data_start (4 * length image.globals) 6

not_none : (n : ℕ) → (n == 0) ≡ false → 0 < n
not_none n e =
    elim (cases_lt 0 n) [
      | inl some ↦ some
      | inr none ↦ absurd (eqb-false n 0 e (omega (arith, none)))
    ]

pub counted : (image : Fields) → HasNoData image ⊎ HasData image
counted image =
    elim (cases_Bool (length image.globals == 0)) [
      | inl e ↦ inl (record { none = eqb-true _ _ e; count = cond-true {A = ℕ} _ 2 3 e; program = cond-true {A = List ℕ} _ [] (program_words 1 (data_at image) data_start (4 * length image.globals) 6) e })
      | inr e ↦ inr (record { some = not_none _ e; count = cond-false {A = ℕ} _ 2 3 e; program = cond-false {A = List ℕ} _ [] (program_words 1 (data_at image) data_start (4 * length image.globals) 6) e })
    ]

pub at_least : (image : Fields) → 2 ≤ count_in image
at_least image =
    elim (counted image) [
      | inl two ↦ omega (arith, two.count)
      | inr three ↦ omega (arith, three.count)
    ]

pub at_most : (image : Fields) → count_in image ≤ 3
at_most image =
    elim (counted image) [
      | inl two ↦ omega (arith, two.count)
      | inr three ↦ omega (arith, three.count)
    ]

-- ---- the words

-- all words, where those of the program header of data are given
abbrev words_with : Fields → List ℕ → List ℕ
words_with image data_words =
    header_words image.entry (count_in image) ++ text_program image ++ data_words ++ note_program image ++ image.text ++ image.globals ++ note_head image

words_are : (image : Fields) → front_words image ≡ words_with image (data_program image)
unfolding front_words
words_are image = refl

-- the words before text
headers : Fields → List ℕ
headers image = header_words image.entry (count_in image) ++ text_program image ++ data_program image ++ note_program image

words_in_parts : (image : Fields) → front_words image ≡ headers image ++ (image.text ++ (image.globals ++ note_head image))
unfolding front_words headers
words_in_parts image = simp append_assoc

headers_length : (image : Fields) → 4 * length (headers image) ≡ text_at image
unfolding headers
headers_length image =
    let parts = length-append (data_program image) (note_program image) in
    elim (counted image) [
      | inl two ↦ let none : length (data_program image) ≡ 0 = ap length two.program in omega (arith, parts, none, two.count)
      | inr three ↦ let some : length (data_program image) ≡ 8 = ap length three.program in omega (arith, parts, some, three.count)
    ]

words_length : (image : Fields) → 4 * length (front_words image) ≡ note_at image + 16
words_length image =
    let l : List ℕ = image.text ++ (image.globals ++ note_head image) in
    omega (arith, ap length (words_in_parts image), length-append (headers image) l, length-append image.text (image.globals ++ note_head image), length-append image.globals (note_head image), headers_length image)

program_fits : (kind offset address size flags : ℕ) → kind < 2 ^ 32 → offset < 2 ^ 32 → address < 2 ^ 32 → size < 2 ^ 32 → flags < 2 ^ 32 → AreWords (program_words kind offset address size flags)
program_fits kind offset address size flags k o a s f =
    let from_7 : AreWords (4 ∷ []) = word_more 4 [] (omega arith) no_words in
    let from_6 : AreWords (flags ∷ 4 ∷ []) = word_more flags (4 ∷ []) f from_7 in
    let from_5 : AreWords (size ∷ flags ∷ 4 ∷ []) = word_more size (flags ∷ 4 ∷ []) s from_6 in
    let from_4 : AreWords (size ∷ size ∷ flags ∷ 4 ∷ []) = word_more size (size ∷ flags ∷ 4 ∷ []) s from_5 in
    let from_3 : AreWords (address ∷ size ∷ size ∷ flags ∷ 4 ∷ []) = word_more address (size ∷ size ∷ flags ∷ 4 ∷ []) a from_4 in
    let from_2 : AreWords (address ∷ address ∷ size ∷ size ∷ flags ∷ 4 ∷ []) = word_more address (address ∷ size ∷ size ∷ flags ∷ 4 ∷ []) a from_3 in
    let from_1 : AreWords (offset ∷ address ∷ address ∷ size ∷ size ∷ flags ∷ 4 ∷ []) = word_more offset (address ∷ address ∷ size ∷ size ∷ flags ∷ 4 ∷ []) o from_2 in
    word_more kind (offset ∷ address ∷ address ∷ size ∷ size ∷ flags ∷ 4 ∷ []) k from_1

header_fits : (entry count : ℕ) → entry < 2 ^ 32 → count ≤ 3 → AreWords (header_words entry count)
header_fits entry count e c =
    let from_12 : AreWords (0 ∷ []) = word_more 0 [] (omega arith) no_words in
    let from_11 : AreWords (count ∷ 0 ∷ []) = word_more count (0 ∷ []) (omega (arith, c)) from_12 in
    let from_10 : AreWords (halves header_size program_size ∷ count ∷ 0 ∷ []) = word_more (halves header_size program_size) (count ∷ 0 ∷ []) (omega arith) from_11 in
    let from_9 : AreWords (0 ∷ halves header_size program_size ∷ count ∷ 0 ∷ []) = word_more 0 (halves header_size program_size ∷ count ∷ 0 ∷ []) (omega arith) from_10 in
    let from_8 : AreWords (0 ∷ 0 ∷ halves header_size program_size ∷ count ∷ 0 ∷ []) = word_more 0 (0 ∷ halves header_size program_size ∷ count ∷ 0 ∷ []) (omega arith) from_9 in
    let from_7 : AreWords (header_size ∷ 0 ∷ 0 ∷ halves header_size program_size ∷ count ∷ 0 ∷ []) = word_more header_size (0 ∷ 0 ∷ halves header_size program_size ∷ count ∷ 0 ∷ []) (omega arith) from_8 in
    let from_6 : AreWords (entry ∷ header_size ∷ 0 ∷ 0 ∷ halves header_size program_size ∷ count ∷ 0 ∷ []) = word_more entry (header_size ∷ 0 ∷ 0 ∷ halves header_size program_size ∷ count ∷ 0 ∷ []) e from_7 in
    let from_5 : AreWords (1 ∷ entry ∷ header_size ∷ 0 ∷ 0 ∷ halves header_size program_size ∷ count ∷ 0 ∷ []) = word_more 1 (entry ∷ header_size ∷ 0 ∷ 0 ∷ halves header_size program_size ∷ count ∷ 0 ∷ []) (omega arith) from_6 in
    let from_4 : AreWords (halves executable riscv ∷ 1 ∷ entry ∷ header_size ∷ 0 ∷ 0 ∷ halves header_size program_size ∷ count ∷ 0 ∷ []) =
    word_more (halves executable riscv) (1 ∷ entry ∷ header_size ∷ 0 ∷ 0 ∷ halves header_size program_size ∷ count ∷ 0 ∷ []) (omega arith) from_5 in
    let from_3 : AreWords (0 ∷ halves executable riscv ∷ 1 ∷ entry ∷ header_size ∷ 0 ∷ 0 ∷ halves header_size program_size ∷ count ∷ 0 ∷ []) =
    word_more 0 (halves executable riscv ∷ 1 ∷ entry ∷ header_size ∷ 0 ∷ 0 ∷ halves header_size program_size ∷ count ∷ 0 ∷ []) (omega arith) from_4 in
    let from_2 : AreWords (0 ∷ 0 ∷ halves executable riscv ∷ 1 ∷ entry ∷ header_size ∷ 0 ∷ 0 ∷ halves header_size program_size ∷ count ∷ 0 ∷ []) =
    word_more 0 (0 ∷ halves executable riscv ∷ 1 ∷ entry ∷ header_size ∷ 0 ∷ 0 ∷ halves header_size program_size ∷ count ∷ 0 ∷ []) (omega arith) from_3 in
    let from_1 : AreWords (0x0001_0101 ∷ 0 ∷ 0 ∷ halves executable riscv ∷ 1 ∷ entry ∷ header_size ∷ 0 ∷ 0 ∷ halves header_size program_size ∷ count
    ∷ 0 ∷ []) = word_more 0x0001_0101 (0 ∷ 0 ∷ halves executable riscv ∷ 1 ∷ entry ∷ header_size ∷ 0 ∷ 0 ∷ halves header_size program_size ∷ count
    ∷ 0 ∷ []) (omega arith) from_2 in
    word_more magic (0x0001_0101 ∷ 0 ∷ 0 ∷ halves executable riscv ∷ 1 ∷ entry ∷ header_size ∷ 0 ∷ 0 ∷ halves header_size program_size ∷ count ∷ 0 ∷ []) (omega arith) from_1

words_fit : (image : Fields) → IsSmall image → AreWords (front_words image)
words_fit image small =
    let c = at_most image in
    let text = program_fits 1 (text_at image) text_start (4 * length image.text) 7 (omega arith) (omega (arith, c)) (omega arith) (omega (arith, small.text)) (omega arith) in
    let globals = program_fits 1 (data_at image) data_start (4 * length image.globals) 6 (omega arith) (omega (arith, c, small.text)) (omega arith) (omega (arith, small.globals)) (omega arith) in
    let some = cond_both {A = List ℕ} (length image.globals == 0) [] (program_words 1 (data_at image) data_start (4 * length image.globals) 6) AreWords (λ _. no_words) (λ _. globals) in
    let note = program_fits 4 (note_at image) 0 (head_size + length (note_of image)) 4 (omega arith) (omega (arith, c, small.text, small.globals)) (omega arith) (omega (arith, small.note)) (omega arith) in
    let name_fits : AreWords (name ∷ []) = word_more name [] (omega arith) no_words in
    let type_fits : AreWords (1 ∷ name ∷ []) = word_more 1 (name ∷ []) (omega arith) name_fits in
    let size_fits : AreWords (length (note_of image) ∷ 1 ∷ name ∷ []) = word_more (length (note_of image)) (1 ∷ name ∷ []) (omega (arith, small.note)) type_fits in
    let head : AreWords (note_head image) = word_more 4 (length (note_of image) ∷ 1 ∷ name ∷ []) (omega arith) size_fits in
    let front : List ℕ = header_words image.entry (count_in image) in
    let one = words_append front (text_program image) (header_fits image.entry (count_in image) small.entry c) text in
    let two = words_append (front ++ text_program image) (data_program image) one some in
    let all_headers = words_append (front ++ text_program image ++ data_program image) (note_program image) two note in
    let before : List ℕ = front ++ text_program image ++ data_program image ++ note_program image in
    let with_text = words_append before image.text all_headers small.text_words in
    let with_code = words_append (before ++ image.text) image.globals with_text small.globals_words in
    let all = words_append (before ++ image.text ++ image.globals) (note_head image) with_code head in
    subst AreWords (sym (words_are image)) all

-- ---- the segments

abbrev pub text_segment : Fields → Segment
text_segment image = record { kind = 1; offset = text_at image; address = text_start; file_size = 4 * length image.text; memory_size = 4 * length image.text }

abbrev pub data_segment : Fields → Segment
data_segment image = record { kind = 1; offset = data_at image; address = data_start; file_size = 4 * length image.globals; memory_size = 4 * length image.globals }

abbrev pub note_segment : Fields → Segment
note_segment image = record { kind = 4; offset = note_at image; address = 0; file_size = head_size + length (note_of image); memory_size = head_size + length (note_of image) }

has_text : (image : Fields) → HasProgram (front_words image) 13 (text_segment image)
unfolding front_words
has_text image = record { there = omega arith; kind = refl; offset = refl; address = refl; file_size = refl; memory_size = refl }

with_data : (image : Fields) → HasProgram (words_with image (program_words 1 (data_at image) data_start (4 * length image.globals) 6)) 21 (data_segment image)
with_data image = record { there = omega arith; kind = refl; offset = refl; address = refl; file_size = refl; memory_size = refl }

with_note : (image : Fields) → HasProgram (words_with image (program_words 1 (data_at image) data_start (4 * length image.globals) 6)) 29 (note_segment image)
with_note image = record { there = omega arith; kind = refl; offset = refl; address = refl; file_size = refl; memory_size = refl }

only_note : (image : Fields) → HasProgram (words_with image []) 21 (note_segment image)
only_note image = record { there = omega arith; kind = refl; offset = refl; address = refl; file_size = refl; memory_size = refl }

has_data : (image : Fields) → HasData image → HasProgram (front_words image) 21 (data_segment image)
has_data image three = subst (λ (ws : List ℕ). HasProgram ws 21 (data_segment image)) (sym (words_are image ∙ ap (words_with image) three.program)) (with_data image)

has_note : (image : Fields) (p : ℕ) → p + 8 ≡ 13 + 8 * count_in image → HasProgram (front_words image) p (note_segment image)
has_note image p e =
    elim (counted image) [
      | inl two ↦
          let at : 21 ≡ p = omega (arith, e, two.count) in
          subst (λ (n : ℕ). HasProgram (front_words image) n (note_segment image)) at
          (subst (λ (ws : List ℕ). HasProgram ws 21 (note_segment image)) (sym (words_are image ∙ ap (words_with image) two.program)) (only_note image))
      | inr three ↦
          let at : 29 ≡ p = omega (arith, e, three.count) in
          subst (λ (n : ℕ). HasProgram (front_words image) n (note_segment image)) at
          (subst (λ (ws : List ℕ). HasProgram ws 29 (note_segment image)) (sym (words_are image ∙ ap (words_with image) three.program)) (with_note image))
    ]

-- ---- the file

pub record IsFile (bytes : List ℕ) (image : Fields) : Type 0 where
  pub header : HasHeader bytes
  pub size : length bytes ≡ note_at image + 16 + length (note_of image)
  pub count : count_of bytes ≡ count_in image
  pub programs : word_at bytes programs_at ≡ 52
  pub entry : word_at bytes entry_at ≡ image.entry
  pub text_program : segment_of bytes 0 ≡ text_segment image
  pub data_program : 0 < length image.globals → segment_of bytes 1 ≡ data_segment image
  pub note_program : (i : ℕ) → i + 1 ≡ count_in image → segment_of bytes i ≡ note_segment image
  pub text : (k : ℕ) → k < 4 * length image.text → slice_index bytes (text_at image + k) ≡ slice_index (bytes_of image.text) k
  pub globals : (k : ℕ) → k < 4 * length image.globals → slice_index bytes (data_at image + k) ≡ slice_index (bytes_of image.globals) k
  pub begins : begins bytes (note_at image) ≡ true
  pub content_size : word_at bytes (note_at image + 4) ≡ length (note_of image)
  pub content : slice_range bytes (note_at image + 16) (note_at image + 16 + length (note_of image)) ≡ note_of image

-- the bytes in parts
bytes_in_parts : (h t g n m : List ℕ) → bytes_of (h ++ (t ++ (g ++ n))) ++ m ≡ bytes_of h ++ (bytes_of t ++ (bytes_of g ++ (bytes_of n ++ m)))
bytes_in_parts h t g n m =
    ap (λ (x : List ℕ). x ++ m) (bytes_of-append h (t ++ (g ++ n)) ∙ ap (λ (x : List ℕ). bytes_of h ++ x) (bytes_of-append t (g ++ n) ∙ ap (λ (x : List ℕ). bytes_of t ++ x) (bytes_of-append g n)))
    ∙ simp append_assoc

file_in_parts : (image : Fields) → file_of image ≡ bytes_of (headers image) ++ (bytes_of image.text ++ (bytes_of image.globals ++ (bytes_of (note_head image) ++ note_of image)))
unfolding file_of
file_in_parts image = ap (λ (ws : List ℕ). bytes_of ws ++ note_of image) (words_in_parts image) ∙ bytes_in_parts (headers image) image.text image.globals (note_head image) (note_of image)

headers_bytes : (image : Fields) → length (bytes_of (headers image)) ≡ text_at image
headers_bytes image = length-bytes_of (headers image) ∙ headers_length image

text_bytes : (image : Fields) (k : ℕ) → k < 4 * length image.text → slice_index (file_of image) (text_at image + k) ≡ slice_index (bytes_of image.text) k
text_bytes image k lt =
    let rest : List ℕ = bytes_of image.globals ++ (bytes_of (note_head image) ++ note_of image) in
    ap (λ (x : List ℕ). slice_index x (text_at image + k)) (file_in_parts image)
    ∙ in_part (bytes_of (headers image)) (bytes_of image.text) rest (text_at image + k) k (omega (arith, headers_bytes image))
    ∙ get_or_append_left (bytes_of image.text) rest 0 k (omega (arith, lt, length-bytes_of image.text))

data_bytes : (image : Fields) (k : ℕ) → k < 4 * length image.globals → slice_index (file_of image) (data_at image + k) ≡ slice_index (bytes_of image.globals) k
data_bytes image k lt =
    let rest : List ℕ = bytes_of (note_head image) ++ note_of image in
    let at : ℕ = 4 * length image.text + k in
    ap (λ (x : List ℕ). slice_index x (data_at image + k)) (file_in_parts image)
    ∙ in_part (bytes_of (headers image)) (bytes_of image.text) (bytes_of image.globals ++ rest) (data_at image + k) at (omega (arith, headers_bytes image))
    ∙ in_part (bytes_of image.text) (bytes_of image.globals) rest at k (omega (arith, length-bytes_of image.text))
    ∙ get_or_append_left (bytes_of image.globals) rest 0 k (omega (arith, lt, length-bytes_of image.globals))

note_bytes : (image : Fields) → slice_range (file_of image) (note_at image + 16) (note_at image + 16 + length (note_of image)) ≡ note_of image
unfolding file_of
note_bytes image =
    let n : List ℕ = note_of image in
    let behind : drop (note_at image + 16) (file_of image) ≡ n = drop_at (bytes_of (front_words image)) n (note_at image + 16) (length-bytes_of (front_words image) ∙ words_length image) in
    ap (take ((note_at image + 16 + length n) - (note_at image + 16))) behind ∙ take_all ((note_at image + 16 + length n) - (note_at image + 16)) n (omega arith)

-- ---- the head of the note

head_at : (image : Fields) → ℕ
head_at image = length (headers image ++ (image.text ++ image.globals))

head_place : (image : Fields) → 4 * head_at image ≡ note_at image
unfolding head_at
head_place image = omega (arith, length-append (headers image) (image.text ++ image.globals), length-append image.text image.globals, headers_length image)

head_word : (image : Fields) (j : ℕ) → slice_index (front_words image) (head_at image + j) ≡ slice_index (note_head image) j
unfolding head_at
head_word image j =
    let front : List ℕ = headers image ++ (image.text ++ image.globals) in
    let parts : headers image ++ (image.text ++ (image.globals ++ note_head image)) ≡ front ++ note_head image = simp append_assoc in
    ap (λ (ws : List ℕ). slice_index ws (length front + j)) (words_in_parts image ∙ parts) ∙ get_or-append-add front (note_head image) j 0

head_read : (image : Fields) (j w : ℕ) → IsSmall image → j < 4 → slice_index (note_head image) j ≡ w → word_at (file_of image) (note_at image + 4 * j) ≡ w
unfolding file_of
head_read image j w small lt is =
    word_read (front_words image) (note_of image) (head_at image + j) (note_at image + 4 * j) w (omega (arith, head_place image)) (omega (arith, head_place image, words_length image, lt)) (words_fit image small) (head_word image j ∙ is)

head_begins : (image : Fields) → IsSmall image → begins (file_of image) (note_at image) ≡ true
unfolding begins
head_begins image small =
    let start : note_at image + 4 * 0 ≡ note_at image = omega arith in
    let first : word_at (file_of image) (note_at image) ≡ 4 = ap (word_at (file_of image)) (sym start) ∙ head_read image 0 4 small (omega arith) refl in
    let third : word_at (file_of image) (note_at image + 8) ≡ 1 = head_read image 2 1 small (omega arith) refl in
    let fourth : word_at (file_of image) (note_at image + 12) ≡ name = head_read image 3 name small (omega arith) refl in
    and_from _ _ (and_from _ _ (eq-eqb _ _ first) (eq-eqb _ _ third)) (eq-eqb _ _ fourth)

-- ---- all of it

file_length : (image : Fields) → length (file_of image) ≡ note_at image + 16 + length (note_of image)
unfolding file_of
file_length image = omega (arith, length-append (bytes_of (front_words image)) (note_of image), length-bytes_of (front_words image), words_length image)

first_word : (image : Fields) (j w : ℕ) → IsSmall image → j < 13 → slice_index (front_words image) j ≡ w → word_at (file_of image) (4 * j) ≡ w
unfolding file_of
first_word image j w small lt is = word_read (front_words image) (note_of image) j (4 * j) w refl (omega (arith, lt, words_length image)) (words_fit image small) is

programs_start : (image : Fields) → IsSmall image → word_at (file_of image) programs_at ≡ 52
unfolding front_words
programs_start image small = first_word image 7 52 small (omega arith) refl

entry_word : (image : Fields) → IsSmall image → word_at (file_of image) entry_at ≡ image.entry
unfolding front_words
entry_word image small = first_word image 6 image.entry small (omega arith) refl

-- a number of two bytes in the header
first_half : (image : Fields) (j w : ℕ) → j < 13 → slice_index (front_words image) j % 65536 ≡ w → half_at (file_of image) (4 * j) ≡ w
unfolding file_of
first_half image j w lt is = low_read (front_words image) (note_of image) j (4 * j) w refl (omega (arith, lt, words_length image)) is

count_word : (image : Fields) → count_of (file_of image) ≡ count_in image
unfolding front_words
count_word image = first_half image 11 (count_in image) (omega arith) (omega (arith, at_most image))

program_is : (image : Fields) (i : ℕ) (s : Segment) → IsSmall image → HasProgram (front_words image) (13 + 8 * i) s → segment_of (file_of image) i ≡ s
unfolding file_of
program_is image i s small has =
    let at : program_at (file_of image) i ≡ 4 * (13 + 8 * i) = omega (arith, programs_start image small) in
    segment_read (front_words image) (note_of image) (program_at (file_of image) i) (13 + 8 * i) s at (words_fit image small) has

pub file_is : (image : Fields) → IsSmall image → IsFile (file_of image) image
file_is image small = record {
  header = header_has image (words_fit image small) (omega (arith, at_least image)) (at_most image);
  size = file_length image;
  count = count_word image;
  programs = programs_start image small;
  entry = entry_word image small;
  text_program = program_is image 0 (text_segment image) small (has_text image);
  data_program = λ some. (elim (counted image) [
    | inl two ↦ absurd (omega (arith, two.none, some))
    | inr three ↦ program_is image 1 (data_segment image) small (has_data image three)
  ]);
  note_program = λ i last. (program_is image i (note_segment image) small (has_note image (13 + 8 * i) (omega (arith, last))));
  text = text_bytes image;
  globals = data_bytes image;
  begins = head_begins image small;
  content_size = head_read image 1 (length (note_of image)) small (omega arith) refl;
  content = note_bytes image;
}
