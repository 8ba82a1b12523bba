-- A file that is written holds its image.
use Rattle.std.proofs.Common.{◌≡◌, ◌<◌, ◌≤◌, ◌+◌, ◌-◌, ◌*◌, ◌%◌, ◌∙◌, ◌⊎◌, ◌==◌, ◌&&◌, ◌||◌, nat_le, not, ℕ, List, length, slice_index, slice_range, true, false, ap, sym, refl, arith, inl, inr}
use Rattle.std.proofs.lemmas.Bool.{cases_lt, cases_eq, and_from, and_left, and_right, or_left, or_right, le-leb, lt-ltb, lt-leb, eq-eqb}
use Rattle.std.proofs.lemmas.List.{length-append}
use Rattle.mv_num.specs.Bytes.{bytes_of, words_of}
use Rattle.mv_num.specs.Regions.{text_start, data_start}
use Rattle.mv_num.proofs.ByteLaws.{length-bytes_of, words_of-bytes_of}
use Rattle.mv_image.specs.Spelling.{Fields, header_of}
use Rattle.mv_image.specs.Versions.{upgraded}
use Rattle.mv_image.specs.Faults.{Rules, Spells}
use Rattle.mv_elf.specs.declared.segment.Region.{Region}
use Rattle.mv_elf.specs.declared.segment.Region.TheVariants.{Text, Data}
use Rattle.mv_elf.specs.declared.segment.Segment.{Segment}
use Rattle.mv_elf.specs.Header.{program_size}
use Rattle.mv_elf.specs.Segments.{count_of, program_at, segment_of, is_loaded, is_note, is_in_file, lies_in, reach, is_there, is_right, segment_fits}
use Rattle.mv_elf.specs.Memory.{words_in, covers, byte_of, text_of, data_of, entry_of, enters_text, IsProgram}
use Rattle.mv_elf.specs.Notes.{front_size, is_ours, content_of, put_in, IsNoteOf, Gives}
use Rattle.mv_elf.specs.Writing.{count_in, note_of, text_at, data_at, note_at}
use Rattle.mv_elf.specs.Faults.{Holds}
use Rattle.mv_elf.proofs.SegmentLaws.{reach-none, reach-yes}
use Rattle.mv_elf.proofs.MemoryLaws.{covered, before, behind, not_loaded, all_loaded}
use Rattle.mv_elf.proofs.SpellingParts.{rest_of, header_bytes, note_in_parts, put_back}
use Rattle.mv_elf.proofs.Loads.{byte_of_one, reach_nothing, reach_one}
use Rattle.mv_elf.proofs.Filed.{IsSmall, IsFile, counted, at_least, at_most, text_segment, data_segment, note_segment}

-- ---- which segment is which

-- A program header is that of data or of the note.
abbrev IsBehind : List ℕ → Fields → ℕ → Type 0
IsBehind bytes image i = ((0 < length image.globals) × (segment_of bytes i ≡ data_segment image)) ⊎ (segment_of bytes i ≡ note_segment image)

behind_text : (bytes : List ℕ) (image : Fields) → IsFile bytes image → (i : ℕ) → i < count_of bytes → (i ≡ 0 → ⊥) → IsBehind bytes image i
behind_text bytes image file i lt later =
    elim (counted image) [
      | inl two ↦ inr (file.note_program i (omega (arith, lt, later, file.count, two.count)))
      | inr three ↦ elim (cases_eq i 1) [
        | inl one ↦ inl (three.some, ap (segment_of bytes) one ∙ file.data_program three.some)
        | inr more ↦ inr (file.note_program i (omega (arith, lt, later, more, file.count, three.count)))
      ]
    ]

-- and if it isn't that of data, it is that of text or of the note
beside_data : (bytes : List ℕ) (image : Fields) → IsFile bytes image → (i : ℕ) → i < count_of bytes → (0 < length image.globals → i ≡ 1 → ⊥) → (segment_of bytes i ≡ text_segment image) ⊎ (segment_of bytes i ≡ note_segment image)
beside_data bytes image file i lt other =
    elim (cases_eq i 0) [
      | inl first ↦ inl (ap (segment_of bytes) first ∙ file.text_program)
      | inr later ↦ elim (counted image) [
        | inl two ↦ inr (file.note_program i (omega (arith, lt, later, file.count, two.count)))
        | inr three ↦ let no : i ≡ 1 → ⊥ = other three.some in inr (file.note_program i (omega (arith, lt, later, no, file.count, three.count)))
      ]
    ]

-- ---- where each is loaded

loads_text : (image : Fields) → 1 ≤ length image.text → is_loaded (text_segment image) ≡ true
unfolding is_loaded
loads_text image some = lt-ltb 0 (4 * length image.text) (omega (arith, some))

loads_data : (image : Fields) → 0 < length image.globals → is_loaded (data_segment image) ≡ true
unfolding is_loaded
loads_data image some = lt-ltb 0 (4 * length image.globals) (omega (arith, some))

loads_no_note : (image : Fields) → is_loaded (note_segment image) ≡ false
unfolding is_loaded
loads_no_note image = refl

text_in_text : (image : Fields) → IsSmall image → lies_in Text (text_segment image) ≡ true
unfolding lies_in
text_in_text image small = and_from _ _ (and_from _ _ (loads_text image small.some_text) refl) (le-leb _ _ (omega (arith, small.text)))

text_in_no_data : (image : Fields) → lies_in Data (text_segment image) ≡ false
unfolding lies_in
text_in_no_data image = and_left _ _ (and_right (is_loaded (text_segment image)) _ refl)

data_in_data : (image : Fields) → IsSmall image → 0 < length image.globals → lies_in Data (data_segment image) ≡ true
unfolding lies_in
data_in_data image small some = and_from _ _ (and_from _ _ (loads_data image some) refl) (le-leb _ _ (omega (arith, small.globals)))

data_in_no_text : (image : Fields) → lies_in Text (data_segment image) ≡ false
unfolding lies_in
data_in_no_text image = and_right (is_loaded (data_segment image) && nat_le text_start data_start) _ (lt-leb _ _ (omega arith))

note_in_none : (image : Fields) (region : Region) → lies_in region (note_segment image) ≡ false
unfolding lies_in
note_in_none image region = and_left _ _ (and_left _ _ (loads_no_note image))

no_text_later : (bytes : List ℕ) (image : Fields) → IsFile bytes image → (i : ℕ) → i < count_of bytes → (i ≡ 0 → ⊥) → lies_in Text (segment_of bytes i) ≡ false
no_text_later bytes image file i lt later =
    elim (behind_text bytes image file i lt later) [
      | inl data_ ↦ ap (lies_in Text) data_.1 ∙ data_in_no_text image
      | inr note ↦ ap (lies_in Text) note ∙ note_in_none image Text
    ]

no_data_else : (bytes : List ℕ) (image : Fields) → IsFile bytes image → (i : ℕ) → i < count_of bytes → (0 < length image.globals → i ≡ 1 → ⊥) → lies_in Data (segment_of bytes i) ≡ false
no_data_else bytes image file i lt other =
    elim (beside_data bytes image file i lt other) [
      | inl text ↦ ap (lies_in Data) text ∙ text_in_no_data image
      | inr note ↦ ap (lies_in Data) note ∙ note_in_none image Data
    ]

-- ---- how much is loaded

some_programs : (bytes : List ℕ) (image : Fields) → IsFile bytes image → 2 ≤ count_of bytes
some_programs bytes image file = omega (arith, file.count, at_least image)

text_words : (bytes : List ℕ) (image : Fields) → IsFile bytes image → IsSmall image → words_in bytes Text ≡ length image.text
unfolding words_in
text_words bytes image file small =
    let here : lies_in Text (segment_of bytes 0) ≡ true = ap (lies_in Text) file.text_program ∙ text_in_text image small in
    let end = reach_one (lies_in Text) bytes (count_of bytes) 0 (omega (arith, some_programs bytes image file)) here (no_text_later bytes image file) in
    let size : (segment_of bytes 0).address + (segment_of bytes 0).memory_size ≡ text_start + 4 * length image.text = ap (λ (s : Segment). s.address + s.memory_size) file.text_program in
    omega (arith, end, size)

data_words : (bytes : List ℕ) (image : Fields) → IsFile bytes image → IsSmall image → words_in bytes Data ≡ length image.globals
unfolding words_in
data_words bytes image file small =
    elim (counted image) [
      | inl two ↦
          let none = reach_nothing (lies_in Data) bytes (count_of bytes) (λ i lt. no_data_else bytes image file i lt (λ some one. omega (arith, some, two.none))) in
          omega (arith, none, two.none)
      | inr three ↦
          let is = file.data_program three.some in
          let here : lies_in Data (segment_of bytes 1) ≡ true = ap (lies_in Data) is ∙ data_in_data image small three.some in
          let end = reach_one (lies_in Data) bytes (count_of bytes) 1 (omega (arith, some_programs bytes image file)) here (λ i lt other. no_data_else bytes image file i lt (λ some. other)) in
          let size : (segment_of bytes 1).address + (segment_of bytes 1).memory_size ≡ data_start + 4 * length image.globals = ap (λ (s : Segment). s.address + s.memory_size) is in
          omega (arith, end, size)
    ]

-- ---- what is loaded

text_byte : (bytes : List ℕ) (image : Fields) → IsFile bytes image → IsSmall image → (k : ℕ) → k < 4 * length image.text → byte_of bytes (count_of bytes) (text_start + k) ≡ slice_index (bytes_of image.text) k
text_byte bytes image file small k lt =
    let a : ℕ = text_start + k in
    let here : covers (segment_of bytes 0) a ≡ true = ap (λ (s : Segment). covers s a) file.text_program ∙ covered (text_segment image) a (loads_text image small.some_text) (omega arith) (omega (arith, lt)) in
    let others : (i : ℕ) → i < count_of bytes → (i ≡ 0 → ⊥) → covers (segment_of bytes i) a ≡ false = λ i l later. (elim (behind_text bytes image file i l later) [
      | inl data_ ↦ ap (λ (s : Segment). covers s a) data_.1 ∙ before (data_segment image) a (omega (arith, lt, small.text))
      | inr note ↦ ap (λ (s : Segment). covers s a) note ∙ not_loaded (note_segment image) a (loads_no_note image)
    ]) in
    let place : (segment_of bytes 0).offset + (a - (segment_of bytes 0).address) ≡ text_at image + k = ap (λ (s : Segment). s.offset + (a - s.address)) file.text_program ∙ omega arith in
    byte_of_one bytes (count_of bytes) 0 a (omega (arith, some_programs bytes image file)) here others ∙ ap (slice_index bytes) place ∙ file.text k lt

data_byte : (bytes : List ℕ) (image : Fields) → IsFile bytes image → IsSmall image → (k : ℕ) → k < 4 * length image.globals → byte_of bytes (count_of bytes) (data_start + k) ≡ slice_index (bytes_of image.globals) k
data_byte bytes image file small k lt =
    let a : ℕ = data_start + k in
    let some : 0 < length image.globals = omega (arith, lt) in
    let is = file.data_program some in
    let here : covers (segment_of bytes 1) a ≡ true = ap (λ (s : Segment). covers s a) is ∙ covered (data_segment image) a (loads_data image some) (omega arith) (omega (arith, lt)) in
    let others : (i : ℕ) → i < count_of bytes → (i ≡ 1 → ⊥) → covers (segment_of bytes i) a ≡ false = λ i l other. (elim (beside_data bytes image file i l (λ _. other)) [
      | inl text ↦ ap (λ (s : Segment). covers s a) text ∙ behind (text_segment image) a (omega (arith, small.text))
      | inr note ↦ ap (λ (s : Segment). covers s a) note ∙ not_loaded (note_segment image) a (loads_no_note image)
    ]) in
    let place : (segment_of bytes 1).offset + (a - (segment_of bytes 1).address) ≡ data_at image + k = ap (λ (s : Segment). s.offset + (a - s.address)) is ∙ omega arith in
    byte_of_one bytes (count_of bytes) 1 a (omega (arith, some_programs bytes image file)) here others ∙ ap (slice_index bytes) place ∙ file.globals k lt

pub text_is : (bytes : List ℕ) (image : Fields) → IsFile bytes image → IsSmall image → text_of bytes ≡ image.text
text_is bytes image file small =
    let words = text_words bytes image file small in
    let same = all_loaded Text bytes (bytes_of image.text) (count_of bytes) refl (omega (arith, length-bytes_of image.text, words)) (λ k lt. sym (text_byte bytes image file small k (omega (arith, lt, words)))) in
    ap words_of (sym same) ∙ words_of-bytes_of image.text small.text_words

pub data_is : (bytes : List ℕ) (image : Fields) → IsFile bytes image → IsSmall image → data_of bytes ≡ image.globals
data_is bytes image file small =
    let words = data_words bytes image file small in
    let same = all_loaded Data bytes (bytes_of image.globals) (count_of bytes) refl (omega (arith, length-bytes_of image.globals, words)) (λ k lt. sym (data_byte bytes image file small k (omega (arith, lt, words)))) in
    ap words_of (sym same) ∙ words_of-bytes_of image.globals small.globals_words

-- ---- the segments are right

in_file : (bytes : List ℕ) (s : Segment) → s.offset + s.file_size ≤ length bytes → is_in_file bytes s ≡ true
unfolding is_in_file
in_file bytes s le = or_right (not ((s.kind == 1) || (s.kind == 4))) _ (le-leb _ _ le)

are_there : (bytes : List ℕ) (image : Fields) → IsFile bytes image → (i : ℕ) → i < count_of bytes → is_there bytes i ≡ true
unfolding is_there
are_there bytes image file i lt =
    let header : program_at bytes i + program_size ≤ length bytes = omega (arith, file.programs, file.size, file.count, lt) in
    let part : is_in_file bytes (segment_of bytes i) ≡ true = elim (cases_eq i 0) [
      | inl first ↦ ap (is_in_file bytes) (ap (segment_of bytes) first ∙ file.text_program) ∙ in_file bytes (text_segment image) (omega (arith, file.size))
      | inr later ↦ elim (behind_text bytes image file i lt later) [
        | inl data_ ↦ ap (is_in_file bytes) data_.1 ∙ in_file bytes (data_segment image) (omega (arith, file.size))
        | inr note ↦ ap (is_in_file bytes) note ∙ in_file bytes (note_segment image) (omega (arith, file.size))
      ]
    ] in
    and_from _ _ (le-leb _ _ header) part

right_text : (image : Fields) → IsSmall image → is_right 0 (text_segment image) ≡ true
unfolding is_right
right_text image small =
    or_right (not (is_loaded (text_segment image))) _ (and_from _ _ (and_from _ _ (le-leb _ _ (omega arith)) (or_left _ (lies_in Data (text_segment image)) (text_in_text image small))) refl)

right_data : (image : Fields) (reached : ℕ) → IsSmall image → 0 < length image.globals → reached ≤ data_start → is_right reached (data_segment image) ≡ true
unfolding is_right
right_data image reached small some le =
    or_right (not (is_loaded (data_segment image))) _ (and_from _ _ (and_from _ _ (le-leb _ _ (omega arith)) (or_right (lies_in Text (data_segment image)) _ (data_in_data image small some))) (le-leb _ _ le))

right_note : (image : Fields) (reached : ℕ) → is_right reached (note_segment image) ≡ true
unfolding is_right
right_note image reached = or_left _ _ (ap not (loads_no_note image))

reached_text : (bytes : List ℕ) (image : Fields) → IsFile bytes image → IsSmall image → reach is_loaded bytes 1 ≤ data_start
reached_text bytes image file small =
    let more = reach-yes is_loaded bytes 0 (ap is_loaded file.text_program ∙ loads_text image small.some_text) in
    let none = reach-none is_loaded bytes in
    let size : (segment_of bytes 0).address + (segment_of bytes 0).memory_size ≡ text_start + 4 * length image.text = ap (λ (s : Segment). s.address + s.memory_size) file.text_program in
    omega (arith, more, none, size, small.text)

are_right : (bytes : List ℕ) (image : Fields) → IsFile bytes image → IsSmall image → (i : ℕ) → i < count_of bytes → segment_fits bytes i ≡ true
are_right bytes image file small i lt =
    elim (cases_eq i 0) [
      | inl first ↦
          ap (λ (k : ℕ). is_right (reach is_loaded bytes k) (segment_of bytes k)) first ∙ ap (λ (r : ℕ). is_right r (segment_of bytes 0)) (reach-none is_loaded bytes)
          ∙ ap (is_right 0) file.text_program ∙ right_text image small
      | inr later ↦ elim (cases_lt i 2) [
        | inl second ↦
            let one : i ≡ 1 = omega (arith, second, later) in
            elim (behind_text bytes image file i lt later) [
              | inl data_ ↦
                  ap (is_right (reach is_loaded bytes i)) data_.1
                  ∙ right_data image (reach is_loaded bytes i) small data_.0 (omega (arith, ap (reach is_loaded bytes) one, reached_text bytes image file small))
              | inr note ↦ ap (is_right (reach is_loaded bytes i)) note ∙ right_note image (reach is_loaded bytes i)
            ]
        | inr third ↦ ap (is_right (reach is_loaded bytes i)) (file.note_program i (omega (arith, third, lt, file.count, at_most image))) ∙ right_note image (reach is_loaded bytes i)
      ]
    ]

-- ---- a run begins in text

-- an address of a word of the text of an image
pub record IsEntry (image : Fields) : Type 0 where
  pub aligned : image.entry % 4 ≡ 0
  pub not_before : text_start ≤ image.entry
  pub within : image.entry < text_start + 4 * length image.text

entry_is_in : (bytes : List ℕ) (image : Fields) → IsFile bytes image → IsSmall image → IsEntry image → enters_text bytes ≡ true
unfolding enters_text
entry_is_in bytes image file small entry =
    let is : entry_of bytes ≡ image.entry = file.entry in
    let words = text_words bytes image file small in
    and_from _ _ (and_from _ _ (eq-eqb _ _ (ap (λ (n : ℕ). n % 4) is ∙ entry.aligned)) (le-leb _ _ (omega (arith, is, entry.not_before)))) (lt-ltb _ _ (omega (arith, is, words, entry.within)))

is_program : (bytes : List ℕ) (image : Fields) → IsFile bytes image → IsSmall image → IsEntry image → IsProgram bytes
is_program bytes image file small entry = record {
  header = file.header;
  segments = record { there = are_there bytes image file; right = are_right bytes image file small };
  some_text = omega (arith, text_words bytes image file small, small.some_text);
  entry = entry_is_in bytes image file small entry;
}

-- ---- the note

no_note : (bytes : List ℕ) (s : Segment) → is_note s ≡ false → is_ours bytes s ≡ false
unfolding is_ours
no_note bytes s other = and_left _ _ (and_left _ _ other)

note_is_ours : (bytes : List ℕ) (image : Fields) → IsFile bytes image → is_ours bytes (note_segment image) ≡ true
unfolding is_ours
note_is_ours bytes image file = and_from _ _ (le-leb _ _ (omega arith)) file.begins

others_are_not : (bytes : List ℕ) (image : Fields) → IsFile bytes image → (k : ℕ) → k + 1 < count_of bytes → is_ours bytes (segment_of bytes k) ≡ false
others_are_not bytes image file k lt =
    elim (cases_eq k 0) [
      | inl first ↦ ap (is_ours bytes) (ap (segment_of bytes) first ∙ file.text_program) ∙ no_note bytes (text_segment image) refl
      | inr later ↦ elim (counted image) [
        | inl two ↦ absurd (omega (arith, lt, later, file.count, two.count))
        | inr three ↦
            let one : k ≡ 1 = omega (arith, lt, later, file.count, three.count) in
            ap (is_ours bytes) (ap (segment_of bytes) one ∙ file.data_program three.some) ∙ no_note bytes (data_segment image) refl
      ]
    ]

is_note_of : (bytes : List ℕ) (image : Fields) (i : ℕ) → IsFile bytes image → i + 1 ≡ count_in image → IsNoteOf bytes (note_segment image) i
is_note_of bytes image i file last = record {
  within = omega (arith, last, file.count);
  is = sym (file.note_program i last);
  ours = note_is_ours bytes image file;
  before = λ k lt. others_are_not bytes image file k (omega (arith, lt, last, file.count));
}

content_is : (bytes : List ℕ) (image : Fields) → IsFile bytes image → content_of bytes (note_segment image) ≡ note_of image
content_is bytes image file = ap (λ (n : ℕ). slice_range bytes (note_at image + 16) (note_at image + 16 + n)) file.content_size ∙ file.content

note_whole : (image : Fields) → front_size ≤ length (note_of image)
note_whole image =
    let a : Fields = upgraded image in
    omega (arith, ap length (note_in_parts a refl), length-append (bytes_of (header_of a)) (rest_of a), header_bytes a refl)

spells : (bytes : List ℕ) (image : Fields) → IsFile bytes image → IsSmall image → Rules (upgraded image) → Spells (put_in (content_of bytes (note_segment image)) (text_of bytes) (data_of bytes)) (upgraded image)
spells bytes image file small rules = record {
  rules = rules;
  bytes_are = ap (λ (c : List ℕ). put_in c (text_of bytes) (data_of bytes)) (content_is bytes image file)
      ∙ ap (λ (t : List ℕ). put_in (note_of image) t (data_of bytes)) (text_is bytes image file small)
      ∙ ap (put_in (note_of image) image.text) (data_is bytes image file small)
      ∙ put_back (upgraded image) refl;
}

gives : (bytes : List ℕ) (image : Fields) → IsFile bytes image → IsSmall image → Rules (upgraded image) → Gives bytes (note_segment image) (upgraded image)
gives bytes image file small rules = record {
  inside = omega (arith, file.content_size);
  whole = omega (arith, file.content_size, note_whole image);
  spelled = spells bytes image file small rules;
  version = refl;
  entry = sym file.entry;
  text = sym (text_is bytes image file small);
  globals = sym (data_is bytes image file small);
}

pub file_holds : (bytes : List ℕ) (image : Fields) → IsFile bytes image → IsSmall image → IsEntry image → Rules (upgraded image) → Holds bytes (upgraded image)
file_holds bytes image file small entry rules =
    let i : ℕ = count_in image - 1 in
    inr (
      note_segment image,
      i,
      record {
        program = is_program bytes image file small entry;
        first = is_note_of bytes image i file (omega (arith, at_least image));
        gives = gives bytes image file small rules;
      },
    )
