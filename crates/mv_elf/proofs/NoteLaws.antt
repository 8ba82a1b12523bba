-- What a note gives, and when it gives nothing.
use Rattle.std.proofs.Common.{◌≡◌, ◌<◌, ◌≤◌, ◌+◌, ◌*◌, ◌-◌, ◌∙◌, ◌==◌, ◌&&◌, nat_le, drop, ℕ, zero, suc, List, length, slice_index, slice_range, true, false, sym, ap, subst, refl, arith, inl, inr, map}
use Rattle.std.specs.List.{range_with_len}
use Rattle.std.proofs.lemmas.Bool.{cases_lt, and_parts, and_from, both_ways, eqb-true, eq-eqb, leb-true, cond_both}
use Rattle.std.proofs.lemmas.List.{get_or_past, length-take-le, length-drop}
use Rattle.std.proofs.lemmas.List.FromFn.{get_or-map-range_with_len}
use Rattle.mv_num.specs.Bytes.{AreBytes, AreWords}
use Rattle.mv_image.specs.Spelling.{Fields}
use Rattle.mv_image.specs.Faults.{Spells}
use Rattle.mv_image.proofs.OneVerdict.{one_image}
use Rattle.mv_image.proofs.WhatIsRead.{words_are_words}
use Rattle.mv_elf.specs.declared.segment.Region.{Region}
use Rattle.mv_elf.specs.declared.segment.Region.TheVariants.{Text, Data}
use Rattle.mv_elf.specs.declared.segment.Segment.{Segment}
use Rattle.mv_elf.specs.Segments.{region_start, count_of, segment_of}
use Rattle.mv_elf.specs.Memory.{words_in, covers, loaded_over, byte_of, bytes_in, loaded_in, text_of, data_of, entry_of}
use Rattle.mv_elf.specs.Notes.{head_size, front_size, begins, is_ours, is_image_of, content_size, content_of, put_in, Gives}
use Rattle.mv_elf.proofs.MemoryLaws.{bytes_length}
use Rattle.mv_elf.proofs.SpellingParts.{code_is}

-- ---- a note of ours

pub record IsOurs (s : Segment) : Type 0 where
  pub note : (s.kind == 4) ≡ true
  pub head : head_size ≤ s.file_size

pub ours : (bytes : List ℕ) (s : Segment) → is_ours bytes s ≡ true → IsOurs s
unfolding is_ours
ours bytes s e =
    let p = and_parts (s.kind == 4 && nat_le head_size s.file_size) (begins bytes s.offset) e in
    let q = and_parts (s.kind == 4) (nat_le head_size s.file_size) p.0 in
    record { note = q.0; head = leb-true _ _ q.1 }

pub none_more : (bytes : List ℕ) (i : ℕ) → ((k : ℕ) → k < i → is_ours bytes (segment_of bytes k) ≡ false) → is_ours bytes (segment_of bytes i) ≡ false → (k : ℕ) → k < i + 1 → is_ours bytes (segment_of bytes k) ≡ false
none_more bytes i before here k lt =
    elim (cases_lt k i) [
      | inl below ↦ before k below
      | inr last ↦ let same : i ≡ k = omega (arith, lt, last) in subst (λ (j : ℕ). is_ours bytes (segment_of bytes j) ≡ false) same here
    ]

slice_length : (bytes : List ℕ) (at size n : ℕ) → size ≡ n → at + size ≤ length bytes → length (slice_range bytes at (at + n)) ≡ size
slice_length bytes at size n e le = length-take-le ((at + n) - at) (drop at bytes) (omega (arith, e, le, length-drop at bytes)) ∙ omega (arith, e)

-- ---- what is loaded are words

byte_small : (bytes : List ℕ) (n a : ℕ) → AreBytes bytes → byte_of bytes n a < 256
unfolding byte_of loaded_over
byte_small bytes zero a fits = omega arith
byte_small bytes (suc n) a fits =
    let s : Segment = segment_of bytes n in
    cond_both (covers s a) (slice_index bytes (s.offset + (a - s.address))) (byte_of bytes n a) (λ v. v < 256) (λ _. fits _) (λ _. byte_small bytes n a fits)

loaded_bytes_fit : (bytes : List ℕ) (region : Region) → AreBytes bytes → AreBytes (bytes_in bytes region)
unfolding bytes_in
loaded_bytes_fit bytes region fits i =
    let f : ℕ → ℕ = byte_of bytes (count_of bytes) in
    let start : ℕ = region_start region in
    let n : ℕ = 4 * words_in bytes region in
    elim (cases_lt i n) [
      | inl below ↦
          let e : slice_index (map f (range_with_len start n)) i ≡ f (start + i) = get_or-map-range_with_len f start n i (start + i) 0 below refl in
          omega (arith, e, byte_small bytes (count_of bytes) (start + i) fits)
      | inr past ↦
          let e : slice_index (map f (range_with_len start n)) i ≡ 0 = get_or_past _ i 0 (omega (arith, past, bytes_length region bytes)) in
          omega (arith, e)
    ]

pub loaded_words : (bytes : List ℕ) (region : Region) → AreBytes bytes → AreWords (loaded_in bytes region)
loaded_words bytes region fits = words_are_words (bytes_in bytes region) (loaded_bytes_fit bytes region fits)

-- ---- what code makes of a note

pub record IsRead (bytes : List ℕ) (note : Segment) (content whole text globals : List ℕ) (entry size : ℕ) : Type 0 where
  pub size_is : size ≡ content_size bytes note
  pub inside : head_size + size ≤ note.file_size
  pub front : front_size ≤ size
  pub there : note.offset + note.file_size ≤ length bytes
  pub content_is : content ≡ slice_range bytes (note.offset + head_size) (note.offset + head_size + size)
  pub whole_is : whole ≡ put_in content text globals
  pub text_is : text ≡ text_of bytes
  pub globals_is : globals ≡ data_of bytes
  pub entry_is : entry ≡ entry_of bytes

whole_spelled : (bytes : List ℕ) (note : Segment) (content whole text globals : List ℕ) (entry size : ℕ) → IsRead bytes note content whole text globals entry size → whole ≡ put_in (content_of bytes note) (text_of bytes) (data_of bytes)
whole_spelled bytes note content whole text globals entry size r =
    let made : content ≡ content_of bytes note = r.content_is ∙ ap (λ (n : ℕ). slice_range bytes (note.offset + head_size) (note.offset + head_size + n)) r.size_is in
    r.whole_is ∙ ap (λ (c : List ℕ). put_in c text globals) made ∙ ap (λ (t : List ℕ). put_in (content_of bytes note) t globals) r.text_is ∙ ap (put_in (content_of bytes note) (text_of bytes)) r.globals_is

record IsOf (image : Fields) (entry text globals : ℕ) : Type 0 where
  version : image.version ≡ 2
  entry_is : image.entry ≡ entry
  text_is : length image.text ≡ text
  globals_is : length image.globals ≡ globals

is_of : (image : Fields) (entry text globals : ℕ) → is_image_of image entry text globals ≡ true → IsOf image entry text globals
is_of image entry text globals e =
    let p = and_parts (image.version == 2 && image.entry == entry && length image.text == text) (length image.globals == globals) e in
    let q = and_parts (image.version == 2 && image.entry == entry) (length image.text == text) p.0 in
    let r = and_parts (image.version == 2) (image.entry == entry) q.0 in
    record { version = eqb-true _ _ r.0; entry_is = eqb-true _ _ r.1; text_is = eqb-true _ _ q.1; globals_is = eqb-true _ _ p.1 }

pub gives : (bytes : List ℕ) (note : Segment) (content whole text globals : List ℕ) (entry size : ℕ) (image : Fields) → IsRead bytes note content whole text globals entry size → AreBytes bytes → Spells whole image
    → is_image_of image entry (length text) (length globals) ≡ true → Gives bytes note image
gives bytes note content whole text globals entry size image r fits spells is =
    let spelled : Spells (put_in (content_of bytes note) (text_of bytes) (data_of bytes)) image = subst (λ (b : List ℕ). Spells b image) (whole_spelled bytes note content whole text globals entry size r) spells in
    let of = is_of image entry (length text) (length globals) is in
    let long : length (content_of bytes note) ≡ size = slice_length bytes (note.offset + head_size) size (content_size bytes note) r.size_is (omega (arith, r.there, r.inside)) in
    let code = code_is (content_of bytes note) (text_of bytes) (data_of bytes) image (omega (arith, long, r.front)) (loaded_words bytes Text fits) (loaded_words bytes Data fits) spelled of.version
    (of.text_is ∙ ap length r.text_is) (of.globals_is ∙ ap length r.globals_is) in
    record {
      inside = omega (arith, r.size_is, r.inside);
      whole = omega (arith, r.size_is, r.front);
      spelled = spelled;
      version = of.version;
      entry = of.entry_is ∙ r.entry_is;
      text = code.text;
      globals = code.globals;
    }

pub is_other : (bytes : List ℕ) (note : Segment) (content whole text globals : List ℕ) (entry size : ℕ) (found image : Fields) → IsRead bytes note content whole text globals entry size → Spells whole found
    → is_image_of found entry (length text) (length globals) ≡ false → Gives bytes note image → ⊥
is_other bytes note content whole text globals entry size found image r spells other g =
    let same : image ≡ found = one_image whole image found (subst (λ (b : List ℕ). Spells b image) (sym (whole_spelled bytes note content whole text globals entry size r)) g.spelled) spells in
    let fits : is_image_of image entry (length text) (length globals) ≡ true =
    and_from _ _ (and_from _ _ (and_from _ _ (eq-eqb _ _ g.version) (eq-eqb _ _ (g.entry ∙ sym r.entry_is))) (eq-eqb _ _ (ap length (g.text ∙ sym r.text_is)))) (eq-eqb _ _ (ap length (g.globals ∙ sym r.globals_is))) in
    both_ways _ other (ap (λ (a : Fields). is_image_of a entry (length text) (length globals)) (sym same) ∙ fits)
