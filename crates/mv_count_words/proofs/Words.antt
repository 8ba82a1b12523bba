-- The text under bindings consists of words of 32 bits.
use Rattle.std.proofs.Common.{arith, ◌≡◌, ⊎_elim, ℕ, zero, suc, ◌+◌, ◌-◌, ◌*◌, ◌/◌, ◌%◌, ◌^◌, ◌<◌, ◌≤◌, Bool, true, false, if◌then◌else◌, eqb, length, slice_index, Option, Some, None, refl, sym, subst}
use Rattle.std.specs.Prelude.{option_and_then, slice_get}
use Rattle.std.proofs.lemmas.Bool.{cases_lt}
use Rattle.std.proofs.lemmas.List.{get_or_past}
use Rattle.std.proofs.lemmas.Option.{slice_get_within, get_or_from_slice_get}
use Rattle.mv_num.specs.Bytes.{AreWords}
use Rattle.mv_descriptors.specs.declared.rows.SiteRow.{SiteRow}
use Rattle.mv_descriptors.specs.declared.rows.VariantRow.{VariantRow}
use Rattle.mv_descriptors.specs.declared.rows.PointRow.{PointRow}
use Rattle.mv_descriptors.specs.declared.rows.TargetRow.{TargetRow}
use Rattle.mv_image.specs.Faults.{Rules}
use Rattle.mv_image.specs.Format.{HasWords}
use Rattle.mv_image.specs.Jumps.{distance, jump, bound_words}
use Rattle.mv_image.specs.Patched.{Bindings, at_entry, at_site, after_site, at_point, entry_at, site_at, site_before, point_at, fitting_variant, variant_under, target_under, pointer_number, word_by, word_through, word_under, text_of}
use Rattle.mv_image.specs.Spelling.{Fields}
use Rattle.mv_image.proofs.PatchLaws.{text_at, text_size}
use Rattle.mv_image.proofs.RulesAreTables.{rules_are_tables}

abbrev IsWord : ℕ → Type 0
IsWord w = w < 2 ^ 32

jump_word : (rd from to : ℕ) → rd < 32 → IsWord (jump rd from to)
unfolding jump
jump_word rd from to le =
    let d : ℕ = distance from to in
    sum (d / 1048576 % 2) (d / 2 % 1024) (d / 2048 % 2) (d / 4096 % 256) (omega arith) (omega arith) (omega arith) (omega arith)
  where
    sum : (p q s t : ℕ) → p < 2 → q < 1024 → s < 2 → t < 256 → p * 2147483648 + q * 2097152 + s * 1048576 + t * 4096 + rd * 128 + 111 < 2 ^ 32
    sum p q s t a b c e = omega (arith, a, b, c, e, le)

-- ---- what a target puts there

bound_word : (check at target j : ℕ) → IsWord (slice_index (bound_words check at target) j)
unfolding bound_words
bound_word check at target zero = jump_word 6 at (check + 8) (omega arith)
bound_word check at target (suc zero) = omega arith
bound_word check at target (suc (suc zero)) = omega arith
bound_word check at target (suc (suc (suc zero))) = jump_word 1 (at + 12) target (omega arith)
bound_word check at target (suc (suc (suc (suc j)))) = omega arith

-- ---- what a variant puts there

-- its inline words
abbrev AreInline : Option VariantRow → Type 0
AreInline None = Unit {0}
AreInline (Some v) = AreWords v.words

either : (b : Bool) (m n : ℕ) → IsWord m → IsWord n → IsWord (if b then m else n)
either true m n h k = h
either false m n h k = k

entry_word : (a word : ℕ) (o : Option VariantRow) → IsWord word → IsWord (at_entry a word o)
entry_word a word None h = h
entry_word a word (Some v) h = jump_word 0 a v.address (omega arith)

site_word : (a word : ℕ) (o : Option VariantRow) → AreInline o → IsWord word → IsWord (at_site a word o)
site_word a word None are h = h
site_word a word (Some v) are h = either (eqb v.inlined 1) (slice_index v.words 0) (jump 1 a v.address) (are 0) (jump_word 1 a v.address (omega arith))

after_word : (a word : ℕ) (o : Option VariantRow) → AreInline o → IsWord word → IsWord (after_site a word o)
after_word a word None are h = h
after_word a word (Some v) are h = either (eqb v.inlined 1) (slice_index v.words 1) 19 (are 1) (omega arith)

module _ (image : Fields) (r : Rules image) (bound : Bindings) where
  point_word : (point : PointRow) (a word : ℕ) (o : Option TargetRow) → IsWord word → IsWord (at_point image point a word o)
  point_word point a word None h = h
  point_word point a word (Some t) h = bound_word image.check point.address t.entry ((a - point.address) / 4)

  abbrev words : HasWords image
  words = (rules_are_tables image r).0.words

  inline_words : (n : Option ℕ) → AreInline (option_and_then (slice_get image.variants) n)
  inline_words None = tt
  inline_words (Some n) = found (slice_get image.variants n) (λ v is. is)
    where
      found : (o : Option VariantRow) → ((v : VariantRow) → o ≡ Some v → slice_get image.variants n ≡ Some v) → AreInline o
      found None there = tt
      found (Some v) there =
          let is = there v refl in
          subst (λ (w : VariantRow). AreWords w.words) (get_or_from_slice_get image.variants n v v is) (words.inlined n v (slice_get_within image.variants n v is))

  variant_words : (f : ℕ) → AreInline (variant_under image f (bound f))
  unfolding variant_under
  variant_words f = inline_words (option_and_then (fitting_variant image f) (bound f))

  by_word : (a word : ℕ) (e : Option ℕ) (s t : Option SiteRow) → IsWord word → IsWord (word_by image bound a word e s t)
  by_word a word (Some f) s t h = entry_word a word (variant_under image f (bound f)) h
  by_word a word None (Some site) t h = site_word a word (variant_under image site.function (bound site.function)) (variant_words site.function) h
  by_word a word None None (Some site) h = after_word a word (variant_under image site.function (bound site.function)) (variant_words site.function) h
  by_word a word None None None h = h

  through_word : (a word : ℕ) (o : Option PointRow) → IsWord word → IsWord (word_through image bound a word o)
  through_word a word None h = by_word a word (entry_at image a) (site_at image a) (site_before image a) h
  through_word a word (Some point) h = point_word point a word (target_under image (bound (pointer_number image point.pointer))) h

  under_word : (a word : ℕ) → IsWord word → IsWord (word_under image bound a word)
  unfolding word_under
  under_word a word h = through_word a word (point_at image a) h

  pub text_words : AreWords (text_of image bound)
  text_words i = ⊎_elim within past (cases_lt i (length image.text))
    where
      within : i < length image.text → IsWord (slice_index (text_of image bound) i)
      within lt = subst IsWord (sym (text_at image bound i lt)) (under_word (4096 + 4 * i) (slice_index image.text i) (words.text i))

      past : length image.text ≤ i → IsWord (slice_index (text_of image bound) i)
      past le =
          let size = text_size image bound in
          let none : slice_index (text_of image bound) i ≡ 0 = get_or_past (text_of image bound) i 0 (omega (arith, size, le)) in omega (arith, none)
