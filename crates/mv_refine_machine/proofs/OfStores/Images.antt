-- The texts of an image under bindings.
use Rattle.std.proofs.Common.{◌≡◌, ◌≢◌, ⊎_elim, ℕ, zero, suc, ◌+◌, ◌-◌, ◌*◌, ◌/◌, ◌^◌, ◌<◌, ◌≤◌, eqb, List, [], ◌∷◌, ◌++◌, length, slice_get, slice_index, Option, Some, None, refl, sym, ap, ◌∙◌, subst, arith}
use Rattle.std.specs.List.{All}
use Rattle.std.specs.Option.{option_and_then}
use Rattle.std.proofs.lemmas.Bool.{cases_lt, cond_both}
use Rattle.std.proofs.lemmas.List.{get_or_past}
use Rattle.std.proofs.lemmas.List.Elements.{All-weaker}
use Rattle.std.proofs.lemmas.Option.{slice_get_within, get_or_from_slice_get, slice_get-get_or}
use Rattle.mv_num.specs.Bytes.{AreWords}
use Rattle.mv_descriptors.specs.declared.rows.VariantRow.{VariantRow}
use Rattle.mv_descriptors.specs.declared.rows.SiteRow.{SiteRow}
use Rattle.mv_descriptors.specs.declared.rows.PointRow.{PointRow}
use Rattle.mv_descriptors.specs.declared.rows.TargetRow.{TargetRow}
use Rattle.mv_image.specs.Spelling.{Fields}
use Rattle.mv_image.specs.Faults.{Rules}
use Rattle.mv_image.specs.Jumps.{distance, jal_word, jump, bound_words}
use Rattle.mv_image.specs.Patched.{Bindings, variant_under, target_under, pointer_number, at_entry, at_site, after_site, at_point, entry_at, site_at, site_before, point_at, word_by, word_through, word_under, text_of, ShowsAt}
use Rattle.mv_image.proofs.PatchLaws.{text_size, text_at}
use Rattle.mv_image.proofs.RulesAreTables.{rules_are_tables}
use Rattle.mv_image.proofs.Limits.{is_within}
use Rattle.mv_fetch.specs.Held.{Room, choices}
use Rattle.mv_patch.specs.declared.prepared.Pair.{Pair}
use Rattle.mv_patch.specs.Pairs.{place, pairs_between, IsDifference}
use Rattle.mv_patch.specs.Stores.{stored_all}
use Rattle.mv_refine_machine.specs.Stores.Stores.{AreTexts}
use Rattle.mv_refine_machine.specs.Stores.Between.{IsSettled}
use Rattle.mv_refine_machine.specs.Stores.Laws.{IsNeverPatched}
use Rattle.mv_patch.specs.Tables.{patchable}
use Rattle.mv_patch.proofs.Pairs.{pairs_march, all_differ}
use Rattle.mv_patch.proofs.TablePairs.{differs_under, few_pairs}
use Rattle.mv_refine_machine.proofs.OfStores.Stored.{is_stored}

-- ---- the words of an image

text_words : (a : Fields) → Rules a → AreWords a.text
text_words a r = (rules_are_tables a r).0.words.text

-- ---- words under bindings

jump_word : (rd from to : ℕ) → rd < 32 → jump rd from to < 2 ^ 32
unfolding jump
jump_word rd from to le = jal_is_word rd (distance from to) le
  where
    jal_is_word : (rd d : ℕ) → rd < 32 → jal_word rd d < 2 ^ 32
    jal_is_word rd d le = omega arith

-- the words of the inline body of a variant
abbrev HasWords : Option VariantRow → Type 0
HasWords o = (v : VariantRow) → o ≡ Some v → (slice_index v.words 0 < 2 ^ 32) × (slice_index v.words 1 < 2 ^ 32)

under_has_words : (a : Fields) → Rules a → (f : ℕ) (values : Option (List ℕ)) → HasWords (variant_under a f values)
unfolding variant_under
under_has_words a r f values v e = by_index _ e
  where
    by_index : (o : Option ℕ) → option_and_then (slice_get a.variants) o ≡ Some v → (slice_index v.words 0 < 2 ^ 32) × (slice_index v.words 1 < 2 ^ 32)
    by_index None q = absurd (cc)
    by_index (Some k) q =
        let words = (rules_are_tables a r).0.words.inlined k v (slice_get_within a.variants k v q) in
        let is : AreWords v.words = subst (λ (x : VariantRow). AreWords x.words) (get_or_from_slice_get a.variants k v v q) words in
        (is 0, is 1)

entry_word : (a word : ℕ) (o : Option VariantRow) → word < 2 ^ 32 → at_entry a word o < 2 ^ 32
entry_word a word None h = h
entry_word a word (Some v) h = jump_word 0 a v.address (omega arith)

site_word : (a word : ℕ) (o : Option VariantRow) → HasWords o → word < 2 ^ 32 → at_site a word o < 2 ^ 32
site_word a word None has h = h
site_word a word (Some v) has h =
    cond_both (eqb v.inlined 1) _ _ (λ (x : ℕ). x < 2 ^ 32) (λ t. (has v refl).0) (λ t. jump_word 1 a v.address (omega arith))

next_word : (a word : ℕ) (o : Option VariantRow) → HasWords o → word < 2 ^ 32 → after_site a word o < 2 ^ 32
next_word a word None has h = h
next_word a word (Some v) has h = cond_both (eqb v.inlined 1) _ _ (λ (x : ℕ). x < 2 ^ 32) (λ t. (has v refl).1) (λ t. omega arith)

by_word : (image : Fields) → Rules image → (bound : Bindings) (a word : ℕ) (e : Option ℕ) (s t : Option SiteRow) → word < 2 ^ 32 → word_by image bound a word e s t < 2 ^ 32
by_word image r bound a word (Some f) s t h = entry_word a word (variant_under image f (bound f)) h
by_word image r bound a word None (Some k) t h = site_word a word (variant_under image k.function (bound k.function)) (under_has_words image r k.function (bound k.function)) h
by_word image r bound a word None None (Some k) h = next_word a word (variant_under image k.function (bound k.function)) (under_has_words image r k.function (bound k.function)) h
by_word image r bound a word None None None h = h

-- the words of a slot that is bound
bound_are_words : (check at target : ℕ) → AreWords (bound_words check at target)
unfolding bound_words
bound_are_words check at target zero = jump_word 6 at (check + 8) (omega arith)
bound_are_words check at target (suc zero) = omega arith
bound_are_words check at target (suc (suc zero)) = omega arith
bound_are_words check at target (suc (suc (suc zero))) = jump_word 1 (at + 12) target (omega arith)
bound_are_words check at target (suc (suc (suc (suc k)))) = omega arith

point_word : (image : Fields) (point : PointRow) (a word : ℕ) (o : Option TargetRow) → word < 2 ^ 32 → at_point image point a word o < 2 ^ 32
point_word image point a word None h = h
point_word image point a word (Some target) h = bound_are_words image.check point.address target.entry ((a - point.address) / 4)

through_word : (image : Fields) → Rules image → (bound : Bindings) (a word : ℕ) (point : Option PointRow) → word < 2 ^ 32 → word_through image bound a word point < 2 ^ 32
through_word image r bound a word None h = by_word image r bound a word (entry_at image a) (site_at image a) (site_before image a) h
through_word image r bound a word (Some point) h = point_word image point a word (target_under image (bound (pointer_number image point.pointer))) h

under_word : (image : Fields) → Rules image → (bound : Bindings) (a word : ℕ) → word < 2 ^ 32 → word_under image bound a word < 2 ^ 32
unfolding word_under
under_word image r bound a word h = through_word image r bound a word (point_at image a) h

under_words : (image : Fields) → Rules image → (bound : Bindings) → AreWords (text_of image bound)
under_words image r bound i = ⊎_elim
    (λ (lt : i < length image.text).
    let e = text_at image bound i lt in
    let w = under_word image r bound (4096 + 4 * i) (slice_index image.text i) (text_words image r i) in
    omega (arith, e, w))
    (λ (le : length image.text ≤ i).
    let size = text_size image bound in
    let none = get_or_past (text_of image bound) i 0 (omega (arith, le, size)) in
    omega (arith, none))
    (cases_lt i (length image.text))

pub texts_are : (image : Fields) (some other : Bindings) → Rules image → AreTexts (text_of image some) (text_of image other)
texts_are image some other r =
    let some_size = text_size image some in
    let few = (is_within image r).text in
    record {
      size = text_size image other ∙ sym some_size;
      old_words = under_words image r some;
      new_words = under_words image r other;
      lies = omega (arith, some_size, few);
    }

-- ---- the word under bindings at an index

pub under_at : (image : Fields) (bound : Bindings) (k w : ℕ) → slice_get image.text k ≡ Some w → slice_get (text_of image bound) k ≡ Some (word_under image bound (place k) w)
under_at image bound k w h =
    let within = slice_get_within image.text k w h in
    let size = text_size image bound in
    slice_get-get_or (text_of image bound) k 0 (omega (arith, within, size))
    ∙ ap (λ (x : ℕ). Some x) (text_at image bound k within ∙ ap (word_under image bound (place k)) (get_or_from_slice_get image.text k w 0 h))

pub all_show : (image : Fields) (some other : Bindings) → All (λ (pair : Pair). (f : ℕ) × (some f ≢ other f) × ShowsAt image f pair.address) (pairs_between (text_of image some) (text_of image other))
all_show image some other =
    let old : List ℕ = text_of image some in
    let new : List ℕ = text_of image other in
    All-weaker (IsDifference old new) (λ (pair : Pair). (f : ℕ) × (some f ≢ other f) × ShowsAt image f pair.address)
    (λ pair h. (
    let x = differs_under image some other h.index h.word pair.word h.before h.after h.differs in
    (x.0, x.1, subst (λ (a : ℕ). ShowsAt image x.0 a) (sym h.address) x.2)))
    (pairs_between old new) (all_differ old new 0 (pairs_between old new) (pairs_march old new))

-- ---- where no binding shows

never_under : (image : Fields) (bound : Bindings) (a w : ℕ) → IsNeverPatched image a → word_under image bound a w ≡ w
unfolding word_under
never_under image bound a w h = rw (h.no_point, h.no_entry, h.no_site, h.no_site_before) refl

pub plain_stays : (image : Fields) (some other : Bindings) → Rules image → (room : Room) → IsSettled (text_of image some) room → (done left : List Pair) → done ++ left ≡ pairs_between (text_of image some) (text_of image other)
    → (k w : ℕ) → IsNeverPatched image (place k) → slice_get image.text k ≡ Some w → choices (stored_all room done).held (place k) ≡ w ∷ []
plain_stays image some other r room settled done left joined k w never h =
    let stored = is_stored (text_of image some) (text_of image other) (texts_are image some other r) room settled done left joined in
    stored.same k w
    (under_at image some k w h ∙ ap (λ (x : ℕ). Some x) (never_under image some (place k) w never))
    (under_at image other k w h ∙ ap (λ (x : ℕ). Some x) (never_under image other (place k) w never))

-- ---- how many there are

pub pairs_fit : (image : Fields) (some other : Bindings) → Rules image → 1 + 2 * length (pairs_between (text_of image some) (text_of image other)) ≤ 131072
unfolding patchable
pairs_fit image some other r =
    let few = few_pairs image r some other in
    let limits = is_within image r in
    let functions = limits.functions in
    let places = limits.places in
    omega (arith, few, functions, places)
