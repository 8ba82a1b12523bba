-- The pairs of the texts of two bindings, at the addresses of the tables.
use Rattle.std.proofs.Common.{◌≡◌, ◌≢◌, ℕ, ◌-◌, ◌/◌, ◌<◌, ◌≤◌, List, length, slice_get, slice_index, Some, sym, ap, ◌∙◌, subst, arith}
use Rattle.std.proofs.lemmas.Option.{slice_get_within}
use Rattle.mv_image.specs.Spelling.{Fields}
use Rattle.mv_image.specs.Faults.{Rules}
use Rattle.mv_image.specs.Patched.{Bindings, word_under, text_of, ShowsAt}
use Rattle.mv_image.proofs.PatchLaws.{text_size, text_at, only_there}
use Rattle.mv_patch.specs.Pairs.{text_start, place, pairs_between}
use Rattle.mv_patch.specs.Tables.{patchable, patched_places, word_of, pairs_at}
use Rattle.mv_patch.proofs.Merged.{Climbs}
use Rattle.mv_patch.proofs.PlacePairs.{word_there, at_places, few_at}
use Rattle.mv_patch.proofs.TablePlaces.{shown_listed, places_climb, places_count}

-- the word under bindings at an address of text
pub word_under_at : (image : Fields) (bound : Bindings) (a k : ℕ) → a ≡ place k → k < length image.text → word_of (text_of image bound) a ≡ word_under image bound a (word_of image.text a)
word_under_at image bound a k e lt =
    let index : (a - text_start) / 4 ≡ k = omega (arith, e) in
    ap (slice_index (text_of image bound)) index ∙ text_at image bound k lt ∙ ap (λ (b : ℕ). word_under image bound b (slice_index image.text k)) (sym e)
    ∙ ap (λ (i : ℕ). word_under image bound a (slice_index image.text i)) (sym index)

-- where the texts of two bindings differ, a function shows that is bound differently
pub differs_under : (image : Fields) (some other : Bindings) (k o n : ℕ) → slice_get (text_of image some) k ≡ Some o → slice_get (text_of image other) k ≡ Some n → o ≢ n → (f : ℕ) × (some f ≢ other f) × ShowsAt image f (place k)
differs_under image some other k o n e h ne =
    let a : ℕ = place k in
    let within = slice_get_within (text_of image some) k o e in
    let size = text_size image some in
    let lt : k < length image.text = omega (arith, within, size) in
    let at : a ≡ place k = omega arith in
    let first : o ≡ word_of (text_of image some) a = (let q = word_there (text_of image some) a k at within in cc) in
    let second : n ≡ word_of (text_of image other) a = (let q = word_there (text_of image other) a k at (slice_get_within (text_of image other) k n h) in cc) in
    only_there image some other a (word_of image.text a)
    (λ same. ne (first ∙ word_under_at image some a k at lt ∙ same ∙ sym (word_under_at image other a k at lt) ∙ sym second))

-- the tables tell the pairs
pub tables_tell : (image : Fields) → Rules image → (some other : Bindings) → pairs_at (text_of image some) (text_of image other) (patched_places image) ≡ pairs_between (text_of image some) (text_of image other)
tables_tell image r some other =
    let old : List ℕ = text_of image some in
    let new : List ℕ = text_of image other in
    let size = text_size image some in
    at_places old new (text_size image other ∙ sym size) (patched_places image)
    (subst (λ (n : ℕ). Climbs n 0 (patched_places image)) (sym size) (places_climb image r))
    (λ k o n e f ne. (let x = differs_under image some other k o n e f ne in shown_listed image x.0 (place k) x.2))

-- and so there are no more than words that may be patched
pub few_pairs : (image : Fields) → Rules image → (some other : Bindings) → length (pairs_between (text_of image some) (text_of image other)) ≤ patchable image
few_pairs image r some other =
    let few = few_at (text_of image some) (text_of image other) (patched_places image) in
    let count = places_count image in
    let tell = ap length (tables_tell image r some other) in
    omega (arith, few, count, tell)
