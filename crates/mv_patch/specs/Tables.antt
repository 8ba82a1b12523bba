-- The addresses of text at which bindings may show, by the tables of an image, and where two texts differ at some addresses.
use Rattle.std.specs.Prelude.{ℕ, ◌+◌, ◌-◌, ◌*◌, ◌/◌, ◌==◌, if◌then◌else◌, Bool, ◌&&◌, ◌||◌, ◌≤◌, nat_lt, nat_le, List, [], ◌∷◌, length, map, drop, slice_index}
use Rattle.std.specs.List.{flat_map}
use Rattle.mv_descriptors.specs.declared.rows.FunctionRow.{FunctionRow}
use Rattle.mv_descriptors.specs.declared.rows.SiteRow.{SiteRow}
use Rattle.mv_descriptors.specs.declared.rows.PointRow.{PointRow}
use Rattle.mv_image.specs.Spelling.{Fields}
use Rattle.mv_image.specs.Patched.{Bindings, text_of, slot_places}
use Rattle.mv_patch.specs.declared.prepared.Pair.{Pair}
use Rattle.mv_patch.specs.declared.changes.Passed.{Passed}
use Rattle.mv_patch.specs.Pairs.{text_start, pair_of}

-- the entries of the functions, the two words of each site, and the four of each pointer site

abbrev pub entries : Fields → List ℕ
entries image = map (λ (row : FunctionRow). row.entry) image.functions

abbrev pub site_words : List SiteRow → List ℕ
site_words sites = flat_map (λ (site : SiteRow). site.address ∷ (site.address + 4) ∷ []) sites

abbrev pub point_words : List PointRow → List ℕ
point_words points = flat_map (λ (point : PointRow). slot_places point) points

-- two ascending lists as one: first what is below the first of the other list

abbrev pub merged_behind : ℕ → (List ℕ → List ℕ) → List ℕ → List ℕ
merged_behind x later [] = x ∷ later []
merged_behind x later (y ∷ ys) = if nat_lt x y then x ∷ later (y ∷ ys) else y ∷ merged_behind x later ys

unfoldable pub merged : List ℕ → List ℕ → List ℕ
merged [] ys = ys
merged (x ∷ xs) ys = merged_behind x (merged xs) ys

-- how many words of text bindings can change: the entry of each function, the two words of each site and the four of each pointer site
unfoldable pub patchable : Fields → ℕ
patchable image = length image.functions + 2 * length image.sites + 4 * length image.points

-- the addresses of these words, in order
abbrev pub patched_places : Fields → List ℕ
patched_places image = merged (merged (entries image) (site_words image.sites)) (point_words image.points)

-- the word of text at an address
abbrev pub word_of : List ℕ → ℕ → ℕ
word_of text a = slice_index text ((a - text_start) / 4)

-- the pair of an address at which one word becomes another, none where they are the same
abbrev pub change : (a old new : ℕ) → List Pair
change a old new = if old == new then [] else pair_of a new ∷ []

-- the pairs of two texts at some addresses
unfoldable pub pairs_at : (old new : List ℕ) → (places : List ℕ) → List Pair
pairs_at old new places = flat_map (λ (a : ℕ). change a (word_of old a) (word_of new a)) places

-- ---- the addresses of the tables one after the other, where so many entries, words of sites and words of pointer sites have been passed

-- the pair of an address under two bindings
abbrev pub change_at : Fields → (some other : Bindings) → ℕ → List Pair
change_at image some other a = change a (word_of (text_of image some) a) (word_of (text_of image other) a)

-- the pairs of some addresses
abbrev pub changes_at : Fields → (some other : Bindings) → List ℕ → List Pair
changes_at image some other places = pairs_at (text_of image some) (text_of image other) places

-- no more are passed than there are
pub record IsPassed (image : Fields) (passed : Passed) : Type 0 where
  pub entries : passed.entries ≤ length image.functions
  pub sites : passed.sites ≤ 2 * length image.sites
  pub points : passed.points ≤ 4 * length image.points

abbrev pub count_passed : Passed → ℕ
count_passed passed = passed.entries + passed.sites + passed.points

-- the addresses that are left
abbrev pub places_left : Fields → Passed → List ℕ
places_left image passed =
    merged (merged (drop passed.entries (entries image)) (drop passed.sites (site_words image.sites))) (drop passed.points (point_words image.points))

-- whether an entry comes next
abbrev pub is_entry_next : Fields → (function word : ℕ) → Bool
is_entry_next image function word =
    nat_lt function (length image.functions) && (nat_le (2 * length image.sites) word || nat_lt (slice_index (entries image) function) (slice_index (site_words image.sites) word))

-- whether a word of a pointer site comes next
abbrev pub is_point_next : Fields → (function word point : ℕ) → Bool
is_point_next image function word point =
    nat_lt point (4 * length image.points)
    && (nat_le (length image.functions) function || nat_le (slice_index (point_words image.points) point) (slice_index (entries image) function))
    && (nat_le (2 * length image.sites) word || nat_le (slice_index (point_words image.points) point) (slice_index (site_words image.sites) word))
