-- The numbers of fields that fit the format are words of 32 bits.
use Rattle.std.proofs.Common.{ℕ, zero, suc, ◌*◌, ◌^◌, ◌<◌, ◌≤◌, eqb, false, List, [], ◌∷◌, ◌++◌, length, slice_index, get_or, All, refl, ◌≡◌, sym, subst, arith, inl, inr}
use Rattle.std.specs.List.{flat_map}
use Rattle.std.specs.Prelude.{sum_by}
use Rattle.std.proofs.lemmas.Bool.{cases_Bool, cases_lt}
use Rattle.std.proofs.lemmas.List.{get_or_past}
use Rattle.std.proofs.lemmas.List.Concat.{flat_map-cons}
use Rattle.std.proofs.lemmas.List.Sums.{sum_by-le}
use Rattle.mv_num.specs.Bytes.{AreWords}
use Rattle.mv_num.specs.Kinds.{kind_number}
use Rattle.mv_descriptors.specs.Widths.{switch_words, function_words, variant_words, guard_words, site_words, pointer_words, point_words, target_words}
use Rattle.mv_descriptors.specs.WidthLaws.{kind_small}
use Rattle.mv_descriptors.specs.declared.rows.SwitchRow.{SwitchRow}
use Rattle.mv_descriptors.specs.declared.rows.FunctionRow.{FunctionRow}
use Rattle.mv_descriptors.specs.declared.rows.VariantRow.{VariantRow}
use Rattle.mv_descriptors.specs.declared.rows.GuardRow.{GuardRow}
use Rattle.mv_descriptors.specs.declared.rows.SiteRow.{SiteRow}
use Rattle.mv_descriptors.specs.declared.rows.PointerRow.{PointerRow}
use Rattle.mv_descriptors.specs.declared.rows.PointRow.{PointRow}
use Rattle.mv_descriptors.specs.declared.rows.TargetRow.{TargetRow}
use Rattle.mv_image.specs.Places.{magic}
use Rattle.mv_image.specs.Spelling.{Fields, joined, later_of, header_of, words_in}
use Rattle.mv_image.specs.Format.{IsTyped, FitsFormat}
use Rattle.mv_image.proofs.FieldRules.{of_header}
use Rattle.mv_image.proofs.ImageRules.{later_words}
use Rattle.mv_image.proofs.NameRules.{LengthsKeep, names_count, joined_length, lengths_keep}
use Rattle.mv_num.proofs.Lists.{all_tail, all_head}

no_words : AreWords []
no_words i = omega arith

pub word_more : (w : ℕ) (ws : List ℕ) → w < 2 ^ 32 → AreWords ws → AreWords (w ∷ ws)
word_more w ws small fits zero = small
word_more w ws small fits (suc i) = fits i

one_word : (a : ℕ) → a < 2 ^ 32 → AreWords (a ∷ [])
one_word a ha = word_more a [] ha no_words

two_words : (a b : ℕ) → a < 2 ^ 32 → b < 2 ^ 32 → AreWords (a ∷ b ∷ [])
two_words a b ha hb = word_more a (b ∷ []) ha (one_word b hb)

three_words : (a b c : ℕ) → a < 2 ^ 32 → b < 2 ^ 32 → c < 2 ^ 32 → AreWords (a ∷ b ∷ c ∷ [])
three_words a b c ha hb hc = word_more a (b ∷ c ∷ []) ha (two_words b c hb hc)

four_words : (a b c d : ℕ) → a < 2 ^ 32 → b < 2 ^ 32 → c < 2 ^ 32 → d < 2 ^ 32 → AreWords (a ∷ b ∷ c ∷ d ∷ [])
four_words a b c d ha hb hc hd = word_more a (b ∷ c ∷ d ∷ []) ha (three_words b c d hb hc hd)

pub words_append : (a b : List ℕ) → AreWords a → AreWords b → AreWords (a ++ b)
words_append [] b ha hb = hb
words_append (x ∷ a) b ha hb = word_more x (a ++ b) (ha 0) (words_append a b (λ k. ha (suc k)) hb)

words_flat : {R : Type 0} (f : R → List ℕ) (rows : List R) → All (λ r. AreWords (f r)) rows → AreWords (flat_map f rows)
words_flat f [] all = no_words
words_flat f (x ∷ rows) all =
    subst AreWords (sym (flat_map-cons f x rows))
    (words_append (f x) (flat_map f rows) (all_head (λ r. AreWords (f r)) x rows all) (words_flat f rows (all_tail (λ r. AreWords (f r)) x rows all)))

switches_small : (a : Fields) → IsTyped a → FitsFormat a → All (λ (row : SwitchRow). AreWords (switch_words row)) a.switches
switches_small a t h k d lt =
    let row : SwitchRow = get_or a.switches k d in
    let fits = h.fit.switches k d lt in
    let limits = h.limits in
    words_append (row.length ∷ row.address ∷ kind_number row.kind ∷ row.count ∷ []) row.values
    (four_words row.length row.address (kind_number row.kind) row.count (omega (arith, fits.name)) (omega (arith, fits.address.within, limits.globals)) (omega (arith, kind_small row.kind)) (omega (arith, fits.count)))
    (t.words.values k d lt)

functions_small : (a : Fields) → FitsFormat a → All (λ (row : FunctionRow). AreWords (function_words row)) a.functions
functions_small a h k d lt =
    let row : FunctionRow = get_or a.functions k d in
    let fits = h.fit.functions k d lt in
    let clean = h.unused.functions k d lt in
    let limits = h.limits in
    words_append (row.length ∷ row.entry ∷ row.count ∷ []) (row.switches ++ row.variants ∷ [])
    (three_words row.length row.entry row.count (omega (arith, fits.name)) (omega (arith, fits.entry.within, limits.text)) (omega (arith, fits.count)))
    (words_append row.switches (row.variants ∷ [])
    (λ i. elim (cases_lt i row.count) [
      | inl used ↦ omega (arith, fits.switches i used, limits.switches)
      | inr unused ↦ omega (arith, clean i unused)
    ])
    (one_word row.variants (omega (arith, fits.variants))))

variants_small : (a : Fields) → IsTyped a → FitsFormat a → All (λ (row : VariantRow). AreWords (variant_words row)) a.variants
variants_small a t h k d lt =
    let row : VariantRow = get_or a.variants k d in
    let fits = h.fit.variants k d lt in
    let limits = h.limits in
    words_append (row.address ∷ row.inlined ∷ []) (row.words ++ row.guards ∷ [])
    (two_words row.address row.inlined (omega (arith, fits.address.within, limits.text)) (omega (arith, fits.inlined)))
    (words_append row.words (row.guards ∷ []) (t.words.inlined k d lt) (one_word row.guards (omega (arith, fits.guards))))

guards_small : (a : Fields) → IsTyped a → All (λ (row : GuardRow). AreWords (guard_words row)) a.guards
guards_small a t k d lt =
    let row : GuardRow = get_or a.guards k d in
    words_append row.low row.high (t.words.lowest k d lt) (t.words.highest k d lt)

sites_small : (a : Fields) → FitsFormat a → All (λ (row : SiteRow). AreWords (site_words row)) a.sites
sites_small a h k d lt =
    let row : SiteRow = get_or a.sites k d in
    let fits = h.fit.sites k d lt in
    let limits = h.limits in
    two_words row.address row.function (omega (arith, fits.address.within, limits.text)) (omega (arith, fits.function, limits.functions))

pointers_small : (a : Fields) → FitsFormat a → All (λ (row : PointerRow). AreWords (pointer_words row)) a.pointers
pointers_small a h k d lt =
    let row : PointerRow = get_or a.pointers k d in
    let fits = h.fit.pointers k d lt in
    let limits = h.limits in
    two_words row.length row.address (omega (arith, fits.name)) (omega (arith, fits.address.within, limits.globals))

points_small : (a : Fields) → FitsFormat a → All (λ (row : PointRow). AreWords (point_words row)) a.points
points_small a h k d lt =
    let row : PointRow = get_or a.points k d in
    let fits = h.fit.points k d lt in
    let limits = h.limits in
    two_words row.address row.pointer (omega (arith, fits.address.within, limits.text)) (omega (arith, fits.pointer, limits.pointers))

targets_small : (a : Fields) → FitsFormat a → All (λ (row : TargetRow). AreWords (target_words row)) a.targets
targets_small a h k d lt =
    let row : TargetRow = get_or a.targets k d in
    let fits = h.fit.targets k d lt in
    let limits = h.limits in
    two_words row.length row.entry (omega (arith, fits.name)) (omega (arith, fits.entry.within, limits.text))

names_small : (a : Fields) → FitsFormat a → length (joined a.names) < 2 ^ 32
names_small a h =
    let few : LengthsKeep a (λ (n : ℕ). n ≤ 63) = record {
      switches = λ k d lt. (h.fit.switches k d lt).name;
      functions = λ k d lt. (h.fit.functions k d lt).name;
      pointers = λ k d lt. (h.fit.pointers k d lt).name;
      targets = λ k d lt. (h.fit.targets k d lt).name;
    } in
    let most : sum_by length a.names ≤ length a.names * 63 = sum_by-le length 63 a.names (lengths_keep a (λ (n : ℕ). n ≤ 63) h.names.lengths few) in
    let limits = h.limits in
    omega (arith, most, joined_length a.names, names_count a h.names.lengths, limits.switches, limits.functions, limits.pointers, limits.targets)

-- the words of the header that both versions have
first_words : Fields → List ℕ
first_words a = magic ∷ a.version ∷ a.entry ∷ length a.text ∷ length a.globals ∷ length a.switches ∷ length a.functions ∷ length a.variants ∷ length a.guards ∷ length a.sites ∷ length (joined a.names) ∷ 0 ∷ []

version_small : (a : Fields) → FitsFormat a → a.version < 2 ^ 32
version_small a h =
    elim h.version.known [
      | inl e ↦ omega (arith, e)
      | inr e ↦ omega (arith, e)
    ]

first_small : (a : Fields) → FitsFormat a → AreWords (first_words a)
unfolding first_words
first_small a h i =
    let limits = h.limits in
    of_header (λ (k : ℕ). slice_index (first_words a) k < 2 ^ 32)
    (omega arith) (version_small a h) (omega (arith, limits.entry.within, limits.text)) (omega (arith, limits.text)) (omega (arith, limits.globals)) (omega (arith, limits.switches)) (omega (arith, limits.functions))
    (omega (arith, limits.variants)) (omega (arith, limits.guards)) (omega (arith, limits.sites)) (names_small a h) (omega arith) i
    (λ high. rw (get_or_past (first_words a) i 0 high) (omega arith))

check_small : (a : Fields) → FitsFormat a → a.check < 2 ^ 32
check_small a h =
    elim (cases_lt 0 (length a.points)) [
      | inl some ↦ omega (arith, (h.check.check some).within, h.limits.text)
      | inr none ↦ omega (arith, h.check.none (omega arith))
    ]

no_later : (a : Fields) → eqb a.version 2 ≡ false → later_of a ≡ []
unfolding later_of
no_later a e = rw e refl

later_small : (a : Fields) → FitsFormat a → AreWords (later_of a)
later_small a h =
    let limits = h.limits in
    elim (cases_Bool (eqb a.version 2)) [
      | inl e ↦ subst AreWords (sym (later_words a e)) (four_words _ _ _ _ (omega (arith, limits.pointers)) (omega (arith, limits.points)) (omega (arith, limits.targets)) (check_small a h))
      | inr e ↦ subst AreWords (sym (no_later a e)) no_words
    ]

header_small : (a : Fields) → FitsFormat a → AreWords (header_of a)
unfolding header_of first_words
header_small a h = words_append (first_words a) (later_of a) (first_small a h) (later_small a h)

pub are_words : (a : Fields) → IsTyped a → FitsFormat a → AreWords (words_in a)
unfolding words_in
are_words a t h =
    let text = words_append (header_of a) a.text (header_small a h) t.words.text in
    let globals = words_append (header_of a ++ a.text) a.globals text t.words.globals in
    let switches = words_append (header_of a ++ a.text ++ a.globals) (flat_map switch_words a.switches) globals (words_flat switch_words a.switches (switches_small a t h)) in
    let functions = words_append _ (flat_map function_words a.functions) switches (words_flat function_words a.functions (functions_small a h)) in
    let variants = words_append _ (flat_map variant_words a.variants) functions (words_flat variant_words a.variants (variants_small a t h)) in
    let guards = words_append _ (flat_map guard_words a.guards) variants (words_flat guard_words a.guards (guards_small a t)) in
    let sites = words_append _ (flat_map site_words a.sites) guards (words_flat site_words a.sites (sites_small a h)) in
    let pointers = words_append _ (flat_map pointer_words a.pointers) sites (words_flat pointer_words a.pointers (pointers_small a h)) in
    let points = words_append _ (flat_map point_words a.points) pointers (words_flat point_words a.points (points_small a h)) in
    words_append _ (flat_map target_words a.targets) points (words_flat target_words a.targets (targets_small a h))
