-- What the reader makes of bytes that spell an image is that image.
use Rattle.std.proofs.Common.{◌≡◌, ℕ, zero, suc, ◌+◌, ◌-◌, ◌*◌, ◌/◌, ◌<◌, ◌≤◌, Bool, true, false, ltb, eqb, ◌||◌, not, List, [], ◌∷◌, ◌++◌, length, take, drop, map, slice_index, slice_range, refl, sym, ap, subst, ◌∙◌, arith, inl, inr, All, get_or, ◌⊎◌, append_assoc}
use Rattle.std.specs.Prelude.{replicate}
use Rattle.std.specs.List.{flat_map}
use Rattle.std.proofs.Math.Seq.{take-length}
use Rattle.std.proofs.Common.{eq-eqb}
use Rattle.std.proofs.lemmas.Bool.{lt-ltb, le-ltb, cases_lt, eqb-true, cases_Bool, or_cases}
use Rattle.std.proofs.lemmas.List.{get_or-take, get_or-drop, get_or_past, length-take, length-drop, take-append-drop, nil_from_length}
use Rattle.byteorder.specs.Endian.{little_number}
use Rattle.mv_num.specs.Bytes.{words_of, bytes_of, AreBytes, AreWords}
use Rattle.mv_num.proofs.ByteLaws.{number-bytes, length-words_of}
use Rattle.mv_descriptors.specs.Widths.{switch_words, function_words, variant_words, guard_words, site_words, pointer_words, point_words, target_words, SwitchWhole, FunctionWhole, VariantWhole, GuardWhole, SwitchClean, FunctionClean, VariantClean}
use Rattle.mv_descriptors.specs.WidthLaws.{switch_width, function_width, parted}
use Rattle.std.proofs.lemmas.List.Concat.{flat_map-cons}
use Rattle.mv_descriptors.specs.declared.rows.SwitchRow.{SwitchRow}
use Rattle.mv_descriptors.specs.declared.rows.FunctionRow.{FunctionRow}
use Rattle.mv_descriptors.specs.declared.rows.PointerRow.{PointerRow}
use Rattle.mv_descriptors.specs.declared.rows.TargetRow.{TargetRow}
use Rattle.mv_image.specs.Places.{switch_row_words, function_row_words, pointer_row_words, target_row_words, is_second, later_word, pointer_rows, point_rows, target_rows, check_of, pointers_at, points_at, targets_at, pointer_field, target_field, pointer_names_at, target_names_at, magic_place, version_place, names_place, last_place, pointers_place, points_place, targets_place, check_place, entry_address, header_words, text_words, data_words, switch_rows, function_rows, variant_rows, guard_rows, site_rows, name_bytes, data_at, switches_at, functions_at, variants_at, guards_at, sites_at, words_end, switch_field, function_field, name_length, names, sum_below, first_of}
use Rattle.mv_image.specs.Rules.{sums_to_none, header_fits, switch_fits, function_fits, pointer_fits, target_fits, name_fits}
use Rattle.mv_image.specs.Spelling.{Fields, joined, filled, later_of, header_of, words_in, names_in, spelling}
use Rattle.mv_image.specs.Faults.{AllFit, Spelled, Spells, HasNoPointers, lengths_in}
use Rattle.mv_image.specs.Tables.{AreTables}
use Rattle.mv_image.specs.declared.reading.Tables.{Tables}
use Rattle.mv_image.proofs.Judged.{end_of, fits-word, fits-name, end_is}
use Rattle.mv_image.proofs.RowRules.{switches_from, functions_from, variants_from, guards_from, sites_from, pointers_from, points_from, targets_from, end_from, header_word}
use Rattle.mv_image.proofs.RowReads.{index_range, switch_rule, function_rule, pointer_rule, target_rule}
use Rattle.mv_image.proofs.Parts.{range_join, front_join, range_length}
use Rattle.mv_image.proofs.PlaceLaws.{sum_below-none}
use Rattle.mv_num.proofs.Booleans.{and_right}

-- ---- bytes and words

pub bytes_of-take : (n : ℕ) (bytes : List ℕ) → AreBytes bytes → 4 * n ≤ length bytes → bytes_of (take n (words_of bytes)) ≡ take (4 * n) bytes
bytes_of-take zero bytes fits room = refl
bytes_of-take (suc n) [] fits room = absurd (omega arith)
bytes_of-take (suc n) (a ∷ []) fits room = absurd (omega arith)
bytes_of-take (suc n) (a ∷ b ∷ []) fits room = absurd (omega arith)
bytes_of-take (suc n) (a ∷ b ∷ c ∷ []) fits room = absurd (omega arith)
bytes_of-take (suc n) (a ∷ b ∷ c ∷ d ∷ rest) fits room =
    let front = number-bytes a b c d (fits 0) (fits 1) (fits 2) (fits 3) in
    let back = bytes_of-take n rest (λ i. fits (suc (suc (suc (suc i))))) (omega arith) in
    let m : 4 * suc n ≡ suc (suc (suc (suc (4 * n)))) = omega arith in
    ap (λ (x : List ℕ). x ++ bytes_of (take n (words_of rest))) front ∙ ap (λ (x : List ℕ). a ∷ b ∷ c ∷ d ∷ x) back
    ∙ sym (ap (λ (k : ℕ). take k (a ∷ b ∷ c ∷ d ∷ rest)) m)

pub words_are_words : (bytes : List ℕ) → AreBytes bytes → AreWords (words_of bytes)
words_are_words [] fits i = omega arith
words_are_words (a ∷ []) fits i = omega arith
words_are_words (a ∷ b ∷ []) fits i = omega arith
words_are_words (a ∷ b ∷ c ∷ []) fits i = omega arith
words_are_words (a ∷ b ∷ c ∷ d ∷ rest) fits zero = omega (arith, fits 0, fits 1, fits 2, fits 3)
words_are_words (a ∷ b ∷ c ∷ d ∷ rest) fits (suc i) = words_are_words rest (λ k. fits (suc (suc (suc (suc k))))) i

pub take_words : (ws : List ℕ) (n : ℕ) → AreWords ws → AreWords (take n ws)
take_words ws n fits i =
    elim (cases_lt i n) [
      | inl lt ↦ rw (get_or-take n ws i 0 lt) (fits i)
      | inr ge ↦ rw (get_or_past (take n ws) i 0 (omega (arith, length-take n ws))) (omega arith)
    ]

zeros_list : (xs : List ℕ) (n : ℕ) → length xs ≡ n → ((i : ℕ) → i < n → slice_index xs i ≡ 0) → xs ≡ replicate {A = ℕ} n 0
zeros_list [] zero len zeros = refl
zeros_list [] (suc n) len zeros = absurd (omega arith)
zeros_list (x ∷ xs) zero len zeros = absurd (omega arith)
zeros_list (x ∷ xs) (suc n) len zeros =
    let first : x ≡ 0 = zeros 0 (omega arith) in
    let rest : xs ≡ replicate {A = ℕ} n 0 = zeros_list xs n (omega arith) (λ i lt. zeros (suc i) (omega (arith, lt))) in
    cc

-- ---- the header

first_twelve : (xs : List ℕ) → 12 ≤ length xs
    → take 12 xs ≡ slice_index xs 0 ∷ slice_index xs 1 ∷ slice_index xs 2 ∷ slice_index xs 3 ∷ slice_index xs 4 ∷ slice_index xs 5 ∷ slice_index xs 6
    ∷ slice_index xs 7 ∷ slice_index xs 8 ∷ slice_index xs 9 ∷ slice_index xs 10 ∷ slice_index xs 11 ∷ []
first_twelve [] room = absurd (omega arith)
first_twelve (a ∷ []) room = absurd (omega arith)
first_twelve (a ∷ b ∷ []) room = absurd (omega arith)
first_twelve (a ∷ b ∷ c ∷ []) room = absurd (omega arith)
first_twelve (a ∷ b ∷ c ∷ d ∷ []) room = absurd (omega arith)
first_twelve (a ∷ b ∷ c ∷ d ∷ e ∷ []) room = absurd (omega arith)
first_twelve (a ∷ b ∷ c ∷ d ∷ e ∷ f ∷ []) room = absurd (omega arith)
first_twelve (a ∷ b ∷ c ∷ d ∷ e ∷ f ∷ g ∷ []) room = absurd (omega arith)
first_twelve (a ∷ b ∷ c ∷ d ∷ e ∷ f ∷ g ∷ h ∷ []) room = absurd (omega arith)
first_twelve (a ∷ b ∷ c ∷ d ∷ e ∷ f ∷ g ∷ h ∷ i ∷ []) room = absurd (omega arith)
first_twelve (a ∷ b ∷ c ∷ d ∷ e ∷ f ∷ g ∷ h ∷ i ∷ j ∷ []) room = absurd (omega arith)
first_twelve (a ∷ b ∷ c ∷ d ∷ e ∷ f ∷ g ∷ h ∷ i ∷ j ∷ k ∷ []) room = absurd (omega arith)
first_twelve (a ∷ b ∷ c ∷ d ∷ e ∷ f ∷ g ∷ h ∷ i ∷ j ∷ k ∷ l ∷ rest) room = refl

first_four : (xs : List ℕ) → 4 ≤ length xs → take 4 xs ≡ slice_index xs 0 ∷ slice_index xs 1 ∷ slice_index xs 2 ∷ slice_index xs 3 ∷ []
first_four [] room = absurd (omega arith)
first_four (a ∷ []) room = absurd (omega arith)
first_four (a ∷ b ∷ []) room = absurd (omega arith)
first_four (a ∷ b ∷ c ∷ []) room = absurd (omega arith)
first_four (a ∷ b ∷ c ∷ d ∷ rest) room = refl

four_behind : (ws : List ℕ) → slice_index (drop 12 ws) 0 ∷ slice_index (drop 12 ws) 1 ∷ slice_index (drop 12 ws) 2 ∷ slice_index (drop 12 ws) 3 ∷ []
    ≡ slice_index ws 12 ∷ slice_index ws 13 ∷ slice_index ws 14 ∷ slice_index ws 15 ∷ []
four_behind ws = rw (get_or-drop 12 ws 0 0, get_or-drop 12 ws 1 0, get_or-drop 12 ws 2 0, get_or-drop 12 ws 3 0) refl

-- the four words of the header that version 2 alone has
later_is : (b : Bool) (ws : List ℕ) (image : Fields) → is_second ws ≡ b → image.version ≡ slice_index ws version_place → header_words ws ≤ length ws
    → length image.pointers ≡ pointer_rows ws → length image.points ≡ point_rows ws → length image.targets ≡ target_rows ws → image.check ≡ check_of ws
    → later_of image ≡ slice_range ws 12 (header_words ws)
unfolding later_of header_words later_word
later_is true ws image e v room p q t c =
    let r : 16 ≤ length ws = rw e at room in
    rw (v, p, q, t, c, e) (sym (first_four (drop 12 ws) (omega (arith, r, length-drop 12 ws)) ∙ four_behind ws))
later_is false ws image e v room p q t c = rw (v, e) refl

pub data_from : (ws : List ℕ) → data_at ws ≡ header_words ws + text_words ws
unfolding data_at
data_from ws = refl

pub switches_after : (ws : List ℕ) → switches_at ws ≡ data_at ws + data_words ws
unfolding switches_at
switches_after ws = refl

pub header_from : (ws : List ℕ) → 12 ≤ header_words ws
unfolding header_words
header_from ws = elim (cases_Bool (is_second ws)) [
  | inl e ↦ rw e (omega arith)
  | inr e ↦ rw e (omega arith)
]

pub header_second : (ws : List ℕ) → is_second ws ≡ true → header_words ws ≡ 16
unfolding header_words
header_second ws e = rw e refl

pub later_none : (ws : List ℕ) (i : ℕ) → is_second ws ≡ false → later_word ws i ≡ 0
unfolding later_word
later_none ws i e = rw e refl

pub header_rule : (ws : List ℕ) (i : ℕ) → AllFit ws → i < header_words ws → header_fits ws i ≡ true
header_rule ws i fit lt =
    sym (header_word ws i lt) ∙ fit i (omega (arith, switches_from ws, functions_from ws, variants_from ws, guards_from ws, sites_from ws, pointers_from ws, points_from ws, targets_from ws, end_from ws))

magic_is : (ws : List ℕ) → header_fits ws magic_place ≡ true → slice_index ws magic_place ≡ 0x3149564D
unfolding header_fits
magic_is ws h = eqb-true _ _ h

pub version_is : (ws : List ℕ) → header_fits ws version_place ≡ true → (slice_index ws version_place ≡ 1) ⊎ (slice_index ws version_place ≡ 2)
unfolding header_fits
version_is ws h =
    elim (or_cases _ _ h) [
      | inl e ↦ inl (eqb-true _ _ e)
      | inr e ↦ inr (eqb-true _ _ e)
    ]

last_is : (ws : List ℕ) → header_fits ws last_place ≡ true → slice_index ws last_place ≡ 0
unfolding header_fits
last_is ws h = eqb-true _ _ h

-- ---- sums of the lengths of names

pub not_last : (a b : ℕ) (x : Bool) → a ≡ b → (not (eqb a b) || x) ≡ true → x ≡ true
not_last a b x e h = let t : eqb a b ≡ true = eq-eqb a b e in rw t at h

function_sum : (ws : List ℕ) (k : ℕ) → function_fits ws k 0 ≡ true → switch_rows ws + k + 1 ≡ names ws → sum_below (name_length ws) (names ws) ≡ name_bytes ws
unfolding function_fits
function_sum ws k h last = eqb-true _ _ (not_last _ _ _ last (and_right _ _ h))

switch_sum : (ws : List ℕ) (k : ℕ) → switch_fits ws k 0 ≡ true → function_rows ws ≡ 0 → k + 1 ≡ names ws → sum_below (name_length ws) (names ws) ≡ name_bytes ws
unfolding switch_fits
switch_sum ws k h none last =
    let g : (ltb 0 (function_rows ws) || (not (eqb (k + 1) (names ws)) || eqb (sum_below (name_length ws) (names ws)) (name_bytes ws))) ≡ true = and_right _ _ h in
    let t : ltb 0 (function_rows ws) ≡ false = le-ltb _ _ (omega (arith, none)) in
    eqb-true _ _ (not_last _ _ _ last (rw t at g))

pointer_sum : (ws : List ℕ) (k : ℕ) → pointer_fits ws k 0 ≡ true → pointer_names_at ws + k + 1 ≡ names ws → sum_below (name_length ws) (names ws) ≡ name_bytes ws
unfolding pointer_fits
pointer_sum ws k h last = eqb-true _ _ (not_last _ _ _ last (and_right _ _ h))

target_sum : (ws : List ℕ) (k : ℕ) → target_fits ws k 0 ≡ true → target_names_at ws + k + 1 ≡ names ws → sum_below (name_length ws) (names ws) ≡ name_bytes ws
unfolding target_fits
target_sum ws k h last = eqb-true _ _ (not_last _ _ _ last (and_right _ _ h))

none_add : (n total : ℕ) → sums_to_none n total ≡ true → n ≡ 0 → total ≡ 0
none_add n total h none = let t : ltb 0 n ≡ false = le-ltb _ _ (omega (arith, none)) in eqb-true _ _ (rw t at h)

-- in version 1 it is judged at its own word
first_names : (ws : List ℕ) → is_second ws ≡ false → header_fits ws names_place ≡ true → names ws ≡ 0 → name_bytes ws ≡ 0
unfolding header_fits
first_names ws e h none = none_add _ _ (rw e at h) none

-- and in version 2 at that of the targets
second_names : (ws : List ℕ) → header_fits ws targets_place ≡ true → names ws ≡ 0 → name_bytes ws ≡ 0
unfolding header_fits
second_names ws h none = none_add _ _ (and_right _ _ h) none

no_names : (ws : List ℕ) → AllFit ws → names ws ≡ 0 → name_bytes ws ≡ 0
no_names ws fit none =
    elim (cases_Bool (is_second ws)) [
      | inl e ↦ second_names ws (header_rule ws targets_place fit (omega (arith, header_second ws e))) none
      | inr e ↦ first_names ws e (header_rule ws names_place fit (omega (arith, header_from ws))) none
    ]

pub names_sum : (ws : List ℕ) → AllFit ws → sum_below (name_length ws) (names ws) ≡ name_bytes ws
names_sum ws fit =
    elim (cases_lt 0 (target_rows ws)) [
      | inl some ↦ target_sum ws (target_rows ws - 1) (target_rule ws (target_rows ws - 1) 0 fit (omega arith) (omega arith)) (omega arith)
      | inr no_target ↦ elim (cases_lt 0 (pointer_rows ws)) [
        | inl some ↦ pointer_sum ws (pointer_rows ws - 1) (pointer_rule ws (pointer_rows ws - 1) 0 fit (omega arith) (omega arith)) (omega arith)
        | inr no_pointer ↦ elim (cases_lt 0 (function_rows ws)) [
          | inl some ↦ function_sum ws (function_rows ws - 1) (function_rule ws (function_rows ws - 1) 0 fit (omega arith) (omega arith)) (omega arith)
          | inr none ↦ elim (cases_lt 0 (switch_rows ws)) [
            | inl few ↦ switch_sum ws (switch_rows ws - 1) (switch_rule ws (switch_rows ws - 1) 0 fit (omega arith) (omega arith)) (omega arith) (omega arith)
            | inr neither ↦
                let z : names ws ≡ 0 = omega arith in
                ap (λ (n : ℕ). sum_below (name_length ws) n) z ∙ sum_below-none (name_length ws) ∙ sym (no_names ws fit z)
          ]
        ]
      ]
    ]

-- ---- what the reader has made

pub record IsRead (ws bytes : List ℕ) (image : Fields) : Type 0 where
  pub version : image.version ≡ slice_index ws version_place
  pub entry : image.entry ≡ entry_address ws
  pub text : image.text ≡ slice_range ws (header_words ws) (data_at ws)
  pub globals : image.globals ≡ slice_range ws (data_at ws) (switches_at ws)
  pub switches : flat_map switch_words image.switches ≡ slice_range ws (switches_at ws) (functions_at ws)
  pub functions : flat_map function_words image.functions ≡ slice_range ws (functions_at ws) (variants_at ws)
  pub variants : flat_map variant_words image.variants ≡ slice_range ws (variants_at ws) (guards_at ws)
  pub guards : flat_map guard_words image.guards ≡ slice_range ws (guards_at ws) (sites_at ws)
  pub sites : flat_map site_words image.sites ≡ slice_range ws (sites_at ws) (pointers_at ws)
  pub pointers : flat_map pointer_words image.pointers ≡ slice_range ws (pointers_at ws) (points_at ws)
  pub points : flat_map point_words image.points ≡ slice_range ws (points_at ws) (targets_at ws)
  pub targets : flat_map target_words image.targets ≡ slice_range ws (targets_at ws) (words_end ws)
  pub switches_count : length image.switches ≡ switch_rows ws
  pub functions_count : length image.functions ≡ function_rows ws
  pub variants_count : length image.variants ≡ variant_rows ws
  pub guards_count : length image.guards ≡ guard_rows ws
  pub sites_count : length image.sites ≡ site_rows ws
  pub pointers_count : length image.pointers ≡ pointer_rows ws
  pub points_count : length image.points ≡ point_rows ws
  pub targets_count : length image.targets ≡ target_rows ws
  pub check : image.check ≡ check_of ws
  pub named : joined image.names ≡ slice_range bytes (4 * words_end ws) (4 * words_end ws + sum_below (name_length ws) (names ws))
  pub lengths : map length image.names ≡ first_of (name_length ws) (names ws)

-- the parts stand one after the other
pub record InOrder (ws : List ℕ) : Type 0 where
  pub first : header_words ws ≤ data_at ws
  pub switches : data_at ws ≤ switches_at ws
  pub functions : switches_at ws ≤ functions_at ws
  pub variants : functions_at ws ≤ variants_at ws
  pub guards : variants_at ws ≤ guards_at ws
  pub sites : guards_at ws ≤ sites_at ws
  pub pointers : sites_at ws ≤ pointers_at ws
  pub points : pointers_at ws ≤ points_at ws
  pub targets : points_at ws ≤ targets_at ws
  pub end : targets_at ws ≤ words_end ws

pub in_order : (ws : List ℕ) → InOrder ws
in_order ws = record {
  first = omega (arith, data_from ws);
  switches = omega (arith, switches_after ws);
  functions = omega (arith, functions_from ws);
  variants = omega (arith, variants_from ws);
  guards = omega (arith, guards_from ws);
  sites = omega (arith, sites_from ws);
  pointers = omega (arith, pointers_from ws);
  points = omega (arith, points_from ws);
  targets = omega (arith, targets_from ws);
  end = omega (arith, end_from ws);
}

header_is : (ws bytes : List ℕ) (image : Fields) → AllFit ws → words_end ws ≤ length ws → 4 * words_end ws + name_bytes ws ≤ length bytes → IsRead ws bytes image → header_of image ≡ take (header_words ws) ws
unfolding header_of
header_is ws bytes image fit room more r =
    let o = in_order ws in
    let at12 = header_from ws in
    let e0 = magic_is ws (header_rule ws magic_place fit (omega (arith, at12))) in
    let e1 = r.version in
    let e2 = r.entry in
    let e3 : length image.text ≡ text_words ws =
    ap length r.text ∙ range_length ws (header_words ws) (data_at ws) o.first
    (omega (arith, o.switches, o.functions, o.variants, o.guards, o.sites, o.pointers, o.points, o.targets, o.end)) ∙ omega (arith, data_from ws) in
    let e4 : length image.globals ≡ data_words ws =
    ap length r.globals ∙ range_length ws (data_at ws) (switches_at ws) o.switches
    (omega (arith, o.functions, o.variants, o.guards, o.sites, o.pointers, o.points, o.targets, o.end)) ∙ omega (arith, switches_after ws) in
    let e5 = r.switches_count in
    let e6 = r.functions_count in
    let e7 = r.variants_count in
    let e8 = r.guards_count in
    let e9 = r.sites_count in
    let s = names_sum ws fit in
    let e10 : length (joined image.names) ≡ name_bytes ws = ap length r.named ∙ range_length bytes (4 * words_end ws) (4 * words_end ws + sum_below (name_length ws) (names ws)) (omega arith) (omega (arith, s, more)) ∙ omega (arith, s) in
    let e11 = last_is ws (header_rule ws last_place fit (omega (arith, at12))) in
    let enough : header_words ws ≤ length ws = omega (arith, room, o.first, o.switches, o.functions, o.variants, o.guards, o.sites, o.pointers, o.points, o.targets, o.end) in
    let all = first_twelve ws (omega (arith, at12, enough)) in
    let later = later_is (is_second ws) ws image refl r.version enough r.pointers_count r.points_count r.targets_count r.check in
    let made : ℕ → ℕ → List ℕ → List ℕ =
    λ m z l. m ∷ slice_index ws 1 ∷ slice_index ws 2 ∷ slice_index ws 3 ∷ slice_index ws 4 ∷ slice_index ws 5 ∷ slice_index ws 6 ∷ slice_index ws 7
    ∷ slice_index ws 8 ∷ slice_index ws 9 ∷ slice_index ws 10 ∷ z ∷ l in
    let start : header_of image ≡ made 0x3149564D 0 (later_of image) = cc (e1, e2, e3, e4, e5, e6, e7, e8, e9, e10) in
    (start ∙ ap (λ (m : ℕ). made m 0 (later_of image)) (sym e0) ∙ ap (λ (z : ℕ). made (slice_index ws 0) z (later_of image)) (sym e11) ∙ ap (made (slice_index ws 0) (slice_index ws 11)) later
    ∙ ap (λ (x : List ℕ). x ++ slice_range ws 12 (header_words ws)) (sym all) ∙ front_join ws 12 (header_words ws) at12)

joined_words : (ws bytes : List ℕ) (image : Fields) → header_of image ≡ take (header_words ws) ws → IsRead ws bytes image → words_in image ≡ take (words_end ws) ws
unfolding words_in
joined_words ws bytes image header r =
    let o = in_order ws in
    let s1 : header_of image ++ image.text ≡ take (data_at ws) ws = ap (λ (x : List ℕ). x ++ image.text) header ∙ ap (λ (x : List ℕ). take (header_words ws) ws ++ x) r.text ∙ front_join ws (header_words ws) (data_at ws) o.first in
    let s2 : (header_of image ++ image.text) ++ image.globals ≡ take (switches_at ws) ws =
    ap (λ (x : List ℕ). x ++ image.globals) s1 ∙ ap (λ (x : List ℕ). take (data_at ws) ws ++ x) r.globals
    ∙ front_join ws (data_at ws) (switches_at ws) o.switches in
    let s3 : ((header_of image ++ image.text) ++ image.globals) ++ flat_map switch_words image.switches ≡ take (functions_at ws) ws =
    ap (λ (x : List ℕ). x ++ flat_map switch_words image.switches) s2 ∙ ap (λ (x : List ℕ). take (switches_at ws) ws ++ x) r.switches ∙ front_join ws (switches_at ws) (functions_at ws) o.functions in
    let s4 : (((header_of image ++ image.text) ++ image.globals) ++ flat_map switch_words image.switches) ++ flat_map function_words image.functions ≡ take (variants_at ws) ws =
    ap (λ (x : List ℕ). x ++ flat_map function_words image.functions) s3 ∙ ap (λ (x : List ℕ). take (functions_at ws) ws ++ x) r.functions ∙ front_join ws (functions_at ws) (variants_at ws) o.variants in
    let s5 : ((((header_of image ++ image.text) ++ image.globals) ++ flat_map switch_words image.switches) ++ flat_map function_words image.functions) ++ flat_map variant_words image.variants ≡ take (guards_at ws) ws =
    ap (λ (x : List ℕ). x ++ flat_map variant_words image.variants) s4 ∙ ap (λ (x : List ℕ). take (variants_at ws) ws ++ x) r.variants ∙ front_join ws (variants_at ws) (guards_at ws) o.guards in
    let s6 : (((((header_of image ++ image.text) ++ image.globals) ++ flat_map switch_words image.switches)
    ++ flat_map function_words image.functions) ++ flat_map variant_words image.variants) ++ flat_map guard_words image.guards ≡ take (sites_at ws) ws =
    ap (λ (x : List ℕ). x ++ flat_map guard_words image.guards) s5 ∙ ap (λ (x : List ℕ). take (guards_at ws) ws ++ x) r.guards ∙ front_join ws (guards_at ws) (sites_at ws) o.sites in
    let s7 : ((((((header_of image ++ image.text) ++ image.globals) ++ flat_map switch_words image.switches)
    ++ flat_map function_words image.functions) ++ flat_map variant_words image.variants) ++ flat_map guard_words image.guards)
    ++ flat_map site_words image.sites ≡ take (pointers_at ws) ws =
    ap (λ (x : List ℕ). x ++ flat_map site_words image.sites) s6 ∙ ap (λ (x : List ℕ). take (sites_at ws) ws ++ x) r.sites ∙ front_join ws (sites_at ws) (pointers_at ws) o.pointers in
    let s8 : (((((((header_of image ++ image.text) ++ image.globals) ++ flat_map switch_words image.switches)
    ++ flat_map function_words image.functions) ++ flat_map variant_words image.variants) ++ flat_map guard_words image.guards)
    ++ flat_map site_words image.sites) ++ flat_map pointer_words image.pointers ≡ take (points_at ws) ws =
    ap (λ (x : List ℕ). x ++ flat_map pointer_words image.pointers) s7 ∙ ap (λ (x : List ℕ). take (pointers_at ws) ws ++ x) r.pointers ∙ front_join ws (pointers_at ws) (points_at ws) o.points in
    let s9 : ((((((((header_of image ++ image.text) ++ image.globals) ++ flat_map switch_words image.switches)
    ++ flat_map function_words image.functions) ++ flat_map variant_words image.variants) ++ flat_map guard_words image.guards)
    ++ flat_map site_words image.sites) ++ flat_map pointer_words image.pointers) ++ flat_map point_words image.points ≡ take (targets_at ws) ws =
    ap (λ (x : List ℕ). x ++ flat_map point_words image.points) s8 ∙ ap (λ (x : List ℕ). take (points_at ws) ws ++ x) r.points ∙ front_join ws (points_at ws) (targets_at ws) o.targets in
    ap (λ (x : List ℕ). x ++ flat_map target_words image.targets) s9 ∙ ap (λ (x : List ℕ). take (targets_at ws) ws ++ x) r.targets ∙ front_join ws (targets_at ws) (words_end ws) o.end

-- ---- the names

fill_fits : (ws bytes : List ℕ) (j : ℕ) → name_bytes ws ≤ j → name_fits ws bytes j ≡ true → slice_index bytes (4 * words_end ws + j) ≡ 0
unfolding name_fits
fill_fits ws bytes j le h = let t : ltb j (name_bytes ws) ≡ false = le-ltb _ _ le in eqb-true _ _ (rw t at h)

range_all : (xs : List ℕ) (a : ℕ) → a ≤ length xs → slice_range xs a (length xs) ≡ drop a xs
range_all xs a le =
    let n : length (drop a xs) ≡ length xs - a = length-drop a xs in
    ap (λ (k : ℕ). take k (drop a xs)) (sym n) ∙ take-length (drop a xs)

pub filled_from : (n : ℕ) → n ≤ filled n
filled_from n = omega arith

names_are_read : (ws bytes : List ℕ) (image : Fields) → AllFit ws → length bytes ≡ 4 * words_end ws + filled (name_bytes ws)
    → ((j : ℕ) → j < filled (name_bytes ws) → name_fits ws bytes j ≡ true) → IsRead ws bytes image → names_in image ≡ drop (4 * words_end ws) bytes
names_are_read ws bytes image fit len names-fit r =
    let s = names_sum ws fit in
    let base : ℕ = 4 * words_end ws in
    let b : ℕ = name_bytes ws in
    let more = filled_from (name_bytes ws) in
    let named : joined image.names ≡ slice_range bytes base (base + b) = r.named ∙ ap (λ (n : ℕ). slice_range bytes base (base + n)) s in
    let size : length (joined image.names) ≡ b = ap length named ∙ range_length bytes base (base + b) (omega arith) (omega (arith, len, more)) ∙ omega arith in
    let rest : slice_range bytes (base + b) (length bytes) ≡ replicate {A = ℕ} (filled b - b) 0 =
    zeros_list (slice_range bytes (base + b) (length bytes)) (filled b - b) (range_length bytes (base + b) (length bytes) (omega (arith, len, more)) (omega arith) ∙ omega (arith, len, more))
    (λ i lt. index_range bytes (base + b) (length bytes) i (omega (arith, len, lt, more))
    ∙ (let k : base + b + i ≡ base + (b + i) = omega arith in
    ap (slice_index bytes) k ∙ fill_fits ws bytes (b + i) (omega arith) (names-fit (b + i) (omega (arith, lt, more))))) in
    ap (λ (x : List ℕ). x ++ replicate {A = ℕ} (filled (length (joined image.names)) - length (joined image.names)) 0) named
    ∙ ap (λ (n : ℕ). slice_range bytes base (base + b) ++ replicate {A = ℕ} (filled n - n) 0) size
    ∙ ap (λ (x : List ℕ). slice_range bytes base (base + b) ++ x) (sym rest)
    ∙ range_join bytes base (base + b) (length bytes) (omega arith) (omega (arith, len, more))
    ∙ range_all bytes base (omega (arith, len))

-- ---- the lengths of the names

first_from : (ℕ → ℕ) → ℕ → ℕ → List ℕ
first_from count a zero = []
first_from count a (suc n) = count a ∷ first_from count (suc a) n

first_from-snoc : (count : ℕ → ℕ) (a n : ℕ) → first_from count a (suc n) ≡ first_from count a n ++ count (a + n) ∷ []
unfolding first_from
first_from-snoc count a zero = let e : a + 0 ≡ a = omega arith in rw e refl
first_from-snoc count a (suc n) =
    let e : suc a + n ≡ a + suc n = omega arith in
    ap (λ (x : List ℕ). count a ∷ x) (first_from-snoc count (suc a) n ∙ ap (λ (k : ℕ). first_from count (suc a) n ++ count k ∷ []) e)

first_of-from : (count : ℕ → ℕ) (n : ℕ) → first_of count n ≡ first_from count 0 n
unfolding first_of first_from
first_of-from count zero = refl
first_of-from count (suc n) =
    let e : 0 + n ≡ n = omega arith in
    ap (λ (x : List ℕ). x ++ count n ∷ []) (first_of-from count n) ∙ sym (first_from-snoc count 0 n ∙ ap (λ (k : ℕ). first_from count 0 n ++ count k ∷ []) e)

first_from-split : (count : ℕ → ℕ) (a m n : ℕ) → first_from count a (m + n) ≡ first_from count a m ++ first_from count (a + m) n
unfolding first_from
first_from-split count a zero n =
    let e : 0 + n ≡ n = omega arith in
    let f : a + 0 ≡ a = omega arith in
    ap (first_from count a) e ∙ sym (ap (λ (k : ℕ). first_from count k n) f)
first_from-split count a (suc m) n =
    let e : suc m + n ≡ suc (m + n) = omega arith in
    let f : suc a + m ≡ a + suc m = omega arith in
    ap (first_from count a) e ∙ ap (λ (x : List ℕ). count a ∷ x) (first_from-split count (suc a) m n ∙ ap (λ (k : ℕ). first_from count (suc a) m ++ first_from count k n) f)

first_from-same : (f g : ℕ → ℕ) (a b n : ℕ) → ((i : ℕ) → i < n → f (a + i) ≡ g (b + i)) → first_from f a n ≡ first_from g b n
unfolding first_from
first_from-same f g a b zero same = refl
first_from-same f g a b (suc n) same =
    let e : a + 0 ≡ a = omega arith in
    let d : b + 0 ≡ b = omega arith in
    let here : f a ≡ g b = sym (ap f e) ∙ same 0 (omega arith) ∙ ap g d in
    let rest = first_from-same f g (suc a) (suc b) n (λ i lt. (let p : suc a + i ≡ a + suc i = omega arith in let q : suc b + i ≡ b + suc i = omega arith in ap f p ∙ same (suc i) (omega (arith, lt)) ∙ sym (ap g q))) in
    ap (λ (x : ℕ). x ∷ first_from f (suc a) n) here ∙ ap (λ (x : List ℕ). g b ∷ x) rest

-- the first words of rows
firsts : {R : Type 0} (words_are : R → List ℕ) (first : R → ℕ) (w : ℕ) → 0 < w → ((r : R) → slice_index (words_are r) 0 ≡ first r)
    → (rows : List R) → All (λ r. length (words_are r) ≡ w) rows → (ws : List ℕ) (at k : ℕ) → at + w * (k + length rows) ≤ length ws
    → flat_map words_are rows ≡ slice_range ws (at + w * k) (at + w * (k + length rows)) → map first rows ≡ first_from (λ i. slice_index ws (at + w * i)) k (length rows)
unfolding first_from
firsts words_are first w pos is [] whole ws at k room e = refl
firsts words_are first w pos is (r ∷ rows) whole ws at k room e =
    let n : ℕ = length rows in
    let next : at + w * suc k ≡ at + w * k + w = omega arith in
    let last : at + w * (k + suc n) ≡ at + w * (suc k + n) = omega arith in
    let grows : at + w * suc k ≤ at + w * (suc k + n) = omega arith in
    let within : at + w * (suc k + n) ≤ length ws = omega (arith, room, last) in
    let e2 : words_are r ++ flat_map words_are rows ≡ slice_range ws (at + w * k) (at + w * (suc k + n)) = sym (flat_map-cons words_are r rows) ∙ e ∙ ap (λ (b : ℕ). slice_range ws (at + w * k) b) last in
    let e3 : words_are r ++ flat_map words_are rows ≡ slice_range ws (at + w * k) (at + w * suc k) ++ slice_range ws (at + w * suc k) (at + w * (suc k + n)) =
    e2 ∙ sym (range_join ws (at + w * k) (at + w * suc k) (at + w * (suc k + n)) (omega (arith, next)) grows) in
    let size : length (slice_range ws (at + w * k) (at + w * suc k)) ≡ w = range_length ws (at + w * k) (at + w * suc k) (omega (arith, next)) (omega (arith, grows, within)) ∙ omega (arith, next) in
    let p = parted w (words_are r) (slice_range ws (at + w * k) (at + w * suc k)) (flat_map words_are rows) (slice_range ws (at + w * suc k) (at + w * (suc k + n))) (whole 0 r (omega arith)) size e3 in
    let z : at + w * k + 0 ≡ at + w * k = omega arith in
    let here : first r ≡ slice_index ws (at + w * k) = sym (is r) ∙ ap (λ (x : List ℕ). slice_index x 0) p.0 ∙ index_range ws (at + w * k) (at + w * suc k) 0 (omega (arith, next, pos)) ∙ ap (slice_index ws) z in
    let rest = firsts words_are first w pos is rows (λ j d lt. whole (suc j) d (omega (arith, lt))) ws at (suc k) within p.1 in
    ap (λ (x : ℕ). x ∷ map first rows) here ∙ ap (λ (x : List ℕ). slice_index ws (at + w * k) ∷ x) rest

switch_length : (ws : List ℕ) (i : ℕ) → i < switch_rows ws → name_length ws i ≡ slice_index ws (switches_at ws + switch_row_words * i)
unfolding name_length switch_field
switch_length ws i lt =
    let t : ltb i (switch_rows ws) ≡ true = lt-ltb _ _ lt in
    let z : switches_at ws + switch_row_words * i + 0 ≡ switches_at ws + switch_row_words * i = omega arith in
    rw t (ap (slice_index ws) z)

function_length : (ws : List ℕ) (i : ℕ) → i < function_rows ws → name_length ws (switch_rows ws + i) ≡ slice_index ws (functions_at ws + function_row_words * i)
unfolding name_length function_field
function_length ws i lt =
    let t0 : ltb (switch_rows ws + i) (switch_rows ws) ≡ false = le-ltb _ _ (omega arith) in
    let t1 : ltb (switch_rows ws + i) (pointer_names_at ws) ≡ true = lt-ltb _ _ (omega arith) in
    let m : switch_rows ws + i - switch_rows ws ≡ i = omega arith in
    let z : functions_at ws + function_row_words * i + 0 ≡ functions_at ws + function_row_words * i = omega arith in
    rw (t0, t1, m) (ap (slice_index ws) z)

pointer_length : (ws : List ℕ) (i : ℕ) → i < pointer_rows ws → name_length ws (pointer_names_at ws + i) ≡ slice_index ws (pointers_at ws + pointer_row_words * i)
unfolding name_length pointer_field
pointer_length ws i lt =
    let t0 : ltb (pointer_names_at ws + i) (switch_rows ws) ≡ false = le-ltb _ _ (omega arith) in
    let t1 : ltb (pointer_names_at ws + i) (pointer_names_at ws) ≡ false = le-ltb _ _ (omega arith) in
    let t2 : ltb (pointer_names_at ws + i) (target_names_at ws) ≡ true = lt-ltb _ _ (omega arith) in
    let m : pointer_names_at ws + i - pointer_names_at ws ≡ i = omega arith in
    let z : pointers_at ws + pointer_row_words * i + 0 ≡ pointers_at ws + pointer_row_words * i = omega arith in
    rw (t0, t1, t2, m) (ap (slice_index ws) z)

target_length : (ws : List ℕ) (i : ℕ) → name_length ws (target_names_at ws + i) ≡ slice_index ws (targets_at ws + target_row_words * i)
unfolding name_length target_field
target_length ws i =
    let t0 : ltb (target_names_at ws + i) (switch_rows ws) ≡ false = le-ltb _ _ (omega arith) in
    let t1 : ltb (target_names_at ws + i) (pointer_names_at ws) ≡ false = le-ltb _ _ (omega arith) in
    let t2 : ltb (target_names_at ws + i) (target_names_at ws) ≡ false = le-ltb _ _ (omega arith) in
    let m : target_names_at ws + i - target_names_at ws ≡ i = omega arith in
    let z : targets_at ws + target_row_words * i + 0 ≡ targets_at ws + target_row_words * i = omega arith in
    rw (t0, t1, t2, m) (ap (slice_index ws) z)

lengths_are : (ws bytes : List ℕ) (image : Fields) → words_end ws ≤ length ws → All SwitchWhole image.switches → All FunctionWhole image.functions → IsRead ws bytes image → map length image.names ≡ lengths_in image
lengths_are ws bytes image room whole_switches whole_functions r =
    let o = in_order ws in
    let zswitch : switches_at ws + switch_row_words * 0 ≡ switches_at ws = omega arith in
    let nswitch : switches_at ws + switch_row_words * (0 + length image.switches) ≡ functions_at ws = omega (arith, r.switches_count, functions_from ws) in
    let fswitch : map (λ (row : SwitchRow). row.length) image.switches ≡ first_from (λ i. slice_index ws (switches_at ws + switch_row_words * i)) 0 (length image.switches) =
    firsts switch_words (λ row. row.length) switch_row_words (omega arith) (λ row. refl) image.switches (λ k d lt. switch_width (get_or image.switches k d) (whole_switches k d lt)) ws (switches_at ws) 0
    (omega (arith, nswitch, room, o.variants, o.guards, o.sites, o.pointers, o.points, o.targets, o.end))
    (r.switches ∙ ap (λ (x : ℕ). slice_range ws x (functions_at ws)) (sym zswitch)
    ∙ ap (λ (x : ℕ). slice_range ws (switches_at ws + switch_row_words * 0) x) (sym nswitch)) in
    let gswitch : first_from (name_length ws) 0 (switch_rows ws) ≡ first_from (λ i. slice_index ws (switches_at ws + switch_row_words * i)) 0 (switch_rows ws) =
    first_from-same (name_length ws) (λ i. slice_index ws (switches_at ws + switch_row_words * i)) 0 0 (switch_rows ws)
    (λ i lt. (let m : 0 + i ≡ i = omega arith in let z : 0 + i ≡ i = omega arith in ap (name_length ws) m ∙ switch_length ws i lt ∙ ap (λ (x : ℕ). slice_index ws (switches_at ws + switch_row_words * x)) (sym z))) in
    let zfunction : functions_at ws + function_row_words * 0 ≡ functions_at ws = omega arith in
    let nfunction : functions_at ws + function_row_words * (0 + length image.functions) ≡ variants_at ws = omega (arith, r.functions_count, variants_from ws) in
    let ffunction : map (λ (row : FunctionRow). row.length) image.functions ≡ first_from (λ i. slice_index ws (functions_at ws + function_row_words * i)) 0 (length image.functions) =
    firsts function_words (λ row. row.length) function_row_words (omega arith) (λ row. refl) image.functions (λ k d lt. function_width (get_or image.functions k d) (whole_functions k d lt)) ws (functions_at ws) 0
    (omega (arith, nfunction, room, o.guards, o.sites, o.pointers, o.points, o.targets, o.end))
    (r.functions ∙ ap (λ (x : ℕ). slice_range ws x (variants_at ws)) (sym zfunction)
    ∙ ap (λ (x : ℕ). slice_range ws (functions_at ws + function_row_words * 0) x) (sym nfunction)) in
    let gfunction : first_from (name_length ws) (0 + switch_rows ws) (function_rows ws) ≡ first_from (λ i. slice_index ws (functions_at ws + function_row_words * i)) 0 (function_rows ws) =
    first_from-same (name_length ws) (λ i. slice_index ws (functions_at ws + function_row_words * i)) (0 + switch_rows ws) 0 (function_rows ws)
    (λ i lt. (let m : (0 + switch_rows ws) + i ≡ switch_rows ws + i = omega arith in let z : 0 + i ≡ i = omega arith in
    ap (name_length ws) m ∙ function_length ws i lt ∙ ap (λ (x : ℕ). slice_index ws (functions_at ws + function_row_words * x)) (sym z))) in
    let zpointer : pointers_at ws + pointer_row_words * 0 ≡ pointers_at ws = omega arith in
    let npointer : pointers_at ws + pointer_row_words * (0 + length image.pointers) ≡ points_at ws = omega (arith, r.pointers_count, points_from ws) in
    let fpointer : map (λ (row : PointerRow). row.length) image.pointers ≡ first_from (λ i. slice_index ws (pointers_at ws + pointer_row_words * i)) 0 (length image.pointers) =
    firsts pointer_words (λ row. row.length) pointer_row_words (omega arith) (λ row. refl) image.pointers (λ k d lt. refl) ws (pointers_at ws) 0
    (omega (arith, npointer, room, o.targets, o.end)) (r.pointers ∙ ap (λ (x : ℕ). slice_range ws x (points_at ws)) (sym zpointer) ∙ ap (λ (x : ℕ). slice_range ws (pointers_at ws + pointer_row_words * 0) x) (sym npointer)) in
    let gpointer : first_from (name_length ws) (0 + pointer_names_at ws) (pointer_rows ws) ≡ first_from (λ i. slice_index ws (pointers_at ws + pointer_row_words * i)) 0 (pointer_rows ws) =
    first_from-same (name_length ws) (λ i. slice_index ws (pointers_at ws + pointer_row_words * i)) (0 + pointer_names_at ws) 0 (pointer_rows ws)
    (λ i lt. (let m : (0 + pointer_names_at ws) + i ≡ pointer_names_at ws + i = omega arith in let z : 0 + i ≡ i = omega arith in
    ap (name_length ws) m ∙ pointer_length ws i lt ∙ ap (λ (x : ℕ). slice_index ws (pointers_at ws + pointer_row_words * x)) (sym z))) in
    let ztarget : targets_at ws + target_row_words * 0 ≡ targets_at ws = omega arith in
    let ntarget : targets_at ws + target_row_words * (0 + length image.targets) ≡ words_end ws = omega (arith, r.targets_count, end_from ws) in
    let ftarget : map (λ (row : TargetRow). row.length) image.targets ≡ first_from (λ i. slice_index ws (targets_at ws + target_row_words * i)) 0 (length image.targets) =
    firsts target_words (λ row. row.length) target_row_words (omega arith) (λ row. refl) image.targets (λ k d lt. refl) ws (targets_at ws) 0
    (omega (arith, ntarget, room, o.end)) (r.targets ∙ ap (λ (x : ℕ). slice_range ws x (words_end ws)) (sym ztarget) ∙ ap (λ (x : ℕ). slice_range ws (targets_at ws + target_row_words * 0) x) (sym ntarget)) in
    let gtarget : first_from (name_length ws) (0 + target_names_at ws) (target_rows ws) ≡ first_from (λ i. slice_index ws (targets_at ws + target_row_words * i)) 0 (target_rows ws) =
    first_from-same (name_length ws) (λ i. slice_index ws (targets_at ws + target_row_words * i)) (0 + target_names_at ws) 0 (target_rows ws)
    (λ i lt. (let m : (0 + target_names_at ws) + i ≡ target_names_at ws + i = omega arith in let z : 0 + i ≡ i = omega arith in
    ap (name_length ws) m ∙ target_length ws i ∙ ap (λ (x : ℕ). slice_index ws (targets_at ws + target_row_words * x)) (sym z))) in
    let switches : first_from (name_length ws) 0 (switch_rows ws) ≡ map (λ (row : SwitchRow). row.length) image.switches =
    gswitch ∙ ap (first_from (λ i. slice_index ws (switches_at ws + switch_row_words * i)) 0) (sym r.switches_count) ∙ sym fswitch in
    let functions : first_from (name_length ws) (0 + switch_rows ws) (function_rows ws) ≡ map (λ (row : FunctionRow). row.length) image.functions =
    gfunction ∙ ap (first_from (λ i. slice_index ws (functions_at ws + function_row_words * i)) 0) (sym r.functions_count) ∙ sym ffunction in
    let pointers : first_from (name_length ws) (0 + pointer_names_at ws) (pointer_rows ws) ≡ map (λ (row : PointerRow). row.length) image.pointers =
    gpointer ∙ ap (first_from (λ i. slice_index ws (pointers_at ws + pointer_row_words * i)) 0) (sym r.pointers_count) ∙ sym fpointer in
    let targets : first_from (name_length ws) (0 + target_names_at ws) (target_rows ws) ≡ map (λ (row : TargetRow). row.length) image.targets =
    gtarget ∙ ap (first_from (λ i. slice_index ws (targets_at ws + target_row_words * i)) 0) (sym r.targets_count) ∙ sym ftarget in
    let split : first_from (name_length ws) 0 (names ws)
    ≡ ((first_from (name_length ws) 0 (switch_rows ws) ++ first_from (name_length ws) (0 + switch_rows ws) (function_rows ws))
    ++ first_from (name_length ws) (0 + pointer_names_at ws) (pointer_rows ws)) ++ first_from (name_length ws) (0 + target_names_at ws) (target_rows ws) =
    first_from-split (name_length ws) 0 (target_names_at ws) (target_rows ws)
    ∙ ap (λ (x : List ℕ). x ++ first_from (name_length ws) (0 + target_names_at ws) (target_rows ws)) (first_from-split (name_length ws) 0 (pointer_names_at ws) (pointer_rows ws)
    ∙ ap (λ (x : List ℕ). x ++ first_from (name_length ws) (0 + pointer_names_at ws) (pointer_rows ws)) (first_from-split (name_length ws) 0 (switch_rows ws) (function_rows ws))) in
    let all : first_from (name_length ws) 0 (names ws)
    ≡ ((map (λ (row : SwitchRow). row.length) image.switches ++ map (λ (row : FunctionRow). row.length) image.functions)
    ++ map (λ (row : PointerRow). row.length) image.pointers) ++ map (λ (row : TargetRow). row.length) image.targets =
    split ∙ rw (switches, functions, pointers, targets) refl in
    r.lengths ∙ first_of-from (name_length ws) (names ws) ∙ all ∙ (simp append_assoc)

-- ---- the whole

pub all_fit : (bytes : List ℕ) → Spelled bytes → AllFit (words_of bytes)
all_fit bytes sp i lt = sym (fits-word bytes i lt) ∙ (sp.all i (omega (arith, lt))).1

pub names_keep : (bytes : List ℕ) → Spelled bytes → (j : ℕ) → j < filled (name_bytes (words_of bytes)) → name_fits (words_of bytes) bytes j ≡ true
names_keep bytes sp j lt = sym (fits-name bytes j) ∙ (sp.all (end_of bytes + j) (omega (arith, lt))).1

pub length_is : (bytes : List ℕ) → Spelled bytes → length bytes ≡ 4 * end_of bytes + filled (name_bytes (words_of bytes))
length_is bytes sp = sp.end ∙ end_is bytes

pub has_room : (bytes : List ℕ) → Spelled bytes → end_of bytes ≤ length (words_of bytes)
has_room bytes sp = omega (arith, length_is bytes sp, length-words_of bytes)

pub record AreWhole (image : Fields) : Type 0 where
  pub switches : All SwitchWhole image.switches
  pub switches_clean : All SwitchClean image.switches
  pub functions : All FunctionWhole image.functions
  pub functions_clean : All FunctionClean image.functions
  pub variants : All VariantWhole image.variants
  pub variants_clean : All VariantClean image.variants
  pub guards : All GuardWhole image.guards

pub is_spelling : (bytes : List ℕ) (image : Fields) → AreBytes bytes → Spelled bytes → IsRead (words_of bytes) bytes image → bytes ≡ spelling image
unfolding spelling
is_spelling bytes image fits sp r =
    let fit = all_fit bytes sp in
    let len = length_is bytes sp in
    let more = filled_from (name_bytes (words_of bytes)) in
    let room = has_room bytes sp in
    let header = header_is (words_of bytes) bytes image fit room (omega (arith, len, more)) r in
    let words = joined_words (words_of bytes) bytes image header r in
    let front : bytes_of (words_in image) ≡ take (4 * end_of bytes) bytes = ap bytes_of words ∙ bytes_of-take (end_of bytes) bytes fits (omega (arith, len)) in
    let back = names_are_read (words_of bytes) bytes image fit len (names_keep bytes sp) r in
    sym (ap (λ (x : List ℕ). x ++ names_in image) front ∙ ap (λ (x : List ℕ). take (4 * end_of bytes) bytes ++ x) back ∙ take-append-drop (4 * end_of bytes) bytes)

-- only version 2 has anything of pointers
first_has_none : (ws bytes : List ℕ) (image : Fields) → IsRead ws bytes image → eqb image.version 2 ≡ false → HasNoPointers image
first_has_none ws bytes image r e =
    let no : is_second ws ≡ false = ap (λ (n : ℕ). eqb n 2) (sym r.version) ∙ e in
    record {
      pointers = nil_from_length _ (r.pointers_count ∙ later_none ws pointers_place no);
      points = nil_from_length _ (r.points_count ∙ later_none ws points_place no);
      targets = nil_from_length _ (r.targets_count ∙ later_none ws targets_place no);
      check = r.check ∙ later_none ws check_place no;
    }

pub what_is_read : (bytes : List ℕ) (image : Fields) → AreBytes bytes → Spelled bytes → IsRead (words_of bytes) bytes image → AreWhole image → Spells bytes image
what_is_read bytes image fits sp r whole =
    let e = is_spelling bytes image fits sp r in
    let fit = all_fit bytes sp in
    let len = length_is bytes sp in
    let more = filled_from (name_bytes (words_of bytes)) in
    let room = has_room bytes sp in
    let header = header_is (words_of bytes) bytes image fit room (omega (arith, len, more)) r in
    let words = joined_words (words_of bytes) bytes image header r in
    record {
      rules = record {
        spelled = subst Spelled e sp;
        words = subst AreWords (sym words) (take_words (words_of bytes) (end_of bytes) (words_are_words bytes fits));
        switches = λ k d lt. (whole.switches k d lt, whole.switches_clean k d lt);
        functions = λ k d lt. (whole.functions k d lt, whole.functions_clean k d lt);
        variants = λ k d lt. (whole.variants k d lt, whole.variants_clean k d lt);
        guards = whole.guards;
        name_lengths = lengths_are (words_of bytes) bytes image room whole.switches whole.functions r;
        first = first_has_none (words_of bytes) bytes image r;
      };
      bytes_are = e;
    }

-- the words of as many bytes as are whole words
pub words_of-take : (bytes : List ℕ) (n : ℕ) → n ≡ length bytes / 4 * 4 → words_of (take n bytes) ≡ words_of bytes
words_of-take [] n e = let z : n ≡ 0 = omega arith in ap (λ (k : ℕ). words_of (take {A = ℕ} k [])) z
words_of-take (a ∷ []) n e = let z : n ≡ 0 = omega arith in ap (λ (k : ℕ). words_of (take k (a ∷ []))) z
words_of-take (a ∷ b ∷ []) n e = let z : n ≡ 0 = omega arith in ap (λ (k : ℕ). words_of (take k (a ∷ b ∷ []))) z
words_of-take (a ∷ b ∷ c ∷ []) n e = let z : n ≡ 0 = omega arith in ap (λ (k : ℕ). words_of (take k (a ∷ b ∷ c ∷ []))) z
words_of-take (a ∷ b ∷ c ∷ d ∷ rest) n e =
    let m : n ≡ suc (suc (suc (suc (length rest / 4 * 4)))) = omega arith in
    ap (λ (k : ℕ). words_of (take k (a ∷ b ∷ c ∷ d ∷ rest))) m
    ∙ ap (λ (x : List ℕ). little_number 4 (a ∷ b ∷ c ∷ d ∷ []) ∷ x) (words_of-take rest (length rest / 4 * 4) refl)

pub words_of-whole : (bytes : List ℕ) → words_of (take (length bytes / 4 * 4) bytes) ≡ words_of bytes
words_of-whole bytes = words_of-take bytes (length bytes / 4 * 4) refl

abbrev pub image_of : ℕ → ℕ → List ℕ → List ℕ → Tables → ℕ → List (List ℕ) → Fields
image_of version entry text globals tables check names = record {
  version = version;
  entry = entry;
  text = text;
  globals = globals;
  switches = tables.switches;
  functions = tables.functions;
  variants = tables.variants;
  guards = tables.guards;
  sites = tables.sites;
  pointers = tables.pointers;
  points = tables.points;
  targets = tables.targets;
  check = check;
  names = names;
}

pub made_image : (bytes ws s text globals : List ℕ) (p n d m k version entry check : ℕ) (tables : Tables) (named : List (List ℕ)) → AreBytes bytes → Spelled bytes → ws ≡ words_of bytes → s ≡ ws
    → n ≡ text_words s → p ≡ header_words s → text ≡ slice_range ws p (p + n) → d ≡ data_at s → m ≡ data_words s → globals ≡ slice_range ws d (d + m) → AreTables ws tables
    → k ≡ names s → joined named ≡ slice_range bytes (4 * words_end s) (4 * words_end s + sum_below (name_length s) k) → map length named ≡ first_of (name_length s) k
    → version ≡ slice_index s version_place → entry ≡ entry_address s → check ≡ check_of s → Spells bytes (image_of version entry text globals tables check named)
made_image bytes ws s text globals p n d m k version entry check tables named fits sp ew es en ep et ed em eg t ek ej el ev ee ec =
    let n2 : n ≡ text_words ws = en ∙ ap text_words es in
    let d2 : d ≡ data_at ws = ed ∙ ap data_at es in
    let m2 : m ≡ data_words ws = em ∙ ap data_words es in
    let p2 : p ≡ header_words ws = ep ∙ ap header_words es in
    let text_end : header_words ws + n ≡ data_at ws = omega (arith, n2, data_from ws) in
    let data_end : data_at ws + m ≡ switches_at ws = omega (arith, m2, switches_after ws) in
    let joined2 : joined named ≡ slice_range bytes (4 * words_end s) (4 * words_end s + sum_below (name_length s) (names s)) = ej ∙ ap (λ (j : ℕ). slice_range bytes (4 * words_end s) (4 * words_end s + sum_below (name_length s) j)) ek in
    let lengths2 : map length named ≡ first_of (name_length s) (names s) = el ∙ ap (λ (j : ℕ). first_of (name_length s) j) ek in
    let r : IsRead ws bytes (image_of version entry text globals tables check named) = record {
      version = ev ∙ ap (λ (x : List ℕ). slice_index x version_place) es;
      entry = ee ∙ ap entry_address es;
      check = ec ∙ ap check_of es;
      text = et ∙ ap (λ (x : ℕ). slice_range ws x (x + n)) p2 ∙ ap (λ (x : ℕ). slice_range ws (header_words ws) x) text_end;
      globals = eg ∙ ap (λ (x : ℕ). slice_range ws x (x + m)) d2 ∙ ap (λ (x : ℕ). slice_range ws (data_at ws) x) data_end;
      switches = t.switches;
      functions = t.functions;
      variants = t.variants;
      guards = t.guards;
      sites = t.sites;
      pointers = t.pointers;
      points = t.points;
      targets = t.targets;
      switches_count = t.switches_count;
      functions_count = t.functions_count;
      variants_count = t.variants_count;
      guards_count = t.guards_count;
      sites_count = t.sites_count;
      pointers_count = t.pointers_count;
      points_count = t.points_count;
      targets_count = t.targets_count;
      named = subst (λ (x : List ℕ). joined named ≡ slice_range bytes (4 * words_end x) (4 * words_end x + sum_below (name_length x) (names x))) es joined2;
      lengths = subst (λ (x : List ℕ). map length named ≡ first_of (name_length x) (names x)) es lengths2;
    } in
    what_is_read bytes (image_of version entry text globals tables check named) fits sp (subst (λ (x : List ℕ). IsRead x bytes (image_of version entry text globals tables check named)) ew r) (record {
      switches = t.switches_whole;
      switches_clean = t.switches_clean;
      functions = t.functions_whole;
      functions_clean = t.functions_clean;
      variants = t.variants_whole;
      variants_clean = t.variants_clean;
      guards = t.guards_whole;
    })
