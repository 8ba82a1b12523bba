-- The rule of each field of a row, and of each word of the header, from what is plainly asked of it.
use Rattle.std.proofs.Common.{◌≡◌, ℕ, zero, suc, ◌+◌, ◌-◌, ◌*◌, ◌%◌, ◌<◌, ◌≤◌, ◌⊎◌, Bool, true, false, ltb, eqb, ◌||◌, List, length, slice_index, sym, ap, subst, ◌∙◌, arith, inl, inr, eq-eqb}
use Rattle.std.proofs.lemmas.Bool.{lt-ltb, le-ltb, le-leb, cases_lt, ne_eqb, or_right, or_left, and_from}
use Rattle.mv_num.specs.Kinds.{is_value, is_at_most}
use Rattle.mv_num.specs.Limits.{function_limit, pointer_limit, site_limit}
use Rattle.mv_descriptors.specs.Guards.{each_below}
use Rattle.mv_image.specs.Places.{switch_row_words, function_row_words, variant_row_words, guard_row_words, magic_place, version_place, entry_place, text_place, data_place, switches_place, functions_place, variants_place, guards_place, sites_place, names_place, last_place, pointers_place, points_place, targets_place, check_place, magic, point_limit, entry_address, text_words, data_words, switch_rows, function_rows, variant_rows, guard_rows, site_rows, pointer_rows, point_rows, check_of, name_bytes, switch_field, function_field, variant_field, guard_field, site_field, pointer_field, point_field, target_field, entry_of, variants_of, guards_of, text_word, sum_below, guard_function, name_length, names}
use Rattle.mv_image.specs.Rules.{is_text_address, is_data_address, sums_to, sums_to_none, header_fits, switch_fits, function_fits, variant_fits, guard_fits, site_fits, pointer_fits, point_fits, target_fits, kind_at, is_outside, is_outside_four, stands_free}
use Rattle.mv_image.specs.Jumps.{nop, jump, slot_words}
use Rattle.mv_image.specs.Spelling.{Fields}
use Rattle.mv_image.specs.WellFormed.{IsInText, IsInData}
use Rattle.mv_image.proofs.PlaceLaws.{sum_below-none}

-- ---- tests

-- a test that is asked only behind the first
behind_first : (k : ℕ) (b : Bool) → (0 < k → b ≡ true) → (eqb k 0 || b) ≡ true
behind_first k b more =
    elim (cases_lt 0 k) [
      | inl later ↦ or_right (eqb k 0) b (more later)
      | inr first ↦ or_left (eqb k 0) b (eq-eqb k 0 (omega arith))
    ]

pub text_address : (a : Fields) (ws : List ℕ) (x : ℕ) → text_words ws ≡ length a.text → IsInText a x → is_text_address ws x ≡ true
text_address a ws x n within =
    and_from _ _ (and_from _ _ (eq-eqb _ _ within.aligned) (le-leb _ _ within.not_before)) (lt-ltb _ _ (omega (arith, n, within.within)))

pub data_address : (a : Fields) (ws : List ℕ) (x : ℕ) → data_words ws ≡ length a.globals → IsInData a x → is_data_address ws x ≡ true
data_address a ws x n within =
    and_from _ _ (and_from _ _ (eq-eqb _ _ within.aligned) (le-leb _ _ within.not_before)) (lt-ltb _ _ (omega (arith, n, within.within)))

-- ---- sums

-- The counts of the rows add up to the numbers of the header.
pub record SumsHold (ws : List ℕ) : Type 0 where
  pub variants : sum_below (variants_of ws) (function_rows ws) ≡ variant_rows ws
  pub guards : sum_below (guards_of ws) (variant_rows ws) ≡ guard_rows ws
  pub names : sum_below (name_length ws) (names ws) ≡ name_bytes ws

sum_holds : (count : ℕ → ℕ) (n total row : ℕ) → sum_below count n ≡ total → sums_to count n total row ≡ true
sum_holds count n total row e = or_right _ _ (eq-eqb _ _ e)

none_holds : (count : ℕ → ℕ) (n total : ℕ) → sum_below count n ≡ total → sums_to_none n total ≡ true
none_holds count n total e =
    elim (cases_lt 0 n) [
      | inl some ↦ or_left _ _ (lt-ltb _ _ some)
      | inr none ↦ let z : n ≡ 0 = omega arith in or_right _ _ (eq-eqb _ _ (sym e ∙ ap (sum_below count) z ∙ sum_below-none count))
    ]

-- ---- the header

-- what holds of each word of the header, of those that both versions have and of those behind
pub of_header : (P : ℕ → Type 0) → P 0 → P 1 → P 2 → P 3 → P 4 → P 5 → P 6 → P 7 → P 8 → P 9 → P 10 → P 11 → (i : ℕ) → (12 ≤ i → P i) → P i
of_header P a b c d e f g h k l m n zero more = a
of_header P a b c d e f g h k l m n (suc zero) more = b
of_header P a b c d e f g h k l m n (suc (suc zero)) more = c
of_header P a b c d e f g h k l m n (suc (suc (suc zero))) more = d
of_header P a b c d e f g h k l m n (suc (suc (suc (suc zero)))) more = e
of_header P a b c d e f g h k l m n (suc (suc (suc (suc (suc zero))))) more = f
of_header P a b c d e f g h k l m n (suc (suc (suc (suc (suc (suc zero)))))) more = g
of_header P a b c d e f g h k l m n (suc (suc (suc (suc (suc (suc (suc zero))))))) more = h
of_header P a b c d e f g h k l m n (suc (suc (suc (suc (suc (suc (suc (suc zero)))))))) more = k
of_header P a b c d e f g h k l m n (suc (suc (suc (suc (suc (suc (suc (suc (suc zero))))))))) more = l
of_header P a b c d e f g h k l m n (suc (suc (suc (suc (suc (suc (suc (suc (suc (suc zero)))))))))) more = m
of_header P a b c d e f g h k l m n (suc (suc (suc (suc (suc (suc (suc (suc (suc (suc (suc zero))))))))))) more = n
of_header P a b c d e f g h k l m n (suc (suc (suc (suc (suc (suc (suc (suc (suc (suc (suc (suc i)))))))))))) more = more (omega arith)

four : (P : ℕ → Type 0) → P 0 → P 1 → P 2 → P 3 → (i : ℕ) → i < 4 → P i
four P a b c d zero lt = a
four P a b c d (suc zero) lt = b
four P a b c d (suc (suc zero)) lt = c
four P a b c d (suc (suc (suc zero))) lt = d
four P a b c d (suc (suc (suc (suc i)))) lt = absurd (omega arith)

-- and of the four that version 2 alone has
pub of_later : (P : ℕ → Type 0) → P 12 → P 13 → P 14 → P 15 → (i : ℕ) → 12 ≤ i → i < 16 → P i
of_later P a b c d i from to = let e : 12 + (i - 12) ≡ i = omega arith in subst P e (four (λ k. P (12 + k)) a b c d (i - 12) (omega arith))

pub header_magic : (ws : List ℕ) → slice_index ws magic_place ≡ magic → header_fits ws magic_place ≡ true
unfolding header_fits
header_magic ws e = eq-eqb _ _ e

pub header_version : (ws : List ℕ) → (slice_index ws version_place ≡ 1) ⊎ (slice_index ws version_place ≡ 2) → header_fits ws version_place ≡ true
unfolding header_fits
header_version ws (inl e) = or_left _ _ (eq-eqb _ _ e)
header_version ws (inr e) = or_right _ _ (eq-eqb _ _ e)

pub header_entry : (ws : List ℕ) → entry_address ws % 4 ≡ 0 → header_fits ws entry_place ≡ true
unfolding header_fits
header_entry ws e = eq-eqb _ _ e

pub header_text : (ws : List ℕ) → 1 ≤ text_words ws → text_words ws ≤ 131072 → is_text_address ws (entry_address ws) ≡ true → header_fits ws text_place ≡ true
unfolding header_fits
header_text ws some few entry = and_from _ _ (and_from _ _ (le-leb _ _ some) (le-leb _ _ few)) entry

pub header_data : (ws : List ℕ) → data_words ws ≤ 262144 → header_fits ws data_place ≡ true
unfolding header_fits
header_data ws few = le-leb _ _ few

pub header_switches : (ws : List ℕ) → switch_rows ws ≤ 64 → header_fits ws switches_place ≡ true
unfolding header_fits
header_switches ws few = le-leb _ _ few

pub header_functions : (ws : List ℕ) → function_rows ws ≤ 1000 → header_fits ws functions_place ≡ true
unfolding header_fits
header_functions ws few = le-leb _ _ few

pub header_variants : (ws : List ℕ) → SumsHold ws → variant_rows ws ≤ 64000 → header_fits ws variants_place ≡ true
unfolding header_fits
header_variants ws sums few = and_from _ _ (le-leb _ _ few) (none_holds _ _ _ sums.variants)

pub header_guards : (ws : List ℕ) → SumsHold ws → guard_rows ws ≤ 64000 → header_fits ws guards_place ≡ true
unfolding header_fits
header_guards ws sums few = and_from _ _ (le-leb _ _ few) (none_holds _ _ _ sums.guards)

pub header_sites : (ws : List ℕ) → site_rows ws ≤ 16384 → header_fits ws sites_place ≡ true
unfolding header_fits
header_sites ws few = le-leb _ _ few

pub header_names : (ws : List ℕ) → SumsHold ws → header_fits ws names_place ≡ true
unfolding header_fits
header_names ws sums = or_right _ _ (none_holds _ _ _ sums.names)

pub header_last : (ws : List ℕ) → slice_index ws last_place ≡ 0 → header_fits ws last_place ≡ true
unfolding header_fits
header_last ws e = eq-eqb _ _ e

pub header_pointers : (ws : List ℕ) → slice_index ws pointers_place ≤ pointer_limit → header_fits ws pointers_place ≡ true
unfolding header_fits
header_pointers ws few = le-leb _ _ few

pub header_points : (ws : List ℕ) → slice_index ws points_place ≤ point_limit → site_rows ws + 2 * slice_index ws points_place ≤ site_limit → header_fits ws points_place ≡ true
unfolding header_fits
header_points ws few places = and_from _ _ (le-leb _ _ few) (le-leb _ _ places)

pub header_targets : (ws : List ℕ) → SumsHold ws → slice_index ws targets_place ≤ function_limit → header_fits ws targets_place ≡ true
unfolding header_fits
header_targets ws sums few = and_from _ _ (le-leb _ _ few) (none_holds _ _ _ sums.names)

pub header_check : (ws : List ℕ) → (point_rows ws ≡ 0 → slice_index ws check_place ≡ 0)
    → (0 < point_rows ws → (is_text_address ws (slice_index ws check_place) ≡ true) × (is_text_address ws (slice_index ws check_place + 8) ≡ true)) → header_fits ws check_place ≡ true
unfolding header_fits
header_check ws none some =
    elim (cases_lt 0 (point_rows ws)) [
      | inl pos ↦ let t : eqb (point_rows ws) 0 ≡ false = ne_eqb _ _ (λ e. omega (arith, e, pos)) in rw t (and_from _ _ (some pos).0 (some pos).1)
      | inr neither ↦ let t : eqb (point_rows ws) 0 ≡ true = eq-eqb _ _ (omega arith) in rw t (eq-eqb _ _ (none (omega arith)))
    ]

-- ---- switches

pub switch_named : (ws : List ℕ) (k : ℕ) → SumsHold ws → 1 ≤ switch_field ws k 0 → switch_field ws k 0 ≤ 63 → switch_fits ws k 0 ≡ true
unfolding switch_fits
switch_named ws k sums some few = and_from _ _ (and_from _ _ (le-leb _ _ some) (le-leb _ _ few)) (or_right _ _ (sum_holds _ _ _ _ sums.names))

pub switch_addressed : (ws : List ℕ) (k : ℕ) → is_data_address ws (switch_field ws k 1) ≡ true → switch_fits ws k 1 ≡ true
unfolding switch_fits
switch_addressed ws k e = e

pub switch_kinded : (ws : List ℕ) (k : ℕ) → switch_field ws k 2 ≤ 6 → switch_fits ws k 2 ≡ true
unfolding switch_fits
switch_kinded ws k few = le-leb _ _ few

pub switch_counted : (ws : List ℕ) (k : ℕ) → 1 ≤ switch_field ws k 3 → switch_field ws k 3 ≤ 16 → switch_fits ws k 3 ≡ true
unfolding switch_fits
switch_counted ws k some few = and_from _ _ (le-leb _ _ some) (le-leb _ _ few)

pub switch_valued : (ws : List ℕ) (k i : ℕ) → (i < switch_field ws k 3 → is_value (switch_field ws k 2) (switch_field ws k (4 + i)) ≡ true) → (switch_field ws k 3 ≤ i → switch_field ws k (4 + i) ≡ 0) → switch_fits ws k (4 + i) ≡ true
unfolding switch_fits
switch_valued ws k i used unused =
    let e0 : eqb (4 + i) 0 ≡ false = ne_eqb _ _ (λ e. omega (arith, e)) in
    let e1 : eqb (4 + i) 1 ≡ false = ne_eqb _ _ (λ e. omega (arith, e)) in
    let e2 : eqb (4 + i) 2 ≡ false = ne_eqb _ _ (λ e. omega (arith, e)) in
    let e3 : eqb (4 + i) 3 ≡ false = ne_eqb _ _ (λ e. omega (arith, e)) in
    let m : 4 + i - 4 ≡ i = omega arith in
    elim (cases_lt i (switch_field ws k 3)) [
      | inl lt ↦ let t : ltb i (switch_field ws k 3) ≡ true = lt-ltb _ _ lt in rw (e0, e1, e2, e3, m, t) (used lt)
      | inr le ↦ let t : ltb i (switch_field ws k 3) ≡ false = le-ltb _ _ le in rw (e0, e1, e2, e3, m, t) (eq-eqb _ _ (unused le))
    ]

-- ---- functions

pub function_named : (ws : List ℕ) (k : ℕ) → SumsHold ws → 1 ≤ function_field ws k 0 → function_field ws k 0 ≤ 63 → function_fits ws k 0 ≡ true
unfolding function_fits
function_named ws k sums some few = and_from _ _ (and_from _ _ (le-leb _ _ some) (le-leb _ _ few)) (sum_holds _ _ _ _ sums.names)

pub function_entered : (ws : List ℕ) (k : ℕ) → is_text_address ws (entry_of ws k) ≡ true → (0 < k → entry_of ws (k - 1) < entry_of ws k) → function_fits ws k 1 ≡ true
unfolding function_fits
function_entered ws k e more = and_from _ _ e (behind_first k _ (λ pos. lt-ltb _ _ (more pos)))

pub function_counted : (ws : List ℕ) (k : ℕ) → function_field ws k 2 ≤ 6 → function_fits ws k 2 ≡ true
unfolding function_fits
function_counted ws k few = le-leb _ _ few

pub function_switched : (ws : List ℕ) (k i : ℕ) → i < 6 → (i < function_field ws k 2 → function_field ws k (3 + i) < switch_rows ws) → (0 < i → i < function_field ws k 2 → function_field ws k (3 + (i - 1)) < function_field ws k (3 + i))
    → (function_field ws k 2 ≤ i → function_field ws k (3 + i) ≡ 0) → function_fits ws k (3 + i) ≡ true
unfolding function_fits
function_switched ws k i small used more unused =
    let e0 : eqb (3 + i) 0 ≡ false = ne_eqb _ _ (λ e. omega (arith, e)) in
    let e1 : eqb (3 + i) 1 ≡ false = ne_eqb _ _ (λ e. omega (arith, e)) in
    let e2 : eqb (3 + i) 2 ≡ false = ne_eqb _ _ (λ e. omega (arith, e)) in
    let e9 : eqb (3 + i) 9 ≡ false = ne_eqb _ _ (λ e. omega (arith, e, small)) in
    let m : 3 + i - 3 ≡ i = omega arith in
    elim (cases_lt i (function_field ws k 2)) [
      | inl lt ↦
          let t : ltb i (function_field ws k 2) ≡ true = lt-ltb _ _ lt in
          rw (e0, e1, e2, e9, m, t) (and_from _ _ (lt-ltb _ _ (used lt)) (elim (cases_lt 0 i) [
            | inl pos ↦
                let b : 3 + i - 1 ≡ 3 + (i - 1) = omega arith in
                or_right (eqb (3 + i) 3) _ (lt-ltb _ _ (subst (λ (x : ℕ). function_field ws k x < function_field ws k (3 + i)) (sym b) (more pos lt)))
            | inr none ↦ or_left (eqb (3 + i) 3) _ (eq-eqb _ _ (omega arith))
          ]))
      | inr le ↦ let t : ltb i (function_field ws k 2) ≡ false = le-ltb _ _ le in rw (e0, e1, e2, e9, m, t) (eq-eqb _ _ (unused le))
    ]

pub function_variable : (ws : List ℕ) (k : ℕ) → SumsHold ws → 1 ≤ variants_of ws k → variants_of ws k ≤ 64 → function_fits ws k 9 ≡ true
unfolding function_fits
function_variable ws k sums some few = and_from _ _ (and_from _ _ (le-leb _ _ some) (le-leb _ _ few)) (sum_holds _ _ _ _ sums.variants)

-- ---- variants

pub variant_addressed : (ws : List ℕ) (k : ℕ) → is_text_address ws (variant_field ws k 0) ≡ true → variant_fits ws k 0 ≡ true
unfolding variant_fits
variant_addressed ws k e = e

pub variant_flagged : (ws : List ℕ) (k : ℕ) → variant_field ws k 1 ≤ 1 → variant_fits ws k 1 ≡ true
unfolding variant_fits
variant_flagged ws k few = le-leb _ _ few

pub variant_inlined : (ws : List ℕ) (k i : ℕ) → i < 2 → variant_field ws k 1 ≤ 1 → (variant_field ws k 1 ≡ 0 → variant_field ws k (2 + i) ≡ 0) → variant_fits ws k (2 + i) ≡ true
unfolding variant_fits
variant_inlined ws k i small flag unused =
    let e0 : eqb (2 + i) 0 ≡ false = ne_eqb _ _ (λ e. omega (arith, e)) in
    let e1 : eqb (2 + i) 1 ≡ false = ne_eqb _ _ (λ e. omega (arith, e)) in
    let e4 : eqb (2 + i) 4 ≡ false = ne_eqb _ _ (λ e. omega (arith, e, small)) in
    rw (e0, e1, e4) (elim (cases_lt 0 (variant_field ws k 1)) [
      | inl pos ↦ let one : variant_field ws k 1 ≡ 1 = omega arith in or_left _ _ (eq-eqb _ _ one)
      | inr none ↦ or_right _ _ (eq-eqb _ _ (unused (omega arith)))
    ])

pub variant_guarded : (ws : List ℕ) (k : ℕ) → SumsHold ws → 1 ≤ guards_of ws k → guards_of ws k ≤ 64 → variant_fits ws k 4 ≡ true
unfolding variant_fits
variant_guarded ws k sums some few = and_from _ _ (and_from _ _ (le-leb _ _ some) (le-leb _ _ few)) (sum_holds _ _ _ _ sums.guards)

-- ---- guard rows

pub guard_lowest : (ws : List ℕ) (g f i : ℕ) → guard_function ws g ≡ f → i < 6
    → (i < function_field ws f 2 → is_value (kind_at ws f i) (guard_field ws g i) ≡ true) → (function_field ws f 2 ≤ i → guard_field ws g i ≡ 0)
    → guard_fits ws g i ≡ true
unfolding guard_fits
guard_lowest ws g f i own small used unused =
    let s : ltb i 6 ≡ true = lt-ltb _ _ small in
    elim (cases_lt i (function_field ws f 2)) [
      | inl lt ↦ let t : ltb i (function_field ws f 2) ≡ true = lt-ltb _ _ lt in rw (own, s, t) (used lt)
      | inr le ↦ let t : ltb i (function_field ws f 2) ≡ false = le-ltb _ _ le in rw (own, s, t) (eq-eqb _ _ (unused le))
    ]

pub guard_highest : (ws : List ℕ) (g f i : ℕ) → guard_function ws g ≡ f → (i < function_field ws f 2 → is_value (kind_at ws f i) (guard_field ws g (6 + i)) ≡ true)
    → (i < function_field ws f 2 → is_at_most (kind_at ws f i) (guard_field ws g i) (guard_field ws g (6 + i)) ≡ true) → (function_field ws f 2 ≤ i → guard_field ws g (6 + i) ≡ 0) → guard_fits ws g (6 + i) ≡ true
unfolding guard_fits
guard_highest ws g f i own used ordered unused =
    let s : ltb (6 + i) 6 ≡ false = le-ltb _ _ (omega arith) in
    let m : 6 + i - 6 ≡ i = omega arith in
    elim (cases_lt i (function_field ws f 2)) [
      | inl lt ↦ let t : ltb i (function_field ws f 2) ≡ true = lt-ltb _ _ lt in rw (own, s, m, t) (and_from _ _ (used lt) (ordered lt))
      | inr le ↦ let t : ltb i (function_field ws f 2) ≡ false = le-ltb _ _ le in rw (own, s, m, t) (eq-eqb _ _ (unused le))
    ]

-- ---- sites

pub site_addressed : (ws : List ℕ) (k : ℕ) → is_text_address ws (site_field ws k 0) ≡ true → is_text_address ws (site_field ws k 0 + 4) ≡ true → (0 < k → site_field ws (k - 1) 0 + 8 ≤ site_field ws k 0)
    → each_below (λ f. is_outside (site_field ws k 0) (entry_of ws f)) (function_rows ws) ≡ true → site_fits ws k 0 ≡ true
unfolding site_fits
site_addressed ws k first second more outside = and_from _ _ (and_from _ _ (and_from _ _ first second) (behind_first k _ (λ pos. le-leb _ _ (more pos)))) outside

pub site_called : (ws : List ℕ) (k : ℕ) → site_field ws k 1 < function_rows ws
    → text_word ws (site_field ws k 0) ≡ jump 1 (site_field ws k 0) (entry_of ws (site_field ws k 1)) → text_word ws (site_field ws k 0 + 4) ≡ nop
    → site_fits ws k 1 ≡ true
unfolding site_fits
site_called ws k below call pad = and_from _ _ (and_from _ _ (lt-ltb _ _ below) (eq-eqb _ _ call)) (eq-eqb _ _ pad)

pub is_out : (site address : ℕ) → (address < site) ⊎ (site + 8 ≤ address) → is_outside site address ≡ true
is_out site address (inl before) = or_left _ _ (lt-ltb _ _ before)
is_out site address (inr behind) = or_right _ _ (le-leb _ _ behind)

-- ---- pointer switches

pub pointer_named : (ws : List ℕ) (k : ℕ) → SumsHold ws → 1 ≤ pointer_field ws k 0 → pointer_field ws k 0 ≤ 63 → pointer_fits ws k 0 ≡ true
unfolding pointer_fits
pointer_named ws k sums some few = and_from _ _ (and_from _ _ (le-leb _ _ some) (le-leb _ _ few)) (sum_holds _ _ _ _ sums.names)

pub pointer_addressed : (ws : List ℕ) (k : ℕ) → is_data_address ws (pointer_field ws k 1) ≡ true → pointer_fits ws k 1 ≡ true
unfolding pointer_fits
pointer_addressed ws k e = e

-- ---- pointer sites

pub is_out_of_four : (point address : ℕ) → (address < point) ⊎ (point + 16 ≤ address) → is_outside_four point address ≡ true
is_out_of_four point address (inl before) = or_left _ _ (lt-ltb _ _ before)
is_out_of_four point address (inr behind) = or_right _ _ (le-leb _ _ behind)

pub nothing_within : (ws : List ℕ) (point : ℕ) → each_below (λ f. is_outside_four point (entry_of ws f)) (function_rows ws) ≡ true
    → each_below (λ k. is_outside_four point (site_field ws k 0)) (site_rows ws) ≡ true → stands_free ws point ≡ true
unfolding stands_free
nothing_within ws point entries sites = and_from _ _ entries sites

pub point_addressed : (ws : List ℕ) (k : ℕ) → is_text_address ws (point_field ws k 0) ≡ true → is_text_address ws (point_field ws k 0 + 12) ≡ true → (0 < k → point_field ws (k - 1) 0 + 16 ≤ point_field ws k 0)
    → stands_free ws (point_field ws k 0) ≡ true → point_fits ws k 0 ≡ true
unfolding point_fits
point_addressed ws k first last more free = and_from _ _ (and_from _ _ (and_from _ _ first last) (behind_first k _ (λ pos. le-leb _ _ (more pos)))) free

pub point_called : (ws : List ℕ) (k : ℕ) → point_field ws k 1 < pointer_rows ws
    → ((j : ℕ) → j < 4 → text_word ws (point_field ws k 0 + 4 * j) ≡ slice_index (slot_words (check_of ws) (point_field ws k 0) (pointer_field ws (point_field ws k 1) 1)) j) → point_fits ws k 1 ≡ true
unfolding point_fits
point_called ws k below slot =
    let zero_behind : point_field ws k 0 + 4 * 0 ≡ point_field ws k 0 = omega arith in
    and_from _ _ (and_from _ _ (and_from _ _
    (and_from _ _ (lt-ltb _ _ below) (eq-eqb _ _ (ap (text_word ws) (sym zero_behind) ∙ slot 0 (omega arith)))) (eq-eqb _ _ (slot 1 (omega arith))))
    (eq-eqb _ _ (slot 2 (omega arith)))) (eq-eqb _ _ (slot 3 (omega arith)))

-- ---- targets

pub target_named : (ws : List ℕ) (k : ℕ) → SumsHold ws → 1 ≤ target_field ws k 0 → target_field ws k 0 ≤ 63 → target_fits ws k 0 ≡ true
unfolding target_fits
target_named ws k sums some few = and_from _ _ (and_from _ _ (le-leb _ _ some) (le-leb _ _ few)) (sum_holds _ _ _ _ sums.names)

pub target_entered : (ws : List ℕ) (k : ℕ) → is_text_address ws (target_field ws k 1) ≡ true → (0 < k → target_field ws (k - 1) 1 < target_field ws k 1) → target_fits ws k 1 ≡ true
unfolding target_fits
target_entered ws k e more = and_from _ _ e (behind_first k _ (λ pos. lt-ltb _ _ (more pos)))

-- ---- the fields of a row, one after the other

pub switch_fields : (P : ℕ → Type 0) → P 0 → P 1 → P 2 → P 3 → ((i : ℕ) → i < 16 → P (4 + i)) → (f : ℕ) → f < switch_row_words → P f
switch_fields P a b c d more zero lt = a
switch_fields P a b c d more (suc zero) lt = b
switch_fields P a b c d more (suc (suc zero)) lt = c
switch_fields P a b c d more (suc (suc (suc zero))) lt = d
switch_fields P a b c d more (suc (suc (suc (suc i)))) lt = let e : 4 + i ≡ suc (suc (suc (suc i))) = omega arith in subst P e (more i (omega arith))

pub function_fields : (P : ℕ → Type 0) → P 0 → P 1 → P 2 → ((i : ℕ) → i < 6 → P (3 + i)) → P 9 → (f : ℕ) → f < function_row_words → P f
function_fields P a b c more last zero lt = a
function_fields P a b c more last (suc zero) lt = b
function_fields P a b c more last (suc (suc zero)) lt = c
function_fields P a b c more last (suc (suc (suc i))) lt =
    elim (cases_lt i 6) [
      | inl small ↦ let e : 3 + i ≡ suc (suc (suc i)) = omega arith in subst P e (more i small)
      | inr none ↦ let e : 9 ≡ suc (suc (suc i)) = omega arith in subst P e last
    ]

pub variant_fields : (P : ℕ → Type 0) → P 0 → P 1 → ((i : ℕ) → i < 2 → P (2 + i)) → P 4 → (f : ℕ) → f < variant_row_words → P f
variant_fields P a b more last zero lt = a
variant_fields P a b more last (suc zero) lt = b
variant_fields P a b more last (suc (suc i)) lt =
    elim (cases_lt i 2) [
      | inl small ↦ let e : 2 + i ≡ suc (suc i) = omega arith in subst P e (more i small)
      | inr none ↦ let e : 4 ≡ suc (suc i) = omega arith in subst P e last
    ]

pub guard_fields : (P : ℕ → Type 0) → ((i : ℕ) → i < 6 → P i) → ((i : ℕ) → i < 6 → P (6 + i)) → (f : ℕ) → f < guard_row_words → P f
guard_fields P low high f lt =
    elim (cases_lt f 6) [
      | inl small ↦ low f small
      | inr le ↦ let e : 6 + (f - 6) ≡ f = omega arith in subst P e (high (f - 6) (omega arith))
    ]

pub two_fields : (P : ℕ → Type 0) → P 0 → P 1 → (f : ℕ) → f < 2 → P f
two_fields P a b zero lt = a
two_fields P a b (suc zero) lt = b
two_fields P a b (suc (suc i)) lt = absurd (omega arith)
