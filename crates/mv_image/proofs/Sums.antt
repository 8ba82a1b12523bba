-- The counts of rows add up, and what guard rows keep.
use Rattle.std.proofs.Common.{◌≡◌, ℕ, zero, suc, ◌+◌, ◌-◌, ◌<◌, ◌≤◌, true, false, ltb, eqb, ◌||◌, ◌&&◌, List, [], ◌∷◌, length, take, slice_index, get_or, refl, sym, ap, ◌∙◌, arith, inl, inr, Some}
use Rattle.std.specs.Prelude.{sum_by, slice_get}
use Rattle.std.proofs.Math.Seq.{take-length}
use Rattle.std.proofs.lemmas.Bool.{lt-ltb, le-ltb, cases_lt, eqb-true}
use Rattle.std.proofs.lemmas.List.Sums.{sum_by_more}
use Rattle.mv_num.specs.Kinds.{is_value, is_at_most}
use Rattle.mv_num.specs.declared.kind.Kind.TheVariants as kinds
use Rattle.mv_descriptors.specs.declared.rows.SwitchRow.{SwitchRow}
use Rattle.mv_descriptors.specs.declared.rows.FunctionRow.{FunctionRow}
use Rattle.mv_descriptors.specs.declared.rows.VariantRow.{VariantRow}
use Rattle.mv_descriptors.specs.declared.rows.GuardRow.{GuardRow}
use Rattle.mv_image.specs.Places.{variants_place, guards_place, function_rows, variant_rows, guard_rows, switch_field, function_field, guard_field, variants_of, guards_of, sum_below, owner, guard_function}
use Rattle.mv_image.specs.Rules.{header_fits, function_fits, variant_fits, guard_fits, kind_at}
use Rattle.mv_image.specs.Spelling.{Fields}
use Rattle.mv_image.specs.Faults.{AllFit, Rules, image_words}
use Rattle.mv_image.specs.Patched.{variants_before, guards_before, kind_of, kind_in}
use Rattle.mv_image.specs.WellFormed.{FitsFunction, FitsGuard}
use Rattle.mv_image.proofs.PlaceLaws.{sum_below-none, sum_below-more, owner-is}
use Rattle.mv_image.proofs.WhatIsRead.{header_from, header_rule, not_last}
use Rattle.mv_image.proofs.RowReads.{function_rule, variant_rule, guard_rule}
use Rattle.mv_image.proofs.RowsStand.{StandIn, image_stands, counts_of, image_fits, variants_stand, guards_stand, function_switch_stands, lowest_stands, highest_stands}
use Rattle.mv_image.proofs.RowsFit.{functions_fit}
use Rattle.mv_num.proofs.Booleans.{and_right, and_left}

variants_at_last : (ws : List ℕ) (k : ℕ) → function_fits ws k 9 ≡ true → k + 1 ≡ function_rows ws → sum_below (variants_of ws) (function_rows ws) ≡ variant_rows ws
unfolding function_fits
variants_at_last ws k h last = eqb-true _ _ (not_last _ _ _ last (and_right _ _ h))

no_variants : (ws : List ℕ) → header_fits ws variants_place ≡ true → function_rows ws ≡ 0 → variant_rows ws ≡ 0
unfolding header_fits
no_variants ws h none =
    let t : ltb 0 (function_rows ws) ≡ false = le-ltb _ _ (omega (arith, none)) in
    let g : (ltb 0 (function_rows ws) || eqb (variant_rows ws) 0) ≡ true = and_right _ _ h in
    eqb-true _ _ (rw t at g)

guards_at_last : (ws : List ℕ) (k : ℕ) → variant_fits ws k 4 ≡ true → k + 1 ≡ variant_rows ws → sum_below (guards_of ws) (variant_rows ws) ≡ guard_rows ws
unfolding variant_fits
guards_at_last ws k h last = eqb-true _ _ (not_last _ _ _ last (and_right _ _ h))

no_guards : (ws : List ℕ) → header_fits ws guards_place ≡ true → variant_rows ws ≡ 0 → guard_rows ws ≡ 0
unfolding header_fits
no_guards ws h none =
    let t : ltb 0 (variant_rows ws) ≡ false = le-ltb _ _ (omega (arith, none)) in
    let g : (ltb 0 (variant_rows ws) || eqb (guard_rows ws) 0) ≡ true = and_right _ _ h in
    eqb-true _ _ (rw t at g)

variants_add_up : (ws : List ℕ) → AllFit ws → sum_below (variants_of ws) (function_rows ws) ≡ variant_rows ws
variants_add_up ws fit =
    elim (cases_lt 0 (function_rows ws)) [
      | inl some ↦ variants_at_last ws (function_rows ws - 1) (function_rule ws (function_rows ws - 1) 9 fit (omega arith) (omega arith)) (omega arith)
      | inr none ↦
          let z : function_rows ws ≡ 0 = omega arith in
          ap (sum_below (variants_of ws)) z ∙ sum_below-none (variants_of ws) ∙ sym (no_variants ws (header_rule ws variants_place fit (omega (arith, header_from ws))) z)
    ]

guards_add_up : (ws : List ℕ) → AllFit ws → sum_below (guards_of ws) (variant_rows ws) ≡ guard_rows ws
guards_add_up ws fit =
    elim (cases_lt 0 (variant_rows ws)) [
      | inl some ↦ guards_at_last ws (variant_rows ws - 1) (variant_rule ws (variant_rows ws - 1) 4 fit (omega arith) (omega arith)) (omega arith)
      | inr none ↦
          let z : variant_rows ws ≡ 0 = omega arith in
          ap (sum_below (guards_of ws)) z ∙ sum_below-none (guards_of ws) ∙ sym (no_guards ws (header_rule ws guards_place fit (omega (arith, header_from ws))) z)
    ]

-- sums over words are sums over rows
pub sums_are : {R : Type 0} (count : ℕ → ℕ) (f : R → ℕ) (rows : List R) → ((k : ℕ) (d : R) → k < length rows → count k ≡ f (get_or rows k d)) → (n : ℕ) (d : R) → n ≤ length rows → sum_below count n ≡ sum_by f (take n rows)
sums_are count f rows same zero d le = sum_below-none count
sums_are count f rows same (suc n) d le =
    let e : suc n ≡ n + 1 = omega arith in
    let here = same n d (omega (arith, le)) in
    let rest = sums_are count f rows same n d (omega (arith, le)) in
    ap (sum_below count) e ∙ sum_below-more count n ∙ omega (arith, rest, here, sum_by_more f rows n d (omega (arith, le))) ∙ ap (λ (k : ℕ). sum_by f (take k rows)) (sym e)

pub any_function : FunctionRow
any_function = record { length = 0; entry = 0; count = 0; switches = []; variants = 0 }

pub any_variant : VariantRow
any_variant = record { address = 0; inlined = 0; words = []; guards = 0 }

pub variants_below : (ws : List ℕ) (a : Fields) → StandIn ws a → (n : ℕ) → n ≤ length a.functions → sum_below (variants_of ws) n ≡ variants_before a n
variants_below ws a s n le = sums_are (variants_of ws) (λ (row : FunctionRow). row.variants) a.functions (λ k d lt. variants_stand ws a s k d lt) n any_function le

pub guards_below : (ws : List ℕ) (a : Fields) → StandIn ws a → (n : ℕ) → n ≤ length a.variants → sum_below (guards_of ws) n ≡ guards_before a n
guards_below ws a s n le = sums_are (guards_of ws) (λ (row : VariantRow). row.guards) a.variants (λ k d lt. guards_stand ws a s k d lt) n any_variant le

pub variants_sum : (a : Fields) → Rules a → sum_by (λ (row : FunctionRow). row.variants) a.functions ≡ length a.variants
variants_sum a r =
    let n = counts_of a r in
    ap (sum_by (λ (row : FunctionRow). row.variants)) (sym (take-length a.functions)) ∙ sym (variants_below (image_words a) a (image_stands a r) (length a.functions) (omega arith))
    ∙ ap (sum_below (variants_of (image_words a))) (sym n.functions) ∙ variants_add_up (image_words a) (image_fits a r) ∙ n.variants

pub guards_sum : (a : Fields) → Rules a → sum_by (λ (row : VariantRow). row.guards) a.variants ≡ length a.guards
guards_sum a r =
    let n = counts_of a r in
    ap (sum_by (λ (row : VariantRow). row.guards)) (sym (take-length a.variants)) ∙ sym (guards_below (image_words a) a (image_stands a r) (length a.variants) (omega arith))
    ∙ ap (sum_below (guards_of (image_words a))) (sym n.variants) ∙ guards_add_up (image_words a) (image_fits a r) ∙ n.guards

-- ---- guard rows

guard_low : (ws : List ℕ) (g f i : ℕ) → guard_function ws g ≡ f → i < 6 → guard_fits ws g i ≡ true → i < function_field ws f 2 → is_value (kind_at ws f i) (guard_field ws g i) ≡ true
unfolding guard_fits
guard_low ws g f i e small h lt =
    let s : ltb i 6 ≡ true = lt-ltb _ _ small in
    let t : ltb i (function_field ws f 2) ≡ true = lt-ltb _ _ lt in
    rw (e, s, t) at h

guard_high : (ws : List ℕ) (g f i : ℕ) → guard_function ws g ≡ f → guard_fits ws g (6 + i) ≡ true → i < function_field ws f 2
    → (is_value (kind_at ws f i) (guard_field ws g (6 + i)) && is_at_most (kind_at ws f i) (guard_field ws g i) (guard_field ws g (6 + i))) ≡ true
unfolding guard_fits
guard_high ws g f i e h lt =
    let s : ltb (6 + i) 6 ≡ false = le-ltb _ _ (omega arith) in
    let m : 6 + i - 6 ≡ i = omega arith in
    let t : ltb i (function_field ws f 2) ≡ true = lt-ltb _ _ lt in
    rw (e, s, m, t) at h

guard_low_unused : (ws : List ℕ) (g f i : ℕ) → guard_function ws g ≡ f → i < 6 → guard_fits ws g i ≡ true → function_field ws f 2 ≤ i → guard_field ws g i ≡ 0
unfolding guard_fits
guard_low_unused ws g f i e small h le =
    let s : ltb i 6 ≡ true = lt-ltb _ _ small in
    let t : ltb i (function_field ws f 2) ≡ false = le-ltb _ _ le in
    eqb-true _ _ (rw (e, s, t) at h)

guard_high_unused : (ws : List ℕ) (g f i : ℕ) → guard_function ws g ≡ f → guard_fits ws g (6 + i) ≡ true → function_field ws f 2 ≤ i → guard_field ws g (6 + i) ≡ 0
unfolding guard_fits
guard_high_unused ws g f i e h le =
    let s : ltb (6 + i) 6 ≡ false = le-ltb _ _ (omega arith) in
    let m : 6 + i - 6 ≡ i = omega arith in
    let t : ltb i (function_field ws f 2) ≡ false = le-ltb _ _ le in
    eqb-true _ _ (rw (e, s, m, t) at h)

-- the function of a guard row that stands among those of a variant of it
owners_are : (ws : List ℕ) (a : Fields) → StandIn ws a → (f v g : ℕ) → f < length a.functions → variants_before a f ≤ v
    → v < variants_before a (f + 1) → v < length a.variants → guards_before a v ≤ g → g < guards_before a (v + 1) → guard_function ws g ≡ f
unfolding guard_function
owners_are ws a s f v g hf from to hv above below =
    let n = s.counts in
    let variant : owner (guards_of ws) (variant_rows ws) g ≡ v =
    owner-is (guards_of ws) (variant_rows ws) v g (omega (arith, n.variants, hv)) (omega (arith, guards_below ws a s v (omega (arith, hv)), above)) (λ lt. omega (arith, guards_below ws a s (v + 1) (omega (arith, hv)), below)) in
    ap (owner (variants_of ws) (function_rows ws)) variant
    ∙ owner-is (variants_of ws) (function_rows ws) f v (omega (arith, n.functions, hf)) (omega (arith, variants_below ws a s f (omega (arith, hf)), from)) (λ lt. omega (arith, variants_below ws a s (f + 1) (omega (arith, hf)), to))

get_is : (rows : List SwitchRow) (k : ℕ) (d : SwitchRow) → k < length rows → slice_get rows k ≡ Some (get_or rows k d)
get_is [] k d lt = absurd (omega (arith, lt))
get_is (x ∷ rows) zero d lt = refl
get_is (x ∷ rows) (suc k) d lt = get_is rows k d (omega (arith, lt))

pub any_switch : SwitchRow
any_switch = record { length = 0; address = 0; kind = kinds.Int; count = 0; values = [] }

-- the kind of a function's switch, in the words and in the rows
pub kind_stands : (ws : List ℕ) (a : Fields) → StandIn ws a → (f i : ℕ) (d : FunctionRow) → f < length a.functions
    → FitsFunction a (get_or a.functions f d) → i < (get_or a.functions f d).count
    → kind_at ws f i ≡ kind_of a (slice_index (get_or a.functions f d).switches i)
kind_stands ws a s f i d hf fits hi =
    let k : ℕ = slice_index (get_or a.functions f d).switches i in
    let there : k < length a.switches = fits.switches i hi in
    let number : function_field ws f (3 + i) ≡ k = function_switch_stands ws a s f i d hf (omega (arith, hi, fits.count)) in
    ap (λ (x : ℕ). switch_field ws x 2) number ∙ s.switch k 2 any_switch there (omega arith) ∙ sym (ap kind_in (get_is a.switches k any_switch there))

pub guards_fit : (a : Fields) → Rules a → (f v g : ℕ) (d : FunctionRow) (e : GuardRow) → f < length a.functions → variants_before a f ≤ v → v < variants_before a (f + 1) → guards_before a v ≤ g → g < guards_before a (v + 1)
    → v < length a.variants → g < length a.guards → FitsGuard a (get_or a.functions f d) (get_or a.guards g e)
guards_fit a r f v g d e hf from to above below hv hg =
    let ws : List ℕ = image_words a in
    let s = image_stands a r in
    let n = s.counts in
    let fit = image_fits a r in
    let own = owners_are ws a s f v g hf from to hv above below in
    let row : GuardRow = get_or a.guards g e in
    let here : g < guard_rows ws = omega (arith, n.guards, hg) in
    let fits = functions_fit a r f d hf in
    let few : (get_or a.functions f d).count ≤ 6 = fits.count in
    let count : function_field ws f 2 ≡ (get_or a.functions f d).count = s.function f 2 d hf (omega arith) in
    let low : (i : ℕ) → i < 6 → guard_field ws g i ≡ slice_index row.low i = λ i hi. lowest_stands ws a s g i e hg hi in
    let high : (i : ℕ) → i < 6 → guard_field ws g (6 + i) ≡ slice_index row.high i = λ i hi. highest_stands ws a s g i e hg hi in
    record {
      low = λ i hi. (
          let small : i < 6 = omega (arith, hi, few) in
          let k = kind_stands ws a s f i d hf fits hi in
          let h = guard_low ws g f i own small (guard_rule ws g i fit here (omega (arith, small))) (omega (arith, hi, count)) in
          ap (λ (x : ℕ). is_value x (slice_index row.low i)) (sym k) ∙ ap (is_value (kind_at ws f i)) (sym (low i small)) ∙ h);
      high = λ i hi. (
          let small : i < 6 = omega (arith, hi, few) in
          let k = kind_stands ws a s f i d hf fits hi in
          let h = guard_high ws g f i own (guard_rule ws g (6 + i) fit here (omega (arith, small))) (omega (arith, hi, count)) in
          ap (λ (x : ℕ). is_value x (slice_index row.high i)) (sym k) ∙ ap (is_value (kind_at ws f i)) (sym (high i small)) ∙ and_left _ _ h);
      ordered = λ i hi. (
          let small : i < 6 = omega (arith, hi, few) in
          let k = kind_stands ws a s f i d hf fits hi in
          let h = guard_high ws g f i own (guard_rule ws g (6 + i) fit here (omega (arith, small))) (omega (arith, hi, count)) in
          ap (λ (x : ℕ). is_at_most x (slice_index row.low i) (slice_index row.high i)) (sym k)
          ∙ ap (λ (x : ℕ). is_at_most (kind_at ws f i) x (slice_index row.high i)) (sym (low i small))
          ∙ ap (is_at_most (kind_at ws f i) (guard_field ws g i)) (sym (high i small)) ∙ and_right _ _ h);
      low_unused = λ i hi small. sym (low i small) ∙ guard_low_unused ws g f i own small (guard_rule ws g i fit here (omega (arith, small))) (omega (arith, hi, count));
      high_unused = λ i hi small. sym (high i small) ∙ guard_high_unused ws g f i own (guard_rule ws g (6 + i) fit here (omega (arith, small))) (omega (arith, hi, count));
    }
