-- Entries, sites and pointer sites don't overlap.
use Rattle.std.proofs.Common.{◌≡◌, ℕ, zero, suc, ◌+◌, ◌-◌, ◌*◌, ◌/◌, ◌<◌, ◌≤◌, ◌⊎◌, Bool, true, false, ◌||◌, eqb, ltb, leb, List, length, get_or, slice_index, ap, sym, ◌∙◌, subst, arith, inl, inr}
use Rattle.std.proofs.lemmas.Bool.{cases_lt, leb-true, ltb-true, ne_eqb}
use Rattle.mv_descriptors.specs.Guards.{each_below}
use Rattle.mv_descriptors.proofs.Below.{each_of}
use Rattle.mv_descriptors.specs.declared.rows.FunctionRow.{FunctionRow}
use Rattle.mv_descriptors.specs.declared.rows.SiteRow.{SiteRow}
use Rattle.mv_descriptors.specs.declared.rows.PointerRow.{PointerRow}
use Rattle.mv_descriptors.specs.declared.rows.PointRow.{PointRow}
use Rattle.mv_descriptors.specs.declared.rows.TargetRow.{TargetRow}
use Rattle.mv_image.specs.Places.{function_rows, site_rows, point_rows, target_rows, site_field, point_field, target_field, entry_of}
use Rattle.mv_image.specs.Rules.{function_fits, site_fits, point_fits, target_fits, is_outside, is_outside_four, stands_free}
use Rattle.mv_image.specs.Jumps.{slot_words}
use Rattle.mv_image.specs.Spelling.{Fields}
use Rattle.mv_image.specs.Faults.{Rules, image_words}
use Rattle.mv_image.proofs.RowReads.{function_rule, site_rule, point_rule, target_rule}
use Rattle.mv_image.proofs.RowsFit.{sites_fit, points_fit}
use Rattle.mv_image.proofs.RowsStand.{counts_of, function_is, site_is, point_is, target_is, image_fits}
use Rattle.mv_num.proofs.Booleans.{and_right, and_left, or_cases}

not_first : (k : ℕ) (b : Bool) → 0 < k → (eqb k 0 || b) ≡ true → b ≡ true
not_first k b pos e = let t : eqb k 0 ≡ false = ne_eqb k 0 (λ h. omega (arith, h, pos)) in rw t at e

entry_next : (ws : List ℕ) (k : ℕ) → 0 < k → function_fits ws k 1 ≡ true → entry_of ws (k - 1) < entry_of ws k
unfolding function_fits
entry_next ws k pos h = ltb-true _ _ (not_first k _ pos (and_right _ _ h))

site_next : (ws : List ℕ) (k : ℕ) → 0 < k → site_fits ws k 0 ≡ true → site_field ws (k - 1) 0 + 8 ≤ site_field ws k 0
unfolding site_fits
site_next ws k pos h = leb-true _ _ (not_first k _ pos (and_right _ _ (and_left _ _ h)))

site_outside : (ws : List ℕ) (k : ℕ) → site_fits ws k 0 ≡ true → each_below (λ f. is_outside (site_field ws k 0) (entry_of ws f)) (function_rows ws) ≡ true
unfolding site_fits
site_outside ws k h = and_right _ _ h

-- numbers that grow by a step from each to the next
steps : (f : ℕ → ℕ) (step n : ℕ) → ((k : ℕ) → 0 < k → k < n → f (k - 1) + step ≤ f k) → (j k : ℕ) → j < k → k < n → f j + step ≤ f k
steps f step n next j zero lt hk = absurd (omega arith)
steps f step n next j (suc k) lt hk =
    let e : suc k - 1 ≡ k = omega arith in
    let last : f k + step ≤ f (suc k) = subst (λ (i : ℕ). f i + step ≤ f (suc k)) e (next (suc k) (omega arith) hk) in
    elim (cases_lt j k) [
      | inl below ↦ omega (arith, last, steps f step n next j k below (omega arith))
      | inr above ↦ let same : k ≡ j = omega arith in subst (λ (i : ℕ). f i + step ≤ f (suc k)) same last
    ]

pub entries_ascend : (a : Fields) → Rules a → (j k : ℕ) (d : FunctionRow) → j < k → k < length a.functions → (get_or a.functions j d).entry < (get_or a.functions k d).entry
entries_ascend a r j k d lt hk =
    let ws : List ℕ = image_words a in
    let n = counts_of a r in
    let up : entry_of ws j + 1 ≤ entry_of ws k = steps (entry_of ws) 1 (function_rows ws) (λ i pos hi. omega (arith, entry_next ws i pos (function_rule ws i 1 (image_fits a r) hi (omega arith)))) j k lt (omega (arith, n.functions, hk)) in
    omega (arith, up, function_is a r j 1 d (omega (arith, lt, hk)) (omega arith), function_is a r k 1 d hk (omega arith))

pub sites_apart : (a : Fields) → Rules a → (j k : ℕ) (d : SiteRow) → j < k → k < length a.sites → (get_or a.sites j d).address + 8 ≤ (get_or a.sites k d).address
sites_apart a r j k d lt hk =
    let ws : List ℕ = image_words a in
    let n = counts_of a r in
    let up : site_field ws j 0 + 8 ≤ site_field ws k 0 = steps (λ i. site_field ws i 0) 8 (site_rows ws) (λ i pos hi. site_next ws i pos (site_rule ws i 0 (image_fits a r) hi (omega arith))) j k lt (omega (arith, n.sites, hk)) in
    omega (arith, up, site_is a r j 0 d (omega (arith, lt, hk)) (omega arith), site_is a r k 0 d hk (omega arith))

pub entry_outside : (a : Fields) → Rules a → (f k : ℕ) (d : FunctionRow) (e : SiteRow) → f < length a.functions → k < length a.sites
    → ((get_or a.functions f d).entry < (get_or a.sites k e).address) ⊎ ((get_or a.sites k e).address + 8 ≤ (get_or a.functions f d).entry)
entry_outside a r f k d e hf hk =
    let ws : List ℕ = image_words a in
    let n = counts_of a r in
    let here = function_is a r f 1 d hf (omega arith) in
    let there = site_is a r k 0 e hk (omega arith) in
    let test : ℕ → Bool = λ i. is_outside (site_field ws k 0) (entry_of ws i) in
    let out : test f ≡ true = each_of test (function_rows ws) f (omega (arith, n.functions, hf)) (site_outside ws k (site_rule ws k 0 (image_fits a r) (omega (arith, n.sites, hk)) (omega arith))) in
    elim (or_cases (ltb (entry_of ws f) (site_field ws k 0)) (leb (site_field ws k 0 + 8) (entry_of ws f)) out) [
      | inl before ↦ inl (omega (arith, ltb-true (entry_of ws f) (site_field ws k 0) before, here, there))
      | inr behind ↦ inr (omega (arith, leb-true (site_field ws k 0 + 8) (entry_of ws f) behind, here, there))
    ]

-- ---- pointer sites and targets

point_next : (ws : List ℕ) (k : ℕ) → 0 < k → point_fits ws k 0 ≡ true → point_field ws (k - 1) 0 + 16 ≤ point_field ws k 0
unfolding point_fits
point_next ws k pos h = leb-true _ _ (not_first k _ pos (and_right _ _ (and_left _ _ h)))

point_free : (ws : List ℕ) (k : ℕ) → point_fits ws k 0 ≡ true → stands_free ws (point_field ws k 0) ≡ true
unfolding point_fits
point_free ws k h = and_right _ _ h

no_entry_within : (ws : List ℕ) (point : ℕ) → stands_free ws point ≡ true → each_below (λ f. is_outside_four point (entry_of ws f)) (function_rows ws) ≡ true
unfolding stands_free
no_entry_within ws point h = and_left _ _ h

no_site_within : (ws : List ℕ) (point : ℕ) → stands_free ws point ≡ true → each_below (λ k. is_outside_four point (site_field ws k 0)) (site_rows ws) ≡ true
unfolding stands_free
no_site_within ws point h = and_right _ _ h

target_next : (ws : List ℕ) (k : ℕ) → 0 < k → target_fits ws k 1 ≡ true → target_field ws (k - 1) 1 < target_field ws k 1
unfolding target_fits
target_next ws k pos h = ltb-true _ _ (not_first k _ pos (and_right _ _ h))

pub points_apart : (a : Fields) → Rules a → (j k : ℕ) (d : PointRow) → j < k → k < length a.points → (get_or a.points j d).address + 16 ≤ (get_or a.points k d).address
points_apart a r j k d lt hk =
    let ws : List ℕ = image_words a in
    let n = counts_of a r in
    let up : point_field ws j 0 + 16 ≤ point_field ws k 0 = steps (λ i. point_field ws i 0) 16 (point_rows ws) (λ i pos hi. point_next ws i pos (point_rule ws i 0 (image_fits a r) hi (omega arith))) j k lt (omega (arith, n.points, hk)) in
    omega (arith, up, point_is a r j 0 d (omega (arith, lt, hk)) (omega arith), point_is a r k 0 d hk (omega arith))

pub targets_ascend : (a : Fields) → Rules a → (j k : ℕ) (d : TargetRow) → j < k → k < length a.targets → (get_or a.targets j d).entry < (get_or a.targets k d).entry
targets_ascend a r j k d lt hk =
    let ws : List ℕ = image_words a in
    let n = counts_of a r in
    let up : target_field ws j 1 + 1 ≤ target_field ws k 1 =
    steps (λ i. target_field ws i 1) 1 (target_rows ws)
    (λ i pos hi. omega (arith, target_next ws i pos (target_rule ws i 1 (image_fits a r) hi (omega arith)))) j k lt (omega (arith, n.targets, hk)) in
    omega (arith, up, target_is a r j 1 d (omega (arith, lt, hk)) (omega arith), target_is a r k 1 d hk (omega arith))

-- an address outside of the four words from another on, of two numbers that are these
outside_four : (point address p x : ℕ) → point ≡ p → address ≡ x → is_outside_four point address ≡ true → (x < p) ⊎ (p + 16 ≤ x)
outside_four point address p x here there out =
    elim (or_cases (ltb address point) (leb (point + 16) address) out) [
      | inl before ↦ inl (omega (arith, ltb-true address point before, here, there))
      | inr behind ↦ inr (omega (arith, leb-true (point + 16) address behind, here, there))
    ]

pub entry_outside_point : (a : Fields) → Rules a → (f k : ℕ) (d : FunctionRow) (e : PointRow) → f < length a.functions → k < length a.points
    → ((get_or a.functions f d).entry < (get_or a.points k e).address) ⊎ ((get_or a.points k e).address + 16 ≤ (get_or a.functions f d).entry)
entry_outside_point a r f k d e hf hk =
    let ws : List ℕ = image_words a in
    let n = counts_of a r in
    let free = point_free ws k (point_rule ws k 0 (image_fits a r) (omega (arith, n.points, hk)) (omega arith)) in
    outside_four (point_field ws k 0) (entry_of ws f) _ _ (point_is a r k 0 e hk (omega arith)) (function_is a r f 1 d hf (omega arith))
    (each_of (λ i. is_outside_four (point_field ws k 0) (entry_of ws i)) (function_rows ws) f (omega (arith, n.functions, hf)) (no_entry_within ws (point_field ws k 0) free))

pub site_outside_point : (a : Fields) → Rules a → (j k : ℕ) (d : SiteRow) (e : PointRow) → j < length a.sites → k < length a.points
    → ((get_or a.sites j d).address < (get_or a.points k e).address) ⊎ ((get_or a.points k e).address + 16 ≤ (get_or a.sites j d).address)
site_outside_point a r j k d e hj hk =
    let ws : List ℕ = image_words a in
    let n = counts_of a r in
    let free = point_free ws k (point_rule ws k 0 (image_fits a r) (omega (arith, n.points, hk)) (omega arith)) in
    outside_four (point_field ws k 0) (site_field ws j 0) _ _ (point_is a r k 0 e hk (omega arith)) (site_is a r j 0 d hj (omega arith))
    (each_of (λ i. is_outside_four (point_field ws k 0) (site_field ws i 0)) (site_rows ws) j (omega (arith, n.sites, hj)) (no_site_within ws (point_field ws k 0) free))

-- the first word of a pointer site is no NOP
no_nop : (check at pointer : ℕ) → slice_index (slot_words check at pointer) 0 ≡ 19 → ⊥
unfolding slot_words
no_nop check at pointer e = omega (arith, e)

-- So the second word of a site is no word of a pointer site either.
pub site_beside_point : (a : Fields) → Rules a → (j k : ℕ) (d : SiteRow) (e : PointRow) → j < length a.sites → k < length a.points
    → ((get_or a.sites j d).address + 8 ≤ (get_or a.points k e).address) ⊎ ((get_or a.points k e).address + 16 ≤ (get_or a.sites j d).address)
site_beside_point a r j k d e hj hk =
    let site : ℕ = (get_or a.sites j d).address in
    let point : ℕ = (get_or a.points k e).address in
    let here = sites_fit a r j d hj in
    let there = points_fit a r k e hk in
    let four = here.address.aligned in
    let other_four = there.address.aligned in
    elim (site_outside_point a r j k d e hj hk) [
      | inl before ↦ elim (cases_lt point (site + 8)) [
        | inl within ↦
            let same : point ≡ site + 4 = omega (arith, before, within, four, other_four) in
            let words = ap (λ (x : ℕ). slice_index a.text ((x - 4096) / 4)) same in
            let pointer : PointerRow = record { length = 0; address = 0 } in
            let none : point + 4 * 0 ≡ point = omega arith in
            absurd (no_nop a.check point (get_or a.pointers (get_or a.points k e).pointer pointer).address
            (sym (there.slot 0 pointer (omega arith)) ∙ ap (λ (x : ℕ). slice_index a.text ((x - 4096) / 4)) none ∙ words ∙ here.pad))
        | inr clear ↦ inl clear
      ]
      | inr behind ↦ inr behind
    ]
