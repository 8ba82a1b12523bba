-- What rows keep by their own fields.
use Rattle.std.proofs.Common.{◌≡◌, ℕ, zero, suc, ◌+◌, ◌-◌, ◌*◌, ◌<◌, ◌≤◌, true, false, ltb, eqb, ◌||◌, ◌&&◌, List, [], ◌∷◌, length, slice_index, get_or, All, refl, sym, ap, subst, ◌∙◌, arith}
use Rattle.std.proofs.lemmas.Bool.{lt-ltb, ne_eqb, eqb-true, leb-true, ltb-true}
use Rattle.mv_num.specs.Kinds.{kind_number, is_value}
use Rattle.mv_descriptors.specs.declared.rows.SwitchRow.{SwitchRow}
use Rattle.mv_descriptors.specs.declared.rows.FunctionRow.{FunctionRow}
use Rattle.mv_descriptors.specs.declared.rows.VariantRow.{VariantRow}
use Rattle.mv_descriptors.specs.declared.rows.SiteRow.{SiteRow}
use Rattle.mv_descriptors.specs.declared.rows.PointerRow.{PointerRow}
use Rattle.mv_descriptors.specs.declared.rows.PointRow.{PointRow}
use Rattle.mv_descriptors.specs.declared.rows.TargetRow.{TargetRow}
use Rattle.mv_image.specs.Places.{switch_rows, function_rows, variant_rows, pointer_rows, point_rows, target_rows, check_of, switch_field, function_field, variant_field, site_field, pointer_field, point_field, target_field, entry_of, text_word}
use Rattle.mv_image.specs.Rules.{is_text_address, is_data_address, switch_fits, function_fits, variant_fits, site_fits, pointer_fits, point_fits, target_fits}
use Rattle.mv_image.specs.Jumps.{nop, jump, slot_words}
use Rattle.mv_image.specs.Spelling.{Fields}
use Rattle.mv_image.specs.Faults.{Rules, image_words}
use Rattle.mv_image.specs.WellFormed.{IsInText, IsInData, FitsSwitch, FitsFunction, FitsVariant, FitsSite, FitsPointer, FitsPoint, FitsTarget}
use Rattle.mv_image.proofs.RowReads.{switch_rule, function_rule, variant_rule, site_rule, pointer_rule, point_rule, target_rule}
use Rattle.mv_image.proofs.RowsStand.{counts_of, image_fits, image_stands, behind, text_word_stands, switch_is, function_is, variant_is, site_is, pointer_is, point_is, target_is, function_variants, variant_guards, function_switch_is}
use Rattle.mv_image.proofs.Limits.{in_text, in_data}
use Rattle.mv_num.proofs.Booleans.{and_right, and_left}

-- ---- switches

record SwitchSays (ws : List ℕ) (k : ℕ) : Type 0 where
  named : 1 ≤ switch_field ws k 0
  name : switch_field ws k 0 ≤ 63
  address : is_data_address ws (switch_field ws k 1) ≡ true
  some : 1 ≤ switch_field ws k 3
  count : switch_field ws k 3 ≤ 16

switch_says : (ws : List ℕ) (k : ℕ) → switch_fits ws k 0 ≡ true → switch_fits ws k 1 ≡ true → switch_fits ws k 3 ≡ true → SwitchSays ws k
unfolding switch_fits
switch_says ws k h0 h1 h3 = record {
  named = leb-true _ _ (and_left _ _ (and_left _ _ h0));
  name = leb-true _ _ (and_right _ _ (and_left _ _ h0));
  address = h1;
  some = leb-true _ _ (and_left _ _ h3);
  count = leb-true _ _ (and_right _ _ h3);
}

switch_value : (ws : List ℕ) (k i : ℕ) → switch_fits ws k (4 + i) ≡ true → i < switch_field ws k 3 → is_value (switch_field ws k 2) (switch_field ws k (4 + i)) ≡ true
unfolding switch_fits
switch_value ws k i h lt =
    let e0 : eqb (4 + i) 0 ≡ false = ne_eqb _ _ (λ e. omega (arith, e)) in
    let e1 : eqb (4 + i) 1 ≡ false = ne_eqb _ _ (λ e. omega (arith, e)) in
    let e2 : eqb (4 + i) 2 ≡ false = ne_eqb _ _ (λ e. omega (arith, e)) in
    let e3 : eqb (4 + i) 3 ≡ false = ne_eqb _ _ (λ e. omega (arith, e)) in
    let m : 4 + i - 4 ≡ i = omega arith in
    let t : ltb i (switch_field ws k 3) ≡ true = lt-ltb _ _ lt in
    rw (e0, e1, e2, e3, m, t) at h

pub switches_fit : (a : Fields) → Rules a → All (FitsSwitch a) a.switches
switches_fit a r k d lt =
    let ws : List ℕ = image_words a in
    let n = counts_of a r in
    let here : k < switch_rows ws = omega (arith, n.switches, lt) in
    let fit = image_fits a r in
    let says = switch_says ws k (switch_rule ws k 0 fit here (omega arith)) (switch_rule ws k 1 fit here (omega arith)) (switch_rule ws k 3 fit here (omega arith)) in
    let row : SwitchRow = get_or a.switches k d in
    let f0 : switch_field ws k 0 ≡ row.length = switch_is a r k 0 d lt (omega arith) in
    let f1 : switch_field ws k 1 ≡ row.address = switch_is a r k 1 d lt (omega arith) in
    let f2 : switch_field ws k 2 ≡ kind_number row.kind = switch_is a r k 2 d lt (omega arith) in
    let f3 : switch_field ws k 3 ≡ row.count = switch_is a r k 3 d lt (omega arith) in
    record {
      named = omega (arith, says.named, f0);
      name = omega (arith, says.name, f0);
      address = subst (λ (x : ℕ). IsInData a x) f1 (in_data a ws (switch_field ws k 1) n.globals says.address);
      some = omega (arith, says.some, f3);
      count = omega (arith, says.count, f3);
      values = λ i hi. (
          let small : 4 + i < 20 = omega (arith, hi, says.count, f3) in
          let f4 : switch_field ws k (4 + i) ≡ slice_index row.values i = switch_is a r k (4 + i) d lt small ∙ behind (row.length ∷ row.address ∷ kind_number row.kind ∷ row.count ∷ []) row.values (4 + i) i refl in
          ap (λ (x : ℕ). is_value x (slice_index row.values i)) (sym f2) ∙ ap (is_value (switch_field ws k 2)) (sym f4) ∙ switch_value ws k i (switch_rule ws k (4 + i) fit here small) (omega (arith, hi, f3)));
    }

-- ---- functions

record FunctionSays (ws : List ℕ) (k : ℕ) : Type 0 where
  named : 1 ≤ function_field ws k 0
  name : function_field ws k 0 ≤ 63
  entry : is_text_address ws (function_field ws k 1) ≡ true
  count : function_field ws k 2 ≤ 6
  some : 1 ≤ function_field ws k 9
  variants : function_field ws k 9 ≤ 64

function_says : (ws : List ℕ) (k : ℕ) → function_fits ws k 0 ≡ true → function_fits ws k 1 ≡ true → function_fits ws k 2 ≡ true → function_fits ws k 9 ≡ true → FunctionSays ws k
unfolding function_fits
function_says ws k h0 h1 h2 h9 = record {
  named = leb-true _ _ (and_left _ _ (and_left _ _ h0));
  name = leb-true _ _ (and_right _ _ (and_left _ _ h0));
  entry = and_left _ _ h1;
  count = leb-true _ _ h2;
  some = leb-true _ _ (and_left _ _ (and_left _ _ h9));
  variants = leb-true _ _ (and_right _ _ (and_left _ _ h9));
}

function_switch : (ws : List ℕ) (k i : ℕ) → i < 6 → function_fits ws k (3 + i) ≡ true → i < function_field ws k 2
    → (ltb (function_field ws k (3 + i)) (switch_rows ws) && (eqb (3 + i) 3 || ltb (function_field ws k (3 + i - 1)) (function_field ws k (3 + i)))) ≡ true
unfolding function_fits
function_switch ws k i small h lt =
    let e0 : eqb (3 + i) 0 ≡ false = ne_eqb _ _ (λ e. omega (arith, e)) in
    let e1 : eqb (3 + i) 1 ≡ false = ne_eqb _ _ (λ e. omega (arith, e)) in
    let e2 : eqb (3 + i) 2 ≡ false = ne_eqb _ _ (λ e. omega (arith, e)) in
    let e9 : eqb (3 + i) 9 ≡ false = ne_eqb _ _ (λ e. omega (arith, e, small)) in
    let m : 3 + i - 3 ≡ i = omega arith in
    let t : ltb i (function_field ws k 2) ≡ true = lt-ltb _ _ lt in
    rw (e0, e1, e2, e9, m, t) at h

function_next : (ws : List ℕ) (k i : ℕ) → (eqb (3 + (i + 1)) 3 || ltb (function_field ws k (3 + (i + 1) - 1)) (function_field ws k (3 + (i + 1)))) ≡ true → function_field ws k (3 + i) < function_field ws k (3 + (i + 1))
function_next ws k i h =
    let e : eqb (3 + (i + 1)) 3 ≡ false = ne_eqb _ _ (λ e. omega (arith, e)) in
    let m : 3 + (i + 1) - 1 ≡ 3 + i = omega arith in
    ltb-true _ _ (rw (e, m) at h)

pub functions_fit : (a : Fields) → Rules a → All (FitsFunction a) a.functions
functions_fit a r k d lt =
    let ws : List ℕ = image_words a in
    let n = counts_of a r in
    let here : k < function_rows ws = omega (arith, n.functions, lt) in
    let fit = image_fits a r in
    let says = function_says ws k (function_rule ws k 0 fit here (omega arith)) (function_rule ws k 1 fit here (omega arith)) (function_rule ws k 2 fit here (omega arith)) (function_rule ws k 9 fit here (omega arith)) in
    let row : FunctionRow = get_or a.functions k d in
    let f0 : function_field ws k 0 ≡ row.length = function_is a r k 0 d lt (omega arith) in
    let f1 : function_field ws k 1 ≡ row.entry = function_is a r k 1 d lt (omega arith) in
    let f2 : function_field ws k 2 ≡ row.count = function_is a r k 2 d lt (omega arith) in
    let f9 : function_field ws k 9 ≡ row.variants = function_variants a r k d lt in
    let f3 : (i : ℕ) → i < 6 → function_field ws k (3 + i) ≡ slice_index row.switches i = λ i hi. function_switch_is a r k i d lt hi in
    record {
      named = omega (arith, says.named, f0);
      name = omega (arith, says.name, f0);
      entry = subst (λ (x : ℕ). IsInText a x) f1 (in_text a ws (function_field ws k 1) n.text says.entry);
      count = omega (arith, says.count, f2);
      switches = λ i hi. (
          let small : i < 6 = omega (arith, hi, says.count, f2) in
          let h = function_switch ws k i small (function_rule ws k (3 + i) fit here (omega (arith, small))) (omega (arith, hi, f2)) in
          omega (arith, f3 i small, n.switches, ltb-true (function_field ws k (3 + i)) (switch_rows ws) (and_left _ _ h)));
      ascend = λ i hi. (
          let small : i + 1 < 6 = omega (arith, hi, says.count, f2) in
          let h = function_switch ws k (i + 1) small (function_rule ws k (3 + (i + 1)) fit here (omega (arith, small))) (omega (arith, hi, f2)) in
          omega (arith, f3 i (omega (arith, small)), f3 (i + 1) small, function_next ws k i (and_right _ _ h)));
      some = omega (arith, says.some, f9);
      variants = omega (arith, says.variants, f9);
    }

-- ---- variants

record VariantSays (ws : List ℕ) (k : ℕ) : Type 0 where
  address : is_text_address ws (variant_field ws k 0) ≡ true
  inlined : variant_field ws k 1 ≤ 1
  some : 1 ≤ variant_field ws k 4
  guards : variant_field ws k 4 ≤ 64

variant_says : (ws : List ℕ) (k : ℕ) → variant_fits ws k 0 ≡ true → variant_fits ws k 1 ≡ true → variant_fits ws k 4 ≡ true → VariantSays ws k
unfolding variant_fits
variant_says ws k h0 h1 h4 = record {
  address = h0;
  inlined = leb-true _ _ h1;
  some = leb-true _ _ (and_left _ _ (and_left _ _ h4));
  guards = leb-true _ _ (and_right _ _ (and_left _ _ h4));
}

pub variants_fit : (a : Fields) → Rules a → All (FitsVariant a) a.variants
variants_fit a r k d lt =
    let ws : List ℕ = image_words a in
    let n = counts_of a r in
    let here : k < variant_rows ws = omega (arith, n.variants, lt) in
    let fit = image_fits a r in
    let says = variant_says ws k (variant_rule ws k 0 fit here (omega arith)) (variant_rule ws k 1 fit here (omega arith)) (variant_rule ws k 4 fit here (omega arith)) in
    let row : VariantRow = get_or a.variants k d in
    let f0 : variant_field ws k 0 ≡ row.address = variant_is a r k 0 d lt (omega arith) in
    let f1 : variant_field ws k 1 ≡ row.inlined = variant_is a r k 1 d lt (omega arith) in
    let f4 : variant_field ws k 4 ≡ row.guards = variant_guards a r k d lt in
    record {
      address = subst (λ (x : ℕ). IsInText a x) f0 (in_text a ws (variant_field ws k 0) n.text says.address);
      inlined = omega (arith, says.inlined, f1);
      some = omega (arith, says.some, f4);
      guards = omega (arith, says.guards, f4);
    }

-- ---- sites

site_places : (ws : List ℕ) (k : ℕ) → site_fits ws k 0 ≡ true → (is_text_address ws (site_field ws k 0) ≡ true) × (is_text_address ws (site_field ws k 0 + 4) ≡ true)
unfolding site_fits
site_places ws k h = (and_left _ _ (and_left _ _ (and_left _ _ h)), and_right _ _ (and_left _ _ (and_left _ _ h)))

record SiteSays (ws : List ℕ) (k : ℕ) : Type 0 where
  function : site_field ws k 1 < function_rows ws
  call : text_word ws (site_field ws k 0) ≡ jump 1 (site_field ws k 0) (entry_of ws (site_field ws k 1))
  pad : text_word ws (site_field ws k 0 + 4) ≡ nop

site_says : (ws : List ℕ) (k : ℕ) → site_fits ws k 1 ≡ true → SiteSays ws k
unfolding site_fits
site_says ws k h = record {
  function = ltb-true _ _ (and_left _ _ (and_left _ _ h));
  call = eqb-true _ _ (and_right _ _ (and_left _ _ h));
  pad = eqb-true _ _ (and_right _ _ h);
}

pub sites_fit : (a : Fields) → Rules a → All (FitsSite a) a.sites
sites_fit a r k d lt =
    let ws : List ℕ = image_words a in
    let n = counts_of a r in
    let fit = image_fits a r in
    let places = site_places ws k (site_rule ws k 0 fit (omega (arith, n.sites, lt)) (omega arith)) in
    let says = site_says ws k (site_rule ws k 1 fit (omega (arith, n.sites, lt)) (omega arith)) in
    let row : SiteRow = get_or a.sites k d in
    let f0 : site_field ws k 0 ≡ row.address = site_is a r k 0 d lt (omega arith) in
    let f1 : site_field ws k 1 ≡ row.function = site_is a r k 1 d lt (omega arith) in
    let first : IsInText a row.address = subst (λ (x : ℕ). IsInText a x) f0 (in_text a ws (site_field ws k 0) n.text places.0) in
    let second : IsInText a (row.address + 4) = subst (λ (x : ℕ). IsInText a (x + 4)) f0 (in_text a ws (site_field ws k 0 + 4) n.text places.1) in
    let below : row.function < length a.functions = omega (arith, says.function, f1, n.functions) in
    record {
      address = first;
      next = second;
      function = below;
      call = λ e. sym (text_word_stands ws a (image_stands a r) row.address first) ∙ ap (text_word ws) (sym f0) ∙ says.call
          ∙ ap (λ (x : ℕ). jump 1 x (entry_of ws (site_field ws k 1))) f0 ∙ ap (λ (f : ℕ). jump 1 row.address (entry_of ws f)) f1
          ∙ ap (jump 1 row.address) (function_is a r row.function 1 e below (omega arith));
      pad = sym (text_word_stands ws a (image_stands a r) (row.address + 4) second) ∙ ap (λ (x : ℕ). text_word ws (x + 4)) (sym f0) ∙ says.pad;
    }

-- ---- pointer switches

record PointerSays (ws : List ℕ) (k : ℕ) : Type 0 where
  named : 1 ≤ pointer_field ws k 0
  name : pointer_field ws k 0 ≤ 63
  address : is_data_address ws (pointer_field ws k 1) ≡ true

pointer_says : (ws : List ℕ) (k : ℕ) → pointer_fits ws k 0 ≡ true → pointer_fits ws k 1 ≡ true → PointerSays ws k
unfolding pointer_fits
pointer_says ws k h0 h1 = record {
  named = leb-true _ _ (and_left _ _ (and_left _ _ h0));
  name = leb-true _ _ (and_right _ _ (and_left _ _ h0));
  address = h1;
}

pub pointers_fit : (a : Fields) → Rules a → All (FitsPointer a) a.pointers
pointers_fit a r k d lt =
    let ws : List ℕ = image_words a in
    let n = counts_of a r in
    let fit = image_fits a r in
    let here : k < pointer_rows ws = omega (arith, n.pointers, lt) in
    let says = pointer_says ws k (pointer_rule ws k 0 fit here (omega arith)) (pointer_rule ws k 1 fit here (omega arith)) in
    let row : PointerRow = get_or a.pointers k d in
    let f0 : pointer_field ws k 0 ≡ row.length = pointer_is a r k 0 d lt (omega arith) in
    let f1 : pointer_field ws k 1 ≡ row.address = pointer_is a r k 1 d lt (omega arith) in
    record {
      named = omega (arith, says.named, f0);
      name = omega (arith, says.name, f0);
      address = subst (λ (x : ℕ). IsInData a x) f1 (in_data a ws (pointer_field ws k 1) n.globals says.address);
    }

-- ---- pointer sites

point_places : (ws : List ℕ) (k : ℕ) → point_fits ws k 0 ≡ true → (is_text_address ws (point_field ws k 0) ≡ true) × (is_text_address ws (point_field ws k 0 + 12) ≡ true)
unfolding point_fits
point_places ws k h = (and_left _ _ (and_left _ _ (and_left _ _ h)), and_right _ _ (and_left _ _ (and_left _ _ h)))

-- the slot that the words at a pointer site's address have to be
abbrev slot_at : List ℕ → ℕ → List ℕ
slot_at ws k = slot_words (check_of ws) (point_field ws k 0) (pointer_field ws (point_field ws k 1) 1)

record PointSays (ws : List ℕ) (k : ℕ) : Type 0 where
  pointer : point_field ws k 1 < pointer_rows ws
  first : text_word ws (point_field ws k 0) ≡ slice_index (slot_at ws k) 0
  second : text_word ws (point_field ws k 0 + 4) ≡ slice_index (slot_at ws k) 1
  third : text_word ws (point_field ws k 0 + 8) ≡ slice_index (slot_at ws k) 2
  fourth : text_word ws (point_field ws k 0 + 12) ≡ slice_index (slot_at ws k) 3

point_says : (ws : List ℕ) (k : ℕ) → point_fits ws k 1 ≡ true → PointSays ws k
unfolding point_fits
point_says ws k h = record {
  pointer = ltb-true _ _ (and_left _ _ (and_left _ _ (and_left _ _ (and_left _ _ h))));
  first = eqb-true _ _ (and_right _ _ (and_left _ _ (and_left _ _ (and_left _ _ h))));
  second = eqb-true _ _ (and_right _ _ (and_left _ _ (and_left _ _ h)));
  third = eqb-true _ _ (and_right _ _ (and_left _ _ h));
  fourth = eqb-true _ _ (and_right _ _ h);
}

-- the four words, by their number
slot_says : (ws : List ℕ) (k j : ℕ) → PointSays ws k → j < 4 → text_word ws (point_field ws k 0 + 4 * j) ≡ slice_index (slot_at ws k) j
slot_says ws k zero s lt = let e : point_field ws k 0 + 4 * zero ≡ point_field ws k 0 = omega arith in ap (text_word ws) e ∙ s.first
slot_says ws k (suc zero) s lt = let e : point_field ws k 0 + 4 * suc zero ≡ point_field ws k 0 + 4 = omega arith in ap (text_word ws) e ∙ s.second
slot_says ws k (suc (suc zero)) s lt = let e : point_field ws k 0 + 4 * suc (suc zero) ≡ point_field ws k 0 + 8 = omega arith in ap (text_word ws) e ∙ s.third
slot_says ws k (suc (suc (suc zero))) s lt = let e : point_field ws k 0 + 4 * suc (suc (suc zero)) ≡ point_field ws k 0 + 12 = omega arith in ap (text_word ws) e ∙ s.fourth
slot_says ws k (suc (suc (suc (suc j)))) s lt = absurd (omega arith)

-- an address of a word of text, of those that a pointer site has
pub slot_address : (a : Fields) (x j : ℕ) → IsInText a x → IsInText a (x + 12) → j < 4 → IsInText a (x + 4 * j)
slot_address a x j first last lt =
    record { aligned = omega (arith, first.aligned); not_before = omega (arith, first.not_before); within = omega (arith, last.within, lt) }

pub points_fit : (a : Fields) → Rules a → All (FitsPoint a) a.points
points_fit a r k d lt =
    let ws : List ℕ = image_words a in
    let n = counts_of a r in
    let fit = image_fits a r in
    let here : k < point_rows ws = omega (arith, n.points, lt) in
    let places = point_places ws k (point_rule ws k 0 fit here (omega arith)) in
    let says = point_says ws k (point_rule ws k 1 fit here (omega arith)) in
    let row : PointRow = get_or a.points k d in
    let f0 : point_field ws k 0 ≡ row.address = point_is a r k 0 d lt (omega arith) in
    let f1 : point_field ws k 1 ≡ row.pointer = point_is a r k 1 d lt (omega arith) in
    let first : IsInText a row.address = subst (λ (x : ℕ). IsInText a x) f0 (in_text a ws (point_field ws k 0) n.text places.0) in
    let last : IsInText a (row.address + 12) = subst (λ (x : ℕ). IsInText a (x + 12)) f0 (in_text a ws (point_field ws k 0 + 12) n.text places.1) in
    let below : row.pointer < length a.pointers = omega (arith, says.pointer, f1, n.pointers) in
    record {
      address = first;
      last = last;
      pointer = below;
      slot = λ j e hj. (
          let pointed : pointer_field ws (point_field ws k 1) 1 ≡ (get_or a.pointers row.pointer e).address = ap (λ (q : ℕ). pointer_field ws q 1) f1 ∙ pointer_is a r row.pointer 1 e below (omega arith) in
          sym (text_word_stands ws a (image_stands a r) (row.address + 4 * j) (slot_address a row.address j first last hj)) ∙ ap (λ (x : ℕ). text_word ws (x + 4 * j)) (sym f0) ∙ slot_says ws k j says hj
          ∙ ap (λ (c : ℕ). slice_index (slot_words c (point_field ws k 0) (pointer_field ws (point_field ws k 1) 1)) j) n.check
          ∙ ap (λ (x : ℕ). slice_index (slot_words a.check x (pointer_field ws (point_field ws k 1) 1)) j) f0
          ∙ ap (λ (p : ℕ). slice_index (slot_words a.check row.address p) j) pointed);
    }

-- ---- targets

record TargetSays (ws : List ℕ) (k : ℕ) : Type 0 where
  named : 1 ≤ target_field ws k 0
  name : target_field ws k 0 ≤ 63
  entry : is_text_address ws (target_field ws k 1) ≡ true

target_says : (ws : List ℕ) (k : ℕ) → target_fits ws k 0 ≡ true → target_fits ws k 1 ≡ true → TargetSays ws k
unfolding target_fits
target_says ws k h0 h1 = record {
  named = leb-true _ _ (and_left _ _ (and_left _ _ h0));
  name = leb-true _ _ (and_right _ _ (and_left _ _ h0));
  entry = and_left _ _ h1;
}

pub targets_fit : (a : Fields) → Rules a → All (FitsTarget a) a.targets
targets_fit a r k d lt =
    let ws : List ℕ = image_words a in
    let n = counts_of a r in
    let fit = image_fits a r in
    let here : k < target_rows ws = omega (arith, n.targets, lt) in
    let says = target_says ws k (target_rule ws k 0 fit here (omega arith)) (target_rule ws k 1 fit here (omega arith)) in
    let row : TargetRow = get_or a.targets k d in
    let f0 : target_field ws k 0 ≡ row.length = target_is a r k 0 d lt (omega arith) in
    let f1 : target_field ws k 1 ≡ row.entry = target_is a r k 1 d lt (omega arith) in
    record {
      named = omega (arith, says.named, f0);
      name = omega (arith, says.name, f0);
      entry = subst (λ (x : ℕ). IsInText a x) f1 (in_text a ws (target_field ws k 1) n.text says.entry);
    }
