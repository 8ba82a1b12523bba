-- The limits of an image.
use Rattle.std.proofs.Common.{◌≡◌, ℕ, ◌+◌, ◌*◌, ◌<◌, ◌≤◌, ◌⊎◌, ◌&&◌, true, false, eqb, List, length, slice_index, sym, subst, ◌∙◌, arith, inl, inr, eq-eqb}
use Rattle.std.proofs.lemmas.Bool.{cases_Bool, ne_eqb, eqb-true, leb-true, ltb-true}
use Rattle.mv_num.specs.Limits.{function_limit, pointer_limit, site_limit}
use Rattle.mv_image.specs.Places.{version_place, text_place, data_place, switches_place, functions_place, variants_place, guards_place, sites_place, pointers_place, points_place, targets_place, check_place, point_limit, is_second, entry_address, text_words, data_words, switch_rows, function_rows, variant_rows, guard_rows, site_rows, pointer_rows, point_rows, target_rows, check_of}
use Rattle.mv_image.specs.Rules.{header_fits, is_text_address, is_data_address}
use Rattle.mv_image.specs.WellFormed.{IsInText, IsInData}
use Rattle.mv_image.specs.Format.{HasVersion, HasCheck, IsWithin}
use Rattle.mv_image.specs.Spelling.{Fields}
use Rattle.mv_image.specs.Faults.{AllFit, Rules, image_words}
use Rattle.mv_image.proofs.WhatIsRead.{header_from, header_second, later_none, header_rule, version_is}
use Rattle.mv_image.proofs.RowsStand.{later_is, counts_of, image_fits}
use Rattle.mv_num.proofs.Booleans.{and_right, and_left}

pub in_text : (image : Fields) (ws : List ℕ) (a : ℕ) → text_words ws ≡ length image.text → is_text_address ws a ≡ true → IsInText image a
in_text image ws a n h = record {
  aligned = eqb-true _ _ (and_left _ _ (and_left _ _ h));
  not_before = leb-true _ _ (and_right _ _ (and_left _ _ h));
  within = omega (arith, n, ltb-true a (4096 + 4 * text_words ws) (and_right _ _ h));
}

pub in_data : (image : Fields) (ws : List ℕ) (a : ℕ) → data_words ws ≡ length image.globals → is_data_address ws a ≡ true → IsInData image a
in_data image ws a n h = record {
  aligned = eqb-true _ _ (and_left _ _ (and_left _ _ h));
  not_before = leb-true _ _ (and_right _ _ (and_left _ _ h));
  within = omega (arith, n, ltb-true a (1048576 + 4 * data_words ws) (and_right _ _ h));
}

from_one : (ws : List ℕ) → header_fits ws text_place ≡ true → 1 ≤ text_words ws
unfolding header_fits
from_one ws h = leb-true _ _ (and_left _ _ (and_left _ _ h))

text_most : (ws : List ℕ) → header_fits ws text_place ≡ true → text_words ws ≤ 131072
unfolding header_fits
text_most ws h = leb-true _ _ (and_right _ _ (and_left _ _ h))

entry_in : (ws : List ℕ) → header_fits ws text_place ≡ true → is_text_address ws (entry_address ws) ≡ true
unfolding header_fits
entry_in ws h = and_right _ _ h

data_most : (ws : List ℕ) → header_fits ws data_place ≡ true → data_words ws ≤ 262144
unfolding header_fits
data_most ws h = leb-true _ _ h

switches_most : (ws : List ℕ) → header_fits ws switches_place ≡ true → switch_rows ws ≤ 64
unfolding header_fits
switches_most ws h = leb-true _ _ h

functions_most : (ws : List ℕ) → header_fits ws functions_place ≡ true → function_rows ws ≤ 1000
unfolding header_fits
functions_most ws h = leb-true _ _ h

variants_most : (ws : List ℕ) → header_fits ws variants_place ≡ true → variant_rows ws ≤ 64000
unfolding header_fits
variants_most ws h = leb-true _ _ (and_left _ _ h)

guards_most : (ws : List ℕ) → header_fits ws guards_place ≡ true → guard_rows ws ≤ 64000
unfolding header_fits
guards_most ws h = leb-true _ _ (and_left _ _ h)

sites_most : (ws : List ℕ) → header_fits ws sites_place ≡ true → site_rows ws ≤ 16384
unfolding header_fits
sites_most ws h = leb-true _ _ h

-- ---- what version 2 alone has

pointers_few : (ws : List ℕ) → header_fits ws pointers_place ≡ true → slice_index ws pointers_place ≤ pointer_limit
unfolding header_fits
pointers_few ws h = leb-true _ _ h

points_few : (ws : List ℕ) → header_fits ws points_place ≡ true → (slice_index ws points_place ≤ point_limit) × (site_rows ws + 2 * slice_index ws points_place ≤ site_limit)
unfolding header_fits
points_few ws h = (leb-true _ _ (and_left _ _ h), leb-true _ _ (and_right _ _ h))

targets_few : (ws : List ℕ) → header_fits ws targets_place ≡ true → slice_index ws targets_place ≤ function_limit
unfolding header_fits
targets_few ws h = leb-true _ _ (and_left _ _ h)

no_check : (ws : List ℕ) → header_fits ws check_place ≡ true → point_rows ws ≡ 0 → slice_index ws check_place ≡ 0
unfolding header_fits
no_check ws h none = let t : eqb (point_rows ws) 0 ≡ true = eq-eqb _ _ none in eqb-true _ _ (rw t at h)

check_there : (ws : List ℕ) → header_fits ws check_place ≡ true → 0 < point_rows ws → (is_text_address ws (slice_index ws check_place) && is_text_address ws (slice_index ws check_place + 8)) ≡ true
unfolding header_fits
check_there ws h some = let t : eqb (point_rows ws) 0 ≡ false = ne_eqb _ _ (λ e. omega (arith, e, some)) in rw t at h

-- What the header's last words say, of both versions.
record LaterSays (ws : List ℕ) : Type 0 where
  pointers : pointer_rows ws ≤ pointer_limit
  points : point_rows ws ≤ point_limit
  places : site_rows ws + 2 * point_rows ws ≤ site_limit
  targets : target_rows ws ≤ function_limit
  none : point_rows ws ≡ 0 → check_of ws ≡ 0
  check : 0 < point_rows ws → is_text_address ws (check_of ws) ≡ true
  depth : 0 < point_rows ws → is_text_address ws (check_of ws + 8) ≡ true

later_says : (ws : List ℕ) → AllFit ws → LaterSays ws
later_says ws fit =
    let sites = sites_most ws (header_rule ws sites_place fit (omega (arith, header_from ws))) in
    elim (cases_Bool (is_second ws)) [
      | inl e ↦
          let size = header_second ws e in
          let pointers = later_is ws pointers_place e in
          let points = later_is ws points_place e in
          let targets = later_is ws targets_place e in
          let check = later_is ws check_place e in
          let few = points_few ws (header_rule ws points_place fit (omega (arith, size))) in
          let last = header_rule ws check_place fit (omega (arith, size)) in
          record {
            pointers = omega (arith, pointers, pointers_few ws (header_rule ws pointers_place fit (omega (arith, size))));
            points = omega (arith, points, few.0);
            places = omega (arith, points, few.1);
            targets = omega (arith, targets, targets_few ws (header_rule ws targets_place fit (omega (arith, size))));
            none = λ none. check ∙ no_check ws last none;
            check = λ some. subst (λ (n : ℕ). is_text_address ws n ≡ true) (sym check) (and_left _ _ (check_there ws last some));
            depth = λ some. subst (λ (n : ℕ). is_text_address ws (n + 8) ≡ true) (sym check) (and_right _ _ (check_there ws last some));
          }
      | inr e ↦
          let pointers = later_none ws pointers_place e in
          let points = later_none ws points_place e in
          let targets = later_none ws targets_place e in
          record {
            pointers = omega (arith, pointers);
            points = omega (arith, points);
            places = omega (arith, points, sites);
            targets = omega (arith, targets);
            none = λ none. later_none ws check_place e;
            check = λ some. absurd (omega (arith, points, some));
            depth = λ some. absurd (omega (arith, points, some));
          }
    ]

-- ---- of the fields

pub has_version : (a : Fields) → Rules a → HasVersion a
has_version a r =
    let n = counts_of a r in
    let ws : List ℕ = image_words a in
    let known : (slice_index ws version_place ≡ 1) ⊎ (slice_index ws version_place ≡ 2) = version_is ws (header_rule ws version_place (image_fits a r) (omega (arith, header_from ws))) in
    record {
      known = elim known [
        | inl e ↦ inl (sym n.version ∙ e)
        | inr e ↦ inr (sym n.version ∙ e)
      ];
      first = r.first;
    }

pub has_check : (a : Fields) → Rules a → HasCheck a
has_check a r =
    let n = counts_of a r in
    let ws : List ℕ = image_words a in
    let says = later_says ws (image_fits a r) in
    record {
      none = λ none. sym n.check ∙ says.none (n.points ∙ none);
      check = λ some. subst (λ (x : ℕ). IsInText a x) n.check (in_text a ws (check_of ws) n.text (says.check (omega (arith, n.points, some))));
      depth = λ some. subst (λ (x : ℕ). IsInText a (x + 8)) n.check (in_text a ws (check_of ws + 8) n.text (says.depth (omega (arith, n.points, some))));
    }

pub is_within : (a : Fields) → Rules a → IsWithin a
is_within a r =
    let fit = image_fits a r in
    let n = counts_of a r in
    let ws : List ℕ = image_words a in
    let later = later_says ws fit in
    let third = header_rule ws text_place fit (omega (arith, header_from ws)) in
    record {
      some_text = omega (arith, n.text, from_one ws third);
      text = omega (arith, n.text, text_most ws third);
      globals = omega (arith, n.globals, data_most ws (header_rule ws data_place fit (omega (arith, header_from ws))));
      switches = omega (arith, n.switches, switches_most ws (header_rule ws switches_place fit (omega (arith, header_from ws))));
      functions = omega (arith, n.functions, functions_most ws (header_rule ws functions_place fit (omega (arith, header_from ws))));
      variants = omega (arith, n.variants, variants_most ws (header_rule ws variants_place fit (omega (arith, header_from ws))));
      guards = omega (arith, n.guards, guards_most ws (header_rule ws guards_place fit (omega (arith, header_from ws))));
      sites = omega (arith, n.sites, sites_most ws (header_rule ws sites_place fit (omega (arith, header_from ws))));
      pointers = omega (arith, n.pointers, later.pointers);
      points = omega (arith, n.points, later.points);
      places = omega (arith, n.sites, n.points, later.places);
      targets = omega (arith, n.targets, later.targets);
      entry = subst (λ (e : ℕ). IsInText a e) n.entry (in_text a ws (entry_address ws) n.text (entry_in ws third));
    }
