-- An image fits the format.
use Rattle.std.proofs.Common.{ℕ, zero, suc, ◌+◌, ◌≤◌, List, [], ◌∷◌, ◌++◌, get_or, All, subst, arith}
use Rattle.std.specs.List.{flat_map}
use Rattle.std.proofs.lemmas.List.Concat.{flat_map-cons}
use Rattle.mv_num.specs.Bytes.{AreWords}
use Rattle.mv_num.specs.Kinds.{kind_number}
use Rattle.mv_descriptors.specs.Widths.{switch_words, function_words, variant_words, guard_words, site_words, pointer_words, point_words, target_words}
use Rattle.mv_descriptors.specs.declared.rows.SwitchRow.{SwitchRow}
use Rattle.mv_descriptors.specs.declared.rows.VariantRow.{VariantRow}
use Rattle.mv_descriptors.specs.declared.rows.GuardRow.{GuardRow}
use Rattle.mv_image.specs.Spelling.{Fields, header_of, words_in, spelling}
use Rattle.mv_image.specs.Faults.{Rules}
use Rattle.mv_image.specs.Format.{IsTyped, FitsFormat, HasWords, AreNamed, RulesAreTables}
use Rattle.mv_image.proofs.WhatIsRead.{names_keep, filled_from}
use Rattle.mv_image.proofs.RowsStand.{widths, image_stands}
use Rattle.mv_image.proofs.Limits.{has_version, has_check, is_within}
use Rattle.mv_image.proofs.RowsFit.{switches_fit, functions_fit, variants_fit, sites_fit, pointers_fit, points_fit, targets_fit}
use Rattle.mv_image.proofs.Sums.{variants_sum, guards_sum, guards_fit}
use Rattle.mv_image.proofs.Apart.{entries_ascend, sites_apart, entry_outside, points_apart, entry_outside_point, site_outside_point, targets_ascend}
use Rattle.mv_image.proofs.NameRules.{lengths_keep}
use Rattle.mv_image.proofs.NamesStand.{names_are}

-- ---- words

words_behind : (a b : List ℕ) → AreWords (a ++ b) → AreWords b
words_behind [] b all = all
words_behind (x ∷ a) b all = words_behind a b (λ i. all (suc i))

words_before : (a b : List ℕ) → AreWords (a ++ b) → AreWords a
words_before [] b all i = omega arith
words_before (x ∷ a) b all zero = all 0
words_before (x ∷ a) b all (suc i) = words_before a b (λ k. all (suc k)) i

words_of_rows : {R : Type 0} (f : R → List ℕ) (rows : List R) → AreWords (flat_map f rows) → All (λ r. AreWords (f r)) rows
words_of_rows f [] all k d lt = absurd (omega (arith, lt))
words_of_rows f (x ∷ rows) all zero d lt = words_before (f x) (flat_map f rows) (subst AreWords (flat_map-cons f x rows) all)
words_of_rows f (x ∷ rows) all (suc k) d lt = words_of_rows f rows (words_behind (f x) (flat_map f rows) (subst AreWords (flat_map-cons f x rows) all)) k d (omega (arith, lt))

has_words : (a : Fields) → AreWords (words_in a) → HasWords a
unfolding words_in
has_words a all =
    let points = words_before _ (flat_map target_words a.targets) all in
    let pointers = words_before _ (flat_map point_words a.points) points in
    let sites = words_before _ (flat_map pointer_words a.pointers) pointers in
    let guards = words_before _ (flat_map site_words a.sites) sites in
    let variants = words_before _ (flat_map guard_words a.guards) guards in
    let functions = words_before _ (flat_map variant_words a.variants) variants in
    let switches = words_before _ (flat_map function_words a.functions) functions in
    let globals = words_before _ (flat_map switch_words a.switches) switches in
    let text = words_before (header_of a ++ a.text) a.globals globals in
    let switch_rows = words_of_rows switch_words a.switches (words_behind _ (flat_map switch_words a.switches) switches) in
    let variant_rows = words_of_rows variant_words a.variants (words_behind _ (flat_map variant_words a.variants) variants) in
    let guard_rows = words_of_rows guard_words a.guards (words_behind _ (flat_map guard_words a.guards) guards) in
    record {
      text = words_behind (header_of a) a.text text;
      globals = words_behind (header_of a ++ a.text) a.globals globals;
      values = λ k d lt. (
          let row : SwitchRow = get_or a.switches k d in
          words_behind (row.length ∷ row.address ∷ kind_number row.kind ∷ row.count ∷ []) row.values (switch_rows k d lt));
      inlined = λ k d lt. (
          let row : VariantRow = get_or a.variants k d in
          words_before row.words (row.guards ∷ []) (words_behind (row.address ∷ row.inlined ∷ []) (row.words ++ row.guards ∷ []) (variant_rows k d lt)));
      lowest = λ k d lt. (let row : GuardRow = get_or a.guards k d in words_before row.low row.high (guard_rows k d lt));
      highest = λ k d lt. (let row : GuardRow = get_or a.guards k d in words_behind row.low row.high (guard_rows k d lt));
    }

-- ---- the whole

named : (a : Fields) → Rules a → AreNamed a
named a r =
    let some = lengths_keep a (λ (n : ℕ). 1 ≤ n) r.name_lengths (record {
      switches = λ k d lt. (switches_fit a r k d lt).named;
      functions = λ k d lt. (functions_fit a r k d lt).named;
      pointers = λ k d lt. (pointers_fit a r k d lt).named;
      targets = λ k d lt. (targets_fit a r k d lt).named;
    }) in
    record {
      identifiers = names_are a r.words r.name_lengths (image_stands a r) some (λ j lt. names_keep (spelling a) r.spelled j (omega (arith, lt, filled_from)));
      lengths = r.name_lengths;
    }

typed : (a : Fields) → Rules a → IsTyped a
typed a r = record { widths = widths a r; words = has_words a r.words }

pub fits_format : (a : Fields) → Rules a → FitsFormat a
fits_format a r = record {
  version = has_version a r;
  limits = is_within a r;
  check = has_check a r;
  fit = record {
    switches = switches_fit a r;
    functions = functions_fit a r;
    variants = variants_fit a r;
    guards = λ f v g d e own. guards_fit a r f v g d e own.function_there own.first_variant own.last_variant own.first_guard own.last_guard own.variant_there own.guard_there;
    sites = sites_fit a r;
    pointers = pointers_fit a r;
    points = points_fit a r;
    targets = targets_fit a r;
  };
  unused = record {
    switches = λ k d lt. (r.switches k d lt).1;
    functions = λ k d lt. (r.functions k d lt).1;
    variants = λ k d lt. (r.variants k d lt).1;
  };
  sums = record { variants = variants_sum a r; guards = guards_sum a r };
  apart = record {
    entries = λ k d lt. entries_ascend a r k (k + 1) d (omega arith) lt;
    sites = λ k d lt. sites_apart a r k (k + 1) d (omega arith) lt;
    outside = λ f k d e hf hk. entry_outside a r f k d e hf hk;
    points = λ k d lt. points_apart a r k (k + 1) d (omega arith) lt;
    outside_points = λ f k d e hf hk. entry_outside_point a r f k d e hf hk;
    beside_points = λ j k d e hj hk. site_outside_point a r j k d e hj hk;
    targets = λ k d lt. targets_ascend a r k (k + 1) d (omega arith) lt;
  };
  names = named a r;
}

pub rules_are_tables : RulesAreTables
rules_are_tables a r = (typed a r, fits_format a r)
