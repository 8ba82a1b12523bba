-- A whole body whose temporaries are renamed by the scan means the same.
use Rattle.std.proofs.Common.{arith, ◌≡◌, ℕ, ◌-◌, ◌<◌, ◌≤◌, Bool, true, false, List, [], ◌∷◌, map, ap, refl, sym, ◌∙◌, subst, ◌⊎◌, inl, inr}
use Rattle.std.specs.Prelude.{slice_index}
use Rattle.std.proofs.lemmas.Bool.{cases_lt}
use Rattle.mv_ir.specs.declared.body.Body.{Body}
use Rattle.mv_ir.specs.Live.{mark_at, all_marks, IsWhole, HasTemps}
use Rattle.mv_ir.specs.WellFormed.{all_true, all_around, is_there, has_room}
use Rattle.mv_regalloc.specs.Scan.{used, number_of, Overlap}
use Rattle.mv_regalloc.specs.Rename.{renamed, Fits}
use Rattle.mv_regalloc.specs.Intervals.{span, range, given, allotted, IsRenamed, others, positions}
use Rattle.mv_regalloc.specs.Tracked.{IsNumbered}
use Rattle.mv_regalloc.specs.declared.number.Numbering.{Numbering}
use Rattle.mv_regalloc.proofs.Apart.{numbers_apart, number_found}
use Rattle.mv_ir.proofs.Joining.{marked_any}
use Rattle.mv_regalloc.proofs.Ranges.{marked_first, marked_last, first_below}
use Rattle.mv_regalloc.proofs.Stands.{AreSpans, Stands, in_range, listed, by_first_spans, every_range, scan_stands, scan_stands_new, given_stands, number_used, given_number, scan_number}
use Rattle.mv_regalloc.proofs.Most.{same_long, scan_all_apart, uses_most, enough_temps}
use Rattle.mv_regalloc.proofs.RenamedKept.{rename_keeps}
use Rattle.mv_regalloc.proofs.Whole.{stays_whole, has_temps, few_intervals}
use Rattle.mv_regalloc.proofs.Counts.{same_statements, same_calls, same_nodes, same_deepest, same_scalars, same_arrays, same_targets, same_named, same_arguments}

module _ (b : Body) (has : HasTemps b) where
  abbrev marks : ℕ → List Bool
  marks = all_marks b

  spans : AreSpans marks (λ u. b.params ≤ u) (others b)
  spans = by_first_spans marks (λ u. b.params ≤ u) (range b.params (b.temps - b.params)) 0 (positions b) (every_range marks b.params (b.temps - b.params))

  stands : (i t : ℕ) → mark_at (marks t) i ≡ true → Stands marks t (allotted b)
  stands i t h = by (cases_lt t b.params)
    where
      by : (t < b.params) ⊎ (b.params ≤ t) → Stands marks t (allotted b)
      by (inl l) = scan_stands marks (λ u. b.params ≤ u) t (given marks b.params) (others b) spans (given_stands marks b.params t l)
      by (inr l) =
          let one = marked_any (marks t) i h in
          let low = has i t h in
          let end = first_below 0 (marks t) one in
          let e = same_long b has t in
          scan_stands_new marks (λ u. b.params ≤ u) t (given marks b.params) (others b) spans
          (listed marks (range b.params (b.temps - b.params)) 0 (positions b) t (in_range marks b.params (b.temps - b.params) t l (omega (arith, low, l))) one (omega arith) (omega (arith, end, e)))

  overlap : (i t u : ℕ) → mark_at (marks t) i ≡ true → mark_at (marks u) i ≡ true → Overlap (span marks t) (span marks u)
  overlap i t u h k = record {
    before = (let x = marked_first 0 (marks t) i h in let y = marked_last 0 (marks u) i k in omega (arith, x, y));
    behind = (let x = marked_first 0 (marks u) i k in let y = marked_last 0 (marks t) i h in omega (arith, x, y));
  }

  pub scanned_fits : Fits (number_of (allotted b)) (used (allotted b)) b
  scanned_fits = record {
    separate = record {
      apart = λ i t u h k e.
          let x = stands i t h in
          let y = stands i u k in
          numbers_apart t u x.placed y.placed (allotted b) (scan_all_apart b has) x.stands y.stands
          (subst (λ z. Overlap z y.placed.interval) (sym x.is) (subst (λ z. Overlap (span marks t) z) (sym y.is) (overlap i t u h k))) e;
      old = has;
      new = λ i t h.
          let x = stands i t h in
          let e = number_found t x.placed (allotted b) x.stands in
          let l = number_used marks t x.placed (allotted b) x.stands in
          omega (arith, e, l);
    };
    params = λ t h. scan_number marks b.params t (given marks b.params) (others b) spans h ∙ given_number marks b.params t h;
  }

  -- numbers that are those of the scan for each temporary of the body
  module _ (c : ℕ → ℕ) (same : (t : ℕ) → t < b.temps → c t ≡ number_of (allotted b) t) where
    fits : Fits c (used (allotted b)) b
    fits = record {
      separate = record {
        apart = λ i t u h k e. scanned_fits.separate.apart i t u h k (sym (same t (has i t h)) ∙ e ∙ same u (has i u k));
        old = has;
        new = (λ i t h. let low = scanned_fits.separate.new i t h in let e = same t (has i t h) in omega (arith, low, e));
      };
      params = (λ t h. same t (let le = enough_temps b has in omega (arith, h, le)) ∙ scanned_fits.params t h);
    }

    numbered_is_renamed : (n : ℕ) → n ≡ used (allotted b) → IsWhole b → IsRenamed b (renamed c n b)
    numbered_is_renamed n e whole =
        let f : Fits c n b = subst (λ k. Fits c k b) (sym e) fits in
        record {
          keeps = rename_keeps c n b whole f;
          temps = e ∙ uses_most b has;
          intervals = (let a = few_intervals (renamed c n b) in let m = uses_most b has in omega (arith, a, m, e));
          whole = stays_whole c n b f whole;
          has_temps = has_temps c n b f;
          well_formed = λ w. record {
            temps = has_temps c n b f;
            params = w.params;
            targets = ap (λ l. all_around l (false ∷ [])) (same_targets c b.code) ∙ w.targets;
            named = ap (λ l. all_true (map (is_there b.rooms b.arrays) l)) (same_named c b.code) ∙ w.named;
            read = ap (λ l. all_true (map (has_room b.rooms) l)) (same_scalars c b.code) ∙ w.read;
            arguments = ap all_true (same_arguments c b.code) ∙ w.arguments;
            size = (let x = same_statements c b.code in let y = same_nodes c b.code in let z = w.size in omega (arith, x, y, z));
          };
          numbers = c;
          changes = refl;
          params = f.params;
          statements = same_statements c b.code;
          calls = same_calls c b.code;
          tree_nodes = same_nodes c b.code;
          deepest = same_deepest c b.code;
          scalars = same_scalars c b.code;
          arrays = same_arrays c b.code;
        }

-- what the code has made is such a body
pub is_renamed : (b : Body) → HasTemps b → IsWhole b → (numbering : Numbering) → IsNumbered b numbering → (result : Body) → result ≡ renamed (slice_index numbering.numbers) numbering.used b → IsRenamed b result
is_renamed b has whole numbering n result e =
    subst (IsRenamed b) (sym e) (numbered_is_renamed b has (slice_index numbering.numbers) n.numbers numbering.used n.used whole)
