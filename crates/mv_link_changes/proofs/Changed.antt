-- At least one word is another for each function that is bound, and for each of its sites, and four for each pointer site of a pointer switch that is bound.
use Rattle.std.proofs.Common.{◌≡◌, ◌≢◌, inl, inr, ⊎_elim, ℕ, zero, suc, ◌+◌, ◌-◌, ◌*◌, ◌/◌, ◌%◌, ◌^◌, ◌<◌, ◌≤◌, Bool, true, false, if◌then◌else◌, eqb, List, [], ◌∷◌, length, get_or, slice_index, is_some, Option, Some, None, refl, sym, ap, ◌∙◌, subst, arith, eq-eqb}
use Rattle.std.specs.List.{find, position_or_len}
use Rattle.std.specs.Prelude.{option_and_then, slice_get}
use Rattle.std.proofs.lemmas.Bool.{cases_eq, eqb-true}
use Rattle.std.proofs.lemmas.Option.{slice_get_within, slice_get-get_or, get_or_from_slice_get}
use Rattle.std.proofs.lemmas.List.Folds.{find_at}
use Rattle.std.proofs.lemmas.List.Quantifiers.{position-Some}
use Rattle.mv_descriptors.specs.declared.rows.FunctionRow.{FunctionRow}
use Rattle.mv_descriptors.specs.declared.rows.SiteRow.{SiteRow}
use Rattle.mv_descriptors.specs.declared.rows.VariantRow.{VariantRow}
use Rattle.mv_descriptors.specs.declared.rows.PointRow.{PointRow}
use Rattle.mv_descriptors.specs.declared.rows.PointerRow.{PointerRow}
use Rattle.mv_descriptors.specs.declared.rows.TargetRow.{TargetRow}
use Rattle.mv_image.specs.Faults.{Rules}
use Rattle.mv_image.specs.Jumps.{jump, slot_words, bound_words}
use Rattle.mv_image.specs.Patched.{Bindings, ShowsAt, all_free, variant_under, target_under, pointer_number, at_entry, at_site, at_point, entry_at, site_at, site_before, point_at, is_in_point, fitting_variant, word_under, text_of}
use Rattle.mv_image.specs.Spelling.{Fields}
use Rattle.mv_image.specs.WellFormed.{IsInText}
use Rattle.mv_image.proofs.Limits.{is_within}
use Rattle.mv_image.proofs.PatchLaws.{free_text, only_there, entry_word, site_word_is, through_word}
use Rattle.mv_image.proofs.RowsFit.{functions_fit, variants_fit, sites_fit, points_fit, slot_address}
use Rattle.mv_patch.specs.declared.prepared.Pair.{Pair}
use Rattle.mv_patch.specs.Pairs.{pair_of, pairs_between}
use Rattle.mv_patch.specs.Tables.{entries, site_words, point_words, merged, patched_places, word_of, pairs_at}
use Rattle.mv_patch.proofs.TablePairs.{word_under_at, tables_tell}
use Rattle.mv_patch.proofs.TablePlaces.{index_in, no_function, no_site, no_point, climb_place, places_climb}
use Rattle.mv_link_changes.specs.Changed.{changed_words, shown_words, shown_through, points_of, sum_from, CanBeTold, TextShowsBindings, FreeTextIsUnchanged}
use Rattle.mv_link_changes.proofs.Jumps.{jump_opcode, same_jump, slot_changes}
use Rattle.mv_link_changes.proofs.Sums.{total, total_least, total_none, differs, pairs_total, differs_one, merged_total, entries_total, sites_total, points_total, four, functions_least, passes, each_least, through_least}

abbrev no_pointer : PointerRow
no_pointer = record { length = 0; address = 0 }

-- a variant of an image stands in its text
variant_in_text : (image : Fields) → Rules image → (f : ℕ) (values : Option (List ℕ)) (v : VariantRow) → variant_under image f values ≡ Some v → IsInText image v.address
unfolding variant_under
variant_in_text image r f values v e = from_row (option_and_then (fitting_variant image f) values) e
  where
    from_row : (o : Option ℕ) → option_and_then (slice_get image.variants) o ≡ Some v → IsInText image v.address
    from_row None h = absurd (cc)
    from_row (Some n) h =
        let lt = slice_get_within image.variants n v h in
        let at = slice_get-get_or image.variants n v lt in
        let same : get_or image.variants n v ≡ v = cc in
        subst (λ (w : VariantRow). IsInText image w.address) same (variants_fit image r n v lt).address

-- the words that are others are at addresses of the tables
pairs_count : (image : Fields) (r : Rules image) (bound : Bindings) → changed_words image bound ≡ total (differs image.text (text_of image bound)) (patched_places image)
pairs_count image r bound =
    let new : List ℕ = text_of image bound in
    let tell : pairs_at image.text new (patched_places image) ≡ pairs_between image.text new =
    subst (λ (text : List ℕ). pairs_at text new (patched_places image) ≡ pairs_between text new) (free_text image) (tables_tell image r all_free bound) in
    sym (ap (λ (l : List Pair). length l) tell) ∙ pairs_total image.text new (patched_places image)

module _ (image : Fields) (r : Rules image) (bound : Bindings)
    (told : (f : ℕ) (d : FunctionRow) (v : VariantRow) → f < length image.functions → variant_under image f (bound f) ≡ Some v → CanBeTold image (get_or image.functions f d) v) where
  abbrev old : List ℕ
  old = image.text

  abbrev new : List ℕ
  new = text_of image bound

  abbrev variant : ℕ → Option VariantRow
  variant f = variant_under image f (bound f)

  abbrev is_bound : ℕ → Bool
  is_bound f = is_some (variant f)

  below : (a : ℕ) → IsInText image a → a < 2 ^ 20
  below a h = let w = h.within in let few = (is_within image r).text in omega (arith, w, few)

  entry_differs : (f : ℕ) → f < length image.functions → passes is_bound f ≤ differs old new (get_or image.functions f no_function).entry
  entry_differs f lt = by_variant (variant f) refl
    where
      by_variant : (o : Option VariantRow) → variant f ≡ o → passes is_bound f ≤ differs old new (get_or image.functions f no_function).entry
      by_variant None e = let none : passes is_bound f ≡ 0 = ap {B = ℕ} (λ (o : Option VariantRow). if is_some o then 1 else 0) e in omega (arith, none)
      by_variant (Some v) e =
          let a : ℕ = (get_or image.functions f no_function).entry in
          let x = index_in image a (functions_fit image r f no_function lt).entry in
          let is : word_of new a ≡ jump 0 a v.address =
          word_under_at image bound a x.0 x.2 x.1 ∙ entry_word image r bound f (word_of old a) no_function lt ∙ ap (at_entry a (word_of old a)) e in
          let one = differs_one old new a (λ same. (told f no_function v lt e).entry (same ∙ is)) in
          let some : passes is_bound f ≡ 1 = ap {B = ℕ} (λ (o : Option VariantRow). if is_some o then 1 else 0) e in omega (arith, one, some)

  -- what stands at a site isn't the call of the function
  site_apart : (a e : ℕ) (v : VariantRow) → IsInText image a → IsInText image e → IsInText image v.address → v.address ≢ e → (v.inlined ≡ 1 → slice_index v.words 0 % 128 ≢ 111)
      → jump 1 a e ≢ (if eqb v.inlined 1 then slice_index v.words 0 else jump 1 a v.address)
  site_apart a e v in_a in_e in_v ne inline = by_test (eqb v.inlined 1) refl
    where
      by_test : (b : Bool) → eqb v.inlined 1 ≡ b → jump 1 a e ≢ (if b then slice_index v.words 0 else jump 1 a v.address)
      by_test true t same = inline (eqb-true v.inlined 1 t) (ap (λ (w : ℕ). w % 128) (sym same) ∙ jump_opcode 1 a e)
      by_test false t same = ne (sym (same_jump a e v.address in_a.aligned in_e.aligned in_v.aligned (below a in_a) (below e in_e) (below v.address in_v) same))

  site_differs : (k : ℕ) → k < length image.sites → passes is_bound (get_or image.sites k no_site).function ≤ differs old new (get_or image.sites k no_site).address
  site_differs k lt = by_variant (variant (get_or image.sites k no_site).function) refl
    where
      by_variant : (o : Option VariantRow) → variant (get_or image.sites k no_site).function ≡ o
          → passes is_bound (get_or image.sites k no_site).function ≤ differs old new (get_or image.sites k no_site).address
      by_variant None e = let none : passes is_bound (get_or image.sites k no_site).function ≡ 0 = ap {B = ℕ} (λ (o : Option VariantRow). if is_some o then 1 else 0) e in omega (arith, none)
      by_variant (Some v) e =
          let site = get_or image.sites k no_site in
          let f : ℕ = site.function in
          let a : ℕ = site.address in
          let fits = sites_fit image r k no_site lt in
          let x = index_in image a fits.address in
          let was : word_of old a ≡ jump 1 a (get_or image.functions f no_function).entry = fits.call no_function in
          let is : word_of new a ≡ at_site a (word_of old a) (Some v) =
          word_under_at image bound a x.0 x.2 x.1 ∙ site_word_is image r bound k (word_of old a) no_site lt ∙ ap (at_site a (word_of old a)) e in
          let t = told f no_function v fits.function e in
          let apart = site_apart a (get_or image.functions f no_function).entry v fits.address (functions_fit image r f no_function fits.function).entry
          (variant_in_text image r f (bound f) v e) t.elsewhere t.inline in
          let one = differs_one old new a (λ same. apart (sym was ∙ same ∙ is)) in
          let some : passes is_bound f ≡ 1 = ap {B = ℕ} (λ (o : Option VariantRow). if is_some o then 1 else 0) e in omega (arith, one, some)

  abbrev target : ℕ → Option TargetRow
  target q = target_under image (bound (pointer_number image q))

  abbrev is_led : ℕ → Bool
  is_led q = is_some (target q)

  -- each of the four words of a pointer site
  word_differs : (k : ℕ) → k < length image.points → (j : ℕ) → j < 4 → passes is_led (get_or image.points k no_point).pointer ≤ differs old new ((get_or image.points k no_point).address + 4 * j)
  word_differs k lt j few = by_target (target (get_or image.points k no_point).pointer) refl
    where
      by_target : (o : Option TargetRow) → target (get_or image.points k no_point).pointer ≡ o
          → passes is_led (get_or image.points k no_point).pointer ≤ differs old new ((get_or image.points k no_point).address + 4 * j)
      by_target None e = let none : passes is_led (get_or image.points k no_point).pointer ≡ 0 = ap {B = ℕ} (λ (o : Option TargetRow). if is_some o then 1 else 0) e in omega (arith, none)
      by_target (Some t) e =
          let point = get_or image.points k no_point in
          let p : ℕ = point.address in
          let a : ℕ = p + 4 * j in
          let pointer : ℕ = (get_or image.pointers point.pointer no_pointer).address in
          let fits = points_fit image r k no_point lt in
          let x = index_in image a (slot_address image p j fits.address fits.last few) in
          let index : (a - p) / 4 ≡ j = omega arith in
          let was : word_of old a ≡ slice_index (slot_words image.check p pointer) j = fits.slot j no_pointer few in
          let is : word_of new a ≡ slice_index (bound_words image.check p t.entry) j =
          word_under_at image bound a x.0 x.2 x.1 ∙ through_word image r bound k j (word_of old a) no_point lt few ∙ ap (at_point image point a (word_of old a)) e
          ∙ ap (slice_index (bound_words image.check p t.entry)) index in
          let one = differs_one old new a (λ same. slot_changes image.check p pointer t.entry j few (sym was ∙ same ∙ is)) in
          let some : passes is_led point.pointer ≡ 1 = ap {B = ℕ} (λ (o : Option TargetRow). if is_some o then 1 else 0) e in omega (arith, one, some)

  point_differs : (k : ℕ) → k < length image.points → 4 * passes is_led (get_or image.points k no_point).pointer ≤ four (differs old new) (get_or image.points k no_point)
  point_differs k lt =
      let p : ℕ = (get_or image.points k no_point).address in
      let start : p + 4 * 0 ≡ p = omega arith in
      let first : passes is_led (get_or image.points k no_point).pointer ≤ differs old new p =
      subst (λ (a : ℕ). passes is_led (get_or image.points k no_point).pointer ≤ differs old new a) start (word_differs k lt 0 (omega arith)) in
      let second = word_differs k lt 1 (omega arith) in
      let third = word_differs k lt 2 (omega arith) in
      let last = word_differs k lt 3 (omega arith) in omega (arith, first, second, third, last)

  pub shows : sum_from (shown_words image bound) 0 image.functions + sum_from (shown_through image bound) 0 image.pointers ≤ changed_words image bound
  shows =
      let count = pairs_count image r bound in
      let both = merged_total (differs old new) (entries image) (site_words image.sites) in
      let first = entries_total (differs old new) image.functions in
      let second = sites_total (differs old new) image.sites in
      let functions = functions_least (passes is_bound) (λ (row : FunctionRow). differs old new row.entry) no_function 0 image.functions
      (λ i lt. (let z : 0 + i ≡ i = omega arith in subst (λ (j : ℕ). passes is_bound j ≤ differs old new (get_or image.functions i no_function).entry) (sym z) (entry_differs i lt))) in
      let sites = total_least (λ (site : SiteRow). passes is_bound site.function) (λ (site : SiteRow). differs old new site.address) no_site image.sites site_differs in
      let each = each_least is_bound image.sites 0 image.functions in
      let third = points_total (differs old new) image.points in
      let points = total_least (λ (point : PointRow). 4 * passes is_led point.pointer) (four (differs old new)) no_point image.points point_differs in
      let through = through_least is_led image.points 0 image.pointers in
      let all = merged_total (differs old new) (merged (entries image) (site_words image.sites)) (point_words image.points) in
      omega (arith, count, both, first, second, functions, sites, each, third, points, through, all)

pub text_shows : TextShowsBindings
text_shows image r bound told = shows image r bound told

-- ---- where all functions are free, and pointer switches that have a site

-- a row that is found is one of them
found_row : {R : Type 0} (test : R → Bool) (rows : List R) (x : R) → find test rows ≡ Some x → (k : ℕ) × (k < length rows) × (get_or rows k x ≡ x)
found_row test rows x e =
    let there : slice_get rows (position_or_len test rows) ≡ Some x = sym (find_at test rows) ∙ e in
    (position_or_len test rows, slice_get_within rows (position_or_len test rows) x there, get_or_from_slice_get rows (position_or_len test rows) x x there)

some_point : (points : List PointRow) (k : ℕ) (d : PointRow) → k < length points → 0 < points_of (get_or points k d).pointer points
some_point [] k d lt = absurd (omega (arith, lt))
some_point (x ∷ points) zero d lt = let one = ap {B = ℕ} (λ (b : Bool). if b then 1 else 0) (eq-eqb x.pointer x.pointer refl) in omega (arith, one)
some_point (x ∷ points) (suc k) d lt = let rest = some_point points k d (omega (arith, lt)) in omega (arith, rest)

module _ (image : Fields) (r : Rules image) (bound : Bindings) (functions : (f : ℕ) → f < length image.functions → bound f ≡ None)
    (pointers : (q : ℕ) → 0 < points_of q image.points → bound (pointer_number image q) ≡ None) where
  site_free : (test : SiteRow → Bool) (site : SiteRow) (n : ℕ) → find test image.sites ≡ Some site → site.function ≡ n → bound n ≡ None
  site_free test site n e same =
      let row = found_row test image.sites site e in
      let fits = (sites_fit image r row.0 site row.1).function in
      functions n (omega (arith, fits, ap (λ (s : SiteRow). s.function) row.2, same))

  -- so what shows is free
  shown_free : (n a : ℕ) → ShowsAt image n a → bound n ≡ None
  unfolding entry_at site_at site_before point_at
  shown_free n a (inl e) = functions n (position-Some (λ (row : FunctionRow). eqb row.entry a) image.functions n no_function e).0
  shown_free n a (inr (inl h)) = site_free (λ (site : SiteRow). eqb site.address a) h.0 n h.1 h.2
  shown_free n a (inr (inr (inl h))) = site_free (λ (site : SiteRow). eqb (site.address + 4) a) h.0 n h.1 h.2
  shown_free n a (inr (inr (inr h))) =
      let row = found_row (is_in_point a) image.points h.0 h.1 in
      let some = some_point image.points row.0 h.0 row.1 in
      subst (λ (m : ℕ). bound m ≡ None) h.2 (pointers h.0.pointer (subst (λ (point : PointRow). 0 < points_of point.pointer image.points) row.2 some))

  same_word : (i : ℕ) → i < length (patched_places image) → differs image.text (text_of image bound) (get_or (patched_places image) i 0) ≡ 0
  same_word i lt =
      let a : ℕ = get_or (patched_places image) i 0 in
      let x = climb_place (length image.text) 0 i (patched_places image) (places_climb image r) lt in
      let old : ℕ = word_of image.text a in
      let is = word_under_at image bound a x.0 x.2 x.1 in
      let was : word_of image.text a ≡ word_under image all_free a old =
      ap (λ (text : List ℕ). word_of text a) (sym (free_text image)) ∙ word_under_at image all_free a x.0 x.2 x.1 in
      let same : old ≡ word_of (text_of image bound) a =
      ⊎_elim (λ (e : old ≡ word_of (text_of image bound) a). e)
      (λ (ne : old ≡ word_of (text_of image bound) a → ⊥). absurd (
      let shown = only_there image bound all_free a old (λ e. ne (was ∙ sym e ∙ sym is)) in
      shown.1 (shown_free shown.0 a shown.2)))
      (cases_eq old (word_of (text_of image bound) a)) in
      ap (λ (b : Bool). length (if b then [] else (pair_of a (word_of (text_of image bound) a) ∷ []))) (eq-eqb old (word_of (text_of image bound) a) same)

pub free_unchanged : FreeTextIsUnchanged
free_unchanged image r bound functions pointers =
    let none = total_none (differs image.text (text_of image bound)) (patched_places image) (same_word image r bound functions pointers) in
    omega (arith, pairs_count image r bound, none)
