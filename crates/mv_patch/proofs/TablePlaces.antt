-- The addresses of the tables: where bindings may show, in order.
use Rattle.std.proofs.Common.{◌≡◌, ◌⊎◌, inl, inr, ⊎_elim, ℕ, zero, suc, ◌+◌, ◌-◌, ◌*◌, ◌/◌, ◌<◌, ◌≤◌, Bool, true, false, cond, eqb, ltb, List, [], ◌∷◌, ◌++◌, length, map, slice_get, get_or, is_some, Option, Some, None, refl, sym, ap, ◌∙◌, subst, arith}
use Rattle.std.specs.List.{Contains, find, position, position_or_len}
use Rattle.std.proofs.lemmas.Bool.{cases_lt, cond_both, lt-ltb, le-ltb, eqb-true, or_cases}
use Rattle.std.proofs.lemmas.List.{get_or-map, length-map}
use Rattle.std.proofs.lemmas.List.Folds.{find_at}
use Rattle.std.proofs.lemmas.Option.{slice_get-get_or, slice_get_past}
use Rattle.mv_descriptors.specs.declared.rows.FunctionRow.{FunctionRow}
use Rattle.mv_descriptors.specs.declared.rows.SiteRow.{SiteRow}
use Rattle.mv_descriptors.specs.declared.rows.PointRow.{PointRow}
use Rattle.mv_num.specs.Lists.{is_among}
use Rattle.mv_image.specs.Spelling.{Fields}
use Rattle.mv_image.specs.Faults.{Rules}
use Rattle.mv_image.specs.WellFormed.{IsInText}
use Rattle.mv_image.specs.Patched.{entry_at, site_at, site_before, slot_places, is_in_point, point_at, ShowsAt}
use Rattle.mv_image.proofs.Apart.{entries_ascend, sites_apart, entry_outside, points_apart, entry_outside_point, site_beside_point}
use Rattle.mv_image.proofs.RowsFit.{functions_fit, sites_fit, points_fit}
use Rattle.mv_patch.specs.Pairs.{place}
use Rattle.mv_patch.specs.Tables.{patchable, entries, site_words, point_words, merged_behind, merged, patched_places}
use Rattle.mv_patch.proofs.Merged.{Has, Climbs, Apart, merged_left, merged_right, merged_has, merged_climbs}

-- ---- a row is found

in_list : {R : Type 0} (rows : List R) (k : ℕ) → is_some (slice_get rows k) ≡ ltb k (length rows)
in_list [] k = sym (le-ltb k 0 (omega arith))
in_list {R = R} (x ∷ rows) k = ⊎_elim
    (λ (lt : k < length (x ∷ rows)). ap (λ (o : Option R). is_some o) (slice_get-get_or (x ∷ rows) k x lt) ∙ sym (lt-ltb k (length (x ∷ rows)) lt))
    (λ (le : length (x ∷ rows) ≤ k). ap (λ (o : Option R). is_some o) (slice_get_past (x ∷ rows) k le) ∙ sym (le-ltb k (length (x ∷ rows)) le))
    (cases_lt k (length (x ∷ rows)))

pub position_found : {R : Type 0} (test : R → Bool) (rows : List R) → is_some (position test rows) ≡ is_some (find test rows)
position_found {R = R} test rows =
    found_index (ltb (position_or_len test rows) (length rows)) (position_or_len test rows) ∙ sym (in_list rows (position_or_len test rows)) ∙ ap (λ (o : Option R). is_some o) (sym (find_at test rows))
  where
    found_index : (b : Bool) (k : ℕ) → is_some (cond b (Some k) None) ≡ b
    found_index true k = refl
    found_index false k = refl

-- ---- the addresses of the tables

in_entries : (rows : List FunctionRow) (a : ℕ) (r : FunctionRow) → find (λ (row : FunctionRow). eqb row.entry a) rows ≡ Some r → Has a (map (λ (row : FunctionRow). row.entry) rows)
in_entries [] a r h = absurd (cc)
in_entries (x ∷ rows) a r h = by_test (λ k. in_entries rows a r k) (eqb x.entry a) refl h
  where
    by_test : (find (λ (row : FunctionRow). eqb row.entry a) rows ≡ Some r → Has a (map (λ (row : FunctionRow). row.entry) rows)) → (b : Bool) → eqb x.entry a ≡ b
        → cond b (Some x) (find (λ (row : FunctionRow). eqb row.entry a) rows) ≡ Some r → Has a (map (λ (row : FunctionRow). row.entry) (x ∷ rows))
    by_test rest true e q = inl (eqb-true x.entry a e)
    by_test rest false e q = inr (rest q)

in_sites : (sites : List SiteRow) (a : ℕ) (s : SiteRow) → find (λ (site : SiteRow). eqb site.address a) sites ≡ Some s → Has a (site_words sites)
in_sites [] a s h = absurd (cc)
in_sites (x ∷ sites) a s h = by_test (λ k. in_sites sites a s k) (eqb x.address a) refl h
  where
    by_test : (find (λ (site : SiteRow). eqb site.address a) sites ≡ Some s → Has a (site_words sites)) → (b : Bool) → eqb x.address a ≡ b
        → cond b (Some x) (find (λ (site : SiteRow). eqb site.address a) sites) ≡ Some s → Has a (site_words (x ∷ sites))
    by_test rest true e q = inl (eqb-true x.address a e)
    by_test rest false e q = inr (inr (rest q))

in_nexts : (sites : List SiteRow) (a : ℕ) (s : SiteRow) → find (λ (site : SiteRow). eqb (site.address + 4) a) sites ≡ Some s → Has a (site_words sites)
in_nexts [] a s h = absurd (cc)
in_nexts (x ∷ sites) a s h = by_test (λ k. in_nexts sites a s k) (eqb (x.address + 4) a) refl h
  where
    by_test : (find (λ (site : SiteRow). eqb (site.address + 4) a) sites ≡ Some s → Has a (site_words sites)) → (b : Bool) → eqb (x.address + 4) a ≡ b
        → cond b (Some x) (find (λ (site : SiteRow). eqb (site.address + 4) a) sites) ≡ Some s → Has a (site_words (x ∷ sites))
    by_test rest true e q = inr (inl (eqb-true (x.address + 4) a e))
    by_test rest false e q = inr (inr (rest q))

pub some_row : {R : Type 0} (o : Option R) → is_some o ≡ true → (r : R) × (o ≡ Some r)
some_row None h = absurd (cc)
some_row (Some r) h = (r, refl)

pub entry_listed : (image : Fields) (a f : ℕ) → entry_at image a ≡ Some f → Has a (entries image)
unfolding entry_at
entry_listed image a f h =
    let found : is_some (find (λ (row : FunctionRow). eqb row.entry a) image.functions) ≡ true =
    sym (position_found (λ (row : FunctionRow). eqb row.entry a) image.functions) ∙ ap (λ (o : Option ℕ). is_some o) h in
    let x = some_row (find (λ (row : FunctionRow). eqb row.entry a) image.functions) found in
    in_entries image.functions a x.0 x.1

pub site_listed : (image : Fields) (a : ℕ) (s : SiteRow) → site_at image a ≡ Some s → Has a (site_words image.sites)
unfolding site_at
site_listed image a s h = in_sites image.sites a s h

pub next_listed : (image : Fields) (a : ℕ) (s : SiteRow) → site_before image a ≡ Some s → Has a (site_words image.sites)
unfolding site_before
next_listed image a s h = in_nexts image.sites a s h

in_front : (a : ℕ) (xs ys : List ℕ) → is_among a xs ≡ true → Has a (xs ++ ys)
in_front a [] ys h = absurd (cc)
in_front a (x ∷ xs) ys h = ⊎_elim (λ (e : eqb a x ≡ true). inl (sym (eqb-true a x e))) (λ (more : is_among a xs ≡ true). inr (in_front a xs ys more)) (or_cases (eqb a x) (is_among a xs) h)

in_rest : (a : ℕ) (xs ys : List ℕ) → Has a ys → Has a (xs ++ ys)
in_rest a [] ys h = h
in_rest a (x ∷ xs) ys h = inr (in_rest a xs ys h)

in_points : (points : List PointRow) (a : ℕ) (p : PointRow) → find (is_in_point a) points ≡ Some p → Has a (point_words points)
in_points [] a p h = absurd (cc)
in_points (x ∷ points) a p h = by_test (λ k. in_points points a p k) (is_in_point a x) refl h
  where
    by_test : (find (is_in_point a) points ≡ Some p → Has a (point_words points)) → (b : Bool) → is_in_point a x ≡ b → cond b (Some x) (find (is_in_point a) points) ≡ Some p → Has a (point_words (x ∷ points))
    by_test rest true e q = in_front a (slot_places x) (point_words points) e
    by_test rest false e q = in_rest a (slot_places x) (point_words points) (rest q)

pub point_listed : (image : Fields) (a : ℕ) (p : PointRow) → point_at image a ≡ Some p → Has a (point_words image.points)
unfolding point_at
point_listed image a p h = in_points image.points a p h

-- where a binding shows is an address of the tables
pub shown_listed : (image : Fields) (f a : ℕ) → ShowsAt image f a → Has a (patched_places image)
shown_listed image f a (inl e) =
    merged_left (merged (entries image) (site_words image.sites)) (point_words image.points) a (merged_left (entries image) (site_words image.sites) a (entry_listed image a f e))
shown_listed image f a (inr (inl x)) =
    merged_left (merged (entries image) (site_words image.sites)) (point_words image.points) a (merged_right (entries image) (site_words image.sites) a (site_listed image a x.0 x.1))
shown_listed image f a (inr (inr (inl x))) =
    merged_left (merged (entries image) (site_words image.sites)) (point_words image.points) a (merged_right (entries image) (site_words image.sites) a (next_listed image a x.0 x.1))
shown_listed image f a (inr (inr (inr x))) = merged_right (merged (entries image) (site_words image.sites)) (point_words image.points) a (point_listed image a x.0 x.1)

-- ---- they ascend

pub index_in : (image : Fields) (a : ℕ) → IsInText image a → (k : ℕ) × (k < length image.text) × (a ≡ place k)
index_in image a h =
    let aligned = h.aligned in
    let from = h.not_before in
    let below = h.within in
    ((a - 4096) / 4, omega (arith, aligned, from, below), omega (arith, aligned, from))

pub climbing : (n m : ℕ) (xs : List ℕ) → ((i : ℕ) → i < length xs → (k : ℕ) × (k < n) × (get_or xs i 0 ≡ place k))
    → ((i j : ℕ) → i < j → j < length xs → get_or xs i 0 < get_or xs j 0) → (0 < length xs → place m ≤ get_or xs 0 0) → Climbs n m xs
climbing n m [] at up low = tt
climbing n m (x ∷ xs) at up low =
    let h = at 0 (omega arith) in
    let least : place m ≤ x = low (omega arith) in
    let here : x ≡ place h.0 = h.2 in (
      h.0,
      omega (arith, least, here),
      h.1,
      here,
      climbing n (suc h.0) xs (λ i lt. at (suc i) (omega (arith, lt))) (λ i j lt below. up (suc i) (suc j) (omega (arith, lt)) (omega (arith, below)))
          (λ lt. (
          let next : x < get_or xs 0 0 = up 0 1 (omega arith) (omega (arith, lt)) in
          let there = at 1 (omega (arith, lt)) in
          let is : get_or xs 0 0 ≡ place there.0 = there.2 in
          omega (arith, next, here, is))),
    )

abbrev pub no_function : FunctionRow
no_function = record { length = 0; entry = 0; count = 0; switches = []; variants = 0 }

abbrev pub no_site : SiteRow
no_site = record { address = 0; function = 0 }

abbrev pub no_point : PointRow
no_point = record { address = 0; pointer = 0 }

pub entry_is : (image : Fields) (i : ℕ) → i < length image.functions → get_or (entries image) i 0 ≡ (get_or image.functions i no_function).entry
entry_is image i lt = get_or-map (λ (row : FunctionRow). row.entry) image.functions i no_function 0 lt

pub entries_climb : (image : Fields) → Rules image → Climbs (length image.text) 0 (entries image)
entries_climb image r =
    let size = length-map image.functions (λ (row : FunctionRow). row.entry) in
    climbing (length image.text) 0 (entries image)
    (λ i lt. (
    let within : i < length image.functions = omega (arith, lt, size) in
    let x = index_in image (get_or image.functions i no_function).entry (functions_fit image r i no_function within).entry in
    (x.0, x.1, entry_is image i within ∙ x.2)))
    (λ i j lt below. (
    let within : j < length image.functions = omega (arith, below, size) in
    let up = entries_ascend image r i j no_function lt within in
    let first = entry_is image i (omega (arith, lt, within)) in
    let second = entry_is image j within in
    omega (arith, up, first, second)))
    (λ lt. (
    let within : 0 < length image.functions = omega (arith, lt, size) in
    let from = (functions_fit image r 0 no_function within).entry.not_before in
    let first = entry_is image 0 within in
    omega (arith, from, first)))

sites_climbing : (n m : ℕ) (sites : List SiteRow)
    → ((i : ℕ) → i < length sites → (k : ℕ) × (suc k < n) × ((get_or sites i no_site).address ≡ place k))
    → ((i j : ℕ) → i < j → j < length sites → (get_or sites i no_site).address + 8 ≤ (get_or sites j no_site).address)
    → (0 < length sites → place m ≤ (get_or sites 0 no_site).address) → Climbs n m (site_words sites)
sites_climbing n m [] at up low = tt
sites_climbing n m (x ∷ sites) at up low =
    let h = at 0 (omega arith) in
    let least : place m ≤ x.address = low (omega arith) in
    let here : x.address ≡ place h.0 = h.2 in
    let more = h.1 in (
      h.0,
      omega (arith, least, here),
      omega (arith, more),
      here,
      (
        suc h.0,
        omega arith,
        h.1,
        omega (arith, here),
        sites_climbing n (suc (suc h.0)) sites (λ i lt. at (suc i) (omega (arith, lt))) (λ i j lt below. up (suc i) (suc j) (omega (arith, lt)) (omega (arith, below)))
            (λ lt. (
            let next : x.address + 8 ≤ (get_or sites 0 no_site).address = up 0 1 (omega arith) (omega (arith, lt)) in
            omega (arith, next, here))),
      ),
    )

pub sites_climb : (image : Fields) → Rules image → Climbs (length image.text) 0 (site_words image.sites)
sites_climb image r = sites_climbing (length image.text) 0 image.sites
    (λ i lt. (
    let fits = sites_fit image r i no_site lt in
    let x = index_in image (get_or image.sites i no_site).address fits.address in
    let y = index_in image ((get_or image.sites i no_site).address + 4) fits.next in
    let first = x.2 in
    let second = y.2 in
    let below = y.1 in
    (x.0, omega (arith, first, second, below), x.2)))
    (λ i j lt below. sites_apart image r i j no_site lt below)
    (λ lt. (sites_fit image r 0 no_site lt).address.not_before)

points_climbing : (n m : ℕ) (points : List PointRow) → ((i : ℕ) → i < length points → (k : ℕ) × (k + 3 < n) × ((get_or points i no_point).address ≡ place k))
    → ((i j : ℕ) → i < j → j < length points → (get_or points i no_point).address + 16 ≤ (get_or points j no_point).address) → (0 < length points → place m ≤ (get_or points 0 no_point).address) → Climbs n m (point_words points)
points_climbing n m [] at up low = tt
points_climbing n m (x ∷ points) at up low =
    let h = at 0 (omega arith) in
    let least : place m ≤ x.address = low (omega arith) in
    let here : x.address ≡ place h.0 = h.2 in
    let more = h.1 in
    let rest = points_climbing n (h.0 + 4) points (λ i lt. at (suc i) (omega (arith, lt))) (λ i j lt below. up (suc i) (suc j) (omega (arith, lt)) (omega (arith, below)))
    (λ lt. (
    let next : x.address + 16 ≤ (get_or points 0 no_point).address = up 0 1 (omega arith) (omega (arith, lt)) in
    omega (arith, next, here))) in
    let behind : h.0 + 4 ≡ suc (h.0 + 3) = omega arith in (
      h.0,
      omega (arith, least, here),
      omega (arith, more),
      here,
      (
        h.0 + 1,
        omega arith,
        omega (arith, more),
        omega (arith, here),
        (
          h.0 + 2,
          omega arith,
          omega (arith, more),
          omega (arith, here),
          (h.0 + 3, omega arith, h.1, omega (arith, here), subst (λ (k : ℕ). Climbs n k (point_words points)) behind rest),
        ),
      ),
    )

pub points_climb : (image : Fields) → Rules image → Climbs (length image.text) 0 (point_words image.points)
points_climb image r = points_climbing (length image.text) 0 image.points
    (λ i lt. (
    let fits = points_fit image r i no_point lt in
    let x = index_in image (get_or image.points i no_point).address fits.address in
    let y = index_in image ((get_or image.points i no_point).address + 12) fits.last in
    let first = x.2 in
    let last = y.2 in
    let below = y.1 in
    (x.0, omega (arith, first, last, below), x.2)))
    (λ i j lt below. points_apart image r i j no_point lt below)
    (λ lt. (points_fit image r 0 no_point lt).address.not_before)

has_entry : (rows : List FunctionRow) (a : ℕ) → Has a (map (λ (row : FunctionRow). row.entry) rows) → (i : ℕ) × (i < length rows) × ((get_or rows i no_function).entry ≡ a)
has_entry [] a h = absurd h
has_entry (x ∷ rows) a (inl e) = (0, omega arith, e)
has_entry (x ∷ rows) a (inr h) = let r = has_entry rows a h in (suc r.0, (let lt = r.1 in omega (arith, lt)), r.2)

has_site : (sites : List SiteRow) (a : ℕ) → Has a (site_words sites) → (i : ℕ) × (i < length sites) × (((get_or sites i no_site).address ≡ a) ⊎ ((get_or sites i no_site).address + 4 ≡ a))
has_site [] a h = absurd h
has_site (x ∷ sites) a (inl e) = (0, omega arith, inl e)
has_site (x ∷ sites) a (inr (inl e)) = (0, omega arith, inr e)
has_site (x ∷ sites) a (inr (inr h)) = let r = has_site sites a h in (suc r.0, (let lt = r.1 in omega (arith, lt)), r.2)

pub all_apart : (image : Fields) → Rules image → Apart (entries image) (site_words image.sites)
all_apart image r a h g =
    let x = has_entry image.functions a h in
    let y = has_site image.sites a g in
    let entry = x.2 in
    ⊎_elim
    (λ (before : (get_or image.functions x.0 no_function).entry < (get_or image.sites y.0 no_site).address).
    ⊎_elim (λ (e : (get_or image.sites y.0 no_site).address ≡ a). absurd (omega (arith, before, entry, e))) (λ (e : (get_or image.sites y.0 no_site).address + 4 ≡ a). absurd (omega (arith, before, entry, e))) y.2)
    (λ (behind : (get_or image.sites y.0 no_site).address + 8 ≤ (get_or image.functions x.0 no_function).entry).
    ⊎_elim (λ (e : (get_or image.sites y.0 no_site).address ≡ a). absurd (omega (arith, behind, entry, e))) (λ (e : (get_or image.sites y.0 no_site).address + 4 ≡ a). absurd (omega (arith, behind, entry, e))) y.2)
    (entry_outside image r x.0 y.0 no_function no_site x.1 y.1)

has_point : (points : List PointRow) (a : ℕ) → Has a (point_words points) → (i : ℕ) × (i < length points) × ((get_or points i no_point).address ≤ a) × (a < (get_or points i no_point).address + 16)
has_point [] a h = absurd h
has_point (x ∷ points) a (inl e) = (0, omega arith, omega (arith, e), omega (arith, e))
has_point (x ∷ points) a (inr (inl e)) = (0, omega arith, omega (arith, e), omega (arith, e))
has_point (x ∷ points) a (inr (inr (inl e))) = (0, omega arith, omega (arith, e), omega (arith, e))
has_point (x ∷ points) a (inr (inr (inr (inl e)))) = (0, omega arith, omega (arith, e), omega (arith, e))
has_point (x ∷ points) a (inr (inr (inr (inr h)))) = let r = has_point points a h in (suc r.0, (let lt = r.1 in omega (arith, lt)), r.2, r.3)

pub points_beside : (image : Fields) → Rules image → Apart (merged (entries image) (site_words image.sites)) (point_words image.points)
points_beside image r a h g =
    let y = has_point image.points a g in
    let from = y.2 in
    let to = y.3 in
    ⊎_elim
    (λ (e : Has a (entries image)). (
    let x = has_entry image.functions a e in
    let entry = x.2 in
    ⊎_elim
    (λ (before : (get_or image.functions x.0 no_function).entry < (get_or image.points y.0 no_point).address). absurd (omega (arith, before, entry, from)))
    (λ (behind : (get_or image.points y.0 no_point).address + 16 ≤ (get_or image.functions x.0 no_function).entry). absurd (omega (arith, behind, entry, to)))
    (entry_outside_point image r x.0 y.0 no_function no_point x.1 y.1)))
    (λ (s : Has a (site_words image.sites)). (
    let x = has_site image.sites a s in
    ⊎_elim
    (λ (before : (get_or image.sites x.0 no_site).address + 8 ≤ (get_or image.points y.0 no_point).address).
    ⊎_elim (λ (e : (get_or image.sites x.0 no_site).address ≡ a). absurd (omega (arith, before, from, e))) (λ (e : (get_or image.sites x.0 no_site).address + 4 ≡ a). absurd (omega (arith, before, from, e))) x.2)
    (λ (behind : (get_or image.points y.0 no_point).address + 16 ≤ (get_or image.sites x.0 no_site).address).
    ⊎_elim (λ (e : (get_or image.sites x.0 no_site).address ≡ a). absurd (omega (arith, behind, to, e))) (λ (e : (get_or image.sites x.0 no_site).address + 4 ≡ a). absurd (omega (arith, behind, to, e))) x.2)
    (site_beside_point image r x.0 y.0 no_site no_point x.1 y.1)))
    (merged_has (entries image) (site_words image.sites) a h)

-- ---- how many

length_behind : (x : ℕ) (later : List ℕ → List ℕ) (n : ℕ) (ys : List ℕ) → ((zs : List ℕ) → length (later zs) ≡ n + length zs) → length (merged_behind x later ys) ≡ suc n + length ys
length_behind x later n [] g = let e = g [] in omega (arith, e)
length_behind x later n (y ∷ ys) g =
    cond_both (ltb x y) _ _ (λ (l : List ℕ). length l ≡ suc n + length (y ∷ ys)) (λ t. (let e = g (y ∷ ys) in omega (arith, e))) (λ t. (let e = length_behind x later n ys g in omega (arith, e)))

length_merged : (xs ys : List ℕ) → length (merged xs ys) ≡ length xs + length ys
unfolding merged
length_merged [] ys = omega arith
length_merged (x ∷ xs) ys = length_behind x (merged xs) (length xs) ys (length_merged xs)

pub length_sites : (sites : List SiteRow) → length (site_words sites) ≡ 2 * length sites
length_sites [] = omega arith
length_sites (x ∷ sites) = let rest = length_sites sites in omega (arith, rest)

pub length_points : (points : List PointRow) → length (point_words points) ≡ 4 * length points
length_points [] = omega arith
length_points (x ∷ points) = let rest = length_points points in omega (arith, rest)

pub places_count : (image : Fields) → length (patched_places image) ≡ patchable image
unfolding patchable
places_count image =
    let all = length_merged (merged (entries image) (site_words image.sites)) (point_words image.points) in
    let both = length_merged (entries image) (site_words image.sites) in
    let first = length-map image.functions (λ (row : FunctionRow). row.entry) in
    let second = length_sites image.sites in
    let third = length_points image.points in
    omega (arith, all, both, first, second, third)

pub contains_has : (a : ℕ) (xs : List ℕ) → Has a xs → Contains xs a
contains_has a [] h = absurd h
contains_has a (x ∷ xs) (inl e) = (0, omega arith, e)
contains_has a (x ∷ xs) (inr h) = let r = contains_has a xs h in (suc r.0, (let lt = r.1 in omega (arith, lt)), r.2)

pub has_contained : (a : ℕ) (xs : List ℕ) → Contains xs a → Has a xs
has_contained a xs c = has_at a c.0 xs c.1 c.2
  where
    has_at : (a i : ℕ) (xs : List ℕ) → i < length xs → get_or xs i a ≡ a → Has a xs
    has_at a i [] lt e = absurd (omega (arith, lt))
    has_at a zero (x ∷ xs) lt e = inl e
    has_at a (suc i) (x ∷ xs) lt e = inr (has_at a i xs (omega (arith, lt)) e)

-- ---- in order

pub climb_place : (n m i : ℕ) (places : List ℕ) → Climbs n m places → i < length places → (k : ℕ) × (k < n) × (get_or places i 0 ≡ place k)
climb_place n m i [] h lt = absurd (omega (arith, lt))
climb_place n m zero (a ∷ places) h lt = (h.0, h.2, h.3)
climb_place n m (suc i) (a ∷ places) h lt = climb_place n (suc h.0) i places h.4 (omega (arith, lt))

at_least : (n m j : ℕ) (places : List ℕ) → Climbs n m places → j < length places → place m ≤ get_or places j 0
at_least n m j [] h lt = absurd (omega (arith, lt))
at_least n m zero (a ∷ places) h lt = let from = h.1 in let at = h.3 in omega (arith, from, at)
at_least n m (suc j) (a ∷ places) h lt = let from = h.1 in let rest = at_least n (suc h.0) j places h.4 (omega (arith, lt)) in omega (arith, from, rest)

pub climb_ascends : (n m i j : ℕ) (places : List ℕ) → Climbs n m places → i < j → j < length places → get_or places i 0 < get_or places j 0
climb_ascends n m i j [] h lt below = absurd (omega (arith, below))
climb_ascends n m i zero (a ∷ places) h lt below = absurd (omega (arith, lt))
climb_ascends n m zero (suc j) (a ∷ places) h lt below = let at = h.3 in let rest = at_least n (suc h.0) j places h.4 (omega (arith, below)) in omega (arith, at, rest)
climb_ascends n m (suc i) (suc j) (a ∷ places) h lt below = climb_ascends n (suc h.0) i j places h.4 (omega (arith, lt)) (omega (arith, below))

-- ---- the addresses of an image

pub places_climb : (image : Fields) → Rules image → Climbs (length image.text) 0 (patched_places image)
places_climb image r =
    merged_climbs (length image.text) 0 (merged (entries image) (site_words image.sites)) (point_words image.points)
    (merged_climbs (length image.text) 0 (entries image) (site_words image.sites) (entries_climb image r) (sites_climb image r) (all_apart image r))
    (points_climb image r) (points_beside image r)
