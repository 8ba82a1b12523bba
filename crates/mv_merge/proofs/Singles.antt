-- A row of one list of values holds of that list alone.
use Rattle.std.proofs.Common.{arith, ◌≡◌, ℕ, zero, suc, ◌+◌, ◌-◌, ◌^◌, ◌<◌, Bool, true, false, List, [], ◌∷◌, length, replicate, refl, sym, ◌∙◌, ap, subst, inl, inr}
use Rattle.std.specs.Prelude.{slice_get, slice_index, slice_index_or, nat_lt, nat_le, if◌then◌else◌, Some}
use Rattle.std.proofs.lemmas.Bool.Decides.{nat_tests}
use Rattle.std.proofs.lemmas.List.{get_or_append_left, length-map}
use Rattle.std.proofs.lemmas.Option.{slice_get_within}
use Rattle.std.proofs.Math.Seq.{get_or-append_right}
use Rattle.mv_num.specs.Kinds.{kind_number, is_signed, rank, is_at_most}
use Rattle.mv_num.specs.Bytes.{AreWords}
use Rattle.mv_ir.specs.declared.body.Body.{Body}
use Rattle.mv_ir.specs.Combinations.{In, Fresh, AllApart, IsCombination, AreAllCombinations}
use Rattle.mv_descriptors.specs.Rows.{ZerosFrom}
use Rattle.mv_descriptors.specs.Guards.{is_between, value_fits, holds}
use Rattle.mv_descriptors.proofs.Below.{each_of, each_below-all}
use Rattle.mv_merge.specs.declared.rows.Domain.{Domain}
use Rattle.mv_merge.specs.declared.rows.Bound.{Bound}
use Rattle.mv_merge.specs.declared.rows.Guarded.{Guarded}
use Rattle.mv_merge.specs.declared.rows.Variants.{Variants}
use Rattle.mv_merge.specs.Guards.{kinds, domain_values, row_holds, AreValues, all_values, bodies_led_to, SomeHolds, AtMostOne, LeadsTo, EachLeads, IsClean, HasRanges, EachRow, IsMerged}
use Rattle.mv_merge.specs.Grouping.{padded, single, Leads, HaveWords, IsGrouped}
use Rattle.mv_num.proofs.Booleans.{and_right, and_left}
use Rattle.mv_num.proofs.Lists.{same_lists}
use Rattle.mv_num.proofs.Numbers.{zeros_at}
use Rattle.std.proofs.lemmas.Bool.{and_from}

-- ---- values and their order

signed_apart : (a b : ℕ) → a < 2 ^ 32 → b < 2 ^ 32 → (if nat_lt a (2 ^ 31) then a + 2 ^ 31 else a - 2 ^ 31) ≡ (if nat_lt b (2 ^ 31) then b + 2 ^ 31 else b - 2 ^ 31) → a ≡ b
signed_apart a b la lb e = grind (arith, nat_tests)

rank_apart : (s : Bool) (a b : ℕ) → a < 2 ^ 32 → b < 2 ^ 32 → (if s then (if nat_lt a (2 ^ 31) then a + 2 ^ 31 else a - 2 ^ 31) else a) ≡ (if s then (if nat_lt b (2 ^ 31) then b + 2 ^ 31 else b - 2 ^ 31) else b) → a ≡ b
rank_apart true a b la lb e = signed_apart a b la lb e
rank_apart false a b la lb e = e

le_both : (m n : ℕ) → nat_le m n ≡ true → nat_le n m ≡ true → m ≡ n
le_both m n h g = grind (arith, nat_tests)

le_self : (m : ℕ) → nat_le m m ≡ true
le_self m = grind (arith, nat_tests)

between_only : (k a v : ℕ) → a < 2 ^ 32 → v < 2 ^ 32 → is_between k a a v ≡ true → a ≡ v
between_only k a v la lv h =
    rank_apart (is_signed k) a v la lv (le_both (rank k a) (rank k v) (and_left (is_at_most k a v) (is_at_most k v a) h) (and_right (is_at_most k a v) (is_at_most k v a) h))

between_self : (k a : ℕ) → is_between k a a a ≡ true
between_self k a = and_from (is_at_most k a a) (is_at_most k a a) (le_self (rank k a)) (le_self (rank k a))

-- ---- rows

padded_at : (us : List ℕ) (i : ℕ) → i < length us → slice_index (padded us) i ≡ slice_index us i
padded_at us i lt = get_or_append_left us (replicate (6 - length us) 0) 0 i lt

holds_only : (ks us vs : List ℕ) → length us ≡ length ks → length vs ≡ length ks → AreWords us → AreWords vs → holds ks vs (single us) ≡ true → us ≡ vs
unfolding holds
holds_only ks us vs eu ev wu wv h = same_lists us vs (eu ∙ sym ev) at
  where
    at : (i : ℕ) → i < length us → slice_index us i ≡ slice_index vs i
    at i lt =
        let fits = each_of (value_fits ks vs (single us)) (length ks) i (omega (arith, lt, eu)) h in
        let here = subst (λ a. is_between (slice_index ks i) a a (slice_index vs i) ≡ true) (padded_at us i lt) fits in
        between_only (slice_index ks i) (slice_index us i) (slice_index vs i) (wu i) (wv i) here

holds_self : (ks us : List ℕ) → length us ≡ length ks → holds ks us (single us) ≡ true
unfolding holds
holds_self ks us eu = each_below-all (value_fits ks us (single us)) (length ks) at
  where
    at : (i : ℕ) → i < length ks → value_fits ks us (single us) i ≡ true
    at i lt = subst (λ a. is_between (slice_index ks i) a a (slice_index us i) ≡ true) (sym (padded_at us i (omega (arith, lt, eu)))) (between_self (slice_index ks i) (slice_index us i))

-- ---- the rows of all combinations

module _ (domains : List Domain) where
  abbrev pub AllValues : List Bound → Type 0
  AllValues [] = Unit {0}
  AllValues (r ∷ rows) = AreValues domains r.assignment.values × AllValues rows

  width_of_kinds : (vs : List ℕ) → AreValues domains vs → length vs ≡ length (kinds domains)
  width_of_kinds vs h = h.each ∙ sym (length-map domains (λ d. kind_number d.kind))

  single_only : (us vs : List ℕ) → AreValues domains us → AreValues domains vs → row_holds domains (single us) vs ≡ true → us ≡ vs
  single_only us vs u v h = holds_only (kinds domains) us vs (width_of_kinds us u) (width_of_kinds vs v) u.words v.words h

  single_self : (us : List ℕ) → AreValues domains us → row_holds domains (single us) us ≡ true
  single_self us u = holds_self (kinds domains) us (width_of_kinds us u)

  in_behind : (v x : List ℕ) (xs : List (List ℕ)) → In v xs → In v (x ∷ xs)
  in_behind v x xs h = let lt : suc h.0 < suc (length xs) = omega (arith, h.1) in (suc h.0, lt, h.2)

  module _ (bodies : List Body) where
    -- the row that holds came with these values
    some_in : (rows : List Bound) (guards : List Guarded) (vs : List ℕ) → AreValues domains vs → AllValues rows → Leads bodies rows guards → SomeHolds domains guards vs → In vs (all_values rows)
    some_in [] [] vs v w l h = absurd h
    some_in [] (g ∷ guards) vs v w l h = absurd l
    some_in (r ∷ rows) [] vs v w l h = absurd l
    some_in (r ∷ rows) (g ∷ guards) vs v w l (inl h) =
        let e = single_only r.assignment.values vs w.0 v (subst (λ x. row_holds domains x vs ≡ true) l.0.0 h) in
        let lt : 0 < suc (length (all_values rows)) = omega arith in
        (0, lt, λ d. e)
    some_in (r ∷ rows) (g ∷ guards) vs v w l (inr h) = in_behind vs r.assignment.values (all_values rows) (some_in rows guards vs v w.1 l.1 h)

    in_some : (rows : List Bound) (guards : List Guarded) (vs : List ℕ) → AllValues rows → Leads bodies rows guards → (i : ℕ) →
        i < length (all_values rows) → ((d : List ℕ) → slice_index_or (all_values rows) i d ≡ vs) → SomeHolds domains guards vs
    in_some [] guards vs w l i lt e = absurd (omega arith)
    in_some (r ∷ rows) [] vs w l i lt e = absurd l
    in_some (r ∷ rows) (g ∷ guards) vs w l zero lt e =
        let same : r.assignment.values ≡ vs = e [] in
        inl (subst (λ x. row_holds domains x vs ≡ true) (sym l.0.0) (subst (λ u. row_holds domains (single r.assignment.values) u ≡ true) same (single_self r.assignment.values w.0)))
    in_some (r ∷ rows) (g ∷ guards) vs w l (suc i) lt e =
        let below : suc i < suc (length (all_values rows)) = lt in
        inr (in_some rows guards vs w.1 l.1 i (omega arith) e)

    fresh_in : (v x : List ℕ) (xs : List (List ℕ)) → Fresh v xs → (i : ℕ) → i < length xs → ((d : List ℕ) → slice_index_or xs i d ≡ x) → v ≡ x → ⊥
    fresh_in v x [] f i lt e h = omega arith
    fresh_in v x (y ∷ ys) f zero lt e h = f.0 (h ∙ sym (e []))
    fresh_in v x (y ∷ ys) f (suc i) lt e h = let below : suc i < suc (length ys) = lt in fresh_in v x ys f.1 i (omega arith) e h

    one_at_most : (rows : List Bound) (guards : List Guarded) (vs : List ℕ) → AreValues domains vs → AllValues rows → Leads bodies rows guards → AllApart (all_values rows) → AtMostOne domains guards vs
    one_at_most [] [] vs v w l a = tt
    one_at_most [] (g ∷ guards) vs v w l a = absurd l
    one_at_most (r ∷ rows) [] vs v w l a = absurd l
    one_at_most (r ∷ rows) (g ∷ guards) vs v w l a = (
      (λ h k.
          let e = single_only r.assignment.values vs w.0 v (subst (λ x. row_holds domains x vs ≡ true) l.0.0 h) in
          let other = some_in rows guards vs v w.1 l.1 k in
          fresh_in r.assignment.values vs (all_values rows) a.0 other.0 other.1 other.2 e),
      one_at_most rows guards vs v w.1 l.1 a.1,
    )

    -- the rows with these values have this body
    abbrev Agrees : List ℕ → Body → List Bound → Type 0
    Agrees vs body [] = Unit {0}
    Agrees vs body (r ∷ rows) = (r.assignment.values ≡ vs → r.body ≡ body) × Agrees vs body rows

    agrees_fresh : (vs : List ℕ) (body : Body) (rows : List Bound) → Fresh vs (all_values rows) → Agrees vs body rows
    agrees_fresh vs body [] f = tt
    agrees_fresh vs body (r ∷ rows) f = (λ e. absurd (f.0 (sym e)), agrees_fresh vs body rows f.1)

    leads_to : (rows : List Bound) (guards : List Guarded) (vs : List ℕ) (body : Body) → AreValues domains vs → AllValues rows → Leads bodies rows guards → Agrees vs body rows → LeadsTo domains bodies guards vs body
    leads_to [] [] vs body v w l a = tt
    leads_to [] (g ∷ guards) vs body v w l a = absurd l
    leads_to (r ∷ rows) [] vs body v w l a = absurd l
    leads_to (r ∷ rows) (g ∷ guards) vs body v w l a = (
      (λ h.
          let e = single_only r.assignment.values vs w.0 v (subst (λ x. row_holds domains x vs ≡ true) l.0.0 h) in
          l.0.1 ∙ ap Some (a.0 e)),
      leads_to rows guards vs body v w.1 l.1 a.1,
    )

    -- of rows that are a part of all, where each of the others has other values
    abbrev EachAgrees : List Bound → List Bound → Type 0
    EachAgrees all [] = Unit {0}
    EachAgrees all (r ∷ rows) = Agrees r.assignment.values r.body all × EachAgrees all rows

    agrees_behind : (x : Bound) (all rows : List Bound) → Fresh x.assignment.values (all_values rows) → EachAgrees all rows → EachAgrees (x ∷ all) rows
    agrees_behind x all [] f h = tt
    agrees_behind x all (r ∷ rows) f h = ((λ e. absurd (f.0 e), h.0), agrees_behind x all rows f.1 h.1)

    each_agrees : (rows : List Bound) → AllApart (all_values rows) → EachAgrees rows rows
    each_agrees [] a = tt
    each_agrees (r ∷ rows) a = ((λ e. refl, agrees_fresh r.assignment.values r.body rows a.0), agrees_behind r rows rows a.0 (each_agrees rows a.1))

    each_leads : (all : List Bound) (guards : List Guarded) (rows : List Bound) → AllValues all → Leads bodies all guards → AllValues rows → EachAgrees all rows → EachLeads domains bodies guards rows
    each_leads all guards [] w l v h = tt
    each_leads all guards (r ∷ rows) w l v h = (leads_to all guards r.assignment.values r.body v.0 w l h.0, each_leads all guards rows w l v.1 h.1)

    -- a body to which a row leads came with an assignment
    came_with : (rows : List Bound) (guards : List Guarded) → Leads bodies rows guards → (i k : ℕ) → k < length (bodies_led_to guards) → ((d : ℕ) → slice_index_or (bodies_led_to guards) k d ≡ i) →
        (r : Bound) × In r rows × (slice_get bodies i ≡ Some r.body)
    came_with [] [] l i k lt e = absurd (omega arith)
    came_with [] (g ∷ guards) l i k lt e = absurd l
    came_with (r ∷ rows) [] l i k lt e = absurd l
    came_with (r ∷ rows) (g ∷ guards) l i zero lt e =
        let here : 0 < suc (length rows) = omega arith in
        (r, (0, here, λ d. refl), subst (λ j. slice_get bodies j ≡ Some r.body) (e 0) l.0.1)
    came_with (r ∷ rows) (g ∷ guards) l i (suc k) lt e =
        let below : suc k < suc (length (bodies_led_to guards)) = lt in
        let rest = came_with rows guards l.1 i k (omega arith) e in
        let there : suc rest.1.0 < suc (length rows) = omega (arith, rest.1.1) in
        (rest.0, (suc rest.1.0, there, rest.1.2), rest.2)

    as_many : (rows : List Bound) (guards : List Guarded) → Leads bodies rows guards → length guards ≡ length rows
    as_many [] [] l = refl
    as_many [] (g ∷ guards) l = absurd l
    as_many (r ∷ rows) [] l = absurd l
    as_many (r ∷ rows) (g ∷ guards) l = ap suc (as_many rows guards l.1)

  -- ---- unused words

  padded_clean : (us : List ℕ) → AreValues domains us → ZerosFrom (length domains) (padded us)
  padded_clean us u i le = get_or-append_right us (replicate (6 - length us) 0) i 0 (omega (arith, le, u.each)) ∙ zeros_at (6 - length us) (i - length us)

  all_clean : (bodies : List Body) (rows : List Bound) (guards : List Guarded) → AllValues rows → Leads bodies rows guards → EachRow (IsClean domains) guards
  all_clean bodies [] [] w l = tt
  all_clean bodies [] (g ∷ guards) w l = absurd l
  all_clean bodies (r ∷ rows) [] w l = absurd l
  all_clean bodies (r ∷ rows) (g ∷ guards) w l =
      let clean = padded_clean r.assignment.values w.0 in
      (subst (IsClean domains) (sym l.0.0) (clean, clean), all_clean bodies rows guards w.1 l.1)

  -- ---- from the conditions

  width : (ds : List Domain) (vs : List ℕ) → IsCombination (domain_values ds) vs → length vs ≡ length ds
  width [] [] h = refl
  width [] (v ∷ vs) h = absurd h
  width (d ∷ ds) [] h = absurd h
  width (d ∷ ds) (v ∷ vs) h = ap suc (width ds vs h.1)

  abbrev pub Widths : List Bound → Type 0
  Widths [] = Unit {0}
  Widths (r ∷ rows) = (length r.assignment.values ≡ length domains) × Widths rows

  pub widths : (rows : List Bound) → ((vs : List ℕ) → In vs (all_values rows) → IsCombination (domain_values domains) vs) → Widths rows
  widths [] h = tt
  widths (r ∷ rows) h =
      let lt : 0 < suc (length (all_values rows)) = omega arith in
      (width domains r.assignment.values (h r.assignment.values (0, lt, λ d. refl)), widths rows (λ vs i. h vs (in_behind vs r.assignment.values (all_values rows) i)))

  -- ---- ranges

  value_in : (ds : List Domain) (vs : List ℕ) → IsCombination (domain_values ds) vs → (i : ℕ) (d : Domain) → slice_get ds i ≡ Some d → In (slice_index vs i) d.values
  value_in [] vs h i d e = absurd cc
  value_in (c ∷ ds) [] h i d e = absurd h
  value_in (c ∷ ds) (v ∷ vs) h zero d e = let same : c ≡ d = cc in subst (λ (x : Domain). In v x.values) same h.0
  value_in (c ∷ ds) (v ∷ vs) h (suc i) d e = value_in ds vs h.1 i d e

  single_ranges : (vs : List ℕ) → IsCombination (domain_values domains) vs → HasRanges domains (single vs)
  single_ranges vs h i d e =
      let below : i < length vs = let within = slice_get_within domains i d e in omega (arith, within, width domains vs h) in
      let here : In (slice_index (padded vs) i) d.values = subst (λ v. In v d.values) (sym (padded_at vs i below)) (value_in domains vs h i d e) in
      record { lowest = here; highest = here; ordered = le_self (rank (kind_number d.kind) (slice_index (padded vs) i)) }

  all_ranges : (bodies : List Body) (rows : List Bound) (guards : List Guarded) → ((vs : List ℕ) → In vs (all_values rows) → IsCombination (domain_values domains) vs) →
      Leads bodies rows guards → EachRow (HasRanges domains) guards
  all_ranges bodies [] [] h l = tt
  all_ranges bodies [] (g ∷ guards) h l = absurd l
  all_ranges bodies (r ∷ rows) [] h l = absurd l
  all_ranges bodies (r ∷ rows) (g ∷ guards) h l =
      let first : 0 < suc (length (all_values rows)) = omega arith in (
        subst (HasRanges domains) (sym l.0.0) (single_ranges r.assignment.values (h r.assignment.values (0, first, λ d. refl))),
        all_ranges bodies rows guards (λ vs i. h vs (in_behind vs r.assignment.values (all_values rows) i)) l.1,
      )

  all_values_of : (rows : List Bound) → Widths rows → HaveWords rows → AllValues rows
  all_values_of [] w h = tt
  all_values_of (r ∷ rows) w h = (record { each = w.0; words = h.0 }, all_values_of rows w.1 h.1)

  pub merged : (rows : List Bound) (v : Variants) → AreAllCombinations (domain_values domains) (all_values rows) → IsGrouped rows v.bodies v.guards → IsMerged domains rows v
  merged rows v c g =
      let w = all_values_of rows (widths rows c.only) g.words in
      record {
        exact = λ vs u. ((λ h. c.only vs (some_in v.bodies rows v.guards vs u w g.leads h)), (λ h. let i = c.every vs h in in_some v.bodies rows v.guards vs w g.leads i.0 i.1 i.2));
        disjoint = λ vs u. one_at_most v.bodies rows v.guards vs u w g.leads c.once;
        leads = each_leads v.bodies rows v.guards rows w g.leads w (each_agrees v.bodies rows c.once);
        came = λ i lt. let u = g.used i lt in came_with v.bodies rows v.guards g.leads i u.0 u.1 u.2;
        apart = g.apart;
        used = g.used;
        count = as_many v.bodies rows v.guards g.leads;
        ranges = all_ranges v.bodies rows v.guards c.only g.leads;
        clean = all_clean v.bodies rows v.guards w g.leads;
      }
