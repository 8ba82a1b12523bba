-- The first variant with a row that holds is the one whose body came with the values.
use Rattle.std.proofs.Common.{arith, ◌≡◌, ℕ, zero, suc, ◌+◌, ◌<◌, ◌≤◌, Bool, true, false, cond, ◌||◌, List, [], ◌∷◌, ◌++◌, length, take, drop, get_or, eqb, refl, ◌∙◌, ap, subst, ◌⊎◌, inl, inr, append_assoc, append-nil}
use Rattle.std.specs.Prelude.{slice_get, Option, Some, None}
use Rattle.std.specs.List.{list_any}
use Rattle.std.proofs.lemmas.Bool.{eq-eqb, eqb-true, cases_lt, or_right, or_cases}
use Rattle.std.proofs.Math.Seq.{take-append_seam, drop-append_seam}
use Rattle.std.proofs.lemmas.Option.{slice_get_within}
use Rattle.mv_ir.specs.declared.body.Body.{Body}
use Rattle.mv_ir.specs.Combinations.{In}
use Rattle.mv_ir.specs.Measures.{joined}
use Rattle.mv_descriptors.specs.declared.rows.VariantRow.{VariantRow}
use Rattle.mv_descriptors.specs.declared.rows.GuardRow.{GuardRow}
use Rattle.mv_descriptors.specs.Guards.{holds, fitting}
use Rattle.mv_merge.specs.declared.rows.Domain.{Domain}
use Rattle.mv_merge.specs.declared.rows.Bound.{Bound}
use Rattle.mv_merge.specs.declared.rows.Guarded.{Guarded}
use Rattle.mv_merge.specs.Guards.{kinds, all_values, SomeHolds, LeadsTo, EachLeads}
use Rattle.mv_variants.specs.Bound.Rows.{rows_of, groups_from, groups, AreCounted, counting, Leads, FittingIsLed, GroupedIsLed}

pub bool_cases : (b : Bool) → (b ≡ true) ⊎ (b ≡ false)
bool_cases true = inl refl
bool_cases false = inr refl

-- ---- the first group with a row that holds

module _ (test : GuardRow → Bool) where
  abbrev first_group : ℕ → List (List GuardRow) → Option ℕ
  first_group n [] = None
  first_group n (rows ∷ more) = cond (list_any test rows) (Some n) (first_group (suc n) more)

  fitting_is_first : (n : ℕ) (all : List (List GuardRow)) (vrows : List VariantRow) (more : List GuardRow) → AreCounted all vrows → fitting test n vrows (joined all ++ more) ≡ first_group n all
  unfolding fitting
  fitting_is_first n [] [] more c = refl
  fitting_is_first n [] (v ∷ vrows) more c = absurd c
  fitting_is_first n (rows ∷ all) [] more c = absurd c
  fitting_is_first n (rows ∷ all) (v ∷ vrows) more c =
      let apart : (rows ++ joined all) ++ more ≡ rows ++ (joined all ++ more) = append_assoc rows (joined all) more in
      let own : take v.guards ((rows ++ joined all) ++ more) ≡ rows = ap (λ n. take n ((rows ++ joined all) ++ more)) c.0 ∙ ap (take (length rows)) apart ∙ take-append_seam rows (joined all ++ more) in
      let others : drop v.guards ((rows ++ joined all) ++ more) ≡ joined all ++ more = ap (λ n. drop n ((rows ++ joined all) ++ more)) c.0 ∙ ap (drop (length rows)) apart ∙ drop-append_seam rows (joined all ++ more) in
      ap (λ r. cond (list_any test r) (Some n) (fitting test (suc n) vrows (drop v.guards ((rows ++ joined all) ++ more)))) own
      ∙ ap (λ r. cond (list_any test rows) (Some n) (fitting test (suc n) vrows r)) others
      ∙ ap (λ f. cond (list_any test rows) (Some n) f) (fitting_is_first (suc n) all vrows more c.1)

  -- a row of the guards that holds, with the body to which it leads
  abbrev Holds : List Guarded → ℕ → Type 0
  Holds [] i = ⊥
  Holds (g ∷ guards) i = ((g.body ≡ i) × (test g.row ≡ true)) ⊎ Holds guards i

  -- such a row stands in that body's group
  in_group : (guards : List Guarded) (i : ℕ) → Holds guards i → list_any test (rows_of guards i) ≡ true
  in_group [] i h = absurd h
  in_group (g ∷ guards) i (inl h) =
      let same : eqb g.body i ≡ true = eq-eqb g.body i h.0 in
      rw same (rw h.1 refl)
  in_group (g ∷ guards) i (inr h) = by (eqb g.body i) (in_group guards i h)
    where
      by : (b : Bool) → list_any test (rows_of guards i) ≡ true → list_any test (cond b (g.row ∷ rows_of guards i) (rows_of guards i)) ≡ true
      by true k = or_right (test g.row) _ k
      by false k = k

  of_group : (guards : List Guarded) (i : ℕ) → list_any test (rows_of guards i) ≡ true → Holds guards i
  of_group [] i h = absurd cc
  of_group (g ∷ guards) i h = by (eqb g.body i) refl (of_group guards i)
    where
      by : (b : Bool) → eqb g.body i ≡ b → (list_any test (rows_of guards i) ≡ true → Holds guards i) → Holds (g ∷ guards) i
      by true e rest =
          let h' : (test g.row || list_any test (rows_of guards i)) ≡ true = subst (λ b. list_any test (cond b (g.row ∷ rows_of guards i) (rows_of guards i)) ≡ true) e h in
          elim (or_cases (test g.row) (list_any test (rows_of guards i)) h') [
            | inl t ↦ inl (eqb-true g.body i e, t)
            | inr t ↦ inr (rest t)
          ]
      by false e rest = inr (rest (subst (λ b. list_any test (cond b (g.row ∷ rows_of guards i) (rows_of guards i)) ≡ true) e h))

  -- where no row holds, no group has one
  abbrev NoneHolds : List Guarded → Type 0
  NoneHolds guards = (i : ℕ) → Holds guards i → ⊥

  none_first : (guards : List Guarded) → NoneHolds guards → (k i n : ℕ) → first_group n (groups_from guards i k) ≡ None
  none_first guards none zero i n = refl
  none_first guards none (suc k) i n =
      elim (bool_cases (list_any test (rows_of guards i))) [
        | inl t ↦ absurd (none i (of_group guards i t))
        | inr f ↦ rw f (none_first guards none k (suc i) (suc n))
      ]

  -- where a row holds that leads to a body among some, one is found, and its group has a row that holds
  some_first : (guards : List Guarded) (k i n first j : ℕ) → n ≡ first + i → Holds guards j → i ≤ j → j < i + k →
      (m : ℕ) × (first_group n (groups_from guards i k) ≡ Some (first + m)) × (m < i + k) × Holds guards m
  some_first guards zero i n first j e h le lt = absurd (omega arith)
  some_first guards (suc k) i n first j e h le lt =
      elim (bool_cases (list_any test (rows_of guards i))) [
        | inl t ↦ (i, rw t (ap Some e), omega arith, of_group guards i t)
        | inr f ↦
            let other : suc i ≤ j = elim (cases_lt i j) [ inl b ↦ omega arith | inr a ↦ let same : j ≡ i = omega arith in absurd (let t : list_any test (rows_of guards i) ≡ true = in_group guards i (subst (Holds guards) same h) in cc) ] in
            let rest = some_first guards k (suc i) (suc n) first j (omega arith) h other (omega arith) in
            (rest.0, rw f rest.1, omega (arith, rest.2), rest.3)
      ]

-- ---- what a merge says of them

module _ (domains : List Domain) (vs : List ℕ) where
  abbrev test : GuardRow → Bool
  test = holds (kinds domains) vs

  some_holds : (guards : List Guarded) (i : ℕ) → Holds test guards i → SomeHolds domains guards vs
  some_holds [] i h = absurd h
  some_holds (g ∷ guards) i (inl h) = inl h.1
  some_holds (g ∷ guards) i (inr h) = inr (some_holds guards i h)

  holds_some : (guards : List Guarded) → SomeHolds domains guards vs → (i : ℕ) × Holds test guards i
  holds_some [] h = absurd h
  holds_some (g ∷ guards) (inl h) = (g.body, inl (refl, h))
  holds_some (g ∷ guards) (inr h) = let rest = holds_some guards h in (rest.0, inr rest.1)

  leads_there : (bodies : List Body) (guards : List Guarded) (body : Body) (i : ℕ) → LeadsTo domains bodies guards vs body → Holds test guards i → slice_get bodies i ≡ Some body
  leads_there bodies [] body i l h = absurd h
  leads_there bodies (g ∷ guards) body i l (inl h) = subst (λ k. slice_get bodies k ≡ Some body) h.0 (l.0 h.1)
  leads_there bodies (g ∷ guards) body i l (inr h) = leads_there bodies guards body i l.1 h

  each_there : (bodies : List Body) (guards : List Guarded) (rows : List Bound) (r : Bound) → EachLeads domains bodies guards rows → In r rows → r.assignment.values ≡ vs → LeadsTo domains bodies guards vs r.body
  each_there bodies guards rows r l h e = by rows l h.0 h.1 h.2
    where
      by : (rows : List Bound) → EachLeads domains bodies guards rows → (i : ℕ) → i < length rows → ((d : Bound) → get_or rows i d ≡ r) → LeadsTo domains bodies guards vs r.body
      by [] l i lt at = absurd (omega arith)
      by (x ∷ rows) l zero lt at =
          let same : x ≡ r = at r in
          subst (λ us. LeadsTo domains bodies guards us r.body) e (subst (λ (y : Bound). LeadsTo domains bodies guards y.assignment.values y.body) same l.0)
      by (x ∷ rows) l (suc i) lt at = let below : suc i < suc (length rows) = lt in by rows l.1 i (omega arith) at

  -- the row that came with some of the values
  pub row_with : (rows : List Bound) → In vs (all_values rows) → (r : Bound) × In r rows × (r.assignment.values ≡ vs)
  row_with rows h = by rows h.0 h.1 h.2
    where
      by : (rows : List Bound) (i : ℕ) → i < length (all_values rows) → ((d : List ℕ) → get_or (all_values rows) i d ≡ vs) → (r : Bound) × In r rows × (r.assignment.values ≡ vs)
      by [] i lt at = absurd (omega arith)
      by (x ∷ rows) zero lt at = let here : 0 < suc (length rows) = omega arith in (x, (0, here, λ d. refl), at [])
      by (x ∷ rows) (suc i) lt at =
          let below : suc i < suc (length (all_values rows)) = lt in
          let rest = by rows i (omega arith) at in
          let there : suc rest.1.0 < suc (length rows) = omega (arith, rest.1.1) in
          (rest.0, (suc rest.1.0, there, rest.1.2), rest.2)

pub is_led : FittingIsLed
is_led domains rows variants all merged vrows counted first more vs values =
    let guards = variants.guards in
    let count = length variants.bodies in
    let same = fitting_is_first (test domains vs) first (groups variants) vrows more counted in
    record {
      combination = λ c.
          let came = row_with domains vs rows (all.every vs c) in
          let some = holds_some domains vs guards ((merged.exact vs values).1 c) in
          let led = λ (r : Bound) (i : In r rows) (e : r.assignment.values ≡ vs) (k : ℕ) (h : Holds (test domains vs) guards k).
          leads_there domains vs variants.bodies guards r.body k (each_there domains vs variants.bodies guards rows r merged.leads i e) h in
          let within = slice_get_within variants.bodies some.0 came.0.body (led came.0 came.1 came.2 some.0 some.1) in
          let found = some_first (test domains vs) guards count 0 first first some.0 (omega arith) some.1 (omega arith) (omega (arith, within)) in
          (found.0, same ∙ found.1, omega (arith, found.2), λ r i e. led r i e found.0 found.3);
      came = all.every vs;
      none = λ no. same ∙ none_first (test domains vs) guards (λ i h. no ((merged.exact vs values).0 (some_holds domains vs guards i h))) count 0 first;
    }

counting_counts : (all : List (List GuardRow)) → AreCounted all (counting all)
counting_counts [] = tt
counting_counts (rows ∷ all) = (refl, counting_counts all)

pub grouped_is_led : GroupedIsLed
grouped_is_led domains rows variants all merged vs values =
    subst (λ l. Leads domains rows variants.bodies 0 vs (fitting (holds (kinds domains) vs) 0 (counting (groups variants)) l)) (append-nil (joined (groups variants)))
    (is_led domains rows variants all merged (counting (groups variants)) (counting_counts (groups variants)) 0 [] vs values)
