-- The place of a name, by recursion over the names, and what a map with one key more has.
use Rattle.std.proofs.Common.{◌≡◌, ◌∙◌, ℕ, subst, refl, sym, ap, ap₂, cond, not, nat_lt, ◌+◌, ◌<◌, ◌||◌, Bool, true, false, true≢false, ◌++◌, length, List, [], ◌∷◌, Option, Some, None, IfSome, if◌then◌else◌, arith}
use Rattle.std.specs.List.{position_or_len}
use Rattle.std.specs.Option.{is_some, option_or}
use Rattle.std.specs.Ordering.{is_eq, nat_cmp, eq_by_cmp}
use Rattle.std.specs.BTreeMap.{is_at}
use Rattle.std.specs.Map.{KeepsOthers}
use Rattle.std.specs.Cmp.Lexicographic.{slice_cmp, same_text}
use Rattle.std.specs.declared.vec.Vec.{Vec}
use Rattle.std.specs.declared.alloc.Global.{Global}
use Rattle.std.proofs.lemmas.Bool.{lt-ltb}
use Rattle.std.proofs.lemmas.Cmp.{nat_list_eq_equiv, nat_list_cmp_total}
use Rattle.std.specs.Cmp.{eq_by_cmp_equiv}
use Rattle.std.proofs.lemmas.List.{map-append, length-map}
use Rattle.std.proofs.lemmas.List.Quantifiers.{position-Some}
use Rattle.std.proofs.lemmas.Map.Text.{is_eq-slice_cmp}
use Rattle.mv_check_outline.specs.Names.{same_name, is_among, with_name, place_of, place_behind, names_of}
use Rattle.mv_check_outline.specs.Places.{place_in, ArePlaces}

abbrev next : Option ℕ → Option ℕ
next None = None
next (Some n) = Some (1 + n)

longer : (n : List ℕ) (ns : List (List ℕ)) → length (n ∷ ns) ≡ 1 + length ns
longer n ns = omega arith

place_step : (name n : List ℕ) (ns : List (List ℕ)) → place_of name (n ∷ ns) ≡ cond (same_name name n) (Some 0) (next (place_of name ns))
place_step name n ns =
    ap (λ l. cond (nat_lt (position_or_len (same_name name) (n ∷ ns)) l) (Some (position_or_len (same_name name) (n ∷ ns))) None) (longer n ns) ∙
    by (same_name name n) (position_or_len (same_name name) ns) (length ns)
  where
    later : (a m : ℕ) (b c : Bool) → b ≡ nat_lt (1 + a) (1 + m) → c ≡ nat_lt a m → cond b (Some (1 + a)) None ≡ next (cond c (Some a) None)
    later a m b c e f = grind (arith, e, f)

    by : (b : Bool) (a m : ℕ) → cond (nat_lt (cond (not b) (1 + a) 0) (1 + m)) (Some (cond (not b) (1 + a) 0)) None ≡ cond b (Some 0) (next (cond (nat_lt a m) (Some a) None))
    by true a m = ap (λ b. cond b (Some 0) None) (lt-ltb 0 (1 + m) (omega arith))
    by false a m = later a m _ _ refl refl

-- names that are apart, in either form
apart_in_order : (m n k : List ℕ) → same_name m n ≡ false → is_eq (slice_cmp nat_cmp m k) ≡ true → is_eq (slice_cmp nat_cmp n k) ≡ false
apart_in_order m n k apart same =
    is_eq-slice_cmp n k ∙ (nat_list_eq_equiv.symm n k ∙ (sym (nat_list_eq_equiv.congr m k n (sym (is_eq-slice_cmp m k) ∙ same)) ∙ apart))

pub has_place : (name : List ℕ) (ns : List (List ℕ)) → is_some (place_of name ns) ≡ is_among name ns
has_place name [] = refl
has_place name (n ∷ ns) = ap is_some (place_step name n ns) ∙ by (same_name name n) (place_of name ns) (has_place name ns)
  where
    by : (b : Bool) (o : Option ℕ) → is_some o ≡ is_among name ns → is_some (cond b (Some 0) (next o)) ≡ (b || is_among name ns)
    by true o e = refl
    by false None e = e
    by false (Some i) e = e

pub place_within : (name : List ℕ) (ns : List (List ℕ)) → IfSome (place_of name ns) (λ n. n < length ns)
place_within name ns = by (place_of name ns) refl
  where
    by : (o : Option ℕ) → place_of name ns ≡ o → IfSome o (λ n. n < length ns)
    by None e = tt
    by (Some i) e = (position-Some (same_name name) ns i [] e).0

-- a new name has the next place
pub place_more : (name key : List ℕ) (ns : List (List ℕ)) → is_among key ns ≡ false →
    cond (same_name key name) (Some (length ns)) (place_of name ns) ≡ place_of name (ns ++ key ∷ [])
place_more name key [] h = ap (λ b. cond b (Some 0) None) (nat_list_eq_equiv.symm key name) ∙ sym (place_step name key [])
place_more name key (n ∷ ns) h =
    ap (λ o. cond (same_name key name) (Some (length (n ∷ ns))) o) (place_step name n ns) ∙
    (by (same_name name n) refl (same_name key n) (same_name key name) refl refl (place_of name ns) ∙
    (ap (λ o. cond (same_name name n) (Some 0) (next o)) (place_more name key ns (rest (same_name key n) (is_among key ns) h)) ∙
    sym (place_step name n (ns ++ key ∷ []))))
  where
    rest : (b c : Bool) → (b || c) ≡ false → c ≡ false
    rest true c e = absurd (true≢false e)
    rest false c e = e

    apart : (b c : Bool) → (b || c) ≡ false → b ≡ false
    apart true c e = absurd (true≢false e)
    apart false c e = refl

    by : (b : Bool) → same_name name n ≡ b → (c d : Bool) → same_name key n ≡ c → same_name key name ≡ d → (o : Option ℕ) →
        cond d (Some (length (n ∷ ns))) (cond b (Some 0) (next o)) ≡ cond b (Some 0) (next (cond d (Some (length ns)) o))
    by true e c true f g o =
        absurd (true≢false (sym g ∙ (ap (same_name key) (same_text name n (sym e)) ∙ apart (same_name key n) (is_among key ns) h)))
    by true e c false f g o = refl
    by false e c true f g o = ap (λ k. Some k) (longer n ns)
    by false e c false f g o = refl

pub place_last : (name : List ℕ) (ns : List (List ℕ)) → is_among name ns ≡ false → place_of name (ns ++ name ∷ []) ≡ Some (length ns)
place_last name ns new =
    sym (place_more name name ns new) ∙ ap (λ b. cond b (Some (length ns)) (place_of name ns)) (nat_list_eq_equiv.refl name)

-- a name that has a place is there, and one that has none goes last
module _ (name : List ℕ) (ns : List (List ℕ)) where
  pub stays : (n : ℕ) → Some n ≡ place_of name ns → ns ≡ with_name ns name
  stays n e = ap (λ (b : Bool). if b then ns else ns ++ name ∷ []) (ap is_some e ∙ has_place name ns)

  pub is_new : None ≡ place_of name ns → is_among name ns ≡ false
  is_new e = sym (ap is_some e ∙ has_place name ns)

  pub grows : None ≡ place_of name ns → ns ++ name ∷ [] ≡ with_name ns name
  grows e = ap (λ (b : Bool). if b then ns else ns ++ name ∷ []) (sym (is_new e))

-- a name among some and others has its place among the first, or behind them
pub place_of_both : (name : List ℕ) (ms ns : List (List ℕ)) →
    place_of name (ms ++ ns) ≡ option_or (place_of name ms) (place_behind (length ms) (place_of name ns))
place_of_both name [] ns = by (place_of name ns)
  where
    by : (o : Option ℕ) → o ≡ place_behind 0 o
    by None = refl
    by (Some i) = ap (λ k. Some k) (omega arith)
place_of_both name (m ∷ ms) ns =
    place_step name m (ms ++ ns) ∙
    (ap (λ o. cond (same_name name m) (Some 0) (next o)) (place_of_both name ms ns) ∙
    (by (same_name name m) (place_of name ms) (place_of name ns) ∙
    ap (λ o. option_or o (place_behind (length (m ∷ ms)) (place_of name ns))) (sym (place_step name m ms))))
  where
    by : (b : Bool) (o r : Option ℕ) →
        cond b (Some 0) (next (option_or o (place_behind (length ms) r))) ≡ option_or (cond b (Some 0) (next o)) (place_behind (length (m ∷ ms)) r)
    by true o r = refl
    by false (Some i) r = refl
    by false None None = refl
    by false None (Some j) = ap (λ k. Some k) (let e = longer m ms in omega (arith, e))

-- ---- a map that has one key more

module _ (es fs : List (Vec ℕ Global × ℕ)) (key : Vec ℕ Global) (place : ℕ) where
  abbrev Kept : Type 0
  Kept = KeepsOthers (eq_by_cmp (λ a b. slice_cmp nat_cmp a.items b.items)) (is_at (λ b. slice_cmp nat_cmp key.items b.items)) es fs

  others : Kept → (name : List ℕ) → same_name key.items name ≡ false → place_in name fs ≡ place_in name es
  unfolding KeepsOthers
  others h name apart =
      h (λ k. is_eq (slice_cmp nat_cmp name k.items)) (λ a b. (eq_by_cmp_equiv nat_list_cmp_total).congr name a.items b.items) (λ k. apart_in_order key.items name k.items apart)

  found : place_in key.items fs ≡ Some place → Kept → (name : List ℕ) → place_in name fs ≡ cond (same_name key.items name) (Some place) (place_in name es)
  found here kept name = by (same_name key.items name) refl
    where
      by : (b : Bool) → same_name key.items name ≡ b → place_in name fs ≡ cond b (Some place) (place_in name es)
      by true e = subst (λ l. place_in l fs ≡ Some place) (same_text key.items name (sym e)) here
      by false e = others kept name e

  pub pushed : (ks ls : List (Vec ℕ Global)) (name : Vec ℕ Global) → ArePlaces es (names_of ks) → ls ≡ ks ++ name ∷ [] → key.items ≡ name.items →
      place ≡ length ks → is_among key.items (names_of ks) ≡ false → place_in key.items fs ≡ Some place → Kept → ArePlaces fs (names_of ls)
  pushed ks ls name kept added same at new here others = λ q.
      found here others q ∙
      (ap₂ (λ n o. cond (same_name key.items q) (Some n) o) (at ∙ sym (length-map ks (λ k. k.items))) (kept q) ∙
      (place_more q key.items (names_of ks) new ∙
      ap (place_of q) (ap (λ n. names_of ks ++ n ∷ []) same ∙ (sym (map-append (λ k. k.items) ks (name ∷ [])) ∙ ap names_of (sym added)))))
