-- The pointer switches of a program are the function pointers that are marked.
use Rattle.std.proofs.Common.{◌≡◌, ◌≢◌, ℕ, refl, sym, ◌∙◌, ap, subst, Bool, true, false, List, [], ◌∷◌, map, filter, Some, unwrap_or, slice_get, arith}
use Rattle.std.specs.Prelude.{All, AllPairs}
use Rattle.std.specs.List.{AllByRecursion}
use Rattle.std.proofs.lemmas.Bool.{and_parts}
use Rattle.std.proofs.lemmas.List.Elements.{All-from_recursion}
use Rattle.std.proofs.lemmas.List.Kept.{AllPairs-cons}
use Rattle.mv_syntax.specs.declared.unit.Item.{Item}
use Rattle.mv_check_outline.specs.declared.outline.Wanted.TheVariants as wanted
use Rattle.mv_check_outline.specs.Names.{is_among, each_once, among, number_in, same_name}
use Rattle.mv_check_outline.specs.Outlined as outlined
use Rattle.mv_check_outline.specs.Outlined.{all_names}
use Rattle.mv_check_declarations.specs.Turns.{through}
use Rattle.mv_types.specs.declared.contents.Contents.{Contents}
use Rattle.mv_types.specs.declared.contents.Foreknown.{Foreknown}
use Rattle.mv_types.specs.Contents.{nothing_declared}
use Rattle.mv_types.specs.Foreknown.{foreknown}
use Rattle.mv_types.specs.Units.{item_judgement}
use Rattle.mv_accepts.specs.Numbers.Numbers.{AreJudged, IsPointerAt, ArePointers}
use Rattle.mv_accepts.specs.Statements.Bodies.{BodyGrows, ParametersFit}
use Rattle.mv_accepts.proofs.OfStatements.Judging.{of_good}
use Rattle.mv_accepts.proofs.OfStatements.Lists.{all_at, all_by, all_mapped, all_more, mapped_back}
use Rattle.mv_accepts.proofs.OfNumbers.DeclaredObjects.{Of, IsPointerIf, pointers_of as pointer_objects_of}
use Rattle.mv_accepts.proofs.OfNumbers.NameLists.{Different, among_here, among_kept, among_once, among_is, at_place, kept_different, name_itself, once_different, place_among}
use Rattle.mv_accepts.proofs.OfNumbers.Objects.{object_name}

module _ (items : List Item) where
  abbrev k : Foreknown
  k = foreknown items

  abbrev objects : List (List ℕ)
  objects = k.outline.objects

  known_objects : objects ≡ each_once (all_names wanted.Objects items)
  unfolding foreknown
  known_objects = refl

  known_pointers : k.outline.pointers ≡ among (outlined.names wanted.MarkedPointers items) objects
  unfolding foreknown
  known_pointers = refl

  abbrev is_marked : List ℕ → Bool
  is_marked name = is_among name (outlined.names wanted.MarkedPointers items)

  different : Different objects
  different = subst Different (sym known_objects) (once_different (all_names wanted.Objects items))

  pointers_are : k.outline.pointers ≡ filter is_marked objects
  pointers_are = known_pointers ∙ among_is (outlined.names wanted.MarkedPointers items) objects different

  -- a name that is marked is that of an object
  abbrev IsMarked : List ℕ → Type 0
  IsMarked name = (is_marked name ≡ true) × (is_among name objects ≡ true)

  marked : AllByRecursion IsMarked (filter is_marked objects)
  marked =
      all_by IsMarked (filter is_marked objects) (λ i n q.
      and_parts (is_marked n) (is_among n objects) (sym (among_kept is_marked n objects) ∙ among_here n (filter is_marked objects) i q))

  -- different names have different numbers
  same_number : (m n : List ℕ) → IsMarked m → IsMarked n → number_in objects m ≡ number_in objects n → m ≡ n
  same_number m n p q e =
      let x = place_among m objects different p.1 in
      let y = place_among n objects different q.1 in
      let same : x.0 ≡ y.0 = sym (ap (λ o. unwrap_or o 0) x.1) ∙ (e ∙ ap (λ o. unwrap_or o 0) y.1) in
      let u : Some m ≡ Some n = sym (at_place m objects x.0 x.1) ∙ (ap (slice_get objects) same ∙ at_place n objects y.0 y.1) in
      cc

  apart : (ns : List (List ℕ)) → Different ns → AllByRecursion IsMarked ns → AllPairs (λ g h. g ≢ h) (map (number_in objects) ns)
  apart [] d h = λ i j d less within. absurd (omega (arith, within))
  apart (n ∷ ns) d h =
      AllPairs-cons (λ g h. g ≢ h) (number_in objects n) (map (number_in objects) ns)
      (All-from_recursion (λ g. number_in objects n ≢ g) (map (number_in objects) ns)
      (all_mapped (λ g. number_in objects n ≢ g) (number_in objects) ns (others ns d.0 h.1)))
      (apart ns d.1 h.1)
    where
      no : (m : List ℕ) → same_name n m ≡ false → n ≡ m → ⊥
      no m q e = let u : true ≡ false = sym (name_itself n) ∙ (ap (same_name n) e ∙ q) in absurd (cc)

      others : (ms : List (List ℕ)) → AllByRecursion (λ m. same_name n m ≡ false) ms → AllByRecursion IsMarked ms →
          AllByRecursion (λ m. number_in objects n ≢ number_in objects m) ms
      others [] q r = tt
      others (m ∷ ms) q r = (λ e. no m q.0 (same_number n m h.0 r.0 e), others ms q.1 r.1)

  module _ (c : Contents) (named : map object_name c.objects ≡ objects)
      (pointed : AllByRecursion (λ o. IsPointerIf o (is_among (object_name o) (all_names wanted.MarkedPointers items))) c.objects) where
    one_at : (name : List ℕ) → IsMarked name → IsPointerAt c (number_in objects name)
    one_at name h =
        let x = place_among name objects different h.1 in
        let o = mapped_back object_name c.objects x.0 name (ap (λ ns. slice_get ns x.0) named ∙ at_place name objects x.0 x.1) in
        let is : is_among (object_name o.0) (all_names wanted.MarkedPointers items) ≡ true =
        ap (λ n. is_among n (all_names wanted.MarkedPointers items)) o.2 ∙ (sym (among_once name (all_names wanted.MarkedPointers items)) ∙ h.0) in
        let p = all_at (λ z. IsPointerIf z (is_among (object_name z) (all_names wanted.MarkedPointers items))) c.objects pointed x.0 o.0 o.1 is in
        record { object = o.0; there = ap (λ z. slice_get c.objects (unwrap_or z 0)) x.1 ∙ o.1; signature = p.0; ctype = p.1; scalar = p.2 }

    each : AllByRecursion (IsPointerAt c) (map (number_in objects) (filter is_marked objects))
    each =
        all_mapped (IsPointerAt c) (number_in objects) (filter is_marked objects)
        (all_more IsMarked (λ n. IsPointerAt c (number_in objects n)) one_at (filter is_marked objects) marked)

    pointers : ArePointers k c
    pointers = record {
      each = subst (λ ns. All (IsPointerAt c) (map (number_in objects) ns)) (sym pointers_are)
          (All-from_recursion (IsPointerAt c) (map (number_in objects) (filter is_marked objects)) each);
      different = subst (λ ns. AllPairs (λ g h. g ≢ h) (map (number_in objects) ns)) (sym pointers_are)
          (apart (filter is_marked objects) (kept_different is_marked objects different) marked);
    }

  pub pointers_counted : BodyGrows → ParametersFit → (c : Contents) → AreJudged items c → ArePointers k c
  pointers_counted bodies fit c q =
      let xs : List (List ℕ) = all_names wanted.Objects items in
      let ys : List (List ℕ) = all_names wanted.MarkedPointers items in
      let h = of_good (Of IsPointerIf k bodies fit xs ys) (through (item_judgement k) items (nothing_declared k)) (pointer_objects_of k bodies fit items) c q in
      pointers c (h.all ∙ sym known_objects) h.marked
