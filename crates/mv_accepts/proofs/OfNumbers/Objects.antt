-- The objects so far, by the names that are declared.
use Rattle.std.proofs.Common.{◌≡◌, ℕ, refl, sym, ◌∙◌, ap, ap₂, subst, ◌⊎◌, inl, inr, Bool, true, false, ◌&&◌, ◌||◌, if◌then◌else◌, List, [], ◌∷◌, ◌++◌, length, map, Option, Some, None, is_some, slice_get}
use Rattle.std.specs.Prelude.{slice_set}
use Rattle.std.proofs.Math.Bool.{or-false}
use Rattle.std.specs.List.{AllByRecursion}
use Rattle.std.proofs.lemmas.List.{append-nil, map-append}
use Rattle.std.proofs.lemmas.List.Sums.{fold-append}
use Rattle.mv_check_scope.specs.declared.meaning.Meaning.{Meaning}
use Rattle.mv_check_scope.specs.Names.{Names}
use Rattle.mv_check_scope.specs.Spaces.{named, or_else}
use Rattle.mv_check_scope.proofs.BoundNames.{named_last, names_kept}
use Rattle.mv_check_outline.specs.Names.{same_name, is_among, with_name, each_once}
use Rattle.mv_types.specs.declared.contents.Object.{Object}
use Rattle.mv_types.specs.Objects.{number_of, either_domain}
use Rattle.mv_accepts.proofs.OfStatements.Places.{keeps_more, there_before}
use Rattle.mv_accepts.proofs.OfStatements.Lists.{all_last, mapped_there, all_at, all_by, mapped_back}
use Rattle.mv_accepts.proofs.OfStatements.Names.{named_behind}
use Rattle.mv_accepts.proofs.OfNumbers.Lists.{set_there, set_same}
use Rattle.mv_accepts.proofs.OfNumbers.NameLists.{name_itself, name_is, among_last, among_here, among_once, once_different, place_there, standing}
use Rattle.mv_accepts.proofs.OfNumbers.Spaces.{Adds}
use Rattle.mv_num.proofs.Lists.{last_there}

abbrev pub object_name : Object → List ℕ
object_name o = o.global.name

-- The objects whose names are declared so far, in that order, and what being marked or not says of each. Their names mean them.
pub record AreObjects (R : Object → Bool → Type 0) (xs ys : List (List ℕ)) (space : Names) (objects : List Object) : Type 0 where
  pub means : (name : List ℕ) (m : Meaning) (n : ℕ) → named name space ≡ Some m → number_of m ≡ Some n → (o : Object) × (slice_get objects n ≡ Some o) × (object_name o ≡ name)
  pub have : (n : ℕ) (o : Object) → slice_get objects n ≡ Some o → is_some (named (object_name o) space) ≡ true
  pub all : map object_name objects ≡ each_once xs
  pub marked : AllByRecursion (λ o. R o (is_among (object_name o) ys)) objects
  pub among : (name : List ℕ) → is_among name ys ≡ true → is_among name xs ≡ true

pub no_objects : (R : Object → Bool → Type 0) → AreObjects R [] [] [] []
no_objects R = record {
  means = λ name m n h q. absurd (cc);
  have = λ n o h. absurd (cc);
  all = refl;
  marked = tt;
  among = λ name h. h;
}

abbrev no_meaning : Option Meaning
no_meaning = None

-- ---- other names

there : (o : Option Meaning) → is_some o ≡ true → (m : Meaning) × (o ≡ Some m)
there None h = absurd (cc)
there (Some m) h = (m, refl)

some_there : (o : Option Meaning) (m : Meaning) → o ≡ Some m → is_some o ≡ true
some_there o m h = ap is_some h

pub others_added : (R : Object → Bool → Type 0) (xs ys : List (List ℕ)) (space later : Names) (objects : List Object) → Adds space later → AreObjects R xs ys space objects →
    AreObjects R xs ys later objects
others_added R xs ys space later objects a h = record {
  means = λ name m n q r. means name m n r (a.new name m q);
  have = λ n o q. let x = there (named (object_name o) space) (h.have n o q) in some_there (named (object_name o) later) x.0 (a.kept (object_name o) x.0 x.1);
  all = h.all;
  marked = h.marked;
  among = h.among;
}
  where
    means : (name : List ℕ) (m : Meaning) (n : ℕ) → number_of m ≡ Some n → (named name space ≡ Some m) ⊎ (number_of m ≡ None) →
        (o : Object) × (slice_get objects n ≡ Some o) × (object_name o ≡ name)
    means name m n r (inl q) = h.means name m n q r
    means name m n r (inr q) = absurd (cc)

-- ---- names that are marked or not

abbrev pub if_marked : Bool → List ℕ → List (List ℕ)
if_marked mark name = if mark then name ∷ [] else []

among_marked : (n : List ℕ) (ys : List (List ℕ)) (mark : Bool) (name : List ℕ) → is_among n (ys ++ if_marked mark name) ≡ (is_among n ys || (mark && same_name n name))
among_marked n ys true name = among_last n ys name
among_marked n ys false name = ap (is_among n) (append-nil ys) ∙ sym (or-false (is_among n ys))

among_other : (n : List ℕ) (ys : List (List ℕ)) (mark : Bool) (name : List ℕ) → same_name n name ≡ false → is_among n (ys ++ if_marked mark name) ≡ is_among n ys
among_other n ys mark name h =
    among_marked n ys mark name ∙ (ap (λ b. is_among n ys || (mark && b)) h ∙ (ap (λ b. is_among n ys || b) (and_no mark) ∙ or-false (is_among n ys)))
  where
    and_no : (b : Bool) → (b && false) ≡ false
    and_no true = refl
    and_no false = refl

among_same : (ys : List (List ℕ)) (mark : Bool) (name : List ℕ) → is_among name (ys ++ if_marked mark name) ≡ (is_among name ys || mark)
among_same ys mark name =
    among_marked name ys mark name ∙ (ap (λ b. is_among name ys || (mark && b)) (name_itself name) ∙ ap (λ b. is_among name ys || b) (and_yes mark))
  where
    and_yes : (b : Bool) → (b && true) ≡ b
    and_yes true = refl
    and_yes false = refl

still_among : (xs ys : List (List ℕ)) (mark : Bool) (name n : List ℕ) → (is_among n ys ≡ true → is_among n xs ≡ true) →
    is_among n (ys ++ if_marked mark name) ≡ true → is_among n (xs ++ name ∷ []) ≡ true
still_among xs ys mark name n h q = among_last n xs name ∙ by (is_among n xs) (is_among n ys) mark (same_name n name) h (sym (among_marked n ys mark name) ∙ q)
  where
    by : (a b c d : Bool) → (b ≡ true → a ≡ true) → (b || (c && d)) ≡ true → (a || d) ≡ true
    by true b c d f r = refl
    by false true c d f r = absurd (let e : false ≡ true = f refl in cc)
    by false false true d f r = r
    by false false false d f r = absurd (cc)

once_last : (xs : List (List ℕ)) (name : List ℕ) → each_once (xs ++ name ∷ []) ≡ with_name (each_once xs) name
once_last xs name = fold-append with_name [] xs (name ∷ [])

pub either_some : (d e : Option (List ℕ)) → is_some (either_domain d e) ≡ (is_some d || is_some e)
either_some None e = refl
either_some (Some d) e = refl

-- ---- a new object

module _ (R : Object → Bool → Type 0) (xs ys : List (List ℕ)) (space : Names) (objects : List Object) (name : List ℕ) (h : AreObjects R xs ys space objects) where
  -- a name that means nothing yet is that of no object
  not_yet : named name space ≡ None → is_among name (each_once xs) ≡ false
  not_yet q = by (is_among name (each_once xs)) refl
    where
      clash : (i : ℕ) × (slice_get (each_once xs) i ≡ Some name) → ⊥
      clash x =
          let o = mapped_back object_name objects x.0 name (ap (λ ns. slice_get ns x.0) h.all ∙ x.1) in
          let e : is_some no_meaning ≡ true = ap is_some (sym q) ∙ (ap (λ n. is_some (named n space)) (sym o.2) ∙ h.have x.0 o.0 o.1) in
          absurd (cc)

      by : (b : Bool) → b ≡ is_among name (each_once xs) → is_among name (each_once xs) ≡ false
      by true r = absurd (clash (standing name (each_once xs) (sym r)))
      by false r = sym r

  unmarked : named name space ≡ None → is_among name ys ≡ false
  unmarked q = by (is_among name ys) refl
    where
      by : (b : Bool) → b ≡ is_among name ys → is_among name ys ≡ false
      by true r =
          let e : true ≡ false = sym (h.among name (sym r)) ∙ (sym (among_once name xs) ∙ not_yet q) in
          absurd (cc)
      by false r = sym r

  pub one_new : (m : Meaning) (o : Object) (mark : Bool) → named name space ≡ None → number_of m ≡ Some (length objects) → object_name o ≡ name → R o mark →
      AreObjects R (xs ++ name ∷ []) (ys ++ if_marked mark name) (space ++ (name, m) ∷ []) (objects ++ o ∷ [])
  one_new m o mark q number e is = record {
    means = λ n k i r s. means n k i s (named_behind n space name m k r);
    have = λ i x r. have i x (there_before objects o i x r);
    all = map-append object_name objects (o ∷ []) ∙ (ap₂ (λ ns n. ns ++ n ∷ []) h.all e ∙ (sym (ap (λ b. if b then each_once xs else each_once xs ++ name ∷ []) (not_yet q)) ∙ sym (once_last xs name)));
    marked = all_last (λ x. R x (is_among (object_name x) (ys ++ if_marked mark name))) objects o
        (all_by (λ x. R x (is_among (object_name x) (ys ++ if_marked mark name))) objects old)
        (subst (R o) (sym (among_same ys mark name ∙ ap (λ b. b || mark) (unmarked q)) ∙ ap (λ n. is_among n (ys ++ if_marked mark name)) (sym e)) is);
    among = λ n r. still_among xs ys mark name n (h.among n) r;
  }
    where
      means : (n : List ℕ) (k : Meaning) (i : ℕ) → number_of k ≡ Some i → (named n space ≡ Some k) ⊎ ((same_name n name ≡ true) × (m ≡ k)) →
          (x : Object) × (slice_get (objects ++ o ∷ []) i ≡ Some x) × (object_name x ≡ n)
      means n k i s (inl r) = let x = h.means n k i r s in (x.0, keeps_more objects (o ∷ []) i x.0 x.1, x.2)
      means n k i s (inr r) =
          let u : length objects ≡ i = (let v : Some (length objects) ≡ Some i = sym number ∙ (ap number_of r.1 ∙ s) in cc) in
          (o, ap (slice_get (objects ++ o ∷ [])) (sym u) ∙ last_there objects o, e ∙ sym (name_is n name r.0))

      here : is_some (named name (space ++ (name, m) ∷ [])) ≡ true
      here = ap is_some (named_last name space (name, m)) ∙ ap₂ (λ a b. is_some (or_else a (if b then Some m else None))) q (name_itself name)

      have : (i : ℕ) (x : Object) → (slice_get objects i ≡ Some x) ⊎ (o ≡ x) → is_some (named (object_name x) (space ++ (name, m) ∷ [])) ≡ true
      have i x (inl r) =
          let y = there (named (object_name x) space) (h.have i x r) in
          some_there (named (object_name x) (space ++ (name, m) ∷ [])) y.0 (names_kept (object_name x) space (name, m) y.0 y.1)
      have i x (inr r) =
          subst (λ z. is_some (named (object_name z) (space ++ (name, m) ∷ [])) ≡ true) r (ap (λ n. is_some (named n (space ++ (name, m) ∷ []))) e ∙ here)

      other : (i : ℕ) (x : Object) → slice_get objects i ≡ Some x → (b : Bool) → b ≡ same_name (object_name x) name → same_name (object_name x) name ≡ false
      other i x r false u = sym u
      other i x r true u =
          let at : slice_get (each_once xs) i ≡ Some name =
          ap (λ ns. slice_get ns i) (sym h.all) ∙ (mapped_there object_name objects i x r ∙ ap (λ n. Some n) (name_is (object_name x) name (sym u))) in
          let clash : true ≡ false = sym (among_here name (each_once xs) i at) ∙ not_yet q in
          absurd (cc)

      old : (i : ℕ) (x : Object) → slice_get objects i ≡ Some x → R x (is_among (object_name x) (ys ++ if_marked mark name))
      old i x r =
          subst (R x) (sym (among_other (object_name x) ys mark name (other i x r (same_name (object_name x) name) refl)))
          (all_at (λ z. R z (is_among (object_name z) ys)) objects h.marked i x r)

  -- ---- one more declaration of an object

  module _ (n : ℕ) (o : Object) (at : slice_get objects n ≡ Some o) (e : object_name o ≡ name) where
    known_there : slice_get (each_once xs) n ≡ Some name
    known_there = ap (λ ns. slice_get ns n) (sym h.all) ∙ (mapped_there object_name objects n o at ∙ ap (λ x. Some x) e)

    -- where one of the objects is replaced by one of its name
    module _ (new : Object) (same : object_name new ≡ object_name o) where
      names_same : map object_name (slice_set objects n new) ≡ map object_name objects
      names_same = set_same object_name objects n o new at same

      found : (i : ℕ) (x : Object) → slice_get objects i ≡ Some x → (y : Object) × (slice_get (slice_set objects n new) i ≡ Some y) × (object_name y ≡ object_name x)
      found i x q = mapped_back object_name (slice_set objects n new) i (object_name x) (ap (λ ns. slice_get ns i) names_same ∙ mapped_there object_name objects i x q)

      back : (i : ℕ) (y : Object) → slice_get (slice_set objects n new) i ≡ Some y → (x : Object) × (slice_get objects i ≡ Some x) × (object_name x ≡ object_name y)
      back i y q = mapped_back object_name objects i (object_name y) (ap (λ ns. slice_get ns i) (sym names_same) ∙ mapped_there object_name (slice_set objects n new) i y q)

      other_place : (i : ℕ) (x : Object) → slice_get objects i ≡ Some x → (n ≡ i → ⊥) → (b : Bool) → b ≡ same_name (object_name x) name → same_name (object_name x) name ≡ false
      other_place i x q apart false u = sym u
      other_place i x q apart true u =
          let there : slice_get (each_once xs) i ≡ Some name =
          ap (λ ns. slice_get ns i) (sym h.all) ∙ (mapped_there object_name objects i x q ∙ ap (λ z. Some z) (name_is (object_name x) name (sym u))) in
          let v : Some n ≡ Some i = sym (place_there (each_once xs) (once_different xs) n name known_there) ∙ place_there (each_once xs) (once_different xs) i name there in
          absurd (apart (cc))

      pub one_again : (mark : Bool) → ((b : Bool) → R o b → R new (b || mark)) →
          AreObjects R (xs ++ name ∷ []) (ys ++ if_marked mark name) space (slice_set objects n new)
      one_again mark is = record {
        means = λ m k i q r.
            let x = h.means m k i q r in
            let y = found i x.0 x.1 in
            (y.0, y.1, y.2 ∙ x.2);
        have = λ i y q. let x = back i y q in ap (λ m. is_some (named m space)) (sym x.2) ∙ h.have i x.0 x.1;
        all = names_same ∙ (h.all ∙ (sym (ap (λ b. if b then each_once xs else each_once xs ++ name ∷ []) (among_here name (each_once xs) n known_there)) ∙ sym (once_last xs name)));
        marked = all_by (λ x. R x (is_among (object_name x) (ys ++ if_marked mark name))) (slice_set objects n new) (λ i x q. by i x (set_there objects n new i x q));
        among = λ m q. still_among xs ys mark name m (h.among m) q;
      }
        where
          here : R new (is_among (object_name new) (ys ++ if_marked mark name))
          here =
              subst (R new)
              (ap (λ z. is_among z ys || mark) e ∙ (sym (among_same ys mark name) ∙ ap (λ z. is_among z (ys ++ if_marked mark name)) (sym (same ∙ e))))
              (is (is_among (object_name o) ys) (all_at (λ z. R z (is_among (object_name z) ys)) objects h.marked n o at))

          by : (i : ℕ) (x : Object) → ((slice_get objects i ≡ Some x) × (n ≡ i → ⊥)) ⊎ ((n ≡ i) × (new ≡ x)) → R x (is_among (object_name x) (ys ++ if_marked mark name))
          by i x (inl q) =
              subst (R x) (sym (among_other (object_name x) ys mark name (other_place i x q.0 q.1 (same_name (object_name x) name) refl)))
              (all_at (λ z. R z (is_among (object_name z) ys)) objects h.marked i x q.0)
          by i x (inr q) = subst (λ z. R z (is_among (object_name z) (ys ++ if_marked mark name))) q.1 here
