-- Lists of names: what is among them, and the place of a name where each stands once.
use Rattle.std.proofs.Common.{◌≡◌, ℕ, zero, suc, refl, sym, ◌∙◌, ap, ap₂, subst, Bool, true, false, ◌||◌, ◌&&◌, not, cond, nat_lt, ◌<◌, if◌then◌else◌, List, [], ◌∷◌, ◌++◌, length, filter, Some, None, slice_get, get_or, ◌+◌, arith, Option}
use Rattle.std.proofs.Math.Bool.{or-false, or-true, or_assoc}
use Rattle.std.specs.List.{AllByRecursion, position_or_len}
use Rattle.std.specs.Cmp.Lexicographic.{same_text}
use Rattle.std.proofs.lemmas.Bool.{lt-ltb}
use Rattle.std.proofs.lemmas.Cmp.{nat_list_eq_equiv}
use Rattle.std.proofs.lemmas.List.{append_assoc, append-nil}
use Rattle.std.proofs.lemmas.List.Folds.{list_any-append}
use Rattle.std.proofs.lemmas.List.Quantifiers.{position-Some}
use Rattle.std.proofs.lemmas.Map.Views.{any-filter_same}
use Rattle.std.proofs.lemmas.Option.{slice_get-get_or, slice_get_within}
use Rattle.mv_check_outline.specs.Names.{same_name, is_among, with_name, with_names, each_once, place_of, among}
use Rattle.mv_accepts.proofs.OfNumbers.Lists.{all_kept}

-- ---- one name

pub name_itself : (n : List ℕ) → same_name n n ≡ true
name_itself = nat_list_eq_equiv.refl

pub name_is : (m n : List ℕ) → same_name m n ≡ true → m ≡ n
name_is m n h = same_text m n (sym h)

other_way : (m n : List ℕ) → same_name m n ≡ same_name n m
other_way = nat_list_eq_equiv.symm

abbrev pub or_nothing : Option (List ℕ) → List ℕ
or_nothing None = []
or_nothing (Some name) = name

-- ---- what is among some names

-- whether a name is among some, or is one more
pub among_last : (n : List ℕ) (ns : List (List ℕ)) (m : List ℕ) → is_among n (ns ++ m ∷ []) ≡ (is_among n ns || same_name n m)
among_last n ns m = list_any-append (same_name n) ns (m ∷ []) ∙ ap (λ b. is_among n ns || b) (or-false (same_name n m))

pub among_more : (n : List ℕ) (ms ns : List (List ℕ)) → is_among n ms ≡ true → is_among n (ms ++ ns) ≡ true
among_more n ms ns h = list_any-append (same_name n) ms ns ∙ ap (λ b. b || is_among n ns) h

pub among_later : (n : List ℕ) (ms ns : List (List ℕ)) → is_among n ns ≡ true → is_among n (ms ++ ns) ≡ true
among_later n ms ns h = list_any-append (same_name n) ms ns ∙ (ap (λ b. is_among n ms || b) h ∙ or-true (is_among n ms))

pub among_here : (n : List ℕ) (ns : List (List ℕ)) (i : ℕ) → slice_get ns i ≡ Some n → is_among n ns ≡ true
among_here n [] i h = absurd (cc)
among_here n (m ∷ ms) zero h = let q : m ≡ n = cc in ap (λ x. same_name n x || is_among n ms) q ∙ ap (λ b. b || is_among n ms) (name_itself n)
among_here n (m ∷ ms) (suc i) h = ap (λ b. same_name n m || b) (among_here n ms i h) ∙ or-true (same_name n m)

among_with : (n : List ℕ) (ns : List (List ℕ)) (m : List ℕ) → is_among n (with_name ns m) ≡ (is_among n ns || same_name n m)
among_with n ns m = by (is_among m ns) refl
  where
    known : is_among m ns ≡ true → (c : Bool) → c ≡ same_name n m → is_among n ns ≡ (is_among n ns || c)
    known q true e = subst (λ x. is_among x ns ≡ true) (sym (name_is n m (sym e))) q ∙ sym (or-true (is_among n ns))
    known q false e = sym (or-false (is_among n ns))

    by : (b : Bool) → b ≡ is_among m ns → is_among n (if b then ns else ns ++ m ∷ []) ≡ (is_among n ns || same_name n m)
    by true q = known (sym q) (same_name n m) refl
    by false q = among_last n ns m

among_all : (n : List ℕ) (old new : List (List ℕ)) → is_among n (with_names old new) ≡ (is_among n old || is_among n new)
among_all n old [] = sym (or-false (is_among n old))
among_all n old (m ∷ ms) =
    among_all n (with_name old m) ms ∙ (ap (λ b. b || is_among n ms) (among_with n old m) ∙ or_assoc (is_among n old) (same_name n m) (is_among n ms))

pub among_once : (n : List ℕ) (ns : List (List ℕ)) → is_among n (each_once ns) ≡ is_among n ns
among_once n ns = among_all n [] ns

pub among_kept : (p : List ℕ → Bool) (n : List ℕ) (ns : List (List ℕ)) → is_among n (filter p ns) ≡ (p n && is_among n ns)
among_kept p n ns = any-filter_same (same_name n) p (p n) (λ m q. ap p (sym (name_is n m q))) ns

-- ---- names of which each stands once

abbrev IsOther : List ℕ → List ℕ → Type 0
IsOther m n = same_name m n ≡ false

abbrev pub Different : List (List ℕ) → Type 0
Different [] = Unit {0}
Different (n ∷ ns) = AllByRecursion (IsOther n) ns × Different ns

others : (n : List ℕ) (ns : List (List ℕ)) → is_among n ns ≡ false → AllByRecursion (IsOther n) ns
others n [] h = tt
others n (m ∷ ms) h = by (same_name n m) refl (others n ms) h
  where
    by : (b : Bool) → b ≡ same_name n m → (is_among n ms ≡ false → AllByRecursion (IsOther n) ms) → (b || is_among n ms) ≡ false → AllByRecursion (IsOther n) (m ∷ ms)
    by true q rest r = absurd (cc)
    by false q rest r = (sym q, rest r)

last_other : (m : List ℕ) (ns : List (List ℕ)) (n : List ℕ) → AllByRecursion (IsOther m) ns → IsOther m n → AllByRecursion (IsOther m) (ns ++ n ∷ [])
last_other m [] n h k = (k, tt)
last_other m (x ∷ xs) n h k = (h.0, last_other m xs n h.1 k)

last_different : (ns : List (List ℕ)) (n : List ℕ) → Different ns → AllByRecursion (IsOther n) ns → Different (ns ++ n ∷ [])
last_different [] n h k = (tt, tt)
last_different (m ∷ ms) n h k = (last_other m ms n h.0 (other_way m n ∙ k.0), last_different ms n h.1 k.1)

with_different : (ns : List (List ℕ)) (n : List ℕ) → Different ns → Different (with_name ns n)
with_different ns n h = by (is_among n ns) refl
  where
    by : (b : Bool) → b ≡ is_among n ns → Different (if b then ns else ns ++ n ∷ [])
    by true q = h
    by false q = last_different ns n h (others n ns (sym q))

all_different : (old new : List (List ℕ)) → Different old → Different (with_names old new)
all_different old [] h = h
all_different old (n ∷ ns) h = all_different (with_name old n) ns (with_different old n h)

pub once_different : (ns : List (List ℕ)) → Different (each_once ns)
once_different ns = all_different [] ns tt

pub kept_different : (p : List ℕ → Bool) (ns : List (List ℕ)) → Different ns → Different (filter p ns)
kept_different p [] h = tt
kept_different p (n ∷ ns) h = by (p n) (kept_different p ns h.1)
  where
    by : (b : Bool) → Different (filter p ns) → Different (if b then n ∷ filter p ns else filter p ns)
    by true rest = (all_kept (IsOther n) p ns h.0, rest)
    by false rest = rest

-- ---- different names are each there once already

abbrev AreNew : List (List ℕ) → List (List ℕ) → Type 0
AreNew old new = AllByRecursion (λ n. is_among n old ≡ false) new

still_new : (old : List (List ℕ)) (m : List ℕ) (ns : List (List ℕ)) → AllByRecursion (IsOther m) ns → AreNew old ns → AreNew (old ++ m ∷ []) ns
still_new old m [] h k = tt
still_new old m (n ∷ ns) h k = (among_last n old m ∙ ap₂ (λ b c. b || c) k.0 (other_way n m ∙ h.0), still_new old m ns h.1 k.1)

once_more : (old new : List (List ℕ)) → Different new → AreNew old new → with_names old new ≡ old ++ new
once_more old [] h k = sym (append-nil old)
once_more old (n ∷ ns) h k =
    ap (λ b. with_names (if b then old else old ++ n ∷ []) ns) k.0 ∙
    (once_more (old ++ n ∷ []) ns h.1 (still_new old n ns h.0 k.1) ∙ append_assoc old (n ∷ []) ns)

none_old : (ns : List (List ℕ)) → AreNew [] ns
none_old [] = tt
none_old (n ∷ ns) = (refl, none_old ns)

once_already : (ns : List (List ℕ)) → Different ns → each_once ns ≡ ns
once_already ns h = once_more [] ns h (none_old ns)

-- those of different names that stand among others
pub among_is : (os ns : List (List ℕ)) → Different ns → among os ns ≡ filter (λ n. is_among n os) ns
among_is os ns h = once_already (filter (λ n. is_among n os) ns) (kept_different (λ n. is_among n os) ns h)

pub among_different : (os ns : List (List ℕ)) → Different (among os ns)
among_different os ns = once_different (filter (λ n. is_among n os) ns)

-- ---- places

-- a name stands at its place
pub at_place : (n : List ℕ) (ns : List (List ℕ)) (i : ℕ) → place_of n ns ≡ Some i → slice_get ns i ≡ Some n
at_place n ns i h =
    let q = position-Some (same_name n) ns i [] h in
    slice_get-get_or ns i [] q.0 ∙ ap (λ x. Some x) (sym (name_is n (get_or ns i []) q.1))

other_there : (m : List ℕ) (ns : List (List ℕ)) (i : ℕ) (n : List ℕ) → AllByRecursion (IsOther m) ns → slice_get ns i ≡ Some n → same_name n m ≡ false
other_there m [] i n h q = absurd (cc)
other_there m (x ∷ xs) zero n h q = let e : x ≡ n = cc in other_way n m ∙ (ap (same_name m) (sym e) ∙ h.0)
other_there m (x ∷ xs) (suc i) n h q = other_there m xs i n h.1 q

first_at : (ns : List (List ℕ)) → Different ns → (i : ℕ) (n : List ℕ) → slice_get ns i ≡ Some n → position_or_len (same_name n) ns ≡ i
first_at [] h i n q = absurd (cc)
first_at (m ∷ ms) h zero n q =
    let e : m ≡ n = cc in
    ap (λ b. cond (not b) (1 + position_or_len (same_name n) ms) 0) (ap (same_name n) e ∙ name_itself n)
first_at (m ∷ ms) h (suc i) n q =
    ap (λ b. cond (not b) (1 + position_or_len (same_name n) ms) 0) (other_there m ms i n h.0 q) ∙
    (ap (λ j. 1 + j) (first_at ms h.1 i n q) ∙ omega arith)

place_by : (n : List ℕ) (ns : List (List ℕ)) (i : ℕ) → i < length ns → position_or_len (same_name n) ns ≡ i → place_of n ns ≡ Some i
place_by n ns i lt e = by (position_or_len (same_name n) ns) e
  where
    by : (j : ℕ) → j ≡ i → cond (nat_lt j (length ns)) (Some j) None ≡ Some i
    by j q = ap (λ k. cond (nat_lt k (length ns)) (Some k) None) q ∙ ap (λ b. cond b (Some i) None) (lt-ltb i (length ns) lt)

-- where each stands once, a name has the place at which it stands
pub place_there : (ns : List (List ℕ)) → Different ns → (i : ℕ) (n : List ℕ) → slice_get ns i ≡ Some n → place_of n ns ≡ Some i
place_there ns h i n q = place_by n ns i (slice_get_within ns i n q) (first_at ns h i n q)

-- what is among some names has a place there
pub standing : (n : List ℕ) (ns : List (List ℕ)) → is_among n ns ≡ true → (i : ℕ) × (slice_get ns i ≡ Some n)
standing n [] h = absurd (cc)
standing n (m ∷ ms) h = by (same_name n m) refl (standing n ms) h
  where
    more : (i : ℕ) × (slice_get ms i ≡ Some n) → (i : ℕ) × (slice_get (m ∷ ms) i ≡ Some n)
    more x = (suc x.0, x.1)

    by : (b : Bool) → b ≡ same_name n m → (is_among n ms ≡ true → (i : ℕ) × (slice_get ms i ≡ Some n)) → (b || is_among n ms) ≡ true → (i : ℕ) × (slice_get (m ∷ ms) i ≡ Some n)
    by true q rest r = (zero, ap (λ x. Some x) (sym (name_is n m (sym q))))
    by false q rest r = more (rest r)

pub place_among : (n : List ℕ) (ns : List (List ℕ)) → Different ns → is_among n ns ≡ true → (i : ℕ) × (place_of n ns ≡ Some i)
place_among n ns d h = let x = standing n ns h in (x.0, place_there ns d x.0 n x.1)
