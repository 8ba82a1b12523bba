-- Lemmas on lists that the crates above share.
use Rattle.std.proofs.Common.{◌≡◌, ℕ, zero, suc, ◌+◌, List, [], ◌∷◌, ◌++◌, Some, slice_get, ◌<◌, length, refl, ◌∙◌, ap, arith, set, ◌≢◌, Bool, true, false, ltb, get_or, map, subst, slice_set, ◌≤◌, zero-add, suc-add, Contains}
use Rattle.std.specs.Prelude.{slice_index, slice_index_or, sum, All}
use Rattle.std.specs.List.{position, position_or_len}
use Rattle.std.proofs.lemmas.Bool.{lt-ltb}
use Rattle.std.proofs.lemmas.List.Sums.{position_or_len_is, sum_by-cons, sum_by-append}
use Rattle.std.proofs.lemmas.List.Elements.{All-contains, All-contains_itself, All-weaker}

pub slice_get_left : {X : Type 0} (xs ys : List X) (i : ℕ) (x : X) → slice_get xs i ≡ Some x → slice_get (xs ++ ys) i ≡ Some x
slice_get_left [] ys i x e = absurd (cc e)
slice_get_left (z ∷ xs) ys zero x e = e
slice_get_left (z ∷ xs) ys (suc i) x e = slice_get_left xs ys i x e

pub same_lists : (xs ys : List ℕ) → length xs ≡ length ys → ((i : ℕ) → i < length xs → slice_index xs i ≡ slice_index ys i) → xs ≡ ys
same_lists [] [] e h = refl
same_lists [] (y ∷ ys) e h = absurd (omega (arith, e))
same_lists (x ∷ xs) [] e h = absurd (omega (arith, e))
same_lists (x ∷ xs) (y ∷ ys) e h = ap (λ z. z ∷ xs) (h 0 (omega arith)) ∙ ap (λ l. y ∷ l) (same_lists xs ys (omega (arith, e)) (λ i lt. h (suc i) (omega (arith, lt))))

pub get_set_same : (xs : List ℕ) (k v w : ℕ) → slice_get xs k ≡ Some w → slice_get (set xs k v) k ≡ Some v
get_set_same [] k v w h = absurd (cc)
get_set_same (x ∷ xs) zero v w h = refl
get_set_same (x ∷ xs) (suc k) v w h = get_set_same xs k v w h

pub get_set_other : (xs : List ℕ) (k j v : ℕ) → j ≢ k → slice_get (set xs k v) j ≡ slice_get xs j
get_set_other [] k j v ne = refl
get_set_other (x ∷ xs) zero zero v ne = absurd (ne refl)
get_set_other (x ∷ xs) zero (suc j) v ne = refl
get_set_other (x ∷ xs) (suc k) zero v ne = refl
get_set_other (x ∷ xs) (suc k) (suc j) v ne = get_set_other xs k j v (λ e. ne (ap suc e))

pub position_at : {R : Type 0} (test : R → Bool) (rows : List R) (k : ℕ) (d : R) → k < length rows → ((i : ℕ) → i < k → test (get_or rows i d) ≡ false) → test (get_or rows k d) ≡ true → position test rows ≡ Some k
position_at test rows k d lt before here =
    let at : position_or_len test rows ≡ k = position_or_len_is test rows k d (omega arith) before (λ h. here) in
    let t : ltb k (length rows) ≡ true = lt-ltb _ _ lt in
    rw (at, t) refl

pub length_map : {A B : Type 0} (f : A → B) (xs : List A) → length (map f xs) ≡ length xs
length_map f [] = refl
length_map f (x ∷ xs) = ap suc (length_map f xs)

pub slice_get_right : {X : Type 0} (xs ys : List X) (i : ℕ) (x : X) → slice_get ys i ≡ Some x → slice_get (xs ++ ys) (length xs + i) ≡ Some x
slice_get_right [] ys i x e = let none : i ≡ 0 + i = omega arith in subst (λ k. slice_get ys k ≡ Some x) none e
slice_get_right (z ∷ xs) ys i x e =
    let one : suc (length xs + i) ≡ suc (length xs) + i = omega arith in subst (λ k. slice_get (z ∷ (xs ++ ys)) k ≡ Some x) one (slice_get_right xs ys i x e)

pub set_there : {A : Type 0} (xs : List A) (n : ℕ) (x y : A) → slice_get xs n ≡ Some x → slice_get (slice_set xs n y) n ≡ Some y
set_there [] n x y h = absurd (cc)
set_there (z ∷ zs) zero x y h = refl
set_there (z ∷ zs) (suc n) x y h = set_there zs n x y h

pub index_left : (xs ys : List ℕ) (i : ℕ) → i < length xs → slice_index (xs ++ ys) i ≡ slice_index xs i
index_left [] ys i lt = absurd (omega (arith, lt))
index_left (x ∷ xs) ys zero lt = refl
index_left (x ∷ xs) ys (suc i) lt = index_left xs ys i (omega (arith, lt))

pub index_beyond : (xs : List (List ℕ)) (l : ℕ) → length xs ≤ l → slice_index_or xs l [] ≡ []
index_beyond [] l le = refl
index_beyond (x ∷ xs) zero le = absurd (omega (arith, le))
index_beyond (x ∷ xs) (suc l) le = index_beyond xs l (omega (arith, le))

pub there_at : {X : Type 0} (xs : List X) (i : ℕ) → i < length xs → (x : X) × (slice_get xs i ≡ Some x)
there_at [] i h = absurd (omega (arith, h))
there_at (x ∷ xs) zero h = (x, refl)
there_at (x ∷ xs) (suc i) h = there_at xs i (omega (arith, h))

pub last_there : {A : Type 0} (xs : List A) (x : A) → slice_get (xs ++ x ∷ []) (length xs) ≡ Some x
last_there [] x = refl
last_there (z ∷ zs) x = last_there zs x

pub get_right : {X : Type 0} (xs ys : List X) (j : ℕ) → slice_get (xs ++ ys) (length xs + j) ≡ slice_get ys j
get_right [] ys j = rw zero-add refl
get_right (x ∷ xs) ys j = rw suc-add (get_right xs ys j)

pub sum_cons : (n : ℕ) (ns : List ℕ) → sum (n ∷ ns) ≡ n + sum ns
sum_cons n ns = sum_by-cons (λ x. x) n ns

pub all_tail : {A : Type 0} (P : A → Type 0) (x : A) (xs : List A) → All P (x ∷ xs) → All P xs
all_tail P x xs h k d lt = h (suc k) d (omega (arith, lt))

pub all_head : {A : Type 0} (P : A → Type 0) (x : A) (xs : List A) → All P (x ∷ xs) → P x
all_head P x xs h = h 0 x (omega arith)

pub sum_append : (xs ys : List ℕ) → sum (xs ++ ys) ≡ sum xs + sum ys
sum_append xs ys = sum_by-append (λ x. x) xs ys

pub contains_all : {A : Type 0} (P : A → Type 0) (xs ys : List A) → ((x : A) → Contains ys x → Contains xs x) → All P xs → All P ys
contains_all P xs ys h all = All-weaker (Contains ys) P (λ x c. All-contains P xs x all (h x c)) ys (All-contains_itself ys)
