-- The search for the needed temporaries finds exactly these.
use Rattle.std.proofs.Common.{arith, max, is_lt, nat_cmp, Less, Equal, Greater, nat_lt, ◌==◌, ◌≡◌, ℕ, zero, suc, ◌+◌, ◌<◌, ◌≤◌, Bool, true, false, cond, eqb, ◌&&◌, List, [], ◌∷◌, ◌++◌, length, map, take, set, get_or, Option, Some, None, refl, sym, ◌∙◌, ap, subst, ◌⊎◌, inl, inr, All, Contains, filter, sum_by, replicate, append_assoc}
use Rattle.std.proofs.lemmas.Bool.{cases_eq, cases_lt, or_right, or_left, eq-eqb}
use Rattle.std.proofs.lemmas.List.{get_or_past, take_more, take_all, length_push, length-set, get_or-set_same, get_or-set_other, length-replicate, get_or-replicate, length-append, take-append-le}
use Rattle.std.proofs.lemmas.List.Elements.{All-more, All-map, All-weaker, All-filter, Contains-push_cases, Contains-append_left, Contains-push, Contains-get_or}
use Rattle.std.proofs.lemmas.List.Sums.{sum_by-le, sum_by-set}
use Rattle.std.specs.Ordering.{ord_max}
use Rattle.mv_num.specs.Words.{as_word}
use Rattle.mv_ir.proofs.Common.{truth_small}
use Rattle.mv_fold.specs.declared.uses.Use.{Use}
use Rattle.mv_fold.specs.Needed.{counts, used_in, IsNeeded}
use Rattle.mv_fold.specs.Reaching.{row, Fits, read_by, IsReached, IsVisited}
use Rattle.mv_num.proofs.Booleans.{or_cases, and_cases, same_bools}
use Rattle.std.proofs.lemmas.Map.Views.{exact_unsigned_eq}
use Rattle.mv_ast.specs.Flags.{is_set}

-- ---- what is used, by what is read for each row

-- the search after the rows of the body and of the first so many reached temporaries
pub record IsSearched (count : ℕ) (uses : List Use) (flags : List Bool) (order : List ℕ) (next : ℕ) : Type 0 where
  pub reached : IsReached flags order
  pub long : length flags ≡ count
  pub below : next ≤ length order
  pub body : (t : ℕ) → Contains (read_by 0 uses) t → is_set flags t ≡ true
  pub closed : (u t : ℕ) → Contains (take next order) u → Contains (read_by (u + 1) uses) t → is_set flags t ≡ true
  pub justified : (t : ℕ) → is_set flags t ≡ true → used_in (is_set flags) uses t ≡ true

pub eqb_self : (n : ℕ) → eqb n n ≡ true
eqb_self n = grind arith

none_contained : (t : ℕ) → Contains [] t → ⊥
none_contained t h = let lt : h.0 < 0 = h.1 in omega arith

cons_cases : (y : ℕ) (ys : List ℕ) (t : ℕ) → Contains (y ∷ ys) t → (y ≡ t) ⊎ Contains ys t
cons_cases y ys t (zero, lt, e) = inl e
cons_cases y ys t (suc k, lt, e) = inr (k, omega (arith, lt), e)

pub cons_head : (y : ℕ) (ys : List ℕ) (t : ℕ) → y ≡ t → Contains (y ∷ ys) t
cons_head y ys t e = (0, omega arith, e)

pub cons_tail : (y : ℕ) (ys : List ℕ) (t : ℕ) → Contains ys t → Contains (y ∷ ys) t
cons_tail y ys t (k, lt, e) = (suc k, omega (arith, lt), e)

-- the row of one read more
abbrev used_of : Use → ℕ
used_of x = x.used

read_head : (k : ℕ) (x : Use) (xs : List Use) (c : Bool) → eqb (row x.user) k ≡ c → c ≡ true → Contains (read_by k (x ∷ xs)) x.used
read_head k x xs c e h = subst (λ b. Contains (map used_of (cond b (x ∷ filter (λ y. eqb (row y.user) k) xs) (filter (λ y. eqb (row y.user) k) xs))) x.used) (sym (e ∙ h)) (cons_head x.used (read_by k xs) x.used refl)

read_tail : (k : ℕ) (x : Use) (xs : List Use) (t : ℕ) → Contains (read_by k xs) t → Contains (read_by k (x ∷ xs)) t
read_tail k x xs t h = by (eqb (row x.user) k)
  where
    by : (c : Bool) → Contains (map used_of (cond c (x ∷ filter (λ y. eqb (row y.user) k) xs) (filter (λ y. eqb (row y.user) k) xs))) t
    by true = cons_tail x.used (read_by k xs) t h
    by false = h

-- what is read for a row that counts is used
used_from_read : (f : ℕ → Bool) (k : ℕ) (uses : List Use) (t : ℕ) → ((user : Option ℕ) → row user ≡ k → counts f user ≡ true) → Contains (read_by k uses) t → used_in f uses t ≡ true
used_from_read f k [] t every h = absurd (none_contained t h)
used_from_read f k (x ∷ xs) t every h = by (used_from_read f k xs t every) (eqb (row x.user) k) refl h
  where
    first : (x.used ≡ t) → counts f x.user ≡ true → used_in f (x ∷ xs) t ≡ true
    first e c = or_left _ _ (ap (λ b. b && eqb x.used t) c ∙ eq-eqb x.used t e)

    at : (Contains (read_by k xs) t → used_in f xs t ≡ true) → eqb (row x.user) k ≡ true → (x.used ≡ t) ⊎ Contains (read_by k xs) t → used_in f (x ∷ xs) t ≡ true
    at more e (inl same) = first same (every x.user (exact_unsigned_eq (row x.user) k e))
    at more e (inr there) = or_right _ _ (more there)

    by : (Contains (read_by k xs) t → used_in f xs t ≡ true) → (c : Bool) → eqb (row x.user) k ≡ c →
        Contains (map used_of (cond c (x ∷ filter (λ y. eqb (row y.user) k) xs) (filter (λ y. eqb (row y.user) k) xs))) t → used_in f (x ∷ xs) t ≡ true
    by more true e h = at more e (cons_cases x.used (read_by k xs) t h)
    by more false e h = or_right _ _ (more h)

abbrev Read : (ℕ → Bool) → List Use → ℕ → Type 0
Read f uses t = Contains (read_by 0 uses) t ⊎ ((u : ℕ) × (f u ≡ true) × Contains (read_by (u + 1) uses) t)

-- what is used is read for a row that counts
read_from_used : (f : ℕ → Bool) (uses : List Use) (t : ℕ) → used_in f uses t ≡ true → Read f uses t
read_from_used f [] t h = let e : false ≡ true = h in absurd (cc)
read_from_used f (x ∷ xs) t h = by (read_from_used f xs t) (or_cases _ _ h)
  where
    more : Read f xs t → Read f (x ∷ xs) t
    more (inl there) = inl (read_tail 0 x xs t there)
    more (inr (u, c, there)) = inr (u, c, read_tail (u + 1) x xs t there)

    at : (user : Option ℕ) → x.user ≡ user → counts f user ≡ true → x.used ≡ t → Read f (x ∷ xs) t
    at None e c same = inl (subst (Contains (read_by 0 (x ∷ xs))) same (read_head 0 x xs _ (ap (λ r. eqb (row r) 0) e) (eqb_self 0)))
    at (Some u) e c same = inr (u, c, subst (Contains (read_by (u + 1) (x ∷ xs))) same (read_head (u + 1) x xs _ (ap (λ r. eqb (row r) (u + 1)) e) (eqb_self (u + 1))))

    by : (used_in f xs t ≡ true → Read f xs t) → ((counts f x.user && eqb x.used t) ≡ true) ⊎ (used_in f xs t ≡ true) → Read f (x ∷ xs) t
    by behind (inl both) = let parts = and_cases (counts f x.user) (eqb x.used t) both in at x.user refl parts.0 (exact_unsigned_eq x.used t parts.1)
    by behind (inr rest) = more (behind rest)

counts_grows : (f g : ℕ → Bool) → ((t : ℕ) → f t ≡ true → g t ≡ true) → (user : Option ℕ) → counts f user ≡ true → counts g user ≡ true
counts_grows f g h None c = refl
counts_grows f g h (Some t) c = h t c

used_grows : (f g : ℕ → Bool) → ((t : ℕ) → f t ≡ true → g t ≡ true) → (uses : List Use) (t : ℕ) → used_in f uses t ≡ true → used_in g uses t ≡ true
used_grows f g h [] t e = e
used_grows f g h (x ∷ xs) t e = by (used_grows f g h xs t) (or_cases _ _ e)
  where
    by : (used_in f xs t ≡ true → used_in g xs t ≡ true) → ((counts f x.user && eqb x.used t) ≡ true) ⊎ (used_in f xs t ≡ true) → used_in g (x ∷ xs) t ≡ true
    by behind (inl both) =
        let parts = and_cases (counts f x.user) (eqb x.used t) both in
        or_left _ _ (ap (λ b. b && eqb x.used t) (counts_grows f g h x.user parts.0) ∙ parts.1)
    by behind (inr rest) = or_right _ _ (behind rest)

-- ---- tables

-- what is flagged stands in the table
pub flagged_below : (flags : List Bool) (t : ℕ) → is_set flags t ≡ true → t < length flags
flagged_below flags t h = by (cases_lt t (length flags))
  where
    by : (t < length flags) ⊎ (length flags ≤ t) → t < length flags
    by (inl lt) = lt
    by (inr past) = let e : false ≡ true = sym (get_or_past flags t false past) ∙ h in absurd (cc)

-- as many as are flagged are at most all
flags_at_most : (flags : List Bool) → sum_by as_word flags ≤ length flags
flags_at_most flags = omega (arith, sum_by-le as_word 1 flags (λ k d lt. truth_small (get_or flags k d)))

-- what is read stands in the table
pub read_fits : (n k : ℕ) (uses : List Use) → All (Fits n) uses → All (λ t. t < n) (read_by k uses)
read_fits n k uses h = All-map (λ t. t < n) used_of (filter (λ x. eqb (row x.user) k) uses) (All-weaker (Fits n) (λ x. x.used < n) (λ x p. p.0) _ (All-filter (λ x. eqb (row x.user) k) (Fits n) uses h))

-- ---- one visit

module _ (read : List ℕ) (i d : ℕ) (lt : i < length read) (first : List Bool) (before : List ℕ) (flags : List Bool) (order : List ℕ) (h : IsVisited (take i read) first before flags order) where
  abbrev x : ℕ
  x = get_or read i d

  one_more : (t : ℕ) → Contains (take (i + 1) read) t → Contains (take i read) t ⊎ (x ≡ t)
  one_more t c = Contains-push_cases (take i read) x t (subst (λ l. Contains l t) (take_more read i d lt) c)

  still : (t : ℕ) → Contains (take i read) t → Contains (take (i + 1) read) t
  still t c = subst (λ l. Contains l t) (sym (take_more read i d lt)) (Contains-append_left (take i read) (x ∷ []) t c)

  itself : Contains (take (i + 1) read) x
  itself = subst (λ l. Contains l x) (sym (take_more read i d lt)) (Contains-push (take i read) x)

  -- it was flagged already
  pub visited_again : is_set flags x ≡ true → IsVisited (take (i + 1) read) first before flags order
  visited_again e = record {
    reached = h.reached;
    long = h.long;
    behind = h.behind;
    kept = h.kept;
    found = λ t c. there t (one_more t c);
    only = λ t f. only t (h.only t f);
  }
    where
      there : (t : ℕ) → Contains (take i read) t ⊎ (x ≡ t) → is_set flags t ≡ true
      there t (inl c) = h.found t c
      there t (inr same) = subst (λ n. is_set flags n ≡ true) same e

      only : (t : ℕ) → (is_set first t ≡ true) ⊎ Contains (take i read) t → (is_set first t ≡ true) ⊎ Contains (take (i + 1) read) t
      only t (inl f) = inl f
      only t (inr c) = inr (still t c)

  -- it is flagged now
  pub visited_now : x < length flags → is_set flags x ≡ false → IsVisited (take (i + 1) read) first before (set flags x true) (order ++ x ∷ [])
  visited_now within e = record {
    reached = record {
      listed = λ t f. listed t (cases_eq t x) f;
      flagged = λ t c. flagged t (Contains-push_cases order x t c);
      counted = omega (arith, sum_by-set as_word flags x true false within, ap as_word e, h.reached.counted, length_push order x);
    };
    long = length-set flags x true ∙ h.long;
    behind = (h.behind.0 ++ x ∷ [], ap (λ l. l ++ x ∷ []) h.behind.1 ∙ append_assoc before h.behind.0 (x ∷ []));
    kept = λ t f. grows t (h.kept t f);
    found = λ t c. there t (one_more t c);
    only = λ t f. only t (cases_eq t x) f;
  }
    where
      now : is_set (set flags x true) x ≡ true
      now = get_or-set_same flags x true false within

      grows : (t : ℕ) → is_set flags t ≡ true → is_set (set flags x true) t ≡ true
      grows t f = by (cases_eq t x)
        where
          by : (t ≡ x) ⊎ (t ≡ x → ⊥) → is_set (set flags x true) t ≡ true
          by (inl same) = subst (λ n. is_set (set flags x true) n ≡ true) (sym same) now
          by (inr other) = get_or-set_other flags x t true false other ∙ f

      listed : (t : ℕ) → (t ≡ x) ⊎ (t ≡ x → ⊥) → is_set (set flags x true) t ≡ true → Contains (order ++ x ∷ []) t
      listed t (inl same) f = subst (Contains (order ++ x ∷ [])) (sym same) (Contains-push order x)
      listed t (inr other) f = Contains-append_left order (x ∷ []) t (h.reached.listed t (sym (get_or-set_other flags x t true false other) ∙ f))

      flagged : (t : ℕ) → Contains order t ⊎ (x ≡ t) → is_set (set flags x true) t ≡ true
      flagged t (inl c) = grows t (h.reached.flagged t c)
      flagged t (inr same) = subst (λ n. is_set (set flags x true) n ≡ true) same now

      there : (t : ℕ) → Contains (take i read) t ⊎ (x ≡ t) → is_set (set flags x true) t ≡ true
      there t (inl c) = grows t (h.found t c)
      there t (inr same) = subst (λ n. is_set (set flags x true) n ≡ true) same now

      before_or : (t : ℕ) → (is_set first t ≡ true) ⊎ Contains (take i read) t → (is_set first t ≡ true) ⊎ Contains (take (i + 1) read) t
      before_or t (inl f) = inl f
      before_or t (inr c) = inr (still t c)

      only : (t : ℕ) → (t ≡ x) ⊎ (t ≡ x → ⊥) → is_set (set flags x true) t ≡ true → (is_set first t ≡ true) ⊎ Contains (take (i + 1) read) t
      only t (inl same) f = inr (subst (Contains (take (i + 1) read)) (sym same) itself)
      only t (inr other) f = before_or t (h.only t (sym (get_or-set_other flags x t true false other) ∙ f))

-- ---- the search

body_counts : (f : ℕ → Bool) (user : Option ℕ) → row user ≡ 0 → counts f user ≡ true
body_counts f None e = refl
body_counts f (Some t) e = absurd (omega (arith, e))

temp_counts : (f : ℕ → Bool) (u : ℕ) → f u ≡ true → (user : Option ℕ) → row user ≡ u + 1 → counts f user ≡ true
temp_counts f u c None e = let zero_is : 0 ≡ u + 1 = e in absurd (omega arith)
temp_counts f u c (Some t) e = let same : t ≡ u = omega (arith, e) in ap f same ∙ c

no_flag : (n t : ℕ) → is_set (replicate n false) t ≡ true → ⊥
no_flag n t h = by (cases_lt t n)
  where
    by : (t < n) ⊎ (n ≤ t) → ⊥
    by (inl lt) = let e : false ≡ true = sym (get_or-replicate n t false false lt) ∙ h in cc
    by (inr past) = let e : false ≡ true = sym (get_or_past (replicate n false) t false (omega (arith, past, length-replicate n false))) ∙ h in cc

pub search_begun : (count : ℕ) (uses : List Use) (flags : List Bool) (order : List ℕ) → IsVisited (read_by 0 uses) (replicate count false) [] flags order → IsSearched count uses flags order 0
search_begun count uses flags order h = record {
  reached = h.reached;
  long = h.long ∙ length-replicate count false;
  below = omega arith;
  body = h.found;
  closed = λ u t c r. absurd (none_contained u c);
  justified = λ t f. by t (h.only t f);
}
  where
    by : (t : ℕ) → (is_set (replicate count false) t ≡ true) ⊎ Contains (read_by 0 uses) t → used_in (is_set flags) uses t ≡ true
    by t (inl f) = absurd (no_flag count t f)
    by t (inr c) = used_from_read (is_set flags) 0 uses t (body_counts (is_set flags)) c

pub search_on : (count : ℕ) (uses : List Use) (flags : List Bool) (order : List ℕ) (next d : ℕ) (flags' : List Bool) (order' : List ℕ) →
    IsSearched count uses flags order next → next < length order → IsVisited (read_by (get_or order next d + 1) uses) flags order flags' order' → IsSearched count uses flags' order' (next + 1)
search_on count uses flags order next d flags' order' s lt v = record {
  reached = v.reached;
  long = v.long ∙ s.long;
  below = omega (arith, lt, ap length v.behind.1, length-append order v.behind.0);
  body = λ t c. v.kept t (s.body t c);
  closed = λ w t c r. closed w t (Contains-push_cases (take next order) u w (subst (λ l. Contains l w) begun c)) r;
  justified = λ t f. justified t (v.only t f);
}
  where
    u : ℕ
    u = get_or order next d

    begun : take (next + 1) order' ≡ take next order ++ u ∷ []
    begun = ap (take (next + 1)) v.behind.1 ∙ take-append-le (next + 1) order v.behind.0 (omega (arith, lt)) ∙ take_more order next d lt

    closed : (w t : ℕ) → Contains (take next order) w ⊎ (u ≡ w) → Contains (read_by (w + 1) uses) t → is_set flags' t ≡ true
    closed w t (inl c) r = v.kept t (s.closed w t c r)
    closed w t (inr same) r = v.found t (subst (λ n. Contains (read_by (n + 1) uses) t) (sym same) r)

    itself : is_set flags' u ≡ true
    itself = v.kept u (s.reached.flagged u (Contains-get_or order next d lt))

    justified : (t : ℕ) → (is_set flags t ≡ true) ⊎ Contains (read_by (u + 1) uses) t → used_in (is_set flags') uses t ≡ true
    justified t (inl f) = used_grows (is_set flags) (is_set flags') v.kept uses t (s.justified t f)
    justified t (inr c) = used_from_read (is_set flags') (u + 1) uses t (temp_counts (is_set flags') u itself) c

-- at the end
pub searched_all : (count : ℕ) (uses : List Use) (flags : List Bool) (order : List ℕ) (next : ℕ) → IsSearched count uses flags order next → length order ≤ next → IsNeeded (is_set flags) uses
searched_all count uses flags order next s le t = same_bools (is_set flags t) (used_in (is_set flags) uses t) (s.justified t) (λ h. by (read_from_used (is_set flags) uses t h))
  where
    by : Read (is_set flags) uses t → is_set flags t ≡ true
    by (inl c) = s.body t c
    by (inr (u, f, c)) = s.closed u t (subst (λ l. Contains l u) (sym (take_all next order le)) (s.reached.listed u f)) c

-- the search ends, since none is reached twice
pub search_below : (count : ℕ) (uses : List Use) (flags : List Bool) (order : List ℕ) (next : ℕ) → IsSearched count uses flags order next → length order ≤ count
search_below count uses flags order next s = omega (arith, flags_at_most flags, s.reached.counted, s.long)

-- what was reached stands in the table
pub reached_below : (count : ℕ) (uses : List Use) (flags : List Bool) (order : List ℕ) (next d : ℕ) → IsSearched count uses flags order next → next < length order → get_or order next d < count
reached_below count uses flags order next d s lt = omega (arith, flagged_below flags (get_or order next d) (s.reached.flagged (get_or order next d) (Contains-get_or order next d lt)), s.long)

-- ---- in the code

pub visited_same : (read read' : List ℕ) (first first' : List Bool) (before before' : List ℕ) (flags : List Bool) (order : List ℕ) →
    read ≡ read' → first ≡ first' → before ≡ before' → IsVisited read first before flags order → IsVisited read' first' before' flags order
visited_same read read' first first' before before' flags order e f g h =
    subst (λ r. IsVisited r first' before' flags order) e (subst (λ l. IsVisited read l before' flags order) f (subst (λ o. IsVisited read first o flags order) g h))

pub fits_more : (n m : ℕ) (uses : List Use) (i : ℕ) (d : Use) → i < length uses → All (Fits n) (take i uses) → n ≤ m → (get_or uses i d).used + 1 ≤ m → row (get_or uses i d).user ≤ m → All (Fits m) (take (i + 1) uses)
fits_more n m uses i d lt h le a b =
    All-more (Fits m) uses i d lt (All-weaker (Fits n) (Fits m) (λ x p. (omega (arith, p.0, le), omega (arith, p.1, le))) (take i uses) h) (omega (arith, a), b)

-- the greater of two
pub record IsGreater (a b m : ℕ) : Type 0 where
  pub first : a ≤ m
  pub second : b ≤ m
  pub below : (n : ℕ) → a < n → b < n → m < n

greater_by : (a b : ℕ) (c d : Bool) → nat_lt b a ≡ c → IsGreater a b (cond (is_lt (cond c Less (cond d Equal Greater))) a b)
greater_by a b true d h = record { first = omega arith; second = grind (arith, h); below = λ n p q. p }
greater_by a b false true h = record { first = grind (arith, h); second = omega arith; below = λ n p q. q }
greater_by a b false false h = record { first = grind (arith, h); second = omega arith; below = λ n p q. q }

pub greater : (a b m : ℕ) → m ≡ ord_max nat_cmp a b → IsGreater a b m
greater a b m e = subst (IsGreater a b) (sym e) (greater_by a b (nat_lt b a) (b == a) refl)

pub greatest : (a b m : ℕ) → m ≡ max a b → IsGreater a b m
greatest a b m e = record { first = omega (arith, e); second = omega (arith, e); below = λ n p q. omega (arith, e, p, q) }
