-- How many intervals lie over one position, and how many words the arrays have.
use Rattle.std.proofs.Common.{◌≡◌, ℕ, zero, suc, ◌+◌, ◌<◌, ◌≤◌, Bool, true, false, cond, List, [], ◌∷◌, ◌++◌, map, length, Option, Some, None, refl, sym, ◌∙◌, ap, subst, arith, ◌⊎◌, inl, inr}
use Rattle.std.specs.Prelude.{◌||◌, ◌&&◌, not, nat_lt, sum}
use Rattle.std.proofs.lemmas.Bool.{or_parts, and_right, lt-ltb, cases_lt}
use Rattle.mv_ir.specs.declared.body.Body.{Body}
use Rattle.mv_ir.specs.Measures.{total}
use Rattle.mv_ir.specs.Live.{filled, mark_at, all_marks, interval, count_at, below, marks_length, most_intervals}
use Rattle.mv_ir.proofs.Keeping.{map_append}
use Rattle.mv_ir.proofs.Joining.{greatest_within}
use Rattle.mv_ast.specs.declared.program.Local.{Local}
use Rattle.mv_ast.specs.Counts.{words_of_size, elements_of}
use Rattle.mv_ast.specs.Names.{any_of}
use Rattle.mv_source_forms.specs.Names.{is_scalar, size_in}
use Rattle.mv_lower_spec.specs.Functions.{array_sizes}
use Rattle.mv_lower_spec.proofs.OfShape.Expressions.{is_used}
use Rattle.mv_num.proofs.Lists.{sum_cons}
use Rattle.mv_num.proofs.Booleans.{one_or_none}

-- ---- marks

filled_none : (begun : Bool) (xs : List Bool) (i : ℕ) → any_of xs ≡ false → mark_at (filled begun xs) i ≡ false
filled_none begun [] i e = refl
filled_none begun (x ∷ xs) zero e = and_right (begun || x) (x || any_of xs) e
filled_none begun (x ∷ xs) (suc i) e = filled_none (begun || x) xs i (or_parts x (any_of xs) e).1

pub marked_none : (xs : List Bool) (i : ℕ) → any_of xs ≡ false → mark_at xs i ≡ false
marked_none [] i e = refl
marked_none (x ∷ xs) zero e = (or_parts x (any_of xs) e).0
marked_none (x ∷ xs) (suc i) e = marked_none xs i (or_parts x (any_of xs) e).1

-- ---- sums over numbers

abbrev pub sum_below : ℕ → (ℕ → ℕ) → ℕ
sum_below zero f = 0
sum_below (suc n) f = sum_below n f + f n

count_append : (i : ℕ) (xss yss : List (List Bool)) → count_at i (xss ++ yss) ≡ count_at i xss + count_at i yss
count_append i [] yss = omega arith
count_append i (xs ∷ xss) yss = let e = count_append i xss yss in omega (arith, e)

counted_below : (f : ℕ → List Bool) (g : ℕ → ℕ) (i n : ℕ) → ((t : ℕ) → cond (mark_at (f t) i) 1 0 ≤ g t) → count_at i (map f (below n)) ≤ sum_below n g
counted_below f g i zero h = omega arith
counted_below f g i (suc n) h =
    let e = ap (count_at i) (map_append f (below n) (n ∷ [])) ∙ count_append i (map f (below n)) (f n ∷ []) in
    let k = counted_below f g i n h in
    let l = h n in
    omega (arith, e, k, l)

sum_first : (n : ℕ) (f : ℕ → ℕ) → sum_below (suc n) f ≡ f 0 + sum_below n (λ t. f (suc t))
sum_first zero f = omega arith
sum_first (suc n) f = let e = sum_first n f in omega (arith, e)

-- behind a number each adds at most 1
sum_behind : (f : ℕ → ℕ) (n m : ℕ) → ((t : ℕ) → f t ≤ 1) → n ≤ m → sum_below m f + n ≤ sum_below n f + m
sum_behind f n zero h le = let e : n ≡ 0 = omega (arith, le) in subst (λ k. sum_below zero f + k ≤ sum_below k f + zero) (sym e) (omega arith)
sum_behind f n (suc m) h le = by (cases_lt m n) (sum_behind f n m h)
  where
    by : (m < n) ⊎ (n ≤ m) → (n ≤ m → sum_below m f + n ≤ sum_below n f + m) → sum_below (suc m) f + n ≤ sum_below n f + suc m
    by (inl lt) k = let e : n ≡ suc m = omega (arith, lt, le) in subst (λ i. sum_below (suc m) f + i ≤ sum_below i f + suc m) (sym e) (omega arith)
    by (inr up) k = let k' = k up in let one = h m in omega (arith, k', one)

sum_less : (n : ℕ) (f g : ℕ → ℕ) → ((t : ℕ) → t < n → f t ≤ g t) → sum_below n f ≤ sum_below n g
sum_less zero f g h = omega arith
sum_less (suc n) f g h =
    let e = sum_less n f g (λ t lt. h t (omega (arith, lt))) in
    let k = h n (omega arith) in
    omega (arith, e, k)

-- ---- words

-- one for a scalar
abbrev pub scalar_word : Option ℕ → ℕ
scalar_word size = cond (is_scalar size) 1 0

words_split : (size : Option ℕ) → scalar_word size + elements_of size ≡ words_of_size size
words_split None = refl
words_split (Some n) = omega arith

pub total_is : (xs : List ℕ) → total xs ≡ sum xs
total_is [] = refl
total_is (x ∷ xs) = let e = total_is xs in let k = sum_cons x xs in omega (arith, e, k)

-- the scalars and the elements of the arrays
words_of_locals : (ls : List Local) → sum_below (length ls) (λ t. scalar_word (size_in ls t)) + sum (array_sizes ls) ≡ sum (map (λ l. words_of_size l.size) ls)
words_of_locals [] = refl
words_of_locals (l ∷ ls) =
    let first = sum_first (length ls) (λ t. scalar_word (size_in (l ∷ ls) t)) in
    let rest = words_of_locals ls in
    let arrays = sum_cons (elements_of l.size) (array_sizes ls) in
    let words = sum_cons (words_of_size l.size) (map (λ (m : Local). words_of_size m.size) ls) in
    omega (arith, first, rest, arrays, words, words_split l.size)

-- ---- bodies

module _ (ls : List Local) (room : ℕ) where
  abbrev used_word : ℕ → ℕ
  used_word t = cond (is_used (length ls) (size_in ls) room t) 1 0

  -- a local's temporary is used where the local is a scalar
  used_local : (t : ℕ) → t < length ls → used_word t ≤ scalar_word (size_in ls t)
  used_local t lt = by (nat_lt t (length ls)) (lt-ltb t (length ls) lt) (is_scalar (size_in ls t))
    where
      by : (z : Bool) → z ≡ true → (s : Bool) → cond ((z && s) || (not z && nat_lt t room)) 1 0 ≤ cond s 1 0
      by true e true = omega arith
      by true e false = omega arith
      by false e s = absurd cc

  -- temporaries that aren't used are marked nowhere: what is counted is at most the scalars, and the temporaries behind the locals
  pub few_intervals : (b : Body) → b.temps ≡ room → length ls ≤ room → ((t : ℕ) → is_used (length ls) (size_in ls) room t ≡ false → any_of (all_marks b t) ≡ false) →
      most_intervals b + sum (array_sizes ls) + length ls ≤ sum (map (λ l. words_of_size l.size) ls) + room
  few_intervals b temps le unused =
      let each = greatest_within (marks_length (all_marks b 0)) (λ i. count_at i (map (interval b) (below b.temps))) (sum_below room used_word)
      (λ i lt. subst (λ n. count_at i (map (interval b) (below n)) ≤ sum_below room used_word) (sym temps) (counted_below (interval b) used_word i room (λ t. marked i t))) in
      let behind = sum_behind used_word (length ls) room at_most_one le in
      let locals = sum_less (length ls) used_word (λ t. scalar_word (size_in ls t)) used_local in
      omega (arith, each, behind, locals, words_of_locals ls)
    where
      at_most_one : (t : ℕ) → used_word t ≤ 1
      at_most_one t = one_or_none (is_used (length ls) (size_in ls) room t)

      marked : (i t : ℕ) → cond (mark_at (interval b t) i) 1 0 ≤ used_word t
      marked i t = by (is_used (length ls) (size_in ls) room t) refl
        where
          by : (z : Bool) → is_used (length ls) (size_in ls) room t ≡ z → cond (mark_at (interval b t) i) 1 0 ≤ cond z 1 0
          by true e = one_or_none (mark_at (interval b t) i)
          by false e = let k : cond (mark_at (interval b t) i) 1 0 ≡ 0 = ap {B = ℕ} (λ z. cond z 1 0) (filled_none false (all_marks b t) i (unused t e)) in omega (arith, k)
