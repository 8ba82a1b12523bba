-- The names of generated texts: each function's differs from all others.
use Rattle.std.proofs.Common.{◌≡◌, ◌≢◌, ℕ, zero, suc, ◌+◌, ◌-◌, ◌<◌, ◌≤◌, Bool, true, false, List, [], ◌∷◌, ◌++◌, length, Some, refl, sym, ap, ◌∙◌, inl, inr, arith, append-nil, length-append}
use Rattle.std.specs.Prelude.{codes, nat_eq, nat_lt, not, fold, filter}
use Rattle.std.specs.Fmt.{decimal}
use Rattle.std.specs.List.{prefix_len}
use Rattle.std.specs.Cmp.Lexicographic.{pointwise, same_text}
use Rattle.std.proofs.lemmas.Bool.{cases_lt, lt-ltb}
use Rattle.std.proofs.lemmas.Cmp.{nat_list_eq_equiv}
use Rattle.std.proofs.lemmas.Fmt.{decimal_injective}
use Rattle.std.proofs.lemmas.List.Folds.{list_any-append}
use Rattle.mv_check_scope.specs.declared.meaning.Meaning.TheVariants as meaning
use Rattle.mv_check_scope.specs.Names.{Names}
use Rattle.mv_check_scope.specs.Spaces.{named}
use Rattle.mv_check_outline.specs.Names.{same_name, is_among, with_name, each_once, place_of, among}
use Rattle.mv_gen_programs.proofs.Lines.{function_name}
use Rattle.mv_gen_programs.proofs.MainBody.{routine}

function_differs : (i j : ℕ) → i < 40 → j < 40 → i ≢ j → pointwise nat_eq (function_name i) (function_name j) ≡ false
function_differs i j hi hj ne = go (pointwise nat_eq (decimal i) (decimal j)) refl
  where
    go : (b : Bool) → b ≡ pointwise nat_eq (decimal i) (decimal j) → b ≡ false
    go true e = absurd (ne (decimal_injective i j (omega arith) (omega arith) (same_text (decimal i) (decimal j) e)))
    go false e = refl

-- ---- what names mean

-- so many functions, from the i-th on
unfoldable pub function_meanings : (i count : ℕ) → Names
function_meanings i zero = []
function_meanings i (suc count) = (function_name i, meaning.Function (routine i)) ∷ function_meanings (suc i) count

pub function_named : (n i count : ℕ) (rest : Names) → i + count ≤ 40 → i ≤ n → n < i + count → named (function_name n) (function_meanings i count ++ rest) ≡ Some (meaning.Function (routine n))
unfolding function_meanings
function_named n i zero rest few low high = absurd (omega arith)
function_named n i (suc count) rest few low high =
    elim (cases_lt i n) [
      | inl less ↦
          let e : pointwise nat_eq (function_name n) (function_name i) ≡ false = function_differs n i (omega arith) (omega arith) (omega arith) in
          rw e (function_named n (suc i) count rest (omega arith) (omega arith) (omega arith))
      | inr more ↦
          let same : i ≡ n = omega arith in
          let e : pointwise nat_eq (function_name n) (function_name i) ≡ true = ap (λ k. pointwise nat_eq (function_name n) (function_name k)) same ∙ nat_list_eq_equiv.refl (function_name n) in
          rw e (ap (λ k. Some (meaning.Function (routine k))) same)
    ]

-- a function that isn't among them
pub function_new : (n i count : ℕ) (rest : Names) → i + count ≤ 40 → n < 40 → i + count ≤ n → named (function_name n) (function_meanings i count ++ rest) ≡ named (function_name n) rest
unfolding function_meanings
function_new n i zero rest few small above = refl
function_new n i (suc count) rest few small above =
    let e : pointwise nat_eq (function_name n) (function_name i) ≡ false = function_differs n i (omega arith) (omega arith) (omega arith) in
    rw e (function_new n (suc i) count rest (omega arith) (omega arith) (omega arith))

-- a name that begins with another letter
pub other_named : (b : ℕ) (bs : List ℕ) (i count : ℕ) (rest : Names) → nat_eq b 102 ≡ false → named (b ∷ bs) (function_meanings i count ++ rest) ≡ named (b ∷ bs) rest
unfolding function_meanings
other_named b bs i zero rest h = refl
other_named b bs i (suc count) rest h = rw h (other_named b bs (suc i) count rest h)

pub meanings_more : (i count : ℕ) → function_meanings i (suc count) ≡ function_meanings i count ++ (function_name (i + count), meaning.Function (routine (i + count))) ∷ []
unfolding function_meanings
meanings_more i zero = let e : i ≡ i + 0 = omega arith in ap (λ k. (function_name k, meaning.Function (routine k)) ∷ []) e
meanings_more i (suc count) =
    let e : suc i + count ≡ i + suc count = omega arith in
    ap (λ (ms : Names). (function_name i, meaning.Function (routine i)) ∷ ms)
    (meanings_more (suc i) count ∙ ap (λ k. function_meanings (suc i) count ++ (function_name k, meaning.Function (routine k)) ∷ []) e)

-- ---- lists of names

unfoldable pub function_names : (i count : ℕ) → List (List ℕ)
function_names i zero = []
function_names i (suc count) = function_name i ∷ function_names (suc i) count

pub names_more : (i count : ℕ) → function_names i (suc count) ≡ function_names i count ++ function_name (i + count) ∷ []
unfolding function_names
names_more i zero = let e : i ≡ i + 0 = omega arith in ap (λ k. function_name k ∷ []) e
names_more i (suc count) =
    let e : suc i + count ≡ i + suc count = omega arith in
    ap (λ (ns : List (List ℕ)). function_name i ∷ ns) (names_more (suc i) count ∙ ap (λ k. function_names (suc i) count ++ function_name k ∷ []) e)

pub function_among : (n i count : ℕ) (rest : List (List ℕ)) → i + count ≤ 40 → i ≤ n → n < i + count → is_among (function_name n) (function_names i count ++ rest) ≡ true
unfolding function_names
function_among n i zero rest few low high = absurd (omega arith)
function_among n i (suc count) rest few low high =
    elim (cases_lt i n) [
      | inl less ↦
          let e : pointwise nat_eq (function_name n) (function_name i) ≡ false = function_differs n i (omega arith) (omega arith) (omega arith) in
          rw e (function_among n (suc i) count rest (omega arith) (omega arith) (omega arith))
      | inr more ↦
          let same : i ≡ n = omega arith in
          let e : pointwise nat_eq (function_name n) (function_name i) ≡ true = ap (λ k. pointwise nat_eq (function_name n) (function_name k)) same ∙ nat_list_eq_equiv.refl (function_name n) in
          rw e refl
    ]

function_absent : (n i count : ℕ) → i + count ≤ 40 → n < 40 → i + count ≤ n → is_among (function_name n) (function_names i count) ≡ false
unfolding function_names
function_absent n i zero few small above = refl
function_absent n i (suc count) few small above =
    let e : pointwise nat_eq (function_name n) (function_name i) ≡ false = function_differs n i (omega arith) (omega arith) (omega arith) in
    rw e (function_absent n (suc i) count (omega arith) (omega arith) (omega arith))

pub other_absent : (b : ℕ) (bs : List ℕ) (i count : ℕ) → nat_eq b 102 ≡ false → is_among (b ∷ bs) (function_names i count) ≡ false
unfolding function_names
other_absent b bs i zero h = refl
other_absent b bs i (suc count) h = rw h (other_absent b bs (suc i) count h)

-- ---- each name once

-- names that are added to others stand there once
once_from : (i count : ℕ) → i + count ≤ 40 → fold with_name (function_names 0 i) (function_names i count) ≡ function_names 0 (i + count)
unfolding function_names
once_from i zero few = let e : i ≡ i + 0 = omega arith in ap (function_names 0) e
once_from i (suc count) few =
    let new : is_among (function_name i) (function_names 0 i) ≡ false = function_absent i 0 i (omega arith) (omega arith) (omega arith) in
    let e : 0 + i ≡ i = omega arith in
    let more : function_names 0 i ++ function_name i ∷ [] ≡ function_names 0 (suc i) = sym (names_more 0 i ∙ ap (λ k. function_names 0 i ++ function_name k ∷ []) e) in
    let add : with_name (function_names 0 i) (function_name i) ≡ function_names 0 (suc i) = rw new more in
    let all : suc i + count ≡ i + suc count = omega arith in
    ap (λ (ns : List (List ℕ)). fold with_name ns (function_names (suc i) count)) add ∙ (once_from (suc i) count (omega arith) ∙ ap (function_names 0) all)

fold_append : (acc xs ys : List (List ℕ)) → fold with_name acc (xs ++ ys) ≡ fold with_name (fold with_name acc xs) ys
fold_append acc [] ys = refl
fold_append acc (x ∷ xs) ys = fold_append (with_name acc x) xs ys

pub functions_once : (count : ℕ) → count ≤ 40 → each_once (function_names 0 count) ≡ function_names 0 count
unfolding function_names
functions_once count few = let e : 0 + count ≡ count = omega arith in once_from 0 count (omega arith) ∙ ap (function_names 0) e

-- with `main` behind them
abbrev pub all_functions : ℕ → List (List ℕ)
all_functions count = function_names 0 count ++ codes "main" ∷ []

pub all_once : (count : ℕ) → count ≤ 40 → each_once (all_functions count) ≡ all_functions count
all_once count few =
    let absent : is_among (codes "main") (function_names 0 count) ≡ false = other_absent 109 (97 ∷ 105 ∷ 110 ∷ []) 0 count refl in
    fold_append [] (function_names 0 count) (codes "main" ∷ [])
    ∙ (ap (λ (ns : List (List ℕ)). with_name ns (codes "main")) (functions_once count few) ∙ rw absent refl)

-- ---- names among others

kept : (others : List (List ℕ)) (i count : ℕ) (rest : List (List ℕ)) → ((n : ℕ) → i ≤ n → n < i + count → is_among (function_name n) others ≡ true) →
    filter (λ n. is_among n others) (function_names i count ++ rest) ≡ function_names i count ++ filter (λ n. is_among n others) rest
unfolding function_names
kept others i zero rest h = refl
kept others i (suc count) rest h =
    let e : is_among (function_name i) others ≡ true = h i (omega arith) (omega arith) in
    rw e (ap (λ (ns : List (List ℕ)). function_name i ∷ ns) (kept others (suc i) count rest (λ n low high. h n (omega arith) (omega arith))))

pub functions_defined : (count : ℕ) → count ≤ 40 → among (all_functions count) (all_functions count) ≡ all_functions count
functions_defined count few =
    let all = all_functions count in
    let main : is_among (codes "main") all ≡ true =
    list_any-append (same_name (codes "main")) (function_names 0 count) (codes "main" ∷ []) ∙ rw (other_absent 109 (97 ∷ 105 ∷ 110 ∷ []) 0 count refl) refl in
    let filtered : filter (λ n. is_among n all) all ≡ all =
    kept all 0 count (codes "main" ∷ []) (λ n low high. function_among n 0 count (codes "main" ∷ []) (omega arith) low high) ∙ rw main refl in
    ap each_once filtered ∙ all_once count few

pub functions_marked : (count : ℕ) → count ≤ 40 → among (function_names 0 count) (all_functions count) ≡ function_names 0 count
functions_marked count few =
    let marked = function_names 0 count in
    let whole : marked ++ [] ≡ marked = append-nil marked in
    let main : is_among (codes "main") marked ≡ false = other_absent 109 (97 ∷ 105 ∷ 110 ∷ []) 0 count refl in
    let filtered : filter (λ n. is_among n marked) (all_functions count) ≡ marked =
    kept marked 0 count (codes "main" ∷ []) (λ n low high. ap (is_among (function_name n)) (sym whole) ∙ function_among n 0 count [] (omega arith) low high)
    ∙ (rw main refl ∙ whole) in
    ap each_once filtered ∙ functions_once count few

-- ---- places

prefix_is : (n i count : ℕ) (rest : List (List ℕ)) → i + count ≤ 40 → i ≤ n → n < i + count →
    (prefix_len (λ x. not (same_name (function_name n) x)) (function_names i count ++ rest) ≡ n - i)
unfolding function_names
prefix_is n i zero rest few low high = absurd (omega arith)
prefix_is n i (suc count) rest few low high =
    elim (cases_lt i n) [
      | inl less ↦
          let e : pointwise nat_eq (function_name n) (function_name i) ≡ false = function_differs n i (omega arith) (omega arith) (omega arith) in
          let more = prefix_is n (suc i) count rest (omega arith) (omega arith) (omega arith) in
          rw e (omega (arith, more))
      | inr more ↦
          let same : i ≡ n = omega arith in
          let e : pointwise nat_eq (function_name n) (function_name i) ≡ true = ap (λ k. pointwise nat_eq (function_name n) (function_name k)) same ∙ nat_list_eq_equiv.refl (function_name n) in
          rw e (omega arith)
    ]

pub names_long : (i count : ℕ) → length (function_names i count) ≡ count
unfolding function_names
names_long i zero = refl
names_long i (suc count) = ap suc (names_long (suc i) count)

pub function_at : (n count : ℕ) (rest : List (List ℕ)) → count ≤ 40 → n < count → place_of (function_name n) (function_names 0 count ++ rest) ≡ Some n
function_at n count rest few h =
    let at : prefix_len (λ x. not (same_name (function_name n) x)) (function_names 0 count ++ rest) ≡ n = prefix_is n 0 count rest (omega arith) (omega arith) (omega arith) ∙ omega arith in
    let below : nat_lt n (length (function_names 0 count ++ rest)) ≡ true =
    lt-ltb n (length (function_names 0 count ++ rest)) (omega (arith, length-append (function_names 0 count) rest, names_long 0 count)) in
    rw (at, below) refl

main_prefix : (i count : ℕ) → prefix_len (λ x. not (same_name (codes "main") x)) (function_names i count ++ codes "main" ∷ []) ≡ count
unfolding function_names
main_prefix i zero = refl
main_prefix i (suc count) = let more = main_prefix (suc i) count in omega (arith, more)

pub main_at : (count : ℕ) → place_of (codes "main") (all_functions count) ≡ Some count
main_at count =
    let at = main_prefix 0 count in
    let below : nat_lt count (length (all_functions count)) ≡ true =
    lt-ltb count (length (all_functions count)) (omega (arith, length-append (function_names 0 count) (codes "main" ∷ []), names_long 0 count)) in
    rw (at, below) refl
