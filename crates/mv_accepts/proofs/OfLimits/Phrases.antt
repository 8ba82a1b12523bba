-- The words of the grammar's language, with a count of each value: it is at most that of the terminals, and what was there before.
use Rattle.std.proofs.Common.{◌≡◌, ℕ, zero, suc, ◌+◌, ◌≤◌, Bool, Option, Some, None, List, [], ◌∷◌, ◌++◌, inl, inr, length, map, sym, ap, subst, arith}
use Rattle.std.specs.Prelude.{sum}
use Rattle.std.proofs.lemmas.List.Sums.{sum_by-cons}
use Rattle.mv_parse_grammar.specs.Terminals.{Terminal}
use Rattle.mv_parse_grammar.specs.Language as L
use Rattle.mv_parse_grammar.specs.Language.{turns}
use Rattle.mv_parse_grammar.specs.Declarations.{characters_of}

-- ---- the count of terminals

-- one for a terminal, and one for each character of a string
abbrev pub weight : Terminal → ℕ
weight t = 1 + length (characters_of t)

abbrev pub size : List Terminal → ℕ
size [] = 0
size (t ∷ ts) = weight t + size ts

pub size_append : (ts us : List Terminal) → size (ts ++ us) ≡ size ts + size us
size_append [] us = omega arith
size_append (t ∷ ts) us = omega (arith, size_append ts us)

-- ---- counts of values

abbrev pub of_some : {X : Type 0} → (X → ℕ) → Option X → ℕ
of_some count None = 0
of_some count (Some x) = count x

abbrev pub of_all : {X : Type 0} → (X → ℕ) → List X → ℕ
of_all count xs = sum (map count xs)

pub all_and : {X : Type 0} (count : X → ℕ) (x : X) (xs : List X) → of_all count (x ∷ xs) ≡ count x + of_all count xs
all_and count x xs = sum_by-cons (λ n. n) (count x) (map count xs)

pub all_then : {X : Type 0} (count : X → ℕ) (xs : List X) (x : X) → of_all count (xs ++ x ∷ []) ≡ of_all count xs + count x
all_then count [] x = omega (arith, all_and count x [])
all_then count (y ∷ ys) x = omega (arith, all_and count y (ys ++ x ∷ []), all_and count y ys, all_then count ys x)

-- ---- phrases

-- the value of a phrase counts at most n more than its terminals
pub record Within {X : Type 0} (count : X → ℕ) (n : ℕ) (A : X → List Terminal → Type 0) : Type 0 where
  pub most : (x : X) (ts : List Terminal) → A x ts → count x ≤ n + size ts

pub wider : {X : Type 0} {count : X → ℕ} {n : ℕ} {A : X → List Terminal → Type 0} (m : ℕ) → m ≤ n → Within count m A → Within count n A
wider m h a = record { most = λ x ts k. omega (arith, a.most x ts k) }

pub given : {X : Type 0} {count : X → ℕ} {n : ℕ} {x : X} → count x ≤ n → Within count n (L.give x)
given {X} {count} {n} {x} h = record { most = λ y ts k. subst (λ z. count z ≤ n + size ts) (sym k.value) (omega (arith, h)) }

-- a terminal with its characters, and a phrase after it
pub spelled : {Y : Type 0} {count : Y → ℕ} {n : ℕ} {test : Terminal → Bool} {F : Terminal → Y → List Terminal → Type 0}
    → ((t : Terminal) → Within count (n + weight t) (F t)) → Within count n (L.◌>>=◌ (L.token test) F)
spelled h = record {
  most = λ y ts k.
      omega (arith, (h k.middle).most y k.back k.second, ap size k.whole, size_append k.front k.back, ap size k.first.one);
}

-- a terminal, and a phrase after it
pub first : {Y : Type 0} {count : Y → ℕ} {n : ℕ} {test : Terminal → Bool} {F : Terminal → Y → List Terminal → Type 0}
    → ((t : Terminal) → Within count (n + 1) (F t)) → Within count n (L.◌>>=◌ (L.token test) F)
first {Y} {count} {n} h = spelled (λ t. wider (n + 1) (omega arith) (h t))

-- a phrase that may count m more, and a phrase after it
pub beyond : {X Y : Type 0} {inner : X → ℕ} {count : Y → ℕ} {n : ℕ} {A : X → List Terminal → Type 0} {F : X → Y → List Terminal → Type 0} (m k : ℕ)
    → n ≡ k + m → Within inner m A → ((x : X) → Within count (k + inner x) (F x)) → Within count n (L.◌>>=◌ A F)
beyond m k e a h = record {
  most = λ y ts p.
      omega (arith, e, a.most p.middle p.front p.first, (h p.middle).most y p.back p.second, ap size p.whole, size_append p.front p.back);
}

pub after : {X Y : Type 0} {inner : X → ℕ} {count : Y → ℕ} {n : ℕ} {A : X → List Terminal → Type 0} {F : X → Y → List Terminal → Type 0}
    → Within inner 0 A → ((x : X) → Within count (n + inner x) (F x)) → Within count n (L.◌>>=◌ A F)
after {X} {Y} {inner} {count} {n} a h = beyond 0 n (omega arith) a h

-- a phrase that goes on from what was there before, and a phrase after it
pub through : {X Y : Type 0} {inner : X → ℕ} {count : Y → ℕ} {n : ℕ} {A : X → List Terminal → Type 0} {F : X → Y → List Terminal → Type 0}
    → Within inner n A → ((x : X) → Within count (inner x) (F x)) → Within count n (L.◌>>=◌ A F)
through {X} {Y} {inner} {count} {n} a h = beyond n 0 (omega arith) a (λ x. wider (inner x) (omega arith) (h x))

-- a terminal alone
pub taken : {test : Terminal → Bool} → Within (λ _. 1) 0 (L.token test)
taken = record { most = λ t ts k. omega (arith, ap size k.one) }

pub either : {X : Type 0} {count : X → ℕ} {n : ℕ} {A B : X → List Terminal → Type 0} → Within count n A → Within count n B → Within count n (L.◌or◌ A B)
either a b = record { most = λ x ts k. elim k [ inl h ↦ a.most x ts h | inr h ↦ b.most x ts h ] }

pub placed : {X : Type 0} {count : X → ℕ} {n : ℕ} {A : X → List Terminal → Type 0} → Within count n A → Within (λ p. count p.1) n (L.marked A)
placed a = record { most = λ p ts k. a.most p.1 ts k.phrase }

pub allowed : {X K : Type 0} {count : X → ℕ} {n : ℕ} {A : X → List Terminal → Type 0} → Within count n A → Within count n (L.when K A)
allowed a = record { most = λ x ts k. a.most x ts k.phrase }

turned : {X : Type 0} (count : X → ℕ) (F : X → X → List Terminal → Type 0) → ((x : X) → Within count (count x) (F x))
    → (k : ℕ) (x y : X) (ts : List Terminal) → turns F k x y ts → count y ≤ count x + size ts
turned count F h zero x y ts g = subst (λ z. count z ≤ count x + size ts) (sym g.value) (omega arith)
turned count F h (suc k) x y ts g =
    omega (arith, (h x).most g.middle g.front g.first, turned count F h k g.middle y g.back g.second, ap size g.whole, size_append g.front g.back)

-- again and again
pub chained : {X : Type 0} {count : X → ℕ} {n : ℕ} {F : X → X → List Terminal → Type 0} {x : X}
    → count x ≤ n → ((x : X) → Within count (count x) (F x)) → Within count n (L.chain F x)
chained {X} {count} {n} {F} {x} l h = record { most = λ y ts k. omega (arith, l, turned count F h k.count x y ts k.phrases) }

pub optional : {X : Type 0} {count : X → ℕ} {A : X → List Terminal → Type 0} → Within count 0 A → Within (of_some count) 0 (L.optional A)
optional a = either (after a (λ x. given (omega arith))) (given (omega arith))

-- ---- lists

-- each counts one more
pub all_more : {X : Type 0} (count : X → ℕ) (xs : List X) → of_all (λ x. 1 + count x) xs ≡ length xs + of_all count xs
all_more count [] = omega arith
all_more count (x ∷ xs) = omega (arith, all_and (λ y. 1 + count y) x xs, all_and count x xs, all_more count xs)

module _ {X : Type 0} {count : X → ℕ} {A : X → List Terminal → Type 0} where
  pub pushed : (xs : List X) → Within count 0 A → Within (of_all count) (of_all count xs) (L.pushed A xs)
  pushed xs a = after a (λ x. given (omega (arith, all_then count xs x)))

  -- the comma may count for what a phrase counts more
  comma_pushed : (m : ℕ) → m ≤ 1 → Within count m A → (xs : List X) → Within (of_all count) (of_all count xs) (L.comma_pushed A xs)
  comma_pushed m l a xs = first (λ _. wider (of_all count xs + m) (omega arith) (beyond m (of_all count xs) (omega arith) a (λ x. given (omega (arith, all_then count xs x)))))

  pub commas : (m : ℕ) → m ≤ 1 → Within count m A → Within (of_all count) m (L.comma_list A)
  commas m l a = beyond m 0 (omega arith) a (λ x. chained (omega (arith, all_and count x [])) (comma_pushed m l a))

  -- the brace counts for what the first phrase counts more
  pub braced : (m : ℕ) → m ≤ 1 → Within count m A → Within (of_all count) 0 (L.braced_list A)
  braced m l a =
      first (λ _. wider m (omega arith) (beyond m 0 (omega arith) (commas m l a) (λ xs.
      through {inner = of_all count} (either (first (λ _. given (omega arith))) (given (omega arith))) (λ ys. first (λ _. given (omega arith))))))
