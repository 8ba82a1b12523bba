-- What holds of each item of a list.
use Rattle.std.proofs.Common.{◌≡◌, ℕ, ◌≤◌, Bool, true, List, [], ◌∷◌, map, All, refl, arith}
use Rattle.std.proofs.lemmas.List.Elements.{All-head, All-tail}
use Rattle.mv_ir.specs.declared.tree.Tree.{Tree}
use Rattle.mv_ir.specs.Trees.{depth}
use Rattle.mv_ir.specs.Measures.{joined, deepest_of}
use Rattle.mv_ir.specs.WellFormed.{all_true}
use Rattle.mv_ir.proofs.Induction.{Each}
use Rattle.mv_num.proofs.Booleans.{and_right, and_left}
use Rattle.std.proofs.lemmas.Bool.{and_from}
use Rattle.mv_ir.proofs.Common.{each_first, each_right}

-- one of those that a test tells
abbrev pub IsIn : {A : Type 0} → (A → Bool) → A → Type 0
IsIn test x = test x ≡ true

pub each_weaker : {A : Type 0} (P Q : A → Type 0) → ((x : A) → P x → Q x) → (xs : List A) → Each P xs → Each Q xs
each_weaker P Q f [] h = tt
each_weaker P Q f (x ∷ xs) h = (f x h.0, each_weaker P Q f xs h.1)

pub each_both : {A : Type 0} (P Q : A → Type 0) (xs : List A) → Each P xs → Each Q xs → Each (λ x. P x × Q x) xs
each_both P Q [] h k = tt
each_both P Q (x ∷ xs) h k = ((h.0, k.0), each_both P Q xs h.1 k.1)

pub each_joined : {A B : Type 0} (P : B → Type 0) (f : A → List B) (xs : List A) → Each P (joined (map f xs)) → Each (λ x. Each P (f x)) xs
each_joined P f [] h = tt
each_joined P f (x ∷ xs) h = (each_first P (f x) (joined (map f xs)) h, each_joined P f xs (each_right P (f x) (joined (map f xs)) h))

pub each_all : {A : Type 0} (P : A → Type 0) (xs : List A) → All P xs → Each P xs
each_all P [] h = tt
each_all P (x ∷ xs) h = (All-head P x xs h, each_all P xs (All-tail P x xs h))

pub each_true : {A : Type 0} (f : A → Bool) (xs : List A) → all_true (map f xs) ≡ true → Each (IsIn f) xs
each_true f [] h = tt
each_true f (x ∷ xs) h = (and_left (f x) (all_true (map f xs)) h, each_true f xs (and_right (f x) (all_true (map f xs)) h))

pub true_each : {A : Type 0} (f : A → Bool) (xs : List A) → Each (IsIn f) xs → all_true (map f xs) ≡ true
true_each f [] h = refl
true_each f (x ∷ xs) h = and_from (f x) (all_true (map f xs)) h.0 (true_each f xs h.1)

-- no tree is deeper than the deepest
pub each_shallow : (n : ℕ) (ts : List Tree) → deepest_of ts ≤ n → Each (λ t. depth t ≤ n) ts
each_shallow n [] h = tt
each_shallow n (t ∷ ts) h = (omega (arith, h), each_shallow n ts (omega (arith, h)))
