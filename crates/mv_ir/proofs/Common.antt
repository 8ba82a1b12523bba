-- Lemmas on this crate's words that the crates above share.
use Rattle.std.proofs.Common.{List, [], ◌∷◌, ◌++◌, All, ◌≡◌, ◌<◌, ◌≤◌, ◌^◌, ℕ, Bool, true, false, cond, ◌&&◌, eqb, nat_lt, pos, ◌-ℤ◌, sym, ap, ◌∙◌, suc, max, arith}
use Rattle.mv_ir.proofs.Induction.{Each}
use Rattle.std.proofs.lemmas.Bool.{lt-ltb}
use Rattle.std.proofs.lemmas.List.Elements.{All-nil, All-cons}
use Rattle.mv_ir.specs.declared.tree.Tree.TheVariants.{rolls-Number, rolls-Temp, rolls-Global, rolls-Function, rolls-Unary, rolls-Binary, rolls-Narrow}
use Rattle.mv_ir.specs.Trees.{depth}
use Rattle.mv_ir.proofs.Rolls.{depth_roll}
use Rattle.mv_ir.specs.declared.tree.Tree as tr
use Rattle.mv_ir.specs.declared.tree.Tree.TheOpen as tree
use Rattle.mv_ir.specs.declared.tree.Tree.{Tree}
use Rattle.mv_num.specs.declared.kind.Kind.{Kind}
use Rattle.mv_num.specs.Words.{as_word, signed}
use Rattle.mv_num.proofs.Booleans.{and_cases}
use Rattle.mv_ir.specs.Outcome.{State, Next}

-- ---- Booleans and numbers

pub and_keeps : (a b c d : Bool) → (a ≡ true → c ≡ true) → (b ≡ true → d ≡ true) → (a && b) ≡ true → (c && d) ≡ true
and_keeps a b c d h k e = let parts = and_cases a b e in ap (λ x. x && d) (h parts.0) ∙ k parts.1

pub eqb_swapped : (a b : ℕ) → eqb a b ≡ eqb b a
eqb_swapped a b = grind arith

pub lt_nat : (a b : ℕ) → a < b → nat_lt a b ≡ true
lt_nat a b lt = grind (arith, lt)

pub nat_less : (a b : ℕ) → nat_lt a b ≡ true → a < b
nat_less a b e = grind (arith, e)

pub one_at_most : (b : Bool) → cond b 0 1 ≤ 1
one_at_most true = omega arith
one_at_most false = omega arith

pub truth_small : (b : Bool) → as_word b ≤ 1
truth_small true = omega arith
truth_small false = omega arith

pub truth_word : (b : Bool) → as_word b < 2 ^ 32
truth_word true = omega arith
truth_word false = omega arith

-- a number below 2 ^ 31 is itself as a signed one
pub signed_low : (x : ℕ) → x < 2 ^ 31 → signed x ≡ pos x
unfolding signed
signed_low x h = ap (λ b. cond b (pos x) (pos x -ℤ pos (2 ^ 32))) (lt-ltb x (2 ^ 31) h)

-- ---- each of a list

pub each_weaker : {A : Type 0} (P Q : A → Type 0) → ((x : A) → P x → Q x) → (xs : List A) → Each P xs → Each Q xs
each_weaker P Q f [] h = tt
each_weaker P Q f (x ∷ xs) h = (f x h.0, each_weaker P Q f xs h.1)

pub each_first : {A : Type 0} (P : A → Type 0) (xs ys : List A) → Each P (xs ++ ys) → Each P xs
each_first P [] ys h = tt
each_first P (x ∷ xs) ys h = (h.0, each_first P xs ys h.1)

pub each_right : {A : Type 0} (P : A → Type 0) (xs ys : List A) → Each P (xs ++ ys) → Each P ys
each_right P [] ys h = h
each_right P (x ∷ xs) ys h = each_right P xs ys h.1

pub each_is_all : {A : Type 0} (P : A → Type 0) (xs : List A) → Each P xs → All P xs
each_is_all P [] h = All-nil P
each_is_all P (x ∷ xs) h = All-cons P x xs h.0 (each_is_all P xs h.1)

-- ---- outcomes

pub same_next : (s u : State) → Next s ≡ Next u → s ≡ u
same_next s u e = cc

-- ---- depths

pub depth_number : (n : ℕ) → depth (tr.Number n) ≡ 1
depth_number n = ap depth (sym (rolls-Number n)) ∙ depth_roll (tree.Number n)

pub depth_temp : (t : ℕ) → depth (tr.Temp t) ≡ 1
depth_temp t = ap depth (sym (rolls-Temp t)) ∙ depth_roll (tree.Temp t)

pub depth_global : (g : ℕ) → depth (tr.Global g) ≡ 1
depth_global g = ap depth (sym (rolls-Global g)) ∙ depth_roll (tree.Global g)

pub depth_function : (f : ℕ) → depth (tr.Function f) ≡ 1
depth_function f = ap depth (sym (rolls-Function f)) ∙ depth_roll (tree.Function f)

pub depth_unary : (o : ℕ) (a : Tree) → depth (tr.Unary o a) ≡ suc (depth a)
depth_unary o a = ap depth (sym (rolls-Unary o a)) ∙ depth_roll (tree.Unary o a)

pub depth_binary : (o : ℕ) (a b : Tree) → depth (tr.Binary o a b) ≡ suc (max (depth a) (depth b))
depth_binary o a b = ap depth (sym (rolls-Binary o a b)) ∙ depth_roll (tree.Binary o a b)

pub depth_narrow : (k : Kind) (a : Tree) → depth (tr.Narrow k a) ≡ suc (depth a)
depth_narrow k a = ap depth (sym (rolls-Narrow k a)) ∙ depth_roll (tree.Narrow k a)
