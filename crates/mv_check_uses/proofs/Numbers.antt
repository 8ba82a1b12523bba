-- The numbers of the switches whose globals are flagged.
use Rattle.std.proofs.Common.{◌≡◌, ℕ, suc, ◌+◌, ◌<◌, ◌≤◌, Bool, true, false, cond, List, [], ◌∷◌, ◌++◌, map, take, length, get_or, refl, sym, ap, ◌∙◌, arith, append-nil}
use Rattle.std.proofs.lemmas.List.{take_more, length-take-le}
use Rattle.mv_ast.specs.declared.program.Switch.{Switch}
use Rattle.mv_ast.specs.declared.program.Stmt.{Stmt}
use Rattle.mv_ast.specs.Counts.{greatest}
use Rattle.mv_num.specs.Lists.{is_among}
use Rattle.mv_ast.specs.Flags.{is_set, flagged}
use Rattle.mv_ast.proofs.Flags.{set_from_none}
use Rattle.mv_check_uses.specs.Uses.{numbers_from, switches_named}
use Rattle.mv_check_uses.specs.Flags.{no_flags, stmts_globals}

-- ---- one switch more

numbers_last : (f : ℕ → Bool) (n m : ℕ) (xs : List Switch) (x : Switch) → n + length xs ≡ m → numbers_from f n (xs ++ x ∷ []) ≡ numbers_from f n xs ++ cond (f x.global) (m ∷ []) []
numbers_last f n m [] x e = by (f x.global)
  where
    same : n ≡ m
    same = omega arith

    by : (b : Bool) → cond b (n ∷ []) [] ≡ cond b (m ∷ []) []
    by b = ap (λ k. cond b (k ∷ []) []) same
numbers_last f n m (y ∷ ys) x e = by (f y.global) (numbers_last f (suc n) m ys x (omega arith))
  where
    by : (b : Bool) → numbers_from f (suc n) (ys ++ x ∷ []) ≡ numbers_from f (suc n) ys ++ cond (f x.global) (m ∷ []) [] →
        cond b (n ∷ numbers_from f (suc n) (ys ++ x ∷ [])) (numbers_from f (suc n) (ys ++ x ∷ [])) ≡
        cond b (n ∷ numbers_from f (suc n) ys) (numbers_from f (suc n) ys) ++ cond (f x.global) (m ∷ []) []
    by true rest = ap (λ l. n ∷ l) rest
    by false rest = rest

numbers_more : (f : ℕ → Bool) (xs : List Switch) (i : ℕ) (x : Switch) → i < length xs → x ≡ get_or xs i x → numbers_from f 0 (take (i + 1) xs) ≡ numbers_from f 0 (take i xs) ++ cond (f x.global) (i ∷ []) []
numbers_more f xs i x h e =
    let long = length-take-le i xs (omega arith) in
    ap (λ l. numbers_from f 0 l) (take_more xs i x h ∙ ap (λ y. take i xs ++ y ∷ []) (sym e)) ∙ numbers_last f 0 i (take i xs) x (omega (arith, long))

pub number_more : (flags : List Bool) (xs : List Switch) (i : ℕ) (x : Switch) → i < length xs → x ≡ get_or xs i x → is_set flags x.global ≡ true →
    numbers_from (is_set flags) 0 (take (i + 1) xs) ≡ numbers_from (is_set flags) 0 (take i xs) ++ i ∷ []
number_more flags xs i x h e t = numbers_more (is_set flags) xs i x h e ∙ ap (λ b. numbers_from (is_set flags) 0 (take i xs) ++ cond b (i ∷ []) []) t

pub none_more : (flags : List Bool) (xs : List Switch) (i : ℕ) (x : Switch) → i < length xs → x ≡ get_or xs i x → is_set flags x.global ≡ false → numbers_from (is_set flags) 0 (take (i + 1) xs) ≡ numbers_from (is_set flags) 0 (take i xs)
none_more flags xs i x h e t =
    numbers_more (is_set flags) xs i x h e ∙ (ap (λ b. numbers_from (is_set flags) 0 (take i xs) ++ cond b (i ∷ []) []) t ∙ append-nil (numbers_from (is_set flags) 0 (take i xs)))

pub ruleset pushes = (number_more, none_more)

-- ---- the flags that the statements set

numbers_agree : (f h : ℕ → Bool) (top n : ℕ) (xs : List Switch) → greatest (map (λ s. s.global) xs) ≤ top → ((k : ℕ) → k ≤ top → f k ≡ h k) → numbers_from f n xs ≡ numbers_from h n xs
numbers_agree f h top n [] below same = refl
numbers_agree f h top n (x ∷ xs) below same =
    let here : f x.global ≡ h x.global = same x.global (omega arith) in
    let rest = numbers_agree f h top (suc n) xs (omega arith) same in
    ap (λ b. cond b (n ∷ numbers_from f (suc n) xs) (numbers_from f (suc n) xs)) here ∙ ap (λ l. cond (h x.global) (n ∷ l) l) rest

pub named_by_flags : (switches : List Switch) (body : List Stmt) → numbers_from (is_set (flagged (stmts_globals body) (no_flags switches))) 0 switches ≡ switches_named switches body
unfolding switches_named
named_by_flags switches body =
    let top = greatest (map (λ s. s.global) switches) in
    numbers_agree (is_set (flagged (stmts_globals body) (no_flags switches))) (λ g. is_among g (stmts_globals body)) top 0 switches (omega arith)
    (λ k b. set_from_none (suc top) (stmts_globals body) k (omega arith))

pub ruleset named = named_by_flags
