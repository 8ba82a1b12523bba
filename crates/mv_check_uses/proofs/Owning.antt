-- A switch that the statements of a function name is among its switches.
use Rattle.std.proofs.Common.{◌≡◌, ℕ, suc, Bool, true, false, cond, List, [], ◌∷◌, ◌++◌, map, length, Some, refl, sym, ap, ◌∙◌, subst, arith, length-append, append_assoc}
use Rattle.std.specs.Prelude.{◌||◌, nat_eq, slice_get}
use Rattle.std.specs.List.{concat}
use Rattle.std.proofs.lemmas.Bool.{eqb-true}
use Rattle.mv_ast.specs.declared.program.Switch.{Switch}
use Rattle.mv_ast.specs.declared.program.Stmt.{Stmt}
use Rattle.mv_num.specs.Lists.{is_among}
use Rattle.mv_ast.specs.Switches.{global_or_none}
use Rattle.mv_check_uses.specs.Uses.{numbers_from, switches_named, stmt_globals}
use Rattle.mv_num.proofs.Booleans.{or_true}

kept : (of_number : ℕ → ℕ) (g n : ℕ) (rest : List ℕ) (b : Bool) → is_among g (map of_number rest) ≡ true → is_among g (map of_number (cond b (n ∷ rest) rest)) ≡ true
kept of_number g n rest true h = ap (λ b. nat_eq g (of_number n) || b) h ∙ or_true (nat_eq g (of_number n))
kept of_number g n rest false h = h

found : (of_number : ℕ → ℕ) (g n : ℕ) (rest : List ℕ) (b : Bool) → b ≡ true → nat_eq g (of_number n) ≡ true → is_among g (map of_number (cond b (n ∷ rest) rest)) ≡ true
found of_number g n rest true e h = ap (λ b. b || is_among g (map of_number rest)) h
found of_number g n rest false e h = cc

here : (before after : List Switch) (s : Switch) → slice_get (before ++ s ∷ after) (length before) ≡ Some s
here [] after s = refl
here (x ∷ before) after s = here before after s

abbrev Owned : (ℕ → Bool) → ℕ → ℕ → List Switch → List Switch → Type 0
Owned f g n whole xs = is_among g (map (λ i. global_or_none (slice_get whole i)) (numbers_from f n xs)) ≡ true

owned : (f : ℕ → Bool) (g : ℕ) → f g ≡ true → (xs before : List Switch) (n : ℕ) → length before ≡ n → is_among g (map (λ s. s.global) xs) ≡ true → Owned f g n (before ++ xs) xs
owned f g named [] before n e h = cc
owned f g named (x ∷ xs) before n e h =
    by (nat_eq g x.global) refl
    (λ later.
    subst (λ (whole : List Switch). Owned f g (suc n) whole xs) (append_assoc before (x ∷ []) xs)
    (owned f g named xs (before ++ x ∷ []) (suc n) (let l = length-append before (x ∷ []) in omega (arith, l, e)) later))
  where
    at_n : global_or_none (slice_get (before ++ x ∷ xs) n) ≡ x.global
    at_n = ap (λ i. global_or_none (slice_get (before ++ x ∷ xs) i)) (sym e) ∙ ap global_or_none (here before xs x)

    by : (b : Bool) → nat_eq g x.global ≡ b → (is_among g (map (λ s. s.global) xs) ≡ true → Owned f g (suc n) (before ++ x ∷ xs) xs) → Owned f g n (before ++ x ∷ xs) (x ∷ xs)
    by true is later =
        found (λ i. global_or_none (slice_get (before ++ x ∷ xs) i)) g n (numbers_from f (suc n) xs) (f x.global)
        (ap f (sym (eqb-true g x.global is)) ∙ named) (ap (λ i. nat_eq g i) at_n ∙ is)
    by false is later =
        kept (λ i. global_or_none (slice_get (before ++ x ∷ xs) i)) g n (numbers_from f (suc n) xs) (f x.global)
        (later (ap (λ b. b || is_among g (map (λ s. s.global) xs)) (sym is) ∙ h))

pub own_switch : (switches : List Switch) (body : List Stmt) (g : ℕ) → is_among g (concat (map stmt_globals body)) ≡ true → is_among g (map (λ s. s.global) switches) ≡ true →
    is_among g (map (λ i. global_or_none (slice_get switches i)) (switches_named switches body)) ≡ true
unfolding switches_named
own_switch switches body g named is = owned (λ k. is_among k (concat (map stmt_globals body))) g named switches [] 0 refl is
