-- The greatest global of some switches.
use Rattle.std.proofs.Common.{◌≡◌, ℕ, ◌+◌, ◌<◌, List, [], ◌∷◌, ◌++◌, map, take, length, get_or, max, sym, ap, ◌∙◌, arith}
use Rattle.std.proofs.lemmas.List.{take_more}
use Rattle.mv_ast.specs.declared.program.Switch.{Switch}
use Rattle.mv_ast.specs.Counts.{greatest}

greatest_last : (xs : List Switch) (x : Switch) → greatest (map (λ s. s.global) (xs ++ x ∷ [])) ≡ max x.global (greatest (map (λ s. s.global) xs))
greatest_last [] x = omega arith
greatest_last (y ∷ ys) x = let h = greatest_last ys x in omega (arith, h)

pub greatest_more : (xs : List Switch) (i : ℕ) (x : Switch) → i < length xs → x ≡ get_or xs i x →
    greatest (map (λ s. s.global) (take (i + 1) xs)) ≡ max x.global (greatest (map (λ s. s.global) (take i xs)))
greatest_more xs i x h e = ap (λ l. greatest (map (λ s. s.global) l)) (take_more xs i x h ∙ ap (λ y. take i xs ++ y ∷ []) (sym e)) ∙ greatest_last (take i xs) x

pub ruleset greater = greatest_more
