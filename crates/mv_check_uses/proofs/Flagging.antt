-- Flags that are set for some numbers.
use Rattle.std.proofs.Common.{◌≡◌, ℕ, ◌+◌, ◌<◌, Bool, List, [], ◌∷◌, ◌++◌, map, take, length, get_or, sym, ap, ◌∙◌, append-nil}
use Rattle.std.specs.List.{concat}
use Rattle.std.proofs.lemmas.List.{take_more, map-append}
use Rattle.std.proofs.lemmas.List.Folds.{concat-append}
use Rattle.mv_ast.specs.Flags.{flagged}
use Rattle.mv_ast.proofs.Flags.{flagged_both}

-- the numbers of one item more
pub concat_push : {A : Type 0} (f : A → List ℕ) (xs : List A) (i : ℕ) (x : A) → i < length xs → x ≡ get_or xs i x → concat (map f (take (i + 1) xs)) ≡ concat (map f (take i xs)) ++ f x
concat_push f xs i x h e =
    ap (λ l. concat (map f l)) (take_more xs i x h ∙ ap (λ y. take i xs ++ y ∷ []) (sym e)) ∙
    (ap concat (map-append f (take i xs) (x ∷ [])) ∙
    (concat-append (map f (take i xs)) (f x ∷ []) ∙ ap (λ l. concat (map f (take i xs)) ++ l) (append-nil (f x))))

pub flagged_push : {A : Type 0} (f : A → List ℕ) (xs : List A) (i : ℕ) (x : A) (flags : List Bool) → i < length xs → x ≡ get_or xs i x →
    flagged (concat (map f (take (i + 1) xs))) flags ≡ flagged (f x) (flagged (concat (map f (take i xs))) flags)
flagged_push f xs i x flags h e = ap (λ l. flagged l flags) (concat_push f xs i x h e) ∙ flagged_both (concat (map f (take i xs))) (f x) flags
