-- The names of one item more.
use Rattle.std.proofs.Common.{◌≡◌, ◌∙◌, ℕ, ap, sym, ◌+◌, ◌<◌, ◌++◌, length, take, get_or, List, [], ◌∷◌}
use Rattle.std.proofs.lemmas.List.{take_more, append-nil}
use Rattle.std.proofs.lemmas.Grind.{flat_map-append}
use Rattle.std.proofs.lemmas.List.Sums.{fold-append}
use Rattle.mv_syntax.specs.declared.unit.Item.{Item}
use Rattle.mv_check_outline.specs.declared.outline.Wanted.{Wanted}
use Rattle.mv_check_outline.specs.Names.{with_name, with_names, each_once}
use Rattle.mv_check_outline.specs.Outlined.{names_in, all_names}

pub next_named : (w : Wanted) (is : List Item) (n : ℕ) (i : Item) → n < length is → i ≡ get_or is n i →
    with_names (each_once (all_names w (take n is))) (names_in w i) ≡ each_once (all_names w (take (n + 1) is))
next_named w is n i lt e =
    sym (ap (λ xs. each_once (all_names w xs)) (take_more is n i lt ∙ ap (λ x. take n is ++ x ∷ []) (sym e)) ∙
    (ap each_once (flat_map-append (names_in w) (take n is) (i ∷ []) ∙ ap (λ xs. all_names w (take n is) ++ xs) (append-nil (names_in w i))) ∙
    fold-append with_name [] (all_names w (take n is)) (names_in w i)))
