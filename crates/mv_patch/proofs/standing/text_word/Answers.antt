use Rattle.std.proofs.Common.{◌≡◌, ℕ, ◌/◌, ◌<◌, ◌≤◌, ⊎_elim, List, length, slice_get, slice_index, unwrap_or, Option, sym, ap, ap₂, ◌∙◌}
use Rattle.std.proofs.lemmas.Bool.{cases_lt}
use Rattle.std.proofs.lemmas.List.{get_or_past}
use Rattle.std.proofs.lemmas.Option.{slice_get-get_or, slice_get_past}
use Rattle.mv_patch.proofs.standing.text_word.Goals as goal

or_zero : (xs : List ℕ) (i : ℕ) → unwrap_or (slice_get xs i) 0 ≡ slice_index xs i
or_zero xs i = ⊎_elim
    (λ (lt : i < length xs). ap (λ (o : Option ℕ). unwrap_or o 0) (slice_get-get_or xs i 0 lt))
    (λ (le : length xs ≤ i). ap (λ (o : Option ℕ). unwrap_or o 0) (slice_get_past xs i le) ∙ sym (get_or_past xs i 0 le))
    (cases_lt i (length xs))

pub returns : goal.returns
returns c =
    c.unwrap_or.ensures
    ∙ ap (λ (o : Option ℕ). unwrap_or o 0) (c.copied.ensures ∙ c.get.ensures ∙ ap₂ (λ (xs : List ℕ) (n : ℕ). slice_get xs (n / 4)) c.text.ensures.value c.saturating_sub-index.ensures)
    ∙ or_zero c.args.image.now.text _
