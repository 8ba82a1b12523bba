-- How the judgement on parts in their order comes from those on each.
use Rattle.std.proofs.Common.{◌≡◌, ℕ, ◌+◌, ◌<◌, List, ◌∷◌, length, get_or, drop, sym, ◌∙◌, ap, Err}
use Rattle.std.proofs.lemmas.List.{drop_more}
use Rattle.mv_syntax.specs.declared.place.Place.{Place}
use Rattle.mv_check_scope.specs.declared.scope.Scope.{Scope}
use Rattle.mv_check_expressions.specs.declared.error.RuleError.{RuleError}
use Rattle.mv_check_expressions.specs.declared.error.RuleError.TheVariants as error
use Rattle.mv_check_expressions.specs.Judged.{Judged, Broken, and_then}
use Rattle.mv_check_declarations.specs.Turns.{through, IsLeft}

module _ {S X : Type 0} (step : X → S → Judged S) (total : Judged S) (xs : List X) (i : ℕ) (s : S)
    (so_far : total ≡ through step (drop i xs) s) where
  here : (x : X) → i < length xs → x ≡ get_or xs i x → total ≡ and_then (step x s) (through step (drop (i + 1) xs))
  here x lt is = so_far ∙ ap (λ ys. through step ys s) (drop_more xs i x lt ∙ ap (λ y. y ∷ drop (i + 1) xs) (sym is))

  -- a part that breaks one
  pub broke : (x : X) → i < length xs → x ≡ get_or xs i x → (place : Place) (rule : ℕ) → step x s ≡ Broken place rule → total ≡ Broken place rule
  broke x lt is place rule bad = here x lt is ∙ ap (λ j. and_then j (through step (drop (i + 1) xs))) bad

-- what the failure of one part shows of all
module _ {X : Type 0} (step : X → Scope → Judged Scope) (total : Judged Scope) (xs : List X) (i : ℕ) (s : Scope)
    (so_far : total ≡ through step (drop i xs) s) where
  pub left_failed : (x : X) (e : RuleError) (s1 s2 : Scope) → i < length xs → x ≡ get_or xs i x → IsLeft (step x s) (Err e) s1 → IsLeft total (Err e) s2
  left_failed x (error.Rule place rule) s1 s2 lt is h = record { shown = broke step total xs i s so_far x lt is place rule h.shown }
  left_failed x error.Memory s1 s2 lt is h = record { shown = tt }
