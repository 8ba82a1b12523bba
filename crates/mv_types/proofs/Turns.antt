-- What the failure of one part shows of all parts in their order.
use Rattle.std.proofs.Common.{◌≡◌, ℕ, ◌+◌, ◌<◌, List, ◌∷◌, length, get_or, drop, sym, ◌∙◌, ap, Err}
use Rattle.std.proofs.lemmas.List.{drop_more}
use Rattle.mv_check_expressions.specs.declared.error.RuleError.{RuleError}
use Rattle.mv_check_expressions.specs.declared.error.RuleError.TheVariants as error
use Rattle.mv_check_expressions.specs.Judged.{Judged, and_then}
use Rattle.mv_check_declarations.specs.Turns.{through}
use Rattle.mv_types.specs.declared.contents.Contents.{Contents}
use Rattle.mv_types.specs.Contents.{IsContinued}

pub part_failed : {X : Type 0} (step : X → Contents → Judged Contents) (total : Judged Contents) (xs : List X) (i : ℕ) (c : Contents) → total ≡ through step (drop i xs) c →
    (x : X) (e : RuleError) (c1 c2 : Contents) → i < length xs → x ≡ get_or xs i x → IsContinued (step x c) (Err e) c1 → IsContinued total (Err e) c2
part_failed step total xs i c so_far x (error.Rule place rule) c1 c2 lt is h = record {
  shown =
      so_far ∙
      (ap (λ ys. through step ys c) (drop_more xs i x lt ∙ ap (λ y. y ∷ drop (i + 1) xs) (sym is)) ∙ ap (λ j. and_then j (through step (drop (i + 1) xs))) h.shown);
}
part_failed step total xs i c so_far x error.Memory c1 c2 lt is h = record { shown = tt }
