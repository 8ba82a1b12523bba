-- What holds of the state behind some parts, by the parts that are done.
use Rattle.std.proofs.Common.{sym, subst, List, [], ◌∷◌, ◌++◌}
use Rattle.std.specs.List.{AllByRecursion}
use Rattle.std.proofs.lemmas.List.{append_assoc, append-nil}
use Rattle.mv_check_expressions.specs.Judged.{Judged}
use Rattle.mv_check_declarations.specs.Turns.{through}
use Rattle.mv_accepts.proofs.OfStatements.Judging.{IfGood, if_then, if_more}

module _ {S X : Type 0} (step : X → S → Judged S) (I : List X → S → Type 0) (G : X → Type 0)
    (each : (done : List X) (x : X) → G x → (s : S) → I done s → IfGood (step x s) (I (done ++ x ∷ []))) where
  pub if_done : (xs : List X) → AllByRecursion G xs → (done : List X) (s : S) → I done s → IfGood (through step xs s) (I (done ++ xs))
  if_done [] h done s i = subst (λ ys. I ys s) (sym (append-nil done)) i
  if_done (x ∷ xs) h done s i =
      if_then (I (done ++ x ∷ [])) (I (done ++ x ∷ xs)) (step x s) (through step xs) (each done x h.0 s i) (λ t j.
      if_more (I ((done ++ x ∷ []) ++ xs)) (I (done ++ x ∷ xs)) (through step xs t) (λ u k. subst (λ ys. I ys u) (append_assoc done (x ∷ []) xs) k)
      (if_done xs h.1 (done ++ x ∷ []) t j))
