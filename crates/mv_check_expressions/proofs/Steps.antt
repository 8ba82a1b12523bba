-- How the judgement on a whole comes from those on its parts.
use Rattle.std.proofs.Common.{◌≡◌, refl, sym, subst, Ok, Err, Result}
use Rattle.mv_check_expressions.specs.declared.error.RuleError.{RuleError}
use Rattle.mv_check_expressions.specs.declared.error.RuleError.TheVariants as error
use Rattle.mv_check_expressions.specs.Judged.{Judged, and_then, Shows, IsJudged}

module _ {A B : Type 0} (j : Judged A) (next : A → Judged B) where
  -- a part that breaks no rule
  pub then_ok : {a : A} {r : Result B RuleError} → IsJudged j (Ok a) → IsJudged (next a) r → IsJudged (and_then j next) r
  then_ok {a = a} {r = r} first rest =
      let P : Judged A → Type 0 = λ x. Shows (and_then x next) r in
      record { shown = subst P (sym first.shown) rest.shown }

  -- a part that breaks one
  pub then_err : (e : RuleError) → IsJudged j (Err e) → IsJudged (and_then j next) (Err e)
  then_err (error.Rule place rule) first =
      let P : Judged A → Type 0 = λ x. Shows (and_then x next) (Err (error.Rule place rule)) in
      record { shown = subst P (sym first.shown) refl }
  then_err error.Memory first = record { shown = tt }

-- along an equation
pub judged_as : {A : Type 0} {j k : Judged A} {r : Result A RuleError} → j ≡ k → IsJudged k r → IsJudged j r
judged_as {r = r} e h = let P : Judged _ → Type 0 = λ x. IsJudged x r in subst P (sym e) h
