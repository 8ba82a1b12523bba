-- The calls of attributed functions in an expression, by its forms.
use Rattle.std.proofs.Common.{◌≡◌, ℕ, ◌+◌, if◌then◌else◌, List, [], ◌∷◌, ◌++◌, map, arith, ap, ◌∙◌, slice_get}
use Rattle.std.specs.Prelude.{sum}
use Rattle.std.proofs.lemmas.List.Sums.{sum_by-append}
use Rattle.mv_ast.specs.declared.program.Program.{Program}
use Rattle.mv_ast.specs.declared.program.Expr.{Expr, fold_out-Expr}
use Rattle.mv_ast.specs.declared.program.Form.{Form, Form-F, out-Form, map-Form, fold-Form, fold_out-Form}
use Rattle.mv_ast.specs.declared.program.Form.TheOpen as form
use Rattle.mv_ast.specs.declared.program.Target.{Target}
use Rattle.mv_ast.specs.Counts.{expr_calls, target_calls, form_calls, target_sum, inner_calls, is_attributed}
use Rattle.mv_meaning.specs.Growth.{capped}

sum-append : (xs : List ℕ) (y : ℕ) → sum (xs ++ y ∷ []) ≡ sum xs + y
sum-append xs y = let h = sum_by-append (λ x. x) xs (y ∷ []) in omega (arith, h)

module _ (p : Program) where
  calls_lem : (e : Expr) (f : Form-F Form Target Expr) → out-Form e.what ≡ f →
      expr_calls p e ≡
      form_calls p (map-Form Form Target Expr ℕ ℕ ℕ (fold-Form ℕ ℕ ℕ (form_calls p) target_sum inner_calls) (target_calls p) (expr_calls p) f)
  calls_lem e f h =
      fold_out-Expr ℕ ℕ ℕ (form_calls p) target_sum inner_calls e ∙
      (fold_out-Form ℕ ℕ ℕ (form_calls p) target_sum inner_calls e.what ∙
      ap (λ x. form_calls p (map-Form Form Target Expr ℕ ℕ ℕ (fold-Form ℕ ℕ ℕ (form_calls p) target_sum inner_calls) (target_calls p) (expr_calls p) x)) h)

  pub calls-Direct : (e : Expr) (f : ℕ) (args : List Expr) → out-Form e.what ≡ form.Direct f args →
      expr_calls p e ≡ (if is_attributed (slice_get p.functions f) then 1 else 0) + sum (map (expr_calls p) args)
  calls-Direct e f args h = calls_lem e _ h

  pub calls-Through : (e : Expr) (args : List Expr) (callee : Expr) → out-Form e.what ≡ form.Through args callee →
      expr_calls p e ≡ sum (map (expr_calls p) args) + expr_calls p callee
  calls-Through e args callee h =
      let s = sum-append (map (expr_calls p) args) (expr_calls p callee) in
      let c = calls_lem e _ h in
      omega (arith, s, c)

pub capped_right : (a b : ℕ) → capped (a + capped b) ≡ capped (a + b)
capped_right a b = omega arith
