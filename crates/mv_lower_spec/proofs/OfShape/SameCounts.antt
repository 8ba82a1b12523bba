-- The weights of calls of attributed functions are the counts of these.
use Rattle.std.proofs.Common.{◌≡◌, ℕ, map, refl, ap}
use Rattle.std.specs.Prelude.{sum}
use Rattle.mv_ir.proofs.Rolls.{same_functions}
use Rattle.mv_ast.specs.declared.program.Program.{Program}
use Rattle.mv_ast.specs.declared.program.Function.{Function}
use Rattle.mv_ast.specs.declared.program.Expr.{fold-Expr}
use Rattle.mv_ast.specs.declared.program.Form.{Form-F}
use Rattle.mv_ast.specs.declared.program.Form.TheOpen as form
use Rattle.mv_ast.specs.Counts.{target_sum, inner_calls, form_calls, stmt_total}
use Rattle.mv_ast.specs.Counts as counts
use Rattle.mv_lower_spec.specs.Shape.Calls.{form_weights, function_weight, attributed_once}

same_own : (p : Program) (x : Form-F ℕ ℕ ℕ) → form_weights (attributed_once p) 0 x ≡ form_calls p x
same_own p (form.Number n) = refl
same_own p (form.Read t) = refl
same_own p (form.Function f) = refl
same_own p (form.Unary op a) = refl
same_own p (form.Binary op a b) = refl
same_own p (form.Both a b) = refl
same_own p (form.Either a b) = refl
same_own p (form.Choose a b c) = refl
same_own p (form.Convert a) = refl
same_own p (form.Set t a) = refl
same_own p (form.Change op kind t a) = refl
same_own p (form.After up t) = refl
same_own p (form.Direct f args) = refl
same_own p (form.Through args f) = refl
same_own p (form.Known k args) = refl

pub attributed_calls : (p : Program) (g : Function) → function_weight (attributed_once p) 0 g ≡ counts.calls p g
attributed_calls p g =
    ap (λ (l : Form-F ℕ ℕ ℕ → ℕ). sum (map (stmt_total (fold-Expr ℕ ℕ ℕ l target_sum inner_calls) (λ s. 0) (λ a. 0)) g.body))
    (same_functions (form_weights (attributed_once p) 0) (form_calls p) (same_own p))
