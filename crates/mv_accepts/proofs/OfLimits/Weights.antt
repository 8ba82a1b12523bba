-- The nodes of each form of expression.
use Rattle.std.proofs.Common.{◌≡◌, ℕ, ◌+◌, Bool, ◌∙◌, ap, arith, List, [], ◌∷◌, map}
use Rattle.std.specs.Prelude.{sum}
use Rattle.std.proofs.lemmas.List.Sums.{sum_by-append}
use Rattle.mv_ast.specs.declared.program.CType.{CType}
use Rattle.mv_ast.specs.declared.program.Expr.{Expr, fold_out-Expr}
use Rattle.mv_ast.specs.declared.program.Form.{Form, Form-F, map-Form, out-Form, fold_out-Form}
use Rattle.mv_ast.specs.declared.program.Form.TheVariants as form
use Rattle.mv_ast.specs.declared.program.Form.TheVariants.{outs-Number, outs-Read, outs-Function, outs-Unary, outs-Binary, outs-Both, outs-Either, outs-Choose, outs-Convert, outs-Set, outs-Change, outs-After, outs-Direct, outs-Through, outs-Known}
use Rattle.mv_ast.specs.declared.program.Known.{Known}
use Rattle.mv_ast.specs.declared.program.Target.{Target, Target-F, map-Target, out-Target, fold_out-Target}
use Rattle.mv_ast.specs.declared.program.Target.TheVariants as target
use Rattle.mv_ast.specs.declared.program.Target.TheVariants.{outs-Global, outs-Local, outs-GlobalAt, outs-LocalAt}
use Rattle.mv_ast.specs.Counts.{form_sum, target_sum, one_more_than, expr_nodes, form_nodes, target_nodes}
use Rattle.mv_check_scope.specs.Conversions.{typed}

abbrev layer_of : Form-F Form Target Expr → ℕ
layer_of z = form_sum (map-Form Form Target Expr ℕ ℕ ℕ form_nodes target_nodes expr_nodes z)

abbrev target_layer_of : Target-F Form Target Expr → ℕ
target_layer_of z = target_sum (map-Target Form Target Expr ℕ ℕ ℕ form_nodes target_nodes expr_nodes z)

by_form : (t : CType) (w : Form) (z : Form-F Form Target Expr) → out-Form w ≡ z → expr_nodes (typed t w) ≡ 1 + layer_of z
by_form t w z o =
    fold_out-Expr ℕ ℕ ℕ form_sum target_sum one_more_than (typed t w) ∙
    ap (λ n. 1 + n) (fold_out-Form ℕ ℕ ℕ form_sum target_sum one_more_than w ∙ ap layer_of o)

by_target : (l : Target) (z : Target-F Form Target Expr) → out-Target l ≡ z → target_nodes l ≡ target_layer_of z
by_target l z o = fold_out-Target ℕ ℕ ℕ form_sum target_sum one_more_than l ∙ ap target_layer_of o

module _ (t : CType) where
  pub nodes_number : (n : ℕ) → expr_nodes (typed t (form.Number n)) ≡ 1
  nodes_number n = let h = by_form t _ _ (outs-Number n) in omega (arith, h)

  pub nodes_read : (l : Target) → expr_nodes (typed t (form.Read l)) ≡ 1 + target_nodes l
  nodes_read l = let h = by_form t _ _ (outs-Read l) in omega (arith, h)

  pub nodes_function : (g : ℕ) → expr_nodes (typed t (form.Function g)) ≡ 1
  nodes_function g = let h = by_form t _ _ (outs-Function g) in omega (arith, h)

  pub nodes_unary : (op : ℕ) (a : Expr) → expr_nodes (typed t (form.Unary op a)) ≡ 1 + expr_nodes a
  nodes_unary op a = let h = by_form t _ _ (outs-Unary op a) in omega (arith, h)

  pub nodes_binary : (op : ℕ) (a b : Expr) → expr_nodes (typed t (form.Binary op a b)) ≡ 1 + (expr_nodes a + expr_nodes b)
  nodes_binary op a b = let h = by_form t _ _ (outs-Binary op a b) in omega (arith, h)

  pub nodes_both : (a b : Expr) → expr_nodes (typed t (form.Both a b)) ≡ 1 + (expr_nodes a + expr_nodes b)
  nodes_both a b = let h = by_form t _ _ (outs-Both a b) in omega (arith, h)

  pub nodes_either : (a b : Expr) → expr_nodes (typed t (form.Either a b)) ≡ 1 + (expr_nodes a + expr_nodes b)
  nodes_either a b = let h = by_form t _ _ (outs-Either a b) in omega (arith, h)

  pub nodes_choose : (c a b : Expr) → expr_nodes (typed t (form.Choose c a b)) ≡ 1 + (expr_nodes c + (expr_nodes a + expr_nodes b))
  nodes_choose c a b = let h = by_form t _ _ (outs-Choose c a b) in omega (arith, h)

  pub nodes_convert : (a : Expr) → expr_nodes (typed t (form.Convert a)) ≡ 1 + expr_nodes a
  nodes_convert a = let h = by_form t _ _ (outs-Convert a) in omega (arith, h)

  pub nodes_set : (l : Target) (a : Expr) → expr_nodes (typed t (form.Set l a)) ≡ 1 + (target_nodes l + expr_nodes a)
  nodes_set l a = let h = by_form t _ _ (outs-Set l a) in omega (arith, h)

  pub nodes_change : (op : ℕ) (kind : CType) (l : Target) (a : Expr) → expr_nodes (typed t (form.Change op kind l a)) ≡ 1 + (target_nodes l + expr_nodes a)
  nodes_change op kind l a = let h = by_form t _ _ (outs-Change op kind l a) in omega (arith, h)

  pub nodes_after : (up : Bool) (l : Target) → expr_nodes (typed t (form.After up l)) ≡ 1 + target_nodes l
  nodes_after up l = let h = by_form t _ _ (outs-After up l) in omega (arith, h)

  pub nodes_direct : (g : ℕ) (args : List Expr) → expr_nodes (typed t (form.Direct g args)) ≡ 1 + sum (map expr_nodes args)
  nodes_direct g args = by_form t _ _ (outs-Direct g args)

  pub nodes_through : (args : List Expr) (e : Expr) → expr_nodes (typed t (form.Through args e)) ≡ 1 + (sum (map expr_nodes args) + expr_nodes e)
  nodes_through args e =
      let h = by_form t _ _ (outs-Through args e) in
      let s = sum_by-append (λ x. x) (map expr_nodes args) (expr_nodes e ∷ []) in
      omega (arith, h, s)

  pub nodes_known : (k : Known) (args : List Expr) → expr_nodes (typed t (form.Known k args)) ≡ 1 + sum (map expr_nodes args)
  nodes_known k args = by_form t _ _ (outs-Known k args)

pub nodes_global : (g : ℕ) → target_nodes (target.Global g) ≡ 0
nodes_global g = by_target _ _ (outs-Global g)

pub nodes_local : (l : ℕ) → target_nodes (target.Local l) ≡ 0
nodes_local l = by_target _ _ (outs-Local l)

pub nodes_global_at : (g : ℕ) (i : Expr) → target_nodes (target.GlobalAt g i) ≡ expr_nodes i
nodes_global_at g i = let h = by_target _ _ (outs-GlobalAt g i) in omega (arith, h)

pub nodes_local_at : (l : ℕ) (i : Expr) → target_nodes (target.LocalAt l i) ≡ expr_nodes i
nodes_local_at l i = let h = by_target _ _ (outs-LocalAt l i) in omega (arith, h)
