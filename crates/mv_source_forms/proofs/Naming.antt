-- Which expressions name a local, by their forms.
use Rattle.std.proofs.Common.{◌≡◌, ℕ, Bool, true, false, ◌||◌, List, [], ◌∷◌, ◌++◌, map, refl, ap, ◌∙◌}
use Rattle.mv_ast.specs.declared.program.Expr.{Expr, fold_out-Expr}
use Rattle.mv_ast.specs.declared.program.Form.{Form, Form-F, out-Form, map-Form, fold-Form, fold_out-Form}
use Rattle.mv_ast.specs.declared.program.Form.TheOpen as form
use Rattle.mv_ast.specs.declared.program.Target.{Target}
use Rattle.mv_ast.specs.Names.{any_of, names_local, target_names_local, form_names, target_names, inner_names}

any_of-append : (xs : List Bool) (y : Bool) → any_of (xs ++ y ∷ []) ≡ (any_of xs || y)
any_of-append [] true = refl
any_of-append [] false = refl
any_of-append (true ∷ xs) y = refl
any_of-append (false ∷ xs) y = any_of-append xs y

pub or_yes : (a b : Bool) → a ≡ true → a ≡ (a || b)
or_yes true b e = refl
or_yes false b e = cc

pub or_no : (a b : Bool) → a ≡ false → b ≡ (a || b)
or_no true b e = cc
or_no false b e = refl

module _ (l : ℕ) where
  names_lem : (e : Expr) (f : Form-F Form Target Expr) → out-Form e.what ≡ f →
      names_local l e ≡
      form_names (map-Form Form Target Expr Bool Bool Bool (fold-Form Bool Bool Bool form_names (target_names l) inner_names) (target_names_local l) (names_local l) f)
  names_lem e f h =
      fold_out-Expr Bool Bool Bool form_names (target_names l) inner_names e ∙
      (fold_out-Form Bool Bool Bool form_names (target_names l) inner_names e.what ∙
      ap (λ x. form_names (map-Form Form Target Expr Bool Bool Bool (fold-Form Bool Bool Bool form_names (target_names l) inner_names) (target_names_local l) (names_local l) x)) h)

  pub names-Direct : (e : Expr) (f : ℕ) (args : List Expr) → out-Form e.what ≡ form.Direct f args → names_local l e ≡ any_of (map (names_local l) args)
  names-Direct e f args h = names_lem e _ h

  pub names-Known : (e : Expr) (k : _) (args : List Expr) → out-Form e.what ≡ form.Known k args → names_local l e ≡ any_of (map (names_local l) args)
  names-Known e k args h = names_lem e _ h

  pub names-Through : (e : Expr) (args : List Expr) (callee : Expr) → out-Form e.what ≡ form.Through args callee →
      names_local l e ≡ (any_of (map (names_local l) args) || names_local l callee)
  names-Through e args callee h = names_lem e _ h ∙ any_of-append (map (names_local l) args) (names_local l callee)
