-- What expressions name, form by form.
use Rattle.std.proofs.Common.{◌≡◌, ℕ, ◌+◌, ◌<◌, Bool, true, List, [], ◌∷◌, ◌++◌, map, take, length, get_or, Some, None, refl, ap, ◌∙◌, append-nil}
use Rattle.std.specs.Prelude.{slice_set}
use Rattle.std.proofs.lemmas.List.Folds.{concat-append}
use Rattle.mv_ast.specs.declared.program.CType.{CType}
use Rattle.mv_ast.specs.declared.program.Known.{Known}
use Rattle.mv_ast.specs.declared.program.Expr.{Expr, fold_out-Expr}
use Rattle.mv_ast.specs.declared.program.Form.{Form, Form-F, out-Form, map-Form, fold_out-Form}
use Rattle.mv_ast.specs.declared.program.Form as at
use Rattle.mv_ast.specs.declared.program.Form.TheVariants.{outs-Number, outs-Read, outs-Function, outs-Unary, outs-Binary, outs-Both, outs-Either, outs-Choose, outs-Convert, outs-Set, outs-Change, outs-After, outs-Direct, outs-Through, outs-Known}
use Rattle.mv_ast.specs.declared.program.Target.{Target, Target-F, out-Target, map-Target, fold_out-Target}
use Rattle.mv_ast.specs.declared.program.Target as target
use Rattle.mv_ast.specs.declared.program.Target.TheVariants.{outs-Global, outs-Local, outs-GlobalAt, outs-LocalAt}
use Rattle.mv_ast.specs.Flags.{flagged}
use Rattle.mv_ast.proofs.Flags.{flagged_both}
use Rattle.mv_check_uses.specs.Uses.{form_layer, target_layer, expr_layer, expr_globals}
use Rattle.mv_check_uses.specs.Flags.{form_globals, target_globals, exprs_globals, optional_globals}
use Rattle.mv_check_uses.proofs.Flagging.{flagged_push}

-- ---- expressions

pub expr_is : (e : Expr) → expr_globals e ≡ form_globals e.what
unfolding expr_globals form_globals
expr_is e = fold_out-Expr (List ℕ) (List ℕ) (List ℕ) form_layer target_layer expr_layer e

pub ruleset expressions = expr_is

pub exprs_push : (es : List Expr) (i : ℕ) (e : Expr) (flags : List Bool) → i < length es → e ≡ get_or es i e → flagged (exprs_globals (take (i + 1) es)) flags ≡ flagged (expr_globals e) (flagged (exprs_globals (take i es)) flags)
exprs_push es i e flags h is = flagged_push expr_globals es i e flags h is

pub exprs_none : (flags : List Bool) → flagged (exprs_globals []) flags ≡ flags
exprs_none flags = refl

pub ruleset pushes = (exprs_push, exprs_none)

one : (xs : List ℕ) (flags : List Bool) → flagged (xs ++ []) flags ≡ flagged xs flags
one xs flags = ap (λ l. flagged l flags) (append-nil xs)

two : (xs ys : List ℕ) (flags : List Bool) → flagged (xs ++ (ys ++ [])) flags ≡ flagged ys (flagged xs flags)
two xs ys flags = flagged_both xs (ys ++ []) flags ∙ one ys (flagged xs flags)

three : (xs ys zs : List ℕ) (flags : List Bool) → flagged (xs ++ (ys ++ (zs ++ []))) flags ≡ flagged zs (flagged ys (flagged xs flags))
three xs ys zs flags = flagged_both xs (ys ++ (zs ++ [])) flags ∙ two ys zs (flagged xs flags)

pub optional_some : (e : Expr) (flags : List Bool) → flagged (optional_globals (Some e)) flags ≡ flagged (expr_globals e) flags
optional_some e flags = one (expr_globals e) flags

pub optional_none : (flags : List Bool) → flagged (optional_globals None) flags ≡ flags
optional_none flags = refl

pub ruleset optionals = (optional_some, optional_none)

-- ---- targets

abbrev pub of_target : Target-F Form Target Expr → List ℕ
of_target x = target_layer (map-Target Form Target Expr (List ℕ) (List ℕ) (List ℕ) form_globals target_globals expr_globals x)

pub target_is : (t : Target) (x : Target-F Form Target Expr) → out-Target t ≡ x → target_globals t ≡ of_target x
unfolding form_globals target_globals expr_globals
target_is t x e = fold_out-Target (List ℕ) (List ℕ) (List ℕ) form_layer target_layer expr_layer t ∙ ap of_target e

pub target_global : (g : ℕ) (flags : List Bool) → flagged (target_globals (target.Global g)) flags ≡ slice_set flags g true
target_global g flags = ap (λ l. flagged l flags) (target_is _ _ (outs-Global g))

pub target_local : (l : ℕ) (flags : List Bool) → flagged (target_globals (target.Local l)) flags ≡ flags
target_local l flags = ap (λ ns. flagged ns flags) (target_is _ _ (outs-Local l))

pub target_global_at : (g : ℕ) (i : Expr) (flags : List Bool) → flagged (target_globals (target.GlobalAt g i)) flags ≡ flagged (expr_globals i) (slice_set flags g true)
target_global_at g i flags = ap (λ l. flagged l flags) (target_is _ _ (outs-GlobalAt g i))

pub target_local_at : (l : ℕ) (i : Expr) (flags : List Bool) → flagged (target_globals (target.LocalAt l i)) flags ≡ flagged (expr_globals i) flags
target_local_at l i flags = ap (λ ns. flagged ns flags) (target_is _ _ (outs-LocalAt l i))

pub ruleset targets = (target_global, target_local, target_global_at, target_local_at)

-- ---- forms

abbrev pub of_form : Form-F Form Target Expr → List ℕ
of_form x = form_layer (map-Form Form Target Expr (List ℕ) (List ℕ) (List ℕ) form_globals target_globals expr_globals x)

pub form_is : (f : Form) (x : Form-F Form Target Expr) → out-Form f ≡ x → form_globals f ≡ of_form x
unfolding form_globals target_globals expr_globals
form_is f x e = fold_out-Form (List ℕ) (List ℕ) (List ℕ) form_layer target_layer expr_layer f ∙ ap of_form e

module _ (flags : List Bool) where
  by : (f : Form) (x : Form-F Form Target Expr) → out-Form f ≡ x → flagged (form_globals f) flags ≡ flagged (of_form x) flags
  by f x e = ap (λ l. flagged l flags) (form_is f x e)

  pub form_number : (n : ℕ) → flagged (form_globals (at.Number n)) flags ≡ flags
  form_number n = by _ _ (outs-Number n)

  pub form_read : (t : Target) → flagged (form_globals (at.Read t)) flags ≡ flagged (target_globals t) flags
  form_read t = by _ _ (outs-Read t) ∙ one (target_globals t) flags

  pub form_function : (f : ℕ) → flagged (form_globals (at.Function f)) flags ≡ flags
  form_function f = by _ _ (outs-Function f)

  pub form_unary : (op : ℕ) (a : Expr) → flagged (form_globals (at.Unary op a)) flags ≡ flagged (expr_globals a) flags
  form_unary op a = by _ _ (outs-Unary op a) ∙ one (expr_globals a) flags

  pub form_binary : (op : ℕ) (a b : Expr) → flagged (form_globals (at.Binary op a b)) flags ≡ flagged (expr_globals b) (flagged (expr_globals a) flags)
  form_binary op a b = by _ _ (outs-Binary op a b) ∙ two (expr_globals a) (expr_globals b) flags

  pub form_both : (a b : Expr) → flagged (form_globals (at.Both a b)) flags ≡ flagged (expr_globals b) (flagged (expr_globals a) flags)
  form_both a b = by _ _ (outs-Both a b) ∙ two (expr_globals a) (expr_globals b) flags

  pub form_either : (a b : Expr) → flagged (form_globals (at.Either a b)) flags ≡ flagged (expr_globals b) (flagged (expr_globals a) flags)
  form_either a b = by _ _ (outs-Either a b) ∙ two (expr_globals a) (expr_globals b) flags

  pub form_choose : (z a b : Expr) → flagged (form_globals (at.Choose z a b)) flags ≡ flagged (expr_globals b) (flagged (expr_globals a) (flagged (expr_globals z) flags))
  form_choose z a b = by _ _ (outs-Choose z a b) ∙ three (expr_globals z) (expr_globals a) (expr_globals b) flags

  pub form_convert : (a : Expr) → flagged (form_globals (at.Convert a)) flags ≡ flagged (expr_globals a) flags
  form_convert a = by _ _ (outs-Convert a) ∙ one (expr_globals a) flags

  pub form_set : (t : Target) (a : Expr) → flagged (form_globals (at.Set t a)) flags ≡ flagged (expr_globals a) (flagged (target_globals t) flags)
  form_set t a = by _ _ (outs-Set t a) ∙ two (target_globals t) (expr_globals a) flags

  pub form_change : (op : ℕ) (kind : CType) (t : Target) (a : Expr) → flagged (form_globals (at.Change op kind t a)) flags ≡ flagged (expr_globals a) (flagged (target_globals t) flags)
  form_change op kind t a = by _ _ (outs-Change op kind t a) ∙ two (target_globals t) (expr_globals a) flags

  pub form_after : (up : Bool) (t : Target) → flagged (form_globals (at.After up t)) flags ≡ flagged (target_globals t) flags
  form_after up t = by _ _ (outs-After up t) ∙ one (target_globals t) flags

  pub form_direct : (f : ℕ) (args : List Expr) → flagged (form_globals (at.Direct f args)) flags ≡ flagged (exprs_globals args) flags
  form_direct f args = by _ _ (outs-Direct f args)

  pub form_through : (args : List Expr) (f : Expr) → flagged (form_globals (at.Through args f)) flags ≡ flagged (expr_globals f) (flagged (exprs_globals args) flags)
  form_through args f =
      by _ _ (outs-Through args f) ∙
      (ap (λ l. flagged l flags) (concat-append (map expr_globals args) (expr_globals f ∷ [])) ∙
      (flagged_both (exprs_globals args) (expr_globals f ++ []) flags ∙ one (expr_globals f) (flagged (exprs_globals args) flags)))

  pub form_known : (k : Known) (args : List Expr) → flagged (form_globals (at.Known k args)) flags ≡ flagged (exprs_globals args) flags
  form_known k args = by _ _ (outs-Known k args)

pub ruleset forms = (form_number, form_read, form_function, form_unary, form_binary, form_both, form_either, form_choose, form_convert, form_set, form_change, form_after, form_direct, form_through, form_known)
