-- An expression names own switches alone where the globals that it names are no others.
use Rattle.std.proofs.Common.{◌≡◌, ℕ, Bool, true, false, ◌&&◌, refl, sym, ◌∙◌, ap, List, [], ◌∷◌, map}
use Rattle.std.proofs.lemmas.List.{map-append}
use Rattle.mv_ast.specs.declared.program.Program.{Program}
use Rattle.mv_ast.specs.declared.program.Function.{Function}
use Rattle.mv_ast.specs.declared.program.Expr.{Expr}
use Rattle.mv_ast.specs.declared.program.Form.{Form, Form-F, map-Form, fold-Form}
use Rattle.mv_ast.specs.declared.program.Form.TheOpen as form
use Rattle.mv_ast.specs.declared.program.Target.{Target, Target-F, map-Target, fold-Target}
use Rattle.mv_ast.specs.Layers.{form_parts}
use Rattle.mv_source_forms.specs.Lists.{all_of}
use Rattle.mv_source_forms.proofs.ExpressionFolds.{expr_fold, expr_folds, along_exprs}
use Rattle.mv_source_forms.proofs.ExpressionInduction.{FormChildren, TargetChildren}
use Rattle.mv_source_forms.specs.Scopes.{form_in, layer_in}
use Rattle.mv_source_forms.specs.Uses.{is_own, target_is_own, names_own}
use Rattle.mv_check_uses.specs.Uses.{form_layer, target_layer, expr_layer, expr_globals}
use Rattle.mv_check_uses.specs.Flags.{form_globals, target_globals}
use Rattle.mv_accepts_programs.proofs.SwitchLists.{cons, joined, all_own, own_concat, same_tests}

module _ (p : Program) (f : Function) where
  abbrev pub own : List ℕ → Bool
  own ns = all_own (is_own p f) ns

  abbrev form_test : Form → Bool
  form_test = fold-Form Bool Bool Bool form_in (target_is_own p f) layer_in

  abbrev target_test : Target → Bool
  target_test = fold-Target Bool Bool Bool form_in (target_is_own p f) layer_in

  abbrev P : Form → Type 0
  P x = form_test x ≡ own (form_globals x)

  abbrev Q : Target → Type 0
  Q x = target_test x ≡ own (target_globals x)

  abbrev pub S : Expr → Type 0
  S e = names_own p f e ≡ own (expr_globals e)

  -- ---- forms

  abbrev tests : Form-F Form Target Expr → Form-F Bool Bool Bool
  tests = map-Form Form Target Expr Bool Bool Bool form_test target_test (names_own p f)

  abbrev names : Form-F Form Target Expr → Form-F (List ℕ) (List ℕ) (List ℕ)
  names = map-Form Form Target Expr (List ℕ) (List ℕ) (List ℕ) form_globals target_globals expr_globals

  one : (a b : Bool) → a ≡ b → (a ∷ []) ≡ (b ∷ [])
  one a b h = cons a b [] [] h refl

  two : (a b c d : Bool) → a ≡ c → b ≡ d → (a ∷ b ∷ []) ≡ (c ∷ d ∷ [])
  two a b c d h k = cons a c (b ∷ []) (d ∷ []) h (one b d k)

  parts : (x : Form-F Form Target Expr) → FormChildren P Q S x → form_parts (tests x) ≡ map own (form_parts (names x))
  parts (form.Number n) h = refl
  parts (form.Read t) h = one _ _ h
  parts (form.Function g) h = refl
  parts (form.Unary op a) h = one _ _ h
  parts (form.Choose z a b) h = cons _ _ _ _ h.0 (two _ _ _ _ h.1 h.2)
  parts (form.Convert a) h = one _ _ h
  parts (form.After up t) h = one _ _ h
  parts (form.Direct g args) h = same_tests (is_own p f) (names_own p f) expr_globals args h
  parts (form.Through args callee) h =
      joined _ _ _ _ (same_tests (is_own p f) (names_own p f) expr_globals args h.0) (one _ _ h.1) ∙
      sym (map-append own (map expr_globals args) (expr_globals callee ∷ []))
  parts (form.Known k args) h = same_tests (is_own p f) (names_own p f) expr_globals args h
  parts x h = two _ _ _ _ h.0 h.1

  -- ---- lvalues

  target_tests : (x : Target-F Form Target Expr) → TargetChildren P Q S x →
      target_is_own p f (map-Target Form Target Expr Bool Bool Bool form_test target_test (names_own p f) x) ≡
      own (target_layer (map-Target Form Target Expr (List ℕ) (List ℕ) (List ℕ) form_globals target_globals expr_globals x))
  target_tests (form.Global g) h = just (is_own p f g)
    where
      just : (b : Bool) → b ≡ (b && all_of [])
      just true = refl
      just false = refl
  target_tests (form.Local l) h = refl
  target_tests (form.GlobalAt g e) h = ap (λ b. is_own p f g && b) h
  target_tests (form.LocalAt l e) h = h

  pub expr_owns : (e : Expr) → S e
  unfolding form_globals target_globals expr_globals
  expr_owns =
      along_exprs (expr_folds (expr_fold form_in (target_is_own p f) layer_in) (expr_fold form_layer target_layer expr_layer)) (λ x v. v.0 ≡ own v.1) (λ x v. v.0 ≡ own v.1) (λ e v. v.0 ≡ own v.1)
      (λ x h. ap all_of (parts x h) ∙ sym (own_concat (is_own p f) (form_parts (names x)))) target_tests (λ x h. h)
