-- How well-typed expressions are built.
use Rattle.std.proofs.Common.{◌≡◌, ℕ, refl, sym, ◌∙◌, ap, subst, Bool, List, [], ◌∷◌, map}
use Rattle.mv_ast.specs.declared.program.CType.{CType}
use Rattle.mv_ast.specs.declared.program.Known.{Known}
use Rattle.mv_ast.specs.declared.program.Program.{Program}
use Rattle.mv_ast.specs.declared.program.Function.{Function}
use Rattle.mv_ast.specs.declared.program.Expr.{Expr}
use Rattle.mv_ast.specs.declared.program.Form.{Form, Form-F, roll-Form, out-Form, roll-out-Form}
use Rattle.mv_ast.specs.declared.program.Form.TheVariants as form
use Rattle.mv_ast.specs.declared.program.Form.TheVariants.{outs-Number, outs-Read, outs-Function, outs-Unary, outs-Binary, outs-Both, outs-Either, outs-Choose, outs-Convert, outs-Set, outs-Change, outs-After, outs-Direct, outs-Through, outs-Known}
use Rattle.mv_ast.specs.declared.program.Form.TheOpen as open_form
use Rattle.mv_ast.specs.declared.program.Target.{Target, Target-F, roll-Target, out-Target, roll-out-Target}
use Rattle.mv_ast.specs.declared.program.Target.TheVariants as target
use Rattle.mv_ast.specs.declared.program.Target.TheVariants.{outs-Global, outs-Local, outs-GlobalAt, outs-LocalAt}
use Rattle.mv_check_scope.specs.Conversions.{typed}
use Rattle.mv_source_forms.specs.Typing.{HasType, IsTypedExpr}
use Rattle.mv_source_forms.proofs.TypedParts.{TypedTarget, AllTyped, FormTyped, TargetTyped, ExprTyped, whole_form, whole_target, expr_made, target_made}

module _ (p : Program) (f : Function) where
  made : (t : CType) (w : Form) (z : Form-F Form Target Expr) → out-Form w ≡ z →
      (y : Form-F (FormTyped p f) (TargetTyped p f) (ExprTyped p f)) → whole_form p f y ≡ z → HasType p f t z → IsTypedExpr p f (typed t w)
  made t w z o y e h = subst (λ x. IsTypedExpr p f (typed t x)) (sym (ap roll-Form o) ∙ roll-out-Form w) (expr_made p f t z y e h)

  pub unary_made : (t : CType) (op : ℕ) (a : Expr) → IsTypedExpr p f a → HasType p f t (open_form.Unary op a) → IsTypedExpr p f (typed t (form.Unary op a))
  unary_made t op a h k = made t (form.Unary op a) (open_form.Unary op a) (outs-Unary op a) (open_form.Unary op (a, h)) refl k

  pub number_made : (t : CType) (n : ℕ) → HasType p f t (open_form.Number n) → IsTypedExpr p f (typed t (form.Number n))
  number_made t n k = made t (form.Number n) (open_form.Number n) (outs-Number n) (open_form.Number n) refl k

  pub function_made : (t : CType) (g : ℕ) → HasType p f t (open_form.Function g) → IsTypedExpr p f (typed t (form.Function g))
  function_made t g k = made t (form.Function g) (open_form.Function g) (outs-Function g) (open_form.Function g) refl k

  pub read_made : (t : CType) (l : Target) → TypedTarget p f l → HasType p f t (open_form.Read l) → IsTypedExpr p f (typed t (form.Read l))
  read_made t l h k = made t (form.Read l) (open_form.Read l) (outs-Read l) (open_form.Read (l, h)) refl k

  pub binary_made : (t : CType) (op : ℕ) (a b : Expr) → IsTypedExpr p f a → IsTypedExpr p f b → HasType p f t (open_form.Binary op a b) → IsTypedExpr p f (typed t (form.Binary op a b))
  binary_made t op a b h i k = made t (form.Binary op a b) (open_form.Binary op a b) (outs-Binary op a b) (open_form.Binary op (a, h) (b, i)) refl k

  pub both_made : (t : CType) (a b : Expr) → IsTypedExpr p f a → IsTypedExpr p f b → HasType p f t (open_form.Both a b) → IsTypedExpr p f (typed t (form.Both a b))
  both_made t a b h i k = made t (form.Both a b) (open_form.Both a b) (outs-Both a b) (open_form.Both (a, h) (b, i)) refl k

  pub either_made : (t : CType) (a b : Expr) → IsTypedExpr p f a → IsTypedExpr p f b → HasType p f t (open_form.Either a b) → IsTypedExpr p f (typed t (form.Either a b))
  either_made t a b h i k = made t (form.Either a b) (open_form.Either a b) (outs-Either a b) (open_form.Either (a, h) (b, i)) refl k

  pub choose_made : (t : CType) (c a b : Expr) → IsTypedExpr p f c → IsTypedExpr p f a → IsTypedExpr p f b → HasType p f t (open_form.Choose c a b) → IsTypedExpr p f (typed t (form.Choose c a b))
  choose_made t c a b g h i k = made t (form.Choose c a b) (open_form.Choose c a b) (outs-Choose c a b) (open_form.Choose (c, g) (a, h) (b, i)) refl k

  pub convert_made : (t : CType) (a : Expr) → IsTypedExpr p f a → HasType p f t (open_form.Convert a) → IsTypedExpr p f (typed t (form.Convert a))
  convert_made t a h k = made t (form.Convert a) (open_form.Convert a) (outs-Convert a) (open_form.Convert (a, h)) refl k

  pub set_made : (t : CType) (l : Target) (a : Expr) → TypedTarget p f l → IsTypedExpr p f a → HasType p f t (open_form.Set l a) → IsTypedExpr p f (typed t (form.Set l a))
  set_made t l a h i k = made t (form.Set l a) (open_form.Set l a) (outs-Set l a) (open_form.Set (l, h) (a, i)) refl k

  pub change_made : (t : CType) (op : ℕ) (s : CType) (l : Target) (a : Expr) → TypedTarget p f l → IsTypedExpr p f a → HasType p f t (open_form.Change op s l a) →
      IsTypedExpr p f (typed t (form.Change op s l a))
  change_made t op s l a h i k = made t (form.Change op s l a) (open_form.Change op s l a) (outs-Change op s l a) (open_form.Change op s (l, h) (a, i)) refl k

  pub after_made : (t : CType) (up : Bool) (l : Target) → TypedTarget p f l → HasType p f t (open_form.After up l) → IsTypedExpr p f (typed t (form.After up l))
  after_made t up l h k = made t (form.After up l) (open_form.After up l) (outs-After up l) (open_form.After up (l, h)) refl k

  -- ---- with arguments

  together : (es : List Expr) → AllTyped p f es → List (ExprTyped p f)
  together [] h = []
  together (e ∷ es) h = (e, h.0) ∷ together es h.1

  apart : (es : List Expr) (h : AllTyped p f es) → map (λ (a : ExprTyped p f). a.0) (together es h) ≡ es
  unfolding together
  apart [] h = refl
  apart (e ∷ es) h = rw (apart es h.1) refl

  pub direct_made : (t : CType) (g : ℕ) (args : List Expr) → AllTyped p f args → HasType p f t (open_form.Direct g args) → IsTypedExpr p f (typed t (form.Direct g args))
  direct_made t g args h k = made t (form.Direct g args) (open_form.Direct g args) (outs-Direct g args) (open_form.Direct g (together args h)) (rw (apart args h) refl) k

  pub through_made : (t : CType) (args : List Expr) (c : Expr) → AllTyped p f args → IsTypedExpr p f c → HasType p f t (open_form.Through args c) →
      IsTypedExpr p f (typed t (form.Through args c))
  through_made t args c h i k = made t (form.Through args c) (open_form.Through args c) (outs-Through args c) (open_form.Through (together args h) (c, i)) (rw (apart args h) refl) k

  pub known_made : (t : CType) (known : Known) (args : List Expr) → AllTyped p f args → HasType p f t (open_form.Known known args) → IsTypedExpr p f (typed t (form.Known known args))
  known_made t known args h k = made t (form.Known known args) (open_form.Known known args) (outs-Known known args) (open_form.Known known (together args h)) (rw (apart args h) refl) k

  -- ---- lvalues

  made_target : (l : Target) (z : Target-F Form Target Expr) → out-Target l ≡ z →
      (y : Target-F (FormTyped p f) (TargetTyped p f) (ExprTyped p f)) → whole_target p f y ≡ z → TypedTarget p f l
  made_target l z o y e = subst (TypedTarget p f) (sym (ap roll-Target o) ∙ roll-out-Target l) (target_made p f z y e)

  pub global_made : (g : ℕ) → TypedTarget p f (target.Global g)
  global_made g = made_target (target.Global g) (open_form.Global g) (outs-Global g) (open_form.Global g) refl

  pub local_made : (l : ℕ) → TypedTarget p f (target.Local l)
  local_made l = made_target (target.Local l) (open_form.Local l) (outs-Local l) (open_form.Local l) refl

  pub global_at_made : (g : ℕ) (i : Expr) → IsTypedExpr p f i → TypedTarget p f (target.GlobalAt g i)
  global_at_made g i h = made_target (target.GlobalAt g i) (open_form.GlobalAt g i) (outs-GlobalAt g i) (open_form.GlobalAt g (i, h)) refl

  pub local_at_made : (l : ℕ) (i : Expr) → IsTypedExpr p f i → TypedTarget p f (target.LocalAt l i)
  local_at_made l i h = made_target (target.LocalAt l i) (open_form.LocalAt l i) (outs-LocalAt l i) (open_form.LocalAt l (i, h)) refl
