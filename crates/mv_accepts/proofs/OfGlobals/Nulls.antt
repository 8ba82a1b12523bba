-- A constant of a pointer type is null: it comes to 0.
use Rattle.std.proofs.Common.{◌≡◌, ℕ, ◌⊎◌, inl, inr, Bool, true, false, sym, ◌∙◌, ap, subst, [], Option, Some, None, if◌then◌else◌, nat_eq}
use Rattle.mv_ast.specs.declared.program.CType.TheVariants.{Pointer}
use Rattle.mv_ast.specs.declared.program.Program.{Program}
use Rattle.mv_ast.specs.declared.program.Function.{Function}
use Rattle.mv_ast.specs.declared.program.Expr.{Expr, Expr-F, roll-Expr, map-Expr, ind-Expr}
use Rattle.mv_ast.specs.declared.program.Form.{Form, Form-F, roll-Form, out-Form, out-roll-Form, map-Form}
use Rattle.mv_ast.specs.declared.program.Form.TheOpen as form
use Rattle.mv_ast.specs.declared.program.Target.{Target, Target-F, roll-Target, map-Target}
use Rattle.mv_ast.specs.Operators.{converted}
use Rattle.mv_ast.specs.Worlds.{World, Came}
use Rattle.mv_check_scope.specs.Constants.{by_test, value_form, computed}
use Rattle.mv_meaning.specs.declared.state.Frame.{Frame}
use Rattle.mv_meaning.specs.Meaning.{context_at}
use Rattle.mv_source_forms.specs.Typing.{ComesTo, ConvertsTo, HasType}
use Rattle.mv_source_forms.proofs.TypedParts.{TypedExpr, FormParts, form_parts, expr_form, expr_node}
use Rattle.mv_accepts.proofs.OfExpressions.Computed.{from_one, layer_of, computed_is}

-- ---- what a computed value comes from

from_test : (r s t : Option ℕ) (v : ℕ) → by_test r s t ≡ Some v → (s ≡ Some v) ⊎ (t ≡ Some v)
from_test None s t v h = absurd (cc)
from_test (Some x) s t v h = by (nat_eq x 0) h
  where
    by : (b : Bool) → (if b then t else s) ≡ Some v → (s ≡ Some v) ⊎ (t ≡ Some v)
    by true g = inr g
    by false g = inl g

-- ---- by induction over the expression

module _ (p : Program) (f : Function) (comes : (e : Expr) (v : ℕ) → computed e ≡ Some v → ComesTo p e v) where
  -- an expression comes to one value
  one_value : (e : Expr) (m n : ℕ) → ComesTo p e m → ComesTo p e n → m ≡ n
  one_value e m n h k =
      let q : Came m frame world h.work ≡ Came n frame world k.work = sym (h.value (context_at p [] 0) frame world) ∙ k.value (context_at p [] 0) frame world in cc
    where
      frame : Frame
      frame = record { function = 0; locals = [] }

      world : World
      world = record { globals = []; hart = 0; depth = 0; live = 0; input = []; taken = 0; output = []; bindings = []; actions = []; log = [] }

  abbrev ExprNull : Expr → Type 0
  ExprNull e = TypedExpr p f e → (s : ℕ) → e.ctype ≡ Pointer s → (v : ℕ) → computed e ≡ Some v → v ≡ 0

  abbrev FormNull : Form → Type 0
  FormNull x = (e : Expr) → e.what ≡ x → ExprNull e

  abbrev TargetNull : Target → Type 0
  TargetNull t = Unit {0}

  abbrev F : Type 0
  F = (x : Form) × FormNull x

  abbrev T : Type 0
  T = (x : Target) × TargetNull x

  abbrev E : Type 0
  E = (x : Expr) × ExprNull x

  abbrev below : Form-F F T E → Form-F Form Target Expr
  below = map-Form F T E Form Target Expr (λ a. a.0) (λ a. a.0) (λ a. a.0)

  -- by its form, its type and the types of its parts
  module _ (s v : ℕ) where
    convert_null : (a : Expr) → ExprNull a → TypedExpr p f a → ConvertsTo p (Pointer s) a → (u : ℕ) → computed a ≡ Some u → u ≡ 0
    convert_null a k h (inl q) u w = k h s q u w
    convert_null a k h (inr q) u w = sym (one_value a 0 u q.1 (comes a u w))

    choose_null : (a b : Expr) → ExprNull a → ExprNull b → TypedExpr p f a → TypedExpr p f b → a.ctype ≡ Pointer s → b.ctype ≡ Pointer s →
        (computed a ≡ Some v) ⊎ (computed b ≡ Some v) → v ≡ 0
    choose_null a b k l h g q r (inl w) = k h s q v w
    choose_null a b k l h g q r (inr w) = l g s r v w

    by_form : (y : Form-F F T E) → FormParts p f (below y) → HasType p f (Pointer s) (below y) → value_form (layer_of (below y)) (Pointer s) ≡ Some v → v ≡ 0
    by_form (form.Number n) h t w = let q : n ≡ v = cc in sym q ∙ t
    by_form (form.Unary op a) h t w = absurd t.0
    by_form (form.Binary op a b) h t w = absurd t.0
    by_form (form.Both a b) h t w = absurd t
    by_form (form.Either a b) h t w = absurd t
    by_form (form.Choose c a b) h t w = choose_null a.0 b.0 a.1 b.1 h.1 h.2 t.0 t.1 (from_test (computed c.0) (computed a.0) (computed b.0) v w)
    by_form (form.Convert a) h t w =
        let r = from_one (computed a.0) (converted (Pointer s)) v w in sym r.2 ∙ convert_null a.0 a.1 h t r.0 r.1
    by_form x h t w = absurd (cc)

  form_case : (x : Form-F Form Target Expr) (y : Form-F F T E) → below y ≡ x → FormNull (roll-Form x)
  form_case x y q e w h s t v c =
      let o : out-Form e.what ≡ below y = ap out-Form w ∙ (out-roll-Form x ∙ sym q) in
      by_form s v y (subst (FormParts p f) o (form_parts p f e.what (expr_form p f e h)))
      (subst (λ z. HasType p f z (below y)) t (subst (HasType p f e.ctype) o (expr_node p f e h)))
      (subst (λ z. value_form (layer_of (below y)) z ≡ Some v) t (sym (computed_is e (below y) o) ∙ c))

  target_case : (x : Target-F Form Target Expr) (y : Target-F F T E) → map-Target F T E Form Target Expr (λ a. a.0) (λ a. a.0) (λ a. a.0) y ≡ x → TargetNull (roll-Target x)
  target_case x y q = tt

  expr_case : (x : Expr-F Form Target Expr) (y : Expr-F F T E) → map-Expr F T E Form Target Expr (λ a. a.0) (λ a. a.0) (λ a. a.0) y ≡ x → ExprNull (roll-Expr x)
  expr_case x y q = y.what.1 (roll-Expr x) (ap (λ (z : Expr-F Form Target Expr). z.what) (sym q))

  pub pointer_null : (e : Expr) → TypedExpr p f e → (s : ℕ) → e.ctype ≡ Pointer s → (v : ℕ) → computed e ≡ Some v → v ≡ 0
  pointer_null e = ind-Expr FormNull TargetNull ExprNull form_case target_case expr_case e
