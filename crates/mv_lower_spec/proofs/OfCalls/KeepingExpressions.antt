-- Expressions leave the bindings as they are under a live attributed frame, where the functions that they call do.
use Rattle.std.proofs.Common.{ℕ, Bool, true, false, List, [], ◌∷◌, map, length, if◌then◌else◌, nat_eq, nat_lt, Option, Some, None}
use Rattle.std.specs.Prelude.{slice_index}
use Rattle.mv_num.specs.Words as word
use Rattle.mv_ir.proofs.Induction.{Each}
use Rattle.mv_ast.specs.declared.program.CType.{CType}
use Rattle.mv_ast.specs.declared.program.Program.{Program}
use Rattle.mv_ast.specs.declared.program.Expr.{Expr}
use Rattle.mv_ast.specs.declared.program.Form.{Form, Form-F}
use Rattle.mv_ast.specs.declared.program.Form.TheOpen as form
use Rattle.mv_ast.specs.declared.program.Target.{Target, Target-F}
use Rattle.mv_ast.specs.declared.program.Stmt.{Stmt}
use Rattle.mv_bindings.specs.declared.stop.Stop.TheVariants.{Trapped}
use Rattle.mv_ast.specs.Numbering.{function_of_number}
use Rattle.mv_ast.specs.Operators.{converted, unary_value, binary_value}
use Rattle.mv_ast.specs.Worlds.{stop}
use Rattle.mv_meaning.specs.declared.state.Lvalue.{Lvalue}
use Rattle.mv_meaning.specs.declared.state.Lvalue.TheVariants as lvalue
use Rattle.mv_meaning.specs.Meaning.{Evaluation, Context, Denotation, FormValue, truth_of, values_of, call_at, call_numbered, call_through, target_lvalue, form_value, expr_denotation, form_of, lvalue_of, denotation_of, value_of, callee_of}
use Rattle.mv_source_forms.proofs.ExpressionFolds.{ExprFolds, expr_fold, along_exprs}
use Rattle.mv_source_forms.proofs.ExpressionInduction.{FormChildren, TargetChildren}
use Rattle.mv_lower_spec.proofs.OfCalls.Keeping.{Keeps, keeps_give, keeps_stop, keeps_counted, keeps_either, keeps_unless, keeps_bind, keeps_read, keeps_read_as, keeps_store, keeps_trap, keeps_global, keeps_local, keeps_known}

-- ---- expressions

-- what calls do, and a loop from its start
pub record ContextKeeps (context : Context) : Type 0 where
  pub strays : Keeps context.stray
  pub calls : (f : ℕ) (vs : List ℕ) → Keeps (context.call f vs)
  pub loops : (s : Stmt) → Keeps (context.loop s)

module _ (p : Program) (context : Context) (keeps : ContextKeeps context) where
  keeps_call : (f : ℕ) (vs : List ℕ) → Keeps (call_at context f vs)
  keeps_call f vs = record { kept = λ frame w lives. (keeps_either (nat_lt w.depth 512) (context.call f vs) (stop (Trapped 4)) (keeps.calls f vs) (keeps_stop (Trapped 4))).kept frame w lives }

  keeps_numbered : (t : CType) (f : Option ℕ) (vs : List ℕ) → Keeps (call_numbered context t f vs)
  keeps_numbered t None vs = keeps.strays
  keeps_numbered t (Some f) vs = keeps_either (context.lets t f (length vs)) (call_at context f vs) context.stray (keeps_call f vs) keeps.strays

  keeps_through : (t : CType) (v : ℕ) (vs : List ℕ) → Keeps (call_through context t v vs)
  keeps_through t v vs =
      keeps_either (nat_eq v 0) (stop (Trapped 3)) (call_numbered context t (function_of_number context.numbers v) vs) (keeps_stop (Trapped 3)) (keeps_numbered t (function_of_number context.numbers v) vs)

  abbrev P : Form → Type 0
  P f = (called : Bool) (t : CType) → Keeps (form_of p context f called t)

  abbrev Q : Target → Type 0
  Q x = Keeps (lvalue_of p context x)

  abbrev S : Expr → Type 0
  S e = Keeps (value_of p context e) × Keeps (callee_of p context e)

  keeps_values : (es : List Expr) → Each S es → Keeps (values_of (map (denotation_of p context) es))
  keeps_values [] h = keeps_give []
  keeps_values (e ∷ es) h = keeps_bind _ _ h.0.0 (λ v. keeps_bind _ _ (keeps_values es h.1) (λ vs. keeps_give (v ∷ vs)))

  abbrev meant : ExprFolds FormValue (Evaluation Lvalue) Denotation
  meant = expr_fold (form_value p context) target_lvalue expr_denotation

  layer : (x : Form-F Form Target Expr) → FormChildren P Q S x → (called : Bool) (t : CType) → Keeps (meant.form_layer x called t)
  layer (form.Number n) h called t = keeps_give n
  layer (form.Read target) h called t = keeps_bind _ _ h (keeps_read_as p context.numbers called)
  layer (form.Function f) h called t = keeps_give (slice_index context.numbers f)
  layer (form.Unary op a) h called t = keeps_bind _ _ h.0 (λ v. keeps_give (unary_value op v))
  layer (form.Binary op a c) h called t = keeps_bind _ _ h.0.0 (λ x. keeps_bind _ _ h.1.0 (λ y. keeps_trap (binary_value op (denotation_of p context a).ctype x y)))
  layer (form.Both a c) h called t = keeps_bind _ _ h.0.0 (λ x. keeps_unless x _ _ (keeps_give 0) (keeps_bind _ _ h.1.0 (λ y. keeps_give (truth_of y))))
  layer (form.Either a c) h called t = keeps_bind _ _ h.0.0 (λ x. keeps_unless x _ _ (keeps_bind _ _ h.1.0 (λ y. keeps_give (truth_of y))) (keeps_give 1))
  layer (form.Choose x a c) h called t = keeps_bind _ _ h.0.0 (λ v. keeps_unless v _ _ h.2.0 h.1.0)
  layer (form.Convert a) h called t = keeps_bind _ _ h.0 (λ v. keeps_give (converted t v))
  layer (form.Set target a) h called t = keeps_bind _ _ h.0 (λ s. keeps_bind _ _ h.1.0 (keeps_store s))
  layer (form.Change op kind target a) h called t =
      keeps_bind _ _ h.0 (λ s. keeps_bind _ _ h.1.0 (λ v. keeps_bind _ _ (keeps_read p s) (λ old.
      keeps_bind _ _ (keeps_trap (binary_value op kind old v)) (λ new. keeps_store s (converted t new)))))
  layer (form.After up target) h called t =
      keeps_bind _ _ h (λ s. keeps_bind _ _ (keeps_read p s) (λ old.
      keeps_bind _ _ (keeps_store s (converted t (if up then word.add old 1 else word.sub old 1))) (λ new. keeps_give old)))
  layer (form.Direct f args) h called t = keeps_bind _ _ (keeps_values args h) (keeps_call f)
  layer (form.Through args callee) h called t = keeps_bind _ _ (keeps_values args h.0) (λ vs. keeps_bind _ _ h.1.1 (λ v. keeps_through t v vs))
  layer (form.Known k args) h called t = keeps_bind _ _ (keeps_values args h) (keeps_known p context.numbers k)

  target_layer : (x : Target-F Form Target Expr) → TargetChildren P Q S x → Keeps (meant.target_layer x)
  target_layer (form.Global g) h = keeps_give (lvalue.Global g 0)
  target_layer (form.Local l) h = keeps_give (lvalue.Local l 0)
  target_layer (form.GlobalAt g e) h = keeps_bind _ _ h.0 (keeps_global g)
  target_layer (form.LocalAt l e) h = keeps_bind _ _ h.0 (keeps_local l)

  pub keeps_value : (e : Expr) → Keeps (value_of p context e)
  keeps_value e =
      (along_exprs meant (λ f d. (called : Bool) (t : CType) → Keeps (d called t)) (λ x d. Keeps d) (λ e d. Keeps d.value × Keeps d.callee) layer target_layer
      (λ x h. (keeps_counted 1 (form_of p context x.what false x.ctype) (h false x.ctype), keeps_counted 1 (form_of p context x.what true x.ctype) (h true x.ctype))) e).0
