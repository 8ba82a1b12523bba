-- Expressions that name declared locals alone come to the same in two contexts and two frames that hold the same in those.
use Rattle.std.proofs.Common.{◌≡◌, ℕ, ◌<◌, Bool, true, false, List, [], ◌∷◌, map, refl, ap}
use Rattle.std.specs.Prelude.{slice_index}
use Rattle.mv_ir.proofs.Induction.{Each}
use Rattle.mv_ast.specs.declared.program.CType.{CType}
use Rattle.mv_ast.specs.declared.program.Program.{Program}
use Rattle.mv_ast.specs.declared.program.Expr.{Expr}
use Rattle.mv_ast.specs.declared.program.Form.{Form, Form-F}
use Rattle.mv_ast.specs.declared.program.Form.TheOpen as form
use Rattle.mv_ast.specs.declared.program.Target.{Target, Target-F}
use Rattle.mv_bindings.specs.declared.stop.Stop.{Stop}
use Rattle.mv_bindings.specs.declared.stop.Stop.TheVariants.{Trapped}
use Rattle.mv_ast.specs.Operators.{converted, unary_value, binary_value}
use Rattle.mv_ast.specs.Worlds.{bind, give}
use Rattle.mv_meaning.specs.declared.state.Lvalue.{Lvalue}
use Rattle.mv_meaning.specs.declared.state.Lvalue.TheVariants as lvalue
use Rattle.mv_meaning.specs.Meaning.{Evaluation, Context, Denotation, FormValue, read_as, read_lvalue, store_lvalue, global_element, local_element, value_or_trap, unless_zero, truth_of, values_of, known_value, call_at, call_through, target_lvalue, form_value, expr_denotation, form_of, lvalue_of, denotation_of, value_of, callee_of}
use Rattle.mv_meaning.proofs.Equations.{ctype_of_lem}
use Rattle.mv_source_forms.specs.Lists.{all_of}
use Rattle.mv_source_forms.proofs.ExpressionFolds.{ExprFolds, expr_fold, expr_folds, expr_family, along_exprs}
use Rattle.mv_source_forms.proofs.ExpressionInduction.{FormChildren, TargetChildren}
use Rattle.mv_source_forms.proofs.Tests.{one_holds, two_hold, three_hold, last_apart}
use Rattle.mv_source_forms.specs.Scopes.{Scope, form_in, target_in, layer_in, names_declared, form_names_declared, target_names_declared}
use Rattle.mv_lower_spec.proofs.OfPrograms.Agreement.{Agree, Post, Alike, alike_give, alike_counted, alike_unless, alike_bind, alike_by}
use Rattle.mv_lower_spec.proofs.OfPrograms.Leaves as leaves
use Rattle.mv_lower_spec.proofs.OfPrograms.Leaves.{Found, InScope}
use Rattle.mv_num.proofs.Booleans.{and_cases}
use Rattle.mv_meaning_numbering.proofs.Expressions.{next_of}

module _ (p : Program) (lost fine : Stop → Type 0) (traps : (n : ℕ) → n < 256 → fine (Trapped n)) (scope : Scope) (context : Bool → Context) (steady : leaves.SteadyCalls p lost fine traps scope context) where
  abbrev Keeps : {A : Type 0} → (Bool → Evaluation A) → Type 0
  Keeps {A} d = leaves.Keeps p lost fine traps scope {A = A} d

  abbrev Kept : {A : Type 0} → Post A
  Kept {A} = leaves.Kept p lost fine traps scope {A = A}

  abbrev Finds : (Bool → Evaluation Lvalue) → Type 0
  Finds d = Alike lost fine (Agree scope) (Found p lost fine traps scope) d

  abbrev P : Form → Type 0
  P f = (called : Bool) (t : CType) → form_names_declared scope f ≡ true → Keeps (λ z. form_of p (context z) f called t)

  abbrev Q : Target → Type 0
  Q x = target_names_declared scope x ≡ true → Finds (λ z. lvalue_of p (context z) x)

  abbrev val : Expr → Bool → Evaluation ℕ
  val e z = value_of p (context z) e

  abbrev callee_val : Expr → Bool → Evaluation ℕ
  callee_val e z = callee_of p (context z) e

  abbrev place : Target → Bool → Evaluation Lvalue
  place x z = lvalue_of p (context z) x

  abbrev S : Expr → Type 0
  S e = names_declared scope e ≡ true → Keeps (val e) × Keeps (callee_val e)

  -- one and then the next
  both : {A B : Type 0} (d : Bool → Evaluation A) (next : A → Bool → Evaluation B) → Keeps d → ((a : A) → Keeps (next a)) → Keeps (λ z. bind (d z) (λ a. next a z))
  both {A = A} {B = B} d next h k = alike_bind lost fine (Kept {A = A}) (Kept {A = B}) (Agree scope) d next h k

  gives : {A : Type 0} (a : A) → Keeps (λ z. give a)
  gives a = leaves.keeps_give p lost fine traps scope a

  -- an lvalue and then what is done with it
  at_found : (d : Bool → Evaluation Lvalue) (next : Lvalue → Bool → Evaluation ℕ) → Finds d → ((s : Lvalue) → InScope p lost fine traps scope s → Keeps (next s)) → Keeps (λ z. bind (d z) (λ s. next s z))
  at_found d next h k = alike_bind lost fine (Found p lost fine traps scope) (Kept {A = ℕ}) (Agree scope) d next h (λ s f g w q. k s q.0 f g w q.1)

  -- one way at 0, another else
  either : (v : ℕ) (d e : Bool → Evaluation ℕ) → Keeps d → Keeps e → Keeps (λ z. unless_zero v (d z) (e z))
  either v d e h k = alike_unless lost fine (Agree scope) (Kept {A = ℕ}) v d e h k

  abbrev vals : List Expr → Bool → Evaluation (List ℕ)
  vals es z = values_of (map (denotation_of p (context z)) es)

  values_keep : (es : List Expr) → Each S es → all_of (map (names_declared scope) es) ≡ true → Keeps (vals es)
  values_keep [] h b = gives []
  values_keep (e ∷ es) h b =
      let bs = and_cases (names_declared scope e) (all_of (map (names_declared scope) es)) b in
      both (val e) (λ v z. bind (vals es z) (λ vs. give (v ∷ vs))) (h.0 bs.0).0 (λ v. both (vals es) (λ vs z. give (v ∷ vs)) (values_keep es h.1 bs.1) (λ vs. gives (v ∷ vs)))

  abbrev agreed : ExprFolds ((Bool → FormValue) × Bool) ((Bool → Evaluation Lvalue) × Bool) ((Bool → Denotation) × Bool)
  agreed = expr_folds (expr_family (λ (z : Bool). expr_fold (form_value p (context z)) target_lvalue expr_denotation)) (expr_fold form_in (target_in scope) layer_in)

  -- an operator on two operands, of the type of the first
  operator : (op : ℕ) (a : Expr) (x y : ℕ) → Keeps (λ z. value_or_trap (binary_value op (denotation_of p (context z) a).ctype x y))
  operator op a x y =
      alike_by lost fine (Agree scope) (Kept {A = ℕ}) (λ z. value_or_trap (binary_value op (denotation_of p (context z) a).ctype x y)) (λ z. value_or_trap (binary_value op a.ctype x y))
      (ap (λ t. value_or_trap (binary_value op t x y)) (ctype_of_lem p (context true) a)) (ap (λ t. value_or_trap (binary_value op t x y)) (ctype_of_lem p (context false) a))
      (leaves.keeps_trap p lost fine traps scope (binary_value op a.ctype x y))

  abbrev changed : ℕ → CType → CType → Lvalue → ℕ → ℕ → Evaluation ℕ
  changed op kind t s v old = bind (value_or_trap (binary_value op kind old v)) (λ new. store_lvalue s (converted t new))

  layer : (x : Form-F Form Target Expr) → FormChildren P Q S x → (called : Bool) (t : CType) → (agreed.form_layer x).1 ≡ true → Keeps (λ z. (agreed.form_layer x).0 z called t)
  layer (form.Number n) h called t b = gives n
  layer (form.Read target) h called t b =
      at_found (place target) (λ s z. read_as p (context z).numbers called s) (h (one_holds (target_names_declared scope target) b))
      (λ s k.
      alike_by lost fine (Agree scope) (Kept {A = ℕ}) (λ z. read_as p (context z).numbers called s) (λ z. read_as p (context true).numbers called s) refl (ap (λ ns. read_as p ns called s) steady.numbers)
      (leaves.keeps_read_as p lost fine traps scope (context true).numbers called s k))
  layer (form.Function g) h called t b =
      alike_by lost fine (Agree scope) (Kept {A = ℕ}) (λ z. give (slice_index (context z).numbers g)) (λ z. give (slice_index (context true).numbers g)) refl (ap (λ ns. give (slice_index ns g)) steady.numbers)
      (gives (slice_index (context true).numbers g))
  layer (form.Unary op a) h called t b = both (val a) (λ v z. give (unary_value op v)) (h (one_holds (names_declared scope a) b)).0 (λ v. gives (unary_value op v))
  layer (form.Binary op a c) h called t b =
      let bs = two_hold (names_declared scope a) (names_declared scope c) b in
      both (val a) (λ x z. bind (val c z) (λ y. value_or_trap (binary_value op (denotation_of p (context z) a).ctype x y))) (h.0 bs.0).0
      (λ x. both (val c) (λ y z. value_or_trap (binary_value op (denotation_of p (context z) a).ctype x y)) (h.1 bs.1).0 (λ y. operator op a x y))
  layer (form.Both a c) h called t b =
      let bs = two_hold (names_declared scope a) (names_declared scope c) b in
      let rest = both (val c) (λ y z. give (truth_of y)) (h.1 bs.1).0 (λ y. gives (truth_of y)) in
      both (val a) (λ x z. unless_zero x (give 0) (bind (val c z) (λ y. give (truth_of y)))) (h.0 bs.0).0 (λ x. either x (λ z. give 0) (λ z. bind (val c z) (λ y. give (truth_of y))) (gives 0) rest)
  layer (form.Either a c) h called t b =
      let bs = two_hold (names_declared scope a) (names_declared scope c) b in
      let rest = both (val c) (λ y z. give (truth_of y)) (h.1 bs.1).0 (λ y. gives (truth_of y)) in
      both (val a) (λ x z. unless_zero x (bind (val c z) (λ y. give (truth_of y))) (give 1)) (h.0 bs.0).0 (λ x. either x (λ z. bind (val c z) (λ y. give (truth_of y))) (λ z. give 1) rest (gives 1))
  layer (form.Choose x a c) h called t b =
      let bs = three_hold (names_declared scope x) (names_declared scope a) (names_declared scope c) b in
      both (val x) (λ v z. unless_zero v (val c z) (val a z)) (h.0 bs.0).0 (λ v. either v (val c) (val a) (h.2 bs.2).0 (h.1 bs.1).0)
  layer (form.Convert a) h called t b = both (val a) (λ v z. give (converted t v)) (h (one_holds (names_declared scope a) b)).0 (λ v. gives (converted t v))
  layer (form.Set target a) h called t b =
      let bs = two_hold (target_names_declared scope target) (names_declared scope a) b in
      at_found (place target) (λ s z. bind (val a z) (store_lvalue s)) (h.0 bs.0) (λ s k. both (val a) (λ v z. store_lvalue s v) (h.1 bs.1).0 (λ v. leaves.keeps_store p lost fine traps scope s v k))
  layer (form.Change op kind target a) h called t b =
      let bs = two_hold (target_names_declared scope target) (names_declared scope a) b in
      at_found (place target) (λ s z. bind (val a z) (λ v. bind (read_lvalue p s) (changed op kind t s v))) (h.0 bs.0)
      (λ s k. both (val a) (λ v z. bind (read_lvalue p s) (changed op kind t s v)) (h.1 bs.1).0
      (λ v. both (λ z. read_lvalue p s) (λ old z. changed op kind t s v old) (leaves.keeps_read p lost fine traps scope s k)
      (λ old. both (λ z. value_or_trap (binary_value op kind old v)) (λ new z. store_lvalue s (converted t new)) (leaves.keeps_trap p lost fine traps scope (binary_value op kind old v))
      (λ new. leaves.keeps_store p lost fine traps scope s (converted t new) k))))
  layer (form.After up target) h called t b =
      at_found (place target) (λ s z. bind (read_lvalue p s) (λ old. bind (store_lvalue s (next_of up t old)) (λ new. give old))) (h (one_holds (target_names_declared scope target) b))
      (λ s k. both (λ z. read_lvalue p s) (λ old z. bind (store_lvalue s (next_of up t old)) (λ new. give old)) (leaves.keeps_read p lost fine traps scope s k)
      (λ old. both (λ z. store_lvalue s (next_of up t old)) (λ new z. give old) (leaves.keeps_store p lost fine traps scope s (next_of up t old) k) (λ new. gives old)))
  layer (form.Direct g args) h called t b = both (vals args) (λ vs z. call_at (context z) g vs) (values_keep args h b) (λ vs. leaves.keeps_call p lost fine traps scope context steady.calls g vs)
  layer (form.Through args callee) h called t b =
      let bs = last_apart (map (names_declared scope) args) (names_declared scope callee) b in
      both (vals args) (λ vs z. bind (callee_val callee z) (λ f. call_through (context z) t f vs)) (values_keep args h.0 bs.0)
      (λ vs. both (callee_val callee) (λ f z. call_through (context z) t f vs) (h.1 bs.1).1 (λ f. leaves.keeps_through p lost fine traps scope context steady t f vs))
  layer (form.Known k args) h called t b =
      both (vals args) (λ vs z. known_value p (context z).numbers k vs) (values_keep args h b)
      (λ vs.
      alike_by lost fine (Agree scope) (Kept {A = ℕ}) (λ z. known_value p (context z).numbers k vs) (λ z. known_value p (context true).numbers k vs) refl (ap (λ ns. known_value p ns k vs) steady.numbers)
      (leaves.keeps_known p lost fine traps scope (context true).numbers k vs))

  target_layer : (x : Target-F Form Target Expr) → TargetChildren P Q S x → (agreed.target_layer x).1 ≡ true → Finds (agreed.target_layer x).0
  target_layer (form.Global g) h b = alike_give lost fine (Agree scope) (Found p lost fine traps scope) (lvalue.Global g 0) (λ f g k. (tt, k))
  target_layer (form.Local l) h b = alike_give lost fine (Agree scope) (Found p lost fine traps scope) (lvalue.Local l 0) (λ f g k. (b, k))
  target_layer (form.GlobalAt g e) h b =
      alike_bind lost fine (Kept {A = ℕ}) (Found p lost fine traps scope) (Agree scope) (val e) (λ i z. global_element g i) (h b).0 (λ i. leaves.found_global p lost fine traps scope g i)
  target_layer (form.LocalAt l e) h b =
      let bs = and_cases (scope l) (names_declared scope e) b in
      alike_bind lost fine (Kept {A = ℕ}) (Found p lost fine traps scope) (Agree scope) (val e) (λ i z. local_element l i) (h bs.1).0 (λ i. leaves.found_local p lost fine traps scope l i bs.0)

  -- An expression that names declared locals alone.
  pub expr_keeps : (e : Expr) → names_declared scope e ≡ true → Keeps (val e)
  expr_keeps e b =
      (along_exprs agreed (λ f v. (called : Bool) (t : CType) → v.1 ≡ true → Keeps (λ z. v.0 z called t)) (λ x v. v.1 ≡ true → Finds v.0) (λ e v. v.1 ≡ true → Keeps (λ z. (v.0 z).value) × Keeps (λ z. (v.0 z).callee)) layer target_layer
      (λ x h b. (
        alike_counted lost fine (Agree scope) (Kept {A = ℕ}) 1 (λ z. form_of p (context z) x.what false x.ctype) (h false x.ctype b),
        alike_counted lost fine (Agree scope) (Kept {A = ℕ}) 1 (λ z. form_of p (context z) x.what true x.ctype) (h true x.ctype b),
      )) e b).0
