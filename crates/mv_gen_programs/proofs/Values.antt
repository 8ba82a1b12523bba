-- What the expressions of generated texts are found to be, in a scope in which their names mean what they should.
use Rattle.std.proofs.Common.{◌≡◌, ℕ, Bool, false, List, [], ◌∷◌, Option, Some, refl, ap, ◌∙◌}
use Rattle.std.specs.Prelude.{is_none}
use Rattle.mv_num.specs.declared.kind.Kind.TheVariants.{Int}
use Rattle.mv_syntax.specs.declared.place.Place.{Place}
use Rattle.mv_ast.specs.declared.program.Expr.{Expr}
use Rattle.mv_ast.specs.declared.program.Form.TheVariants as form
use Rattle.mv_ast.specs.declared.program.Known.{Known}
use Rattle.mv_ast.specs.declared.program.Target.TheVariants as target
use Rattle.mv_syntax.specs.declared.unit.Node.{Node}
use Rattle.mv_syntax.specs.declared.unit.What.TheVariants as w
use Rattle.mv_syntax.specs.declared.unit.What.TheOpen as what
use Rattle.mv_parse_grammar.specs.Expressions.{node_at}
use Rattle.mv_check_scope.specs.declared.meaning.Routine.{Routine}
use Rattle.mv_check_scope.specs.declared.meaning.Variable.{Variable}
use Rattle.mv_check_scope.specs.declared.meaning.Meaning.{Meaning}
use Rattle.mv_check_scope.specs.declared.meaning.Meaning.TheVariants as meaning
use Rattle.mv_check_scope.specs.declared.scope.Scope.{Scope}
use Rattle.mv_check_scope.specs.Conversions.{int, is_void, typed}
use Rattle.mv_check_scope.specs.Scoped.{meaning_of}
use Rattle.mv_check_expressions.specs.declared.seen.Seen.{Seen}
use Rattle.mv_check_expressions.specs.declared.seen.Seen.TheVariants as seen
use Rattle.mv_check_expressions.specs.declared.seen.Use.{Use}
use Rattle.mv_check_expressions.specs.declared.seen.Use.TheVariants as «use»
use Rattle.mv_check_expressions.specs.Breaches.{by_itself, concluded, listed}
use Rattle.mv_check_expressions.specs.Judged.{Judged, Good, and_then}
use Rattle.mv_check_expressions.specs.Judgements.{judgement, judgements}
use Rattle.mv_check_expressions.specs.Rules.{is_uncalled, is_bare, is_valueless, is_misnamed}
use Rattle.mv_check_expressions.specs.Seen.{object_of_variable, seen_name, is_undefined}
use Rattle.mv_check_expressions.specs.Calls.{argument_use}
use Rattle.mv_check_expressions.proofs.Equations.{judged-Number, judged-Name, judged-Binary, judged-Choose, judged-Assign, judged-After, judged-Call}
use Rattle.mv_gen_programs.proofs.Trees.{word, number}

module _ (s : Scope) where
  -- a name, by what it means
  abbrev by_meaning : Place → Use → Option Meaning → Judged Seen
  by_meaning p u m = concluded p (listed (record {
    undeclared = is_none m;
    operands = false;
    assigned = false;
    converted = false;
    called = false;
    indexed = is_bare u (seen_name m);
    void = is_valueless u (seen_name m);
    switch = false;
    named = is_misnamed u (seen_name m);
    undefined = is_undefined (seen_name m);
    misplaced = is_uncalled u (seen_name m);
  })) (seen_name m)

  name_judged : (p : Place) (name : List ℕ) (u : Use) (m : Meaning) → meaning_of s name ≡ Some m → judgement s (word p name) u ≡ by_meaning p u (Some m)
  name_judged p name u m h = judged-Name s (word p name) u name (w.outs-Name name) ∙ ap (by_meaning p u) h

  pub object_value : (p : Place) (name : List ℕ) (v : Variable) → is_void v.ctype ≡ false → meaning_of s name ≡ Some (meaning.Object v) →
      judgement s (word p name) «use».Value ≡ Good (seen.Object (object_of_variable v))
  unfolding concluded
  object_value p name v k h = name_judged p name «use».Value (meaning.Object v) h ∙ rw k refl

  pub object_place : (p : Place) (name : List ℕ) (v : Variable) → meaning_of s name ≡ Some (meaning.Object v) → judgement s (word p name) «use».Place ≡ Good (seen.Object (object_of_variable v))
  unfolding concluded
  object_place p name v h = name_judged p name «use».Place (meaning.Object v) h

  pub known_callee : (p : Place) (name : List ℕ) (k : Known) → meaning_of s name ≡ Some (meaning.Known k) → judgement s (word p name) «use».Callee ≡ Good (seen.Known k)
  unfolding concluded
  known_callee p name k h = name_judged p name «use».Callee (meaning.Known k) h

  pub function_callee : (p : Place) (name : List ℕ) (f : Routine) (n : ℕ) → f.number ≡ Some n → meaning_of s name ≡ Some (meaning.Function f) → judgement s (word p name) «use».Callee ≡ Good (seen.Function f)
  unfolding concluded
  function_callee p name f n e h = name_judged p name «use».Callee (meaning.Function f) h ∙ rw e refl

  pub one_argument : (n : Node) (u : Use) (x : Seen) → judgement s n u ≡ Good x → judgements s (n ∷ []) u ≡ Good (x ∷ [])
  one_argument n u x h = ap (λ (j : Judged Seen). and_then j (λ y. Good (y ∷ []))) h

  pub number_value : (p : Place) (n : ℕ) → judgement s (number p n) «use».Value ≡ Good (seen.Value (typed int (form.Number n)))
  unfolding concluded
  number_value p n = judged-Number s (number p n) «use».Value n Int (w.outs-Number n Int)

  module _ (p : Place) (u : Use) where
    pub binary_judged : (op : ℕ) (a b : Node) (x y r : Seen) → judgement s a «use».Value ≡ Good x → judgement s b «use».Value ≡ Good y → by_itself s p u (what.Binary op x y) ≡ Good r →
        judgement s (node_at p (w.Binary op a b)) u ≡ Good r
    binary_judged op a b x y r h k e =
        judged-Binary s (node_at p (w.Binary op a b)) u op a b (w.outs-Binary op a b)
        ∙ (ap (λ (j : Judged Seen). and_then j (λ v. and_then (judgement s b «use».Value) (λ z. by_itself s p u (what.Binary op v z)))) h
        ∙ (ap (λ (j : Judged Seen). and_then j (λ z. by_itself s p u (what.Binary op x z))) k ∙ e))

    pub choose_judged : (c a b : Node) (x y z r : Seen) → judgement s c «use».Value ≡ Good x → judgement s a «use».Value ≡ Good y → judgement s b «use».Value ≡ Good z →
        by_itself s p u (what.Choose x y z) ≡ Good r → judgement s (node_at p (w.Choose c a b)) u ≡ Good r
    choose_judged c a b x y z r h k l e =
        judged-Choose s (node_at p (w.Choose c a b)) u c a b (w.outs-Choose c a b)
        ∙ (ap (λ (j : Judged Seen). and_then j (λ t. and_then (judgement s a «use».Value) (λ v. and_then (judgement s b «use».Value) (λ q. by_itself s p u (what.Choose t v q))))) h
        ∙ (ap (λ (j : Judged Seen). and_then j (λ v. and_then (judgement s b «use».Value) (λ q. by_itself s p u (what.Choose x v q)))) k
        ∙ (ap (λ (j : Judged Seen). and_then j (λ q. by_itself s p u (what.Choose x y q))) l ∙ e)))

    pub assign_judged : (op : ℕ) (a b : Node) (x y r : Seen) → judgement s a «use».Place ≡ Good x → judgement s b «use».Value ≡ Good y → by_itself s p u (what.Assign op x y) ≡ Good r →
        judgement s (node_at p (w.Assign op a b)) u ≡ Good r
    assign_judged op a b x y r h k e =
        judged-Assign s (node_at p (w.Assign op a b)) u op a b (w.outs-Assign op a b)
        ∙ (ap (λ (j : Judged Seen). and_then j (λ v. and_then (judgement s b «use».Value) (λ z. by_itself s p u (what.Assign op v z)))) h
        ∙ (ap (λ (j : Judged Seen). and_then j (λ z. by_itself s p u (what.Assign op x z))) k ∙ e))

    pub after_judged : (up : Bool) (a : Node) (x r : Seen) → judgement s a «use».Place ≡ Good x → by_itself s p u (what.After up x) ≡ Good r →
        judgement s (node_at p (w.After up a)) u ≡ Good r
    after_judged up a x r h e =
        judged-After s (node_at p (w.After up a)) u up a (w.outs-After up a) ∙ (ap (λ (j : Judged Seen). and_then j (λ v. by_itself s p u (what.After up v))) h ∙ e)

    pub call_judged : (f : Node) (args : List Node) (x r : Seen) (ys : List Seen) → judgement s f «use».Callee ≡ Good x → judgements s args (argument_use x) ≡ Good ys →
        by_itself s p u (what.Call x ys) ≡ Good r → judgement s (node_at p (w.Call f args)) u ≡ Good r
    call_judged f args x r ys h k e =
        judged-Call s (node_at p (w.Call f args)) u f args (w.outs-Call f args)
        ∙ (ap (λ (j : Judged Seen). and_then j (λ v. and_then (judgements s args (argument_use v)) (λ zs. by_itself s p u (what.Call v zs)))) h
        ∙ (ap (λ (j : Judged (List Seen)). and_then j (λ zs. by_itself s p u (what.Call x zs))) k ∙ e))

-- ---- the expressions that they are

-- an `int` that is read, and a number
abbrev pub read_local : ℕ → Expr
read_local l = typed int (form.Read (target.Local l))

abbrev pub read_global : ℕ → Expr
read_global g = typed int (form.Read (target.Global g))

abbrev pub constant : ℕ → Expr
constant n = typed int (form.Number n)

abbrev pub binary : ℕ → Expr → Expr → Expr
binary op a b = typed int (form.Binary op a b)

abbrev pub choose : Expr → Expr → Expr → Expr
choose c a b = typed int (form.Choose c a b)
