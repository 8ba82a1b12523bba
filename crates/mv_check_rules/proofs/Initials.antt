-- Initial values agree, and the scope's locals are nothing to a value.
use Rattle.std.proofs.Common.{◌≡◌, ℕ, refl, sym, ◌∙◌, ap, Bool, true, ◌&&◌, not, is_none, Option, Some, None, List, [], ◌∷◌, ◌++◌, map}
use Rattle.std.specs.List.{list_any}
use Rattle.std.proofs.lemmas.List.{append_assoc, append-nil}
use Rattle.mv_syntax.specs.declared.place.Place.{Place}
use Rattle.mv_ast.specs.declared.program.CType.{CType}
use Rattle.mv_ast.specs.declared.program.Expr.{Expr}
use Rattle.mv_ast.specs.declared.program.Local.{Local}
use Rattle.mv_syntax.specs.declared.unit.Initial.{Initial}
use Rattle.mv_syntax.specs.declared.unit.Initial.TheVariants as initial
use Rattle.mv_syntax.specs.declared.unit.Node.{Node, fold-Node}
use Rattle.mv_syntax.specs.declared.unit.What.TheOpen as what
use Rattle.mv_check_scope.specs.declared.scope.Scope.{Scope}
use Rattle.mv_check_scope.specs.Constants.{converts}
use Rattle.mv_check_scope.specs.Conversions.{converted_to}
use Rattle.mv_check_expressions.specs.declared.seen.Use.{Use}
use Rattle.mv_check_expressions.specs.declared.seen.Use.TheVariants as «use»
use Rattle.mv_check_expressions.specs.Breaches.{by_itself}
use Rattle.mv_check_expressions.specs.Found.{Layer}
use Rattle.mv_check_expressions.specs.Judged.{Judged, Good, Broken, and_then, each}
use Rattle.mv_check_expressions.specs.Judgements.{Judges, with_parts, mark_step, member_step, node_step, specs_step, value_judgement}
use Rattle.mv_check_expressions.specs.Seen.{value_of}
use Rattle.mv_check_expressions.specs.TypeNames.{is_undeclared}
use Rattle.mv_check_declarations.specs.declared.initials.Converted.{Converted}
use Rattle.mv_check_declarations.specs.Initials.{with_converted, converted_value, none_converted, initial_values}
use Rattle.mv_check_declarations.specs.Turns.{through}
use Rattle.mv_check_rules.specs.Nodes.{Given, Nothing, Value, Values, Characters}
use Rattle.mv_check_rules.specs.Rules.{all_convert}
use Rattle.mv_check_rules.specs.Declarations.{given, expressions_of}
use Rattle.mv_check_rules.proofs.Agreement.{mapped}
use Rattle.mv_check_rules.proofs.Parts.{none_fails}
use Rattle.mv_num.proofs.Booleans.{and_true}

-- ---- a scope with other locals

module _ (s : Scope) (ls : List Local) where
  abbrev other : Scope
  other = record s { locals = ls }

  by_itself_same : (place : Place) (u : Use) (layer : Layer) → by_itself other place u layer ≡ by_itself s place u layer
  by_itself_same place u (what.Number n k) = refl
  by_itself_same place u (what.Name name) = refl
  by_itself_same place u (what.Unary op a) = refl
  by_itself_same place u (what.Binary op a b) = refl
  by_itself_same place u (what.Choose c a b) = refl
  by_itself_same place u (what.Assign op a b) = refl
  by_itself_same place u (what.Before up a) = refl
  by_itself_same place u (what.After up a) = refl
  by_itself_same place u (what.Index a i) = refl
  by_itself_same place u (what.Call f args) = refl
  by_itself_same place u (what.Cast t a) = refl

  enum_same : (tag : Option (List ℕ)) (without : Bool) → is_undeclared other tag without ≡ is_undeclared s tag without
  enum_same None without = refl
  enum_same (Some tag) without = refl

  pub value_same : (n : Node) → value_judgement other n ≡ value_judgement s n
  value_same n = λ i. and_then
      (fold-Node (Place → Judges) Bool (Unit {0}) (Unit {0}) Judges (Judged CType)
      (λ parts place u. with_parts parts (λ layer. by_itself_same place u layer i)) (λ e. enum_same e.tag (is_none e.members) i)
      mark_step member_step (node_step s) specs_step n «use».Value)
      (λ x. Good (value_of x))

  pub given_same : (values : Option Initial) → given value_judgement values other ≡ given value_judgement values s
  given_same None = refl
  given_same (Some (initial.Value n)) = ap (λ j. and_then j (λ e. Good (Value e))) (value_same n)
  given_same (Some (initial.Values ns)) = λ i. and_then (each (map (λ n. value_same n i) ns)) (λ es. Good (Values es))
  given_same (Some (initial.Chars bytes)) = refl

-- ---- values, converted

abbrev pub converted_all : CType → Given → Bool
converted_all t Nothing = true
converted_all t (Value e) = converts e t
converted_all t (Values es) = all_convert t es
converted_all t (Characters bytes) = true

abbrev pub values_of : CType → Given → Converted
values_of t g = record { all = converted_all t g; values = map (converted_to t) (expressions_of g) }

module _ (t : CType) (s : Scope) where
  abbrev behind : Converted → List Expr → Converted
  behind x es = record { all = x.all && all_convert t es; values = x.values ++ map (converted_to t) es }

  one_more : (x : Converted) (e : Expr) (es : List Expr) → behind (with_converted t x e) es ≡ behind x (e ∷ es)
  one_more x e es = λ i. record {
    all = none_fails x.all (converts e t) (list_any (λ e. not (converts e t)) es) i;
    values = append_assoc x.values (converted_to t e ∷ []) (map (converted_to t) es) i;
  }

  converted_agree : (ns : List Node) (x : Converted) → through (converted_value t s) ns x ≡ mapped (behind x) (each (map (value_judgement s) ns))
  converted_agree [] x = λ i. Good (record { all = sym (and_true x.all) i; values = sym (append-nil x.values) i })
  converted_agree (n ∷ ns) x = by (value_judgement s n) (converted_agree ns)
    where
      on : (e : Expr) (j : Judged (List Expr)) → mapped (behind (with_converted t x e)) j ≡ mapped (behind x) (and_then j (λ rest. Good (e ∷ rest)))
      on e (Good es) = ap Good (one_more x e es)
      on e (Broken place rule) = refl

      by : (j : Judged Expr) → ((x : Converted) → through (converted_value t s) ns x ≡ mapped (behind x) (each (map (value_judgement s) ns))) →
          and_then (and_then j (λ e. Good (with_converted t x e))) (through (converted_value t s) ns) ≡
          mapped (behind x) (and_then j (λ e. and_then (each (map (value_judgement s) ns)) (λ rest. Good (e ∷ rest))))
      by (Good e) h = h (with_converted t x e) ∙ on e (each (map (value_judgement s) ns))
      by (Broken place rule) h = refl

  pub values_agree : (values : Option Initial) → initial_values t values s ≡ mapped (values_of t) (given value_judgement values s)
  values_agree None = refl
  values_agree (Some (initial.Value n)) = by (value_judgement s n)
    where
      by : (j : Judged Expr) → and_then j (λ e. Good (with_converted t none_converted e)) ≡ mapped (values_of t) (and_then j (λ e. Good (Value e)))
      by (Good e) = refl
      by (Broken place rule) = refl
  values_agree (Some (initial.Values ns)) = converted_agree ns none_converted ∙ by (each (map (value_judgement s) ns))
    where
      by : (j : Judged (List Expr)) → mapped (behind none_converted) j ≡ mapped (values_of t) (and_then j (λ es. Good (Values es)))
      by (Good es) = refl
      by (Broken place rule) = refl
  values_agree (Some (initial.Chars bytes)) = refl
