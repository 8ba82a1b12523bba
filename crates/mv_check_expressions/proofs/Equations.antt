-- The equations of the judgement: one for each form of expression, from what `out` opens it as.
use Rattle.std.proofs.Common.{◌≡◌, ℕ, Bool, List, [], ◌∷◌, map, Option, Some, None, is_none, refl, ◌∙◌, ap}
use Rattle.mv_num.specs.declared.kind.Kind.{Kind}
use Rattle.mv_syntax.specs.declared.place.Place.{Place}
use Rattle.mv_ast.specs.declared.program.CType.{CType}
use Rattle.mv_syntax.specs.declared.unit.Node.{Node, out-Node, fold_out-Node}
use Rattle.mv_syntax.specs.declared.unit.What.{What, What-F, out-What, map-What, fold-What, fold_out-What}
use Rattle.mv_syntax.specs.declared.unit.What.TheOpen as what
use Rattle.mv_syntax.specs.declared.unit.EnumSpec.{EnumSpec, EnumSpec-F, out-EnumSpec, map-EnumSpec, fold-EnumSpec, fold_out-EnumSpec}
use Rattle.mv_syntax.specs.declared.unit.Mark.{Mark, fold-Mark}
use Rattle.mv_syntax.specs.declared.unit.Member.{Member, fold-Member}
use Rattle.mv_syntax.specs.declared.unit.Specs.{Specs, out-Specs, fold-Specs, fold_out-Specs}
use Rattle.mv_check_scope.specs.declared.scope.Scope.{Scope}
use Rattle.mv_check_expressions.specs.declared.seen.Use.{Use}
use Rattle.mv_check_expressions.specs.declared.seen.Use.TheVariants as «use»
use Rattle.mv_check_expressions.specs.Judged.{Judged, and_then}
use Rattle.mv_check_expressions.specs.TypeNames.{is_undeclared, undeclared_enum, judged_type, type_of}
use Rattle.mv_check_expressions.specs.Calls.{argument_use}
use Rattle.mv_check_expressions.specs.Breaches.{by_itself}
use Rattle.mv_check_expressions.specs.Judgements.{Judges, Parts, cast_use, operand_use, what_step, enum_step, mark_step, member_step, node_step, specs_step, judgement, judgements}

-- the steps of the judgement's fold, in their order
module _ (scope : Scope) where
  enum_fold : EnumSpec → Bool
  enum_fold = fold-EnumSpec (Place → Judges) Bool (Unit {0}) (Unit {0}) Judges (Judged CType) (what_step scope) (enum_step scope) mark_step member_step (node_step scope) specs_step

  specs_fold : Specs → Judged CType
  specs_fold = fold-Specs (Place → Judges) Bool (Unit {0}) (Unit {0}) Judges (Judged CType) (what_step scope) (enum_step scope) mark_step member_step (node_step scope) specs_step

  what_fold : What → Place → Judges
  what_fold = fold-What (Place → Judges) Bool (Unit {0}) (Unit {0}) Judges (Judged CType) (what_step scope) (enum_step scope) mark_step member_step (node_step scope) specs_step

  mark_fold : Mark → Unit {0}
  mark_fold = fold-Mark (Place → Judges) Bool (Unit {0}) (Unit {0}) Judges (Judged CType) (what_step scope) (enum_step scope) mark_step member_step (node_step scope) specs_step

  member_fold : Member → Unit {0}
  member_fold = fold-Member (Place → Judges) Bool (Unit {0}) (Unit {0}) Judges (Judged CType) (what_step scope) (enum_step scope) mark_step member_step (node_step scope) specs_step

  enum_layer : EnumSpec-F What EnumSpec Mark Member Node Specs → Bool
  enum_layer x =
      enum_step scope (map-EnumSpec What EnumSpec Mark Member Node Specs (Place → Judges) Bool (Unit {0}) (Unit {0}) Judges (Judged CType)
      what_fold enum_fold mark_fold member_fold (judgement scope) specs_fold x)

  enum_by : (tag : Option (List ℕ)) (members : Option (List Member)) → enum_layer (record { tag = tag; members = members }) ≡ is_undeclared scope tag (is_none members)
  unfolding enum_layer
  enum_by tag None = refl
  enum_by tag (Some ms) = refl

  enum_is : (e : EnumSpec) → enum_fold e ≡ undeclared_enum scope e
  unfolding enum_fold specs_fold what_fold mark_fold member_fold enum_layer
  enum_is e =
      fold_out-EnumSpec (Place → Judges) Bool (Unit {0}) (Unit {0}) Judges (Judged CType) (what_step scope) (enum_step scope) mark_step member_step (node_step scope) specs_step e ∙
      enum_by (out-EnumSpec e).tag (out-EnumSpec e).members

  enums_are : (es : List EnumSpec) → map enum_fold es ≡ map (undeclared_enum scope) es
  enums_are [] = refl
  enums_are (e ∷ es) = rw (enum_is e, enums_are es) refl

  specs_are : (s : Specs) → specs_fold s ≡ type_of scope s
  unfolding enum_fold specs_fold what_fold mark_fold member_fold
  specs_are s =
      fold_out-Specs (Place → Judges) Bool (Unit {0}) (Unit {0}) Judges (Judged CType) (what_step scope) (enum_step scope) mark_step member_step (node_step scope) specs_step s ∙
      ap (λ ts. judged_type (out-Specs s).place ts (out-Specs s).words) (enums_are (out-Specs s).tags)

module _ (scope : Scope) (n : Node) (u : Use) where
  layer_of : What-F What EnumSpec Mark Member Node Specs → Parts
  layer_of = map-What What EnumSpec Mark Member Node Specs (Place → Judges) Bool (Unit {0}) (Unit {0}) Judges (Judged CType)
      (what_fold scope) (enum_fold scope) (mark_fold scope) (member_fold scope) (judgement scope) (specs_fold scope)

  judged : (x : What-F What EnumSpec Mark Member Node Specs) → out-What (out-Node n).what ≡ x →
      judgement scope n u ≡ what_step scope (layer_of x) (out-Node n).place u
  unfolding enum_fold specs_fold what_fold mark_fold member_fold layer_of
  judged x h =
      ap (λ j. j u) (fold_out-Node (Place → Judges) Bool (Unit {0}) (Unit {0}) Judges (Judged CType) (what_step scope) (enum_step scope) mark_step member_step (node_step scope) specs_step n) ∙
      (ap (λ j. j (out-Node n).place u) (fold_out-What (Place → Judges) Bool (Unit {0}) (Unit {0}) Judges (Judged CType) (what_step scope) (enum_step scope) mark_step member_step (node_step scope) specs_step (out-Node n).what) ∙
      ap (λ y. what_step scope (layer_of y) (out-Node n).place u) h)

  pub judged-Number : (m : ℕ) (k : Kind) → out-What (out-Node n).what ≡ what.Number m k → judgement scope n u ≡ by_itself scope (out-Node n).place u (what.Number m k)
  unfolding layer_of
  judged-Number m k h = judged _ h

  pub judged-Name : (name : List ℕ) → out-What (out-Node n).what ≡ what.Name name → judgement scope n u ≡ by_itself scope (out-Node n).place u (what.Name name)
  unfolding layer_of
  judged-Name name h = judged _ h

  pub judged-Unary : (op : ℕ) (a : Node) → out-What (out-Node n).what ≡ what.Unary op a →
      judgement scope n u ≡ and_then (judgement scope a (operand_use op)) (λ x. by_itself scope (out-Node n).place u (what.Unary op x))
  unfolding layer_of
  judged-Unary op a h = judged _ h

  pub judged-Binary : (op : ℕ) (a b : Node) → out-What (out-Node n).what ≡ what.Binary op a b →
      judgement scope n u ≡
      and_then (judgement scope a «use».Value) (λ x. and_then (judgement scope b «use».Value) (λ y. by_itself scope (out-Node n).place u (what.Binary op x y)))
  unfolding layer_of
  judged-Binary op a b h = judged _ h

  pub judged-Choose : (c a b : Node) → out-What (out-Node n).what ≡ what.Choose c a b →
      judgement scope n u ≡
      and_then (judgement scope c «use».Value) (λ x. and_then (judgement scope a «use».Value) (λ y. and_then (judgement scope b «use».Value) (λ z.
      by_itself scope (out-Node n).place u (what.Choose x y z))))
  unfolding layer_of
  judged-Choose c a b h = judged _ h

  pub judged-Assign : (op : ℕ) (a b : Node) → out-What (out-Node n).what ≡ what.Assign op a b →
      judgement scope n u ≡
      and_then (judgement scope a «use».Place) (λ x. and_then (judgement scope b «use».Value) (λ y. by_itself scope (out-Node n).place u (what.Assign op x y)))
  unfolding layer_of
  judged-Assign op a b h = judged _ h

  pub judged-Before : (up : Bool) (a : Node) → out-What (out-Node n).what ≡ what.Before up a →
      judgement scope n u ≡ and_then (judgement scope a «use».Place) (λ x. by_itself scope (out-Node n).place u (what.Before up x))
  unfolding layer_of
  judged-Before up a h = judged _ h

  pub judged-After : (up : Bool) (a : Node) → out-What (out-Node n).what ≡ what.After up a →
      judgement scope n u ≡ and_then (judgement scope a «use».Place) (λ x. by_itself scope (out-Node n).place u (what.After up x))
  unfolding layer_of
  judged-After up a h = judged _ h

  pub judged-Index : (a i : Node) → out-What (out-Node n).what ≡ what.Index a i →
      judgement scope n u ≡
      and_then (judgement scope a «use».Base) (λ x. and_then (judgement scope i «use».Value) (λ y. by_itself scope (out-Node n).place u (what.Index x y)))
  unfolding layer_of
  judged-Index a i h = judged _ h

  pub judged-Call : (f : Node) (args : List Node) → out-What (out-Node n).what ≡ what.Call f args →
      judgement scope n u ≡
      and_then (judgement scope f «use».Callee) (λ x. and_then (judgements scope args (argument_use x)) (λ ys. by_itself scope (out-Node n).place u (what.Call x ys)))
  unfolding layer_of
  judged-Call f args h = judged _ h

  pub judged-Cast : (specs : Specs) (a : Node) → out-What (out-Node n).what ≡ what.Cast specs a →
      judgement scope n u ≡
      and_then (type_of scope specs) (λ t. and_then (judgement scope a (cast_use t)) (λ x. by_itself scope (out-Node n).place u (what.Cast t x)))
  unfolding layer_of
  judged-Cast specs a h =
      judged _ h ∙
      ap (λ j. and_then j (λ t. and_then (judgement scope a (cast_use t)) (λ x. by_itself scope (out-Node n).place u (what.Cast t x)))) (specs_are scope specs)
