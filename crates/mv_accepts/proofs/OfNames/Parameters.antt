-- The locals that are the parameters of a function that is defined have the types that its declarator gives them.
use Rattle.std.proofs.Common.{◌≡◌, ℕ, refl, sym, ◌∙◌, ap, subst, Bool, List, [], ◌∷◌, ◌++◌, map, Option, Some, None}
use Rattle.std.proofs.lemmas.List.{append_assoc, append-nil}
use Rattle.std.proofs.lemmas.Option.{same_Some}
use Rattle.mv_syntax.specs.declared.place.Place.{Place}
use Rattle.mv_ast.specs.declared.program.CType.{CType}
use Rattle.mv_ast.specs.declared.program.Local.{Local}
use Rattle.mv_syntax.specs.declared.unit.Declarator.{Declarator, Declarator-F, fold-roll-Declarator}
use Rattle.mv_syntax.specs.declared.unit.Param.{Param, Param-F, fold-roll-Param}
use Rattle.mv_syntax.specs.declared.unit.Shape.{Shape}
use Rattle.mv_check_scope.specs.declared.scope.Scope.{Scope}
use Rattle.mv_check_scope.specs.Conversions.{is_void}
use Rattle.mv_check_expressions.specs.Judged.{Good, and_then}
use Rattle.mv_check_declarations.specs.declared.attributes.Position.TheVariants as position
use Rattle.mv_check_declarations.specs.declared.declarators.Entity.{Entity}
use Rattle.mv_check_declarations.specs.declared.declarators.Entity.TheVariants as entity
use Rattle.mv_check_declarations.specs.declared.specifiers.Specified.{Specified}
use Rattle.mv_check_declarations.specs.Attributes.{attributes, nothing_holds}
use Rattle.mv_check_declarations.specs.Declarators.{Shapes, Declarators, Params, shape_step, declarator_step, param_step, is_taken_by, designated, parameter, parameter_declarator}
use Rattle.mv_check_declarations.specs.Objects.{scalar}
use Rattle.mv_check_declarations.specs.Parameters.{named_parameter, defined_parameter, new_defined, parameter_judgement, parameters_judgement}
use Rattle.mv_check_declarations.specs.Specifiers.{specifiers}
use Rattle.mv_check_declarations.specs.Turns.{in_turn, next_part, through}
use Rattle.mv_accepts.specs.Statements.Bodies.{Keeps}
use Rattle.mv_accepts.proofs.OfStatements.Judging.{IfGood, of_good, if_kept}
use Rattle.mv_accepts.proofs.OfStatements.Places.{keeps_joined}
use Rattle.mv_accepts.proofs.OfStatements.Specified.{Specifies, specifiers_specify}
use Rattle.mv_accepts.proofs.OfStatements.Designated.{Designates, shape_designates}
use Rattle.mv_accepts.proofs.OfNames.Agreeing.{same_ctype, type_in, Types, part_good, parts_keep, IsOne, declarator_good, params_have, shapes_have}
use Rattle.mv_accepts.proofs.OfExpressions.Kept.{went_on, same_good}

-- ---- a parameter of a definition

-- the next local, a scalar of the type of an entity
abbrev Adds : Entity → Scope → Scope → Type 0
Adds e s v = (t : CType) × (type_in e ≡ Some t) × (v.locals ≡ s.locals ++ scalar t ∷ []) × (v.signatures ≡ s.signatures)

named_adds : (place : Place) (name : Option (List ℕ)) (t : CType) (fixed : Bool) (s : Scope) → IfGood (named_parameter place name t fixed s) (Adds (entity.Scalar t fixed) s)
named_adds place None t fixed s = tt
named_adds place (Some name) t fixed s = (t, refl, refl, refl)

defined_adds : (place : Place) (name : Option (List ℕ)) (e : Entity) (s : Scope) → IfGood (defined_parameter place name e s) (Adds e s)
defined_adds place name (entity.Scalar t fixed) s =
    if_kept (Adds (entity.Scalar t fixed) s) (is_void t) place 8 (named_parameter place name t fixed s) (λ q. named_adds place name t fixed s)
defined_adds place name (entity.Array t fixed size) s = tt
defined_adds place name (entity.Function g) s = tt

new_adds : (place : Place) (name : Option (List ℕ)) (e : Entity) (s : Scope) → IfGood (new_defined place name e s) (Adds e s)
unfolding new_defined
new_adds place name e s = if_kept (Adds e s) (is_taken_by s name) place 2 (defined_parameter place name e s) (λ q. defined_adds place name e s)

record IsAdded (p : Param) (u v : Scope) : Type 0 where
  base : Scope × Specified
  specified : specifiers position.Parameter [] p.specs u ≡ Good base
  entity : Scope × Entity
  judged : designated p.name.shape base.1.ctype base.1.fixed base.0 ≡ Good entity
  adds : Adds entity.1 entity.0 v
  keeps : Keeps u.signatures base.0.signatures
  more : Keeps base.0.signatures entity.0.signatures
  same : entity.0.locals ≡ u.locals

added : (p : Param) (u v : Scope) → parameter_judgement p u ≡ Good v → IsAdded p u v
added p u v q =
    let b = went_on (specifiers position.Parameter [] p.specs u) (λ b.
    and_then (designated p.name.shape b.1.ctype b.1.fixed b.0) (λ e.
    and_then (attributes nothing_holds None e.0 p.name.marks b.1.attribute) (λ a. new_defined p.name.place p.name.name e.1 e.0))) v q in
    let e = went_on (designated p.name.shape b.0.1.ctype b.0.1.fixed b.0.0) (λ e.
    and_then (attributes nothing_holds None e.0 p.name.marks b.0.1.attribute) (λ a. new_defined p.name.place p.name.name e.1 e.0)) v b.2 in
    let a = went_on (attributes nothing_holds None e.0.0 p.name.marks b.0.1.attribute) (λ a. new_defined p.name.place p.name.name e.0.1 e.0.0) v e.2 in
    let says = of_good (Specifies u) (specifiers position.Parameter [] p.specs u) (specifiers_specify position.Parameter [] p.specs u) b.0 b.1 in
    let gives = of_good (Designates b.0.0) (designated p.name.shape b.0.1.ctype b.0.1.fixed b.0.0)
    (shape_designates p.name.shape b.0.1.ctype b.0.1.fixed b.0.0 says.plain) e.0 e.1 in
    record {
      base = b.0;
      specified = b.1;
      entity = e.0;
      judged = e.1;
      adds = of_good (Adds e.0.1 e.0.0) (new_defined p.name.place p.name.name e.0.1 e.0.0) (new_adds p.name.place p.name.name e.0.1 e.0.0) v a.2;
      keeps = says.enumerates.declares.grows.signatures;
      more = gives.declares.grows.signatures;
      same = gives.declares.same ∙ says.enumerates.declares.same;
    }

-- ---- a parameter of a declaration

declarator_open : (x : Declarator) (b : Specified) (s : Scope) (d : Scope × CType) → parameter_declarator x b s ≡ Good d →
    IsOne (record { place = x.place; name = x.name; shape = designated x.shape; marks = x.marks; initial = x.initial }) b s d
declarator_open x b s d q =
    let y : Declarator-F Shape Declarator Param = record { place = x.place; name = x.name; shape = x.shape; marks = x.marks; initial = x.initial } in
    declarator_good (record { place = x.place; name = x.name; shape = designated x.shape; marks = x.marks; initial = x.initial }) b s d
    (ap (λ (g : Declarators). g b s) (sym (fold-roll-Declarator Shapes Declarators Params shape_step declarator_step param_step y)) ∙ q)

param_open : (p : Param) (s : Scope) (d : Scope × CType) → parameter p s ≡ Good d →
    and_then (specifiers position.Parameter [] p.specs s) (λ b. parameter_declarator p.name b.1 b.0) ≡ Good d
param_open p s d q =
    let y : Param-F Shape Declarator Param = record { specs = p.specs; name = p.name } in
    ap (λ (g : Params). g s) (sym (fold-roll-Param Shapes Declarators Params shape_step declarator_step param_step y)) ∙ q

-- ---- the two together

record IsMatched (t : CType) (u v : Scope) : Type 0 where
  locals : v.locals ≡ u.locals ++ scalar t ∷ []
  keeps : Keeps u.signatures v.signatures

param_matches : (p : Param) (s u : Scope) (d : Scope × CType) (v : Scope) → parameter p s ≡ Good d → parameter_judgement p u ≡ Good v →
    Keeps d.0.signatures u.signatures → IsMatched d.1 u v
param_matches p s u d v q r k =
    let m = went_on (specifiers position.Parameter [] p.specs s) (λ b. parameter_declarator p.name b.1 b.0) d (param_open p s d q) in
    let y = declarator_open p.name m.0.1 m.0.0 d m.2 in
    let z = added p u v r in
    let same = same_ctype position.Parameter position.Parameter [] [] p.specs s u m.0 z.base m.1 z.specified in
    let types = (shapes_have p.name.shape).agrees z.base.1.ctype m.0.1.fixed z.base.1.fixed m.0.0 z.base.0 y.entity z.entity
    (subst (λ t. designated p.name.shape t m.0.1.fixed m.0.0 ≡ Good y.entity) same y.judged) z.judged
    (keeps_joined y.entity.0.signatures u.signatures z.base.0.signatures (subst (λ w. Keeps w u.signatures) y.signatures k) z.keeps) in
    let type : z.adds.0 ≡ d.1 = same_Some z.adds.0 d.1 (sym z.adds.1 ∙ (sym types ∙ y.type)) in
    record {
      locals = z.adds.2 ∙ (ap (λ ls. ls ++ scalar z.adds.0 ∷ []) z.same ∙ ap (λ t. u.locals ++ scalar t ∷ []) type);
      keeps = subst (λ w. Keeps u.signatures w) (sym z.adds.3) (keeps_joined u.signatures z.base.0.signatures z.entity.0.signatures z.keeps z.more);
    }

-- so many locals come behind, of the types that come behind
record AreMatched (c d : Types) (u v : Scope) : Type 0 where
  more : List Local
  locals : v.locals ≡ u.locals ++ more
  types : d.1 ≡ c.1 ++ map (λ l. l.ctype) more

params_match : (ps : List Param) (c d : Types) (u v : Scope) → in_turn (map parameter ps) c ≡ Good d → parameters_judgement u ps ≡ Good v →
    Keeps d.0.signatures u.signatures → AreMatched c d u v
params_match [] c d u v q r k = record {
  more = [];
  locals = ap (λ (z : Scope). z.locals) (sym (same_good u v r)) ∙ sym (append-nil u.locals);
  types = ap (λ (z : Types). z.1) (sym (same_good c d q)) ∙ sym (append-nil c.1);
}
params_match (p ∷ ps) c d u v q r k =
    let m = went_on (next_part (parameter p) c) (in_turn (map parameter ps)) d q in
    let w = went_on (parameter_judgement p u) (through parameter_judgement ps) v r in
    let y = part_good (parameter p) c m.0 m.1 in
    let before = keeps_joined m.0.0.signatures d.0.signatures u.signatures (parts_keep (map parameter ps) (params_have ps) m.0 d m.2) k in
    let one = param_matches p c.0 u y.given w.0 y.judged w.1 (subst (λ (z : Scope). Keeps z.signatures u.signatures) (sym y.scope) before) in
    let rest = params_match ps m.0 d w.0 v m.2 w.2 (keeps_joined d.0.signatures u.signatures w.0.signatures k one.keeps) in
    record {
      more = scalar y.given.1 ∷ rest.more;
      locals = rest.locals ∙ (ap (λ ls. ls ++ rest.more) one.locals ∙ append_assoc u.locals (scalar y.given.1 ∷ []) rest.more);
      types = rest.types ∙ (ap (λ ts. ts ++ map (λ l. l.ctype) rest.more) (sym y.types) ∙ append_assoc c.1 (y.given.1 ∷ []) (map (λ l. l.ctype) rest.more));
    }

-- where there are no locals before them
pub parameters_match : (ps : List Param) (c d : Types) (u v : Scope) → c.1 ≡ [] → u.locals ≡ [] → in_turn (map parameter ps) c ≡ Good d →
    parameters_judgement u ps ≡ Good v → Keeps d.0.signatures u.signatures → d.1 ≡ map (λ l. l.ctype) v.locals
parameters_match ps c d u v nothing empty q r k =
    let y = params_match ps c d u v q r k in
    y.types ∙ (ap (λ ts. ts ++ map (λ l. l.ctype) y.more) nothing ∙ ap (λ ls. map (λ l. l.ctype) ls) (sym (y.locals ∙ ap (λ ls. ls ++ y.more) empty)))
