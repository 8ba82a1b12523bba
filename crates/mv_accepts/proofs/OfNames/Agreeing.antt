-- The types of parameters come out the same where they are judged again in a later scope.
use Rattle.std.proofs.Common.{◌≡◌, ℕ, refl, sym, ◌∙◌, ap, subst, Bool, List, [], ◌∷◌, ◌++◌, map, Option, Some, None}
use Rattle.std.specs.List.{AllByRecursion}
use Rattle.std.proofs.lemmas.Option.{same_Some}
use Rattle.mv_syntax.specs.declared.place.Place.{Place}
use Rattle.mv_ast.specs.declared.program.CType.{CType}
use Rattle.mv_ast.specs.declared.program.CType.TheVariants.{Pointer}
use Rattle.mv_syntax.specs.declared.unit.Declarator.{Declarator, Declarator-F}
use Rattle.mv_syntax.specs.declared.unit.Param.{Param, Param-F}
use Rattle.mv_syntax.specs.declared.unit.Shape.{Shape, Shape-F}
use Rattle.mv_syntax.specs.declared.unit.Shape.TheOpen as shape
use Rattle.mv_syntax.specs.declared.unit.Specs.{Specs}
use Rattle.mv_check_scope.specs.declared.scope.Scope.{Scope}
use Rattle.mv_check_scope.specs.Conversions.{is_void}
use Rattle.mv_check_scope.specs.Scoped.{block_entered, block_left}
use Rattle.mv_check_scope.specs.Signatures.{place_of, with_signature}
use Rattle.mv_check_expressions.specs.Judged.{Good, and_then}
use Rattle.mv_check_declarations.specs.declared.attributes.Position.{Position}
use Rattle.mv_check_declarations.specs.declared.attributes.Position.TheVariants as position
use Rattle.mv_check_declarations.specs.declared.declarators.Entity.{Entity}
use Rattle.mv_check_declarations.specs.declared.declarators.Entity.TheVariants as entity
use Rattle.mv_check_declarations.specs.declared.specifiers.Specified.{Specified}
use Rattle.mv_check_declarations.specs.Attributes.{attributes, nothing_holds}
use Rattle.mv_check_declarations.specs.Declarators.{signature_of, numbered, function_type, Shapes, Declarators, Params, size_of, shape_step, is_taken_by, parameter_declared, parameter_of, new_parameter, declarator_step, param_step, designated, parameter}
use Rattle.mv_check_declarations.specs.Specifiers.{specifiers}
use Rattle.mv_check_declarations.specs.Turns.{next_part, in_turn}
use Rattle.mv_accepts.specs.Statements.Bodies.{Keeps}
use Rattle.mv_accepts.proofs.OfStatements.Judging.{IfGood, of_good, if_kept}
use Rattle.mv_accepts.proofs.OfStatements.Places.{keeps_same, keeps_joined, signature_kept}
use Rattle.mv_accepts.proofs.OfStatements.Specified.{Specifies, specifiers_specify, specifiers_name}
use Rattle.mv_accepts.proofs.OfStatements.NamedTypes.{IsNamed}
use Rattle.mv_accepts.proofs.OfStatements.Shapes.{ShapeParts, every_shape, every_params}
use Rattle.mv_accepts.proofs.OfStatements.Signatures.{number_kept}
use Rattle.mv_accepts.proofs.OfExpressions.Kept.{went_on, same_good}

-- ---- judgements that are good

-- ---- specifiers

pub same_ctype : (p q : Position) (ns ms : List Declarator) (specs : Specs) (s u : Scope) (d e : Scope × Specified) →
    specifiers p ns specs s ≡ Good d → specifiers q ms specs u ≡ Good e → d.1.ctype ≡ e.1.ctype
same_ctype p q ns ms specs s u d e h k =
    let a = of_good (λ x. IsNamed specs x.1.ctype) (specifiers p ns specs s) (specifiers_name p ns specs s) d h in
    let b = of_good (λ x. IsNamed specs x.1.ctype) (specifiers q ms specs u) (specifiers_name q ms specs u) e k in
    same_Some d.1.ctype e.1.ctype (sym a ∙ b)

pub specifiers_keep : (p : Position) (ns : List Declarator) (specs : Specs) (s : Scope) (d : Scope × Specified) → specifiers p ns specs s ≡ Good d →
    Keeps s.signatures d.0.signatures
specifiers_keep p ns specs s d h =
    (of_good (Specifies s) (specifiers p ns specs s) (specifiers_specify p ns specs s) d h).enumerates.declares.grows.signatures

-- ---- what holds of the parts of a declarator

abbrev pub type_in : Entity → Option CType
type_in (entity.Scalar t fixed) = Some t
type_in (entity.Array t fixed size) = None
type_in (entity.Function s) = None

-- A part keeps signatures, and in a later scope it gives the same type.
pub record ShapeHas (x : Shapes) : Type 0 where
  pub keeps : (t : CType) (f : Bool) (s : Scope) (d : Scope × Entity) → x t f s ≡ Good d → Keeps s.signatures d.0.signatures
  pub agrees : (t : CType) (f g : Bool) (s u : Scope) (d e : Scope × Entity) → x t f s ≡ Good d → x t g u ≡ Good e → Keeps d.0.signatures u.signatures →
      type_in d.1 ≡ type_in e.1

pub record DeclaratorHas (x : Declarators) : Type 0 where
  pub keeps : (b : Specified) (s : Scope) (d : Scope × CType) → x b s ≡ Good d → Keeps s.signatures d.0.signatures
  pub agrees : (b c : Specified) (s u : Scope) (d e : Scope × CType) → b.ctype ≡ c.ctype → x b s ≡ Good d → x c u ≡ Good e →
      Keeps d.0.signatures u.signatures → d.1 ≡ e.1

pub record ParamHas (x : Params) : Type 0 where
  pub keeps : (s : Scope) (d : Scope × CType) → x s ≡ Good d → Keeps s.signatures d.0.signatures
  pub agrees : (s u : Scope) (d e : Scope × CType) → x s ≡ Good d → x u ≡ Good e → Keeps d.0.signatures u.signatures → d.1 ≡ e.1

-- ---- parameters in their order

abbrev pub Types : Type 0
Types = Scope × List CType

-- what one more parameter gives
pub record IsNext (x : Params) (c m : Types) : Type 0 where
  pub given : Scope × CType
  pub judged : x c.0 ≡ Good given
  pub scope : given.0 ≡ m.0
  pub types : c.1 ++ given.1 ∷ [] ≡ m.1

pub part_good : (x : Params) (c m : Types) → next_part x c ≡ Good m → IsNext x c m
part_good x c m q =
    let y = went_on (x c.0) (λ e. Good (e.0, c.1 ++ e.1 ∷ [])) m q in
    let r = same_good (y.0.0, c.1 ++ y.0.1 ∷ []) m y.2 in
    record { given = y.0; judged = y.1; scope = ap (λ (z : Types). z.0) r; types = ap (λ (z : Types). z.1) r }

part_keeps : (x : Params) → ParamHas x → (c m : Types) → IsNext x c m → Keeps c.0.signatures m.0.signatures
part_keeps x h c m n = subst (λ (z : Scope). Keeps c.0.signatures z.signatures) n.scope (h.keeps c.0 n.given n.judged)

pub parts_keep : (xs : List Params) → AllByRecursion ParamHas xs → (c d : Types) → in_turn xs c ≡ Good d → Keeps c.0.signatures d.0.signatures
parts_keep [] h c d q = subst (λ (z : Types). Keeps c.0.signatures z.0.signatures) (same_good c d q) (keeps_same c.0.signatures)
parts_keep (x ∷ xs) h c d q =
    let m = went_on (next_part x c) (in_turn xs) d q in
    keeps_joined c.0.signatures m.0.0.signatures d.0.signatures (part_keeps x h.0 c m.0 (part_good x c m.0 m.1)) (parts_keep xs h.1 m.0 d m.2)

parts_agree : (xs : List Params) → AllByRecursion ParamHas xs → (b c d e : Types) → in_turn xs b ≡ Good d → in_turn xs c ≡ Good e → b.1 ≡ c.1 →
    Keeps d.0.signatures c.0.signatures → d.1 ≡ e.1
parts_agree [] h b c d e q r same k = ap (λ (z : Types). z.1) (sym (same_good b d q)) ∙ (same ∙ ap (λ (z : Types). z.1) (same_good c e r))
parts_agree (x ∷ xs) h b c d e q r same k =
    let m = went_on (next_part x b) (in_turn xs) d q in
    let n = went_on (next_part x c) (in_turn xs) e r in
    let y = part_good x b m.0 m.1 in
    let z = part_good x c n.0 n.1 in
    let before = keeps_joined m.0.0.signatures d.0.signatures c.0.signatures (parts_keep xs h.1 m.0 d m.2) k in
    let first = h.0.agrees b.0 c.0 y.given z.given y.judged z.judged (subst (λ (v : Scope). Keeps v.signatures c.0.signatures) (sym y.scope) before) in
    let types : m.0.1 ≡ n.0.1 = sym y.types ∙ (ap (λ ts. ts ++ y.given.1 ∷ []) same ∙ (ap (λ t. c.1 ++ t ∷ []) first ∙ z.types)) in
    parts_agree xs h.1 m.0 n.0 d e m.2 n.2 types
    (keeps_joined d.0.signatures c.0.signatures n.0.0.signatures k (part_keeps x h.0 c n.0 z))

-- ---- types of functions

pub record IsType (t : CType) (params : List Params) (s : Scope) (d : Scope × ℕ) : Type 0 where
  pub behind : Types
  pub judged : in_turn params (block_entered s, []) ≡ Good behind
  pub signatures : d.0.signatures ≡ with_signature (signature_of t behind.1) behind.0.signatures
  pub number : d.1 ≡ place_of (signature_of t behind.1) behind.0.signatures

pub type_good : (t : CType) (params : List Params) (s : Scope) (d : Scope × ℕ) → function_type t params s ≡ Good d → IsType t params s d
type_good t params s d q =
    let m = went_on (in_turn params (block_entered s, [])) (λ z. Good (numbered t z.1 (block_left z.0))) d q in
    let r = same_good (numbered t m.0.1 (block_left m.0.0)) d m.2 in
    record {
      behind = m.0;
      judged = m.1;
      signatures = ap (λ (z : Scope × ℕ). z.0.signatures) (sym r);
      number = ap (λ (z : Scope × ℕ). z.1) (sym r);
    }

within : (t : CType) (params : List Params) (s : Scope) (d : Scope × ℕ) → (y : IsType t params s d) → Keeps y.behind.0.signatures d.0.signatures
within t params s d y =
    subst (λ z. Keeps y.behind.0.signatures z) (sym y.signatures) (signature_kept (signature_of t y.behind.1) y.behind.0.signatures)

type_keeps : (t : CType) (params : List Params) → AllByRecursion ParamHas params → (s : Scope) (d : Scope × ℕ) → function_type t params s ≡ Good d →
    Keeps s.signatures d.0.signatures
type_keeps t params h s d q =
    let y = type_good t params s d q in
    keeps_joined s.signatures y.behind.0.signatures d.0.signatures (parts_keep params h (block_entered s, []) y.behind y.judged) (within t params s d y)

type_agrees : (t : CType) (params : List Params) → AllByRecursion ParamHas params → (s u : Scope) (d e : Scope × ℕ) → function_type t params s ≡ Good d →
    function_type t params u ≡ Good e → Keeps d.0.signatures u.signatures → d.1 ≡ e.1
type_agrees t params h s u d e q r k =
    let y = type_good t params s d q in
    let z = type_good t params u e r in
    let before = keeps_joined y.behind.0.signatures d.0.signatures u.signatures (within t params s d y) k in
    let types : y.behind.1 ≡ z.behind.1 = parts_agree params h (block_entered s, []) (block_entered u, []) y.behind z.behind y.judged z.judged refl before in
    let more = keeps_joined d.0.signatures u.signatures z.behind.0.signatures k (parts_keep params h (block_entered u, []) z.behind z.judged) in
    let kept = number_kept (signature_of t y.behind.1) y.behind.0.signatures z.behind.0.signatures (subst (λ v. Keeps v z.behind.0.signatures) y.signatures more) in
    y.number ∙ (sym kept ∙ (ap (λ ts. place_of (signature_of t ts) z.behind.0.signatures) types ∙ sym z.number))

-- ---- shapes

keeps_to : (s : Scope) (a b : Scope × Entity) → a ≡ b → Keeps s.signatures a.0.signatures → Keeps s.signatures b.0.signatures
keeps_to s a b q k = subst (λ (z : Scope × Entity). Keeps s.signatures z.0.signatures) q k

shape_keeps : (x : Shape-F Shapes Declarators Params) → ShapeParts ParamHas x → (t : CType) (f : Bool) (s : Scope) (d : Scope × Entity) → shape_step x t f s ≡ Good d →
    Keeps s.signatures d.0.signatures
shape_keeps shape.Plain h t f s d q = keeps_to s (s, entity.Scalar t f) d (same_good (s, entity.Scalar t f) d q) (keeps_same s.signatures)
shape_keeps (shape.Array size) h t f s d q =
    let m = went_on (size_of s size) (λ n. Good (s, entity.Array t f n)) d q in
    keeps_to s (s, entity.Array t f m.0) d (same_good (s, entity.Array t f m.0) d m.2) (keeps_same s.signatures)
shape_keeps (shape.Function params) h t f s d q =
    let m = went_on (function_type t params s) (λ e. Good (e.0, entity.Function e.1)) d q in
    keeps_to s (m.0.0, entity.Function m.0.1) d (same_good (m.0.0, entity.Function m.0.1) d m.2) (type_keeps t params h s m.0 m.1)
shape_keeps (shape.Pointer constant params) h t f s d q =
    let m = went_on (function_type t params s) (λ e. Good (e.0, entity.Scalar (Pointer e.1) constant)) d q in
    keeps_to s (m.0.0, entity.Scalar (Pointer m.0.1) constant) d (same_good (m.0.0, entity.Scalar (Pointer m.0.1) constant) d m.2) (type_keeps t params h s m.0 m.1)
shape_keeps (shape.PointerArray constant size params) h t f s d q =
    let n = went_on (size_of s size) (λ n. and_then (function_type t params s) (λ e. Good (e.0, entity.Array (Pointer e.1) constant n))) d q in
    let m = went_on (function_type t params s) (λ e. Good (e.0, entity.Array (Pointer e.1) constant n.0)) d n.2 in
    keeps_to s (m.0.0, entity.Array (Pointer m.0.1) constant n.0) d (same_good (m.0.0, entity.Array (Pointer m.0.1) constant n.0) d m.2)
    (type_keeps t params h s m.0 m.1)

type_to : (a b : Scope × Entity) → a ≡ b → type_in a.1 ≡ type_in b.1
type_to a b q = ap (λ (z : Scope × Entity). type_in z.1) q

shape_agrees : (x : Shape-F Shapes Declarators Params) → ShapeParts ParamHas x → (t : CType) (f g : Bool) (s u : Scope) (d e : Scope × Entity) →
    shape_step x t f s ≡ Good d → shape_step x t g u ≡ Good e → Keeps d.0.signatures u.signatures → type_in d.1 ≡ type_in e.1
shape_agrees shape.Plain h t f g s u d e q r k =
    sym (type_to (s, entity.Scalar t f) d (same_good (s, entity.Scalar t f) d q)) ∙ type_to (u, entity.Scalar t g) e (same_good (u, entity.Scalar t g) e r)
shape_agrees (shape.Array size) h t f g s u d e q r k =
    let m = went_on (size_of s size) (λ n. Good (s, entity.Array t f n)) d q in
    let n = went_on (size_of u size) (λ n. Good (u, entity.Array t g n)) e r in
    sym (type_to (s, entity.Array t f m.0) d (same_good (s, entity.Array t f m.0) d m.2)) ∙ type_to (u, entity.Array t g n.0) e (same_good (u, entity.Array t g n.0) e n.2)
shape_agrees (shape.Function params) h t f g s u d e q r k =
    let m = went_on (function_type t params s) (λ y. Good (y.0, entity.Function y.1)) d q in
    let n = went_on (function_type t params u) (λ y. Good (y.0, entity.Function y.1)) e r in
    sym (type_to (m.0.0, entity.Function m.0.1) d (same_good (m.0.0, entity.Function m.0.1) d m.2)) ∙
    type_to (n.0.0, entity.Function n.0.1) e (same_good (n.0.0, entity.Function n.0.1) e n.2)
shape_agrees (shape.Pointer constant params) h t f g s u d e q r k =
    let m = went_on (function_type t params s) (λ y. Good (y.0, entity.Scalar (Pointer y.1) constant)) d q in
    let n = went_on (function_type t params u) (λ y. Good (y.0, entity.Scalar (Pointer y.1) constant)) e r in
    let a = same_good (m.0.0, entity.Scalar (Pointer m.0.1) constant) d m.2 in
    let b = same_good (n.0.0, entity.Scalar (Pointer n.0.1) constant) e n.2 in
    let number = type_agrees t params h s u m.0 n.0 m.1 n.1 (subst (λ (z : Scope × Entity). Keeps z.0.signatures u.signatures) (sym a) k) in
    sym (type_to (m.0.0, entity.Scalar (Pointer m.0.1) constant) d a) ∙ (ap (λ i. Some (Pointer i)) number ∙ type_to (n.0.0, entity.Scalar (Pointer n.0.1) constant) e b)
shape_agrees (shape.PointerArray constant size params) h t f g s u d e q r k =
    let i = went_on (size_of s size) (λ n. and_then (function_type t params s) (λ y. Good (y.0, entity.Array (Pointer y.1) constant n))) d q in
    let m = went_on (function_type t params s) (λ y. Good (y.0, entity.Array (Pointer y.1) constant i.0)) d i.2 in
    let j = went_on (size_of u size) (λ n. and_then (function_type t params u) (λ y. Good (y.0, entity.Array (Pointer y.1) constant n))) e r in
    let n = went_on (function_type t params u) (λ y. Good (y.0, entity.Array (Pointer y.1) constant j.0)) e j.2 in
    sym (type_to (m.0.0, entity.Array (Pointer m.0.1) constant i.0) d (same_good (m.0.0, entity.Array (Pointer m.0.1) constant i.0) d m.2)) ∙
    type_to (n.0.0, entity.Array (Pointer n.0.1) constant j.0) e (same_good (n.0.0, entity.Array (Pointer n.0.1) constant j.0) e n.2)

shape_has : (x : Shape-F Shapes Declarators Params) → ShapeParts ParamHas x → ShapeHas (shape_step x)
shape_has x h = record { keeps = shape_keeps x h; agrees = shape_agrees x h }

-- ---- parameters of declarations

declared_signatures : (name : Option (List ℕ)) (t : CType) (fixed : Bool) (s : Scope) → (parameter_declared name t fixed s).signatures ≡ s.signatures
declared_signatures None t fixed s = refl
declared_signatures (Some name) t fixed s = refl

abbrev Gives : Entity → Scope → Scope × CType → Type 0
Gives e s d = (type_in e ≡ Some d.1) × (d.0.signatures ≡ s.signatures)

parameter_gives : (place : Place) (name : Option (List ℕ)) (e : Entity) (s : Scope) → IfGood (parameter_of place name e s) (Gives e s)
parameter_gives place name (entity.Scalar t fixed) s =
    if_kept (Gives (entity.Scalar t fixed) s) (is_void t) place 8 (Good (parameter_declared name t fixed s, t)) (λ q. (refl, declared_signatures name t fixed s))
parameter_gives place name (entity.Array t fixed size) s = tt
parameter_gives place name (entity.Function f) s = tt

new_gives : (place : Place) (name : Option (List ℕ)) (e : Entity) (s : Scope) → IfGood (new_parameter place name e s) (Gives e s)
unfolding new_parameter
new_gives place name e s = if_kept (Gives e s) (is_taken_by s name) place 2 (parameter_of place name e s) (λ q. parameter_gives place name e s)

pub record IsOne (x : Declarator-F Shapes Declarators Params) (b : Specified) (s : Scope) (d : Scope × CType) : Type 0 where
  pub entity : Scope × Entity
  pub judged : x.shape b.ctype b.fixed s ≡ Good entity
  pub type : type_in entity.1 ≡ Some d.1
  pub signatures : d.0.signatures ≡ entity.0.signatures

pub declarator_good : (x : Declarator-F Shapes Declarators Params) (b : Specified) (s : Scope) (d : Scope × CType) → declarator_step x b s ≡ Good d → IsOne x b s d
declarator_good x b s d q =
    let m = went_on (x.shape b.ctype b.fixed s) (λ e. and_then (attributes nothing_holds None e.0 x.marks b.attribute) (λ a. new_parameter x.place x.name e.1 e.0)) d q in
    let a = went_on (attributes nothing_holds None m.0.0 x.marks b.attribute) (λ a. new_parameter x.place x.name m.0.1 m.0.0) d m.2 in
    let g = of_good (Gives m.0.1 m.0.0) (new_parameter x.place x.name m.0.1 m.0.0) (new_gives x.place x.name m.0.1 m.0.0) d a.2 in
    record { entity = m.0; judged = m.1; type = g.0; signatures = g.1 }

declarator_has : (x : Declarator-F Shapes Declarators Params) → ShapeHas x.shape → DeclaratorHas (declarator_step x)
declarator_has x h = record {
  keeps = λ b s d q.
      let y = declarator_good x b s d q in
      subst (λ z. Keeps s.signatures z) (sym y.signatures) (h.keeps b.ctype b.fixed s y.entity y.judged);
  agrees = λ b c s u d e same q r k.
      let y = declarator_good x b s d q in
      let z = declarator_good x c u e r in
      same_Some d.1 e.1 (sym y.type ∙ (h.agrees c.ctype b.fixed c.fixed s u y.entity z.entity (subst (λ t. x.shape t b.fixed s ≡ Good y.entity) same y.judged) z.judged
      (subst (λ v. Keeps v u.signatures) y.signatures k) ∙ z.type));
}

param_has : (x : Param-F Shapes Declarators Params) → DeclaratorHas x.name → ParamHas (param_step x)
param_has x h = record {
  keeps = λ s d q.
      let m = went_on (specifiers position.Parameter [] x.specs s) (λ b. x.name b.1 b.0) d q in
      keeps_joined s.signatures m.0.0.signatures d.0.signatures (specifiers_keep position.Parameter [] x.specs s m.0 m.1) (h.keeps m.0.1 m.0.0 d m.2);
  agrees = λ s u d e q r k.
      let m = went_on (specifiers position.Parameter [] x.specs s) (λ b. x.name b.1 b.0) d q in
      let n = went_on (specifiers position.Parameter [] x.specs u) (λ b. x.name b.1 b.0) e r in
      h.agrees m.0.1 n.0.1 m.0.0 n.0.0 d e (same_ctype position.Parameter position.Parameter [] [] x.specs s u m.0 n.0 m.1 n.1) m.2 n.2
      (keeps_joined d.0.signatures u.signatures n.0.0.signatures k (specifiers_keep position.Parameter [] x.specs u n.0 n.1));
}

-- ---- by induction over the declarator

pub shapes_have : (x : Shape) → ShapeHas (designated x)
shapes_have = every_shape ShapeHas DeclaratorHas ParamHas shape_has declarator_has param_has

pub params_have : (ps : List Param) → AllByRecursion ParamHas (map parameter ps)
params_have = every_params ShapeHas DeclaratorHas ParamHas shape_has declarator_has param_has
