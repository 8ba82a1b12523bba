-- What declarators designate, and how scopes grow by them.
use Rattle.std.proofs.Common.{◌≡◌, ℕ, refl, Bool, List, [], Option, Some, None}
use Rattle.std.specs.List.{AllByRecursion}
use Rattle.mv_syntax.specs.declared.place.Place.{Place}
use Rattle.mv_ast.specs.declared.program.CType.{CType}
use Rattle.mv_ast.specs.declared.program.CType.TheVariants.{Pointer}
use Rattle.mv_ast.specs.declared.program.Signature.{Signature}
use Rattle.mv_syntax.specs.declared.unit.Declarator.{Declarator-F}
use Rattle.mv_syntax.specs.declared.unit.Param.{Param-F}
use Rattle.mv_syntax.specs.declared.unit.Shape.{Shape, Shape-F}
use Rattle.mv_syntax.specs.declared.unit.Shape.TheOpen as shape
use Rattle.mv_check_scope.specs.declared.meaning.Meaning.TheVariants as meaning
use Rattle.mv_check_scope.specs.declared.meaning.Storage.TheVariants as storage
use Rattle.mv_check_scope.specs.declared.scope.Scope.{Scope}
use Rattle.mv_check_scope.specs.Conversions.{is_void}
use Rattle.mv_check_scope.specs.Scoped.{block_entered, block_left}
use Rattle.mv_check_expressions.specs.Judged.{Good}
use Rattle.mv_check_declarations.specs.declared.attributes.Position.TheVariants as position
use Rattle.mv_check_declarations.specs.declared.declarators.Entity.{Entity}
use Rattle.mv_check_declarations.specs.declared.declarators.Entity.TheVariants as entity
use Rattle.mv_check_declarations.specs.declared.specifiers.Specified.{Specified}
use Rattle.mv_check_declarations.specs.Attributes.{attributes, nothing_holds}
use Rattle.mv_check_declarations.specs.Declarators.{signature_of, numbered, function_type, Shapes, Declarators, Params, size_of, shape_step, is_taken_by, parameter_declared, parameter_of, new_parameter, declarator_step, param_step, designated}
use Rattle.mv_check_declarations.specs.Specifiers.{specifiers}
use Rattle.mv_check_declarations.specs.Turns.{next_part, in_turn}
use Rattle.mv_accepts.specs.Expressions.Soundness.{IsListed}
use Rattle.mv_accepts.proofs.OfExpressions.Plain.{IsPlain}
use Rattle.mv_accepts.proofs.OfStatements.Judging.{IfGood, if_any, if_then, if_kept, if_more, if_through}
use Rattle.mv_accepts.proofs.OfStatements.Places.{plain_listed}
use Rattle.mv_accepts.proofs.OfStatements.Growing.{Declares, declares_same, declares_joined, declares_declared, declares_numbered, declares_block, names_back, tags_back}
use Rattle.mv_accepts.proofs.OfStatements.Specified.{Specifies, specifiers_specify}
use Rattle.mv_accepts.proofs.OfStatements.Shapes.{ShapeParts, every_shape}
use Rattle.mv_accepts.proofs.OfStatements.Signatures.{signature_at}

abbrev pub IsListedEntity : List Signature → Entity → Type 0
IsListedEntity signatures (entity.Scalar t fixed) = IsListed signatures t
IsListedEntity signatures (entity.Array t fixed size) = IsListed signatures t
IsListedEntity signatures (entity.Function s) = IsListed signatures (Pointer s)

-- from a scope to one with the same names and tags, and an entity that is listed there
pub record Designates (s : Scope) (d : Scope × Entity) : Type 0 where
  pub declares : Declares s d.0
  pub names : d.0.names ≡ s.names
  pub tags : d.0.tags ≡ s.tags
  pub listed : IsListedEntity d.0.signatures d.1

record Numbers (s : Scope) (d : Scope × ℕ) : Type 0 where
  declares : Declares s d.0
  names : d.0.names ≡ s.names
  tags : d.0.tags ≡ s.tags
  listed : IsListed d.0.signatures (Pointer d.1)

-- ---- what holds of the parts of a declarator

abbrev pub ShapeDesignates : Shapes → Type 0
ShapeDesignates x = (t : CType) (fixed : Bool) (s : Scope) → IsPlain t → IfGood (x t fixed s) (Designates s)

abbrev DeclaratorDeclares : Declarators → Type 0
DeclaratorDeclares x = (base : Specified) (s : Scope) → IsPlain base.ctype → IfGood (x base s) (λ d. Declares s d.0)

abbrev ParamDeclares : Params → Type 0
ParamDeclares x = (s : Scope) → IfGood (x s) (λ d. Declares s d.0)

abbrev TypesBehind : Scope × List CType → Scope × List CType → Type 0
TypesBehind d e = Declares d.0 e.0

part_grows : (x : Params) → ParamDeclares x → (d : Scope × List CType) → IfGood (next_part x d) (TypesBehind d)
part_grows x h d = if_then (λ e. Declares d.0 e.0) (TypesBehind d) (x d.0) _ (h d.0) (λ e g. g)

type_numbers : (t : CType) (params : List Params) → IsPlain t → AllByRecursion ParamDeclares params → (s : Scope) → IfGood (function_type t params s) (Numbers s)
type_numbers t params plain h s =
    if_then (TypesBehind (block_entered s, [])) (Numbers s) (in_turn params (block_entered s, [])) _
    (if_through next_part TypesBehind ParamDeclares (λ d. declares_same d.0) (λ d e f. declares_joined d.0 e.0 f.0) part_grows params h (block_entered s, []))
    (λ d g. record {
      declares = declares_joined s (block_left d.0) (numbered t d.1 (block_left d.0)).0 (declares_block s d.0 g) (declares_numbered t d.1 (block_left d.0) plain);
      names = names_back s d.0 g.grows;
      tags = tags_back s d.0 g.grows;
      listed = (signature_of t d.1, signature_at (signature_of t d.1) d.0.signatures);
    })

as_it_is : (s : Scope) (e : Entity) → IsListedEntity s.signatures e → Designates s (s, e)
as_it_is s e h = record { declares = declares_same s; names = refl; tags = refl; listed = h }

shape_good : (x : Shape-F Shapes Declarators Params) → ShapeParts ParamDeclares x → ShapeDesignates (shape_step x)
shape_good shape.Plain h t fixed s plain = as_it_is s (entity.Scalar t fixed) (plain_listed s.signatures t plain)
shape_good (shape.Array size) h t fixed s plain =
    if_then (λ n. Unit {0}) (Designates s) (size_of s size) _ (if_any (size_of s size)) (λ n u. as_it_is s (entity.Array t fixed n) (plain_listed s.signatures t plain))
shape_good (shape.Function params) h t fixed s plain =
    if_then (Numbers s) (Designates s) (function_type t params s) _ (type_numbers t params plain h s)
    (λ d n. record { declares = n.declares; names = n.names; tags = n.tags; listed = n.listed })
shape_good (shape.Pointer constant params) h t fixed s plain =
    if_then (Numbers s) (Designates s) (function_type t params s) _ (type_numbers t params plain h s)
    (λ d n. record { declares = n.declares; names = n.names; tags = n.tags; listed = n.listed })
shape_good (shape.PointerArray constant size params) h t fixed s plain =
    if_then (λ n. Unit {0}) (Designates s) (size_of s size) _ (if_any (size_of s size)) (λ m u.
    if_then (Numbers s) (Designates s) (function_type t params s) _ (type_numbers t params plain h s)
    (λ d n. record { declares = n.declares; names = n.names; tags = n.tags; listed = n.listed }))

-- ---- parameters of declarations

named_grows : (name : Option (List ℕ)) (t : CType) (fixed : Bool) (s : Scope) → Declares s (parameter_declared name t fixed s)
named_grows None t fixed s = declares_same s
named_grows (Some name) t fixed s = declares_declared s name (meaning.Object (record { storage = storage.Local 0; ctype = t; fixed = fixed; switch = None }))

parameter_grows : (place : Place) (name : Option (List ℕ)) (e : Entity) (s : Scope) → IfGood (parameter_of place name e s) (λ d. Declares s d.0)
parameter_grows place name (entity.Scalar t fixed) s =
    if_kept (λ d. Declares s d.0) (is_void t) place 8 (Good (parameter_declared name t fixed s, t)) (λ q. named_grows name t fixed s)
parameter_grows place name (entity.Array t fixed size) s = tt
parameter_grows place name (entity.Function f) s = tt

new_grows : (place : Place) (name : Option (List ℕ)) (e : Entity) (s : Scope) → IfGood (new_parameter place name e s) (λ d. Declares s d.0)
unfolding new_parameter
new_grows place name e s = if_kept (λ d. Declares s d.0) (is_taken_by s name) place 2 (parameter_of place name e s) (λ q. parameter_grows place name e s)

declarator_good : (x : Declarator-F Shapes Declarators Params) → ShapeDesignates x.shape → DeclaratorDeclares (declarator_step x)
declarator_good x h base s plain =
    if_then (Designates s) (λ d. Declares s d.0) (x.shape base.ctype base.fixed s) _ (h base.ctype base.fixed s plain) (λ e g.
    let given = attributes nothing_holds None e.0 x.marks base.attribute in
    if_then (λ a. Unit {0}) (λ d. Declares s d.0) given _ (if_any given) (λ a u.
    if_more (λ d. Declares e.0 d.0) (λ d. Declares s d.0) (new_parameter x.place x.name e.1 e.0) (λ d n. declares_joined s e.0 d.0 g.declares n) (new_grows x.place x.name e.1 e.0)))

param_good : (x : Param-F Shapes Declarators Params) → DeclaratorDeclares x.name → ParamDeclares (param_step x)
param_good x h s =
    if_then (Specifies s) (λ d. Declares s d.0) (specifiers position.Parameter [] x.specs s) _ (specifiers_specify position.Parameter [] x.specs s) (λ b g.
    if_more (λ d. Declares b.0 d.0) (λ d. Declares s d.0) (x.name b.1 b.0) (λ d n. declares_joined s b.0 d.0 g.enumerates.declares n) (h b.1 b.0 g.plain))

-- ---- by induction over the declarator

pub shape_designates : (x : Shape) → ShapeDesignates (designated x)
shape_designates = every_shape ShapeDesignates DeclaratorDeclares ParamDeclares shape_good declarator_good param_good
