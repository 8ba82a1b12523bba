-- The type that specifiers name goes by their words alone, and is no pointer.
use Rattle.std.proofs.Common.{◌≡◌, refl, sym, ◌∙◌, ap, subst, Bool, not, ◌&&◌, List, map, length, Option, Some, None}
use Rattle.std.proofs.lemmas.List.{length-map}
use Rattle.mv_syntax.specs.declared.place.Place.{Place}
use Rattle.mv_ast.specs.declared.program.CType.{CType}
use Rattle.mv_syntax.specs.declared.unit.Specs.{Specs, out-Specs}
use Rattle.mv_ast.specs.Names.{any_of}
use Rattle.mv_check_scope.specs.declared.scope.Scope.{Scope}
use Rattle.mv_check_expressions.specs.TypeNames.{named_type, undeclared_enum, type_or_broken, type_of}
use Rattle.mv_check_declarations.specs.declared.attributes.Position.{Position}
use Rattle.mv_check_declarations.specs.Specifiers.{at_file, type_by_rules}
use Rattle.mv_accepts.proofs.OfExpressions.Plain.{IsPlain, PlainOption, named_plain}
use Rattle.mv_accepts.proofs.OfStatements.Judging.{IfGood, if_kept, if_more}

abbrev pub IsNamed : Specs → CType → Type 0
IsNamed specs t = let f = out-Specs specs in named_type (length f.tags) f.words ≡ Some t

pub named_is_plain : (specs : Specs) (t : CType) → IsNamed specs t → IsPlain t
named_is_plain specs t h = let f = out-Specs specs in subst PlainOption h (named_plain (length f.tags) f.words)

option_named : (place : Place) (o : Option CType) → IfGood (type_or_broken place o) (λ t. o ≡ Some t)
option_named place None = tt
option_named place (Some t) = refl

type_named : (s : Scope) (specs : Specs) → IfGood (type_of s specs) (IsNamed specs)
type_named s specs =
    let f = out-Specs specs in
    let flags : List Bool = map (undeclared_enum s) f.tags in
    if_kept (IsNamed specs) (any_of flags) f.place 1 (type_or_broken f.place (named_type (length flags) f.words)) (λ q.
    if_more (λ t. named_type (length flags) f.words ≡ Some t) (IsNamed specs) (type_or_broken f.place (named_type (length flags) f.words))
    (λ t h. ap (λ n. named_type n f.words) (sym (length-map f.tags (undeclared_enum s))) ∙ h) (option_named f.place (named_type (length flags) f.words)))

pub rules_named : (position : Position) (undeclared again : Bool) (specs : Specs) (s : Scope) → IfGood (type_by_rules position undeclared again specs s) (IsNamed specs)
unfolding type_by_rules
rules_named position undeclared again specs s =
    let f = out-Specs specs in
    if_kept (IsNamed specs) undeclared f.place 1 _ (λ q.
    if_kept (IsNamed specs) again f.place 2 _ (λ r.
    if_kept (IsNamed specs) (f.hidden && not (at_file position)) f.place 22 (type_of s specs) (λ u. type_named s specs)))
