-- The rules of a whole unit, and the program that it is where it breaks none (C11 6.9).
use Rattle.std.specs.Prelude.{ℕ, Bool, false, ◌&&◌, not, if◌then◌else◌, List, [], map, Option, Some, None, slice_get, is_some, codes}
use Rattle.std.specs.List.{list_any}
use Rattle.mv_syntax.specs.declared.place.Place.{Place}
use Rattle.mv_ast.specs.declared.program.Function.{Function}
use Rattle.mv_ast.specs.declared.program.Program.{Program}
use Rattle.mv_ast.specs.declared.program.Signature.{Signature}
use Rattle.mv_ast.specs.declared.program.Switch.{Switch}
use Rattle.mv_syntax.specs.declared.unit.Declarator.{Declarator}
use Rattle.mv_syntax.specs.declared.unit.Initial.{Initial}
use Rattle.mv_syntax.specs.declared.unit.Item.{Item}
use Rattle.mv_syntax.specs.declared.unit.Line.{Line}
use Rattle.mv_syntax.specs.declared.unit.Specs.{out-Specs}
use Rattle.mv_syntax.specs.declared.unit.Unit as unit
use Rattle.mv_check_scope.specs.declared.meaning.Meaning.{Meaning}
use Rattle.mv_check_scope.specs.declared.meaning.Meaning.TheVariants as meaning
use Rattle.mv_check_scope.specs.declared.scope.Scope.{Scope}
use Rattle.mv_check_scope.specs.Conversions.{int, same_signature}
use Rattle.mv_check_scope.specs.Spaces.{named}
use Rattle.mv_check_expressions.specs.RuleNumbers as rules
use Rattle.mv_check_expressions.specs.Judged.{Judged, Good, Broken, and_then}
use Rattle.mv_check_outline.specs.Outlined.{is_function, declares_pointer, is_filled, name_of}
use Rattle.mv_check_declarations.specs.declared.attributes.Attribute.{Attribute}
use Rattle.mv_check_declarations.specs.declared.attributes.Position.TheVariants as position
use Rattle.mv_check_declarations.specs.declared.declarators.Entity.{Entity}
use Rattle.mv_check_declarations.specs.declared.declarators.Entity.TheVariants as entity
use Rattle.mv_check_declarations.specs.declared.globals.Designated.{Designated}
use Rattle.mv_check_declarations.specs.declared.specifiers.Specified.{Specified}
use Rattle.mv_check_declarations.specs.Declarators.{signature_of}
use Rattle.mv_check_declarations.specs.Globals.{file_declarator, global_words}
use Rattle.mv_check_declarations.specs.Initials.{array_size, plain_values}
use Rattle.mv_check_declarations.specs.Objects.{scalar, sized}
use Rattle.mv_check_declarations.specs.Specifiers.{specifiers}
use Rattle.mv_check_declarations.specs.Turns.{through}
use Rattle.mv_check_uses.specs.Uses.{switches_named}
use Rattle.mv_types.specs.declared.contents.Contents.{Contents}
use Rattle.mv_types.specs.declared.contents.Foreknown.{Foreknown}
use Rattle.mv_types.specs.Contents.{nothing_declared, in_scope, present, switches_from}
use Rattle.mv_types.specs.Foreknown.{foreknown, is_fixed, pointers_of}
use Rattle.mv_types.specs.Functions.{function_judgement, definition_parameters}
use Rattle.mv_types.specs.Objects.{object_judgement, domain_by}

-- ---- declarators

abbrev pub by_entity : Foreknown → Specified → Option Line → Declarator → List ℕ → Entity → Option Attribute → Contents → Judged Contents
by_entity k b body d name (entity.Function signature) a c = function_judgement k d name b.ctype signature body c
by_entity k b body d name (entity.Scalar t fixed) a c = object_judgement k d name (scalar t) (domain_by (declares_pointer d) c.scope b.enumeration a) (is_some body) c
by_entity k b body d name (entity.Array t fixed size) a c =
    object_judgement k d name (sized t (array_size size d.initial)) (domain_by (declares_pointer d) c.scope b.enumeration a) (is_some body) c

-- the initial value of a declarator without a name
abbrev pub nameless_values : Entity → Option Initial → Scope → Judged (Unit {0})
nameless_values (entity.Function signature) values s = and_then (plain_values values s) (λ x. Good tt)
nameless_values (entity.Scalar t fixed) values s = and_then (global_words (scalar t) values s) (λ x. Good tt)
nameless_values (entity.Array t fixed size) values s = and_then (global_words (sized t (array_size size values)) values s) (λ x. Good tt)

-- declarations: there is no name
unfoldable pub named_declarator : Foreknown → Specified → Option Line → Declarator → Option (List ℕ) → Designated → Contents → Judged Contents
named_declarator k b body d None e c = and_then (nameless_values e.entity d.initial c.scope) (λ done. Broken d.place rules.declarations)
named_declarator k b body d (Some name) e c = by_entity k b body d name e.entity e.attribute c

-- what a declarator says of a `const` object is said with `const`
abbrev pub base_of : Foreknown → Declarator → Specified → Specified
base_of k d b = record b { fixed = is_fixed k (name_of d) }

-- a declarator at file scope, with the block behind it if there is one
unfoldable pub declarator_judgement : Foreknown → Specified → Option Line → Declarator → Contents → Judged Contents
declarator_judgement k b body d c =
    and_then (definition_parameters d body c.scope) (λ s.
    and_then (file_declarator (base_of k d b) d s) (λ e. named_declarator k b body d d.name e.1 (in_scope c e.0)))

-- ---- declarations

-- An attribute among specifiers holds for each declarator; none may stand there where one of them declares a `const` object.
abbrev pub declares_constant : Foreknown → Declarator → Bool
declares_constant k d = not (is_function d) && is_fixed k (name_of d)

abbrev pub holders : Foreknown → List Declarator → List Declarator
holders k ds = if list_any (declares_constant k) ds then [] else ds

abbrev pub declares_nothing : Item → Bool
declares_nothing i = not (is_filled i.names) && not (is_filled (out-Specs i.specs).tags)

-- declarations: there is neither a name nor an enum
abbrev pub names_judgement : Foreknown → Specified → Item → Contents → Judged Contents
names_judgement k b i c =
    if declares_nothing i then Broken (out-Specs i.specs).place rules.declarations
    else through (declarator_judgement k b i.body) i.names c

unfoldable pub item_judgement : Foreknown → Item → Contents → Judged Contents
item_judgement k i c =
    and_then (specifiers position.File (holders k i.names) i.specs c.scope) (λ b. names_judgement k b.1 i (in_scope c b.0))

-- ---- the end

abbrev pub is_main_type : Option Signature → Bool
is_main_type None = false
is_main_type (Some t) = same_signature t (signature_of int [])

-- the number of a function that is defined, has no parameters and gives `int`
abbrev pub main_of : List Signature → Option Meaning → Option ℕ
main_of signatures (Some (meaning.Function r)) = if is_main_type (slice_get signatures r.signature) then r.number else None
main_of signatures _ = None

abbrev pub with_switches : List Switch → Function → Function
with_switches switches f = record f { switches = if f.attributed then switches_named switches f.body else [] }

-- with these pointer switches and this `main`
unfoldable pub program_of : Contents → List ℕ → ℕ → Program
program_of c pointers main =
    let switches = switches_from 0 c.objects in
    record {
      signatures = c.scope.signatures;
      globals = map (λ o. o.global) c.objects;
      functions = map (with_switches switches) (present c.functions);
      switches = switches;
      pointers = pointers;
      main = main;
    }

-- main: there is no `main`
abbrev pub program_or_broken : Place → List ℕ → Contents → Option ℕ → Judged Program
program_or_broken place pointers c None = Broken place rules.main
program_or_broken place pointers c (Some main) = Good (program_of c pointers main)

unfoldable pub program_judgement : Place → List ℕ → Contents → Judged Program
program_judgement place pointers c = program_or_broken place pointers c (main_of c.scope.signatures (named (codes "main") c.scope.names.here))

-- ---- units

-- The program of a unit, or the first place in it at which a rule is broken.
unfoldable pub unit_judgement : unit.Unit → Judged Program
unit_judgement u =
    let k = foreknown u.items in
    and_then (through (item_judgement k) u.items (nothing_declared k)) (program_judgement u.end (pointers_of k))
