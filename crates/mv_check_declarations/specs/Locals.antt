-- Declarations in a block (C11 6.7, 6.8.2).
use Rattle.std.specs.Prelude.{ℕ, Bool, false, if◌then◌else◌, List, [], map, length, Option, Some, None}
use Rattle.mv_ast.specs.declared.program.CType.{CType}
use Rattle.mv_ast.specs.declared.program.Expr.{Expr}
use Rattle.mv_ast.specs.declared.program.Local.{Local}
use Rattle.mv_ast.specs.declared.program.Stmt.{Stmt}
use Rattle.mv_ast.specs.declared.program.Stmt.TheVariants as stmt
use Rattle.mv_syntax.specs.declared.unit.Declarator.{Declarator}
use Rattle.mv_syntax.specs.declared.unit.Initial.{Initial}
use Rattle.mv_syntax.specs.declared.unit.Specs.{Specs}
use Rattle.mv_check_scope.specs.declared.meaning.Meaning.{Meaning}
use Rattle.mv_check_scope.specs.declared.meaning.Meaning.TheVariants as meaning
use Rattle.mv_check_scope.specs.declared.meaning.Storage.TheVariants as storage
use Rattle.mv_check_scope.specs.declared.scope.Scope.{Scope}
use Rattle.mv_check_scope.specs.Conversions.{is_void}
use Rattle.mv_check_scope.specs.Scoped.{declared, with_local}
use Rattle.mv_check_expressions.specs.RuleNumbers as rules
use Rattle.mv_check_expressions.specs.Judged.{Judged, Good, Broken, and_then}
use Rattle.mv_check_declarations.specs.declared.attributes.Position.TheVariants as position
use Rattle.mv_check_declarations.specs.declared.declarators.Entity.{Entity}
use Rattle.mv_check_declarations.specs.declared.declarators.Entity.TheVariants as entity
use Rattle.mv_check_declarations.specs.declared.initials.Converted.{Converted}
use Rattle.mv_check_declarations.specs.declared.objects.Breaches.{Breaches}
use Rattle.mv_check_declarations.specs.Attributes.{attributes, nothing_holds}
use Rattle.mv_check_declarations.specs.Declarators.{is_taken_by, designated}
use Rattle.mv_check_declarations.specs.Enumerators.{is_taken}
use Rattle.mv_check_declarations.specs.Initials.{array_size, initial_values, plain_values}
use Rattle.mv_check_declarations.specs.Objects.{scalar, sized, is_unconverted, breaks_extents, least, unless_broken}
use Rattle.mv_check_declarations.specs.Specifiers.{specifiers}
use Rattle.mv_check_declarations.specs.Turns.{Behind, in_turn}

abbrev pub scalar_meaning : ℕ → CType → Bool → Meaning
scalar_meaning l t fixed = meaning.Object (record { storage = storage.Local l; ctype = t; fixed = fixed; switch = None })

abbrev pub array_meaning : ℕ → CType → Bool → Meaning
array_meaning l t fixed = meaning.Array (record { storage = storage.Local l; ctype = t; fixed = fixed })

-- the scope in which a local's own initial value is judged: its name means the local, unless it is declared in this scope already
unfoldable pub own_scope : Scope → Option (List ℕ) → Local → Meaning → Scope
own_scope s None l m = s
own_scope s (Some name) l m = if is_taken s name then s else declared (with_local s l) name m

-- redeclarations: the name is declared in this scope already
abbrev pub breaches : (taken : Bool) → Local → Option Initial → Converted → Breaches
breaches taken l values x = record {
  redeclared = taken;
  unconverted = is_unconverted l values x.all;
  void = is_void l.ctype;
  extents = breaks_extents false l values (length x.values);
  block = false;
}

-- declarations: there is no name
abbrev pub rule_of : Option (List ℕ) → (taken : Bool) → Local → Option Initial → Converted → Option ℕ
rule_of None taken l values x = Some rules.declarations
rule_of (Some name) taken l values x = least (breaches taken l values x)

-- the values that a local is given, converted, which are judged before its declarator
abbrev pub local_values : Declarator → (taken : Bool) → Local → Scope → Judged (List Expr)
local_values d taken l s = and_then (initial_values l.ctype d.initial s) (λ x. unless_broken d.place (rule_of d.name taken l d.initial x) x.values)

-- an object: its name means it in its own initial value
abbrev pub object : Declarator → Local → Meaning → Scope → Behind Stmt
object d l m s =
    let own = own_scope s d.name l m in
    and_then (local_values d (is_taken_by s d.name) l own) (λ es. Good (own, stmt.Clear (length s.locals) es))

-- redeclarations: the name of a function is declared in this scope already; declarations: a function is declared in a block
unfoldable pub rule_of_function : Scope → Option (List ℕ) → ℕ
rule_of_function s name = if is_taken_by s name then rules.redeclarations else rules.declarations

-- by what a declarator designates
abbrev pub by_entity : Declarator → Entity → Scope → Behind Stmt
by_entity d (entity.Scalar t fixed) s = object d (scalar t) (scalar_meaning (length s.locals) t fixed) s
by_entity d (entity.Array t fixed size) s = object d (sized t (array_size size d.initial)) (array_meaning (length s.locals) t fixed) s
by_entity d (entity.Function f) s = and_then (plain_values d.initial s) (λ x. Broken d.place (rule_of_function s d.name))

-- a declarator in a block
abbrev pub local : CType → Bool → Declarator → Scope → Behind Stmt
local t fixed d s =
    and_then (designated d.shape t fixed s) (λ e.
    and_then (attributes nothing_holds None e.0 d.marks None) (λ a. by_entity d e.1 e.0))

-- a declaration in a block: the statements that clear its locals and give them their values
abbrev pub locals_judgement : Scope → Specs → List Declarator → Judged (Scope × List Stmt)
locals_judgement s specs names =
    and_then (specifiers position.Block names specs s) (λ b. in_turn (map (local b.1.ctype b.1.fixed) names) (b.0, []))
