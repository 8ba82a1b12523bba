-- What declarations at file scope come to, and the program that a unit is where it breaks no rule (C11 6.9).
use Rattle.std.specs.Prelude.{ℕ, suc, ◌+◌, Bool, true, false, ◌&&◌, ◌||◌, not, nat_lt, is_some, unwrap_or, if◌then◌else◌, List, [], ◌∷◌, ◌++◌, map, filter, fold, length, replicate, Option, Some, None, slice_get, slice_set, codes}
use Rattle.std.specs.List.{flat_map}
use Rattle.mv_syntax.specs.declared.place.Place.{Place}
use Rattle.mv_ast.specs.declared.program.CType.{CType}
use Rattle.mv_ast.specs.declared.program.Expr.{Expr}
use Rattle.mv_ast.specs.declared.program.Function as program_function
use Rattle.mv_ast.specs.declared.program.Global as program_global
use Rattle.mv_ast.specs.declared.program.Program.{Program}
use Rattle.mv_ast.specs.declared.program.Signature.{Signature}
use Rattle.mv_ast.specs.declared.program.Stmt.{Stmt}
use Rattle.mv_ast.specs.declared.program.Switch.{Switch}
use Rattle.mv_syntax.specs.declared.unit.Declarator.{Declarator}
use Rattle.mv_syntax.specs.declared.unit.Item.{Item}
use Rattle.mv_syntax.specs.declared.unit.Line.{Line}
use Rattle.mv_syntax.specs.declared.unit.Node.{Node}
use Rattle.mv_syntax.specs.declared.unit.Param.{Param}
use Rattle.mv_syntax.specs.declared.unit.Shape.{Shape-F, out-Shape}
use Rattle.mv_syntax.specs.declared.unit.Shape.TheOpen as shape
use Rattle.mv_syntax.specs.declared.unit.Specs.{out-Specs}
use Rattle.mv_syntax.specs.declared.unit.Unit as tree
use Rattle.mv_ast.specs.Operators.{converted}
use Rattle.mv_check_scope.specs.declared.meaning.Meaning.{Meaning}
use Rattle.mv_check_scope.specs.declared.meaning.Meaning.TheVariants as meaning
use Rattle.mv_check_scope.specs.declared.meaning.Storage.{Storage}
use Rattle.mv_check_scope.specs.declared.meaning.Storage.TheVariants as storage
use Rattle.mv_check_scope.specs.declared.scope.Scope.{Scope}
use Rattle.mv_check_scope.specs.Constants.{constant_value}
use Rattle.mv_check_scope.specs.Conversions.{int, same_signature}
use Rattle.mv_check_scope.specs.Known.{known_function, is_named}
use Rattle.mv_check_scope.specs.Scoped.{start, declared, block_entered, block_left}
use Rattle.mv_check_expressions.specs.Calls.{named_function}
use Rattle.mv_check_expressions.specs.Judged.{Judged, Good, and_then}
use Rattle.mv_check_expressions.specs.Judgements.{value_judgement}
use Rattle.mv_check_outline.specs.Names.{each_once, among, is_among, place_of, number_in}
use Rattle.mv_check_outline.specs.Outlined.{name_of, is_function, declares_pointer, is_marked, is_there}
use Rattle.mv_check_declarations.specs.Attributes.{is_constant_form}
use Rattle.mv_check_declarations.specs.ValueSets.{with_member}
use Rattle.mv_types.specs.Foreknown as foreknown
use Rattle.mv_check_uses.specs.Uses.{switches_named}
use Rattle.mv_check_rules.specs.Nodes.{Declared, Scalar, Array, Function, Given, Nothing, Characters, Bearer, Global}
use Rattle.mv_check_rules.specs.Nodes as node
use Rattle.mv_check_rules.specs.Rules.{meaning_here, stands_here, is_empty, is_given, concluded}
use Rattle.mv_check_rules.specs.Declarations.{Found, in_order, Base, Attribution, attributes, specifiers, declared_as, parameters, given, expressions_of, type_or_void, local_size, named_unless}
use Rattle.mv_check_rules.specs.Statements.{body}
use Rattle.mv_check_declarations.specs.Specifiers.{scalar_kind}

-- ---- what holds of a name in the whole unit, whichever of its declarations says it

-- the names of a unit's declarators that are such in their items, each once, in order of first declaration
abbrev pub names_where : (Item → Declarator → Bool) → List Item → List (List ℕ)
names_where is_such items = each_once (flat_map (λ i. map name_of (filter (is_such i) i.names)) items)

-- the functions that a unit defines, in order of their first declarations
abbrev pub functions : List Item → List (List ℕ)
functions items = among (names_where (λ i d. is_function d && is_there i.body) items) (names_where (λ i d. is_function d) items)

-- those of which a declaration has the attribute
abbrev pub attributed_functions : List Item → List (List ℕ)
attributed_functions = names_where (λ i d. is_function d && is_marked i d)

abbrev pub objects : List Item → List (List ℕ)
objects = names_where (λ i d. not (is_function d))

-- those that have the attribute: integers are switches, and function pointers are pointer switches
abbrev pub switches : List Item → List (List ℕ)
switches items = among (names_where (λ i d. not (is_function d) && (not (declares_pointer d) && is_marked i d)) items) (objects items)

abbrev pub pointer_switches : List Item → List (List ℕ)
pointer_switches items = among (names_where (λ i d. declares_pointer d && is_marked i d) items) (objects items)

-- an object of which a declaration says `const`
abbrev pub is_constant_object : List Item → List ℕ → Bool
is_constant_object items name = is_among name (names_where foreknown.is_constant items)

-- a function of which a declaration has the attribute
abbrev pub is_attributed : List Item → List ℕ → Bool
is_attributed items name = is_among name (attributed_functions items)

-- the number of a function that the unit defines
abbrev pub function_number : List Item → List ℕ → Option ℕ
function_number items name = place_of name (functions items)

-- the number of an attributed function among those that the unit defines
abbrev pub attributed_number : List Item → List ℕ → Option ℕ
attributed_number items name = if is_attributed items name then Some (unwrap_or (place_of name (among (attributed_functions items) (functions items))) 0) else None

-- the number of an object that has the attribute: the switches come first, and behind them the pointer switches
abbrev pub switch_number : List Item → List ℕ → Option ℕ
switch_number items name = place_of name (switches items ++ pointer_switches items)

-- the globals that are pointer switches
abbrev pub pointer_globals : List Item → List ℕ
pointer_globals items = map (number_in (objects items)) (pointer_switches items)

-- ---- the unit so far

pub record Declarations : Type 0 where
  pub scope : Scope
  pub globals : List Global
  -- those that the unit defines, by their numbers
  pub functions : List (Option program_function.Function)

abbrev pub none_declared : List Item → Declarations
none_declared items = record { scope = start; globals = []; functions = replicate (length (functions items)) None }

abbrev pub behind : Scope → Declarations → Declarations
behind s c = record { scope = s; globals = c.globals; functions = c.functions }

-- ---- attributes

-- what an attribute stands on, by the declarator that it holds for
abbrev pub bearer_of_form : {A B C : Type 0} → (main constant : Bool) → Shape-F A B C → Bearer
bearer_of_form main constant shape.Plain = if constant then node.ConstantObject else node.Switch
bearer_of_form main constant (shape.Array size) = node.Array
bearer_of_form main constant (shape.Function params) = if main then node.Main else node.Function
bearer_of_form main constant (shape.Pointer fixed params) = if constant then node.ConstantObject else node.PointerSwitch
bearer_of_form main constant (shape.PointerArray fixed size params) = node.Array

abbrev pub is_main : Option (List ℕ) → Bool
is_main None = false
is_main (Some name) = is_named name (codes "main")

abbrev pub bearer : (constant : Bool) → Declarator → Bearer
bearer constant d = bearer_of_form (is_main d.name) constant (out-Shape d.shape)

-- An attribute among specifiers stands on all that the declarators declare. An object is `const` by this declaration or by another one.
abbrev pub bearers : List Item → (constant : Bool) → List Declarator → List Bearer
bearers items constant ds = map (λ d. bearer (is_constant_form constant (out-Shape d.shape) || is_constant_object items (name_of d)) d) ds

-- ---- objects

abbrev pub address_or : Option ℕ → Option ℕ → Option ℕ
address_or (Some f) value = Some (f + 1)
address_or None value = value

-- the word of a constant (C11 6.6): one more than the number of the function that it names, or the value of an integer constant expression
abbrev pub constant_word : Expr → Option ℕ
constant_word e = address_or (named_function e) (constant_value e)

-- a value of an object at file scope, which is a constant
abbrev pub constant_expression : Scope → Node → Judged Expr
constant_expression s n = and_then (value_judgement s n) (λ e. concluded n.place s (node.Needed (constant_word e)) e)

-- the 0 behind so many characters of a string, where there is room for it
abbrev pub last_zero : Option ℕ → ℕ → List ℕ
last_zero None n = []
last_zero (Some size) n = if nat_lt n size then 0 ∷ [] else []

-- the word of a value
abbrev pub word_of : CType → Expr → ℕ
word_of t e = converted t (unwrap_or (constant_word e) 0)

abbrev pub first_words : CType → Option ℕ → Given → Option (List ℕ)
first_words t size Nothing = None
first_words t size (Characters bytes) = Some (map (converted t) bytes ++ last_zero size (length bytes))
first_words t size g = Some (map (word_of t) (expressions_of g))

-- the different ones of some values, in order of first appearance
abbrev pub distinct : List ℕ → List ℕ
distinct = fold with_member []

-- 0 and 1, or the different values of the enumeration that is the type
abbrev pub default_domain : Scope → Option ℕ → List ℕ
default_domain s None = 0 ∷ 1 ∷ []
default_domain s (Some n) = distinct (unwrap_or (slice_get s.enumerations n) [])

-- the domain of an object that has the attribute; a pointer has none
abbrev pub domain : (pointer : Bool) → Scope → Option ℕ → Option Attribution → Option (List ℕ)
domain true s enumeration a = None
domain false s enumeration None = None
domain false s enumeration (Some a) = Some (unwrap_or a (default_domain s enumeration))

-- the object that a name means
abbrev pub global_in : Storage → Option ℕ
global_in (storage.Global g) = Some g
global_in (storage.Local l) = None

abbrev pub global_number : Option Meaning → Option ℕ
global_number (Some (meaning.Object v)) = global_in v.storage
global_number (Some (meaning.Array e)) = global_in e.storage
global_number _ = None

abbrev pub global_at : List Global → Option ℕ → Option Global
global_at gs None = None
global_at gs (Some n) = slice_get gs n

-- what the scope has of an object with this name already
abbrev pub earlier : Declarations → List ℕ → Option Global
earlier c name = global_at c.globals (global_number (meaning_here c.scope name))

-- the next global, by the name of it
abbrev pub object_meaning : List Item → List ℕ → ℕ → Declared → Option Meaning
object_meaning items name n (Scalar t constant) =
    Some (meaning.Object (record { storage = storage.Global n; ctype = t; fixed = is_constant_object items name; switch = switch_number items name }))
object_meaning items name n (Array t constant size) =
    Some (meaning.Array (record { storage = storage.Global n; ctype = t; fixed = is_constant_object items name }))
object_meaning items name n (Function signature) = None

-- the scope of an object's own initial value: a name that is new means the object
abbrev pub object_named : List Item → List ℕ → Declared → Declarations → Scope
object_named items name d c = named_unless (stands_here c.scope name) c.scope name (object_meaning items name (length c.globals) d)

module _ {A : Type 0} where
  abbrev pub first_of : Option A → Option A → Option A
  first_of None b = b
  first_of (Some a) b = Some a

abbrev pub new_global : List ℕ → Declared → Given → Option (List ℕ) → Global
new_global name d g domain = record {
  name = name;
  ctype = type_or_void d;
  size = local_size d g;
  words = first_words (type_or_void d) (local_size d g) g;
  domain = domain;
}

-- a global with what one more declaration says of it
abbrev pub declared_again : Global → Global → Global
declared_again old new = record old { words = first_of new.words old.words; domain = first_of old.domain new.domain }

abbrev pub with_global : List Global → Option ℕ → Option Global → Global → List Global
with_global gs (Some n) (Some old) new = slice_set gs n (declared_again old new)
with_global gs _ _ new = gs ++ new ∷ []

abbrev pub object_found : List ℕ → Scope → Global → Declarations → Declarations
object_found name s new c =
    record { scope = s; globals = with_global c.globals (global_number (meaning_here c.scope name)) (earlier c name) new; functions = c.functions }

-- a declarator of an object, with what its name is declared to be and the domain that its attribute gives it
abbrev pub object : List Item → Declarator → List ℕ → Declared → Option (List ℕ) → (block : Bool) → Declarations → Judged Declarations
object items d name e domain block c =
    let s = object_named items name e c in
    and_then (given constant_expression d.initial s) (λ g.
    concluded d.place c.scope (node.Object name e g domain (earlier c name) block) (object_found name s (new_global name e g domain) c))

-- ---- functions

abbrev pub is_defined : Option (Option program_function.Function) → Bool
is_defined (Some (Some f)) = true
is_defined _ = false

abbrev pub is_defined_at : List (Option program_function.Function) → Option ℕ → Bool
is_defined_at functions None = false
is_defined_at functions (Some n) = is_defined (slice_get functions n)

-- a name that is new means the function; a known function stays what it is
abbrev pub routine_named : List Item → List ℕ → (signature : ℕ) → Scope → Scope
routine_named items name signature s = if stands_here s name || is_some (known_function name) then s else declared s name (meaning.Function (record {
  number = function_number items name;
  signature = signature;
  attributed = attributed_number items name;
}))

abbrev pub params_of_form : {A B : Type 0} → Shape-F A B Param → List Param
params_of_form (shape.Function params) = params
params_of_form _ = []

abbrev pub params_of : Declarator → List Param
params_of d = params_of_form (out-Shape d.shape)

-- a function's parameters and locals stand in a block of their own
abbrev pub function_entered : (attributed : Bool) → Scope → Scope
function_entered attributed s = record (block_entered s) { locals = []; attributed = attributed }

abbrev pub function_left : Scope → Scope
function_left s = record (block_left s) { locals = []; attributed = false }

abbrev pub function_found : List ℕ → (attributed : Bool) → CType → (params : ℕ) → Scope × List Stmt → Scope × program_function.Function
function_found name attributed result params d = (
  function_left d.0,
  record {
    name = name;
    attributed = attributed;
    result = result;
    params = params;
    locals = d.0.locals;
    switches = [];
    body = d.1;
  },
)

-- the function that a definition is, but for its switches, which are found at the end
abbrev pub definition : List Item → List ℕ → CType → List Param → Line → Scope → Found program_function.Function
definition items name result params b s =
    let attributed = is_attributed items name in
    and_then (parameters params (function_entered attributed s)) (λ p.
    and_then (body result b p) (λ d. Good (function_found name attributed result (length params) d)))

abbrev pub defined_as : Declarations → Option ℕ → Scope × program_function.Function → Declarations
defined_as c number f = record { scope = f.0; globals = c.globals; functions = slice_set c.functions (unwrap_or number 0) (Some f.1) }

abbrev pub defined_if : List Item → List ℕ → CType → List Param → Option Line → Declarations → Judged Declarations
defined_if items name result params None c = Good c
defined_if items name result params (Some b) c =
    and_then (definition items name result params b c.scope) (λ f. Good (defined_as c (function_number items name) f))

-- a declarator of a function, and its block if one follows
abbrev pub routine : List Item → Declarator → List ℕ → CType → (signature : ℕ) → Option Line → Declarations → Judged Declarations
routine items d name result signature b c =
    let s = routine_named items name signature c.scope in
    and_then (given value_judgement d.initial s) (λ g.
    and_then
    (concluded d.place c.scope (node.Routine name signature (is_defined_at c.functions (function_number items name)) (is_given g) (is_some b)) (behind s c))
    (defined_if items name result (params_of d) b))

-- ---- declarators and declarations

abbrev pub by_form : List Item → Base → Option Attribution → Option Line → Declarator → List ℕ → Declarations → Declared → Judged Declarations
by_form items base a b d name c (Function signature) = routine items d name base.ctype signature b c
by_form items base a b d name c e = object items d name e (domain (declares_pointer d) c.scope base.enumeration a) (is_some b) c

-- the values of an object are constants
abbrev pub value_of_form : Declared → Scope → Node → Judged Expr
value_of_form (Function signature) = value_judgement
value_of_form e = constant_expression

abbrev pub nameless : Declarator → Declared → Declarations → Judged Declarations
nameless d e c = and_then (given (value_of_form e) d.initial c.scope) (λ g. concluded d.place c.scope node.Nameless c)

abbrev pub by_name : List Item → Base → Option Attribution → Option Line → Declarator → Declared → Option (List ℕ) → Declarations → Judged Declarations
by_name items base a b d e None c = nameless d e c
by_name items base a b d e (Some name) c = by_form items base a b d name c e

-- the parameters of a declarator that a block follows are judged as those of a function that is defined
abbrev pub defined_parameters : Declarator → Option Line → Scope → Judged Scope
defined_parameters d None s = Good s
defined_parameters d (Some b) s = and_then (parameters (params_of d) (function_entered false s)) (λ p. Good (function_left p))

-- A declarator at file scope. An object is `const` where one of its declarations says so.
abbrev pub declarator : List Item → Base → Option Line → Declarator → Declarations → Judged Declarations
declarator items base b d c =
    and_then (defined_parameters d b c.scope) (λ s.
    and_then (declared_as d.shape base.ctype (is_constant_object items (name_of d)) s) (λ e.
    and_then (attributes (bearer (is_constant_object items (name_of d)) d ∷ []) (scalar_kind base.ctype) e.0 d.marks base.attribute) (λ a.
    by_name items base a b d e.1 d.name (behind e.0 c))))

abbrev pub declares_nothing : Item → Bool
declares_nothing i = is_empty i.names && is_empty (out-Specs i.specs).tags

abbrev pub item : List Item → Item → Declarations → Judged Declarations
item items i c =
    and_then (specifiers false (bearers items (out-Specs i.specs).fixed i.names) i.specs c.scope) (λ b.
    and_then (concluded (out-Specs i.specs).place b.0 (node.Declaration (declares_nothing i)) (behind b.0 c))
    (in_order (declarator items b.1 i.body) i.names))

-- ---- the program

abbrev pub switch_of : (global : ℕ) → Option (List ℕ) → List Switch
switch_of n None = []
switch_of n (Some values) = record { global = n; values = values } ∷ []

-- the globals that have a domain, from the one with this number on
abbrev pub switches_from : ℕ → List Global → List Switch
switches_from n [] = []
switches_from n (g ∷ gs) = switch_of n g.domain ++ switches_from (suc n) gs

abbrev pub global_of : Global → program_global.Global
global_of g = record { name = g.name; ctype = g.ctype; size = g.size; first = unwrap_or g.words [] }

module _ {A : Type 0} where
  abbrev pub those_there : List (Option A) → List A
  those_there [] = []
  those_there (None ∷ xs) = those_there xs
  those_there (Some x ∷ xs) = x ∷ those_there xs

-- an attributed function has the switches that it names
abbrev pub with_switches : List Switch → program_function.Function → program_function.Function
with_switches switches f = record f { switches = if f.attributed then switches_named switches f.body else [] }

abbrev pub program : List Item → Declarations → (main : ℕ) → Program
program items c main =
    let switches = switches_from 0 c.globals in
    record {
      signatures = c.scope.signatures;
      globals = map global_of c.globals;
      functions = map (with_switches switches) (those_there c.functions);
      switches = switches;
      pointers = pointer_globals items;
      main = main;
    }

abbrev pub is_main_type : Option Signature → Bool
is_main_type None = false
is_main_type (Some t) = same_signature t (record { result = int; params = [] })

-- the number of `main`, if it is defined, has no parameters and gives `int`
abbrev pub main_number : List Signature → Option Meaning → Option ℕ
main_number signatures (Some (meaning.Function f)) = if is_main_type (slice_get signatures f.signature) then f.number else None
main_number signatures _ = None

abbrev pub unit_end : List Item → Place → Declarations → Judged Program
unit_end items place c =
    let main = main_number c.scope.signatures (meaning_here c.scope (codes "main")) in
    concluded place c.scope (node.End main) (program items c (unwrap_or main 0))

-- The program of a unit that breaks no rule, or the first place at which a rule is broken and the least rule that is broken there.
unfoldable pub judged_by_rules : tree.Unit → Judged Program
judged_by_rules u = and_then (in_order (item u.items) u.items (none_declared u.items)) (unit_end u.items u.end)
