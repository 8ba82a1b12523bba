-- What the parts of declarations are found to be, in the order of the text, and in which scope each is judged (C11 6.7).
use Rattle.std.specs.Prelude.{ℕ, Bool, true, false, ◌&&◌, ◌||◌, not, nat_eq, nat_lt, is_some, unwrap_or, if◌then◌else◌, List, [], ◌∷◌, ◌++◌, map, length, Option, Some, None}
use Rattle.std.specs.List.{list_any}
use Rattle.mv_num.specs.declared.kind.Kind.{Kind}
use Rattle.mv_syntax.specs.declared.place.Place.{Place}
use Rattle.mv_ast.specs.declared.program.CType.{CType}
use Rattle.mv_ast.specs.declared.program.CType.TheVariants as ctype
use Rattle.mv_ast.specs.declared.program.Expr.{Expr}
use Rattle.mv_ast.specs.declared.program.Local.{Local}
use Rattle.mv_ast.specs.declared.program.Signature.{Signature}
use Rattle.mv_ast.specs.declared.program.Stmt.{Stmt}
use Rattle.mv_ast.specs.declared.program.Stmt.TheVariants as stmt
use Rattle.mv_syntax.specs.declared.unit.Declarator.{Declarator, Declarator-F}
use Rattle.mv_syntax.specs.declared.unit.EnumSpec.{EnumSpec, out-EnumSpec}
use Rattle.mv_syntax.specs.declared.unit.Initial.{Initial}
use Rattle.mv_syntax.specs.declared.unit.Initial.TheVariants as initial
use Rattle.mv_syntax.specs.declared.unit.Mark.{Mark, out-Mark}
use Rattle.mv_syntax.specs.declared.unit.Member.{Member, out-Member}
use Rattle.mv_syntax.specs.declared.unit.Node.{Node}
use Rattle.mv_syntax.specs.declared.unit.Param.{Param, Param-F}
use Rattle.mv_syntax.specs.declared.unit.Shape.{Shape, Shape-F, fold-Shape}
use Rattle.mv_syntax.specs.declared.unit.Shape.TheOpen as shape
use Rattle.mv_syntax.specs.declared.unit.Specs.{Specs, out-Specs}
use Rattle.mv_check_scope.specs.declared.meaning.Meaning.{Meaning}
use Rattle.mv_check_scope.specs.declared.meaning.Meaning.TheVariants as meaning
use Rattle.mv_check_scope.specs.declared.meaning.Storage.TheVariants as storage
use Rattle.mv_check_scope.specs.declared.scope.Scope.{Scope}
use Rattle.mv_check_scope.specs.Constants.{constant_value}
use Rattle.mv_check_scope.specs.Conversions.{converted_to}
use Rattle.mv_check_scope.specs.Scoped.{block_entered, block_left, declared, tag_of, tag_declared, with_local}
use Rattle.mv_check_scope.specs.Signatures.{place_of, with_signature}
use Rattle.mv_check_scope.specs.Spaces.{named}
use Rattle.mv_check_expressions.specs.declared.constant.Constant.{Constant}
use Rattle.mv_check_expressions.specs.Judged.{Judged, Good, and_then, each}
use Rattle.mv_check_expressions.specs.Judgements.{value_judgement}
use Rattle.mv_check_expressions.specs.TypeNames.{named_type}
use Rattle.mv_check_expressions.specs.TypeNames as names
use Rattle.mv_check_declarations.specs.Constants.{int_of, next_int}
use Rattle.mv_check_declarations.specs.Specifiers.{kind_of}
use Rattle.mv_check_declarations.specs.ValueSets.{with_member}
use Rattle.mv_check_rules.specs.Nodes.{Declared, Scalar, Array, Function, Given, Nothing, Value, Values, Characters, Enumeration, Undeclared, Again, Numbered, Bearer}
use Rattle.mv_check_rules.specs.Nodes as node
use Rattle.mv_check_rules.specs.Rules.{object_type, array_size, stands_here, concluded}

-- ---- parts behind one another

-- what a part is found to be, and the scope behind it
abbrev pub Found : Type 0 → Type 0
Found A = Judged (Scope × A)

module _ {S X : Type 0} (part : X → S → Judged S) where
  -- parts in their order, each judged in the state behind the one before it
  abbrev pub in_order : List X → S → Judged S
  in_order [] s = Good s
  in_order (x ∷ xs) s = and_then (part x s) (in_order xs)

module _ {X A : Type 0} (part : X → Scope → Found A) where
  abbrev pub found_next : X → Scope × List A → Judged (Scope × List A)
  found_next x s = and_then (part x s.0) (λ d. Good (d.0, s.1 ++ d.1 ∷ []))

  -- what parts are found to be
  abbrev pub all_found : List X → Scope → Found (List A)
  all_found xs s = in_order found_next xs (s, [])

-- ---- constants

abbrev pub constant_of : Scope → Node → Expr → Judged Constant
constant_of scope n e = concluded n.place scope (node.Needed (constant_value e)) (record { value = unwrap_or (constant_value e) 0; ctype = e.ctype })

-- an expression where a constant is needed
abbrev pub constant : Scope → Node → Judged Constant
constant scope n = and_then (value_judgement scope n) (constant_of scope n)

-- ---- enums (C11 6.7.2.2)

-- the `int` that an enumerator is given, or else the one that follows its predecessor's
abbrev pub enumerator_value : Scope → Option ℕ → Option Node → Judged (Option ℕ)
enumerator_value scope following None = Good following
enumerator_value scope following (Some n) = and_then (constant scope n) (λ c. Good (int_of c))

-- enumerators so far: the scope behind them, the `int` that follows the last, and their values
pub record Enumerators : Type 0 where
  pub scope : Scope
  pub following : Option ℕ
  pub values : List ℕ

abbrev pub with_enumerator : Enumerators → List ℕ → ℕ → Enumerators
with_enumerator e name v =
    record { scope = declared e.scope name (meaning.Enumerator v); following = next_int v; values = e.values ++ v ∷ [] }

abbrev pub enumerator : Member → Enumerators → Judged Enumerators
enumerator m e =
    let f = out-Member m in
    and_then (enumerator_value e.scope e.following f.value) (λ v.
    concluded f.place e.scope (node.Enumerator f.name v) (with_enumerator e f.name (unwrap_or v 0)))

abbrev pub number_of_tag : Option Meaning → Option ℕ
number_of_tag (Some (meaning.Tag n)) = Some n
number_of_tag _ = None

-- the enumeration that a tag names
abbrev pub enumeration_named : Option Meaning → Enumeration
enumeration_named None = Undeclared
enumeration_named (Some m) = Numbered (number_of_tag (Some m))

abbrev pub enumeration_without_list : Scope → Option (List ℕ) → Enumeration
enumeration_without_list scope None = Numbered None
enumeration_without_list scope (Some tag) = enumeration_named (tag_of scope tag)

abbrev pub with_enumeration : Scope → List ℕ → Scope
with_enumeration scope values = record scope { enumerations = scope.enumerations ++ values ∷ [] }

-- the next enumeration; its tag is declared behind its list, unless the innermost block has the tag
abbrev pub new_enumeration : Option (List ℕ) → Enumerators → Scope × Enumeration
new_enumeration None e = (with_enumeration e.scope e.values, Numbered (Some (length e.scope.enumerations)))
new_enumeration (Some tag) e =
    if is_some (named tag e.scope.tags.here) then (e.scope, Again)
    else (tag_declared (with_enumeration e.scope e.values) tag (meaning.Tag (length e.scope.enumerations)), Numbered (Some (length e.scope.enumerations)))

abbrev pub enumeration_of : Option (List ℕ) → Option (List Member) → Scope → Found Enumeration
enumeration_of tag None scope = Good (scope, enumeration_without_list scope tag)
enumeration_of tag (Some members) scope =
    and_then (in_order enumerator members (record { scope = scope; following = Some 0; values = [] })) (λ e. Good (new_enumeration tag e))

abbrev pub enumeration : EnumSpec → Scope → Found Enumeration
enumeration e scope = let f = out-EnumSpec e in enumeration_of f.tag f.members scope

-- ---- attributes

-- what an attribute gives: a list of values, or none
abbrev pub Attribution : Type 0
Attribution = Option (List ℕ)

abbrev pub is_switch : Bearer → Bool
is_switch node.Switch = true
is_switch _ = false

-- the type of the switches that an attribute makes, if it stands on such alone
abbrev pub switch_kind : List Bearer → Option Kind → Option Kind
switch_kind [] k = None
switch_kind (b ∷ bs) k = if list_any (λ x. not (is_switch x)) (b ∷ bs) then None else k

-- nothing is asked of a value in the list of an attribute that makes no switches
abbrev pub value_concluded : Option Kind → Place → Scope → List ℕ → Constant → Judged (List ℕ)
value_concluded None place scope before c = Good (with_member before c.value)
value_concluded (Some k) place scope before c = concluded place scope (node.DomainValue k before c) (before ++ c.value ∷ [])

-- a value in the list of an attribute, behind others
abbrev pub listed_value : Option Kind → Scope → Node → List ℕ → Judged (List ℕ)
listed_value k scope n before = and_then (constant scope n) (value_concluded k n.place scope before)

abbrev pub attribution : Option Kind → Scope → Option (List Node) → Judged Attribution
attribution k scope None = Good None
attribution k scope (Some ns) = and_then (in_order (listed_value k scope) ns []) (λ vs. Good (Some vs))

-- an attribute on these, behind one that holds for them already
abbrev pub attribute : List Bearer → Option Kind → Scope → Mark → Option Attribution → Judged (Option Attribution)
attribute bearers k scope m before =
    let f = out-Mark m in
    and_then (attribution (switch_kind bearers k) scope f.values) (λ a.
    concluded f.place scope (node.Attribute bearers (is_some before) (is_some a)) (Some a))

abbrev pub attributes : List Bearer → Option Kind → Scope → List Mark → Option Attribution → Judged (Option Attribution)
attributes bearers k scope = in_order (attribute bearers k scope)

-- ---- specifiers

-- The enums and the attributes of a declaration in the order of the text. The tree keeps them apart, each with its place: those attributes come before
-- an enum that stand before its list, where its parts are.
pub data Specifier : Type 0 where
  Enum : EnumSpec → Specifier
  Attribute : Mark → Specifier

abbrev pub is_before : Place → Place → Bool
is_before p q = nat_lt p.line q.line || (nat_eq p.line q.line && nat_lt p.column q.column)

abbrev pub is_before_list : Place → Option (List Member) → Bool
is_before_list place (Some (first ∷ rest)) = is_before place (out-Member first).place
is_before_list place _ = false

abbrev pub stands_before : Mark → EnumSpec → Bool
stands_before m e = is_before_list (out-Mark m).place (out-EnumSpec e).members

abbrev pub specifiers_in_order : List EnumSpec → List Mark → List Specifier
specifiers_in_order [] ms = map Attribute ms
specifiers_in_order (e ∷ es) [] = map Enum (e ∷ es)
specifiers_in_order (e ∷ es) (m ∷ ms) =
    if stands_before m e then Attribute m ∷ specifiers_in_order (e ∷ es) ms else Enum e ∷ specifiers_in_order es (m ∷ ms)

-- specifiers so far: the scope behind them, the enums, and the attribute that holds
pub record Specified : Type 0 where
  pub scope : Scope
  pub enums : List Enumeration
  pub attribute : Option Attribution

abbrev pub specifier : List Bearer → Option Kind → Specifier → Specified → Judged Specified
specifier bearers k (Enum e) x =
    and_then (enumeration e x.scope) (λ d. Good (record { scope = d.0; enums = x.enums ++ d.1 ∷ []; attribute = x.attribute }))
specifier bearers k (Attribute m) x =
    and_then (attribute bearers k x.scope m x.attribute) (λ a. Good (record { scope = x.scope; enums = x.enums; attribute = a }))

-- what specifiers say of the declarators behind them
pub record Base : Type 0 where
  pub ctype : CType
  pub constant : Bool
  pub enumeration : Option ℕ
  pub attribute : Option Attribution

abbrev pub number_of_enumeration : Enumeration → Option ℕ
number_of_enumeration (Numbered n) = n
number_of_enumeration _ = None

-- that of the last
abbrev pub last_number : List Enumeration → Option ℕ
last_number [] = None
last_number (e ∷ []) = number_of_enumeration e
last_number (e ∷ next ∷ es) = last_number (next ∷ es)

abbrev pub type_of_words : Specs → Option CType
type_of_words specs = let f = out-Specs specs in named_type (length f.tags) f.words

-- the integer type that specifiers name, where their tags are declared
abbrev pub kind_named : Scope → Specs → Option Kind
kind_named scope specs = kind_of (names.type_of scope specs)

abbrev pub base_of : Specs → Specified → Scope × Base
base_of specs x = (
  x.scope,
  record {
    ctype = unwrap_or (type_of_words specs) ctype.Void;
    constant = (out-Specs specs).fixed;
    enumeration = last_number x.enums;
    attribute = x.attribute;
  },
)

-- where `static` may not stand, it is misplaced
abbrev pub specifiers : (local : Bool) → List Bearer → Specs → Scope → Found Base
specifiers local bearers specs scope =
    let f = out-Specs specs in
    and_then
    (in_order (specifier bearers (kind_named scope specs)) (specifiers_in_order f.tags f.marks) (record { scope = scope; enums = []; attribute = None }))
    (λ x. concluded f.place x.scope (node.Specifiers (f.hidden && local) x.enums (type_of_words specs)) (base_of specs x))

-- ---- types of functions, and parameters (C11 6.7.6.3)

-- the number of a function's type, which is declared by its first use
abbrev pub numbered : Signature → Scope → Scope × ℕ
numbered t s = (record s { signatures = with_signature t s.signatures }, place_of t s.signatures)

abbrev pub function_type : CType → Scope × List CType → Scope × ℕ
function_type result d = numbered (record { result = result; params = d.1 }) (block_left d.0)

-- what the parts of declarators are found to be, behind the type that specifiers name and whether `const` is among them
abbrev pub Shapes : Type 0
Shapes = CType → Bool → Scope → Found Declared

abbrev pub Declarators : Type 0
Declarators = Base → Scope → Found CType

abbrev pub Params : Type 0
Params = Scope → Found CType

-- parameters have a scope of their own
abbrev pub parameter_types : List Params → Scope → Found (List CType)
parameter_types params scope = all_found (λ p. p) params (block_entered scope)

abbrev pub written_size : Scope → Option Node → Judged (Option Constant)
written_size scope None = Good None
written_size scope (Some n) = and_then (constant scope n) (λ c. Good (Some c))

abbrev pub shape_step : Shape-F Shapes Declarators Params → Shapes
shape_step shape.Plain t fixed s = Good (s, Scalar t fixed)
shape_step (shape.Array size) t fixed s = and_then (written_size s size) (λ n. Good (s, Array t fixed n))
shape_step (shape.Function params) t fixed s =
    and_then (parameter_types params s) (λ d. let f = function_type t d in Good (f.0, Function f.1))
shape_step (shape.Pointer constant params) t fixed s =
    and_then (parameter_types params s) (λ d. let f = function_type t d in Good (f.0, Scalar (ctype.Pointer f.1) constant))
shape_step (shape.PointerArray constant size params) t fixed s =
    and_then (written_size s size) (λ n.
    and_then (parameter_types params s) (λ d. let f = function_type t d in Good (f.0, Array (ctype.Pointer f.1) constant n)))

abbrev pub type_or_void : Declared → CType
type_or_void d = unwrap_or (object_type d) ctype.Void

abbrev pub is_constant : Declared → Bool
is_constant (Scalar t constant) = constant
is_constant (Array t constant size) = constant
is_constant (Function signature) = false

-- of a parameter of a function's type only the type is ever asked for
abbrev pub parameter_declared : Option (List ℕ) → Declared → Scope → Scope
parameter_declared None d s = s
parameter_declared (Some name) d s =
    declared s name (meaning.Object (record { storage = storage.Local 0; ctype = type_or_void d; fixed = is_constant d; switch = None }))

abbrev pub declarator_step : Declarator-F Shapes Declarators Params → Declarators
declarator_step d base s =
    and_then (d.shape base.ctype base.constant s) (λ e.
    and_then (attributes (node.Parameter ∷ []) None e.0 d.marks base.attribute) (λ a.
    concluded d.place e.0 (node.Parameter false d.name e.1) (parameter_declared d.name e.1 e.0, type_or_void e.1)))

abbrev pub param_step : Param-F Shapes Declarators Params → Params
param_step p s = and_then (specifiers true (node.Parameter ∷ []) p.specs s) (λ d. p.name d.1 d.0)

-- what a name is declared to be, by the type of the specifiers and whether `const` is among them
abbrev pub declared_as : Shape → Shapes
declared_as = fold-Shape Shapes Declarators Params shape_step declarator_step param_step

-- ---- parameters of a function that is defined, which are its first locals (C11 6.9.1)

abbrev pub local_of : CType → Option ℕ → Local
local_of t size = record { ctype = t; size = size }

abbrev pub named_or_empty : Option (List ℕ) → List ℕ
named_or_empty name = unwrap_or name []

abbrev pub scalar_here : ℕ → CType → Bool → Meaning
scalar_here n t fixed = meaning.Object (record { storage = storage.Local n; ctype = t; fixed = fixed; switch = None })

abbrev pub defined_parameter : Option (List ℕ) → Declared → Scope → Scope
defined_parameter name d s =
    declared (with_local s (local_of (type_or_void d) None)) (named_or_empty name) (scalar_here (length s.locals) (type_or_void d) (is_constant d))

abbrev pub parameter : Param → Scope → Judged Scope
parameter p s =
    and_then (specifiers true (node.Parameter ∷ []) p.specs s) (λ b.
    and_then (declared_as p.name.shape b.1.ctype b.1.constant b.0) (λ e.
    and_then (attributes (node.Parameter ∷ []) None e.0 p.name.marks b.1.attribute) (λ a.
    concluded p.name.place e.0 (node.Parameter true p.name.name e.1) (defined_parameter p.name.name e.1 e.0))))

abbrev pub parameters : List Param → Scope → Judged Scope
parameters = in_order parameter

-- ---- initial values (C11 6.7.9)

-- an initial value's expressions, each judged in the same way
module _ (expression : Scope → Node → Judged Expr) where
  abbrev pub given : Option Initial → Scope → Judged Given
  given None s = Good Nothing
  given (Some (initial.Value n)) s = and_then (expression s n) (λ e. Good (Value e))
  given (Some (initial.Values ns)) s = and_then (each (map (expression s) ns)) (λ es. Good (Values es))
  given (Some (initial.Chars bytes)) s = Good (Characters bytes)

abbrev pub expressions_of : Given → List Expr
expressions_of Nothing = []
expressions_of (Value e) = e ∷ []
expressions_of (Values es) = es
expressions_of (Characters bytes) = []

-- ---- declarations in a block

abbrev pub local_size : Declared → Given → Option ℕ
local_size (Array t constant size) g = Some (array_size size g)
local_size _ g = None

-- The next local has the name, unless the innermost block has it already. A function in a block declares nothing.
abbrev pub local_meaning : Scope → Declared → Option Meaning
local_meaning s (Scalar t constant) = Some (scalar_here (length s.locals) t constant)
local_meaning s (Array t constant size) = Some (meaning.Array (record { storage = storage.Local (length s.locals); ctype = t; fixed = constant }))
local_meaning s (Function signature) = None

abbrev pub named_unless : Bool → Scope → List ℕ → Option Meaning → Scope
named_unless taken s name None = s
named_unless taken s name (Some m) = if taken then s else declared s name m

-- the scope of a local's own initial value: a name that is new means the local
abbrev pub local_named : Scope → Option (List ℕ) → Declared → Scope
local_named s None d = s
local_named s (Some name) d = named_unless (stands_here s name) s name (local_meaning s d)

-- the statement that clears a local and gives it its values, and the scope behind it
abbrev pub local_found : Scope → Scope → Declared → Given → Scope × Stmt
local_found before s d g =
    (with_local s (local_of (type_or_void d) (local_size d g)), stmt.Clear (length before.locals) (map (converted_to (type_or_void d)) (expressions_of g)))

abbrev pub local_node : Option (List ℕ) → Declared → Given → node.Node
local_node None d g = node.Nameless
local_node (Some name) d g = node.Local name d g

abbrev pub local : CType → Bool → Declarator → Scope → Found Stmt
local t fixed d s =
    and_then (declared_as d.shape t fixed s) (λ e.
    and_then (attributes (node.LocalObject ∷ []) None e.0 d.marks None) (λ a.
    let own = local_named e.0 d.name e.1 in
    and_then (given value_judgement d.initial own) (λ g. concluded d.place e.0 (local_node d.name e.1 g) (local_found e.0 own e.1 g))))

-- a declaration in a block, as the statements that clear its locals and give them their values
abbrev pub local_declaration : Scope → Specs → List Declarator → Found (List Stmt)
local_declaration s specs ds = and_then (specifiers true (map (λ d. node.LocalObject) ds) specs s) (λ b. all_found (local b.1.ctype b.1.constant) ds b.0)
